use Rattle.std.proofs.Common.{sym, ap, ◌∙◌, arith}
use Rattle.std.proofs.lemmas.Result.{err_from_is_err_and}
use Rattle.fragment.specs.Sources.{score_in}
use Rattle.fragment.specs.Handed.{work}
use Rattle.fragment.proofs.Walks.{at_end, closes_again, exit_alias, exit_event, exit_inner, may_walk, on_event, on_inner}
use Rattle.fragment.proofs.unfolding.Unfolding.+walk.Goals as goal
use Rattle.fragment.proofs.unfolding.Unfolding.+walk.Goals.{then-is_alias+in_ok-meet_alias+in_ok-walk, else-is_alias+in_ok-meet_event}

pub returns-in_err-meet_alias : goal.returns-in_err-meet_alias
returns-in_err-meet_alias t c =
    let p = err_from_is_err_and c.from_residual.result c.from_residual.ensures.1 in
    record { unfolds_the_range = rw (p.1, p.2) (exit_alias c.args.source.now c.args.slate.now (omega arith) c.args.depth c.args.range c.requires.inside (work c.args.self.now) c.loop-place.place c.loop-place.slate (work c.loop-place.self) c.loop-place.invariant.0 c.loop-place-test.true (sym c.if-is_alias.ensures) c.in_err-meet_alias.field-0.0 (work c.meet_alias.new.self) c.in_err-meet_alias.ensures.steps); closes_what_it_opened = rw p.1 tt; same_tape = c.meet_alias.ensures.same_tape ∙ c.loop-place.invariant.1.0; same_enforcer = c.meet_alias.ensures.same_enforcer ∙ c.loop-place.invariant.1.1 }

pub walk-requires : goal.walk-requires
walk-requires t c =
    let m = may_walk c.args.source.now c.args.slate.now (omega arith) c.args.depth c.args.range c.requires.inside (work c.args.self.now) c.loop-place.place c.loop-place.slate (work c.loop-place.self) c.loop-place.invariant.0 c.loop-place-test.true (sym c.if-is_alias.ensures) (work c.meet_alias.new.self) c.in_ok-meet_alias.ensures.steps t c.decreases c.requires.depth c.range-named.result c.range-named.ensures in
    (m.0, (m.1, m.2))

pub returns-in_err-walk : goal.returns-in_err-walk
returns-in_err-walk t c =
    let p = err_from_is_err_and c.from_residual-in_err-walk.result c.from_residual-in_err-walk.ensures.1 in
    record { unfolds_the_range = rw (p.1, p.2) (exit_inner c.args.source.now c.args.slate.now (omega arith) c.args.depth c.args.range c.requires.inside (work c.args.self.now) c.loop-place.place c.loop-place.slate (work c.loop-place.self) c.loop-place.invariant.0 c.loop-place-test.true (sym c.if-is_alias.ensures) (work c.meet_alias.new.self) c.in_ok-meet_alias.ensures.steps c.range-named.result c.range-named.ensures c.in_err-walk.field-0.0 (work c.walk.new.self) c.in_err-walk.ensures.unfolds_the_range); closes_what_it_opened = rw p.1 tt; same_tape = c.walk.ensures.same_tape ∙ c.meet_alias.ensures.same_tape ∙ c.loop-place.invariant.1.0; same_enforcer = c.walk.ensures.same_enforcer ∙ c.meet_alias.ensures.same_enforcer ∙ c.loop-place.invariant.1.1 }

pub returns-in_err-meet_event : goal.returns-in_err-meet_event
returns-in_err-meet_event t c =
    let p = err_from_is_err_and c.from_residual-in_err-meet_event.result c.from_residual-in_err-meet_event.ensures.1 in
    record { unfolds_the_range = rw (p.1, p.2) (exit_event c.args.source.now c.args.slate.now (omega arith) c.args.depth c.args.range c.requires.inside (work c.args.self.now) c.loop-place.place c.loop-place.slate (work c.loop-place.self) c.loop-place.invariant.0 c.loop-place-test.true (sym c.if-is_alias.ensures) c.in_err-meet_event.field-0.0 (work c.meet_event.new.self) c.in_err-meet_event.ensures.steps); closes_what_it_opened = rw p.1 tt; same_tape = c.meet_event.ensures.same_tape ∙ c.loop-place.invariant.1.0; same_enforcer = c.meet_event.ensures.same_enforcer ∙ c.loop-place.invariant.1.1 }

pub loop-place-preserved : goal.loop-place-preserved
loop-place-preserved t c =
    elim c.if-is_alias.branch [ then-is_alias+in_ok-meet_alias+in_ok-walk w ↦ let q = w.in_ok-meet_alias.ensures.steps in ((w.slate-is ∙ closes_again c.args.source.now c.args.slate.now (omega arith) c.args.depth c.args.range c.requires.inside (work c.args.self.now) c.loop-place.place c.loop-place.slate (work c.loop-place.self) c.loop-place.invariant.0 c.loop-place-test.true (sym w.if-is_alias.ensures) (work w.meet_alias.new.self) q w.walk.new.slate w.in_ok-walk.ensures.closes_what_it_opened, (on_inner c.args.source.now c.args.slate.now (omega arith) c.args.depth c.args.range c.requires.inside (work c.args.self.now) c.loop-place.place c.loop-place.slate (work c.loop-place.self) c.loop-place.invariant.0 c.loop-place-test.true (sym w.if-is_alias.ensures) (work w.meet_alias.new.self) q w.range-named.result w.range-named.ensures (work w.walk.new.self) (work c.if-is_alias.self) w.in_ok-walk.ensures.unfolds_the_range (sym (ap work w.self-is)))), (ap (λ u. u.tape.ghost_name) w.self-is ∙ w.walk.ensures.same_tape ∙ w.meet_alias.ensures.same_tape ∙ c.loop-place.invariant.1.0, ap (λ u. u.enforcer.ghost_name) w.self-is ∙ w.walk.ensures.same_enforcer ∙ w.meet_alias.ensures.same_enforcer ∙ c.loop-place.invariant.1.1)) | else-is_alias+in_ok-meet_event w ↦ ((w.slate-is ∙ c.loop-place.invariant.0.0, (on_event c.args.source.now c.args.slate.now (omega arith) c.args.depth c.args.range c.requires.inside (work c.args.self.now) c.loop-place.place c.loop-place.slate (work c.loop-place.self) c.loop-place.invariant.0 c.loop-place-test.true (sym w.if-is_alias.ensures) (work w.meet_event.new.self) (work c.if-is_alias.self) w.in_ok-meet_event.ensures.steps (sym (ap work w.self-is)))), (ap (λ u. u.tape.ghost_name) w.self-is ∙ w.meet_event.ensures.same_tape ∙ c.loop-place.invariant.1.0, ap (λ u. u.enforcer.ghost_name) w.self-is ∙ w.meet_event.ensures.same_enforcer ∙ c.loop-place.invariant.1.1)) ]

pub returns : goal.returns
returns t c =
    record { unfolds_the_range = at_end (score_in c.args.source.now) c.args.slate.now c.args.depth c.args.range (work c.args.self.now) c.loop-place.place (work c.loop-place.self) c.loop-place.invariant.0.1 c.loop-place-test.false; closes_what_it_opened = c.loop-place.invariant.0.0; same_tape = c.loop-place.invariant.1.0; same_enforcer = c.loop-place.invariant.1.1 }
