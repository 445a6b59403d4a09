use Rattle.std.proofs.Common.{◌-◌, take, set, ap, ◌∙◌}
use Rattle.fragment.specs.Handed.{work}
use Rattle.fragment.specs.Slate.{opened}
use Rattle.fragment.specs.Sources.{score_in}
use Rattle.fragment.specs.View.{counts, score_of}
use Rattle.fragment.proofs.Answering.{deep_enough, err_answer, ok_answer}
use Rattle.fragment.proofs.unfolding.Unfolding.unfold_target.Goals as goal

pub range-range-requires : goal.range-range-requires
range-range-requires c =
    c.new-source.ensures.each_number_has_a_range c.args.target c.requires.target.0 c.requires.target.1

pub walk-done-requires : goal.walk-done-requires
walk-done-requires c =
    let k = c.new-source.ensures.each_number_has_a_range c.args.target c.requires.target.0 c.requires.target.1 in
    record { inside = rw c.range-range.ensures k.closes; depth = rw c.requires.all_closed (deep_enough c.args.target k.least k.most) }

pub returns-in-Ok-clause-unfolds_the_target : goal.returns-in-Ok-clause-unfolds_the_target
returns-in-Ok-clause-unfolds_the_target c = ok_answer (score_of c.args.sound c.args.limits.now) (score_in c.new-source.result) c.args.target c.args.self.now.tape.now c.args.self.now.tally.charges c.args.self.now.enforcer.now (set c.args.slate.now (c.args.target - 1) 1) (counts c.args.self.now.tally) c.range-range.result c.new-source.ensures.is_the_score_of_the_piece (ap (opened c.args.target) c.requires.all_closed) c.requires.begun c.range-range.ensures (work c.walk-done.new.self) c.in-Ok.ensures.unfolds_the_range c.passage.result c.passage.ensures

pub returns-in-Ok-clause-leaves_all_closed : goal.returns-in-Ok-clause-leaves_all_closed
returns-in-Ok-clause-leaves_all_closed c = c.drop-guard.ensures.leaves_all_closed

pub returns-clause-unfolds_the_target : goal.returns-clause-unfolds_the_target
returns-clause-unfolds_the_target c = err_answer (score_of c.args.sound c.args.limits.now) (score_in c.new-source.result) c.args.target c.args.self.now.tape.now c.args.self.now.tally.charges c.args.self.now.enforcer.now (set c.args.slate.now (c.args.target - 1) 1) (counts c.args.self.now.tally) c.range-range.result c.new-source.ensures.is_the_score_of_the_piece (ap (opened c.args.target) c.requires.all_closed) c.requires.begun c.range-range.ensures c.in-Err.refusal (work c.walk-done.new.self) c.in-Err.ensures.unfolds_the_range c.cut.new.self (c.cut.ensures.keeps_the_first ∙ ap (λ n. take n c.walk-done.new.self.tape.now) c.len-before.ensures.is_the_count_of_places_written)

pub returns-clause-leaves_all_closed : goal.returns-clause-leaves_all_closed
returns-clause-leaves_all_closed c = c.drop-guard-2.ensures.leaves_all_closed
