use Rattle.std.proofs.lemmas.Result.{err_from_is_err_and}
use Rattle.fragment.specs.Ended.{ended}
use Rattle.fragment.specs.Handed.{work}
use Rattle.fragment.specs.Sources.{score_in}
use Rattle.fragment.specs.Unfolding.{Work}
use Rattle.fragment.specs.View.{counting}
use Rattle.fragment.proofs.AliasSteps.{breached, many, often, last}
use Rattle.fragment.proofs.unfolding.Unfolding.meet_alias.Goals as goal

pub returns-in_err-refer-clause-steps : goal.returns-in_err-refer-clause-steps
returns-in_err-refer-clause-steps c =
    let p = err_from_is_err_and c.from_residual-in_err-refer.result c.from_residual-in_err-refer.ensures.1 in
    let w = work c.args.self.now in
    let v : Work = counting w.tape c.charge_alias.new.self w.enforcer in
    rw (p.1, p.2) (breached (score_in c.args.source.now) c.args.slate.now c.args.depth c.args.number.number w v (c.in_ok-try_closed.ensures w) (c.charge_alias.ensures w.tape w.enforcer) c.in_err-refer.field-0.0 (work c.refer.new.self) c.in_err-refer.ensures.steps)

pub returns-in_err-judge_aliases-clause-steps : goal.returns-in_err-judge_aliases-clause-steps
returns-in_err-judge_aliases-clause-steps c =
    let p = err_from_is_err_and c.from_residual-in_err-judge_aliases.result c.from_residual-in_err-judge_aliases.ensures.1 in
    let w = work c.args.self.now in
    let v : Work = counting w.tape c.charge_alias.new.self w.enforcer in
    let u = work c.refer.new.self in
    rw (p.1, p.2) (many (score_in c.args.source.now) c.args.slate.now c.args.depth c.args.number.number w v (c.in_ok-try_closed.ensures w) (c.charge_alias.ensures w.tape w.enforcer) u c.in_ok-refer.ensures.steps c.in_err-judge_aliases.field-0.0 u (c.in_err-judge_aliases.ensures u.tape u.enforcer))

pub returns-in_err-count_expansion-clause-steps : goal.returns-in_err-count_expansion-clause-steps
returns-in_err-count_expansion-clause-steps c =
    let p = err_from_is_err_and c.from_residual-in_err-count_expansion.result c.from_residual-in_err-count_expansion.ensures.1 in
    let w = work c.args.self.now in
    let v : Work = counting w.tape c.charge_alias.new.self w.enforcer in
    let u = work c.refer.new.self in
    let x : Work = counting u.tape c.count_expansion.new.self u.enforcer in
    rw (p.1, p.2) (often (score_in c.args.source.now) c.args.slate.now c.args.depth c.args.number.number w v (c.in_ok-try_closed.ensures w) (c.charge_alias.ensures w.tape w.enforcer) u c.in_ok-refer.ensures.steps (c.in_ok-judge_aliases.ensures u.tape u.enforcer) c.in_err-count_expansion.field-0.0 x (c.in_err-count_expansion.ensures u.tape u.enforcer))

pub returns-clause-steps : goal.returns-clause-steps
returns-clause-steps c =
    let w = work c.args.self.now in
    let v : Work = counting w.tape c.charge_alias.new.self w.enforcer in
    let u = work c.refer.new.self in
    let x : Work = counting u.tape c.count_expansion.new.self u.enforcer in
    last (score_in c.args.source.now) c.args.slate.now c.args.depth c.args.number.number w v (c.in_ok-try_closed.ensures w) (c.charge_alias.ensures w.tape w.enforcer) u c.in_ok-refer.ensures.steps (c.in_ok-judge_aliases.ensures u.tape u.enforcer) (ended c.judge_depth.result x) x (c.in_ok-count_expansion.ensures u.tape u.enforcer) (c.judge_depth.ensures x)
