use Rattle.std.proofs.Common.{rules, eqb, ◌∙◌}
use Rattle.events.specs.Rules.{numbered_at}
use Rattle.events.proofs.Loops.{walks_keep, onward_eq}
use Rattle.events.proofs.rules.numbers_run.Goals as goal

pub returns : goal.returns
returns c =
    let k = walks_keep numbered_at (λ k. eqb k c.args.count) _ (λ s x o p. search rules) 0 c.args.events.now c.highest_after.result c.highest_after.ensures in
    c.eq.ensures ∙ onward_eq c.args.count c.highest_after.result ∙ k
