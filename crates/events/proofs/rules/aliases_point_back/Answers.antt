use Rattle.std.proofs.Common.{rules, true, ◌∙◌}
use Rattle.events.specs.Rules.{named_at}
use Rattle.events.proofs.Loops.{walks_keep, onward_some}
use Rattle.events.proofs.rules.aliases_point_back.Goals as goal

pub returns : goal.returns
returns c =
    let k = walks_keep named_at (λ _. true) _ (λ s x o p. search rules) 0 c.args.events.now c.highest_after.result c.highest_after.ensures in
    c.is_some.ensures ∙ onward_some c.highest_after.result ∙ k
