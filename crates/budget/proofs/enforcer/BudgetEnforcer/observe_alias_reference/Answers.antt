use Rattle.std.proofs.Common.{ap, rules}
use Rattle.budget.specs.Observed.{reference}
use Rattle.budget.proofs.Observations.{breach_for_ever, good_counts}
use Rattle.budget.proofs.enforcer.BudgetEnforcer.observe_alias_reference.Goals as goal

pub returns-in-Some-clause-a_breach_is_answered_for_ever : goal.returns-in-Some-clause-a_breach_is_answered_for_ever
returns-in-Some-clause-a_breach_is_answered_for_ever c = breach_for_ever c.args.self.now reference _ _ (search rules) (search rules)

pub returns-clause-a_breach_is_answered_for_ever : goal.returns-clause-a_breach_is_answered_for_ever
returns-clause-a_breach_is_answered_for_ever c = breach_for_ever c.args.self.now reference _ _ (search rules) (search rules)

pub returns-clause-a_good_answer_counts_exactly : goal.returns-clause-a_good_answer_counts_exactly
returns-clause-a_good_answer_counts_exactly c =
    good_counts c.self.inside.limits c.args.self.now (ap (λ m. m.budget) c.self.view_is) reference _ _ (search rules) (search rules)
