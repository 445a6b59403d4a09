use Rattle.std.proofs.Common.{ap, rules}
use Rattle.budget.specs.Observed.{event}
use Rattle.budget.specs.Seeing.{seen}
use Rattle.budget.proofs.Observations.{alternating, breach_for_ever, good_counts, good_within}
use Rattle.budget.proofs.enforcer.BudgetEnforcer.observe.Goals as goal

pub returns-in-Some-clause-a_breach_is_answered_for_ever : goal.returns-in-Some-clause-a_breach_is_answered_for_ever
returns-in-Some-clause-a_breach_is_answered_for_ever c = breach_for_ever c.args.self.now (event (seen c.args.event)) _ _ (search rules) (search rules)

pub returns-in-Some-clause-key_and_value_alternate : goal.returns-in-Some-clause-key_and_value_alternate
returns-in-Some-clause-key_and_value_alternate c = alternating c.self.inside.limits c.args.self.now (ap (λ m. m.budget) c.self.view_is)

pub returns-clause-a_breach_is_answered_for_ever : goal.returns-clause-a_breach_is_answered_for_ever
returns-clause-a_breach_is_answered_for_ever c = breach_for_ever c.args.self.now (event (seen c.args.event)) _ _ (search rules) (search rules)

pub returns-clause-a_good_answer_counts_exactly : goal.returns-clause-a_good_answer_counts_exactly
returns-clause-a_good_answer_counts_exactly c =
    good_counts c.self.inside.limits c.args.self.now (ap (λ m. m.budget) c.self.view_is) (event (seen c.args.event)) _ _ (search rules) (search rules)

pub returns-clause-a_good_answer_stays_within_the_limits : goal.returns-clause-a_good_answer_stays_within_the_limits
returns-clause-a_good_answer_stays_within_the_limits c = good_within c.args.self.now (event (seen c.args.event)) _ _ (search rules) (search rules)

pub returns-clause-key_and_value_alternate : goal.returns-clause-key_and_value_alternate
returns-clause-key_and_value_alternate c = alternating c.self.inside.limits c.args.self.now (ap (λ m. m.budget) c.self.view_is)
