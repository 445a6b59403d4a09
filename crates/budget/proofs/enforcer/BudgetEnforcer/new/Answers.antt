use Rattle.std.proofs.Common.{rules}
use Rattle.budget.proofs.Observations.{breach_tells, counts_distinct, counts_observed, ends_so}
use Rattle.budget.proofs.enforcer.BudgetEnforcer.new.Goals as goal

pub returns-clause-each_count_is_what_was_observed_since_the_reset : goal.returns-clause-each_count_is_what_was_observed_since_the_reset
returns-clause-each_count_is_what_was_observed_since_the_reset c = counts_observed c.args.limits c.args.policy c.args.merge_keys _ (search rules)

pub returns-clause-the_anchors_counted_are_distinct_numbers : goal.returns-clause-the_anchors_counted_are_distinct_numbers
returns-clause-the_anchors_counted_are_distinct_numbers c = counts_distinct c.args.limits c.args.policy c.args.merge_keys _ (search rules)

pub returns-clause-without_a_breach_the_last_report_is_the_report : goal.returns-clause-without_a_breach_the_last_report_is_the_report
returns-clause-without_a_breach_the_last_report_is_the_report c = ends_so c.args.limits c.args.policy c.args.merge_keys _ (search rules)

pub returns-clause-a_breach_tells_the_counts_and_a_passed_limit : goal.returns-clause-a_breach_tells_the_counts_and_a_passed_limit
returns-clause-a_breach_tells_the_counts_and_a_passed_limit c = breach_tells c.args.limits c.args.policy c.args.merge_keys _ (search rules)
