use Rattle.std.proofs.Common.{ap}
use Rattle.budget.proofs.Observations.{alternating, shallow_depth, under_checked}
use Rattle.budget.proofs.enforcer.BudgetEnforcer.report.Goals as goal

pub returns-clause-counts_under_checked_limits : goal.returns-clause-counts_under_checked_limits
returns-clause-counts_under_checked_limits c = under_checked c.self.inside.limits c.args.self.now (ap (λ m. m.budget) c.self.view_is)

pub returns-clause-no_limit_of_depth_is_above_256 : goal.returns-clause-no_limit_of_depth_is_above_256
returns-clause-no_limit_of_depth_is_above_256 c = shallow_depth c.self.inside.limits c.args.self.now (ap (λ m. m.budget) c.self.view_is)

pub returns-clause-key_and_value_alternate : goal.returns-clause-key_and_value_alternate
returns-clause-key_and_value_alternate c = alternating c.self.inside.limits c.args.self.now (ap (λ m. m.budget) c.self.view_is)
