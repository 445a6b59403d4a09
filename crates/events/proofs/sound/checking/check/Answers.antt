use Rattle.events.proofs.Balancing.{nesting_is_balance}
use Rattle.events.proofs.sound.checking.check.Goals as goal

pub returns-in_err-judge_rules-clause-nesting_is_balance : goal.returns-in_err-judge_rules-clause-nesting_is_balance
returns-in_err-judge_rules-clause-nesting_is_balance c = nesting_is_balance

pub returns-clause-nesting_is_balance : goal.returns-clause-nesting_is_balance
returns-clause-nesting_is_balance c = nesting_is_balance
