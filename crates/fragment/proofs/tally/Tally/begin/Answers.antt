use Rattle.std.proofs.Common.{rules}
use Rattle.fragment.specs.Slate.{blank}
use Rattle.fragment.proofs.tally.Tally.begin.Goals as goal

pub returns : goal.returns
unfolding blank
returns c = search rules
