use Rattle.std.proofs.Common.{refl}
use Rattle.fragment.specs.Slate.{blank}
use Rattle.fragment.proofs.slate.close_all.Goals as goal

pub returns : goal.returns
unfolding blank
returns c = record { all_closed = refl }
