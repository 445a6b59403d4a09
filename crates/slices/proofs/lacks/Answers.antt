use Rattle.std.proofs.Common.{not, ap, ◌∙◌}
use Rattle.slices.proofs.Places.{none_is_lacking}
use Rattle.slices.proofs.lacks.Goals as goal

pub returns : goal.returns
returns c = record { value = ap not c.contains.ensures.value ∙ none_is_lacking c.args.b c.args.s.now }
