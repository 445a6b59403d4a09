use Rattle.std.proofs.Common.{sym, ◌∙◌, rules, tests, bytes_eq}
use Rattle.std.proofs.lemmas.Iterator.{YieldsList-from_slice}
use Rattle.std.proofs.lemmas.Iterator.Adapters.{option_map_id}
use Rattle.std.proofs.lemmas.Iterator.Consumers.{YieldsList-from_copied}
use Rattle.std.proofs.lemmas.Iterator.Search.{find_from_yields_List}
use Rattle.notation.specs.Lines.{kinds, opener}
use Rattle.notation.proofs.forms.kind_of.Goals as goal

pub returns : goal.returns
returns c =
    record { value = sym (option_map_id c.find.result) ∙ find_from_yields_List (λ (k : _). bytes_eq c.args.bytes.now (opener k)) _ _ c.find.result c.find.ensures.ran (YieldsList-from_copied (YieldsList-from_slice kinds cc)) (λ x b q k. search (rules, tests)) }
