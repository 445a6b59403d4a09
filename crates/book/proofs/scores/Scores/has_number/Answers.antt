use Rattle.std.proofs.Common.{rules, tests, sym, ◌∙◌}
use Rattle.std.proofs.lemmas.Iterator.{YieldsList-from_slice}
use Rattle.std.proofs.lemmas.Iterator.Search.{any_from_yields_List}
use Rattle.book.specs.Lookups.{number_is}
use Rattle.book.specs.View.{said_score}
use Rattle.book.proofs.Searches.{any_map}
use Rattle.book.proofs.scores.Scores.has_number.Goals as goal

pub returns : goal.returns
returns c =
    let number = c.args.number in
    let scores = c.args.self.now.lines.items in
    record { some_number_is_equal = any_from_yields_List (λ (s : _). number_is number (said_score s)) _ _ c.any.result c.any.ensures.ran (YieldsList-from_slice _ (c.iter.ensures.rest ∙ c.deref.ensures.value)) (λ x b q k. search (rules, tests)) ∙ sym (any_map (number_is number) said_score scores) }
