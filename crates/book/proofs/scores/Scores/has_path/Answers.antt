use Rattle.std.proofs.Common.{rules, tests, sym, ◌∙◌}
use Rattle.std.proofs.lemmas.Iterator.{YieldsList-from_slice}
use Rattle.std.proofs.lemmas.Iterator.Search.{any_from_yields_List}
use Rattle.book.specs.Lookups.{path_is}
use Rattle.book.specs.View.{said_score}
use Rattle.book.proofs.Searches.{any_map}
use Rattle.book.proofs.scores.Scores.has_path.Goals as goal

pub returns : goal.returns
returns c =
    let path = c.args.path.now in
    let scores = c.args.self.now.lines.items in
    record { some_path_is_equal = any_from_yields_List (λ (s : _). path_is path (said_score s)) _ _ c.any.result c.any.ensures.ran (YieldsList-from_slice _ (c.iter.ensures.rest ∙ c.deref.ensures.value)) (λ x b q k. search (rules, tests)) ∙ sym (any_map (path_is path) said_score scores) }
