use Rattle.std.proofs.Common.{◌≡◌, None, vec_items, sym, ap, ◌∙◌}
use Rattle.book.specs.Lookups.{first_unknown}
use Rattle.book.specs.View.{said_scores}
use Rattle.book.proofs.Searches.{all_known}
use Rattle.book.proofs.contents.Draft.finish.Goals as goal

pub invariant_of-result : goal.invariant_of-result
invariant_of-result c =
    let d = c.args.self in
    let scores = said_scores (vec_items d.scores.lines) in
    let none : first_unknown scores (vec_items d.withdrawn) ≡ None = ap (first_unknown scores) (sym c.as_slice.ensures.value) ∙ sym c.in_default.ensures.value in
    record { withdrawn_numbers_are_known = all_known scores (vec_items d.withdrawn) none }
