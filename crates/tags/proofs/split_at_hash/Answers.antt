use Rattle.std.proofs.Common.{None, Some, sym, ap, ◌∙◌, subst}
use Rattle.std.proofs.lemmas.List.{take_rest}
use Rattle.tags.specs.Hashes.{told_parts}
use Rattle.tags.proofs.Splits.{Cuts, cuts}
use Rattle.tags.proofs.split_at_hash.Goals as goal

pub returns-in_err-place : goal.returns-in_err-place
returns-in_err-place c =
    let none : Cuts c.args.text.now None = subst (Cuts c.args.text.now) c.in_err-place.was (cuts c.args.text.now c.hash_place.result c.hash_place.ensures.place) in
    record { split = ap told_parts c.from_residual.ensures ∙ sym none }

pub returns : goal.returns
returns c =
    let i = c.in_ok-place.place in
    let some : Cuts c.args.text.now (Some i) = subst (Cuts c.args.text.now) c.in_ok-place.was (cuts c.args.text.now c.hash_place.result c.hash_place.ensures.place) in
    record { split = rw take_rest (sym some.1) }
