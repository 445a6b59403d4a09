-- A table of places of which the first are withdrawn from.
use Rattle.std.proofs.Common.{◌≡◌, ℕ, ◌+◌, ◌<◌, cond, List, ◌++◌, length, get_or, take, drop, ap, ◌∙◌, arith}
use Rattle.std.proofs.lemmas.List.{drop_more, take_more, length-map, length-take, get_or_at}
use Rattle.std.proofs.lemmas.List.Sums.{sum_by_push}
use Rattle.catalogue.specs.Entries.{Entry, standing, stands_as, withdrawn}

module _ (n : ℕ) (start : List Entry) (i : ℕ) (d : Entry) (h : i < length start) where
  -- the place i is still as at the start
  pub still_here : (es : List Entry) → es ≡ withdrawn n (take i start) ++ drop i start → get_or es i d ≡ get_or start i d
  still_here es q =
      let long : length (withdrawn n (take i start)) ≡ i = simp (length-map, length-take) (omega arith) in
      ap (λ xs. get_or xs i d) (q ∙ ap (λ xs. withdrawn n (take i start) ++ xs) (drop_more start i d h))
      ∙ get_or_at (withdrawn n (take i start)) (get_or start i d) (drop (i + 1) start) d i long

  -- how many stand, with the place i
  pub standing_more : standing n (take (i + 1) start) ≡ standing n (take i start) + cond (stands_as n (get_or start i d)) 1 0
  standing_more = ap (standing n) (take_more start i d h) ∙ sum_by_push _ (take i start) (get_or start i d)
