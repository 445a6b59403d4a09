-- A score with a new path may be added.
use Rattle.std.proofs.Common.{◌≡◌, ℕ, ◌+◌, ◌<◌, ◌≤◌, Bool, true, false, cond, List, [], ◌∷◌, ◌++◌, vec_items, sym, refl, ap, ◌∙◌, arith}
use Rattle.std.proofs.lemmas.Bool.{false≢true}
use Rattle.book.specs.Said.{SaidScore}
use Rattle.book.specs.declared.lines.ScoreLine.{ScoreLine}
use Rattle.book.specs.View.{said_score, said_scores}
use Rattle.std.specs.List.{list_any}
use Rattle.std.proofs.lemmas.List.{append_assoc, append-nil, map-append}
use Rattle.book.specs.Lookups.{path_is, fresh_after, distinct}

-- the rest of a list that passes, where the first item did
past : (b r : Bool) → cond b false r ≡ true → r ≡ true
past true r e = absurd (false≢true e)
past false r e = e

first_passes : (b r : Bool) → cond b false r ≡ true → b ≡ false
first_passes true r e = absurd (false≢true e)
first_passes false r e = refl

stays_fresh : (before xs : List SaidScore) (y : SaidScore) → fresh_after before xs ≡ true → list_any (path_is y.path) (before ++ xs) ≡ false → fresh_after before (xs ++ (y ∷ [])) ≡ true
stays_fresh before [] y e n = ap (λ b. cond b false true) (sym (ap (list_any (path_is y.path)) (append-nil before)) ∙ n)
stays_fresh before (x ∷ xs) y e n = ap (λ b. cond b false (fresh_after (before ++ (x ∷ [])) (xs ++ (y ∷ [])))) (first_passes _ _ e) ∙ stays_fresh (before ++ (x ∷ [])) xs y (past _ _ e) (ap (list_any (path_is y.path)) (append_assoc before (x ∷ []) xs) ∙ n)

stays_distinct : (xs : List SaidScore) (y : SaidScore) → distinct xs ≡ true → list_any (path_is y.path) xs ≡ false → distinct (xs ++ (y ∷ [])) ≡ true
stays_distinct xs y e n = stays_fresh [] xs y e n

pub pushed_distinct : (b : Bool) (xs ys : List ScoreLine) (y : ScoreLine) → ys ≡ cond b (xs ++ (y ∷ [])) xs → distinct (said_scores xs) ≡ true → list_any (path_is (vec_items y.path)) (said_scores xs) ≡ false → distinct (said_scores ys) ≡ true
pushed_distinct true xs ys y is e n = ap (λ l. distinct (said_scores l)) is ∙ (ap distinct (map-append said_score xs (y ∷ [])) ∙ stays_distinct (said_scores xs) (said_score y) e n)
pushed_distinct false xs ys y is e n = ap (λ l. distinct (said_scores l)) is ∙ e

pub pushed_few : (b : Bool) (n m : ℕ) → m ≡ cond b (n + 1) n → n < 256 → m ≤ 256
pushed_few true n m is h = omega (arith, is, h)
pushed_few false n m is h = omega (arith, is, h)
