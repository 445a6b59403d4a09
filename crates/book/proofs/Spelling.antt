-- A word that is known byte by byte.
use Rattle.std.proofs.Common.{◌≡◌, ℕ, ◌+◌, List, [], ◌∷◌, length, get_or, drop, ap, ◌∙◌, arith}
use Rattle.std.proofs.lemmas.List.{drop_more, drop_all}

abbrev pub Spelled : List ℕ → ℕ → List ℕ → Type 0
Spelled word i [] = Unit {0}
Spelled word i (b ∷ bs) = (get_or word i 0 ≡ b) × Spelled word (i + 1) bs

from_place : (word : List ℕ) (i : ℕ) (bs : List ℕ) → length word ≡ i + length bs → Spelled word i bs → drop i word ≡ bs
from_place word i [] n s = drop_all i word (omega (arith, n))
from_place word i (b ∷ bs) n s = drop_more word i 0 (omega (arith, n)) ∙ ap (λ c. c ∷ drop (i + 1) word) s.0 ∙ ap (λ l. b ∷ l) (from_place word (i + 1) bs (omega (arith, n)) s.1)

pub spelled : (word bs : List ℕ) → length word ≡ length bs → Spelled word 0 bs → word ≡ bs
spelled word bs n s = from_place word 0 bs (omega (arith, n)) s
