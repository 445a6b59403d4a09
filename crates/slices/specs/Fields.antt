-- Where a byte stands in a line, and what a line has at its front. A byte past the end reads as 0.
use Rattle.std.specs.Prelude.{ℕ, ◌+◌, Bool, true, false, cond, ◌&&◌, List, [], ◌∷◌, length, ◌==◌, slice_index}

abbrev pub is_empty : List ℕ → Bool
is_empty [] = true
is_empty (x ∷ xs) = false

-- the place of the first byte b, or the length where there is none
abbrev pub place_of : ℕ → List ℕ → ℕ
place_of b [] = 0
place_of b (x ∷ xs) = cond (x == b) 0 (1 + place_of b xs)

-- no byte is b
abbrev pub lacks : ℕ → List ℕ → Bool
lacks b xs = place_of b xs == length xs

-- a space and then the byte m stand at the front
abbrev pub marked : ℕ → List ℕ → Bool
marked m xs = slice_index xs 0 == 32 && slice_index xs 1 == m
