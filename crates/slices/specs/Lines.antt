-- The lines of a text.
use Rattle.std.specs.Prelude.{ℕ, cond, List, [], ◌∷◌, ◌++◌, ◌==◌}

-- a piece that has ended, before those behind it; an empty one is none
abbrev pub closed : List ℕ → List (List ℕ) → List (List ℕ)
closed [] pieces = pieces
closed (b ∷ piece) pieces = (b ∷ piece) ∷ pieces

-- the lines of the bytes, behind a line begun: a line feed ends a line, and the last may lack it
abbrev pub lines_from : List ℕ → List ℕ → List (List ℕ)
lines_from line [] = closed line []
lines_from line (b ∷ bs) = cond (b == 10) (line ∷ lines_from [] bs) (lines_from (line ++ (b ∷ [])) bs)

abbrev pub lines_of : List ℕ → List (List ℕ)
lines_of text = lines_from [] text
