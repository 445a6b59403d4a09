-- The words of a line.
use Rattle.std.specs.Prelude.{ℕ, Bool, true, cond, List, [], ◌∷◌, ◌++◌, Some, None, Option, ◌==◌}
use Rattle.slices.specs.Lines.{closed}

-- a space, a tab or a carriage return: they stand between words
abbrev pub is_gap : ℕ → Bool
is_gap b = cond (b == 32) true (cond (b == 9) true (b == 13))

-- the words of the bytes, behind a word begun
abbrev pub words_from : List ℕ → List ℕ → List (List ℕ)
words_from word [] = closed word []
words_from word (b ∷ bs) = cond (is_gap b) (closed word (words_from [] bs)) (words_from (word ++ (b ∷ [])) bs)

abbrev pub words_of : List ℕ → List (List ℕ)
words_of line = words_from [] line

-- the first piece, empty where there is none, and the pieces behind it
abbrev pub first_piece : List (List ℕ) → List ℕ
first_piece [] = []
first_piece (piece ∷ pieces) = piece

abbrev pub later_pieces : List (List ℕ) → List (List ℕ)
later_pieces [] = []
later_pieces (piece ∷ pieces) = pieces

-- the word, where there is just one
abbrev pub only_word : List (List ℕ) → Option (List ℕ)
only_word [] = None
only_word (word ∷ []) = Some word
only_word (word ∷ other ∷ words) = None
