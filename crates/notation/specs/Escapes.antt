-- How a value is written in a line: a backslash and a letter for a backslash, a tab, a carriage return, a line feed and a backspace; every other byte as it is.
use Rattle.std.specs.Prelude.{ℕ, Bool, true, false, cond, List, [], ◌∷◌, ◌++◌, Some, None, Option, ◌==◌}

-- the letter that a byte is written by behind a backslash, if it is
abbrev pub letter : ℕ → Option ℕ
letter b = cond (b == 92) (Some 92) (cond (b == 9) (Some 116) (cond (b == 13) (Some 114) (cond (b == 10) (Some 110) (cond (b == 8) (Some 98) None))))

-- the byte that a letter behind a backslash stands for, if it stands for one
abbrev pub meant : ℕ → Option ℕ
meant c = cond (c == 92) (Some 92) (cond (c == 116) (Some 9) (cond (c == 114) (Some 13) (cond (c == 110) (Some 10) (cond (c == 98) (Some 8) None))))

-- a byte as it is written, where it has a letter and where it has none
abbrev pub written_by : Option ℕ → ℕ → List ℕ
written_by None b = b ∷ []
written_by (Some c) b = 92 ∷ c ∷ []

abbrev pub written : ℕ → List ℕ
written b = written_by (letter b) b

-- a value as it is written
abbrev pub escaped : List ℕ → List ℕ
escaped [] = []
escaped (b ∷ bs) = written b ++ escaped bs

-- what was read, behind bytes that were read before
abbrev pub behind_bytes : List ℕ → Option (List ℕ) → Option (List ℕ)
behind_bytes bs None = None
behind_bytes bs (Some cs) = Some (bs ++ cs)

-- what was read, behind a byte that there may be
abbrev pub behind_byte : Option ℕ → Option (List ℕ) → Option (List ℕ)
behind_byte None cs = None
behind_byte (Some b) cs = behind_bytes (b ∷ []) cs

-- the value that a text stands for, if it is well escaped; at `true` a backslash stands before the text
abbrev pub unescaped_from : Bool → List ℕ → Option (List ℕ)
unescaped_from true [] = None
unescaped_from true (c ∷ cs) = behind_byte (meant c) (unescaped_from false cs)
unescaped_from false [] = Some []
unescaped_from false (c ∷ cs) = cond (c == 92) (unescaped_from true cs) (behind_byte (Some c) (unescaped_from false cs))

abbrev pub unescaped : List ℕ → Option (List ℕ)
unescaped cs = unescaped_from false cs
