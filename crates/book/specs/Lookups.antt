-- Look-ups among the lines of a book.
use Rattle.std.specs.Prelude.{ℕ, Bool, true, false, cond, not, List, [], ◌∷◌, ◌++◌, Option, ◌==◌}
use Rattle.std.specs.List.{find, list_any}
use Rattle.std.specs.Option.{option_map}
use Rattle.std.specs.Str.{bytes_eq}
use Rattle.book.specs.declared.lines.Withdrawal.{Withdrawal}
use Rattle.book.specs.Said.{SaidScore}

abbrev pub path_is : List ℕ → SaidScore → Bool
path_is path score = bytes_eq score.path path

abbrev pub number_is : ℕ → SaidScore → Bool
number_is number score = score.number == number

abbrev pub withdraws : ℕ → Withdrawal → Bool
withdraws number entry = entry.number == number

-- whether a number that is withdrawn is the number of a score
abbrev pub is_known : List SaidScore → Withdrawal → Bool
is_known scores entry = list_any (number_is entry.number) scores

-- the line of the first withdrawal of a number that no score has
abbrev pub first_unknown : List SaidScore → List Withdrawal → Option ℕ
first_unknown scores entries = option_map (λ entry. entry.line) (find (λ entry. not (is_known scores entry)) entries)

-- no score has the path of one before it, nor of one of `before`
abbrev pub fresh_after : List SaidScore → List SaidScore → Bool
fresh_after before [] = true
fresh_after before (x ∷ xs) = cond (list_any (path_is x.path) before) false (fresh_after (before ++ (x ∷ [])) xs)

abbrev pub distinct : List SaidScore → Bool
distinct scores = fresh_after [] scores
