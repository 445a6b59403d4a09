-- A book and the lines of its text.
use Rattle.std.specs.Prelude.{◌≡◌, ℕ, ◌+◌, Bool, true, List, [], ◌∷◌, ◌++◌, is_ok, Some, None, Ok, Err, Option, Result}
use Rattle.std.specs.List.{list_all}
use Rattle.book.specs.declared.faults.BookFault.{BookFault}
use Rattle.book.specs.declared.lines.Withdrawal.{Withdrawal}
use Rattle.book.specs.Words.{words_of}
use Rattle.book.specs.Said.{Said, SaidScore, SaidEntry}
use Rattle.book.specs.Said.SaidEntry.{main, score, withdrawn}
use Rattle.book.specs.Entries.{entry_of}

-- whether a line is an entry, a comment or empty
abbrev pub is_read : List ℕ → Bool
is_read line = is_ok (entry_of (words_of line))

-- the file of a `main` line
abbrev pub mains_of : Result (Option SaidEntry) BookFault → List (List ℕ)
mains_of (Err fault) = []
mains_of (Ok None) = []
mains_of (Ok (Some (main file))) = file ∷ []
mains_of (Ok (Some (score s))) = []
mains_of (Ok (Some (withdrawn number))) = []

-- the score of a `score` line
abbrev pub scores_of : Result (Option SaidEntry) BookFault → List SaidScore
scores_of (Err fault) = []
scores_of (Ok None) = []
scores_of (Ok (Some (main file))) = []
scores_of (Ok (Some (score s))) = s ∷ []
scores_of (Ok (Some (withdrawn number))) = []

-- the number of a `withdrawn` line, with the line
abbrev pub withdrawn_at : ℕ → Result (Option SaidEntry) BookFault → List Withdrawal
withdrawn_at line (Err fault) = []
withdrawn_at line (Ok None) = []
withdrawn_at line (Ok (Some (main file))) = []
withdrawn_at line (Ok (Some (score s))) = []
withdrawn_at line (Ok (Some (withdrawn number))) = record { number = number; line = line } ∷ []

-- the entries of each kind, in the order of their lines
abbrev pub mains_in : List (List ℕ) → List (List ℕ)
mains_in [] = []
mains_in (text ∷ texts) = mains_of (entry_of (words_of text)) ++ mains_in texts

abbrev pub scores_in : List (List ℕ) → List SaidScore
scores_in [] = []
scores_in (text ∷ texts) = scores_of (entry_of (words_of text)) ++ scores_in texts

abbrev pub withdrawn_in : ℕ → List (List ℕ) → List Withdrawal
withdrawn_in line [] = []
withdrawn_in line (text ∷ texts) = withdrawn_at line (entry_of (words_of text)) ++ withdrawn_in (line + 1) texts

-- each line is read, one of them names the main score, and the book has the scores and the withdrawn numbers of the others, in their order
pub record HasEntries (lines : List (List ℕ)) (b : Said) : Type 0 where
  pub each_is_read : list_all is_read lines ≡ true
  pub one_main : mains_in lines ≡ b.main ∷ []
  pub its_scores : scores_in lines ≡ b.scores
  pub its_withdrawn : withdrawn_in 1 lines ≡ b.withdrawn
