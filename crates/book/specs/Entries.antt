-- What the words of a line say.
use Rattle.std.specs.Prelude.{ℕ, cond, List, [], ◌∷◌, length, Some, None, Ok, Err, codes, Option, Result, ◌==◌, nat_lt, slice_index}
use Rattle.std.specs.Str.{bytes_eq}
use Rattle.book.specs.declared.faults.BookFault.{BookFault}
use Rattle.book.specs.declared.faults.BookFault.TheVariants.{UnknownEntry, WordCount, BadNumber, PathLength}
use Rattle.book.specs.Decimal.{number_of}
use Rattle.book.specs.Words.{first_piece, later_pieces, only_word}
use Rattle.book.specs.Said.{SaidEntry}
use Rattle.book.specs.Said.SaidEntry.{main, score, withdrawn}

-- the number of a score: one that was read, and is not 0
abbrev pub nonzero : Option ℕ → Result ℕ BookFault
nonzero None = Err BadNumber
nonzero (Some n) = cond (n == 0) (Err BadNumber) (Ok n)

-- `main FILE`, by the word behind `main`
abbrev pub main_with : Option (List ℕ) → Result SaidEntry BookFault
main_with None = Err WordCount
main_with (Some file) = Ok (main file)

-- a score with a path of 1 to 64 bytes
abbrev pub score_for : Result ℕ BookFault → List ℕ → List ℕ → Result SaidEntry BookFault
score_for (Err fault) path file = Err fault
score_for (Ok number) path file =
    cond (length path == 0) (Err PathLength) (cond (nat_lt 64 (length path)) (Err PathLength) (Ok (score (record { number = number; path = path; file = file }))))

-- `score NUMBER PATH FILE`, by the words behind `score`: a file is there only where a number and a path are
abbrev pub score_with : List ℕ → List ℕ → Option (List ℕ) → Result SaidEntry BookFault
score_with number path None = Err WordCount
score_with number path (Some file) = score_for (nonzero (number_of number)) path file

abbrev pub withdrawn_for : Result ℕ BookFault → Result SaidEntry BookFault
withdrawn_for (Err fault) = Err fault
withdrawn_for (Ok number) = Ok (withdrawn number)

-- `withdrawn NUMBER`, by the word behind `withdrawn`
abbrev pub withdrawn_with : Option (List ℕ) → Result SaidEntry BookFault
withdrawn_with None = Err WordCount
withdrawn_with (Some number) = withdrawn_for (nonzero (number_of number))

-- the entries, each by the words behind its first
abbrev pub main_of : List (List ℕ) → Result SaidEntry BookFault
main_of words = main_with (only_word words)

abbrev pub score_of : List (List ℕ) → Result SaidEntry BookFault
score_of words = score_with (first_piece words) (first_piece (later_pieces words)) (only_word (later_pieces (later_pieces words)))

abbrev pub withdrawn_of : List (List ℕ) → Result SaidEntry BookFault
withdrawn_of words = withdrawn_with (only_word words)

-- an entry by its first word and those behind it
abbrev pub entry_by : List ℕ → List (List ℕ) → Result SaidEntry BookFault
entry_by word words =
    cond (bytes_eq word (codes "main")) (main_of words) (cond (bytes_eq word (codes "score")) (score_of words) (cond (bytes_eq word (codes "withdrawn")) (withdrawn_of words) (Err UnknownEntry)))

-- an entry that was read is what its line says
abbrev pub said_by : Result SaidEntry BookFault → Result (Option SaidEntry) BookFault
said_by (Err fault) = Err fault
said_by (Ok entry) = Ok (Some entry)

-- what a line says, by its words: a line with none says nothing, and neither does a comment
abbrev pub entry_of : List (List ℕ) → Result (Option SaidEntry) BookFault
entry_of [] = Ok None
entry_of (word ∷ words) = cond (slice_index word 0 == 35) (Ok None) (said_by (entry_by word words))
