-- What the text of a `book.txt` says.
use Rattle.std.specs.Prelude.{ℕ, ◌+◌, cond, List, [], ◌∷◌, ◌++◌, length, is_some, Some, None, Ok, Err, Option, Result, nat_le}
use Rattle.std.specs.List.{list_any}
use Rattle.book.specs.declared.faults.BookFault.{BookFault}
use Rattle.book.specs.declared.faults.BookFault.TheVariants.{RepeatedPath, TooManyScores, SecondMain, NoMain, UnknownWithdrawn}
use Rattle.book.specs.declared.faults.BookError.{BookError}
use Rattle.book.specs.declared.lines.Withdrawal.{Withdrawal}
use Rattle.slices.specs.Lines.{lines_of}
use Rattle.book.specs.Words.{words_of}
use Rattle.book.specs.Said.{Said, SaidDraft, SaidEntry, SaidScore, empty_draft}
use Rattle.book.specs.Said.SaidEntry.{main, score, withdrawn}
use Rattle.book.specs.Lookups.{path_is, first_unknown}
use Rattle.book.specs.Entries.{entry_of}

-- there is one main score
abbrev pub add_main : List ℕ → SaidDraft → Result SaidDraft BookFault
add_main file d = cond (is_some d.main) (Err SecondMain) (Ok (record { main = Some file; scores = d.scores; withdrawn = d.withdrawn }))

-- scores with one more: no other has its path, and there are at most 256
abbrev pub with_score : SaidScore → List SaidScore → Result (List SaidScore) BookFault
with_score s scores =
    cond (list_any (path_is s.path) scores) (Err RepeatedPath) (cond (nat_le 256 (length scores)) (Err TooManyScores) (Ok (scores ++ (s ∷ []))))

abbrev pub with_scores : Result (List SaidScore) BookFault → SaidDraft → Result SaidDraft BookFault
with_scores (Err fault) d = Err fault
with_scores (Ok scores) d = Ok (record { main = d.main; scores = scores; withdrawn = d.withdrawn })

abbrev pub add_score : SaidScore → SaidDraft → Result SaidDraft BookFault
add_score s d = with_scores (with_score s d.scores) d

abbrev pub add_withdrawal : Withdrawal → SaidDraft → Result SaidDraft BookFault
add_withdrawal w d = Ok (record { main = d.main; scores = d.scores; withdrawn = d.withdrawn ++ (w ∷ []) })

-- an entry, added to those of the lines before it
abbrev pub add_entry : ℕ → SaidEntry → SaidDraft → Result SaidDraft BookFault
add_entry line (main file) d = add_main file d
add_entry line (score s) d = add_score s d
add_entry line (withdrawn number) d = add_withdrawal (record { number = number; line = line }) d

-- what a line says, added to the lines before it
abbrev pub add_read : ℕ → Result (Option SaidEntry) BookFault → SaidDraft → Result SaidDraft BookFault
add_read line (Err fault) d = Err fault
add_read line (Ok None) d = Ok d
add_read line (Ok (Some entry)) d = add_entry line entry d

abbrev pub add_line : ℕ → List ℕ → SaidDraft → Result SaidDraft BookFault
add_line line text d = add_read line (entry_of (words_of text)) d

-- what is done with the lines so far; a fault is reported with its line
abbrev pub onward : ℕ → Result SaidDraft BookFault → (SaidDraft → Result SaidDraft BookError) → Result SaidDraft BookError
onward line (Err fault) next = Err (record { line = Some line; fault = fault })
onward line (Ok d) next = next d

-- lines added, the first with this number
abbrev pub add_lines : ℕ → List (List ℕ) → SaidDraft → Result SaidDraft BookError
add_lines line [] d = Ok d
add_lines line (text ∷ texts) d = onward line (add_line line text d) (λ e. add_lines (line + 1) texts e)

abbrev pub finished_by : Option ℕ → Option (List ℕ) → SaidDraft → Result Said BookError
finished_by (Some line) file d = Err (record { line = Some line; fault = UnknownWithdrawn })
finished_by None None d = Err (record { line = None; fault = NoMain })
finished_by None (Some file) d = Ok (record { main = file; scores = d.scores; withdrawn = d.withdrawn })

-- all lines are read: each withdrawn number is the number of a score, and there is a main score
abbrev pub finished : SaidDraft → Result Said BookError
finished d = finished_by (first_unknown d.scores d.withdrawn) d.main d

abbrev pub book_by : Result SaidDraft BookError → Result Said BookError
book_by (Err error) = Err error
book_by (Ok d) = finished d

-- what a text says: the lines are counted from 1
abbrev pub book_of : List ℕ → Result Said BookError
book_of text = book_by (add_lines 1 (lines_of text) empty_draft)
