-- What the values of the code say.
use Rattle.std.specs.Prelude.{◌≡◌, ◌⊎◌, List, map, Ok, Err, vec_items, Result}
use Rattle.book.specs.declared.lines.ScoreLine.{ScoreLine}
use Rattle.book.specs.declared.faults.BookFault.{BookFault}
use Rattle.book.specs.declared.faults.BookFault.TheVariants.{OutOfMemory}
use Rattle.book.specs.Said.{SaidScore}

abbrev pub said_score : ScoreLine → SaidScore
said_score s = record { number = s.number; path = vec_items s.path; file = vec_items s.file }

abbrev pub said_scores : List ScoreLine → List SaidScore
said_scores scores = map said_score scores

-- a call answers what a definition says, unless memory runs out
abbrev pub Answers : {A B : Type 0} → (A → B) → Result B BookFault → Result A BookFault → Type 0
Answers say is (Ok x) = is ≡ Ok (say x)
Answers say is (Err fault) = (fault ≡ OutOfMemory) ⊎ (is ≡ Err fault)
