-- What a book says, and what it says while its lines are read.
use Rattle.std.specs.Prelude.{ℕ, List, [], None, Option}
use Rattle.book.specs.declared.lines.Withdrawal.{Withdrawal}

-- a score: its number, its path and its file
pub record SaidScore : Type 0 where
  pub number : ℕ
  pub path : List ℕ
  pub file : List ℕ

-- an entry
pub data SaidEntry : Type 0 where
  main : List ℕ → SaidEntry
  score : SaidScore → SaidEntry
  withdrawn : ℕ → SaidEntry

-- the lines so far
pub record SaidDraft : Type 0 where
  pub main : Option (List ℕ)
  pub scores : List SaidScore
  pub withdrawn : List Withdrawal

pub record Said : Type 0 where
  pub main : List ℕ
  pub scores : List SaidScore
  pub withdrawn : List Withdrawal

abbrev pub empty_draft : SaidDraft
empty_draft = record { main = None; scores = []; withdrawn = [] }
