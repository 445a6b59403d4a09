-- When collection goes through, and what it tells where it does not.
use Rattle.std.specs.Prelude.{◌≡◌, ℕ, suc, ◌+◌, ◌<◌, ◌≤◌, List, [], ◌∷◌, length, take, Some, None, Ok, Err, Option, Result, slice_index_or}
use Rattle.events.specs.declared.score.Event.{Event}
use Rattle.events.specs.declared.score.Mark.{Mark}
use Rattle.events.specs.declared.score.Piece.{Piece}
use Rattle.events.specs.Scores.{Lists, kind, marks_of, events_of, no_event}
use Rattle.events.specs.Nodes.{deeper}
use Rattle.events.specs.Tables.{IsLast, NoneNamed}
use Rattle.budget.specs.declared.limits.Budget.{Budget}
use Rattle.budget.specs.declared.breach.BudgetBreach.TheVariants.{Anchors}
use Rattle.fragment.specs.declared.answers.FragmentError.{FragmentError}
use Rattle.fragment.specs.declared.answers.FragmentError.TheVariants.{CollectionBreach, UnmarkedTarget}
use Rattle.fragment.specs.declared.collection.Collected.{Collected}
use Rattle.fragment.specs.Collection.{one_document, cause_at}
use Rattle.fragment.specs.Unfolding.{value_bytes}

-- how many of the events are document starts
abbrev pub documents_in : List Event → ℕ
documents_in [] = 0
documents_in (e ∷ es) = one_document e + documents_in es

-- the bytes of the values of all scalars
abbrev pub bytes_in : List Event → ℕ
bytes_in [] = 0
bytes_in (e ∷ es) = value_bytes e + bytes_in es

-- the depth after events, where it was d before them
abbrev pub depth_after : ℕ → List Event → ℕ
depth_after d [] = d
depth_after d (e ∷ es) = depth_after (deeper (kind e) d) es

-- marks and events are within the budget
pub record WithinTheBudget (b : Budget) (ms : List Mark) (es : List Event) : Type 0 where
  pub marks : length ms ≤ b.max_anchors
  pub documents : documents_in es ≤ 1
  pub depth : (n : ℕ) → depth_after 0 (take n es) ≤ b.max_depth
  pub bytes : bytes_in es ≤ b.max_total_scalar_bytes
  pub events : length es ≤ b.max_events

-- what collection asks of a piece, and number n is that of the target
pub record GoesThrough (b : Budget) (l : Lists) (p : Piece) (name : List ℕ) (n : ℕ) : Type 0 where
  pub within : WithinTheBudget b (marks_of l p) (events_of l p)
  pub target : IsLast l.bytes name (marks_of l p) n

-- the answer r is a number exactly if the piece goes through with that number
abbrev pub AcceptedExactlyIf : Budget → Lists → Piece → List ℕ → Result ℕ FragmentError → Type 0
AcceptedExactlyIf b l p name r = (n : ℕ) → (r ≡ Ok n → GoesThrough b l p name n) × (GoesThrough b l p name n → r ≡ Ok n)

-- what the events up to place p count
abbrev pub up_to : List Event → ℕ → Collected
up_to es p = record { documents = documents_in (take (suc p) es); depth = depth_after 0 (take (suc p) es); bytes = bytes_in (take (suc p) es); events = suc p }

-- the first of the four causes at place p
abbrev pub cause_in : Budget → List Event → ℕ → Option FragmentError
cause_in b es p = cause_at b p (slice_index_or es p no_event) (up_to es p)

-- the first place with a cause has this one
pub record FirstCause (b : Budget) (es : List Event) (x : FragmentError) : Type 0 where
  pub place : ℕ
  pub inside : place < length es
  pub cause : cause_in b es place ≡ Some x
  pub none_before : (q : ℕ) → q < place → cause_in b es q ≡ None

-- the refusals, in their order
pub data Refused (b : Budget) (l : Lists) (p : Piece) (name : List ℕ) : FragmentError → Type 0 where
  marks : b.max_anchors < length (marks_of l p) → Refused b l p name (CollectionBreach (Anchors (b.max_anchors + 1)))
  event : {x : FragmentError} → length (marks_of l p) ≤ b.max_anchors → FirstCause b (events_of l p) x → Refused b l p name x
  target : WithinTheBudget b (marks_of l p) (events_of l p) → NoneNamed l.bytes name (marks_of l p) → Refused b l p name UnmarkedTarget

-- the answer r is a refusal exactly if that is the first in this order
abbrev pub RefusedExactlyIf : Budget → Lists → Piece → List ℕ → Result ℕ FragmentError → Type 0
RefusedExactlyIf b l p name r = (x : FragmentError) → (r ≡ Err x → Refused b l p name x) × (Refused b l p name x → r ≡ Err x)
