-- What it is to unfold a run of events, and which places are reached (YAML 1.2.2, 7.1: an alias stands for the node that its anchor marks).
use Rattle.std.specs.Prelude.{◌≡◌, ℕ, zero, suc, ◌+◌, ◌-◌, ◌≤◌, List, [], ◌∷◌, ◌++◌, get_or, Some, slice_index_or}
use Rattle.events.specs.declared.score.Event.{Event}
use Rattle.events.specs.declared.kinds.EventKind.TheVariants.{Alias}
use Rattle.events.specs.Scores.{kind, no_event}
use Rattle.events.specs.Nodes.{range_of}

-- the event at a place is an alias
abbrev pub AliasAt : List Event → ℕ → Type 0
AliasAt es p = kind (slice_index_or es p no_event) ≡ Some Alias

-- the number that it names
abbrev pub names : List Event → ℕ → ℕ
names es p = (get_or es p no_event).anchor

abbrev pub from : List Event → ℕ → ℕ
from es n = (range_of es n).first

abbrev pub size : List Event → ℕ → ℕ
size es n = (range_of es n).last + 1 - (range_of es n).first

-- the unfolding of the run of n events from place p, as places of the piece: an alias is replaced by the unfolding of the range that it names,
-- any other event is kept, in order; and how many aliases are replaced
pub data Unfolds (es : List Event) : ℕ → ℕ → List ℕ → ℕ → Type 0 where
  ends : {p : ℕ} → Unfolds es p zero [] 0
  keeps : {p n : ℕ} {out : List ℕ} {a : ℕ} → (AliasAt es p → ⊥) → Unfolds es (suc p) n out a → Unfolds es p (suc n) (p ∷ out) a
  opens : {p n : ℕ} {inner out : List ℕ} {a b : ℕ} → AliasAt es p → Unfolds es (from es (names es p)) (size es (names es p)) inner a → Unfolds es (suc p) n out b → Unfolds es p (suc n) (inner ++ out) (suc (a + b))

-- the unfolding of the node with number n
abbrev pub NodeUnfolds : List Event → ℕ → List ℕ → ℕ → Type 0
NodeUnfolds es n out aliases = Unfolds es (from es n) (size es n) out aliases

-- a place lies inside the node with number n
abbrev pub InsideNode : List Event → ℕ → ℕ → Type 0
InsideNode es n p = (from es n ≤ p) × (p ≤ (range_of es n).last)

-- the places reached from a target: those of its range, and of the range that a reached alias names
pub data Reached (es : List Event) (target : ℕ) : ℕ → Type 0 where
  own : {p : ℕ} → InsideNode es target p → Reached es target p
  named : {q p : ℕ} → Reached es target q → AliasAt es q → InsideNode es (names es q) p → Reached es target p

-- some reached alias lies inside the node that it names
abbrev pub Knot : List Event → ℕ → Type 0
Knot es target = (q : ℕ) × Reached es target q × AliasAt es q × InsideNode es (names es q) q
