-- The nodes of a piece that carry numbers, and their ranges.
use Rattle.std.specs.Prelude.{◌≡◌, ℕ, suc, ◌+◌, ◌-◌, ◌<◌, ◌≤◌, Bool, true, false, cond, not, ◌&&◌, ◌⊎◌, List, [], ◌∷◌, length, get_or, take, drop, Some, None, Option, ◌==◌, slice_index_or}
use Rattle.events.specs.declared.score.Event.{Event}
use Rattle.events.specs.declared.score.Piece.{Piece}
use Rattle.events.specs.declared.score.NodeRange.{NodeRange}
use Rattle.events.specs.declared.kinds.EventKind.{EventKind}
use Rattle.events.specs.declared.kinds.EventKind.TheVariants.{StreamStart, StreamEnd, DocumentStart, DocumentEnd, Alias, Scalar, SequenceStart, SequenceEnd, MappingStart, MappingEnd}
use Rattle.events.specs.Kinds.{after}
use Rattle.events.specs.Scores.{Lists, events_of, kind, no_event}
use Rattle.events.specs.Rules.{sound}
use Rattle.events.specs.Balance.{Node}

-- the kinds with which a node starts that may carry a number
abbrev pub starts_node : Option EventKind → Bool
starts_node None = false
starts_node (Some StreamStart) = false
starts_node (Some StreamEnd) = false
starts_node (Some DocumentStart) = false
starts_node (Some DocumentEnd) = false
starts_node (Some Alias) = false
starts_node (Some Scalar) = true
starts_node (Some SequenceStart) = true
starts_node (Some SequenceEnd) = false
starts_node (Some MappingStart) = true
starts_node (Some MappingEnd) = false

-- an event at which a node with a number starts
abbrev pub carries : Event → Bool
carries e = starts_node (kind e) && not (e.anchor == 0)

-- the depth after an event
abbrev pub deeper : Option EventKind → ℕ → ℕ
deeper None d = d
deeper (Some k) d = after k d

-- the first place, from p on, after which the depth is 0
abbrev pub closing : ℕ → ℕ → List Event → ℕ
closing d p [] = p
closing d p (e ∷ es) = cond (deeper (kind e) d == 0) p (closing (deeper (kind e) d) (suc p) es)

-- the last place of the node that starts at p: its own, or that of the matching end
abbrev pub end_of : List Event → ℕ → ℕ
end_of es p = closing 0 p (drop p es)

abbrev pub added_if : Bool → NodeRange → List NodeRange → List NodeRange
added_if true r rs = r ∷ rs
added_if false r rs = rs

-- the ranges of the nodes with numbers, in order, in the events from place p on
abbrev pub ranges_from : ℕ → List Event → List NodeRange
ranges_from p [] = []
ranges_from p (e ∷ es) = added_if (carries e) (record { first = p; last = closing 0 p (e ∷ es) }) (ranges_from (suc p) es)

abbrev pub no_range : NodeRange
no_range = record { first = 0; last = 0 }

-- the range of the node with number n
abbrev pub range_of : List Event → ℕ → NodeRange
range_of es n = slice_index_or (ranges_from 0 es) (n - 1) no_range

-- the events of a range
abbrev pub events_in : List Event → NodeRange → List Event
events_in es r = take (r.last + 1 - r.first) (drop r.first es)

-- a node with number n starts at place p
pub record Starts (es : List Event) (n p : ℕ) : Type 0 where
  pub inside : p < length es
  pub carried : carries (slice_index_or es p no_event) ≡ true
  pub number : (get_or es p no_event).anchor ≡ n

-- there is exactly one node with number n, and its range is that of one balanced node
pub record OneNode (es : List Event) (n : ℕ) : Type 0 where
  pub starts : Starts es n (range_of es n).first
  pub only : (p : ℕ) → Starts es n p → p ≡ (range_of es n).first
  pub closes : (range_of es n).last < length es
  pub forward : (range_of es n).first ≤ (range_of es n).last
  pub balanced : Node (events_in es (range_of es n))

abbrev pub Inside : NodeRange → NodeRange → Type 0
Inside a b = (b.first ≤ a.first) × (a.last ≤ b.last)

abbrev pub Disjoint : NodeRange → NodeRange → Type 0
Disjoint a b = (a.last < b.first) ⊎ (b.last < a.first)

abbrev pub NestOrDisjoint : NodeRange → NodeRange → Type 0
NestOrDisjoint a b = Disjoint a b ⊎ (Inside a b ⊎ Inside b a)

-- an alias names a node that starts before it
pub record NamesBefore (es : List Event) (n p : ℕ) : Type 0 where
  pub least : 1 ≤ (get_or es p no_event).anchor
  pub most : (get_or es p no_event).anchor ≤ n
  pub before : (range_of es (get_or es p no_event).anchor).first < p

-- what the nodes of a sound piece with n marks are

abbrev pub OneNodeEach : List Event → ℕ → Type 0
OneNodeEach es n = (k : ℕ) → 1 ≤ k → k ≤ n → OneNode es k

abbrev pub AllNestOrAreDisjoint : List Event → ℕ → Type 0
AllNestOrAreDisjoint es n = (j k : ℕ) → 1 ≤ j → j ≤ n → 1 ≤ k → k ≤ n → NestOrDisjoint (range_of es j) (range_of es k)

abbrev pub AliasesNameNodesBeforeThem : List Event → ℕ → Type 0
AliasesNameNodesBeforeThem es n = (p : ℕ) → p < length es → kind (slice_index_or es p no_event) ≡ Some Alias → NamesBefore es n p

pub record SoundNodes (es : List Event) (n : ℕ) : Type 0 where
  pub counted : length (ranges_from 0 es) ≡ n
  pub one_each : OneNodeEach es n
  pub nested : AllNestOrAreDisjoint es n
  pub aliases : AliasesNameNodesBeforeThem es n

abbrev pub SoundPiecesHaveNodes : Type 0
SoundPiecesHaveNodes = (l : Lists) (p : Piece) → sound l p ≡ true → SoundNodes (events_of l p) p.marks.len
