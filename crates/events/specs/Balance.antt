-- What it is for events to be balanced, in YAML's words: a node is a scalar, an alias, or a collection that holds nodes between its start and its end.
use Rattle.std.specs.Prelude.{◌≡◌, Bool, true, false, ◌⊎◌, List, [], ◌∷◌, ◌++◌, Some}
use Rattle.events.specs.declared.score.Event.{Event}
use Rattle.events.specs.declared.kinds.EventKind.{EventKind}
use Rattle.events.specs.declared.kinds.EventKind.TheVariants.{StreamStart, StreamEnd, DocumentStart, DocumentEnd, Alias, Scalar, SequenceStart, SequenceEnd, MappingStart, MappingEnd}
use Rattle.events.specs.declared.kinds.Container.{Container}
use Rattle.events.specs.declared.kinds.Container.TheVariants.{Sequence, Mapping}
use Rattle.events.specs.Scores.{kind}
use Rattle.events.specs.Rules.{nests}

abbrev pub Is : Event → EventKind → Type 0
Is e k = kind e ≡ Some k

abbrev pub starts : Container → EventKind
starts Sequence = SequenceStart
starts Mapping = MappingStart

abbrev pub ends : Container → EventKind
ends Sequence = SequenceEnd
ends Mapping = MappingEnd

-- a scalar or an alias: a node of one event
abbrev pub Single : Event → Type 0
Single e = Is e Scalar ⊎ Is e Alias

-- an event of the stream or of a document
abbrev pub Outer : Event → Type 0
Outer e = Is e StreamStart ⊎ (Is e StreamEnd ⊎ (Is e DocumentStart ⊎ Is e DocumentEnd))

-- a sequence of balanced nodes; at the top of a score, stream and document events may stand between them
pub data Balanced : Bool → List Event → Type 0 where
  empty : {top : Bool} → Balanced top []
  outer : {es : List Event} → (e : Event) → Outer e → Balanced true es → Balanced true (e ∷ es)
  single : {top : Bool} {es : List Event} → (e : Event) → Single e → Balanced top es → Balanced top (e ∷ es)
  collection : {top : Bool} {inner es : List Event} → (c : Container) (s e : Event) → Is s (starts c) → Balanced false inner → Is e (ends c) → Balanced top es → Balanced top (s ∷ (inner ++ (e ∷ es)))

-- one balanced node
pub data Node : List Event → Type 0 where
  leaf : (e : Event) → Single e → Node (e ∷ [])
  tree : {inner : List Event} → (c : Container) (s e : Event) → Is s (starts c) → Balanced false inner → Is e (ends c) → Node (s ∷ (inner ++ (e ∷ [])))

-- the nesting rule holds exactly if the run is a sequence of balanced nodes and stream and document events
abbrev pub NestingIsBalance : Type 0
NestingIsBalance = (es : List Event) → (nests es ≡ true → Balanced true es) × (Balanced true es → nests es ≡ true)
