-- Key and value alternate in a mapping.
use Rattle.std.specs.Prelude.{Bool, true, false, not, List, [], ◌∷◌, Some, None, Option}
use Rattle.budget.specs.declared.containers.ContainerState.{ContainerState}
use Rattle.budget.specs.declared.containers.ContainerState.TheVariants.{Sequence, Mapping}
use Rattle.events.specs.declared.kinds.EventKind.{EventKind}
use Rattle.events.specs.declared.kinds.EventKind.TheVariants.{StreamStart, StreamEnd, DocumentStart, DocumentEnd, Alias, Scalar, SequenceStart, SequenceEnd, MappingStart, MappingEnd}

-- whether the next node of a mapping is a key, after an event
abbrev pub next_key : EventKind → Bool → Bool
next_key Scalar e = not e
next_key Alias e = not e
next_key SequenceStart e = false
next_key MappingStart e = false
next_key SequenceEnd e = true
next_key MappingEnd e = true
next_key StreamStart e = e
next_key StreamEnd e = e
next_key DocumentStart e = e
next_key DocumentEnd e = e

abbrev pub turned : EventKind → ContainerState → ContainerState
turned k (Sequence f) = Sequence f
turned k (Mapping e f) = Mapping (next_key k e) f

-- a start is a mapping's value where no key is expected
abbrev pub starts : EventKind → Bool → Bool
starts SequenceStart e = not e
starts MappingStart e = not e
starts Scalar e = false
starts Alias e = false
starts SequenceEnd e = false
starts MappingEnd e = false
starts StreamStart e = false
starts StreamEnd e = false
starts DocumentStart e = false
starts DocumentEnd e = false

-- whether a container that starts here is a mapping's value
abbrev pub is_value : EventKind → ContainerState → Bool
is_value k (Sequence f) = false
is_value k (Mapping e f) = starts k e

abbrev pub turn_top : EventKind → List ContainerState → List ContainerState
turn_top k [] = []
turn_top k (s ∷ ss) = turned k s ∷ ss

abbrev pub top_is_value : EventKind → List ContainerState → Bool
top_is_value k [] = false
top_is_value k (s ∷ ss) = is_value k s

abbrev pub awaits_key : ContainerState → Bool
awaits_key (Sequence f) = false
awaits_key (Mapping e f) = e

-- whether the next node is a mapping's key
abbrev pub key_next : List ContainerState → Bool
key_next [] = false
key_next (s ∷ ss) = awaits_key s

-- the container that a start opens, a mapping's value or not; a mapping begins with a key
abbrev pub opened : EventKind → Bool → ContainerState
opened MappingStart v = Mapping true v
opened SequenceStart v = Sequence v
opened StreamStart v = Sequence v
opened StreamEnd v = Sequence v
opened DocumentStart v = Sequence v
opened DocumentEnd v = Sequence v
opened Alias v = Sequence v
opened Scalar v = Sequence v
opened SequenceEnd v = Sequence v
opened MappingEnd v = Sequence v

-- a container starts in the one around it
abbrev pub entered : EventKind → List ContainerState → List ContainerState
entered k ss = opened k (top_is_value k ss) ∷ turn_top k ss

-- if an end fits the innermost container, whether that was a mapping's value
abbrev pub closing : EventKind → ContainerState → Option Bool
closing SequenceEnd (Sequence f) = Some f
closing SequenceEnd (Mapping e f) = None
closing MappingEnd (Mapping e f) = Some f
closing MappingEnd (Sequence f) = None
closing StreamStart s = None
closing StreamEnd s = None
closing DocumentStart s = None
closing DocumentEnd s = None
closing Alias s = None
closing Scalar s = None
closing SequenceStart s = None
closing MappingStart s = None
