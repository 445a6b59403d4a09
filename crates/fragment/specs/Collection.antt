-- Collection: the marks and the events of a piece against the budget, and the target.
use Rattle.std.specs.Prelude.{ℕ, ◌+◌, Bool, true, false, cond, ◌&&◌, List, [], ◌∷◌, length, Some, None, Ok, Err, Option, Result, nat_lt}
use Rattle.events.specs.declared.score.Event.{Event}
use Rattle.events.specs.declared.score.Piece.{Piece}
use Rattle.events.specs.declared.kinds.EventKind.{EventKind}
use Rattle.events.specs.declared.kinds.EventKind.TheVariants.{StreamStart, StreamEnd, DocumentStart, DocumentEnd, Alias, Scalar, SequenceStart, SequenceEnd, MappingStart, MappingEnd}
use Rattle.events.specs.Scores.{Lists, kind, marks_of, events_of}
use Rattle.events.specs.Nodes.{deeper}
use Rattle.events.specs.Tables.{last_named}
use Rattle.std.specs.Option.{option_or}
use Rattle.budget.specs.declared.limits.Budget.{Budget}
use Rattle.budget.specs.declared.breach.BudgetBreach.TheVariants.{Anchors, Depth, Events, ScalarBytes}
use Rattle.fragment.specs.declared.answers.FragmentError.{FragmentError}
use Rattle.fragment.specs.declared.answers.FragmentError.TheVariants.{CollectionBreach, SecondDocument, UnmarkedTarget}
use Rattle.fragment.specs.declared.collection.Collected.{Collected}
use Rattle.fragment.specs.Unfolding.{value_bytes}

abbrev pub is_document_start : Option EventKind → Bool
is_document_start None = false
is_document_start (Some StreamStart) = false
is_document_start (Some StreamEnd) = false
is_document_start (Some DocumentStart) = true
is_document_start (Some DocumentEnd) = false
is_document_start (Some Alias) = false
is_document_start (Some Scalar) = false
is_document_start (Some SequenceStart) = false
is_document_start (Some SequenceEnd) = false
is_document_start (Some MappingStart) = false
is_document_start (Some MappingEnd) = false

-- the start of a sequence or a mapping
abbrev pub is_start : Option EventKind → Bool
is_start None = false
is_start (Some StreamStart) = false
is_start (Some StreamEnd) = false
is_start (Some DocumentStart) = false
is_start (Some DocumentEnd) = false
is_start (Some Alias) = false
is_start (Some Scalar) = false
is_start (Some SequenceStart) = true
is_start (Some SequenceEnd) = false
is_start (Some MappingStart) = true
is_start (Some MappingEnd) = false

abbrev pub one_document : Event → ℕ
one_document e = cond (is_document_start (kind e)) 1 0

-- what is counted: document starts, the depth, the value bytes of scalars, and events
abbrev pub nothing : Collected
nothing = record { documents = 0; depth = 0; bytes = 0; events = 0 }

abbrev pub with_event : Event → Collected → Collected
with_event e c = record { documents = c.documents + one_document e; depth = deeper (kind e) c.depth; bytes = c.bytes + value_bytes e; events = c.events + 1 }

-- a refusal, where there is a cause
abbrev pub cause_if : Bool → FragmentError → Option FragmentError
cause_if true e = Some e
cause_if false e = None

-- the causes at the event e at place p, where c counts all events up to it, e too

-- 1: a document start, and one came before it
abbrev pub second_document : ℕ → Event → Collected → Option FragmentError
second_document p e c = cause_if (is_document_start (kind e) && nat_lt 1 c.documents) (SecondDocument p)

-- 2: a start, and the depth after it
abbrev pub too_deep : Budget → Event → Collected → Option FragmentError
too_deep b e c = cause_if (is_start (kind e) && nat_lt b.max_depth c.depth) (CollectionBreach (Depth c.depth))

-- 3: the value bytes of all scalars so far
abbrev pub too_many_bytes : Budget → Collected → Option FragmentError
too_many_bytes b c = cause_if (nat_lt b.max_total_scalar_bytes c.bytes) (CollectionBreach (ScalarBytes c.bytes))

-- 4: the events so far
abbrev pub too_many_events : Budget → Collected → Option FragmentError
too_many_events b c = cause_if (nat_lt b.max_events c.events) (CollectionBreach (Events c.events))

-- the first of them
abbrev pub cause_at : Budget → ℕ → Event → Collected → Option FragmentError
cause_at b p e c = option_or (second_document p e c) (option_or (too_deep b e c) (option_or (too_many_bytes b c) (too_many_events b c)))

-- the first cause in events that stand behind those counted; an event's place is the number of events before it
abbrev pub first_cause : Budget → Collected → List Event → Option FragmentError
first_cause b c [] = None
first_cause b c (e ∷ es) = option_or (cause_at b c.events e (with_event e c)) (first_cause b (with_event e c) es)

-- the marks
abbrev pub too_many_marks : Budget → ℕ → Option FragmentError
too_many_marks b n = cause_if (nat_lt b.max_anchors n) (CollectionBreach (Anchors (b.max_anchors + 1)))

-- an answer with nothing to tell, where there is no cause
abbrev pub unless : Option FragmentError → Result (Unit {0}) FragmentError
unless None = Ok tt
unless (Some e) = Err e

-- the target's number, where there is no cause and a mark has the name
abbrev pub target_unless : Option FragmentError → Option ℕ → Result ℕ FragmentError
target_unless (Some e) target = Err e
target_unless None None = Err UnmarkedTarget
target_unless None (Some n) = Ok n

-- first the marks, then the events in order, then the last mark of the name
abbrev pub collected : Budget → Lists → Piece → List ℕ → Result ℕ FragmentError
collected b l p name =
    target_unless (option_or (too_many_marks b (length (marks_of l p))) (first_cause b nothing (events_of l p))) (last_named l.bytes name (marks_of l p))
