-- When a piece of a stock is sound: four rules, of which the first that is broken is told.
use Rattle.std.specs.Prelude.{ℕ, ◌+◌, max, Bool, true, false, cond, not, ◌&&◌, List, [], ◌∷◌, length, is_some, Some, None, Option, ◌==◌, nat_eq, nat_le}
use Rattle.std.specs.List.{list_all}
use Rattle.events.specs.declared.score.Mark.{Mark}
use Rattle.events.specs.declared.score.Event.{Event}
use Rattle.events.specs.declared.score.Piece.{Piece}
use Rattle.events.specs.declared.kinds.EventKind.{EventKind}
use Rattle.events.specs.declared.kinds.EventKind.TheVariants.{StreamStart, StreamEnd, DocumentStart, DocumentEnd, Alias, Scalar, SequenceStart, SequenceEnd, MappingStart, MappingEnd}
use Rattle.events.specs.declared.kinds.Container.{Container}
use Rattle.events.specs.declared.kinds.Container.TheVariants.{Sequence, Mapping}
use Rattle.events.specs.declared.kinds.Rule.{Rule}
use Rattle.events.specs.declared.kinds.Rule.TheVariants.{Sizes, Nesting, Numbering, Aliases}
use Rattle.events.specs.Kinds.{style_of}
use Rattle.events.specs.Scores.{Lists, within, marks_of, events_of, kind}
use Rattle.events.specs.Walks.{keeps}

-- 1: sizes hold, runs and ranges lie inside the lists, kinds and styles are known

abbrev pub stock_fits : Lists → Bool
stock_fits l = nat_le (length l.bytes) 1048576 && (nat_le (length l.marks) 4096 && nat_le (length l.events) 65536)

abbrev pub piece_fits : Piece → Bool
piece_fits p = nat_le p.marks.len 256 && (nat_le p.events.len 8192 && nat_le p.text_len 1048576)

-- a mark of a stock with n bytes
abbrev pub mark_fits : ℕ → Mark → Bool
mark_fits n m = within m.name n

-- an event of a stock with n bytes
abbrev pub event_fits : ℕ → Event → Bool
event_fits n e = is_some (kind e) && (is_some (style_of e.style) && (within e.value n && within e.tag n))

abbrev pub sizes_hold : Lists → Piece → Bool
sizes_hold l p =
    stock_fits l && (piece_fits p && (within p.marks (length l.marks) && (within p.events (length l.events)
    && (list_all (mark_fits (length l.bytes)) (marks_of l p) && list_all (event_fits (length l.bytes)) (events_of l p)))))

-- 2: sequences and mappings pair and nest, all are closed at the last event, and streams and documents start and end outside of them

abbrev pub same : Container → Container → Bool
same Sequence Sequence = true
same Sequence Mapping = false
same Mapping Sequence = false
same Mapping Mapping = true

abbrev pub none : List Container → Bool
none [] = true
none (c ∷ cs) = false

-- an end closes the innermost open container, if that is of its own kind
abbrev pub shut : Container → List Container → Option (List Container)
shut c [] = None
shut c (d ∷ held) = cond (same c d) (Some held) None

-- the containers open after an event, innermost first, where it may stand among those open before
abbrev pub turned : EventKind → List Container → Option (List Container)
turned StreamStart held = cond (none held) (Some held) None
turned StreamEnd held = cond (none held) (Some held) None
turned DocumentStart held = cond (none held) (Some held) None
turned DocumentEnd held = cond (none held) (Some held) None
turned Alias held = Some held
turned Scalar held = Some held
turned SequenceStart held = Some (Sequence ∷ held)
turned SequenceEnd held = shut Sequence held
turned MappingStart held = Some (Mapping ∷ held)
turned MappingEnd held = shut Mapping held

abbrev pub turned_by : Option EventKind → List Container → Option (List Container)
turned_by None held = None
turned_by (Some k) held = turned k held

abbrev pub turned_at : List Container → Event → Option (List Container)
turned_at held e = turned_by (kind e) held

abbrev pub nests : List Event → Bool
nests es = keeps turned_at none [] es

-- 3: the nonzero anchor numbers of scalars and of starts of sequences and mappings are 1, 2, .. n in order,
-- where n is the count of marks; stream, document and end events carry 0

-- a node may carry the next number
abbrev pub may_carry : ℕ → ℕ → Option ℕ
may_carry a k = cond (a == 0) (Some k) (cond (a == k + 1) (Some a) None)

abbrev pub must_not : ℕ → ℕ → Option ℕ
must_not a k = cond (a == 0) (Some k) None

-- the highest number carried after an event with anchor a, where k was it before
abbrev pub numbered_by : Option EventKind → ℕ → ℕ → Option ℕ
numbered_by None a k = None
numbered_by (Some StreamStart) a k = must_not a k
numbered_by (Some StreamEnd) a k = must_not a k
numbered_by (Some DocumentStart) a k = must_not a k
numbered_by (Some DocumentEnd) a k = must_not a k
numbered_by (Some Alias) a k = Some k
numbered_by (Some Scalar) a k = may_carry a k
numbered_by (Some SequenceStart) a k = may_carry a k
numbered_by (Some SequenceEnd) a k = must_not a k
numbered_by (Some MappingStart) a k = may_carry a k
numbered_by (Some MappingEnd) a k = must_not a k

abbrev pub numbered_at : ℕ → Event → Option ℕ
numbered_at k e = numbered_by (kind e) e.anchor k

abbrev pub numbers : ℕ → List Event → Bool
numbers n es = keeps numbered_at (λ k. nat_eq k n) 0 es

-- 4: an alias names a number from 1 to the highest carried before it

abbrev pub is_alias : Option EventKind → Bool
is_alias None = false
is_alias (Some StreamStart) = false
is_alias (Some StreamEnd) = false
is_alias (Some DocumentStart) = false
is_alias (Some DocumentEnd) = false
is_alias (Some Alias) = true
is_alias (Some Scalar) = false
is_alias (Some SequenceStart) = false
is_alias (Some SequenceEnd) = false
is_alias (Some MappingStart) = false
is_alias (Some MappingEnd) = false

abbrev pub named_at : ℕ → Event → Option ℕ
named_at k e = cond (is_alias (kind e)) (cond (nat_le 1 e.anchor && nat_le e.anchor k) (Some k) None) (Some (max k e.anchor))

abbrev pub points_back : List Event → Bool
points_back es = keeps named_at (λ _. true) 0 es

-- the first broken rule, if there is one
abbrev pub first_broken : Lists → Piece → Option Rule
first_broken l p =
    cond (sizes_hold l p)
    (cond (nests (events_of l p))
    (cond (numbers p.marks.len (events_of l p))
    (cond (points_back (events_of l p)) None (Some Aliases))
    (Some Numbering))
    (Some Nesting))
    (Some Sizes)

abbrev pub sound : Lists → Piece → Bool
sound l p = not (is_some (first_broken l p))

abbrev pub rule_number : Rule → ℕ
rule_number Sizes = 1
rule_number Nesting = 2
rule_number Numbering = 3
rule_number Aliases = 4
