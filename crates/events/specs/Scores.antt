-- The lists of a stock, and the parts of them that a piece has.
use Rattle.std.specs.Prelude.{ℕ, ◌+◌, Bool, List, length, take, drop, Option, nat_le}
use Rattle.std.specs.Bool.{then_some}
use Rattle.events.specs.declared.score.Run.{Run}
use Rattle.events.specs.declared.score.Mark.{Mark}
use Rattle.events.specs.declared.score.Event.{Event}
use Rattle.events.specs.declared.score.Piece.{Piece}
use Rattle.events.specs.declared.score.Stock.{Stock}
use Rattle.events.specs.declared.kinds.EventKind.{EventKind}
use Rattle.events.specs.Kinds.{kind_of}

-- the three lists of a stock
pub record Lists : Type 0 where
  pub bytes : List ℕ
  pub marks : List Mark
  pub events : List Event

abbrev pub lists : Stock → Lists
lists s = record { bytes = s.bytes.now; marks = s.marks.now; events = s.events.now }

-- a run lies inside a list of n items, also where it is empty
abbrev pub within : Run → ℕ → Bool
within r n = nat_le (r.start + r.len) n

-- the items of a run
abbrev pub part : {A : Type 0} → Run → List A → List A
part r xs = take r.len (drop r.start xs)

-- the items of a run, if it lies inside the list
abbrev pub part_in : {A : Type 0} → Run → List A → Option (List A)
part_in r xs = then_some (within r (length xs)) (part r xs)

abbrev pub marks_of : Lists → Piece → List Mark
marks_of l p = part p.marks l.marks

abbrev pub events_of : Lists → Piece → List Event
events_of l p = part p.events l.events

-- the kind of an event, where its number is known
abbrev pub kind : Event → Option EventKind
kind e = kind_of e.kind

-- what is read past the end of a list
abbrev pub no_run : Run
no_run = record { start = 0; len = 0 }

abbrev pub no_mark : Mark
no_mark = record { name = no_run }

abbrev pub no_event : Event
no_event = record { kind = 0; anchor = 0; value = no_run; tag = no_run; style = 0; span = record { start = 0; end = 0 } }
