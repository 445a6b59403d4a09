-- What a stock's lists hold while scores are added.
use Rattle.std.specs.Prelude.{◌≡◌, ℕ, ◌+◌, ◌-◌, ◌<◌, ◌≤◌, cond, List, [], ◌∷◌, ◌++◌, length, take, drop, Some, Ok, vec_items, vec_len, MatchBool, ◌≢◌, slice_index, slice_range}
use Rattle.events.specs.Tables.{last_named}
use Rattle.events.specs.Kinds.{kind_number, style_number}
use Rattle.events.specs.declared.score.Event.{Event}
use Rattle.events.specs.declared.score.Mark.{Mark}
use Rattle.events.specs.declared.score.Run.{Run}
use Rattle.events.specs.declared.score.Span.{Span}
use Rattle.events.specs.declared.score.Piece.{Piece}
use Rattle.slices.specs.Fields.{is_empty, place_of}
use Rattle.notation.specs.Lines.{Said, shape_of, is_name, line_of}
use Rattle.notation.specs.declared.builder.StockBuilder.{StockBuilder}

-- a list with more behind it
pub record Grows {A : Type 0} (xs ys : List A) : Type 0 where
  pub more : List A
  pub is : ys ≡ xs ++ more

-- each list of a builder has only more behind it
pub record Grown (a b : StockBuilder) : Type 0 where
  pub bytes : Grows (vec_items a.bytes) (vec_items b.bytes)
  pub marks : Grows (vec_items a.marks) (vec_items b.marks)
  pub events : Grows (vec_items a.events) (vec_items b.events)

-- a score has no more marks and events than a piece may have, where the score's begin at these places
pub record Counted (first_mark first_event : ℕ) (b : StockBuilder) : Type 0 where
  pub marks : vec_len b.marks - first_mark ≤ 256
  pub events : vec_len b.events - first_event ≤ 8192

-- a text stands in the bytes, as a run of them
pub record Holds (bytes : List ℕ) (run : Run) (text : List ℕ) : Type 0 where
  pub inside : run.start + run.len ≤ length bytes
  pub is : take run.len (drop run.start bytes) ≡ text

-- an event says what a line says, and where the line stood
pub record Carries (bytes : List ℕ) (l : Said) (spot : Span) (e : Event) : Type 0 where
  pub kind : e.kind ≡ kind_number l.kind
  pub style : e.style ≡ style_number l.style
  pub value : Holds bytes e.value l.value
  pub tag : Holds bytes e.tag l.tag
  pub place : e.span ≡ spot

-- a line without an anchor has the number 0 and sets no mark
pub record Unmarked (n : ℕ) (b c : StockBuilder) : Type 0 where
  pub number : n ≡ 0
  pub marks : vec_items c.marks ≡ vec_items b.marks

-- an alias has the number of the last mark of its name in its score so far
pub record Naming (first : ℕ) (name : List ℕ) (n : ℕ) (b c : StockBuilder) : Type 0 where
  pub last : last_named (vec_items b.bytes) name (drop first (vec_items b.marks)) ≡ Some n
  pub marks : vec_items c.marks ≡ vec_items b.marks

-- any other line with an anchor sets the next mark of its score, with its name
pub record Marking (first : ℕ) (name : List ℕ) (n : ℕ) (b c : StockBuilder) : Type 0 where
  pub mark : Mark
  pub marks : vec_items c.marks ≡ vec_items b.marks ++ mark ∷ []
  pub named : Holds (vec_items c.bytes) mark.name name
  pub number : n ≡ vec_len b.marks - first + 1

abbrev pub Anchored : ℕ → Said → ℕ → StockBuilder → StockBuilder → Type 0
Anchored first l n b c = MatchBool (is_empty l.anchor) (Unmarked n b c) (MatchBool (is_name (shape_of l.kind)) (Naming first l.anchor n b c) (Marking first l.anchor n b c))

-- the name of the mark that a line sets: an alias sets none
abbrev pub name_set : Said → List ℕ
name_set l = cond (is_name (shape_of l.kind)) [] l.anchor

-- the bytes that a line adds: the name of the mark that it sets, its value and its tag
abbrev pub added : Said → List ℕ
added l = name_set l ++ (l.value ++ l.tag)

-- a line is read, and its event is the next: from the lists b to the lists c
pub record Step (first : ℕ) (line : List ℕ) (place : Span) (b c : StockBuilder) : Type 0 where
  pub says : Said
  pub read : line_of line ≡ Ok says
  pub event : Event
  pub events : vec_items c.events ≡ vec_items b.events ++ event ∷ []
  pub bytes : vec_items c.bytes ≡ vec_items b.bytes ++ added says
  pub carries : Carries (vec_items c.bytes) says place event
  pub anchored : Anchored first says event.anchor b c

-- the lines of a text were read up to a place, one step to a line: from the lists a to the lists there
pub data Reached (first : ℕ) (text : List ℕ) (a : StockBuilder) : ℕ → StockBuilder → Type 0 where
  begun : Reached first text a 0 a
  one_more : (i j : ℕ) (b c : StockBuilder) → Reached first text a i b → i < length text → j ≡ i + place_of 10 (drop i text) → Step first (slice_range text i j) (record { start = i; end = j }) b c → Reached first text a (j + 1) c

-- behind this place a text has line feeds only, and none right before it
pub record Ended (text : List ℕ) (n : ℕ) : Type 0 where
  pub inside : n ≤ length text
  pub feeds : (k : ℕ) → n ≤ k → k < length text → slice_index text k ≡ 10
  pub before : 0 < n → slice_index text (n - 1) ≢ 10

-- every line of a text was read, but for line feeds at its end
pub record ReadThrough (first : ℕ) (text : List ℕ) (a b : StockBuilder) : Type 0 where
  pub end : ℕ
  pub ended : Ended text end
  pub place : ℕ
  pub past : length (take end text) ≤ place
  pub reached : Reached first (take end text) a place b

-- a piece of the marks and events that were added for the lines of a text
pub record Added (a b : StockBuilder) (text : List ℕ) (p : Piece) : Type 0 where
  pub grown : Grown a b
  pub marks_start : p.marks.start ≡ vec_len a.marks
  pub marks_end : p.marks.start + p.marks.len ≡ vec_len b.marks
  pub marks_bound : p.marks.len ≤ 256
  pub events_start : p.events.start ≡ vec_len a.events
  pub events_end : p.events.start + p.events.len ≡ vec_len b.events
  pub events_bound : p.events.len ≤ 8192
  pub text_len : p.text_len ≡ length text
  pub lines : ReadThrough (vec_len a.marks) text a b

-- the lists are as they were
pub record Same (a b : StockBuilder) : Type 0 where
  pub bytes : vec_items b.bytes ≡ vec_items a.bytes
  pub marks : vec_items b.marks ≡ vec_items a.marks
  pub events : vec_items b.events ≡ vec_items a.events
