-- Why a score is refused: at which line of its text, and for which cause in the words of that line and of the lists.
use Rattle.std.specs.Prelude.{◌≡◌, ℕ, ◌+◌, ◌-◌, ◌<◌, ◌≤◌, true, false, cond, ◌⊎◌, List, [], ◌∷◌, length, take, drop, None, Ok, Err, vec_items, vec_len, Result, ◌==◌}
use Rattle.events.specs.Tables.{last_named}
use Rattle.slices.specs.Fields.{is_empty, place_of}
use Rattle.notation.specs.Lines.{Said, shape_of, is_name, line_of}
use Rattle.notation.specs.Scores.{Reached, Ended, added}
use Rattle.notation.specs.declared.builder.StockBuilder.{StockBuilder}
use Rattle.notation.specs.declared.line.LineError.{LineError}
use Rattle.notation.specs.declared.line.LineError.TheVariants.{LineBreak, UnknownOpener, EmptyName, UnclosedTag, BadProperty, MissingValue, BadStyle, BadEscape, TrailingText, OutOfMemory as line_memory}
use Rattle.notation.specs.declared.fault.TextFault.{TextFault}
use Rattle.notation.specs.declared.fault.TextFault.TheVariants.{Line, UnknownAnchor, TooManyBytes, TooManyMarks, TooManyEvents, TextTooLong, OutOfMemory}
use Rattle.notation.specs.declared.fault.TextError.{TextError}

-- what holds of the error of a call that refused
abbrev pub refusing : {X Y : Type 0} → Result X Y → (Y → Type 0) → Type 0
refusing (Ok x) P = Unit {0}
refusing (Err y) P = P y

-- the fault of a text whose line has an error
abbrev pub fault_of : LineError → TextFault
fault_of LineBreak = Line LineBreak
fault_of UnknownOpener = Line UnknownOpener
fault_of EmptyName = Line EmptyName
fault_of UnclosedTag = Line UnclosedTag
fault_of BadProperty = Line BadProperty
fault_of MissingValue = Line MissingValue
fault_of BadStyle = Line BadStyle
fault_of BadEscape = Line BadEscape
fault_of TrailingText = Line TrailingText
fault_of line_memory = OutOfMemory

-- a cause for each fault that a line can have; a want of memory needs none, and no line has the fault of a text that is too long
abbrev pub Caused : (LineError → Type 0) → Type 0 → Type 0 → Type 0 → Type 0 → TextFault → Type 0
Caused line name bytes marks events (Line e) = line e
Caused line name bytes marks events UnknownAnchor = name
Caused line name bytes marks events TooManyBytes = bytes
Caused line name bytes marks events TooManyMarks = marks
Caused line name bytes marks events TooManyEvents = events
Caused line name bytes marks events TextTooLong = ⊥
Caused line name bytes marks events OutOfMemory = Unit {0}

-- the cause where the line could be read
abbrev pub ForLists : Type 0 → Type 0 → Type 0 → Type 0 → TextFault → Type 0
ForLists name bytes marks events = Caused (λ _. ⊥) name bytes marks events

-- more bytes than a stock may have: those that it holds with those of a line
abbrev pub BytesExceeded : ℕ → ℕ → Type 0
BytesExceeded held more = 1048576 < held + more

-- a score whose marks begin at this place has as many as it may have, or the stock has
abbrev pub MarksFull : ℕ → ℕ → Type 0
MarksFull first count = (256 ≤ count - first) ⊎ (4096 ≤ count)

-- a score whose events begin at this place has as many as it may have, or the stock has
abbrev pub EventsFull : ℕ → ℕ → Type 0
EventsFull first count = (8192 ≤ count - first) ⊎ (65536 ≤ count)

-- no mark of the score so far has the name
abbrev pub Unknown : ℕ → List ℕ → StockBuilder → Type 0
Unknown first name b = last_named (vec_items b.bytes) name (drop first (vec_items b.marks)) ≡ None

-- an alias whose name no mark of its score so far has
pub record AliasUnknown (first : ℕ) (l : Said) (b : StockBuilder) : Type 0 where
  pub alias : is_name (shape_of l.kind) ≡ true
  pub unknown : Unknown first l.anchor b

-- a line that sets a mark, where there are as many as there may be
pub record MarkExceeds (first : ℕ) (l : Said) (b : StockBuilder) : Type 0 where
  pub named : is_empty l.anchor ≡ false
  pub sets : is_name (shape_of l.kind) ≡ false
  pub full : MarksFull first (vec_len b.marks)

-- a line can be read, and this holds of what it says
pub record Reads (line : List ℕ) (P : Said → Type 0) : Type 0 where
  pub says : Said
  pub read : line_of line ≡ Ok says
  pub holds : P says

-- why a line is refused at these lists, in a score whose marks and events begin at these places
abbrev pub LineCause : ℕ → ℕ → List ℕ → StockBuilder → TextFault → Type 0
LineCause first_mark first_event line b =
    Caused (λ e. line_of line ≡ Err e)
    (Reads line (λ l. AliasUnknown first_mark l b))
    (Reads line (λ l. BytesExceeded (vec_len b.bytes) (length (added l))))
    (Reads line (λ l. MarkExceeds first_mark l b))
    (Reads line (λ l. EventsFull first_event (vec_len b.events)))

-- how many line feeds a text has
abbrev pub line_feeds : List ℕ → ℕ
line_feeds [] = 0
line_feeds (x ∷ xs) = cond (x == 10) 1 0 + line_feeds xs

-- the line that begins at a place
abbrev pub line_at : List ℕ → ℕ → List ℕ
line_at text i = take (place_of 10 (drop i text)) (drop i text)

-- every line before a place was read, the line that begins there is refused, and the error has its number, counted from 1
pub record Stopped (first_mark first_event : ℕ) (text : List ℕ) (a : StockBuilder) (e : TextError) : Type 0 where
  pub place : ℕ
  pub inside : place < length text
  pub number : e.line ≡ line_feeds (take place text) + 1
  pub lists : StockBuilder
  pub reached : Reached first_mark text a place lists
  pub cause : LineCause first_mark first_event (line_at text place) lists e.fault

-- so, in a text without the line feeds at its end
pub record StoppedBefore (text : List ℕ) (a : StockBuilder) (e : TextError) : Type 0 where
  pub end : ℕ
  pub ended : Ended text end
  pub stopped : Stopped (vec_len a.marks) (vec_len a.events) (take end text) a e

-- a text that is too long is refused at line 1, and any other at a line that there is a cause for
pub data Refusal (text : List ℕ) (a : StockBuilder) (e : TextError) : Type 0 where
  too_long : 1048576 < length text → e ≡ record { line = 1; fault = TextTooLong } → Refusal text a e
  at_line : length text ≤ 1048576 → StoppedBefore text a e → Refusal text a e
