-- What the numbers of kinds and styles mean, and how a kind moves the depth.
use Rattle.std.specs.Prelude.{ℕ, suc, ◌+◌, ◌-◌, cond, List, [], ◌∷◌, ℤ, pos, negsuc, Some, None, Option, ◌==◌}
use Rattle.events.specs.declared.kinds.EventKind.{EventKind}
use Rattle.events.specs.declared.kinds.EventKind.TheVariants.{StreamStart, StreamEnd, DocumentStart, DocumentEnd, Alias, Scalar, SequenceStart, SequenceEnd, MappingStart, MappingEnd}
use Rattle.events.specs.declared.kinds.ScalarStyle.{ScalarStyle}
use Rattle.events.specs.declared.kinds.ScalarStyle.TheVariants.{Plain, SingleQuoted, DoubleQuoted, Literal, Folded}

-- the number that an event carries for its kind
abbrev pub kind_number : EventKind → ℕ
kind_number StreamStart = 0
kind_number StreamEnd = 1
kind_number DocumentStart = 2
kind_number DocumentEnd = 3
kind_number Alias = 4
kind_number Scalar = 5
kind_number SequenceStart = 6
kind_number SequenceEnd = 7
kind_number MappingStart = 8
kind_number MappingEnd = 9

-- the item of a list at a place, if there is one
abbrev pub item_at : {A : Type 0} → List A → ℕ → Option A
item_at [] n = None
item_at (x ∷ xs) n = cond (n == 0) (Some x) (item_at xs (n - 1))

-- the kind of a number, if there is one
abbrev pub kind_of : ℕ → Option EventKind
kind_of n = item_at (StreamStart ∷ StreamEnd ∷ DocumentStart ∷ DocumentEnd ∷ Alias ∷ Scalar ∷ SequenceStart ∷ SequenceEnd ∷ MappingStart ∷ MappingEnd ∷ []) n

-- how a kind moves the depth: a start by 1, an end by -1, any other not at all
abbrev pub step_of : EventKind → ℤ
step_of StreamStart = pos 0
step_of StreamEnd = pos 0
step_of DocumentStart = pos 0
step_of DocumentEnd = pos 0
step_of Alias = pos 0
step_of Scalar = pos 0
step_of SequenceStart = pos 1
step_of SequenceEnd = negsuc 0
step_of MappingStart = pos 1
step_of MappingEnd = negsuc 0

-- a depth moved by a step; it never falls below 0
abbrev pub moved : ℤ → ℕ → ℕ
moved (pos n) d = d + n
moved (negsuc n) d = d - suc n

-- the depth after an event of a kind

abbrev pub after : EventKind → ℕ → ℕ
after k d = moved (step_of k) d

abbrev pub style_number : ScalarStyle → ℕ
style_number Plain = 0
style_number SingleQuoted = 1
style_number DoubleQuoted = 2
style_number Literal = 3
style_number Folded = 4

abbrev pub style_of : ℕ → Option ScalarStyle
style_of n = item_at (Plain ∷ SingleQuoted ∷ DoubleQuoted ∷ Literal ∷ Folded ∷ []) n
