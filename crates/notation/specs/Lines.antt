-- What a line of event notation says, how it is written, and how it is read.
use Rattle.std.specs.Prelude.{ℕ, ◌+◌, Bool, true, false, cond, not, ◌&&◌, List, [], ◌∷◌, ◌++◌, length, take, drop, Some, None, Ok, Err, codes, Option, Result, ◌==◌, slice_index}
use Rattle.std.specs.List.{find}
use Rattle.std.specs.Str.{bytes_eq}
use Rattle.events.specs.declared.kinds.EventKind.{EventKind}
use Rattle.events.specs.declared.kinds.EventKind.TheVariants.{StreamStart, StreamEnd, DocumentStart, DocumentEnd, Alias, Scalar, SequenceStart, SequenceEnd, MappingStart, MappingEnd}
use Rattle.events.specs.declared.kinds.ScalarStyle.{ScalarStyle}
use Rattle.events.specs.declared.kinds.ScalarStyle.TheVariants.{Plain, SingleQuoted, DoubleQuoted, Literal, Folded}
use Rattle.notation.specs.declared.parts.Shape.{Shape}
use Rattle.notation.specs.declared.parts.Shape.TheVariants.{Bare, Start, Value, Name}
use Rattle.notation.specs.declared.line.LineError.{LineError}
use Rattle.notation.specs.declared.line.LineError.TheVariants.{LineBreak, UnknownOpener, EmptyName, UnclosedTag, BadProperty, MissingValue, BadStyle, BadEscape, TrailingText}
use Rattle.slices.specs.Fields.{is_empty, place_of, lacks, marked}
use Rattle.notation.specs.Escapes.{escaped, unescaped}

-- what a line says
pub record Said : Type 0 where
  pub kind : EventKind
  pub anchor : List ℕ
  pub tag : List ℕ
  pub style : ScalarStyle
  pub value : List ℕ

-- the four bytes that a line of a kind begins with
abbrev pub opener : EventKind → List ℕ
opener StreamStart = codes "+STR"
opener StreamEnd = codes "-STR"
opener DocumentStart = codes "+DOC"
opener DocumentEnd = codes "-DOC"
opener Alias = codes "=ALI"
opener Scalar = codes "=VAL"
opener SequenceStart = codes "+SEQ"
opener SequenceEnd = codes "-SEQ"
opener MappingStart = codes "+MAP"
opener MappingEnd = codes "-MAP"

-- what may stand right behind the opener and says nothing
abbrev pub extra : EventKind → List ℕ
extra StreamStart = []
extra StreamEnd = []
extra DocumentStart = codes " ---"
extra DocumentEnd = codes " ..."
extra Alias = []
extra Scalar = []
extra SequenceStart = codes " []"
extra SequenceEnd = []
extra MappingStart = codes " {}"
extra MappingEnd = []

-- what stands behind the opener: nothing, properties, properties and a value, or the name of an anchor
abbrev pub shape_of : EventKind → Shape
shape_of StreamStart = Bare
shape_of StreamEnd = Bare
shape_of DocumentStart = Bare
shape_of DocumentEnd = Bare
shape_of Alias = Name
shape_of Scalar = Value
shape_of SequenceStart = Start
shape_of SequenceEnd = Bare
shape_of MappingStart = Start
shape_of MappingEnd = Bare

-- the byte before a name: `*` on an alias, else `&`
abbrev pub name_mark : Shape → ℕ
name_mark Bare = 38
name_mark Start = 38
name_mark Value = 38
name_mark Name = 42

-- an alias
abbrev pub is_name : Shape → Bool
is_name Bare = false
is_name Start = false
is_name Value = false
is_name Name = true

-- the byte of a style: : ' " | >
abbrev pub style_byte : ScalarStyle → ℕ
style_byte Plain = 58
style_byte SingleQuoted = 39
style_byte DoubleQuoted = 34
style_byte Literal = 124
style_byte Folded = 62

abbrev pub is_plain : ScalarStyle → Bool
is_plain Plain = true
is_plain SingleQuoted = false
is_plain DoubleQuoted = false
is_plain Literal = false
is_plain Folded = false

-- an anchor and a tag that a line of this shape may have
abbrev pub fitting : Shape → List ℕ → List ℕ → Bool
fitting Bare anchor tag = is_empty anchor && is_empty tag
fitting Start anchor tag = true
fitting Value anchor tag = true
fitting Name anchor tag = not (is_empty anchor) && is_empty tag

-- a style and a value that a line of this shape may have: only a scalar has any
abbrev pub value_fits : Shape → ScalarStyle → List ℕ → Bool
value_fits Bare style value = is_plain style && is_empty value
value_fits Start style value = is_plain style && is_empty value
value_fits Value style value = true
value_fits Name style value = is_plain style && is_empty value

-- the line can be written so that it reads back: no space or line feed in the anchor, no `>` or line feed in the tag, and no part that its kind does not take
abbrev pub printable : Said → Bool
printable l =
    (fitting (shape_of l.kind) l.anchor l.tag && value_fits (shape_of l.kind) l.style l.value)
    && ((lacks 32 l.anchor && lacks 10 l.anchor) && (lacks 62 l.tag && lacks 10 l.tag))

-- WRITING

abbrev pub shown_name : ℕ → List ℕ → List ℕ
shown_name mark name = cond (is_empty name) [] (32 ∷ mark ∷ name)

abbrev pub shown_tag : List ℕ → List ℕ
shown_tag tag = cond (is_empty tag) [] (32 ∷ 60 ∷ (tag ++ (62 ∷ [])))

abbrev pub shown_value : Shape → ScalarStyle → List ℕ → List ℕ
shown_value Bare style value = []
shown_value Start style value = []
shown_value Value style value = 32 ∷ style_byte style ∷ escaped value
shown_value Name style value = []

-- what is written behind the opener
abbrev pub shown_rest : Said → List ℕ
shown_rest l = shown_name (name_mark (shape_of l.kind)) l.anchor ++ (shown_tag l.tag ++ shown_value (shape_of l.kind) l.style l.value)

-- a line as it is written
abbrev pub shown : Said → List ℕ
shown l = opener l.kind ++ shown_rest l

-- READING

abbrev pub kinds : List EventKind
kinds = StreamStart ∷ StreamEnd ∷ DocumentStart ∷ DocumentEnd ∷ Alias ∷ Scalar ∷ SequenceStart ∷ SequenceEnd ∷ MappingStart ∷ MappingEnd ∷ []

-- the kind whose opener the bytes are
abbrev pub kind_of : List ℕ → Option EventKind
kind_of xs = find (λ k. bytes_eq xs (opener k)) kinds

-- the style of a byte
abbrev pub style_of : ℕ → Option ScalarStyle
style_of b = cond (b == 58) (Some Plain) (cond (b == 39) (Some SingleQuoted) (cond (b == 34) (Some DoubleQuoted) (cond (b == 124) (Some Literal) (cond (b == 62) (Some Folded) None))))

-- a part of a line, and what stands behind it
pub record Part : Type 0 where
  pub text : List ℕ
  pub rest : List ℕ

-- a style, and the text of a value
pub record Valued : Type 0 where
  pub style : ScalarStyle
  pub text : List ℕ

abbrev pub and_then : {A B : Type 0} → Result A LineError → (A → Result B LineError) → Result B LineError
and_then (Ok x) f = f x
and_then (Err e) f = Err e

abbrev pub or_error : {A : Type 0} → Option A → LineError → Result A LineError
or_error None e = Err e
or_error (Some x) e = Ok x

-- the rest of a line without the part that says nothing
abbrev pub without_extra : EventKind → List ℕ → List ℕ
without_extra k xs = cond (bytes_eq (take (length (extra k)) xs) (extra k)) (drop (length (extra k)) xs) xs

-- a name ends at the first space
abbrev pub named_in : List ℕ → Result Part LineError
named_in xs =
    cond (place_of 32 xs == 0) (Err EmptyName)
    (Ok (record { text = take (place_of 32 xs) xs; rest = drop (place_of 32 xs) xs }))

abbrev pub name_in : ℕ → List ℕ → Result Part LineError
name_in mark xs = cond (marked mark xs) (named_in (drop 2 xs)) (Ok (record { text = []; rest = xs }))

-- a tag ends at the first `>`
abbrev pub tagged_in : List ℕ → Result Part LineError
tagged_in xs =
    cond (lacks 62 xs) (Err UnclosedTag)
    (cond (place_of 62 xs == 0) (Err EmptyName)
    (Ok (record { text = take (place_of 62 xs) xs; rest = drop (place_of 62 xs + 1) xs })))

abbrev pub tag_in : List ℕ → Result Part LineError
tag_in xs = cond (marked 60 xs) (tagged_in (drop 2 xs)) (Ok (record { text = []; rest = xs }))

abbrev pub styled_in : Option ScalarStyle → List ℕ → Result Valued LineError
styled_in None xs = Err BadStyle
styled_in (Some s) xs = Ok (record { style = s; text = xs })

-- a scalar has a space, the byte of its style and its value; any other line ends here
abbrev pub scalar_in : List ℕ → Result Valued LineError
scalar_in xs = cond (slice_index xs 0 == 32) (styled_in (style_of (slice_index xs 1)) (drop 2 xs)) (Err MissingValue)

abbrev pub end_in : List ℕ → Result Valued LineError
end_in xs = cond (is_empty xs) (Ok (record { style = Plain; text = [] })) (Err TrailingText)

abbrev pub value_in : Shape → List ℕ → Result Valued LineError
value_in Bare xs = end_in xs
value_in Start xs = end_in xs
value_in Value xs = scalar_in xs
value_in Name xs = end_in xs

-- the parts of a line together, where they fit its kind
abbrev pub joined_parts : EventKind → List ℕ → List ℕ → Valued → Result Said LineError
joined_parts k anchor tag v =
    cond (fitting (shape_of k) anchor tag)
    (Ok (record { kind = k; anchor = anchor; tag = tag; style = v.style; value = v.text }))
    (Err BadProperty)

-- the parts behind the opener, one after another
abbrev pub rest_of : EventKind → List ℕ → Result Said LineError
rest_of k xs =
    and_then (name_in (name_mark (shape_of k)) xs) (λ a.
    and_then (tag_in a.rest) (λ t.
    and_then (value_in (shape_of k) t.rest) (λ v.
    joined_parts k a.text t.text v)))

-- the parts of a line, its value still escaped
abbrev pub parts_of : List ℕ → Result Said LineError
parts_of xs = and_then (or_error (kind_of (take 4 xs)) UnknownOpener) (λ k. rest_of k (without_extra k (drop 4 xs)))

abbrev pub with_value : Said → List ℕ → Said
with_value l v = record { kind = l.kind; anchor = l.anchor; tag = l.tag; style = l.style; value = v }

abbrev pub unescaped_value : Said → Result Said LineError
unescaped_value l = and_then (or_error (unescaped l.value) BadEscape) (λ v. Ok (with_value l v))

-- what a line says, or why it says nothing
abbrev pub line_of : List ℕ → Result Said LineError
line_of xs = cond (lacks 10 xs) (and_then (parts_of xs) unescaped_value) (Err LineBreak)
