-- A printable line, written and then read, says what it said.
use Rattle.std.proofs.Common.{◌≡◌, ℕ, suc, ◌+◌, true, false, cond, eqb, List, [], ◌∷◌, ◌++◌, length, take, drop, Ok, Err, Result, sym, refl, ap, ◌∙◌, arith, length-append}
use Rattle.std.proofs.lemmas.List.{append_assoc, take_at, drop_at}
use Rattle.std.proofs.lemmas.Bool.{eq-eqb, ne_eqb, cond-true, cond-false, and_parts, false≢true}
use Rattle.events.specs.declared.kinds.EventKind.{EventKind}
use Rattle.events.specs.declared.kinds.EventKind.TheVariants.{StreamStart, StreamEnd, DocumentStart, DocumentEnd, Alias, Scalar, SequenceStart, SequenceEnd, MappingStart, MappingEnd}
use Rattle.events.specs.declared.kinds.ScalarStyle.{ScalarStyle}
use Rattle.events.specs.declared.kinds.ScalarStyle.TheVariants.{Plain, SingleQuoted, DoubleQuoted, Literal, Folded}
use Rattle.notation.specs.declared.parts.Shape.{Shape}
use Rattle.notation.specs.declared.parts.Shape.TheVariants.{Bare, Start, Value, Name}
use Rattle.notation.specs.declared.line.LineError.{LineError}
use Rattle.notation.specs.declared.line.LineError.TheVariants.{EmptyName, UnclosedTag, LineBreak, BadProperty, BadEscape}
use Rattle.slices.specs.Fields.{is_empty, place_of, lacks, marked}
use Rattle.notation.specs.Escapes.{escaped}
use Rattle.notation.specs.Lines.{Said, Part, Valued, opener, shape_of, name_mark, style_byte, fitting, value_fits, printable, shown_name, shown_tag, shown_value, shown_rest, shown, and_then, or_error, without_extra, named_in, name_in, tagged_in, tag_in, value_in, joined_parts, rest_of, parts_of, with_value, unescaped_value, line_of}
use Rattle.slices.proofs.Places.{place_append, lacks_append, lacks_cons}
use Rattle.notation.proofs.Escaping.{escaped_reads, escaped_lacks}

-- the opener of a kind is read as that kind
opened : (k : EventKind) (xs : List ℕ) → parts_of (opener k ++ xs) ≡ rest_of k (without_extra k xs)
opened StreamStart xs = refl
opened StreamEnd xs = refl
opened DocumentStart xs = refl
opened DocumentEnd xs = refl
opened Alias xs = refl
opened Scalar xs = refl
opened SequenceStart xs = refl
opened SequenceEnd xs = refl
opened MappingStart xs = refl
opened MappingEnd xs = refl

some_length : (xs : List ℕ) → is_empty xs ≡ false → eqb (length xs) 0 ≡ false
some_length [] e = absurd (false≢true (sym e))
some_length (x ∷ xs) e = ne_eqb (suc (length xs)) 0 (λ w. omega arith)

-- a name that is written ends where the next part begins
named_back : (a ys : List ℕ) → is_empty a ≡ false → lacks 32 a ≡ true → place_of 32 ys ≡ 0 → named_in (a ++ ys) ≡ Ok (record { text = a; rest = ys })
named_back a ys e h z =
    let p : place_of 32 (a ++ ys) ≡ length a = let q = place_append 32 a ys h in omega arith in
    ap (λ n. cond (eqb n 0) (Err EmptyName) (Ok (record { text = take n (a ++ ys); rest = drop n (a ++ ys) }))) p
    ∙ cond-false (eqb (length a) 0) (Err EmptyName) (Ok (record { text = take (length a) (a ++ ys); rest = drop (length a) (a ++ ys) })) (some_length a e)
    ∙ ap (λ l. Ok (record { text = l; rest = drop (length a) (a ++ ys) })) (take_at a ys (length a) refl)
    ∙ ap (λ l. Ok (record { text = a; rest = l })) (drop_at a ys (length a) refl)

name_back : (mark : ℕ) (a ys : List ℕ) → lacks 32 a ≡ true → place_of 32 ys ≡ 0 → marked mark ys ≡ false → name_in mark (shown_name mark a ++ ys) ≡ Ok (record { text = a; rest = ys })
name_back mark [] ys h z m = cond-false (marked mark ys) (named_in (drop 2 ys)) (Ok (record { text = []; rest = ys })) m
name_back mark (x ∷ a) ys h z m =
    cond-true (eqb mark mark) (named_in ((x ∷ a) ++ ys)) (Ok (record { text = []; rest = 32 ∷ mark ∷ ((x ∷ a) ++ ys) })) (eq-eqb mark mark refl)
    ∙ named_back (x ∷ a) ys refl h z

-- a tag that is written ends at its `>`
tagged_back : (t ys : List ℕ) → is_empty t ≡ false → lacks 62 t ≡ true → tagged_in (t ++ (62 ∷ ys)) ≡ Ok (record { text = t; rest = ys })
tagged_back t ys e h =
    let xs = t ++ (62 ∷ ys) in
    let p : place_of 62 xs ≡ length t = let q = place_append 62 t (62 ∷ ys) h in omega arith in
    let l : lacks 62 xs ≡ false = ne_eqb (place_of 62 xs) (length xs) (λ w. omega (arith, length-append t (62 ∷ ys))) in
    let d : drop (length t + 1) xs ≡ ys = ap (drop (length t + 1)) (sym (append_assoc t (62 ∷ []) ys)) ∙ drop_at (t ++ (62 ∷ [])) ys (length t + 1) (length-append t (62 ∷ [])) in
    cond-false (lacks 62 xs) (Err UnclosedTag) (cond (eqb (place_of 62 xs) 0) (Err EmptyName) (Ok (record { text = take (place_of 62 xs) xs; rest = drop (place_of 62 xs + 1) xs }))) l
    ∙ ap (λ n. cond (eqb n 0) (Err EmptyName) (Ok (record { text = take n xs; rest = drop (n + 1) xs }))) p
    ∙ cond-false (eqb (length t) 0) (Err EmptyName) (Ok (record { text = take (length t) xs; rest = drop (length t + 1) xs })) (some_length t e)
    ∙ ap (λ l. Ok (record { text = l; rest = drop (length t + 1) xs })) (take_at t (62 ∷ ys) (length t) refl)
    ∙ ap (λ l. Ok (record { text = t; rest = l })) d

tag_back : (t ys : List ℕ) → lacks 62 t ≡ true → marked 60 ys ≡ false → tag_in (shown_tag t ++ ys) ≡ Ok (record { text = t; rest = ys })
tag_back [] ys h m = cond-false (marked 60 ys) (tagged_in (drop 2 ys)) (Ok (record { text = []; rest = ys })) m
tag_back (x ∷ t) ys h m = ap (λ l. tagged_in l) (append_assoc (x ∷ t) (62 ∷ []) ys) ∙ tagged_back (x ∷ t) ys refl h

-- a style and a value that fit are read as they are written
value_end : (s : ScalarStyle) (v : List ℕ) → value_fits Bare s v ≡ true → ◌≡◌ {A = Result Valued LineError} (Ok (record { style = Plain; text = [] })) (Ok (record { style = s; text = escaped v }))
value_end Plain [] h = refl
value_end Plain (x ∷ v) h = absurd (false≢true h)
value_end SingleQuoted v h = absurd (false≢true h)
value_end DoubleQuoted v h = absurd (false≢true h)
value_end Literal v h = absurd (false≢true h)
value_end Folded v h = absurd (false≢true h)

value_back : (p : Shape) (s : ScalarStyle) (v : List ℕ) → value_fits p s v ≡ true → value_in p (shown_value p s v) ≡ Ok (record { style = s; text = escaped v })
value_back Bare s v h = value_end s v h
value_back Start s v h = value_end s v h
value_back Name s v h = value_end s v h
value_back Value Plain v h = refl
value_back Value SingleQuoted v h = refl
value_back Value DoubleQuoted v h = refl
value_back Value Literal v h = refl
value_back Value Folded v h = refl

-- what stands behind a tag is no tag, and what stands behind a name is no name
no_tag : (p : Shape) (s : ScalarStyle) (v : List ℕ) → marked 60 (shown_value p s v) ≡ false
no_tag Bare s v = refl
no_tag Start s v = refl
no_tag Name s v = refl
no_tag Value Plain v = refl
no_tag Value SingleQuoted v = refl
no_tag Value DoubleQuoted v = refl
no_tag Value Literal v = refl
no_tag Value Folded v = refl

no_name : (p : Shape) (s : ScalarStyle) (v t : List ℕ) → marked (name_mark p) (shown_tag t ++ shown_value p s v) ≡ false
no_name Bare s v [] = refl
no_name Start s v [] = refl
no_name Name s v [] = refl
no_name Value Plain v [] = refl
no_name Value SingleQuoted v [] = refl
no_name Value DoubleQuoted v [] = refl
no_name Value Literal v [] = refl
no_name Value Folded v [] = refl
no_name Bare s v (x ∷ t) = refl
no_name Start s v (x ∷ t) = refl
no_name Name s v (x ∷ t) = refl
no_name Value s v (x ∷ t) = refl

name_ends : (p : Shape) (s : ScalarStyle) (v t : List ℕ) → place_of 32 (shown_tag t ++ shown_value p s v) ≡ 0
name_ends Bare s v [] = refl
name_ends Start s v [] = refl
name_ends Name s v [] = refl
name_ends Value s v [] = refl
name_ends p s v (x ∷ t) = refl

-- what is written behind an opener does not begin with the part that says nothing
no_extra_start : (a t : List ℕ) → (without_extra MappingStart (shown_name 38 a ++ (shown_tag t ++ [])) ≡ shown_name 38 a ++ (shown_tag t ++ [])) × (without_extra SequenceStart (shown_name 38 a ++ (shown_tag t ++ [])) ≡ shown_name 38 a ++ (shown_tag t ++ []))
no_extra_start [] [] = (refl, refl)
no_extra_start [] (y ∷ t) = (refl, refl)
no_extra_start (x ∷ a) t = (refl, refl)

no_extra_bare : (a t : List ℕ) → fitting Bare a t ≡ true → (without_extra DocumentStart (shown_name 38 a ++ (shown_tag t ++ [])) ≡ shown_name 38 a ++ (shown_tag t ++ [])) × (without_extra DocumentEnd (shown_name 38 a ++ (shown_tag t ++ [])) ≡ shown_name 38 a ++ (shown_tag t ++ []))
no_extra_bare [] [] h = (refl, refl)
no_extra_bare [] (y ∷ t) h = absurd (false≢true h)
no_extra_bare (x ∷ a) t h = absurd (false≢true h)

no_extra : (k : EventKind) (a t : List ℕ) (s : ScalarStyle) (v : List ℕ) → fitting (shape_of k) a t ≡ true → without_extra k (shown_name (name_mark (shape_of k)) a ++ (shown_tag t ++ shown_value (shape_of k) s v)) ≡ shown_name (name_mark (shape_of k)) a ++ (shown_tag t ++ shown_value (shape_of k) s v)
no_extra StreamStart a t s v h = refl
no_extra StreamEnd a t s v h = refl
no_extra DocumentStart a t s v h = (no_extra_bare a t h).0
no_extra DocumentEnd a t s v h = (no_extra_bare a t h).1
no_extra Alias a t s v h = refl
no_extra Scalar a t s v h = refl
no_extra SequenceStart a t s v h = (no_extra_start a t).1
no_extra SequenceEnd a t s v h = refl
no_extra MappingStart a t s v h = (no_extra_start a t).0
no_extra MappingEnd a t s v h = refl

-- a line as it is written has no line feed
opener_lacks : (k : EventKind) → lacks 10 (opener k) ≡ true
opener_lacks StreamStart = refl
opener_lacks StreamEnd = refl
opener_lacks DocumentStart = refl
opener_lacks DocumentEnd = refl
opener_lacks Alias = refl
opener_lacks Scalar = refl
opener_lacks SequenceStart = refl
opener_lacks SequenceEnd = refl
opener_lacks MappingStart = refl
opener_lacks MappingEnd = refl

mark_other : (p : Shape) → eqb (name_mark p) 10 ≡ false
mark_other Bare = refl
mark_other Start = refl
mark_other Value = refl
mark_other Name = refl

style_other : (s : ScalarStyle) → eqb (style_byte s) 10 ≡ false
style_other Plain = refl
style_other SingleQuoted = refl
style_other DoubleQuoted = refl
style_other Literal = refl
style_other Folded = refl

name_lacks : (mark : ℕ) (a : List ℕ) → eqb mark 10 ≡ false → lacks 10 a ≡ true → lacks 10 (shown_name mark a) ≡ true
name_lacks mark [] m h = refl
name_lacks mark (x ∷ a) m h = lacks_cons 10 32 (mark ∷ (x ∷ a)) refl (lacks_cons 10 mark (x ∷ a) m h)

tag_lacks : (t : List ℕ) → lacks 10 t ≡ true → lacks 10 (shown_tag t) ≡ true
tag_lacks [] h = refl
tag_lacks (x ∷ t) h =
    lacks_cons 10 32 (60 ∷ ((x ∷ t) ++ (62 ∷ []))) refl (lacks_cons 10 60 ((x ∷ t) ++ (62 ∷ [])) refl (lacks_append 10 (x ∷ t) (62 ∷ []) h refl))

value_lacks : (p : Shape) (s : ScalarStyle) (v : List ℕ) → lacks 10 (shown_value p s v) ≡ true
value_lacks Bare s v = refl
value_lacks Start s v = refl
value_lacks Name s v = refl
value_lacks Value s v = lacks_cons 10 32 (style_byte s ∷ escaped v) refl (lacks_cons 10 (style_byte s) (escaped v) (style_other s) (escaped_lacks v))

-- the facts that a printable line gives
record Fair (l : Said) : Type 0 where
  fits : fitting (shape_of l.kind) l.anchor l.tag ≡ true
  valued : value_fits (shape_of l.kind) l.style l.value ≡ true
  anchor_space : lacks 32 l.anchor ≡ true
  anchor_line : lacks 10 l.anchor ≡ true
  tag_end : lacks 62 l.tag ≡ true
  tag_line : lacks 10 l.tag ≡ true

fair : (l : Said) → printable l ≡ true → Fair l
fair l h =
    let p = and_parts _ _ h in
    let f = and_parts _ _ p.0 in
    let q = and_parts _ _ p.1 in
    let a = and_parts _ _ q.0 in
    let t = and_parts _ _ q.1 in
    record { fits = f.0; valued = f.1; anchor_space = a.0; anchor_line = a.1; tag_end = t.0; tag_line = t.1 }

one_line : (l : Said) → Fair l → lacks 10 (shown l) ≡ true
one_line l h =
    let k = l.kind in
    let p = shape_of k in
    lacks_append 10 (opener k) (shown_rest l) (opener_lacks k)
    (lacks_append 10 (shown_name (name_mark p) l.anchor) _ (name_lacks (name_mark p) l.anchor (mark_other p) h.anchor_line)
    (lacks_append 10 (shown_tag l.tag) (shown_value p l.style l.value) (tag_lacks l.tag h.tag_line) (value_lacks p l.style l.value)))

-- the parts of what is written are the parts of the line, its value escaped
parts_back : (l : Said) → Fair l → rest_of l.kind (shown_rest l) ≡ Ok (with_value l (escaped l.value))
parts_back l h =
    let k = l.kind in
    let p = shape_of k in
    let zs = shown_value p l.style l.value in
    let ys = shown_tag l.tag ++ zs in
    let last : Part → Part → Result Said LineError = λ a t. and_then (value_in p t.rest) (λ v. joined_parts k a.text t.text v) in
    ap (λ r. and_then r (λ a. and_then (tag_in a.rest) (λ t. last a t))) (name_back (name_mark p) l.anchor ys h.anchor_space (name_ends p l.style l.value l.tag) (no_name p l.style l.value l.tag))
    ∙ ap (λ r. and_then r (λ t. last (record { text = l.anchor; rest = ys }) t)) (tag_back l.tag zs h.tag_end (no_tag p l.style l.value))
    ∙ ap (λ r. and_then r (λ v. joined_parts k l.anchor l.tag v)) (value_back p l.style l.value h.valued)
    ∙ cond-true (fitting p l.anchor l.tag) (Ok (with_value l (escaped l.value))) (Err BadProperty) h.fits

pub reads_back : (l : Said) → printable l ≡ true → line_of (shown l) ≡ Ok l
reads_back l printed =
    let h = fair l printed in
    let k = l.kind in
    cond-true (lacks 10 (shown l)) (and_then (parts_of (shown l)) unescaped_value) (Err LineBreak) (one_line l h)
    ∙ ap (λ r. and_then r unescaped_value) (opened k (shown_rest l) ∙ ap (rest_of k) (no_extra k l.anchor l.tag l.style l.value h.fits) ∙ parts_back l h)
    ∙ ap (λ o. and_then (or_error o BadEscape) (λ v. Ok (with_value l v))) (escaped_reads l.value)
