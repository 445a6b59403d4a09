-- A line that was read can be printed.
use Rattle.std.proofs.Common.{◌≡◌, ℕ, ◌+◌, Bool, true, false, cond, ◌&&◌, eqb, List, [], ◌∷◌, length, take, drop, Some, None, Ok, Err, Option, Result, refl, ap, ◌∙◌, subst, arith}
use Rattle.std.specs.Str.{bytes_eq}
use Rattle.std.proofs.lemmas.Bool.{and_parts, and_from, cond_both, false≢true}
use Rattle.events.specs.declared.kinds.EventKind.{EventKind}
use Rattle.events.specs.declared.kinds.ScalarStyle.{ScalarStyle}
use Rattle.events.specs.declared.kinds.ScalarStyle.TheVariants.{Plain}
use Rattle.notation.specs.declared.parts.Shape.{Shape}
use Rattle.notation.specs.declared.parts.Shape.TheVariants.{Bare, Start, Value, Name}
use Rattle.notation.specs.declared.line.LineError.{LineError}
use Rattle.notation.specs.declared.line.LineError.TheVariants.{LineBreak, UnknownOpener, EmptyName, UnclosedTag, BadProperty, BadEscape, TrailingText}
use Rattle.slices.specs.Fields.{is_empty, place_of, lacks, marked}
use Rattle.notation.specs.Escapes.{unescaped}
use Rattle.notation.specs.Lines.{Said, Part, Valued, extra, shape_of, name_mark, is_plain, fitting, value_fits, printable, kind_of, and_then, or_error, without_extra, named_in, name_in, tagged_in, tag_in, end_in, value_in, joined_parts, rest_of, parts_of, with_value, unescaped_value, line_of}
use Rattle.slices.proofs.Places.{lacks_take, lacks_drop, lacks_front}

-- what an answer that was read says of the steps before it
never_ok : {A : Type 0} (e : LineError) (y : A) → ◌≡◌ {A = Result A LineError} (Err e) (Ok y) → ⊥
never_ok e y h = let z : ◌≡◌ {A = ℕ} 0 1 = cc in omega arith

ok_same : {A : Type 0} (x y : A) → ◌≡◌ {A = Result A LineError} (Ok x) (Ok y) → x ≡ y
ok_same x y h = cc

some_same : {A : Type 0} (x y : A) → Some x ≡ Some y → x ≡ y
some_same x y h = cc

ok_if : {A : Type 0} (t : Bool) (x : Result A LineError) (e : LineError) (y : A) → cond t x (Err e) ≡ Ok y → (t ≡ true) × (x ≡ Ok y)
ok_if true x e y h = (refl, h)
ok_if false x e y h = absurd (never_ok e y h)

ok_unless : {A : Type 0} (t : Bool) (x : Result A LineError) (e : LineError) (y : A) → cond t (Err e) x ≡ Ok y → x ≡ Ok y
ok_unless true x e y h = absurd (never_ok e y h)
ok_unless false x e y h = h

ok_then : {A B : Type 0} (r : Result A LineError) (f : A → Result B LineError) (y : B) → and_then r f ≡ Ok y → (x : A) × (r ≡ Ok x) × (f x ≡ Ok y)
ok_then (Ok x) f y h = (x, refl, h)
ok_then (Err e) f y h = absurd (never_ok e y h)

ok_some : {A : Type 0} (o : Option A) (e : LineError) (y : A) → or_error o e ≡ Ok y → o ≡ Some y
ok_some None e y h = absurd (never_ok e y h)
ok_some (Some x) e y h = ap Some (ok_same x y h)

-- a part lacks the byte that ends it, and no line feed comes in
abbrev Clean : ℕ → Part → Type 0
Clean b p = (lacks b p.text ≡ true) × (lacks 10 p.text ≡ true) × (lacks 10 p.rest ≡ true)

module _ (xs : List ℕ) (p : Part) (h : lacks 10 xs ≡ true) where
  none_read : (b : ℕ) → ◌≡◌ {A = Result Part LineError} (Ok (record { text = []; rest = xs })) (Ok p) → Clean b p
  none_read b e = subst (Clean b) (ok_same _ p e) (refl, refl, h)

  named_read : named_in (drop 2 xs) ≡ Ok p → Clean 32 p
  named_read e =
      let ys = drop 2 xs in
      let l = lacks_drop 10 2 xs h in
      let q = ok_unless (eqb (place_of 32 ys) 0) (Ok (record { text = take (place_of 32 ys) ys; rest = drop (place_of 32 ys) ys })) EmptyName p e in
      subst (Clean 32) (ok_same _ p q) (lacks_front 32 ys, lacks_take 10 (place_of 32 ys) ys l, lacks_drop 10 (place_of 32 ys) ys l)

  tagged_read : tagged_in (drop 2 xs) ≡ Ok p → Clean 62 p
  tagged_read e =
      let ys = drop 2 xs in
      let l = lacks_drop 10 2 xs h in
      let part : Result Part LineError = Ok (record { text = take (place_of 62 ys) ys; rest = drop (place_of 62 ys + 1) ys }) in
      let q = ok_unless (lacks 62 ys) (cond (eqb (place_of 62 ys) 0) (Err EmptyName) part) UnclosedTag p e in
      let r = ok_unless (eqb (place_of 62 ys) 0) part EmptyName p q in
      subst (Clean 62) (ok_same _ p r) (lacks_front 62 ys, lacks_take 10 (place_of 62 ys) ys l, lacks_drop 10 (place_of 62 ys + 1) ys l)

  name_by : (t : Bool) → cond t (named_in (drop 2 xs)) (Ok (record { text = []; rest = xs })) ≡ Ok p → Clean 32 p
  name_by true e = named_read e
  name_by false e = none_read 32 e

  tag_by : (t : Bool) → cond t (tagged_in (drop 2 xs)) (Ok (record { text = []; rest = xs })) ≡ Ok p → Clean 62 p
  tag_by true e = tagged_read e
  tag_by false e = none_read 62 e

-- a value that was read fits its line, escaped or not
end_read : (xs : List ℕ) (v : Valued) → end_in xs ≡ Ok v → value_fits Bare v.style v.text ≡ true
end_read xs v e = subst (λ w. value_fits Bare w.style w.text ≡ true) (ok_same _ v (ok_if (is_empty xs) (Ok (record { style = Plain; text = [] })) TrailingText v e).1) refl

value_read : (p : Shape) (xs : List ℕ) (v : Valued) → value_in p xs ≡ Ok v → value_fits p v.style v.text ≡ true
value_read Bare xs v e = end_read xs v e
value_read Start xs v e = end_read xs v e
value_read Value xs v e = refl
value_read Name xs v e = end_read xs v e

empty_kept : (s : ScalarStyle) (t v : List ℕ) → value_fits Bare s t ≡ true → unescaped t ≡ Some v → value_fits Bare s v ≡ true
empty_kept s [] v h e = subst (λ w. (is_plain s && is_empty w) ≡ true) (some_same [] v e) h
empty_kept s (x ∷ t) v h e = absurd (false≢true (and_parts (is_plain s) false h).1)

value_kept : (p : Shape) (s : ScalarStyle) (t v : List ℕ) → value_fits p s t ≡ true → unescaped t ≡ Some v → value_fits p s v ≡ true
value_kept Bare s t v h e = empty_kept s t v h e
value_kept Start s t v h e = empty_kept s t v h e
value_kept Value s t v h e = refl
value_kept Name s t v h e = empty_kept s t v h e

extra_lacks : (k : EventKind) (xs : List ℕ) → lacks 10 xs ≡ true → lacks 10 (without_extra k xs) ≡ true
extra_lacks k xs h = cond_both (bytes_eq (take (length (extra k)) xs) (extra k)) (drop (length (extra k)) xs) xs (λ ys. lacks 10 ys ≡ true) (λ _. lacks_drop 10 (length (extra k)) xs h) (λ _. h)

-- the parts behind an opener are those of a printable line, whatever value stands for the text of its value
rest_read : (k : EventKind) (xs : List ℕ) (q : Said) (v : List ℕ) → lacks 10 xs ≡ true → rest_of k xs ≡ Ok q → unescaped q.value ≡ Some v → printable (with_value q v) ≡ true
rest_read k xs q v h e u =
    let p = shape_of k in
    let a = ok_then (name_in (name_mark p) xs) (λ a. and_then (tag_in a.rest) (λ t. and_then (value_in p t.rest) (λ w. joined_parts k a.text t.text w))) q e in
    let t = ok_then (tag_in a.0.rest) (λ t. and_then (value_in p t.rest) (λ w. joined_parts k a.0.text t.text w)) q a.2 in
    let w = ok_then (value_in p t.0.rest) (λ w. joined_parts k a.0.text t.0.text w) q t.2 in
    let j = ok_if (fitting p a.0.text t.0.text) (Ok (record { kind = k; anchor = a.0.text; tag = t.0.text; style = w.0.style; value = w.0.text })) BadProperty q w.2 in
    let same = ok_same _ q j.1 in
    let ca = name_by xs a.0 h (marked (name_mark p) xs) a.1 in
    let ct = tag_by a.0.rest t.0 ca.2 (marked 60 a.0.rest) t.1 in
    let kept = value_kept p w.0.style w.0.text v (value_read p t.0.rest w.0 w.1) (ap (λ l. unescaped l.value) same ∙ u) in
    subst (λ l. printable (with_value l v) ≡ true) same
    (and_from _ _ (and_from _ _ j.0 kept) (and_from _ _ (and_from _ _ ca.0 ca.1) (and_from _ _ ct.0 ct.1)))

pub read_printable : (xs : List ℕ) (l : Said) → line_of xs ≡ Ok l → printable l ≡ true
read_printable xs l h =
    let a = ok_if (lacks 10 xs) (and_then (parts_of xs) unescaped_value) LineBreak l h in
    let b = ok_then (parts_of xs) unescaped_value l a.1 in
    let c = ok_then (or_error (unescaped b.0.value) BadEscape) (λ v. Ok (with_value b.0 v)) l b.2 in
    let d = ok_then (or_error (kind_of (take 4 xs)) UnknownOpener) (λ k. rest_of k (without_extra k (drop 4 xs))) b.0 b.1 in
    subst (λ m. printable m ≡ true) (ok_same _ l c.2)
    (rest_read d.0 (without_extra d.0 (drop 4 xs)) b.0 c.0 (extra_lacks d.0 (drop 4 xs) (lacks_drop 10 4 xs a.0)) d.2 (ok_some (unescaped b.0.value) BadEscape c.0 c.1))
