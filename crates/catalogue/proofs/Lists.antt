-- The laws of a list with one entry more, and of a list of which a number is withdrawn.
use Rattle.std.proofs.Common.{◌≡◌, ℕ, ◌<◌, true, false, not, ◌&&◌, ◌||◌, ltb, List, [], ◌∷◌, ◌++◌, length, sym, refl, ap, ◌∙◌, arith, length-append}
use Rattle.std.specs.Str.{bytes_eq}
use Rattle.std.proofs.lemmas.List.{length-map}
use Rattle.std.proofs.lemmas.Bool.{and_parts, and_from, or_parts, or_from, not-true, not_from_false}
use Rattle.std.proofs.lemmas.Bool.Decides.{same_from_decides, Decides-like}
use Rattle.std.proofs.lemmas.Slice.Eq.{bytes_eq-Decides}
use Rattle.catalogue.specs.Entries.{Entry, Lawful, known, numbered, distinct, withdrawn, withdrawn_entry}

module _ (n : ℕ) where
  -- the laws do not look at what stands
  pub known_withdrawn : (es : List Entry) (p : List ℕ) → known (withdrawn n es) p ≡ known es p
  known_withdrawn [] p = refl
  known_withdrawn (e ∷ es) p = ap (λ b. bytes_eq e.path p || b) (known_withdrawn es p)

  pub numbered_withdrawn : (es : List Entry) → numbered (withdrawn n es) ≡ numbered es
  numbered_withdrawn [] = refl
  numbered_withdrawn (e ∷ es) = ap (λ b. ltb 0 e.number && b) (numbered_withdrawn es)

  pub distinct_withdrawn : (es : List Entry) → distinct (withdrawn n es) ≡ distinct es
  distinct_withdrawn [] = refl
  distinct_withdrawn (e ∷ es) = ap (λ b. not b && distinct (withdrawn n es)) (known_withdrawn es e.path) ∙ ap (λ b. not (known es e.path) && b) (distinct_withdrawn es)

-- the laws, with one entry more
pub numbered_push : (es : List Entry) (e : Entry) → numbered es ≡ true → ltb 0 e.number ≡ true → numbered (es ++ e ∷ []) ≡ true
numbered_push [] e h k = and_from (ltb 0 e.number) true k refl
numbered_push (x ∷ es) e h k =
    let b = and_parts (ltb 0 x.number) (numbered es) h in
    and_from (ltb 0 x.number) (numbered (es ++ e ∷ [])) b.0 (numbered_push es e b.1 k)

pub same_sym : (xs ys : List ℕ) → bytes_eq xs ys ≡ bytes_eq ys xs
same_sym xs ys = same_from_decides _ _ (bytes_eq-Decides xs ys) (Decides-like (bytes_eq ys xs) sym sym (bytes_eq-Decides ys xs))

pub known_push : (es : List Entry) (e : Entry) (p : List ℕ) → known es p ≡ false → bytes_eq e.path p ≡ false → known (es ++ e ∷ []) p ≡ false
known_push [] e p h k = or_from (bytes_eq e.path p) false k refl
known_push (x ∷ es) e p h k =
    let b = or_parts (bytes_eq x.path p) (known es p) h in
    or_from (bytes_eq x.path p) (known (es ++ e ∷ []) p) b.0 (known_push es e p b.1 k)

pub distinct_push : (es : List Entry) (e : Entry) → distinct es ≡ true → known es e.path ≡ false → distinct (es ++ e ∷ []) ≡ true
distinct_push [] e h k = refl
distinct_push (x ∷ es) e h k =
    let b = and_parts (not (known es x.path)) (distinct es) h in
    let o = or_parts (bytes_eq x.path e.path) (known es e.path) k in
    let off : known es x.path ≡ false = not-true (known es x.path) b.0 in
    let new : known (es ++ e ∷ []) x.path ≡ false = known_push es e x.path off (same_sym e.path x.path ∙ o.0) in
    and_from (not (known (es ++ e ∷ []) x.path)) (distinct (es ++ e ∷ [])) (not_from_false (known (es ++ e ∷ []) x.path) new) (distinct_push es e b.1 o.1)

-- the laws, of a list with one entry more and of a list of which a number is withdrawn
pub lawful_push : (es : List Entry) (e : Entry) → Lawful es → length es < 256 → ltb 0 e.number ≡ true → known es e.path ≡ false → Lawful (es ++ e ∷ [])
lawful_push es e l room number new =
    record {
      at_most_256 = omega (arith, length-append es (e ∷ []));
      numbers_not_0 = numbered_push es e l.numbers_not_0 number;
      paths_distinct = distinct_push es e l.paths_distinct new;
    }

pub lawful_withdrawn : (n : ℕ) (es : List Entry) → Lawful es → Lawful (withdrawn n es)
lawful_withdrawn n es l =
    record {
      at_most_256 = omega (arith, length-map es (withdrawn_entry n), l.at_most_256);
      numbers_not_0 = numbered_withdrawn n es ∙ l.numbers_not_0;
      paths_distinct = distinct_withdrawn n es ∙ l.paths_distinct;
    }
