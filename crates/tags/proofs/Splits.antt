-- A list split at its first `#`.
use Rattle.std.proofs.Common.{◌≡◌, ℕ, suc, ◌+◌, ◌<◌, ◌≤◌, Bool, true, false, cond, not, ◌||◌, eqb, ltb, ◌⊎◌, List, [], ◌∷◌, ◌++◌, length, take, drop, is_some, Some, None, Option, MatchOption, sym, refl, ap, ◌∙◌, subst, inl, inr, arith, Bor}
use Rattle.std.specs.List.{position, position_or_len}
use Rattle.std.proofs.lemmas.Bool.{ne_eqb, eqb-true, lt-ltb, le-ltb, cases_Bool, or_parts, or_right}
use Rattle.tags.specs.Hashes.{Parts, parts, hashed, behind_byte, split_at_hash, told_parts, is_empty}
use Rattle.tags.specs.Causes.{SplitsInto, NonEmpty}

or_assoc : (x y z : Bool) → ((x || y) || z) ≡ (x || (y || z))
or_assoc true y z = refl
or_assoc false y z = refl

pub hashed_append : (xs ys : List ℕ) → hashed (xs ++ ys) ≡ (hashed xs || hashed ys)
hashed_append [] ys = refl
hashed_append (x ∷ xs) ys = ap (λ b. eqb x 35 || b) (hashed_append xs ys) ∙ sym (or_assoc (eqb x 35) (hashed xs) (hashed ys))

-- a list with a `#` inside has one
pub hashed_inside : (p a : List ℕ) → hashed (p ++ 35 ∷ a) ≡ true
hashed_inside p a = hashed_append p (35 ∷ a) ∙ or_right (hashed p) true refl

pub split_none : (xs : List ℕ) → hashed xs ≡ false → split_at_hash xs ≡ None
split_none [] h = refl
split_none (x ∷ xs) h =
    let q = or_parts (eqb x 35) (hashed xs) h in
    rw (q.0, split_none xs q.1)

pub split_at : (p a : List ℕ) → hashed p ≡ false → split_at_hash (p ++ 35 ∷ a) ≡ Some (parts p a)
split_at [] a h = refl
split_at (x ∷ p) a h =
    let q = or_parts (eqb x 35) (hashed p) h in
    rw (q.0, split_at p a q.1)

pub split_into : (xs p a : List ℕ) → SplitsInto xs p a → split_at_hash xs ≡ Some (parts p a)
split_into xs p a h = ap split_at_hash h.0 ∙ split_at p a h.1

-- a list has no `#`, or is split at its first one
pub split_cases : (xs : List ℕ) → (hashed xs ≡ false) ⊎ ((p : List ℕ) × ((a : List ℕ) × SplitsInto xs p a))
split_cases [] = inl refl
split_cases (x ∷ xs) =
    elim (cases_Bool (eqb x 35)) [
      | inl e ↦ inr ([], (xs, (ap (λ y. y ∷ xs) (eqb-true x 35 e), refl)))
      | inr e ↦ elim (split_cases xs) [
        | inl h ↦ inl (rw (e, h))
        | inr s ↦ inr (x ∷ s.0, (s.1.0, (ap (λ ys. x ∷ ys) s.1.1.0, rw (e, s.1.1.1))))
      ]
    ]

pub same_split : (p a q b : List ℕ) → hashed p ≡ false → hashed q ≡ false → p ++ 35 ∷ a ≡ q ++ 35 ∷ b → p ≡ q
same_split p a q b hp hq e =
    let s : split_at_hash (p ++ 35 ∷ a) ≡ Some (parts p a) = split_at p a hp in
    let t : split_at_hash (q ++ 35 ∷ b) ≡ Some (parts q b) = split_at q b hq in
    let u = ap split_at_hash e in
    cc

abbrev place : List ℕ → ℕ
place xs = position_or_len (λ x. eqb x 35) xs

-- two sides of a place, or none where the place lies past the list's end
abbrev SplitsAt : List ℕ → ℕ → Option Parts → Type 0
SplitsAt xs n r = ((length xs ≤ n) × (r ≡ None)) ⊎ ((n < length xs) × (r ≡ Some (parts (take n xs) (drop (n + 1) xs))))

split_place : (xs : List ℕ) → SplitsAt xs (place xs) (split_at_hash xs)
split_place [] = inl (omega arith, refl)
split_place (x ∷ xs) = at (eqb x 35) (split_place xs)
  where
    at : (b : Bool) → SplitsAt xs (place xs) (split_at_hash xs) → SplitsAt (x ∷ xs) (cond (not b) (1 + place xs) 0) (cond b (Some (parts [] xs)) (behind_byte x (split_at_hash xs)))
    at true _ = inr (omega arith, refl)
    at false (inl h) = inl (omega (arith, h.0), ap (behind_byte x) h.1)
    at false (inr h) =
        let front : 1 + place xs ≡ suc (place xs) = omega arith in
        let back : 1 + place xs + 1 ≡ suc (place xs + 1) = omega arith in
        inr (omega (arith, h.0), rw (back, front) (ap (behind_byte x) h.1))

-- what stands before and after the place that was found
abbrev pub Cuts : List ℕ → Option ℕ → Type 0
Cuts xs o = MatchOption o (split_at_hash xs ≡ None) (λ i. (i < length xs) × (split_at_hash xs ≡ Some (parts (take i xs) (drop (i + 1) xs))))

pub cuts : (xs : List ℕ) (o : Option ℕ) → o ≡ position (λ x. eqb x 35) xs → Cuts xs o
cuts xs o e = subst (Cuts xs) (sym e) (at (split_place xs))
  where
    at : SplitsAt xs (place xs) (split_at_hash xs) → Cuts xs (cond (ltb (place xs) (length xs)) (Some (place xs)) None)
    at (inl h) = rw (le-ltb (place xs) (length xs) h.0) h.1
    at (inr h) = rw (lt-ltb (place xs) (length xs) h.0) h

pub empty_false : (xs : List ℕ) → is_empty xs ≡ false → NonEmpty xs
empty_false xs h e =
    let t = ap is_empty e in
    let z : ◌≡◌ {A = ℕ} 0 1 = cc in omega arith

pub nonempty_false : (xs : List ℕ) → NonEmpty xs → is_empty xs ≡ false
nonempty_false [] n = absurd (n refl)
nonempty_false (x ∷ xs) n = refl

pub empty_is : (xs : List ℕ) → is_empty xs ≡ eqb (length xs) 0
empty_is [] = refl
empty_is (x ∷ xs) = sym (ne_eqb (length (x ∷ xs)) 0 (λ e. omega arith))

told_some : (r : Option (Bor (List ℕ) × Bor (List ℕ))) → is_some r ≡ is_some (told_parts r)
told_some None = refl
told_some (Some s) = refl

split_some : (xs : List ℕ) → is_some (split_at_hash xs) ≡ hashed xs
split_some xs =
    elim (split_cases xs) [
      | inl h ↦ ap is_some (split_none xs h) ∙ sym h
      | inr s ↦ ap is_some (split_into xs s.0 s.1.0 s.1.1) ∙ sym (ap hashed s.1.1.0 ∙ hashed_inside s.0 s.1.0)
    ]

-- a split is found exactly where there is a `#`
pub found_exactly : (r : Option (Bor (List ℕ) × Bor (List ℕ))) (xs : List ℕ) → told_parts r ≡ split_at_hash xs → is_some r ≡ hashed xs
found_exactly r xs e = told_some r ∙ ap is_some e ∙ split_some xs
