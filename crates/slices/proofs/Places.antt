-- The place of a byte, as it is found, and in a list behind another.
use Rattle.std.proofs.Common.{◌≡◌, ℕ, suc, ◌+◌, Bool, true, false, cond, not, ◌||◌, eqb, ltb, ◌≤◌, List, [], ◌∷◌, ◌++◌, length, take, drop, Some, None, Option, unwrap_or, sym, refl, ap, ◌∙◌, one-add, arith, rules, length-append}
use Rattle.std.proofs.lemmas.List.{take-append-drop}
use Rattle.std.proofs.lemmas.Bool.{eq-eqb, ne_eqb, eqb-true, ltb-false}
use Rattle.std.proofs.lemmas.List.Sums.{prefix_len-le-length}
use Rattle.std.proofs.lemmas.List.Recursion.{is_position_or_len}
use Rattle.std.specs.List.{position, position_or_len, list_any}
use Rattle.slices.specs.Fields.{place_of, lacks}

found_by : (t : Bool) (n m : ℕ) → ltb n m ≡ t → n ≤ m → unwrap_or (cond t (Some n) None) m ≡ n
found_by true n m e h = refl
found_by false n m e h = let k = ltb-false n m e in omega arith

pub found_or_len : (p : ℕ → Bool) (xs : List ℕ) → unwrap_or (position p xs) (length xs) ≡ position_or_len p xs
found_or_len p xs = let n = position_or_len p xs in found_by (ltb n (length xs)) n (length xs) refl (prefix_len-le-length (λ x. not (p x)) xs)

-- the place that a search finds, or the length where it finds none
pub place_found : (b : ℕ) (xs : List ℕ) (o : Option ℕ) → o ≡ position (λ x. eqb x b) xs → unwrap_or o (length xs) ≡ place_of b xs
place_found b xs o e = ap (λ p. unwrap_or p (length xs)) e ∙ found_or_len (λ x. eqb x b) xs ∙ sym (is_position_or_len (place_of b) (λ x. eqb x b) refl (λ x xs. refl) xs)

-- a byte is none of a list just where its place is the length
none_by : (t : Bool) (b : ℕ) (xs : List ℕ) → not (list_any (λ x. eqb x b) xs) ≡ lacks b xs → not (t || list_any (λ x. eqb x b) xs) ≡ eqb (cond t 0 (1 + place_of b xs)) (suc (length xs))
none_by true b xs h = sym (ne_eqb 0 (suc (length xs)) (λ w. omega arith))
none_by false b xs h = h ∙ search rules

pub none_is_lacking : (b : ℕ) (xs : List ℕ) → not (list_any (λ x. eqb x b) xs) ≡ lacks b xs
none_is_lacking b [] = refl
none_is_lacking b (x ∷ xs) = none_by (eqb x b) b xs (none_is_lacking b xs)

-- a list that lacks a byte has another head, and its tail lacks it
lacks_parts : (t : Bool) (p n : ℕ) → eqb (cond t 0 (1 + p)) (suc n) ≡ true → (t ≡ false) × (eqb p n ≡ true)
lacks_parts true p n e = absurd (let h = eqb-true 0 (suc n) e in omega arith)
lacks_parts false p n e = (refl, eq-eqb p n (let h = eqb-true (1 + p) (suc n) e in omega arith))

pub lacks_cons : (b x : ℕ) (xs : List ℕ) → eqb x b ≡ false → lacks b xs ≡ true → lacks b (x ∷ xs) ≡ true
lacks_cons b x xs e h =
    let p = eqb-true (place_of b xs) (length xs) h in
    ap (λ t. eqb (cond t 0 (1 + place_of b xs)) (suc (length xs))) e ∙ eq-eqb (1 + place_of b xs) (suc (length xs)) (omega arith)

-- the place of a byte behind a list that lacks it
pub place_append : (b : ℕ) (xs ys : List ℕ) → lacks b xs ≡ true → place_of b (xs ++ ys) ≡ length xs + place_of b ys
place_append b [] ys h = omega arith
place_append b (x ∷ xs) ys h =
    let p = lacks_parts (eqb x b) (place_of b xs) (length xs) h in
    let q = place_append b xs ys p.1 in
    ap (λ t. cond t 0 (1 + place_of b (xs ++ ys))) p.0 ∙ omega arith

pub lacks_append : (b : ℕ) (xs ys : List ℕ) → lacks b xs ≡ true → lacks b ys ≡ true → lacks b (xs ++ ys) ≡ true
lacks_append b xs ys h k =
    let p = place_append b xs ys h in
    let q = eqb-true (place_of b ys) (length ys) k in
    eq-eqb (place_of b (xs ++ ys)) (length (xs ++ ys)) (omega (arith, length-append xs ys))

pub lacks_split : (b : ℕ) (xs ys : List ℕ) → lacks b (xs ++ ys) ≡ true → (lacks b xs ≡ true) × (lacks b ys ≡ true)
lacks_split b [] ys h = (refl, h)
lacks_split b (x ∷ xs) ys h =
    let p = lacks_parts (eqb x b) (place_of b (xs ++ ys)) (length (xs ++ ys)) h in
    let q = lacks_split b xs ys p.1 in
    (lacks_cons b x xs p.0 q.0, q.1)

pub lacks_take : (b n : ℕ) (xs : List ℕ) → lacks b xs ≡ true → lacks b (take n xs) ≡ true
lacks_take b n xs h = (lacks_split b (take n xs) (drop n xs) (ap (lacks b) (take-append-drop n xs) ∙ h)).0

pub lacks_drop : (b n : ℕ) (xs : List ℕ) → lacks b xs ≡ true → lacks b (drop n xs) ≡ true
lacks_drop b n xs h = (lacks_split b (take n xs) (drop n xs) (ap (lacks b) (take-append-drop n xs) ∙ h)).1

-- what stands before the first byte b lacks it
front_by : (b x : ℕ) (xs : List ℕ) (t : Bool) → eqb x b ≡ t → lacks b (take (place_of b xs) xs) ≡ true → lacks b (take (cond t 0 (1 + place_of b xs)) (x ∷ xs)) ≡ true
front_by b x xs true e h = refl
front_by b x xs false e h = ap (λ n. lacks b (take n (x ∷ xs))) (one-add (place_of b xs)) ∙ lacks_cons b x (take (place_of b xs) xs) e h

pub lacks_front : (b : ℕ) (xs : List ℕ) → lacks b (take (place_of b xs) xs) ≡ true
lacks_front b [] = refl
lacks_front b (x ∷ xs) = front_by b x xs (eqb x b) refl (lacks_front b xs)

within_by : (t : Bool) (p n : ℕ) → p ≤ n → cond t 0 (1 + p) ≤ suc n
within_by true p n h = omega arith
within_by false p n h = omega (arith, h)

pub place_within : (b : ℕ) (xs : List ℕ) → place_of b xs ≤ length xs
place_within b [] = omega arith
place_within b (x ∷ xs) = within_by (eqb x b) (place_of b xs) (length xs) (place_within b xs)
