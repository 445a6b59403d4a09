-- Entries under flags: fresh flags change nothing, and what withdrawing by flags does.
use Rattle.std.proofs.Common.{◌≡◌, ℕ, zero, suc, ◌+◌, ◌<◌, ◌≤◌, Bool, true, false, cond, not, ◌&&◌, eqb, ◌≢◌, List, [], ◌∷◌, length, get_or, drop, Some, Err, find, replicate, sym, refl, ap, ◌∙◌, arith, length-set, get_or-set_other, get_or-set_same}
use Rattle.std.proofs.lemmas.Bool.{and_right}
use Rattle.std.specs.List.{zip}
use Rattle.std.specs.Option.{option_map_or}
use Rattle.std.proofs.lemmas.List.{drop_more}
use Rattle.std.proofs.lemmas.List.Sums.{sum_by-cons}
use Rattle.catalogue.specs.declared.answers.Unresolved.TheVariants.{Unknown}
use Rattle.catalogue.specs.Entries.{Entry, answer, has_path, look_up, withdrawn, standing}
use Rattle.binder.specs.Binding.{flagged, flagged_entry, flags_after}
use Rattle.binder.specs.Entries.{walk, entry_of, behind_entry}

fresh : (n i : ℕ) → get_or (replicate n false) i false ≡ false
fresh zero i = refl
fresh (suc n) zero = refl
fresh (suc n) (suc i) = fresh n i

pub flagged_fresh : (i m n : ℕ) (xs : List ℕ) → flagged i (replicate m false) (walk n xs) ≡ walk n xs
flagged_fresh i m zero xs = refl
flagged_fresh i m (suc n) xs = λ j. flagged_entry (fresh m i j) (entry_of xs) ∷ flagged_fresh (i + 1) m n (behind_entry xs) j

-- the flags once all entries of a number are withdrawn
abbrev pub struck : ℕ → List Entry → ℕ → List Bool → List Bool
struck n [] i fs = fs
struck n (e ∷ es) i fs = struck n es (i + 1) (flags_after (eqb e.number n) i fs)

pub length_after : (b : Bool) (i : ℕ) (fs : List Bool) → length (flags_after b i fs) ≡ length fs
length_after true i fs = length-set fs i true
length_after false i fs = refl

other_flag : (b : Bool) (i k : ℕ) (fs : List Bool) → k ≢ i → get_or (flags_after b i fs) k false ≡ get_or fs k false
other_flag true i k fs ne = get_or-set_other fs i k true false ne
other_flag false i k fs ne = refl

-- flags below are not looked at
flagged_after : (b : Bool) (i k : ℕ) (fs : List Bool) (es : List Entry) → i < k → flagged k (flags_after b i fs) es ≡ flagged k fs es
flagged_after b i k fs [] h = refl
flagged_after b i k fs (e ∷ es) h =
    let ne : k ≢ i = omega arith in
    λ j. flagged_entry (other_flag b i k fs ne j) e ∷ flagged_after b i (k + 1) fs es (omega arith) j

struck_below : (n : ℕ) (es : List Entry) (i k : ℕ) (fs : List Bool) → k < i → get_or (struck n es i fs) k false ≡ get_or fs k false
struck_below n [] i k fs h = refl
struck_below n (e ∷ es) i k fs h =
    let ne : k ≢ i = omega arith in
    struck_below n es (i + 1) k (flags_after (eqb e.number n) i fs) (omega arith) ∙ other_flag (eqb e.number n) i k fs ne

and_true : (b : Bool) → b ≡ (b && true)
and_true true = refl
and_true false = refl

stands_after : (b : Bool) (i : ℕ) (fs : List Bool) → i < length fs → not (get_or (flags_after b i fs) i false) ≡ (not (get_or fs i false) && not b)
stands_after true i fs h = ap not (get_or-set_same fs i true false h) ∙ sym (and_right (not (get_or fs i false)) false refl)
stands_after false i fs h = and_true (not (get_or fs i false))

pub flagged_struck : (n : ℕ) (es : List Entry) (i : ℕ) (fs : List Bool) → i + length es ≤ length fs → flagged i (struck n es i fs) es ≡ withdrawn n (flagged i fs es)
flagged_struck n [] i fs h = refl
flagged_struck n (e ∷ es) i fs h =
    let b = eqb e.number n in
    let is = flags_after b i fs in
    let stands = ap not (struck_below n es (i + 1) i is (omega arith)) ∙ stands_after b i fs (omega arith) in
    let others = flagged_struck n es (i + 1) is (omega (arith, length_after b i fs)) ∙ ap (withdrawn n) (flagged_after b i (i + 1) fs es (omega arith)) in
    λ j. record { path = e.path; number = e.number; piece = e.piece; stands = stands j } ∷ others j

-- 1 if the entry at i is meant and stood
abbrev pub stood_at : Bool → ℕ → List Bool → ℕ
stood_at meant i fs = cond (not (get_or fs i false) && meant) 1 0

-- how many stand, one entry on
pub standing_more : (n i : ℕ) (fs : List Bool) (e : Entry) (es : List Entry) → standing n (flagged i fs (e ∷ es)) ≡ stood_at (eqb e.number n) i fs + standing n (flagged (i + 1) (flags_after (eqb e.number n) i fs) es)
standing_more n i fs e es =
    sum_by-cons _ (flagged_entry (get_or fs i false) e) (flagged (i + 1) fs es)
    ∙ ap (λ xs. stood_at (eqb e.number n) i fs + standing n xs) (sym (flagged_after (eqb e.number n) i (i + 1) fs es (omega arith)))

-- a look-up of entries under flags, each beside its flag
pub look_up_flagged : (p : List ℕ) (es : List Entry) (i : ℕ) (fs : List Bool) → i + length es ≤ length fs → look_up (flagged i fs es) p ≡ option_map_or (λ x. answer (flagged_entry x.1 x.0)) (find (λ x. has_path p x.0) (zip es (drop i fs))) (Err Unknown)
look_up_flagged p [] i fs h = refl
look_up_flagged p (e ∷ es) i fs h =
    let f = get_or fs i false in
    let more : drop i fs ≡ f ∷ drop (i + 1) fs = drop_more fs i false (omega arith) in
    let others = look_up_flagged p es (i + 1) fs (omega arith) in
    let here : (b : Bool) → option_map_or answer (cond b (Some (flagged_entry f e)) (find (has_path p) (flagged (i + 1) fs es))) (Err Unknown) ≡ option_map_or (λ x. answer (flagged_entry x.1 x.0)) (cond b (Some (e, f)) (find (λ x. has_path p x.0) (zip es (drop (i + 1) fs)))) (Err Unknown) = λ b. elim b as (λ t. option_map_or answer (cond t (Some (flagged_entry f e)) (find (has_path p) (flagged (i + 1) fs es))) (Err Unknown) ≡ option_map_or (λ x. answer (flagged_entry x.1 x.0)) (cond t (Some (e, f)) (find (λ x. has_path p x.0) (zip es (drop (i + 1) fs)))) (Err Unknown)) [ true ↦ refl | false ↦ others ] in
    here (has_path p e) ∙ ap (λ gs. option_map_or (λ x. answer (flagged_entry x.1 x.0)) (find (λ x. has_path p x.0) (zip (e ∷ es) gs)) (Err Unknown)) (sym more)
