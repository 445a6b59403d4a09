-- A line cut into words, one at a time.
use Rattle.std.proofs.Common.{◌≡◌, ℕ, suc, ◌+◌, ◌<◌, Bool, true, false, cond, not, List, [], ◌∷◌, ◌++◌, length, take, drop, Some, None, Option, unwrap_or, sym, refl, ap, ◌∙◌, subst, one-add, arith}
use Rattle.std.specs.List.{position}
use Rattle.std.proofs.lemmas.List.{append_assoc, append-nil}
use Rattle.std.proofs.lemmas.List.Recursion.{is_position_or_len}
use Rattle.slices.specs.Lines.{closed}
use Rattle.slices.proofs.Places.{found_or_len}
use Rattle.book.specs.Words.{is_gap, words_from, words_of}

-- the place of the first byte that passes a test, or the length where there is none
abbrev place_where : (ℕ → Bool) → List ℕ → ℕ
place_where f [] = 0
place_where f (b ∷ bs) = cond (f b) 0 (1 + place_where f bs)

found : (f : ℕ → Bool) (xs : List ℕ) (o : Option ℕ) → o ≡ position f xs → unwrap_or o (length xs) ≡ place_where f xs
found f xs o e = ap (λ p. unwrap_or p (length xs)) e ∙ found_or_len f xs ∙ sym (is_position_or_len (place_where f) f refl (λ x xs. refl) xs)

abbrev solid : ℕ → Bool
solid b = not (is_gap b)

-- a word that was begun ends at the next gap
word_cut_by : (w : List ℕ) (b : ℕ) (bs : List ℕ) (t : Bool) (n : ℕ) → is_gap b ≡ t → words_from (w ++ (b ∷ [])) bs ≡ closed ((w ++ (b ∷ [])) ++ take n bs) (words_of (drop n bs)) → cond t (closed w (words_of bs)) (words_from (w ++ (b ∷ [])) bs) ≡ closed (w ++ take (cond t 0 (1 + n)) (b ∷ bs)) (words_of (drop (cond t 0 (1 + n)) (b ∷ bs)))
word_cut_by w b bs true n e ih =
    ap (λ v. closed v (words_of bs)) (sym (append-nil w)) ∙ ap (closed (w ++ [])) (sym (ap (λ t. cond t (words_of bs) (words_from (b ∷ []) bs)) e))
word_cut_by w b bs false n e ih =
    ih ∙ ap (λ v. closed v (words_of (drop n bs))) (append_assoc w (b ∷ []) (take n bs)) ∙ ap (λ m. closed (w ++ take m (b ∷ bs)) (words_of (drop m (b ∷ bs)))) (sym (one-add n))

word_cut : (w s : List ℕ) → words_from w s ≡ closed (w ++ take (place_where is_gap s) s) (words_of (drop (place_where is_gap s) s))
word_cut w [] = ap (λ v. closed v []) (sym (append-nil w))
word_cut w (b ∷ bs) = word_cut_by w b bs (is_gap b) (place_where is_gap bs) refl (word_cut (w ++ (b ∷ [])) bs)

-- the first word is the front of t up to a gap, and the later words are those behind it
abbrev Begins : List (List ℕ) → List ℕ → Type 0
Begins ws t = ws ≡ take (place_where is_gap t) t ∷ words_of (drop (place_where is_gap t) t)

begins_by : (b : ℕ) (bs : List ℕ) (t : Bool) → is_gap b ≡ t → cond (not t) 0 (1 + place_where solid bs) < suc (length bs) → (place_where solid bs < length bs → Begins (words_of bs) (drop (place_where solid bs) bs)) → Begins (cond t (words_of bs) (words_from (b ∷ []) bs)) (drop (cond (not t) 0 (1 + place_where solid bs)) (b ∷ bs))
begins_by b bs true e h ih =
    let P : ℕ → Type 0 = λ m. Begins (words_of bs) (drop m (b ∷ bs)) in
    subst P (sym (one-add (place_where solid bs))) (ih (omega (arith, h)))
begins_by b bs false e h ih =
    let m = place_where is_gap bs in
    let n-is : place_where is_gap (b ∷ bs) ≡ suc m = ap (λ t. cond t 0 (1 + m)) e ∙ one-add m in
    word_cut (b ∷ []) bs ∙ ap (λ n. take n (b ∷ bs) ∷ words_of (drop n (b ∷ bs))) (sym n-is)

begins : (s : List ℕ) → place_where solid s < length s → Begins (words_of s) (drop (place_where solid s) s)
begins [] h = absurd (omega (arith, h))
begins (b ∷ bs) h = begins_by b bs (is_gap b) refl h (begins bs)

none_by : (b : ℕ) (bs : List ℕ) (t : Bool) → cond (not t) 0 (1 + place_where solid bs) ≡ suc (length bs) → (place_where solid bs ≡ length bs → words_of bs ≡ []) → cond t (words_of bs) (words_from (b ∷ []) bs) ≡ []
none_by b bs true h ih = ih (omega (arith, h))
none_by b bs false h ih = absurd (omega (arith, h))

none : (s : List ℕ) → place_where solid s ≡ length s → words_of s ≡ []
none [] h = refl
none (b ∷ bs) h = none_by b bs (is_gap b) h (none bs)

-- where no byte of a word is found there is no word
pub no_words : (s : List ℕ) (o : Option ℕ) → o ≡ position solid s → o ≡ None → words_of s ≡ []
no_words s o e n = none s (sym (found solid s o e) ∙ ap (λ p. unwrap_or p (length s)) n)

-- else the first word begins there and ends at the next gap
pub first_word : (s t word rest : List ℕ) (o p : Option ℕ) (i : ℕ) → o ≡ position solid s → o ≡ Some i → i < length s → t ≡ drop i s → p ≡ position is_gap t → word ≡ take (unwrap_or p (length t)) t → rest ≡ drop (unwrap_or p (length t)) t → words_of s ≡ word ∷ words_of rest
first_word s t word rest o p i e is h d f w r =
    let at : place_where solid s ≡ i = sym (found solid s o e) ∙ ap (λ q. unwrap_or q (length s)) is in
    let b = begins s (omega (arith, at, h)) in
    let t-is : drop (place_where solid s) s ≡ t = ap (λ k. drop k s) at ∙ sym d in
    let ends : unwrap_or p (length t) ≡ place_where is_gap t = found is_gap t p f in
    b ∙ ap (λ l. take (place_where is_gap l) l ∷ words_of (drop (place_where is_gap l) l)) t-is ∙ rw (r, w, ends)
