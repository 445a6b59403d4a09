-- The first line of a text, and the lines behind it.
use Rattle.std.proofs.Common.{◌≡◌, ℕ, ◌+◌, ◌<◌, ◌≤◌, suc, Bool, true, false, cond, eqb, List, [], ◌∷◌, ◌++◌, length, take, drop, sym, refl, ap, ◌∙◌, one-add, arith}
use Rattle.std.proofs.lemmas.List.{append_assoc, append-nil}
use Rattle.slices.specs.Fields.{place_of}
use Rattle.slices.specs.Lines.{closed, lines_from, lines_of}

closed_more : (w : List ℕ) (b : ℕ) (ps : List (List ℕ)) → closed (w ++ (b ∷ [])) ps ≡ (w ++ (b ∷ [])) ∷ ps
closed_more [] b ps = refl
closed_more (x ∷ w) b ps = refl

-- a line that was begun ends at the next line feed
cut_by : (w : List ℕ) (b : ℕ) (bs : List ℕ) (t : Bool) (n : ℕ) → lines_from (w ++ (b ∷ [])) bs ≡ ((w ++ (b ∷ [])) ++ take n bs) ∷ lines_of (drop 1 (drop n bs)) → cond t (w ∷ lines_of bs) (lines_from (w ++ (b ∷ [])) bs) ≡ (w ++ take (cond t 0 (1 + n)) (b ∷ bs)) ∷ lines_of (drop 1 (drop (cond t 0 (1 + n)) (b ∷ bs)))
cut_by w b bs true n ih = ap (λ v. v ∷ lines_of bs) (sym (append-nil w))
cut_by w b bs false n ih =
    ih ∙ ap (λ v. v ∷ lines_of (drop 1 (drop n bs))) (append_assoc w (b ∷ []) (take n bs)) ∙ ap (λ m. (w ++ take m (b ∷ bs)) ∷ lines_of (drop 1 (drop m (b ∷ bs)))) (sym (one-add n))

lines_cut : (w : List ℕ) (b : ℕ) (bs : List ℕ) → lines_from w (b ∷ bs) ≡ (w ++ take (place_of 10 (b ∷ bs)) (b ∷ bs)) ∷ lines_of (drop 1 (drop (place_of 10 (b ∷ bs)) (b ∷ bs)))
lines_cut w b [] = cut_by w b [] (eqb b 10) 0 (closed_more w b [] ∙ ap (λ v. v ∷ []) (sym (append-nil (w ++ (b ∷ [])))))
lines_cut w b (c ∷ cs) = cut_by w b (c ∷ cs) (eqb b 10) (place_of 10 (c ∷ cs)) (lines_cut (w ++ (b ∷ [])) c cs)

pub first_line : (s : List ℕ) → 0 < length s → lines_of s ≡ take (place_of 10 s) s ∷ lines_of (drop 1 (drop (place_of 10 s) s))
first_line [] h = absurd (omega arith)
first_line (b ∷ bs) h = lines_cut [] b bs

-- the same, where the line and the bytes behind it were cut off in steps
pub first_line_cut : (s line later rest : List ℕ) (n : ℕ) → 0 < length s → n ≡ place_of 10 s → line ≡ take n s → later ≡ drop n s → rest ≡ drop 1 later → lines_of s ≡ line ∷ lines_of rest
first_line_cut s line later rest n h e l d r = first_line s h ∙ rw (r, d, l, e)

-- there are no more lines than bytes, and one more at most where a line was begun
more_by : (t : Bool) (w : List ℕ) (ls ms : List (List ℕ)) (n : ℕ) → length ls ≤ n → length ms ≤ suc n → length (cond t (w ∷ ls) ms) ≤ suc n
more_by true w ls ms n h k = omega (arith, h)
more_by false w ls ms n h k = k

few_behind : (w s : List ℕ) → length (lines_from w s) ≤ suc (length s)
few_behind [] [] = omega arith
few_behind (x ∷ w) [] = omega arith
few_behind w (b ∷ bs) =
    let h = few_behind [] bs in
    let k = few_behind (w ++ (b ∷ [])) bs in
    more_by (eqb b 10) w (lines_of bs) (lines_from (w ++ (b ∷ [])) bs) (suc (length bs)) h (omega (arith, k))

pub few_lines : (s : List ℕ) → length (lines_of s) ≤ length s
few_lines [] = omega arith
few_lines (b ∷ bs) = more_by (eqb b 10) [] (lines_of bs) (lines_from (b ∷ []) bs) (length bs) (few_lines bs) (few_behind (b ∷ []) bs)

-- what a first line says of the text
pub record LineBegun (s line : List ℕ) (rest : List (List ℕ)) : Type 0 where
  pub some : 0 < length s
  pub is : line ≡ take (place_of 10 s) s
  pub later : rest ≡ lines_of (drop 1 (drop (place_of 10 s) s))

pub line_begun : (s line : List ℕ) (rest : List (List ℕ)) → lines_of s ≡ line ∷ rest → LineBegun s line rest
line_begun [] line rest e = absurd (let h = ap length e in omega (arith, h))
line_begun (b ∷ bs) line rest e =
    let xs = b ∷ bs in
    let c : line ∷ rest ≡ take (place_of 10 xs) xs ∷ lines_of (drop 1 (drop (place_of 10 xs) xs)) = sym e ∙ lines_cut [] b bs in
    record { some = omega arith; is = cc; later = cc }

-- where no line is left, no byte is
pub none_left : (s : List ℕ) → lines_of s ≡ [] → length s ≡ 0
none_left [] e = refl
none_left (b ∷ bs) e = absurd (let h = ap length (sym (lines_cut [] b bs) ∙ e) in omega (arith, h))
