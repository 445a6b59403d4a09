-- A number read digit by digit is the value of all its digits.
use Rattle.std.proofs.Common.{◌≡◌, ℕ, ◌+◌, ◌-◌, ◌*◌, ◌^◌, ◌<◌, ◌≤◌, Bool, true, false, cond, ltb, List, [], ◌∷◌, is_some, Some, None, Option, unwrap_or, sym, refl, ap, subst, arith}
use Rattle.std.proofs.lemmas.Bool.{false≢true, ltb-true, ltb-false, le-ltb, lt-ltb}
use Rattle.book.specs.Decimal.{is_digit, digits, value_from, fitting, number_from, with_digit}

pub grows : (n : ℕ) (bs : List ℕ) → n ≤ value_from n bs
grows n [] = omega arith
grows n (b ∷ bs) = let more : n * 10 + (b - 48) ≤ value_from (n * 10 + (b - 48)) bs = grows (n * 10 + (b - 48)) bs in omega (arith, more)

taken : (q : Bool) (v m : ℕ) → cond q (Some v) None ≡ Some m → v ≡ m
taken true v m e = ap (λ o. unwrap_or o v) e
taken false v m e = ap (λ o. unwrap_or o v) e

passed : (q : Bool) (v m : ℕ) → cond q (Some v) None ≡ Some m → q ≡ true
passed true v m e = refl
passed false v m e = ap is_some e

missed : (q : Bool) (v : ℕ) → cond q (Some v) None ≡ None → q ≡ false
missed true v e = absurd (false≢true (sym (ap is_some e)))
missed false v e = refl

-- what a number read so far, the next byte a digit or not, makes of the bytes behind it
abbrev read_on : Bool → ℕ → List ℕ → Option ℕ
read_on p v bs = cond (cond p (digits bs) false) (fitting (value_from v bs)) None

goes_on : (p : Bool) (v m : ℕ) (bs : List ℕ) → read_on p v [] ≡ Some m → read_on p v bs ≡ number_from m bs
goes_on true v m bs e = ap (λ n. number_from n bs) (taken (ltb v (2 ^ 32)) v m e)
goes_on false v m bs e = absurd (false≢true (ap is_some e))

too_large : (p : Bool) (v w : ℕ) → 2 ^ 32 ≤ w → cond p (fitting w) None ≡ None
too_large true v w h = ap (λ q. cond q (Some w) None) (le-ltb w (2 ^ 32) h)
too_large false v w h = refl

stops : (p : Bool) (v : ℕ) (bs : List ℕ) → read_on p v [] ≡ None → read_on p v bs ≡ None
stops true v bs e = let large : 2 ^ 32 ≤ v = ltb-false v (2 ^ 32) (missed (ltb v (2 ^ 32)) v e) in too_large (digits bs) v (value_from v bs) (omega (arith, large, grows v bs))
stops false v bs e = refl

fits_at : (p : Bool) (v m : ℕ) → read_on p v [] ≡ Some m → m < 2 ^ 32
fits_at true v m e = let P : ℕ → Type 0 = λ x. x < 2 ^ 32 in subst P (taken (ltb v (2 ^ 32)) v m e) (ltb-true v (2 ^ 32) (passed (ltb v (2 ^ 32)) v m e))
fits_at false v m e = absurd (false≢true (ap is_some e))

pub digit_read : (n b m : ℕ) (bs : List ℕ) → with_digit n b ≡ Some m → number_from n (b ∷ bs) ≡ number_from m bs
digit_read n b m bs e = goes_on (is_digit b) (n * 10 + (b - 48)) m bs e

pub digit_refused : (n b : ℕ) (bs : List ℕ) → with_digit n b ≡ None → number_from n (b ∷ bs) ≡ None
digit_refused n b bs e = stops (is_digit b) (n * 10 + (b - 48)) bs e

pub digit_fits : (n b m : ℕ) → with_digit n b ≡ Some m → m < 2 ^ 32
digit_fits n b m e = fits_at (is_digit b) (n * 10 + (b - 48)) m e

pub all_read : (n : ℕ) → n < 2 ^ 32 → number_from n [] ≡ Some n
all_read n h = ap (λ q. cond q (Some n) None) (lt-ltb n (2 ^ 32) h)
