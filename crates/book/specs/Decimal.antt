-- Numbers as they are written in a book: decimal digits.
use Rattle.std.specs.Prelude.{ℕ, ◌+◌, ◌-◌, ◌*◌, ◌^◌, Bool, true, false, cond, List, [], ◌∷◌, Some, None, Option, nat_le, nat_lt}

abbrev pub is_digit : ℕ → Bool
is_digit b = cond (nat_le 48 b) (nat_le b 57) false

abbrev pub digits : List ℕ → Bool
digits [] = true
digits (b ∷ bs) = cond (is_digit b) (digits bs) false

-- the value of digits that follow a number
abbrev pub value_from : ℕ → List ℕ → ℕ
value_from n [] = n
value_from n (b ∷ bs) = value_from (n * 10 + (b - 48)) bs

-- a value that fits 32 bits
abbrev pub fitting : ℕ → Option ℕ
fitting v = cond (nat_lt v (2 ^ 32)) (Some v) None

-- the value, where the bytes behind a number are digits and it fits
abbrev pub number_from : ℕ → List ℕ → Option ℕ
number_from n bs = cond (digits bs) (fitting (value_from n bs)) None

-- what a word says as a number: at least one digit, digits only, below 2^32
abbrev pub number_of : List ℕ → Option ℕ
number_of [] = None
number_of (b ∷ bs) = number_from 0 (b ∷ bs)

-- a number with one more digit behind it
abbrev pub with_digit : ℕ → ℕ → Option ℕ
with_digit n b = number_from n (b ∷ [])
