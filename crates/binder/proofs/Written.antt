-- Numbers that are written and read, and read and written.
use Rattle.std.proofs.Common.{◌≡◌, ℕ, zero, suc, ◌+◌, ◌*◌, ◌/◌, ◌%◌, ◌^◌, ◌<◌, ◌≤◌, List, [], ◌∷◌, ◌++◌, length, get_or, drop, ap, ◌∙◌, arith, length-drop}
use Rattle.std.proofs.ByRecursion.{All-drop}
use Rattle.std.proofs.lemmas.List.{drop-drop}
use Rattle.binder.specs.Fields.{be16, be32}
use Rattle.binder.specs.Laws.{Bytes}
use Rattle.binder.specs.Packing.{write16, write32}

-- what is written reads back
pub read_16 : (n : ℕ) → n < 2 ^ 16 → n / 256 * 256 + n % 256 ≡ n
read_16 n h = omega arith

pub read_32 : (n : ℕ) → n < 2 ^ 32 → n / 16777216 * 16777216 + n / 65536 % 256 * 65536 + n / 256 % 256 * 256 + n % 256 ≡ n
read_32 n h = omega arith

-- a byte past the end reads as 0, so every read is below 256
pub byte_small : (xs : List ℕ) (k : ℕ) → Bytes xs → get_or xs k 0 < 256
byte_small [] k h = omega arith
byte_small (x ∷ xs) zero h = h.0
byte_small (x ∷ xs) (suc k) h = byte_small xs k h.1

pub small_16 : (xs : List ℕ) → Bytes xs → be16 xs < 2 ^ 16
small_16 xs h = omega (arith, byte_small xs 0 h, byte_small xs 1 h)

pub small_32 : (xs : List ℕ) → Bytes xs → be32 xs < 2 ^ 32
small_32 xs h = omega (arith, byte_small xs 0 h, byte_small xs 1 h, byte_small xs 2 h, byte_small xs 3 h)

-- what is read writes back
front_16 : (xs : List ℕ) → Bytes xs → 2 ≤ length xs → xs ≡ write16 (be16 xs) ++ drop 2 xs
front_16 [] h l = absurd (omega arith)
front_16 (a ∷ []) h l = absurd (omega arith)
front_16 (a ∷ b ∷ xs) h l =
    let p = h.0 in
    let q = h.1.0 in
    let first : a ≡ (a * 256 + b) / 256 = omega arith in
    let second : b ≡ (a * 256 + b) % 256 = omega arith in
    λ j. first j ∷ second j ∷ xs

front_32 : (xs : List ℕ) → Bytes xs → 4 ≤ length xs → xs ≡ write32 (be32 xs) ++ drop 4 xs
front_32 [] h l = absurd (omega arith)
front_32 (a ∷ []) h l = absurd (omega arith)
front_32 (a ∷ b ∷ []) h l = absurd (omega arith)
front_32 (a ∷ b ∷ c ∷ []) h l = absurd (omega arith)
front_32 (a ∷ b ∷ c ∷ d ∷ xs) h l =
    let p = h.0 in
    let q = h.1.0 in
    let r = h.1.1.0 in
    let s = h.1.1.1.0 in
    let n = a * 16777216 + b * 65536 + c * 256 + d in
    let first : a ≡ n / 16777216 = omega arith in
    let second : b ≡ n / 65536 % 256 = omega arith in
    let third : c ≡ n / 256 % 256 = omega arith in
    let fourth : d ≡ n % 256 = omega arith in
    λ j. first j ∷ second j ∷ third j ∷ fourth j ∷ xs

-- the same from place k on
pub written_16 : (k : ℕ) (xs : List ℕ) → Bytes xs → k + 2 ≤ length xs → drop k xs ≡ write16 (be16 (drop k xs)) ++ drop (k + 2) xs
written_16 k xs h l = front_16 (drop k xs) (All-drop (λ b. b < 256) k xs h) (omega (arith, length-drop k xs)) ∙ ap (λ ys. write16 (be16 (drop k xs)) ++ ys) (drop-drop 2 k xs)

pub written_32 : (k : ℕ) (xs : List ℕ) → Bytes xs → k + 4 ≤ length xs → drop k xs ≡ write32 (be32 (drop k xs)) ++ drop (k + 4) xs
written_32 k xs h l = front_32 (drop k xs) (All-drop (λ b. b < 256) k xs h) (omega (arith, length-drop k xs)) ∙ ap (λ ys. write32 (be32 (drop k xs)) ++ ys) (drop-drop 4 k xs)
