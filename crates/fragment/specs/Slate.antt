-- The slate: one byte for each number, 1 while its range is open.
use Rattle.std.specs.Prelude.{ℕ, ◌-◌, List, ◌++◌, drop, replicate, slice_set}

-- no range is open
unfoldable pub blank : List ℕ
blank = replicate 256 0

-- the first 256 bytes at 0, the rest as it was
unfoldable pub wiped : List ℕ → List ℕ
wiped slate = blank ++ drop 256 slate

-- the range of number n is open too
abbrev pub opened : ℕ → List ℕ → List ℕ
opened n slate = slice_set slate (n - 1) 1
