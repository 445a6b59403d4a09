-- Fields at the front of packed bytes, big-endian. A byte past the end reads as 0.
use Rattle.std.specs.Prelude.{ℕ, ◌+◌, ◌*◌, Bool, List, length, nat_lt, slice_index}

abbrev pub be16 : List ℕ → ℕ
be16 xs = slice_index xs 0 * 256 + slice_index xs 1

abbrev pub be32 : List ℕ → ℕ
be32 xs = slice_index xs 0 * 16777216 + slice_index xs 1 * 65536 + slice_index xs 2 * 256 + slice_index xs 3

-- the first n bytes are not all there
abbrev pub short : ℕ → List ℕ → Bool
short n xs = nat_lt (length xs) n
