-- Which range a number finds, and which mark a name finds.
use Rattle.std.specs.Prelude.{◌≡◌, ℕ, suc, ◌-◌, ◌<◌, ◌≤◌, Bool, true, false, ◌&&◌, List, [], ◌∷◌, length, None, Option, MatchOption, nat_le, slice_index_or}
use Rattle.std.specs.Bool.{then_some}
use Rattle.std.specs.Option.{option_or}
use Rattle.std.specs.Str.{bytes_eq}
use Rattle.events.specs.declared.score.Mark.{Mark}
use Rattle.events.specs.declared.score.NodeRange.{NodeRange}
use Rattle.events.specs.Scores.{part_in, no_mark}
use Rattle.events.specs.Walks.{onward}
use Rattle.events.specs.Nodes.{no_range}

-- the range of number k, where k is from 1 to the count of ranges
abbrev pub range_at : List NodeRange → ℕ → Option NodeRange
range_at rs k = then_some (nat_le 1 k && nat_le k (length rs)) (slice_index_or rs (k - 1) no_range)

-- a mark has a name; one whose run lies outside the bytes has none
abbrev pub is_named : List ℕ → List ℕ → Mark → Bool
is_named bytes name m = onward (part_in m.name bytes) (λ text. bytes_eq text name)

-- the number of the last mark of a name, where the first mark of the list has number k
abbrev pub last_from : List ℕ → List ℕ → ℕ → List Mark → Option ℕ
last_from bytes name k [] = None
last_from bytes name k (m ∷ ms) = option_or (last_from bytes name (suc k) ms) (then_some (is_named bytes name m) k)

abbrev pub last_named : List ℕ → List ℕ → List Mark → Option ℕ
last_named bytes name ms = last_from bytes name 1 ms

-- number k is that of the last mark of a name: it is a mark of that name, and no later one is
pub record IsLast (bytes name : List ℕ) (ms : List Mark) (k : ℕ) : Type 0 where
  pub least : 1 ≤ k
  pub most : k ≤ length ms
  pub named : is_named bytes name (slice_index_or ms (k - 1) no_mark) ≡ true
  pub none_later : (j : ℕ) → k < j → j ≤ length ms → is_named bytes name (slice_index_or ms (j - 1) no_mark) ≡ false

-- no mark has the name
abbrev pub NoneNamed : List ℕ → List ℕ → List Mark → Type 0
NoneNamed bytes name ms = (j : ℕ) → 1 ≤ j → j ≤ length ms → is_named bytes name (slice_index_or ms (j - 1) no_mark) ≡ false

-- a name finds the last mark that has it
abbrev pub FindsLast : List ℕ → List ℕ → List Mark → Option ℕ → Type 0
FindsLast bytes name ms r = MatchOption r (NoneNamed bytes name ms) (IsLast bytes name ms)
