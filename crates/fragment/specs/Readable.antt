-- What the code needs of events, their ranges and the place of the first in the stock.
use Rattle.std.specs.Prelude.{◌≡◌, ℕ, ◌+◌, ◌^◌, ◌<◌, ◌≤◌, true, List, length, get_or, slice_index_or}
use Rattle.events.specs.declared.score.Event.{Event}
use Rattle.events.specs.declared.score.NodeRange.{NodeRange}
use Rattle.events.specs.Nodes.{range_of, ranges_from}
use Rattle.events.specs.Rules.{is_alias}
use Rattle.events.specs.Scores.{kind, no_event}

-- number n has a range in the table rs, inside the events
pub record Ranged (es : List Event) (rs : List NodeRange) (n : ℕ) : Type 0 where
  pub least : 1 ≤ n
  pub most : n ≤ 256
  pub listed : n ≤ length rs
  pub closes : (range_of es n).last < length es

-- what the code needs of events, their ranges and the place of the first in the stock; those of a sound piece have it
pub record Readable (es : List Event) (rs : List NodeRange) (base : ℕ) : Type 0 where
  pub ranges : rs ≡ ranges_from 0 es
  pub few : length es ≤ 8192
  pub fits : base + length es < 2 ^ 32
  pub aliases : (p : ℕ) → p < length es → is_alias (kind (slice_index_or es p no_event)) ≡ true → Ranged es rs (get_or es p no_event).anchor
