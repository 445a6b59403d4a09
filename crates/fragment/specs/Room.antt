-- Where collection may count an event without passing 32 bits.
use Rattle.std.specs.Prelude.{ℕ, ◌+◌, ◌^◌, ◌<◌, ◌≤◌, List, length, slice_index_or}
use Rattle.events.specs.declared.score.Event.{Event}
use Rattle.events.specs.Scores.{no_event}
use Rattle.budget.specs.declared.limits.Budget.{Budget}
use Rattle.fragment.specs.declared.collection.Collected.{Collected}
use Rattle.fragment.specs.Unfolding.{value_bytes}

pub record RoomFor (e : Event) (c : Collected) : Type 0 where
  pub documents : c.documents ≤ 8192
  pub depth : c.depth ≤ 8192
  pub bytes : c.bytes + value_bytes e < 2 ^ 32
  pub events : c.events ≤ 8192

-- events as in a sound piece, under limits as they may be
pub record RoomForAll (b : Budget) (es : List Event) : Type 0 where
  pub few : length es ≤ 8192
  pub short : (p : ℕ) → p < length es → value_bytes (slice_index_or es p no_event) ≤ 1048576
  pub limited : b.max_total_scalar_bytes ≤ 2 ^ 30
