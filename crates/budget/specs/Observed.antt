-- What is observed: events as plain values, and alias references.
use Rattle.std.specs.Prelude.{ℕ, List}
use Rattle.events.specs.declared.kinds.EventKind.{EventKind}
use Rattle.events.specs.declared.kinds.ScalarStyle.{ScalarStyle}

-- an event: 0 stands for no anchor, and a tag of no bytes for no tag
pub record Seen : Type 0 where
  pub kind : EventKind
  pub anchor : ℕ
  pub value : List ℕ
  pub tag : List ℕ
  pub style : ScalarStyle

-- an event, or an alias for which the events of its node are read in its place
pub data Input : Type 0 where
  event : Seen → Input
  reference : Input
