use Rattle.std.proofs.Common.{◌≡◌, ◌+◌, ◌≤◌, length, drop}
use Rattle.events.specs.Nodes.{closing, end_of}
use Rattle.events.proofs.sound.reading.node_end.Given as goal

abbrev pub invariant-loop-offset : goal.invariant-loop-offset
invariant-loop-offset l = (closing l.depth (l.start + l.offset) (drop l.offset l.event-items) ≡ end_of l.events l.start) × (l.depth ≤ l.offset) × (length l.event-items ≤ 8192)
