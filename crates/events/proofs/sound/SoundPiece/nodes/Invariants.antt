use Rattle.std.proofs.Common.{◌≡◌, ◌++◌, drop}
use Rattle.events.specs.Nodes.{ranges_from}
use Rattle.events.proofs.SoundNodes.{Searchable}
use Rattle.events.proofs.sound.SoundPiece.nodes.Given as goal

abbrev pub invariant-loop-place : goal.invariant-loop-place
invariant-loop-place l = (l.ranges.items ++ ranges_from l.place (drop l.place l.events) ≡ ranges_from 0 l.events) × Searchable l.events
