use Rattle.std.proofs.Common.{◌≡◌, ◌≤◌, drop, reverse}
use Rattle.arrayvec.specs.ArrayVec.{array_vec_len}
use Rattle.events.specs.Rules.{none, nests, turned_at}
use Rattle.events.specs.Walks.{keeps}
use Rattle.events.proofs.nesting.containers_nest.Given as goal

abbrev pub invariant-loop-event : goal.invariant-loop-event
invariant-loop-event l = (keeps turned_at none (reverse l.held.items) (drop l.event-index l.events) ≡ nests l.events) × (array_vec_len l.held ≤ l.event-index)
