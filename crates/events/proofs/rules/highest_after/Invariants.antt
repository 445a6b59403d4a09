use Rattle.std.proofs.Common.{ℕ, Option, drop}
use Rattle.events.specs.Walks.{Walks}
use Rattle.events.proofs.rules.highest_after.Given as goal

abbrev pub invariant-loop-event : goal.invariant-loop-event
invariant-loop-event g l = (r : Option ℕ) → Walks (λ s x o. goal.F-post g l.step s x o) l.highest (drop l.event-index l.events) r → Walks (λ s x o. goal.F-post g l.step s x o) 0 l.events r
