use Rattle.std.proofs.Common.{◌≡◌}
use Rattle.fragment.specs.Unfolding.{shut}
use Rattle.fragment.specs.Sources.{score_in}
use Rattle.fragment.specs.Handed.{work}
use Rattle.fragment.proofs.Walks.{Left}
use Rattle.fragment.proofs.unfolding.Unfolding.+walk.Given as goal

abbrev pub decreases-walk : goal.decreases-walk
decreases-walk l = shut l.slate.now

abbrev pub invariant-loop-place : goal.invariant-loop-place
invariant-loop-place l =
    ((l.slate ≡ l.initial.slate) × Left (score_in l.source) l.initial.slate l.depth l.initial.place l.place-end (work l.initial.self) l.place (work l.self))
    × ((l.self.tape.ghost_name ≡ l.initial.self.tape.ghost_name) × (l.self.enforcer.ghost_name ≡ l.initial.self.enforcer.ghost_name))
