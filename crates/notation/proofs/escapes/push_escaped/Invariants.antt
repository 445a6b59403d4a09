use Rattle.std.proofs.Common.{◌≡◌, ◌++◌, drop, vec_items}
use Rattle.notation.specs.Escapes.{escaped}
use Rattle.notation.proofs.escapes.push_escaped.Given as goal

abbrev pub invariant-loop-b : goal.invariant-loop-b
invariant-loop-b l = vec_items l.out ++ escaped (drop l.b-index l.value) ≡ vec_items l.initial.out ++ escaped l.value
