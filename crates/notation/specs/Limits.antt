-- What a list of a stock may hold.
use Rattle.std.specs.Prelude.{◌≡◌, ℕ, ◌-◌, ◌≤◌, ◌⊎◌}
use Rattle.notation.specs.declared.builder.scores.Limits.{Limits}
use Rattle.notation.specs.declared.fault.TextFault.{TextFault}
use Rattle.notation.specs.declared.fault.TextFault.TheVariants.{OutOfMemory}

-- memory ran out, or a score whose items begin at this place has as many as it may have, or the list has
abbrev pub Filled : Limits → ℕ → ℕ → TextFault → Type 0
Filled limits first count fault = (fault ≡ OutOfMemory) ⊎ ((fault ≡ limits.fault) × ((limits.score ≤ count - first) ⊎ (limits.stock ≤ count)))
