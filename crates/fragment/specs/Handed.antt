-- What an unfolder and one unfolding hold, in the words of the definitions.
use Rattle.std.specs.Prelude.{ℕ, List}
use Rattle.budget.specs.Model.{Model}
use Rattle.fragment.specs.declared.answers.Charges.{Charges}
use Rattle.fragment.specs.declared.unfolder.Unfolder.{Unfolder}
use Rattle.fragment.specs.declared.unfolding.Unfolding.{Unfolding}
use Rattle.fragment.specs.Passages.{Lent}
use Rattle.fragment.specs.Unfolding.{Work}
use Rattle.fragment.specs.View.{counts}

-- what was charged so far
abbrev pub charged : Unfolder → Charges
charged u = u.charges

-- what an unfolding has done
abbrev pub work : Unfolding → Work
work u = record { tape = u.tape.now; counts = counts u.tally; enforcer = u.enforcer.now }

-- what is lent: a slate, what is written on a tape, what was charged, and an enforcer
abbrev pub handed : List ℕ → List ℕ → Charges → Model → Lent
handed slate tape charges enforcer = record { slate = slate; tape = tape; charges = charges; enforcer = enforcer }

-- the same of what an unfolder has
abbrev pub lent : List ℕ → Unfolder → Lent
lent slate u = handed slate u.tape (charged u) u.enforcer

-- the same of an unfolding
abbrev pub lent_to : List ℕ → Unfolding → Lent
lent_to slate u = handed slate u.tape.now u.tally.charges u.enforcer.now
