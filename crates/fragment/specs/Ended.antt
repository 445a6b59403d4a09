-- How a step ends, and steps one after the other.
use Rattle.std.specs.Prelude.{Ok, Err, Result}
use Rattle.fragment.specs.declared.answers.FragmentError.{FragmentError}

-- it went on, or it was refused; with what it left in either case
pub data Ended (S : Type 0) : Type 0 where
  went : S → Ended S
  refused : FragmentError → S → Ended S

abbrev pub ended : {S : Type 0} → Result (Unit {0}) FragmentError → S → Ended S
ended (Ok x) s = went s
ended (Err e) s = refused e s

-- a step, and then another
abbrev pub next : {S : Type 0} → Ended S → (S → Ended S) → Ended S
next (went s) k = k s
next (refused e s) k = refused e s

-- a step on a part of what there is
abbrev pub within : {S T : Type 0} → (S → T) → Ended S → Ended T
within put (went s) = went (put s)
within put (refused e s) = refused e (put s)
