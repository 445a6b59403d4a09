-- Runs: what is observed one after the other, and what of it came since the counts last began anew.
use Rattle.std.specs.Prelude.{ℕ, ◌+◌, max, Bool, cond, List, [], ◌∷◌}
use Rattle.std.specs.List.{list_any}
use Rattle.budget.specs.Counts.{Answer}
use Rattle.budget.specs.Model.{Model, observed}
use Rattle.budget.specs.Observed.{Input}

-- what is left after a list of inputs
abbrev pub run : List Input → Model → Model
run [] m = m
run (i ∷ is) m = run is (observed i m).0

-- what is answered to each
abbrev pub answers : List Input → Model → List Answer
answers [] m = []
answers (i ∷ is) m = (observed i m).1 ∷ answers is (observed i m).0

-- an input, and the enforcer that observes it
pub record Moment : Type 0 where
  pub input : Input
  pub before : Model

abbrev pub moments : List Input → Model → List Moment
moments [] m = []
moments (i ∷ is) m = record { input = i; before = m } ∷ moments is (observed i m).0

-- what the items have, put together one after the other
abbrev pub gathered : {A S : Type 0} → (S → S → S) → S → (A → S) → List A → S
gathered op none w [] = none
gathered op none w (x ∷ xs) = op (w x) (gathered op none w xs)

-- what the items have in sum
abbrev pub total : {A : Type 0} → (A → ℕ) → List A → ℕ
total w xs = gathered ◌+◌ 0 w xs

-- what the items have at most
abbrev pub highest : {A : Type 0} → (A → ℕ) → List A → ℕ
highest w xs = gathered max 0 w xs

-- what comes after the last item at which a test passes; all, where there is none
abbrev pub since_last : {A : Type 0} → (A → Bool) → List A → List A
since_last f [] = []
since_last f (x ∷ xs) = cond (list_any f xs) (since_last f xs) (cond (f x) xs (x ∷ xs))
