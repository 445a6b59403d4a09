-- The refusals of a passage.
use Rattle.std.specs.Prelude.{ℕ, List, [], ◌∷◌}
use Rattle.refusals.specs.Refusals.{Told}
use Rattle.refusals.specs.declared.Layer.{Layer}
use Rattle.refusals.specs.declared.Layer.TheVariants.{Collection, Unfolding, Enforcer, Session}
use Rattle.events.specs.Rules.{rule_number}
use Rattle.budget.specs.Laws.{breach_counts}
use Rattle.fragment.specs.declared.answers.FragmentError.{FragmentError}
use Rattle.fragment.specs.declared.answers.FragmentError.TheVariants.{ShortSlate, Unsound, CollectionBreach, UnfoldingBreach, EnforcerBreach, SecondDocument, UnmarkedTarget, OpenRange, Expansions, ReplayDepth, ReplayedTotal, TapeFull}

abbrev pub error_number : FragmentError → ℕ
error_number (ShortSlate n) = 3
error_number (Unsound r) = 14
error_number (CollectionBreach b) = 15
error_number (UnfoldingBreach b) = 15
error_number (EnforcerBreach b) = 15
error_number (SecondDocument p) = 16
error_number UnmarkedTarget = 17
error_number (OpenRange n) = 18
error_number (Expansions n) = 19
error_number (ReplayDepth d) = 20
error_number (ReplayedTotal n) = 21
error_number TapeFull = 22

abbrev pub error_layer : FragmentError → Layer
error_layer (ShortSlate n) = Session
error_layer (Unsound r) = Collection
error_layer (CollectionBreach b) = Collection
error_layer (UnfoldingBreach b) = Unfolding
error_layer (EnforcerBreach b) = Enforcer
error_layer (SecondDocument p) = Collection
error_layer UnmarkedTarget = Collection
error_layer (OpenRange n) = Unfolding
error_layer (Expansions n) = Unfolding
error_layer (ReplayDepth d) = Unfolding
error_layer (ReplayedTotal n) = Unfolding
error_layer TapeFull = Unfolding

-- the values that a refusal of the insert at place i returns
abbrev pub returned : ℕ → FragmentError → List ℕ
returned i (ShortSlate n) = n ∷ []
returned i (Unsound r) = rule_number r ∷ []
returned i (CollectionBreach b) = breach_counts b
returned i (UnfoldingBreach b) = breach_counts b
returned i (EnforcerBreach b) = breach_counts b
returned i (SecondDocument p) = p ∷ []
returned i UnmarkedTarget = i ∷ []
returned i (OpenRange n) = n ∷ []
returned i (Expansions n) = n ∷ []
returned i (ReplayDepth d) = d ∷ []
returned i (ReplayedTotal n) = n ∷ []
returned i TapeFull = 8192 ∷ []

-- what a refusal of the insert at place i tells, after so many events and with this source
abbrev pub told : ℕ → FragmentError → ℕ → ℕ → Told
told i e h s = record { number = error_number e; returned = returned i e; handed_out = h; source = s; layer = error_layer e }
