-- What a run without a breach has gathered in one of its counts.
use Rattle.std.proofs.Common.{◌≡◌, ◌+◌, max, Bool, true, false, cond, ◌||◌, List, [], ◌∷◌, map, None, Ok, sym, refl, ap, ◌∙◌, arith}
use Rattle.std.proofs.Math.Bool.{or-false, or_assoc}
use Rattle.std.specs.List.{list_any}
use Rattle.budget.specs.Observed.{Input}
use Rattle.budget.specs.Model.{Model, observed}
use Rattle.budget.specs.Runs.{run, Moment, moments, gathered, since_last}
use Rattle.budget.proofs.Since.{gather_turn}
use Rattle.budget.proofs.Sticks.{clean_before, clean_answer}

-- ways to put together
pub record Together {S : Type 0} (op : S → S → S) (o : S) : Type 0 where
  pub assoc : (a b c : S) → op (op a b) c ≡ op a (op b c)
  pub left : (a : S) → op o a ≡ a
  pub right : (a : S) → op a o ≡ a

pub sums : Together ◌+◌ 0
sums = record { assoc = λ a b c. omega arith; left = λ a. omega arith; right = λ a. omega arith }

pub maxima : Together max 0
maxima = record { assoc = λ a b c. omega arith; left = λ a. omega arith; right = λ a. omega arith }

pub tests : Together ◌||◌ false
tests = record { assoc = or_assoc; left = λ a. refl; right = or-false }

abbrev pub at : Input → Model → Moment
at i m = record { input = i; before = m }

nothing : {S : Type 0} (b : Bool) (o s : S) → s ≡ o → cond b o s ≡ o
nothing true o s e = refl
nothing false o s e = e

-- what one input leaves in a count; and what holds of the enforcer before and after
pub record Turns {S : Type 0} (op : S → S → S) (o : S) (Holds : Model → Type 0) (g : Model → S) (w : Moment → S) (f : Moment → Bool) (i : Input) (m : Model) : Type 0 where
  pub holds : Holds (observed i m).0
  pub count : g (observed i m).0 ≡ cond (f (at i m)) o (op (g m) (w (at i m)))

module _ {S : Type 0} (op : S → S → S) (o : S) (t : Together op o) (Holds : Model → Type 0) (g : Model → S) (w : Moment → S) (f : Moment → Bool)
    (law : (i : Input) (m : Model) → Holds m → (observed i m).1 ≡ Ok tt → Turns op o Holds g w f i m) where
  gather : (is : List Input) (m : Model) → Holds m → (run is m).report.breached ≡ None → g (run is m) ≡ op (cond (list_any f (moments is m)) o (g m)) (gathered op o w (since_last f (moments is m)))
  gather [] m h e = sym (t.right (g m))
  gather (i ∷ is) m h e =
      let n = (observed i m).0 in
      let s = law i m h (clean_answer i m (clean_before is n e)) in
      gather is n s.holds e ∙ gather_turn op o t.assoc w f (at i m) (moments is n) (g m) (g n) s.count

  -- from nothing
  pub gather_all : (is : List Input) (m : Model) → Holds m → g m ≡ o → (run is m).report.breached ≡ None → g (run is m) ≡ gathered op o w (since_last f (moments is m))
  gather_all is m h z e =
      gather is m h e ∙ ap (λ s. op s (gathered op o w (since_last f (moments is m)))) (nothing (list_any f (moments is m)) o (g m) z) ∙ t.left (gathered op o w (since_last f (moments is m)))

pub inputs_of : (is : List Input) (m : Model) → map (λ x. x.input) (moments is m) ≡ is
inputs_of [] m = refl
inputs_of (i ∷ is) m = ap (λ rest. i ∷ rest) (inputs_of is (observed i m).0)
