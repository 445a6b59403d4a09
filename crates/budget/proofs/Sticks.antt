-- A breach sticks; and where there is none after a run, every answer was good.
use Rattle.std.proofs.Common.{◌≡◌, ℕ, List, [], ◌∷◌, map, Some, None, Ok, Err, Option, refl, ap, ◌∙◌, arith}
use Rattle.budget.specs.declared.breach.BudgetBreach.{BudgetBreach}
use Rattle.budget.specs.Counts.{Answer}
use Rattle.budget.specs.Observed.{Input}
use Rattle.budget.specs.Model.{Model, Outcome, counted, kept, observed, sticking}
use Rattle.budget.specs.Runs.{run, answers}
use Rattle.budget.specs.Laws.{ABreachIsAnsweredForEver}

-- what an enforcer with a breach does with any input
pub stuck : (b : BudgetBreach) (i : Input) (m : Model) → m.report.breached ≡ Some b → observed i m ≡ (m, Err b)
stuck b i m e = ap (λ o. sticking o m (counted i m)) e

pub stuck_run : (b : BudgetBreach) (is : List Input) (m : Model) → m.report.breached ≡ Some b → run is m ≡ m
stuck_run b [] m e = refl
stuck_run b (i ∷ is) m e = ap (λ o. run is o.0) (stuck b i m e) ∙ stuck_run b is m e

stuck_answers : (b : BudgetBreach) (is : List Input) (m : Model) → m.report.breached ≡ Some b → answers is m ≡ map (λ _. Err b) is
stuck_answers b [] m e = refl
stuck_answers b (i ∷ is) m e = ap (λ o. o.1 ∷ answers is o.0) (stuck b i m e) ∙ ap (λ rest. Err b ∷ rest) (stuck_answers b is m e)

-- an answer that is a breach is remembered
kept_breach : (b : BudgetBreach) (r : Answer) (m : Model) → r ≡ Err b → (kept r m).report.breached ≡ Some b
kept_breach b r m e = ap (λ a. (kept a m).report.breached) e

sticking_breach : (b : BudgetBreach) (o : Option BudgetBreach) (m : Model) (out : Outcome) → m.report.breached ≡ o → (sticking o m out).1 ≡ Err b → (sticking o m out).0.report.breached ≡ Some b
sticking_breach b (Some a) m out s e = let same : Some a ≡ Some b = cc in s ∙ same
sticking_breach b None m out s e = kept_breach b out.1 out.0 e

pub remembered : (b : BudgetBreach) (i : Input) (m : Model) → (observed i m).1 ≡ Err b → (observed i m).0.report.breached ≡ Some b
remembered b i m e = sticking_breach b m.report.breached m (counted i m) refl e

pub answered_for_ever : (i : Input) (m : Model) → ABreachIsAnsweredForEver (observed i m).1 (observed i m).0
answered_for_ever i m b e is =
    let t = remembered b i m e in
    record { told = t; every_answer = stuck_answers b is (observed i m).0 t; unchanged = stuck_run b is (observed i m).0 t }

-- runs without a breach

pub some_or_none : {A X : Type 0} (x : A) (o : Option A) → o ≡ Some x → o ≡ None → X
some_or_none x o p q = let z : ◌≡◌ {A = ℕ} 0 1 = cc in absurd (omega arith)

clean_start : (o : Option BudgetBreach) (is : List Input) (m : Model) → m.report.breached ≡ o → (run is m).report.breached ≡ None → o ≡ None
clean_start None is m s e = refl
clean_start (Some b) is m s e = some_or_none b (run is m).report.breached (ap (λ n. n.report.breached) (stuck_run b is m s) ∙ s) e

pub clean_before : (is : List Input) (m : Model) → (run is m).report.breached ≡ None → m.report.breached ≡ None
clean_before is m e = clean_start m.report.breached is m refl e

good_answer : (r : Answer) (i : Input) (m : Model) → (observed i m).1 ≡ r → (observed i m).0.report.breached ≡ None → r ≡ Ok tt
good_answer (Ok u) i m s e = refl
good_answer (Err b) i m s e = some_or_none b (observed i m).0.report.breached (remembered b i m s) e

-- where there is no breach after an input, the answer was good
pub clean_answer : (i : Input) (m : Model) → (observed i m).0.report.breached ≡ None → (observed i m).1 ≡ Ok tt
clean_answer i m e = good_answer (observed i m).1 i m refl e

well : (i : Input) (m : Model) (o : Option BudgetBreach) → (sticking o m (counted i m)).1 ≡ Ok tt → ((counted i m).1 ≡ Ok tt) × ((sticking o m (counted i m)).0 ≡ (counted i m).0) × (o ≡ None)
well i m (Some b) t = let z : ◌≡◌ {A = ℕ} 0 1 = cc in absurd (omega arith)
well i m None t = (t, ap (λ r. kept r (counted i m).0) t, refl)

-- and the input was counted
pub counted_well : (i : Input) (m : Model) → (observed i m).1 ≡ Ok tt → ((counted i m).1 ≡ Ok tt) × ((observed i m).0 ≡ (counted i m).0) × (m.report.breached ≡ None)
counted_well i m e = well i m m.report.breached e
