-- Steps that follow one another.
use Rattle.std.proofs.Common.{◌≡◌, Ok, Err, sym, ap, ◌∙◌, subst}
use Rattle.budget.specs.declared.limits.Budget.{Budget}
use Rattle.budget.specs.declared.breach.BudgetReport.{BudgetReport}
use Rattle.budget.specs.declared.breach.BudgetBreach.{BudgetBreach}
use Rattle.budget.specs.Counts.{Answer, Stepped}
use Rattle.budget.specs.Model.{Model, Outcome, on_good, and_then, counting, with_report}

-- a step of the report is one of the whole
pub counted : (f : Budget → BudgetReport → BudgetReport × Answer) (m : Model) {s : BudgetReport} {r : Answer} → Stepped s r (f m.budget m.report) → Stepped (with_report m s) r (counting f m)
counted f m h = record { state = ap (with_report m) h.state; answer = h.answer }

-- a good step, and then the next
pub next : {m n : Model} {r q : Answer} (p : Outcome) (k : Model → Outcome) → Stepped m r p → r ≡ Ok tt → Stepped n q (k m) → Stepped n q (and_then p k)
next {m} {n} {r} {q} p k h e t =
    let through : and_then p k ≡ k p.0 = ap (λ a. on_good a (k p.0) p) (sym h.answer ∙ e) in
    let same : and_then p k ≡ k m = through ∙ ap k (sym h.state) in
    subst (Stepped n q) (sym same) t

-- a breach ends the chain
pub stop : {m : Model} {r : Answer} (b : BudgetBreach) (p : Outcome) (k : Model → Outcome) → Stepped m r p → r ≡ Err b → Stepped m (Err b) (and_then p k)
stop {m} {r} b p k h e =
    let through : and_then p k ≡ p = ap (λ a. on_good a (k p.0) p) (sym h.answer ∙ e) in
    subst (Stepped m (Err b)) (sym through) (record { state = h.state; answer = sym e ∙ h.answer })
