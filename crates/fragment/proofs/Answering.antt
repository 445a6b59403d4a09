-- What an unfolding answers, from how its walk ended.
use Rattle.std.proofs.Common.{◌≡◌, ℕ, ◌+◌, ◌-◌, ◌<◌, ◌≤◌, List, length, get_or, take, Ok, Err, refl, ap, ◌∙◌, arith}
use Rattle.std.proofs.lemmas.List.{take_at, get_or-replicate}
use Rattle.budget.specs.Model.{Model}
use Rattle.events.specs.declared.score.NodeRange.{NodeRange}
use Rattle.fragment.specs.declared.answers.Charges.{Charges}
use Rattle.fragment.specs.declared.answers.Passage.{Passage}
use Rattle.fragment.specs.declared.answers.FragmentError.{FragmentError}
use Rattle.fragment.specs.Ended.{Ended, went, refused}
use Rattle.fragment.specs.Slate.{blank, opened}
use Rattle.fragment.specs.Unfolding.{Counts, Score, Unfolded, Work, answered, begun, charges_of, passage_of, range, run, shut, unfolded}
use Rattle.fragment.proofs.Growth.{left, run_grows}
use Rattle.fragment.proofs.Slates.{blank_length}
use Rattle.fragment.proofs.Steps.{shut_le, shut_set}

blank_at : (i : ℕ) → i < 256 → get_or blank i 0 ≡ 0
unfolding blank
blank_at i h = get_or-replicate 256 i 0 0 h

-- the target's range is open, and each of the 256 numbers at most once
pub deep_enough : (n : ℕ) → 1 ≤ n → n ≤ 256 → 1 + shut (opened n blank) ≤ 256
deep_enough n one most =
    let l : n - 1 < length blank = omega (arith, blank_length) in
    let o = shut_set blank (n - 1) l (blank_at (n - 1) (omega arith)) in
    omega (arith, shut_le blank, blank_length)

-- a walk that began with the slate sl, the counts y and the range r
module _ (s₀ s : Score) (n : ℕ) (t : List ℕ) (c : Charges) (m : Model) (sl : List ℕ) (y : Counts) (r : NodeRange) (score : s ≡ s₀) (slate : sl ≡ opened n blank) (begins : y ≡ begun c) (is : r ≡ range s n) where
  answer_is : (e : Ended Work) → e ≡ run s (shut sl) sl 1 r (record { tape = t; counts = y; enforcer = m }) → answered t e ≡ unfolded s₀ n t c m
  unfolding unfolded
  answer_is e q =
      ap (answered t) (q ∙ ap (λ z. run s (shut z) z 1 r (record { tape = t; counts = y; enforcer = m })) slate ∙ ap (λ z. run s (shut (opened n blank)) (opened n blank) 1 r (record { tape = t; counts = z; enforcer = m })) begins ∙ ap (λ z. run s (shut (opened n blank)) (opened n blank) 1 z (record { tape = t; counts = begun c; enforcer = m })) is) ∙ ap (λ z. unfolded z n t c m) score

  pub ok_answer : (v : Work) → went v ≡ run s (shut sl) sl 1 r (record { tape = t; counts = y; enforcer = m }) → (p : Passage) → p ≡ passage_of v.counts → ◌≡◌ {A = Unfolded} (record { answer = Ok p; tape = v.tape; charges = charges_of v.counts; enforcer = v.enforcer }) (unfolded s₀ n t c m)
  ok_answer v q p e =
      ap (λ z. record { answer = Ok z; tape = v.tape; charges = charges_of v.counts; enforcer = v.enforcer }) e ∙ answer_is (went v) q

  pub err_answer : (x : FragmentError) (v : Work) → refused x v ≡ run s (shut sl) sl 1 r (record { tape = t; counts = y; enforcer = m }) → (t' : List ℕ) → t' ≡ take (length t) v.tape → ◌≡◌ {A = Unfolded} (record { answer = Err x; tape = t'; charges = charges_of v.counts; enforcer = v.enforcer }) (unfolded s₀ n t c m)
  err_answer x v q t' e =
      let g = run_grows s (shut sl) sl 1 r (record { tape = t; counts = y; enforcer = m }) in
      let b : t' ≡ t = e ∙ ap (take (length t)) (ap (λ z. (left z).tape) q ∙ g.1) ∙ take_at t g.0 (length t) refl in
      ap (λ z. record { answer = Err x; tape = z; charges = charges_of v.counts; enforcer = v.enforcer }) b ∙ answer_is (refused x v) q
