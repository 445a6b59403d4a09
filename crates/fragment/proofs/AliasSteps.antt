-- The tests at an alias, one after the other.
use Rattle.std.proofs.Common.{◌≡◌, ℕ, List, ap, ◌∙◌}
use Rattle.fragment.specs.declared.answers.FragmentError.{FragmentError}
use Rattle.fragment.specs.Ended.{Ended, went, refused, next}
use Rattle.fragment.specs.Unfolding.{Score, Work, try_closed, charge_alias, refer, judge_aliases, expand, judge_depth, alias_step}

-- what is left after each test
abbrev pub expanding : Score → ℕ → ℕ → Work → Ended Work
expanding s d n v = next (expand s.limits.alias_limits n v) (judge_depth s.limits.alias_limits d)

abbrev pub judging : Score → ℕ → ℕ → Work → Ended Work
judging s d n v = next (judge_aliases s.limits.budget v) (expanding s d n)

abbrev pub referring : Score → ℕ → ℕ → Work → Ended Work
referring s d n v = next (refer v) (judging s d n)

abbrev pub charging : Score → ℕ → ℕ → Work → Ended Work
charging s d n v = next (charge_alias v) (referring s d n)

module _ (s : Score) (slate : List ℕ) (d n : ℕ) (w v₁ : Work) (closed : went w ≡ try_closed slate n w) (charge : went v₁ ≡ charge_alias w) where
  charged : (r : Ended Work) → r ≡ referring s d n v₁ → r ≡ alias_step s slate d n w
  charged r g = g ∙ ap (λ z. next z (referring s d n)) charge ∙ ap (λ z. next z (charging s d n)) closed

  pub breached : (x : FragmentError) (v : Work) → refused x v ≡ refer v₁ → refused x v ≡ alias_step s slate d n w
  breached x v q = charged (refused x v) (ap (λ z. next z (judging s d n)) q)

  module _ (v₂ : Work) (reference : went v₂ ≡ refer v₁) where
    referred : (r : Ended Work) → r ≡ judging s d n v₂ → r ≡ alias_step s slate d n w
    referred r g = charged r (g ∙ ap (λ z. next z (judging s d n)) reference)

    pub many : (x : FragmentError) (v : Work) → refused x v ≡ judge_aliases s.limits.budget v₂ → refused x v ≡ alias_step s slate d n w
    many x v q = referred (refused x v) (ap (λ z. next z (expanding s d n)) q)

    module _ (judgement : went v₂ ≡ judge_aliases s.limits.budget v₂) where
      judged : (r : Ended Work) → r ≡ expanding s d n v₂ → r ≡ alias_step s slate d n w
      judged r g = referred r (g ∙ ap (λ z. next z (expanding s d n)) judgement)

      pub often : (x : FragmentError) (v : Work) → refused x v ≡ expand s.limits.alias_limits n v₂ → refused x v ≡ alias_step s slate d n w
      often x v q = judged (refused x v) (ap (λ z. next z (judge_depth s.limits.alias_limits d)) q)

      pub last : (r : Ended Work) (v₃ : Work) → went v₃ ≡ expand s.limits.alias_limits n v₂ → r ≡ judge_depth s.limits.alias_limits d v₃ → r ≡ alias_step s slate d n w
      last r v₃ q g = judged r (g ∙ ap (λ z. next z (judge_depth s.limits.alias_limits d)) q)
