-- The laws of one observation, for what a call answers and leaves.
use Rattle.std.proofs.Common.{◌≡◌, ◌≤◌, true, sym, ◌∙◌, subst}
use Rattle.budget.specs.declared.limits.checking.CheckedLimits.{CheckedLimits}
use Rattle.budget.specs.declared.limits.AliasLimits.{AliasLimits}
use Rattle.budget.specs.declared.policy.EnforcingPolicy.{EnforcingPolicy}
use Rattle.budget.specs.declared.policy.MergeKeyPolicy.{MergeKeyPolicy}
use Rattle.budget.specs.Counts.{Answer}
use Rattle.budget.specs.Limits.{allowed as is_allowed}
use Rattle.budget.specs.Laws.{Adds, AnswersOnly, ABreachIsAnsweredForEver, ABreachTellsAPassedLimit, CountsDistinctAnchors, CountsExactly, CountsWhatIsObserved, EndsWithTheReport, IsUnderCheckedLimits, KeyAndValueAlternate, StaysWithin, Within}
use Rattle.budget.specs.Model.{Model, observed, started}
use Rattle.budget.specs.Observed.{Input}
use Rattle.budget.proofs.Adding.{observed_adds}
use Rattle.budget.proofs.Alternating.{key_and_value_alternate}
use Rattle.budget.proofs.Bounds.{Bounds, bounds}
use Rattle.budget.proofs.Keeping.{observed_within}
use Rattle.budget.proofs.Sticks.{answered_for_ever}
use Rattle.budget.proofs.Tallying.{counts_distinct_anchors, counts_what_is_observed, ends_with_the_report}
use Rattle.budget.proofs.Telling.{a_breach_tells_a_passed_limit}

module _ (m : Model) (i : Input) (r : Answer) (n : Model) (answer : r ≡ (observed i m).1) (state : n ≡ (observed i m).0) where
  pub breach_for_ever : ABreachIsAnsweredForEver r n
  breach_for_ever b e is = subst (λ k. AnswersOnly b k is) (sym state) (answered_for_ever i m b (sym answer ∙ e) is)

  pub good_within : StaysWithin r m n
  good_within h t = subst Within (sym state) (observed_within i m h (sym answer ∙ t))

-- checked limits
module _ (l : CheckedLimits) where
  abbrev a : AliasLimits
  a = l.limits.alias_limits

  allowed : Bounds l.limits.budget a
  allowed = bounds l.limits l.none_too_large

  -- an enforcer with them
  module _ (m : Model) (e : l.limits.budget ≡ m.budget) where
    bounded : Bounds m.budget a
    bounded = subst (λ b. Bounds b a) e allowed

    pub good_counts : (i : Input) (r : Answer) (n : Model) → r ≡ (observed i m).1 → n ≡ (observed i m).0 → CountsExactly i r m n
    good_counts i r n answer state t = subst (Adds i m) (sym state) (observed_adds a i m bounded (sym answer ∙ t))

    pub under_checked : IsUnderCheckedLimits m
    under_checked = (a, subst (λ b. is_allowed (record { budget = b; alias_limits = a }) ≡ true) e l.none_too_large)

    pub shallow_depth : m.budget.max_depth ≤ 256
    shallow_depth = subst (λ b. b.max_depth ≤ 256) e l.shallow

    pub alternating : KeyAndValueAlternate m
    alternating = key_and_value_alternate a m bounded

  -- an enforcer with them that has observed nothing
  module _ (p : EnforcingPolicy) (k : MergeKeyPolicy) (m : Model) (same : m ≡ started l.limits.budget p k) where
    pub counts_observed : CountsWhatIsObserved m
    counts_observed = subst CountsWhatIsObserved (sym same) (counts_what_is_observed a l.limits.budget p k allowed)

    pub counts_distinct : CountsDistinctAnchors m
    counts_distinct = subst CountsDistinctAnchors (sym same) (counts_distinct_anchors a l.limits.budget p k allowed)

    pub ends_so : EndsWithTheReport m
    ends_so = subst EndsWithTheReport (sym same) (ends_with_the_report a l.limits.budget p k allowed)

    pub breach_tells : ABreachTellsAPassedLimit m
    breach_tells = subst ABreachTellsAPassedLimit (sym same) (a_breach_tells_a_passed_limit a l.limits.budget p k allowed)
