-- With no breach, each count is what was observed since the counts began anew.
use Rattle.std.proofs.Common.{◌≡◌, ℕ, ◌+◌, ◌<◌, max, false, cond, ◌||◌, List, [], ◌∷◌, length, get_or, None, Ok, sym, refl, ap, ◌∙◌, subst}
use Rattle.std.specs.List.{list_any}
use lib.ListN.{length-replicate}
use Rattle.budget.specs.declared.limits.AliasLimits.{AliasLimits}
use Rattle.budget.specs.declared.limits.Budget.{Budget}
use Rattle.budget.specs.declared.policy.EnforcingPolicy.{EnforcingPolicy}
use Rattle.budget.specs.declared.policy.MergeKeyPolicy.{MergeKeyPolicy}
use Rattle.budget.specs.Counts.{with_anchors}
use Rattle.budget.specs.Flags.{trues}
use Rattle.budget.specs.Observed.{Input}
use Rattle.budget.specs.Model.{Model, observed, started}
use Rattle.budget.specs.Runs.{run, Moment, moments, gathered, since_last, total}
use Rattle.budget.specs.Tallies.{nodes_of, aliases_of, bytes_of, documents_of, resets, depth_of, merge_keys_of, carries, number_below}
use Rattle.budget.specs.Laws.{Adds, since, moments_since, CountsWhatIsObserved, CountsDistinctAnchors, EndsWithTheReport}
use Rattle.budget.proofs.Bounds.{Bounds}
use Rattle.budget.proofs.Sticks.{clean_before, clean_answer}
use Rattle.budget.proofs.Adding.{observed_adds}
use Rattle.budget.proofs.Since.{gathered_any, gathered_map, since_map, since_none, none_pass, total_ones}
use Rattle.budget.proofs.Gathering.{Together, sums, maxima, tests, at, gather_all, inputs_of}
use Rattle.budget.proofs.Marking.{observed_marks, none_set, none_at, number_set, number_same}

-- what holds of an enforcer with bounded limits, whatever it has observed without a breach
pub record Fit (a : AliasLimits) (p : EnforcingPolicy) (m : Model) : Type 0 where
  pub bounds : Bounds m.budget a
  pub policy : m.policy ≡ p
  pub as_long : length m.anchors ≡ 1024
  pub told : m.report.anchors ≡ trues m.anchors

module _ (a : AliasLimits) (p : EnforcingPolicy) where
  fit_step : (i : Input) (m : Model) → Fit a p m → (observed i m).1 ≡ Ok tt → Fit a p (observed i m).0
  fit_step i m h t =
      let d = observed_adds a i m h.bounds t in
      let k = observed_marks a i m h.bounds t in
      record { bounds = subst (λ b. Bounds b a) (sym d.budget) h.bounds; policy = d.policy ∙ h.policy; as_long = k.as_long h.as_long; told = k.told h.told }

  fit_run : (is : List Input) (m : Model) → Fit a p m → (run is m).report.breached ≡ None → Fit a p (run is m)
  fit_run [] m h e = h
  fit_run (i ∷ is) m h e = fit_run is (observed i m).0 (fit_step i m h (clean_answer i m (clean_before is (observed i m).0 e))) e

  -- a count that begins anew with the others
  since_reset : {S : Type 0} (op : S → S → S) (o : S) (t : Together op o) (g : Model → S) (w : Moment → S) →
      ((i : Input) (m : Model) → Fit a p m → (observed i m).1 ≡ Ok tt → g (observed i m).0 ≡ cond (resets m.policy i) o (op (g m) (w (at i m)))) →
      (is : List Input) (m : Model) → Fit a p m → g m ≡ o → (run is m).report.breached ≡ None → g (run is m) ≡ gathered op o w (moments_since p is m)
  since_reset op o t g w law is m h z e =
      gather_all op o t (Fit a p) g w (λ x. resets p x.input)
      (λ i n f r. record { holds = fit_step i n f r; count = law i n f r ∙ ap (λ q. cond (resets q i) o (op (g n) (w (at i n)))) f.policy })
      is m h z e

  -- the inputs alone
  inputs_since : {S : Type 0} (op : S → S → S) (o : S) (w : Input → S) (is : List Input) (m : Model) → gathered op o (λ x. w x.input) (moments_since p is m) ≡ gathered op o w (since p is)
  inputs_since op o w is m =
      gathered_map op o (λ x. x.input) w (moments_since p is m)
      ∙ ap (gathered op o w) (since_map (λ x. x.input) (resets p) (moments is m) ∙ ap (since_last (resets p)) (inputs_of is m))

  -- documents are never counted anew
  all_inputs : (w : Input → ℕ) (is : List Input) (m : Model) → total (λ x. w x.input) (since_last (λ _. false) (moments is m)) ≡ total w is
  all_inputs w is m =
      ap (total (λ x. w x.input)) (since_none (λ _. false) (moments is m) (none_pass (moments is m)))
      ∙ gathered_map ◌+◌ 0 (λ x. x.input) w (moments is m) ∙ ap (total w) (inputs_of is m)

  documents_all : (is : List Input) (m : Model) → Fit a p m → m.report.documents ≡ 0 → (run is m).report.breached ≡ None → (run is m).report.documents ≡ total (documents_of p) is
  documents_all is m h z e =
      gather_all ◌+◌ 0 sums (Fit a p) (λ n. n.report.documents) (λ x. documents_of p x.input) (λ _. false)
      (λ i n f r. record { holds = fit_step i n f r; count = (observed_adds a i n f.bounds r).documents ∙ ap (λ q. n.report.documents + documents_of q i) f.policy })
      is m h z e
      ∙ all_inputs (documents_of p) is m

  module _ (m : Model) (h : Fit a p m) where
    sum_since : (g : Model → ℕ) (w : Input → ℕ) → ((i : Input) (n l : Model) → Adds i n l → g l ≡ cond (resets n.policy i) 0 (g n + w i)) → g m ≡ 0 → (is : List Input) → (run is m).report.breached ≡ None → g (run is m) ≡ total w (since p is)
    sum_since g w law z is e =
        since_reset ◌+◌ 0 sums g (λ x. w x.input) (λ i n f r. law i n (observed i n).0 (observed_adds a i n f.bounds r)) is m h z e ∙ inputs_since ◌+◌ 0 w is m

    flag_since : (k : ℕ) → k < 1024 → get_or m.anchors k false ≡ false → (is : List Input) → (run is m).report.breached ≡ None → get_or (run is m).anchors k false ≡ list_any (carries k) (since p is)
    flag_since k l z is e =
        since_reset ◌||◌ false tests (λ n. get_or n.anchors k false) (λ x. carries k x.input)
        (λ i n f r. (observed_marks a i n f.bounds r).flag k (subst (λ s. k < s) (sym f.as_long) l)) is m h z e ∙ inputs_since ◌||◌ false (carries k) is m ∙ gathered_any (carries k) (since p is)

module _ (a : AliasLimits) (b : Budget) (p : EnforcingPolicy) (k : MergeKeyPolicy) (w : Bounds b a) where
  fit_started : Fit a p (started b p k)
  fit_started = record { bounds = w; policy = refl; as_long = length-replicate 1024 false; told = sym (none_set 1024) }

  pub counts_what_is_observed : CountsWhatIsObserved (started b p k)
  counts_what_is_observed is e =
      let m = started b p k in
      let sum = sum_since a p m fit_started in
      record {
        events = sum (λ n. n.report.events) (λ _. 1) (λ i n l d. d.events) refl is e ∙ total_ones (since p is);
        aliases = sum (λ n. n.report.aliases) aliases_of (λ i n l d. d.aliases) refl is e;
        nodes = sum (λ n. n.report.nodes) nodes_of (λ i n l d. d.nodes) refl is e;
        bytes = sum (λ n. n.report.total_scalar_bytes) bytes_of (λ i n l d. d.bytes) refl is e;
        documents = documents_all a p is m fit_started refl e;
        merge_keys = since_reset a p ◌+◌ 0 sums (λ n. n.report.merge_keys) (λ x. merge_keys_of x.input x.before) (λ i n f r. (observed_adds a i n f.bounds r).merge_keys) is m fit_started refl e;
        depth = since_reset a p max 0 maxima (λ n. n.report.max_depth) (λ x. depth_of x.input x.before) (λ i n f r. (observed_adds a i n f.bounds r).depth) is m fit_started refl e;
      }

  pub counts_distinct_anchors : CountsDistinctAnchors (started b p k)
  counts_distinct_anchors is e =
      let m = started b p k in
      let f = fit_run a p is m fit_started e in
      f.told ∙ number_set (run is m).anchors ∙ ap (λ n. number_below n (λ j. get_or (run is m).anchors j false)) f.as_long
      ∙ number_same 1024 (λ j. get_or (run is m).anchors j false) (λ j. list_any (carries j) (since p is)) (λ j l. flag_since a p m fit_started j l (none_at 1024 j) is e)

  pub ends_with_the_report : EndsWithTheReport (started b p k)
  ends_with_the_report is e = ap (with_anchors (run is (started b p k)).report) (sym (fit_run a p is (started b p k) fit_started e).told)
