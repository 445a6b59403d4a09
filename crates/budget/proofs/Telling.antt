-- A breach tells the counts that the report has, and is answered only where a limit is passed.
use Rattle.std.proofs.Common.{◌≡◌, ℕ, ◌+◌, ◌*◌, ◌<◌, max, Bool, true, false, cond, ◌&&◌, ◌||◌, eqb, ltb, leb, ◌⊎◌, List, [], ◌∷◌, length, Some, None, Ok, Err, Option, sym, refl, ap, ◌∙◌, subst, inl, inr, arith}
use Rattle.std.proofs.lemmas.Bool.{ltb-true, leb-true, eqb-true, and_parts}
use Rattle.events.specs.declared.kinds.EventKind.{EventKind}
use Rattle.events.specs.declared.kinds.EventKind.TheVariants.{StreamStart, StreamEnd, DocumentStart, DocumentEnd, Alias, Scalar, SequenceStart, SequenceEnd, MappingStart, MappingEnd}
use Rattle.budget.specs.declared.limits.AliasLimits.{AliasLimits}
use Rattle.budget.specs.declared.limits.Budget.{Budget}
use Rattle.budget.specs.declared.breach.BudgetReport.{BudgetReport}
use Rattle.budget.specs.declared.breach.BudgetBreach.{BudgetBreach}
use Rattle.budget.specs.declared.breach.BudgetBreach.TheVariants.{Events, Nodes, Depth, ScalarBytes, Aliases, Documents, MergeKeys, AliasAnchorRatio, Anchors, SequenceUnbalanced}
use Rattle.budget.specs.declared.policy.EnforcingPolicy.{EnforcingPolicy}
use Rattle.budget.specs.declared.policy.MergeKeyPolicy.{MergeKeyPolicy}
use Rattle.budget.specs.declared.policy.EnforcingPolicy.TheVariants.{AllContent, PerDocument}
use Rattle.budget.specs.declared.containers.ContainerState.{ContainerState}
use Rattle.budget.specs.Counts.{Answer, up, with_breached, count_event, count_node, count_bytes, count_alias, count_document, count_merge_key, count_anchor, deepen, judged, lopsided}
use Rattle.budget.specs.Limits.{within}
use Rattle.budget.specs.Flags.{trues, is_new, defined}
use Rattle.budget.specs.Merging.{is_merge}
use Rattle.budget.specs.Nesting.{key_next, closing, entered}
use Rattle.budget.specs.Observed.{Seen, Input, event, reference}
use Rattle.budget.specs.Model.{Model, Outcome, with_flags, with_around, good, on_good, and_then, counting, anchored, turning, placed, scalar_anchored, scalar_sized, scalar, enter_placed, enter_sized, enter_deep, enter, closed, leave_at, alias, renewed, document_by, by_kind, by_input, counted, kept, observed, sticking, started}
use Rattle.budget.specs.Runs.{run}
use Rattle.budget.specs.Laws.{breach_counts, report_counts, Passed, TellsAPassedLimit, ABreachTellsAPassedLimit}
use Rattle.budget.proofs.Bounds.{Bounds}
use Rattle.budget.proofs.Exact.{counted_exact}
use Rattle.budget.proofs.Adding.{adds_input, observed_adds}
use Rattle.budget.proofs.Sticks.{some_or_none, remembered, stuck_run}

-- a breach that is answered tells the counts that are left, and a limit that they pass
abbrev Tells : Outcome → Type 0
Tells p = (b : BudgetBreach) → p.1 ≡ Err b → TellsAPassedLimit b p.0

tells_good : (m : Model) → Tells (good m)
tells_good m b e = let z : ◌≡◌ {A = ℕ} 0 1 = cc in absurd (omega arith)

tells_err : (m : Model) (x : BudgetBreach) → TellsAPassedLimit x m → Tells (m, Err x)
tells_err m x h b e = let same : x ≡ b = cc in subst (λ y. TellsAPassedLimit y m) same h

tells_cond : (t : Bool) (p q : Outcome) → Tells p → Tells q → Tells (cond t p q)
tells_cond true p q h k = h
tells_cond false p q h k = k

-- a test of a count
tells_test : (t : Bool) (m : Model) (x : BudgetBreach) → breach_counts x ≡ report_counts x m.report → (t ≡ true → Passed x m.budget) → Tells (m, cond t (Err x) (Ok tt))
tells_test true m x h p = tells_err m x (record { counts = h; passed = p refl })
tells_test false m x h p = tells_good m

-- a count against its limit
tells_within : (limit n : ℕ) (m : Model) (x : BudgetBreach) → breach_counts x ≡ report_counts x m.report → (limit < n → Passed x m.budget) → Tells (m, within n limit x)
tells_within limit n m x h p = tells_test (ltb limit n) m x h (λ t. p (ltb-true limit n t))

onward : (r : Answer) (p q : Outcome) → Tells p → Tells q → Tells (on_good r q p)
onward (Ok u) p q h k = k
onward (Err x) p q h k = h

tells_then : (p : Outcome) (k : Model → Outcome) → Tells p → ((m : Model) → Tells (k m)) → Tells (and_then p k)
tells_then p k h l = onward p.1 p (k p.0) h (l p.0)

tells_events : (m : Model) → Tells (counting count_event m)
tells_events m = let n = up m.report.events 1 in tells_within m.budget.max_events n (counting count_event m).0 (Events n) refl (λ p. p)

tells_nodes : (m : Model) → Tells (counting count_node m)
tells_nodes m = let n = up m.report.nodes 1 in tells_within m.budget.max_nodes n (counting count_node m).0 (Nodes n) refl (λ p. p)

tells_bytes : (k : ℕ) (m : Model) → Tells (counting (count_bytes k) m)
tells_bytes k m = let n = up m.report.total_scalar_bytes k in tells_within m.budget.max_total_scalar_bytes n (counting (count_bytes k) m).0 (ScalarBytes n) refl (λ p. p)

tells_aliases : (m : Model) → Tells (counting count_alias m)
tells_aliases m = let n = up m.report.aliases 1 in tells_within m.budget.max_aliases n (counting count_alias m).0 (Aliases n) refl (λ p. p)

tells_depth : (d : ℕ) (m : Model) → Tells (counting (deepen d) m)
tells_depth d m = let n = max m.report.max_depth d in tells_within m.budget.max_depth n (counting (deepen d) m).0 (Depth n) refl (λ p. p)

tells_merges : (m : Model) → Tells (counting count_merge_key m)
tells_merges m = let n = up m.report.merge_keys 1 in tells_within m.budget.max_merge_keys n (counting count_merge_key m).0 (MergeKeys n) refl (λ p. p)

tells_documents : (m : Model) → Tells (counting count_document m)
tells_documents m = let n = up m.report.documents 1 in tells_within m.budget.max_documents n (counting count_document m).0 (Documents n) refl (λ p. p)

tells_anchor : (n : ℕ) (m : Model) → Tells (counting (count_anchor n) m)
tells_anchor n m = tells_within m.budget.max_anchors n (counting (count_anchor n) m).0 (Anchors n) refl (λ p. p)

none_or_many : (x y : Bool) (anchors limit aliases : ℕ) → eqb anchors 0 ≡ x → ltb limit aliases ≡ y → (x || y) ≡ true → (anchors ≡ 0) ⊎ (limit < aliases)
none_or_many true y anchors limit aliases p q e = inl (eqb-true anchors 0 p)
none_or_many false y anchors limit aliases p q e = inr (ltb-true limit aliases (q ∙ e))

ratio_passed : (b : Budget) (aliases anchors : ℕ) → lopsided b aliases anchors ≡ true → Passed (AliasAnchorRatio aliases anchors) b
ratio_passed b aliases anchors e =
    let limit = b.alias_anchor_ratio_multiplier * anchors in
    let many = eqb anchors 0 || ltb limit aliases in
    let p = and_parts b.enforce_alias_anchor_ratio (leb 1 aliases && (leb b.alias_anchor_min_aliases aliases && many)) e in
    let q = and_parts (leb 1 aliases) (leb b.alias_anchor_min_aliases aliases && many) p.1 in
    let r = and_parts (leb b.alias_anchor_min_aliases aliases) many q.1 in
    (p.0, leb-true 1 aliases q.0, leb-true b.alias_anchor_min_aliases aliases r.0, none_or_many (eqb anchors 0) (ltb limit aliases) anchors limit aliases refl refl r.1)

tells_ratio : (n : ℕ) (m : Model) → Tells (counting (judged n) m)
tells_ratio n m = tells_test (lopsided m.budget m.report.aliases n) (counting (judged n) m).0 (AliasAnchorRatio m.report.aliases n) refl (ratio_passed m.budget m.report.aliases n)

tells_anchored : (a : ℕ) (m : Model) → Tells (anchored a m)
tells_anchored a m =
    let bs = defined a m.anchors in
    let n = with_flags m bs in
    tells_cond (is_new a m.anchors) (counting (count_anchor (trues bs)) n) (good (counting (count_anchor (trues bs)) n).0) (tells_anchor (trues bs) n) (tells_good (counting (count_anchor (trues bs)) n).0)

tells_placed : (b : Bool) (m : Model) → Tells (placed b m)
tells_placed b m =
    tells_then (cond (b && key_next m.around) (counting count_merge_key m) (good m)) (λ n. good (turning Scalar n))
    (tells_cond (b && key_next m.around) (counting count_merge_key m) (good m) (tells_merges m) (tells_good m)) (λ n. tells_good (turning Scalar n))

tells_scalar : (e : Seen) (m : Model) → Tells (scalar e m)
tells_scalar e m =
    let k = length e.value + length e.tag in
    tells_then (counting count_node m) (scalar_sized e) (tells_nodes m)
    (λ n. tells_then (counting (count_bytes k) n) (scalar_anchored e) (tells_bytes k n)
    (λ l. tells_then (anchored e.anchor l) (placed (is_merge l.merging e)) (tells_anchored e.anchor l) (tells_placed (is_merge l.merging e))))

tells_enter : (e : Seen) (m : Model) → Tells (enter e m)
tells_enter e m =
    tells_then (counting count_node m) (enter_deep e) (tells_nodes m)
    (λ n. tells_then (counting (deepen (length n.around + 1)) n) (enter_sized e) (tells_depth (length n.around + 1) n)
    (λ l. tells_then (counting (count_bytes (length e.tag)) l) (enter_placed e) (tells_bytes (length e.tag) l) (λ j. tells_anchored e.anchor (with_around j (entered e.kind j.around)))))

tells_closed : (k : EventKind) (o : Option Bool) (m : Model) → Tells (closed k o m)
tells_closed k None m = tells_err m SequenceUnbalanced (record { counts = refl; passed = tt })
tells_closed k (Some true) m = tells_good (turning k m)
tells_closed k (Some false) m = tells_good m

tells_leave : (k : EventKind) (ss : List ContainerState) (m : Model) → Tells (leave_at k ss m)
tells_leave k [] m = tells_err m SequenceUnbalanced (record { counts = refl; passed = tt })
tells_leave k (s ∷ ss) m = tells_closed k (closing k s) (with_around m ss)

tells_alias : (m : Model) → Tells (alias m)
tells_alias m = tells_then (counting count_alias m) (λ n. good (turning Alias n)) (tells_aliases m) (λ n. tells_good (turning Alias n))

tells_document : (p : EnforcingPolicy) (m : Model) → Tells (document_by p m)
tells_document AllContent m = tells_documents m
tells_document PerDocument m = tells_then (counting (judged (trues m.anchors)) m) renewed (tells_ratio (trues m.anchors) m) (λ n. tells_good (renewed n).0)

tells_kind : (k : EventKind) (e : Seen) (m : Model) → Tells (by_kind k e m)
tells_kind Scalar e m = tells_scalar e m
tells_kind SequenceStart e m = tells_enter e m
tells_kind MappingStart e m = tells_enter e m
tells_kind SequenceEnd e m = tells_leave SequenceEnd m.around m
tells_kind MappingEnd e m = tells_leave MappingEnd m.around m
tells_kind Alias e m = tells_alias m
tells_kind DocumentStart e m = tells_document m.policy m
tells_kind DocumentEnd e m = tells_good m
tells_kind StreamStart e m = tells_good m
tells_kind StreamEnd e m = tells_good m

tells_input : (i : Input) (m : Model) → Tells (by_input i m)
tells_input (event e) m = tells_kind e.kind e m
tells_input reference m = tells_aliases m

tells_counted : (i : Input) (m : Model) → Tells (counted i m)
tells_counted i m = tells_then (counting count_event m) (by_input i) (tells_events m) (tells_input i)

-- what is remembered tells its counts, whatever is observed

abbrev Told : Model → Type 0
Told m = (b : BudgetBreach) → m.report.breached ≡ Some b → TellsAPassedLimit b m

same_counts : (x : BudgetBreach) (r : BudgetReport) (o : Option BudgetBreach) → report_counts x (with_breached r o) ≡ report_counts x r
same_counts (Events n) r o = refl
same_counts (Aliases n) r o = refl
same_counts (Anchors n) r o = refl
same_counts (Depth n) r o = refl
same_counts (Documents n) r o = refl
same_counts (Nodes n) r o = refl
same_counts (ScalarBytes n) r o = refl
same_counts (MergeKeys n) r o = refl
same_counts (AliasAnchorRatio n k) r o = refl
same_counts SequenceUnbalanced r o = refl

told_kept : (r : Answer) (p : Outcome) → Tells p → p.1 ≡ r → (r ≡ Ok tt → p.0.report.breached ≡ None) → Told (kept r p.0)
told_kept (Ok u) p h e c b s = some_or_none b p.0.report.breached s (c refl)
told_kept (Err x) p h e c b s =
    let same : x ≡ b = cc in
    let T : BudgetBreach → Type 0 = λ y. TellsAPassedLimit y (kept (Err x) p.0) in
    let t = h x e in
    subst T same (record { counts = t.counts ∙ sym (same_counts x p.0.report (Some x)); passed = t.passed })

told_sticking : (o : Option BudgetBreach) (m : Model) (p : Outcome) → Told m → Tells p → (o ≡ None → p.1 ≡ Ok tt → p.0.report.breached ≡ None) → Told (sticking o m p).0
told_sticking (Some x) m p h k c = h
told_sticking None m p h k c = told_kept p.1 p k refl (c refl)

module _ (a : AliasLimits) where
  told_observed : (i : Input) (m : Model) → Bounds m.budget a → Told m → Told (observed i m).0
  told_observed i m w h =
      told_sticking m.report.breached m (counted i m) h (tells_counted i m)
      (λ c e. ap (λ n. n.report.breached) (counted_exact a i m w e) ∙ (adds_input i m).breached ∙ c)

  -- while the answers are good the limits stay, and from the first breach on nothing changes
  told_after : (r : Answer) (is : List Input) (i : Input) (m : Model) → Bounds m.budget a → Told m → (observed i m).1 ≡ r → (Bounds (observed i m).0.budget a → Told (run is (observed i m).0)) → Told (run is (observed i m).0)
  told_after (Ok u) is i m w h e more = more (subst (λ b. Bounds b a) (sym (observed_adds a i m w e).budget) w)
  told_after (Err b) is i m w h e more = subst Told (sym (stuck_run b is (observed i m).0 (remembered b i m e))) (told_observed i m w h)

  told_run : (is : List Input) (m : Model) → Bounds m.budget a → Told m → Told (run is m)
  told_run [] m w h = h
  told_run (i ∷ is) m w h = told_after (observed i m).1 is i m w h refl (λ v. told_run is (observed i m).0 v (told_observed i m w h))

  pub a_breach_tells_a_passed_limit : (b : Budget) (p : EnforcingPolicy) (k : MergeKeyPolicy) → Bounds b a → ABreachTellsAPassedLimit (started b p k)
  a_breach_tells_a_passed_limit b p k w is = told_run is (started b p k) w (λ x e. some_or_none x None e refl)
