-- A good answer leaves every count within its limit.
use Rattle.std.proofs.Common.{◌≡◌, ℕ, ◌+◌, ◌≤◌, max, Bool, true, false, cond, not, ◌&&◌, eqb, List, [], ◌∷◌, length, get_or, set, Some, None, Ok, Err, Option, sym, refl, ap, ◌∙◌, subst, arith, rules}
use Rattle.std.proofs.lemmas.List.{set-get_or}
use Rattle.std.proofs.lemmas.Bool.{not-false}
use Rattle.events.specs.declared.kinds.EventKind.{EventKind}
use Rattle.events.specs.declared.kinds.EventKind.TheVariants.{StreamStart, StreamEnd, DocumentStart, DocumentEnd, Alias, Scalar, SequenceStart, SequenceEnd, MappingStart, MappingEnd}
use Rattle.budget.specs.declared.limits.Budget.{Budget}
use Rattle.budget.specs.declared.breach.BudgetBreach.TheVariants.{Events, Nodes, Depth, ScalarBytes, Aliases, Documents, MergeKeys, Anchors, SequenceUnbalanced}
use Rattle.budget.specs.declared.policy.EnforcingPolicy.{EnforcingPolicy}
use Rattle.budget.specs.declared.policy.EnforcingPolicy.TheVariants.{AllContent, PerDocument}
use Rattle.budget.specs.declared.policy.MergeKeyPolicy.{MergeKeyPolicy}
use Rattle.budget.specs.declared.containers.ContainerState.{ContainerState}
use Rattle.budget.specs.Counts.{up, count_event, count_node, count_bytes, count_alias, count_document, count_merge_key, count_anchor, deepen, judged, with_anchors}
use Rattle.budget.specs.Flags.{trues, is_new, defined}
use Rattle.budget.specs.Merging.{is_merge}
use Rattle.budget.specs.Nesting.{key_next, closing, entered}
use Rattle.budget.specs.Observed.{Seen, Input, event, reference}
use Rattle.budget.specs.Model.{Model, Outcome, with_report, with_flags, with_around, good, and_then, counting, anchored, turning, placed, scalar_anchored, scalar_sized, scalar, enter_placed, enter_sized, enter_deep, enter, closed, leave_at, alias, renewed, document_by, by_kind, by_input, observed, started}
use Rattle.budget.specs.Laws.{Within, StaysWithin}
use Rattle.budget.proofs.Exact.{ok_or_err, passed, not_above}
use Rattle.budget.proofs.Marking.{none_set}
use Rattle.budget.proofs.Sticks.{counted_well}

abbrev Safe : (Model → Outcome) → Type 0
Safe f = (m : Model) → Within m → (f m).1 ≡ Ok tt → Within (f m).0

safe_then : (p : Model → Outcome) (k : Model → Model → Outcome) → Safe p → ((m : Model) → Safe (k m)) → Safe (λ m. and_then (p m) (k m))
safe_then p k s t m w e =
    let g = passed (p m).1 (p m) (k m (p m).0) refl e in
    subst (λ o. Within o.0) (sym g.1) (t m (p m).0 (s m w g.0) (sym (ap (λ o. o.1) g.1) ∙ e))

safe_events : Safe (counting count_event)
safe_events m w e = let h = not_above (up m.report.events 1) m.budget.max_events (Events (up m.report.events 1)) e in search rules

safe_nodes : Safe (counting count_node)
safe_nodes m w e = let h = not_above (up m.report.nodes 1) m.budget.max_nodes (Nodes (up m.report.nodes 1)) e in search rules

safe_bytes : (k : ℕ) → Safe (counting (count_bytes k))
safe_bytes k m w e = let n = up m.report.total_scalar_bytes k in let h = not_above n m.budget.max_total_scalar_bytes (ScalarBytes n) e in search rules

safe_aliases : Safe (counting count_alias)
safe_aliases m w e = let h = not_above (up m.report.aliases 1) m.budget.max_aliases (Aliases (up m.report.aliases 1)) e in search rules

safe_depth : (d : ℕ) → Safe (counting (deepen d))
safe_depth d m w e = let n = max m.report.max_depth d in let h = not_above n m.budget.max_depth (Depth n) e in search rules

safe_merges : Safe (counting count_merge_key)
safe_merges m w e = let h = not_above (up m.report.merge_keys 1) m.budget.max_merge_keys (MergeKeys (up m.report.merge_keys 1)) e in search rules

safe_documents : Safe (counting count_document)
safe_documents m w e = let h = not_above (up m.report.documents 1) m.budget.max_documents (Documents (up m.report.documents 1)) e in search rules

-- a number that is not new changes nothing
same_either : (zeroth : Bool) (a : ℕ) (bs : List Bool) → cond zeroth false (not (get_or bs a false)) ≡ false → trues (cond zeroth bs (set bs a true)) ≡ trues bs
same_either true a bs e = refl
same_either false a bs e = ap trues (sym (ap (set bs a) (not-false (get_or bs a false) e)) ∙ set-get_or bs a false)

safe_number : (new : Bool) (a : ℕ) (m : Model) → is_new a m.anchors ≡ new → Within m →
    (cond new (counting (count_anchor (trues (defined a m.anchors))) (with_flags m (defined a m.anchors))) (good (with_report (with_flags m (defined a m.anchors)) (with_anchors m.report (trues (defined a m.anchors)))))).1 ≡ Ok tt →
    Within (cond new (counting (count_anchor (trues (defined a m.anchors))) (with_flags m (defined a m.anchors))) (good (with_report (with_flags m (defined a m.anchors)) (with_anchors m.report (trues (defined a m.anchors)))))).0
safe_number true a m n w e =
    let k = trues (defined a m.anchors) in
    let h = not_above k m.budget.max_anchors (Anchors k) e in
    record { events = w.events; aliases = w.aliases; anchors = h; depth = w.depth; documents = w.documents; nodes = w.nodes; bytes = w.bytes; merge_keys = w.merge_keys; told = refl }
safe_number false a m n w e =
    let same = same_either (eqb a 0) a m.anchors n in
    let h : trues (defined a m.anchors) ≤ m.budget.max_anchors = subst (λ k. k ≤ m.budget.max_anchors) (w.told ∙ sym same) w.anchors in
    record { events = w.events; aliases = w.aliases; anchors = h; depth = w.depth; documents = w.documents; nodes = w.nodes; bytes = w.bytes; merge_keys = w.merge_keys; told = refl }

safe_anchored : (a : ℕ) → Safe (anchored a)
safe_anchored a m w e = safe_number (is_new a m.anchors) a m refl w e

safe_merge : (x : Bool) (m : Model) → Within m → (cond x (counting count_merge_key m) (good m)).1 ≡ Ok tt → Within (cond x (counting count_merge_key m) (good m)).0
safe_merge true m w e = safe_merges m w e
safe_merge false m w e = w

-- the counts stay where only containers change
moved : (m : Model) (ss : List ContainerState) → Within m → Within (with_around m ss)
moved m ss w = record { events = w.events; aliases = w.aliases; anchors = w.anchors; depth = w.depth; documents = w.documents; nodes = w.nodes; bytes = w.bytes; merge_keys = w.merge_keys; told = w.told }

safe_placed : (b : Bool) → Safe (placed b)
safe_placed b =
    safe_then (λ m. cond (b && key_next m.around) (counting count_merge_key m) (good m)) (λ _ n. good (turning Scalar n))
    (λ m w e. safe_merge (b && key_next m.around) m w e) (λ _ n w e. moved n (turning Scalar n).around w)

safe_scalar : (e : Seen) → Safe (scalar e)
safe_scalar e =
    let k = length e.value + length e.tag in
    safe_then (counting count_node) (λ _. scalar_sized e) safe_nodes
    (λ _. safe_then (counting (count_bytes k)) (λ _. scalar_anchored e) (safe_bytes k)
    (λ _. safe_then (anchored e.anchor) (λ l. placed (is_merge l.merging e)) (safe_anchored e.anchor) (λ l. safe_placed (is_merge l.merging e))))

safe_enter : (e : Seen) → Safe (enter e)
safe_enter e =
    safe_then (counting count_node) (λ _. enter_deep e) safe_nodes
    (λ _. safe_then (λ n. counting (deepen (length n.around + 1)) n) (λ _. enter_sized e) (λ n. safe_depth (length n.around + 1) n)
    (λ _. safe_then (counting (count_bytes (length e.tag))) (λ _. enter_placed e) (safe_bytes (length e.tag))
    (λ _ j w t. safe_anchored e.anchor (with_around j (entered e.kind j.around)) (moved j (entered e.kind j.around) w) t)))

safe_closed : (k : EventKind) (o : Option Bool) → Safe (closed k o)
safe_closed k None m w e = ok_or_err SequenceUnbalanced (Err SequenceUnbalanced) refl e
safe_closed k (Some true) m w e = moved m (turning k m).around w
safe_closed k (Some false) m w e = w

safe_leave : (k : EventKind) (ss : List ContainerState) → Safe (leave_at k ss)
safe_leave k [] m w e = ok_or_err SequenceUnbalanced (Err SequenceUnbalanced) refl e
safe_leave k (s ∷ ss) m w e = safe_closed k (closing k s) (with_around m ss) (moved m ss w) e

safe_alias : Safe alias
safe_alias = safe_then (counting count_alias) (λ _ n. good (turning Alias n)) safe_aliases (λ _ n w e. moved n (turning Alias n).around w)

-- counts that begin anew
safe_renewed : Safe renewed
safe_renewed m w e = record { events = omega arith; aliases = omega arith; anchors = omega arith; depth = omega arith; documents = w.documents; nodes = omega arith; bytes = omega arith; merge_keys = omega arith; told = sym (none_set 1024) }

safe_ratio : Safe (λ m. counting (judged (trues m.anchors)) m)
safe_ratio m w e =
    let h : trues m.anchors ≤ m.budget.max_anchors = subst (λ k. k ≤ m.budget.max_anchors) w.told w.anchors in
    record { events = w.events; aliases = w.aliases; anchors = h; depth = w.depth; documents = w.documents; nodes = w.nodes; bytes = w.bytes; merge_keys = w.merge_keys; told = refl }

safe_document : (p : EnforcingPolicy) → Safe (document_by p)
safe_document AllContent = safe_documents
safe_document PerDocument = safe_then (λ m. counting (judged (trues m.anchors)) m) (λ _. renewed) safe_ratio (λ _. safe_renewed)

safe_kind : (k : EventKind) (e : Seen) → Safe (by_kind k e)
safe_kind Scalar e m w t = safe_scalar e m w t
safe_kind SequenceStart e m w t = safe_enter e m w t
safe_kind MappingStart e m w t = safe_enter e m w t
safe_kind SequenceEnd e m w t = safe_leave SequenceEnd m.around m w t
safe_kind MappingEnd e m w t = safe_leave MappingEnd m.around m w t
safe_kind Alias e m w t = safe_alias m w t
safe_kind DocumentStart e m w t = safe_document m.policy m w t
safe_kind DocumentEnd e m w t = w
safe_kind StreamStart e m w t = w
safe_kind StreamEnd e m w t = w

safe_input : (i : Input) → Safe (by_input i)
safe_input (event e) m w t = safe_kind e.kind e m w t
safe_input reference m w t = safe_aliases m w t

pub observed_within : (i : Input) (m : Model) → StaysWithin (observed i m).1 m (observed i m).0
observed_within i m w t =
    let h = counted_well i m t in
    subst Within (sym h.1) (safe_then (counting count_event) (λ _. by_input i) safe_events (λ _. safe_input i) m w h.0)

pub started_within : (b : Budget) (p : EnforcingPolicy) (k : MergeKeyPolicy) → Within (started b p k)
started_within b p k = record { events = omega arith; aliases = omega arith; anchors = omega arith; depth = omega arith; documents = omega arith; nodes = omega arith; bytes = omega arith; merge_keys = omega arith; told = sym (none_set 1024) }
