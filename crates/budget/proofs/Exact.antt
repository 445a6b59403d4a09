-- What an input does where the answer is good.
use Rattle.std.proofs.Common.{◌≡◌, ℕ, ◌+◌, ◌^◌, ◌≤◌, max, Bool, true, false, cond, ◌&&◌, ltb, List, [], ◌∷◌, length, Some, None, Ok, Err, Option, sym, refl, ap, ◌∙◌, add-zero, arith}
use Rattle.std.proofs.lemmas.Bool.{ltb-false}
use Rattle.events.specs.declared.kinds.EventKind.{EventKind}
use Rattle.events.specs.declared.kinds.EventKind.TheVariants.{StreamStart, StreamEnd, DocumentStart, DocumentEnd, Alias, Scalar, SequenceStart, SequenceEnd, MappingStart, MappingEnd}
use Rattle.budget.specs.declared.limits.AliasLimits.{AliasLimits}
use Rattle.budget.specs.declared.breach.BudgetBreach.{BudgetBreach}
use Rattle.budget.specs.declared.breach.BudgetBreach.TheVariants.{SequenceUnbalanced}
use Rattle.budget.specs.declared.policy.EnforcingPolicy.{EnforcingPolicy}
use Rattle.budget.specs.declared.policy.EnforcingPolicy.TheVariants.{AllContent, PerDocument}
use Rattle.budget.specs.declared.containers.ContainerState.{ContainerState}
use Rattle.budget.specs.Counts.{Answer, up, count_event, count_node, count_bytes, count_alias, count_document, count_merge_key, count_anchor, deepen, judged, cleared, with_events, with_nodes, with_bytes, with_aliases, with_documents, with_merge_keys, with_max_depth, with_anchors}
use Rattle.budget.specs.Limits.{within}
use Rattle.budget.specs.Flags.{trues, is_new, defined}
use Rattle.budget.specs.Merging.{is_merge}
use Rattle.budget.specs.Nesting.{turn_top, key_next, entered, closing}
use Rattle.budget.specs.Observed.{Seen, Input, event, reference}
use Rattle.budget.specs.Model.{Model, Outcome, with_report, with_around, with_flags, no_anchors, good, on_good, and_then, counting, anchored, turning, placed, scalar_anchored, scalar_sized, scalar, enter_placed, enter_sized, enter_deep, enter, closed, leave_at, alias, renewed, document_by, by_kind, by_input, counted}
use Rattle.budget.specs.Tallies.{one}
use Rattle.budget.proofs.Bounds.{Bounds}

pub ok_or_err : {X : Type 0} (b : BudgetBreach) (r : Answer) → r ≡ Err b → r ≡ Ok tt → X
ok_or_err b r p q = let z : ◌≡◌ {A = ℕ} 0 1 = cc in absurd (omega arith)

-- a chain that ends well went well, and went on from what the first step left
pub passed : (a : Answer) (p q : Outcome) → p.1 ≡ a → (on_good a q p).1 ≡ Ok tt → (a ≡ Ok tt) × (on_good a q p ≡ q)
passed (Ok u) p q s e = (refl, refl)
passed (Err b) p q s e = ok_or_err b p.1 s e

pub onward : (p : Outcome) (k : Model → Outcome) (n : Model) → (and_then p k).1 ≡ Ok tt → (p.1 ≡ Ok tt → p.0 ≡ n) → ((k n).1 ≡ Ok tt) × ((and_then p k).0 ≡ (k n).0)
onward p k n e f =
    let t = passed p.1 p (k p.0) refl e in
    let whole : and_then p k ≡ k n = t.1 ∙ ap k (f t.0) in
    (sym (ap (λ o. o.1) whole) ∙ e, ap (λ o. o.0) whole)

-- a count within its limit is exact
tested : (x : Bool) (b : BudgetBreach) → ◌≡◌ {A = Answer} (cond x (Err b) (Ok tt)) (Ok tt) → x ≡ false
tested true b e = ok_or_err b (Err b) refl e
tested false b e = refl

pub not_above : (n limit : ℕ) (b : BudgetBreach) → within n limit b ≡ Ok tt → n ≤ limit
not_above n limit b e = ltb-false limit n (tested (ltb limit n) b e)

exact : (n k limit : ℕ) (b : BudgetBreach) → limit ≤ 2 ^ 30 → within (up n k) limit b ≡ Ok tt → up n k ≡ n + k
exact n k limit b h e = let w = not_above (up n k) limit b e in omega arith

-- each step of the counts without a breach

abbrev pub evented : Model → Model
evented m = with_report m (with_events m.report (m.report.events + 1))

abbrev pub noded : Model → Model
noded m = with_report m (with_nodes m.report (m.report.nodes + 1))

abbrev pub sized : ℕ → Model → Model
sized k m = with_report m (with_bytes m.report (m.report.total_scalar_bytes + k))

abbrev pub deepened : ℕ → Model → Model
deepened d m = with_report m (with_max_depth m.report (max m.report.max_depth d))

abbrev pub aliased : Model → Model
aliased m = with_report m (with_aliases m.report (m.report.aliases + 1))

abbrev pub documented : Model → Model
documented m = with_report m (with_documents m.report (m.report.documents + 1))

abbrev pub merged : Bool → Model → Model
merged b m = with_report m (with_merge_keys m.report (m.report.merge_keys + one (b && key_next m.around)))

abbrev pub defining : ℕ → Model → Model
defining a m = with_report (with_flags m (defined a m.anchors)) (with_anchors m.report (trues (defined a m.anchors)))

abbrev pub fresh : Model → Model
fresh m = with_flags (with_report m (cleared m.report)) no_anchors

pick : (x : Bool) (p q : Outcome) (n : Model) → p.0 ≡ n → q.0 ≡ n → (cond x p q).0 ≡ n
pick true p q n e f = e
pick false p q n e f = f

pub defines : (a : ℕ) (m : Model) → (anchored a m).0 ≡ defining a m
defines a m =
    let bs = defined a m.anchors in
    pick (is_new a m.anchors) (counting (count_anchor (trues bs)) (with_flags m bs)) (good (defining a m)) (defining a m) refl refl

-- the containers after an end
abbrev pub left_by : EventKind → Option Bool → List ContainerState → List ContainerState
left_by k None ss = ss
left_by k (Some true) ss = turn_top k ss
left_by k (Some false) ss = ss

abbrev pub left : EventKind → List ContainerState → List ContainerState
left k [] = []
left k (s ∷ ss) = left_by k (closing k s) ss

abbrev pub documented_by : EnforcingPolicy → Model → Model
documented_by AllContent m = documented m
documented_by PerDocument m = fresh m

-- what an event does without a breach
abbrev pub calm_by : EventKind → Seen → Model → Model
calm_by Scalar e m = turning Scalar (merged (is_merge m.merging e) (defining e.anchor (sized (length e.value + length e.tag) (noded m))))
calm_by SequenceStart e m = defining e.anchor (with_around (sized (length e.tag) (deepened (length m.around + 1) (noded m))) (entered e.kind m.around))
calm_by MappingStart e m = defining e.anchor (with_around (sized (length e.tag) (deepened (length m.around + 1) (noded m))) (entered e.kind m.around))
calm_by SequenceEnd e m = with_around m (left SequenceEnd m.around)
calm_by MappingEnd e m = with_around m (left MappingEnd m.around)
calm_by Alias e m = turning Alias (aliased m)
calm_by DocumentStart e m = documented_by m.policy m
calm_by DocumentEnd e m = m
calm_by StreamStart e m = m
calm_by StreamEnd e m = m

abbrev pub calm : Input → Model → Model
calm (event e) m = calm_by e.kind e (evented m)
calm reference m = aliased (evented m)

module _ (a : AliasLimits) where
  events_exact : (m : Model) → Bounds m.budget a → (counting count_event m).1 ≡ Ok tt → (counting count_event m).0 ≡ evented m
  events_exact m w e = ap (λ n. with_report m (with_events m.report n)) (exact m.report.events 1 _ _ w.events e)

  nodes_exact : (m : Model) → Bounds m.budget a → (counting count_node m).1 ≡ Ok tt → (counting count_node m).0 ≡ noded m
  nodes_exact m w e = ap (λ n. with_report m (with_nodes m.report n)) (exact m.report.nodes 1 _ _ w.nodes e)

  bytes_exact : (k : ℕ) (m : Model) → Bounds m.budget a → (counting (count_bytes k) m).1 ≡ Ok tt → (counting (count_bytes k) m).0 ≡ sized k m
  bytes_exact k m w e = ap (λ n. with_report m (with_bytes m.report n)) (exact m.report.total_scalar_bytes k _ _ w.scalars e)

  aliases_exact : (m : Model) → Bounds m.budget a → (counting count_alias m).1 ≡ Ok tt → (counting count_alias m).0 ≡ aliased m
  aliases_exact m w e = ap (λ n. with_report m (with_aliases m.report n)) (exact m.report.aliases 1 _ _ w.aliases e)

  documents_exact : (m : Model) → Bounds m.budget a → (counting count_document m).1 ≡ Ok tt → (counting count_document m).0 ≡ documented m
  documents_exact m w e = ap (λ n. with_report m (with_documents m.report n)) (exact m.report.documents 1 _ _ w.documents e)

  merges_exact : (m : Model) → Bounds m.budget a → (counting count_merge_key m).1 ≡ Ok tt → (counting count_merge_key m).0 ≡ with_report m (with_merge_keys m.report (m.report.merge_keys + 1))
  merges_exact m w e = ap (λ n. with_report m (with_merge_keys m.report n)) (exact m.report.merge_keys 1 _ _ w.merges e)

  merged_exact : (x : Bool) (m : Model) → Bounds m.budget a → (cond x (counting count_merge_key m) (good m)).1 ≡ Ok tt → (cond x (counting count_merge_key m) (good m)).0 ≡ with_report m (with_merge_keys m.report (m.report.merge_keys + one x))
  merged_exact true m w e = merges_exact m w e
  merged_exact false m w e = ap (λ n. with_report m (with_merge_keys m.report n)) (sym (add-zero m.report.merge_keys))

  placed_exact : (b : Bool) (m : Model) → Bounds m.budget a → (placed b m).1 ≡ Ok tt → (placed b m).0 ≡ turning Scalar (merged b m)
  placed_exact b m w e =
      let x = b && key_next m.around in
      (onward (cond x (counting count_merge_key m) (good m)) (λ n. good (turning Scalar n)) (merged b m) e (λ t. merged_exact x m w t)).1

  scalar_exact : (e : Seen) (m : Model) → Bounds m.budget a → (scalar e m).1 ≡ Ok tt → (scalar e m).0 ≡ calm_by Scalar e m
  scalar_exact e m w t =
      let k = length e.value + length e.tag in
      let m1 = noded m in
      let m2 = sized k m1 in
      let m3 = defining e.anchor m2 in
      let b = is_merge m.merging e in
      let s1 = onward (counting count_node m) (scalar_sized e) m1 t (nodes_exact m w) in
      let s2 = onward (counting (count_bytes k) m1) (scalar_anchored e) m2 s1.0 (bytes_exact k m1 w) in
      let s3 = onward (anchored e.anchor m2) (placed b) m3 s2.0 (λ _. defines e.anchor m2) in
      s1.1 ∙ s2.1 ∙ s3.1 ∙ placed_exact b m3 w s3.0

  enter_exact : (e : Seen) (m : Model) → Bounds m.budget a → (enter e m).1 ≡ Ok tt → (enter e m).0 ≡ defining e.anchor (with_around (sized (length e.tag) (deepened (length m.around + 1) (noded m))) (entered e.kind m.around))
  enter_exact e m w t =
      let k = length e.tag in
      let d = length m.around + 1 in
      let m1 = noded m in
      let m2 = deepened d m1 in
      let m3 = sized k m2 in
      let s1 = onward (counting count_node m) (enter_deep e) m1 t (nodes_exact m w) in
      let s2 = onward (counting (deepen d) m1) (enter_sized e) m2 s1.0 (λ _. refl) in
      let s3 = onward (counting (count_bytes k) m2) (enter_placed e) m3 s2.0 (bytes_exact k m2 w) in
      s1.1 ∙ s2.1 ∙ s3.1 ∙ defines e.anchor (with_around m3 (entered e.kind m.around))

  alias_exact : (m : Model) → Bounds m.budget a → (alias m).1 ≡ Ok tt → (alias m).0 ≡ turning Alias (aliased m)
  alias_exact m w t = (onward (counting count_alias m) (λ n. good (turning Alias n)) (aliased m) t (aliases_exact m w)).1

  document_exact : (p : EnforcingPolicy) (m : Model) → Bounds m.budget a → (document_by p m).1 ≡ Ok tt → (document_by p m).0 ≡ documented_by p m
  document_exact AllContent m w t = documents_exact m w t
  document_exact PerDocument m w t =
      let n = with_report m (with_anchors m.report (trues m.anchors)) in
      (onward (counting (judged (trues m.anchors)) m) renewed n t (λ _. refl)).1

closed_exact : (k : EventKind) (o : Option Bool) (ss : List ContainerState) (m : Model) → (closed k o (with_around m ss)).1 ≡ Ok tt → (closed k o (with_around m ss)).0 ≡ with_around m (left_by k o ss)
closed_exact k None ss m e = ok_or_err SequenceUnbalanced _ refl e
closed_exact k (Some true) ss m e = refl
closed_exact k (Some false) ss m e = refl

leave_exact : (k : EventKind) (ss : List ContainerState) (m : Model) → (leave_at k ss m).1 ≡ Ok tt → (leave_at k ss m).0 ≡ with_around m (left k ss)
leave_exact k [] m e = ok_or_err SequenceUnbalanced _ refl e
leave_exact k (s ∷ ss) m e = closed_exact k (closing k s) ss m e

pub kind_exact : (a : AliasLimits) (k : EventKind) (e : Seen) (m : Model) → Bounds m.budget a → (by_kind k e m).1 ≡ Ok tt → (by_kind k e m).0 ≡ calm_by k e m
kind_exact a Scalar e m w t = scalar_exact a e m w t
kind_exact a SequenceStart e m w t = enter_exact a e m w t
kind_exact a MappingStart e m w t = enter_exact a e m w t
kind_exact a SequenceEnd e m w t = leave_exact SequenceEnd m.around m t
kind_exact a MappingEnd e m w t = leave_exact MappingEnd m.around m t
kind_exact a Alias e m w t = alias_exact a m w t
kind_exact a DocumentStart e m w t = document_exact a m.policy m w t
kind_exact a DocumentEnd e m w t = refl
kind_exact a StreamStart e m w t = refl
kind_exact a StreamEnd e m w t = refl

input_exact : (a : AliasLimits) (i : Input) (m : Model) → Bounds m.budget a → (by_input i (evented m)).1 ≡ Ok tt → (by_input i (evented m)).0 ≡ calm i m
input_exact a (event e) m w t = kind_exact a e.kind e (evented m) w t
input_exact a reference m w t = aliases_exact a (evented m) w t

-- what an input does where the answer is good
pub counted_exact : (a : AliasLimits) (i : Input) (m : Model) → Bounds m.budget a → (counted i m).1 ≡ Ok tt → (counted i m).0 ≡ calm i m
counted_exact a i m w t =
    let s = onward (counting count_event m) (by_input i) (evented m) t (events_exact a m w) in
    s.1 ∙ input_exact a i m w s.0
