-- The enforcer as a plain value, and what it does with each kind of event.
use Rattle.std.specs.Prelude.{ℕ, ◌+◌, Bool, true, false, cond, ◌&&◌, List, [], ◌∷◌, length, replicate, Some, None, Ok, Err, Option}
use Rattle.events.specs.declared.kinds.EventKind.{EventKind}
use Rattle.events.specs.declared.kinds.EventKind.TheVariants.{StreamStart, StreamEnd, DocumentStart, DocumentEnd, Alias, Scalar, SequenceStart, SequenceEnd, MappingStart, MappingEnd}
use Rattle.budget.specs.declared.limits.Budget.{Budget}
use Rattle.budget.specs.declared.breach.BudgetReport.{BudgetReport}
use Rattle.budget.specs.declared.breach.BudgetBreach.{BudgetBreach}
use Rattle.budget.specs.declared.breach.BudgetBreach.TheVariants.{SequenceUnbalanced}
use Rattle.budget.specs.declared.policy.EnforcingPolicy.{EnforcingPolicy}
use Rattle.budget.specs.declared.policy.EnforcingPolicy.TheVariants.{AllContent, PerDocument}
use Rattle.budget.specs.declared.policy.MergeKeyPolicy.{MergeKeyPolicy}
use Rattle.budget.specs.declared.containers.ContainerState.{ContainerState}
use Rattle.budget.specs.Counts.{Answer, count_event, count_node, count_bytes, count_alias, count_document, count_merge_key, count_anchor, deepen, judged, cleared, with_anchors, with_breached, no_counts}
use Rattle.budget.specs.Flags.{trues, is_new, defined}
use Rattle.budget.specs.Merging.{is_merge}
use Rattle.budget.specs.Nesting.{turn_top, key_next, entered, closing}
use Rattle.budget.specs.Observed.{Seen, Input, event, reference}

-- around: the open containers, the innermost first; anchors: a flag for each number
pub record Model : Type 0 where
  pub budget : Budget
  pub policy : EnforcingPolicy
  pub merging : MergeKeyPolicy
  pub report : BudgetReport
  pub around : List ContainerState
  pub anchors : List Bool

-- what is left, and what is answered
abbrev pub Outcome : Type 0
Outcome = Model × Answer

abbrev pub with_report : Model → BudgetReport → Model
with_report m r = record m { report = r }

abbrev pub with_around : Model → List ContainerState → Model
with_around m s = record m { around = s }

abbrev pub with_flags : Model → List Bool → Model
with_flags m f = record m { anchors = f }

-- no number is defined
abbrev pub no_anchors : List Bool
no_anchors = replicate 1024 false

-- an enforcer that has observed nothing
abbrev pub started : Budget → EnforcingPolicy → MergeKeyPolicy → Model
started b p k = record { budget = b; policy = p; merging = k; report = no_counts; around = []; anchors = no_anchors }

abbrev pub good : Model → Outcome
good m = (m, Ok tt)

-- go on where the answer is good
abbrev pub on_good : Answer → Outcome → Outcome → Outcome
on_good (Ok _) further sofar = further
on_good (Err b) further sofar = sofar

abbrev pub and_then : Outcome → (Model → Outcome) → Outcome
and_then p k = on_good p.1 (k p.0) p

-- a step of the report alone
abbrev pub counting : (Budget → BudgetReport → BudgetReport × Answer) → Model → Outcome
counting f m = (with_report m (f m.budget m.report).0, (f m.budget m.report).1)

-- a number that was not defined before is counted against its limit
abbrev pub anchored : ℕ → Model → Outcome
anchored a m =
    let bs = defined a m.anchors in
    cond (is_new a m.anchors)
    (counting (count_anchor (trues bs)) (with_flags m bs))
    (good (with_report (with_flags m bs) (with_anchors m.report (trues bs))))

abbrev pub turning : EventKind → Model → Model
turning k m = with_around m (turn_top k m.around)

-- a merge key counts where a key stands
abbrev pub placed : Bool → Model → Outcome
placed merge m = and_then (cond (merge && key_next m.around) (counting count_merge_key m) (good m)) (λ n. good (turning Scalar n))

-- a scalar: nodes, bytes, anchors, merge keys

abbrev pub scalar_anchored : Seen → Model → Outcome
scalar_anchored e m = and_then (anchored e.anchor m) (placed (is_merge m.merging e))

abbrev pub scalar_sized : Seen → Model → Outcome
scalar_sized e m = and_then (counting (count_bytes (length e.value + length e.tag)) m) (scalar_anchored e)

abbrev pub scalar : Seen → Model → Outcome
scalar e m = and_then (counting count_node m) (scalar_sized e)

-- a start: nodes, depth, bytes of the tag, the new container, anchors

abbrev pub enter_placed : Seen → Model → Outcome
enter_placed e m = anchored e.anchor (with_around m (entered e.kind m.around))

abbrev pub enter_sized : Seen → Model → Outcome
enter_sized e m = and_then (counting (count_bytes (length e.tag)) m) (enter_placed e)

abbrev pub enter_deep : Seen → Model → Outcome
enter_deep e m = and_then (counting (deepen (length m.around + 1)) m) (enter_sized e)

abbrev pub enter : Seen → Model → Outcome
enter e m = and_then (counting count_node m) (enter_deep e)

-- an end takes the innermost container off, which has to be of its sort; a mapping's value gives the key back

abbrev pub closed : EventKind → Option Bool → Model → Outcome
closed k None m = (m, Err SequenceUnbalanced)
closed k (Some true) m = good (turning k m)
closed k (Some false) m = good m

abbrev pub leave_at : EventKind → List ContainerState → Model → Outcome
leave_at k [] m = (m, Err SequenceUnbalanced)
leave_at k (s ∷ ss) m = closed k (closing k s) (with_around m ss)

abbrev pub leave : EventKind → Model → Outcome
leave k m = leave_at k m.around m

-- an alias that stands there itself; in a mapping it is a key or a value
abbrev pub alias : Model → Outcome
alias m = and_then (counting count_alias m) (λ n. good (turning Alias n))

-- a document start: the documents; or, each on its own, the ratio of the last one, and the counts begin anew

abbrev pub renewed : Model → Outcome
renewed m = good (with_flags (with_report m (cleared m.report)) no_anchors)

abbrev pub document_by : EnforcingPolicy → Model → Outcome
document_by AllContent m = counting count_document m
document_by PerDocument m = and_then (counting (judged (trues m.anchors)) m) renewed

abbrev pub document : Model → Outcome
document m = document_by m.policy m

abbrev pub by_kind : EventKind → Seen → Model → Outcome
by_kind Scalar e m = scalar e m
by_kind MappingStart e m = enter e m
by_kind SequenceStart e m = enter e m
by_kind MappingEnd e m = leave MappingEnd m
by_kind SequenceEnd e m = leave SequenceEnd m
by_kind Alias e m = alias m
by_kind DocumentStart e m = document m
by_kind DocumentEnd e m = good m
by_kind StreamStart e m = good m
by_kind StreamEnd e m = good m

abbrev pub by_input : Input → Model → Outcome
by_input (event e) m = by_kind e.kind e m
by_input reference m = counting count_alias m

-- every input counts as an event first
abbrev pub counted : Input → Model → Outcome
counted i m = and_then (counting count_event m) (by_input i)

-- a breach is remembered
abbrev pub kept : Answer → Model → Model
kept (Ok _) m = m
kept (Err b) m = with_report m (with_breached m.report (Some b))

-- and answered from then on, with nothing changed
abbrev pub sticking : Option BudgetBreach → Model → Outcome → Outcome
sticking (Some b) m o = (m, Err b)
sticking None m o = (kept o.1 o.0, o.1)

-- what the enforcer does with one input
abbrev pub observed : Input → Model → Outcome
observed i m = sticking m.report.breached m (counted i m)

-- the report at the end
abbrev pub reported : Model → BudgetReport
reported m = with_anchors m.report (trues m.anchors)
