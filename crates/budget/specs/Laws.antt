-- The laws of the enforcer, over whole runs.
use Rattle.std.specs.Prelude.{◌≡◌, ℕ, zero, suc, ◌+◌, ◌*◌, ◌<◌, ◌≤◌, max, true, cond, not, ◌⊎◌, List, [], ◌∷◌, ◌++◌, map, length, Some, None, Ok, Err}
use Rattle.std.specs.List.{list_any}
use Rattle.events.specs.declared.kinds.EventKind.{EventKind}
use Rattle.events.specs.declared.kinds.EventKind.TheVariants.{Alias, Scalar}
use Rattle.events.specs.declared.kinds.Container.{Container}
use Rattle.events.specs.Balance.{starts, ends}
use Rattle.budget.specs.declared.breach.BudgetBreach.{BudgetBreach}
use Rattle.budget.specs.declared.breach.BudgetBreach.TheVariants.{Events, Nodes, Depth, ScalarBytes, Aliases, Documents, MergeKeys, AliasAnchorRatio, Anchors, SequenceUnbalanced}
use Rattle.budget.specs.declared.breach.BudgetReport.{BudgetReport}
use Rattle.budget.specs.declared.limits.AliasLimits.{AliasLimits}
use Rattle.budget.specs.declared.limits.Budget.{Budget}
use Rattle.budget.specs.declared.policy.EnforcingPolicy.{EnforcingPolicy}
use Rattle.budget.specs.declared.containers.ContainerState.{ContainerState}
use Rattle.budget.specs.declared.containers.ContainerState.TheVariants.{Sequence, Mapping}
use Rattle.budget.specs.Counts.{Answer}
use Rattle.budget.specs.Flags.{trues}
use Rattle.budget.specs.Limits.{allowed}
use Rattle.budget.specs.Model.{Model, reported}
use Rattle.budget.specs.Observed.{Seen, Input, event, reference}
use Rattle.budget.specs.Runs.{run, answers, Moment, moments, since_last, total, highest}
use Rattle.budget.specs.Tallies.{nodes_of, aliases_of, bytes_of, documents_of, resets, depth_of, merge_keys_of, carries, number_below}

-- 1: a breach once answered is answered for ever

-- every further answer is the breach, and nothing changes
pub record AnswersOnly (b : BudgetBreach) (m : Model) (is : List Input) : Type 0 where
  pub told : m.report.breached ≡ Some b
  pub every_answer : answers is m ≡ map (λ _. Err b) is
  pub unchanged : run is m ≡ m

abbrev pub ABreachIsAnsweredForEver : Answer → Model → Type 0
ABreachIsAnsweredForEver r after = (b : BudgetBreach) → r ≡ Err b → (is : List Input) → AnswersOnly b after is

-- 2: with no breach each count is what was observed since the counts began anew

-- what an input that is answered with no breach adds to each count; the limits and policies stay
pub record Adds (i : Input) (m n : Model) : Type 0 where
  pub budget : n.budget ≡ m.budget
  pub policy : n.policy ≡ m.policy
  pub merging : n.merging ≡ m.merging
  pub breached : n.report.breached ≡ m.report.breached
  pub events : n.report.events ≡ cond (resets m.policy i) 0 (m.report.events + 1)
  pub aliases : n.report.aliases ≡ cond (resets m.policy i) 0 (m.report.aliases + aliases_of i)
  pub nodes : n.report.nodes ≡ cond (resets m.policy i) 0 (m.report.nodes + nodes_of i)
  pub bytes : n.report.total_scalar_bytes ≡ cond (resets m.policy i) 0 (m.report.total_scalar_bytes + bytes_of i)
  pub merge_keys : n.report.merge_keys ≡ cond (resets m.policy i) 0 (m.report.merge_keys + merge_keys_of i m)
  pub depth : n.report.max_depth ≡ cond (resets m.policy i) 0 (max m.report.max_depth (depth_of i m))
  pub documents : n.report.documents ≡ m.report.documents + documents_of m.policy i

abbrev pub CountsExactly : Input → Answer → Model → Model → Type 0
CountsExactly i r before after = r ≡ Ok tt → Adds i before after

abbrev pub since : EnforcingPolicy → List Input → List Input
since p is = since_last (resets p) is

-- the same inputs, each with the enforcer that observed it
abbrev pub moments_since : EnforcingPolicy → List Input → Model → List Moment
moments_since p is m = since_last (λ t. resets p t.input) (moments is m)

pub record Counts (m : Model) (is : List Input) (r : BudgetReport) : Type 0 where
  pub events : r.events ≡ length (since m.policy is)
  pub aliases : r.aliases ≡ total aliases_of (since m.policy is)
  pub nodes : r.nodes ≡ total nodes_of (since m.policy is)
  pub bytes : r.total_scalar_bytes ≡ total bytes_of (since m.policy is)
  pub documents : r.documents ≡ total (documents_of m.policy) is
  pub merge_keys : r.merge_keys ≡ total (λ t. merge_keys_of t.input t.before) (moments_since m.policy is m)
  pub depth : r.max_depth ≡ highest (λ t. depth_of t.input t.before) (moments_since m.policy is m)

abbrev pub CountsWhatIsObserved : Model → Type 0
CountsWhatIsObserved m = (is : List Input) → (run is m).report.breached ≡ None → Counts m is (run is m).report

-- 3: the anchors counted are the distinct numbers that nodes carried
abbrev pub CountsDistinctAnchors : Model → Type 0
CountsDistinctAnchors m = (is : List Input) → (run is m).report.breached ≡ None → (run is m).report.anchors ≡ number_below 1024 (λ n. list_any (carries n) (since m.policy is))

-- without a breach the report at the end is the report so far
abbrev pub EndsWithTheReport : Model → Type 0
EndsWithTheReport m = (is : List Input) → (run is m).report.breached ≡ None → reported (run is m) ≡ (run is m).report

-- 4: key and value alternate

abbrev pub Is : Seen → EventKind → Type 0
Is e k = e.kind ≡ k

-- n whole nodes: scalars, aliases, and collections that hold nodes between their start and their end; alias references may stand among them
pub data Whole : ℕ → List Input → Type 0 where
  none : Whole 0 []
  aside : {n : ℕ} {is : List Input} → Whole n is → Whole n (reference ∷ is)
  single : {n : ℕ} {is : List Input} → (e : Seen) → (Is e Scalar ⊎ Is e Alias) → Whole n is → Whole (suc n) (event e ∷ is)
  collection : {n k : ℕ} {inner is : List Input} → (c : Container) (s e : Seen) → Is s (starts c) → Whole k inner → Is e (ends c) → Whole n is → Whole (suc n) (event s ∷ (inner ++ (event e ∷ is)))

-- a node is the key or the value of the innermost mapping: after a key comes a value, and after a value a key
abbrev pub flipped : List ContainerState → List ContainerState
flipped [] = []
flipped (Sequence f ∷ ss) = Sequence f ∷ ss
flipped (Mapping key f ∷ ss) = Mapping (not key) f ∷ ss

abbrev pub alternated : ℕ → List ContainerState → List ContainerState
alternated zero ss = ss
alternated (suc n) ss = alternated n (flipped ss)

-- after whole nodes key and value have alternated as often, and the containers around are as they were
abbrev pub KeyAndValueAlternate : Model → Type 0
KeyAndValueAlternate m = (n : ℕ) (is : List Input) → Whole n is → (run is m).report.breached ≡ None → (run is m).around ≡ alternated n m.around

-- the limits of an enforcer passed the check, with some alias limits
abbrev pub IsUnderCheckedLimits : Model → Type 0
IsUnderCheckedLimits m = (a : AliasLimits) × (allowed (record { budget = m.budget; alias_limits = a }) ≡ true)

-- 5: a breach tells the counts of the report, and is answered only where a limit is passed

abbrev pub breach_counts : BudgetBreach → List ℕ
breach_counts (Events n) = n ∷ []
breach_counts (Aliases n) = n ∷ []
breach_counts (Anchors n) = n ∷ []
breach_counts (Depth n) = n ∷ []
breach_counts (Documents n) = n ∷ []
breach_counts (Nodes n) = n ∷ []
breach_counts (ScalarBytes n) = n ∷ []
breach_counts (MergeKeys n) = n ∷ []
breach_counts (AliasAnchorRatio aliases anchors) = aliases ∷ anchors ∷ []
breach_counts SequenceUnbalanced = []

abbrev pub report_counts : BudgetBreach → BudgetReport → List ℕ
report_counts (Events n) r = r.events ∷ []
report_counts (Aliases n) r = r.aliases ∷ []
report_counts (Anchors n) r = r.anchors ∷ []
report_counts (Depth n) r = r.max_depth ∷ []
report_counts (Documents n) r = r.documents ∷ []
report_counts (Nodes n) r = r.nodes ∷ []
report_counts (ScalarBytes n) r = r.total_scalar_bytes ∷ []
report_counts (MergeKeys n) r = r.merge_keys ∷ []
report_counts (AliasAnchorRatio aliases anchors) r = r.aliases ∷ r.anchors ∷ []
report_counts SequenceUnbalanced r = []

-- the limit that a breach speaks of is passed; the ratio never with no alias
abbrev pub Passed : BudgetBreach → Budget → Type 0
Passed (Events n) b = b.max_events < n
Passed (Aliases n) b = b.max_aliases < n
Passed (Anchors n) b = b.max_anchors < n
Passed (Depth n) b = b.max_depth < n
Passed (Documents n) b = b.max_documents < n
Passed (Nodes n) b = b.max_nodes < n
Passed (ScalarBytes n) b = b.max_total_scalar_bytes < n
Passed (MergeKeys n) b = b.max_merge_keys < n
Passed (AliasAnchorRatio aliases anchors) b = (b.enforce_alias_anchor_ratio ≡ true) × (1 ≤ aliases) × (b.alias_anchor_min_aliases ≤ aliases) × ((anchors ≡ 0) ⊎ (b.alias_anchor_ratio_multiplier * anchors < aliases))
Passed SequenceUnbalanced b = Unit {0}

pub record TellsAPassedLimit (b : BudgetBreach) (m : Model) : Type 0 where
  pub counts : breach_counts b ≡ report_counts b m.report
  pub passed : Passed b m.budget

abbrev pub ABreachTellsAPassedLimit : Model → Type 0
ABreachTellsAPassedLimit m = (is : List Input) (b : BudgetBreach) → (run is m).report.breached ≡ Some b → TellsAPassedLimit b (run is m)

-- 6: a good answer leaves every count within its limit

pub record Within (m : Model) : Type 0 where
  pub events : m.report.events ≤ m.budget.max_events
  pub aliases : m.report.aliases ≤ m.budget.max_aliases
  pub anchors : m.report.anchors ≤ m.budget.max_anchors
  pub depth : m.report.max_depth ≤ m.budget.max_depth
  pub documents : m.report.documents ≤ m.budget.max_documents
  pub nodes : m.report.nodes ≤ m.budget.max_nodes
  pub bytes : m.report.total_scalar_bytes ≤ m.budget.max_total_scalar_bytes
  pub merge_keys : m.report.merge_keys ≤ m.budget.max_merge_keys
  pub told : m.report.anchors ≡ trues m.anchors

abbrev pub StaysWithin : Answer → Model → Model → Type 0
StaysWithin r before after = Within before → r ≡ Ok tt → Within after
