-- What the answers of an unfolding mean.
use Rattle.std.specs.Prelude.{◌≡◌, ℕ, zero, suc, ◌+◌, ◌<◌, ◌≤◌, true, not, List, ◌++◌, map, length, replicate, Some, Ok, Err, ◌≢◌, slice_index_or}
use Rattle.events.specs.declared.score.Event.{Event}
use Rattle.events.specs.Scores.{kind, no_event}
use Rattle.events.specs.Nodes.{SoundNodes}
use Rattle.events.specs.Rules.{is_alias}
use Rattle.budget.specs.declared.limits.Budget.{Budget}
use Rattle.budget.specs.declared.breach.BudgetBreach.{BudgetBreach}
use Rattle.budget.specs.declared.breach.BudgetBreach.TheVariants.{Events, Aliases, Anchors, Depth, Documents, Nodes, ScalarBytes, MergeKeys, AliasAnchorRatio, SequenceUnbalanced}
use Rattle.budget.specs.Limits.{allowed}
use Rattle.budget.specs.Model.{Model}
use Rattle.budget.specs.Observed.{reference}
use Rattle.budget.specs.Runs.{run}
use Rattle.fragment.specs.declared.answers.Charges.{Charges}
use Rattle.fragment.specs.declared.answers.Passage.{Passage}
use Rattle.fragment.specs.declared.answers.FragmentError.{FragmentError}
use Rattle.fragment.specs.declared.answers.FragmentError.TheVariants.{ShortSlate, Unsound, CollectionBreach, UnfoldingBreach, EnforcerBreach, SecondDocument, UnmarkedTarget, OpenRange, Expansions, ReplayDepth, ReplayedTotal, TapeFull}
use Rattle.fragment.specs.Relation.{from, size, Unfolds, NodeUnfolds, Knot}
use Rattle.fragment.specs.Passing.{Passes}
use Rattle.fragment.specs.Unfolding.{Score, Work, begun, Unfolded, unfolded, tick}

-- how many of the n events from place p on are no aliases
unfoldable pub own_events : List Event → ℕ → ℕ → ℕ
own_events es p zero = 0
own_events es p (suc n) = tick (not (is_alias (kind (slice_index_or es p no_event)))) (own_events es (suc p) n)

-- an accepted passage: the unfolding of the target stands behind the tape; its events, the aliases replaced, and the events replayed,
-- which are those that the target has not of its own, are counted exactly, and of this passage alone; the charges have risen by as many,
-- and the enforcer has observed an alias reference for each alias
pub record IsTheUnfolding (s : Score) (n : ℕ) (t : List ℕ) (c : Charges) (m : Model) (u : Unfolded) (passage : Passage) : Type 0 where
  pub out : List ℕ
  pub aliases : ℕ
  pub unfolds : NodeUnfolds s.events n out aliases
  pub tape : u.tape ≡ t ++ map (λ p. s.base + p) out
  pub events : passage.events ≡ length out
  pub replaced : passage.aliases ≡ aliases
  pub replayed : passage.replayed + own_events s.events (from s.events n) (size s.events n) ≡ length out
  pub charged_aliases : u.charges.aliases ≡ c.aliases + passage.aliases
  pub charged_replayed : u.charges.replayed ≡ c.replayed + passage.replayed
  pub enforcer : u.enforcer ≡ run (replicate aliases reference) m

abbrev pub AcceptedIsTheUnfolding : Type 0
AcceptedIsTheUnfolding = (s : Score) → allowed s.limits ≡ true → (n : ℕ) (t : List ℕ) (c : Charges) (m : Model) (passage : Passage) → (unfolded s n t c m).answer ≡ Ok passage → IsTheUnfolding s n t c m (unfolded s n t c m) passage

-- a run of events has one unfolding at most
abbrev pub TheUnfoldingIsUnique : Type 0
TheUnfoldingIsUnique = (es : List Event) (p n : ℕ) (out out' : List ℕ) (a a' : ℕ) → Unfolds es p n out a → Unfolds es p n out' a' → (out ≡ out') × (a ≡ a')

-- an open range is answered only where a reached alias lies inside the node that it names
abbrev pub AnOpenRangeShowsAKnot : Type 0
AnOpenRangeShowsAKnot = (s : Score) (k : ℕ) → SoundNodes s.events k → (n : ℕ) → 1 ≤ n → (t : List ℕ) (c : Charges) (m : Model) (x : ℕ) → (unfolded s n t c m).answer ≡ Err (OpenRange x) → Knot s.events n

-- and where there is such an alias, the target is not accepted
abbrev pub AKnotIsNeverAccepted : Type 0
AKnotIsNeverAccepted = (s : Score) (k : ℕ) → SoundNodes s.events k → (n : ℕ) (t : List ℕ) (c : Charges) (m : Model) (passage : Passage) → Knot s.events n → (unfolded s n t c m).answer ≢ Ok passage

-- a refusal leaves the tape as it was
abbrev pub ARefusalLeavesTheTape : Type 0
ARefusalLeavesTheTape = (s : Score) (n : ℕ) (t : List ℕ) (c : Charges) (m : Model) (e : FragmentError) → (unfolded s n t c m).answer ≡ Err e → (unfolded s n t c m).tape ≡ t

-- whatever is answered, what stood on the tape before still stands there
abbrev pub TheTapeOnlyGrows : Type 0
TheTapeOnlyGrows = (s : Score) (n : ℕ) (t : List ℕ) (c : Charges) (m : Model) → (out : List ℕ) × ((unfolded s n t c m).tape ≡ t ++ out)

-- an enforcer that has counted no fewer aliases than were charged, and allows no more, answers before the alias charge is judged
abbrev pub TheEnforcerAnswersBeforeTheAliasCharge : Type 0
TheEnforcerAnswersBeforeTheAliasCharge = (s : Score) (n : ℕ) (t : List ℕ) (c : Charges) (m : Model) → m.budget.max_aliases ≤ s.limits.budget.max_aliases → c.aliases ≤ m.report.aliases → (x : ℕ) → (unfolded s n t c m).answer ≢ Err (UnfoldingBreach (Aliases x))

-- a breach of unfolding tells a count above its limit; no other limits are judged
abbrev pub Above : Budget → BudgetBreach → Type 0
Above b (Events n) = b.max_events < n
Above b (Aliases n) = b.max_aliases < n
Above b (ScalarBytes n) = b.max_total_scalar_bytes < n
Above b (Anchors n) = ⊥
Above b (Depth n) = ⊥
Above b (Documents n) = ⊥
Above b (Nodes n) = ⊥
Above b (MergeKeys n) = ⊥
Above b (AliasAnchorRatio n k) = ⊥
Above b SequenceUnbalanced = ⊥

-- what a refusal tells: a count above its limit, or the breach that the enforcer, left as it is, remembers;
-- of open ranges and of a full tape other laws tell; for anything else an unfolding is not refused
abbrev pub Cause : Score → Model → FragmentError → Type 0
Cause s m (UnfoldingBreach b) = Above s.limits.budget b
Cause s m (EnforcerBreach b) = m.report.breached ≡ Some b
Cause s m (Expansions n) = s.limits.alias_limits.max_alias_expansions_per_anchor < n
Cause s m (ReplayDepth d) = s.limits.alias_limits.max_replay_stack_depth < d
Cause s m (ReplayedTotal n) = s.limits.alias_limits.max_total_replayed_events < n
Cause s m (OpenRange n) = Unit {0}
Cause s m TapeFull = Unit {0}
Cause s m (ShortSlate n) = ⊥
Cause s m (Unsound r) = ⊥
Cause s m (CollectionBreach b) = ⊥
Cause s m (SecondDocument p) = ⊥
Cause s m UnmarkedTarget = ⊥

abbrev pub ARefusalHasItsCause : Type 0
ARefusalHasItsCause = (s : Score) (n : ℕ) (t : List ℕ) (c : Charges) (m : Model) (e : FragmentError) → (unfolded s n t c m).answer ≡ Err e → Cause s (unfolded s n t c m).enforcer e

-- what there is before an unfolding
abbrev pub start : List ℕ → Charges → Model → Work
start t c m = record { tape = t; counts = begun c; enforcer = m }

-- where the target has an unfolding, it is refused only for a limit that the unfolding as a whole passes; a sound piece has at most 256 numbers
abbrev pub ARefusedUnfoldingPassesTheLimit : Type 0
ARefusedUnfoldingPassesTheLimit = (s : Score) (k : ℕ) → SoundNodes s.events k → k ≤ 256 → (n : ℕ) → 1 ≤ n → (t : List ℕ) (c : Charges) (m : Model) (e : FragmentError) → (unfolded s n t c m).answer ≡ Err e → (out : List ℕ) (aliases : ℕ) (u : NodeUnfolds s.events n out aliases) → Passes s 1 (start t c m) u e

-- the target has an unfolding, and the unfolding passes no limit
pub record UnfoldsWithin (s : Score) (n : ℕ) (t : List ℕ) (c : Charges) (m : Model) : Type 0 where
  pub out : List ℕ
  pub aliases : ℕ
  pub unfolds : NodeUnfolds s.events n out aliases
  pub within : (e : FragmentError) → Passes s 1 (start t c m) unfolds e → ⊥

abbrev pub IsAccepted : Score → ℕ → List ℕ → Charges → Model → Type 0
IsAccepted s n t c m = (passage : Passage) × ((unfolded s n t c m).answer ≡ Ok passage)

-- exactly those targets are accepted
abbrev pub AcceptedExactlyIfItUnfoldsWithinTheLimits : Type 0
AcceptedExactlyIfItUnfoldsWithinTheLimits = (s : Score) → allowed s.limits ≡ true → (k : ℕ) → SoundNodes s.events k → k ≤ 256 → (n : ℕ) → 1 ≤ n → (t : List ℕ) (c : Charges) (m : Model) → (IsAccepted s n t c m → UnfoldsWithin s n t c m) × (UnfoldsWithin s n t c m → IsAccepted s n t c m)

-- the laws that speak of no one call
pub record LawsOfUnfolding : Type 0 where
  pub the_unfolding_is_unique : TheUnfoldingIsUnique
  pub accepted_exactly_if_it_unfolds_within_the_limits : AcceptedExactlyIfItUnfoldsWithinTheLimits
  pub a_refused_unfolding_passes_the_limit : ARefusedUnfoldingPassesTheLimit
  pub a_refusal_has_its_cause : ARefusalHasItsCause
  pub the_enforcer_answers_before_the_alias_charge : TheEnforcerAnswersBeforeTheAliasCharge
  pub the_tape_only_grows : TheTapeOnlyGrows
