-- What an unfolding takes as a whole, and which limits it passes.
use Rattle.std.specs.Prelude.{◌≡◌, ℕ, suc, ◌+◌, ◌-◌, ◌<◌, ◌≤◌, max, List, [], ◌∷◌, length, replicate, Some, ◌==◌, nat_lt, slice_index, slice_index_or}
use Rattle.events.specs.declared.score.Event.{Event}
use Rattle.events.specs.Scores.{no_event}
use Rattle.budget.specs.declared.breach.BudgetBreach.{BudgetBreach}
use Rattle.budget.specs.declared.breach.BudgetBreach.TheVariants.{Events, Aliases, Anchors, Depth, Documents, Nodes, ScalarBytes, MergeKeys, AliasAnchorRatio, SequenceUnbalanced}
use Rattle.budget.specs.Observed.{reference}
use Rattle.budget.specs.Runs.{run}
use Rattle.fragment.specs.declared.answers.FragmentError.{FragmentError}
use Rattle.fragment.specs.declared.answers.FragmentError.TheVariants.{ShortSlate, Unsound, CollectionBreach, UnfoldingBreach, EnforcerBreach, SecondDocument, UnmarkedTarget, OpenRange, Expansions, ReplayDepth, ReplayedTotal, TapeFull}
use Rattle.fragment.specs.Relation.{names, Unfolds, ends, keeps, opens}
use Rattle.fragment.specs.Unfolding.{Score, Work, value_bytes, tick}

-- how many ranges open within one another
unfoldable pub deepest : {es : List Event} {p n : ℕ} {out : List ℕ} {a : ℕ} → Unfolds es p n out a → ℕ
deepest ends = 0
deepest (keeps other u) = deepest u
deepest (opens alias i u) = max (suc (deepest i)) (deepest u)

-- how often the range of number k opens
unfoldable pub openings : {es : List Event} {p n : ℕ} {out : List ℕ} {a : ℕ} → Unfolds es p n out a → ℕ → ℕ
openings ends k = 0
openings (keeps other u) k = openings u k
openings {es} (opens {p = p} alias i u) k = tick (names es p == k) (openings i k + openings u k)

-- how many events are replayed, where d ranges are open: all, unless the range is the target's own; and then those of the ranges that its aliases open
unfoldable pub replays : ℕ → {es : List Event} {p n : ℕ} {out : List ℕ} {a : ℕ} → Unfolds es p n out a → ℕ
replays d ends = 0
replays d (keeps other u) = tick (nat_lt 1 d) (replays d u)
replays d (opens {inner = inner} alias i u) = length inner + replays d u

-- the bytes of the values at places
unfoldable pub values_at : List Event → List ℕ → ℕ
values_at es [] = 0
values_at es (p ∷ ps) = value_bytes (slice_index_or es p no_event) + values_at es ps

-- k more behind q pass a limit
abbrev pub Beyond : ℕ → ℕ → ℕ → Type 0
Beyond limit q k = (1 ≤ k) × (limit < q + k)

-- an unfolding passes the limit that a refusal is for, where w is what there was before it and d ranges are open
module _ (s : Score) (d : ℕ) (w : Work) {p n : ℕ} {out : List ℕ} {a : ℕ} (u : Unfolds s.events p n out a) where
  abbrev pub Breaks : BudgetBreach → Type 0
  Breaks (Events _) = Beyond s.limits.budget.max_events w.counts.written (length out)
  Breaks (Aliases _) = Beyond s.limits.budget.max_aliases w.counts.aliases a
  Breaks (ScalarBytes _) = s.limits.budget.max_total_scalar_bytes < w.counts.bytes + values_at s.events out
  Breaks (Anchors _) = ⊥
  Breaks (Depth _) = ⊥
  Breaks (Documents _) = ⊥
  Breaks (Nodes _) = ⊥
  Breaks (MergeKeys _) = ⊥
  Breaks (AliasAnchorRatio _ _) = ⊥
  Breaks SequenceUnbalanced = ⊥

  abbrev pub Passes : FragmentError → Type 0
  Passes (UnfoldingBreach b) = Breaks b
  Passes (EnforcerBreach b) = (1 ≤ a) × ((run (replicate a reference) w.enforcer).report.breached ≡ Some b)
  Passes (Expansions _) = (k : ℕ) × (1 ≤ k) × Beyond s.limits.alias_limits.max_alias_expansions_per_anchor (slice_index w.counts.expansions (k - 1)) (openings u k)
  Passes (ReplayDepth _) = Beyond s.limits.alias_limits.max_replay_stack_depth (d - 1) (deepest u)
  Passes (ReplayedTotal _) = Beyond s.limits.alias_limits.max_total_replayed_events w.counts.charged (replays d u)
  Passes TapeFull = Beyond 8192 (length w.tape) (length out)
  Passes (OpenRange _) = ⊥
  Passes (ShortSlate _) = ⊥
  Passes (Unsound _) = ⊥
  Passes (CollectionBreach _) = ⊥
  Passes (SecondDocument _) = ⊥
  Passes UnmarkedTarget = ⊥
