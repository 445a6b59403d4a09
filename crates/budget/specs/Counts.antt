-- The report's counts against the limits. A count stops at the largest number of 32 bits.
use Rattle.std.specs.Prelude.{◌≡◌, ℕ, ◌+◌, ◌-◌, ◌*◌, ◌^◌, min, max, Bool, cond, ◌&&◌, ◌||◌, None, Ok, Err, Option, Result, ◌==◌, nat_le, nat_lt}
use Rattle.budget.specs.Limits.{within}
use Rattle.budget.specs.declared.limits.Budget.{Budget}
use Rattle.budget.specs.declared.breach.BudgetReport.{BudgetReport}
use Rattle.budget.specs.declared.breach.BudgetBreach.{BudgetBreach}
use Rattle.budget.specs.declared.breach.BudgetBreach.TheVariants.{Events, Nodes, Depth, ScalarBytes, Aliases, Documents, MergeKeys, AliasAnchorRatio, Anchors}

abbrev pub Answer : Type 0
Answer = Result (Unit {0}) BudgetBreach

-- what a step leaves, and what it answers
pub record Stepped {S : Type 0} (after : S) (r : Answer) (step : S × Answer) : Type 0 where
  pub state : after ≡ step.0
  pub answer : r ≡ step.1

-- a count raised by an amount
abbrev pub up : ℕ → ℕ → ℕ
up n k = min (n + k) (2 ^ 32 - 1)

abbrev pub with_events : BudgetReport → ℕ → BudgetReport
with_events s n = record s { events = n }

abbrev pub with_nodes : BudgetReport → ℕ → BudgetReport
with_nodes s n = record s { nodes = n }

abbrev pub with_max_depth : BudgetReport → ℕ → BudgetReport
with_max_depth s n = record s { max_depth = n }

abbrev pub with_bytes : BudgetReport → ℕ → BudgetReport
with_bytes s n = record s { total_scalar_bytes = n }

abbrev pub with_aliases : BudgetReport → ℕ → BudgetReport
with_aliases s n = record s { aliases = n }

abbrev pub with_documents : BudgetReport → ℕ → BudgetReport
with_documents s n = record s { documents = n }

abbrev pub with_merge_keys : BudgetReport → ℕ → BudgetReport
with_merge_keys s n = record s { merge_keys = n }

abbrev pub with_anchors : BudgetReport → ℕ → BudgetReport
with_anchors s n = record s { anchors = n }

abbrev pub with_breached : BudgetReport → Option BudgetBreach → BudgetReport
with_breached s n = record s { breached = n }

-- a count that comes to n, against its limit
abbrev pub comes_to : (BudgetReport → ℕ → BudgetReport) → (ℕ → BudgetBreach) → ℕ → ℕ → BudgetReport → BudgetReport × Answer
comes_to with_count breach limit n s = (with_count s n, within n limit (breach n))

abbrev pub count_event : Budget → BudgetReport → BudgetReport × Answer
count_event b s = comes_to with_events Events b.max_events (up s.events 1) s

abbrev pub count_node : Budget → BudgetReport → BudgetReport × Answer
count_node b s = comes_to with_nodes Nodes b.max_nodes (up s.nodes 1) s

abbrev pub count_alias : Budget → BudgetReport → BudgetReport × Answer
count_alias b s = comes_to with_aliases Aliases b.max_aliases (up s.aliases 1) s

abbrev pub count_document : Budget → BudgetReport → BudgetReport × Answer
count_document b s = comes_to with_documents Documents b.max_documents (up s.documents 1) s

abbrev pub count_merge_key : Budget → BudgetReport → BudgetReport × Answer
count_merge_key b s = comes_to with_merge_keys MergeKeys b.max_merge_keys (up s.merge_keys 1) s

abbrev pub count_bytes : ℕ → Budget → BudgetReport → BudgetReport × Answer
count_bytes k b s = comes_to with_bytes ScalarBytes b.max_total_scalar_bytes (up s.total_scalar_bytes k) s

-- the deepest depth
abbrev pub deepen : ℕ → Budget → BudgetReport → BudgetReport × Answer
deepen d b s = comes_to with_max_depth Depth b.max_depth (max s.max_depth d) s

-- a number that was defined now for the first time: n is how many there are
abbrev pub count_anchor : ℕ → Budget → BudgetReport → BudgetReport × Answer
count_anchor n b s = comes_to with_anchors Anchors b.max_anchors n s

-- more aliases than a multiple of the anchors; never with no alias
abbrev pub lopsided : Budget → ℕ → ℕ → Bool
lopsided b al an =
    b.enforce_alias_anchor_ratio && (nat_le 1 al && (nat_le b.alias_anchor_min_aliases al && (an == 0 || nat_lt (b.alias_anchor_ratio_multiplier * an) al)))

-- the ratio of aliases to n anchors
abbrev pub judged : ℕ → Budget → BudgetReport → BudgetReport × Answer
judged n b s = (with_anchors s n, cond (lopsided b s.aliases n) (Err (AliasAnchorRatio s.aliases n)) (Ok tt))

abbrev pub no_counts : BudgetReport
no_counts = record { breached = None; events = 0; aliases = 0; anchors = 0; documents = 0; nodes = 0; max_depth = 0; total_scalar_bytes = 0; merge_keys = 0 }

-- all but the breach and the documents begin anew
abbrev pub cleared : BudgetReport → BudgetReport
cleared s = record no_counts { breached = s.breached; documents = s.documents }
