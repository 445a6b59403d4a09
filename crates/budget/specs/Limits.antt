-- The limits: their places, what they may be at most, and what they are where nothing else is wanted.
use Rattle.std.specs.Prelude.{ℕ, ◌^◌, Bool, true, cond, List, [], ◌∷◌, Some, None, Ok, Err, Option, Result, is_none, nat_lt}
use Rattle.std.specs.List.{find}
use Rattle.std.specs.Option.{unwrap_or}
use Rattle.budget.specs.declared.limits.Budget.{Budget}
use Rattle.budget.specs.declared.limits.AliasLimits.{AliasLimits}
use Rattle.budget.specs.declared.limits.Limits.{Limits}
use Rattle.budget.specs.declared.limits.LimitField.{LimitField}
use Rattle.budget.specs.declared.limits.LimitField.TheVariants.{MaxReaderInputBytes, MaxEvents, MaxAliases, MaxAnchors, MaxDepth, MaxInclusionDepth, MaxDocuments, MaxNodes, MaxTotalScalarBytes, MaxMergeKeys, AliasAnchorMinAliases, AliasAnchorRatioMultiplier, MaxTotalReplayedEvents, MaxReplayStackDepth, MaxAliasExpansionsPerAnchor}

-- the place of a limit
abbrev pub field_number : LimitField → ℕ
field_number MaxReaderInputBytes = 0
field_number MaxEvents = 1
field_number MaxAliases = 2
field_number MaxAnchors = 3
field_number MaxDepth = 4
field_number MaxInclusionDepth = 5
field_number MaxDocuments = 6
field_number MaxNodes = 7
field_number MaxTotalScalarBytes = 8
field_number MaxMergeKeys = 9
field_number AliasAnchorMinAliases = 10
field_number AliasAnchorRatioMultiplier = 11
field_number MaxTotalReplayedEvents = 12
field_number MaxReplayStackDepth = 13
field_number MaxAliasExpansionsPerAnchor = 14

abbrev pub standard_budget : Budget
standard_budget = record {
  max_reader_input_bytes = Some 268435456;
  max_events = 1000000;
  max_aliases = 50000;
  max_anchors = 50000;
  max_depth = 64;
  max_inclusion_depth = 24;
  max_documents = 1024;
  max_nodes = 250000;
  max_total_scalar_bytes = 67108864;
  max_merge_keys = 10000;
  enforce_alias_anchor_ratio = true;
  alias_anchor_min_aliases = 100;
  alias_anchor_ratio_multiplier = 10;
}

abbrev pub standard_alias_limits : AliasLimits
standard_alias_limits = record { max_total_replayed_events = 1000000; max_replay_stack_depth = 64; max_alias_expansions_per_anchor = 2 ^ 30 }

abbrev pub standard_limits : Limits
standard_limits = record { budget = standard_budget; alias_limits = standard_alias_limits }

-- a count above its limit is the error
abbrev pub within : {E : Type 0} → ℕ → ℕ → E → Result (Unit {0}) E
within n limit e = cond (nat_lt limit n) (Err e) (Ok tt)

-- an absent limit is never too large
abbrev pub or_absent : Option ℕ → ℕ
or_absent o = unwrap_or o 0

-- the limits in the order of their places
abbrev pub fields : List LimitField
fields = MaxReaderInputBytes ∷ MaxEvents ∷ MaxAliases ∷ MaxAnchors ∷ MaxDepth ∷ MaxInclusionDepth ∷ MaxDocuments ∷ MaxNodes ∷ MaxTotalScalarBytes ∷ MaxMergeKeys ∷ AliasAnchorMinAliases ∷ AliasAnchorRatioMultiplier ∷ MaxTotalReplayedEvents ∷ MaxReplayStackDepth ∷ MaxAliasExpansionsPerAnchor ∷ []

-- the number given for a limit
abbrev pub given_for : LimitField → Limits → ℕ
given_for MaxReaderInputBytes l = or_absent l.budget.max_reader_input_bytes
given_for MaxEvents l = l.budget.max_events
given_for MaxAliases l = l.budget.max_aliases
given_for MaxAnchors l = l.budget.max_anchors
given_for MaxDepth l = l.budget.max_depth
given_for MaxInclusionDepth l = l.budget.max_inclusion_depth
given_for MaxDocuments l = l.budget.max_documents
given_for MaxNodes l = l.budget.max_nodes
given_for MaxTotalScalarBytes l = l.budget.max_total_scalar_bytes
given_for MaxMergeKeys l = l.budget.max_merge_keys
given_for AliasAnchorMinAliases l = l.budget.alias_anchor_min_aliases
given_for AliasAnchorRatioMultiplier l = l.budget.alias_anchor_ratio_multiplier
given_for MaxTotalReplayedEvents l = l.alias_limits.max_total_replayed_events
given_for MaxReplayStackDepth l = l.alias_limits.max_replay_stack_depth
given_for MaxAliasExpansionsPerAnchor l = l.alias_limits.max_alias_expansions_per_anchor

-- what a limit may be at most
abbrev pub bound_of : LimitField → ℕ
bound_of MaxReaderInputBytes = 2 ^ 30
bound_of MaxEvents = 2 ^ 30
bound_of MaxAliases = 2 ^ 30
bound_of MaxAnchors = 2 ^ 30
bound_of MaxDepth = 256
bound_of MaxInclusionDepth = 31
bound_of MaxDocuments = 2 ^ 30
bound_of MaxNodes = 2 ^ 30
bound_of MaxTotalScalarBytes = 2 ^ 30
bound_of MaxMergeKeys = 2 ^ 30
bound_of AliasAnchorMinAliases = 2 ^ 30
bound_of AliasAnchorRatioMultiplier = 2 ^ 30
bound_of MaxTotalReplayedEvents = 2 ^ 30
bound_of MaxReplayStackDepth = 2 ^ 30
bound_of MaxAliasExpansionsPerAnchor = 2 ^ 30

abbrev pub too_large : Limits → LimitField → Bool
too_large l f = nat_lt (bound_of f) (given_for f l)

abbrev pub first_too_large : Limits → Option LimitField
first_too_large l = find (too_large l) fields

-- no limit is above its bound
abbrev pub allowed : Limits → Bool
allowed l = is_none (first_too_large l)

-- what the check answers: the limits that it was given, or the first that is too large
abbrev pub judgement : Option LimitField → Limits → Result Limits LimitField
judgement None l = Ok l
judgement (Some f) l = Err f

abbrev pub verdict : Limits → Result Limits LimitField
verdict l = judgement (first_too_large l) l

-- a result with another reading of what is good
abbrev pub on_ok : {A B E : Type 0} → (A → B) → Result A E → Result B E
on_ok f (Ok x) = Ok (f x)
on_ok f (Err e) = Err e
