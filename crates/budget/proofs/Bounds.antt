-- Where no limit is above its bound, the bounds of all.
use Rattle.std.proofs.Common.{◌≡◌, ℕ, ◌^◌, ◌≤◌, Bool, true, false, cond, List, [], ◌∷◌, Some, Option, is_none, refl, arith}
use Rattle.std.specs.List.{find}
use Rattle.std.proofs.lemmas.Bool.{ltb-false}
use Rattle.budget.specs.declared.limits.Budget.{Budget}
use Rattle.budget.specs.declared.limits.AliasLimits.{AliasLimits}
use Rattle.budget.specs.declared.limits.Limits.{Limits}
use Rattle.budget.specs.declared.limits.LimitField.{LimitField}
use Rattle.budget.specs.Limits.{fields, too_large, given_for, bound_of, allowed, or_absent}

-- where no limit is too large, the first is not, and none of the others is
peeled : (b : Bool) (f : LimitField) (o : Option LimitField) → is_none (cond b (Some f) o) ≡ true → (b ≡ false) × (is_none o ≡ true)
peeled true f o e = let z : ◌≡◌ {A = ℕ} 0 1 = cc in absurd (omega arith)
peeled false f o e = (refl, e)

module _ (l : Limits) where
  abbrev AtMostItsBound : LimitField → Type 0
  AtMostItsBound f = given_for f l ≤ bound_of f

  abbrev Each : List LimitField → Type 0
  Each [] = Unit {0}
  Each (f ∷ fs) = AtMostItsBound f × Each fs

  each : (fs : List LimitField) → is_none (find (too_large l) fs) ≡ true → Each fs
  each [] e = tt
  each (f ∷ fs) e = let p = peeled (too_large l f) f (find (too_large l) fs) e in (ltb-false (bound_of f) (given_for f l) p.0, each fs p.1)

-- the bounds of the limits that counting rests on
pub record Bounds (b : Budget) (a : AliasLimits) : Type 0 where
  pub bytes : or_absent b.max_reader_input_bytes ≤ 2 ^ 30
  pub events : b.max_events ≤ 2 ^ 30
  pub aliases : b.max_aliases ≤ 2 ^ 30
  pub anchors : b.max_anchors ≤ 2 ^ 30
  pub depth : b.max_depth ≤ 256
  pub inclusions : b.max_inclusion_depth ≤ 31
  pub documents : b.max_documents ≤ 2 ^ 30
  pub nodes : b.max_nodes ≤ 2 ^ 30
  pub scalars : b.max_total_scalar_bytes ≤ 2 ^ 30
  pub merges : b.max_merge_keys ≤ 2 ^ 30
  pub least : b.alias_anchor_min_aliases ≤ 2 ^ 30
  pub multiplier : b.alias_anchor_ratio_multiplier ≤ 2 ^ 30
  pub replayed : a.max_total_replayed_events ≤ 2 ^ 30
  pub stack : a.max_replay_stack_depth ≤ 2 ^ 30
  pub expansions : a.max_alias_expansions_per_anchor ≤ 2 ^ 30

pub bounds : (l : Limits) → allowed l ≡ true → Bounds l.budget l.alias_limits
bounds l e =
    let p = each l fields e in
    record {
      bytes = p.0;
      events = p.1.0;
      aliases = p.1.1.0;
      anchors = p.1.1.1.0;
      depth = p.1.1.1.1.0;
      inclusions = p.1.1.1.1.1.0;
      documents = p.1.1.1.1.1.1.0;
      nodes = p.1.1.1.1.1.1.1.0;
      scalars = p.1.1.1.1.1.1.1.1.0;
      merges = p.1.1.1.1.1.1.1.1.1.0;
      least = p.1.1.1.1.1.1.1.1.1.1.0;
      multiplier = p.1.1.1.1.1.1.1.1.1.1.1.0;
      replayed = p.1.1.1.1.1.1.1.1.1.1.1.1.0;
      stack = p.1.1.1.1.1.1.1.1.1.1.1.1.1.0;
      expansions = p.1.1.1.1.1.1.1.1.1.1.1.1.1.1.0;
    }
