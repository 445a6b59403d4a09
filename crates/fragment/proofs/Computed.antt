-- The two pieces, computed from the definitions.
use Rattle.std.proofs.Common.{[], refl, arith}
use Rattle.budget.specs.declared.policy.EnforcingPolicy.{EnforcingPolicy}
use Rattle.budget.specs.declared.policy.MergeKeyPolicy.{MergeKeyPolicy}
use Rattle.budget.specs.Limits.{standard_budget, standard_alias_limits}
use Rattle.budget.specs.Model.{started}
use Rattle.events.proofs.SoundNodes.{sound_pieces_have_nodes}
use Rattle.fragment.specs.Slate.{blank}
use Rattle.fragment.specs.Unfolding.{unfolded, run, each, step, shut}
use Rattle.fragment.specs.Gloria.{stock, gloria, score, none, Examples}
use Rattle.fragment.proofs.Lawful.{an_open_range_shows_a_knot}

pub examples : (p : EnforcingPolicy) (k : MergeKeyPolicy) → Examples p k
unfolding unfolded run each step shut blank
examples p k =
    record {
      gloria_is_sound = refl;
      gloria_ranges = refl;
      c_is_named = refl;
      tutti_is_named = refl;
      loop_is_named = refl;
      bells_is_not = refl;
      c_unfolds = refl;
      tutti_unfolds = refl;
      loop_is_open = refl;
      loop_is_a_knot = an_open_range_shows_a_knot (score gloria standard_alias_limits) 4 (sound_pieces_have_nodes stock gloria refl) 4 (omega arith) [] none (started standard_budget p k) 4 refl;
      one_deep = refl;
      two_deep = refl;
      eight_replayed = refl;
      nine_replayed = refl;
      twice_expanded = refl;
      thrice_expanded = refl;
      two_bells_is_sound = refl;
      the_last_bells = refl;
      bells_unfolds = refl;
    }
