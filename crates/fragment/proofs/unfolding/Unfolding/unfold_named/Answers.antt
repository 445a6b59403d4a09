use Rattle.std.proofs.Common.{refl}
use Rattle.events.specs.Checked.{lists_in, piece_in}
use Rattle.fragment.proofs.Passages.{target_within}
use Rattle.fragment.proofs.unfolding.Unfolding.unfold_named.Goals as goal

pub unfold_target-requires-clause-target : goal.unfold_target-requires-clause-target
unfold_target-requires-clause-target c =
    let goes = (c.in_ok-target.ensures.goes_through_exactly_within_the_budget_with_a_target c.in_ok-target.target).0 refl in
    target_within (lists_in c.args.sound) (piece_in c.args.sound) c.args.sound.keeps_the_rules c.args.name.now c.in_ok-target.target goes.target
