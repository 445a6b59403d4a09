use Rattle.std.proofs.Common.{◌≡◌, ℕ, List, Result, rules}
use Rattle.events.specs.declared.score.Piece.{Piece}
use Rattle.events.specs.Checked.{lists_in, piece_in}
use Rattle.events.specs.Scores.{Lists}
use Rattle.budget.specs.declared.limits.Budget.{Budget}
use Rattle.budget.proofs.Bounds.{bounds}
use Rattle.fragment.specs.declared.answers.FragmentError.{FragmentError}
use Rattle.fragment.specs.Collection.{collected}
use Rattle.fragment.specs.CollectionLaws.{AcceptedExactlyIf, RefusedExactlyIf}
use Rattle.fragment.proofs.CollectionTheorems.{accepted_exactly_if, refused_exactly_if}
use Rattle.fragment.proofs.SoundRoom.{sound_room}
use Rattle.fragment.proofs.collection.collect.Goals as goal

pub collect_marks-requires : goal.collect_marks-requires
collect_marks-requires c =
    let b = bounds c.args.limits.limits c.args.limits.none_too_large in
    rw c.budget-budget.ensures.is_the_budget_checked b.anchors

pub collect_events-requires : goal.collect_events-requires
collect_events-requires c =
    let b = bounds c.args.limits.limits c.args.limits.none_too_large in
    let s = sound_room c.args.limits.limits.budget b.scalars (lists_in c.args.sound) (piece_in c.args.sound) c.args.sound.keeps_the_rules in
    rw (c.budget-budget.ensures.is_the_budget_checked, c.events.ensures.are_the_events_of_the_piece) s

promised : (b : Budget) (l : Lists) (p : Piece) (name : List ℕ) (r : Result ℕ FragmentError) → r ≡ collected b l p name → record { tells_the_first_cause_or_the_target : r ≡ collected b l p name; goes_through_exactly_within_the_budget_with_a_target : AcceptedExactlyIf b l p name r; refused_exactly_by_the_first_cause : RefusedExactlyIf b l p name r }
promised b l p name r q = record { tells_the_first_cause_or_the_target = q; goes_through_exactly_within_the_budget_with_a_target = accepted_exactly_if b l p name r q; refused_exactly_by_the_first_cause = refused_exactly_if b l p name r q }

pub returns-in_err-collect_marks : goal.returns-in_err-collect_marks
returns-in_err-collect_marks c = promised c.args.limits.limits.budget (lists_in c.args.sound) (piece_in c.args.sound) c.args.name.now _ (search rules)

pub returns-in_err-collect_events : goal.returns-in_err-collect_events
returns-in_err-collect_events c = promised c.args.limits.limits.budget (lists_in c.args.sound) (piece_in c.args.sound) c.args.name.now _ (search rules)

pub returns : goal.returns
returns c = promised c.args.limits.limits.budget (lists_in c.args.sound) (piece_in c.args.sound) c.args.name.now _ (search rules)
