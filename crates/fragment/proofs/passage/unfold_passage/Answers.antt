use Rattle.std.proofs.Common.{rules, ◌≡◌, ℕ, List, Result, ap, ◌∙◌}
use Rattle.std.proofs.lemmas.Result.{err_from_is_err_and}
use Rattle.fragment.specs.Handed.{handed, lent_to}
use Rattle.fragment.specs.Laws.{LawsOfUnfolding}
use Rattle.events.specs.Checked.{PieceOfStock, lists_in, piece_in}
use Rattle.fragment.specs.declared.answers.FragmentError.TheVariants.{Unsound}
use Rattle.fragment.specs.Collection.{collected}
use Rattle.budget.specs.Model.{Model}
use Rattle.fragment.specs.declared.answers.Charges.{Charges}
use Rattle.fragment.specs.declared.answers.FragmentError.{FragmentError}
use Rattle.fragment.specs.declared.answers.Passage.{Passage}
use Rattle.fragment.specs.Passages.{Lent, Outcome, Wanted, from_target, passage_for, refusing}
use Rattle.fragment.specs.PassageView.{wanted, wanted_in}
use Rattle.events.specs.Scores.{lists}
use Rattle.fragment.specs.Slate.{blank}
use Rattle.fragment.proofs.Computed.{examples}
use Rattle.fragment.proofs.Lawful.{a_refusal_has_its_cause, a_refused_unfolding_passes_the_limit, accepted_exactly_if_it_unfolds_within_the_limits, the_enforcer_answers_before_the_alias_charge, the_tape_only_grows}
use Rattle.fragment.proofs.Uniqueness.{the_unfolding_is_unique}
use Rattle.fragment.proofs.Passages.{at_whole_slate, means, short_slate, sound_piece, unsound_piece, wiped_by}
use Rattle.fragment.proofs.passage.unfold_passage.Goals as goal

-- what an unfolding leaves on the tape and in the enforcer is what its lender has again
given_back : (w : Wanted) (l : Lent) (r : Result Passage FragmentError) (slate tape : List ℕ) (charges : Charges) (enforcer : Model) {t : List ℕ} {m : Model} → t ≡ tape → m ≡ enforcer → ◌≡◌ {A = Outcome} (record { answer = r; left = handed slate tape charges enforcer }) (passage_for w l) → ◌≡◌ {A = Outcome} (record { answer = r; left = handed slate t charges m }) (passage_for w l)
given_back w l r slate tape charges enforcer a b e = (λ j. record { answer = r; left = handed slate (a j) charges (b j) }) ∙ e

laws : LawsOfUnfolding
laws =
    record {
      the_unfolding_is_unique = the_unfolding_is_unique;
      a_refusal_has_its_cause = a_refusal_has_its_cause;
      a_refused_unfolding_passes_the_limit = a_refused_unfolding_passes_the_limit;
      accepted_exactly_if_it_unfolds_within_the_limits = accepted_exactly_if_it_unfolds_within_the_limits;
      the_enforcer_answers_before_the_alias_charge = the_enforcer_answers_before_the_alias_charge;
      the_tape_only_grows = the_tape_only_grows;
    }

pub returns-in_default : goal.returns-in_default
returns-in_default c =
    let w = wanted (lists c.args.stock) c.args.piece c.args.name.now c.args.limits.now in
    let l = handed c.args.slate.now c.args.tape.now c.args.charges.now c.args.enforcer.now in
    let e = short_slate w l (c.in_default.ensures).cases in
    record { answers_and_leaves_as_defined = e; is_the_unfolding_of_the_target = means w l c.args.limits.now.none_too_large _ e; keeps_the_laws_of_unfolding = laws; gloria_unfolds_as_computed = examples }

pub returns-in_err-sound : goal.returns-in_err-sound
returns-in_err-sound c =
    let w = wanted (lists c.args.stock) c.args.piece c.args.name.now c.args.limits.now in
    let l = handed c.args.slate.now c.args.tape.now c.args.charges.now c.args.enforcer.now in
    let p = err_from_is_err_and c.from_residual.result c.from_residual.ensures.1 in
    let long = (c.in-Some.ensures).cases.enough in
    let z = wiped_by c.close_all.new.slate c.args.slate.now c.close_all.ensures.all_closed in
    let e = ap (λ s. refusing (Unsound c.in_err-sound.field-0.0) (handed s c.args.tape.now c.args.charges.now c.args.enforcer.now)) z ∙ unsound_piece w l long c.in_err-sound.field-0.0 (c.in_err-sound.ensures).judges_the_rules in
    rw (p.1, p.2) (record { answers_and_leaves_as_defined = e; is_the_unfolding_of_the_target = means w l c.args.limits.now.none_too_large _ e; keeps_the_laws_of_unfolding = laws; gloria_unfolds_as_computed = examples })

pub returns : goal.returns
returns c =
    let w = wanted (lists c.args.stock) c.args.piece c.args.name.now c.args.limits.now in
    let l = handed c.args.slate.now c.args.tape.now c.args.charges.now c.args.enforcer.now in
    let q : PieceOfStock = record { stock = lists_in c.in_ok-sound.sound; piece = piece_in c.in_ok-sound.sound } in
    let long = (c.in-Some.ensures).cases.enough in
    let o : Outcome = record { answer = c.unfold_named-answer.result; left = lent_to blank c.unfold_named-answer.new.self } in
    let same : c.begin.result.charges ≡ c.args.charges.now = λ j. record { aliases = (c.begin.ensures j).aliases; replayed = (c.begin.ensures j).charged } in
    let v = wanted_in c.in_ok-sound.sound c.args.name.now c.args.limits.now in
    let begun_so = ap (λ k. from_target v (collected v.limits.budget v.stock v.piece c.args.name.now) (handed blank c.args.tape.now k c.args.enforcer.now)) same in
    let d = at_whole_slate v _ (handed blank c.args.tape.now c.args.charges.now c.args.enforcer.now) o c.unfold_named-answer.new.slate c.args.slate.now c.unfold_named-answer.ensures.leaves_all_closed (c.unfold_named-answer.ensures.collects_and_unfolds ∙ begun_so) in
    let e = sound_piece w l long q (c.in_ok-sound.ensures).judges_the_rules _ d in
    let u = c.unfold_named-answer.new.self in
    record {
      answers_and_leaves_as_defined = given_back w l _ _ u.tape.now _ u.enforcer.now (search rules) (search rules) e;
      is_the_unfolding_of_the_target = means w l c.args.limits.now.none_too_large _ (given_back w l _ _ u.tape.now _ u.enforcer.now (search rules) (search rules) e);
      keeps_the_laws_of_unfolding = laws;
      gloria_unfolds_as_computed = examples;
    }
