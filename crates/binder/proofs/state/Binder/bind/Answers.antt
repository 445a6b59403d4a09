use Rattle.std.proofs.Common.{◌≡◌, ℕ, ◌<◌, List, get_or, drop, None, Ok, Err, Result, rules, sym, refl, ap, ◌∙◌, subst, w8, Fits}
use Rattle.std.proofs.ByRecursion.{All-from_get_or}
use Rattle.std.proofs.lemmas.Bool.{false≢true}
use Rattle.catalogue.specs.Entries.{Entry}
use Rattle.catalogue.specs.declared.answers.CatalogueError.{CatalogueError}
use Rattle.binder.specs.Binding.{fine, flagged, bound_by, bound}
use Rattle.binder.specs.Entries.{checked, wrong, count_of, listed, parsed_by}
use Rattle.binder.specs.Laws.{AcceptedExactly}
use Rattle.binder.specs.Meaning.{entries_of}
use Rattle.binder.proofs.Checks.{bound_answer, bound_kept, checked_ok}
use Rattle.binder.proofs.Flags.{flagged_fresh}
use Rattle.binder.proofs.Good.{wrong_none, lawful_listed}
use Rattle.binder.proofs.Meant.{lawful_flagged}
use Rattle.binder.proofs.Packing.{accepted_exactly}
use Rattle.binder.proofs.state.Binder.bind.Goals as goal

-- what the call answers and leaves is what the bytes say
exactly : (bs : List ℕ) → ((i : ℕ) → Fits w8 (get_or bs i 0)) → (was : List Entry) (r : Result (Unit {0}) CatalogueError) (is : List Entry) → r ≡ (bound bs was).answer → is ≡ (bound bs was).entries → AcceptedExactly bs r is
exactly bs small was r is p q =
    let said = accepted_exactly bs (All-from_get_or (λ b. b < 256) bs 0 (λ i _. (small i).fits)) was in
    subst (λ x. AcceptedExactly bs r x) (sym q) (subst (λ x. AcceptedExactly bs x (bound bs was).entries) (sym p) said)

-- where the check passes, no field is wrong
none_wrong : (bs : List ℕ) (r : Result (Unit {0}) CatalogueError) → r ≡ checked (wrong bs) → r ≡ Ok tt → wrong bs ≡ None
none_wrong bs r is ok = checked_ok (wrong bs) (sym is ∙ ok)

pub invariant_of-self-clause-at_most_256 : goal.invariant_of-self-clause-at_most_256
invariant_of-self-clause-at_most_256 c =
    (wrong_none c.args.bytes.now (none_wrong c.args.bytes.now c.check.result c.check.ensures.is_the_first_wrong_field c.in_ok-check.was)).0.few

pub invariant_of-self-clause-good : goal.invariant_of-self-clause-good
invariant_of-self-clause-good c =
    ap fine (none_wrong c.args.bytes.now c.check.result c.check.ensures.is_the_first_wrong_field c.in_ok-check.was)

pub invariant_of-self-clause-lawful : goal.invariant_of-self-clause-lawful
invariant_of-self-clause-lawful c =
    let bs = c.args.bytes.now in
    lawful_flagged _ (listed bs) (lawful_listed bs (none_wrong bs c.check.result c.check.ensures.is_the_first_wrong_field c.in_ok-check.was))

pub returns-in_err-check : goal.returns-in_err-check
returns-in_err-check c =
    let bs = c.args.bytes.now in
    let was = entries_of c.args.self.now in
    let e = c.in_err-check.field-0.0 in
    let answer : c.from_residual.result ≡ Err e = search rules in
    let refused = sym c.check.ensures.is_the_first_wrong_field ∙ c.in_err-check.was in
    let tells = answer ∙ sym refused ∙ sym (bound_answer (wrong bs) (listed bs) was) in
    let means = sym (bound_kept (wrong bs) (listed bs) was e refused) in
    record {
      tells_the_first_wrong_field = tells;
      a_binder_means_its_bytes = means;
      refused_bytes_change_nothing = λ _. refl;
      accepted_exactly_if_packed = exactly bs c.type_inv.bytes was _ _ tells means;
    }

pub returns : goal.returns
returns c =
    let bs = c.args.bytes.now in
    let was = entries_of c.args.self.now in
    let none = none_wrong bs c.check.result c.check.ensures.is_the_first_wrong_field c.in_ok-check.was in
    let tells = sym (ap (λ o. (bound_by (parsed_by o (listed bs)) was).answer) none) in
    let means = ap (λ fs. flagged 0 fs (listed bs)) c.new-flags.ensures.none_is_set ∙ flagged_fresh 0 256 (count_of bs) (drop 7 bs) ∙ sym (ap (λ o. (bound_by (parsed_by o (listed bs)) was).entries) none) in
    record {
      tells_the_first_wrong_field = tells;
      a_binder_means_its_bytes = means;
      refused_bytes_change_nothing = λ h. absurd (false≢true h);
      accepted_exactly_if_packed = exactly bs c.type_inv.bytes was _ _ tells means;
    }
