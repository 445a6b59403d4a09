use Rattle.std.proofs.Common.{◌≡◌, ◌+◌, ◌≤◌, length, drop, Some, None, Err, rules, tests, sym, ap, ◌∙◌, arith}
use Rattle.std.specs.Option.{option_map_or}
use Rattle.std.proofs.lemmas.Iterator.{YieldsList-from_slice, YieldsList-from_zip}
use Rattle.std.proofs.lemmas.Iterator.Consumers.{YieldsList-from_first}
use Rattle.std.proofs.lemmas.Iterator.Search.{find_from_yields_List}
use Rattle.catalogue.specs.declared.answers.Unresolved.TheVariants.{Unknown}
use Rattle.catalogue.specs.Entries.{answer, has_path}
use Rattle.catalogue.proofs.LookUp.{look_up_tells_the_list}
use Rattle.binder.specs.Binding.{flagged_entry}
use Rattle.binder.specs.Entries.{count_of, listed}
use Rattle.binder.proofs.Good.{length_walk}
use Rattle.binder.specs.Left.{entries_left}
use Rattle.binder.proofs.Flags.{look_up_flagged}
use Rattle.binder.proofs.state.calls.BinderCatalogue.resolve.Goals as goal

pub returns-in_err-entry : goal.returns-in_err-entry
returns-in_err-entry c =
    let path = c.args.path.now in
    let bs = c.args.self.now.bytes.now in
    let fs = c.args.self.now.flags.withdrawn in
    let fit : 0 + length (listed bs) ≤ length fs = omega (arith, length_walk (count_of bs) (drop 7 bs), c.args.self.now.at_most_256, c.args.self.now.a_flag_for_each) in
    let finds = find_from_yields_List (λ x. has_path path x.0) c.find-found.new.self _ c.find-found.result c.find-found.ensures.ran (YieldsList-from_zip (YieldsList-from_first (λ e. e) entries_left (listed bs) (ap entries_left c.zip-flagged.ensures.first ∙ c.of.ensures.are_all)) (YieldsList-from_slice fs cc)) (λ x b q k. search (rules, tests)) in
    let none : c.find-found.result ≡ None = search rules in
    let there = rw none at finds in
    let tells : c.from_residual.result ≡ Err Unknown = search rules in
    record {
      resolve_tells_the_list = tells ∙ ap (λ o. option_map_or (λ x. answer (flagged_entry x.1 x.0)) o (Err Unknown)) there ∙ sym (look_up_flagged path (listed bs) 0 fs fit);
      found_if_it_stands = look_up_tells_the_list;
    }

pub returns : goal.returns
returns c =
    let path = c.args.path.now in
    let bs = c.args.self.now.bytes.now in
    let fs = c.args.self.now.flags.withdrawn in
    let fit : 0 + length (listed bs) ≤ length fs = omega (arith, length_walk (count_of bs) (drop 7 bs), c.args.self.now.at_most_256, c.args.self.now.a_flag_for_each) in
    let finds = find_from_yields_List (λ x. has_path path x.0) c.find-found.new.self _ c.find-found.result c.find-found.ensures.ran (YieldsList-from_zip (YieldsList-from_first (λ e. e) entries_left (listed bs) (ap entries_left c.zip-flagged.ensures.first ∙ c.of.ensures.are_all)) (YieldsList-from_slice fs cc)) (λ x b q k. search (rules, tests)) in
    let some : c.find-found.result ≡ Some (c.in_ok-entry.entry, c.in_ok-entry.withdrawn) = search rules in
    let there = rw some at finds in
    record {
      resolve_tells_the_list = c.answer.ensures.is_its_answer ∙ ap (λ o. option_map_or (λ x. answer (flagged_entry x.1 x.0)) o (Err Unknown)) there ∙ sym (look_up_flagged path (listed bs) 0 fs fit);
      found_if_it_stands = look_up_tells_the_list;
    }
