use Rattle.std.proofs.Common.{◌≡◌, rules, ap, sym, ◌∙◌, Some, None, Err}
use Rattle.std.specs.Option.{option_map, option_map_or}
use Rattle.catalogue.specs.declared.answers.Unresolved.TheVariants.{Unknown}
use Rattle.catalogue.specs.Entries.{answer}
use Rattle.catalogue.proofs.LookUp.{look_up_tells_the_list}
use Rattle.shelf.proofs.table.ShelfCatalogue.resolve.Goals as goal

pub returns-in_err-ok_or : goal.returns-in_err-ok_or
returns-in_err-ok_or c =
    let none : c.place_of.result ≡ None = search rules in
    let tells : c.from_residual.result ≡ Err Unknown = search rules in
    record {
      resolve_tells_the_list = tells ∙ ap (λ o. option_map_or answer o (Err Unknown)) (ap (option_map (λ y. y.now)) (sym none) ∙ c.place_of.ensures);
      found_if_it_stands = look_up_tells_the_list;
    }

pub returns : goal.returns
returns c =
    let some : c.place_of.result ≡ Some c.in_ok-ok_or.field-0 = search rules in
    record {
      resolve_tells_the_list = c.resolution.ensures ∙ ap (λ o. option_map_or answer o (Err Unknown)) (ap (option_map (λ y. y.now)) (sym some) ∙ c.place_of.ensures);
      found_if_it_stands = look_up_tells_the_list;
    }
