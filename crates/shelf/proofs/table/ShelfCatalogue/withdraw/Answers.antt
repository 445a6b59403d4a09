use Rattle.shelf.proofs.table.ShelfCatalogue.withdraw.Goals as goal
use Rattle.std.proofs.Common.{◌≡◌, length, drop, ap, ◌∙◌}
use Rattle.std.proofs.lemmas.List.{take_at, length-map}
use Rattle.catalogue.specs.Entries.{withdrawn, withdrawn_entry}
use Rattle.catalogue.proofs.Lists.{lawful_withdrawn}

pub invariant_of-self : goal.invariant_of-self
invariant_of-self c =
    let n = c.args.number in
    let es = c.args.self.now.entries.items in
    let new = c.withdraw_in.new.places in
    let list : new ≡ withdrawn n es = c.withdraw_in.ensures.list ∙ ap (withdrawn n) c.as_mut_slice.ensures.value in
    let back = take_at new (drop (length new) es) (length es) (ap length list ∙ length-map es (withdrawn_entry n)) ∙ list in
    record { lawful = rw back (lawful_withdrawn n es c.args.self.now.lawful) }
