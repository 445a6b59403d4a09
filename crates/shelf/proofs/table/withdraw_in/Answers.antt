use Rattle.std.proofs.Common.{◌≡◌, ◌<◌, cond, length, get_or, ap, ◌∙◌, arith}
use Rattle.std.proofs.lemmas.List.Edits.{map_over_more}
use Rattle.catalogue.specs.Entries.{stands_as, withdrawn_entry}
use Rattle.catalogue.proofs.Withdrawing.{from_bool_is, from_bool_at_most_1}
use Rattle.shelf.proofs.Tables.{still_here, standing_more}
use Rattle.shelf.proofs.table.withdraw_in.Goals as goal

pub loop-place-preserved : goal.loop-place-preserved
loop-place-preserved c =
    let n = c.args.number in
    let start = c.args.places.now in
    let i = c.loop-place.place-index in
    let d = c.place-item.result in
    let h : i < length start = c.loop-place-test.true in
    let same = still_here n start i d h c.loop-place.places c.loop-place.invariant.done in
    let one : c.from-stood.result ≡ cond (stands_as n (get_or start i d)) 1 0 = c.from-stood.ensures ∙ from_bool_is c.withdraw.result ∙ ap (λ b. cond b 1 0) (c.withdraw.ensures.stood ∙ ap (stands_as n) same) in
    let more = standing_more n start i d h in
    record {
      few = omega (arith, from_bool_at_most_1 c.withdraw.result);
      counted = omega arith;
      done = rw c.withdraw.ensures.entry (map_over_more (withdrawn_entry n) start c.loop-place.places i (get_or c.loop-place.places i d) h c.loop-place.invariant.done (ap (λ x. get_or c.loop-place.places i x) c.place-item.is));
    }
