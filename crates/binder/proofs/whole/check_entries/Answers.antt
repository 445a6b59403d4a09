use Rattle.std.proofs.Common.{◌≡◌, ℕ, ◌+◌, ◌-◌, List, [], ◌∷◌, ◌++◌, Err, Option, sym, ap, ◌∙◌, arith, rules}
use Rattle.std.specs.Option.{option_or}
use Rattle.catalogue.specs.Entries.{Entry}
use Rattle.binder.specs.Entries.{entry_of, behind_entry, entry_length, walk, wrong_entry, wrong_from, checked}
use Rattle.binder.proofs.Checks.{checked_first, checked_ok}
use Rattle.binder.proofs.Walks.{behind_push, walk_push, wrong_from_more}
use Rattle.binder.proofs.whole.check_entries.Goals as goal

pub returns-in_err-check_entry : goal.returns-in_err-check_entry
returns-in_err-check_entry c =
    let rest = c.loop-i.rest.now in
    let i = c.loop-i.i in
    let n = c.args.count in
    let before = walk i c.args.entries.now in
    let others = wrong_from (n - (i + 1)) (before ++ entry_of rest ∷ []) (c.loop-i.place + entry_length rest) (behind_entry rest) in
    let e = c.in_err-check_entry.field-0.0 in
    let tells : c.from_residual.result ≡ Err e = search rules in
    let first = checked_first (wrong_entry before c.loop-i.place rest) others e (sym c.check_entry.ensures.is_the_first_wrong_field ∙ c.in_err-check_entry.was) in
    record {
      is_the_first_wrong_field = tells ∙ sym first ∙ ap checked (sym (wrong_from_more n i before c.loop-i.place rest (omega arith)) ∙ c.loop-i.invariant.0);
    }

pub loop-i-preserved : goal.loop-i-preserved
loop-i-preserved c =
    let entries = c.args.entries.now in
    let rest = c.loop-i.rest.now in
    let i = c.loop-i.i in
    let p = c.loop-i.place in
    let left = c.args.count - (i + 1) in
    let before = walk i entries in
    let others : List Entry → Option ℕ = λ es. wrong_from left es (p + entry_length rest) (behind_entry rest) in
    let came = c.loop-i.invariant.1 in
    let behind = c.behind_entry-rest.ensures.is_behind_the_entry in
    let pushed : walk (i + 1) entries ≡ before ++ entry_of rest ∷ [] = walk_push i entries ∙ ap (λ r. before ++ entry_of r ∷ []) (sym came) in (
      (λ j. wrong_from left (pushed j) (p + (21 + c.path_len.ensures.is_the_first_byte j)) (behind j))
          ∙ ap (λ o. option_or o (others (before ++ entry_of rest ∷ []))) (sym (checked_ok _ (sym c.check_entry.ensures.is_the_first_wrong_field ∙ c.in_ok-check_entry.was)))
          ∙ sym (wrong_from_more c.args.count i before p rest (omega arith))
          ∙ c.loop-i.invariant.0,
      behind ∙ ap behind_entry came ∙ sym (behind_push i entries),
      omega arith,
    )
