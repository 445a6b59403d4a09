use Rattle.std.proofs.Common.{◌≡◌, codes, rules, arith}
use Rattle.book.proofs.Spelling.{Spelled, spelled}
use Rattle.book.proofs.entries.entry_by.Goals as goal

pub returns-in-withdrawn : goal.returns-in-withdrawn
returns-in-withdrawn c =
    let bytes : Spelled c.args.word.now 0 (codes "withdrawn") = search rules in
    let word : c.args.word.now ≡ codes "withdrawn" = spelled c.args.word.now (codes "withdrawn") (omega (arith, c.in-withdrawn.len_at_least, c.in-withdrawn.len_below)) bytes in
    record { value = rw word c.withdrawn_entry.ensures.value }
