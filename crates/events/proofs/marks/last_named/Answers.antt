use Rattle.std.proofs.Common.{rules}
use Rattle.events.specs.Tables.{FindsLast}
use Rattle.events.proofs.LastMarks.{last_is}
use Rattle.events.proofs.marks.last_named.Goals as goal

pub returns-clause-is_the_number_of_the_last_mark : goal.returns-clause-is_the_number_of_the_last_mark
returns-clause-is_the_number_of_the_last_mark c =
    let found : FindsLast c.args.bytes.now c.args.name.now c.args.marks.now c.map.result = search rules in
    last_is c.args.bytes.now c.args.name.now c.args.marks.now c.map.result found
