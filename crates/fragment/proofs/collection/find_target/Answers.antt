use Rattle.std.proofs.Common.{subst, arith}
use Rattle.events.specs.Checked.{lists_in, piece_in}
use Rattle.events.specs.Scores.{marks_of}
use Rattle.events.specs.Tables.{FindsLast}
use Rattle.fragment.proofs.SoundRoom.{few_marks}
use Rattle.fragment.proofs.collection.find_target.Goals as goal

-- there are at most 256 marks
pub overflow_cast-result : goal.overflow_cast-result
overflow_cast-result c =
    let l = lists_in c.args.sound in
    let p = piece_in c.args.sound in
    let found = subst (FindsLast l.bytes c.args.name.now (marks_of l p)) c.in_ok-number.ensures.ok_part c.last_mark_named.ensures.finds_the_last in
    omega (arith, found.most, few_marks l p c.args.sound.keeps_the_rules)
