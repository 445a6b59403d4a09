use Rattle.std.proofs.Common.{◌≡◌, List, length, Some, sym, ap, ◌∙◌, arith}
use Rattle.std.specs.Result.{result_ok}
use Rattle.events.specs.declared.score.Event.{Event}
use Rattle.events.specs.Scores.{lists, within, events_of}
use Rattle.events.proofs.Sizes.{sized, part_length, found_is}
use Rattle.events.proofs.sound.checking.judge_rules.Goals as goal

pub containers_nest-requires : goal.containers_nest-requires
containers_nest-requires c =
    let l = lists c.args.stock in
    let p = c.args.piece in
    let s = sized l p (sym c.if-not-sizes_hold.ensures) in
    let n = part_length p.events l.events s.events_inside in
    let found : c.part_of.result ≡ Some c.in_ok-events.events = c.ok_or.ensures.ok_part ∙ ap result_ok c.in_ok-events.was in
    let e = found_is (within p.events (length l.events)) c.in_ok-events.events.now (events_of l p) (rw found at c.part_of.ensures.is_the_part_inside) in
    let w : length c.in_ok-events.events.now ≡ length (events_of l p) = ap (λ (es : List Event). length es) e in
    omega (arith, s.few_events)
