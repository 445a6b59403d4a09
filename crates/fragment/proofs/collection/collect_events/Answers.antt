use Rattle.std.proofs.Common.{sym, ap}
use Rattle.std.proofs.lemmas.Result.{err_from_is_err_and}
use Rattle.fragment.specs.Collection.{unless}
use Rattle.fragment.proofs.Collecting.{goes_on, stops, ends, unless_ok, unless_err}
use Rattle.fragment.proofs.collection.collect_events.Goals as goal

pub returns-in_err-take : goal.returns-in_err-take
returns-in_err-take c =
    let p = err_from_is_err_and c.from_residual.result c.from_residual.ensures.1 in
    let cause = unless_err _ c.in_err-take.field-0.0 c.in_err-take.ensures.tells_the_first_cause in
    rw (p.1, p.2) (sym (ap unless (stops c.args.budget.now c.args.events.now c.loop-event.event-index c.loop-event.counted c.loop-event-test.true c.loop-event.invariant c.in_err-take.field-0.0 cause)))

pub loop-event-preserved : goal.loop-event-preserved
loop-event-preserved c =
    let t = c.in_ok-take.ensures in
    rw t.counts_the_event (goes_on c.args.budget.now c.args.events.now c.loop-event.event-index c.loop-event.counted c.loop-event-test.true c.loop-event.invariant (unless_ok _ t.tells_the_first_cause))

pub returns : goal.returns
returns c = sym (ap unless (ends c.args.budget.now c.args.events.now c.loop-event.event-index c.loop-event.counted c.loop-event-test.false c.loop-event.invariant))
