use Rattle.std.proofs.Common.{None, Some}
use Rattle.events.specs.Scores.{no_event}
use Rattle.events.proofs.Loops.{walks_break, walks_go, walks_end}
use Rattle.events.proofs.rules.highest_after.Goals as goal

pub returns-in_err-highest : goal.returns-in_err-highest
returns-in_err-highest g c = rw c.from_residual.ensures (c.loop-event.invariant None (walks_break _ c.args.events.now c.loop-event.highest c.loop-event.event-index no_event c.loop-event-test.true c.in_err-highest.ensures))

pub loop-event-preserved : goal.loop-event-preserved
loop-event-preserved g c = λ r w. c.loop-event.invariant r (walks_go _ c.args.events.now c.loop-event.highest c.loop-event.event-index no_event c.in_ok-highest.highest r c.loop-event-test.true c.in_ok-highest.ensures w)

pub returns : goal.returns
returns g c = c.loop-event.invariant (Some c.loop-event.highest) (walks_end _ c.args.events.now c.loop-event.highest c.loop-event.event-index no_event c.loop-event-test.false)
