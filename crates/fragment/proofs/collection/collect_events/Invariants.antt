use Rattle.fragment.proofs.Collecting.{Going}
use Rattle.fragment.proofs.collection.collect_events.Given as goal

abbrev pub invariant-loop-event : goal.invariant-loop-event
invariant-loop-event l = Going l.budget l.events l.event-index l.counted
