-- The event that the enforcer is shown, as a plain value.
use Rattle.budget.specs.declared.observed.ObservedEvent.{ObservedEvent}
use Rattle.budget.specs.Observed.{Seen}

abbrev pub seen : ObservedEvent → Seen
seen e = record { kind = e.kind; anchor = e.anchor.number; value = e.value.now; tag = e.tag.now; style = e.style }
