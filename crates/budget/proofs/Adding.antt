-- What one input adds to each count where the answer is good.
use Rattle.std.proofs.Common.{◌≡◌, Ok, sym, ◌∙◌, subst, rules}
use Rattle.events.specs.declared.kinds.EventKind.{EventKind}
use Rattle.events.specs.declared.kinds.EventKind.TheVariants.{StreamStart, StreamEnd, DocumentStart, DocumentEnd, Alias, Scalar, SequenceStart, SequenceEnd, MappingStart, MappingEnd}
use Rattle.budget.specs.declared.limits.AliasLimits.{AliasLimits}
use Rattle.budget.specs.declared.policy.EnforcingPolicy.{EnforcingPolicy}
use Rattle.budget.specs.declared.policy.EnforcingPolicy.TheVariants.{AllContent, PerDocument}
use Rattle.budget.specs.Observed.{Seen, Input, event, reference}
use Rattle.budget.specs.Model.{Model, observed}
use Rattle.budget.specs.Laws.{Adds}
use Rattle.budget.proofs.Bounds.{Bounds}
use Rattle.budget.proofs.Exact.{calm, calm_by, evented, documented_by, counted_exact}
use Rattle.budget.proofs.Sticks.{counted_well}

abbrev pub of : EventKind → Seen → Seen
of k e = record e { kind = k }

abbrev pub under : EnforcingPolicy → Model → Model
under p m = record m { policy = p }

adds_document : (p : EnforcingPolicy) (e : Seen) (m : Model) → Adds (event (of DocumentStart e)) (under p m) (documented_by p (evented (under p m)))
adds_document AllContent e m = search rules
adds_document PerDocument e m = search rules

adds : (k : EventKind) (e : Seen) (m : Model) → Adds (event (of k e)) m (calm_by k (of k e) (evented m))
adds Scalar e m = search rules
adds SequenceStart e m = search rules
adds MappingStart e m = search rules
adds SequenceEnd e m = search rules
adds MappingEnd e m = search rules
adds Alias e m = search rules
adds DocumentStart e m = adds_document m.policy e m
adds DocumentEnd e m = search rules
adds StreamStart e m = search rules
adds StreamEnd e m = search rules

pub adds_input : (i : Input) (m : Model) → Adds i m (calm i m)
adds_input (event e) m = adds e.kind e m
adds_input reference m = search rules

pub observed_adds : (a : AliasLimits) (i : Input) (m : Model) → Bounds m.budget a → (observed i m).1 ≡ Ok tt → Adds i m (observed i m).0
observed_adds a i m w t = let h = counted_well i m t in subst (Adds i m) (sym (h.1 ∙ counted_exact a i m w h.0)) (adds_input i m)
