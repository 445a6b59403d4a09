use Rattle.std.proofs.Common.{◌≡◌, ◌+◌, ◌≤◌, length}
use Rattle.catalogue.specs.Entries.{standing}
use Rattle.binder.specs.Binding.{flagged}
use Rattle.binder.specs.Entries.{listed}
use Rattle.binder.specs.Left.{entries_left}
use Rattle.binder.proofs.Flags.{struck}
use Rattle.binder.proofs.state.calls.BinderCatalogue.withdraw.Given as goal

abbrev pub invariant-loop-i : goal.invariant-loop-i
invariant-loop-i l =
    let es = entries_left l.i-iterator.iter in
    let i = l.i-iterator.count in
    let was = l.initial.self in record {
      strikes : struck l.number es i l.self.flags.withdrawn ≡ struck l.number (listed was.bytes.now) 0 was.flags.withdrawn;
      counts : l.stood + standing l.number (flagged i l.self.flags.withdrawn es) ≡ standing l.number (flagged 0 was.flags.withdrawn (listed was.bytes.now));
      few : l.stood ≤ i;
      within : i + length es ≤ 256;
      same_bytes : l.self.bytes.now ≡ was.bytes.now;
    }
