use Rattle.std.proofs.Common.{◌≡◌, ◌+◌, ◌-◌, ◌*◌, ◌≤◌, []}
use Rattle.binder.specs.Entries.{walk, wrong_from}
use Rattle.binder.proofs.Walks.{behind_entries}
use Rattle.binder.proofs.whole.check_entries.Given as goal

abbrev pub invariant-loop-i : goal.invariant-loop-i
invariant-loop-i l =
    (wrong_from (l.count - l.i) (walk l.i l.entries) l.place l.rest ≡ wrong_from l.count [] 7 l.entries)
    × (l.rest ≡ behind_entries l.i l.entries)
    × (l.place ≤ 7 + 276 * l.i)
