use Rattle.std.proofs.Common.{◌≡◌, ◌≤◌, ◌++◌, take, drop}
use Rattle.catalogue.specs.Entries.{standing, withdrawn}
use Rattle.shelf.proofs.table.withdraw_in.Given as goal

abbrev pub invariant-loop-place : goal.invariant-loop-place
invariant-loop-place l = record {
  few : l.stood ≤ l.place-index;
  counted : l.stood ≡ standing l.number (take l.place-index l.initial.places);
  done : l.places ≡ withdrawn l.number (take l.place-index l.initial.places) ++ drop l.place-index l.initial.places;
}
