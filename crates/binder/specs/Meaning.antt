-- What a binder means: the entries of its bytes, each withdrawn if its flag is set.
use Rattle.std.specs.Prelude.{List}
use Rattle.catalogue.specs.Entries.{Entry}
use Rattle.binder.specs.declared.state.Binder.{Binder}
use Rattle.binder.specs.Binding.{flagged}
use Rattle.binder.specs.Entries.{listed}

abbrev pub entries_of : Binder → List Entry
entries_of b = flagged 0 b.flags.withdrawn (listed b.bytes.now)
