-- The entries that are left of packed bytes.
use Rattle.std.specs.Prelude.{List}
use Rattle.catalogue.specs.Entries.{Entry}
use Rattle.binder.specs.declared.packed.PackedEntries.{PackedEntries}
use Rattle.binder.specs.Entries.{walk}

abbrev pub entries_left : PackedEntries → List Entry
entries_left s = walk s.left s.bytes.now
