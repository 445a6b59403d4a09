-- What a shelf means.
use Rattle.std.specs.Prelude.{List}
use Rattle.catalogue.specs.Entries.{Entry}
use Rattle.shelf.specs.declared.table.Shelf.{Shelf}

abbrev pub entries_of : Shelf → List Entry
entries_of s = s.entries.items
