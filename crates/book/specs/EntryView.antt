-- What an entry of the code says.
use Rattle.std.specs.Prelude.{vec_items}
use Rattle.book.specs.declared.entries.Entry.{Entry}
use Rattle.book.specs.declared.entries.Entry.TheVariants.{Main, Score, Withdrawn}
use Rattle.book.specs.Said.{SaidEntry}
use Rattle.book.specs.Said.SaidEntry.{main, score, withdrawn}
use Rattle.book.specs.View.{said_score}

abbrev pub said_entry : Entry → SaidEntry
said_entry (Main file) = main (vec_items file)
said_entry (Score s) = score (said_score s)
said_entry (Withdrawn number) = withdrawn number
