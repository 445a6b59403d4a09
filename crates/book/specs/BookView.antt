-- What a book and a draft of the code say.
use Rattle.std.specs.Prelude.{vec_items}
use Rattle.std.specs.Option.{option_map}
use Rattle.book.specs.declared.contents.Book.{Book}
use Rattle.book.specs.declared.contents.Draft.{Draft}
use Rattle.book.specs.Said.{Said, SaidDraft}
use Rattle.book.specs.View.{said_scores}

abbrev pub said_draft : Draft → SaidDraft
said_draft d = record { main = option_map vec_items d.main; scores = said_scores (vec_items d.scores.lines); withdrawn = vec_items d.withdrawn }

abbrev pub said : Book → Said
said b = record { main = vec_items b.main; scores = said_scores (vec_items b.scores.lines); withdrawn = vec_items b.withdrawn }
