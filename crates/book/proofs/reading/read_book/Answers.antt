use Rattle.book.specs.BookView.{said_draft}
use Rattle.book.proofs.Gathering.{book_made, book_has_entries}
use Rattle.book.proofs.reading.read_book.Goals as goal

pub returns-clause-has_the_entries_of_its_lines : goal.returns-clause-has_the_entries_of_its_lines
returns-clause-has_the_entries_of_its_lines c =
    let text = c.args.text.now in
    book_has_entries text c.finish.result _ (book_made text (said_draft c.new-draft.result) (said_draft c.add_text.new.self) c.finish.result c.new-draft.ensures.empty c.in_ok-add_text.ensures.value c.finish.ensures.value)
