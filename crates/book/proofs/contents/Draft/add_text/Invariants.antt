use Rattle.std.proofs.Common.{◌≡◌, ◌+◌}
use Rattle.std.specs.Iterator.Adapters.{enumerate_count, enumerate_source}
use Rattle.slices.specs.Lines.{lines_of}
use Rattle.slices.specs.LinesLeft.{lines_left}
use Rattle.book.specs.Books.{add_lines}
use Rattle.book.specs.BookView.{said_draft}
use Rattle.book.proofs.contents.Draft.add_text.Given as goal

abbrev pub invariant-loop-index : goal.invariant-loop-index
invariant-loop-index l = record {
  can : (goal.iterator-loop-index).can_next l.index-iterator;
  ends : (goal.iterator-loop-index).is_finite l.index-iterator;
  added : add_lines (enumerate_count l.index-iterator + 1) (lines_left (enumerate_source l.index-iterator)) (said_draft l.self) ≡ add_lines 1 (lines_of l.text) (said_draft l.initial.self);
}
