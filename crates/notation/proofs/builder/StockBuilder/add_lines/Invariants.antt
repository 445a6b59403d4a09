use Rattle.std.proofs.Common.{◌≡◌, ◌+◌, ◌<◌, ◌≤◌, length, drop, take}
use Rattle.std.specs.Iterator.Adapters.{enumerate_count, enumerate_source}
use Rattle.slices.specs.Lines.{lines_of}
use Rattle.slices.specs.LinesLeft.{lines_left}
use Rattle.notation.specs.Causes.{line_feeds}
use Rattle.notation.specs.Scores.{Grown, Counted, Reached}
use Rattle.notation.proofs.builder.StockBuilder.add_lines.Given as goal

abbrev pub invariant-loop-index : goal.invariant-loop-index
invariant-loop-index l = record {
  can : (goal.iterator-loop-index).can_next l.index-iterator;
  ends : (goal.iterator-loop-index).is_finite l.index-iterator;
  lines : lines_left (enumerate_source l.index-iterator) ≡ lines_of (drop l.start l.text);
  number : l.start < length l.text → enumerate_count l.index-iterator ≡ line_feeds (take l.start l.text);
  within : l.start ≤ length l.text + 1;
  grown : Grown l.initial.self l.self;
  counted : Counted l.begun.marks l.begun.events l.initial.self → Counted l.begun.marks l.begun.events l.self;
  reached : Reached l.begun.marks l.text l.initial.self l.start l.self;
}
