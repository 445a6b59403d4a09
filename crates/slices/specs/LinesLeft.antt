-- What an iterator over lines still yields.
use Rattle.std.specs.Prelude.{ℕ, List}
use Rattle.slices.specs.declared.lines.Lines.{Lines}
use Rattle.slices.specs.Lines.{lines_of}

abbrev pub lines_left : Lines → List (List ℕ)
lines_left lines = lines_of lines.rest.now
