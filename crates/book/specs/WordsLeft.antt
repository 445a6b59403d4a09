-- What an iterator over words still yields.
use Rattle.std.specs.Prelude.{ℕ, List}
use Rattle.book.specs.declared.words.Words.{Words}
use Rattle.book.specs.Words.{words_of}

abbrev pub words_left : Words → List (List ℕ)
words_left words = words_of words.rest.now
