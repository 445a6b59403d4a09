use Rattle.std.proofs.Common.{◌≡◌, ◌^◌, ◌<◌, drop}
use Rattle.book.specs.Decimal.{number_from, number_of}
use Rattle.book.proofs.numbers.number_of.Given as goal

abbrev pub invariant-loop-byte : goal.invariant-loop-byte
invariant-loop-byte l = (number_from l.number (drop l.byte-index l.word) ≡ number_of l.word) × (l.number < 2 ^ 32)
