-- What a tally of the code holds, and the score that a sound piece is.
use Rattle.std.specs.Prelude.{ℕ, List}
use Rattle.events.specs.declared.sound.SoundPiece.{SoundPiece}
use Rattle.events.specs.Checked.{lists_in, piece_in}
use Rattle.events.specs.Scores.{events_of}
use Rattle.budget.specs.declared.limits.checking.CheckedLimits.{CheckedLimits}
use Rattle.budget.specs.Model.{Model}
use Rattle.fragment.specs.declared.tally.Tally.{Tally}
use Rattle.fragment.specs.Unfolding.{Counts, Score, Work}

abbrev pub counts : Tally → Counts
counts t = record { aliases = t.charges.aliases; charged = t.charges.replayed; replaced = t.replaced; replayed = t.replayed; bytes = t.bytes; written = t.written; expansions = t.expansions }

-- what an unfolding has done, where a tally counts it
abbrev pub counting : List ℕ → Tally → Model → Work
counting t y m = record { tape = t; counts = counts y; enforcer = m }

-- a sound piece under checked limits
abbrev pub score_of : SoundPiece → CheckedLimits → Score
score_of p l = record { events = events_of (lists_in p) (piece_in p); base = (piece_in p).events.start; limits = l.limits }
