-- What the arguments of the call for a passage hold.
use Rattle.std.specs.Prelude.{ℕ, List}
use Rattle.events.specs.declared.score.Piece.{Piece}
use Rattle.events.specs.declared.sound.SoundPiece.{SoundPiece}
use Rattle.events.specs.Checked.{lists_in, piece_in}
use Rattle.events.specs.Scores.{Lists, lists}
use Rattle.budget.specs.declared.limits.checking.CheckedLimits.{CheckedLimits}
use Rattle.fragment.specs.declared.passage.Wanted.{Wanted as WantedPassage}
use Rattle.fragment.specs.Passages.{Wanted}

abbrev pub wanted : Lists → Piece → List ℕ → CheckedLimits → Wanted
wanted stock piece name limits = record { stock = stock; piece = piece; name = name; limits = limits.limits }

-- what is asked for
abbrev pub asked : WantedPassage → Wanted
asked w = wanted (lists w.stock) w.piece w.name.now w.limits

abbrev pub wanted_in : SoundPiece → List ℕ → CheckedLimits → Wanted
wanted_in sound name limits = wanted (lists_in sound) (piece_in sound) name limits
