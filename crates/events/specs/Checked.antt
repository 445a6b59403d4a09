-- What the soundness check answers.
use Rattle.std.specs.Prelude.{Some, None, Option, Ok, Err, Result}
use Rattle.events.specs.declared.score.Piece.{Piece}
use Rattle.events.specs.declared.kinds.Rule.{Rule}
use Rattle.events.specs.declared.sound.SoundPiece.{SoundPiece}
use Rattle.events.specs.Scores.{Lists, lists}
use Rattle.events.specs.Rules.{first_broken}

-- the lists and the piece that were found sound
abbrev pub lists_in : SoundPiece → Lists
lists_in s = lists s.stock

abbrev pub piece_in : SoundPiece → Piece
piece_in s = s.piece

-- a piece, and the lists of the stock that it is of
pub record PieceOfStock : Type 0 where
  pub stock : Lists
  pub piece : Piece

-- what the check answers, with the sound piece as the piece and the lists that it is of
abbrev pub told : Result SoundPiece Rule → Result PieceOfStock Rule
told (Ok s) = Ok (record { stock = lists_in s; piece = piece_in s })
told (Err r) = Err r

-- a value, unless a rule is broken
abbrev pub unless_broken : {A : Type 0} → Option Rule → A → Result A Rule
unless_broken None x = Ok x
unless_broken (Some r) x = Err r

-- a piece that keeps the rules is handed on as it was given; of any other the first broken rule is told
abbrev pub verdict : Lists → Piece → Result PieceOfStock Rule
verdict l p = unless_broken (first_broken l p) (record { stock = l; piece = p })
