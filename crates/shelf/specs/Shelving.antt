-- When a shelf takes an entry, and what it has then.
use Rattle.std.specs.Prelude.{ℕ, Bool, true, cond, not, ◌&&◌, List, [], ◌∷◌, ◌++◌, length, Ok, Err, Result, nat_le, nat_lt}
use Rattle.events.specs.declared.score.Piece.{Piece}
use Rattle.catalogue.specs.declared.answers.CatalogueError.{CatalogueError}
use Rattle.catalogue.specs.declared.answers.CatalogueError.TheVariants.{NotShelved}
use Rattle.catalogue.specs.Entries.{Entry, known}

-- a path of 1 to 64 bytes, a number that is not 0, and counts of at most 65,535
abbrev pub fits_a_shelf : List ℕ → ℕ → Piece → Bool
fits_a_shelf path number piece =
    nat_le 1 (length path) && (nat_le (length path) 64 && (nat_lt 0 number && (nat_le piece.marks.len 65535 && nat_le piece.events.len 65535)))

-- there is room, and the path is not known yet
abbrev pub takes : List Entry → List ℕ → ℕ → Piece → Bool
takes es path number piece = nat_lt (length es) 256 && (fits_a_shelf path number piece && not (known es path))

abbrev pub new_entry : List ℕ → ℕ → Piece → Entry
new_entry p n x = record { path = p; number = n; piece = x; stands = true }

pub record Shelving : Type 0 where
  pub answer : Result (Unit {0}) CatalogueError
  pub list : List Entry

-- an entry that is taken stands behind the others; else the answer tells how many there are
abbrev pub shelving : List Entry → List ℕ → ℕ → Piece → Shelving
shelving es path number piece =
    cond (takes es path number piece)
    (record { answer = Ok tt; list = es ++ new_entry path number piece ∷ [] })
    (record { answer = Err (NotShelved (length es)); list = es })
