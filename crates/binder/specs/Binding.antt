-- What binding bytes answers, the list that it leaves, and the entries of a list with flags for those that are withdrawn.
use Rattle.std.specs.Prelude.{ℕ, ◌+◌, Bool, true, false, cond, not, List, [], ◌∷◌, Some, None, Ok, Err, Option, Result, slice_index_or, slice_set}
use Rattle.catalogue.specs.Entries.{Entry}
use Rattle.catalogue.specs.declared.answers.CatalogueError.{CatalogueError}
use Rattle.catalogue.specs.declared.answers.CatalogueError.TheVariants.{Malformed}
use Rattle.binder.specs.Entries.{parsed}

pub record Bound : Type 0 where
  pub answer : Result (Unit {0}) CatalogueError
  pub entries : List Entry

-- good bytes replace all; wrong bytes change nothing
abbrev pub bound_by : Result (List Entry) ℕ → List Entry → Bound
bound_by (Ok es) was = record { answer = Ok tt; entries = es }
bound_by (Err p) was = record { answer = Err (Malformed p); entries = was }

abbrev pub bound : List ℕ → List Entry → Bound
bound bs was = bound_by (parsed bs) was

-- no field is wrong
abbrev pub fine : Option ℕ → Bool
fine None = true
fine (Some p) = false

-- an entry under its flag
abbrev pub flagged_entry : Bool → Entry → Entry
flagged_entry f e = record { path = e.path; number = e.number; piece = e.piece; stands = not f }

-- entries whose flags stand from i on
abbrev pub flagged : ℕ → List Bool → List Entry → List Entry
flagged i fs [] = []
flagged i fs (e ∷ es) = flagged_entry (slice_index_or fs i false) e ∷ flagged (i + 1) fs es

-- the flags once the entry at i is withdrawn, if it is meant
abbrev pub flags_after : Bool → ℕ → List Bool → List Bool
flags_after meant i fs = cond meant (slice_set fs i true) fs
