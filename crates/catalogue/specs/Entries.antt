-- What a catalogue means: a list of entries.
use Rattle.std.specs.Prelude.{◌≡◌, ℕ, ◌≤◌, Bool, true, cond, not, ◌&&◌, List, [], ◌∷◌, map, length, Ok, Err, Result, ◌==◌, nat_lt, count_by, find}
use Rattle.std.specs.List.{list_all, list_any}
use Rattle.std.specs.Option.{option_map_or}
use Rattle.std.specs.Str.{bytes_eq}
use Rattle.events.specs.declared.score.Piece.{Piece}
use Rattle.catalogue.specs.declared.answers.Found.{Found}
use Rattle.catalogue.specs.declared.answers.Unresolved.{Unresolved}
use Rattle.catalogue.specs.declared.answers.Unresolved.TheVariants.{Withdrawn, Unknown}

pub record Entry : Type 0 where
  pub path : List ℕ
  pub number : ℕ
  pub piece : Piece
  pub stands : Bool

-- what a number and a piece are found as
abbrev pub found : ℕ → Piece → Result Found Unresolved
found n x = Ok (record { number = n; piece = x })

-- what the entry of a path answers
abbrev pub answer : Entry → Result Found Unresolved
answer e = cond e.stands (found e.number e.piece) (Err Withdrawn)

abbrev pub has_path : List ℕ → Entry → Bool
has_path p e = bytes_eq e.path p

-- what a list answers to a path: what its entry answers, if there is one
abbrev pub look_up : List Entry → List ℕ → Result Found Unresolved
look_up es p = option_map_or answer (find (has_path p) es) (Err Unknown)

-- the entry stands and has the number
abbrev pub stands_as : ℕ → Entry → Bool
stands_as n e = e.stands && e.number == n

-- how many entries of a number stand
abbrev pub standing : ℕ → List Entry → ℕ
standing n es = count_by (stands_as n) es

-- an entry once a number is withdrawn
abbrev pub withdrawn_entry : ℕ → Entry → Entry
withdrawn_entry n e = record { path = e.path; number = e.number; piece = e.piece; stands = e.stands && not (e.number == n) }

-- a list once a number is withdrawn
abbrev pub withdrawn : ℕ → List Entry → List Entry
withdrawn n es = map (withdrawn_entry n) es

-- some entry has the path
abbrev pub known : List Entry → List ℕ → Bool
known es p = list_any (has_path p) es

-- no number is 0
abbrev pub numbered : List Entry → Bool
numbered es = list_all (λ e. nat_lt 0 e.number) es

-- no two entries have the same path
abbrev pub distinct : List Entry → Bool
distinct [] = true
distinct (e ∷ es) = not (known es e.path) && distinct es

-- what every catalogue's list keeps
pub record Lawful (es : List Entry) : Type 0 where
  pub at_most_256 : length es ≤ 256
  pub numbers_not_0 : numbered es ≡ true
  pub paths_distinct : distinct es ≡ true
