-- What packed bytes are, without reading them: the packing of a list that can be packed.
use Rattle.std.specs.Prelude.{◌≡◌, ℕ, ◌^◌, ◌<◌, ◌≤◌, true, List, length, Ok, Result}
use Rattle.std.specs.List.{AllByRecursion}
use Rattle.catalogue.specs.Entries.{Entry, Lawful}
use Rattle.catalogue.specs.Laws.{Exactly}
use Rattle.catalogue.specs.declared.answers.CatalogueError.{CatalogueError}
use Rattle.binder.specs.Packing.{packed}

-- each number is a byte
abbrev pub Bytes : List ℕ → Type 0
Bytes xs = AllByRecursion (λ b. b < 256) xs

-- an entry that stands, and whose fields fit their widths
pub record Fits (e : Entry) : Type 0 where
  pub path_not_empty : 1 ≤ length e.path
  pub path_short : length e.path ≤ 64
  pub path_bytes : Bytes e.path
  pub number_fits : e.number < 2 ^ 32
  pub text_fits : e.piece.text_len < 2 ^ 32
  pub marks_start_fits : e.piece.marks.start < 2 ^ 32
  pub marks_count_fits : e.piece.marks.len < 2 ^ 16
  pub events_start_fits : e.piece.events.start < 2 ^ 32
  pub events_count_fits : e.piece.events.len < 2 ^ 16
  pub entry_stands : e.stands ≡ true

-- at most 256 entries with distinct paths and numbers that are not 0, each of which fits
pub record Packable (es : List Entry) : Type 0 where
  pub lawful : Lawful es
  pub each_fits : AllByRecursion Fits es

-- binding the bytes bs, with this answer and these entries afterwards: it is accepted with the entries es exactly if bs is the packing of es, and es can be packed
abbrev pub AcceptedExactly : List ℕ → Result (Unit {0}) CatalogueError → List Entry → Type 0
AcceptedExactly bs r is = (es : List Entry) → Exactly ((r ≡ Ok tt) × (is ≡ es)) ((bs ≡ packed es) × Packable es)
