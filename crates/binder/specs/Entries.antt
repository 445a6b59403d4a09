-- Packed bytes as a list of entries, or the start of the first wrong field. Each definition reads from the front of a list; p is the place of that front in the whole.
use Rattle.std.specs.Prelude.{ℕ, zero, suc, ◌+◌, Bool, true, false, not, ◌||◌, List, [], ◌∷◌, ◌++◌, length, take, drop, Some, None, Ok, Err, codes, Option, Result, ◌==◌, nat_lt, slice_index}
use Rattle.std.specs.Option.{option_or}
use Rattle.std.specs.Str.{bytes_eq}
use Rattle.events.specs.declared.score.Piece.{Piece}
use Rattle.catalogue.specs.declared.answers.CatalogueError.{CatalogueError}
use Rattle.catalogue.specs.declared.answers.CatalogueError.TheVariants.{Malformed}
use Rattle.catalogue.specs.Entries.{Entry, known}
use Rattle.binder.specs.Fields.{be16, be32, short}

-- one entry
abbrev pub path_length : List ℕ → ℕ
path_length xs = slice_index xs 0

abbrev pub path_of : List ℕ → List ℕ
path_of xs = take (path_length xs) (drop 1 xs)

abbrev pub behind_path : List ℕ → List ℕ
behind_path xs = drop (path_length xs) (drop 1 xs)

abbrev pub piece_of : List ℕ → Piece
piece_of ys =
    record {
      text_len = be32 ys;
      marks = record { start = be32 (drop 4 ys); len = be16 (drop 8 ys) };
      events = record { start = be32 (drop 10 ys); len = be16 (drop 14 ys) };
    }

-- an entry of its path and of the bytes that stand behind it
abbrev pub entry_with : List ℕ → List ℕ → Entry
entry_with path ys = record { path = path; number = be32 ys; piece = piece_of (drop 4 ys); stands = true }

abbrev pub entry_of : List ℕ → Entry
entry_of xs = entry_with (path_of xs) (behind_path xs)

abbrev pub entry_length : List ℕ → ℕ
entry_length xs = 21 + path_length xs

abbrev pub behind_entry : List ℕ → List ℕ
behind_entry xs = drop 20 (behind_path xs)

-- the first n entries
abbrev pub walk : ℕ → List ℕ → List Entry
walk zero xs = []
walk (suc n) xs = entry_of xs ∷ walk n (behind_entry xs)

-- the entries of whole packed bytes
abbrev pub count_of : List ℕ → ℕ
count_of bs = be16 (drop 5 bs)

abbrev pub listed : List ℕ → List Entry
listed bs = walk (count_of bs) (drop 7 bs)

-- a field from p on, which is wrong or not; of two that are looked at, the first wrong one is told
abbrev pub wrong_if : Bool → ℕ → Option ℕ
wrong_if true p = Some p
wrong_if false p = None

abbrev pub wrong_head : List ℕ → Option ℕ
wrong_head bs =
    option_or (wrong_if (short 3 bs || not (bytes_eq (take 3 bs) (codes "PBK"))) 0)
    (option_or (wrong_if (short 5 bs || not (be16 (drop 3 bs) == 1)) 3)
    (wrong_if (short 7 bs || nat_lt 256 (count_of bs)) 5))

abbrev pub wrong_length : ℕ → List ℕ → Option ℕ
wrong_length p xs = wrong_if (short 1 xs || (path_length xs == 0 || nat_lt 64 (path_length xs))) p

-- the path is cut, or an entry before has it
abbrev pub wrong_path : List Entry → ℕ → List ℕ → Option ℕ
wrong_path before p xs = wrong_if (short (path_length xs) (drop 1 xs) || known before (path_of xs)) p

abbrev pub wrong_number : ℕ → List ℕ → Option ℕ
wrong_number p ys = wrong_if (short 4 ys || be32 ys == 0) p

abbrev pub wrong_piece : ℕ → List ℕ → Option ℕ
wrong_piece p ys =
    option_or (wrong_if (short 4 ys) p)
    (option_or (wrong_if (short 8 ys) (p + 4))
    (option_or (wrong_if (short 10 ys) (p + 8))
    (option_or (wrong_if (short 14 ys) (p + 10))
    (wrong_if (short 16 ys) (p + 14)))))

-- an entry at p, behind these
abbrev pub wrong_entry : List Entry → ℕ → List ℕ → Option ℕ
wrong_entry before p xs =
    option_or (wrong_length p xs)
    (option_or (wrong_path before (p + 1) xs)
    (option_or (wrong_number (p + 1 + path_length xs) (behind_path xs))
    (wrong_piece (p + 5 + path_length xs) (drop 4 (behind_path xs)))))

-- n more entries from p on, behind these, and then nothing
abbrev pub wrong_from : ℕ → List Entry → ℕ → List ℕ → Option ℕ
wrong_from zero before p xs = wrong_if (not (length xs == 0)) p
wrong_from (suc n) before p xs = option_or (wrong_entry before p xs) (wrong_from n (before ++ entry_of xs ∷ []) (p + entry_length xs) (behind_entry xs))

abbrev pub wrong : List ℕ → Option ℕ
wrong bs = option_or (wrong_head bs) (wrong_from (count_of bs) [] 7 (drop 7 bs))

-- the answer of a check, by the place of the first wrong field
abbrev pub checked : Option ℕ → Result (Unit {0}) CatalogueError
checked None = Ok tt
checked (Some p) = Err (Malformed p)

-- what packed bytes mean
abbrev pub parsed_by : Option ℕ → List Entry → Result (List Entry) ℕ
parsed_by None es = Ok es
parsed_by (Some p) es = Err p

abbrev pub parsed : List ℕ → Result (List Entry) ℕ
parsed bs = parsed_by (wrong bs) (listed bs)
