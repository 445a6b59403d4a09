-- Packed bytes, as they are written.
use Rattle.std.specs.Prelude.{ℕ, ◌/◌, ◌%◌, List, [], ◌∷◌, ◌++◌, length, codes}
use Rattle.events.specs.declared.score.Piece.{Piece}
use Rattle.catalogue.specs.Entries.{Entry}

abbrev pub write16 : ℕ → List ℕ
write16 n = n / 256 ∷ n % 256 ∷ []

abbrev pub write32 : ℕ → List ℕ
write32 n = n / 16777216 ∷ n / 65536 % 256 ∷ n / 256 % 256 ∷ n % 256 ∷ []

abbrev pub write_piece : Piece → List ℕ
write_piece x = write32 x.text_len ++ (write32 x.marks.start ++ (write16 x.marks.len ++ (write32 x.events.start ++ write16 x.events.len)))

abbrev pub write_entry : Entry → List ℕ
write_entry e = length e.path ∷ (e.path ++ (write32 e.number ++ write_piece e.piece))

abbrev pub write_entries : List Entry → List ℕ
write_entries [] = []
write_entries (e ∷ es) = write_entry e ++ write_entries es

-- the packing of a list: the signature, the version, the count, and each entry
abbrev pub packed : List Entry → List ℕ
packed es = codes "PBK" ++ (write16 1 ++ (write16 (length es) ++ write_entries es))
