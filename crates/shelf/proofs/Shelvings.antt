-- What a shelf has once an entry is taken.
use Rattle.std.proofs.Common.{◌≡◌, ℕ, ◌<◌, ◌≤◌, true, false, cond, not, ◌&&◌, ltb, leb, List, [], ◌∷◌, ◌++◌, length, Some, Err, find, sym, refl, ap, ◌∙◌, inl, inr}
use Rattle.std.specs.Option.{option_map_or}
use Rattle.std.specs.Str.{bytes_eq}
use Rattle.std.proofs.lemmas.Slice.Eq.{bytes_eq-Decides}
use Rattle.std.proofs.lemmas.Bool.{and_parts, or_parts, not-true, ltb-true, leb-true, cases_Bool}
use Rattle.events.specs.declared.score.Piece.{Piece}
use Rattle.catalogue.specs.declared.answers.Unresolved.TheVariants.{Unknown}
use Rattle.catalogue.specs.Entries.{Entry, Lawful, found, has_path, known, look_up, answer}
use Rattle.catalogue.proofs.Lists.{lawful_push}
use Rattle.shelf.specs.Shelving.{fits_a_shelf, takes, new_entry}

-- what `takes` says that later steps use
pub record Taken (es : List Entry) (path : List ℕ) (number : ℕ) : Type 0 where
  pub room : length es < 256
  pub short : length path ≤ 64
  pub not_0 : ltb 0 number ≡ true
  pub unknown : known es path ≡ false

pub taken : (es : List Entry) (path : List ℕ) (number : ℕ) (piece : Piece) → takes es path number piece ≡ true → Taken es path number
taken es path number piece h =
    let counts = leb piece.marks.len 65535 && leb piece.events.len 65535 in
    let a = and_parts (ltb (length es) 256) (fits_a_shelf path number piece && not (known es path)) h in
    let b = and_parts (fits_a_shelf path number piece) (not (known es path)) a.1 in
    let f = and_parts (leb 1 (length path)) (leb (length path) 64 && (ltb 0 number && counts)) b.0 in
    let g = and_parts (leb (length path) 64) (ltb 0 number && counts) f.1 in
    let n = and_parts (ltb 0 number) counts g.1 in
    record {
      room = ltb-true (length es) 256 a.0;
      short = leb-true (length path) 64 g.0;
      not_0 = n.0;
      unknown = not-true (known es path) b.1;
    }

-- a new entry behind the others answers for its path
pub new_stands : (es : List Entry) (path : List ℕ) (number : ℕ) (piece : Piece) → known es path ≡ false → look_up (es ++ new_entry path number piece ∷ []) path ≡ found number piece
new_stands [] path number piece u =
    let new = new_entry path number piece in
    ap (λ b. option_map_or answer (cond b (Some new) (find (has_path path) [])) (Err Unknown)) ((bytes_eq-Decides path path).1 refl)
new_stands (e ∷ es) path number piece u =
    let o = or_parts (bytes_eq e.path path) (known es path) u in
    ap (λ b. option_map_or answer (cond b (Some e) (find (has_path path) (es ++ new_entry path number piece ∷ []))) (Err Unknown)) o.0 ∙ new_stands es path number piece o.1

-- and no other path asks it
pub others_same : (es : List Entry) (path : List ℕ) (number : ℕ) (piece : Piece) (other : List ℕ) → (other ≡ path → ⊥) → look_up (es ++ new_entry path number piece ∷ []) other ≡ look_up es other
others_same [] path number piece other ne =
    elim (cases_Bool (bytes_eq path other)) [
      | inl t ↦ absurd (ne (sym ((bytes_eq-Decides path other).0 t)))
      | inr f ↦ ap (λ b. option_map_or answer (cond b (Some (new_entry path number piece)) (find (has_path other) [])) (Err Unknown)) f
    ]
others_same (e ∷ es) path number piece other ne =
    elim (bytes_eq e.path other) as (λ b. option_map_or answer (cond b (Some e) (find (has_path other) (es ++ new_entry path number piece ∷ []))) (Err Unknown) ≡ option_map_or answer (cond b (Some e) (find (has_path other) es)) (Err Unknown)) [
      | true ↦ refl
      | false ↦ others_same es path number piece other ne
    ]

-- the laws of the list, with the entry that is taken
pub lawful_shelved : (es : List Entry) (path : List ℕ) (number : ℕ) (piece : Piece) → Lawful es → takes es path number piece ≡ true → Lawful (es ++ new_entry path number piece ∷ [])
lawful_shelved es path number piece l t =
    let facts = taken es path number piece t in
    lawful_push es (new_entry path number piece) l facts.room facts.not_0 facts.unknown
