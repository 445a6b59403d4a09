-- Bytes are accepted with some entries exactly if they are the packing of these entries, and the entries can be packed. A written entry reads back, and read bytes write back.
use Rattle.std.proofs.Common.{◌≡◌, ℕ, zero, suc, ◌+◌, ◌<◌, ◌≤◌, true, false, not, ltb, List, [], ◌∷◌, ◌++◌, length, take, drop, Some, None, Ok, Err, codes, Option, Result, sym, refl, ap, ◌∙◌, subst, append_assoc, arith, length-append, length-drop}
use Rattle.std.specs.List.{AllByRecursion}
use Rattle.std.specs.Str.{bytes_eq}
use Rattle.std.proofs.ByRecursion.{All-drop, All-take}
use Rattle.std.proofs.lemmas.List.{take_at, drop_at, drop-drop, take-append-drop, length-take-le}
use Rattle.std.proofs.lemmas.Bool.{and_parts, not-true, or_parts, or_from}
use Rattle.catalogue.specs.Entries.{Entry, known, numbered, distinct}
use Rattle.catalogue.specs.Laws.{Exactly}
use Rattle.catalogue.proofs.Lists.{same_sym}
use Rattle.binder.specs.Binding.{bound, bound_by}
use Rattle.binder.specs.Entries.{path_length, path_of, behind_path, piece_of, entry_of, behind_entry, entry_length, walk, count_of, listed, wrong_from, wrong, parsed_by, parsed}
use Rattle.binder.specs.Fields.{be16, be32}
use Rattle.binder.specs.Laws.{Bytes, Fits, Packable, AcceptedExactly}
use Rattle.binder.specs.Packing.{write16, write32, write_piece, write_entry, write_entries, packed}
use Rattle.binder.proofs.Good.{GoodHead, GoodEntry, from_none, none_from, none_left, wrong_none, wrong_from_lem, length_walk, lawful_listed}
use Rattle.binder.proofs.Written.{read_16, read_32, small_16, small_32, written_16, written_32}

-- number and piece of an entry
abbrev numbers : Entry → List ℕ
numbers e = write32 e.number ++ write_piece e.piece

-- an entry that is written, before other bytes, reads back
module _ (e : Entry) (fits : Fits e) (rest : List ℕ) where
  behind_path_back : behind_path (write_entry e ++ rest) ≡ numbers e ++ rest
  behind_path_back = ap (drop (length e.path)) (append_assoc e.path (numbers e) rest) ∙ drop_at e.path (numbers e ++ rest) (length e.path) refl

  path_back : path_of (write_entry e ++ rest) ≡ e.path
  path_back = ap (take (length e.path)) (append_assoc e.path (numbers e) rest) ∙ take_at e.path (numbers e ++ rest) (length e.path) refl

  number_back : be32 (behind_path (write_entry e ++ rest)) ≡ e.number
  number_back = ap be32 behind_path_back ∙ read_32 e.number fits.number_fits

  piece_back : piece_of (drop 4 (behind_path (write_entry e ++ rest))) ≡ e.piece
  piece_back =
      ap (λ ys. piece_of (drop 4 ys)) behind_path_back
      ∙ (λ j.
      record {
        marks = record { start = read_32 e.piece.marks.start fits.marks_start_fits j; len = read_16 e.piece.marks.len fits.marks_count_fits j };
        events = record { start = read_32 e.piece.events.start fits.events_start_fits j; len = read_16 e.piece.events.len fits.events_count_fits j };
        text_len = read_32 e.piece.text_len fits.text_fits j;
      })

  entry_back : entry_of (write_entry e ++ rest) ≡ e
  entry_back = λ j. record { path = path_back j; number = number_back j; piece = piece_back j; stands = sym fits.entry_stands j }

  rest_back : behind_entry (write_entry e ++ rest) ≡ rest
  rest_back = ap (drop 20) behind_path_back

  good_back : (before : List Entry) → known before e.path ≡ false → ltb 0 e.number ≡ true → GoodEntry before (write_entry e ++ rest)
  good_back before new nonzero =
      let whole = ap length (append_assoc e.path (numbers e) rest) in
      record {
        some = omega arith;
        path_not_empty = fits.path_not_empty;
        path_short = fits.path_short;
        path_there = omega (arith, whole, length-append e.path (numbers e ++ rest));
        path_new = ap (known before) path_back ∙ new;
        number_not_0 = ap (ltb 0) number_back ∙ nonzero;
        numbers_there = omega (arith, ap length behind_path_back);
      }

-- an entry of a list with distinct paths is not known before
known_in : (before es : List Entry) (e : Entry) (p : List ℕ) → known (before ++ e ∷ es) p ≡ false → bytes_eq e.path p ≡ false
known_in [] es e p h = (or_parts (bytes_eq e.path p) (known es p) h).0
known_in (x ∷ before) es e p h = known_in before es e p (or_parts (bytes_eq x.path p) (known (before ++ e ∷ es) p) h).1

known_before : (before es : List Entry) (e : Entry) → distinct (before ++ e ∷ es) ≡ true → known before e.path ≡ false
known_before [] es e h = refl
known_before (x ∷ before) es e h =
    let parts = and_parts (not (known (before ++ e ∷ es) x.path)) (distinct (before ++ e ∷ es)) h in
    let other = known_in before es e x.path (not-true _ parts.0) in
    or_from (bytes_eq x.path e.path) (known before e.path) (same_sym x.path e.path ∙ other) (known_before before es e parts.1)

entries_back : (es before : List Entry) (p : ℕ) → AllByRecursion Fits es → numbered es ≡ true → distinct (before ++ es) ≡ true → (wrong_from (length es) before p (write_entries es) ≡ None) × (walk (length es) (write_entries es) ≡ es)
entries_back [] before p fits a b = (refl, refl)
entries_back (e ∷ es) before p fits a b =
    let rest = write_entries es in
    let xs = write_entry e ++ rest in
    let parts = and_parts (ltb 0 e.number) (numbered es) a in
    let same = entry_back e fits.0 rest in
    let left = rest_back e fits.0 rest in
    let others = entries_back es (before ++ e ∷ []) (p + entry_length xs) fits.1 parts.1 (ap distinct (append_assoc before (e ∷ []) es) ∙ b) in
    let good = good_back e fits.0 rest before (known_before before es e b) parts.0 in (
      from_none (length es) before p xs good ((λ j. wrong_from (length es) (before ++ same j ∷ []) (p + entry_length xs) (left j)) ∙ others.0),
      (λ j. same j ∷ walk (length es) (left j)) ∙ ap (λ ys. e ∷ ys) others.1,
    )

-- what is packed is accepted
pub packed_accepted : (es : List Entry) → Packable es → parsed (packed es) ≡ Ok es
packed_accepted es ok =
    let bs = packed es in
    let few = ok.lawful.at_most_256 in
    let count : count_of bs ≡ length es = read_16 (length es) (omega arith) in
    let back = entries_back es [] 7 ok.each_fits ok.lawful.numbers_not_0 ok.lawful.paths_distinct in
    let head : GoodHead bs = record { long = omega arith; signed = refl; version = refl; few = omega (arith, count) } in
    let none = wrong_from_lem bs head (ap (λ n. wrong_from n [] 7 (write_entries es)) count ∙ back.0) in
    ap (λ o. parsed_by o (listed bs)) none ∙ ap Ok (ap (λ n. walk n (write_entries es)) count ∙ back.1)

-- bytes that are read write back
piece_forth : (zs : List ℕ) → Bytes zs → 16 ≤ length zs → zs ≡ write_piece (piece_of zs) ++ drop 16 zs
piece_forth zs b l =
    written_32 0 zs b (omega arith)
    ∙ ap (λ r. write32 (be32 zs) ++ r)
    (written_32 4 zs b (omega arith)
    ∙ ap (λ r. write32 (be32 (drop 4 zs)) ++ r)
    (written_16 8 zs b (omega arith)
    ∙ ap (λ r. write16 (be16 (drop 8 zs)) ++ r)
    (written_32 10 zs b (omega arith)
    ∙ ap (λ r. write32 (be32 (drop 10 zs)) ++ r)
    (written_16 14 zs b (omega arith)))))

numbers_forth : (ys : List ℕ) → Bytes ys → 20 ≤ length ys → ys ≡ (write32 (be32 ys) ++ write_piece (piece_of (drop 4 ys))) ++ drop 20 ys
numbers_forth ys b l =
    let zs = drop 4 ys in
    written_32 0 ys b (omega arith)
    ∙ ap (λ r. write32 (be32 ys) ++ r) (piece_forth zs (All-drop (λ x. x < 256) 4 ys b) (omega (arith, length-drop 4 ys)) ∙ ap (λ r. write_piece (piece_of zs) ++ r) (drop-drop 16 4 ys))

entry_forth : (before : List Entry) (xs : List ℕ) → Bytes xs → GoodEntry before xs → xs ≡ write_entry (entry_of xs) ++ behind_entry xs
entry_forth before [] b good = let some = good.some in absurd (omega arith)
entry_forth before (x ∷ t) b good =
    let path = take x t in
    let ys = drop x t in
    let len : x ≡ length path = sym (length-take-le x t good.path_there) in
    let tail = sym (take-append-drop x t) ∙ ap (λ r. path ++ r) (numbers_forth ys (All-drop (λ c. c < 256) x t b.1) good.numbers_there) ∙ sym (append_assoc path (write32 (be32 ys) ++ write_piece (piece_of (drop 4 ys))) (drop 20 ys)) in
    λ j. len j ∷ tail j

entry_fits : (before : List Entry) (xs : List ℕ) → Bytes xs → GoodEntry before xs → Fits (entry_of xs)
entry_fits before xs b good =
    let behind = All-drop (λ c. c < 256) 1 xs b in
    let ys = behind_path xs in
    let read : (k : ℕ) → Bytes (drop k ys) = λ k. All-drop (λ c. c < 256) k ys (All-drop (λ c. c < 256) (path_length xs) (drop 1 xs) behind) in
    let zs = drop 4 ys in
    let piece : (k : ℕ) → Bytes (drop k zs) = λ k. All-drop (λ c. c < 256) k zs (read 4) in
    let len = length-take-le (path_length xs) (drop 1 xs) good.path_there in
    let low = good.path_not_empty in
    let high = good.path_short in
    record {
      path_not_empty = omega arith;
      path_short = omega arith;
      path_bytes = All-take (λ c. c < 256) (path_length xs) (drop 1 xs) behind;
      number_fits = small_32 ys (read 0);
      text_fits = small_32 zs (read 4);
      marks_start_fits = small_32 (drop 4 zs) (piece 4);
      marks_count_fits = small_16 (drop 8 zs) (piece 8);
      events_start_fits = small_32 (drop 10 zs) (piece 10);
      events_count_fits = small_16 (drop 14 zs) (piece 14);
      entry_stands = refl;
    }

entries_forth : (n : ℕ) (before : List Entry) (p : ℕ) (xs : List ℕ) → Bytes xs → wrong_from n before p xs ≡ None → (xs ≡ write_entries (walk n xs)) × AllByRecursion Fits (walk n xs)
entries_forth zero before p xs b h = (none_left before p xs h, tt)
entries_forth (suc n) before p xs b h =
    let none = none_from n before p xs h in
    let good = none.0 in
    let rest = behind_entry xs in
    let bytes = All-drop (λ c. c < 256) 20 (behind_path xs) (All-drop (λ c. c < 256) (path_length xs) (drop 1 xs) (All-drop (λ c. c < 256) 1 xs b)) in
    let others = entries_forth n (before ++ entry_of xs ∷ []) (p + entry_length xs) rest bytes none.1 in
    (entry_forth before xs b good ∙ ap (λ r. write_entry (entry_of xs) ++ r) others.0, (entry_fits before xs b good, others.1))

-- what is accepted is packed: it comes out the same, byte by byte
pub accepted_packed : (bs : List ℕ) → Bytes bs → wrong bs ≡ None → bs ≡ packed (listed bs)
accepted_packed bs b h =
    let none = wrong_none bs h in
    let head = none.0 in
    let long = head.long in
    let rest = drop 7 bs in
    let others = (entries_forth (count_of bs) [] 7 rest (All-drop (λ c. c < 256) 7 bs b) none.1).0 in
    let count = sym (length_walk (count_of bs) rest) in
    sym (take-append-drop 3 bs)
    ∙ ap (λ s. s ++ drop 3 bs) head.signed
    ∙ ap (λ r. codes "PBK" ++ r)
    (written_16 3 bs b (omega arith)
    ∙ ap (λ n. write16 n ++ drop 5 bs) head.version
    ∙ ap (λ r. write16 1 ++ r) (written_16 5 bs b (omega arith) ∙ (λ j. write16 (count j) ++ others j)))

pub accepted_packable : (bs : List ℕ) → Bytes bs → wrong bs ≡ None → Packable (listed bs)
accepted_packable bs b h =
    record {
      lawful = lawful_listed bs h;
      each_fits = (entries_forth (count_of bs) [] 7 (drop 7 bs) (All-drop (λ c. c < 256) 7 bs b) (wrong_none bs h).1).1;
    }

-- what an accepted parse says
parsed_ok : (o : Option ℕ) (is es : List Entry) → parsed_by o is ≡ Ok es → (o ≡ None) × (is ≡ es)
parsed_ok None is es h = (refl, cc)
parsed_ok (Some p) is es h = let z : ◌≡◌ {A = ℕ} 0 1 = cc in absurd (omega arith)

-- bytes mean these entries exactly if they are the packing of these entries, and the entries can be packed
pub parsed_exactly_if_packed : (bs : List ℕ) → Bytes bs → (es : List Entry) → Exactly (parsed bs ≡ Ok es) ((bs ≡ packed es) × Packable es)
parsed_exactly_if_packed bs b es = (
  λ h. (let ok = parsed_ok (wrong bs) (listed bs) es h in (accepted_packed bs b ok.0 ∙ ap packed ok.1, subst Packable ok.1 (accepted_packable bs b ok.0))),
  λ h. ap parsed h.0 ∙ packed_accepted es h.1,
)

bound_ok : (r : Result (List Entry) ℕ) (was es : List Entry) → (bound_by r was).answer ≡ Ok tt → (bound_by r was).entries ≡ es → r ≡ Ok es
bound_ok (Ok is) was es h q = ap Ok q
bound_ok (Err p) was es h q = let z : ◌≡◌ {A = ℕ} 0 1 = cc in absurd (omega arith)

pub accepted_exactly : (bs : List ℕ) → Bytes bs → (was : List Entry) → AcceptedExactly bs (bound bs was).answer (bound bs was).entries
accepted_exactly bs b was es =
    let both = parsed_exactly_if_packed bs b es in (
      λ h. both.0 (bound_ok (parsed bs) was es h.0 h.1),
      λ h. (ap (λ r. (bound_by r was).answer) (both.1 h), ap (λ r. (bound_by r was).entries) (both.1 h)),
    )
