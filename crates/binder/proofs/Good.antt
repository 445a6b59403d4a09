-- What it says of packed bytes that no field of them is wrong.
use Rattle.std.proofs.Common.{◌≡◌, ℕ, zero, suc, ◌+◌, ◌≤◌, Bool, true, false, ◌||◌, eqb, ltb, List, [], ◌∷◌, ◌++◌, length, take, drop, Some, None, codes, Option, sym, refl, ap, ◌∙◌, append_assoc, arith, length-drop}
use Rattle.std.proofs.lemmas.Slice.Eq.{bytes_eq-Decides}
use Rattle.std.proofs.lemmas.List.{append-nil, nil_from_length}
use Rattle.std.proofs.lemmas.Bool.{or_parts, or_from, not-false, not_from_true, ltb-true, ltb-false, eqb-true, eqb-false, lt-ltb, le-ltb, eq-eqb, ne_eqb}
use Rattle.std.specs.Option.{option_or}
use Rattle.catalogue.specs.Entries.{Entry, Lawful, known, numbered, distinct}
use Rattle.catalogue.proofs.Lists.{numbered_push, distinct_push}
use Rattle.binder.specs.Binding.{fine}
use Rattle.binder.specs.Entries.{path_length, path_of, behind_path, entry_of, entry_length, behind_entry, walk, count_of, listed, wrong_if, wrong_head, wrong_length, wrong_path, wrong_number, wrong_piece, wrong_entry, wrong_from, wrong}
use Rattle.binder.specs.Fields.{be16, be32, short}

or_none : (a b : Option ℕ) → option_or a b ≡ None → (a ≡ None) × (b ≡ None)
or_none None b h = (refl, h)
or_none (Some p) b h = let z : ◌≡◌ {A = ℕ} 0 1 = cc in absurd (omega arith)

not_wrong : (b : Bool) (p : ℕ) → wrong_if b p ≡ None → b ≡ false
not_wrong true p h = let z : ◌≡◌ {A = ℕ} 0 1 = cc in absurd (omega arith)
not_wrong false p h = refl

pub fine_none : (o : Option ℕ) → fine o ≡ true → o ≡ None
fine_none None h = refl
fine_none (Some p) h = let z : ◌≡◌ {A = ℕ} 0 1 = cc in absurd (omega arith)

-- the fields before the entries
pub record GoodHead (bs : List ℕ) : Type 0 where
  pub long : 7 ≤ length bs
  pub signed : take 3 bs ≡ codes "PBK"
  pub version : be16 (drop 3 bs) ≡ 1
  pub few : count_of bs ≤ 256

pub good_head : (bs : List ℕ) → wrong_head bs ≡ None → GoodHead bs
good_head bs h =
    let parts = or_none _ _ h in
    let others = or_none _ _ parts.1 in
    let a = or_parts _ _ (not_wrong _ 0 parts.0) in
    let b = or_parts _ _ (not_wrong _ 3 others.0) in
    let c = or_parts _ _ (not_wrong _ 5 others.1) in
    record {
      long = ltb-false (length bs) 7 c.0;
      signed = (bytes_eq-Decides (take 3 bs) (codes "PBK")).0 (not-false _ a.1);
      version = eqb-true (be16 (drop 3 bs)) 1 (not-false _ b.1);
      few = ltb-false 256 (count_of bs) c.1;
    }

-- and back
none_or : (a b : Option ℕ) → a ≡ None → b ≡ None → option_or a b ≡ None
none_or a b p q = ap (λ o. option_or o b) p ∙ q

none_if : (b : Bool) (p : ℕ) → b ≡ false → wrong_if b p ≡ None
none_if b p h = ap (λ t. wrong_if t p) h

pub head_none : (bs : List ℕ) → GoodHead bs → wrong_head bs ≡ None
head_none bs good =
    let here = le-ltb (length bs) 7 good.long in
    none_or _ _ (none_if _ 0 (or_from _ _ (le-ltb (length bs) 3 (omega arith)) (not_from_true _ ((bytes_eq-Decides (take 3 bs) (codes "PBK")).1 good.signed))))
    (none_or _ _ (none_if _ 3 (or_from _ _ (le-ltb (length bs) 5 (omega arith)) (not_from_true _ (eq-eqb (be16 (drop 3 bs)) 1 good.version))))
    (none_if _ 5 (or_from _ _ here (le-ltb 256 (count_of bs) good.few))))

-- one entry behind others
pub record GoodEntry (before : List Entry) (xs : List ℕ) : Type 0 where
  pub some : 1 ≤ length xs
  pub path_not_empty : 1 ≤ path_length xs
  pub path_short : path_length xs ≤ 64
  pub path_there : path_length xs ≤ length (drop 1 xs)
  pub path_new : known before (path_of xs) ≡ false
  pub number_not_0 : ltb 0 (be32 (behind_path xs)) ≡ true
  pub numbers_there : 20 ≤ length (behind_path xs)

good_piece : (p : ℕ) (ys : List ℕ) → wrong_piece p ys ≡ None → 16 ≤ length ys
good_piece p ys h =
    let none = or_none (wrong_if (short 14 ys) (p + 10)) (wrong_if (short 16 ys) (p + 14)) (or_none (wrong_if (short 10 ys) (p + 8)) _ (or_none (wrong_if (short 8 ys) (p + 4)) _ (or_none (wrong_if (short 4 ys) p) _ h).1).1).1 in
    ltb-false (length ys) 16 (not_wrong (short 16 ys) (p + 14) none.1)

pub good_entry : (before : List Entry) (p : ℕ) (xs : List ℕ) → wrong_entry before p xs ≡ None → GoodEntry before xs
good_entry before p xs h =
    let n = path_length xs in
    let ys = behind_path xs in
    let numbers = option_or (wrong_number (p + 1 + n) ys) (wrong_piece (p + 5 + n) (drop 4 ys)) in
    let first = or_none (wrong_length p xs) (option_or (wrong_path before (p + 1) xs) numbers) h in
    let second = or_none (wrong_path before (p + 1) xs) numbers first.1 in
    let third = or_none (wrong_number (p + 1 + n) ys) (wrong_piece (p + 5 + n) (drop 4 ys)) second.1 in
    let a = or_parts (short 1 xs) (eqb n 0 || ltb 64 n) (not_wrong _ p first.0) in
    let bounds = or_parts (eqb n 0) (ltb 64 n) a.1 in
    let b = or_parts (short n (drop 1 xs)) (known before (path_of xs)) (not_wrong _ (p + 1) second.0) in
    let c = or_parts (short 4 ys) (eqb (be32 ys) 0) (not_wrong _ (p + 1 + n) third.0) in
    record {
      some = ltb-false (length xs) 1 a.0;
      path_not_empty = let z = eqb-false n 0 bounds.0 in omega arith;
      path_short = ltb-false 64 n bounds.1;
      path_there = ltb-false (length (drop 1 xs)) n b.0;
      path_new = b.1;
      number_not_0 = let z = eqb-false (be32 ys) 0 c.1 in lt-ltb 0 (be32 ys) (omega arith);
      numbers_there = omega (arith, good_piece (p + 5 + n) (drop 4 ys) third.1, length-drop 4 ys);
    }

piece_none : (p : ℕ) (ys : List ℕ) → 16 ≤ length ys → wrong_piece p ys ≡ None
piece_none p ys h =
    let there : (k : ℕ) (q : ℕ) → k ≤ 16 → wrong_if (short k ys) q ≡ None = λ k q l. none_if (short k ys) q (le-ltb (length ys) k (omega arith)) in
    none_or _ _ (there 4 p (omega arith)) (none_or _ _ (there 8 (p + 4) (omega arith)) (none_or _ _ (there 10 (p + 8) (omega arith)) (none_or _ _ (there 14 (p + 10) (omega arith)) (there 16 (p + 14) (omega arith)))))

pub entry_none : (before : List Entry) (p : ℕ) (xs : List ℕ) → GoodEntry before xs → wrong_entry before p xs ≡ None
entry_none before p xs good =
    let n = path_length xs in
    let ys = behind_path xs in
    let long = good.path_not_empty in
    let numbers = good.numbers_there in
    let number = ltb-true 0 (be32 ys) good.number_not_0 in
    none_or (wrong_length p xs) _ (none_if _ p (or_from _ _ (le-ltb (length xs) 1 good.some) (or_from _ _ (ne_eqb n 0 (λ z. omega arith)) (le-ltb 64 n good.path_short))))
    (none_or (wrong_path before (p + 1) xs) _ (none_if _ (p + 1) (or_from _ _ (le-ltb (length (drop 1 xs)) n good.path_there) good.path_new))
    (none_or (wrong_number (p + 1 + n) ys) _ (none_if _ (p + 1 + n) (or_from _ _ (le-ltb (length ys) 4 (omega arith)) (ne_eqb (be32 ys) 0 (λ z. omega arith))))
    (piece_none (p + 5 + n) (drop 4 ys) (omega (arith, length-drop 4 ys)))))

pub from_none : (n : ℕ) (before : List Entry) (p : ℕ) (xs : List ℕ) → GoodEntry before xs → wrong_from n (before ++ entry_of xs ∷ []) (p + entry_length xs) (behind_entry xs) ≡ None → wrong_from (suc n) before p xs ≡ None
from_none n before p xs good others = none_or (wrong_entry before p xs) _ (entry_none before p xs good) others

pub none_from : (n : ℕ) (before : List Entry) (p : ℕ) (xs : List ℕ) → wrong_from (suc n) before p xs ≡ None → GoodEntry before xs × (wrong_from n (before ++ entry_of xs ∷ []) (p + entry_length xs) (behind_entry xs) ≡ None)
none_from n before p xs h =
    let none = or_none (wrong_entry before p xs) (wrong_from n (before ++ entry_of xs ∷ []) (p + entry_length xs) (behind_entry xs)) h in
    (good_entry before p xs none.0, none.1)

pub none_left : (before : List Entry) (p : ℕ) (xs : List ℕ) → wrong_from 0 before p xs ≡ None → xs ≡ []
none_left before p xs h = nil_from_length xs (eqb-true (length xs) 0 (not-false _ (not_wrong _ p h)))

-- entries behind others: the laws go on to hold
pub lawful_from : (n : ℕ) (before : List Entry) (p : ℕ) (xs : List ℕ) → numbered before ≡ true → distinct before ≡ true → wrong_from n before p xs ≡ None → (numbered (before ++ walk n xs) ≡ true) × (distinct (before ++ walk n xs) ≡ true)
lawful_from zero before p xs a b h = (ap numbered (append-nil before) ∙ a, ap distinct (append-nil before) ∙ b)
lawful_from (suc n) before p xs a b h =
    let e = entry_of xs in
    let none = none_from n before p xs h in
    let good = none.0 in
    let others = lawful_from n (before ++ e ∷ []) (p + entry_length xs) (behind_entry xs) (numbered_push before e a good.number_not_0) (distinct_push before e b good.path_new) none.1 in
    let joined = append_assoc before (e ∷ []) (walk n (behind_entry xs)) in
    (ap numbered (sym joined) ∙ others.0, ap distinct (sym joined) ∙ others.1)

pub length_walk : (n : ℕ) (xs : List ℕ) → length (walk n xs) ≡ n
length_walk zero xs = refl
length_walk (suc n) xs = ap suc (length_walk n (behind_entry xs))

pub wrong_none : (bs : List ℕ) → wrong bs ≡ None → GoodHead bs × (wrong_from (count_of bs) [] 7 (drop 7 bs) ≡ None)
wrong_none bs h =
    let none = or_none (wrong_head bs) (wrong_from (count_of bs) [] 7 (drop 7 bs)) h in
    (good_head bs none.0, none.1)

pub wrong_from_lem : (bs : List ℕ) → GoodHead bs → wrong_from (count_of bs) [] 7 (drop 7 bs) ≡ None → wrong bs ≡ None
wrong_from_lem bs good others = none_or (wrong_head bs) _ (head_none bs good) others

pub lawful_listed : (bs : List ℕ) → wrong bs ≡ None → Lawful (listed bs)
lawful_listed bs h =
    let good = wrong_none bs h in
    let laws = lawful_from (count_of bs) [] 7 (drop 7 bs) refl refl good.1 in
    record {
      at_most_256 = omega (arith, length_walk (count_of bs) (drop 7 bs), good.0.few);
      numbers_not_0 = laws.0;
      paths_distinct = laws.1;
    }
