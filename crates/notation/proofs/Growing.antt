-- Lists that only grow.
use Rattle.std.proofs.Common.{◌≡◌, ℕ, ◌≤◌, List, [], ◌++◌, length, take, sym, ap, ◌∙◌, arith, length-append}
use Rattle.std.proofs.lemmas.List.{append_assoc, append-nil, take_at}
use Rattle.notation.specs.declared.builder.StockBuilder.{StockBuilder}
use Rattle.notation.specs.Scores.{Grows, Grown}

pub grows_same : {A : Type 0} (xs : List A) → Grows xs xs
grows_same xs = record { more = []; is = sym (append-nil xs) }

pub grows_is : {A : Type 0} {xs ys : List A} → ys ≡ xs → Grows xs ys
grows_is {xs = xs} e = record { more = []; is = e ∙ sym (append-nil xs) }

pub grows_trans : {A : Type 0} {xs ys zs : List A} → Grows xs ys → Grows ys zs → Grows xs zs
grows_trans {xs = xs} g h = record { more = g.more ++ h.more; is = h.is ∙ ap (λ l. l ++ h.more) g.is ∙ append_assoc xs g.more h.more }

pub grows_length : {A : Type 0} {xs ys : List A} → Grows xs ys → length xs ≤ length ys
grows_length {xs = xs} g = let e = ap length g.is in omega (arith, length-append xs g.more)

-- a list that grew, cut to its old length, is as it was
pub grows_cut : {A : Type 0} {xs ys : List A} (n : ℕ) → length xs ≡ n → Grows xs ys → take n ys ≡ xs
grows_cut {xs = xs} n e g = ap (take n) g.is ∙ take_at xs g.more n e

pub grown_same : (a : StockBuilder) → Grown a a
grown_same a = record { bytes = grows_same _; marks = grows_same _; events = grows_same _ }

pub grown_trans : {a b c : StockBuilder} → Grown a b → Grown b c → Grown a c
grown_trans g h = record { bytes = grows_trans g.bytes h.bytes; marks = grows_trans g.marks h.marks; events = grows_trans g.events h.events }
