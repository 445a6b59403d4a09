-- One entry more of a walk, at its front and at its end.
use Rattle.std.proofs.Common.{◌≡◌, ℕ, zero, suc, ◌+◌, ◌-◌, ◌<◌, List, [], ◌∷◌, ◌++◌, refl, ap, add-one, arith}
use Rattle.std.specs.Option.{option_or}
use Rattle.catalogue.specs.Entries.{Entry}
use Rattle.binder.specs.Entries.{entry_of, behind_entry, entry_length, walk, wrong_from, wrong_entry}

one_left : (n i : ℕ) → i < n → n - i ≡ suc (n - (i + 1))
one_left n i h = omega arith

pub wrong_from_more : (n i : ℕ) (before : List Entry) (p : ℕ) (xs : List ℕ) → i < n → wrong_from (n - i) before p xs ≡ option_or (wrong_entry before p xs) (wrong_from (n - (i + 1)) (before ++ entry_of xs ∷ []) (p + entry_length xs) (behind_entry xs))
wrong_from_more n i before p xs h = ap (λ k. wrong_from k before p xs) (one_left n i h)

-- what stands behind n entries
abbrev pub behind_entries : ℕ → List ℕ → List ℕ
behind_entries zero xs = xs
behind_entries (suc n) xs = behind_entries n (behind_entry xs)

behind_suc : (n : ℕ) (xs : List ℕ) → behind_entries (suc n) xs ≡ behind_entry (behind_entries n xs)
behind_suc zero xs = refl
behind_suc (suc n) xs = behind_suc n (behind_entry xs)

walk_suc : (n : ℕ) (xs : List ℕ) → walk (suc n) xs ≡ walk n xs ++ entry_of (behind_entries n xs) ∷ []
walk_suc zero xs = refl
walk_suc (suc n) xs = ap (λ es. entry_of xs ∷ es) (walk_suc n (behind_entry xs))

pub behind_push : (n : ℕ) (xs : List ℕ) → behind_entries (n + 1) xs ≡ behind_entry (behind_entries n xs)
behind_push n xs = rw add-one (behind_suc n xs)

pub walk_push : (n : ℕ) (xs : List ℕ) → walk (n + 1) xs ≡ walk n xs ++ entry_of (behind_entries n xs) ∷ []
walk_push n xs = rw add-one (walk_suc n xs)
