-- The last mark of a name.
use Rattle.std.proofs.Common.{◌≡◌, ℕ, zero, suc, ◌+◌, ◌-◌, ◌<◌, ◌≤◌, Bool, true, false, ◌⊎◌, inl, inr, List, [], ◌∷◌, length, get_or, Some, None, Option, refl, ap, ◌∙◌, arith, MatchOption}
use Rattle.std.specs.Bool.{then_some}
use Rattle.std.specs.Option.{option_or}
use Rattle.std.proofs.lemmas.Bool.{both_ways, cases_lt}
use Rattle.events.specs.declared.score.Mark.{Mark}
use Rattle.events.specs.Scores.{no_mark}
use Rattle.events.specs.Tables.{is_named, last_from, last_named, FindsLast}

-- what is found among marks of which the first has number k
module _ (bytes name : List ℕ) where
  record At (k : ℕ) (ms : List Mark) (n : ℕ) : Type 0 where
    pub place : ℕ
    pub number : n ≡ k + place
    pub inside : place < length ms
    pub named : is_named bytes name (get_or ms place no_mark) ≡ true
    pub none_later : (j : ℕ) → place < j → j < length ms → is_named bytes name (get_or ms j no_mark) ≡ false

  abbrev Nowhere : List Mark → Type 0
  Nowhere ms = (j : ℕ) → j < length ms → is_named bytes name (get_or ms j no_mark) ≡ false

  behind_one : (m : Mark) (ms : List Mark) (k n : ℕ) → At (suc k) ms n → At k (m ∷ ms) n
  behind_one m ms k n a =
      record { place = suc a.place; number = omega (arith, a.number); inside = omega (arith, a.inside); named = a.named; none_later = later }
    where
      later : (j : ℕ) → suc a.place < j → j < length (m ∷ ms) → is_named bytes name (get_or (m ∷ ms) j no_mark) ≡ false
      later zero h l = absurd (omega arith)
      later (suc j) h l = a.none_later j (omega arith) (omega arith)

  first_one : (m : Mark) (ms : List Mark) (k : ℕ) → Nowhere ms → is_named bytes name m ≡ true → At k (m ∷ ms) k
  first_one m ms k none t = record { place = 0; number = omega arith; inside = omega arith; named = t; none_later = later }
    where
      later : (j : ℕ) → 0 < j → j < length (m ∷ ms) → is_named bytes name (get_or (m ∷ ms) j no_mark) ≡ false
      later zero h l = absurd (omega arith)
      later (suc j) h l = none j (omega arith)

  no_one : (m : Mark) (ms : List Mark) → Nowhere ms → is_named bytes name m ≡ false → Nowhere (m ∷ ms)
  no_one m ms none t zero h = t
  no_one m ms none t (suc j) h = none j (omega arith)

  found_from : (k : ℕ) (ms : List Mark) → MatchOption (last_from bytes name k ms) (Nowhere ms) (At k ms)
  found_from k [] = λ j h. absurd (omega arith)
  found_from k (m ∷ ms) = at (last_from bytes name (suc k) ms) (found_from (suc k) ms) (is_named bytes name m) refl
    where
      at : (o : Option ℕ) → MatchOption o (Nowhere ms) (At (suc k) ms) → (b : Bool) → is_named bytes name m ≡ b → MatchOption (option_or o (then_some b k)) (Nowhere (m ∷ ms)) (At k (m ∷ ms))
      at (Some n) a b t = behind_one m ms k n a
      at None none true t = first_one m ms k none t
      at None none false t = no_one m ms none t

  pub finds_last : (ms : List Mark) → FindsLast bytes name ms (last_named bytes name ms)
  finds_last ms = at (last_from bytes name 1 ms) (found_from 1 ms)
    where
      at : (o : Option ℕ) → MatchOption o (Nowhere ms) (At 1 ms) → FindsLast bytes name ms o
      at None none = λ j l h. none (j - 1) (omega arith)
      at (Some n) a =
          let e : n - 1 ≡ a.place = omega (arith, a.number) in
          record { least = omega (arith, a.number); most = omega (arith, a.number, a.inside); named = ap (λ p. is_named bytes name (get_or ms p no_mark)) e ∙ a.named; none_later = λ j h l. a.none_later (j - 1) (omega arith) (omega arith) }

  -- no other answer finds the last mark of the name
  pub last_is : (ms : List Mark) (o : Option ℕ) → FindsLast bytes name ms o → o ≡ last_named bytes name ms
  last_is ms o f = at o f (last_named bytes name ms) (finds_last ms)
    where
      at : (o : Option ℕ) → FindsLast bytes name ms o → (p : Option ℕ) → FindsLast bytes name ms p → o ≡ p
      at None a None b = refl
      at None a (Some k) b = absurd (both_ways _ (a k b.least b.most) b.named)
      at (Some j) a None b = absurd (both_ways _ (b j a.least a.most) a.named)
      at (Some j) a (Some k) b = by (cases_lt j k) (cases_lt k j)
        where
          by : (j < k) ⊎ (k ≤ j) → (k < j) ⊎ (j ≤ k) → ◌≡◌ {A = Option ℕ} (Some j) (Some k)
          by (inl h) _ = absurd (both_ways _ (a.none_later k h b.most) b.named)
          by (inr h) (inl g) = absurd (both_ways _ (b.none_later j g a.most) a.named)
          by (inr h) (inr g) = ap Some (omega arith)
