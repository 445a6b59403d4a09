-- Scores that are looked for, and withdrawn numbers that are known.
use Rattle.std.proofs.Common.{◌≡◌, Bool, true, false, cond, not, ◌&&◌, ◌||◌, List, [], ◌∷◌, map, is_some, Some, None, Option, sym, refl, ap}
use Rattle.std.specs.List.{find, list_all, list_any}
use Rattle.std.specs.Option.{option_map}
use Rattle.std.proofs.lemmas.Bool.{false≢true}
use Rattle.book.specs.declared.lines.Withdrawal.{Withdrawal}
use Rattle.book.specs.Said.{SaidScore}
use Rattle.book.specs.Lookups.{is_known, first_unknown}

known_by : (t a : Bool) (x : Withdrawal) (o : Option Withdrawal) → option_map (λ entry. entry.line) (cond (not t) (Some x) o) ≡ None → (option_map (λ entry. entry.line) o ≡ None → a ≡ true) → (t && a) ≡ true
known_by true a x o e k = k e
known_by false a x o e k = absurd (false≢true (sym (ap is_some e)))

-- where none is unknown, all are known
pub all_known : (scores : List SaidScore) (xs : List Withdrawal) → first_unknown scores xs ≡ None → list_all (is_known scores) xs ≡ true
all_known scores [] e = refl
all_known scores (x ∷ xs) e = known_by (is_known scores x) (list_all (is_known scores) xs) x (find (λ y. not (is_known scores y)) xs) e (all_known scores xs)

pub any_map : {A B : Type 0} (f : B → Bool) (g : A → B) (xs : List A) → list_any f (map g xs) ≡ list_any (λ x. f (g x)) xs
any_map f g [] = refl
any_map f g (x ∷ xs) = ap (λ b. f (g x) || b) (any_map f g xs)
