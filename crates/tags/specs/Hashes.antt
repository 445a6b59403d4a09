-- The byte `#`, and a list of bytes split at its first one.
use Rattle.std.specs.Prelude.{ℕ, Bool, true, false, cond, List, [], ◌∷◌, Some, None, Option, ◌==◌}
use Rattle.std.specs.List.{list_any}
use Rattle.std.specs.Borrow.{Bor}

-- two parts of a text
pub data Parts : Type 0 where
  parts : List ℕ → List ℕ → Parts

-- whether a `#`, the byte 35, stands in a list
abbrev pub hashed : List ℕ → Bool
hashed xs = list_any (λ x. x == 35) xs

-- one byte more at the front of the first part
abbrev pub behind_byte : ℕ → Option Parts → Option Parts
behind_byte x None = None
behind_byte x (Some (parts p a)) = Some (parts (x ∷ p) a)

-- what stands before and after the first `#`, if there is one
abbrev pub split_at_hash : List ℕ → Option Parts
split_at_hash [] = None
split_at_hash (x ∷ xs) = cond (x == 35) (Some (parts [] xs)) (behind_byte x (split_at_hash xs))

-- two slices that may be there, as lists
abbrev pub told_parts : Option (Bor (List ℕ) × Bor (List ℕ)) → Option Parts
told_parts None = None
told_parts (Some s) = Some (parts s.0.now s.1.now)

-- whether a list has no bytes
abbrev pub is_empty : List ℕ → Bool
is_empty [] = true
is_empty (x ∷ xs) = false
