-- Rules that are judged item by item, from the front of a list.
use Rattle.std.specs.Prelude.{Bool, false, List, [], ◌∷◌, Some, None, Option}

-- a test of what there is; where there is nothing it fails
abbrev pub onward : {A : Type 0} → Option A → (A → Bool) → Bool
onward None f = false
onward (Some x) f = f x

-- each item moves a state on, where it may stand there; and the state at the end passes a test
abbrev pub keeps : {S A : Type 0} → (S → A → Option S) → (S → Bool) → S → List A → Bool
keeps step done s [] = done s
keeps step done s (x ∷ xs) = onward (step s x) (λ t. keeps step done t xs)

-- the walks over a list that steps allow: to the state at the end, or none where a step breaks off
pub data Walks {S A : Type 0} (Step : S → A → Option S → Type 0) : S → List A → Option S → Type 0 where
  ends : {s : S} → Walks Step s [] (Some s)
  breaks : {s : S} {x : A} {xs : List A} → Step s x None → Walks Step s (x ∷ xs) None
  goes : {s t : S} {x : A} {xs : List A} {r : Option S} → Step s x (Some t) → Walks Step t xs r → Walks Step s (x ∷ xs) r
