-- What a run has gathered since the last item at which it began anew.
use Rattle.std.proofs.Common.{◌≡◌, Bool, true, false, cond, ◌||◌, List, [], ◌∷◌, map, length, refl, ap, ◌∙◌, arith}
use Rattle.std.specs.List.{list_any}
use Rattle.std.proofs.lemmas.Bool.{or_parts}
use Rattle.budget.specs.Runs.{gathered, since_last, total}

-- where no item begins anew, all came since
pub since_none : {A : Type 0} (f : A → Bool) (xs : List A) → list_any f xs ≡ false → since_last f xs ≡ xs
since_none f [] e = refl
since_none f (x ∷ xs) e =
    let p = or_parts (f x) (list_any f xs) e in
    ap (λ b. cond b (since_last f xs) (cond (f x) xs (x ∷ xs))) p.1 ∙ ap (λ b. cond b xs (x ∷ xs)) p.0

-- what is gathered from one side of the items
pub gathered_map : {A B S : Type 0} (op : S → S → S) (o : S) (g : A → B) (w : B → S) (xs : List A) → gathered op o (λ x. w (g x)) xs ≡ gathered op o w (map g xs)
gathered_map op o g w [] = refl
gathered_map op o g w (x ∷ xs) = ap (op (w (g x))) (gathered_map op o g w xs)

any_map : {A B : Type 0} (g : A → B) (f : B → Bool) (xs : List A) → list_any (λ x. f (g x)) xs ≡ list_any f (map g xs)
any_map g f [] = refl
any_map g f (x ∷ xs) = ap (λ b. f (g x) || b) (any_map g f xs)

pub gathered_any : {A : Type 0} (f : A → Bool) (xs : List A) → gathered ◌||◌ false f xs ≡ list_any f xs
gathered_any f [] = refl
gathered_any f (x ∷ xs) = ap (λ b. f x || b) (gathered_any f xs)

map_cond : {A B : Type 0} (g : A → B) (b : Bool) (xs ys : List A) → map g (cond b xs ys) ≡ cond b (map g xs) (map g ys)
map_cond g true xs ys = refl
map_cond g false xs ys = refl

pub since_map : {A B : Type 0} (g : A → B) (f : B → Bool) (xs : List A) → map g (since_last (λ x. f (g x)) xs) ≡ since_last f (map g xs)
since_map g f [] = refl
since_map g f (x ∷ xs) =
    map_cond g (list_any (λ y. f (g y)) xs) (since_last (λ y. f (g y)) xs) (cond (f (g x)) xs (x ∷ xs))
    ∙ ap (λ b. cond b (map g (since_last (λ y. f (g y)) xs)) (map g (cond (f (g x)) xs (x ∷ xs)))) (any_map g f xs)
    ∙ ap (λ ys. cond (list_any f (map g xs)) ys (map g (cond (f (g x)) xs (x ∷ xs)))) (since_map g f xs)
    ∙ ap (λ ys. cond (list_any f (map g xs)) (since_last f (map g xs)) ys) (map_cond g (f (g x)) xs (x ∷ xs))

pub none_pass : {A : Type 0} (xs : List A) → list_any (λ _. false) xs ≡ false
none_pass [] = refl
none_pass (x ∷ xs) = none_pass xs

pub total_ones : {A : Type 0} (xs : List A) → total (λ _. 1) xs ≡ length xs
total_ones [] = refl
total_ones (x ∷ xs) = let h = total_ones xs in omega arith

module _ {A S : Type 0} (op : S → S → S) (o : S) (assoc : (a b c : S) → op (op a b) c ≡ op a (op b c)) (w : A → S) where
  turned : (later here : Bool) (rest xs : List A) (x : A) (s t : S) → (later ≡ false → rest ≡ xs) → t ≡ cond here o (op s (w x)) →
      op (cond later o t) (gathered op o w rest) ≡ op (cond (here || later) o s) (gathered op o w (cond later rest (cond here xs (x ∷ xs))))
  turned true true rest xs x s t h e = refl
  turned true false rest xs x s t h e = refl
  turned false true rest xs x s t h e = ap (λ u. op u (gathered op o w rest)) e ∙ ap (λ ys. op o (gathered op o w ys)) (h refl)
  turned false false rest xs x s t h e =
      ap (λ u. op u (gathered op o w rest)) e ∙ assoc s (w x) (gathered op o w rest) ∙ ap (λ ys. op s (op (w x) (gathered op o w ys))) (h refl)

  -- one turn: the first item begins anew or adds, and the rest goes on
  pub gather_turn : (f : A → Bool) (x : A) (xs : List A) (s t : S) → t ≡ cond (f x) o (op s (w x)) →
      op (cond (list_any f xs) o t) (gathered op o w (since_last f xs)) ≡ op (cond (list_any f (x ∷ xs)) o s) (gathered op o w (since_last f (x ∷ xs)))
  gather_turn f x xs s t e = turned (list_any f xs) (f x) (since_last f xs) xs x s t (since_none f xs) e
