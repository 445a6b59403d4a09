-- A list judged item by item, as a walk and as a test.
use Rattle.std.proofs.Common.{◌≡◌, ℕ, ◌+◌, ◌<◌, ◌≤◌, Bool, List, [], ◌∷◌, length, get_or, drop, Some, None, Option, is_some, true, eqb, refl, ap, ◌∙◌}
use Rattle.std.specs.Option.{option_eq}
use Rattle.std.proofs.lemmas.List.{drop_more, drop_all}
use Rattle.events.specs.Walks.{Walks, ends, breaks, goes, onward, keeps}

module _ {S A : Type 0} (Step : S → A → Option S → Type 0) (xs : List A) (s : S) (i : ℕ) (d : A) where
  pub walks_break : i < length xs → Step s (get_or xs i d) None → Walks Step s (drop i xs) None
  walks_break h e = rw (drop_more xs i d h) (breaks e)

  pub walks_go : (t : S) (r : Option S) → i < length xs → Step s (get_or xs i d) (Some t) → Walks Step t (drop (i + 1) xs) r → Walks Step s (drop i xs) r
  walks_go t r h e w = rw (drop_more xs i d h) (goes e w)

  pub walks_end : length xs ≤ i → Walks Step s (drop i xs) (Some s)
  walks_end h = rw (drop_all i xs h) ends

pub walks_keep : {S A : Type 0} (step : S → A → Option S) (done : S → Bool) (Step : S → A → Option S → Type 0) → ((s : S) (x : A) (o : Option S) → Step s x o → o ≡ step s x) → (s : S) (xs : List A) (r : Option S) → Walks Step s xs r → onward r done ≡ keeps step done s xs
walks_keep step done Step f s [] r ends = refl
walks_keep step done Step f s (x ∷ xs) r (breaks e) = ap (λ o. onward o (λ t. keeps step done t xs)) (f s x None e)
walks_keep step done Step f s (x ∷ xs) r (goes {t = t} e w) = walks_keep step done Step f t xs r w ∙ ap (λ o. onward o (λ u. keeps step done u xs)) (f s x (Some t) e)

pub onward_some : {A : Type 0} (o : Option A) → is_some o ≡ onward o (λ _. true)
onward_some None = refl
onward_some (Some x) = refl

pub onward_eq : (n : ℕ) (o : Option ℕ) → option_eq eqb o (Some n) ≡ onward o (λ k. eqb k n)
onward_eq n None = refl
onward_eq n (Some x) = refl
