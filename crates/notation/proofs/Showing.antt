-- What is printed piece by piece, as one list.
use Rattle.std.proofs.Common.{◌≡◌, ℕ, false, eqb, List, [], ◌∷◌, ◌++◌, length, ap, ◌∙◌}
use Rattle.std.proofs.lemmas.List.{append_assoc}
use Rattle.std.proofs.lemmas.Bool.{false≢true}
use Rattle.notation.specs.Lines.{shown_name, shown_tag}

pub pushed_two : (x y z a b : List ℕ) → y ≡ x ++ a → z ≡ y ++ b → z ≡ x ++ (a ++ b)
pushed_two x y z a b p q = q ∙ ap (λ l. l ++ b) p ∙ append_assoc x a b

pub pushed_three : (x y z w a b c : List ℕ) → y ≡ x ++ a → z ≡ y ++ b → w ≡ z ++ c → w ≡ x ++ (a ++ (b ++ c))
pushed_three x y z w a b c p q r = pushed_two x y w a (b ++ c) p (pushed_two y z w b c q r)

pub pushed_name : (x y z : List ℕ) (mark : ℕ) (name : List ℕ) → false ≡ eqb (length name) 0 → y ≡ x ++ (32 ∷ mark ∷ []) → z ≡ y ++ name → z ≡ x ++ shown_name mark name
pushed_name x y z mark [] e p q = absurd (false≢true e)
pushed_name x y z mark (b ∷ name) e p q = pushed_two x y z (32 ∷ mark ∷ []) (b ∷ name) p q

pub pushed_tag : (x y z w tag : List ℕ) → false ≡ eqb (length tag) 0 → y ≡ x ++ (32 ∷ 60 ∷ []) → z ≡ y ++ tag → w ≡ z ++ (62 ∷ []) → w ≡ x ++ shown_tag tag
pushed_tag x y z w [] e p q r = absurd (false≢true e)
pushed_tag x y z w (b ∷ tag) e p q r = pushed_three x y z w (32 ∷ 60 ∷ []) (b ∷ tag) (62 ∷ []) p q r

pub pushed_four : (i₀ i₁ i₂ i₃ i₄ a b c d : List ℕ) → i₀ ≡ [] → i₁ ≡ i₀ ++ a → i₂ ≡ i₁ ++ b → i₃ ≡ i₂ ++ c → i₄ ≡ i₃ ++ d → i₄ ≡ a ++ (b ++ (c ++ d))
pushed_four i₀ i₁ i₂ i₃ i₄ a b c d e p q r s = pushed_two i₀ i₁ i₄ a (b ++ (c ++ d)) p (pushed_three i₁ i₂ i₃ i₄ b c d q r s) ∙ ap (λ l. l ++ (a ++ (b ++ (c ++ d)))) e
