-- One step of reading an escaped value, and that a value reads back as it was written.
use Rattle.std.proofs.Common.{◌≡◌, ℕ, true, false, cond, eqb, ◌⊎◌, List, [], ◌∷◌, ◌++◌, Some, None, Option, sym, refl, ap, ◌∙◌, subst, inl, inr, ⊎_elim}
use Rattle.std.proofs.lemmas.List.{append_assoc}
use Rattle.std.proofs.lemmas.Bool.{ne_eqb, eqb-true, cases_Bool, cond-false}
use Rattle.slices.specs.Fields.{lacks}
use Rattle.slices.proofs.Places.{lacks_append}
use Rattle.notation.specs.Escapes.{letter, meant, written, written_by, escaped, behind_bytes, behind_byte, unescaped_from, unescaped}

pub behind_push : (bs : List ℕ) (b : ℕ) (o : Option (List ℕ)) → behind_bytes (bs ++ b ∷ []) o ≡ behind_bytes bs (behind_byte (Some b) o)
behind_push bs b None = refl
behind_push bs b (Some cs) = ap Some (append_assoc bs (b ∷ []) cs)

-- a step of the reading, by what stands at the front
pub step_plain : (bs cs : List ℕ) (b : ℕ) → (b ≡ 92 → ⊥) → behind_bytes (bs ++ b ∷ []) (unescaped_from false cs) ≡ behind_bytes bs (unescaped_from false (b ∷ cs))
step_plain bs cs b e =
    behind_push bs b (unescaped_from false cs)
    ∙ ap (λ t. behind_bytes bs (cond t (unescaped_from true cs) (behind_byte (Some b) (unescaped_from false cs)))) (sym (ne_eqb b 92 e))

pub step_escape : (bs cs : List ℕ) (c b : ℕ) → Some b ≡ meant c → behind_bytes (bs ++ b ∷ []) (unescaped_from false cs) ≡ behind_bytes bs (unescaped_from false (92 ∷ c ∷ cs))
step_escape bs cs c b e = behind_push bs b (unescaped_from false cs) ∙ ap (λ o. behind_bytes bs (behind_byte o (unescaped_from false cs))) e

-- a byte has a letter that means it, or none and then it is no backslash and no line feed
abbrev LetterCase : ℕ → Type 0
LetterCase b =
    ((c : ℕ) × (letter b ≡ Some c) × (meant c ≡ Some b) × (lacks 10 (92 ∷ c ∷ []) ≡ true))
    ⊎ ((letter b ≡ None) × (eqb b 92 ≡ false) × (lacks 10 (b ∷ []) ≡ true))

letter_other : (b : ℕ) → eqb b 92 ≡ false → eqb b 9 ≡ false → eqb b 13 ≡ false → eqb b 10 ≡ false → eqb b 8 ≡ false → LetterCase b
letter_other b e₁ e₂ e₃ e₄ e₅ =
    inr (rw (e₁, e₂, e₃, e₄, e₅), e₁, rw e₄)

letter_case : (b : ℕ) → LetterCase b
letter_case b =
    ⊎_elim (λ e. subst LetterCase (sym (eqb-true b 92 e)) (inl (92, refl, refl, refl))) (λ e₁.
    ⊎_elim (λ e. subst LetterCase (sym (eqb-true b 9 e)) (inl (116, refl, refl, refl))) (λ e₂.
    ⊎_elim (λ e. subst LetterCase (sym (eqb-true b 13 e)) (inl (114, refl, refl, refl))) (λ e₃.
    ⊎_elim (λ e. subst LetterCase (sym (eqb-true b 10 e)) (inl (110, refl, refl, refl))) (λ e₄.
    ⊎_elim (λ e. subst LetterCase (sym (eqb-true b 8 e)) (inl (98, refl, refl, refl))) (λ e₅.
    letter_other b e₁ e₂ e₃ e₄ e₅)
    (cases_Bool (eqb b 8))) (cases_Bool (eqb b 10))) (cases_Bool (eqb b 13))) (cases_Bool (eqb b 9))) (cases_Bool (eqb b 92))

-- a byte, written and then read, comes before what is read behind it
pub written_reads : (b : ℕ) (cs : List ℕ) → unescaped_from false (written b ++ cs) ≡ behind_bytes (b ∷ []) (unescaped_from false cs)
written_reads b cs =
    ⊎_elim
    (λ l. ap (λ o. unescaped_from false (written_by o b ++ cs)) l.1 ∙ ap (λ o. behind_byte o (unescaped_from false cs)) l.2)
    (λ l. ap (λ o. unescaped_from false (written_by o b ++ cs)) l.0 ∙ cond-false (eqb b 92) (unescaped_from true cs) (behind_byte (Some b) (unescaped_from false cs)) l.1)
    (letter_case b)

-- a value, written and then read, is that value
pub escaped_reads : (v : List ℕ) → unescaped (escaped v) ≡ Some v
escaped_reads [] = refl
escaped_reads (b ∷ v) = written_reads b (escaped v) ∙ ap (behind_bytes (b ∷ [])) (escaped_reads v)

-- no line feed stands in a value as it is written
written_lacks : (b : ℕ) → lacks 10 (written b) ≡ true
written_lacks b =
    ⊎_elim (λ l. ap (λ o. lacks 10 (written_by o b)) l.1 ∙ l.3) (λ l. ap (λ o. lacks 10 (written_by o b)) l.0 ∙ l.2) (letter_case b)

pub escaped_lacks : (v : List ℕ) → lacks 10 (escaped v) ≡ true
escaped_lacks [] = refl
escaped_lacks (b ∷ v) = lacks_append 10 (written b) (escaped v) (written_lacks b) (escaped_lacks v)
