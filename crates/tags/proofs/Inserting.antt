-- Inserts: scalars with an include tag.
use Rattle.std.proofs.Common.{◌≡◌, ℕ, true, false, cond, List, None, Ok, Decides, sym, refl, ap, ◌∙◌, subst, inl, inr}
use Rattle.std.proofs.lemmas.Bool.{cases_Bool, both_ways, and_parts, and_cases}
use Rattle.std.proofs.lemmas.Bool.Decides.{Decides-and, not_from_Decides}
use Rattle.events.specs.declared.kinds.EventKind.{EventKind}
use Rattle.events.specs.declared.kinds.EventKind.TheVariants.{StreamStart, StreamEnd, DocumentStart, DocumentEnd, Alias, Scalar, SequenceStart, SequenceEnd, MappingStart, MappingEnd}
use Rattle.tags.specs.Includes.{form_of, is_include_form, spec_of, is_scalar, is_insert, insert_of}
use Rattle.tags.specs.Causes.{NamesInclude, Cause}
use Rattle.tags.proofs.Members.{Hashless}
use Rattle.tags.proofs.Forms.{include_decides}
use Rattle.tags.proofs.Causing.{answer_caused, answer_only}

scalar_from_test : (k : EventKind) → is_scalar k ≡ true → k ≡ Scalar
scalar_from_test StreamStart h = absurd (both_ways false refl h)
scalar_from_test StreamEnd h = absurd (both_ways false refl h)
scalar_from_test DocumentStart h = absurd (both_ways false refl h)
scalar_from_test DocumentEnd h = absurd (both_ways false refl h)
scalar_from_test Alias h = absurd (both_ways false refl h)
scalar_from_test Scalar h = refl
scalar_from_test SequenceStart h = absurd (both_ways false refl h)
scalar_from_test SequenceEnd h = absurd (both_ways false refl h)
scalar_from_test MappingStart h = absurd (both_ways false refl h)
scalar_from_test MappingEnd h = absurd (both_ways false refl h)

pub scalar_decides : (k : EventKind) → Decides (is_scalar k) (k ≡ Scalar)
scalar_decides k = (scalar_from_test k, λ e. ap is_scalar e)

pub not_scalar : (k : EventKind) → (k ≡ Scalar → ⊥) → is_scalar k ≡ false
not_scalar k n = elim (cases_Bool (is_scalar k)) [ inl s ↦ absurd (n (scalar_from_test k s)) | inr s ↦ s ]

module _ (ws : List (List ℕ)) (free : Hashless ws) (kind : EventKind) (tag : List ℕ) where
  -- an insert is a scalar with an include tag
  pub insert_decides : Decides (is_insert ws kind tag) ((kind ≡ Scalar) × NamesInclude ws tag)
  insert_decides = Decides-and (is_scalar kind) (is_include_form (form_of ws tag)) (scalar_decides kind) (include_decides ws free tag)

  spec_none : (value : List ℕ) → is_include_form (form_of ws tag) ≡ false → spec_of ws tag value ≡ Ok None
  spec_none value h = sym (answer_only ws free tag value (Ok None) (not_from_Decides _ (include_decides ws free tag) h))

  either_none : (value : List ℕ) → spec_of ws tag value ≡ Ok None → insert_of ws kind tag value ≡ Ok None
  either_none value e =
      elim (cases_Bool (is_scalar kind)) [ inl s ↦ ap (λ b. cond b (spec_of ws tag value) (Ok None)) s ∙ e | inr s ↦ ap (λ b. cond b (spec_of ws tag value) (Ok None)) s ]

  answered : (value : List ℕ) → is_insert ws kind tag ≡ true → insert_of ws kind tag value ≡ Ok None → ⊥
  answered value h e =
      let q = and_parts (is_scalar kind) (is_include_form (form_of ws tag)) h in
      let f : spec_of ws tag value ≡ Ok None = sym (ap (λ b. cond b (spec_of ws tag value) (Ok None)) q.0) ∙ e in
      subst (Cause ws tag value) f (answer_caused ws free tag value) ((include_decides ws free tag).0 q.1)

  unanswered : (value : List ℕ) → is_insert ws kind tag ≡ false → insert_of ws kind tag value ≡ Ok None
  unanswered value h =
      elim (and_cases (is_scalar kind) (is_include_form (form_of ws tag)) h) [
        | inl s ↦ ap (λ b. cond b (spec_of ws tag value) (Ok None)) s
        | inr s ↦ either_none value (spec_none value s)
      ]

  -- an insert, and nothing else, has an answer other than `None`
  pub answered_decides : (value : List ℕ) → Decides (is_insert ws kind tag) (insert_of ws kind tag value ≡ Ok None → ⊥)
  answered_decides value =
      (answered value, λ n. elim (cases_Bool (is_insert ws kind tag)) [ inl h ↦ h | inr h ↦ absurd (n (unanswered value h)) ])
