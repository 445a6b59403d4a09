-- The answer for a tag and a value, and its cause.
use Rattle.std.proofs.Common.{◌≡◌, ℕ, false, cond, List, [], ◌∷◌, Some, None, Ok, Err, sym, refl, ap, ◌∙◌, subst, inl, inr}
use Rattle.std.proofs.lemmas.Bool.{cases_Bool}
use Rattle.tags.specs.declared.answers.TagError.TheVariants.{EmptyFragment, HashInValue, IncompleteSpec}
use Rattle.tags.specs.Hashes.{parts, hashed, split_at_hash}
use Rattle.tags.specs.Words.{Among}
use Rattle.tags.specs.Includes.{TagForm, not_include, plain, with_fragment, invalid_fragment, form_of, Answer, complete, from_value, spec_from, spec_of}
use Rattle.tags.specs.Causes.{WordThen, SplitsInto, NonEmpty, ComeFrom, PartWanting, FormCause, Cause, AnswerLaw}
use Rattle.tags.proofs.Splits.{split_none, split_into, split_cases, empty_false, nonempty_false}
use Rattle.tags.proofs.Members.{Hashless}
use Rattle.tags.proofs.Forms.{form_caused, form_only}

pub both_parts : (p a : List ℕ) → NonEmpty p → NonEmpty a → complete p a ≡ Ok (Some (parts p a))
both_parts p a np na = rw (nonempty_false p np, nonempty_false a na)

no_anchor : (p : List ℕ) → complete p [] ≡ Err IncompleteSpec
no_anchor [] = refl
no_anchor (x ∷ p) = refl

module _ (ws : List (List ℕ)) (free : Hashless ws) (tag value : List ℕ) where
  plain_parts : Among ws tag → (p a : List ℕ) → SplitsInto value p a → Cause ws tag value (complete p a)
  plain_parts m [] a s = inl (m, inr ([], (a, (s, inl refl))))
  plain_parts m (x ∷ p) [] s = inl (m, inr (x ∷ p, ([], (s, inr refl))))
  plain_parts m (x ∷ p) (y ∷ a) s = (inl (m, s), empty_false (x ∷ p) refl, empty_false (y ∷ a) refl)

  plain_caused : Among ws tag → Cause ws tag value (from_value (split_at_hash value))
  plain_caused m =
      elim (split_cases value) [
        | inl h ↦ subst (Cause ws tag value) (sym (ap from_value (split_none value h))) (inl (m, inl h))
        | inr s ↦ subst (Cause ws tag value) (sym (ap from_value (split_into value s.0 s.1.0 s.1.1))) (plain_parts m s.0 s.1.0 s.1.1)
      ]

  whole_value : (v f : List ℕ) → value ≡ v → WordThen ws tag f → NonEmpty f → hashed value ≡ false → Cause ws tag value (complete v f)
  whole_value [] f e t n h = inr (f, (t, n, e))
  whole_value (x ∷ v) [] e t n h = absurd (n refl)
  whole_value (x ∷ v) (y ∷ f) e t n h = (inr (t, sym e, h), empty_false (x ∷ v) refl, n)

  fragment_caused : (f : List ℕ) → WordThen ws tag f → NonEmpty f → Cause ws tag value (cond (hashed value) (Err HashInValue) (complete value f))
  fragment_caused f t n =
      elim (cases_Bool (hashed value)) [
        | inl h ↦ subst (λ b. Cause ws tag value (cond b (Err HashInValue) (complete value f))) (sym h) (f, (t, n, h))
        | inr h ↦ subst (λ b. Cause ws tag value (cond b (Err HashInValue) (complete value f))) (sym h) (whole_value value f refl t n h)
      ]

  caused_from : (t : TagForm) → FormCause ws tag t → Cause ws tag value (spec_from t value)
  caused_from not_include c = c
  caused_from plain c = plain_caused c
  caused_from (with_fragment f) c = fragment_caused f c.0 c.1
  caused_from invalid_fragment c = c

  -- the answer has its cause
  pub answer_caused : Cause ws tag value (spec_of ws tag value)
  answer_caused = caused_from (form_of ws tag) (form_caused ws free tag)

  by_form : (t : TagForm) → FormCause ws tag t → spec_from t value ≡ spec_of ws tag value
  by_form t c = ap (λ u. spec_from u value) (form_only ws free tag t c)

  fragment_complete : (f : List ℕ) → WordThen ws tag f → NonEmpty f → hashed value ≡ false → complete value f ≡ spec_of ws tag value
  fragment_complete f t n h = sym (rw h) ∙ by_form (with_fragment f) (t, n)

  plain_complete : Among ws tag → (p a : List ℕ) → SplitsInto value p a → complete p a ≡ spec_of ws tag value
  plain_complete m p a s = sym (ap from_value (split_into value p a s)) ∙ by_form plain m

  spec_only : (p a : List ℕ) → ComeFrom ws tag value p a → NonEmpty p → NonEmpty a → Ok (Some (parts p a)) ≡ spec_of ws tag value
  spec_only p a (inl s) np na = sym (both_parts p a np na) ∙ plain_complete s.0 p a s.1
  spec_only p a (inr s) np na =
      sym (both_parts p a np na) ∙ ap (λ q. complete q a) s.1 ∙ fragment_complete a s.0 na s.2

  wanting_only : Among ws tag → PartWanting value → Err IncompleteSpec ≡ spec_of ws tag value
  wanting_only m (inl h) = sym (ap from_value (split_none value h)) ∙ by_form plain m
  wanting_only m (inr (p, (a, (s, inl e)))) = sym (ap (λ q. complete q a) e) ∙ plain_complete m p a s
  wanting_only m (inr (p, (a, (s, inr e)))) = sym (ap (complete p) e ∙ no_anchor p) ∙ plain_complete m p a s

  -- and is the only one whose cause holds
  pub answer_only : (s : Answer) → Cause ws tag value s → s ≡ spec_of ws tag value
  answer_only (Ok None) c = by_form not_include c
  answer_only (Ok (Some (parts p a))) c = spec_only p a c.0 c.1 c.2
  answer_only (Err EmptyFragment) c = by_form invalid_fragment c
  answer_only (Err HashInValue) (f, c) = sym (rw c.2) ∙ by_form (with_fragment f) (c.0, c.1)
  answer_only (Err IncompleteSpec) (inl c) = wanting_only c.0 c.1
  answer_only (Err IncompleteSpec) (inr (f, c)) =
      sym (ap (λ v. complete v f) c.2) ∙ fragment_complete f c.0 c.1 (ap hashed c.2)

  -- so the laws hold of what equals the answer
  pub answer_law : (r : Answer) → r ≡ spec_of ws tag value → AnswerLaw ws tag value r
  answer_law r e = subst (AnswerLaw ws tag value) (sym e) (record { has_its_cause = answer_caused; no_other_has = answer_only })
