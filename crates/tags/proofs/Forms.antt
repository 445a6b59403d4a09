-- The form of a tag, and its cause.
use Rattle.std.proofs.Common.{◌≡◌, ℕ, Bool, true, false, cond, eqb, List, [], ◌∷◌, length, Some, None, Decides, sym, refl, ap, ◌∙◌, subst, inl, inr}
use Rattle.std.proofs.lemmas.Bool.{cases_Bool, both_ways}
use Rattle.tags.specs.Hashes.{parts, hashed, split_at_hash, is_empty}
use Rattle.tags.specs.Words.{is_word, Among}
use Rattle.tags.specs.Includes.{TagForm, not_include, plain, with_fragment, invalid_fragment, is_include_form, form_from, form_of}
use Rattle.tags.specs.Causes.{WordThen, NamesInclude, SplitsInto, FormCause, FormLaw}
use Rattle.tags.proofs.Splits.{hashed_inside, split_none, split_into, split_cases, same_split, empty_false, nonempty_false, empty_is}
use Rattle.tags.proofs.Members.{Hashless, among_from_word, word_from_among}

module _ (ws : List (List ℕ)) (free : Hashless ws) (tag : List ℕ) where
  pub form_none : hashed tag ≡ false → form_of ws tag ≡ cond (is_word ws tag) plain not_include
  form_none h = ap (form_from ws tag) (split_none tag h)

  pub form_some : (w f : List ℕ) → SplitsInto tag w f → form_of ws tag ≡ cond (is_word ws w) (cond (is_empty f) invalid_fragment (with_fragment f)) not_include
  form_some w f s = ap (form_from ws tag) (split_into tag w f s)

  form_plain : Among ws tag → form_of ws tag ≡ plain
  form_plain m = form_none (free tag m) ∙ rw (word_from_among ws tag m)

  form_then : (f : List ℕ) → WordThen ws tag f → form_of ws tag ≡ cond (is_empty f) invalid_fragment (with_fragment f)
  form_then f t =
      form_some t.0 f (t.1.1, free t.0 t.1.0) ∙ rw (word_from_among ws t.0 t.1.0)

  not_named : hashed tag ≡ false → is_word ws tag ≡ false → NamesInclude ws tag → ⊥
  not_named h b (inl m) = both_ways (is_word ws tag) b (word_from_among ws tag m)
  not_named h b (inr t) = both_ways (hashed tag) h (ap hashed t.1.1.1 ∙ hashed_inside t.1.0 t.0)

  not_named_then : (w f : List ℕ) → SplitsInto tag w f → is_word ws w ≡ false → NamesInclude ws tag → ⊥
  not_named_then w f s b (inl m) = both_ways (hashed tag) (free tag m) (ap hashed s.0 ∙ hashed_inside w f)
  not_named_then w f s b (inr t) =
      let v = t.1.0 in
      let e : w ≡ v = same_split w f v t.0 s.1 (free v t.1.1.0) (sym s.0 ∙ t.1.1.1) in
      both_ways (is_word ws w) b (ap (is_word ws) e ∙ word_from_among ws v t.1.1.0)

  cause_none : hashed tag ≡ false → FormCause ws tag (form_of ws tag)
  cause_none h =
      elim (cases_Bool (is_word ws tag)) [
        | inl b ↦
            let e : form_of ws tag ≡ plain = form_none h ∙ rw b in
            subst (FormCause ws tag) (sym e) (among_from_word ws tag b)
        | inr b ↦
            let e : form_of ws tag ≡ not_include = form_none h ∙ rw b in
            subst (FormCause ws tag) (sym e) (not_named h b)
      ]

  cause_word : (w f : List ℕ) → SplitsInto tag w f → Among ws w → FormCause ws tag (cond (is_empty f) invalid_fragment (with_fragment f))
  cause_word w [] s m = (w, (m, s.0))
  cause_word w (x ∷ f) s m = ((w, (m, s.0)), empty_false (x ∷ f) refl)

  cause_some : (w f : List ℕ) → SplitsInto tag w f → FormCause ws tag (form_of ws tag)
  cause_some w f s =
      elim (cases_Bool (is_word ws w)) [
        | inl b ↦
            let e : form_of ws tag ≡ cond (is_empty f) invalid_fragment (with_fragment f) = form_some w f s ∙ rw b in
            subst (FormCause ws tag) (sym e) (cause_word w f s (among_from_word ws w b))
        | inr b ↦
            let e : form_of ws tag ≡ not_include = form_some w f s ∙ rw b in
            subst (FormCause ws tag) (sym e) (not_named_then w f s b)
      ]

  -- the form has its cause
  pub form_caused : FormCause ws tag (form_of ws tag)
  form_caused = elim (split_cases tag) [ inl h ↦ cause_none h | inr s ↦ cause_some s.0 s.1.0 s.1.1 ]

  not_include_only : (t : TagForm) → FormCause ws tag t → (NamesInclude ws tag → ⊥) → not_include ≡ t
  not_include_only not_include c n = refl
  not_include_only plain c n = absurd (n (inl c))
  not_include_only (with_fragment f) c n = absurd (n (inr (f, c.0)))
  not_include_only invalid_fragment c n = absurd (n (inr ([], c)))

  -- and is the only one whose cause holds
  pub form_only : (t : TagForm) → FormCause ws tag t → t ≡ form_of ws tag
  form_only not_include n = not_include_only (form_of ws tag) form_caused n
  form_only plain m = sym (form_plain m)
  form_only (with_fragment f) c = sym (form_then f c.0 ∙ rw (nonempty_false f c.1))
  form_only invalid_fragment c = sym (form_then [] c)

  include_forward : (t : TagForm) → FormCause ws tag t → is_include_form t ≡ true → NamesInclude ws tag
  include_forward not_include c h = absurd (both_ways false refl h)
  include_forward plain c h = inl c
  include_forward (with_fragment f) c h = inr (f, c.0)
  include_forward invalid_fragment c h = inr ([], c)

  include_back : (t : TagForm) → FormCause ws tag t → NamesInclude ws tag → is_include_form t ≡ true
  include_back not_include c n = absurd (c n)
  include_back plain c n = refl
  include_back (with_fragment f) c n = refl
  include_back invalid_fragment c n = refl

  -- an include tag is a word alone, or a word followed by `#` and any bytes
  pub include_decides : Decides (is_include_form (form_of ws tag)) (NamesInclude ws tag)
  include_decides = (include_forward (form_of ws tag) form_caused, include_back (form_of ws tag) form_caused)

  -- so the laws hold of what equals the form
  pub form_law : (t : TagForm) → t ≡ form_of ws tag → FormLaw ws tag t
  form_law t e = subst (FormLaw ws tag) (sym e) (record { include_exactly_if_named = include_decides; has_its_cause = form_caused; no_other_has = form_only })

  -- the form by what the parts of the reader found
  pub reads_none : (b : Bool) → None ≡ split_at_hash tag → b ≡ is_word ws tag → cond b plain not_include ≡ form_of ws tag
  reads_none b s e = ap (λ x. cond x plain not_include) e ∙ ap (form_from ws tag) s

  pub reads_some : (w f : List ℕ) (b e : Bool) → Some (parts w f) ≡ split_at_hash tag → b ≡ is_word ws w → e ≡ eqb (length f) 0 → cond b (cond e invalid_fragment (with_fragment f)) not_include ≡ form_of ws tag
  reads_some w f b e s h n =
      ap (λ x. cond x (cond e invalid_fragment (with_fragment f)) not_include) h
      ∙ ap (λ x. cond (is_word ws w) (cond x invalid_fragment (with_fragment f)) not_include) (n ∙ sym (empty_is f))
      ∙ ap (form_from ws tag) s
