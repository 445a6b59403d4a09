-- One of the words, as a test and as a fact; words have no `#`.
use Rattle.std.proofs.Common.{◌≡◌, ℕ, true, false, List, [], ◌∷◌, Decides, refl, ap, inl, inr}
use Rattle.std.specs.Str.{bytes_eq}
use Rattle.std.proofs.lemmas.Slice.Eq.{bytes_eq-Decides}
use Rattle.std.proofs.lemmas.Bool.{cases_Bool, both_ways}
use Rattle.tags.specs.Hashes.{hashed}
use Rattle.tags.specs.Words.{include_words, is_word, Among}

pub among_from_word : (ws : List (List ℕ)) (t : List ℕ) → is_word ws t ≡ true → Among ws t
among_from_word [] t h = absurd (both_ways false refl h)
among_from_word (w ∷ ws) t h =
    elim (cases_Bool (bytes_eq t w)) [
      | inl e ↦ inl ((bytes_eq-Decides t w).0 e)
      | inr e ↦ inr (among_from_word ws t (rw e at h))
    ]

pub word_from_among : (ws : List (List ℕ)) (t : List ℕ) → Among ws t → is_word ws t ≡ true
word_from_among [] t m = absurd m
word_from_among (w ∷ ws) t (inl e) = rw ((bytes_eq-Decides t w).1 e)
word_from_among (w ∷ ws) t (inr m) =
    elim (cases_Bool (bytes_eq t w)) [
      | inl e ↦ rw e
      | inr e ↦ rw e (word_from_among ws t m)
    ]

pub word_decides : (ws : List (List ℕ)) (t : List ℕ) → Decides (is_word ws t) (Among ws t)
word_decides ws t = (among_from_word ws t, word_from_among ws t)

-- no word has a `#`
abbrev pub Hashless : List (List ℕ) → Type 0
Hashless ws = (w : List ℕ) → Among ws w → hashed w ≡ false

pub include_words_hashless : Hashless include_words
include_words_hashless w (inl e) = ap hashed e
include_words_hashless w (inr (inl e)) = ap hashed e
include_words_hashless w (inr (inr (inl e))) = ap hashed e
include_words_hashless w (inr (inr (inr m))) = absurd m
