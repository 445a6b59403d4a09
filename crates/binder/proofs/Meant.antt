-- What a binder means keeps the laws of a catalogue's list.
use Rattle.std.proofs.Common.{◌≡◌, ℕ, suc, ◌+◌, Bool, not, ◌&&◌, ◌||◌, ltb, List, [], ◌∷◌, length, sym, refl, ap, ◌∙◌, arith}
use Rattle.std.specs.Str.{bytes_eq}
use Rattle.catalogue.specs.Entries.{Entry, Lawful, known, numbered, distinct}
use Rattle.binder.specs.Binding.{flagged}

-- the laws do not look at what stands
length_flagged : (i : ℕ) (fs : List Bool) (es : List Entry) → length (flagged i fs es) ≡ length es
length_flagged i fs [] = refl
length_flagged i fs (e ∷ es) = ap suc (length_flagged (i + 1) fs es)

known_flagged : (i : ℕ) (fs : List Bool) (es : List Entry) (p : List ℕ) → known (flagged i fs es) p ≡ known es p
known_flagged i fs [] p = refl
known_flagged i fs (e ∷ es) p = ap (λ b. bytes_eq e.path p || b) (known_flagged (i + 1) fs es p)

numbered_flagged : (i : ℕ) (fs : List Bool) (es : List Entry) → numbered (flagged i fs es) ≡ numbered es
numbered_flagged i fs [] = refl
numbered_flagged i fs (e ∷ es) = ap (λ b. ltb 0 e.number && b) (numbered_flagged (i + 1) fs es)

distinct_flagged : (i : ℕ) (fs : List Bool) (es : List Entry) → distinct (flagged i fs es) ≡ distinct es
distinct_flagged i fs [] = refl
distinct_flagged i fs (e ∷ es) = λ j. not (known_flagged (i + 1) fs es e.path j) && distinct_flagged (i + 1) fs es j

pub lawful_flagged : (fs : List Bool) (es : List Entry) → Lawful es → Lawful (flagged 0 fs es)
lawful_flagged fs es l =
    record {
      at_most_256 = omega (arith, length_flagged 0 fs es, l.at_most_256);
      numbers_not_0 = numbered_flagged 0 fs es ∙ l.numbers_not_0;
      paths_distinct = distinct_flagged 0 fs es ∙ l.paths_distinct;
    }

pub lawful_reflagged : (fs gs : List Bool) (es : List Entry) → Lawful (flagged 0 fs es) → Lawful (flagged 0 gs es)
lawful_reflagged fs gs es l =
    lawful_flagged gs es
    (record {
      at_most_256 = omega (arith, length_flagged 0 fs es, l.at_most_256);
      numbers_not_0 = sym (numbered_flagged 0 fs es) ∙ l.numbers_not_0;
      paths_distinct = sym (distinct_flagged 0 fs es) ∙ l.paths_distinct;
    })
