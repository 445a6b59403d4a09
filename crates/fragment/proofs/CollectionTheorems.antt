-- What collection accepts and refuses.
use Rattle.std.proofs.Common.{◌≡◌, ℕ, ◌+◌, ◌<◌, ◌≤◌, Bool, true, false, ltb, ◌⊎◌, List, length, Some, None, Ok, Err, Option, Result, sym, refl, ap, ◌∙◌, subst, inl, inr, arith}
use Rattle.std.proofs.lemmas.Bool.{ltb-true, ltb-false, lt-ltb, le-ltb, both_ways, cases_order}
use Rattle.events.specs.declared.score.Mark.{Mark}
use Rattle.events.specs.declared.score.Piece.{Piece}
use Rattle.events.specs.Scores.{Lists, marks_of, events_of}
use Rattle.events.specs.Tables.{last_named, IsLast, NoneNamed, FindsLast}
use Rattle.std.specs.Option.{option_or}
use Rattle.events.proofs.LastMarks.{finds_last}
use Rattle.budget.specs.declared.limits.Budget.{Budget}
use Rattle.budget.specs.declared.breach.BudgetBreach.TheVariants.{Anchors}
use Rattle.fragment.specs.declared.answers.FragmentError.{FragmentError}
use Rattle.fragment.specs.declared.answers.FragmentError.TheVariants.{CollectionBreach}
use Rattle.fragment.specs.Collection.{nothing, cause_if, first_cause, target_unless, collected}
use Rattle.fragment.specs.CollectionLaws.{WithinTheBudget, GoesThrough, AcceptedExactlyIf, Refused, marks, event, target, RefusedExactlyIf}
use Rattle.fragment.proofs.CollectionAccepting.{no_cause_fits, fits_no_cause}
use Rattle.fragment.proofs.CollectionRefusing.{tells_the_first, the_first_is_told}

-- a name has at most one last mark
pub one_last : (bytes name : List ℕ) (ms : List Mark) (j k : ℕ) → IsLast bytes name ms j → IsLast bytes name ms k → j ≡ k
one_last bytes name ms j k f g = at (cases_order j k)
  where
    at : (j ≡ k) ⊎ ((j < k) ⊎ (k < j)) → j ≡ k
    at (inl q) = q
    at (inr (inl h)) = absurd (both_ways _ (f.none_later k h g.most) g.named)
    at (inr (inr h)) = absurd (both_ways _ (g.none_later j h f.most) f.named)

last_is : (bytes name : List ℕ) (ms : List Mark) (n : ℕ) (o : Option ℕ) → FindsLast bytes name ms o → IsLast bytes name ms n → o ≡ Some n
last_is bytes name ms n None f g = absurd (both_ways _ (f n g.least g.most) g.named)
last_is bytes name ms n (Some k) f g = ap Some (one_last bytes name ms k n f g)

none_is : (bytes name : List ℕ) (ms : List Mark) (o : Option ℕ) → FindsLast bytes name ms o → NoneNamed bytes name ms → o ≡ None
none_is bytes name ms None f g = refl
none_is bytes name ms (Some k) f g = absurd (both_ways _ (g k f.least f.most) f.named)

module _ (b : Budget) (l : Lists) (p : Piece) (name : List ℕ) where
  abbrev too_many : FragmentError
  too_many = CollectionBreach (Anchors (b.max_anchors + 1))

  abbrev answer : Bool → Option FragmentError → Option ℕ → Result ℕ FragmentError
  answer t o m = target_unless (option_or (cause_if t too_many) o) m

  within : length (marks_of l p) ≤ b.max_anchors → first_cause b nothing (events_of l p) ≡ None → WithinTheBudget b (marks_of l p) (events_of l p)
  within few q =
      let f = no_cause_fits b nothing (events_of l p) (record { documents = omega arith; depth = omega arith; bytes = omega arith; events = omega arith }) q in
      record { marks = few; documents = omega (arith, f.documents); depth = f.depth; bytes = omega (arith, f.bytes); events = omega (arith, f.events) }

  no_cause : WithinTheBudget b (marks_of l p) (events_of l p) → first_cause b nothing (events_of l p) ≡ None
  no_cause w =
      fits_no_cause b nothing (events_of l p) (record { documents = omega (arith, w.documents); depth = w.depth; bytes = omega (arith, w.bytes); events = omega (arith, w.events) })

  abbrev Ended : Result ℕ FragmentError → Type 0
  Ended (Ok n) = GoesThrough b l p name n
  Ended (Err x) = Refused b l p name x

  ways : (t : Bool) → ltb b.max_anchors (length (marks_of l p)) ≡ t → (o : Option FragmentError) → first_cause b nothing (events_of l p) ≡ o → (m : Option ℕ) → FindsLast l.bytes name (marks_of l p) m → Ended (answer t o m)
  ways true q o r m f = marks (ltb-true b.max_anchors (length (marks_of l p)) q)
  ways false q (Some x) r m f = event (ltb-false b.max_anchors (length (marks_of l p)) q) (tells_the_first b (events_of l p) x r)
  ways false q None r None f = target (within (ltb-false b.max_anchors (length (marks_of l p)) q) r) f
  ways false q None r (Some n) f = record { within = within (ltb-false b.max_anchors (length (marks_of l p)) q) r; target = f }

  ended : Ended (collected b l p name)
  ended = ways _ refl _ refl _ (finds_last l.bytes name (marks_of l p))

  answers : {t : Bool} {o : Option FragmentError} {m : Option ℕ} → ltb b.max_anchors (length (marks_of l p)) ≡ t → first_cause b nothing (events_of l p) ≡ o → last_named l.bytes name (marks_of l p) ≡ m → collected b l p name ≡ answer t o m
  answers q r s = cc

  found : (n : ℕ) → IsLast l.bytes name (marks_of l p) n → last_named l.bytes name (marks_of l p) ≡ Some n
  found n f = last_is l.bytes name (marks_of l p) n _ (finds_last l.bytes name (marks_of l p)) f

  few : length (marks_of l p) ≤ b.max_anchors → ltb b.max_anchors (length (marks_of l p)) ≡ false
  few h = le-ltb b.max_anchors (length (marks_of l p)) h

  goes_through : (n : ℕ) → GoesThrough b l p name n → collected b l p name ≡ Ok n
  goes_through n g = answers (few g.within.marks) (no_cause g.within) (found n g.target)

  is_refused : (x : FragmentError) → Refused b l p name x → collected b l p name ≡ Err x
  is_refused _ (marks h) = answers (lt-ltb b.max_anchors (length (marks_of l p)) h) refl refl
  is_refused x (event h c) = answers (few h) (the_first_is_told b (events_of l p) x c) refl
  is_refused _ (target w n) = answers (few w.marks) (no_cause w) (none_is l.bytes name (marks_of l p) _ (finds_last l.bytes name (marks_of l p)) n)

  pub accepted_exactly_if : (r : Result ℕ FragmentError) → r ≡ collected b l p name → AcceptedExactlyIf b l p name r
  accepted_exactly_if r e n = (λ q. subst Ended (sym e ∙ q) ended, λ g. e ∙ goes_through n g)

  pub refused_exactly_if : (r : Result ℕ FragmentError) → r ≡ collected b l p name → RefusedExactlyIf b l p name r
  refused_exactly_if r e x = (λ q. subst Ended (sym e ∙ q) ended, λ g. e ∙ is_refused x g)
