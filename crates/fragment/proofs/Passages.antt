-- The steps of the call for a passage, and what its answer means.
use Rattle.std.proofs.Common.{◌≡◌, ℕ, ◌+◌, ◌<◌, ◌≤◌, Bool, true, false, cond, not, ltb, List, [], ◌∷◌, ◌++◌, length, drop, is_some, Some, None, Ok, Err, Option, Result, sym, refl, ap, ◌∙◌, subst, arith}
use Rattle.std.proofs.lemmas.Bool.{le-ltb, lt-ltb}
use Rattle.events.specs.declared.kinds.Rule.{Rule}
use Rattle.events.specs.declared.score.Event.{Event}
use Rattle.events.specs.declared.score.Piece.{Piece}
use Rattle.events.specs.Checked.{PieceOfStock, unless_broken, verdict}
use Rattle.events.specs.Rules.{first_broken, sound}
use Rattle.events.specs.Scores.{Lists, events_of, marks_of}
use Rattle.events.specs.Tables.{IsLast, last_named}
use Rattle.std.specs.Option.{option_or}
use Rattle.events.proofs.SoundNodes.{kept, sound_pieces_have_nodes}
use Rattle.events.proofs.Sizes.{sized, part_length}
use Rattle.budget.specs.declared.breach.BudgetBreach.{BudgetBreach}
use Rattle.budget.specs.declared.breach.BudgetBreach.TheVariants.{Anchors, Depth, Events, ScalarBytes}
use Rattle.budget.specs.declared.limits.Budget.{Budget}
use Rattle.budget.specs.Limits.{allowed}
use Rattle.fragment.specs.declared.answers.FragmentError.{FragmentError}
use Rattle.fragment.specs.declared.answers.FragmentError.TheVariants.{OpenRange, ShortSlate, Unsound, CollectionBreach, SecondDocument}
use Rattle.fragment.specs.declared.collection.Collected.{Collected}
use Rattle.fragment.specs.Collection.{cause_at, cause_if, collected, first_cause, nothing, second_document, target_unless, too_deep, too_many_bytes, too_many_events, too_many_marks, with_event}
use Rattle.fragment.specs.PassageLaws.{IsTarget, Knotted, Means}
use Rattle.fragment.specs.Passages.{Wanted, Lent, Outcome, score_for, refusing, with_wiped, unfolding_leaves, from_target, from_soundness, passage_for}
use Rattle.fragment.specs.Slate.{blank, wiped}
use Rattle.fragment.specs.Unfolding.{unfolded}
use Rattle.fragment.proofs.CollectionTheorems.{accepted_exactly_if, one_last}
use Rattle.fragment.proofs.Lawful.{accepted_is_the_unfolding, an_open_range_shows_a_knot, a_knot_is_never_accepted, a_refusal_leaves_the_tape}

-- the number of a mark of a sound piece is at most the count of marks
pub target_within : (l : Lists) (p : Piece) → sound l p ≡ true → (name : List ℕ) (n : ℕ) → IsLast l.bytes name (marks_of l p) n → (1 ≤ n) × (n ≤ p.marks.len)
target_within l p s name n t =
    let z = sized l p (kept l p s).sizes in
    (t.least, omega (arith, t.most, part_length p.marks l.marks z.marks_inside))

-- collection tells of no open range

abbrev NotOpen : FragmentError → Type 0
NotOpen e = (m : ℕ) → e ≡ OpenRange m → ⊥

abbrev NoneOpen : Option FragmentError → Type 0
NoneOpen o = (e : FragmentError) → o ≡ Some e → NotOpen e

either_none : (a b : Option FragmentError) → NoneOpen a → NoneOpen b → NoneOpen (option_or a b)
either_none None b f g e h = g e h
either_none (Some x) b f g e h = f e h

told_none : (t : Bool) (x : FragmentError) → NotOpen x → NoneOpen (cause_if t x)
told_none true x n e h m q = n m (cc)
told_none false x n e h m q = let z : ◌≡◌ {A = ℕ} 0 1 = cc in omega arith

breach_not_open : (b : BudgetBreach) → NotOpen (CollectionBreach b)
breach_not_open b m q = let z : ◌≡◌ {A = ℕ} 0 1 = cc in omega arith

second_not_open : (p : ℕ) → NotOpen (SecondDocument p)
second_not_open p m q = let z : ◌≡◌ {A = ℕ} 0 1 = cc in omega arith

at_none : (b : Budget) (p : ℕ) (e : Event) (c : Collected) → NoneOpen (cause_at b p e c)
at_none b p e c =
    either_none (second_document p e c) (option_or (too_deep b e c) (option_or (too_many_bytes b c) (too_many_events b c))) (told_none _ (SecondDocument p) (second_not_open p))
    (either_none (too_deep b e c) (option_or (too_many_bytes b c) (too_many_events b c)) (told_none _ (CollectionBreach (Depth c.depth)) (breach_not_open (Depth c.depth)))
    (either_none (too_many_bytes b c) (too_many_events b c) (told_none _ (CollectionBreach (ScalarBytes c.bytes)) (breach_not_open (ScalarBytes c.bytes))) (told_none _ (CollectionBreach (Events c.events)) (breach_not_open (Events c.events)))))

nothing_none : NoneOpen None
nothing_none e h m q = let z : ◌≡◌ {A = ℕ} 0 1 = cc in omega arith

first_none : (b : Budget) (c : Collected) (es : List Event) → NoneOpen (first_cause b c es)
first_none b c [] = nothing_none
first_none b c (x ∷ es) = either_none (cause_at b c.events x (with_event x c)) (first_cause b (with_event x c) es) (at_none b c.events x (with_event x c)) (first_none b (with_event x c) es)

target_none : (o : Option FragmentError) (t : Option ℕ) (e : FragmentError) → NoneOpen o → target_unless o t ≡ Err e → NotOpen e
target_none (Some x) t e n h m q = n x refl m (cc)
target_none None None e n h m q = let z : ◌≡◌ {A = ℕ} 0 1 = cc in omega arith
target_none None (Some k) e n h m q = let z : ◌≡◌ {A = ℕ} 0 1 = cc in omega arith

collected_none : (b : Budget) (l : Lists) (p : Piece) (name : List ℕ) (e : FragmentError) → collected b l p name ≡ Err e → NotOpen e
collected_none b l p name e h =
    let marks = too_many_marks b (length (marks_of l p)) in
    let all = first_cause b nothing (events_of l p) in
    let told = CollectionBreach (Anchors (b.max_anchors + 1)) in
    target_none (option_or marks all) (last_named l.bytes name (marks_of l p)) e (either_none marks all (told_none _ told (breach_not_open (Anchors (b.max_anchors + 1)))) (first_none b nothing (events_of l p))) h

-- what an answer means

module _ (w : Wanted) where
  -- a refusal for another cause than an open range
  refusing_means : (e : FragmentError) → NotOpen e → (l k : Lent) → k.tape ≡ l.tape → Means w l (refusing e k)
  refusing_means e n l k t =
      record {
        accepted_is_the_unfolding_of_the_target = λ p h. (let z : ◌≡◌ {A = ℕ} 0 1 = cc h in absurd (omega arith));
        an_open_range_is_told_only_at_a_knot = λ m h. absurd (n m (cc h));
        a_knot_is_never_accepted = λ k x y p h. (let z : ◌≡◌ {A = ℕ} 0 1 = cc h in omega arith);
        a_refusal_leaves_the_tape = λ f h. t;
      }

  module _ (checked : allowed w.limits ≡ true) (l k : Lent) (tape : k.tape ≡ l.tape) where
    unfolding_means : (n : ℕ) → sound w.stock w.piece ≡ true → IsTarget w n → Means w k (unfolding_leaves k (unfolded (score_for w) n k.tape k.charges k.enforcer))
    unfolding_means n s t =
        let nodes = sound_pieces_have_nodes w.stock w.piece s in
        record {
          accepted_is_the_unfolding_of_the_target = λ p h. (n, (t, accepted_is_the_unfolding (score_for w) checked n k.tape k.charges k.enforcer p h));
          an_open_range_is_told_only_at_a_knot = λ m h. (n, (t, an_open_range_shows_a_knot (score_for w) _ nodes n t.least k.tape k.charges k.enforcer m h));
          a_knot_is_never_accepted = λ j u knot p h.
              a_knot_is_never_accepted (score_for w) _ nodes n k.tape k.charges k.enforcer p (subst (Knotted w) (one_last w.stock.bytes w.name (marks_of w.stock w.piece) j n u t) knot) h;
          a_refusal_leaves_the_tape = λ e h. a_refusal_leaves_the_tape (score_for w) n k.tape k.charges k.enforcer e h;
        }

  target_means : (checked : allowed w.limits ≡ true) → sound w.stock w.piece ≡ true → (k : Lent) (r : Result ℕ FragmentError) → collected w.limits.budget w.stock w.piece w.name ≡ r → Means w k (from_target w r k)
  target_means checked s k (Err e) h = refusing_means e (collected_none w.limits.budget w.stock w.piece w.name e h) k k refl
  target_means checked s k (Ok n) h =
      let goes = (accepted_exactly_if w.limits.budget w.stock w.piece w.name (Ok n) (sym h) n).0 refl in
      unfolding_means checked k k refl n s goes.target

  soundness_means : (checked : allowed w.limits ≡ true) → (k : Lent) (o : Option Rule) → first_broken w.stock w.piece ≡ o → Means w k (from_soundness w o k)
  soundness_means checked k (Some r) h = refusing_means (Unsound r) (λ m q. let z : ◌≡◌ {A = ℕ} 0 1 = cc in omega arith) k k refl
  soundness_means checked k None h = target_means checked (ap (λ o. not (is_some o)) h) k _ refl

  -- the slate plays no part in what an answer means
  wiped_means : (l : Lent) (o : Outcome) → Means w (with_wiped l) o → Means w l o
  wiped_means l o m =
      record {
        accepted_is_the_unfolding_of_the_target = m.accepted_is_the_unfolding_of_the_target;
        an_open_range_is_told_only_at_a_knot = m.an_open_range_is_told_only_at_a_knot;
        a_knot_is_never_accepted = m.a_knot_is_never_accepted;
        a_refusal_leaves_the_tape = m.a_refusal_leaves_the_tape;
      }

  passage_means : allowed w.limits ≡ true → (l : Lent) → Means w l (passage_for w l)
  passage_means checked l = at (ltb (length l.slate) 256)
    where
      at : (b : Bool) → Means w l (cond b (refusing (ShortSlate (length l.slate)) l) (from_soundness w (first_broken w.stock w.piece) (with_wiped l)))
      at true = refusing_means (ShortSlate (length l.slate)) (λ m q. let z : ◌≡◌ {A = ℕ} 0 1 = cc in omega arith) l l refl
      at false = wiped_means l _ (soundness_means checked (with_wiped l) _ refl)

-- how the parts of the call make up the whole

-- what the soundness check tells
judged_sound : (l : Lists) (p : Piece) (o : Option Rule) (q : PieceOfStock) → Ok q ≡ unless_broken o (record { stock = l; piece = p }) → (o ≡ None) × (q.stock ≡ l) × (q.piece ≡ p)
judged_sound l p None q e = let same : q ≡ record { stock = l; piece = p } = cc e in (refl, ap (λ x. x.stock) same, ap (λ x. x.piece) same)
judged_sound l p (Some r) q e = let z : ◌≡◌ {A = ℕ} 0 1 = cc e in absurd (omega arith)

judged_broken : (x : PieceOfStock) (o : Option Rule) (r : Rule) → Err r ≡ unless_broken o x → o ≡ Some r
judged_broken x None r e = let z : ◌≡◌ {A = ℕ} 0 1 = cc e in absurd (omega arith)
judged_broken x (Some q) r e = let same : q ≡ r = cc e in ap Some same

-- the slate plays no part in what is collected and unfolded

abbrev slated : List ℕ → Lent → Lent
slated s l = record { slate = s; tape = l.tape; charges = l.charges; enforcer = l.enforcer }

abbrev slated_by : List ℕ → Outcome → Outcome
slated_by s o = record { answer = o.answer; left = slated s o.left }

from_target_at : (w : Wanted) (s : List ℕ) (k : Lent) (r : Result ℕ FragmentError) → slated_by s (from_target w r k) ≡ from_target w r (slated s k)
from_target_at w s k (Err e) = refl
from_target_at w s k (Ok n) = refl

-- what was unfolded with a closed slate z, seen with the whole slate that it is the front of
pub at_whole_slate : (w : Wanted) (r : Result ℕ FragmentError) (k : Lent) (o : Outcome) (z s : List ℕ) → z ≡ blank → o ≡ from_target w r k → slated_by (z ++ drop 256 s) o ≡ from_target w r (slated (wiped s) k)
unfolding wiped
at_whole_slate w r k o z s closed h =
    ap (λ t. slated_by (t ++ drop 256 s) o) closed ∙ ap (slated_by (blank ++ drop 256 s)) h ∙ from_target_at w (blank ++ drop 256 s) k r

-- a closed front makes a slate wiped
pub wiped_by : (z s : List ℕ) → z ≡ blank → z ++ drop 256 s ≡ wiped s
unfolding wiped
wiped_by z s closed = ap (λ (t : List ℕ). t ++ drop 256 s) closed

module _ (w : Wanted) (l : Lent) where
  by_length : (b : Bool) → ltb (length l.slate) 256 ≡ b → cond b (refusing (ShortSlate (length l.slate)) l) (from_soundness w (first_broken w.stock w.piece) (with_wiped l)) ≡ passage_for w l
  by_length b h = sym (ap (λ x. cond x (refusing (ShortSlate (length l.slate)) l) (from_soundness w (first_broken w.stock w.piece) (with_wiped l))) h)

  pub short_slate : length l.slate < 256 → refusing (ShortSlate (length l.slate)) l ≡ passage_for w l
  short_slate h = by_length true (lt-ltb (length l.slate) 256 h)

  module _ (long : 256 ≤ length l.slate) where
    from_soundness_lem : (o : Option Rule) → first_broken w.stock w.piece ≡ o → from_soundness w o (with_wiped l) ≡ passage_for w l
    from_soundness_lem o h =
        ap (λ x. from_soundness w x (with_wiped l)) (sym h) ∙ by_length false (le-ltb (length l.slate) 256 long)

    pub unsound_piece : (r : Rule) → Err r ≡ verdict w.stock w.piece → refusing (Unsound r) (with_wiped l) ≡ passage_for w l
    unsound_piece r h = from_soundness_lem (Some r) (judged_broken _ _ r h)

    pub sound_piece : (q : PieceOfStock) → Ok q ≡ verdict w.stock w.piece → (o : Outcome) → o ≡ from_target (record { stock = q.stock; piece = q.piece; name = w.name; limits = w.limits }) (collected w.limits.budget q.stock q.piece w.name) (with_wiped l) → o ≡ passage_for w l
    sound_piece q h o e =
        let j = judged_sound w.stock w.piece _ q h in
        e
        ∙ ap (λ x. from_target (record { stock = x; piece = q.piece; name = w.name; limits = w.limits }) (collected w.limits.budget x q.piece w.name) (with_wiped l)) j.1
        ∙ ap (λ y. from_target (record { stock = w.stock; piece = y; name = w.name; limits = w.limits }) (collected w.limits.budget w.stock y w.name) (with_wiped l)) j.2
        ∙ from_soundness_lem None j.0

  pub means : allowed w.limits ≡ true → (o : Outcome) → o ≡ passage_for w l → Means w l o
  means checked o e = subst (Means w l) (sym e) (passage_means w checked l)
