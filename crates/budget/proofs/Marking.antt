-- The flags of the anchor numbers after an input, and how many are set.
use Rattle.std.proofs.Common.{◌≡◌, ℕ, zero, suc, ◌<◌, Bool, true, false, cond, not, ◌&&◌, ◌||◌, eqb, List, [], ◌∷◌, length, get_or, set, replicate, Ok, sym, refl, ap, ◌∙◌, subst, arith, length-set, get_or-set_other, get_or-set_same}
use lib.ListN.{length-replicate}
use Rattle.std.proofs.Math.Bool.{or-false, or-true}
use Rattle.std.proofs.lemmas.Bool.{eqb-true, eqb-false}
use Rattle.events.specs.declared.kinds.EventKind.{EventKind}
use Rattle.events.specs.declared.kinds.EventKind.TheVariants.{StreamStart, StreamEnd, DocumentStart, DocumentEnd, Alias, Scalar, SequenceStart, SequenceEnd, MappingStart, MappingEnd}
use Rattle.budget.specs.declared.limits.AliasLimits.{AliasLimits}
use Rattle.budget.specs.declared.policy.EnforcingPolicy.{EnforcingPolicy}
use Rattle.budget.specs.declared.policy.EnforcingPolicy.TheVariants.{AllContent, PerDocument}
use Rattle.budget.specs.Flags.{trues, defined}
use Rattle.budget.specs.Observed.{Seen, Input, event, reference}
use Rattle.budget.specs.Model.{Model, observed}
use Rattle.budget.specs.Tallies.{resets, carries, number_below, one}
use Rattle.budget.proofs.Bounds.{Bounds}
use Rattle.budget.proofs.Exact.{calm, calm_by, evented, documented_by, counted_exact}
use Rattle.budget.proofs.Sticks.{counted_well}
use Rattle.budget.proofs.Adding.{of, under}

pub none_set : (n : ℕ) → trues (replicate n false) ≡ 0
none_set zero = refl
none_set (suc n) = none_set n

pub none_at : (n k : ℕ) → get_or (replicate n false) k false ≡ false
none_at zero k = refl
none_at (suc n) zero = refl
none_at (suc n) (suc k) = none_at n k

length_either : (b : Bool) (a : ℕ) (bs : List Bool) → length (cond b bs (set bs a true)) ≡ length bs
length_either true a bs = refl
length_either false a bs = length-set bs a true

length_defined : (a : ℕ) (bs : List Bool) → length (defined a bs) ≡ length bs
length_defined a bs = length_either (eqb a 0) a bs

-- the flag of a number after another was defined, which is 0 or not, and the same or not
flag_at : (zeroth same none : Bool) (a k : ℕ) (bs : List Bool) → eqb a 0 ≡ zeroth → eqb a k ≡ same → eqb k 0 ≡ none → k < length bs → get_or (cond zeroth bs (set bs a true)) k false ≡ (get_or bs k false || (same && not none))
flag_at true true true a k bs p q r h = sym (or-false (get_or bs k false))
flag_at true true false a k bs p q r h = absurd (eqb-false k 0 r (sym (eqb-true a k q) ∙ eqb-true a 0 p))
flag_at true false n a k bs p q r h = sym (or-false (get_or bs k false))
flag_at false true true a k bs p q r h = absurd (eqb-false a 0 p (eqb-true a k q ∙ eqb-true k 0 r))
flag_at false true false a k bs p q r h =
    let e = eqb-true a k q in
    subst (λ j. get_or (set bs j true) k false ≡ true) (sym e) (get_or-set_same bs k true false h) ∙ sym (or-true (get_or bs k false))
flag_at false false n a k bs p q r h = get_or-set_other bs a k true false (λ e. eqb-false a k q (sym e)) ∙ sym (or-false (get_or bs k false))

flag_defined : (a k : ℕ) (bs : List Bool) → k < length bs → get_or (defined a bs) k false ≡ (get_or bs k false || (eqb a k && not (eqb k 0)))
flag_defined a k bs h = flag_at (eqb a 0) (eqb a k) (eqb k 0) a k bs refl refl refl h

-- the count of flags is the count of numbers below their length that are set
pub number_set : (bs : List Bool) → trues bs ≡ number_below (length bs) (λ k. get_or bs k false)
unfolding number_below
number_set [] = refl
number_set (true ∷ bs) = let h = number_set bs in omega arith
number_set (false ∷ bs) = let h = number_set bs in omega arith

pub number_same : (n : ℕ) (f g : ℕ → Bool) → ((k : ℕ) → k < n → f k ≡ g k) → number_below n f ≡ number_below n g
unfolding number_below
number_same zero f g h = refl
number_same (suc n) f g h =
    let here : one (f 0) ≡ one (g 0) = ap one (h 0 (omega arith)) in
    let rest = number_same n (λ k. f (suc k)) (λ k. g (suc k)) (λ k l. h (suc k) (omega arith)) in
    omega arith

-- the flags after an input, and what is told of them
pub record Marks (i : Input) (m n : Model) : Type 0 where
  pub as_long : length m.anchors ≡ 1024 → length n.anchors ≡ 1024
  pub flag : (k : ℕ) → k < length m.anchors → get_or n.anchors k false ≡ cond (resets m.policy i) false (get_or m.anchors k false || carries k i)
  pub told : m.report.anchors ≡ trues m.anchors → n.report.anchors ≡ trues n.anchors

module _ (i : Input) (m n : Model) (plain : resets m.policy i ≡ false) where
  flag_from : (k : ℕ) (b : Bool) → get_or n.anchors k false ≡ (get_or m.anchors k false || b) → carries k i ≡ b → get_or n.anchors k false ≡ cond (resets m.policy i) false (get_or m.anchors k false || carries k i)
  flag_from k b e c = e ∙ ap (λ x. get_or m.anchors k false || x) (sym c) ∙ sym (ap (λ x. cond x false (get_or m.anchors k false || carries k i)) plain)

  same_marks : n.anchors ≡ m.anchors → n.report.anchors ≡ m.report.anchors → ((k : ℕ) → carries k i ≡ false) → Marks i m n
  same_marks f r c = record {
    as_long = λ l. ap length f ∙ l;
    flag = λ k h. flag_from k false (ap (λ bs. get_or bs k false) f ∙ sym (or-false (get_or m.anchors k false))) (c k);
    told = λ t. r ∙ t ∙ sym (ap trues f);
  }

  node_marks : (a : ℕ) → n.anchors ≡ defined a m.anchors → n.report.anchors ≡ trues (defined a m.anchors) → ((k : ℕ) → carries k i ≡ (eqb a k && not (eqb k 0))) → Marks i m n
  node_marks a f r c = record {
    as_long = λ l. ap length f ∙ length_defined a m.anchors ∙ l;
    flag = λ k h. flag_from k (eqb a k && not (eqb k 0)) (ap (λ bs. get_or bs k false) f ∙ flag_defined a k m.anchors h) (c k);
    told = λ t. r ∙ sym (ap trues f);
  }

marks_document : (p : EnforcingPolicy) (e : Seen) (m : Model) → Marks (event (of DocumentStart e)) (under p m) (documented_by p (evented (under p m)))
marks_document AllContent e m = same_marks (event (of DocumentStart e)) (under AllContent m) (documented_by AllContent (evented (under AllContent m))) refl refl refl (λ k. refl)
marks_document PerDocument e m = record { as_long = λ l. length-replicate 1024 false; flag = λ k h. none_at 1024 k; told = λ t. sym (none_set 1024) }

marks : (k : EventKind) (e : Seen) (m : Model) → Marks (event (of k e)) m (calm_by k (of k e) (evented m))
marks Scalar e m = node_marks (event (of Scalar e)) m (calm_by Scalar (of Scalar e) (evented m)) refl e.anchor refl refl (λ k. refl)
marks SequenceStart e m = node_marks (event (of SequenceStart e)) m (calm_by SequenceStart (of SequenceStart e) (evented m)) refl e.anchor refl refl (λ k. refl)
marks MappingStart e m = node_marks (event (of MappingStart e)) m (calm_by MappingStart (of MappingStart e) (evented m)) refl e.anchor refl refl (λ k. refl)
marks SequenceEnd e m = same_marks (event (of SequenceEnd e)) m (calm_by SequenceEnd (of SequenceEnd e) (evented m)) refl refl refl (λ k. refl)
marks MappingEnd e m = same_marks (event (of MappingEnd e)) m (calm_by MappingEnd (of MappingEnd e) (evented m)) refl refl refl (λ k. refl)
marks Alias e m = same_marks (event (of Alias e)) m (calm_by Alias (of Alias e) (evented m)) refl refl refl (λ k. refl)
marks DocumentStart e m = marks_document m.policy e m
marks DocumentEnd e m = same_marks (event (of DocumentEnd e)) m (evented m) refl refl refl (λ k. refl)
marks StreamStart e m = same_marks (event (of StreamStart e)) m (evented m) refl refl refl (λ k. refl)
marks StreamEnd e m = same_marks (event (of StreamEnd e)) m (evented m) refl refl refl (λ k. refl)

marks_input : (i : Input) (m : Model) → Marks i m (calm i m)
marks_input (event e) m = marks e.kind e m
marks_input reference m = same_marks reference m (calm reference m) refl refl refl (λ k. refl)

pub observed_marks : (a : AliasLimits) (i : Input) (m : Model) → Bounds m.budget a → (observed i m).1 ≡ Ok tt → Marks i m (observed i m).0
observed_marks a i m w t = let h = counted_well i m t in subst (Marks i m) (sym (h.1 ∙ counted_exact a i m w h.0)) (marks_input i m)
