-- The numbers that the nodes of a sound piece carry, and those that its aliases name.
use Rattle.std.proofs.Common.{◌≡◌, ℕ, zero, suc, ◌+◌, ◌<◌, ◌≤◌, max, Bool, true, false, cond, not, ◌&&◌, eqb, leb, List, [], ◌∷◌, length, get_or, take, Some, None, Option, sym, refl, ap, ◌∙◌, subst, arith}
use Rattle.std.proofs.lemmas.Bool.{eqb-true, leb-true, and_parts, both_ways}
use Rattle.events.specs.declared.score.Event.{Event}
use Rattle.events.specs.declared.kinds.EventKind.{EventKind}
use Rattle.events.specs.declared.kinds.EventKind.TheVariants.{StreamStart, StreamEnd, DocumentStart, DocumentEnd, Alias, Scalar, SequenceStart, SequenceEnd, MappingStart, MappingEnd}
use Rattle.events.specs.Scores.{kind, no_event}
use Rattle.events.specs.Walks.{onward, keeps}
use Rattle.events.specs.Rules.{may_carry, must_not, numbered_by, numbered_at, is_alias, named_at}
use Rattle.events.specs.Nodes.{starts_node, carries}

abbrev pub tick : Bool → ℕ → ℕ
tick true n = suc n
tick false n = n

-- how many numbers are carried
abbrev pub carriers : List Event → ℕ
carriers [] = 0
carriers (e ∷ es) = tick (carries e) (carriers es)

-- what the numbering says of one event with anchor a: it carries the next number, or none
pub record Stepped (o : Option EventKind) (a k k' : ℕ) : Type 0 where
  pub up : k' ≡ tick (starts_node o && not (eqb a 0)) k
  pub next : (starts_node o && not (eqb a 0)) ≡ true → a ≡ suc k
  pub most : is_alias o ≡ false → max k a ≡ k'
  pub still : is_alias o ≡ true → k' ≡ k

some≡ : {x y : ℕ} → ◌≡◌ {A = Option ℕ} (Some x) (Some y) → x ≡ y
some≡ e = cc

never_some : {X : Type 0} {x : ℕ} → ◌≡◌ {A = Option ℕ} None (Some x) → X
never_some e = let z : ◌≡◌ {A = ℕ} 0 1 = cc in absurd (omega arith)

abbrev here : Bool → Bool → Bool
here s b = s && not b

may_step : (o : Option EventKind) (a k k' : ℕ) → starts_node o ≡ true → is_alias o ≡ false → may_carry a k ≡ Some k' → Stepped o a k k'
may_step o a k k' s l e = at (eqb a 0) refl (eqb a (k + 1)) refl e
  where
    at : (b : Bool) → eqb a 0 ≡ b → (b' : Bool) → eqb a (k + 1) ≡ b' → cond b (Some k) (cond b' (Some a) None) ≡ Some k' → Stepped o a k k'
    at true q b' q' f =
        let z : a ≡ 0 = eqb-true a 0 q in
        let g : k ≡ k' = some≡ f in
        let h : here (starts_node o) (eqb a 0) ≡ false = ap (λ x. here x (eqb a 0)) s ∙ ap (λ b. not b) q in
        record { up = sym (ap (λ b. tick b k) h ∙ g); next = λ t. absurd (both_ways (here (starts_node o) (eqb a 0)) h t); most = λ _. omega arith; still = λ t. absurd (both_ways (is_alias o) l t) }
    at false q true q' f =
        let z : a ≡ k + 1 = eqb-true a (k + 1) q' in
        let g : a ≡ k' = some≡ f in
        let h : here (starts_node o) (eqb a 0) ≡ true = ap (λ x. here x (eqb a 0)) s ∙ ap (λ b. not b) q in
        let u : suc k ≡ k' = omega arith in
        record { up = sym (ap (λ b. tick b k) h ∙ u); next = λ t. omega arith; most = λ _. omega arith; still = λ t. absurd (both_ways (is_alias o) l t) }
    at false q false q' f = never_some f

must_step : (o : Option EventKind) (a k k' : ℕ) → starts_node o ≡ false → is_alias o ≡ false → must_not a k ≡ Some k' → Stepped o a k k'
must_step o a k k' s l e = at (eqb a 0) refl e
  where
    h : here (starts_node o) (eqb a 0) ≡ false
    h = ap (λ x. here x (eqb a 0)) s

    at : (b : Bool) → eqb a 0 ≡ b → cond b (Some k) None ≡ Some k' → Stepped o a k k'
    at true q f =
        let z : a ≡ 0 = eqb-true a 0 q in
        let g : k ≡ k' = some≡ f in
        record { up = sym (ap (λ b. tick b k) h ∙ g); next = λ t. absurd (both_ways (here (starts_node o) (eqb a 0)) h t); most = λ _. omega arith; still = λ t. absurd (both_ways (is_alias o) l t) }
    at false q f = never_some f

stepped : (o : Option EventKind) (a k k' : ℕ) → numbered_by o a k ≡ Some k' → Stepped o a k k'
stepped None a k k' e = never_some e
stepped (Some StreamStart) a k k' e = must_step (Some StreamStart) a k k' refl refl e
stepped (Some StreamEnd) a k k' e = must_step (Some StreamEnd) a k k' refl refl e
stepped (Some DocumentStart) a k k' e = must_step (Some DocumentStart) a k k' refl refl e
stepped (Some DocumentEnd) a k k' e = must_step (Some DocumentEnd) a k k' refl refl e
stepped (Some Alias) a k k' e = record { up = sym (some≡ e); next = λ t. absurd (both_ways false refl t); most = λ f. absurd (both_ways true f refl); still = λ _. sym (some≡ e) }
stepped (Some Scalar) a k k' e = may_step (Some Scalar) a k k' refl refl e
stepped (Some SequenceStart) a k k' e = may_step (Some SequenceStart) a k k' refl refl e
stepped (Some SequenceEnd) a k k' e = must_step (Some SequenceEnd) a k k' refl refl e
stepped (Some MappingStart) a k k' e = may_step (Some MappingStart) a k k' refl refl e
stepped (Some MappingEnd) a k k' e = must_step (Some MappingEnd) a k k' refl refl e

-- a walk that goes on has made a step
pub went_on : {S A : Type 0} (step : S → A → Option S) (done : S → Bool) (s : S) (x : A) (xs : List A) → keeps step done s (x ∷ xs) ≡ true → (t : S) × (step s x ≡ Some t) × (keeps step done t xs ≡ true)
went_on {S} step done s x xs e = at (step s x) refl e
  where
    at : (o : Option S) → step s x ≡ o → onward o (λ t. keeps step done t xs) ≡ true → (t : S) × (step s x ≡ Some t) × (keeps step done t xs ≡ true)
    at None q f = absurd (both_ways false refl f)
    at (Some t) q f = (t, q, f)

abbrev numbered : ℕ → ℕ → List Event → Bool
numbered n k es = keeps numbered_at (λ j. eqb j n) k es

-- the count of carried numbers
numbered_count : (n k : ℕ) (es : List Event) → numbered n k es ≡ true → k + carriers es ≡ n
numbered_count n k [] t = let z : k ≡ n = eqb-true k n t in omega arith
numbered_count n k (e ∷ es) t =
    let w = went_on numbered_at (λ j. eqb j n) k e es t in
    let u = (stepped (kind e) e.anchor k w.0 w.1).up in
    let r = numbered_count n w.0 es w.2 in
    at (carries e) u r
  where
    at : (b : Bool) {k' : ℕ} → k' ≡ tick b k → k' + carriers es ≡ n → k + tick b (carriers es) ≡ n
    at true u r = omega arith
    at false u r = omega arith

-- the number that is carried at a place: one more than were carried before
numbered_at_lem : (n k : ℕ) (es : List Event) → numbered n k es ≡ true → (p : ℕ) → carries (get_or es p no_event) ≡ true → (get_or es p no_event).anchor ≡ suc (k + carriers (take p es))
numbered_at_lem n k [] t p c = absurd (both_ways false refl c)
numbered_at_lem n k (e ∷ es) t zero c =
    let w = went_on numbered_at (λ j. eqb j n) k e es t in
    let a = (stepped (kind e) e.anchor k w.0 w.1).next c in
    omega arith
numbered_at_lem n k (e ∷ es) t (suc p) c =
    let w = went_on numbered_at (λ j. eqb j n) k e es t in
    let u = (stepped (kind e) e.anchor k w.0 w.1).up in
    let r = numbered_at_lem n w.0 es w.2 p c in
    r ∙ ap suc (at (carries e) u)
  where
    at : (b : Bool) {k' : ℕ} → k' ≡ tick b k → k' + carriers (take p es) ≡ k + tick b (carriers (take p es))
    at true u = omega arith
    at false u = omega arith

kept : (b : Bool) {k j : ℕ} → cond b (Some k) None ≡ Some j → k ≡ j
kept true e = some≡ e
kept false e = never_some e

-- an alias names a number that was carried before it
named_at_lem : (n k : ℕ) (es : List Event) → numbered n k es ≡ true → keeps named_at (λ _. true) k es ≡ true → (p : ℕ) → p < length es → kind (get_or es p no_event) ≡ Some Alias → (1 ≤ (get_or es p no_event).anchor) × ((get_or es p no_event).anchor ≤ k + carriers (take p es))
named_at_lem n k [] t u p h i = absurd (omega arith)
named_at_lem n k (e ∷ es) t u zero h i =
    let w = went_on named_at (λ _. true) k e es u in
    at (leb 1 e.anchor && leb e.anchor k) refl (ap (λ o. cond (is_alias o) (cond (leb 1 e.anchor && leb e.anchor k) (Some k) None) (Some (max k e.anchor))) (sym i) ∙ w.1)
  where
    at : (b : Bool) → (leb 1 e.anchor && leb e.anchor k) ≡ b → {k' : ℕ} → cond b (Some k) None ≡ Some k' → (1 ≤ e.anchor) × (e.anchor ≤ k + 0)
    at true q f =
        let ps = and_parts (leb 1 e.anchor) (leb e.anchor k) q in
        let l = leb-true e.anchor k ps.1 in
        (leb-true 1 e.anchor ps.0, omega arith)
    at false q f = never_some f
named_at_lem n k (e ∷ es) t u (suc p) h i =
    let w = went_on numbered_at (λ j. eqb j n) k e es t in
    let v = went_on named_at (λ _. true) k e es u in
    let s = stepped (kind e) e.anchor k w.0 w.1 in
    let m : v.0 ≡ w.0 = same (is_alias (kind e)) refl w.1 v.1 s in
    let l : p < length es = omega (arith, h) in
    let r = named_at_lem n w.0 es w.2 (subst (λ j. keeps named_at (λ _. true) j es ≡ true) m v.2) p l i in
    (r.0, subst (λ j. (get_or es p no_event).anchor ≤ j) (at (carries e) s.up) r.1)
  where
    at : (b : Bool) {k' : ℕ} → k' ≡ tick b k → k' + carriers (take p es) ≡ k + tick b (carriers (take p es))
    at true q = omega arith
    at false q = omega arith

    same : (b : Bool) → is_alias (kind e) ≡ b → {j j' : ℕ} → numbered_at k e ≡ Some j → named_at k e ≡ Some j' → Stepped (kind e) e.anchor k j → j' ≡ j
    same true q f g s = sym (kept (leb 1 e.anchor && leb e.anchor k) (sym (ap (λ b. cond b (cond (leb 1 e.anchor && leb e.anchor k) (Some k) None) (Some (max k e.anchor))) q) ∙ g)) ∙ sym (s.still q)
    same false q f g s = some≡ (sym g ∙ ap (λ b. cond b (cond (leb 1 e.anchor && leb e.anchor k) (Some k) None) (Some (max k e.anchor))) q) ∙ s.most q

-- what the third and the fourth rule say of a whole piece
pub count_is : (n : ℕ) (es : List Event) → numbered n 0 es ≡ true → carriers es ≡ n
count_is n es t = let r = numbered_count n 0 es t in omega arith

pub number_is : (n : ℕ) (es : List Event) → numbered n 0 es ≡ true → (p : ℕ) → carries (get_or es p no_event) ≡ true → (get_or es p no_event).anchor ≡ suc (carriers (take p es))
number_is n es t p c = let r = numbered_at_lem n 0 es t p c in omega arith

pub names_is : (n : ℕ) (es : List Event) → numbered n 0 es ≡ true → keeps named_at (λ _. true) 0 es ≡ true → (p : ℕ) → p < length es → kind (get_or es p no_event) ≡ Some Alias → (1 ≤ (get_or es p no_event).anchor) × ((get_or es p no_event).anchor ≤ carriers (take p es))
names_is n es t u p h i = let r = named_at_lem n 0 es t u p h i in (r.0, omega (arith, r.1))

pub carriers_take : (es : List Event) (p : ℕ) → carriers (take p es) ≤ carriers es
carriers_take es zero = omega arith
carriers_take [] (suc p) = omega arith
carriers_take (e ∷ es) (suc p) = at (carries e) (carriers_take es p)
  where
    at : (b : Bool) → carriers (take p es) ≤ carriers es → tick b (carriers (take p es)) ≤ tick b (carriers es)
    at true h = omega arith
    at false h = h

-- a carrier between two places is counted at the second alone
pub carriers_rise : (es : List Event) (p q : ℕ) → p < q → p < length es → carries (get_or es p no_event) ≡ true → carriers (take p es) < carriers (take q es)
carriers_rise es p zero h l c = absurd (omega arith)
carriers_rise [] p (suc q) h l c = absurd (omega arith)
carriers_rise (e ∷ es) zero (suc q) h l c = let r = ap (λ b. tick b (carriers (take q es))) c in omega arith
carriers_rise (e ∷ es) (suc p) (suc q) h l c = at (carries e) (carriers_rise es p q (omega arith) (omega arith) c)
  where
    at : (b : Bool) → carriers (take p es) < carriers (take q es) → tick b (carriers (take p es)) < tick b (carriers (take q es))
    at true r = omega arith
    at false r = r
