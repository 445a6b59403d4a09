-- One place of a range, and the ranges within it.
use Rattle.std.proofs.Common.{◌≡◌, ℕ, zero, suc, ◌+◌, ◌-◌, ◌<◌, ◌≤◌, Bool, true, false, cond, eqb, List, [], ◌∷◌, length, get_or, set, sym, refl, ap, ◌∙◌, add-one, arith}
use Rattle.std.proofs.lemmas.Bool.{eqb-true}
use Rattle.events.specs.declared.score.NodeRange.{NodeRange}
use Rattle.fragment.specs.declared.answers.FragmentError.{FragmentError}
use Rattle.fragment.specs.declared.answers.FragmentError.TheVariants.{OpenRange, TapeFull}
use Rattle.fragment.specs.Ended.{Ended, went, refused, next}
use Rattle.fragment.specs.Slate.{opened}
use Rattle.fragment.specs.Unfolding.{Score, Work, Opens, alias_step, event_step, each, is_alias_at, named_at, range, run, shut, step, tick}

pub each_none : (f : ℕ → Work → Ended Work) (p n : ℕ) (w : Work) → n ≡ 0 → each f p n w ≡ went w
unfolding each
each_none f p n w e = rw e

pub each_more : (f : ℕ → Work → Ended Work) (p e : ℕ) (w : Work) → p < e → each f p (e - p) w ≡ next (f p w) (each f (p + 1) (e - (p + 1)))
unfolding each
each_more f p e w h =
    let n : e - p ≡ suc (e - (p + 1)) = omega arith in
    rw (n, add-one)

-- what opens the ranges within one that k numbers are left for
abbrev pub beneath : Score → ℕ → Opens
beneath s zero = λ _ _ _ w. refused TapeFull w
beneath s (suc k) = run s k

pub run_each : (s : Score) (k : ℕ) (slate : List ℕ) (d : ℕ) (r : NodeRange) (w : Work) → run s k slate d r w ≡ each (step s (beneath s k) slate d) r.first (r.last + 1 - r.first) w
unfolding run
run_each s zero slate d r w = refl
run_each s (suc k) slate d r w = refl

-- what is done at a place of an open range, with the slate that its opening left
abbrev pub go : Score → List ℕ → ℕ → ℕ → Work → Ended Work
go s slate d = step s (beneath s (shut slate)) slate d

abbrev inner : Score → List ℕ → ℕ → ℕ → Work → Ended Work
inner s slate d n = beneath s (shut slate) (opened n slate) (d + 1) (range s n)

go_alias : (s : Score) (slate : List ℕ) (d p : ℕ) (w : Work) → is_alias_at s p ≡ true → go s slate d p w ≡ next (alias_step s slate d (named_at s p) w) (inner s slate d (named_at s p))
unfolding step
go_alias s slate d p w e =
    ap (λ b. cond {A = Work → Ended Work} b (λ (v : Work). next (alias_step s slate d (named_at s p) v) (inner s slate d (named_at s p))) (λ (v : Work). event_step s d p v) w) e

go_other : (s : Score) (slate : List ℕ) (d p : ℕ) (w : Work) → is_alias_at s p ≡ false → go s slate d p w ≡ event_step s d p w
unfolding step
go_other s slate d p w e =
    ap (λ b. cond {A = Work → Ended Work} b (λ (v : Work). next (alias_step s slate d (named_at s p) v) (inner s slate d (named_at s p))) (λ (v : Work). event_step s d p v) w) e

closed_first : (slate : List ℕ) (n : ℕ) (w v : Work) (k : Work → Ended Work) (b : Bool) → eqb (get_or slate (n - 1) 0) 0 ≡ b → went v ≡ next (cond b (went w) (refused (OpenRange n) w)) k → get_or slate (n - 1) 0 ≡ 0
closed_first slate n w v k true e h = eqb-true (get_or slate (n - 1) 0) 0 e
closed_first slate n w v k false e h = let z : ◌≡◌ {A = ℕ} 0 1 = cc in absurd (omega arith)

-- a number that passes the tests at an alias was not open
pub alias_shut : (s : Score) (slate : List ℕ) (d n : ℕ) (w v : Work) → went v ≡ alias_step s slate d n w → get_or slate (n - 1) 0 ≡ 0
alias_shut s slate d n w v h = closed_first slate n w v _ (eqb (get_or slate (n - 1) 0) 0) refl h

-- opening a number leaves one fewer shut
pub shut_set : (slate : List ℕ) (i : ℕ) → i < length slate → get_or slate i 0 ≡ 0 → shut slate ≡ suc (shut (set slate i 1))
unfolding shut
shut_set [] i h e = absurd (omega arith)
shut_set (x ∷ l) zero h e = rw e
shut_set (x ∷ l) (suc i) h e = at (eqb x 0) (shut_set l i (omega arith) e)
  where
    at : (b : Bool) → shut l ≡ suc (shut (set l i 1)) → tick b (shut l) ≡ suc (tick b (shut (set l i 1)))
    at true q = ap suc q
    at false q = q

pub shut_le : (slate : List ℕ) → shut slate ≤ length slate
unfolding shut
shut_le [] = omega arith
shut_le (x ∷ l) = at (eqb x 0) (shut_le l)
  where
    at : (b : Bool) → shut l ≤ length l → tick b (shut l) ≤ length (x ∷ l)
    at true q = omega arith
    at false q = omega arith

-- the ways through a place

pub alias_refused : (s : Score) (slate : List ℕ) (d p : ℕ) (w v : Work) (x : FragmentError) → is_alias_at s p ≡ true → refused x v ≡ alias_step s slate d (named_at s p) w → refused x v ≡ go s slate d p w
alias_refused s slate d p w v x k q =
    sym (go_alias s slate d p w k ∙ ap (λ z. next z (inner s slate d (named_at s p))) (sym q))

pub alias_went : (s : Score) (slate : List ℕ) (d p : ℕ) (w v : Work) (r : Ended Work) → is_alias_at s p ≡ true → named_at s p - 1 < length slate → went v ≡ alias_step s slate d (named_at s p) w → r ≡ run s (shut (opened (named_at s p) slate)) (opened (named_at s p) slate) (d + 1) (range s (named_at s p)) v → r ≡ go s slate d p w
alias_went s slate d p w v r k l q g =
    let o = shut_set slate (named_at s p - 1) l (alias_shut s slate d (named_at s p) w v q) in
    let i : r ≡ inner s slate d (named_at s p) v = g ∙ ap (λ m. beneath s m (opened (named_at s p) slate) (d + 1) (range s (named_at s p)) v) (sym o) in
    sym (go_alias s slate d p w k ∙ ap (λ z. next z (inner s slate d (named_at s p))) (sym q) ∙ sym i)

pub event_ended : (s : Score) (slate : List ℕ) (d p : ℕ) (w : Work) (r : Ended Work) → is_alias_at s p ≡ false → r ≡ event_step s d p w → r ≡ go s slate d p w
event_ended s slate d p w r k q = q ∙ sym (go_other s slate d p w k)
