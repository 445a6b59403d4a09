-- What every step keeps, a whole run keeps; so the enforcer answers before the alias charge is judged.
use Rattle.std.proofs.Common.{◌≡◌, ℕ, zero, suc, ◌+◌, ◌-◌, ◌<◌, ◌≤◌, Bool, true, false, cond, ltb, List, Ok, Err, sym, refl, subst, arith}
use Rattle.std.proofs.lemmas.Bool.{ltb-false}
use Rattle.events.specs.declared.score.NodeRange.{NodeRange}
use Rattle.budget.specs.declared.breach.BudgetBreach.{BudgetBreach}
use Rattle.budget.specs.declared.breach.BudgetBreach.TheVariants.{Events, Aliases}
use Rattle.budget.specs.Counts.{Answer, up, count_event, count_alias}
use Rattle.budget.specs.Model.{Model, Outcome, on_good, counting, observed}
use Rattle.budget.specs.Observed.{reference}
use Rattle.budget.proofs.Sticks.{counted_well, remembered}
use Rattle.fragment.specs.declared.answers.FragmentError.{FragmentError}
use Rattle.fragment.specs.declared.answers.FragmentError.TheVariants.{TapeFull}
use Rattle.fragment.specs.Ended.{refused}
use Rattle.fragment.specs.Slate.{opened}
use Rattle.fragment.specs.Unfolding.{Score, Work, Opens, named_at, range, each, step, run}
use Rattle.fragment.specs.Laws.{Cause}
use Rattle.fragment.proofs.Endings.{is, alias_charge, Ends, next_ends, AliasWays, WriteWays, EventWays, enters, step_ends, expanded_at, replayed_at}

abbrev Keeps : (Work → Type 0) → (FragmentError → Work → Type 0) → Opens → Type 0
Keeps I R o = (slate : List ℕ) (d : ℕ) (r : NodeRange) (w : Work) → I w → Ends I R (o slate d r w)

module _ (I : Work → Type 0) (R : FragmentError → Work → Type 0) (s : Score) (alias : (slate : List ℕ) (d n : ℕ) (w : Work) → I w → AliasWays I R s slate d n w) (event : (d p : ℕ) (w : Work) → I w → EventWays I R s d p w) where
  each_keeps : (o : Opens) → Keeps I R o → (slate : List ℕ) (d n p : ℕ) (w : Work) → I w → Ends I R (each (step s o slate d) p n w)
  unfolding each
  each_keeps o keeps slate d zero p w i = i
  each_keeps o keeps slate d (suc n) p w i =
      next_ends I R I (step s o slate d p w) (each (step s o slate d) (suc p) n) (step_ends I R s o slate d p w (λ _. entered (alias slate d (named_at s p) w i)) (λ _. event d p w i)) (λ u j. each_keeps o keeps slate d n (suc p) u j)
    where
      entered : AliasWays I R s slate d (named_at s p) w → AliasWays (λ u. Ends I R (enters s o slate d p u)) R s slate d (named_at s p) w
      entered a =
          record {
            is_open = a.is_open;
            breached = a.breached;
            many = a.many;
            often = a.often;
            deep = a.deep;
            onward = λ m e ok z few x y. keeps (opened (named_at s p) slate) (d + 1) (range s (named_at s p)) (expanded_at (named_at s p) w m) (a.onward m e ok z few x y);
          }

  pub run_keeps : ((w : Work) → I w → R TapeFull w) → (k : ℕ) → Keeps I R (run s k)
  unfolding run
  run_keeps full zero slate d r w i = each_keeps (λ _ _ _ v. refused TapeFull v) (λ _ _ _ v j. full v j) slate d (r.last + 1 - r.first) r.first w i
  run_keeps full (suc k) slate d r w i = each_keeps (run s k) (run_keeps full k) slate d (r.last + 1 - r.first) r.first w i

-- what a good alias reference leaves

pub record Referred (m n : Model) : Type 0 where
  budget : n.budget ≡ m.budget
  aliases : n.report.aliases ≡ up m.report.aliases 1
  few : up m.report.aliases 1 ≤ m.budget.max_aliases
  pub clean : n.report.breached ≡ m.report.breached

never_good : {X : Type 0} (b : BudgetBreach) → ◌≡◌ {A = Answer} (Err b) (Ok tt) → X
never_good b e = let z : ◌≡◌ {A = ℕ} 0 1 = cc in absurd (omega arith)

pub referred : (m : Model) → (observed reference m).1 ≡ Ok tt → Referred m (observed reference m).0
referred m e =
    let c = counted_well reference m e in
    subst (Referred m) (sym c.1) (at (ltb m.budget.max_events (up m.report.events 1)) (ltb m.budget.max_aliases (up m.report.aliases 1)) refl c.0)
  where
    first : Model
    first = (counting count_event m).0

    second : Model
    second = (counting count_alias first).0

    one : Bool → Answer
    one a = cond a (Err (Events (up m.report.events 1))) (Ok tt)

    two : Bool → Answer
    two b = cond b (Err (Aliases (up m.report.aliases 1))) (Ok tt)

    whole : Bool → Bool → Outcome
    whole a b = on_good (one a) (second, two b) (first, one a)

    at : (a b : Bool) → ltb m.budget.max_aliases (up m.report.aliases 1) ≡ b → (whole a b).1 ≡ Ok tt → Referred m (whole a b).0
    at true b h ok = never_good (Events (up m.report.events 1)) ok
    at false true h ok = never_good (Aliases (up m.report.aliases 1)) ok
    at false false h ok = record { budget = refl; aliases = refl; clean = refl; few = ltb-false m.budget.max_aliases (up m.report.aliases 1) h }

abbrev pub Another : FragmentError → Work → Type 0
Another e w = is e alias_charge ≡ false

-- the enforcer allows no more aliases, and has counted no fewer than were charged
pub record Ahead (s : Score) (w : Work) : Type 0 where
  pub stricter : w.enforcer.budget.max_aliases ≤ s.limits.budget.max_aliases
  pub more : w.counts.aliases ≤ w.enforcer.report.aliases

ahead_alias : (s : Score) (slate : List ℕ) (d n : ℕ) (w : Work) → Ahead s w → AliasWays (Ahead s) Another s slate d n w
ahead_alias s slate d n w i =
    record { is_open = λ _. refl; breached = λ _ _. refl; many = λ m e ok f. absurd (late m ok f); often = λ _ _. refl; deep = λ _ _. refl; onward = λ m e ok _ _ _ _. subst (λ k. Ahead s (expanded_at n w k)) (sym e) (ahead ok) }
  where
    late : (m : Model) → (observed reference w.enforcer).1 ≡ Ok tt → s.limits.budget.max_aliases < up w.counts.aliases 1 → ⊥
    late m ok f = let r = referred w.enforcer ok in omega (arith, r.few, i.stricter, i.more)

    ahead : (observed reference w.enforcer).1 ≡ Ok tt → Ahead s (expanded_at n w (observed reference w.enforcer).0)
    ahead ok =
        let r = referred w.enforcer ok in
        record { stricter = subst (λ b. b.max_aliases ≤ s.limits.budget.max_aliases) (sym r.budget) i.stricter; more = subst (λ k. up w.counts.aliases 1 ≤ k) (sym r.aliases) (omega (arith, i.more)) }

ahead_event : (s : Score) (d p : ℕ) (w : Work) → Ahead s w → EventWays (Ahead s) Another s d p w
ahead_event s d p w i = record { much = λ _ _. refl; again = λ _ _. writes (replayed_at w) j; once = λ _. writes w i }
  where
    j : Ahead s (replayed_at w)
    j = record { stricter = i.stricter; more = i.more }

    writes : (v : Work) → Ahead s v → WriteWays (Ahead s) Another s p v
    writes v k = record { heavy = λ _. refl; long = λ _. refl; full = λ _. refl; onward = λ _ _ _. record { stricter = k.stricter; more = k.more } }

pub run_ahead : (s : Score) (k : ℕ) → Keeps (Ahead s) Another (run s k)
run_ahead s k = run_keeps (Ahead s) Another s (ahead_alias s) (ahead_event s) (λ _ _. refl) k

-- the causes of refusals

abbrev pub Caused : Score → FragmentError → Work → Type 0
Caused s e w = Cause s w.enforcer e

abbrev pub Always : Work → Type 0
Always w = Unit {0}

pub run_caused : (s : Score) (k : ℕ) → Keeps Always (Caused s) (run s k)
run_caused s k = run_keeps Always (Caused s) s alias event (λ _ _. tt) k
  where
    alias : (slate : List ℕ) (d n : ℕ) (w : Work) → Always w → AliasWays Always (Caused s) s slate d n w
    alias slate d n w i = record { is_open = λ _. tt; breached = λ b e. remembered b reference w.enforcer e; many = λ _ _ _ h. h; often = λ _ h. h; deep = λ _ h. h; onward = λ _ _ _ _ _ _ _. tt }

    writes : (p : ℕ) (v : Work) → WriteWays Always (Caused s) s p v
    writes p v = record { heavy = λ h. h; long = λ h. h; full = λ _. tt; onward = λ _ _ _. tt }

    event : (d p : ℕ) (w : Work) → Always w → EventWays Always (Caused s) s d p w
    event d p w i = record { much = λ _ h. h; again = λ _ _. writes p (replayed_at w); once = λ _. writes p w }
