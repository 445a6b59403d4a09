-- How the steps at an alias and at an event end.
use Rattle.std.proofs.Common.{◌≡◌, ℕ, ◌+◌, ◌-◌, ◌<◌, ◌≤◌, Bool, true, false, cond, eqb, ltb, List, [], ◌∷◌, ◌++◌, length, get_or, Ok, Err, refl}
use Rattle.std.proofs.lemmas.Bool.{eqb-true, eqb-false, ltb-true, ltb-false}
use Rattle.budget.specs.declared.breach.BudgetBreach.{BudgetBreach}
use Rattle.budget.specs.declared.breach.BudgetBreach.TheVariants.{Events, Aliases, Anchors, Depth, Documents, Nodes, ScalarBytes, MergeKeys, AliasAnchorRatio, SequenceUnbalanced}
use Rattle.budget.specs.Counts.{up}
use Rattle.budget.specs.Model.{Model, Outcome, observed}
use Rattle.budget.specs.Observed.{reference}
use Rattle.fragment.specs.declared.answers.FragmentError.{FragmentError}
use Rattle.fragment.specs.declared.answers.FragmentError.TheVariants.{ShortSlate, Unsound, CollectionBreach, SecondDocument, UnmarkedTarget, UnfoldingBreach, EnforcerBreach, OpenRange, Expansions, ReplayDepth, ReplayedTotal, TapeFull}
use Rattle.fragment.specs.Ended.{Ended, went, refused, next, within}
use Rattle.fragment.specs.Slate.{opened}
use Rattle.fragment.specs.Unfolding.{Score, Work, event_at, with_tape, with_counts, with_enforcer, one_alias, charge_alias, referred_by, refer, judge_aliases, one_expansion, expand, judge_depth, alias_step, one_replayed, value_bytes, more_bytes, weigh, one_written, count_event, write, event_step, Opens, is_alias_at, named_at, range, step}

-- the sorts of refusals

abbrev is_aliases : BudgetBreach → Bool
is_aliases (Events n) = false
is_aliases (Aliases n) = true
is_aliases (Anchors n) = false
is_aliases (Depth n) = false
is_aliases (Documents n) = false
is_aliases (Nodes n) = false
is_aliases (ScalarBytes n) = false
is_aliases (MergeKeys n) = false
is_aliases (AliasAnchorRatio n k) = false
is_aliases SequenceUnbalanced = false

abbrev pub open_range : ℕ
open_range = 1

abbrev pub full_tape : ℕ
full_tape = 2

abbrev pub alias_charge : ℕ
alias_charge = 3

abbrev pub sort : FragmentError → ℕ
sort (ShortSlate n) = 0
sort (Unsound r) = 0
sort (CollectionBreach b) = 0
sort (UnfoldingBreach b) = cond (is_aliases b) alias_charge 0
sort (EnforcerBreach b) = 0
sort (SecondDocument p) = 0
sort UnmarkedTarget = 0
sort (OpenRange n) = open_range
sort (Expansions n) = 0
sort (ReplayDepth d) = 0
sort (ReplayedTotal n) = 0
sort TapeFull = full_tape

abbrev pub is : FragmentError → ℕ → Bool
is e k = eqb (sort e) k

-- it went on to what P says, or was refused as R says
abbrev pub Ends : (Work → Type 0) → (FragmentError → Work → Type 0) → Ended Work → Type 0
Ends P R (went w) = P w
Ends P R (refused e w) = R e w

pub ends_map : (P Q : Work → Type 0) (R S : FragmentError → Work → Type 0) (r : Ended Work) → ((w : Work) → P w → Q w) → ((e : FragmentError) (w : Work) → R e w → S e w) → Ends P R r → Ends Q S r
ends_map P Q R S (went w) f g h = f w h
ends_map P Q R S (refused e w) f g h = g e w h

module _ (P : Work → Type 0) (R : FragmentError → Work → Type 0) where
  pub next_ends : (Q : Work → Type 0) (r : Ended Work) (k : Work → Ended Work) → Ends Q R r → ((u : Work) → Q u → Ends P R (k u)) → Ends P R (next r k)
  next_ends Q (went u) k h f = f u h
  next_ends Q (refused e u) k h f = h

  -- a test that refuses where it passes, and then a step
  test_then : (b : Bool) (e : FragmentError) (u w : Work) (k : Work → Ended Work) → (b ≡ true → R e u) → (b ≡ false → Ends P R (k w)) → Ends P R (next (cond b (refused e u) (went w)) k)
  test_then true e u w k stop on = stop refl
  test_then false e u w k stop on = on refl

  test_last : (b : Bool) (e : FragmentError) (u w : Work) → (b ≡ true → R e u) → (b ≡ false → P w) → Ends P R (cond b (refused e u) (went w))
  test_last true e u w stop on = stop refl
  test_last false e u w stop on = on refl

  -- a test that refuses where it fails, and then a step
  pass_then : (b : Bool) (e : FragmentError) (w : Work) (k : Work → Ended Work) → (b ≡ false → R e w) → (b ≡ true → Ends P R (k w)) → Ends P R (next (cond b (went w) (refused e w)) k)
  pass_then true e w k stop on = on refl
  pass_then false e w k stop on = stop refl

  refer_then : (w : Work) (o : Outcome) (k : Work → Ended Work) → ((b : BudgetBreach) → o.1 ≡ Err b → R (EnforcerBreach b) (with_enforcer w o.0)) → (o.1 ≡ Ok tt → Ends P R (k (with_enforcer w o.0))) → Ends P R (next (referred_by w o) k)
  refer_then w (m, Ok u) k stop on = on refl
  refer_then w (m, Err b) k stop on = stop b refl

-- at an alias

-- once the alias is charged, and the enforcer is at m
abbrev pub charged_at : Work → Model → Work
charged_at w m = with_enforcer (with_counts w (one_alias w.counts)) m

-- once the expansion of its number is counted too
abbrev pub expanded_at : ℕ → Work → Model → Work
expanded_at n w m = with_counts (charged_at w m) (one_expansion n (one_alias w.counts))

-- the ways out of the tests at an alias
pub record AliasWays (P : Work → Type 0) (R : FragmentError → Work → Type 0) (s : Score) (slate : List ℕ) (d n : ℕ) (w : Work) : Type 0 where
  pub is_open : (get_or slate (n - 1) 0 ≡ 0 → ⊥) → R (OpenRange n) w
  pub breached : (b : BudgetBreach) → (observed reference w.enforcer).1 ≡ Err b → R (EnforcerBreach b) (charged_at w (observed reference w.enforcer).0)
  pub many : (m : Model) → m ≡ (observed reference w.enforcer).0 → (observed reference w.enforcer).1 ≡ Ok tt → s.limits.budget.max_aliases < up w.counts.aliases 1 → R (UnfoldingBreach (Aliases (up w.counts.aliases 1))) (charged_at w m)
  pub often : (m : Model) → s.limits.alias_limits.max_alias_expansions_per_anchor < up (get_or w.counts.expansions (n - 1) 0) 1 → R (Expansions (up (get_or w.counts.expansions (n - 1) 0) 1)) (expanded_at n w m)
  pub deep : (m : Model) → s.limits.alias_limits.max_replay_stack_depth < d → R (ReplayDepth d) (expanded_at n w m)
  pub onward : (m : Model) → m ≡ (observed reference w.enforcer).0 → (observed reference w.enforcer).1 ≡ Ok tt → get_or slate (n - 1) 0 ≡ 0 → up w.counts.aliases 1 ≤ s.limits.budget.max_aliases → up (get_or w.counts.expansions (n - 1) 0) 1 ≤ s.limits.alias_limits.max_alias_expansions_per_anchor → d ≤ s.limits.alias_limits.max_replay_stack_depth → P (expanded_at n w m)

module _ (P : Work → Type 0) (R : FragmentError → Work → Type 0) (s : Score) (slate : List ℕ) (d n : ℕ) (w : Work) where
  pub alias_ends : AliasWays P R s slate d n w → Ends P R (alias_step s slate d n w)
  alias_ends ways =
      pass_then P R (eqb (get_or slate (n - 1) 0) 0) (OpenRange n) w (λ v. next (charge_alias v) (λ v. next (refer v) judged)) (λ z. ways.is_open (eqb-false (get_or slate (n - 1) 0) 0 z))
      (λ z. refer_then P R (with_counts w (one_alias w.counts)) (observed reference w.enforcer) judged ways.breached (referred (observed reference w.enforcer).0 refl (eqb-true (get_or slate (n - 1) 0) 0 z)))
    where
      deepened : Work → Ended Work
      deepened = judge_depth s.limits.alias_limits d

      judged : Work → Ended Work
      judged v = next (judge_aliases s.limits.budget v) (λ v. next (expand s.limits.alias_limits n v) deepened)

      referred : (m : Model) → m ≡ (observed reference w.enforcer).0 → get_or slate (n - 1) 0 ≡ 0 → (observed reference w.enforcer).1 ≡ Ok tt → Ends P R (judged (charged_at w m))
      referred m e z ok =
          let c = one_alias w.counts in
          let k = up (get_or w.counts.expansions (n - 1) 0) 1 in
          test_then P R (ltb s.limits.budget.max_aliases (up w.counts.aliases 1)) (UnfoldingBreach (Aliases (up w.counts.aliases 1))) (charged_at w m) (charged_at w m) (λ v. next (expand s.limits.alias_limits n v) deepened)
          (λ b. ways.many m e ok (ltb-true s.limits.budget.max_aliases (up w.counts.aliases 1) b))
          (λ b. test_then P R (ltb s.limits.alias_limits.max_alias_expansions_per_anchor k) (Expansions k) (expanded_at n w m) (expanded_at n w m) deepened (λ b. ways.often m (ltb-true s.limits.alias_limits.max_alias_expansions_per_anchor k b))
          (λ x. test_last P R (ltb s.limits.alias_limits.max_replay_stack_depth d) (ReplayDepth d) (expanded_at n w m) (expanded_at n w m) (λ b. ways.deep m (ltb-true s.limits.alias_limits.max_replay_stack_depth d b))
          (λ y. ways.onward m e ok z (ltb-false s.limits.budget.max_aliases (up w.counts.aliases 1) b) (ltb-false s.limits.alias_limits.max_alias_expansions_per_anchor k x) (ltb-false s.limits.alias_limits.max_replay_stack_depth d y))))

-- at another event

-- once the event at place p is replayed, if it is, and its bytes are counted
abbrev pub weighed_at : Score → ℕ → Work → Work
weighed_at s p w = with_counts w (more_bytes (value_bytes (event_at s p)) w.counts)

-- once it is counted too
abbrev pub counted_at : Score → ℕ → Work → Work
counted_at s p w = with_counts w (one_written (more_bytes (value_bytes (event_at s p)) w.counts))

-- once its place is on the tape
abbrev pub written_at : Score → ℕ → Work → Work
written_at s p w = with_tape (counted_at s p w) (w.tape ++ (s.base + p) ∷ [])

abbrev pub replayed_at : Work → Work
replayed_at w = with_counts w (one_replayed w.counts)

-- the ways out of the tests of an event, once it is replayed if it is to be
pub record WriteWays (P : Work → Type 0) (R : FragmentError → Work → Type 0) (s : Score) (p : ℕ) (w : Work) : Type 0 where
  pub heavy : s.limits.budget.max_total_scalar_bytes < up w.counts.bytes (value_bytes (event_at s p)) → R (UnfoldingBreach (ScalarBytes (up w.counts.bytes (value_bytes (event_at s p))))) (weighed_at s p w)
  pub long : s.limits.budget.max_events < up w.counts.written 1 → R (UnfoldingBreach (Events (up w.counts.written 1))) (counted_at s p w)
  pub full : 8192 ≤ length w.tape → R TapeFull (counted_at s p w)
  pub onward : up w.counts.bytes (value_bytes (event_at s p)) ≤ s.limits.budget.max_total_scalar_bytes → up w.counts.written 1 ≤ s.limits.budget.max_events → length w.tape < 8192 → P (written_at s p w)

-- the ways out of the tests of an event
pub record EventWays (P : Work → Type 0) (R : FragmentError → Work → Type 0) (s : Score) (d p : ℕ) (w : Work) : Type 0 where
  pub much : 1 < d → s.limits.alias_limits.max_total_replayed_events < up w.counts.charged 1 → R (ReplayedTotal (up w.counts.charged 1)) (replayed_at w)
  pub again : 1 < d → up w.counts.charged 1 ≤ s.limits.alias_limits.max_total_replayed_events → WriteWays P R s p (replayed_at w)
  pub once : d ≤ 1 → WriteWays P R s p w

module _ (P : Work → Type 0) (R : FragmentError → Work → Type 0) (s : Score) (d p : ℕ) where
  write_ends : (w : Work) → (length w.tape < 8192 → P (with_tape w (w.tape ++ (s.base + p) ∷ []))) → (8192 ≤ length w.tape → R TapeFull w) → Ends P R (write (s.base + p) w)
  write_ends w on stop = at (ltb (length w.tape) 8192) refl
    where
      at : (b : Bool) → ltb (length w.tape) 8192 ≡ b → Ends P R (within (with_tape w) (cond b (went (w.tape ++ (s.base + p) ∷ [])) (refused TapeFull w.tape)))
      at true b = on (ltb-true (length w.tape) 8192 b)
      at false b = stop (ltb-false (length w.tape) 8192 b)

  weigh_ends : (w : Work) → WriteWays P R s p w → Ends P R (next (weigh s.limits.budget (event_at s p) w) (λ v. next (count_event s.limits.budget v) (write (s.base + p))))
  weigh_ends w ways =
      let k = up w.counts.bytes (value_bytes (event_at s p)) in
      let n = up w.counts.written 1 in
      test_then P R (ltb s.limits.budget.max_total_scalar_bytes k) (UnfoldingBreach (ScalarBytes k)) (weighed_at s p w) (weighed_at s p w) (λ v. next (count_event s.limits.budget v) (write (s.base + p))) (λ b. ways.heavy (ltb-true s.limits.budget.max_total_scalar_bytes k b))
      (λ a. test_then P R (ltb s.limits.budget.max_events n) (UnfoldingBreach (Events n)) (counted_at s p w) (counted_at s p w) (write (s.base + p)) (λ b. ways.long (ltb-true s.limits.budget.max_events n b))
      (λ b. write_ends (counted_at s p w) (ways.onward (ltb-false s.limits.budget.max_total_scalar_bytes k a) (ltb-false s.limits.budget.max_events n b)) ways.full))

  pub event_ends : (w : Work) → EventWays P R s d p w → Ends P R (event_step s d p w)
  event_ends w ways = at (ltb 1 d) refl
    where
      k : ℕ
      k = up w.counts.charged 1

      rest : Work → Ended Work
      rest v = next (weigh s.limits.budget (event_at s p) v) (λ v. next (count_event s.limits.budget v) (write (s.base + p)))

      at : (b : Bool) → ltb 1 d ≡ b → Ends P R (next (cond b (cond (ltb s.limits.alias_limits.max_total_replayed_events k) (refused (ReplayedTotal k) (replayed_at w)) (went (replayed_at w))) (went w)) rest)
      at true b =
          test_then P R (ltb s.limits.alias_limits.max_total_replayed_events k) (ReplayedTotal k) (replayed_at w) (replayed_at w) rest (λ z. ways.much (ltb-true 1 d b) (ltb-true s.limits.alias_limits.max_total_replayed_events k z))
          (λ z. weigh_ends (replayed_at w) (ways.again (ltb-true 1 d b) (ltb-false s.limits.alias_limits.max_total_replayed_events k z)))
      at false b = weigh_ends w (ways.once (ltb-false 1 d b))

-- at one place of an open range

-- the range that an alias opens
abbrev pub enters : Score → Opens → List ℕ → ℕ → ℕ → Work → Ended Work
enters s o slate d p = o (opened (named_at s p) slate) (d + 1) (range s (named_at s p))

module _ (P : Work → Type 0) (R : FragmentError → Work → Type 0) (s : Score) (o : Opens) (slate : List ℕ) (d p : ℕ) (w : Work) where
  pub step_ends : (is_alias_at s p ≡ true → AliasWays (λ u. Ends P R (enters s o slate d p u)) R s slate d (named_at s p) w) → (is_alias_at s p ≡ false → EventWays P R s d p w) → Ends P R (step s o slate d p w)
  unfolding step
  step_ends alias other = at (is_alias_at s p) refl
    where
      Q : Work → Type 0
      Q u = Ends P R (enters s o slate d p u)

      at : (b : Bool) → is_alias_at s p ≡ b → Ends P R (cond {A = Work → Ended Work} b (λ (v : Work). next (alias_step s slate d (named_at s p) v) (enters s o slate d p)) (λ (v : Work). event_step s d p v) w)
      at true b = next_ends P R Q (alias_step s slate d (named_at s p) w) (enters s o slate d p) (alias_ends Q R s slate d (named_at s p) w (alias b)) (λ u h. h)
      at false b = event_ends P R s d p w (other b)
