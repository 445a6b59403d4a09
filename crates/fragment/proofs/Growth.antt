-- Whatever an unfolding answers, its tape only grows.
use Rattle.std.proofs.Common.{◌≡◌, ℕ, zero, suc, ◌+◌, ◌-◌, Bool, true, false, cond, eqb, ltb, List, [], ◌∷◌, ◌++◌, length, get_or, Ok, Err, sym, refl, ap, ◌∙◌}
use Rattle.std.proofs.lemmas.List.{append-nil, append_assoc}
use Rattle.budget.specs.declared.limits.AliasLimits.{AliasLimits}
use Rattle.budget.specs.Model.{Outcome, observed}
use Rattle.budget.specs.Observed.{reference}
use Rattle.events.specs.declared.score.NodeRange.{NodeRange}
use Rattle.fragment.specs.declared.answers.FragmentError.{FragmentError}
use Rattle.fragment.specs.declared.answers.FragmentError.TheVariants.{OpenRange, ReplayDepth, TapeFull}
use Rattle.fragment.specs.Ended.{Ended, went, refused, next, within}
use Rattle.fragment.specs.Slate.{opened}
use Rattle.fragment.specs.Unfolding.{Score, Work, Opens, alias_step, charge_alias, count_event, each, event_at, event_step, expand, is_alias_at, judge_aliases, judge_depth, named_at, range, refer, referred_by, replay, run, step, try_closed, weigh, with_tape, write}
use Rattle.fragment.proofs.AliasSteps.{charging, expanding, judging, referring}
use Rattle.fragment.proofs.Steps.{beneath}

abbrev pub left : Ended Work → Work
left (went w) = w
left (refused x w) = w

abbrev pub Grown : Work → Ended Work → Type 0
Grown w r = (out : List ℕ) × ((left r).tape ≡ w.tape ++ out)

abbrev Grows : (Work → Ended Work) → Type 0
Grows f = (w : Work) → Grown w (f w)

-- the tape is as it was
still : (w : Work) (r : Ended Work) → (left r).tape ≡ w.tape → Grown w r
still w r e = ([], e ∙ sym (append-nil w.tape))

either : (b : Bool) (w : Work) (r r' : Ended Work) → Grown w r → Grown w r' → Grown w (cond b r r')
either true w r r' g g' = g
either false w r r' g g' = g'

next_grows : (w : Work) (r : Ended Work) (k : Work → Ended Work) → Grown w r → Grows k → Grown w (next r k)
next_grows w (went u) k g h =
    let i = h u in
    (g.0 ++ i.0, i.1 ∙ ap (λ t. t ++ i.0) g.1 ∙ append_assoc w.tape g.0 i.0)
next_grows w (refused x u) k g h = g

judged : (b : Bool) (w : Work) (v u : Work) (x : FragmentError) → v.tape ≡ w.tape → u.tape ≡ w.tape → Grown w (cond b (refused x v) (went u))
judged b w v u x e e' = either b w (refused x v) (went u) (still w (refused x v) e) (still w (went u) e')

refer_by : (w : Work) (o : Outcome) → Grown w (referred_by w o)
refer_by w (m, Ok x) = still w (referred_by w (m, Ok x)) refl
refer_by w (m, Err b) = still w (referred_by w (m, Err b)) refl

depth_grows : (l : AliasLimits) (d : ℕ) → Grows (judge_depth l d)
depth_grows l d w = judged (ltb l.max_replay_stack_depth d) w w w (ReplayDepth d) refl refl

expanding_grows : (s : Score) (d n : ℕ) → Grows (expanding s d n)
expanding_grows s d n w =
    next_grows w (expand s.limits.alias_limits n w) (judge_depth s.limits.alias_limits d) (judged _ w _ _ _ refl refl) (depth_grows s.limits.alias_limits d)

judging_grows : (s : Score) (d n : ℕ) → Grows (judging s d n)
judging_grows s d n w =
    next_grows w (judge_aliases s.limits.budget w) (expanding s d n) (judged _ w _ _ _ refl refl) (expanding_grows s d n)

referring_grows : (s : Score) (d n : ℕ) → Grows (referring s d n)
referring_grows s d n w =
    next_grows w (refer w) (judging s d n) (refer_by w (observed reference w.enforcer)) (judging_grows s d n)

charging_grows : (s : Score) (d n : ℕ) → Grows (charging s d n)
charging_grows s d n w =
    next_grows w (charge_alias w) (referring s d n) (still w (charge_alias w) refl) (referring_grows s d n)

alias_grows : (s : Score) (slate : List ℕ) (d n : ℕ) → Grows (alias_step s slate d n)
alias_grows s slate d n w =
    next_grows w (try_closed slate n w) (charging s d n) (either (eqb (get_or slate (n - 1) 0) 0) w (went w) (refused (OpenRange n) w) (still w (went w) refl) (still w (refused (OpenRange n) w) refl)) (charging_grows s d n)

replay_grows : (l : AliasLimits) (d : ℕ) → Grows (replay l d)
replay_grows l d w = either (ltb 1 d) w _ (went w) (judged _ w _ _ _ refl refl) (still w (went w) refl)

write_grows : (p : ℕ) → Grows (write p)
write_grows p w = at (ltb (length w.tape) 8192)
  where
    at : (b : Bool) → Grown w (within (with_tape w) (cond b (went (w.tape ++ p ∷ [])) (refused TapeFull w.tape)))
    at true = (p ∷ [], refl)
    at false = still w (refused TapeFull w) refl

event_grows : (s : Score) (d p : ℕ) → Grows (event_step s d p)
event_grows s d p w =
    next_grows w (replay s.limits.alias_limits d w) _ (replay_grows s.limits.alias_limits d w) (λ v. next_grows v (weigh s.limits.budget (event_at s p) v) _ (judged _ v _ _ _ refl refl) (λ v. next_grows v (count_event s.limits.budget v) _ (judged _ v _ _ _ refl refl) (write_grows (s.base + p))))

abbrev AllGrow : Opens → Type 0
AllGrow o = (slate : List ℕ) (d : ℕ) (r : NodeRange) → Grows (o slate d r)

step_grows : (s : Score) (o : Opens) → AllGrow o → (slate : List ℕ) (d p : ℕ) → Grows (step s o slate d p)
unfolding step
step_grows s o all slate d p w = at (is_alias_at s p)
  where
    at : (b : Bool) → Grown w (cond {A = Work → Ended Work} b (λ (v : Work). next (alias_step s slate d (named_at s p) v) (o (opened (named_at s p) slate) (d + 1) (range s (named_at s p)))) (λ (v : Work). event_step s d p v) w)
    at true = next_grows w (alias_step s slate d (named_at s p) w) (o (opened (named_at s p) slate) (d + 1) (range s (named_at s p))) (alias_grows s slate d (named_at s p) w) (all (opened (named_at s p) slate) (d + 1) (range s (named_at s p)))
    at false = event_grows s d p w

each_grows : (f : ℕ → Work → Ended Work) → ((p : ℕ) → Grows (f p)) → (n p : ℕ) → Grows (each f p n)
unfolding each
each_grows f h zero p w = still w (went w) refl
each_grows f h (suc n) p w = next_grows w (f p w) (each f (suc p) n) (h p w) (each_grows f h n (suc p))

pub run_grows : (s : Score) (k : ℕ) → AllGrow (run s k)
unfolding run
run_grows s zero slate d r w =
    each_grows (step s (beneath s zero) slate d) (step_grows s (beneath s zero) (λ _ _ _ v. still v (refused TapeFull v) refl) slate d) (r.last + 1 - r.first) r.first w
run_grows s (suc k) slate d r w =
    each_grows (step s (run s k) slate d) (step_grows s (run s k) (run_grows s k) slate d) (r.last + 1 - r.first) r.first w
