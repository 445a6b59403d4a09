-- The laws of unfolding.
use Rattle.std.proofs.Common.{◌≡◌, ℕ, ◌+◌, ◌-◌, ◌<◌, ◌≤◌, Bool, true, false, ◌⊎◌, List, [], ◌++◌, map, length, get_or, replicate, Ok, Err, Result, sym, refl, ap, ◌∙◌, subst, inl, inr, arith}
use Rattle.std.proofs.lemmas.List.{append-nil, get_or-set_other, get_or-replicate, get_or_past, length-replicate, length-set}
use Rattle.std.proofs.lemmas.Bool.{cases_eq, cases_lt, both_ways}
use Rattle.events.specs.Nodes.{range_of, SoundNodes}
use Rattle.budget.specs.declared.breach.BudgetBreach.TheVariants.{Aliases}
use Rattle.budget.specs.Limits.{allowed}
use Rattle.budget.specs.Model.{Model}
use Rattle.budget.proofs.Bounds.{bounds}
use Rattle.fragment.specs.declared.answers.Charges.{Charges}
use Rattle.fragment.specs.declared.answers.Passage.{Passage}
use Rattle.fragment.specs.declared.answers.FragmentError.{FragmentError}
use Rattle.fragment.specs.declared.answers.FragmentError.TheVariants.{OpenRange, UnfoldingBreach}
use Rattle.fragment.specs.Ended.{Ended, went, refused}
use Rattle.fragment.specs.Slate.{blank, opened}
use Rattle.fragment.specs.Unfolding.{Score, Work, run, shut, range, passage_of, Unfolded, answered, unfolded}
use Rattle.fragment.specs.Relation.{from, size, Knot, own}
use Rattle.fragment.specs.Laws.{own_events, AcceptedIsTheUnfolding, ARefusalLeavesTheTape, TheTapeOnlyGrows, AnOpenRangeShowsAKnot, AKnotIsNeverAccepted, TheEnforcerAnswersBeforeTheAliasCharge, Cause, ARefusalHasItsCause, start, ARefusedUnfoldingPassesTheLimit, UnfoldsWithin, IsAccepted, AcceptedExactlyIfItUnfoldsWithinTheLimits}
use Rattle.fragment.proofs.Endings.{is, open_range, Ends}
use Rattle.fragment.proofs.Passing.{Gone, Exceeds, run_fits}
use Rattle.fragment.proofs.Within.{Ready, Done, run_done, done_passes}
use Rattle.fragment.proofs.Keeping.{Ahead, Another, run_ahead, Caused, Always, run_caused}
use Rattle.fragment.proofs.Knots.{Held, Tied, run_tied, unfolds_no_knot}
use Rattle.fragment.proofs.Accepting.{Written, run_written, counted_exactly}

-- how the range of a target ends
abbrev ran : Score → ℕ → List ℕ → Charges → Model → Ended Work
ran s n t c m = run s (shut (opened n blank)) (opened n blank) 1 (range s n) (start t c m)

record Went (t : List ℕ) (r : Ended Work) (p : Passage) : Type 0 where
  work : Work
  ending : r ≡ went work
  passage : p ≡ passage_of work.counts
  left : answered t r ≡ answered t (went work)

ok_went : (t : List ℕ) (r : Ended Work) (p : Passage) → (answered t r).answer ≡ Ok p → Went t r p
ok_went t (went w) p e = record { work = w; ending = refl; passage = cc; left = refl }
ok_went t (refused x w) p e = let z : ◌≡◌ {A = ℕ} 0 1 = cc in absurd (omega arith)

err_refused : (t : List ℕ) (r : Ended Work) (x : FragmentError) → (answered t r).answer ≡ Err x → (w : Work) × (r ≡ refused x w) × ((answered t r).tape ≡ t) × ((answered t r).enforcer ≡ w.enforcer)
err_refused t (went w) x e = let z : ◌≡◌ {A = ℕ} 0 1 = cc in absurd (omega arith)
err_refused t (refused y w) x e = (w, cc, refl, refl)

module _ (s : Score) (n : ℕ) (t : List ℕ) (c : Charges) (m : Model) where
  all_written : (w : Work) → ran s n t c m ≡ went w → Written s 1 (range s n).first ((range s n).last + 1 - (range s n).first) (start t c m) w
  all_written w e =
      subst (Ends (Written s 1 (range s n).first ((range s n).last + 1 - (range s n).first) (start t c m)) (λ _ _. Unit {0})) e (run_written s (shut (opened n blank)) (opened n blank) 1 (range s n) (start t c m) (omega arith))

pub accepted_is_the_unfolding : AcceptedIsTheUnfolding
unfolding unfolded
accepted_is_the_unfolding s lawful n t c m passage e =
    let k = ok_went t (ran s n t c m) passage e in
    let u = all_written s n t c m k.work k.ending in
    let x = counted_exactly s (range s n).first ((range s n).last + 1 - (range s n).first) (start t c m) k.work (bounds s.limits lawful) refl refl refl u in
    record {
      out = u.out;
      aliases = u.aliases;
      unfolds = u.unfolds;
      tape = ap (λ (v : Unfolded). v.tape) k.left ∙ u.tape;
      events = ap (λ (p : Passage). p.events) k.passage ∙ x.written;
      replaced = ap (λ (p : Passage). p.aliases) k.passage ∙ x.replaced;
      replayed = ap (λ (p : Passage). p.replayed + own_events s.events (from s.events n) (size s.events n)) k.passage ∙ x.replayed;
      charged_aliases = ap (λ (v : Unfolded). v.charges.aliases) k.left ∙ x.charged_aliases ∙ ap (λ (p : Passage). c.aliases + p.aliases) (sym k.passage);
      charged_replayed = ap (λ (v : Unfolded). v.charges.replayed) k.left ∙ x.charged_replayed ∙ ap (λ (p : Passage). c.replayed + p.replayed) (sym k.passage);
      enforcer = ap (λ (v : Unfolded). v.enforcer) k.left ∙ u.enforcer;
    }

pub a_refusal_leaves_the_tape : ARefusalLeavesTheTape
unfolding unfolded
a_refusal_leaves_the_tape s n t c m x e = (err_refused t (ran s n t c m) x e).2

pub the_tape_only_grows : TheTapeOnlyGrows
unfolding unfolded
the_tape_only_grows s n t c m = at (ran s n t c m) refl
  where
    at : (r : Ended Work) → ran s n t c m ≡ r → (out : List ℕ) × ((answered t r).tape ≡ t ++ out)
    at (went w) e = let u = all_written s n t c m w e in (map (λ p. s.base + p) u.out, u.tape)
    at (refused x w) e = ([], sym (append-nil t))

-- knots

blank_at : (i : ℕ) → get_or blank i 0 ≡ 0
unfolding blank
blank_at i = at (cases_lt i 256)
  where
    at : (i < 256) ⊎ (256 ≤ i) → ◌≡◌ {A = ℕ} (get_or (replicate 256 0) i 0) 0
    at (inl h) = get_or-replicate 256 i 0 0 h
    at (inr h) = get_or_past (replicate 256 0) i 0 (omega (arith, length-replicate {A = ℕ} 256 0))

-- with the target's range alone open
first_held : (s : Score) (n : ℕ) → 1 ≤ n → Held s.events n (opened n blank) (range s n).last
first_held s n one q o nz = at (cases_eq (q - 1) (n - 1))
  where
    at : (q - 1 ≡ n - 1) ⊎ (q - 1 ≡ n - 1 → ⊥) → Knot s.events n ⊎ ((range s n).last ≤ (range_of s.events q).last)
    at (inl d) = let f : q ≡ n = omega arith in inr (subst (λ z. (range s n).last ≤ (range_of s.events z).last) (sym f) (omega arith))
    at (inr ne) = absurd (nz (get_or-set_other blank (n - 1) (q - 1) 1 0 ne ∙ blank_at (q - 1)))

pub an_open_range_shows_a_knot : AnOpenRangeShowsAKnot
unfolding unfolded
an_open_range_shows_a_knot s k sound n one t c m x e =
    let r = err_refused t (ran s n t c m) (OpenRange x) e in
    let h = run_tied s k sound n (shut (opened n blank)) (opened n blank) 1 (range s n) (start t c m) (λ p a b. own (a, b)) (first_held s n one) in
    subst (Ends (λ _. Unit {0}) (Tied s.events n)) r.1 h refl

pub a_knot_is_never_accepted : AKnotIsNeverAccepted
unfolding unfolded
a_knot_is_never_accepted s k sound n t c m passage knot e =
    let w = ok_went t (ran s n t c m) passage e in
    let u = all_written s n t c m w.work w.ending in
    unfolds_no_knot s.events k sound n u.out u.aliases u.unfolds knot

pub the_enforcer_answers_before_the_alias_charge : TheEnforcerAnswersBeforeTheAliasCharge
unfolding unfolded
the_enforcer_answers_before_the_alias_charge s n t c m stricter more x e =
    let r = err_refused t (ran s n t c m) (UnfoldingBreach (Aliases x)) e in
    let h = run_ahead s (shut (opened n blank)) (opened n blank) 1 (range s n) (start t c m) (record { stricter = stricter; more = more }) in
    both_ways true (subst (Ends (Ahead s) Another) r.1 h) refl

pub a_refusal_has_its_cause : ARefusalHasItsCause
unfolding unfolded
a_refusal_has_its_cause s n t c m x e =
    let r = err_refused t (ran s n t c m) x e in
    let h = run_caused s (shut (opened n blank)) (opened n blank) 1 (range s n) (start t c m) tt in
    subst (λ (k : Model). Cause s k x) (sym r.3) (subst (Ends Always (Caused s)) r.1 h)

first_long : (n : ℕ) → length (opened n blank) ≡ 256
unfolding blank
first_long n = length-set blank (n - 1) 1 ∙ length-replicate {A = ℕ} 256 0

-- a refusal that is no open range
other_sort : (e : FragmentError) → (b : Bool) → is e open_range ≡ b → (is e open_range ≡ true → ⊥) → is e open_range ≡ false
other_sort e true z h = absurd (h z)
other_sort e false z h = z

pub a_refused_unfolding_passes_the_limit : ARefusedUnfoldingPassesTheLimit
unfolding unfolded
a_refused_unfolding_passes_the_limit s k sound few n one t c m x e out a u =
    let r = err_refused t (ran s n t c m) x e in
    let tied = run_tied s k sound n (shut (opened n blank)) (opened n blank) 1 (range s n) (start t c m) (λ p a b. own (a, b)) (first_held s n one) in
    let h = run_fits s k sound few (shut (opened n blank)) (opened n blank) 1 (range s n) (start t c m) (omega arith) (first_long n) (omega arith) in
    let never : is x open_range ≡ true → ⊥ = λ z. unfolds_no_knot s.events k sound n out a u (subst (Ends (λ _. Unit {0}) (Tied s.events n)) r.1 tied z) in
    subst (Ends (Gone s 1 (range s n).first ((range s n).last + 1 - (range s n).first) (start t c m)) (Exceeds s 1 (range s n).first ((range s n).last + 1 - (range s n).first) (start t c m))) r.1 h (other_sort x (is x open_range) refl never) out a u

first_ready : (s : Score) (t : List ℕ) (c : Charges) (m : Model) → Ready s (start t c m)
unfolding blank
first_ready s t c m = record { long = length-replicate {A = ℕ} 256 0; light = omega arith }

module _ (s : Score) (lawful : allowed s.limits ≡ true) (k : ℕ) (sound : SoundNodes s.events k) (few : k ≤ 256) (n : ℕ) (one : 1 ≤ n) (t : List ℕ) (c : Charges) (m : Model) where
  only_within : IsAccepted s n t c m → UnfoldsWithin s n t c m
  unfolding unfolded
  only_within (passage, e) =
      let w = ok_went t (ran s n t c m) passage e in
      let u = all_written s n t c m w.work w.ending in
      let r = run_done s (bounds s.limits lawful) k sound few (shut (opened n blank)) (opened n blank) 1 (range s n) (start t c m) (omega arith) (first_ready s t c m) in
      let done = subst (Ends (Done s 1 (range s n).first ((range s n).last + 1 - (range s n).first) (start t c m)) (λ _ _. Unit {0})) w.ending r in
      record { out = u.out; aliases = u.aliases; unfolds = u.unfolds; within = done_passes s 1 (range s n).first ((range s n).last + 1 - (range s n).first) (start t c m) w.work done u.out u.aliases u.unfolds }

  all_within : UnfoldsWithin s n t c m → IsAccepted s n t c m
  all_within u = at (unfolded s n t c m).answer refl
    where
      at : (r : Result Passage FragmentError) → (unfolded s n t c m).answer ≡ r → IsAccepted s n t c m
      at (Ok passage) e = (passage, e)
      at (Err x) e = absurd (u.within x (a_refused_unfolding_passes_the_limit s k sound few n one t c m x e u.out u.aliases u.unfolds))

pub accepted_exactly_if_it_unfolds_within_the_limits : AcceptedExactlyIfItUnfoldsWithinTheLimits
accepted_exactly_if_it_unfolds_within_the_limits s lawful k sound few n one t c m = (only_within s lawful k sound few n one t c m, all_within s lawful k sound few n one t c m)
