-- A refusal is for a limit that the unfolding as a whole passes.
use Rattle.std.proofs.Common.{◌≡◌, ℕ, zero, suc, ◌+◌, ◌-◌, ◌<◌, ◌≤◌, Bool, true, false, eqb, ltb, ◌⊎◌, List, [], ◌∷◌, ◌++◌, length, get_or, set, replicate, Some, Err, sym, refl, ap, ◌∙◌, subst, inl, inr, arith}
use Rattle.std.proofs.lemmas.List.{length-append, length-set, get_or-set_same, get_or-set_other, set_past}
use Rattle.std.proofs.lemmas.Bool.{both_ways, eq-eqb, ne_eqb, lt-ltb, cases_eq, cases_lt}
use Rattle.events.specs.declared.score.Event.{Event}
use Rattle.events.specs.declared.score.NodeRange.{NodeRange}
use Rattle.events.specs.Scores.{kind}
use Rattle.events.specs.Nodes.{SoundNodes}
use Rattle.budget.specs.declared.breach.BudgetBreach.{BudgetBreach}
use Rattle.budget.specs.declared.breach.BudgetBreach.TheVariants.{Events, Aliases, Anchors, Depth, Documents, Nodes, ScalarBytes, MergeKeys, AliasAnchorRatio, SequenceUnbalanced}
use Rattle.budget.specs.Counts.{up}
use Rattle.budget.specs.Model.{Model, observed}
use Rattle.budget.specs.Observed.{reference}
use Rattle.budget.specs.Runs.{run as observing}
use Rattle.budget.proofs.Sticks.{remembered, stuck_run}
use Rattle.fragment.specs.declared.answers.FragmentError.{FragmentError}
use Rattle.fragment.specs.declared.answers.FragmentError.TheVariants.{ShortSlate, Unsound, CollectionBreach, UnfoldingBreach, EnforcerBreach, SecondDocument, UnmarkedTarget, OpenRange, Expansions, ReplayDepth, ReplayedTotal, TapeFull}
use Rattle.fragment.specs.Ended.{refused}
use Rattle.fragment.specs.Slate.{opened}
use Rattle.fragment.specs.Relation.{AliasAt, names, from, size, Unfolds, ends, keeps, opens}
use Rattle.fragment.specs.Unfolding.{Score, Work, Opens, named_at, range, event_at, value_bytes, each, step, run, shut, tick}
use Rattle.fragment.specs.Passing.{deepest, openings, replays, values_at, Beyond, Breaks, Passes}
use Rattle.fragment.proofs.Endings.{is, open_range, Ends, next_ends, ends_map, AliasWays, WriteWays, EventWays, enters, step_ends, expanded_at, written_at}
use Rattle.fragment.proofs.Accepting.{alias_is, other_is, observing_more}
use Rattle.fragment.proofs.Knots.{alias_inside}

-- a number that opens is one fewer that is shut
shut_opened : (slate : List ℕ) (i : ℕ) → i < length slate → get_or slate i 0 ≡ 0 → shut slate ≡ suc (shut (set slate i 1))
unfolding shut
shut_opened [] i h z = absurd (omega arith)
shut_opened (x ∷ xs) zero h z = ap (λ b. tick b (shut xs)) (eq-eqb x 0 z)
shut_opened (x ∷ xs) (suc i) h z = at (eqb x 0) (shut_opened xs i (omega arith) z)
  where
    at : (b : Bool) → shut xs ≡ suc (shut (set xs i 1)) → tick b (shut xs) ≡ suc (tick b (shut (set xs i 1)))
    at true e = ap suc e
    at false e = e

pub values_append : (es : List Event) (ps qs : List ℕ) → values_at es (ps ++ qs) ≡ values_at es ps + values_at es qs
unfolding values_at
values_append es [] qs = omega arith
values_append es (p ∷ ps) qs = let i = values_append es ps qs in omega arith

-- in a range that an alias opens all is replayed
pub replays_all : (d : ℕ) → 1 < d → {es : List Event} {p n : ℕ} {out : List ℕ} {a : ℕ} (u : Unfolds es p n out a) → replays d u ≡ length out
unfolding replays
replays_all d h ends = refl
replays_all d h (keeps other u) = ap (λ b. tick b (replays d u)) (lt-ltb 1 d h) ∙ ap suc (replays_all d h u)
replays_all d h (opens {inner = inner} {out = out} alias i u) = ap (λ k. length inner + k) (replays_all d h u) ∙ sym (length-append inner out)

-- one more expansion of number n
more_openings : (xs : List ℕ) (n k : ℕ) → 1 ≤ n → 1 ≤ k → get_or (set xs (n - 1) (up (get_or xs (n - 1) 0) 1)) (k - 1) 0 ≤ tick (eqb n k) (get_or xs (k - 1) 0)
more_openings xs n k one two = at (cases_eq n k) (cases_lt (n - 1) (length xs))
  where
    at : (n ≡ k) ⊎ (n ≡ k → ⊥) → (n - 1 < length xs) ⊎ (length xs ≤ n - 1) → get_or (set xs (n - 1) (up (get_or xs (n - 1) 0) 1)) (k - 1) 0 ≤ tick (eqb n k) (get_or xs (k - 1) 0)
    at (inl e) (inl h) =
        let g = get_or-set_same xs (n - 1) (up (get_or xs (n - 1) 0) 1) 0 h in
        subst (λ j. get_or (set xs (n - 1) (up (get_or xs (n - 1) 0) 1)) (j - 1) 0 ≤ tick (eqb n j) (get_or xs (j - 1) 0)) e (rw (g, eq-eqb n n refl) (omega arith))
    at (inl e) (inr h) = rw (set_past xs (n - 1) (up (get_or xs (n - 1) 0) 1) h, eq-eqb n k e) (omega arith)
    at (inr ne) c =
        let apart : k - 1 ≡ n - 1 → ⊥ = λ z. ne (omega arith) in
        rw (get_or-set_other xs (n - 1) (k - 1) (up (get_or xs (n - 1) 0) 1) 0 apart, ne_eqb n k ne) (omega arith)

-- what is beyond a limit for a part is beyond it for the whole

beyond_more : (limit q k r l : ℕ) → k ≤ l → q + k ≤ r + l → Beyond limit q k → Beyond limit r l
beyond_more limit q k r l h i b = (omega (arith, b), omega (arith, b))

record Part (s : Score) (d : ℕ) (v : Work) {p n : ℕ} {out : List ℕ} {a : ℕ} (y : Unfolds s.events p n out a) (e : ℕ) (w : Work) {q m : ℕ} {all : List ℕ} {b : ℕ} (x : Unfolds s.events q m all b) : Type 0 where
  events : length out ≤ length all
  written : v.counts.written + length out ≤ w.counts.written + length all
  tape : length v.tape + length out ≤ length w.tape + length all
  bytes : v.counts.bytes + values_at s.events out ≤ w.counts.bytes + values_at s.events all
  replaced : a ≤ b
  aliases : v.counts.aliases + a ≤ w.counts.aliases + b
  repeats : replays d y ≤ replays e x
  charged : v.counts.charged + replays d y ≤ w.counts.charged + replays e x
  deep : deepest y ≤ deepest x
  depth : d - 1 + deepest y ≤ e - 1 + deepest x
  often : (k : ℕ) → 1 ≤ k → openings y k ≤ openings x k
  expansions : (k : ℕ) → 1 ≤ k → get_or v.counts.expansions (k - 1) 0 + openings y k ≤ get_or w.counts.expansions (k - 1) 0 + openings x k
  breached : (c : BudgetBreach) → (observing (replicate a reference) v.enforcer).report.breached ≡ Some c → (observing (replicate b reference) w.enforcer).report.breached ≡ Some c

module _ (s : Score) (d : ℕ) (v : Work) {p n : ℕ} {out : List ℕ} {a : ℕ} (y : Unfolds s.events p n out a) (e : ℕ) (w : Work) {q m : ℕ} {all : List ℕ} {b : ℕ} (x : Unfolds s.events q m all b) (part : Part s d v y e w x) where
  breaks_more : (c : BudgetBreach) → Breaks s d v y c → Breaks s e w x c
  breaks_more (Events k) h = beyond_more s.limits.budget.max_events v.counts.written (length out) w.counts.written (length all) part.events part.written h
  breaks_more (Aliases k) h = beyond_more s.limits.budget.max_aliases v.counts.aliases a w.counts.aliases b part.replaced part.aliases h
  breaks_more (ScalarBytes k) h = omega (arith, h, part.bytes)
  breaks_more (Anchors k) h = h
  breaks_more (Depth k) h = h
  breaks_more (Documents k) h = h
  breaks_more (Nodes k) h = h
  breaks_more (MergeKeys k) h = h
  breaks_more (AliasAnchorRatio k l) h = h
  breaks_more SequenceUnbalanced h = h

  passes_more : (c : FragmentError) → Passes s d v y c → Passes s e w x c
  passes_more (UnfoldingBreach c) h = breaks_more c h
  passes_more (EnforcerBreach c) h = (omega (arith, h.0, part.replaced), part.breached c h.1)
  passes_more (Expansions k) h =
      (h.0, h.1, beyond_more s.limits.alias_limits.max_alias_expansions_per_anchor (get_or v.counts.expansions (h.0 - 1) 0) (openings y h.0) (get_or w.counts.expansions (h.0 - 1) 0) (openings x h.0) (part.often h.0 h.1) (part.expansions h.0 h.1) h.2)
  passes_more (ReplayDepth k) h = beyond_more s.limits.alias_limits.max_replay_stack_depth (d - 1) (deepest y) (e - 1) (deepest x) part.deep part.depth h
  passes_more (ReplayedTotal k) h = beyond_more s.limits.alias_limits.max_total_replayed_events v.counts.charged (replays d y) w.counts.charged (replays e x) part.repeats part.charged h
  passes_more TapeFull h = beyond_more 8192 (length v.tape) (length out) (length w.tape) (length all) part.events part.tape h
  passes_more (OpenRange k) h = h
  passes_more (ShortSlate k) h = h
  passes_more (Unsound r) h = h
  passes_more (CollectionBreach c) h = h
  passes_more (SecondDocument k) h = h
  passes_more UnmarkedTarget h = h

-- what is left after a run is at most what there was and what the unfolding takes

pub record Most (s : Score) (d : ℕ) (w v : Work) {p n : ℕ} {out : List ℕ} {a : ℕ} (x : Unfolds s.events p n out a) : Type 0 where
  written : v.counts.written ≤ w.counts.written + length out
  tape : length v.tape ≤ length w.tape + length out
  bytes : v.counts.bytes ≤ w.counts.bytes + values_at s.events out
  aliases : v.counts.aliases ≤ w.counts.aliases + a
  charged : v.counts.charged ≤ w.counts.charged + replays d x
  expansions : (k : ℕ) → 1 ≤ k → get_or v.counts.expansions (k - 1) 0 ≤ get_or w.counts.expansions (k - 1) 0 + openings x k
  enforcer : v.enforcer ≡ observing (replicate a reference) w.enforcer

abbrev pub Gone : Score → ℕ → ℕ → ℕ → Work → Work → Type 0
Gone s d p n w v = (out : List ℕ) (a : ℕ) (x : Unfolds s.events p n out a) → Most s d w v x

-- a refusal of another sort than an open range passes a limit
abbrev pub Exceeds : Score → ℕ → ℕ → ℕ → Work → FragmentError → Work → Type 0
Exceeds s d p n w e v = is e open_range ≡ false → (out : List ℕ) (a : ℕ) (x : Unfolds s.events p n out a) → Passes s d w x e

-- one place is done, and the rest of the unfolding is left
record Peeled (s : Score) (d p n : ℕ) (w v : Work) {all : List ℕ} {b : ℕ} (x : Unfolds s.events p (suc n) all b) : Type 0 where
  out : List ℕ
  count : ℕ
  rest : Unfolds s.events (suc p) n out count
  part : Part s d v rest d w x
  enforcer : observing (replicate count reference) v.enforcer ≡ observing (replicate b reference) w.enforcer

abbrev Peels : Score → ℕ → ℕ → ℕ → Work → Work → Type 0
Peels s d p n w v = (all : List ℕ) (b : ℕ) (x : Unfolds s.events p (suc n) all b) → Peeled s d p n w v x

module _ (s : Score) (d p n : ℕ) (w : Work) where
  -- what the rest leaves
  gone_on : (u v : Work) → Peels s d p n w u → Gone s d (suc p) n u v → Gone s d p (suc n) w v
  gone_on u v peels gone all b x =
      let q = peels all b x in
      let g = gone q.out q.count q.rest in
      record {
        written = omega (arith, g.written, q.part.written);
        tape = omega (arith, g.tape, q.part.tape);
        bytes = omega (arith, g.bytes, q.part.bytes);
        aliases = omega (arith, g.aliases, q.part.aliases);
        charged = omega (arith, g.charged, q.part.charged);
        expansions = λ k h. omega (arith, g.expansions k h, q.part.expansions k h);
        enforcer = g.enforcer ∙ q.enforcer;
      }

  exceeds_on : (u v : Work) (e : FragmentError) → Peels s d p n w u → Exceeds s d (suc p) n u e v → Exceeds s d p (suc n) w e v
  exceeds_on u v e peels exceeds z all b x = let q = peels all b x in passes_more s d u q.rest d w x q.part e (exceeds z q.out q.count q.rest)

-- at an event

tick_most : (b : Bool) (n : ℕ) → n ≤ tick b n
tick_most true n = omega arith
tick_most false n = omega arith

tick_shift : (b : Bool) (c q r t : ℕ) → c ≤ tick b q → r ≤ t → c + r ≤ q + tick b t
tick_shift true c q r t h i = omega arith
tick_shift false c q r t h i = omega arith

-- w with other counts of replays
abbrev pub again : Work → ℕ → ℕ → Work
again w c r =
    record { tape = w.tape; counts = record { aliases = w.counts.aliases; charged = c; replaced = w.counts.replaced; replayed = r; bytes = w.counts.bytes; written = w.counts.written; expansions = w.counts.expansions }; enforcer = w.enforcer }

module _ (s : Score) (d p n : ℕ) (w : Work) where
  event_peels : (AliasAt s.events p → ⊥) → (c r : ℕ) → c ≤ tick (ltb 1 d) w.counts.charged → Peels s d p n w (written_at s p (again w c r))
  unfolding deepest openings replays values_at
  event_peels other c r h all b (opens al i y) = absurd (other al)
  event_peels other c r h all b (keeps {out = out} {a = a} _ y) =
      record {
        out = out;
        count = a;
        rest = y;
        part = record {
          events = omega arith;
          written = omega arith;
          tape = omega (arith, length-append w.tape ((s.base + p) ∷ []));
          bytes = omega arith;
          replaced = omega arith;
          aliases = omega arith;
          repeats = tick_most (ltb 1 d) (replays d y);
          charged = tick_shift (ltb 1 d) c w.counts.charged (replays d y) (replays d y) h (omega arith);
          deep = omega arith;
          depth = omega arith;
          often = λ k _. omega arith;
          expansions = λ k _. omega arith;
          breached = λ _ z. z;
        };
        enforcer = refl;
      }

  module _ (other : AliasAt s.events p → ⊥) where
    heavy_passes : {all : List ℕ} {b : ℕ} → s.limits.budget.max_total_scalar_bytes < up w.counts.bytes (value_bytes (event_at s p)) → Unfolds s.events p (suc n) all b → s.limits.budget.max_total_scalar_bytes < w.counts.bytes + values_at s.events all
    unfolding values_at
    heavy_passes h (opens al i y) = absurd (other al)
    heavy_passes h (keeps _ y) = omega arith

    long_passes : {all : List ℕ} {b : ℕ} (limit q : ℕ) → limit < q + 1 → Unfolds s.events p (suc n) all b → Beyond limit q (length all)
    long_passes limit q h (opens al i y) = absurd (other al)
    long_passes limit q h (keeps _ y) = (omega arith, omega arith)

    much_passes : {all : List ℕ} {b : ℕ} → 1 < d → s.limits.alias_limits.max_total_replayed_events < up w.counts.charged 1 → (x : Unfolds s.events p (suc n) all b) → Beyond s.limits.alias_limits.max_total_replayed_events w.counts.charged (replays d x)
    unfolding replays
    much_passes two h (opens al i y) = absurd (other al)
    much_passes two h (keeps _ y) = rw (lt-ltb 1 d two) (omega arith, omega arith)

  event_ways : (AliasAt s.events p → ⊥) → EventWays (Peels s d p n w) (Exceeds s d p (suc n) w) s d p w
  event_ways other =
      record {
        much = λ two h _ all b x. much_passes other two h x;
        again = λ two _. writes (up w.counts.charged 1) (up w.counts.replayed 1) (rw (lt-ltb 1 d two) (omega arith));
        once = λ h. writes w.counts.charged w.counts.replayed (tick_most (ltb 1 d) w.counts.charged);
      }
    where
      writes : (c r : ℕ) → c ≤ tick (ltb 1 d) w.counts.charged → WriteWays (Peels s d p n w) (Exceeds s d p (suc n) w) s p (again w c r)
      writes c r h =
          record {
            heavy = λ l _ all b x. heavy_passes other l x;
            long = λ l _ all b x. long_passes other s.limits.budget.max_events w.counts.written (omega arith) x;
            full = λ l _ all b x. long_passes other 8192 (length w.tape) (omega arith) x;
            onward = λ _ _ _. event_peels other c r h;
          }

-- at an alias

module _ (s : Score) (d p n : ℕ) (w : Work) (one : 1 ≤ d) (named : 1 ≤ names s.events p) (al : AliasAt s.events p) where
  opened_most : (k i y : ℕ) → 1 ≤ k → i ≤ y → get_or (expanded_at (names s.events p) w w.enforcer).counts.expansions (k - 1) 0 + i ≤ get_or w.counts.expansions (k - 1) 0 + tick (eqb (names s.events p) k) y
  opened_most k i y h le = tick_shift (eqb (names s.events p) k) (get_or (expanded_at (names s.events p) w w.enforcer).counts.expansions (k - 1) 0) (get_or w.counts.expansions (k - 1) 0) i y (more_openings w.counts.expansions (names s.events p) k named h) le

  -- the refusals at the alias itself

  breached_passes : {all : List ℕ} {b : ℕ} (c : BudgetBreach) → (observed reference w.enforcer).1 ≡ Err c → (x : Unfolds s.events p (suc n) all b) → (1 ≤ b) × ((observing (replicate b reference) w.enforcer).report.breached ≡ Some c)
  breached_passes c e (keeps other y) = absurd (other al)
  breached_passes c e (opens {a = a} {b = l} _ i y) =
      let t = remembered c reference w.enforcer e in
      (omega arith, ap (λ (m : Model). m.report.breached) (stuck_run c (replicate (a + l) reference) (observed reference w.enforcer).0 t) ∙ t)

  many_passes : {all : List ℕ} {b : ℕ} → s.limits.budget.max_aliases < up w.counts.aliases 1 → (x : Unfolds s.events p (suc n) all b) → Beyond s.limits.budget.max_aliases w.counts.aliases b
  many_passes h (keeps other y) = absurd (other al)
  many_passes h (opens _ i y) = (omega arith, omega arith)

  often_passes : {all : List ℕ} {b : ℕ} → s.limits.alias_limits.max_alias_expansions_per_anchor < up (get_or w.counts.expansions (names s.events p - 1) 0) 1 → (x : Unfolds s.events p (suc n) all b) → Beyond s.limits.alias_limits.max_alias_expansions_per_anchor (get_or w.counts.expansions (names s.events p - 1) 0) (openings x (names s.events p))
  unfolding openings
  often_passes h (keeps other y) = absurd (other al)
  often_passes h (opens _ i y) = rw (eq-eqb (names s.events p) (names s.events p) refl) (omega arith, omega arith)

  deep_passes : {all : List ℕ} {b : ℕ} → s.limits.alias_limits.max_replay_stack_depth < d → (x : Unfolds s.events p (suc n) all b) → Beyond s.limits.alias_limits.max_replay_stack_depth (d - 1) (deepest x)
  unfolding deepest
  deep_passes h (keeps other y) = absurd (other al)
  deep_passes h (opens _ i y) = (omega arith, omega arith)

  -- the range that it opens

  module _ (m : Model) (now : m ≡ (observed reference w.enforcer).0) where
    inside : Work
    inside = expanded_at (names s.events p) w m

    inner_exceeds : (e : FragmentError) (v : Work) → Exceeds s (d + 1) (from s.events (names s.events p)) (size s.events (names s.events p)) inside e v → Exceeds s d p (suc n) w e v
    unfolding deepest openings replays inside
    inner_exceeds e v exceeds z all b (keeps other y) = absurd (other al)
    inner_exceeds e v exceeds z all b (opens {inner = inner} {out = out} {a = a} {b = l} ali i y) = passes_more s (d + 1) inside i d w (opens ali i y) part e (exceeds z inner a i)
      where
        held : (c : BudgetBreach) → (observing (replicate a reference) m).report.breached ≡ Some c → (observing (replicate (suc (a + l)) reference) w.enforcer).report.breached ≡ Some c
        held c t = ap (λ (k : Model). k.report.breached) (ap (observing (replicate (a + l) reference)) (sym now) ∙ observing_more reference a l m ∙ stuck_run c (replicate l reference) (observing (replicate a reference) m) t) ∙ t

        part : Part s (d + 1) inside i d w (opens ali i y)
        part =
            let h = length-append inner out in
            let g = values_append s.events inner out in
            let r = replays_all (d + 1) (omega arith) i in
            record {
              events = omega arith;
              written = omega arith;
              tape = omega arith;
              bytes = omega arith;
              replaced = omega arith;
              aliases = omega arith;
              repeats = omega arith;
              charged = omega arith;
              deep = omega arith;
              depth = omega arith;
              often = λ k f. omega (arith, tick_most (eqb (names s.events p) k) (openings i k + openings y k));
              expansions = λ k f. opened_most k (openings i k) (openings i k + openings y k) f (omega arith);
              breached = held;
            }

    inner_peels : (v : Work) → Gone s (d + 1) (from s.events (names s.events p)) (size s.events (names s.events p)) inside v → Peels s d p n w v
    unfolding deepest openings replays inside
    inner_peels v gone all b (keeps other y) = absurd (other al)
    inner_peels v gone all b (opens {inner = inner} {out = out} {a = a} {b = l} ali i y) = record { out = out; count = l; rest = y; part = part; enforcer = same }
      where
        most : Most s (d + 1) inside v i
        most = gone inner a i

        same : observing (replicate l reference) v.enforcer ≡ observing (replicate (suc (a + l)) reference) w.enforcer
        same = ap (observing (replicate l reference)) most.enforcer ∙ sym (observing_more reference a l m) ∙ ap (observing (replicate (a + l) reference)) now

        part : Part s d v y d w (opens ali i y)
        part =
            let h = length-append inner out in
            let g = values_append s.events inner out in
            let r = replays_all (d + 1) (omega arith) i in
            record {
              events = omega arith;
              written = omega (arith, most.written);
              tape = omega (arith, most.tape);
              bytes = omega (arith, most.bytes);
              replaced = omega arith;
              aliases = omega (arith, most.aliases);
              repeats = omega arith;
              charged = omega (arith, most.charged);
              deep = omega arith;
              depth = omega arith;
              often = λ k f. omega (arith, tick_most (eqb (names s.events p) k) (openings i k + openings y k));
              expansions = λ k f. omega (arith, most.expansions k f, opened_most k (openings i k + openings y k) (openings i k + openings y k) f (omega arith));
              breached = λ c z. ap (λ (k : Model). k.report.breached) (sym same) ∙ z;
            }

-- with fewer than k numbers shut, a range is done or passes a limit
abbrev pub Fits : Score → ℕ → Opens → Type 0
Fits s k o = (slate : List ℕ) (d : ℕ) (r : NodeRange) (w : Work) → 1 ≤ d → length slate ≡ 256 → shut slate < k → Ends (Gone s d r.first (r.last + 1 - r.first) w) (Exceeds s d r.first (r.last + 1 - r.first) w) (o slate d r w)

nothing_gone : (s : Score) (d p : ℕ) (w : Work) → Gone s d p zero w w
unfolding openings replays values_at
nothing_gone s d p w all b ends =
    record { written = omega arith; tape = omega arith; bytes = omega arith; aliases = omega arith; charged = omega arith; expansions = λ k _. omega arith; enforcer = refl }

module _ (s : Score) (count : ℕ) (sound : SoundNodes s.events count) (few : count ≤ 256) (k : ℕ) (o : Opens) (fits : Fits s k o) (slate : List ℕ) (d : ℕ) (one : 1 ≤ d) (long : length slate ≡ 256) (left : shut slate ≤ k) where
  step_fits : (p n : ℕ) (w : Work) → Ends (Peels s d p n w) (Exceeds s d p (suc n) w) (step s o slate d p w)
  unfolding inside
  step_fits p n w = step_ends (Peels s d p n w) (Exceeds s d p (suc n) w) s o slate d p w (λ b. enter (alias_is (kind (event_at s p)) b)) (λ b. event_ways s d p n w (other_is (kind (event_at s p)) b))
    where
      a : ℕ
      a = named_at s p

      opened_long : length (opened a slate) ≡ 256
      opened_long = length-set slate (a - 1) 1 ∙ long

      enter : AliasAt s.events p → AliasWays (λ u. Ends (Peels s d p n w) (Exceeds s d p (suc n) w) (enters s o slate d p u)) (Exceeds s d p (suc n) w) s slate d a w
      enter al =
          record {
            is_open = λ _ z. absurd (both_ways true z refl);
            breached = λ c e _ all b x. breached_passes s d p n w one named al c e x;
            many = λ _ _ _ h _ all b x. many_passes s d p n w one named al h x;
            often = λ _ h _ all b x. (a, named, often_passes s d p n w one named al h x);
            deep = λ _ h _ all b x. deep_passes s d p n w one named al h x;
            onward = λ m now _ z _ _ _. ends_map (Gone s (d + 1) (range s a).first ((range s a).last + 1 - (range s a).first) (expanded_at a w m)) (Peels s d p n w) (Exceeds s (d + 1) (range s a).first ((range s a).last + 1 - (range s a).first) (expanded_at a w m)) (Exceeds s d p (suc n) w) (enters s o slate d p (expanded_at a w m)) (inner_peels s d p n w one named al m now) (inner_exceeds s d p n w one named al m now) (fits (opened a slate) (d + 1) (range s a) (expanded_at a w m) (omega arith) opened_long (fewer z));
          }
        where
          named : 1 ≤ a
          named = (sound.aliases p (alias_inside s.events p al) al).least

          fewer : get_or slate (a - 1) 0 ≡ 0 → shut (opened a slate) < k
          fewer z =
              let h = (sound.aliases p (alias_inside s.events p al) al).most in
              let i : a - 1 < length slate = omega arith in
              omega (arith, shut_opened slate (a - 1) i z)

  each_fits : (n p : ℕ) (w : Work) → Ends (Gone s d p n w) (Exceeds s d p n w) (each (step s o slate d) p n w)
  unfolding each
  each_fits zero p w = nothing_gone s d p w
  each_fits (suc n) p w =
      next_ends (Gone s d p (suc n) w) (Exceeds s d p (suc n) w) (Peels s d p n w) (step s o slate d p w) (each (step s o slate d) (suc p) n) (step_fits p n w)
      (λ u peels. ends_map (Gone s d (suc p) n u) (Gone s d p (suc n) w) (Exceeds s d (suc p) n u) (Exceeds s d p (suc n) w) (each (step s o slate d) (suc p) n u) (λ v g. gone_on s d p n w u v peels g) (λ e v f. exceeds_on s d p n w u v e peels f) (each_fits n (suc p) u))

-- with at most k numbers shut the bound on ranges within ranges is never met
pub run_fits : (s : Score) (count : ℕ) → SoundNodes s.events count → count ≤ 256 → (k : ℕ) → Fits s (suc k) (run s k)
unfolding run
run_fits s count sound few zero slate d r w one long left =
    each_fits s count sound few zero (λ _ _ _ v. refused TapeFull v) (λ _ _ _ _ _ _ h. absurd (omega arith)) slate d one long (omega arith) (r.last + 1 - r.first) r.first w
run_fits s count sound few (suc k) slate d r w one long left =
    each_fits s count sound few (suc k) (run s k) (run_fits s count sound few k) slate d one long (omega arith) (r.last + 1 - r.first) r.first w
