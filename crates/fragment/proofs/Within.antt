-- An accepted unfolding passes no limit.
use Rattle.std.proofs.Common.{◌≡◌, ℕ, zero, suc, ◌+◌, ◌-◌, ◌^◌, ◌<◌, ◌≤◌, max, Bool, true, false, eqb, ltb, ◌⊎◌, List, [], ◌∷◌, ◌++◌, length, get_or, set, replicate, Some, None, Ok, sym, refl, ap, ◌∙◌, subst, inl, inr, arith}
use Rattle.std.proofs.lemmas.List.{length-append, length-set, get_or-set_same, get_or-set_other}
use Rattle.std.proofs.lemmas.Bool.{eq-eqb, ne_eqb, lt-ltb, le-ltb, cases_eq}
use Rattle.events.specs.declared.score.NodeRange.{NodeRange}
use Rattle.events.specs.Scores.{kind}
use Rattle.events.specs.Nodes.{SoundNodes}
use Rattle.budget.specs.declared.breach.BudgetBreach.{BudgetBreach}
use Rattle.budget.specs.declared.breach.BudgetBreach.TheVariants.{Events, Aliases, Anchors, Depth, Documents, Nodes, ScalarBytes, MergeKeys, AliasAnchorRatio, SequenceUnbalanced}
use Rattle.budget.specs.Counts.{up}
use Rattle.budget.specs.Model.{Model, observed}
use Rattle.budget.specs.Observed.{reference}
use Rattle.budget.specs.Runs.{run as observing}
use Rattle.budget.proofs.Bounds.{Bounds}
use Rattle.budget.proofs.Sticks.{counted_well}
use Rattle.fragment.specs.declared.answers.FragmentError.{FragmentError}
use Rattle.fragment.specs.declared.answers.FragmentError.TheVariants.{ShortSlate, Unsound, CollectionBreach, UnfoldingBreach, EnforcerBreach, SecondDocument, UnmarkedTarget, OpenRange, Expansions, ReplayDepth, ReplayedTotal, TapeFull}
use Rattle.fragment.specs.Ended.{refused}
use Rattle.fragment.specs.Slate.{opened}
use Rattle.fragment.specs.Relation.{AliasAt, names, from, size, Unfolds, ends, keeps, opens}
use Rattle.fragment.specs.Unfolding.{Score, Work, Opens, named_at, range, event_at, value_bytes, each, step, run, tick}
use Rattle.fragment.specs.Passing.{deepest, openings, replays, values_at, Beyond, Breaks, Passes}
use Rattle.fragment.proofs.Endings.{Ends, next_ends, ends_map, AliasWays, WriteWays, EventWays, enters, step_ends, expanded_at, written_at}
use Rattle.fragment.proofs.Accepting.{Any, alias_is, other_is, observing_more}
use Rattle.fragment.proofs.Keeping.{referred}
use Rattle.fragment.proofs.Knots.{alias_inside}
use Rattle.fragment.proofs.Passing.{again, values_append, replays_all}

-- k more behind q, if there are any, do not pass a limit
abbrev Room : ℕ → ℕ → ℕ → Type 0
Room limit q k = (k ≡ 0) ⊎ (q + k ≤ limit)

-- some, and then some more
room_join : (limit q k r l total : ℕ) → total ≡ k + l → r ≡ q + k → Room limit q k → Room limit r l → Room limit q total
room_join limit q k r l total t e (inl a) (inl b) = inl (omega arith)
room_join limit q k r l total t e (inr a) (inl b) = inr (omega arith)
room_join limit q k r l total t e (inl a) (inr b) = inr (omega arith)
room_join limit q k r l total t e (inr a) (inr b) = inr (omega arith)

room_deep : (limit d i y : ℕ) → 1 ≤ d → d ≤ limit → Room limit (d + 1 - 1) i → Room limit (d - 1) y → Room limit (d - 1) (max (suc i) y)
room_deep limit d i y one h (inl a) (inl b) = inr (omega arith)
room_deep limit d i y one h (inr a) (inl b) = inr (omega arith)
room_deep limit d i y one h (inl a) (inr b) = inr (omega arith)
room_deep limit d i y one h (inr a) (inr b) = inr (omega arith)

room_beyond : (limit q k : ℕ) → Room limit q k → Beyond limit q k → ⊥
room_beyond limit q k (inl a) b = omega (arith, b.0)
room_beyond limit q k (inr a) b = omega (arith, b.1)

-- what an unfolding takes is within every limit, where w is what there was before it and d ranges are open
pub record Free (s : Score) (d : ℕ) (w : Work) {p n : ℕ} {out : List ℕ} {a : ℕ} (x : Unfolds s.events p n out a) : Type 0 where
  events : Room s.limits.budget.max_events w.counts.written (length out)
  bytes : w.counts.bytes + values_at s.events out ≤ s.limits.budget.max_total_scalar_bytes
  aliases : Room s.limits.budget.max_aliases w.counts.aliases a
  replayed : Room s.limits.alias_limits.max_total_replayed_events w.counts.charged (replays d x)
  depth : Room s.limits.alias_limits.max_replay_stack_depth (d - 1) (deepest x)
  expansions : (k : ℕ) → 1 ≤ k → Room s.limits.alias_limits.max_alias_expansions_per_anchor (get_or w.counts.expansions (k - 1) 0) (openings x k)
  tape : Room 8192 (length w.tape) (length out)
  enforcer : (a ≡ 0) ⊎ ((observing (replicate a reference) w.enforcer).report.breached ≡ None)

module _ (s : Score) (d : ℕ) (w : Work) {p n : ℕ} {out : List ℕ} {a : ℕ} (x : Unfolds s.events p n out a) (free : Free s d w x) where
  free_breaks : (b : BudgetBreach) → Breaks s d w x b → ⊥
  free_breaks (Events k) h = room_beyond s.limits.budget.max_events w.counts.written (length out) free.events h
  free_breaks (Aliases k) h = room_beyond s.limits.budget.max_aliases w.counts.aliases a free.aliases h
  free_breaks (ScalarBytes k) h = omega (arith, h, free.bytes)
  free_breaks (Anchors k) h = h
  free_breaks (Depth k) h = h
  free_breaks (Documents k) h = h
  free_breaks (Nodes k) h = h
  free_breaks (MergeKeys k) h = h
  free_breaks (AliasAnchorRatio k l) h = h
  free_breaks SequenceUnbalanced h = h

  free_enforcer : (b : BudgetBreach) → (a ≡ 0) ⊎ ((observing (replicate a reference) w.enforcer).report.breached ≡ None) → 1 ≤ a → (observing (replicate a reference) w.enforcer).report.breached ≡ Some b → ⊥
  free_enforcer b (inl z) one e = omega arith
  free_enforcer b (inr z) one e = let f : Some b ≡ None = sym e ∙ z in let g : ◌≡◌ {A = ℕ} 0 1 = cc f in omega arith

  pub free_passes : (e : FragmentError) → Passes s d w x e → ⊥
  free_passes (UnfoldingBreach b) h = free_breaks b h
  free_passes (EnforcerBreach b) h = free_enforcer b free.enforcer h.0 h.1
  free_passes (Expansions k) h = room_beyond s.limits.alias_limits.max_alias_expansions_per_anchor (get_or w.counts.expansions (h.0 - 1) 0) (openings x h.0) (free.expansions h.0 h.1) h.2
  free_passes (ReplayDepth k) h = room_beyond s.limits.alias_limits.max_replay_stack_depth (d - 1) (deepest x) free.depth h
  free_passes (ReplayedTotal k) h = room_beyond s.limits.alias_limits.max_total_replayed_events w.counts.charged (replays d x) free.replayed h
  free_passes TapeFull h = room_beyond 8192 (length w.tape) (length out) free.tape h
  free_passes (OpenRange k) h = h
  free_passes (ShortSlate k) h = h
  free_passes (Unsound r) h = h
  free_passes (CollectionBreach b) h = h
  free_passes (SecondDocument k) h = h
  free_passes UnmarkedTarget h = h

-- what an unfolding adds, exactly
record Grew (s : Score) (d : ℕ) (w v : Work) {p n : ℕ} {out : List ℕ} {a : ℕ} (x : Unfolds s.events p n out a) : Type 0 where
  written : v.counts.written ≡ w.counts.written + length out
  bytes : v.counts.bytes ≡ w.counts.bytes + values_at s.events out
  aliases : v.counts.aliases ≡ w.counts.aliases + a
  charged : v.counts.charged ≡ w.counts.charged + replays d x
  expansions : (k : ℕ) → 1 ≤ k → get_or v.counts.expansions (k - 1) 0 ≡ get_or w.counts.expansions (k - 1) 0 + openings x k
  tape : length v.tape ≡ length w.tape + length out
  enforcer : v.enforcer ≡ observing (replicate a reference) w.enforcer

-- 256 numbers may expand, and the bytes so far are within their limit
pub record Ready (s : Score) (w : Work) : Type 0 where
  pub long : length w.counts.expansions ≡ 256
  pub light : w.counts.bytes ≤ s.limits.budget.max_total_scalar_bytes

-- what a run leaves
pub record Done (s : Score) (d p n : ℕ) (w v : Work) : Type 0 where
  pub ready : Ready s v
  grew : (out : List ℕ) (a : ℕ) (x : Unfolds s.events p n out a) → Grew s d w v x
  free : (out : List ℕ) (a : ℕ) (x : Unfolds s.events p n out a) → Free s d w x

nothing_done : (s : Score) (d p : ℕ) (w : Work) → Ready s w → Done s d p zero w w
unfolding deepest openings replays values_at
nothing_done s d p w ready = record { ready = ready; grew = grew; free = free }
  where
    grew : (out : List ℕ) (a : ℕ) (x : Unfolds s.events p zero out a) → Grew s d w w x
    grew out a ends = record { written = omega arith; bytes = omega arith; aliases = omega arith; charged = omega arith; expansions = λ k _. omega arith; tape = omega arith; enforcer = refl }

    free : (out : List ℕ) (a : ℕ) (x : Unfolds s.events p zero out a) → Free s d w x
    free out a ends = record { events = inl refl; bytes = omega (arith, ready.light); aliases = inl refl; replayed = inl refl; depth = inl refl; expansions = λ k _. inl refl; tape = inl refl; enforcer = inl refl }

-- at an event

module _ (s : Score) (d p n : ℕ) (w : Work) (b : Bounds s.limits.budget s.limits.alias_limits) (ready : Ready s w) (other : AliasAt s.events p → ⊥) (more c r : ℕ) (ticks : (t : ℕ) → tick (ltb 1 d) t ≡ more + t) (raised : c ≡ w.counts.charged + more) (room : Room s.limits.alias_limits.max_total_replayed_events w.counts.charged more) (light : up w.counts.bytes (value_bytes (event_at s p)) ≤ s.limits.budget.max_total_scalar_bytes) (short : up w.counts.written 1 ≤ s.limits.budget.max_events) (fits : length w.tape < 8192) (v : Work) (done : Done s d (suc p) n (written_at s p (again w c r)) v) where
  longer : length (w.tape ++ (s.base + p) ∷ []) ≡ length w.tape + 1
  longer = length-append w.tape ((s.base + p) ∷ [])

  event_grew : (all : List ℕ) (l : ℕ) (x : Unfolds s.events p (suc n) all l) → Grew s d w v x
  unfolding openings replays values_at
  event_grew all l (opens al i y) = absurd (other al)
  event_grew all l (keeps {out = out} {a = a} _ y) =
      let g = done.grew out a y in
      record {
        written = omega (arith, g.written, b.events);
        bytes = omega (arith, g.bytes, b.scalars);
        aliases = g.aliases;
        charged = omega (arith, g.charged, ticks (replays d y));
        expansions = g.expansions;
        tape = omega (arith, g.tape, longer);
        enforcer = g.enforcer;
      }

  event_free : (all : List ℕ) (l : ℕ) (x : Unfolds s.events p (suc n) all l) → Free s d w x
  unfolding deepest openings replays values_at
  event_free all l (opens al i y) = absurd (other al)
  event_free all l (keeps {out = out} {a = a} _ y) =
      let f = done.free out a y in
      record {
        events = room_join s.limits.budget.max_events w.counts.written 1 (up w.counts.written 1) (length out) (suc (length out)) (omega arith) (omega (arith, b.events)) (inr (omega (arith, b.events))) f.events;
        bytes = omega (arith, f.bytes, b.scalars);
        aliases = f.aliases;
        replayed = room_join s.limits.alias_limits.max_total_replayed_events w.counts.charged more c (replays d y) (tick (ltb 1 d) (replays d y)) (ticks (replays d y)) raised room f.replayed;
        depth = f.depth;
        expansions = f.expansions;
        tape = room_join 8192 (length w.tape) 1 (length (w.tape ++ (s.base + p) ∷ [])) (length out) (suc (length out)) (omega arith) longer (inr (omega arith)) f.tape;
        enforcer = f.enforcer;
      }

  event_done : Done s d p (suc n) w v
  event_done = record { ready = done.ready; grew = event_grew; free = event_free }

-- at an alias

tick_add : (b : Bool) (t : ℕ) → tick b t ≡ tick b 0 + t
tick_add true t = omega arith
tick_add false t = omega arith

module _ (xs : List ℕ) (n k limit : ℕ) (one : 1 ≤ n) (two : 1 ≤ k) (small : n - 1 < length xs) (often : up (get_or xs (n - 1) 0) 1 ≤ limit) (low : limit ≤ 2 ^ 30) where
  exact_openings : get_or (set xs (n - 1) (up (get_or xs (n - 1) 0) 1)) (k - 1) 0 ≡ get_or xs (k - 1) 0 + tick (eqb n k) 0
  exact_openings = at (cases_eq n k)
    where
      at : (n ≡ k) ⊎ (n ≡ k → ⊥) → get_or (set xs (n - 1) (up (get_or xs (n - 1) 0) 1)) (k - 1) 0 ≡ get_or xs (k - 1) 0 + tick (eqb n k) 0
      at (inl e) =
          let h : up (get_or xs (n - 1) 0) 1 ≡ get_or xs (n - 1) 0 + 1 = omega arith in
          subst (λ j. get_or (set xs (n - 1) (up (get_or xs (n - 1) 0) 1)) (j - 1) 0 ≡ get_or xs (j - 1) 0 + tick (eqb n j) 0) e (rw (get_or-set_same xs (n - 1) (up (get_or xs (n - 1) 0) 1) 0 small, eq-eqb n n refl) h)
      at (inr ne) =
          let apart : k - 1 ≡ n - 1 → ⊥ = λ z. ne (omega arith) in
          rw (get_or-set_other xs (n - 1) (k - 1) (up (get_or xs (n - 1) 0) 1) 0 apart, ne_eqb n k ne) (omega arith)

  room_opening : Room limit (get_or xs (k - 1) 0) (tick (eqb n k) 0)
  room_opening = at (cases_eq n k)
    where
      at : (n ≡ k) ⊎ (n ≡ k → ⊥) → Room limit (get_or xs (k - 1) 0) (tick (eqb n k) 0)
      at (inl e) = subst (λ j. Room limit (get_or xs (j - 1) 0) (tick (eqb n j) 0)) e (rw (eq-eqb n n refl) (inr (omega arith)))
      at (inr ne) = rw (ne_eqb n k ne) (inl refl)

-- no breach after the first of some references, after the next, or after the last
clean_all : (a l : ℕ) (m v : Model) → m.report.breached ≡ None → v ≡ observing (replicate a reference) m → (a ≡ 0) ⊎ ((observing (replicate a reference) m).report.breached ≡ None) → (l ≡ 0) ⊎ ((observing (replicate l reference) v).report.breached ≡ None) → (observing (replicate (a + l) reference) m).report.breached ≡ None
clean_all a l m v first e i y = ap (λ (k : Model). k.report.breached) (observing_more reference a l m ∙ ap (observing (replicate l reference)) (sym e)) ∙ rest y
  where
    inner : (a ≡ 0) ⊎ ((observing (replicate a reference) m).report.breached ≡ None) → (observing (replicate a reference) m).report.breached ≡ None
    inner (inl z) = ap (λ k. (observing (replicate k reference) m).report.breached) z ∙ first
    inner (inr z) = z

    rest : (l ≡ 0) ⊎ ((observing (replicate l reference) v).report.breached ≡ None) → (observing (replicate l reference) v).report.breached ≡ None
    rest (inl z) = ap (λ k. (observing (replicate k reference) v).report.breached) z ∙ ap (λ (k : Model). k.report.breached) e ∙ inner i
    rest (inr z) = z

module _ (s : Score) (d p n : ℕ) (w : Work) (b : Bounds s.limits.budget s.limits.alias_limits) (one : 1 ≤ d) (named : 1 ≤ names s.events p) (small : names s.events p - 1 < length w.counts.expansions) (al : AliasAt s.events p) (m : Model) (now : m ≡ (observed reference w.enforcer).0) (ok : (observed reference w.enforcer).1 ≡ Ok tt) (few : up w.counts.aliases 1 ≤ s.limits.budget.max_aliases) (often : up (get_or w.counts.expansions (names s.events p - 1) 0) 1 ≤ s.limits.alias_limits.max_alias_expansions_per_anchor) (deep : d ≤ s.limits.alias_limits.max_replay_stack_depth) (u v : Work) (inner-done : Done s (d + 1) (from s.events (names s.events p)) (size s.events (names s.events p)) (expanded_at (names s.events p) w m) u) (done : Done s d (suc p) n u v) where
  expanded_is : (k : ℕ) → 1 ≤ k → get_or (expanded_at (names s.events p) w m).counts.expansions (k - 1) 0 ≡ get_or w.counts.expansions (k - 1) 0 + tick (eqb (names s.events p) k) 0
  expanded_is k h = exact_openings w.counts.expansions (names s.events p) k s.limits.alias_limits.max_alias_expansions_per_anchor named h small often b.expansions

  clean : m.report.breached ≡ None
  clean = ap (λ (k : Model). k.report.breached) now ∙ (referred w.enforcer ok).clean ∙ (counted_well reference w.enforcer ok).2

  alias_grew : (all : List ℕ) (t : ℕ) (x : Unfolds s.events p (suc n) all t) → Grew s d w v x
  unfolding openings replays
  alias_grew all t (keeps other y) = absurd (other al)
  alias_grew all t (opens {inner = inner} {out = out} {a = a} {b = l} ali i y) =
      let g = inner-done.grew inner a i in
      let h = done.grew out l y in
      let len = length-append inner out in
      let val = values_append s.events inner out in
      let rep = replays_all (d + 1) (omega arith) i in
      record {
        written = omega (arith, g.written, h.written);
        bytes = omega (arith, g.bytes, h.bytes);
        aliases = omega (arith, g.aliases, h.aliases, b.aliases);
        charged = omega (arith, g.charged, h.charged);
        expansions = λ k f. omega (arith, g.expansions k f, h.expansions k f, expanded_is k f, tick_add (eqb (names s.events p) k) (openings i k + openings y k));
        tape = omega (arith, g.tape, h.tape);
        enforcer = h.enforcer ∙ ap (observing (replicate l reference)) g.enforcer ∙ sym (observing_more reference a l m) ∙ ap (observing (replicate (a + l) reference)) now;
      }

  alias_free : (all : List ℕ) (t : ℕ) (x : Unfolds s.events p (suc n) all t) → Free s d w x
  unfolding deepest openings replays
  alias_free all t (keeps other y) = absurd (other al)
  alias_free all t (opens {inner = inner} {out = out} {a = a} {b = l} ali i y) =
      let g = inner-done.grew inner a i in
      let f = inner-done.free inner a i in
      let h = done.free out l y in
      let val = values_append s.events inner out in
      let rep = replays_all (d + 1) (omega arith) i in
      record {
        events = room_join s.limits.budget.max_events w.counts.written (length inner) u.counts.written (length out) (length (inner ++ out)) (length-append inner out) g.written f.events h.events;
        bytes = omega (arith, g.bytes, h.bytes);
        aliases = room_join s.limits.budget.max_aliases w.counts.aliases (suc a) u.counts.aliases l (suc (a + l)) (omega arith) (omega (arith, g.aliases, b.aliases)) (room_join s.limits.budget.max_aliases w.counts.aliases 1 (up w.counts.aliases 1) a (suc a) (omega arith) (omega (arith, b.aliases)) (inr (omega (arith, b.aliases))) f.aliases) h.aliases;
        replayed = room_join s.limits.alias_limits.max_total_replayed_events w.counts.charged (length inner) u.counts.charged (replays d y) (length inner + replays d y) refl (omega (arith, g.charged)) (subst (Room s.limits.alias_limits.max_total_replayed_events w.counts.charged) rep f.replayed) h.replayed;
        depth = room_deep s.limits.alias_limits.max_replay_stack_depth d (deepest i) (deepest y) one deep f.depth h.depth;
        expansions = λ k e. opened k e (openings i k) (openings y k) (f.expansions k e) (h.expansions k e) (g.expansions k e);
        tape = room_join 8192 (length w.tape) (length inner) (length u.tape) (length out) (length (inner ++ out)) (length-append inner out) g.tape f.tape h.tape;
        enforcer = inr (ap (λ (k : Model). (observing (replicate (a + l) reference) k).report.breached) (sym now) ∙ clean_all a l m u.enforcer clean g.enforcer f.enforcer h.enforcer);
      }
    where
      limit : ℕ
      limit = s.limits.alias_limits.max_alias_expansions_per_anchor

      opened : (k : ℕ) → 1 ≤ k → (i y : ℕ) → Room limit (get_or (expanded_at (names s.events p) w m).counts.expansions (k - 1) 0) i → Room limit (get_or u.counts.expansions (k - 1) 0) y → get_or u.counts.expansions (k - 1) 0 ≡ get_or (expanded_at (names s.events p) w m).counts.expansions (k - 1) 0 + i → Room limit (get_or w.counts.expansions (k - 1) 0) (tick (eqb (names s.events p) k) (i + y))
      opened k e i y r q g =
          let t = tick (eqb (names s.events p) k) 0 in
          let x = expanded_is k e in
          room_join limit (get_or w.counts.expansions (k - 1) 0) (t + i) (get_or u.counts.expansions (k - 1) 0) y (tick (eqb (names s.events p) k) (i + y)) (omega (arith, tick_add (eqb (names s.events p) k) (i + y))) (omega arith) (room_join limit (get_or w.counts.expansions (k - 1) 0) t (get_or (expanded_at (names s.events p) w m).counts.expansions (k - 1) 0) i (t + i) refl x (room_opening w.counts.expansions (names s.events p) k limit named e small often b.expansions) r) q

  alias_done : Done s d p (suc n) w v
  alias_done = record { ready = done.ready; grew = alias_grew; free = alias_free }

-- a range goes on to what its places lead to

abbrev Leads : Score → ℕ → ℕ → Work → Work → Type 0
Leads s d p w u = Ready s u × ((n : ℕ) (v : Work) → Done s d (suc p) n u v → Done s d p (suc n) w v)

abbrev pub Good : Score → Opens → Type 0
Good s o = (slate : List ℕ) (d : ℕ) (r : NodeRange) (w : Work) → 1 ≤ d → Ready s w → Ends (Done s d r.first (r.last + 1 - r.first) w) Any (o slate d r w)

module _ (s : Score) (b : Bounds s.limits.budget s.limits.alias_limits) (count : ℕ) (sound : SoundNodes s.events count) (most : count ≤ 256) where
  module _ (o : Opens) (good : Good s o) (slate : List ℕ) (d : ℕ) (one : 1 ≤ d) where
    step_done : (p : ℕ) (w : Work) → Ready s w → Ends (Leads s d p w) Any (step s o slate d p w)
    step_done p w ready = step_ends (Leads s d p w) Any s o slate d p w (λ x. enter (alias_is (kind (event_at s p)) x)) (λ x. write (other_is (kind (event_at s p)) x))
      where
        a : ℕ
        a = named_at s p

        ready_inside : (m : Model) → Ready s (expanded_at a w m)
        ready_inside m = record { long = length-set w.counts.expansions (a - 1) (up (get_or w.counts.expansions (a - 1) 0) 1) ∙ ready.long; light = ready.light }

        enter : AliasAt s.events p → AliasWays (λ u. Ends (Leads s d p w) Any (enters s o slate d p u)) Any s slate d a w
        enter al =
            let h = sound.aliases p (alias_inside s.events p al) al in
            record {
              is_open = λ _. tt;
              breached = λ _ _. tt;
              many = λ _ _ _ _. tt;
              often = λ _ _. tt;
              deep = λ _ _. tt;
              onward = λ m now ok _ few often deep. ends_map (Done s (d + 1) (range s a).first ((range s a).last + 1 - (range s a).first) (expanded_at a w m)) (Leads s d p w) Any Any (enters s o slate d p (expanded_at a w m)) (λ u inner. (inner.ready, λ n v done. alias_done s d p n w b one h.least (omega (arith, h.least, h.most, ready.long)) al m now ok few often deep u v inner done)) (λ _ _ x. x) (good (opened a slate) (d + 1) (range s a) (expanded_at a w m) (omega arith) (ready_inside m));
            }

        writes : (AliasAt s.events p → ⊥) → (more c r : ℕ) → ((t : ℕ) → tick (ltb 1 d) t ≡ more + t) → c ≡ w.counts.charged + more → Room s.limits.alias_limits.max_total_replayed_events w.counts.charged more → WriteWays (Leads s d p w) Any s p (again w c r)
        writes other more c r ticks raised room =
            record { heavy = λ _. tt; long = λ _. tt; full = λ _. tt; onward = λ light short fits. (record { long = ready.long; light = light }, λ n v done. event_done s d p n w b ready other more c r ticks raised room light short fits v done) }

        write : (AliasAt s.events p → ⊥) → EventWays (Leads s d p w) Any s d p w
        write other =
            record {
              much = λ _ _. tt;
              again = λ two few. writes other 1 (up w.counts.charged 1) (up w.counts.replayed 1) (λ t. rw (lt-ltb 1 d two) (omega arith)) (omega (arith, b.replayed)) (inr (omega (arith, b.replayed)));
              once = λ h. writes other 0 w.counts.charged w.counts.replayed (λ t. rw (le-ltb 1 d h) (omega arith)) (omega arith) (inl refl);
            }

    each_done : (n p : ℕ) (w : Work) → Ready s w → Ends (Done s d p n w) Any (each (step s o slate d) p n w)
    unfolding each
    each_done zero p w ready = nothing_done s d p w ready
    each_done (suc n) p w ready =
        next_ends (Done s d p (suc n) w) Any (Leads s d p w) (step s o slate d p w) (each (step s o slate d) (suc p) n) (step_done p w ready)
        (λ u leads. ends_map (Done s d (suc p) n u) (Done s d p (suc n) w) Any Any (each (step s o slate d) (suc p) n u) (λ v done. leads.1 n v done) (λ _ _ x. x) (each_done n (suc p) u leads.0))

  pub run_done : (k : ℕ) → Good s (run s k)
  unfolding run
  run_done zero slate d r w one ready = each_done (λ _ _ _ v. refused TapeFull v) (λ _ _ _ _ _ _. tt) slate d one (r.last + 1 - r.first) r.first w ready
  run_done (suc k) slate d r w one ready = each_done (run s k) (run_done k) slate d one (r.last + 1 - r.first) r.first w ready

-- so nothing is beyond a limit
pub done_passes : (s : Score) (d p n : ℕ) (w v : Work) → Done s d p n w v → (out : List ℕ) (a : ℕ) (x : Unfolds s.events p n out a) (e : FragmentError) → Passes s d w x e → ⊥
done_passes s d p n w v done out a x e h = free_passes s d w x (done.free out a x) e h
