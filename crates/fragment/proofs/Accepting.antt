-- What is written unfolds what was read, and is counted exactly.
use Rattle.std.proofs.Common.{◌≡◌, ℕ, zero, suc, ◌+◌, ◌-◌, ◌^◌, ◌<◌, ◌≤◌, Bool, true, false, cond, not, ltb, List, [], ◌∷◌, ◌++◌, map, length, get_or, replicate, Some, None, Option, sym, refl, ap, ◌∙◌, arith}
use Rattle.std.proofs.lemmas.List.{append-nil, append_assoc, map-append, length-append}
use Rattle.std.proofs.lemmas.Bool.{both_ways, lt-ltb, le-ltb}
use Rattle.events.specs.declared.score.Event.{Event}
use Rattle.events.specs.declared.score.NodeRange.{NodeRange}
use Rattle.events.specs.declared.kinds.EventKind.{EventKind}
use Rattle.events.specs.declared.kinds.EventKind.TheVariants.{StreamStart, StreamEnd, DocumentStart, DocumentEnd, Alias, Scalar, SequenceStart, SequenceEnd, MappingStart, MappingEnd}
use Rattle.events.specs.Scores.{kind, no_event}
use Rattle.events.specs.Rules.{is_alias}
use Rattle.budget.specs.Counts.{up}
use Rattle.budget.specs.Model.{Model, observed}
use Rattle.budget.specs.Observed.{Input, reference}
use Rattle.budget.specs.Runs.{run as observing}
use Rattle.budget.proofs.Bounds.{Bounds}
use Rattle.fragment.specs.declared.answers.FragmentError.{FragmentError}
use Rattle.fragment.specs.declared.answers.FragmentError.TheVariants.{TapeFull}
use Rattle.fragment.specs.Ended.{refused}
use Rattle.fragment.specs.Slate.{opened}
use Rattle.fragment.specs.Relation.{Unfolds, ends, keeps, opens}
use Rattle.fragment.specs.Unfolding.{Score, Counts, Work, Opens, is_alias_at, named_at, range, one_alias, one_expansion, one_replayed, more_bytes, one_written, value_bytes, event_at, each, step, run, tick}
use Rattle.fragment.specs.Laws.{own_events}
use Rattle.fragment.proofs.Endings.{Ends, next_ends, ends_map, AliasWays, EventWays, enters, step_ends, expanded_at, replayed_at, written_at}

-- the kind alias, and every other
pub alias_is : (o : Option EventKind) → is_alias o ≡ true → o ≡ Some Alias
alias_is None e = absurd (both_ways false refl e)
alias_is (Some StreamStart) e = absurd (both_ways false refl e)
alias_is (Some StreamEnd) e = absurd (both_ways false refl e)
alias_is (Some DocumentStart) e = absurd (both_ways false refl e)
alias_is (Some DocumentEnd) e = absurd (both_ways false refl e)
alias_is (Some Alias) e = refl
alias_is (Some Scalar) e = absurd (both_ways false refl e)
alias_is (Some SequenceStart) e = absurd (both_ways false refl e)
alias_is (Some SequenceEnd) e = absurd (both_ways false refl e)
alias_is (Some MappingStart) e = absurd (both_ways false refl e)
alias_is (Some MappingEnd) e = absurd (both_ways false refl e)

pub other_is : (o : Option EventKind) → is_alias o ≡ false → o ≡ Some Alias → ⊥
other_is o f e = both_ways (is_alias o) f (ap is_alias e)

-- the counts are below where they would stop
record Exact (c : Counts) : Type 0 where
  within : c.replaced ≤ c.aliases
  few : c.replaced ≤ 2 ^ 30
  again : c.replayed ≤ c.charged
  little : c.replayed ≤ 2 ^ 30
  short : c.written ≤ 2 ^ 30

-- the target's own events, where its own range is read
kept : List Event → ℕ → ℕ → ℕ → ℕ
kept es d p n = cond (ltb 1 d) 0 (own_events es p n)

kept_inner : (es : List Event) (d p n : ℕ) → 1 < d → kept es d p n ≡ 0
unfolding kept
kept_inner es d p n h = ap (λ b. cond b 0 (own_events es p n)) (lt-ltb 1 d h)

kept_alias : (es : List Event) (d p n : ℕ) → is_alias (kind (get_or es p no_event)) ≡ true → kept es d p (suc n) ≡ kept es d (suc p) n
unfolding kept own_events
kept_alias es d p n a = ap (λ b. cond (ltb 1 d) 0 (tick (not b) (own_events es (suc p) n))) a

kept_event : (es : List Event) (d p n : ℕ) → d ≤ 1 → is_alias (kind (get_or es p no_event)) ≡ false → kept es d p (suc n) ≡ suc (kept es d (suc p) n)
unfolding kept own_events
kept_event es d p n h a =
    let b = le-ltb 1 d h in
    ap (λ t. cond t 0 (own_events es p (suc n))) b ∙ ap (λ t. tick (not t) (own_events es (suc p) n)) a ∙ ap (λ t. suc (cond t 0 (own_events es (suc p) n))) (sym b)

record Counted (es : List Event) (d p n : ℕ) (out : List ℕ) (a : ℕ) (c c' : Counts) : Type 0 where
  written : c'.written ≡ c.written + length out
  replaced : c'.replaced ≡ c.replaced + a
  replayed : c'.replayed + kept es d p n ≡ c.replayed + length out
  charged_aliases : c'.aliases ≡ c.aliases + a
  charged_replayed : c'.charged + kept es d p n ≡ c.charged + length out
  exact : Exact c'

-- some inputs of a sort, and then some more
pub observing_more : (i : Input) (a b : ℕ) (m : Model) → observing (replicate (a + b) i) m ≡ observing (replicate b i) (observing (replicate a i) m)
observing_more i zero b m = let e : zero + b ≡ b = omega arith in ap (λ k. observing (replicate k i) m) e
observing_more i (suc a) b m = let e : suc a + b ≡ suc (a + b) = omega arith in ap (λ k. observing (replicate k i) m) e ∙ observing_more i a b (observed i m).0

-- w' is w with the unfolding of n events from p written behind it, and counted
pub record Written (s : Score) (d p n : ℕ) (w w' : Work) : Type 0 where
  pub out : List ℕ
  pub aliases : ℕ
  pub unfolds : Unfolds s.events p n out aliases
  pub tape : w'.tape ≡ w.tape ++ map (λ k. s.base + k) out
  pub enforcer : w'.enforcer ≡ observing (replicate aliases reference) w.enforcer
  counted : Bounds s.limits.budget s.limits.alias_limits → Exact w.counts → Counted s.events d p n out aliases w.counts w'.counts

-- counts once an alias, and once an event, is counted

exact_alias : (n : ℕ) (c : Counts) → up c.aliases 1 ≤ 2 ^ 30 → Exact c → Exact (one_expansion n (one_alias c))
exact_alias n c h x = record { within = omega arith; few = omega arith; again = x.again; little = x.little; short = x.short }

abbrev event_counts : ℕ → Counts → Counts
event_counts k c = one_written (more_bytes k c)

exact_once : (k : ℕ) (c : Counts) → up c.written 1 ≤ 2 ^ 30 → Exact c → Exact (event_counts k c)
exact_once k c h x = record { within = x.within; few = x.few; again = x.again; little = x.little; short = omega arith }

exact_again : (k : ℕ) (c : Counts) → up c.charged 1 ≤ 2 ^ 30 → up c.written 1 ≤ 2 ^ 30 → Exact c → Exact (event_counts k (one_replayed c))
exact_again k c h i x = record { within = x.within; few = x.few; again = omega arith; little = omega arith; short = omega arith }

-- no more is said of a refusal
abbrev pub Any : FragmentError → Work → Type 0
Any e w = Unit {0}

abbrev pub Good : Score → Opens → Type 0
Good s o = (slate : List ℕ) (d : ℕ) (r : NodeRange) (w : Work) → 1 ≤ d → Ends (Written s d r.first (r.last + 1 - r.first) w) Any (o slate d r w)

-- what one place adds
abbrev Adds : Score → ℕ → ℕ → Work → Work → Type 0
Adds s d p w u = (n : ℕ) (w' : Work) → Written s d (suc p) n u w' → Written s d p (suc n) w w'

module _ (s : Score) (d p : ℕ) (w : Work) where
  adds_alias : (m : Model) (v : Work) → m ≡ (observed reference w.enforcer).0 → 1 ≤ d → is_alias_at s p ≡ true → up w.counts.aliases 1 ≤ s.limits.budget.max_aliases → Written s (d + 1) (range s (named_at s p)).first ((range s (named_at s p)).last + 1 - (range s (named_at s p)).first) (expanded_at (named_at s p) w m) v → Adds s d p w v
  adds_alias m v now one al few i n w' r =
      record {
        out = i.out ++ r.out;
        aliases = suc (i.aliases + r.aliases);
        unfolds = opens (alias_is (kind (event_at s p)) al) i.unfolds r.unfolds;
        tape = r.tape ∙ ap (λ t. t ++ map (λ k. s.base + k) r.out) i.tape ∙ append_assoc w.tape (map (λ k. s.base + k) i.out) (map (λ k. s.base + k) r.out) ∙ ap (λ t. w.tape ++ t) (sym (map-append (λ k. s.base + k) i.out r.out));
        enforcer = r.enforcer ∙ ap (observing (replicate r.aliases reference)) i.enforcer ∙ sym (observing_more reference i.aliases r.aliases m) ∙ ap (observing (replicate (i.aliases + r.aliases) reference)) now;
        counted = counts;
      }
    where
      counts : Bounds s.limits.budget s.limits.alias_limits → Exact w.counts → Counted s.events d p (suc n) (i.out ++ r.out) (suc (i.aliases + r.aliases)) w.counts w'.counts
      counts b x =
          let j = i.counted b (exact_alias (named_at s p) w.counts (omega (arith, b.aliases)) x) in
          let q = r.counted b j.exact in
          let l = length-append i.out r.out in
          let z = kept_inner s.events (d + 1) (range s (named_at s p)).first ((range s (named_at s p)).last + 1 - (range s (named_at s p)).first) (omega arith) in
          let y = kept_alias s.events d p n al in
          record {
            written = omega (arith, j.written, q.written);
            replaced = omega (arith, j.replaced, q.replaced, x.few);
            replayed = omega (arith, j.replayed, q.replayed);
            charged_aliases = omega (arith, j.charged_aliases, q.charged_aliases, b.aliases);
            charged_replayed = omega (arith, j.charged_replayed, q.charged_replayed);
            exact = q.exact;
          }

  module _ (n : ℕ) (w' : Work) (u : Work) (r : Written s d (suc p) n u w') (same : u.tape ≡ w.tape ++ (s.base + p) ∷ []) (other : is_alias_at s p ≡ false) where
    tape_event : w'.tape ≡ w.tape ++ map (λ k. s.base + k) (p ∷ r.out)
    tape_event = r.tape ∙ ap (λ t. t ++ map (λ k. s.base + k) r.out) same ∙ append_assoc w.tape ((s.base + p) ∷ []) (map (λ k. s.base + k) r.out)

    unfolds_event : Unfolds s.events p (suc n) (p ∷ r.out) r.aliases
    unfolds_event = keeps (other_is (kind (event_at s p)) other) r.unfolds

  adds_again : 1 < d → is_alias_at s p ≡ false → up w.counts.charged 1 ≤ s.limits.alias_limits.max_total_replayed_events → up w.counts.written 1 ≤ s.limits.budget.max_events → Adds s d p w (written_at s p (replayed_at w))
  adds_again two other few short n w' r =
      record { out = p ∷ r.out; aliases = r.aliases; unfolds = unfolds_event n w' (written_at s p (replayed_at w)) r refl other; tape = tape_event n w' (written_at s p (replayed_at w)) r refl other; enforcer = r.enforcer; counted = counts }
    where
      counts : Bounds s.limits.budget s.limits.alias_limits → Exact w.counts → Counted s.events d p (suc n) (p ∷ r.out) r.aliases w.counts w'.counts
      counts b x =
          let q = r.counted b (exact_again (value_bytes (event_at s p)) w.counts (omega (arith, b.replayed)) (omega (arith, b.events)) x) in
          let y = kept_inner s.events d p (suc n) two in
          let z = kept_inner s.events d (suc p) n two in
          record { written = omega (arith, q.written, x.short); replaced = q.replaced; replayed = omega (arith, q.replayed, x.little); charged_aliases = q.charged_aliases; charged_replayed = omega (arith, q.charged_replayed, b.replayed); exact = q.exact }

  adds_once : d ≤ 1 → is_alias_at s p ≡ false → up w.counts.written 1 ≤ s.limits.budget.max_events → Adds s d p w (written_at s p w)
  adds_once one other short n w' r =
      record { out = p ∷ r.out; aliases = r.aliases; unfolds = unfolds_event n w' (written_at s p w) r refl other; tape = tape_event n w' (written_at s p w) r refl other; enforcer = r.enforcer; counted = counts }
    where
      counts : Bounds s.limits.budget s.limits.alias_limits → Exact w.counts → Counted s.events d p (suc n) (p ∷ r.out) r.aliases w.counts w'.counts
      counts b x =
          let q = r.counted b (exact_once (value_bytes (event_at s p)) w.counts (omega (arith, b.events)) x) in
          let y = kept_event s.events d p n one other in
          record { written = omega (arith, q.written, x.short); replaced = q.replaced; replayed = omega (arith, q.replayed, x.little); charged_aliases = q.charged_aliases; charged_replayed = omega (arith, q.charged_replayed); exact = q.exact }

-- a range goes on to what its places add

nothing_written : (s : Score) (d p : ℕ) (w : Work) → Written s d p zero w w
unfolding kept own_events
nothing_written s d p w =
    record { out = []; aliases = 0; unfolds = ends; tape = sym (append-nil w.tape); enforcer = refl; counted = λ _ x. record { written = omega arith; replaced = omega arith; replayed = none w.counts.replayed; charged_aliases = omega arith; charged_replayed = none w.counts.charged; exact = x } }
  where
    none : (n : ℕ) → n + kept s.events d p zero ≡ n + 0
    none n = at (ltb 1 d)
      where
        at : (b : Bool) → n + cond b 0 0 ≡ n + 0
        at true = refl
        at false = refl

module _ (s : Score) (o : Opens) (good : Good s o) (slate : List ℕ) (d : ℕ) (one : 1 ≤ d) where
  step_adds : (p : ℕ) (w : Work) → Ends (Adds s d p w) Any (step s o slate d p w)
  step_adds p w = step_ends (Adds s d p w) Any s o slate d p w enter other
    where
      enter : is_alias_at s p ≡ true → AliasWays (λ u. Ends (Adds s d p w) Any (enters s o slate d p u)) Any s slate d (named_at s p) w
      enter al =
          let a = named_at s p in
          record {
            is_open = λ _. tt;
            breached = λ _ _. tt;
            many = λ _ _ _ _. tt;
            often = λ _ _. tt;
            deep = λ _ _. tt;
            onward = λ m now _ _ few _ _. ends_map (Written s (d + 1) (range s a).first ((range s a).last + 1 - (range s a).first) (expanded_at a w m)) (Adds s d p w) Any Any (enters s o slate d p (expanded_at a w m)) (λ v i. adds_alias s d p w m v now one al few i) (λ _ _ h. h) (good (opened a slate) (d + 1) (range s a) (expanded_at a w m) (omega arith));
          }

      other : is_alias_at s p ≡ false → EventWays (Adds s d p w) Any s d p w
      other no-alias =
          record {
            much = λ _ _. tt;
            again = λ two few. record { heavy = λ _. tt; long = λ _. tt; full = λ _. tt; onward = λ _ short _. adds_again s d p w two no-alias few short };
            once = λ h. record { heavy = λ _. tt; long = λ _. tt; full = λ _. tt; onward = λ _ short _. adds_once s d p w h no-alias short };
          }

  each_written : (n p : ℕ) (w : Work) → Ends (Written s d p n w) Any (each (step s o slate d) p n w)
  unfolding each
  each_written zero p w = nothing_written s d p w
  each_written (suc n) p w =
      next_ends (Written s d p (suc n) w) Any (Adds s d p w) (step s o slate d p w) (each (step s o slate d) (suc p) n) (step_adds p w)
      (λ u h. ends_map (Written s d (suc p) n u) (Written s d p (suc n) w) Any Any (each (step s o slate d) (suc p) n u) (λ w' r. h n w' r) (λ _ _ i. i) (each_written n (suc p) u))

pub run_written : (s : Score) (k : ℕ) → Good s (run s k)
unfolding run
run_written s zero slate d r w one = each_written s (λ _ _ _ v. refused TapeFull v) (λ _ _ _ _ _. tt) slate d one (r.last + 1 - r.first) r.first w
run_written s (suc k) slate d r w one = each_written s (run s k) (run_written s k) slate d one (r.last + 1 - r.first) r.first w

-- the whole range of a target, from counts that begin at 0
pub record Exactly (s : Score) (p n : ℕ) (out : List ℕ) (a : ℕ) (c c' : Counts) : Type 0 where
  pub written : c'.written ≡ length out
  pub replaced : c'.replaced ≡ a
  pub replayed : c'.replayed + own_events s.events p n ≡ length out
  pub charged_aliases : c'.aliases ≡ c.aliases + c'.replaced
  pub charged_replayed : c'.charged ≡ c.charged + c'.replayed

pub counted_exactly : (s : Score) (p n : ℕ) (w w' : Work) → Bounds s.limits.budget s.limits.alias_limits → w.counts.written ≡ 0 → w.counts.replaced ≡ 0 → w.counts.replayed ≡ 0 → (r : Written s 1 p n w w') → Exactly s p n r.out r.aliases w.counts w'.counts
unfolding kept
counted_exactly s p n w w' b z y x r =
    let k = r.counted b (record { within = omega arith; few = omega arith; again = omega arith; little = omega arith; short = omega arith }) in
    record { written = omega (arith, k.written); replaced = omega (arith, k.replaced); replayed = omega (arith, k.replayed); charged_aliases = omega (arith, k.replaced, k.charged_aliases); charged_replayed = omega (arith, k.replayed, k.charged_replayed) }
