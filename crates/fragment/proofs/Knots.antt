-- Knots: an alias inside the node that it names.
use Rattle.std.proofs.Common.{◌≡◌, ℕ, zero, suc, ◌+◌, ◌-◌, ◌<◌, ◌≤◌, true, false, not, eqb, ◌⊎◌, List, ◌∷◌, ◌++◌, length, get_or, set, Some, sym, refl, ap, ◌∙◌, subst, inl, inr, arith}
use Rattle.std.proofs.lemmas.List.{length-append, get_or-set_other, get_or_past}
use Rattle.std.proofs.lemmas.Bool.{cases_lt, cases_eq, and_parts, both_ways}
use Rattle.events.specs.declared.score.Event.{Event}
use Rattle.events.specs.declared.score.NodeRange.{NodeRange}
use Rattle.events.specs.declared.kinds.EventKind.TheVariants.{StreamStart, Alias}
use Rattle.events.specs.Scores.{kind, no_event}
use Rattle.events.specs.Nodes.{range_of, starts_node, carries, SoundNodes}
use Rattle.fragment.specs.declared.answers.FragmentError.{FragmentError}
use Rattle.fragment.specs.declared.answers.FragmentError.TheVariants.{TapeFull}
use Rattle.fragment.specs.Ended.{refused, next}
use Rattle.fragment.specs.Slate.{opened}
use Rattle.fragment.specs.Relation.{AliasAt, names, from, Unfolds, ends, keeps, opens, NodeUnfolds, InsideNode, Reached, own, named, Knot}
use Rattle.fragment.specs.Unfolding.{Score, Work, Opens, named_at, range, event_at, each, step, run}
use Rattle.fragment.proofs.Endings.{is, open_range, Ends, next_ends, AliasWays, WriteWays, enters, step_ends, expanded_at, replayed_at}
use Rattle.fragment.proofs.Accepting.{alias_is}

-- what soundness gives of an alias

pub record PointsBack (es : List Event) (p : ℕ) : Type 0 where
  pub least : 1 ≤ names es p
  pub before : from es (names es p) < p
  pub other : AliasAt es (from es (names es p)) → ⊥
  pub closed : (range_of es (names es p)).last < length es

carries_other : (e : Event) → carries e ≡ true → kind e ≡ Some Alias → ⊥
carries_other e c k = both_ways (starts_node (kind e)) (ap starts_node k) (and_parts (starts_node (kind e)) (not (eqb e.anchor 0)) c).0

pub alias_inside : (es : List Event) (p : ℕ) → AliasAt es p → p < length es
alias_inside es p a = at (cases_lt p (length es))
  where
    at : (p < length es) ⊎ (length es ≤ p) → p < length es
    at (inl h) = h
    at (inr h) =
        let e : Some StreamStart ≡ kind (get_or es p no_event) = sym (ap kind (get_or_past es p no_event h)) in
        let z : ◌≡◌ {A = ℕ} 0 1 = cc in
        absurd (omega arith)

pub points_back : (es : List Event) (k : ℕ) → SoundNodes es k → (p : ℕ) → AliasAt es p → PointsBack es p
points_back es k sound p a =
    let b = sound.aliases p (alias_inside es p a) a in
    let o = sound.one_each (names es p) b.least b.most in
    record { least = b.least; before = b.before; other = carries_other (get_or es (from es (names es p)) no_event) o.starts.carried; closed = o.closes }

-- no unfolding of a node has, as a place of it, an alias to that very node

-- the node that an alias names has an unfolding of at most n events
record Shorter (es : List Event) (q n : ℕ) : Type 0 where
  inner : List ℕ
  count : ℕ
  unfolds : NodeUnfolds es (names es q) inner count
  short : length inner ≤ n

module _ (es : List Event) where
  -- an alias within an unfolded run has its node unfolded, no longer than the run
  within_run : {p n : ℕ} {out : List ℕ} {a : ℕ} → Unfolds es p n out a → (q : ℕ) → p ≤ q → q < p + n → AliasAt es q → Shorter es q (length out)
  within_run (ends {p = p}) q l h al = absurd (omega arith)
  within_run (keeps {p = p} {n = n} {out = out} other r) q l h al = at (cases_eq q p) (λ l'. within_run r q l' (omega arith) al)
    where
      at : (q ≡ p) ⊎ (q ≡ p → ⊥) → (suc p ≤ q → Shorter es q (length out)) → Shorter es q (length (p ∷ out))
      at (inl e) ih = absurd (other (subst (AliasAt es) e al))
      at (inr ne) ih = let i = ih (omega arith) in record { inner = i.inner; count = i.count; unfolds = i.unfolds; short = omega (arith, i.short) }
  within_run (opens {p = p} {n = n} {inner = inner} {out = out} {a = a} alias i r) q l h al = at (cases_eq q p) (λ l'. within_run r q l' (omega arith) al)
    where
      at : (q ≡ p) ⊎ (q ≡ p → ⊥) → (suc p ≤ q → Shorter es q (length out)) → Shorter es q (length (inner ++ out))
      at (inl e) ih = record { inner = inner; count = a; unfolds = subst (λ z. NodeUnfolds es (names es z) inner a) (sym e) i; short = omega (arith, length-append inner out) }
      at (inr ne) ih = let j = ih (omega arith) in record { inner = j.inner; count = j.count; unfolds = j.unfolds; short = omega (arith, j.short, length-append inner out) }

  -- and shorter, where the run begins with another event
  after_first : {p n : ℕ} {out : List ℕ} {a : ℕ} → Unfolds es p n out a → (AliasAt es p → ⊥) → (q : ℕ) → p < q → q < p + n → AliasAt es q → (inner : List ℕ) × (count : ℕ) × NodeUnfolds es (names es q) inner count × (length inner < length out)
  after_first (ends {p = p}) other q l h al = absurd (omega arith)
  after_first (keeps {p = p} {n = n} {out = out} _ r) other q l h al = let i = within_run r q l (omega arith) al in (i.inner, i.count, i.unfolds, omega (arith, i.short))
  after_first (opens alias i r) other q l h al = absurd (other alias)

  module _ (k : ℕ) (sound : SoundNodes es k) where
    no_knot : (q : ℕ) → AliasAt es q → InsideNode es (names es q) q → (f : ℕ) (out : List ℕ) (a : ℕ) → NodeUnfolds es (names es q) out a → length out < f → ⊥
    no_knot q al ins zero out a u h = omega arith
    no_knot q al ins (suc f) out a u h =
        let b = points_back es k sound q al in
        let i = after_first u b.other q b.before (omega (arith, ins)) al in
        no_knot q al ins f i.0 i.1 i.2 (omega (arith, i.3))

    reached_unfolds : (t : ℕ) (out : List ℕ) (a : ℕ) → NodeUnfolds es t out a → {q : ℕ} → Reached es t q → AliasAt es q → (inner : List ℕ) × (count : ℕ) × NodeUnfolds es (names es q) inner count
    reached_unfolds t out a u (own {p = p} ins) al = let i = within_run u p ins.0 (omega (arith, ins)) al in (i.inner, i.count, i.unfolds)
    reached_unfolds t out a u (named {q = q} {p = p} r b ins) al =
        let j = reached_unfolds t out a u r b in
        let i = within_run j.2 p ins.0 (omega (arith, ins)) al in
        (i.inner, i.count, i.unfolds)

    -- a target with an unfolding reaches no alias inside the node that it names
    pub unfolds_no_knot : (t : ℕ) (out : List ℕ) (a : ℕ) → NodeUnfolds es t out a → Knot es t → ⊥
    unfolds_no_knot t out a u x =
        let j = reached_unfolds t out a u x.1 x.2 in
        no_knot x.0 x.2 x.3 (suc (length j.0)) j.0 j.1 j.2 (omega arith)

-- an open range is answered only where there is a knot

abbrev pub Tied : List Event → ℕ → FragmentError → Work → Type 0
Tied es t e w = is e open_range ≡ true → Knot es t

abbrev Any : Work → Type 0
Any w = Unit {0}

-- while a range that ends at b is open, each open node ends no earlier, or there is a knot
abbrev pub Held : List Event → ℕ → List ℕ → ℕ → Type 0
Held es t slate b = (m : ℕ) → 1 ≤ m → (get_or slate (m - 1) 0 ≡ 0 → ⊥) → Knot es t ⊎ (b ≤ (range_of es m).last)

abbrev pub AllReached : List Event → ℕ → NodeRange → Type 0
AllReached es t r = (p : ℕ) → r.first ≤ p → p ≤ r.last → Reached es t p

abbrev Good : Score → ℕ → Opens → Type 0
Good s t o = (slate : List ℕ) (d : ℕ) (r : NodeRange) (w : Work) → AllReached s.events t r → Held s.events t slate r.last → Ends Any (Tied s.events t) (o slate d r w)

not_open : {X : Type 0} → false ≡ true → X
not_open e = absurd (both_ways false refl e)

-- a range opened at an alias that lies outside the node which it names ends before that alias
opened_held : (es : List Event) (t : ℕ) (slate : List ℕ) (b p n : ℕ) → p ≤ b → 1 ≤ n → Knot es t ⊎ ((range_of es n).last < p) → Held es t slate b → Held es t (set slate (n - 1) 1) (range_of es n).last
opened_held es t slate b p n h one split held m o nz = at split (cases_eq (m - 1) (n - 1))
  where
    old : (range_of es n).last < p → Knot es t ⊎ (b ≤ (range_of es m).last) → Knot es t ⊎ ((range_of es n).last ≤ (range_of es m).last)
    old f (inl k) = inl k
    old f (inr l) = inr (omega arith)

    at : Knot es t ⊎ ((range_of es n).last < p) → (m - 1 ≡ n - 1) ⊎ (m - 1 ≡ n - 1 → ⊥) → Knot es t ⊎ ((range_of es n).last ≤ (range_of es m).last)
    at (inl k) c = inl k
    at (inr f) (inl e) = let q : m ≡ n = omega arith in inr (subst (λ z. (range_of es n).last ≤ (range_of es z).last) (sym q) (omega arith))
    at (inr f) (inr ne) = old f (held m o (λ z. nz (get_or-set_other slate (n - 1) (m - 1) 1 0 ne ∙ z)))

module _ (s : Score) (count : ℕ) (sound : SoundNodes s.events count) (t : ℕ) (o : Opens) (good : Good s t o) (slate : List ℕ) (d : ℕ) (r : NodeRange) (reached : AllReached s.events t r) (held : Held s.events t slate r.last) where
  module _ (p : ℕ) (l : r.first ≤ p) (h : p ≤ r.last) (al : AliasAt s.events p) where
    knot_at : p ≤ (range_of s.events (names s.events p)).last → Knot s.events t
    knot_at i = (p, reached p l h, al, (omega (arith, (points_back s.events count sound p al).before), i))

    here : Knot s.events t ⊎ (r.last ≤ (range_of s.events (names s.events p)).last) → Knot s.events t
    here (inl k) = k
    here (inr i) = knot_at (omega arith)

    split : ((range_of s.events (names s.events p)).last < p) ⊎ (p ≤ (range_of s.events (names s.events p)).last) → Knot s.events t ⊎ ((range_of s.events (names s.events p)).last < p)
    split (inl f) = inr f
    split (inr i) = inl (knot_at i)

    open_shows : (get_or slate (names s.events p - 1) 0 ≡ 0 → ⊥) → Knot s.events t
    open_shows nz = here (held (names s.events p) (points_back s.events count sound p al).least nz)

    inner_held : Held s.events t (opened (names s.events p) slate) (range_of s.events (names s.events p)).last
    inner_held =
        opened_held s.events t slate r.last p (names s.events p) h (points_back s.events count sound p al).least (split (cases_lt (range_of s.events (names s.events p)).last p)) held

  step_tied : (p : ℕ) (w : Work) → r.first ≤ p → p ≤ r.last → Ends Any (Tied s.events t) (step s o slate d p w)
  step_tied p w l h = step_ends Any (Tied s.events t) s o slate d p w (λ b. enter (alias_is (kind (event_at s p)) b)) (λ _. record { much = λ _ _ z. not_open z; again = λ _ _. writes (replayed_at w); once = λ _. writes w })
    where
      enter : AliasAt s.events p → AliasWays (λ u. Ends Any (Tied s.events t) (enters s o slate d p u)) (Tied s.events t) s slate d (named_at s p) w
      enter al =
          record {
            is_open = λ nz _. open_shows p l h al nz;
            breached = λ _ _ z. not_open z;
            many = λ _ _ _ _ z. not_open z;
            often = λ _ _ z. not_open z;
            deep = λ _ _ z. not_open z;
            onward = λ m _ _ _ _ _ _. good (opened (named_at s p) slate) (d + 1) (range s (named_at s p)) (expanded_at (named_at s p) w m) (λ q i j. named (reached p l h) al (i, j)) (inner_held p l h al);
          }

      writes : (v : Work) → WriteWays Any (Tied s.events t) s p v
      writes v = record { heavy = λ _ z. not_open z; long = λ _ z. not_open z; full = λ _ z. not_open z; onward = λ _ _ _. tt }

  each_tied : (n p : ℕ) (w : Work) → r.first ≤ p → (p + n ≤ r.last + 1) ⊎ (n ≡ 0) → Ends Any (Tied s.events t) (each (step s o slate d) p n w)
  unfolding each
  each_tied zero p w l h = tt
  each_tied (suc n) p w l h = at h (λ u q. each_tied n (suc p) u (omega arith) q)
    where
      at : (p + suc n ≤ r.last + 1) ⊎ (suc n ≡ 0) → ((u : Work) → (suc p + n ≤ r.last + 1) ⊎ (n ≡ 0) → Ends Any (Tied s.events t) (each (step s o slate d) (suc p) n u)) → Ends Any (Tied s.events t) (next (step s o slate d p w) (each (step s o slate d) (suc p) n))
      at (inr z) ih = absurd (omega arith)
      at (inl f) ih = next_ends Any (Tied s.events t) Any (step s o slate d p w) (each (step s o slate d) (suc p) n) (step_tied p w l (omega arith)) (λ u _. ih u (inl (omega arith)))

run_bounds : (a b : ℕ) → (a + (b + 1 - a) ≤ b + 1) ⊎ (b + 1 - a ≡ 0)
run_bounds a b = at (cases_lt a (b + 1))
  where
    at : (a < b + 1) ⊎ (b + 1 ≤ a) → (a + (b + 1 - a) ≤ b + 1) ⊎ (b + 1 - a ≡ 0)
    at (inl h) = inl (omega arith)
    at (inr h) = inr (omega arith)

pub run_tied : (s : Score) (count : ℕ) → SoundNodes s.events count → (t k : ℕ) → Good s t (run s k)
unfolding run
run_tied s count sound t zero slate d r w reached held =
    each_tied s count sound t (λ _ _ _ v. refused TapeFull v) (λ _ _ _ _ _ _ z. not_open z) slate d r reached held (r.last + 1 - r.first) r.first w (omega arith) (run_bounds r.first r.last)
run_tied s count sound t (suc k) slate d r w reached held =
    each_tied s count sound t (run s k) (run_tied s count sound t k) slate d r reached held (r.last + 1 - r.first) r.first w (omega arith) (run_bounds r.first r.last)
