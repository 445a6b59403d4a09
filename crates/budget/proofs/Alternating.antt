-- Key and value alternate: after whole nodes the containers around are as they were, and the innermost mapping has taken each as a key or a value.
use Rattle.std.proofs.Common.{◌≡◌, ℕ, zero, suc, Bool, true, false, not, ◌⊎◌, List, [], ◌∷◌, ◌++◌, Some, None, Ok, sym, refl, ap, ◌∙◌, subst, inl, inr}
use Rattle.events.specs.declared.kinds.EventKind.{EventKind}
use Rattle.events.specs.declared.kinds.EventKind.TheVariants.{Alias, Scalar, SequenceEnd, MappingEnd}
use Rattle.events.specs.declared.kinds.Container.{Container}
use Rattle.events.specs.declared.kinds.Container.TheVariants as sort
use Rattle.events.specs.Balance.{starts, ends}
use Rattle.budget.specs.declared.limits.AliasLimits.{AliasLimits}
use Rattle.budget.specs.declared.containers.ContainerState.{ContainerState}
use Rattle.budget.specs.declared.containers.ContainerState.TheVariants.{Sequence, Mapping}
use Rattle.budget.specs.Nesting.{turn_top, top_is_value, entered, opened}
use Rattle.budget.specs.Observed.{Seen, Input, event, reference}
use Rattle.budget.specs.Model.{Model, observed}
use Rattle.budget.specs.Runs.{run}
use Rattle.budget.specs.Laws.{Is, Whole, none, aside, single, collection, flipped, alternated, KeyAndValueAlternate}
use Rattle.budget.proofs.Bounds.{Bounds}
use Rattle.budget.proofs.Exact.{calm, counted_exact, left, left_by}
use Rattle.budget.proofs.Adding.{of, observed_adds}
use Rattle.budget.proofs.Sticks.{clean_before, clean_answer, counted_well}

run_more : (is js : List Input) (m : Model) → run (is ++ js) m ≡ run js (run is m)
run_more [] js m = refl
run_more (i ∷ is) js m = run_more is js (observed i m).0

-- a scalar or an alias is a key or a value
turn_single : (ss : List ContainerState) → (turn_top Scalar ss ≡ flipped ss) × (turn_top Alias ss ≡ flipped ss)
turn_single [] = (refl, refl)
turn_single (Sequence f ∷ ss) = (refl, refl)
turn_single (Mapping key f ∷ ss) = (refl, refl)

-- and so is a container, from its start to its end
turn_container : (c : Container) (ss : List ContainerState) → left_by (ends c) (Some (top_is_value (starts c) ss)) (turn_top (starts c) ss) ≡ flipped ss
turn_container sort.Sequence [] = refl
turn_container sort.Sequence (Sequence f ∷ ss) = refl
turn_container sort.Sequence (Mapping true f ∷ ss) = refl
turn_container sort.Sequence (Mapping false f ∷ ss) = refl
turn_container sort.Mapping [] = refl
turn_container sort.Mapping (Sequence f ∷ ss) = refl
turn_container sort.Mapping (Mapping true f ∷ ss) = refl
turn_container sort.Mapping (Mapping false f ∷ ss) = refl

-- nodes inside a container leave it the one that its end closes
left_mapping : (n : ℕ) (key value : Bool) (ss : List ContainerState) → left MappingEnd (alternated n (Mapping key value ∷ ss)) ≡ left_by MappingEnd (Some value) ss
left_mapping zero key value ss = refl
left_mapping (suc n) key value ss = left_mapping n (not key) value ss

left_sequence : (n : ℕ) (value : Bool) (ss : List ContainerState) → left SequenceEnd (alternated n (Sequence value ∷ ss)) ≡ left_by SequenceEnd (Some value) ss
left_sequence zero value ss = refl
left_sequence (suc n) value ss = left_sequence n value ss

left_container : (c : Container) (n : ℕ) (value : Bool) (ss : List ContainerState) → left (ends c) (alternated n (opened (starts c) value ∷ ss)) ≡ left_by (ends c) (Some value) ss
left_container sort.Sequence n value ss = left_sequence n value ss
left_container sort.Mapping n value ss = left_mapping n true value ss

-- the containers after an event of a kind
around_of : (e : Seen) (k : EventKind) (m : Model) → Is e k → (calm (event e) m).around ≡ (calm (event (of k e)) m).around
around_of e k m i = ap (λ j. (calm (event (of j e)) m).around) i

around_single : (e : Seen) (m : Model) → (Is e Scalar ⊎ Is e Alias) → (calm (event e) m).around ≡ flipped m.around
around_single e m (inl i) = around_of e Scalar m i ∙ (turn_single m.around).0
around_single e m (inr i) = around_of e Alias m i ∙ (turn_single m.around).1

start_at : (c : Container) (e : Seen) (m : Model) → (calm (event (of (starts c) e)) m).around ≡ entered (starts c) m.around
start_at sort.Sequence e m = refl
start_at sort.Mapping e m = refl

end_at : (c : Container) (e : Seen) (m : Model) → (calm (event (of (ends c) e)) m).around ≡ left (ends c) m.around
end_at sort.Sequence e m = refl
end_at sort.Mapping e m = refl

module _ (a : AliasLimits) where
  bounds_after : (i : Input) (m : Model) → Bounds m.budget a → (observed i m).1 ≡ Ok tt → Bounds (observed i m).0.budget a
  bounds_after i m w t = subst (λ b. Bounds b a) (sym (observed_adds a i m w t).budget) w

  bounds_run : (is : List Input) (m : Model) → Bounds m.budget a → (run is m).report.breached ≡ None → Bounds (run is m).budget a
  bounds_run [] m w e = w
  bounds_run (i ∷ is) m w e = bounds_run is (observed i m).0 (bounds_after i m w (clean_answer i m (clean_before is (observed i m).0 e))) e

  around_after : (i : Input) (m : Model) → Bounds m.budget a → (observed i m).1 ≡ Ok tt → (observed i m).0.around ≡ (calm i m).around
  around_after i m w t = let h = counted_well i m t in ap (λ n. n.around) (h.1 ∙ counted_exact a i m w h.0)

  alternate : {n : ℕ} {is : List Input} → Whole n is → (m : Model) → Bounds m.budget a → (run is m).report.breached ≡ None → (run is m).around ≡ alternated n m.around
  alternate none m w e = refl
  alternate (aside {n} {is} r) m w e =
      let good = clean_answer reference m (clean_before is (observed reference m).0 e) in
      alternate r (observed reference m).0 (bounds_after reference m w good) e ∙ ap (alternated n) (around_after reference m w good)
  alternate (single {n} {is} x k r) m w e =
      let good = clean_answer (event x) m (clean_before is (observed (event x) m).0 e) in
      alternate r (observed (event x) m).0 (bounds_after (event x) m w good) e ∙ ap (alternated n) (around_after (event x) m w good ∙ around_single x m k)
  alternate (collection {n} {k} {inner} {is} c x y i b j r) m w e =
      let m1 = (observed (event x) m).0 in
      let m2 = run inner m1 in
      let m3 = (observed (event y) m2).0 in
      let split : run (inner ++ (event y ∷ is)) m1 ≡ run is m3 = run_more inner (event y ∷ is) m1 in
      let e3 : (run is m3).report.breached ≡ None = subst (λ z. z.report.breached ≡ None) split e in
      let g3 = clean_answer (event y) m2 (clean_before is m3 e3) in
      let e2 : m2.report.breached ≡ None = clean_before (event y ∷ is) m2 e3 in
      let g1 = clean_answer (event x) m (clean_before inner m1 e2) in
      let w1 = bounds_after (event x) m w g1 in
      let w2 = bounds_run inner m1 w1 e2 in
      let at1 : m1.around ≡ entered (starts c) m.around = around_after (event x) m w g1 ∙ around_of x (starts c) m i ∙ start_at c x m in
      let at2 : m2.around ≡ alternated k (entered (starts c) m.around) = alternate b m1 w1 e2 ∙ ap (alternated k) at1 in
      let at3 : m3.around ≡ flipped m.around =
      around_after (event y) m2 w2 g3 ∙ around_of y (ends c) m2 j ∙ end_at c y m2 ∙ ap (left (ends c)) at2
      ∙ left_container c k (top_is_value (starts c) m.around) (turn_top (starts c) m.around) ∙ turn_container c m.around in
      ap (λ z. z.around) split ∙ alternate r m3 (bounds_after (event y) m2 w2 g3) e3 ∙ ap (alternated n) at3

  pub key_and_value_alternate : (m : Model) → Bounds m.budget a → KeyAndValueAlternate m
  key_and_value_alternate m w n is r e = alternate r m w e
