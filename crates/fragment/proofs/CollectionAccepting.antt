-- Collection goes through exactly if marks and events are within the budget and a mark has the name.
use Rattle.std.proofs.Common.{◌≡◌, ℕ, zero, suc, ◌+◌, ◌≤◌, Bool, true, false, cond, ◌&&◌, ltb, ◌⊎◌, List, [], ◌∷◌, length, take, Some, None, Option, refl, inl, inr, arith}
use Rattle.std.proofs.lemmas.Bool.{ltb-false, le-ltb, and_right, and_cases}
use Rattle.events.specs.declared.score.Event.{Event}
use Rattle.events.specs.declared.kinds.EventKind.{EventKind}
use Rattle.events.specs.declared.kinds.EventKind.TheVariants.{StreamStart, StreamEnd, DocumentStart, DocumentEnd, Alias, Scalar, SequenceStart, SequenceEnd, MappingStart, MappingEnd}
use Rattle.events.specs.Scores.{kind}
use Rattle.events.specs.Nodes.{deeper}
use Rattle.std.specs.Option.{option_or}
use Rattle.budget.specs.declared.limits.Budget.{Budget}
use Rattle.fragment.specs.declared.answers.FragmentError.{FragmentError}
use Rattle.fragment.specs.declared.collection.Collected.{Collected}
use Rattle.fragment.specs.Collection.{is_document_start, is_start, with_event, cause_if, second_document, too_deep, too_many_bytes, cause_at, first_cause}
use Rattle.fragment.specs.CollectionLaws.{documents_in, bytes_in, depth_after}
use Rattle.fragment.proofs.Collecting.{Passed, passed, neither}

-- counts that are within the budget
pub record Small (b : Budget) (c : Collected) : Type 0 where
  pub documents : c.documents ≤ 1
  pub depth : c.depth ≤ b.max_depth
  pub bytes : c.bytes ≤ b.max_total_scalar_bytes
  pub events : c.events ≤ b.max_events

-- only a start makes the depth grow
no_deeper : (o : Option EventKind) (d : ℕ) → is_start o ≡ false → deeper o d ≤ d
no_deeper None d q = omega arith
no_deeper (Some StreamStart) d q = omega arith
no_deeper (Some StreamEnd) d q = omega arith
no_deeper (Some DocumentStart) d q = omega arith
no_deeper (Some DocumentEnd) d q = omega arith
no_deeper (Some Alias) d q = omega arith
no_deeper (Some Scalar) d q = omega arith
no_deeper (Some SequenceStart) d q = let z : ◌≡◌ {A = ℕ} 0 1 = cc in absurd (omega arith)
no_deeper (Some SequenceEnd) d q = omega arith
no_deeper (Some MappingStart) d q = let z : ◌≡◌ {A = ℕ} 0 1 = cc in absurd (omega arith)
no_deeper (Some MappingEnd) d q = omega arith

no_document : (t : Bool) (n : ℕ) → n ≤ 1 → (t && ltb 1 (n + cond t 1 0)) ≡ false → n + cond t 1 0 ≤ 1
no_document true n h q = ltb-false 1 (n + 1) q
no_document false n h q = omega arith

-- an event with no cause leaves the counts within the budget
pub stays_small : (b : Budget) (e : Event) (c : Collected) → Small b c → Passed b e (with_event e c) → Small b (with_event e c)
stays_small b e c s p = record { documents = no_document (is_document_start (kind e)) c.documents s.documents p.documents; depth = deep (and_cases _ _ p.depth); bytes = p.bytes; events = p.events }
  where
    deep : (is_start (kind e) ≡ false) ⊎ (ltb b.max_depth (deeper (kind e) c.depth) ≡ false) → deeper (kind e) c.depth ≤ b.max_depth
    deep (inl q) = let h = no_deeper (kind e) c.depth q in omega (arith, s.depth)
    deep (inr q) = ltb-false b.max_depth (deeper (kind e) c.depth) q

causeless : (t : Bool) (x : FragmentError) → t ≡ false → cause_if t x ≡ None
causeless true x q = let z : ◌≡◌ {A = ℕ} 0 1 = cc in absurd (omega arith)
causeless false x q = refl

nor : (a b : Option FragmentError) → a ≡ None → b ≡ None → option_or a b ≡ None
nor None b p q = q
nor (Some x) b p q = p

-- and where the counts stay within it, there is no cause
pub passes : (b : Budget) (p : ℕ) (e : Event) (c : Collected) → Small b c → cause_at b p e c ≡ None
passes b p e c s =
    nor (second_document p e c) _ (causeless _ _ (and_right (is_document_start (kind e)) _ (le-ltb 1 c.documents s.documents)))
    (nor (too_deep b e c) _ (causeless _ _ (and_right (is_start (kind e)) _ (le-ltb b.max_depth c.depth s.depth)))
    (nor (too_many_bytes b c) _ (causeless _ _ (le-ltb b.max_total_scalar_bytes c.bytes s.bytes))
    (causeless _ _ (le-ltb b.max_events c.events s.events))))

-- events behind those counted are within the budget
pub record FitsBehind (b : Budget) (c : Collected) (es : List Event) : Type 0 where
  pub documents : c.documents + documents_in es ≤ 1
  pub depth : (n : ℕ) → depth_after c.depth (take n es) ≤ b.max_depth
  pub bytes : c.bytes + bytes_in es ≤ b.max_total_scalar_bytes
  pub events : c.events + length es ≤ b.max_events

pub no_cause_fits : (b : Budget) (c : Collected) (es : List Event) → Small b c → first_cause b c es ≡ None → FitsBehind b c es
no_cause_fits b c [] s q = record { documents = omega (arith, s.documents); depth = shallow; bytes = omega (arith, s.bytes); events = omega (arith, s.events) }
  where
    shallow : (n : ℕ) → depth_after c.depth (take n []) ≤ b.max_depth
    shallow zero = s.depth
    shallow (suc n) = s.depth
no_cause_fits b c (e ∷ es) s q =
    let n = neither (cause_at b c.events e (with_event e c)) (first_cause b (with_event e c) es) q in
    let t = stays_small b e c s (passed b c.events e (with_event e c) n.0) in
    let r = no_cause_fits b (with_event e c) es t n.1 in
    record { documents = omega (arith, r.documents); depth = shallow r; bytes = omega (arith, r.bytes); events = omega (arith, r.events) }
  where
    shallow : FitsBehind b (with_event e c) es → (n : ℕ) → depth_after c.depth (take n (e ∷ es)) ≤ b.max_depth
    shallow r zero = s.depth
    shallow r (suc n) = r.depth n

pub fits_no_cause : (b : Budget) (c : Collected) (es : List Event) → FitsBehind b c es → first_cause b c es ≡ None
fits_no_cause b c [] f = refl
fits_no_cause b c (e ∷ es) f =
    let g : FitsBehind b (with_event e c) es = record { documents = omega (arith, f.documents); depth = λ n. f.depth (suc n); bytes = omega (arith, f.bytes); events = omega (arith, f.events) } in
    let s : Small b (with_event e c) = record { documents = omega (arith, f.documents); depth = f.depth 1; bytes = omega (arith, f.bytes); events = omega (arith, f.events) } in
    nor (cause_at b c.events e (with_event e c)) (first_cause b (with_event e c) es) (passes b c.events e (with_event e c) s) (fits_no_cause b (with_event e c) es g)
