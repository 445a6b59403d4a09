-- One event of collection after the other.
use Rattle.std.proofs.Common.{◌≡◌, ℕ, ◌+◌, ◌<◌, ◌≤◌, Bool, true, false, cond, ◌&&◌, ltb, List, length, get_or, drop, Some, None, Ok, Err, Option, sym, refl, ap, ◌∙◌, arith}
use Rattle.std.proofs.lemmas.List.{drop_more, drop_all}
use Rattle.std.proofs.lemmas.Bool.{ltb-false}
use Rattle.events.specs.declared.score.Event.{Event}
use Rattle.events.specs.Scores.{kind, no_event}
use Rattle.std.specs.Option.{option_or}
use Rattle.events.proofs.Filling.{deeper_le}
use Rattle.budget.specs.declared.limits.Budget.{Budget}
use Rattle.fragment.specs.declared.answers.FragmentError.{FragmentError}
use Rattle.fragment.specs.declared.collection.Collected.{Collected}
use Rattle.fragment.specs.Collection.{is_document_start, is_start, one_document, nothing, with_event, cause_if, second_document, too_deep, too_many_bytes, too_many_events, cause_at, first_cause, unless}

never : {X : Type 0} {e : FragmentError} → ◌≡◌ {A = Option FragmentError} (Some e) None → X
never q = let z : ◌≡◌ {A = ℕ} 0 1 = cc in absurd (omega arith)

-- where nothing is told, neither part tells anything
pub neither : (a b : Option FragmentError) → option_or a b ≡ None → (a ≡ None) × (b ≡ None)
neither None b q = (refl, q)
neither (Some e) b q = never q

pub no_cause : (t : Bool) (e : FragmentError) → cause_if t e ≡ None → t ≡ false
no_cause true e q = never q
no_cause false e q = refl

-- no cause stands at an event
pub record Passed (b : Budget) (e : Event) (c : Collected) : Type 0 where
  pub documents : (is_document_start (kind e) && ltb 1 c.documents) ≡ false
  pub depth : (is_start (kind e) && ltb b.max_depth c.depth) ≡ false
  pub bytes : c.bytes ≤ b.max_total_scalar_bytes
  pub events : c.events ≤ b.max_events

pub passed : (b : Budget) (p : ℕ) (e : Event) (c : Collected) → cause_at b p e c ≡ None → Passed b e c
passed b p e c q =
    let x = neither (second_document p e c) _ q in
    let y = neither (too_deep b e c) _ x.1 in
    let z = neither (too_many_bytes b c) (too_many_events b c) y.1 in
    record { documents = no_cause _ _ x.0; depth = no_cause _ _ y.0; bytes = ltb-false b.max_total_scalar_bytes c.bytes (no_cause _ _ z.0); events = ltb-false b.max_events c.events (no_cause _ _ z.1) }

pub one_document_le : (e : Event) → one_document e ≤ 1
one_document_le e = at (is_document_start (kind e))
  where
    at : (t : Bool) → cond t 1 0 ≤ 1
    at true = omega arith
    at false = omega arith

-- the first i events are counted, and no cause was found among them
pub record Going (b : Budget) (es : List Event) (i : ℕ) (c : Collected) : Type 0 where
  pub left : first_cause b c (drop i es) ≡ first_cause b nothing es
  pub documents : c.documents ≤ i
  pub depth : c.depth ≤ i
  pub bytes : c.bytes ≤ b.max_total_scalar_bytes
  pub events : c.events ≡ i

module _ (b : Budget) (es : List Event) (i : ℕ) (c : Collected) (h : i < length es) (g : Going b es i c) where
  abbrev e : Event
  e = get_or es i no_event

  split : option_or (cause_at b c.events e (with_event e c)) (first_cause b (with_event e c) (drop (i + 1) es)) ≡ first_cause b nothing es
  split = sym (ap (first_cause b c) (drop_more es i no_event h)) ∙ g.left

  pub goes_on : cause_at b c.events e (with_event e c) ≡ None → Going b es (i + 1) (with_event e c)
  goes_on q =
      let p = passed b c.events e (with_event e c) q in
      let d = deeper_le (kind e) c.depth in
      let o = one_document_le e in
      record { left = sym (ap (λ o. option_or o (first_cause b (with_event e c) (drop (i + 1) es))) q) ∙ split; documents = omega (arith, o, g.documents); depth = omega (arith, d, g.depth); bytes = p.bytes; events = omega (arith, g.events) }

  pub stops : (x : FragmentError) → cause_at b c.events e (with_event e c) ≡ Some x → first_cause b nothing es ≡ Some x
  stops x q = sym split ∙ ap (λ o. option_or o (first_cause b (with_event e c) (drop (i + 1) es))) q

pub ends : (b : Budget) (es : List Event) (i : ℕ) (c : Collected) → length es ≤ i → Going b es i c → first_cause b nothing es ≡ None
ends b es i c h g = sym g.left ∙ ap (first_cause b c) (drop_all i es h)

-- an answer with nothing to tell has no cause, and a refusal has one
pub unless_ok : (o : Option FragmentError) → Ok tt ≡ unless o → o ≡ None
unless_ok None q = refl
unless_ok (Some x) q = let z : ◌≡◌ {A = ℕ} 0 1 = cc in absurd (omega arith)

pub unless_err : (o : Option FragmentError) (x : FragmentError) → Err x ≡ unless o → o ≡ Some x
unless_err None x q = let z : ◌≡◌ {A = ℕ} 0 1 = cc in absurd (omega arith)
unless_err (Some y) x q = cc
