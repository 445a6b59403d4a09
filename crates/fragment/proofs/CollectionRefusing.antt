-- The first cause is told.
use Rattle.std.proofs.Common.{◌≡◌, ℕ, zero, suc, ◌+◌, ◌<◌, List, [], ◌∷◌, length, get_or, take, Some, None, Option, sym, refl, ap, ◌∙◌, arith}
use Rattle.events.specs.declared.score.Event.{Event}
use Rattle.events.specs.Scores.{kind, no_event}
use Rattle.events.specs.Nodes.{deeper}
use Rattle.std.specs.Option.{option_or}
use Rattle.budget.specs.declared.limits.Budget.{Budget}
use Rattle.fragment.specs.declared.answers.FragmentError.{FragmentError}
use Rattle.fragment.specs.declared.collection.Collected.{Collected}
use Rattle.fragment.specs.Collection.{nothing, with_event, cause_at, first_cause}
use Rattle.fragment.specs.CollectionLaws.{documents_in, bytes_in, depth_after, cause_in, FirstCause}

-- the cause at place p of events that stand behind those counted
abbrev behind : Collected → List Event → ℕ → Collected
behind c es p = record { documents = c.documents + documents_in (take (suc p) es); depth = depth_after c.depth (take (suc p) es); bytes = c.bytes + bytes_in (take (suc p) es); events = c.events + suc p }

abbrev cause_behind : Budget → Collected → List Event → ℕ → Option FragmentError
cause_behind b c es p = cause_at b (c.events + p) (get_or es p no_event) (behind c es p)

same_cause : (b : Budget) (e : Event) (depth : ℕ) {p p' d d' n n' k k' : ℕ} → p ≡ p' → d ≡ d' → n ≡ n' → k ≡ k' → cause_at b p e (record { documents = d; depth = depth; bytes = n; events = k }) ≡ cause_at b p' e (record { documents = d'; depth = depth; bytes = n'; events = k' })
same_cause b e depth {p} {p'} {d} {d'} {n} {n'} {k} {k'} q r s t =
    ap (λ x. cause_at b x e (record { documents = d; depth = depth; bytes = n; events = k })) q
    ∙ ap (λ x. cause_at b p' e (record { documents = x; depth = depth; bytes = n; events = k })) r
    ∙ ap (λ x. cause_at b p' e (record { documents = d'; depth = depth; bytes = x; events = k })) s
    ∙ ap (λ x. cause_at b p' e (record { documents = d'; depth = depth; bytes = n'; events = x })) t

here : (b : Budget) (c : Collected) (e : Event) (es : List Event) → cause_behind b c (e ∷ es) 0 ≡ cause_at b c.events e (with_event e c)
here b c e es = same_cause b e (deeper (kind e) c.depth) (omega arith) (omega arith) (omega arith) (omega arith)

later : (b : Budget) (c : Collected) (e : Event) (es : List Event) (p : ℕ) → cause_behind b c (e ∷ es) (suc p) ≡ cause_behind b (with_event e c) es p
later b c e es p = same_cause b (get_or es p no_event) (depth_after (deeper (kind e) c.depth) (take (suc p) es)) (omega arith) (omega arith) (omega arith) (omega arith)

record FirstBehind (b : Budget) (c : Collected) (es : List Event) (x : FragmentError) : Type 0 where
  pub place : ℕ
  pub inside : place < length es
  pub cause : cause_behind b c es place ≡ Some x
  pub none_before : (q : ℕ) → q < place → cause_behind b c es q ≡ None

told_first : (b : Budget) (c : Collected) (es : List Event) (x : FragmentError) → first_cause b c es ≡ Some x → FirstBehind b c es x
told_first b c [] x q = let z : ◌≡◌ {A = ℕ} 0 1 = cc in absurd (omega arith)
told_first b c (e ∷ es) x q = at (cause_at b c.events e (with_event e c)) refl q (told_first b (with_event e c) es x)
  where
    before : cause_at b c.events e (with_event e c) ≡ None → (g : FirstBehind b (with_event e c) es x) → (k : ℕ) → k < suc g.place → cause_behind b c (e ∷ es) k ≡ None
    before r g zero h = here b c e es ∙ r
    before r g (suc k) h = later b c e es k ∙ g.none_before k (omega arith)

    at : (o : Option FragmentError) → cause_at b c.events e (with_event e c) ≡ o → option_or o (first_cause b (with_event e c) es) ≡ Some x → (first_cause b (with_event e c) es ≡ Some x → FirstBehind b (with_event e c) es x) → FirstBehind b c (e ∷ es) x
    at (Some y) r f rest = record { place = 0; inside = omega arith; cause = here b c e es ∙ r ∙ f; none_before = λ k h. absurd (omega arith) }
    at None r f rest =
        let g = rest f in
        record { place = suc g.place; inside = omega (arith, g.inside); cause = later b c e es g.place ∙ g.cause; none_before = before r g }

first_told : (b : Budget) (c : Collected) (es : List Event) (x : FragmentError) (p : ℕ) → p < length es → cause_behind b c es p ≡ Some x → ((q : ℕ) → q < p → cause_behind b c es q ≡ None) → first_cause b c es ≡ Some x
first_told b c [] x p h s n = absurd (omega arith)
first_told b c (e ∷ es) x zero h s n = ap (λ o. option_or o (first_cause b (with_event e c) es)) (sym (here b c e es) ∙ s)
first_told b c (e ∷ es) x (suc p) h s n =
    ap (λ o. option_or o (first_cause b (with_event e c) es)) (sym (here b c e es) ∙ n 0 (omega arith))
    ∙ first_told b (with_event e c) es x p (omega arith) (sym (later b c e es p) ∙ s) (λ q k. sym (later b c e es q) ∙ n (suc q) (omega arith))

-- from the first event on
start : (b : Budget) (es : List Event) (p : ℕ) → cause_behind b nothing es p ≡ cause_in b es p
start b es p = same_cause b (get_or es p no_event) (depth_after 0 (take (suc p) es)) (omega arith) (omega arith) (omega arith) (omega arith)

pub tells_the_first : (b : Budget) (es : List Event) (x : FragmentError) → first_cause b nothing es ≡ Some x → FirstCause b es x
tells_the_first b es x q =
    let g = told_first b nothing es x q in
    record { place = g.place; inside = g.inside; cause = sym (start b es g.place) ∙ g.cause; none_before = λ k h. sym (start b es k) ∙ g.none_before k h }

pub the_first_is_told : (b : Budget) (es : List Event) (x : FragmentError) → FirstCause b es x → first_cause b nothing es ≡ Some x
the_first_is_told b es x g =
    first_told b nothing es x g.place g.inside (start b es g.place ∙ g.cause) (λ k h. start b es k ∙ g.none_before k h)
