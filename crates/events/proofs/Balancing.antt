-- The nesting rule holds exactly of balanced events.
use Rattle.std.proofs.Common.{◌≡◌, ℕ, Bool, true, false, cond, List, [], ◌∷◌, ◌++◌, Some, None, Option, refl, ap, ◌∙◌, subst, inl, inr, append_assoc, arith}
use Rattle.events.specs.declared.score.Event.{Event}
use Rattle.events.specs.declared.kinds.EventKind.{EventKind}
use Rattle.events.specs.declared.kinds.EventKind.TheVariants.{StreamStart, StreamEnd, DocumentStart, DocumentEnd, Alias, Scalar, SequenceStart, SequenceEnd, MappingStart, MappingEnd}
use Rattle.events.specs.declared.kinds.Container.{Container}
use Rattle.events.specs.declared.kinds.Container.TheVariants.{Sequence, Mapping}
use Rattle.events.specs.Scores.{kind}
use Rattle.events.specs.Walks.{onward, keeps}
use Rattle.events.specs.Rules.{none, shut, turned, turned_by, turned_at, nests}
use Rattle.events.specs.Balance.{Is, starts, ends, Single, Outer, Balanced, empty, outer, single, collection, NestingIsBalance}

-- the rule from a place on, with the containers that are open there
abbrev rest : List Container → List Event → Bool
rest held es = keeps turned_at none held es

-- what one event of a kind does to the rule
step : (k : EventKind) (held : List Container) (e : Event) (es : List Event) → Is e k → rest held (e ∷ es) ≡ onward (turned k held) (λ h. rest h es)
step k held e es i = ap (λ o. onward (turned_by o held) (λ h. rest h es)) i

pub step_start : (c : Container) (held : List Container) (e : Event) (es : List Event) → Is e (starts c) → rest held (e ∷ es) ≡ rest (c ∷ held) es
step_start Sequence held e es i = step SequenceStart held e es i
step_start Mapping held e es i = step MappingStart held e es i

pub step_end : (c : Container) (held : List Container) (e : Event) (es : List Event) → Is e (ends c) → rest (c ∷ held) (e ∷ es) ≡ rest held es
step_end Sequence held e es i = step SequenceEnd (Sequence ∷ held) e es i
step_end Mapping held e es i = step MappingEnd (Mapping ∷ held) e es i

pub step_single : (held : List Container) (e : Event) (es : List Event) → Single e → rest held (e ∷ es) ≡ rest held es
step_single held e es (inl i) = step Scalar held e es i
step_single held e es (inr i) = step Alias held e es i

pub step_outer : (e : Event) (es : List Event) → Outer e → rest [] (e ∷ es) ≡ rest [] es
step_outer e es (inl i) = step StreamStart [] e es i
step_outer e es (inr (inl i)) = step StreamEnd [] e es i
step_outer e es (inr (inr (inl i))) = step DocumentStart [] e es i
step_outer e es (inr (inr (inr i))) = step DocumentEnd [] e es i

-- balanced events leave open what was open
pass_inner : {xs : List Event} → Balanced false xs → (held : List Container) (ys : List Event) → rest held (xs ++ ys) ≡ rest held ys
pass_inner empty held ys = refl
pass_inner (single {es = es} e s b) held ys = step_single held e (es ++ ys) s ∙ pass_inner b held ys
pass_inner (collection {inner = inner} {es = es} c s e i b j t) held ys =
    ap (λ zs. rest held (s ∷ zs)) (append_assoc inner (e ∷ es) ys) ∙ step_start c held s (inner ++ (e ∷ (es ++ ys))) i ∙ pass_inner b (c ∷ held) (e ∷ (es ++ ys)) ∙ step_end c held e (es ++ ys) j ∙ pass_inner t held ys

pass_top : {xs : List Event} → Balanced true xs → nests xs ≡ true
pass_top empty = refl
pass_top (outer {es = es} e o b) = step_outer e es o ∙ pass_top b
pass_top (single {es = es} e s b) = step_single [] e es s ∙ pass_top b
pass_top (collection {inner = inner} {es = es} c s e i b j t) =
    step_start c [] s (inner ++ (e ∷ es)) i ∙ pass_inner b (c ∷ []) (e ∷ es) ∙ step_end c [] e es j ∙ pass_top t

-- what the events from a place on are, with the containers that are open there: for each of them balanced nodes and its end
data Rest : List Container → List Event → Type 0 where
  top : {es : List Event} → Balanced true es → Rest [] es
  inside : {inner es : List Event} {held : List Container} → (c : Container) (e : Event) → Balanced false inner → Is e (ends c) → Rest held es → Rest (c ∷ held) (inner ++ (e ∷ es))

add_single : {held : List Container} {es : List Event} (e : Event) → Single e → Rest held es → Rest held (e ∷ es)
add_single e s (top b) = top (single e s b)
add_single e s (inside c f b j r) = inside c f (single e s b) j r

add_collection : {held : List Container} {inner es : List Event} (c : Container) (s e : Event) → Is s (starts c) → Balanced false inner → Is e (ends c) → Rest held es → Rest held (s ∷ (inner ++ (e ∷ es)))
add_collection c s e i b j (top t) = top (collection c s e i b j t)
add_collection {inner = inner} c s e i b j (inside {inner = more} {es = es} {held = held} d f t k r) =
    let E : List Event → Type 0 = λ zs. Rest (d ∷ held) (s ∷ zs) in
    subst E (append_assoc inner (e ∷ more) (f ∷ es)) (inside d f (collection c s e i b j t) k r)

add_start : {held : List Container} {es : List Event} {c : Container} → Rest (c ∷ held) es → (s : Event) → Is s (starts c) → Rest held (s ∷ es)
add_start (inside c e b j r) s i = add_collection c s e i b j r

at_top : {es : List Event} → Rest [] es → Balanced true es
at_top (top b) = b

never : {X : Type 0} → false ≡ true → X
never e = let z : ◌≡◌ {A = ℕ} 0 1 = cc in absurd (omega arith)

add_outer : (held : List Container) (e : Event) (es : List Event) → Outer e → ((h : List Container) → rest h es ≡ true → Rest h es) → onward (cond (none held) (Some held) None) (λ h. rest h es) ≡ true → Rest held (e ∷ es)
add_outer [] e es o ih t = top (outer e o (at_top (ih [] t)))
add_outer (c ∷ held) e es o ih t = never t

add_end : (c : Container) (held : List Container) (e : Event) (es : List Event) → Is e (ends c) → ((h : List Container) → rest h es ≡ true → Rest h es) → onward (shut c held) (λ h. rest h es) ≡ true → Rest held (e ∷ es)
add_end c [] e es i ih t = never t
add_end Sequence (Sequence ∷ held) e es i ih t = inside Sequence e empty i (ih held t)
add_end Sequence (Mapping ∷ held) e es i ih t = never t
add_end Mapping (Sequence ∷ held) e es i ih t = never t
add_end Mapping (Mapping ∷ held) e es i ih t = inside Mapping e empty i (ih held t)

-- one event more in front, whatever its kind
add_event : (e : Event) (es : List Event) (held : List Container) → ((h : List Container) → rest h es ≡ true → Rest h es) → (k : Option EventKind) → kind e ≡ k → onward (turned_by k held) (λ h. rest h es) ≡ true → Rest held (e ∷ es)
add_event e es held ih None i u = never u
add_event e es held ih (Some StreamStart) i u = add_outer held e es (inl i) ih u
add_event e es held ih (Some StreamEnd) i u = add_outer held e es (inr (inl i)) ih u
add_event e es held ih (Some DocumentStart) i u = add_outer held e es (inr (inr (inl i))) ih u
add_event e es held ih (Some DocumentEnd) i u = add_outer held e es (inr (inr (inr i))) ih u
add_event e es held ih (Some Alias) i u = add_single e (inr i) (ih held u)
add_event e es held ih (Some Scalar) i u = add_single e (inl i) (ih held u)
add_event e es held ih (Some SequenceStart) i u = add_start (ih (Sequence ∷ held) u) e i
add_event e es held ih (Some SequenceEnd) i u = add_end Sequence held e es i ih u
add_event e es held ih (Some MappingStart) i u = add_start (ih (Mapping ∷ held) u) e i
add_event e es held ih (Some MappingEnd) i u = add_end Mapping held e es i ih u

from_rule : (es : List Event) (held : List Container) → rest held es ≡ true → Rest held es
from_rule [] [] t = top empty
from_rule [] (c ∷ held) t = never t
from_rule (e ∷ es) held t = add_event e es held (λ h u. from_rule es h u) (kind e) refl t

pub nesting_is_balance : NestingIsBalance
nesting_is_balance es = (λ t. at_top (from_rule es [] t), λ b. pass_top b)
