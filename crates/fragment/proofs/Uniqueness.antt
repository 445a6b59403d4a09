-- A run of events has one unfolding at most.
use Rattle.std.proofs.Common.{◌≡◌, ℕ, List, ◌∷◌, refl, ap}
use Rattle.events.specs.declared.score.Event.{Event}
use Rattle.fragment.specs.Relation.{Unfolds, ends, keeps, opens}
use Rattle.fragment.specs.Laws.{TheUnfoldingIsUnique}

same : (es : List Event) {p n : ℕ} {out out' : List ℕ} {a a' : ℕ} → Unfolds es p n out a → Unfolds es p n out' a' → (out ≡ out') × (a ≡ a')
same es ends ends = (refl, refl)
same es (keeps {p = p} other u) (keeps other' u') = let i = same es u u' in (ap (λ t. p ∷ t) i.0, i.1)
same es (keeps other u) (opens al i' u') = absurd (other al)
same es (opens al i u) (keeps other' u') = absurd (other' al)
same es (opens al i u) (opens al' i' u') =
    let j = same es i i' in
    let k = same es u u' in
    (cc, cc)

pub the_unfolding_is_unique : TheUnfoldingIsUnique
the_unfolding_is_unique es p n out out' a a' u u' = same es u u'
