-- The table of the ranges of the nodes with numbers.
use Rattle.std.proofs.Common.{◌≡◌, ℕ, zero, suc, ◌+◌, ◌<◌, Bool, true, false, List, [], ◌∷◌, length, get_or, take, drop, refl, ap, ◌∙◌, arith}
use Rattle.events.specs.declared.score.Event.{Event}
use Rattle.events.specs.declared.score.NodeRange.{NodeRange}
use Rattle.events.specs.Scores.{no_event}
use Rattle.events.specs.Nodes.{carries, closing, added_if, ranges_from, no_range}
use Rattle.events.proofs.Numbers.{tick, carriers}

pub ranges_length : (es : List Event) (q : ℕ) → length (ranges_from q es) ≡ carriers es
ranges_length [] q = refl
ranges_length (e ∷ es) q = at (carries e) (ranges_length es (suc q))
  where
    at : (b : Bool) → length (ranges_from (suc q) es) ≡ carriers es → length (added_if b (record { first = q; last = closing 0 q (e ∷ es) }) (ranges_from (suc q) es)) ≡ tick b (carriers es)
    at true h = ap suc h
    at false h = h

-- the range r is that of the carrier at place j, before p, with m carriers before it
pub record Entered (es : List Event) (q m p : ℕ) (r : NodeRange) : Type 0 where
  pub place : ℕ
  pub early : place < p
  pub inside : place < length es
  pub carrier : carries (get_or es place no_event) ≡ true
  pub before : carriers (take place es) ≡ m
  pub first_is : r.first ≡ q + place
  pub last_is : r.last ≡ closing 0 (q + place) (drop place es)

shift : (b : Bool) (e : Event) (es : List Event) (q m p : ℕ) (r : NodeRange) → carries e ≡ b → Entered es (suc q) m p r → Entered (e ∷ es) q (tick b m) (suc p) r
shift b e es q m p r c a =
    let s : suc q + a.place ≡ q + suc a.place = omega arith in
    record { place = suc a.place; early = omega (arith, a.early); inside = omega (arith, a.inside); carrier = a.carrier; before = ap (λ x. tick x (carriers (take a.place es))) c ∙ ap (λ n. tick b n) a.before; first_is = a.first_is ∙ s; last_is = a.last_is ∙ ap (λ k. closing 0 k (drop a.place es)) s }

abbrev row : ℕ → Event → List Event → Bool → List NodeRange
row q e es b = added_if b (record { first = q; last = closing 0 q (e ∷ es) }) (ranges_from (suc q) es)

pub entered : (es : List Event) (q m p : ℕ) → m < carriers (take p es) → Entered es q m p (get_or (ranges_from q es) m no_range)
entered es q m zero h = absurd (omega arith)
entered [] q m (suc p) h = absurd (omega arith)
entered (e ∷ es) q m (suc p) h = at (carries e) refl m h (λ k g. entered es (suc q) k p g)
  where
    at : (b : Bool) → carries e ≡ b → (m : ℕ) → m < tick b (carriers (take p es)) → ((k : ℕ) → k < carriers (take p es) → Entered es (suc q) k p (get_or (ranges_from (suc q) es) k no_range)) → Entered (e ∷ es) q m (suc p) (get_or (row q e es b) m no_range)
    at true c zero h ih = let s : q ≡ q + 0 = omega arith in record { place = 0; early = omega arith; inside = omega arith; carrier = c; before = refl; first_is = s; last_is = ap (λ k. closing 0 k (e ∷ es)) s }
    at true c (suc m) h ih = shift true e es q m p (get_or (ranges_from (suc q) es) m no_range) c (ih m (omega arith))
    at false c m h ih = shift false e es q m p (get_or (ranges_from (suc q) es) m no_range) c (ih m h)
