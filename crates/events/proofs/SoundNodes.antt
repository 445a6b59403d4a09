-- What the nodes of a sound piece are.
use Rattle.std.proofs.Common.{◌≡◌, ℕ, ◌+◌, ◌-◌, ◌<◌, ◌≤◌, Bool, true, false, cond, not, eqb, ◌⊎◌, List, length, get_or, take, drop, is_some, Some, None, sym, refl, ap, ◌∙◌, subst, inl, inr, arith, take_all}
use lib.Seq.{take-append_seam}
use Rattle.std.proofs.lemmas.Bool.{cases_lt, and_parts, both_ways}
use Rattle.events.specs.declared.score.Event.{Event}
use Rattle.events.specs.declared.score.Piece.{Piece}
use Rattle.events.specs.declared.score.NodeRange.{NodeRange}
use Rattle.events.specs.declared.kinds.EventKind.TheVariants.{Alias}
use Rattle.events.specs.declared.kinds.Rule.TheVariants.{Sizes, Nesting, Numbering, Aliases}
use Rattle.events.specs.Scores.{Lists, events_of, kind, no_event}
use Rattle.events.specs.Rules.{sizes_hold, nests, numbers, points_back, sound}
use Rattle.events.specs.Balance.{Balanced, Node}
use Rattle.events.specs.Nodes.{starts_node, carries, closing, end_of, ranges_from, range_of, events_in, Starts, OneNode, NestOrDisjoint, NamesBefore, SoundNodes, SoundPiecesHaveNodes}
use Rattle.events.proofs.Balancing.{nesting_is_balance}
use Rattle.events.proofs.Ranges.{Ranged, ranged, ends_inside}
use Rattle.events.proofs.Numbers.{carriers, count_is, number_is, names_is, carriers_take, carriers_rise}
use Rattle.events.proofs.Sizes.{sized, part_length}
use Rattle.events.proofs.Table.{ranges_length, Entered, entered}

-- the four rules of a sound piece
pub record Kept (l : Lists) (p : Piece) : Type 0 where
  pub sizes : sizes_hold l p ≡ true
  pub nesting : nests (events_of l p) ≡ true
  pub numbering : numbers p.marks.len (events_of l p) ≡ true
  pub aliases : points_back (events_of l p) ≡ true

pub kept : (l : Lists) (p : Piece) → sound l p ≡ true → Kept l p
kept l p t = at (sizes_hold l p) refl (nests (events_of l p)) refl (numbers p.marks.len (events_of l p)) refl (points_back (events_of l p)) refl t
  where
    at : (a : Bool) → sizes_hold l p ≡ a → (b : Bool) → nests (events_of l p) ≡ b → (c : Bool) → numbers p.marks.len (events_of l p) ≡ c → (d : Bool) → points_back (events_of l p) ≡ d → not (is_some (cond a (cond b (cond c (cond d None (Some Aliases)) (Some Numbering)) (Some Nesting)) (Some Sizes))) ≡ true → Kept l p
    at false ea b eb c ec d ed u = absurd (both_ways false refl u)
    at true ea false eb c ec d ed u = absurd (both_ways false refl u)
    at true ea true eb false ec d ed u = absurd (both_ways false refl u)
    at true ea true eb true ec false ed u = absurd (both_ways false refl u)
    at true ea true eb true ec true ed u = record { sizes = ea; nesting = eb; numbering = ec; aliases = ed }

module _ (es : List Event) (n : ℕ) (nesting : nests es ≡ true) (numbering : numbers n es ≡ true) (aliasing : points_back es ≡ true) where
  balanced : Balanced true es
  balanced = (nesting_is_balance es).0 nesting

  starting : (p : ℕ) → carries (get_or es p no_event) ≡ true → starts_node (kind (get_or es p no_event)) ≡ true
  starting p c = (and_parts (starts_node (kind (get_or es p no_event))) (not (eqb (get_or es p no_event).anchor 0)) c).0

  -- the place of the carrier with number k
  placed : (k : ℕ) → 1 ≤ k → k ≤ n → Entered es 0 (k - 1) (length es) (range_of es k)
  placed k one le =
      let w : carriers (take (length es) es) ≡ carriers es = ap carriers (take_all (length es) es (omega arith)) in
      let c = count_is n es numbering in
      entered es 0 (k - 1) (length es) (omega arith)

  placed_range : (p : ℕ) → p < length es → carries (get_or es p no_event) ≡ true → Ranged es p
  placed_range p h c = ranged balanced p (starting p c) h

  same_place : (k p q : ℕ) → Starts es k p → Starts es k q → p < q → ⊥
  same_place k p q a b h =
      let r = carriers_rise es p q h a.inside a.carried in
      let x = number_is n es numbering p a.carried in
      let y = number_is n es numbering q b.carried in
      omega (arith, a.number, b.number)

  -- where number k starts and ends
  record Found (k : ℕ) : Type 0 where
    pub place : ℕ
    pub starts : Starts es k place
    pub first_is : (range_of es k).first ≡ place
    pub last_is : (range_of es k).last ≡ end_of es place
    pub before : carriers (take place es) ≡ k - 1

  found : (k : ℕ) → 1 ≤ k → k ≤ n → Found k
  found k one le = at (placed k one le)
    where
      at : Entered es 0 (k - 1) (length es) (range_of es k) → Found k
      at e =
          let z : 0 + e.place ≡ e.place = omega arith in
          let x = number_is n es numbering e.place e.carrier in
          let y : (get_or es e.place no_event).anchor ≡ k = omega (arith, e.before) in
          record { place = e.place; starts = record { inside = e.inside; carried = e.carrier; number = y }; first_is = e.first_is ∙ z; last_is = e.last_is ∙ ap (λ m. closing 0 m (drop e.place es)) z; before = e.before }

  only_place : (k : ℕ) (f : Found k) (p : ℕ) → Starts es k p → (p < f.place) ⊎ (f.place ≤ p) → (f.place < p) ⊎ (p ≤ f.place) → p ≡ (range_of es k).first
  only_place k f p s (inl h) _ = absurd (same_place k p f.place s f.starts h)
  only_place k f p s (inr h) (inl g) = absurd (same_place k f.place p f.starts s g)
  only_place k f p s (inr h) (inr g) = omega (arith, f.first_is)

  one_node : (k : ℕ) → 1 ≤ k → k ≤ n → OneNode es k
  one_node k one le = at (found k one le)
    where
      at : Found k → OneNode es k
      at f =
          let S : ℕ → Type 0 = λ p. Starts es k p in
          let r = placed_range f.place f.starts.inside f.starts.carried in
          let cut : (range_of es k).last + 1 - (range_of es k).first ≡ length r.node = omega (arith, f.first_is, f.last_is, r.long) in
          let whole : events_in es (range_of es k) ≡ r.node = ap (λ m. take m (drop (range_of es k).first es)) cut ∙ ap (λ p. take (length r.node) (drop p es)) f.first_is ∙ ap (λ l. take (length r.node) l) r.stands ∙ take-append_seam r.node r.behind in
          record { starts = subst S (sym f.first_is) f.starts; only = λ p s. only_place k f p s (cases_lt p f.place) (cases_lt f.place p); closes = omega (arith, f.last_is, r.within); forward = omega (arith, f.first_is, f.last_is, r.forward); balanced = subst Node (sym whole) r.is_node }

  -- of two ranges, the one that starts first lies before the other or holds it
  first_nests : (j k : ℕ) (a : Found j) (b : Found k) → a.place ≤ b.place → NestOrDisjoint (range_of es j) (range_of es k)
  first_nests j k a b le = at (cases_lt (end_of es a.place) b.place)
    where
      at : (end_of es a.place < b.place) ⊎ (b.place ≤ end_of es a.place) → NestOrDisjoint (range_of es j) (range_of es k)
      at (inl h) = inl (inl (omega (arith, a.last_is, b.first_is)))
      at (inr h) =
          let i = ends_inside balanced a.place b.place (starting a.place a.starts.carried) a.starts.inside (starting b.place b.starts.carried) b.starts.inside le h in
          inr (inr (omega (arith, a.first_is, b.first_is), omega (arith, a.last_is, b.last_is)))

  turn_round : (a b : NodeRange) → NestOrDisjoint a b → NestOrDisjoint b a
  turn_round a b (inl (inl h)) = inl (inr h)
  turn_round a b (inl (inr h)) = inl (inl h)
  turn_round a b (inr (inl h)) = inr (inr h)
  turn_round a b (inr (inr h)) = inr (inl h)

  nested : (j k : ℕ) → 1 ≤ j → j ≤ n → 1 ≤ k → k ≤ n → NestOrDisjoint (range_of es j) (range_of es k)
  nested j k j1 jn k1 kn = at (found j j1 jn) (found k k1 kn)
    where
      at : Found j → Found k → NestOrDisjoint (range_of es j) (range_of es k)
      at a b = by (cases_lt a.place b.place)
        where
          by : (a.place < b.place) ⊎ (b.place ≤ a.place) → NestOrDisjoint (range_of es j) (range_of es k)
          by (inl h) = first_nests j k a b (omega arith)
          by (inr h) = turn_round (range_of es k) (range_of es j) (first_nests k j b a h)

  names_before : (p : ℕ) → p < length es → kind (get_or es p no_event) ≡ Some Alias → NamesBefore es n p
  names_before p h i =
      let r = names_is n es numbering aliasing p h i in
      let c = count_is n es numbering in
      let t = carriers_take es p in
      let e = entered es 0 ((get_or es p no_event).anchor - 1) p (omega (arith, r.0, r.1)) in
      record { least = r.0; most = omega (arith, r.1); before = omega (arith, e.first_is, e.early) }

  pub sound_nodes : SoundNodes es n
  sound_nodes =
      record { counted = ranges_length es 0 ∙ count_is n es numbering; one_each = one_node; nested = nested; aliases = names_before }

pub sound_pieces_have_nodes : SoundPiecesHaveNodes
sound_pieces_have_nodes l p t =
    let k = kept l p t in
    sound_nodes (events_of l p) p.marks.len k.nesting k.numbering k.aliases

-- what the search for the ranges of a sound piece needs
pub record Searchable (es : List Event) : Type 0 where
  pub few : length es ≤ 8192
  pub room : length (ranges_from 0 es) ≤ 256
  pub closed : (p : ℕ) → p < length es → carries (get_or es p no_event) ≡ true → end_of es p < length es

pub searchable : (l : Lists) (p : Piece) → sound l p ≡ true → Searchable (events_of l p)
searchable l p t =
    let k = kept l p t in
    let s = sized l p k.sizes in
    let n = part_length p.events l.events s.events_inside in
    let c = ranges_length (events_of l p) 0 in
    let m = count_is p.marks.len (events_of l p) k.numbering in
    record { few = omega (arith, s.few_events); room = omega (arith, s.few_marks); closed = λ q h c. (placed_range (events_of l p) p.marks.len k.nesting k.numbering k.aliases q h c).within }
