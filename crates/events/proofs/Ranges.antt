-- Where the nodes of balanced events start and end.
use Rattle.std.proofs.Common.{◌≡◌, ℕ, zero, suc, ◌+◌, ◌-◌, ◌<◌, ◌≤◌, Bool, true, false, cond, eqb, ◌⊎◌, List, [], ◌∷◌, ◌++◌, length, get_or, drop, sym, refl, ap, ◌∙◌, subst, inl, inr, append_assoc, add-one, arith, length-append, length-drop, get_or-drop, drop-drop, get_or-append-add}
use Rattle.std.proofs.lemmas.List.{get_or_append_left}
use lib.Seq.{drop-append-le, drop-append-add}
use Rattle.std.proofs.lemmas.Bool.{ne_eqb, cases_lt, both_ways}
use Rattle.events.specs.declared.score.Event.{Event}
use Rattle.events.specs.declared.kinds.Container.{Container}
use Rattle.events.specs.declared.kinds.Container.TheVariants.{Sequence, Mapping}
use Rattle.events.specs.Scores.{kind, no_event}
use Rattle.events.specs.Balance.{Is, starts, ends, Single, Outer, Balanced, empty, outer, single, collection, Node, leaf, tree}
use Rattle.events.specs.Nodes.{starts_node, deeper, closing, end_of}

-- the depth behind an event that leaves it above 0, or at 0
abbrev onto : ℕ → ℕ → List Event → ℕ
onto d p es = cond (eqb d 0) p (closing d (suc p) es)

onto_above : (d d' p : ℕ) (es : List Event) → d ≡ suc d' → onto d p es ≡ closing (suc d') (suc p) es
onto_above d d' p es e =
    ap (λ n. onto n p es) e ∙ ap (λ b. cond b p (closing (suc d') (suc p) es)) (ne_eqb (suc d') 0 (λ z. omega arith))

closing_start : (c : Container) (s : Event) (d p : ℕ) (es : List Event) → Is s (starts c) → closing d p (s ∷ es) ≡ closing (suc d) (suc p) es
closing_start Sequence s d p es i = ap (λ k. onto (deeper k d) p es) i ∙ onto_above (d + 1) d p es (add-one d)
closing_start Mapping s d p es i = ap (λ k. onto (deeper k d) p es) i ∙ onto_above (d + 1) d p es (add-one d)

closing_end : (c : Container) (e : Event) (d p : ℕ) (es : List Event) → Is e (ends c) → closing (suc (suc d)) p (e ∷ es) ≡ closing (suc d) (suc p) es
closing_end Sequence e d p es i = ap (λ k. onto (deeper k (suc (suc d))) p es) i ∙ onto_above (suc (suc d) - 1) d p es (omega arith)
closing_end Mapping e d p es i = ap (λ k. onto (deeper k (suc (suc d))) p es) i ∙ onto_above (suc (suc d) - 1) d p es (omega arith)

closing_last : (c : Container) (e : Event) (p : ℕ) (es : List Event) → Is e (ends c) → closing 1 p (e ∷ es) ≡ p
closing_last Sequence e p es i = ap (λ k. onto (deeper k 1) p es) i
closing_last Mapping e p es i = ap (λ k. onto (deeper k 1) p es) i

closing_single : (e : Event) (d p : ℕ) (es : List Event) → Single e → closing (suc d) p (e ∷ es) ≡ closing (suc d) (suc p) es
closing_single e d p es (inl i) = ap (λ k. onto (deeper k (suc d)) p es) i ∙ onto_above (suc d + 0) d p es (omega arith)
closing_single e d p es (inr i) = ap (λ k. onto (deeper k (suc d)) p es) i ∙ onto_above (suc d + 0) d p es (omega arith)

closing_alone : (e : Event) (p : ℕ) (es : List Event) → Single e → closing 0 p (e ∷ es) ≡ p
closing_alone e p es (inl i) = ap (λ k. onto (deeper k 0) p es) i
closing_alone e p es (inr i) = ap (λ k. onto (deeper k 0) p es) i

-- inside an open container balanced nodes are passed over
closing_past : {xs : List Event} → Balanced false xs → (d p : ℕ) (ys : List Event) → closing (suc d) p (xs ++ ys) ≡ closing (suc d) (p + length xs) ys
closing_past empty d p ys = ap (λ n. closing (suc d) n ys) (omega arith)
closing_past (single {es = es} e s b) d p ys =
    closing_single e d p (es ++ ys) s ∙ closing_past b d (suc p) ys ∙ ap (λ n. closing (suc d) n ys) (omega arith)
closing_past (collection {inner = inner} {es = es} c s e i b j t) d p ys =
    ap (λ zs. closing (suc d) p (s ∷ zs)) (append_assoc inner (e ∷ es) ys) ∙ closing_start c s (suc d) p (inner ++ (e ∷ (es ++ ys))) i
    ∙ closing_past b (suc d) (suc p) (e ∷ (es ++ ys)) ∙ closing_end c e d (suc p + length inner) (es ++ ys) j
    ∙ closing_past t d (suc (suc p + length inner)) ys ∙ ap (λ n. closing (suc d) n ys) (omega (arith, length-append inner (e ∷ es)))

-- a node ends at its last event
pub closing_node : {zs : List Event} → Node zs → (p : ℕ) (ys : List Event) → closing 0 p (zs ++ ys) + 1 ≡ p + length zs
closing_node (leaf e s) p ys = omega (arith, closing_alone e p ys s)
closing_node (tree {inner = inner} c s e i b j) p ys =
    let a : closing 0 p (s ∷ ((inner ++ (e ∷ [])) ++ ys)) ≡ closing 0 p (s ∷ (inner ++ (e ∷ ys))) = ap (λ zs. closing 0 p (s ∷ zs)) (append_assoc inner (e ∷ []) ys) in
    let q : closing 0 p (s ∷ (inner ++ (e ∷ ys))) ≡ suc p + length inner = closing_start c s 0 p (inner ++ (e ∷ ys)) i ∙ closing_past b 0 (suc p) (e ∷ ys) ∙ closing_last c e (suc p + length inner) ys j in
    omega (arith, a, q, length-append inner (e ∷ []))

-- a balanced node stands at place j
abbrev pub Located : List Event → ℕ → Type 0
Located es j = (zs : List Event) × (ys : List Event) × Node zs × (drop j es ≡ zs ++ ys)

end_starts_none : (c : Container) (e : Event) → Is e (ends c) → starts_node (kind e) ≡ false
end_starts_none Sequence e i = ap starts_node i
end_starts_none Mapping e i = ap starts_node i

outer_starts_none : (e : Event) → Outer e → starts_node (kind e) ≡ false
outer_starts_none e (inl i) = ap starts_node i
outer_starts_none e (inr (inl i)) = ap starts_node i
outer_starts_none e (inr (inr (inl i))) = ap starts_node i
outer_starts_none e (inr (inr (inr i))) = ap starts_node i

located_front : (xs ys : List Event) (j : ℕ) → j ≤ length xs → Located xs j → Located (xs ++ ys) j
located_front xs ys j h (zs, rest, n, e) =
    (zs, rest ++ ys, n, drop-append-le j xs ys h ∙ ap (λ l. l ++ ys) e ∙ append_assoc zs rest ys)

located_back : (xs ys : List Event) (j : ℕ) → Located ys j → Located (xs ++ ys) (length xs + j)
located_back xs ys j (zs, rest, n, e) = (zs, rest, n, drop-append-add xs ys j ∙ e)

-- a place lies in the first list, or so far behind it
split_place : (n j : ℕ) → (j < n) ⊎ ((k : ℕ) × (j ≡ n + k))
split_place n j = at (cases_lt j n)
  where
    at : (j < n) ⊎ (n ≤ j) → (j < n) ⊎ ((k : ℕ) × (j ≡ n + k))
    at (inl h) = inl h
    at (inr h) = inr (j - n, omega arith)

abbrev starting : List Event → ℕ → Type 0
starting es j = starts_node (kind (get_or es j no_event)) ≡ true

-- behind the first event of a collection: among its inner nodes, at its end, or behind it
in_collection : (c : Container) (inner : List Event) (e : Event) (es : List Event) → Is e (ends c) → (j : ℕ) → (j < length inner) ⊎ ((k : ℕ) × (j ≡ length inner + k)) → ((k : ℕ) → starting inner k → Located inner k) → ((k : ℕ) → starting es k → Located es k) → starting (inner ++ (e ∷ es)) j → Located (inner ++ (e ∷ es)) j
in_collection c inner e es i j (inl h) inside after t =
    located_front inner (e ∷ es) j (omega arith) (inside j (ap (λ v. starts_node (kind v)) (sym (get_or_append_left inner (e ∷ es) no_event j h)) ∙ t))
in_collection c inner e es i j (inr (zero, q)) inside after t =
    let f : get_or (inner ++ (e ∷ es)) j no_event ≡ e = ap (λ n. get_or (inner ++ (e ∷ es)) n no_event) q ∙ get_or-append-add inner (e ∷ es) 0 no_event in
    absurd (both_ways (starts_node (kind e)) (end_starts_none c e i) (ap (λ v. starts_node (kind v)) (sym f) ∙ t))
in_collection c inner e es i j (inr (suc k, q)) inside after t =
    let f : get_or (inner ++ (e ∷ es)) j no_event ≡ get_or es k no_event = ap (λ n. get_or (inner ++ (e ∷ es)) n no_event) q ∙ get_or-append-add inner (e ∷ es) (suc k) no_event in
    let L : ℕ → Type 0 = λ n. Located (inner ++ (e ∷ es)) n in
    subst L (sym q) (located_back inner (e ∷ es) (suc k) (after k (ap (λ v. starts_node (kind v)) (sym f) ∙ t)))

-- where a node starts in balanced events, a balanced node stands
pub locate : {top : Bool} {es : List Event} → Balanced top es → (j : ℕ) → starting es j → Located es j
locate empty j t = absurd (both_ways false refl t)
locate (outer e o b) zero t = absurd (both_ways (starts_node (kind e)) (outer_starts_none e o) t)
locate (outer e o b) (suc j) t = locate b j t
locate (single {es = es} e s b) zero t = (e ∷ [], es, leaf e s, refl)
locate (single e s b) (suc j) t = locate b j t
locate (collection {inner = inner} {es = es} c s e i b k r) zero t =
    (s ∷ (inner ++ (e ∷ [])), es, tree c s e i b k, ap (λ l. s ∷ l) (sym (append_assoc inner (e ∷ []) es)))
locate (collection {inner = inner} {es = es} c s e i b k r) (suc j) t =
    in_collection c inner e es k j (split_place (length inner) j) (λ m u. locate b m u) (λ m u. locate r m u) t

-- one node is balanced
pub node_balanced : {zs : List Event} → Node zs → Balanced false zs
node_balanced (leaf e s) = single e s empty
node_balanced (tree c s e i b j) = collection c s e i b j empty

-- the range of a node that starts at p
pub record Ranged (es : List Event) (p : ℕ) : Type 0 where
  pub node : List Event
  pub behind : List Event
  pub is_node : Node node
  pub stands : drop p es ≡ node ++ behind
  pub long : end_of es p + 1 ≡ p + length node
  pub within : end_of es p < length es
  pub forward : p ≤ end_of es p

node_long : {zs : List Event} → Node zs → 0 < length zs
node_long (leaf e s) = omega arith
node_long (tree c s e i b j) = omega arith

pub ranged : {top : Bool} {es : List Event} → Balanced top es → (p : ℕ) → starting es p → p < length es → Ranged es p
ranged {es = es} b p t h = at (locate b p t)
  where
    at : Located es p → Ranged es p
    at (zs, ys, n, e) =
        let l : end_of es p + 1 ≡ p + length zs = ap (λ l. closing 0 p l + 1) e ∙ closing_node n p ys in
        let s : length (drop p es) ≡ length zs + length ys = ap (λ (l : List Event). length l) e ∙ length-append zs ys in
        let d = length-drop p es in
        let z = node_long n in
        record { node = zs; behind = ys; is_node = n; stands = e; long = l; within = omega arith; forward = omega arith }

-- a node that starts inside another ends inside it
pub ends_inside : {top : Bool} {es : List Event} → Balanced top es → (p q : ℕ) → starting es p → p < length es → starting es q → q < length es → p ≤ q → q ≤ end_of es p → end_of es q ≤ end_of es p
ends_inside {es = es} b p q t h u k le lt = at (ranged b p t h)
  where
    at : Ranged es p → end_of es q ≤ end_of es p
    at r =
        let j = q - p in
        let g : get_or (r.node ++ r.behind) j no_event ≡ get_or es q no_event = ap (λ l. get_or l j no_event) (sym r.stands) ∙ get_or-drop p es j no_event ∙ ap (λ n. get_or es n no_event) (omega arith) in
        let jl : j < length r.node = omega (arith, r.long) in
        let v : starting r.node j = ap (λ e. starts_node (kind e)) (sym (get_or_append_left r.node r.behind no_event j jl) ∙ g) ∙ u in
        inner (locate (node_balanced r.is_node) j v) jl
      where
        inner : Located r.node (q - p) → q - p < length r.node → end_of es q ≤ end_of es p
        inner (zs, ys, n, e) jl =
            let d : drop q es ≡ zs ++ (ys ++ r.behind) = ap (λ m. drop m es) (omega arith) ∙ sym (drop-drop (q - p) p es) ∙ ap (λ l. drop (q - p) l) r.stands ∙ drop-append-le (q - p) r.node r.behind (omega arith) ∙ ap (λ l. l ++ r.behind) e ∙ append_assoc zs ys r.behind in
            let c : end_of es q + 1 ≡ q + length zs = ap (λ l. closing 0 q l + 1) d ∙ closing_node n q (ys ++ r.behind) in
            let s : length (drop (q - p) r.node) ≡ length zs + length ys = ap (λ (l : List Event). length l) e ∙ length-append zs ys in
            let w = length-drop (q - p) r.node in
            omega (arith, r.long)
