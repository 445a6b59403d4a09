-- The table of node ranges as it is filled and read.
use Rattle.std.proofs.Common.{◌≡◌, ℕ, suc, ◌+◌, ◌<◌, ◌≤◌, Bool, true, false, cond, eqb, List, [], ◌∷◌, ◌++◌, length, get_or, drop, Some, None, Option, sym, ap, ◌∙◌, append_assoc, length-append, add-one, arith}
use Rattle.std.proofs.lemmas.List.{drop_more, drop_all, append-nil}
use Rattle.events.specs.declared.score.Event.{Event}
use Rattle.events.specs.declared.score.NodeRange.{NodeRange}
use Rattle.events.specs.declared.kinds.EventKind.{EventKind}
use Rattle.events.specs.declared.kinds.EventKind.TheVariants.{StreamStart, StreamEnd, DocumentStart, DocumentEnd, Alias, Scalar, SequenceStart, SequenceEnd, MappingStart, MappingEnd}
use Rattle.events.specs.Scores.{kind, no_event}
use Rattle.events.specs.Nodes.{deeper, carries, closing, end_of, added_if, ranges_from}

-- one event goes at most one deeper
pub deeper_le : (o : Option EventKind) (d : ℕ) → deeper o d ≤ d + 1
deeper_le None d = omega arith
deeper_le (Some StreamStart) d = omega arith
deeper_le (Some StreamEnd) d = omega arith
deeper_le (Some DocumentStart) d = omega arith
deeper_le (Some DocumentEnd) d = omega arith
deeper_le (Some Alias) d = omega arith
deeper_le (Some Scalar) d = omega arith
deeper_le (Some SequenceStart) d = omega arith
deeper_le (Some SequenceEnd) d = omega arith
deeper_le (Some MappingStart) d = omega arith
deeper_le (Some MappingEnd) d = omega arith

-- an end is never before its start
pub closing_le : (es : List Event) (d p : ℕ) → p ≤ closing d p es
closing_le [] d p = omega arith
closing_le (e ∷ es) d p = at (eqb (deeper (kind e) d) 0) (closing_le es (deeper (kind e) d) (suc p))
  where
    at : (b : Bool) → suc p ≤ closing (deeper (kind e) d) (suc p) es → p ≤ cond b p (closing (deeper (kind e) d) (suc p) es)
    at true h = omega arith
    at false h = omega arith

-- one turn of the filling of the table
ranges_step : (es : List Event) (i : ℕ) → i < length es → ranges_from i (drop i es) ≡ added_if (carries (get_or es i no_event)) (record { first = i; last = end_of es i }) (ranges_from (i + 1) (drop (i + 1) es))
ranges_step es i h =
    let e = get_or es i no_event in
    let d = drop_more es i no_event h in
    ap (ranges_from i) d ∙ ap (λ n. added_if (carries e) (record { first = i; last = closing 0 i (e ∷ drop (i + 1) es) }) (ranges_from n (drop (i + 1) es))) (sym (add-one i)) ∙ ap (λ ds. added_if (carries e) (record { first = i; last = closing 0 i ds }) (ranges_from (i + 1) (drop (i + 1) es))) (sym d)

module _ (es : List Event) (i : ℕ) (h : i < length es) (rs whole : List NodeRange) (inv : rs ++ ranges_from i (drop i es) ≡ whole) where
  abbrev rest : List NodeRange
  rest = ranges_from (i + 1) (drop (i + 1) es)

  module _ (c : carries (get_or es i no_event) ≡ true) where
    pub ranges_more : (rs ++ record { first = i; last = end_of es i } ∷ []) ++ rest ≡ whole
    ranges_more =
        let r : NodeRange = record { first = i; last = end_of es i } in
        append_assoc rs (r ∷ []) rest ∙ ap (λ z. rs ++ z) (sym (ranges_step es i h ∙ ap (λ b. added_if b r rest) c)) ∙ inv

    pub ranges_room : length rs < length whole
    ranges_room =
        let r : NodeRange = record { first = i; last = end_of es i } in
        let n = length-append (rs ++ r ∷ []) rest in
        let m = length-append rs (r ∷ []) in
        let k : length ((rs ++ r ∷ []) ++ rest) ≡ length whole = ap (λ (xs : List NodeRange). length xs) ranges_more in
        omega arith

  pub ranges_pass : carries (get_or es i no_event) ≡ false → rs ++ rest ≡ whole
  ranges_pass c = ap (λ z. rs ++ z) (sym (ranges_step es i h ∙ ap (λ b. added_if b (record { first = i; last = end_of es i }) rest) c)) ∙ inv

pub ranges_end : (es : List Event) (i : ℕ) (rs whole : List NodeRange) → length es ≤ i → rs ++ ranges_from i (drop i es) ≡ whole → rs ≡ whole
ranges_end es i rs whole h inv = sym (append-nil rs) ∙ ap (λ z. rs ++ ranges_from i z) (sym (drop_all i es h)) ∙ inv
