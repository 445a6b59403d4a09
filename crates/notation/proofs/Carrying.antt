-- Texts that stand in the bytes of a stock stay there.
use Rattle.std.proofs.Common.{◌≡◌, ℕ, ◌+◌, ◌-◌, ◌<◌, ◌≤◌, Bool, true, false, List, [], ◌∷◌, ◌++◌, length, take, drop, Ok, vec_items, MatchBool, ap, ◌∙◌, subst, arith, length-append, length-drop}
use Rattle.std.proofs.lemmas.List.{drop-append-le, take-append-le}
use Rattle.events.specs.declared.score.Event.{Event}
use Rattle.events.specs.declared.score.Run.{Run}
use Rattle.events.specs.declared.score.Span.{Span}
use Rattle.notation.specs.declared.builder.StockBuilder.{StockBuilder}
use Rattle.slices.specs.Fields.{is_empty, place_of}
use Rattle.notation.specs.Lines.{Said, shape_of, is_name, line_of}
use Rattle.notation.specs.Causes.{line_at}
use Rattle.notation.specs.Scores.{Grows, Holds, Carries, Unmarked, Naming, Marking, Anchored, Step, Reached, one_more, Ended, ReadThrough, added}

pub holds_grows : {xs ys : List ℕ} (run : Run) (text : List ℕ) → Holds xs run text → Grows xs ys → Holds ys run text
holds_grows {xs = xs} run text h g =
    let a = h.inside in
    let more = g.more in
    record {
      inside = let e = ap length g.is in omega (arith, length-append xs more);
      is =
          ap (λ zs. take run.len (drop run.start zs)) g.is
          ∙ ap (take run.len) (drop-append-le run.start xs more (omega arith))
          ∙ take-append-le run.len (drop run.start xs) more (omega (arith, length-drop run.start xs))
          ∙ h.is;
    }

-- what a line's anchor did stays so while the marks stay and the bytes grow
module _ (first : ℕ) (name : List ℕ) (n : ℕ) (b c d : StockBuilder) (same : vec_items d.marks ≡ vec_items c.marks) (more : Grows (vec_items c.bytes) (vec_items d.bytes)) where
  anchored_by : (s t : Bool) → MatchBool s (Unmarked n b c) (MatchBool t (Naming first name n b c) (Marking first name n b c)) → MatchBool s (Unmarked n b d) (MatchBool t (Naming first name n b d) (Marking first name n b d))
  anchored_by true t h = record { number = h.number; marks = same ∙ h.marks }
  anchored_by false true h = record { last = h.last; marks = same ∙ h.marks }
  anchored_by false false h = record { mark = h.mark; marks = same ∙ h.marks; named = holds_grows h.mark.name name h.named more; number = h.number }

anchored_stays : (first : ℕ) (l : Said) (n : ℕ) (b c d : StockBuilder) → vec_items d.marks ≡ vec_items c.marks → Grows (vec_items c.bytes) (vec_items d.bytes) → Anchored first l n b c → Anchored first l n b d
anchored_stays first l n b c d same more h = anchored_by first l.anchor n b c d same more (is_empty l.anchor) (is_name (shape_of l.kind)) h

-- a line's event, behind the events that were there
pub step_from : (first : ℕ) (line : List ℕ) (spot : Span) (b c : StockBuilder) {d : StockBuilder} (l : Said) (e : Event) → line_of line ≡ Ok l → vec_items d.events ≡ vec_items c.events ++ (e ∷ []) → vec_items c.events ≡ vec_items b.events → vec_items d.bytes ≡ vec_items b.bytes ++ added l → Carries (vec_items d.bytes) l spot e → vec_items d.marks ≡ vec_items c.marks → Grows (vec_items c.bytes) (vec_items d.bytes) → Anchored first l e.anchor b c → Step first line spot b d
step_from first line spot b c {d = d} l e read put kept held carries marks bytes anchored =
    record {
      says = l;
      read = read;
      event = e;
      events = put ∙ ap (λ es. es ++ (e ∷ [])) kept;
      bytes = held;
      carries = carries;
      anchored = anchored_stays first l e.anchor b c d marks bytes anchored;
    }

pub reached_more : (first : ℕ) (text : List ℕ) (a : StockBuilder) (i : ℕ) (b c : StockBuilder) (line : List ℕ) → Reached first text a i b → i < length text → line ≡ line_at text i → length line ≡ place_of 10 (drop i text) → Step first line (record { start = i; end = i + length line }) b c → Reached first text a (i + length line + 1) c
reached_more first text a i b c line r l e n s =
    let cut : line ≡ take (i + length line - i) (drop i text) = e ∙ ap (λ k. take k (drop i text)) (omega (arith, n)) in
    one_more i (i + length line) b c r l (ap (λ k. i + k) n) (subst (λ t. Step first t (record { start = i; end = i + length line }) b c) cut s)

pub read_through : (f g : ℕ) (text t : List ℕ) (n : ℕ) (a b : StockBuilder) → f ≡ g → t ≡ take n text → Ended text n → ((i : ℕ) × (length t ≤ i) × Reached f t a i b) → ReadThrough g text a b
read_through f g text t n a b e h ended l =
    let m : (i : ℕ) × (length (take n text) ≤ i) × Reached g (take n text) a i b =
    subst (λ k. (i : ℕ) × (length (take n text) ≤ i) × Reached k (take n text) a i b) e (subst (λ (q : List ℕ). (i : ℕ) × (length q ≤ i) × Reached f q a i b) h l) in
    record { end = n; ended = ended; place = m.0; past = m.1; reached = m.2 }
