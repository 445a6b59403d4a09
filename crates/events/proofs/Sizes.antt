-- What the first rule gives: how long the lists of a piece are.
use Rattle.std.proofs.Common.{◌≡◌, ℕ, ◌+◌, ◌≤◌, Bool, true, false, ◌&&◌, leb, List, length, drop, Some, arith, length-drop, length-take}
use Rattle.std.specs.List.{list_all}
use Rattle.std.proofs.lemmas.Bool.{and_parts, leb-true}
use Rattle.events.specs.declared.score.Run.{Run}
use Rattle.events.specs.declared.score.Piece.{Piece}
use Rattle.events.specs.Scores.{Lists, within, part, marks_of, events_of}
use Rattle.std.specs.Bool.{then_some}
use Rattle.events.specs.Rules.{stock_fits, piece_fits, mark_fits, event_fits, sizes_hold}

-- the sizes of a piece that keeps the first rule
pub record Sized (l : Lists) (p : Piece) : Type 0 where
  pub bytes : length l.bytes ≤ 1048576
  pub few_marks : p.marks.len ≤ 256
  pub few_events : p.events.len ≤ 8192
  pub marks_inside : p.marks.start + p.marks.len ≤ length l.marks
  pub events_inside : p.events.start + p.events.len ≤ length l.events
  pub marks_fit : list_all (mark_fits (length l.bytes)) (marks_of l p) ≡ true
  pub events_fit : list_all (event_fits (length l.bytes)) (events_of l p) ≡ true

pub sized : (l : Lists) (p : Piece) → sizes_hold l p ≡ true → Sized l p
sized l p t =
    let n = length l.bytes in
    let bm = list_all (mark_fits n) (marks_of l p) in
    let be = list_all (event_fits n) (events_of l p) in
    let wm = within p.marks (length l.marks) in
    let we = within p.events (length l.events) in
    let a = and_parts (stock_fits l) (piece_fits p && (wm && (we && (bm && be)))) t in
    let b = and_parts (piece_fits p) (wm && (we && (bm && be))) a.1 in
    let c = and_parts wm (we && (bm && be)) b.1 in
    let d = and_parts we (bm && be) c.1 in
    let e = and_parts bm be d.1 in
    let s = and_parts (leb n 1048576) (leb (length l.marks) 4096 && leb (length l.events) 65536) a.0 in
    let f = and_parts (leb p.marks.len 256) (leb p.events.len 8192 && leb p.text_len 1048576) b.0 in
    let g = and_parts (leb p.events.len 8192) (leb p.text_len 1048576) f.1 in
    record { bytes = leb-true n 1048576 s.0; few_marks = leb-true p.marks.len 256 f.0; few_events = leb-true p.events.len 8192 g.0; marks_inside = leb-true (p.marks.start + p.marks.len) (length l.marks) c.0; events_inside = leb-true (p.events.start + p.events.len) (length l.events) d.0; marks_fit = e.0; events_fit = e.1 }

pub part_length : {A : Type 0} (r : Run) (xs : List A) → r.start + r.len ≤ length xs → length (part r xs) ≡ r.len
part_length r xs h =
    let d = length-drop r.start xs in
    let t = length-take r.len (drop r.start xs) in
    omega arith

-- what was found is what was looked for
pub found_is : {A : Type 0} (b : Bool) (x y : A) → Some x ≡ then_some b y → x ≡ y
found_is true x y e = cc
found_is false x y e = let z : ◌≡◌ {A = ℕ} 0 1 = cc in absurd (omega arith)
