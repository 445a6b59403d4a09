-- A sound piece under checked limits can be counted in 32 bits.
use Rattle.std.proofs.Common.{◌≡◌, ℕ, zero, suc, ◌+◌, ◌^◌, ◌<◌, ◌≤◌, Bool, true, false, cond, ◌&&◌, List, [], ◌∷◌, length, get_or, is_some, arith}
use Rattle.std.proofs.lemmas.Bool.{and_parts, leb-true}
use Rattle.events.specs.declared.score.Event.{Event}
use Rattle.events.specs.declared.score.Piece.{Piece}
use Rattle.events.specs.Kinds.{style_of}
use Rattle.events.specs.Scores.{Lists, kind, within, marks_of, events_of, no_event}
use Rattle.events.specs.Rules.{sound, event_fits}
use Rattle.std.specs.List.{list_all}
use Rattle.events.proofs.SoundNodes.{kept}
use Rattle.events.proofs.Sizes.{sized, part_length}
use Rattle.budget.specs.declared.limits.Budget.{Budget}
use Rattle.fragment.specs.Room.{RoomForAll}
use Rattle.fragment.specs.Unfolding.{is_scalar, value_bytes}

all_at : {A : Type 0} (f : A → Bool) (d : A) (xs : List A) → list_all f xs ≡ true → (p : ℕ) → p < length xs → f (get_or xs p d) ≡ true
all_at f d [] t p h = absurd (omega arith)
all_at f d (x ∷ xs) t zero h = (and_parts (f x) (list_all f xs) t).0
all_at f d (x ∷ xs) t (suc p) h = all_at f d xs (and_parts (f x) (list_all f xs) t).1 p (omega arith)

value_le : (n : ℕ) (e : Event) → event_fits n e ≡ true → value_bytes e ≤ n
value_le n e t =
    let a = and_parts (is_some (kind e)) (is_some (style_of e.style) && (within e.value n && within e.tag n)) t in
    let b = and_parts (is_some (style_of e.style)) (within e.value n && within e.tag n) a.1 in
    let c = and_parts (within e.value n) (within e.tag n) b.1 in
    at (is_scalar (kind e)) (leb-true (e.value.start + e.value.len) n c.0)
  where
    at : (b : Bool) → e.value.start + e.value.len ≤ n → cond b e.value.len 0 ≤ n
    at true h = omega arith
    at false h = omega arith

pub sound_room : (b : Budget) → b.max_total_scalar_bytes ≤ 2 ^ 30 → (l : Lists) (p : Piece) → sound l p ≡ true → RoomForAll b (events_of l p)
sound_room b h l p t =
    let s = sized l p (kept l p t).sizes in
    let n = length l.bytes in
    record { few = omega (arith, part_length p.events l.events s.events_inside, s.few_events); short = λ q k. let v = value_le n (get_or (events_of l p) q no_event) (all_at (event_fits n) no_event (events_of l p) s.events_fit q k) in omega (arith, v, s.bytes); limited = h }

pub few_marks : (l : Lists) (p : Piece) → sound l p ≡ true → length (marks_of l p) ≤ 256
few_marks l p t =
    let s = sized l p (kept l p t).sizes in
    omega (arith, part_length p.marks l.marks s.marks_inside, s.few_marks)
