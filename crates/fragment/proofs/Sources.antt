-- What a sound piece gives the code that unfolds it.
use Rattle.std.proofs.Common.{◌≡◌, ℕ, ◌≤◌, true, false, ◌&&◌, leb, length, get_or, Some, None, Option, refl, arith}
use Rattle.std.proofs.lemmas.Bool.{and_parts, leb-true, both_ways}
use Rattle.events.specs.declared.score.Piece.{Piece}
use Rattle.events.specs.declared.kinds.EventKind.{EventKind}
use Rattle.events.specs.declared.kinds.EventKind.TheVariants.{StreamStart, StreamEnd, DocumentStart, DocumentEnd, Alias, Scalar, SequenceStart, SequenceEnd, MappingStart, MappingEnd}
use Rattle.events.specs.Scores.{Lists, within, events_of, marks_of, kind, no_event}
use Rattle.std.specs.List.{list_all}
use Rattle.events.specs.Rules.{stock_fits, piece_fits, mark_fits, event_fits, is_alias, sound}
use Rattle.events.specs.Nodes.{ranges_from}
use Rattle.events.proofs.SoundNodes.{kept, searchable, sound_pieces_have_nodes}
use Rattle.events.proofs.Sizes.{sized, part_length}
use Rattle.fragment.specs.Readable.{Ranged, Readable}

alias_kind : (k : Option EventKind) → is_alias k ≡ true → k ≡ Some Alias
alias_kind None t = absurd (both_ways false refl t)
alias_kind (Some StreamStart) t = absurd (both_ways false refl t)
alias_kind (Some StreamEnd) t = absurd (both_ways false refl t)
alias_kind (Some DocumentStart) t = absurd (both_ways false refl t)
alias_kind (Some DocumentEnd) t = absurd (both_ways false refl t)
alias_kind (Some Alias) t = refl
alias_kind (Some Scalar) t = absurd (both_ways false refl t)
alias_kind (Some SequenceStart) t = absurd (both_ways false refl t)
alias_kind (Some SequenceEnd) t = absurd (both_ways false refl t)
alias_kind (Some MappingStart) t = absurd (both_ways false refl t)
alias_kind (Some MappingEnd) t = absurd (both_ways false refl t)

module _ (l : Lists) (p : Piece) (ok : sound l p ≡ true) where
  few_in_stock : length l.events ≤ 65536
  few_in_stock =
      let n = length l.bytes in
      let rest = piece_fits p && (within p.marks (length l.marks) && (within p.events (length l.events) && (list_all (mark_fits n) (marks_of l p) && list_all (event_fits n) (events_of l p)))) in
      let a = and_parts (stock_fits l) rest (kept l p ok).sizes in
      let b = and_parts (leb n 1048576) (leb (length l.marks) 4096 && leb (length l.events) 65536) a.0 in
      let c = and_parts (leb (length l.marks) 4096) (leb (length l.events) 65536) b.1 in
      leb-true (length l.events) 65536 c.1

  pub ranged : (n : ℕ) → 1 ≤ n → n ≤ p.marks.len → Ranged (events_of l p) (ranges_from 0 (events_of l p)) n
  ranged n one le =
      let s = sound_pieces_have_nodes l p ok in
      let z = sized l p (kept l p ok).sizes in
      record { least = one; most = omega (arith, z.few_marks); listed = omega (arith, s.counted); closes = (s.one_each n one le).closes }

  pub readable : Readable (events_of l p) (ranges_from 0 (events_of l p)) p.events.start
  readable =
      let s = sound_pieces_have_nodes l p ok in
      let z = sized l p (kept l p ok).sizes in
      let n = part_length p.events l.events z.events_inside in
      let f = few_in_stock in
      record { ranges = refl; few = (searchable l p ok).few; fits = omega (arith, z.events_inside); aliases = λ q h t. let m = s.aliases q h (alias_kind (kind (get_or (events_of l p) q no_event)) t) in ranged (get_or (events_of l p) q no_event).anchor m.least m.most }
