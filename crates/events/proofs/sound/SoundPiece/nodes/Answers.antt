use Rattle.std.proofs.Common.{◌≡◌, List, length, sym, refl, ap, ◌∙◌, subst, arith}
use Rattle.events.specs.Checked.{lists_in, piece_in}
use Rattle.events.specs.Nodes.{ranges_from, SoundNodes}
use Rattle.events.specs.Scores.{events_of}
use Rattle.events.specs.declared.score.NodeRange.{NodeRange}
use Rattle.events.specs.declared.sound.SoundPiece.{SoundPiece}
use Rattle.events.proofs.Filling.{ranges_more, ranges_room, ranges_pass, ranges_end}
use Rattle.events.proofs.SoundNodes.{Searchable, searchable, sound_pieces_have_nodes}
use Rattle.events.proofs.sound.SoundPiece.nodes.Goals as goal
use Rattle.events.proofs.sound.SoundPiece.nodes.Goals.{then-carries_number, else-carries_number}

laws : (s : SoundPiece) → SoundNodes (events_of (lists_in s) (piece_in s)) (piece_in s).marks.len
laws s = sound_pieces_have_nodes (lists_in s) (piece_in s) s.keeps_the_rules

table : (c : goal.After-new) → c.new.result ≡ ranges_from 0 (events_of (lists_in c.args.self) (piece_in c.args.self))
table c =
    let es = c.events-events.result.now in
    c.new.ensures ∙ ranges_end es c.loop-place.place c.loop-place.ranges.items (ranges_from 0 es) c.loop-place-test.false c.loop-place.invariant.0 ∙ ap (ranges_from 0) c.events-events.ensures.are_the_events_of_the_piece

pub loop-place-init : goal.loop-place-init
loop-place-init c =
    let s = subst Searchable (sym c.events-events.ensures.are_the_events_of_the_piece) (searchable (lists_in c.args.self) (piece_in c.args.self) c.args.self.keeps_the_rules) in
    (rw c.new-ranges.ensures refl, s)

pub overflow_cast-place : goal.overflow_cast-place
overflow_cast-place c = omega (arith, c.loop-place.invariant.1.few)

pub overflow_cast-last : goal.overflow_cast-last
overflow_cast-last c =
    let s = c.loop-place.invariant.1 in
    omega (arith, s.few, s.closed c.loop-place.place c.loop-place-test.true (sym c.carries_number.ensures ∙ c.if-carries_number.true))

pub push-requires : goal.push-requires
push-requires c =
    let es = c.events-events.result.now in
    let s = c.loop-place.invariant.1 in
    let r = ranges_room es c.loop-place.place c.loop-place-test.true c.loop-place.ranges.items (ranges_from 0 es) c.loop-place.invariant.0 (sym c.carries_number.ensures ∙ c.if-carries_number.true) in
    (omega arith, omega (arith, s.room, r))

pub loop-place-preserved : goal.loop-place-preserved
loop-place-preserved c =
    let es = c.events-events.result.now in
    let more = ranges_more es c.loop-place.place c.loop-place-test.true c.loop-place.ranges.items (ranges_from 0 es) c.loop-place.invariant.0 in
    let pass = ranges_pass es c.loop-place.place c.loop-place-test.true c.loop-place.ranges.items (ranges_from 0 es) c.loop-place.invariant.0 in
    elim c.if-carries_number.branch [ then-carries_number w ↦ let m = more (sym c.carries_number.ensures ∙ w.if-carries_number.true) in (rw (w.ranges-is, w.push.ensures.items, w.node_end-last.ensures) m, c.loop-place.invariant.1) | else-carries_number w ↦ (rw w.ranges-is (pass (sym c.carries_number.ensures ∙ w.if-carries_number.false)), c.loop-place.invariant.1) ]

pub returns-clause-are_the_ranges_of_the_nodes : goal.returns-clause-are_the_ranges_of_the_nodes
returns-clause-are_the_ranges_of_the_nodes c = table c

pub returns-clause-one_balanced_node_per_number : goal.returns-clause-one_balanced_node_per_number
returns-clause-one_balanced_node_per_number c = (laws c.args.self).one_each

pub returns-clause-as_many_ranges_as_marks : goal.returns-clause-as_many_ranges_as_marks
returns-clause-as_many_ranges_as_marks c = ap (λ (rs : List NodeRange). length rs) (table c) ∙ (laws c.args.self).counted

pub returns-clause-ranges_nest_or_are_disjoint : goal.returns-clause-ranges_nest_or_are_disjoint
returns-clause-ranges_nest_or_are_disjoint c = (laws c.args.self).nested

pub returns-clause-aliases_name_nodes_before_them : goal.returns-clause-aliases_name_nodes_before_them
returns-clause-aliases_name_nodes_before_them c = (laws c.args.self).aliases
