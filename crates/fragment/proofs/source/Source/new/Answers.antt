use Rattle.std.proofs.Common.{rules}
use Rattle.events.specs.Checked.{lists_in, piece_in}
use Rattle.fragment.proofs.Sources.{ranged, readable}
use Rattle.fragment.proofs.source.Source.new.Goals as goal

pub invariant_of-result : goal.invariant_of-result
invariant_of-result c =
    let p = c.args.sound in
    record { readable = rw (c.events.ensures.are_the_events_of_the_piece, c.nodes.ensures.are_the_ranges_of_the_nodes, c.piece.ensures.is_the_piece_found_sound) (readable (lists_in p) (piece_in p) p.keeps_the_rules) }

pub returns : goal.returns
returns c =
    let p = c.args.sound in
    record { is_the_score_of_the_piece = search rules; each_number_has_a_range = λ n one le. rw (c.events.ensures.are_the_events_of_the_piece, c.nodes.ensures.are_the_ranges_of_the_nodes) (ranged (lists_in p) (piece_in p) p.keeps_the_rules n one le) }
