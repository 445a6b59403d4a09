use Rattle.std.proofs.Common.{◌≡◌, false, vec_items}
use Rattle.std.specs.Slice.Iter.{iter_rest}
use Rattle.notation.specs.Escapes.{behind_bytes, unescaped_from, unescaped}
use Rattle.notation.proofs.escapes.unescape.Given as goal

abbrev pub invariant-loop-byte : goal.invariant-loop-byte
invariant-loop-byte l = record {
  can : (goal.iterator-loop-byte).can_next l.bytes;
  ends : (goal.iterator-loop-byte).is_finite l.bytes;
  read : behind_bytes (vec_items l.out) (unescaped_from false (iter_rest l.bytes)) ≡ unescaped l.text;
}
