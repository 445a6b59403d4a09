use Rattle.notation.proofs.Showing.{pushed_name}
use Rattle.notation.proofs.printing.push_name.Goals as goal

pub returns-in_ok-extend_from_slice-2 : goal.returns-in_ok-extend_from_slice-2
returns-in_ok-extend_from_slice-2 c =
    record { value = pushed_name _ _ _ _ _ c.if-not-is_empty.ensures c.in_ok-extend_from_slice.ensures.items c.in_ok-extend_from_slice-2.ensures.items }
