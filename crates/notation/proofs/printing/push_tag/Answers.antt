use Rattle.notation.proofs.Showing.{pushed_tag}
use Rattle.notation.proofs.printing.push_tag.Goals as goal

pub returns-in_ok-push : goal.returns-in_ok-push
returns-in_ok-push c =
    record { value = pushed_tag _ _ _ _ _ c.if-not-is_empty.ensures c.in_ok-extend_from_slice.ensures.items c.in_ok-extend_from_slice-2.ensures.items c.in_ok-push.ensures.items }
