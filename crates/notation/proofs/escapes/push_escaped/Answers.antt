use Rattle.std.proofs.Common.{◌+◌, ◌++◌, get_or, drop, vec_items, sym, ap, ◌∙◌}
use Rattle.std.proofs.lemmas.List.{drop_all, drop_more, append-nil, append_assoc}
use Rattle.notation.specs.Escapes.{escaped, written}
use Rattle.notation.proofs.escapes.push_escaped.Goals as goal

pub loop-b-preserved : goal.loop-b-preserved
loop-b-preserved c =
    let v = c.args.value.now in
    let i = c.loop-b.b-index in
    let bs = vec_items c.loop-b.out in
    let rest = escaped (drop (i + 1) v) in
    ap (λ l. l ++ rest) c.in_ok-push_written.ensures.value
    ∙ append_assoc bs (written (get_or v i 0)) rest
    ∙ ap (λ l. bs ++ escaped l) (sym (drop_more v i 0 c.loop-b-test.true))
    ∙ c.loop-b.invariant

pub returns : goal.returns
returns c =
    let bs = vec_items c.loop-b.out in
    record { value = sym (append-nil bs) ∙ ap (λ l. bs ++ escaped l) (sym (drop_all c.loop-b.b-index c.args.value.now c.loop-b-test.false)) ∙ c.loop-b.invariant }
