use Rattle.std.proofs.Common.{◌+◌, ◌<◌, ◌≤◌, length, sym, ap, ◌∙◌, arith, rules}
use Rattle.budget.proofs.Trues.{trues_le, trues_set}
use Rattle.budget.proofs.anchors.DefinedAnchors.insert.Goals as goal

pub overflow_add-self : goal.overflow_add-self
overflow_add-self c = let h = trues_le c.args.self.now.flags in let k : length c.args.self.now.flags ≤ 1024 = search rules in omega (arith, c.args.self.now.counted)

pub invariant_of-self : goal.invariant_of-self
invariant_of-self c =
    let bs = c.args.self.now.flags in
    let k : c.args.anchor.number < length bs = search rules in
    let e = trues_set bs c.args.anchor.number k c.if-self-place.false in
    record { counted = ap (λ x. x + 1) c.args.self.now.counted ∙ sym e }
