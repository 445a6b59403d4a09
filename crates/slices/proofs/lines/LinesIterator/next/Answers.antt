use Rattle.std.proofs.Common.{◌≡◌, ◌<◌, ◌∷◌, length, sym, ap, ◌∙◌, arith}
use Rattle.std.proofs.lemmas.Bool.{eqb-false}
use Rattle.slices.specs.Lines.{lines_of}
use Rattle.slices.proofs.Cutting.{first_line_cut}
use Rattle.slices.proofs.lines.LinesIterator.next.Goals as goal

pub returns-clause-steps : goal.returns-clause-steps
returns-clause-steps c =
    let s = c.args.self.now.rest.now in
    let some : 0 < length s = let ne = eqb-false (length s) 0 (sym c.is_empty.ensures ∙ c.if-is_empty.false) in omega (arith, ne) in
    first_line_cut s _ _ _ _ some c.place_of.ensures.value c.cut_at.ensures.piece c.cut_at.ensures.rest c.behind-self.ensures.value

pub returns-clause-goes : goal.returns-clause-goes
returns-clause-goes c =
    let s = c.args.self.now.rest.now in
    let some : 0 < length s = let ne = eqb-false (length s) 0 (sym c.is_empty.ensures ∙ c.if-is_empty.false) in omega (arith, ne) in
    let lines : lines_of s ≡ c.cut_at.result.piece.now ∷ lines_of c.behind-self.result.now = first_line_cut s _ _ _ _ some c.place_of.ensures.value c.cut_at.ensures.piece c.cut_at.ensures.rest c.behind-self.ensures.value in
    record { on = λ _. (tt, tt, omega (arith, ap length lines)); keeps = tt; rests = λ _. tt }
