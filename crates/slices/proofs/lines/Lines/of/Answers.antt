use Rattle.std.proofs.Common.{arith}
use Rattle.slices.proofs.Cutting.{few_lines}
use Rattle.slices.proofs.lines.Lines.of.Goals as goal

pub returns-clause-bound : goal.returns-clause-bound
returns-clause-bound c = let h = few_lines c.args.text.now in omega (arith, h)
