use Rattle.std.proofs.Common.{◌≡◌, ◌<◌, ◌^◌, length, rules, inl, arith}
use Rattle.std.specs.Iterator.Adapters.{enumerate_count, enumerate_source}
use Rattle.slices.specs.Lines.{lines_of}
use Rattle.slices.specs.LinesLeft.{lines_left}
use Rattle.book.proofs.contents.Draft.add_text.Goals as goal

pub loop-index-init : goal.loop-index-init
loop-index-init c =
    let it = c.into_iter-index-iterator.result in
    let zero : enumerate_count it ≡ 0 = cc in
    let all : lines_left (enumerate_source it) ≡ lines_of c.args.text.now = cc in
    let few : length (lines_left (enumerate_source it)) < 2 ^ 64 = search (rules, arith) in
    record { can = (tt, tt, inl (omega (arith, zero, few))); ends = tt; added = rw (zero, all) }
