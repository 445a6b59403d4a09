use Rattle.std.proofs.Common.{rules}
use Rattle.notation.specs.View.{said}
use Rattle.notation.proofs.Readable.{read_printable}
use Rattle.notation.proofs.reading.read_line.Goals as goal

pub returns : goal.returns
returns c =
    let parts = c.in_ok-parts.parts in
    record {
      is_the_reading_of_the_line = search rules;
      prints_again = read_printable c.args.bytes.now (said (record { kind = parts.kind; anchor = c.in_ok-anchor.anchor; tag = c.in_ok-tag.tag; style = parts.style; value = c.in_ok-value.value })) (search rules);
    }
