use Rattle.std.proofs.Common.{◌≤◌, refl, ◌∙◌, arith}
use Rattle.notation.specs.Scores.{Counted}
use Rattle.notation.specs.Causes.{at_line}
use Rattle.notation.proofs.Refusing.{stopped_before}
use Rattle.notation.proofs.Carrying.{read_through}
use Rattle.notation.proofs.Growing.{grows_cut, grows_length}
use Rattle.notation.proofs.builder.StockBuilder.add_score.Goals as goal

pub returns-in-Err : goal.returns-in-Err
returns-in-Err c =
    let g = c.add_lines.ensures.grown in
    let a = c.args.self.now in
    record {
      adds_the_events_of_its_lines = record {
        bytes = c.truncate.ensures.items ∙ grows_cut c.len-bytes.result (let h = a.bytes.ok.0 in omega (arith, c.len-bytes.ensures)) g.bytes;
        marks = c.truncate-in-Err.ensures.items ∙ grows_cut c.len.result (let h = a.marks.ok.0 in omega (arith, c.len.ensures)) g.marks;
        events = c.truncate-in-Err-2.ensures.items ∙ grows_cut c.len-2.result (let h = a.events.ok.0 in omega (arith, c.len-2.ensures)) g.events;
      };
      refused_with_its_cause = at_line (omega arith) (stopped_before c.args.text.now a c.in-Err.error c.text_end.result c.len.ensures c.len-2.ensures c.front.ensures.value c.text_end.ensures.ended c.in-Err.ensures.refused);
      refuses_a_text_that_is_too_long = λ h. absurd (omega (arith, h));
    }

pub overflow_sub-marks : goal.overflow_sub-marks
overflow_sub-marks c =
    let h = grows_length c.add_lines.ensures.grown.marks in
    let p = c.args.self.now.marks.ok.0 in
    let q = c.add_lines.new.self.marks.ok.0 in
    omega (arith, c.len.ensures, c.len-3.ensures)

pub overflow_sub-events : goal.overflow_sub-events
overflow_sub-events c =
    let h = grows_length c.add_lines.ensures.grown.events in
    let p = c.args.self.now.events.ok.0 in
    let q = c.add_lines.new.self.events.ok.0 in
    omega (arith, c.len-2.ensures, c.len-4.ensures)

pub returns : goal.returns
returns c =
    let g = c.add_lines.ensures.grown in
    let a = c.args.self.now in
    let b = c.add_lines.new.self in
    let lm : c.len.result ≤ c.len-3.result = let h = grows_length g.marks in let p = a.marks.ok.0 in let q = b.marks.ok.0 in omega (arith, c.len.ensures, c.len-3.ensures) in
    let le : c.len-2.result ≤ c.len-4.result = let h = grows_length g.events in let p = a.events.ok.0 in let q = b.events.ok.0 in omega (arith, c.len-2.ensures, c.len-4.ensures) in
    let start : Counted c.len.result c.len-2.result a = record { marks = omega (arith, c.len.ensures); events = omega (arith, c.len-2.ensures) } in
    let counted : Counted c.len.result c.len-2.result b = c.add_lines.ensures.counted start in
    record {
      adds_the_events_of_its_lines = record {
        grown = g;
        marks_start = c.len.ensures;
        marks_end = omega (arith, c.len-3.ensures);
        marks_bound = omega (arith, c.len-3.ensures, counted.marks);
        events_start = c.len-2.ensures;
        events_end = omega (arith, c.len-4.ensures);
        events_bound = omega (arith, c.len-4.ensures, counted.events);
        text_len = refl;
        lines = read_through _ _ c.args.text.now _ c.text_end.result a b c.len.ensures c.front.ensures.value c.text_end.ensures.ended c.in_default.ensures.lines;
      };
      refused_with_its_cause = tt;
      refuses_a_text_that_is_too_long = λ h. absurd (omega (arith, h));
    }
