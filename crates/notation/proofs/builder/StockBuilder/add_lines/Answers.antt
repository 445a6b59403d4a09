use Rattle.std.proofs.Common.{◌≡◌, ◌+◌, ◌<◌, ◌^◌, [], ◌∷◌, drop, length, length-drop, rules, inl, sym, ap, ◌∙◌, subst, arith}
use Rattle.std.specs.Iterator.Adapters.{enumerate_count, enumerate_source}
use Rattle.slices.specs.Lines.{lines_of}
use Rattle.slices.specs.LinesLeft.{lines_left}
use Rattle.slices.proofs.Cutting.{none_left}
use Rattle.notation.specs.Scores.{begun}
use Rattle.notation.specs.Causes.{LineCause}
use Rattle.notation.proofs.Refusing.{LineHere, line_here, feeds_more}
use Rattle.notation.proofs.Carrying.{reached_more}
use Rattle.notation.proofs.Growing.{grown_same, grown_trans}
use Rattle.notation.proofs.builder.StockBuilder.add_lines.Goals as goal

pub loop-index-init : goal.loop-index-init
loop-index-init c =
    let it = c.into_iter-index-iterator.result in
    let zero : enumerate_count it ≡ 0 = cc in
    let all : lines_left (enumerate_source it) ≡ lines_of c.args.text.now = cc in
    let few : length (lines_left (enumerate_source it)) < 2 ^ 64 = search (rules, arith) in
    record {
      can = (tt, tt, inl (omega (arith, zero, few)));
      ends = tt;
      lines = all;
      number = λ _. zero;
      within = omega arith;
      grown = grown_same _;
      counted = λ h. h;
      reached = begun;
    }

pub overflow_add-end : goal.overflow_add-end
overflow_add-end c =
    let line = c.in-Some.line.now in
    let rest = lines_left (enumerate_source c.next.new.self) in
    let front : lines_left (enumerate_source c.loop-index.index-iterator) ≡ line ∷ rest = search rules in
    let here : LineHere c.args.text.now line rest c.loop-index.start = line_here _ _ _ _ (sym c.loop-index.invariant.lines ∙ front) in
    omega (arith, here.within)

pub overflow_cast-span-in-loop-index : goal.overflow_cast-span-in-loop-index
overflow_cast-span-in-loop-index c =
    let line = c.in-Some.line.now in
    let rest = lines_left (enumerate_source c.next.new.self) in
    let front : lines_left (enumerate_source c.loop-index.index-iterator) ≡ line ∷ rest = search rules in
    let here : LineHere c.args.text.now line rest c.loop-index.start = line_here _ _ _ _ (sym c.loop-index.invariant.lines ∙ front) in
    omega (arith, here.within)

pub returns-in-Err : goal.returns-in-Err
returns-in-Err c =
    let text = c.args.text.now in
    let i = c.loop-index.start in
    let line = c.in-Some.line.now in
    let rest = lines_left (enumerate_source c.next.new.self) in
    let front : lines_left (enumerate_source c.loop-index.index-iterator) ≡ line ∷ rest = search rules in
    let here : LineHere text line rest i = line_here text line rest i (sym c.loop-index.invariant.lines ∙ front) in
    let index : c.in-Some.index ≡ enumerate_count c.loop-index.index-iterator = search rules in
    record {
      grown = grown_trans c.loop-index.invariant.grown c.add_line.ensures.grown;
      counted = λ h. c.add_line.ensures.counted (c.loop-index.invariant.counted h);
      lines = tt;
      refused = record {
        place = i;
        inside = here.inside;
        number = ap (λ n. n + 1) (index ∙ c.loop-index.invariant.number here.inside);
        lists = c.loop-index.self;
        reached = c.loop-index.invariant.reached;
        cause = subst (λ t. LineCause c.args.begun.marks c.args.begun.events t c.loop-index.self c.in-Err.fault) here.is c.in-Err.ensures.refused;
      };
    }

pub loop-index-preserved : goal.loop-index-preserved
loop-index-preserved c =
    let text = c.args.text.now in
    let i = c.loop-index.start in
    let line = c.in-Some.line.now in
    let rest = lines_left (enumerate_source c.next.new.self) in
    let front : lines_left (enumerate_source c.loop-index.index-iterator) ≡ line ∷ rest = search rules in
    let here : LineHere text line rest i = line_here text line rest i (sym c.loop-index.invariant.lines ∙ front) in
    let next : enumerate_count c.next.new.self ≡ enumerate_count c.loop-index.index-iterator + 1 = search rules in
    record {
      can = search rules;
      ends = tt;
      lines = here.later;
      number = λ h.
          let n = c.loop-index.invariant.number here.inside in
          let more = feeds_more text i (length line) here.len (omega (arith, h)) in
          omega (arith, next, n, more);
      within = omega (arith, here.within);
      grown = grown_trans c.loop-index.invariant.grown c.add_line.ensures.grown;
      counted = λ h. c.add_line.ensures.counted (c.loop-index.invariant.counted h);
      reached = reached_more c.args.begun.marks text c.args.self.now i _ _ line c.loop-index.invariant.reached here.inside here.is here.len c.in_default.ensures.step;
    }

pub returns-clause-lines : goal.returns-clause-lines
returns-clause-lines c =
    let none : lines_left (enumerate_source c.loop-index.index-iterator) ≡ [] = search rules in
    let past = none_left (drop c.loop-index.start c.args.text.now) (sym c.loop-index.invariant.lines ∙ none) in
    (c.loop-index.start, omega (arith, past, length-drop c.loop-index.start c.args.text.now), c.loop-index.invariant.reached)
