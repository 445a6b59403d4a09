use Rattle.std.proofs.Common.{◌≡◌, false, [], ◌∷◌, Some, None, vec_items, rules, sym, ap, ◌∙◌}
use Rattle.std.specs.Slice.Iter.{iter_rest}
use Rattle.notation.specs.Escapes.{behind_bytes, meant, unescaped, unescaped_from}
use Rattle.notation.proofs.Escaping.{step_plain, step_escape}
use Rattle.notation.proofs.escapes.unescape.Goals as goal

pub returns-in_err-letter : goal.returns-in_err-letter
returns-in_err-letter c =
    let bs = vec_items c.loop-byte.out in
    let front : iter_rest c.loop-byte.bytes ≡ 92 ∷ iter_rest c.next.new.self = search rules in
    let none : iter_rest c.next.new.self ≡ [] = search rules in
    let ends : unescaped c.args.text.now ≡ None = sym c.loop-byte.invariant.read ∙ ap (λ l. behind_bytes bs (unescaped_from false l)) (front ∙ ap (λ l. 92 ∷ l) none) in
    search (rules, ends)

pub loop-byte-preserved-then-byte-ne92 : goal.loop-byte-preserved-then-byte-ne92
loop-byte-preserved-then-byte-ne92 c =
    let bs = vec_items c.loop-byte.out in
    let rest = iter_rest c.next.new.self in
    let b = c.in-Some.field-0.now in
    let front : iter_rest c.loop-byte.bytes ≡ b ∷ rest = search rules in
    record {
      can = tt;
      ends = tt;
      read = ap (λ l. behind_bytes l (unescaped_from false rest)) c.in_ok-push.ensures.items ∙ step_plain bs rest b c.if-byte-ne92.true ∙ ap (λ l. behind_bytes bs (unescaped_from false l)) (sym front) ∙ c.loop-byte.invariant.read;
    }

pub loop-byte-preserved : goal.loop-byte-preserved
loop-byte-preserved c =
    let bs = vec_items c.loop-byte.out in
    let rest = iter_rest c.next-in-Some.new.self in
    let letter = c.in_ok-letter.letter.now in
    let front : iter_rest c.loop-byte.bytes ≡ 92 ∷ iter_rest c.next.new.self = search rules in
    let second : iter_rest c.next.new.self ≡ letter ∷ rest = search rules in
    let means : Some c.in_ok-meant.meant ≡ meant letter = search rules in
    record {
      can = tt;
      ends = tt;
      read = ap (λ l. behind_bytes l (unescaped_from false rest)) c.in_ok-push-2.ensures.items ∙ step_escape bs rest letter c.in_ok-meant.meant means ∙ ap (λ l. behind_bytes bs (unescaped_from false (92 ∷ l))) (sym second) ∙ ap (λ l. behind_bytes bs (unescaped_from false l)) (sym front) ∙ c.loop-byte.invariant.read;
    }
