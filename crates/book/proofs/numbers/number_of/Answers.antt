use Rattle.std.proofs.Common.{◌+◌, get_or, drop, sym, ◌∙◌}
use Rattle.std.proofs.lemmas.List.{at_drop_more, at_drop_all}
use Rattle.book.specs.Decimal.{number_from}
use Rattle.book.proofs.Digits.{digit_read, digit_refused, digit_fits, all_read}
use Rattle.book.proofs.numbers.number_of.Goals as goal

pub returns-in_err-number : goal.returns-in_err-number
returns-in_err-number c =
    let word = c.args.word.now in
    let i = c.loop-byte.byte-index in
    let n = c.loop-byte.number in
    record { is_the_decimal_value = c.from_residual.ensures ∙ sym (digit_refused n (get_or word i 0) (drop (i + 1) word) (sym c.in_err-number.ensures.value)) ∙ sym (at_drop_more (number_from n) word i 0 c.loop-byte-test.true) ∙ c.loop-byte.invariant.0 }

pub loop-byte-preserved : goal.loop-byte-preserved
loop-byte-preserved c =
    let word = c.args.word.now in
    let i = c.loop-byte.byte-index in
    let n = c.loop-byte.number in
    let m = c.in_ok-number.number in
    (sym (digit_read n (get_or word i 0) m (drop (i + 1) word) (sym c.in_ok-number.ensures.value)) ∙ sym (at_drop_more (number_from n) word i 0 c.loop-byte-test.true) ∙ c.loop-byte.invariant.0, digit_fits n (get_or word i 0) m (sym c.in_ok-number.ensures.value))

pub returns : goal.returns
returns c =
    let word = c.args.word.now in
    let i = c.loop-byte.byte-index in
    let n = c.loop-byte.number in
    record { is_the_decimal_value = sym (all_read n c.loop-byte.invariant.1) ∙ sym (at_drop_all (number_from n) word i c.loop-byte-test.false) ∙ c.loop-byte.invariant.0 }
