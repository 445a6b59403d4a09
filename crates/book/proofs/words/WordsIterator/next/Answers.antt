use Rattle.std.proofs.Common.{◌≡◌, ◌<◌, [], ◌∷◌, not, length, rules, tests, ap, ◌∙◌, arith}
use Rattle.std.specs.List.{position}
use Rattle.std.proofs.lemmas.Iterator.{YieldsList-from_slice}
use Rattle.std.proofs.lemmas.Iterator.Search.{position_from_yields_List}
use Rattle.book.specs.Words.{is_gap, words_of}
use Rattle.book.proofs.Cutting.{no_words, first_word}
use Rattle.book.proofs.words.WordsIterator.next.Goals as goal

pub returns-in_err-start-clause-steps : goal.returns-in_err-start-clause-steps
returns-in_err-start-clause-steps c =
    let s = c.args.self.now.rest.now in
    let start : c.position.result ≡ position (λ b. not (is_gap b)) s = position_from_yields_List (λ (b : _). not (is_gap b)) _ _ c.position.result c.position.ensures.ran (YieldsList-from_slice _ c.iter.ensures.rest) (λ x v q k. search (rules, tests)) in
    let none : words_of s ≡ [] = no_words s c.position.result start c.in_err-start.was in
    rw c.from_residual.ensures (none, none)

pub returns : goal.returns
returns c =
    let s = c.args.self.now.rest.now in
    let t = c.behind-words.result.now in
    let word = c.cut_at.result.piece.now in
    let rest = c.cut_at.result.rest.now in
    let start : c.position.result ≡ position (λ b. not (is_gap b)) s = position_from_yields_List (λ (b : _). not (is_gap b)) _ _ c.position.result c.position.ensures.ran (YieldsList-from_slice _ c.iter.ensures.rest) (λ x v q k. search (rules, tests)) in
    let end : c.position-end.result ≡ position is_gap t = position_from_yields_List is_gap _ _ c.position-end.result c.position-end.ensures.ran (YieldsList-from_slice _ c.iter-2.ensures.rest) (λ x v q k. search (rules, tests)) in
    let inside : c.in_ok-start.start < length s = search (rules, arith) in
    let first : words_of s ≡ word ∷ words_of rest = first_word s t _ _ c.position.result c.position-end.result c.in_ok-start.start start c.in_ok-start.was inside c.behind-words.ensures.value end (c.cut_at.ensures.piece ∙ rw c.unwrap_or.ensures) (c.cut_at.ensures.rest ∙ rw c.unwrap_or.ensures) in
    record { steps = first; goes = record { on = λ _. (tt, tt, omega (arith, ap length first)); keeps = tt; rests = λ _. tt } }
