use Rattle.std.proofs.Common.{◌≡◌, false, is_ok, vec_items, vec_len, sym, ap, ◌∙◌, arith}
use Rattle.std.specs.List.{list_any}
use Rattle.book.specs.Lookups.{path_is}
use Rattle.book.specs.View.{said_scores}
use Rattle.book.proofs.Distinct.{pushed_distinct, pushed_few}
use Rattle.book.proofs.scores.Scores.add.Goals as goal

pub invariant_of-self : goal.invariant_of-self
invariant_of-self c =
    let lines = c.args.self.now.lines in
    let s = c.args.score in
    let new : list_any (path_is (vec_items s.path)) (said_scores (vec_items lines)) ≡ false = ap (λ path. list_any (path_is path) (said_scores (vec_items lines))) (sym c.as_slice.ensures.value) ∙ sym c.if-has_path.ensures.some_path_is_equal in
    record {
      at_most_256_scores = pushed_few (is_ok c.push.result) (vec_len lines) _ c.push.ensures.len (omega (arith, c.len.ensures, c.if-len-ge-MOST_SCORES.false));
      paths_are_distinct = pushed_distinct (is_ok c.push.result) (vec_items lines) _ s c.push.ensures.items c.args.self.now.paths_are_distinct new;
    }
