use Rattle.std.proofs.Common.{rules, ◌≡◌}
use Rattle.std.proofs.lemmas.Bool.Decides.{Decides-at}
use Rattle.tags.specs.Words.{include_words}
use Rattle.tags.specs.Includes.{is_insert}
use Rattle.tags.proofs.Members.{include_words_hashless}
use Rattle.tags.proofs.Inserting.{insert_decides}
use Rattle.tags.proofs.is_insert.Goals as goal

pub returns-then-eq-clause-scalar_with_an_include_tag : goal.returns-then-eq-clause-scalar_with_an_include_tag
returns-then-eq-clause-scalar_with_an_include_tag c =
    let test : c.is_include_tag.result ≡ is_insert include_words c.args.kind c.args.tag.now = search rules in
    Decides-at _ _ test (insert_decides include_words include_words_hashless c.args.kind c.args.tag.now)
