use Rattle.std.proofs.Common.{rules, tests}
use Rattle.std.proofs.lemmas.Iterator.Consumers.{YieldsList-from_first}
use Rattle.std.proofs.lemmas.Iterator.Search.{any_from_yields_List}
use Rattle.catalogue.specs.Entries.{has_path}
use Rattle.binder.specs.Left.{entries_left}
use Rattle.binder.proofs.entries.knows_path.Goals as goal

pub returns : goal.returns
returns c = record { tells_whether_known = any_from_yields_List (has_path c.args.path.now) c.any.new.self _ c.any.result c.any.ensures.ran (YieldsList-from_first (λ e. e) entries_left {s = c.first.result} _ c.first.ensures.are_the_first) (λ x b q k. search (rules, tests)) }
