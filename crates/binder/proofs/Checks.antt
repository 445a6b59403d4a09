-- Checks one behind the other: the first that fails answers.
use Rattle.std.proofs.Common.{◌≡◌, ℕ, List, Some, None, Ok, Err, Option, refl}
use Rattle.std.specs.Option.{option_or}
use Rattle.catalogue.specs.declared.answers.CatalogueError.{CatalogueError}
use Rattle.catalogue.specs.Entries.{Entry}
use Rattle.binder.specs.Binding.{bound_by}
use Rattle.binder.specs.Entries.{checked, parsed_by}

pub checked_first : (a b : Option ℕ) (e : CatalogueError) → checked a ≡ Err e → checked (option_or a b) ≡ Err e
checked_first None b e h = cc
checked_first (Some p) b e h = h

pub checked_ok : (o : Option ℕ) → checked o ≡ Ok tt → o ≡ None
checked_ok None h = refl
checked_ok (Some p) h = cc

-- what binding answers is what the check answers
pub bound_answer : (o : Option ℕ) (es was : List Entry) → (bound_by (parsed_by o es) was).answer ≡ checked o
bound_answer None es was = refl
bound_answer (Some p) es was = refl

pub bound_kept : (o : Option ℕ) (es was : List Entry) (e : CatalogueError) → checked o ≡ Err e → (bound_by (parsed_by o es) was).entries ≡ was
bound_kept None es was e h = cc
bound_kept (Some p) es was e h = refl
