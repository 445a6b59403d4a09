-- The refusals of a catalogue.
use Rattle.std.specs.Prelude.{ℕ, [], ◌∷◌}
use Rattle.refusals.specs.Refusals.{Told}
use Rattle.refusals.specs.declared.Layer.TheVariants.{Catalogue}
use Rattle.catalogue.specs.declared.answers.CatalogueError.{CatalogueError}
use Rattle.catalogue.specs.declared.answers.CatalogueError.TheVariants.{UnknownPath, WithdrawnPath, Malformed, NotShelved}
use Rattle.catalogue.specs.declared.answers.Unresolved.{Unresolved}
use Rattle.catalogue.specs.declared.answers.Unresolved.TheVariants.{Withdrawn, Unknown}

abbrev pub error_number : CatalogueError → ℕ
error_number (UnknownPath i) = 8
error_number (WithdrawnPath i) = 9
error_number (Malformed p) = 25
error_number (NotShelved n) = 26

abbrev pub error_value : CatalogueError → ℕ
error_value (UnknownPath i) = i
error_value (WithdrawnPath i) = i
error_value (Malformed p) = p
error_value (NotShelved n) = n

-- the refusal of a path that is not found, at the place of its insert
abbrev pub refused_at : Unresolved → ℕ → CatalogueError
refused_at Unknown i = UnknownPath i
refused_at Withdrawn i = WithdrawnPath i

-- what a refusal tells, after so many events and with this source; both are 0 where there is no session
abbrev pub told : CatalogueError → ℕ → ℕ → Told
told e h s = record { number = error_number e; returned = error_value e ∷ []; handed_out = h; source = s; layer = Catalogue }
