-- What the values of the code hold, as lists.
use Rattle.std.specs.Prelude.{Ok, Err, vec_items, Result}
use Rattle.notation.specs.declared.line.Line.{Line}
use Rattle.notation.specs.declared.line.LineError.{LineError}
use Rattle.slices.specs.declared.Cut.{Cut}
use Rattle.notation.specs.declared.parts.StyledText.{StyledText}
use Rattle.notation.specs.declared.parts.Parts.{Parts}
use Rattle.notation.specs.Lines.{Said, Part, Valued}

abbrev pub said : Line → Said
said l = record { kind = l.kind; anchor = vec_items l.anchor; tag = vec_items l.tag; style = l.style; value = vec_items l.value }

abbrev pub part_of : Cut → Part
part_of f = record { text = f.piece.now; rest = f.rest.now }

abbrev pub valued_of : StyledText → Valued
valued_of v = record { style = v.style; text = v.text.now }

abbrev pub said_parts : Parts → Said
said_parts p = record { kind = p.kind; anchor = p.anchor.now; tag = p.tag.now; style = p.style; value = p.value.now }

abbrev pub map_ok : {A B : Type 0} → (A → B) → Result A LineError → Result B LineError
map_ok f (Ok x) = Ok (f x)
map_ok f (Err e) = Err e
