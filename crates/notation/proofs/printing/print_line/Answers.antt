use Rattle.std.proofs.Common.{◌≡◌, ℕ, true, List, ◌++◌, vec_items, sym, ap, ◌∙◌}
use Rattle.events.specs.declared.kinds.ScalarStyle.{ScalarStyle}
use Rattle.notation.specs.declared.parts.Shape.{Shape}
use Rattle.notation.specs.Lines.{name_mark, shown_name, shown_tag, shown_value, shown, printable, line_of}
use Rattle.notation.specs.View.{said}
use Rattle.notation.proofs.Showing.{pushed_four}
use Rattle.notation.proofs.ReadsBack.{reads_back}
use Rattle.notation.proofs.printing.print_line.Goals as goal

-- the parts that were pushed are the parts of the line
parts_same : (o o' : List ℕ) (m m' : ℕ) (a a' t t' : List ℕ) (p p' : Shape) (s : ScalarStyle) (v v' : List ℕ) → o ≡ o' → m ≡ m' → a ≡ a' → t ≡ t' → p ≡ p' → v ≡ v' → o ++ (shown_name m a ++ (shown_tag t ++ shown_value p s v)) ≡ o' ++ (shown_name m' a' ++ (shown_tag t' ++ shown_value p' s v'))
parts_same o o' m m' a a' t t' p p' s v v' e₁ e₂ e₃ e₄ e₅ e₆ = cc

pub returns : goal.returns
returns c =
    let l = said c.args.line.now in
    let printed : vec_items c.push_value.new.out ≡ shown l =
    pushed_four _ _ _ _ _ _ _ _ _ c.new-out.ensures.items c.in_ok-extend_from_slice.ensures.items c.in_ok-push_name.ensures.value c.in_ok-push_tag.ensures.value c.in_ok-push_value.ensures.value
    ∙ parts_same _ _ _ _ _ _ _ _ _ _ _ _ _ c.opener_of.ensures.value (c.name_mark.ensures.value ∙ ap name_mark c.shape_of-shape.ensures.value) c.as_slice.ensures.value c.as_slice-2.ensures.value c.shape_of-shape.ensures.value c.as_slice-3.ensures.value in
    let fair : printable l ≡ true = sym c.if-not-is_printable.ensures.reads_back_if_printed in
    record { is_the_printed_line = (fair, printed); reads_back = ap line_of printed ∙ reads_back l fair }
