use Rattle.std.proofs.Common.{[], ◌∷◌, ◌++◌, vec_items, sym, ap, ◌∙◌}
use Rattle.notation.specs.Escapes.{escaped}
use Rattle.notation.specs.Lines.{shown_value}
use Rattle.notation.proofs.Showing.{pushed_two}
use Rattle.notation.proofs.printing.push_value.Goals as goal

pub returns-in_ok-push_escaped : goal.returns-in_ok-push_escaped
returns-in_ok-push_escaped c =
    let bs = vec_items c.args.out.now in
    let v = c.args.value.now in
    record {
      value =
          pushed_two bs _ _ (32 ∷ c.style_byte.result ∷ []) (escaped v) c.in_ok-extend_from_slice.ensures.items c.in_ok-push_escaped.ensures.value
          ∙ ap (λ b. bs ++ (32 ∷ b ∷ escaped v)) c.style_byte.ensures.value
          ∙ ap (λ s. bs ++ shown_value s c.args.style v) (sym c.in-Value.is);
    }
