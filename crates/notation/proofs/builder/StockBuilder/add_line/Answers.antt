use Rattle.std.proofs.Common.{[], ◌∷◌, ◌++◌, length, vec_items, vec_len, refl, ap, ◌∙◌, arith}
use Rattle.events.specs.declared.score.Event.{Event}
use Rattle.notation.specs.View.{said}
use Rattle.notation.specs.Scores.{name_set}
use Rattle.notation.proofs.Carrying.{step_from}
use Rattle.notation.proofs.Refusing.{put_twice, exceeded_before, exceeded_behind, caused_weaker, refusing_exit, events_filled, read_cause}
use Rattle.notation.proofs.builder.StockBuilder.add_line.Goals as goal

pub returns-in_err-anchor-clause-refused : goal.returns-in_err-anchor-clause-refused
returns-in_err-anchor-clause-refused c =
    let l = said c.in_ok-line.line in
    let f = c.in_err-anchor.field-0.0 in
    refusing_exit c.from_residual-in_err-anchor.result _ f c.from_residual-in_err-anchor.ensures.1
    (read_cause c.args.begun.marks c.args.begun.events c.args.text.now c.args.self.now l f c.in_ok-line.ensures.is_the_reading_of_the_line
    (caused_weaker f (λ e h. h) (λ h. h) (exceeded_before (vec_len c.args.self.now.bytes) (name_set l) (name_set l) (l.value ++ l.tag) refl) (λ h. h) (λ h. absurd h) c.in_err-anchor.ensures.refused))

pub returns-in_err-value-clause-refused : goal.returns-in_err-value-clause-refused
returns-in_err-value-clause-refused c =
    let l = said c.in_ok-line.line in
    let f = c.in_err-value.field-0.0 in
    let held = c.args.self.now.bytes in
    let held' = c.anchor_of.new.self.bytes in
    refusing_exit c.from_residual-in_err-value.result _ f c.from_residual-in_err-value.ensures.1
    (read_cause c.args.begun.marks c.args.begun.events c.args.text.now c.args.self.now l f c.in_ok-line.ensures.is_the_reading_of_the_line
    (caused_weaker f (λ e h. h) (λ h. absurd h) (exceeded_behind (vec_len held) (vec_len held') (vec_items held) (vec_items held') (l.value ++ l.tag) (name_set l) (l.value ++ l.tag) (let h = held.ok.0 in omega arith) (let h = held'.ok.0 in omega arith) c.in_ok-anchor.ensures.bytes refl) (λ h. absurd h) (λ h. absurd h) c.in_err-value.ensures.refused))

pub returns-in_err-put-clause-refused : goal.returns-in_err-put-clause-refused
returns-in_err-put-clause-refused c =
    let l = said c.in_ok-line.line in
    let f = c.in_err-put.field-0.0 in
    let held = c.args.self.now.events in
    let held' = c.put_texts.new.self.events in
    let kept = ap length (c.put_texts.ensures.events ∙ c.anchor_of.ensures.events) in
    refusing_exit c.from_residual-in_err-put.result _ f c.from_residual-in_err-put.ensures.1
    (read_cause c.args.begun.marks c.args.begun.events c.args.text.now c.args.self.now l f c.in_ok-line.ensures.is_the_reading_of_the_line
    (events_filled _ _ _ c.args.begun.events (vec_len held') (vec_len held) f (let h = held.ok.0 in let h' = held'.ok.0 in omega (arith, kept)) c.in_err-put.ensures.refused))

pub returns-clause-step : goal.returns-clause-step
returns-clause-step c =
    let line = said c.in_ok-line.line in
    let texts = c.in_ok-value.ensures in
    let event : Event = record { kind = c.from.result; anchor = c.in_ok-anchor.anchor; value = c.in_ok-value.value; tag = c.in_ok-value.tag; style = c.from-2.result; span = c.args.span } in
    step_from c.args.begun.marks c.args.text.now c.args.span c.args.self.now c.anchor_of.new.self line event
    c.in_ok-line.ensures.is_the_reading_of_the_line
    (c.in_ok-put.ensures.placed.0 ∙ ap (λ es. es ++ (event ∷ [])) c.put_texts.ensures.events)
    c.anchor_of.ensures.events
    (put_twice (vec_items c.args.self.now.bytes) (name_set line) (line.value ++ line.tag) (name_set line) (line.value ++ line.tag) c.in_ok-anchor.ensures.bytes texts.bytes refl refl)
    (record { kind = c.from.ensures; style = c.from-2.ensures; value = texts.value; tag = texts.tag; place = refl })
    c.put_texts.ensures.marks c.put_texts.ensures.grown.bytes c.in_ok-anchor.ensures.anchored
