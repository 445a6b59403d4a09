use Rattle.std.proofs.Common.{◌≡◌, ℕ, List, None, Ok, Err, ap, ◌∙◌}
use Rattle.tags.specs.declared.answers.TagError.TheVariants.{EmptyFragment}
use Rattle.tags.specs.Words.{include_words}
use Rattle.tags.specs.Includes.{Answer, TagForm, told, spec_from, spec_of, form_of}
use Rattle.tags.specs.Causes.{AnswerLaw}
use Rattle.tags.proofs.Members.{include_words_hashless}
use Rattle.tags.proofs.Causing.{answer_law}
use Rattle.tags.proofs.include_spec_from_tag_and_value.Goals as goal

law : (tag value : List ℕ) (answer : Answer) → answer ≡ spec_of include_words tag value → AnswerLaw include_words tag value answer
law = answer_law include_words include_words_hashless

by_form : (tag value : List ℕ) (form : TagForm) → form ≡ form_of include_words tag → spec_from form value ≡ spec_of include_words tag value
by_form tag value form e = ap (λ t. spec_from t value) e

pub returns-in-NotInclude : goal.returns-in-NotInclude
returns-in-NotInclude c =
    let tag = c.args.tag.now in
    let value = c.args.value.now in
    let e : ◌≡◌ {A = Answer} (Ok None) (spec_of include_words tag value) = by_form tag value _ c.in-NotInclude.ensures.is_the_form in
    record { is_the_spec = e; keeps_the_laws = law tag value _ e }

pub returns-in-InvalidFragment : goal.returns-in-InvalidFragment
returns-in-InvalidFragment c =
    let tag = c.args.tag.now in
    let value = c.args.value.now in
    let e : ◌≡◌ {A = Answer} (Err EmptyFragment) (spec_of include_words tag value) = by_form tag value _ c.in-InvalidFragment.ensures.is_the_form in
    record { is_the_spec = e; keeps_the_laws = law tag value _ e }

pub returns-in-Plain : goal.returns-in-Plain
returns-in-Plain c =
    let tag = c.args.tag.now in
    let value = c.args.value.now in
    let e : ◌≡◌ {A = Answer} (told c.spec_from_value.result) (spec_of include_words tag value) = c.spec_from_value.ensures.from_value ∙ by_form tag value _ c.in-Plain.ensures.is_the_form in
    record { is_the_spec = e; keeps_the_laws = law tag value _ e }

pub returns-in-WithFragment : goal.returns-in-WithFragment
returns-in-WithFragment c =
    let tag = c.args.tag.now in
    let value = c.args.value.now in
    let e : ◌≡◌ {A = Answer} (told c.spec_with_fragment.result) (spec_of include_words tag value) = c.spec_with_fragment.ensures.with_fragment ∙ by_form tag value _ c.in-WithFragment.ensures.is_the_form in
    record { is_the_spec = e; keeps_the_laws = law tag value _ e }
