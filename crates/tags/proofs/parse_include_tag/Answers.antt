use Rattle.std.proofs.Common.{◌≡◌, ℕ, true, false, List, refl}
use Rattle.tags.specs.Words.{include_words}
use Rattle.tags.specs.Includes.{TagForm, form_of, plain, not_include, with_fragment, invalid_fragment}
use Rattle.tags.specs.Causes.{FormLaw}
use Rattle.tags.proofs.Members.{include_words_hashless}
use Rattle.tags.proofs.Forms.{form_law, reads_none, reads_some}
use Rattle.tags.proofs.parse_include_tag.Goals as goal

law : (tag : List ℕ) (form : TagForm) → form ≡ form_of include_words tag → FormLaw include_words tag form
law = form_law include_words include_words_hashless

pub returns-then-is_include_word : goal.returns-then-is_include_word
returns-then-is_include_word c =
    let tag = c.args.tag.now in
    let e : plain ≡ form_of include_words tag = reads_none include_words include_words_hashless tag true c.in_default.ensures.split c.if-is_include_word.ensures.word in
    record { is_the_form = e; keeps_the_laws = law tag plain e }

pub returns-else-is_include_word : goal.returns-else-is_include_word
returns-else-is_include_word c =
    let tag = c.args.tag.now in
    let e : not_include ≡ form_of include_words tag = reads_none include_words include_words_hashless tag false c.in_default.ensures.split c.if-is_include_word.ensures.word in
    record { is_the_form = e; keeps_the_laws = law tag not_include e }

pub returns-then-not-is_include_word : goal.returns-then-not-is_include_word
returns-then-not-is_include_word c =
    let tag = c.args.tag.now in
    let e : not_include ≡ form_of include_words tag = reads_some include_words include_words_hashless tag c.in-Some.word.now c.in-Some.fragment.now false _ c.in-Some.ensures.split c.if-not-is_include_word.ensures.word refl in
    record { is_the_form = e; keeps_the_laws = law tag not_include e }

pub returns-then-is_empty : goal.returns-then-is_empty
returns-then-is_empty c =
    let tag = c.args.tag.now in
    let e : invalid_fragment ≡ form_of include_words tag = reads_some include_words include_words_hashless tag c.in-Some.word.now c.in-Some.fragment.now true true c.in-Some.ensures.split c.if-not-is_include_word.ensures.word c.if-is_empty.ensures in
    record { is_the_form = e; keeps_the_laws = law tag invalid_fragment e }

pub returns : goal.returns
returns c =
    let tag = c.args.tag.now in
    let f = c.in-Some.fragment.now in
    let e : with_fragment f ≡ form_of include_words tag = reads_some include_words include_words_hashless tag c.in-Some.word.now f true false c.in-Some.ensures.split c.if-not-is_include_word.ensures.word c.if-is_empty.ensures in
    record { is_the_form = e; keeps_the_laws = law tag (with_fragment f) e }
