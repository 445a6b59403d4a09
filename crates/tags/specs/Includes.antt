-- What a tag says, and what a tag and a value say, over a list of include words.
use Rattle.std.specs.Prelude.{ℕ, Bool, true, false, cond, ◌&&◌, ◌||◌, List, Some, None, Ok, Err, Option, Result, ◌==◌}
use Rattle.events.specs.declared.kinds.EventKind.{EventKind}
use Rattle.events.specs.declared.kinds.EventKind.TheVariants.{Scalar}
use Rattle.events.specs.Kinds.{kind_number}
use Rattle.tags.specs.declared.answers.IncludeTag.{IncludeTag}
use Rattle.tags.specs.declared.answers.IncludeTag.TheVariants as form
use Rattle.tags.specs.declared.answers.IncludeSpec.{IncludeSpec}
use Rattle.tags.specs.declared.answers.TagError.{TagError}
use Rattle.tags.specs.declared.answers.TagError.TheVariants.{EmptyFragment, HashInValue, IncompleteSpec}
use Rattle.tags.specs.Hashes.{Parts, parts, hashed, split_at_hash, is_empty}
use Rattle.tags.specs.Words.{is_word}

-- the number that each refusal goes by
abbrev pub refusal_number : TagError → ℕ
refusal_number EmptyFragment = 4
refusal_number HashInValue = 5
refusal_number IncompleteSpec = 6

-- the forms of a tag, with the fragment as a list
pub data TagForm : Type 0 where
  not_include : TagForm
  plain : TagForm
  with_fragment : List ℕ → TagForm
  invalid_fragment : TagForm

-- the form that a tag's reading has, with its fragment as a list
abbrev pub told_form : IncludeTag → TagForm
told_form form.NotInclude = not_include
told_form form.Plain = plain
told_form (form.WithFragment f) = with_fragment f.now
told_form form.InvalidFragment = invalid_fragment

-- whether the form is that of an include tag
abbrev pub is_include_form : TagForm → Bool
is_include_form not_include = false
is_include_form plain = true
is_include_form (with_fragment f) = true
is_include_form invalid_fragment = true

-- a tag by its two sides of the first `#`, or with no `#`
abbrev pub form_from : List (List ℕ) → List ℕ → Option Parts → TagForm
form_from words tag None = cond (is_word words tag) plain not_include
form_from words tag (Some (parts w f)) = cond (is_word words w) (cond (is_empty f) invalid_fragment (with_fragment f)) not_include

-- the form of a tag: a word alone, or a word, `#` and a fragment
abbrev pub form_of : List (List ℕ) → List ℕ → TagForm
form_of words tag = form_from words tag (split_at_hash tag)

-- an answer: nothing, path and anchor, or a refusal
abbrev pub Answer : Type 0
Answer = Result (Option Parts) TagError

-- an answer with path and anchor as lists
abbrev pub told : Result (Option IncludeSpec) TagError → Answer
told (Ok None) = Ok None
told (Ok (Some s)) = Ok (Some (parts s.path.now s.anchor.now))
told (Err e) = Err e

-- a spec has both parts
abbrev pub complete : List ℕ → List ℕ → Answer
complete path anchor = cond (is_empty path || is_empty anchor) (Err IncompleteSpec) (Ok (Some (parts path anchor)))

-- under a word alone, the value holds both parts
abbrev pub from_value : Option Parts → Answer
from_value None = Err IncompleteSpec
from_value (Some (parts path anchor)) = complete path anchor

-- under a word with `#`, the value is the path and the fragment is the anchor
abbrev pub from_fragment : List ℕ → List ℕ → Answer
from_fragment value f = cond (hashed value) (Err HashInValue) (complete value f)

-- the spec by the form of the tag
abbrev pub spec_from : TagForm → List ℕ → Answer
spec_from not_include value = Ok None
spec_from plain value = from_value (split_at_hash value)
spec_from (with_fragment f) value = from_fragment value f
spec_from invalid_fragment value = Err EmptyFragment

-- what a tag and a value come to, over the words
abbrev pub spec_of : List (List ℕ) → List ℕ → List ℕ → Answer
spec_of words tag value = spec_from (form_of words tag) value

-- whether a kind is that of a scalar
abbrev pub is_scalar : EventKind → Bool
is_scalar kind = kind_number kind == kind_number Scalar

-- an insert is a scalar with an include tag
abbrev pub is_insert : List (List ℕ) → EventKind → List ℕ → Bool
is_insert words kind tag = is_scalar kind && is_include_form (form_of words tag)

-- what an event's kind, tag and value come to
abbrev pub insert_of : List (List ℕ) → EventKind → List ℕ → List ℕ → Answer
insert_of words kind tag value = cond (is_scalar kind) (spec_of words tag value) (Ok None)
