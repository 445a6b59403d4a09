-- The cause of each answer, in words of the tag and the value alone.
use Rattle.std.specs.Prelude.{◌≡◌, ℕ, true, false, ◌⊎◌, List, [], ◌∷◌, ◌++◌, Some, None, Ok, Err, Decides}
use Rattle.tags.specs.declared.answers.TagError.TheVariants.{EmptyFragment, HashInValue, IncompleteSpec}
use Rattle.tags.specs.Hashes.{parts, hashed}
use Rattle.tags.specs.Words.{Among}
use Rattle.tags.specs.Includes.{Answer, TagForm, not_include, plain, with_fragment, invalid_fragment, is_include_form}

-- the tag is a word, then `#`, then the rest
abbrev pub WordThen : List (List ℕ) → List ℕ → List ℕ → Type 0
WordThen words tag rest = (w : List ℕ) × (Among words w × (tag ≡ w ++ 35 ∷ rest))

-- the tag is an include tag: a word alone, or a word followed by `#` and any bytes
abbrev pub NamesInclude : List (List ℕ) → List ℕ → Type 0
NamesInclude words tag = Among words tag ⊎ ((rest : List ℕ) × WordThen words tag rest)

-- the value is path, then its first `#`, then anchor
abbrev pub SplitsInto : List ℕ → List ℕ → List ℕ → Type 0
SplitsInto value path anchor = (value ≡ path ++ 35 ∷ anchor) × (hashed path ≡ false)

-- a list has at least one byte
abbrev pub NonEmpty : List ℕ → Type 0
NonEmpty xs = xs ≡ [] → ⊥

-- the cause of each form of a tag
abbrev pub FormCause : List (List ℕ) → List ℕ → TagForm → Type 0
FormCause words tag not_include = NamesInclude words tag → ⊥
FormCause words tag plain = Among words tag
FormCause words tag (with_fragment f) = WordThen words tag f × NonEmpty f
FormCause words tag invalid_fragment = WordThen words tag []

-- the laws of the form of a tag: an include tag exactly if the tag names one; the form has its cause, and no other form has
pub record FormLaw (words : List (List ℕ)) (tag : List ℕ) (form : TagForm) : Type 0 where
  pub include_exactly_if_named : Decides (is_include_form form) (NamesInclude words tag)
  pub has_its_cause : FormCause words tag form
  pub no_other_has : (other : TagForm) → FormCause words tag other → other ≡ form

-- where path and anchor come from: the value under a word alone, else the value and the tag
abbrev pub ComeFrom : List (List ℕ) → List ℕ → List ℕ → List ℕ → List ℕ → Type 0
ComeFrom words tag value path anchor =
    (Among words tag × SplitsInto value path anchor)
    ⊎ (WordThen words tag anchor × (path ≡ value) × (hashed value ≡ false))

-- under a word alone, a part is wanting
abbrev pub PartWanting : List ℕ → Type 0
PartWanting value =
    (hashed value ≡ false)
    ⊎ ((path : List ℕ) × ((anchor : List ℕ) × (SplitsInto value path anchor × ((path ≡ []) ⊎ (anchor ≡ [])))))

-- the cause of an answer
abbrev pub Cause : List (List ℕ) → List ℕ → List ℕ → Answer → Type 0
Cause words tag value (Ok None) = NamesInclude words tag → ⊥
Cause words tag value (Ok (Some (parts path anchor))) = ComeFrom words tag value path anchor × NonEmpty path × NonEmpty anchor
Cause words tag value (Err EmptyFragment) = WordThen words tag []
Cause words tag value (Err HashInValue) = (rest : List ℕ) × (WordThen words tag rest × NonEmpty rest × (hashed value ≡ true))
Cause words tag value (Err IncompleteSpec) =
    (Among words tag × PartWanting value)
    ⊎ ((rest : List ℕ) × (WordThen words tag rest × NonEmpty rest × (value ≡ [])))

-- the laws of an answer: it has its cause, and no other answer has
pub record AnswerLaw (words : List (List ℕ)) (tag value : List ℕ) (answer : Answer) : Type 0 where
  pub has_its_cause : Cause words tag value answer
  pub no_other_has : (other : Answer) → Cause words tag value other → other ≡ answer
