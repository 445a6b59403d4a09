-- The include words. What a word means takes the list of words as a parameter; no word has a `#`.
use Rattle.std.specs.Prelude.{◌≡◌, ℕ, Bool, ◌⊎◌, List, [], ◌∷◌, codes}
use Rattle.std.specs.List.{list_any}
use Rattle.std.specs.Str.{bytes_eq}

-- the words that stand today
abbrev pub include_words : List (List ℕ)
include_words = codes "!include" ∷ codes "tag:yaml.org,2002:include" ∷ codes "tag:yaml.org,2002:!include" ∷ []

-- whether a text is one of the words
abbrev pub is_word : List (List ℕ) → List ℕ → Bool
is_word ws t = list_any (bytes_eq t) ws

-- a text is one of the words
abbrev pub Among : List (List ℕ) → List ℕ → Type 0
Among [] t = ⊥
Among (w ∷ ws) t = (t ≡ w) ⊎ Among ws t
