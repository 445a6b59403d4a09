-- Merge keys.
use Rattle.std.specs.Prelude.{ℕ, Bool, true, false, ◌&&◌, ◌||◌, List, length, codes, ◌==◌}
use Rattle.std.specs.Str.{bytes_eq}
use Rattle.events.specs.declared.kinds.ScalarStyle.{ScalarStyle}
use Rattle.events.specs.declared.kinds.ScalarStyle.TheVariants.{Plain, SingleQuoted, DoubleQuoted, Literal, Folded}
use Rattle.budget.specs.declared.policy.MergeKeyPolicy.{MergeKeyPolicy}
use Rattle.budget.specs.declared.policy.MergeKeyPolicy.TheVariants.{Merge, AsOrdinary, Error}
use Rattle.budget.specs.Observed.{Seen}

abbrev pub merges : MergeKeyPolicy → Bool
merges Merge = true
merges AsOrdinary = false
merges Error = false

abbrev pub is_plain : ScalarStyle → Bool
is_plain Plain = true
is_plain SingleQuoted = false
is_plain DoubleQuoted = false
is_plain Literal = false
is_plain Folded = false

abbrev pub merge_tagged : List ℕ → Bool
merge_tagged tag = bytes_eq tag (codes "tag:yaml.org,2002:merge")

abbrev pub untagged : List ℕ → Bool
untagged tag = length tag == 0

-- the value is <<, and the tag is the merge tag, or there is none and the scalar is plain
abbrev pub is_merge : MergeKeyPolicy → Seen → Bool
is_merge k e = merges k && (bytes_eq e.value (codes "<<") && (merge_tagged e.tag || (untagged e.tag && is_plain e.style)))
