-- What one input adds to the counts, where it breaches no limit.
use Rattle.std.specs.Prelude.{ℕ, zero, suc, ◌+◌, Bool, true, false, cond, not, ◌&&◌, ◌||◌, length, ◌==◌}
use Rattle.events.specs.declared.kinds.EventKind.{EventKind}
use Rattle.events.specs.declared.kinds.EventKind.TheVariants.{DocumentStart, Alias, Scalar, SequenceStart, MappingStart}
use Rattle.events.specs.Kinds.{kind_number}
use Rattle.budget.specs.declared.policy.EnforcingPolicy.{EnforcingPolicy}
use Rattle.budget.specs.declared.policy.EnforcingPolicy.TheVariants.{AllContent, PerDocument}
use Rattle.budget.specs.Merging.{is_merge}
use Rattle.budget.specs.Model.{Model}
use Rattle.budget.specs.Nesting.{key_next}
use Rattle.budget.specs.Observed.{Input, event, reference}

abbrev pub one : Bool → ℕ
one true = 1
one false = 0

abbrev pub is : EventKind → EventKind → Bool
is j k = kind_number j == kind_number k

abbrev pub is_start : EventKind → Bool
is_start k = is k SequenceStart || is k MappingStart

abbrev pub is_node : EventKind → Bool
is_node k = is k Scalar || is_start k

abbrev pub nodes_of : Input → ℕ
nodes_of (event e) = one (is_node e.kind)
nodes_of reference = 0

abbrev pub aliases_of : Input → ℕ
aliases_of (event e) = one (is e.kind Alias)
aliases_of reference = 1

-- the bytes of a scalar's value and of a node's tag
abbrev pub bytes_of : Input → ℕ
bytes_of (event e) = cond (is e.kind Scalar) (length e.value) 0 + cond (is_node e.kind) (length e.tag) 0
bytes_of reference = 0

abbrev pub starts_document : Input → Bool
starts_document (event e) = is e.kind DocumentStart
starts_document reference = false

abbrev pub per_document : EnforcingPolicy → Bool
per_document AllContent = false
per_document PerDocument = true

-- documents are counted where all content is counted together
abbrev pub documents_of : EnforcingPolicy → Input → ℕ
documents_of p i = one (starts_document i && not (per_document p))

-- where each document is counted on its own, the counts begin anew at its start
abbrev pub resets : EnforcingPolicy → Input → Bool
resets p i = starts_document i && per_document p

-- the depth inside a container that starts
abbrev pub depth_of : Input → Model → ℕ
depth_of (event e) m = cond (is_start e.kind) (length m.around + 1) 0
depth_of reference m = 0

-- a merge key where a key stands
abbrev pub merge_keys_of : Input → Model → ℕ
merge_keys_of (event e) m = one (is e.kind Scalar && (is_merge m.merging e && key_next m.around))
merge_keys_of reference m = 0

-- a node that carries a number, which is never 0
abbrev pub carries : ℕ → Input → Bool
carries n (event e) = is_node e.kind && (e.anchor == n && not (n == 0))
carries n reference = false

-- how many numbers below n pass a test
unfoldable pub number_below : ℕ → (ℕ → Bool) → ℕ
number_below zero f = 0
number_below (suc n) f = one (f 0) + number_below n (λ k. f (suc k))
