-- The unfolding of a number's range, as a function on lists.
use Rattle.std.specs.Prelude.{ℕ, zero, suc, ◌+◌, ◌-◌, Bool, true, false, cond, List, [], ◌∷◌, ◌++◌, length, Some, None, Ok, Err, Option, Result, ◌==◌, nat_lt, slice_index, slice_index_or, slice_set}
use Rattle.events.specs.declared.score.Event.{Event}
use Rattle.events.specs.declared.score.NodeRange.{NodeRange}
use Rattle.events.specs.declared.kinds.EventKind.{EventKind}
use Rattle.events.specs.declared.kinds.EventKind.TheVariants.{StreamStart, StreamEnd, DocumentStart, DocumentEnd, Alias, Scalar, SequenceStart, SequenceEnd, MappingStart, MappingEnd}
use Rattle.events.specs.Scores.{kind, no_event}
use Rattle.std.specs.Bool.{then_some}
use Rattle.events.specs.Nodes.{range_of}
use Rattle.events.specs.Rules.{is_alias}
use Rattle.budget.specs.declared.limits.Budget.{Budget}
use Rattle.budget.specs.declared.limits.AliasLimits.{AliasLimits}
use Rattle.budget.specs.declared.limits.Limits.{Limits}
use Rattle.budget.specs.declared.breach.BudgetBreach.TheVariants.{Events, Aliases, ScalarBytes}
use Rattle.budget.specs.Counts.{up}
use Rattle.budget.specs.Model.{Model, Outcome, observed}
use Rattle.budget.specs.Observed.{reference}
use Rattle.fragment.specs.declared.answers.Charges.{Charges}
use Rattle.fragment.specs.declared.answers.Passage.{Passage}
use Rattle.fragment.specs.declared.answers.FragmentError.{FragmentError}
use Rattle.fragment.specs.declared.answers.FragmentError.TheVariants.{UnfoldingBreach, EnforcerBreach, OpenRange, Expansions, ReplayDepth, ReplayedTotal, TapeFull}
use Rattle.fragment.specs.Ended.{Ended, went, refused, next, within}
use Rattle.fragment.specs.Slate.{blank, opened}

-- a piece under limits: its events, the place of the first of them in the stock, and the limits
pub record Score : Type 0 where
  pub events : List Event
  pub base : ℕ
  pub limits : Limits

abbrev pub event_at : Score → ℕ → Event
event_at s p = slice_index_or s.events p no_event

abbrev pub is_alias_at : Score → ℕ → Bool
is_alias_at s p = is_alias (kind (event_at s p))

-- the number that an alias names
abbrev pub named_at : Score → ℕ → ℕ
named_at s p = (event_at s p).anchor

-- the range of the node with number n
abbrev pub range : Score → ℕ → NodeRange
range s n = range_of s.events n

-- what an unfolding counts: the charges go on from those before, the others are of this passage alone
pub record Counts : Type 0 where
  pub aliases : ℕ
  pub charged : ℕ
  pub replaced : ℕ
  pub replayed : ℕ
  pub bytes : ℕ
  pub written : ℕ
  pub expansions : List ℕ

-- what an unfolding changes: the tape as far as it is written, the counts, and the enforcer
pub record Work : Type 0 where
  pub tape : List ℕ
  pub counts : Counts
  pub enforcer : Model

abbrev pub with_tape : Work → List ℕ → Work
with_tape w t = record { tape = t; counts = w.counts; enforcer = w.enforcer }

abbrev pub with_counts : Work → Counts → Work
with_counts w c = record { tape = w.tape; counts = c; enforcer = w.enforcer }

abbrev pub with_enforcer : Work → Model → Work
with_enforcer w m = record { tape = w.tape; counts = w.counts; enforcer = m }

-- at an alias

-- 18: the range of its number is open
abbrev pub try_closed : List ℕ → ℕ → Work → Ended Work
try_closed slate n w = cond (slice_index slate (n - 1) == 0) (went w) (refused (OpenRange n) w)

-- the alias charge, and the aliases replaced
abbrev pub one_alias : Counts → Counts
one_alias c = record { aliases = up c.aliases 1; charged = c.charged; replaced = up c.replaced 1; replayed = c.replayed; bytes = c.bytes; written = c.written; expansions = c.expansions }

abbrev pub charge_alias : Work → Ended Work
charge_alias w = went (with_counts w (one_alias w.counts))

-- the enforcer's alias reference
abbrev pub referred_by : Work → Outcome → Ended Work
referred_by w (m, Ok _) = went (with_enforcer w m)
referred_by w (m, Err b) = refused (EnforcerBreach b) (with_enforcer w m)

abbrev pub refer : Work → Ended Work
refer w = referred_by w (observed reference w.enforcer)

-- the alias charge against its limit
abbrev pub judge_aliases : Budget → Work → Ended Work
judge_aliases b w = cond (nat_lt b.max_aliases w.counts.aliases) (refused (UnfoldingBreach (Aliases w.counts.aliases)) w) (went w)

-- 19: the expansions of this number
abbrev pub one_expansion : ℕ → Counts → Counts
one_expansion n c = record { aliases = c.aliases; charged = c.charged; replaced = c.replaced; replayed = c.replayed; bytes = c.bytes; written = c.written; expansions = slice_set c.expansions (n - 1) (up (slice_index c.expansions (n - 1)) 1) }

abbrev pub expand : AliasLimits → ℕ → Work → Ended Work
expand l n w =
    let c = one_expansion n w.counts in
    let k = up (slice_index w.counts.expansions (n - 1)) 1 in
    cond (nat_lt l.max_alias_expansions_per_anchor k) (refused (Expansions k) (with_counts w c)) (went (with_counts w c))

-- 20: the ranges open before this one
abbrev pub judge_depth : AliasLimits → ℕ → Work → Ended Work
judge_depth l d w = cond (nat_lt l.max_replay_stack_depth d) (refused (ReplayDepth d) w) (went w)

-- the tests at an alias to number n, with d ranges open
abbrev pub alias_step : Score → List ℕ → ℕ → ℕ → Work → Ended Work
alias_step s slate d n w =
    next (try_closed slate n w) (λ v. next (charge_alias v) (λ v. next (refer v) (λ v. next (judge_aliases s.limits.budget v) (λ v. next (expand s.limits.alias_limits n v) (judge_depth s.limits.alias_limits d)))))

-- at another event

-- 21: an event in an alias range is replayed, that is where more than one range is open
abbrev pub one_replayed : Counts → Counts
one_replayed c = record { aliases = c.aliases; charged = up c.charged 1; replaced = c.replaced; replayed = up c.replayed 1; bytes = c.bytes; written = c.written; expansions = c.expansions }

abbrev pub replay : AliasLimits → ℕ → Work → Ended Work
replay l d w =
    let c = one_replayed w.counts in
    cond (nat_lt 1 d)
    (cond (nat_lt l.max_total_replayed_events c.charged) (refused (ReplayedTotal c.charged) (with_counts w c)) (went (with_counts w c)))
    (went w)

-- the bytes of the value of a scalar
abbrev pub is_scalar : Option EventKind → Bool
is_scalar None = false
is_scalar (Some StreamStart) = false
is_scalar (Some StreamEnd) = false
is_scalar (Some DocumentStart) = false
is_scalar (Some DocumentEnd) = false
is_scalar (Some Alias) = false
is_scalar (Some Scalar) = true
is_scalar (Some SequenceStart) = false
is_scalar (Some SequenceEnd) = false
is_scalar (Some MappingStart) = false
is_scalar (Some MappingEnd) = false

abbrev pub value_bytes : Event → ℕ
value_bytes e = cond (is_scalar (kind e)) e.value.len 0

abbrev pub more_bytes : ℕ → Counts → Counts
more_bytes k c = record { aliases = c.aliases; charged = c.charged; replaced = c.replaced; replayed = c.replayed; bytes = up c.bytes k; written = c.written; expansions = c.expansions }

abbrev pub weigh : Budget → Event → Work → Ended Work
weigh b e w =
    let c = more_bytes (value_bytes e) w.counts in
    cond (nat_lt b.max_total_scalar_bytes c.bytes) (refused (UnfoldingBreach (ScalarBytes c.bytes)) (with_counts w c)) (went (with_counts w c))

-- the events of this passage
abbrev pub one_written : Counts → Counts
one_written c = record { aliases = c.aliases; charged = c.charged; replaced = c.replaced; replayed = c.replayed; bytes = c.bytes; written = up c.written 1; expansions = c.expansions }

abbrev pub count_event : Budget → Work → Ended Work
count_event b w =
    let c = one_written w.counts in
    cond (nat_lt b.max_events c.written) (refused (UnfoldingBreach (Events c.written)) (with_counts w c)) (went (with_counts w c))

-- 22: the place goes to the tape's end
abbrev pub pushed : ℕ → List ℕ → Ended (List ℕ)
pushed p t = cond (nat_lt (length t) 8192) (went (t ++ p ∷ [])) (refused TapeFull t)

-- what is written at an index of a tape, if something is
abbrev pub place_at : List ℕ → ℕ → Option ℕ
place_at t i = then_some (nat_lt i (length t)) (slice_index t i)

abbrev pub write : ℕ → Work → Ended Work
write p w = within (with_tape w) (pushed p w.tape)

-- the tests at an event at place p, with d ranges open
abbrev pub event_step : Score → ℕ → ℕ → Work → Ended Work
event_step s d p w =
    next (replay s.limits.alias_limits d w) (λ v. next (weigh s.limits.budget (event_at s p) v) (λ v. next (count_event s.limits.budget v) (write (s.base + p))))

-- ranges

-- what is done at each of n places from p on
unfoldable pub each : (ℕ → Work → Ended Work) → ℕ → ℕ → Work → Ended Work
each f p zero w = went w
each f p (suc n) w = next (f p w) (each f (suc p) n)

-- what opens a range: slate, ranges open, range
abbrev pub Opens : Type 0
Opens = List ℕ → ℕ → NodeRange → Work → Ended Work

-- one place of an open range: an alias opens its range, any other event is written
unfoldable pub step : Score → Opens → List ℕ → ℕ → ℕ → Work → Ended Work
step s opens slate d p w =
    cond {A = Work → Ended Work} (is_alias_at s p)
    (λ (v : Work). next (alias_step s slate d (named_at s p) v) (opens (opened (named_at s p) slate) (d + 1) (range s (named_at s p))))
    (λ (v : Work). event_step s d p v)
    w

-- ranges within ranges, at most k deep; k is how many numbers are not open, so the bound is never met
unfoldable pub run : Score → ℕ → Opens
run s zero slate d r w = each (step s (λ _ _ _ v. refused TapeFull v) slate d) r.first (r.last + 1 - r.first) w
run s (suc k) slate d r w = each (step s (run s k) slate d) r.first (r.last + 1 - r.first) w

abbrev pub tick : Bool → ℕ → ℕ
tick true n = suc n
tick false n = n

-- how many numbers are not open
unfoldable pub shut : List ℕ → ℕ
shut [] = 0
shut (x ∷ xs) = tick (x == 0) (shut xs)

-- the whole

-- the counts at the start of a passage
abbrev pub begun : Charges → Counts
begun c = record { aliases = c.aliases; charged = c.replayed; replaced = 0; replayed = 0; bytes = 0; written = 0; expansions = blank }

abbrev pub charges_of : Counts → Charges
charges_of c = record { aliases = c.aliases; replayed = c.charged }

abbrev pub passage_of : Counts → Passage
passage_of c = record { events = c.written; aliases = c.replaced; replayed = c.replayed }

-- an answer, and the tape, the charges and the enforcer that it leaves
pub record Unfolded : Type 0 where
  pub answer : Result Passage FragmentError
  pub tape : List ℕ
  pub charges : Charges
  pub enforcer : Model

-- a refusal leaves the tape as it was; what was charged stays charged
abbrev pub answered : List ℕ → Ended Work → Unfolded
answered t (went w) = record { answer = Ok (passage_of w.counts); tape = w.tape; charges = charges_of w.counts; enforcer = w.enforcer }
answered t (refused e w) = record { answer = Err e; tape = t; charges = charges_of w.counts; enforcer = w.enforcer }

-- the unfolding of number n, written behind the tape t; its range is the first to open
unfoldable pub unfolded : Score → ℕ → List ℕ → Charges → Model → Unfolded
unfolded s n t c m =
    answered t (run s (shut (opened n blank)) (opened n blank) 1 (range s n) (record { tape = t; counts = begun c; enforcer = m }))
