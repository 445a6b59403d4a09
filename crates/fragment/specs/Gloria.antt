-- Two pieces of one stock, unfolded: gloria, with the passages duo, c, tutti and loop, and one with two passages of the name bells.
use Rattle.std.specs.Prelude.{◌≡◌, ℕ, ◌^◌, true, List, [], ◌∷◌, ◌++◌, Some, None, Ok, Err, Result}
use Rattle.events.specs.declared.score.Run.{Run}
use Rattle.events.specs.declared.score.Mark.{Mark}
use Rattle.events.specs.declared.score.Event.{Event}
use Rattle.events.specs.declared.score.Piece.{Piece}
use Rattle.events.specs.declared.score.NodeRange.{NodeRange}
use Rattle.events.specs.declared.kinds.EventKind.{EventKind}
use Rattle.events.specs.declared.kinds.EventKind.TheVariants.{StreamStart, StreamEnd, DocumentStart, DocumentEnd, Alias, Scalar, SequenceStart, SequenceEnd, MappingStart, MappingEnd}
use Rattle.events.specs.Kinds.{kind_number}
use Rattle.events.specs.Scores.{Lists, events_of, marks_of, no_run}
use Rattle.events.specs.Rules.{sound}
use Rattle.events.specs.Nodes.{ranges_from}
use Rattle.events.specs.Tables.{last_named}
use Rattle.budget.specs.declared.limits.AliasLimits.{AliasLimits}
use Rattle.budget.specs.declared.policy.EnforcingPolicy.{EnforcingPolicy}
use Rattle.budget.specs.declared.policy.MergeKeyPolicy.{MergeKeyPolicy}
use Rattle.budget.specs.Limits.{standard_budget, standard_alias_limits}
use Rattle.budget.specs.Model.{started}
use Rattle.fragment.specs.declared.answers.Charges.{Charges}
use Rattle.fragment.specs.declared.answers.Passage.{Passage}
use Rattle.fragment.specs.declared.answers.FragmentError.{FragmentError}
use Rattle.fragment.specs.declared.answers.FragmentError.TheVariants.{OpenRange, Expansions, ReplayDepth, ReplayedTotal}
use Rattle.fragment.specs.Relation.{Knot}
use Rattle.fragment.specs.Unfolding.{Score, Unfolded, unfolded}

-- names and values, as bytes

abbrev pub duo : List ℕ
duo = 100 ∷ 117 ∷ 111 ∷ []

abbrev pub c : List ℕ
c = 99 ∷ []

abbrev pub tutti : List ℕ
tutti = 116 ∷ 117 ∷ 116 ∷ 116 ∷ 105 ∷ []

abbrev pub loop : List ℕ
loop = 108 ∷ 111 ∷ 111 ∷ 112 ∷ []

abbrev pub top : List ℕ
top = 116 ∷ 111 ∷ 112 ∷ []

abbrev pub all : List ℕ
all = 97 ∷ 108 ∷ 108 ∷ []

abbrev pub x : List ℕ
x = 120 ∷ []

abbrev pub bells : List ℕ
bells = 98 ∷ 101 ∷ 108 ∷ 108 ∷ 115 ∷ []

abbrev pub upper : List ℕ
upper = 67 ∷ []

abbrev pub bytes : List ℕ
bytes = duo ++ (c ++ (tutti ++ (loop ++ (top ++ (upper ++ (all ++ (x ++ bells)))))))

abbrev pub run : ℕ → ℕ → Run
run start len = record { start = start; len = len }

abbrev pub mark : ℕ → ℕ → Mark
mark start len = record { name = run start len }

abbrev pub valued : EventKind → ℕ → Run → Event
valued k a v = record { kind = kind_number k; anchor = a; value = v; tag = no_run; style = 0; span = record { start = 0; end = 0 } }

abbrev pub event : EventKind → ℕ → Event
event k a = valued k a no_run

-- top: &duo [&c C, *c]   all: &tutti [*duo, *duo, *c]   loop: &loop [x, *loop]
abbrev pub gloria_events : List Event
gloria_events =
    event StreamStart 0 ∷ event DocumentStart 0 ∷ event MappingStart 0
    ∷ valued Scalar 0 (run 13 3) ∷ event SequenceStart 1 ∷ valued Scalar 2 (run 16 1) ∷ event Alias 2 ∷ event SequenceEnd 0
    ∷ valued Scalar 0 (run 17 3) ∷ event SequenceStart 3 ∷ event Alias 1 ∷ event Alias 1 ∷ event Alias 2 ∷ event SequenceEnd 0
    ∷ valued Scalar 0 (run 9 4) ∷ event SequenceStart 4 ∷ valued Scalar 0 (run 20 1) ∷ event Alias 4 ∷ event SequenceEnd 0
    ∷ event MappingEnd 0 ∷ event DocumentEnd 0 ∷ event StreamEnd 0 ∷ []

-- [&bells C, &bells x]
abbrev pub bells_events : List Event
bells_events =
    event StreamStart 0 ∷ event DocumentStart 0 ∷ event SequenceStart 0 ∷ valued Scalar 1 (run 16 1) ∷ valued Scalar 2 (run 20 1) ∷ event SequenceEnd 0 ∷ event DocumentEnd 0 ∷ event StreamEnd 0 ∷ []

abbrev pub stock : Lists
stock = record { bytes = bytes; marks = mark 0 3 ∷ mark 3 1 ∷ mark 4 5 ∷ mark 9 4 ∷ mark 21 5 ∷ mark 21 5 ∷ []; events = gloria_events ++ bells_events }

abbrev pub gloria : Piece
gloria = record { marks = run 0 4; events = run 0 22; text_len = 184 }

abbrev pub two_bells : Piece
two_bells = record { marks = run 4 2; events = run 22 8; text_len = 20 }

abbrev pub node : ℕ → ℕ → NodeRange
node a b = record { first = a; last = b }

-- limits as they are where nothing else is wanted, but for those of aliases

abbrev pub score : Piece → AliasLimits → Score
score p l = record { events = events_of stock p; base = p.events.start; limits = record { budget = standard_budget; alias_limits = l } }

abbrev pub replaying : ℕ → AliasLimits
replaying n = record { max_total_replayed_events = n; max_replay_stack_depth = 64; max_alias_expansions_per_anchor = 2 ^ 30 }

abbrev pub stacking : ℕ → AliasLimits
stacking n = record { max_total_replayed_events = 1000000; max_replay_stack_depth = n; max_alias_expansions_per_anchor = 2 ^ 30 }

abbrev pub expanding : ℕ → AliasLimits
expanding n = record { max_total_replayed_events = 1000000; max_replay_stack_depth = 64; max_alias_expansions_per_anchor = n }

abbrev pub none : Charges
none = record { aliases = 0; replayed = 0 }

-- what is told of an unfolding, but for the enforcer
pub record Told : Type 0 where
  pub answer : Result Passage FragmentError
  pub tape : List ℕ
  pub charges : Charges

abbrev pub told : Unfolded → Told
told u = record { answer = u.answer; tape = u.tape; charges = u.charges }

abbrev pub accepted : ℕ → ℕ → ℕ → List ℕ → Told
accepted events aliases replayed tape = record { answer = Ok (record { events = events; aliases = aliases; replayed = replayed }); tape = tape; charges = record { aliases = aliases; replayed = replayed } }

abbrev pub refusal : FragmentError → ℕ → ℕ → Told
refusal e aliases replayed = record { answer = Err e; tape = []; charges = record { aliases = aliases; replayed = replayed } }

abbrev pub whole_tutti : Told
whole_tutti = accepted 11 5 9 (9 ∷ 4 ∷ 5 ∷ 5 ∷ 7 ∷ 4 ∷ 5 ∷ 5 ∷ 7 ∷ 5 ∷ 13 ∷ [])

-- the unfolding of a number, on an empty tape, with an enforcer that has observed nothing
module _ (p : EnforcingPolicy) (k : MergeKeyPolicy) where
  abbrev pub unfolding_of : Piece → ℕ → AliasLimits → Told
  unfolding_of piece n l = told (unfolded (score piece l) n [] none (started standard_budget p k))

  pub record Examples : Type 0 where
    pub gloria_is_sound : sound stock gloria ≡ true
    pub gloria_ranges : ranges_from 0 (events_of stock gloria) ≡ node 4 7 ∷ node 5 5 ∷ node 9 13 ∷ node 15 18 ∷ []
    pub c_is_named : last_named bytes c (marks_of stock gloria) ≡ Some 2
    pub tutti_is_named : last_named bytes tutti (marks_of stock gloria) ≡ Some 3
    pub loop_is_named : last_named bytes loop (marks_of stock gloria) ≡ Some 4
    pub bells_is_not : last_named bytes bells (marks_of stock gloria) ≡ None
    pub c_unfolds : unfolding_of gloria 2 standard_alias_limits ≡ accepted 1 0 0 (5 ∷ [])
    pub tutti_unfolds : unfolding_of gloria 3 standard_alias_limits ≡ whole_tutti
    pub loop_is_open : unfolding_of gloria 4 standard_alias_limits ≡ refusal (OpenRange 4) 0 0
    pub loop_is_a_knot : Knot (events_of stock gloria) 4
    pub one_deep : unfolding_of gloria 3 (stacking 1) ≡ refusal (ReplayDepth 2) 2 2
    pub two_deep : unfolding_of gloria 3 (stacking 2) ≡ whole_tutti
    pub eight_replayed : unfolding_of gloria 3 (replaying 8) ≡ refusal (ReplayedTotal 9) 5 9
    pub nine_replayed : unfolding_of gloria 3 (replaying 9) ≡ whole_tutti
    pub twice_expanded : unfolding_of gloria 3 (expanding 2) ≡ refusal (Expansions 3) 5 8
    pub thrice_expanded : unfolding_of gloria 3 (expanding 3) ≡ whole_tutti
    pub two_bells_is_sound : sound stock two_bells ≡ true
    pub the_last_bells : last_named bytes bells (marks_of stock two_bells) ≡ Some 2
    pub bells_unfolds : unfolding_of two_bells 2 standard_alias_limits ≡ accepted 1 0 0 (26 ∷ [])

-- under either policy of counting and any of merge keys
abbrev pub ComputedPassages : Type 0
ComputedPassages = (policy : EnforcingPolicy) (merging : MergeKeyPolicy) → Examples policy merging
