-- What the answer to a wanted passage means.
use Rattle.std.specs.Prelude.{◌≡◌, ℕ, Ok, Err, ◌≢◌}
use Rattle.events.specs.Scores.{events_of, marks_of}
use Rattle.events.specs.Tables.{IsLast}
use Rattle.fragment.specs.declared.answers.FragmentError.{FragmentError}
use Rattle.fragment.specs.declared.answers.FragmentError.TheVariants.{OpenRange}
use Rattle.fragment.specs.declared.answers.Passage.{Passage}
use Rattle.fragment.specs.Laws.{IsTheUnfolding}
use Rattle.fragment.specs.Passages.{Wanted, Lent, Outcome, score_for}
use Rattle.fragment.specs.Relation.{Knot}
use Rattle.fragment.specs.Unfolding.{Unfolded}

-- number n is that of the last mark with the wanted name
abbrev pub IsTarget : Wanted → ℕ → Type 0
IsTarget w n = IsLast w.stock.bytes w.name (marks_of w.stock w.piece) n

-- some reached alias lies inside the node that it names
abbrev pub Knotted : Wanted → ℕ → Type 0
Knotted w n = Knot (events_of w.stock w.piece) n

-- an outcome without its slate
abbrev pub unfolded_in : Outcome → Unfolded
unfolded_in o = record { answer = o.answer; tape = o.left.tape; charges = o.left.charges; enforcer = o.left.enforcer }

pub record Means (w : Wanted) (l : Lent) (o : Outcome) : Type 0 where
  -- accepted: what is written behind the tape is the unfolding of the target, and the figures are exact
  pub accepted_is_the_unfolding_of_the_target : (p : Passage) → o.answer ≡ Ok p → (n : ℕ) × (IsTarget w n × IsTheUnfolding (score_for w) n l.tape l.charges l.enforcer (unfolded_in o) p)
  -- 18 only where a reached alias lies inside the node that it names
  pub an_open_range_is_told_only_at_a_knot : (m : ℕ) → o.answer ≡ Err (OpenRange m) → (n : ℕ) × (IsTarget w n × Knotted w n)
  -- and where one does, the target is not accepted
  pub a_knot_is_never_accepted : (n : ℕ) → IsTarget w n → Knotted w n → (p : Passage) → o.answer ≢ Ok p
  pub a_refusal_leaves_the_tape : (e : FragmentError) → o.answer ≡ Err e → o.left.tape ≡ l.tape
