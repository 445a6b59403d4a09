-- A passage by piece and anchor name: the slate is judged first, then the soundness of the piece; then come collection and unfolding.
use Rattle.std.specs.Prelude.{ℕ, cond, List, length, Some, None, Ok, Err, Option, Result, nat_lt}
use Rattle.events.specs.declared.kinds.Rule.{Rule}
use Rattle.events.specs.declared.score.Piece.{Piece}
use Rattle.events.specs.Rules.{first_broken}
use Rattle.events.specs.Scores.{Lists, events_of}
use Rattle.budget.specs.declared.limits.Limits.{Limits}
use Rattle.budget.specs.Model.{Model}
use Rattle.fragment.specs.declared.answers.Charges.{Charges}
use Rattle.fragment.specs.declared.answers.FragmentError.{FragmentError}
use Rattle.fragment.specs.declared.answers.FragmentError.TheVariants.{ShortSlate, Unsound}
use Rattle.fragment.specs.declared.answers.Passage.{Passage}
use Rattle.fragment.specs.Collection.{collected}
use Rattle.fragment.specs.Slate.{wiped}
use Rattle.fragment.specs.Unfolding.{Score, Unfolded, unfolded}

-- what is asked for: a name in a piece of a stock, under limits
pub record Wanted : Type 0 where
  pub stock : Lists
  pub piece : Piece
  pub name : List ℕ
  pub limits : Limits

abbrev pub score_for : Wanted → Score
score_for w = record { events = events_of w.stock w.piece; base = w.piece.events.start; limits = w.limits }

-- what the caller lends: the slate, the tape as far as it is written, the charges, and the enforcer
pub record Lent : Type 0 where
  pub slate : List ℕ
  pub tape : List ℕ
  pub charges : Charges
  pub enforcer : Model

pub record Outcome : Type 0 where
  pub answer : Result Passage FragmentError
  pub left : Lent

abbrev pub refusing : FragmentError → Lent → Outcome
refusing e l = record { answer = Err e; left = l }

abbrev pub with_wiped : Lent → Lent
with_wiped l = record { slate = wiped l.slate; tape = l.tape; charges = l.charges; enforcer = l.enforcer }

-- what an unfolding leaves; it gives the slate back as it was
abbrev pub unfolding_leaves : Lent → Unfolded → Outcome
unfolding_leaves l u = record { answer = u.answer; left = record { slate = l.slate; tape = u.tape; charges = u.charges; enforcer = u.enforcer } }

abbrev pub from_target : Wanted → Result ℕ FragmentError → Lent → Outcome
from_target w (Err e) l = refusing e l
from_target w (Ok n) l = unfolding_leaves l (unfolded (score_for w) n l.tape l.charges l.enforcer)

abbrev pub from_soundness : Wanted → Option Rule → Lent → Outcome
from_soundness w (Some r) l = refusing (Unsound r) l
from_soundness w None l = from_target w (collected w.limits.budget w.stock w.piece w.name) l

-- a slate of fewer than 256 bytes is refused with all as it was; from there on its first 256 bytes are 0
abbrev pub passage_for : Wanted → Lent → Outcome
passage_for w l =
    cond (nat_lt (length l.slate) 256) (refusing (ShortSlate (length l.slate)) l) (from_soundness w (first_broken w.stock w.piece) (with_wiped l))
