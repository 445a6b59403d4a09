-- Withdrawing a number touches only the entries of that number.
use Rattle.std.proofs.Common.{◌≡◌, ℕ, ◌≤◌, Bool, true, false, cond, not, eqb, get_or, sym, refl, subst, arith}
use Rattle.std.specs.Int.{from_bool}
use Rattle.std.proofs.lemmas.List.{length-map, get_or-map}
use Rattle.std.proofs.lemmas.Bool.{eqb-false, ne_eqb, and_parts, and_from, not-true, not_from_false}
use Rattle.catalogue.specs.Entries.{Entry, withdrawn_entry}
use Rattle.catalogue.specs.Laws.{WithdrawnOnly, WithdrawingTouchesOnlyItsNumber}

withdrawn_only : (n : ℕ) (e : Entry) → WithdrawnOnly n e (withdrawn_entry n e)
withdrawn_only n e =
    let other = eqb e.number n in
    record {
      same_path = refl;
      same_number = refl;
      same_piece = refl;
      stands_exactly = (
        λ h. (let b = and_parts e.stands (not other) h in (b.0, eqb-false e.number n (not-true other b.1))),
        λ h. and_from e.stands (not other) h.0 (not_from_false other (ne_eqb e.number n h.1)),
      );
    }

pub withdrawing_touches_only_its_number : WithdrawingTouchesOnlyItsNumber
withdrawing_touches_only_its_number n es =
    record {
      as_many = length-map es (withdrawn_entry n);
      each = λ k d h. subst (WithdrawnOnly n (get_or es k d)) (sym (get_or-map (withdrawn_entry n) es k d d h)) (withdrawn_only n (get_or es k d));
    }

-- a test as a number, as a withdrawal counts what stood
pub from_bool_is : (b : Bool) → from_bool b ≡ cond b 1 0
from_bool_is true = refl
from_bool_is false = refl

pub from_bool_at_most_1 : (b : Bool) → from_bool b ≤ 1
from_bool_at_most_1 true = omega arith
from_bool_at_most_1 false = omega arith
