-- What a look-up and a withdrawal mean, without the order in which a list is read.
use Rattle.std.specs.Prelude.{◌≡◌, ℕ, ◌<◌, Bool, true, false, ◌⊎◌, List, [], ◌∷◌, length, Err, ◌≢◌, slice_index_or}
use Rattle.events.specs.declared.score.Piece.{Piece}
use Rattle.catalogue.specs.declared.answers.Unresolved.TheVariants.{Withdrawn, Unknown}
use Rattle.catalogue.specs.Entries.{Entry, Lawful, found as found_as, look_up, withdrawn}

-- an entry is one of a list
abbrev pub Among : List Entry → Entry → Type 0
Among [] x = ⊥
Among (e ∷ es) x = (x ≡ e) ⊎ Among es x

-- two statements say the same
abbrev pub Exactly : Type 0 → Type 0 → Type 0
Exactly P Q = (P → Q) × (Q → P)

-- some entry of the list has the path, and stands or not
abbrev pub Has : List Entry → List ℕ → Bool → Type 0
Has es p s = (e : Entry) × (Among es e × (e.path ≡ p) × (e.stands ≡ s))

-- some entry of the list has the path and stands, with this number and this piece
abbrev pub Stands : List Entry → List ℕ → ℕ → Piece → Type 0
Stands es p n x = (e : Entry) × (Among es e × (e.path ≡ p) × (e.stands ≡ true) × (e.number ≡ n) × (e.piece ≡ x))

-- no entry of the list has the path
abbrev pub Lacks : List Entry → List ℕ → Type 0
Lacks es p = (e : Entry) → Among es e → e.path ≢ p

-- found exactly if an entry has the path and stands, withdrawn exactly if one has it and does not stand, unknown exactly if none has it
pub record TellsTheList (es : List Entry) (p : List ℕ) : Type 0 where
  pub found : (n : ℕ) (x : Piece) → Exactly (look_up es p ≡ found_as n x) (Stands es p n x)
  pub gone : Exactly (look_up es p ≡ Err Withdrawn) (Has es p false)
  pub unknown : Exactly (look_up es p ≡ Err Unknown) (Lacks es p)

abbrev pub LookUpTellsTheList : Type 0
LookUpTellsTheList = (es : List Entry) → Lawful es → (p : List ℕ) → TellsTheList es p

-- an entry before and after a withdrawal: it stands afterwards exactly if it stood and has another number
pub record WithdrawnOnly (n : ℕ) (was is : Entry) : Type 0 where
  pub same_path : is.path ≡ was.path
  pub same_number : is.number ≡ was.number
  pub same_piece : is.piece ≡ was.piece
  pub stands_exactly : Exactly (is.stands ≡ true) ((was.stands ≡ true) × (was.number ≢ n))

-- as many entries as before, and at each place the same entry, withdrawn if it has the number
pub record TouchesOnly (n : ℕ) (es is : List Entry) : Type 0 where
  pub as_many : length is ≡ length es
  pub each : (k : ℕ) (d : Entry) → k < length es → WithdrawnOnly n (slice_index_or es k d) (slice_index_or is k d)

abbrev pub WithdrawingTouchesOnlyItsNumber : Type 0
WithdrawingTouchesOnlyItsNumber = (n : ℕ) (es : List Entry) → TouchesOnly n es (withdrawn n es)
