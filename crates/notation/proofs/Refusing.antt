-- Causes of a refusal, carried from one call to the one around it.
use Rattle.std.proofs.Common.{◌≡◌, ℕ, suc, ◌+◌, ◌-◌, ◌<◌, ◌≤◌, Bool, true, false, cond, eqb, ◌⊎◌, List, [], ◌∷◌, ◌++◌, length, take, drop, IsErrAnd, Ok, Err, vec_len, Result, sym, refl, ap, ◌∙◌, subst, inl, inr, arith, length-append, length-drop}
use Rattle.std.proofs.lemmas.Result.{err_from_is_err_and}
use Rattle.std.proofs.lemmas.List.{append_assoc, take-append-drop, take-take, drop-take, drop-drop, length-take-le}
use Rattle.slices.specs.Lines.{lines_of}
use Rattle.slices.proofs.Cutting.{line_begun}
use Rattle.slices.proofs.Places.{place_within}
use Rattle.notation.specs.declared.line.LineError.{LineError}
use Rattle.notation.specs.declared.line.LineError.TheVariants.{LineBreak, UnknownOpener, EmptyName, UnclosedTag, BadProperty, MissingValue, BadStyle, BadEscape, TrailingText, OutOfMemory as line_memory}
use Rattle.notation.specs.declared.fault.TextFault.{TextFault}
use Rattle.notation.specs.declared.fault.TextFault.TheVariants.{Line, UnknownAnchor, TooManyBytes, TooManyMarks, TooManyEvents, TextTooLong, OutOfMemory}
use Rattle.slices.specs.Fields.{place_of}
use Rattle.notation.specs.Lines.{Said, line_of}
use Rattle.notation.specs.declared.builder.StockBuilder.{StockBuilder}
use Rattle.notation.specs.declared.fault.TextError.{TextError}
use Rattle.notation.specs.Scores.{Ended, added}
use Rattle.notation.specs.Causes.{refusing, fault_of, Caused, ForLists, BytesExceeded, EventsFull, AliasUnknown, MarkExceeds, LineCause, Stopped, StoppedBefore, line_feeds, line_at}

-- a cause that follows from another, fault by fault
pub caused_weaker : {L L' : LineError → Type 0} {N N' B B' M M' E E' : Type 0} (f : TextFault) → ((e : LineError) → L e → L' e) → (N → N') → (B → B') → (M → M') → (E → E') → Caused L N B M E f → Caused L' N' B' M' E' f
caused_weaker (Line e) l n b m v h = l e h
caused_weaker UnknownAnchor l n b m v h = n h
caused_weaker TooManyBytes l n b m v h = b h
caused_weaker TooManyMarks l n b m v h = m h
caused_weaker TooManyEvents l n b m v h = v h
caused_weaker TextTooLong l n b m v h = h
caused_weaker OutOfMemory l n b m v h = tt

-- what the exit of a `?` returns
pub refusing_exit : {X Y : Type 0} (r : Result X Y) (P : Y → Type 0) (y : Y) → IsErrAnd r (λ d. d ≡ y) → P y → refusing r P
refusing_exit r P y h k = let p = err_from_is_err_and r h in subst (λ q. refusing q P) (sym p.1) (subst P (sym p.2) k)

-- a line that could not be read is its own cause
module _ (first_mark first_event : ℕ) (line : List ℕ) (b : StockBuilder) where
  unread : (e : LineError) → line_of line ≡ Err e → LineCause first_mark first_event line b (fault_of e)
  unread LineBreak h = h
  unread UnknownOpener h = h
  unread EmptyName h = h
  unread UnclosedTag h = h
  unread BadProperty h = h
  unread MissingValue h = h
  unread BadStyle h = h
  unread BadEscape h = h
  unread TrailingText h = h
  unread line_memory h = tt

  pub unread_cause : (e : LineError) → (e ≡ line_memory) ⊎ (line_of line ≡ Err e) → LineCause first_mark first_event line b (fault_of e)
  unread_cause e (inl h) = subst (λ d. LineCause first_mark first_event line b (fault_of d)) (sym h) tt
  unread_cause e (inr h) = unread e h

  -- what a line that reads is refused for
  pub read_cause : (l : Said) (f : TextFault) → line_of line ≡ Ok l → ForLists (AliasUnknown first_mark l b) (BytesExceeded (vec_len b.bytes) (length (added l))) (MarkExceeds first_mark l b) (EventsFull first_event (vec_len b.events)) f → LineCause first_mark first_event line b f
  read_cause l f r h =
      caused_weaker f (λ e k. absurd k) (λ k. record { says = l; read = r; holds = k }) (λ k. record { says = l; read = r; holds = k }) (λ k. record { says = l; read = r; holds = k }) (λ k. record { says = l; read = r; holds = k }) h

-- the bytes that a call found no room for, with those that stand behind them in the same line
pub exceeded_before : (n : ℕ) (s xs ys : List ℕ) → s ≡ xs → BytesExceeded n (length s) → BytesExceeded n (length (xs ++ ys))
exceeded_before n s xs ys e h = let l = ap length e in omega (arith, length-append xs ys, h)

-- the bytes that a call found no room for, with those that were put before them for the same line
pub exceeded_behind : (m n : ℕ) (held held' s xs ys : List ℕ) → length held ≡ m → length held' ≡ n → held' ≡ held ++ xs → s ≡ ys → BytesExceeded n (length s) → BytesExceeded m (length (xs ++ ys))
exceeded_behind m n held held' s xs ys a b e f h =
    let l = ap length e in let k = ap length f in omega (arith, length-append held xs, length-append xs ys, h)

pub put_twice : {held' held'' : List ℕ} (held s t xs ys : List ℕ) → held' ≡ held ++ s → held'' ≡ held' ++ t → s ≡ xs → t ≡ ys → held'' ≡ held ++ (xs ++ ys)
put_twice held s t xs ys e f a b = f ∙ ap (λ l. l ++ t) (e ∙ ap (λ l. held ++ l) a) ∙ append_assoc held xs t ∙ ap (λ l. held ++ (xs ++ l)) b

-- the line feeds up to the end of a line
feeds_append : (xs ys : List ℕ) → line_feeds (xs ++ ys) ≡ line_feeds xs + line_feeds ys
feeds_append [] ys = omega arith
feeds_append (x ∷ xs) ys = let h = feeds_append xs ys in omega arith

feeds_by : (x : ℕ) (xs : List ℕ) (t : Bool) → eqb x 10 ≡ t → (place_of 10 xs < length xs → line_feeds (take (place_of 10 xs + 1) xs) ≡ 1) → cond t 0 (1 + place_of 10 xs) < suc (length xs) → line_feeds (take (cond t 0 (1 + place_of 10 xs) + 1) (x ∷ xs)) ≡ 1
feeds_by x xs true e h l = ap (λ b. cond b 1 0 + 0) e
feeds_by x xs false e h l =
    let n : 1 + place_of 10 xs + 1 ≡ suc (place_of 10 xs + 1) = omega arith in
    let k = h (omega (arith, l)) in
    ap (λ m. line_feeds (take m (x ∷ xs))) n ∙ ap (λ b. cond b 1 0 + line_feeds (take (place_of 10 xs + 1) xs)) e ∙ omega (arith, k)

feeds_first : (xs : List ℕ) → place_of 10 xs < length xs → line_feeds (take (place_of 10 xs + 1) xs) ≡ 1
feeds_first [] h = absurd (omega (arith, h))
feeds_first (x ∷ xs) h = feeds_by x xs (eqb x 10) refl (feeds_first xs) h

take_split : (i k : ℕ) (xs : List ℕ) → take (i + k) xs ≡ take i xs ++ take k (drop i xs)
take_split i k xs =
    sym (take-append-drop i (take (i + k) xs))
    ∙ ap (λ l. l ++ drop i (take (i + k) xs)) (take-take i (i + k) xs (omega arith))
    ∙ ap (λ l. take i xs ++ l) (drop-take i k xs)

pub feeds_more : (text : List ℕ) (i p : ℕ) → p ≡ place_of 10 (drop i text) → i + p < length text → line_feeds (take (i + p + 1) text) ≡ line_feeds (take i text) + 1
feeds_more text i p e l =
    let d = drop i text in
    let n : i + p + 1 ≡ i + (place_of 10 d + 1) = omega (arith, e) in
    let k : place_of 10 d < length d = omega (arith, e, l, length-drop i text) in
    ap (λ m. line_feeds (take m text)) n
    ∙ ap line_feeds (take_split i (place_of 10 d + 1) text)
    ∙ feeds_append (take i text) (take (place_of 10 d + 1) d)
    ∙ ap (λ m. line_feeds (take i text) + m) (feeds_first d k)

pub stopped_before : {m v : ℕ} {t : List ℕ} (text : List ℕ) (a : StockBuilder) (e : TextError) (n : ℕ) → m ≡ vec_len a.marks → v ≡ vec_len a.events → t ≡ take n text → Ended text n → Stopped m v t a e → StoppedBefore text a e
stopped_before {m = m} {v = v} {t = t} text a e n p q r ended s =
    record {
      end = n;
      ended = ended;
      stopped = subst (λ k. Stopped k (vec_len a.events) (take n text) a e) p (subst (λ k. Stopped m k (take n text) a e) q (subst (λ (k : List ℕ). Stopped m v k a e) r s));
    }

-- a list of events that is full, or memory that ran out, is the cause of its fault
pub events_filled : (N B M : Type 0) (first n m : ℕ) (f : TextFault) → n ≡ m → (f ≡ OutOfMemory) ⊎ ((f ≡ TooManyEvents) × EventsFull first n) → ForLists N B M (EventsFull first m) f
events_filled N B M first n m f e (inl h) = subst (ForLists N B M (EventsFull first m)) (sym h) tt
events_filled N B M first n m f e (inr h) = subst (ForLists N B M (EventsFull first m)) (sym h.0) (subst (EventsFull first) e h.1)

-- the line that was given to be read is the line at its place
pub line_at_lem : (text : List ℕ) (i p : ℕ) (rest line : List ℕ) → rest ≡ drop i text → p ≡ place_of 10 rest → line ≡ take (i + p - i) rest → line ≡ line_at text i
line_at_lem text i p rest line r e f =
    let n : i + p - i ≡ place_of 10 rest = omega (arith, e) in
    f ∙ ap (λ m. take m rest) n ∙ ap (λ t. take (place_of 10 t) t) r

-- the line at a place of a text, and those behind it
pub record LineHere (text line : List ℕ) (rest : List (List ℕ)) (start : ℕ) : Type 0 where
  pub inside : start < length text
  pub is : line ≡ line_at text start
  pub len : length line ≡ place_of 10 (drop start text)
  pub within : start + length line ≤ length text
  pub later : rest ≡ lines_of (drop (start + length line + 1) text)

pub line_here : (text line : List ℕ) (rest : List (List ℕ)) (start : ℕ) → lines_of (drop start text) ≡ line ∷ rest → LineHere text line rest start
line_here text line rest start e =
    let d = drop start text in
    let b = line_begun d line rest e in
    let w = place_within 10 d in
    let len : length line ≡ place_of 10 d = ap length b.is ∙ length-take-le (place_of 10 d) d w in
    record {
      inside = omega (arith, b.some, length-drop start text);
      is = b.is;
      len = len;
      within = omega (arith, b.some, len, w, length-drop start text);
      later = b.later ∙ ap lines_of (ap (drop 1) (drop-drop (place_of 10 d) start text) ∙ drop-drop 1 (start + place_of 10 d) text ∙ ap (λ n. drop n text) (omega (arith, len)));
    }
