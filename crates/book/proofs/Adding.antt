-- A score that is added, and the lines of a text one by one.
use Rattle.std.proofs.Common.{◌≡◌, ℕ, ◌+◌, ◌<◌, ◌≤◌, Bool, true, false, cond, leb, List, [], ◌∷◌, ◌++◌, length, Some, Ok, Err, Result, ap, ◌∙◌}
use Rattle.std.specs.List.{list_any}
use Rattle.std.proofs.lemmas.Bool.{le-leb, lt-leb}
use Rattle.book.specs.declared.faults.BookFault.{BookFault}
use Rattle.book.specs.declared.faults.BookFault.TheVariants.{RepeatedPath, TooManyScores}
use Rattle.book.specs.Said.{SaidDraft, SaidScore}
use Rattle.book.specs.Lookups.{path_is}
use Rattle.book.specs.Books.{add_score, add_line, add_lines, onward, with_scores}

abbrev with_score_by : Bool → Bool → SaidScore → SaidDraft → Result SaidDraft BookFault
with_score_by p q s d = with_scores (cond p (Err RepeatedPath) (cond q (Err TooManyScores) (Ok (d.scores ++ (s ∷ []))))) d

added_by : (p q : Bool) (s : SaidScore) (d : SaidDraft) → list_any (path_is s.path) d.scores ≡ p → leb 256 (length d.scores) ≡ q → add_score s d ≡ with_score_by p q s d
added_by p q s d e h = ap (λ b. with_score_by b (leb 256 (length d.scores)) s d) e ∙ ap (λ b. with_score_by p b s d) h

pub score_too_many : (s : SaidScore) (d : SaidDraft) → list_any (path_is s.path) d.scores ≡ false → 256 ≤ length d.scores → add_score s d ≡ Err TooManyScores
score_too_many s d e h = added_by false true s d e (le-leb 256 (length d.scores) h)

pub score_added : (s : SaidScore) (d : SaidDraft) → list_any (path_is s.path) d.scores ≡ false → length d.scores < 256 → add_score s d ≡ Ok (record { main = d.main; scores = d.scores ++ (s ∷ []); withdrawn = d.withdrawn })
score_added s d e h = added_by false false s d e (lt-leb 256 (length d.scores) h)

-- the first of some lines adds to a draft, or is at fault
pub line_added : (n : ℕ) (text : List ℕ) (texts lines : List (List ℕ)) (d e : SaidDraft) → lines ≡ text ∷ texts → add_line n text d ≡ Ok e → add_lines n lines d ≡ add_lines (n + 1) texts e
line_added n text texts lines d e is a = ap (λ l. add_lines n l d) is ∙ ap (λ r. onward n r (λ x. add_lines (n + 1) texts x)) a

pub line_refused : (n : ℕ) (text : List ℕ) (texts lines : List (List ℕ)) (d : SaidDraft) (f : BookFault) → lines ≡ text ∷ texts → add_line n text d ≡ Err f → add_lines n lines d ≡ Err (record { line = Some n; fault = f })
line_refused n text texts lines d f is a = ap (λ l. add_lines n l d) is ∙ ap (λ r. onward n r (λ x. add_lines (n + 1) texts x)) a
