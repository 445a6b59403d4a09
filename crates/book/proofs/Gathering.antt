-- A book has the entries of its lines.
use Rattle.std.proofs.Common.{◌≡◌, ℕ, ◌+◌, Bool, true, false, cond, ◌&&◌, leb, ◌⊎◌, List, [], ◌∷◌, ◌++◌, length, is_some, is_ok, IfOk, Some, None, Ok, Err, Option, Result, sym, refl, ap, ◌∙◌, inr, append_assoc, MatchResult}
use Rattle.std.specs.Option.{option_to_list}
use Rattle.std.specs.List.{list_all, list_any}
use Rattle.std.proofs.lemmas.Bool.{false≢true}
use Rattle.std.proofs.lemmas.List.{append-nil}
use Rattle.book.specs.declared.contents.Book.{Book}
use Rattle.book.specs.declared.faults.BookFault.{BookFault}
use Rattle.book.specs.declared.faults.BookFault.TheVariants.{RepeatedPath, TooManyScores, SecondMain, OutOfMemory}
use Rattle.book.specs.declared.faults.BookError.{BookError}
use Rattle.book.specs.declared.lines.Withdrawal.{Withdrawal}
use Rattle.slices.specs.Lines.{lines_of}
use Rattle.book.specs.Words.{words_of}
use Rattle.book.specs.Said.{Said, SaidDraft, SaidEntry, SaidScore, empty_draft}
use Rattle.book.specs.Said.SaidEntry.{main, score, withdrawn}
use Rattle.book.specs.Lookups.{path_is, first_unknown}
use Rattle.book.specs.Entries.{entry_of}
use Rattle.book.specs.Books.{with_scores, add_read, add_line, add_lines, onward, finished_by, finished, book_by, book_of}
use Rattle.book.specs.BookView.{said}
use Rattle.book.specs.Laws.{is_read, mains_of, scores_of, withdrawn_at, mains_in, scores_in, withdrawn_in, HasEntries}

same_ok : {A E : Type 0} (x y : A) → ◌≡◌ {A = Result A E} (Ok x) (Ok y) → x ≡ y
same_ok x y p = cc

no_ok : {A E : Type 0} (e : E) (y : A) → ◌≡◌ {A = Result A E} (Err e) (Ok y) → ⊥
no_ok e y p = false≢true (ap is_ok p)

-- a draft with these entries behind those of another
abbrev Grows : List (List ℕ) → List SaidScore → List Withdrawal → SaidDraft → SaidDraft → Type 0
Grows ms ss ws d e = (option_to_list e.main ≡ option_to_list d.main ++ ms) × (e.scores ≡ d.scores ++ ss) × (e.withdrawn ≡ d.withdrawn ++ ws)

grows_none : (d e : SaidDraft) → ◌≡◌ {A = Result SaidDraft BookFault} (Ok d) (Ok e) → Grows [] [] [] d e
grows_none d e p =
    let q : e ≡ d = sym (same_ok d e p) in
    (ap (λ x. option_to_list x.main) q ∙ sym (append-nil (option_to_list d.main)), ap (λ x. x.scores) q ∙ sym (append-nil d.scores), ap (λ x. x.withdrawn) q ∙ sym (append-nil d.withdrawn))

longer : {A : Type 0} (x y z a b : List A) → y ≡ x ++ a → z ≡ y ++ b → z ≡ x ++ (a ++ b)
longer x y z a b p q = let h : (x ++ a) ++ b ≡ x ++ (a ++ b) = simp append_assoc in q ∙ (ap (λ l. l ++ b) p ∙ h)

grows_both : (ms ms' : List (List ℕ)) (ss ss' : List SaidScore) (ws ws' : List Withdrawal) (d m e : SaidDraft) → Grows ms ss ws d m → Grows ms' ss' ws' m e → Grows (ms ++ ms') (ss ++ ss') (ws ++ ws') d e
grows_both ms ms' ss ss' ws ws' d m e g h = (longer (option_to_list d.main) (option_to_list m.main) (option_to_list e.main) ms ms' g.0 h.0, longer d.scores m.scores e.scores ss ss' g.1 h.1, longer d.withdrawn m.withdrawn e.withdrawn ws ws' g.2 h.2)

main_grows : (o : Option (List ℕ)) (file : List ℕ) (ss : List SaidScore) (ws : List Withdrawal) (e : SaidDraft) → cond (is_some o) (Err SecondMain) (Ok (record { main = Some file; scores = ss; withdrawn = ws })) ≡ Ok e → (option_to_list e.main ≡ option_to_list o ++ (file ∷ [])) × (e.scores ≡ ss ++ []) × (e.withdrawn ≡ ws ++ [])
main_grows None file ss ws e p =
    let q = sym (same_ok (record { main = Some file; scores = ss; withdrawn = ws }) e p) in
    (ap (λ x. option_to_list x.main) q, ap (λ x. x.scores) q ∙ sym (append-nil ss), ap (λ x. x.withdrawn) q ∙ sym (append-nil ws))
main_grows (Some other) file ss ws e p = absurd (no_ok SecondMain e p)

score_grows : (t u : Bool) (s : SaidScore) (d e : SaidDraft) → with_scores (cond t (Err RepeatedPath) (cond u (Err TooManyScores) (Ok (d.scores ++ (s ∷ []))))) d ≡ Ok e → Grows [] (s ∷ []) [] d e
score_grows true u s d e p = absurd (no_ok RepeatedPath e p)
score_grows false true s d e p = absurd (no_ok TooManyScores e p)
score_grows false false s d e p =
    let q = sym (same_ok (record { main = d.main; scores = d.scores ++ (s ∷ []); withdrawn = d.withdrawn }) e p) in
    (ap (λ x. option_to_list x.main) q ∙ sym (append-nil (option_to_list d.main)), ap (λ x. x.scores) q, ap (λ x. x.withdrawn) q ∙ sym (append-nil d.withdrawn))

withdrawal_grows : (w : Withdrawal) (d e : SaidDraft) → ◌≡◌ {A = Result SaidDraft BookFault} (Ok (record { main = d.main; scores = d.scores; withdrawn = d.withdrawn ++ (w ∷ []) })) (Ok e) → Grows [] [] (w ∷ []) d e
withdrawal_grows w d e p =
    let q = sym (same_ok (record { main = d.main; scores = d.scores; withdrawn = d.withdrawn ++ (w ∷ []) }) e p) in
    (ap (λ x. option_to_list x.main) q ∙ sym (append-nil (option_to_list d.main)), ap (λ x. x.scores) q ∙ sym (append-nil d.scores), ap (λ x. x.withdrawn) q)

-- one line
line_grows : (n : ℕ) (r : Result (Option SaidEntry) BookFault) (d e : SaidDraft) → add_read n r d ≡ Ok e → Grows (mains_of r) (scores_of r) (withdrawn_at n r) d e
line_grows n (Err fault) d e p = absurd (no_ok fault e p)
line_grows n (Ok None) d e p = grows_none d e p
line_grows n (Ok (Some (main file))) d e p = main_grows d.main file d.scores d.withdrawn e p
line_grows n (Ok (Some (score s))) d e p = score_grows (list_any (path_is s.path) d.scores) (leb 256 (length d.scores)) s d e p
line_grows n (Ok (Some (withdrawn number))) d e p = withdrawal_grows (record { number = number; line = n }) d e p

line_read : (n : ℕ) (r : Result (Option SaidEntry) BookFault) (d e : SaidDraft) → add_read n r d ≡ Ok e → is_ok r ≡ true
line_read n (Err fault) d e p = absurd (no_ok fault e p)
line_read n (Ok None) d e p = refl
line_read n (Ok (Some entry)) d e p = refl

-- all lines
abbrev Gathers : ℕ → List (List ℕ) → SaidDraft → SaidDraft → Type 0
Gathers n ls d e = (list_all is_read ls ≡ true) × Grows (mains_in ls) (scores_in ls) (withdrawn_in n ls) d e

gathers_more : (n : ℕ) (l : List ℕ) (ls : List (List ℕ)) (d e : SaidDraft) (r : Result SaidDraft BookFault) → add_line n l d ≡ r → onward n r (λ x. add_lines (n + 1) ls x) ≡ Ok e → ((m : SaidDraft) → add_lines (n + 1) ls m ≡ Ok e → Gathers (n + 1) ls m e) → Gathers n (l ∷ ls) d e
gathers_more n l ls d e (Err fault) a p ih = absurd (no_ok (record { line = Some n; fault = fault }) e p)
gathers_more n l ls d e (Ok m) a p ih =
    let entry = entry_of (words_of l) in
    (ap (λ t. t && list_all is_read ls) (line_read n entry d m a) ∙ (ih m p).0, grows_both (mains_of entry) (mains_in ls) (scores_of entry) (scores_in ls) (withdrawn_at n entry) (withdrawn_in (n + 1) ls) d m e (line_grows n entry d m a) (ih m p).1)

gathers : (n : ℕ) (ls : List (List ℕ)) (d e : SaidDraft) → add_lines n ls d ≡ Ok e → Gathers n ls d e
gathers n [] d e p = (refl, grows_none d e (ap Ok (same_ok d e p)))
gathers n (l ∷ ls) d e p = gathers_more n l ls d e (add_line n l d) refl p (λ m. gathers (n + 1) ls m e)

finished_has : (o : Option ℕ) (file : Option (List ℕ)) (d : SaidDraft) (b : Said) → finished_by o file d ≡ Ok b → (option_to_list file ≡ b.main ∷ []) × (d.scores ≡ b.scores) × (d.withdrawn ≡ b.withdrawn)
finished_has (Some line) file d b p = absurd (no_ok _ b p)
finished_has None None d b p = absurd (no_ok _ b p)
finished_has None (Some file) d b p =
    let q = same_ok (record { main = file; scores = d.scores; withdrawn = d.withdrawn }) b p in
    (ap (λ x. x.main ∷ []) q, ap (λ x. x.scores) q, ap (λ x. x.withdrawn) q)

has_by : (lines : List (List ℕ)) (r : Result SaidDraft BookError) (b : Said) → add_lines 1 lines empty_draft ≡ r → book_by r ≡ Ok b → HasEntries lines b
has_by lines (Err error) b a p = absurd (no_ok error b p)
has_by lines (Ok d) b a p =
    let g = gathers 1 lines empty_draft d a in
    let f = finished_has (first_unknown d.scores d.withdrawn) d.main d b p in
    record {
      each_is_read = g.0;
      one_main = sym g.1.0 ∙ f.0;
      its_scores = sym g.1.1 ∙ f.1;
      its_withdrawn = sym g.1.2 ∙ f.2;
    }

pub book_has_entries : (text : List ℕ) (r : Result Book BookError) (Q : BookError → Type 0) → MatchResult r (λ b. book_of text ≡ Ok (said b)) Q → IfOk r (λ b. HasEntries (lines_of text) (said b))
book_has_entries text (Ok b) Q p = has_by (lines_of text) (add_lines 1 (lines_of text) empty_draft) (said b) refl p
book_has_entries text (Err error) Q p = tt

-- a draft of all lines, finished
pub book_made : (text : List ℕ) (d e : SaidDraft) (r : Result Book BookError) → d ≡ empty_draft → add_lines 1 (lines_of text) d ≡ Ok e → MatchResult r (λ b. finished e ≡ Ok (said b)) (λ x. finished e ≡ Err x) → MatchResult r (λ b. book_of text ≡ Ok (said b)) (λ x. (x.fault ≡ OutOfMemory) ⊎ (book_of text ≡ Err x))
book_made text d e (Ok b) is a h = ap (λ y. book_by (add_lines 1 (lines_of text) y)) (sym is) ∙ (ap book_by a ∙ h)
book_made text d e (Err x) is a h = inr (ap (λ y. book_by (add_lines 1 (lines_of text) y)) (sym is) ∙ (ap book_by a ∙ h))
