-- A look-up tells whether an entry of the list has the path and stands.
use Rattle.std.proofs.Common.{◌≡◌, ℕ, Bool, true, false, cond, not, ◌||◌, ◌⊎◌, List, [], ◌∷◌, Some, Err, find, sym, refl, ap, ◌∙◌, inl, inr, arith}
use Rattle.std.specs.Option.{option_map_or}
use Rattle.std.specs.Str.{bytes_eq}
use Rattle.std.proofs.lemmas.Bool.{cases_Bool, both_ways, and_parts, not-true}
use Rattle.std.proofs.lemmas.Slice.Eq.{bytes_eq-Decides}
use Rattle.events.specs.declared.score.Piece.{Piece}
use Rattle.catalogue.specs.declared.answers.Found.{Found}
use Rattle.catalogue.specs.declared.answers.Unresolved.TheVariants.{Withdrawn, Unknown}
use Rattle.catalogue.specs.Entries.{Entry, found, has_path, look_up, answer, known, distinct}
use Rattle.catalogue.specs.Laws.{Among, Lacks, Has, Stands, LookUpTellsTheList}

-- what an answer says of the entry that gave it
found_stands : (s : Bool) (a n : ℕ) (b x : Piece) → cond s (found a b) (Err Withdrawn) ≡ found n x → (s ≡ true) × (a ≡ n) × (b ≡ x)
found_stands true a n b x h =
    let same : ◌≡◌ {A = Found} (record { number = a; piece = b }) (record { number = n; piece = x }) = cc in
    (refl, ap (λ f. f.number) same, ap (λ f. f.piece) same)
found_stands false a n b x h = let z : ◌≡◌ {A = ℕ} 0 1 = cc in absurd (omega arith)

withdrawn_stands_not : (s : Bool) (a : ℕ) (b : Piece) → cond s (found a b) (Err Withdrawn) ≡ Err Withdrawn → s ≡ false
withdrawn_stands_not true a b h = let z : ◌≡◌ {A = ℕ} 0 1 = cc in absurd (omega arith)
withdrawn_stands_not false a b h = refl

never_unknown : (s : Bool) (a : ℕ) (b : Piece) → cond s (found a b) (Err Withdrawn) ≡ Err Unknown → ⊥
never_unknown true a b h = let z : ◌≡◌ {A = ℕ} 0 1 = cc in omega arith
never_unknown false a b h = let z : ◌≡◌ {A = ℕ} 0 1 = cc in omega arith

-- an entry of the list makes its path known
pub known_among : (es : List Entry) (e : Entry) (p : List ℕ) → Among es e → e.path ≡ p → known es p ≡ true
known_among [] e p m h = absurd m
known_among (x ∷ es) e p (inl q) h = ap (λ b. b || known es p) ((bytes_eq-Decides x.path p).1 (ap (λ y. y.path) (sym q) ∙ h))
known_among (x ∷ es) e p (inr m) h =
    elim (cases_Bool (bytes_eq x.path p)) [
      | inl t ↦ ap (λ b. b || known es p) t
      | inr f ↦ ap (λ b. b || known es p) f ∙ known_among es e p m h
    ]

-- the one entry of a path answers for it
pub look_up_among : (es : List Entry) (e : Entry) (p : List ℕ) → distinct es ≡ true → Among es e → e.path ≡ p → look_up es p ≡ answer e
look_up_among [] e p d m h = absurd m
look_up_among (x ∷ es) e p d (inl q) h =
    ap (λ b. option_map_or answer (cond b (Some x) (find (has_path p) es)) (Err Unknown)) ((bytes_eq-Decides x.path p).1 (ap (λ y. y.path) (sym q) ∙ h)) ∙ ap answer (sym q)
look_up_among (x ∷ es) e p d (inr m) h =
    let parts = and_parts (not (known es x.path)) (distinct es) d in
    elim (cases_Bool (bytes_eq x.path p)) [
      | inl t ↦ absurd (both_ways (known es x.path) (not-true (known es x.path) parts.0) (known_among es e x.path m (h ∙ sym ((bytes_eq-Decides x.path p).0 t))))
      | inr f ↦ ap (λ b. option_map_or answer (cond b (Some x) (find (has_path p) es)) (Err Unknown)) f ∙ look_up_among es e p parts.1 m h
    ]

-- either no entry has the path, or one of them answers
pub look_up_either : (es : List Entry) (p : List ℕ) → ((look_up es p ≡ Err Unknown) × Lacks es p) ⊎ ((e : Entry) × (Among es e × (e.path ≡ p) × (look_up es p ≡ answer e)))
look_up_either [] p = inl (refl, λ e m h. m)
look_up_either (x ∷ es) p =
    elim (cases_Bool (bytes_eq x.path p)) [
      | inl t ↦ inr (x, (inl refl, (bytes_eq-Decides x.path p).0 t, ap (λ b. option_map_or answer (cond b (Some x) (find (has_path p) es)) (Err Unknown)) t))
      | inr f ↦
          let on = ap (λ b. option_map_or answer (cond b (Some x) (find (has_path p) es)) (Err Unknown)) f in
          elim (look_up_either es p) [
            | inl none ↦ inl (
              on ∙ none.0,
              λ e m h. elim m [
                | inl q ↦ both_ways (bytes_eq x.path p) f ((bytes_eq-Decides x.path p).1 (ap (λ y. y.path) (sym q) ∙ h))
                | inr k ↦ none.1 e k h
              ],
            )
            | inr some ↦ inr (some.0, (inr some.1.0, some.1.1, on ∙ some.1.2))
          ]
    ]

module _ (es : List Entry) (p : List ℕ) (d : distinct es ≡ true) where
  found_forth : (n : ℕ) (x : Piece) → look_up es p ≡ found n x → Stands es p n x
  found_forth n x h =
      elim (look_up_either es p) [
        | inl none ↦ (let z : ◌≡◌ {A = ℕ} 0 1 = cc (sym none.0 ∙ h) in absurd (omega arith))
        | inr some ↦
            let e = some.0 in
            let s = found_stands e.stands e.number n e.piece x (sym some.1.2 ∙ h) in
            (e, (some.1.0, some.1.1, s.0, s.1, s.2))
      ]

  found_back : (n : ℕ) (x : Piece) → Stands es p n x → look_up es p ≡ found n x
  found_back n x (e, (m, h, s, a, b)) =
      look_up_among es e p d m h ∙ ap (λ t. cond t (found e.number e.piece) (Err Withdrawn)) s ∙ ap (λ k. found k e.piece) a ∙ ap (λ y. found n y) b

  gone_forth : look_up es p ≡ Err Withdrawn → Has es p false
  gone_forth h =
      elim (look_up_either es p) [
        | inl none ↦ (let z : ◌≡◌ {A = ℕ} 0 1 = cc (sym none.0 ∙ h) in absurd (omega arith))
        | inr some ↦
            let e = some.0 in
            (e, (some.1.0, some.1.1, withdrawn_stands_not e.stands e.number e.piece (sym some.1.2 ∙ h)))
      ]

  gone_back : Has es p false → look_up es p ≡ Err Withdrawn
  gone_back (e, (m, h, s)) = look_up_among es e p d m h ∙ ap (λ t. cond t (found e.number e.piece) (Err Withdrawn)) s

  unknown_forth : look_up es p ≡ Err Unknown → Lacks es p
  unknown_forth h e m q = never_unknown e.stands e.number e.piece (sym (look_up_among es e p d m q) ∙ h)

  unknown_back : Lacks es p → look_up es p ≡ Err Unknown
  unknown_back lacks =
      elim (look_up_either es p) [
        | inl none ↦ none.0
        | inr some ↦ absurd (lacks some.0 some.1.0 some.1.1)
      ]

pub look_up_tells_the_list : LookUpTellsTheList
look_up_tells_the_list es l p =
    let d = l.paths_distinct in
    record {
      found = λ n x. (found_forth es p d n x, found_back es p d n x);
      gone = (gone_forth es p d, gone_back es p d);
      unknown = (unknown_forth es p d, unknown_back es p d);
    }
