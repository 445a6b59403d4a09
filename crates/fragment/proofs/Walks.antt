-- One turn of the walk, in terms of the whole run.
use Rattle.std.proofs.Common.{◌≡◌, ℕ, ◌+◌, ◌-◌, ◌<◌, ◌≤◌, true, false, List, length, get_or, set, sym, ap, ◌∙◌, arith}
use Rattle.std.proofs.lemmas.List.{set-set, set-get_or}
use Rattle.events.specs.declared.score.NodeRange.{NodeRange}
use Rattle.fragment.specs.declared.answers.FragmentError.{FragmentError}
use Rattle.fragment.specs.declared.source.Source.{Source}
use Rattle.fragment.specs.Ended.{Ended, went, refused, next}
use Rattle.fragment.specs.Slate.{opened}
use Rattle.fragment.specs.Unfolding.{Score, Work, alias_step, each, event_step, is_alias_at, named_at, range, run, shut}
use Rattle.fragment.specs.Readable.{Ranged}
use Rattle.fragment.specs.Sources.{score_in}
use Rattle.fragment.proofs.Steps.{alias_shut, shut_set, go, run_each, each_none, each_more, event_ended, alias_refused, alias_went}

-- what is left to do from place p gives what was to do from place first
abbrev pub Left : Score → List ℕ → ℕ → ℕ → ℕ → Work → ℕ → Work → Type 0
Left s slate d first end w₀ p w = each (go s slate d) first (end - first) w₀ ≡ each (go s slate d) p (end - p) w

module _ (s : Score) (slate : List ℕ) (d : ℕ) (r : NodeRange) (w₀ : Work) (p : ℕ) (w : Work) (inv : Left s slate d r.first (r.last + 1) w₀ p w) where
  pub at_end : r.last + 1 ≤ p → went w ≡ run s (shut slate) slate d r w₀
  at_end h =
      sym (run_each s (shut slate) slate d r w₀ ∙ inv ∙ each_none (go s slate d) p (r.last + 1 - p) w (omega arith))

  turn : p < r.last + 1 → (e : Ended Work) → e ≡ go s slate d p w → next e (each (go s slate d) (p + 1) (r.last + 1 - (p + 1))) ≡ each (go s slate d) p (r.last + 1 - p) w
  turn h e q =
      sym (each_more (go s slate d) p (r.last + 1) w h ∙ ap (λ z. next z (each (go s slate d) (p + 1) (r.last + 1 - (p + 1)))) (sym q))

  pub exits : p < r.last + 1 → (x : FragmentError) (v : Work) → refused x v ≡ go s slate d p w → refused x v ≡ run s (shut slate) slate d r w₀
  exits h x v q = turn h (refused x v) q ∙ sym (run_each s (shut slate) slate d r w₀ ∙ inv)

  pub goes_on : p < r.last + 1 → (v : Work) → went v ≡ go s slate d p w → Left s slate d r.first (r.last + 1) w₀ (p + 1) v
  goes_on h v q = inv ∙ sym (turn h (went v) q)

-- a number opened and put back leaves the slate as it was
pub put_back : (cur after : List ℕ) (i : ℕ) → get_or cur i 0 ≡ 0 → after ≡ set cur i 1 → set after i 0 ≡ cur
put_back cur after i z e =
    ap (λ t. set t i 0) e ∙ set-set cur i 1 0 ∙ ap (λ v. set cur i v) (sym z) ∙ set-get_or cur i 0

-- the same in the code's terms: the slate is as it was when the range opened
module _ (source : Source) (slate : List ℕ) (long : length slate ≡ 256) (d : ℕ) (r : NodeRange) (inside : r.last < length source.events.now) (w₀ : Work) (p : ℕ) (cur : List ℕ) (w : Work) (inv : (cur ≡ slate) × Left (score_in source) slate d r.first (r.last + 1) w₀ p w) (h : p < r.last + 1) where
  abbrev s : Score
  s = score_in source

  abbrev n : ℕ
  n = named_at s p

  pub exit_event : is_alias_at s p ≡ false → (x : FragmentError) (v : Work) → refused x v ≡ event_step s d p w → refused x v ≡ run s (shut slate) slate d r w₀
  exit_event k x v q = exits s slate d r w₀ p w inv.1 h x v (event_ended s slate d p w (refused x v) k q)

  pub on_event : is_alias_at s p ≡ false → (v v' : Work) → went v ≡ event_step s d p w → v ≡ v' → Left s slate d r.first (r.last + 1) w₀ (p + 1) v'
  on_event k v v' q e = goes_on s slate d r w₀ p w inv.1 h v' (ap went (sym e) ∙ event_ended s slate d p w (went v) k q)

  pub exit_alias : is_alias_at s p ≡ true → (x : FragmentError) (v : Work) → refused x v ≡ alias_step s cur d n w → refused x v ≡ run s (shut slate) slate d r w₀
  exit_alias k x v q =
      exits s slate d r w₀ p w inv.1 h x v (alias_refused s slate d p w v x k (q ∙ ap (λ z. alias_step s z d n w) inv.0))

  -- at an alias that passes the tests
  module _ (k : is_alias_at s p ≡ true) (v : Work) (q : went v ≡ alias_step s cur d n w) where
    ranged : Ranged source.events.now source.nodes n
    ranged = source.readable.aliases p (omega arith) k

    low : n - 1 < length cur
    low = omega (arith, ranged.least, ranged.most, ap length inv.0)

    closed : get_or cur (n - 1) 0 ≡ 0
    closed = alias_shut s cur d n w v q

    -- the range that it names may be walked
    pub may_walk : (t : ℕ) → shut slate ≡ t → d + shut slate ≤ 256 → (named : NodeRange) → named ≡ range s n → (shut (opened n cur) < t) × (named.last < length source.events.now) × (d + 1 + shut (opened n cur) ≤ 256)
    may_walk t m b named is =
        let o = shut_set cur (n - 1) low closed in
        let e = ap shut inv.0 in
        (omega arith, rw is ranged.closes, omega arith)

    -- and its number is closed again
    pub closes_again : (after : List ℕ) → after ≡ opened n cur → set after (n - 1) 0 ≡ slate
    closes_again after e = put_back cur after (n - 1) closed e ∙ inv.0

    -- it ended as e
    module _ (named : NodeRange) (is : named ≡ range s n) where
      ended_so : (e : Ended Work) → e ≡ run s (shut (opened n cur)) (opened n cur) (d + 1) named v → e ≡ go s slate d p w
      ended_so e g =
          let l : n - 1 < length slate = omega (arith, ap length inv.0, low) in
          let q' = q ∙ ap (λ z. alias_step s z d n w) inv.0 in
          let g' = g ∙ ap (λ z. run s (shut (opened n cur)) (opened n cur) (d + 1) z v) is ∙ ap (λ z. run s (shut (opened n z)) (opened n z) (d + 1) (range s n) v) inv.0 in
          alias_went s slate d p w v e k l q' g'

      pub exit_inner : (x : FragmentError) (u : Work) → refused x u ≡ run s (shut (opened n cur)) (opened n cur) (d + 1) named v → refused x u ≡ run s (shut slate) slate d r w₀
      exit_inner x u g = exits s slate d r w₀ p w inv.1 h x u (ended_so (refused x u) g)

      pub on_inner : (u u' : Work) → went u ≡ run s (shut (opened n cur)) (opened n cur) (d + 1) named v → u ≡ u' → Left s slate d r.first (r.last + 1) w₀ (p + 1) u'
      on_inner u u' g e = goes_on s slate d r w₀ p w inv.1 h u' (ap went (sym e) ∙ ended_so (went u) g)
