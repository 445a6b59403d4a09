use Rattle.std.proofs.Common.{◌≡◌, ◌+◌, ◌≤◌, cond, eqb, [], ◌∷◌, length, drop, sym, refl, ap, ◌∙◌, arith}
use Rattle.catalogue.specs.Entries.{standing}
use Rattle.catalogue.proofs.Withdrawing.{from_bool_is, from_bool_at_most_1, withdrawing_touches_only_its_number}
use Rattle.binder.specs.Binding.{flagged, flags_after}
use Rattle.binder.specs.Entries.{count_of, listed}
use Rattle.binder.specs.Left.{entries_left}
use Rattle.binder.proofs.Flags.{length_after, struck, flagged_struck, stood_at, standing_more}
use Rattle.binder.proofs.Good.{length_walk}
use Rattle.binder.proofs.Meant.{lawful_reflagged}
use Rattle.binder.proofs.state.calls.BinderCatalogue.withdraw.Goals as goal

pub loop-i-init : goal.loop-i-init
loop-i-init c =
    let m = c.args.number in
    let bs = c.args.self.now.bytes.now in
    let fs = c.args.self.now.flags.withdrawn in
    let it = c.into_iter-i-iterator.result in
    let same = c.into_iter-i-iterator.ensures.into_iter_gives in
    let left : entries_left it.iter ≡ listed bs = ap (λ e. entries_left e.iter) same ∙ ap entries_left c.enumerate-i-items.ensures.source ∙ c.of.ensures.are_all in
    let none_yet : it.count ≡ 0 = ap (λ e. e.count) same ∙ c.enumerate-i-items.ensures.count in
    let counted : standing m (flagged it.count fs (entries_left it.iter)) ≡ standing m (flagged 0 fs (listed bs)) = λ j. standing m (flagged (none_yet j) fs (left j)) in
    record {
      strikes = λ j. struck m (left j) (none_yet j) fs;
      counts = omega arith;
      few = omega arith;
      within = omega (arith, ap length left, length_walk (count_of bs) (drop 7 bs), c.args.self.now.at_most_256);
      same_bytes = refl;
    }

pub withdraw_if-requires : goal.withdraw_if-requires
withdraw_if-requires c = omega (arith, ap length c.in-Some.ensures.steps.0, c.in-Some.ensures.steps.1, c.loop-i.invariant.within)

pub invariant_of-self : goal.invariant_of-self
invariant_of-self c =
    let was = c.loop-i.self in
    let fs = was.flags.withdrawn in
    record {
      a_flag_for_each = ap length c.withdraw_if.ensures.flags ∙ length_after _ c.in-Some.i fs ∙ was.a_flag_for_each;
      at_most_256 = was.at_most_256;
      good = was.good;
      lawful = lawful_reflagged fs c.withdraw_if.new.self.withdrawn (listed was.bytes.now) was.lawful;
    }

pub loop-i-preserved : goal.loop-i-preserved
loop-i-preserved c =
    let m = c.args.number in
    let fs = c.loop-i.self.flags.withdrawn in
    let i = c.loop-i.i-iterator.count in
    let e = c.in-Some.entry in
    let es = entries_left c.next.new.self.iter in
    let more : entries_left c.loop-i.i-iterator.iter ≡ e ∷ es = c.in-Some.ensures.steps.0 in
    let here : c.in-Some.i ≡ i = c.in-Some.ensures.steps.1 in
    let next : c.next.new.self.count ≡ i + 1 = c.in-Some.ensures.steps.2 in
    let meant : eqb c.number.result m ≡ eqb e.number m = ap (λ k. eqb k m) c.number.ensures in
    let flags : c.withdraw_if.new.self.withdrawn ≡ flags_after (eqb e.number m) i fs = c.withdraw_if.ensures.flags ∙ (λ j. flags_after (meant j) (here j) fs) in
    let one : c.from-stood.result ≡ stood_at (eqb e.number m) i fs = c.from-stood.ensures ∙ from_bool_is c.withdraw_if.result ∙ ap (λ b. cond b 1 0) c.withdraw_if.ensures.stood ∙ (λ j. stood_at (meant j) (here j) fs) in
    let counted : standing m (flagged c.next.new.self.count c.withdraw_if.new.self.withdrawn es) ≡ standing m (flagged (i + 1) (flags_after (eqb e.number m) i fs) es) = λ j. standing m (flagged (next j) (flags j) es) in
    let before : standing m (flagged i fs (entries_left c.loop-i.i-iterator.iter)) ≡ stood_at (eqb e.number m) i fs + standing m (flagged (i + 1) (flags_after (eqb e.number m) i fs) es) = ap (λ xs. standing m (flagged i fs xs)) more ∙ standing_more m i fs e es in
    record {
      strikes = (λ j. struck m es (next j) (flags j)) ∙ sym (ap (λ xs. struck m xs i fs) more) ∙ c.loop-i.invariant.strikes;
      counts = omega (arith, counted, before, one, c.loop-i.invariant.counts);
      few = omega (arith, from_bool_at_most_1 c.withdraw_if.result, c.loop-i.invariant.few);
      within = omega (arith, ap length more, c.loop-i.invariant.within);
      same_bytes = c.loop-i.invariant.same_bytes;
    }

pub returns : goal.returns
returns c =
    let m = c.args.number in
    let bs = c.args.self.now.bytes.now in
    let was = c.args.self.now.flags.withdrawn in
    let fs = c.loop-i.self.flags.withdrawn in
    let i = c.loop-i.i-iterator.count in
    let end : entries_left c.loop-i.i-iterator.iter ≡ [] = c.in-None.ensures.steps.0.0 in
    let none : standing m (flagged i fs (entries_left c.loop-i.i-iterator.iter)) ≡ 0 = ap (λ es. standing m (flagged i fs es)) end in
    let flags : fs ≡ struck m (listed bs) 0 was = sym (ap (λ es. struck m es i fs) end) ∙ c.loop-i.invariant.strikes in
    let fit : 0 + length (listed bs) ≤ length was = omega (arith, length_walk (count_of bs) (drop 7 bs), c.args.self.now.at_most_256, c.args.self.now.a_flag_for_each) in
    record {
      withdraw_counts_what_stood = omega (arith, none, c.loop-i.invariant.counts);
      withdraws_the_entries = (λ j. flagged 0 (flags j) (listed (c.loop-i.invariant.same_bytes j))) ∙ flagged_struck m (listed bs) 0 was fit;
      touches_only_its_number = withdrawing_touches_only_its_number;
    }
