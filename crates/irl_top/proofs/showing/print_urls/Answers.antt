use Rattle.std.proofs.Common.{◌≡◌, ◌-◌, ◌+◌, refl, sym, subst, arith, take, drop, List, ℕ}
use Rattle.std.specs.Prelude.{Result, Ok, Err, IsErrOf}
use Rattle.irl_base.specs.declared.fault.Fault.{Fault}
use Rattle.irl_base.specs.declared.fault.Fault.TheVariants.{Failed}
use Rattle.irl_offer.specs.declared.receipt.Judged.{Judged}
use Rattle.irl_model.specs.Book.{Book, gone, judged}
use Rattle.irl_disk.specs.Effects.{OnlyReads}
use Rattle.irl_disk.specs.Images.{Told}
use Rattle.irl_disk.proofs.Effects.{reads_for}
use Rattle.irl_bay.specs.JudgedSpoilt.{IsJudgedFile}
use Rattle.irl_top.specs.Message.{ending_of_store}
use Rattle.irl_top.specs.Outside.{stream}
use Rattle.irl_top.specs.Listing.{PrintsFirst}
use Rattle.irl_top.proofs.Calls.{err_is}
use Rattle.irl_top.proofs.Listed.{prints_all, prints_more, prints_none, prints_refused, prints_stopped}
use Rattle.irl_top.proofs.showing.print_urls.Goals as goal

-- what is found from a number on
abbrev gives : ℕ → List Judged → Book → Type 0
gives number found book = found ≡ take 2048 (drop (number - gone book) (judged book))

-- a read that didn't fail
still : (r : Result (List Judged) Fault) (found : List Judged) (among : ℕ → Type 0) (old new : Told) → r ≡ Ok found → OnlyReads among (IsErrOf r Failed) old new → OnlyReads among ⊥ old new
still r found among old new is reads = reads_for among (IsErrOf r Failed) ⊥ old new (λ no. absurd no) reads

pub loop-number-init : goal.loop-number-init
loop-number-init g c = record {
  sound = c.requires.sound;
  prints = prints_none c.args.yard.now.parts (g.S.Store.told c.args.yard.now.store) (stream g.O.Sink.written g.O.Sink.faults c.args.output.now) (g.met.S.Store.is_consistent c.args.yard.now.store);
}

pub returns-in_err-judged : goal.returns-in_err-judged
returns-in_err-judged g c =
    let told = g.S.Store.told in
    let tells = stream g.O.Sink.written g.O.Sink.faults in
    let was = c.args.yard.now in
    let mid = c.loop-number.yard in
    let now = c.judged_from.new.self in
    let fault = c.in_err-judged.field-0.0 in
    let h = c.in_err-judged.ensures in
    prints_refused c.loop-number.number was.parts mid.parts now.parts (told was.store) (told mid.store) (told now.store) (tells c.args.output.now) (tells c.loop-number.output) (Err fault)
    (gives c.loop-number.number) fault c.from_residual.result (g.met.S.Store.is_consistent mid.store) c.loop-number.invariant.prints refl (record { bay = h.reads; state = h.states })
    (err_is c.from_residual.result (ending_of_store fault) c.from_residual.ensures.1)

pub returns-in_err-print_part : goal.returns-in_err-print_part
returns-in_err-print_part g c =
    let told = g.S.Store.told in
    let tells = stream g.O.Sink.written g.O.Sink.faults in
    let was = c.args.yard.now in
    let mid = c.loop-number.yard in
    let now = c.judged_from.new.self in
    let h = c.in_ok-judged.ensures in
    let found = c.in_ok-judged.judged in
    let ending = c.in_err-print_part.field-0.0 in
    prints_stopped c.loop-number.number 2048 found was.parts mid.parts now.parts (told was.store) (told mid.store) (told now.store) (tells c.args.output.now) (tells c.loop-number.output)
    (tells c.print_part.new.output) (Err ending) c.from_residual-in_err-print_part.result ending (g.met.S.Store.is_consistent mid.store) c.loop-number.invariant.prints
    (record { is = h.states.value; count = h.count; within = omega (arith, c.loop-number-test.true, c.judged_len.ensures.value) }) h.states.holds h.states.same
    (reads_for (IsJudgedFile mid.parts.urls) _ ⊥ (told mid.store) (told now.store) (λ no. absurd no) h.reads.reads) refl c.in_err-print_part.ensures
    (err_is c.from_residual-in_err-print_part.result ending c.from_residual-in_err-print_part.ensures.1)

pub loop-number-preserved : goal.loop-number-preserved
loop-number-preserved g c =
    let told = g.S.Store.told in
    let tells = stream g.O.Sink.written g.O.Sink.faults in
    let was = c.args.yard.now in
    let mid = c.loop-number.yard in
    let now = c.judged_from.new.self in
    let h = c.in_ok-judged.ensures in
    let found = c.in_ok-judged.judged in
    record {
      sound = h.goes_on.sound (λ e. cc);
      prints = subst
          (λ (n : ℕ). PrintsFirst (c.loop-number.number + n) was.parts now.parts (told was.store) (told now.store) (tells c.args.output.now) (tells c.print_part.new.output))
          (sym c.len.ensures)
          (prints_more c.loop-number.number 2048 found was.parts mid.parts now.parts (told was.store) (told mid.store) (told now.store) (tells c.args.output.now) (tells c.loop-number.output)
          (tells c.print_part.new.output) (Ok tt) (g.met.S.Store.is_consistent mid.store) c.loop-number.invariant.prints
          (record { is = h.states.value; count = h.count; within = omega (arith, c.loop-number-test.true, c.judged_len.ensures.value) }) h.states.holds h.states.same
          (reads_for (IsJudgedFile mid.parts.urls) _ ⊥ (told mid.store) (told now.store) (λ no. absurd no) h.reads.reads) c.in_ok-print_part.ensures);
    }

pub returns : goal.returns
returns g c =
    let told = g.S.Store.told in
    let tells = stream g.O.Sink.written g.O.Sink.faults in
    let was = c.args.yard.now in
    let now = c.loop-number.yard in
    prints_all c.loop-number.number was.parts now.parts (told was.store) (told now.store) (tells c.args.output.now) (tells c.loop-number.output) (Ok tt) c.loop-number.invariant.prints
    (omega (arith, c.loop-number-test.false, c.judged_len.ensures.value)) refl
