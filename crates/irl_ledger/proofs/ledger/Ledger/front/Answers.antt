use Rattle.std.proofs.Common.{◌≡◌, ◌∙◌, ◌++◌, ◌<◌, ◌∷◌, [], ℕ, List, add-one, length, map, take, get_or, IsErrOf, true, ap, sym, subst, rules, arith}
use Rattle.std.proofs.Math.Seq.{take-suc}
use Rattle.std.proofs.lemmas.List.{map-append}
use Rattle.std.specs.List.{AllByRecursion}
use Rattle.irl_base.specs.declared.fault.Fault.TheVariants.{Failed}
use Rattle.irl_events.specs.Events.{has_number}
use Rattle.irl_key.specs.declared.web.Work.{Work}
use Rattle.irl_disk.proofs.Effects.{reads_for, reads_then}
use Rattle.irl_bay.specs.JudgedSpoilt.{IsJudgedFile}
use Rattle.irl_ledger.specs.Passing.{IsWorkOf}
use Rattle.irl_ledger.proofs.Fronts.{first_front}
use Rattle.irl_ledger.proofs.Reading.{held_later, refused_later}
use Rattle.irl_ledger.proofs.ledger.Ledger.front.Goals as goal

pub work-requires-clause-within : goal.work-requires-clause-within
work-requires-clause-within g c =
    let front = c.args.self.now.frontier.progress.front in
    let numbers = c.in_ok-numbers.numbers.items in
    let items = c.deref-number-items.result.now in
    let same : items ≡ numbers = c.deref-number-items.ensures.value in
    let within : c.loop-number.number-index < length numbers = omega (arith, c.loop-number-test.true, ap (λ (ns : List ℕ). length ns) same) in
    let has : has_number front (get_or numbers c.loop-number.number-index 0) ≡ true = first_front front c.args.most numbers c.loop-number.number-index 0 c.in_ok-numbers.ensures within in
    let n : get_or items c.loop-number.number-index 0 ≡ get_or numbers c.loop-number.number-index 0 = ap (λ (ns : List ℕ). get_or ns c.loop-number.number-index 0) same in
    omega (arith, n, c.front_was_read.ensures.front (get_or numbers c.loop-number.number-index 0) has, c.requires.read)

pub work-requires-clause-long : goal.work-requires-clause-long
work-requires-clause-long g c = λ files told. c.requires.long files (sym c.loop-number.invariant.reads.same ∙ told)

pub returns-in_err-work-clause-reads : goal.returns-in_err-work-clause-reads
returns-in_err-work-clause-reads g c =
    let law = g.met.S.Store.is_consistent in
    refused_later c.work.result c.from_residual-in_err-work.result _ _ c.args.urls.now (g.S.Store.told c.args.store.now) (g.S.Store.told c.loop-number.store) (g.S.Store.told c.work.new.store)
    c.is_sound-is_drum.ensures.drum (law c.loop-number.store) (search rules) (λ e is. search rules) c.loop-number.invariant.reads c.work.ensures.reads

all_one : (P : Work → Type 0) (works : List Work) (work : Work) → AllByRecursion P works → P work → AllByRecursion P (works ++ work ∷ [])
all_one P [] work all one = (one, tt)
all_one P (w ∷ works) work all one = (all.0, all_one P works work all.1 one)

pub loop-number-preserved : goal.loop-number-preserved
loop-number-preserved g c =
    let law = g.met.S.Store.is_consistent in
    let tells = g.S.Store.told in
    let urls = c.args.urls.now in
    let was = c.loop-number.invariant in
    let works = c.loop-number.works.items in
    let work = c.in_ok-work.work in
    let items = c.deref-number-items.result.now in
    let index = c.loop-number.number-index in
    let number : Work → ℕ = λ w. w.number in
    let more : c.push_reserved.new.self.items ≡ works ++ work ∷ [] = search rules in
    let one : work.number ≡ get_or items index 0 = search rules in
    record {
      numbers = ap (map number) more ∙ map-append number works (work ∷ []) ∙ ap (λ (ns : List ℕ). ns ++ work.number ∷ []) was.numbers
          ∙ ap (λ (n : ℕ). take index items ++ n ∷ []) one ∙ sym (ap (λ (m : ℕ). take m items) (add-one index) ∙ take-suc items index 0 c.loop-number-test.true);
      count = search rules;
      room = search rules;
      reads = reads_then (IsJudgedFile urls) ⊥ ⊥ (tells c.args.store.now) (tells c.loop-number.store) (tells c.work.new.store) (law c.loop-number.store) was.reads
          (reads_for (IsJudgedFile urls) (IsErrOf c.work.result Failed) ⊥ (tells c.loop-number.store) (tells c.work.new.store) (λ no. absurd no) c.work.ensures.reads.reads);
      found = λ files told book holds.
          let later = held_later (tells c.args.store.now) (tells c.loop-number.store) urls book c.is_sound-is_drum.ensures.drum (law c.loop-number.store) was.reads.stops holds in
          subst (AllByRecursion (IsWorkOf book)) (sym more)
          (all_one (IsWorkOf book) works work (was.found files told book holds) (c.in_ok-work.ensures.reads.value files (was.reads.same ∙ told) book later));
    }
