use Rattle.std.proofs.Common.{◌≡◌, ◌∙◌, ◌+◌, ◌-◌, ◌++◌, ◌≤◌, ℕ, List, length, take, drop, IsErrOf, ap, sym, rules, arith}
use Rattle.std.proofs.lemmas.List.{map-append}
use Rattle.irl_base.specs.declared.fault.Fault.TheVariants.{Failed}
use Rattle.irl_model.specs.Book.{gone, judged}
use Rattle.irl_events.specs.Legal.{are_rising}
use Rattle.irl_beast.specs.declared.item.Item.{Item}
use Rattle.irl_beast.specs.Passes.{item_numbers}
use Rattle.irl_disk.proofs.Effects.{reads_for, reads_then}
use Rattle.irl_bay.specs.JudgedSpoilt.{IsJudgedFile}
use Rattle.irl_ledger.specs.Crawling.{domain_of}
use Rattle.irl_ledger.specs.Passing.{items_from}
use Rattle.irl_ledger.proofs.FreshUrls.{pieces, rising_append, rising_to}
use Rattle.irl_ledger.proofs.Reading.{held_later, none_gone, refused_later}
use Rattle.irl_ledger.proofs.fresh.read_items.Goals as goal

pub add_piece-requires-clause-long : goal.add_piece-requires-clause-long
add_piece-requires-clause-long g c = λ files told. c.requires.long files (sym c.loop-at.invariant.reads.same ∙ told)

pub returns-in_err-at-clause-reads : goal.returns-in_err-at-clause-reads
returns-in_err-at-clause-reads g c =
    let law = g.met.S.Store.is_consistent in
    refused_later c.add_piece.result c.from_residual.result _ _ c.args.urls.now (g.S.Store.told c.args.store.now) (g.S.Store.told c.loop-at.store) (g.S.Store.told c.add_piece.new.store)
    c.is_sound-is_drum.ensures.drum (law c.loop-at.store) (search rules) (λ e is. search rules) c.loop-at.invariant.reads c.add_piece.ensures.reads

pub loop-at-preserved : goal.loop-at-preserved
loop-at-preserved g c =
    let law = g.met.S.Store.is_consistent in
    let tells = g.S.Store.told in
    let urls = c.args.urls.now in
    let domain = domain_of c.args.suffixes.now in
    let from = c.args.from in
    let at = c.loop-at.at in
    let end = c.in_ok-at.at in
    let was = c.loop-at.invariant in
    let items = c.loop-at.items.items in
    let more = c.in_ok-at.ensures.rising in
    record {
      behind = omega (arith, was.behind, c.in_ok-at.ensures.end.0);
      within = omega (arith, c.in_ok-at.ensures.end.1);
      rising = ap (λ (is : List Item). are_rising from end (item_numbers is)) more.1
          ∙ ap (λ (ns : List ℕ). are_rising from end ns) (map-append (λ (item : Item). item.number) items more.0)
          ∙ rising_append from at end (item_numbers items) (item_numbers more.0) was.behind (omega (arith, c.in_ok-at.ensures.end.0)) was.rising more.2;
      reads = reads_then (IsJudgedFile urls) ⊥ ⊥ (tells c.args.store.now) (tells c.loop-at.store) (tells c.add_piece.new.store) (law c.loop-at.store) was.reads
          (reads_for (IsJudgedFile urls) (IsErrOf c.add_piece.result Failed) ⊥ (tells c.loop-at.store) (tells c.add_piece.new.store) (λ no. absurd no) c.add_piece.ensures.reads.reads);
      found = λ files told book holds.
          let later = held_later (tells c.args.store.now) (tells c.loop-at.store) urls book c.is_sound-is_drum.ensures.drum (law c.loop-at.store) was.reads.stops holds in
          let zero : gone book ≡ 0 = none_gone urls.settings book holds.book_is in
          let a : ℕ = at - from in
          let b : ℕ = end - at in
          let i : ℕ = from - gone book in
          let front : List Item = items_from domain from (take a (drop i (judged book))) in
          let first : items ≡ front = was.found files told book holds in
          let second : c.add_piece.new.items.items ≡ items ++ items_from domain at (take b (drop (at - gone book) (judged book))) =
          c.in_ok-at.ensures.reads.value files (was.reads.same ∙ told) book later in
          let place : at ≡ from + a = omega (arith, was.behind) in
          let there : at - gone book ≡ i + a = omega (arith, was.behind, zero) in
          let long : i + a ≤ length (judged book) = omega (arith, was.behind, zero, holds.numbers.commit.judged, c.requires.within, c.loop-at-test.true) in
          let sum : a + b ≡ end - from = omega (arith, was.behind, c.in_ok-at.ensures.end.0) in
          second
          ∙ ap (λ (is : List Item). is ++ items_from domain at (take b (drop (at - gone book) (judged book)))) first
          ∙ ap (λ (m : ℕ). front ++ items_from domain at (take b (drop m (judged book)))) there
          ∙ ap (λ (m : ℕ). front ++ items_from domain m (take b (drop (i + a) (judged book)))) place
          ∙ pieces domain from i a b (judged book) long
          ∙ ap (λ (m : ℕ). items_from domain from (take m (drop i (judged book)))) sum;
    }

pub returns-clause-rising : goal.returns-clause-rising
returns-clause-rising g c =
    let was = c.loop-at.invariant in
    rising_to c.args.from c.args.to c.loop-at.at (item_numbers c.loop-at.items.items) was.within (omega (arith, c.loop-at-test.false)) was.rising
