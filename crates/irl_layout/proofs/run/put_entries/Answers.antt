-- The entries of the offers so far are put, each of 27 bytes, and each offer has its room.
use Rattle.std.proofs.Common.{◌≡◌, ◌∙◌, ◌+◌, ◌*◌, ◌++◌, List, length, take, ℕ, refl, sym, ap, subst, arith, append-nil, append_assoc, length-append, length-take-le, take_all}
use Rattle.std.specs.List.{AllByRecursion}
use Rattle.irl_journal.specs.Appending.{Draft}
use Rattle.irl_offer.specs.Tuple.{Tuple}
use Rattle.irl_offer.specs.Entries.{entry_bytes}
use Rattle.irl_layout.specs.Runs.{entry_of_offer, run_bytes, IsOffer}
use Rattle.irl_layout.proofs.Runs.{one_more_of, all_more, length-entry, length-run_bytes}
use Rattle.irl_layout.proofs.run.put_entries.Goals as goal

pub loop-offer-init : goal.loop-offer-init
loop-offer-init c = record { bytes = sym (append-nil c.args.frame.now.bytes); room = refl; offers = tt }

pub encode-requires : goal.encode-requires
encode-requires c = rw c.entry_of.ensures.value c.entry_of.ensures.offer.aux

pub put-requires : goal.put-requires
put-requires c =
    let put = take c.loop-offer.offer-index c.args.offers.now in
    let long : length c.loop-offer.frame.bytes ≡ length c.args.frame.now.bytes + 27 * length put =
    ap length c.loop-offer.invariant.bytes ∙ length-append c.args.frame.now.bytes (run_bytes put) ∙ ap (λ (n : ℕ). length c.args.frame.now.bytes + n) (length-run_bytes put) in
    let bytes : length c.encode.result ≡ 27 = ap length c.encode.ensures ∙ length-entry c.entry_of.result in
    omega (arith, long, bytes, length-take-le c.loop-offer.offer-index c.args.offers.now c.loop-offer.auto.offer-index-end, c.loop-offer.invariant.room, c.requires, c.loop-offer-test.true)

pub loop-offer-preserved : goal.loop-offer-preserved
loop-offer-preserved c =
    let i = c.loop-offer.offer-index in
    let entry : c.encode.result ≡ entry_bytes (entry_of_offer c.offer-item.result) = c.encode.ensures ∙ ap entry_bytes c.entry_of.ensures.value in
    let put : c.put.new.self.bytes ≡ (c.args.frame.now.bytes ++ run_bytes (take i c.args.offers.now)) ++ entry_bytes (entry_of_offer c.offer-item.result) =
    ap (λ (d : Draft). d.bytes) c.put.ensures ∙ ap (λ (l : List ℕ). l ++ c.encode.result) c.loop-offer.invariant.bytes
    ∙ ap (λ (l : List ℕ). (c.args.frame.now.bytes ++ run_bytes (take i c.args.offers.now)) ++ l) entry in
    let more = one_more_of (λ (offer : Tuple). entry_bytes (entry_of_offer offer)) c.args.offers.now i c.offer-item.result c.loop-offer-test.true c.offer-item.is in
    record {
      bytes = put ∙ append_assoc c.args.frame.now.bytes _ _ ∙ ap (λ (l : List ℕ). c.args.frame.now.bytes ++ l) (sym more);
      room = ap (λ (d : Draft). d.room) c.put.ensures ∙ c.loop-offer.invariant.room;
      offers = all_more IsOffer c.args.offers.now i c.offer-item.result c.loop-offer-test.true c.offer-item.is c.loop-offer.invariant.offers c.entry_of.ensures.offer;
    }

-- at the end all are put
pub returns-clause-bytes : goal.returns-clause-bytes
returns-clause-bytes c =
    c.loop-offer.invariant.bytes ∙ ap (λ (offers : List Tuple). c.args.frame.now.bytes ++ run_bytes offers) (take_all c.loop-offer.offer-index c.args.offers.now c.loop-offer-test.false)

pub returns-clause-offers : goal.returns-clause-offers
returns-clause-offers c = subst (AllByRecursion IsOffer) (take_all c.loop-offer.offer-index c.args.offers.now c.loop-offer-test.false) c.loop-offer.invariant.offers
