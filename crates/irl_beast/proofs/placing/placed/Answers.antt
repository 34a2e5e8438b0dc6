use Rattle.std.proofs.Common.{◌≡◌, ◌∙◌, ◌+◌, ◌/◌, ◌++◌, ◌∷◌, ◌<◌, [], List, length, take, sym, ap, cond, arith, length-append}
use Rattle.std.specs.Prelude.{bytes_eq}
use Rattle.std.proofs.lemmas.List.{take_more, take_all}
use Rattle.std.proofs.lemmas.Option.{get_or_from_slice_get, slice_get_within}
use Rattle.irl_offer.specs.declared.place.Place.{Place}
use Rattle.irl_offer.specs.declared.place.Slot.{Slot}
use Rattle.irl_beast.specs.declared.item.Item.{Item}
use Rattle.irl_beast.specs.Counts.{count_in}
use Rattle.irl_base.specs.Lists.{items_of}
use Rattle.irl_events.specs.Queues.{put, delivered, empty_lists}
use Rattle.irl_beast.specs.Places.{count_of, place, place_behind, slot_at}
use Rattle.irl_events.proofs.QueueLemmas.{delivered-none, delivered-more}
use Rattle.irl_beast.proofs.PlaceLemmas.{count_of-none, count_of-more, places-none, places-more, length-place}
use Rattle.irl_beast.proofs.placing.placed.Goals as goal

pub loop-i-init : goal.loop-i-init
loop-i-init g c =
    let budget = g.B.Purse.budgets c.args.purse.now in
    record {
      counts = λ q. ap (λ es. count_in es q) c.new-counts.ensures.empty ∙ sym (count_of-none q);
      places = c.in_ok-places.ensures.items ∙ sym (places-none c.args.passes c.args.queues budget);
      more = c.in_ok-more.ensures.lists ∙ sym (delivered-none empty_lists (place c.args.passes c.args.queues budget []));
      len = c.in_ok-more.ensures.len;
    }

pub loop-i-preserved : goal.loop-i-preserved
loop-i-preserved g c =
    let p = c.args.passes in
    let j = c.args.queues in
    let budget = g.B.Purse.budgets c.args.purse.now in
    let read : List Item = c.args.queue.now ++ c.args.fresh.now in
    let i = c.loop-i.i in
    let x : Item = c.item_at-item.result.now in
    let before : List Item = take i read in
    let places = place p j budget before in
    let at : Place = record { number = x.number; slot = c.slot_of-slot.result } in
    let within : i < length read = slice_get_within read i x c.item_at-item.ensures in
    let more : take (i + 1) read ≡ before ++ x ∷ [] =
    take_more read i x within ∙ ap (λ (y : Item). before ++ y ∷ []) (get_or_from_slice_get read i x x c.item_at-item.ensures) in
    let count : c.in_ok-earlier.earlier ≡ count_of before x.pld =
    c.in_ok-earlier.ensures.before ∙ ap (count_in c.loop-i.counts.entries) c.bytes.ensures ∙ c.loop-i.invariant.counts x.pld in
    let share : c.from.result ≡ budget x.pld = c.from.ensures ∙ c.budget.ensures ∙ ap budget c.bytes-in-loop-i.ensures in
    let slot : c.slot_of-slot.result ≡ slot_at p j (count_of before x.pld / budget x.pld) =
    c.slot_of-slot.ensures.value ∙ ap (λ n. slot_at p j (n / c.from.result)) count ∙ ap (λ n. slot_at p j (count_of before x.pld / n)) share in
    let placed : at ≡ place_behind p j budget before x = ap (λ (s : Slot). record { number = x.number; slot = s }) slot in
    let all : place p j budget (take (i + 1) read) ≡ places ++ at ∷ [] =
    ap (place p j budget) more ∙ places-more p j budget before x ∙ ap (λ (t : Place). places ++ t ∷ []) (sym placed) in
    record {
      counts = λ q.
          c.in_ok-earlier.ensures.after q
          ∙ ap (λ t. count_in c.loop-i.counts.entries q + cond (bytes_eq q t) 1 0) c.bytes.ensures
          ∙ ap (λ n. n + cond (bytes_eq q x.pld) 1 0) (c.loop-i.invariant.counts q)
          ∙ sym (ap (λ t. count_of t q) more ∙ count_of-more before x q);
      places = c.in_ok-push.ensures.items ∙ ap (λ t. t ++ at ∷ []) c.loop-i.invariant.places ∙ sym all;
      more = c.in_ok-put.ensures.ok ∙ ap (λ t. put t x c.slot_of-slot.result) c.loop-i.invariant.more
          ∙ sym (delivered-more empty_lists before places x at (length-place p j budget before))
          ∙ ap (λ t. delivered empty_lists t (places ++ at ∷ [])) (sym more) ∙ ap (delivered empty_lists (take (i + 1) read)) (sym all);
      len = c.put.ensures.len;
    }

pub returns-clause-places : goal.returns-clause-places
returns-clause-places g c =
    let read : List Item = c.args.queue.now ++ c.args.fresh.now in
    let whole : take c.loop-i.i read ≡ read = take_all c.loop-i.i read (omega (arith, length-append c.args.queue.now c.args.fresh.now)) in
    c.loop-i.invariant.places ∙ ap (place c.args.passes c.args.queues (g.B.Purse.budgets c.args.purse.now)) whole

pub returns-clause-more : goal.returns-clause-more
returns-clause-more g c =
    let read : List Item = c.args.queue.now ++ c.args.fresh.now in
    let budget = g.B.Purse.budgets c.args.purse.now in
    let whole : take c.loop-i.i read ≡ read = take_all c.loop-i.i read (omega (arith, length-append c.args.queue.now c.args.fresh.now)) in
    c.loop-i.invariant.more ∙ ap (λ (t : List Item). delivered empty_lists t (place c.args.passes c.args.queues budget t)) whole
