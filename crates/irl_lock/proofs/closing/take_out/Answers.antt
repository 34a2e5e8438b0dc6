use Rattle.std.proofs.Common.{◌≡◌, ◌∙◌, ◌+◌, ◌<◌, ◌∷◌, [], ℕ, List, length, Some, false, get_or, set, ap, sym, subst, arith, get_or-set_other, get_or-set_same, length-append}
use mathlib.Core.Logic.{dite}
use mathlib.Core.Option.{some, some-injective}
use native.Mathlib.Decide.{ℕ_discrete}
use lib.ListN.{get_elem?}
use Rattle.std.specs.Slots.{slots_items, slots_filled, slots_len, slots_counts}
use Rattle.irl_lock.specs.Books.{bin_of, buckets_of}
use Rattle.irl_lock.specs.Sharing.{opening_of}
use Rattle.irl_lock.specs.declared.held.Held.TheVariants.{InBin, InYard}
use Rattle.irl_lock.proofs.Leaving.{is_left, taken_more, takes_out}
use Rattle.irl_lock.proofs.closing.take_out.Goals as goal

pub bin_in-bin-requires : goal.bin_in-bin-requires
bin_in-bin-requires g c =
    let shared = c.args.shared in
    let closed = c.close_with-closed.result in
    let left = is_left (opening_of shared) c.args.token.id c.args.token.me.0 (slots_items closed.words) (slots_items closed.slots) c.requires.all c.requires.free
    c.close_with-closed.ensures.values.2 in
    let b = c.loop-b.b in
    let inside : b < buckets_of (opening_of shared) = omega (arith, c.loop-b-test.true, shared.buckets_are) in
    let bin = bin_of left.stand left.arrays b in
    let here : some c.take.result ≡ some (Some (InBin bin)) = sym c.take.ensures.value ∙ ap (λ xs. get_elem? xs b) c.loop-b.invariant.items ∙ left.bins b inside in
    (bin, some-injective c.take.result (Some (InBin bin)) here)

pub loop-b-preserved : goal.loop-b-preserved
loop-b-preserved g c =
    let i = c.loop-b.invariant in
    let t = c.take.ensures in
    let row = c.loop-b.closed.slots in
    let b = c.loop-b.b in
    let bin = c.bin_in-bin.result in
    let wide = (slots_counts row).1 in
    let few : b < slots_len row = omega (arith, c.loop-b-test.true, i.long, c.close_with-closed.ensures.counts.1, c.args.shared.slots) in
    let old : List _ = c.loop-b.arrays.items in
    record {
      items = t.others.0 ∙ i.items;
      long = t.others.2 ∙ i.long;
      full = λ k le lt. ap (λ l. get_or l k false) t.others.1
          ∙ (get_or-set_other (slots_filled row) b k false false (λ z. omega (arith, z, le)) ∙ i.full k (omega (arith, le)) (subst (λ (n : ℕ). k < n) t.others.2 lt));
      empty = λ k lt. ap (λ l. get_or l k false) t.others.1 ∙ dite (ℕ_discrete k b)
          (λ same. ap (λ (z : ℕ). get_or (set (slots_filled row) b false) z false) same ∙ get_or-set_same (slots_filled row) b false false (omega (arith, wide, few)))
          (λ apart. get_or-set_other (slots_filled row) b k false false apart ∙ i.empty k (omega (arith, lt, apart)));
      count = omega (arith, ap length c.push_reserved.ensures.items, length-append old (bin.array ∷ []), i.count);
      room = c.push_reserved.ensures.capacity ∙ i.room;
      taken = taken_more (slots_items c.close_with-closed.result.slots) old c.push_reserved.new.self.items bin b i.count c.push_reserved.ensures.items
          (ap (λ xs. get_elem? xs b) (sym i.items) ∙ t.value ∙ ap some c.bin_in-bin.ensures) i.taken;
    }

pub stand_in-stand-requires : goal.stand_in-stand-requires
stand_in-stand-requires g c =
    let shared = c.args.shared in
    let closed = c.close_with-closed.result in
    let left = is_left (opening_of shared) c.args.token.id c.args.token.me.0 (slots_items closed.words) (slots_items closed.slots) c.requires.all c.requires.free
    c.close_with-closed.ensures.values.2 in
    let here : some c.take-2.result ≡ some (Some (InYard left.stand)) =
    sym c.take-2.ensures.value ∙ ap (λ xs. get_elem? xs shared.buckets) c.loop-b.invariant.items ∙ ap (get_elem? (slots_items closed.slots)) shared.buckets_are ∙ left.last in
    (left.stand, some-injective c.take-2.result (Some (InYard left.stand)) here)

pub free-requires : goal.free-requires
free-requires g c = λ k lt.
    let i = c.loop-b.invariant in
    let t = c.take-2.ensures in
    let row = c.loop-b.closed.slots in
    let last = c.args.shared.buckets in
    let wide = (slots_counts row).1 in
    let long : slots_len row ≡ last + 1 = i.long ∙ c.close_with-closed.ensures.counts.1 ∙ c.args.shared.slots in
    let less : k < slots_len row = subst (λ (n : ℕ). k < n) t.others.2 lt in
    ap (λ l. get_or l k false) t.others.1 ∙ dite (ℕ_discrete k last)
    (λ same. ap (λ (z : ℕ). get_or (set (slots_filled row) last false) z false) same ∙ get_or-set_same (slots_filled row) last false false (omega (arith, wide, long)))
    (λ apart. get_or-set_other (slots_filled row) last k false false apart ∙ i.empty k (omega (arith, less, long, apart, c.loop-b-test.false)))

pub returns : goal.returns
returns g c =
    let i = c.loop-b.invariant in
    let shared = c.args.shared in
    let closed = c.close_with-closed.result in
    let opening = opening_of shared in
    let slots = slots_items closed.slots in
    let left = is_left opening c.args.token.id c.args.token.me.0 (slots_items closed.words) slots c.requires.all c.requires.free c.close_with-closed.ensures.values.2 in
    let stand = c.stand_in-stand.result in
    let last : get_elem? slots (buckets_of opening) ≡ some (Some (InYard stand)) =
    ap (get_elem? slots) (sym shared.buckets_are) ∙ ap (λ xs. get_elem? xs shared.buckets) (sym i.items) ∙ c.take-2.ensures.value ∙ ap some c.stand_in-stand.ensures in
    takes_out opening c.args.token.me.0.known slots c.loop-b.arrays.items stand left (omega (arith, i.count, c.loop-b-test.false, c.loop-b.auto.b-end, shared.buckets_are)) i.taken last
