use Rattle.std.proofs.Common.{◌≡◌, ◌∙◌, ◌+◌, ◌-◌, ◌++◌, ◌≤◌, ◌<◌, ℕ, List, [], drop, get_or, set, length, true, refl, sym, ap, subst, arith, rules}
use Rattle.std.specs.Prelude.{vec_len}
use Rattle.std.specs.Vec.{with_items}
use Rattle.std.proofs.lemmas.List.{drop-map, length-drop, length-map, length-set}
use Rattle.irl_offer.specs.declared.outcome.Outcome.{Outcome}
use Rattle.irl_offer.specs.declared.place.Place.{Place}
use Rattle.irl_base.specs.Lists.{items_of, list_at}
use Rattle.irl_events.specs.Events.{Progress, has_number, numbers_of}
use Rattle.irl_events.specs.Legal.{are_rising}
use Rattle.irl_fate.specs.declared.fate.Fate.{Fate}
use Rattle.irl_fate.specs.declared.fates.Fates.TheInside.{Inside}
use Rattle.irl_fate.specs.declared.plan.Reading.{Reading}
use Rattle.irl_fate.specs.Kept.{shown, IsKept, Agree, AreSorted, HasEntry, fate_in, numbers_in, is_front, placed_by, front_left}
use Rattle.irl_fate.specs.Passing.{read_by}
use Rattle.irl_fate.specs.Plans.{IsReading}
use Rattle.irl_fate.specs.Standing.{count, total}
use Rattle.irl_fate.proofs.Entering.{Split, read_split, rising_append, read_entered, all_fit}
use Rattle.irl_fate.proofs.Entries.{rising_sorted, with_same}
use Rattle.irl_fate.proofs.Counting.{has_of_count}
use Rattle.irl_fate.proofs.Ordering.{count_sorted, sorted_rising, in_front_below}
use Rattle.irl_fate.proofs.Reading.{front_places}
use Rattle.irl_fate.proofs.Steps.{one_most, PassParts, pass_parts, Reads, after, front_whole, reads_agree, reads_fresh, reads_spent, reads_unused}
use Rattle.irl_fate.proofs.Totals.{total_set, total_delivered}
use Rattle.irl_fate.proofs.fates.Fates.read_places.Goals as goal

-- the queue that is read
abbrev queue_in : Inside → List ℕ
queue_in a = list_at (items_of a.lists.items) a.passes

-- what is to be done, said of the fields
record Told (a : Inside) (r : Reading) : Type 0 where
  reading : IsReading (shown a) r
  parts : PassParts (shown a) r.judged r.places.items
  split : Split (queue_in a) a.read r.judged (numbers_of r.places.items)
  long : length (queue_in a) ≤ length r.places.items
  rises : a.read ≤ r.judged

told : (a : Inside) (x : Progress) (r : Reading) → IsKept a → shown a ≡ x → IsReading x r → Told a r
told a x r k view is =
    let reading : IsReading (shown a) r = subst (λ (y : Progress). IsReading y r) (sym view) is in
    let parts = pass_parts (shown a) r.judged r.places.items reading.legal in
    let split = read_split (queue_in a) a.read r.judged (numbers_of r.places.items) parts.numbers in
    let number : r.judged ≡ a.sent = parts.number in
    let sent : a.read ≤ a.sent = k.sent in
    record {
      reading = reading;
      parts = parts;
      split = split;
      long = omega (arith, split.long, length-map r.places.items (λ (p : Place). p.number));
      rises = omega arith;
    }

-- what a pass that is legal reads, of the fields
reads : (a : Inside) (r : Reading) (entered new : List (ℕ × Fate)) → IsKept a → Told a r → ((q : ℕ) → fate_in entered q ≡ fate_in a.fates.items q)
    → ((q : ℕ) → fate_in new q ≡ placed_by r.places.items q (fate_in entered q))
    → Reads a.fates.items entered new (front_left a.fates.items a.front.items) (items_of a.lists.items) a.done.items r.places.items a.passes a.queues a.read r.judged
reads a r entered new k t same placed =
    let round : a.passes < a.queues = k.round in
    let most : a.queues ≤ 64 = k.most in
    record {
      agree = k.agree;
      fresh = k.fresh;
      spent = k.spent;
      none = t.parts.none;
      below = omega arith;
      most = k.most;
      rises = t.rises;
      numbers = t.parts.numbers;
      slots = t.parts.slots;
      same = same;
      placed = placed;
    }

-- the entries behind those before
record Entered (a : Inside) (r : Reading) (entered : List (ℕ × Fate)) : Type 0 where
  numbers : numbers_in entered ≡ numbers_in a.fates.items ++ drop (length (queue_in a)) (numbers_of r.places.items)
  rising : are_rising 0 r.judged (numbers_in entered) ≡ true

entered : (a : Inside) (r : Reading) (grown entries : List (ℕ × Fate)) (fresh : List Place) → IsKept a → Told a r → grown ≡ a.fates.items → fresh ≡ drop (length (queue_in a)) r.places.items
    → numbers_in entries ≡ numbers_in grown ++ numbers_of fresh → Entered a r entries
entered a r grown entries fresh k t same is numbers =
    let all : numbers_in entries ≡ numbers_in a.fates.items ++ drop (length (queue_in a)) (numbers_of r.places.items) =
    numbers ∙ ap (λ (e : List (ℕ × Fate)). numbers_in e ++ numbers_of fresh) same
    ∙ ap (λ (p : List Place). numbers_in a.fates.items ++ numbers_of p) is
    ∙ ap (λ (n : List ℕ). numbers_in a.fates.items ++ n) (sym (drop-map (λ (p : Place). p.number) (length (queue_in a)) r.places.items)) in
    record {
      numbers = all;
      rising = ap (are_rising 0 r.judged) all
          ∙ rising_append 0 a.read r.judged (numbers_in a.fates.items) (drop (length (queue_in a)) (numbers_of r.places.items)) k.rising t.split.fresh (omega arith) t.rises;
    }

-- as many entries as numbers were read
counted : (a : Inside) (r : Reading) (new : List (ℕ × Fate)) (done : List (ℕ × Outcome)) (many : ℕ) → IsKept a → Told a r → front_left new r.front.items ≡ r.front.items → done ≡ a.done.items
    → many ≡ vec_len a.fates + (length r.places.items - length (queue_in a))
    → many ≡ length (front_left new r.front.items) + total (items_of r.lists.items) + length done
counted a r new done many k t whole same is =
    let lists = items_of a.lists.items in
    let places = r.places.items in
    let round : a.passes < a.queues = k.round in
    let most : a.queues ≤ 64 = k.most in
    let count : length lists ≡ 65 = k.agree.many in
    let out : total (set lists a.passes []) + length (queue_in a) ≡ total lists + 0 = total_set lists a.passes [] (omega arith) in
    let placed = total_delivered (set lists a.passes []) places (length-set lists a.passes [] ∙ count) (all_fit (a.passes + 2) a.queues places (omega arith) most t.parts.slots) in
    let now : total (items_of r.lists.items) + length (front_places places) ≡ total (set lists a.passes []) + length places =
    ap (λ (l : List (List ℕ)). total l + length (front_places places)) t.reading.lists ∙ placed in
    let front : length (front_left new r.front.items) ≡ length (front_places places) = ap length (whole ∙ t.reading.front) in
    let none : length (front_left a.fates.items a.front.items) ≡ 0 = ap length t.parts.none in
    let before : vec_len a.fates ≡ length (front_left a.fates.items a.front.items) + total lists + length a.done.items = k.entries in
    let kept : length done ≡ length a.done.items = ap length same in
    let long : length (queue_in a) ≤ length places = t.long in
    omega arith

pub fresh_of-fresh-requires-clause-long : goal.fresh_of-fresh-requires-clause-long
fresh_of-fresh-requires-clause-long c =
    let a = c.self.inside in
    let t = told a c.args.self.now c.args.reading c.self.invariant c.self.view_is c.requires in
    omega (arith, t.long, ap (λ l. length (list_at (items_of l) a.passes)) c.deref.ensures.value, ap length c.deref-2.ensures.value)

pub grow-requires : goal.grow-requires
grow-requires c =
    let a = c.self.inside in
    let t = told a c.args.self.now c.args.reading c.self.invariant c.self.view_is c.requires in
    let queue : List ℕ = queue_in a in
    let fresh : c.fresh_of-fresh.result.now ≡ drop (length queue) c.args.reading.places.items =
    c.fresh_of-fresh.ensures ∙ ap (λ l. drop (length (list_at (items_of l) a.passes)) c.deref-2.result.now) c.deref.ensures.value ∙ ap (drop (length queue)) c.deref-2.ensures.value in
    record {
      none = t.reading.fates.none;
      fits = omega (arith, t.reading.fates.fits, c.self.invariant.entries, ap length fresh, length-drop (length queue) c.args.reading.places.items);
    }

pub place_all-requires-clause-sorted : goal.place_all-requires-clause-sorted
place_all-requires-clause-sorted c =
    let a = c.self.inside in
    let r = c.args.reading in
    let t = told a c.args.self.now r c.self.invariant c.self.view_is c.requires in
    let fresh : c.fresh_of-fresh.result.now ≡ drop (length (queue_in a)) r.places.items =
    c.fresh_of-fresh.ensures ∙ ap (λ l. drop (length (list_at (items_of l) a.passes)) c.deref-2.result.now) c.deref.ensures.value ∙ ap (drop (length (queue_in a))) c.deref-2.ensures.value in
    let e = entered a r c.grow.new.list.items c.enter.new.entries.items c.fresh_of-fresh.result.now c.self.invariant t c.grow.ensures.items fresh c.enter.ensures.numbers in
    subst (λ (l : List (ℕ × Fate)). AreSorted (numbers_in l)) (sym c.deref_mut.ensures.value) (rising_sorted 0 r.judged (numbers_in c.enter.new.entries.items) e.rising)

pub place_all-requires-clause-entries : goal.place_all-requires-clause-entries
place_all-requires-clause-entries c =
    let a = c.self.inside in
    let r = c.args.reading in
    let t = told a c.args.self.now r c.self.invariant c.self.view_is c.requires in
    let fresh : c.fresh_of-fresh.result.now ≡ drop (length (queue_in a)) r.places.items =
    c.fresh_of-fresh.ensures ∙ ap (λ l. drop (length (list_at (items_of l) a.passes)) c.deref-2.result.now) c.deref.ensures.value ∙ ap (drop (length (queue_in a))) c.deref-2.ensures.value in
    let e = entered a r c.grow.new.list.items c.enter.new.entries.items c.fresh_of-fresh.result.now c.self.invariant t c.grow.ensures.items fresh c.enter.ensures.numbers in
    let lent = c.deref_mut.result.now in
    subst (λ (p : List Place). (i : ℕ) (d : Place) → i < length p → HasEntry lent (get_or p i d).number) (sym c.deref-3.ensures.value)
    (read_entered a.fates.items _ _ _ a.passes a.read r.judged r.places.items (numbers_in lent) c.self.invariant.agree t.parts.numbers (ap numbers_in c.deref_mut.ensures.value ∙ e.numbers))

pub invariant_of-self : goal.invariant_of-self
invariant_of-self c =
    let a = c.self.inside in
    let k = c.self.invariant in
    let r = c.args.reading in
    let places = r.places.items in
    let old = a.fates.items in
    let entries = c.enter.new.entries.items in
    let new = (with_items c.enter.new.entries c.place_all.new.entries).items in
    let new_is : new ≡ c.place_all.new.entries = with_same c.enter.new.entries c.deref_mut.result.now c.place_all.new.entries c.deref_mut.ensures.value c.place_all.ensures.numbers in
    let lists = items_of a.lists.items in
    let t = told a c.args.self.now r k c.self.view_is c.requires in
    let fresh : c.fresh_of-fresh.result.now ≡ drop (length (queue_in a)) places =
    c.fresh_of-fresh.ensures ∙ ap (λ l. drop (length (list_at (items_of l) a.passes)) c.deref-2.result.now) c.deref.ensures.value ∙ ap (drop (length (queue_in a))) c.deref-2.ensures.value in
    let e = entered a r c.grow.new.list.items entries c.fresh_of-fresh.result.now k t c.grow.ensures.items fresh c.enter.ensures.numbers in
    let same = λ (q : ℕ). c.enter.ensures.fates q ∙ ap (λ (l : List (ℕ × Fate)). fate_in l q) c.grow.ensures.items in
    let placed = λ (q : ℕ). ap (λ (l : List (ℕ × Fate)). fate_in l q) new_is ∙ c.place_all.ensures.fates q
    ∙ ap (λ (p : List Place). placed_by p q (fate_in c.deref_mut.result.now q)) c.deref-3.ensures.value
    ∙ ap (λ (l : List (ℕ × Fate)). placed_by places q (fate_in l q)) c.deref_mut.ensures.value in
    let is = reads a r entries new k t same placed in
    let now : items_of r.lists.items ≡ after old entries new (front_left old a.front.items) lists a.done.items places a.passes a.queues a.read r.judged = t.reading.lists in
    let whole : front_left new r.front.items ≡ r.front.items = ap (front_left new) t.reading.front ∙ front_whole _ _ _ _ _ _ _ _ _ _ _ is ∙ sym t.reading.front in
    let left : List (List ℕ) = after old entries new (front_left old a.front.items) lists a.done.items places a.passes a.queues a.read r.judged in
    let alike = count_sorted r.front.items r.order.items t.reading.order in
    let agree = reads_agree _ _ _ _ _ _ _ _ _ _ _ is in
    let counts = λ (n : ℕ). alike n ∙ ap (count n) (t.reading.front ∙ sym (front_whole _ _ _ _ _ _ _ _ _ _ _ is)) ∙ agree.front_is n in
    let once : (n : ℕ) → count n r.order.items ≤ 1 = λ n. omega (arith, counts n, one_most (is_front (fate_in new n))) in
    let below = λ (n : ℕ) (there : has_number r.order.items n ≡ true). in_front_below (fate_in new) r.judged n (reads_fresh _ _ _ _ _ _ _ _ _ _ _ is)
    (sym (has_of_count r.order.items n (is_front (fate_in new n)) (counts n)) ∙ there) in
    let number : r.judged ≡ a.sent = t.parts.number in
    let front_count : vec_len r.front ≡ length r.front.items = search rules in
    let count : vec_len a.fates ≡ length old = search rules in
    let grown_count : vec_len c.grow.new.list ≡ length c.grow.new.list.items = search rules in
    let many : vec_len c.enter.new.entries ≡ vec_len a.fates + (length places - length (queue_in a)) =
    omega (arith, c.enter.ensures.len, ap length c.grow.ensures.items, ap length fresh, length-drop (length (queue_in a)) places) in
    let same_len : vec_len (with_items c.enter.new.entries c.place_all.new.entries) ≡ vec_len c.enter.new.entries = search rules in
    record {
      agree = subst (λ (f : List ℕ). Agree (fate_in new) (front_left new f) (items_of r.lists.items) c.grow-2.new.list.items) (sym t.reading.front)
          (subst (λ (l : List (List ℕ)). Agree (fate_in new) (front_left new (front_places places)) l c.grow-2.new.list.items) (sym now)
          (subst (λ (d : List (ℕ × Outcome)). Agree (fate_in new) (front_left new (front_places places)) left d)
          (sym c.grow-2.ensures.items) (reads_agree _ _ _ _ _ _ _ _ _ _ _ is)));
      fresh = reads_fresh _ _ _ _ _ _ _ _ _ _ _ is;
      sent = omega arith;
      begun = λ lt. refl;
      spent = λ i lt. ap (λ (l : List (List ℕ)). list_at l i) now ∙ reads_spent _ _ _ _ _ _ _ _ _ _ _ is i (omega arith);
      unused = λ i le lt. ap (λ (l : List (List ℕ)). list_at l i) now ∙ reads_unused _ _ _ _ _ _ _ _ _ _ _ is k.unused k.round i le lt;
      left = c.len-left.ensures ∙ front_count ∙ sym (ap length whole);
      len = t.reading.many;
      most = k.most;
      round = k.round;
      rising = ap (are_rising 0 r.judged) (ap numbers_in new_is ∙ c.place_all.ensures.numbers ∙ ap numbers_in c.deref_mut.ensures.value) ∙ e.rising;
      entries = same_len ∙ counted a r new c.grow-2.new.list.items _ k t whole c.grow-2.ensures.items many;
      order = alike;
      order_rises = sorted_rising r.judged r.order.items t.reading.rising once below;
      next = omega arith;
      passed = λ i lt. absurd (omega arith);
      room = c.grow-2.ensures.room;
    }

pub returns-clause-spent : goal.returns-clause-spent
returns-clause-spent c =
    let a = c.self.inside in
    let r = c.args.reading in
    let places = r.places.items in
    let new = (with_items c.enter.new.entries c.place_all.new.entries).items in
    let new_is : new ≡ c.place_all.new.entries = with_same c.enter.new.entries c.deref_mut.result.now c.place_all.new.entries c.deref_mut.ensures.value c.place_all.ensures.numbers in
    let t = told a c.args.self.now r c.self.invariant c.self.view_is c.requires in
    let same = λ (q : ℕ). c.enter.ensures.fates q ∙ ap (λ (l : List (ℕ × Fate)). fate_in l q) c.grow.ensures.items in
    let placed = λ (q : ℕ). ap (λ (l : List (ℕ × Fate)). fate_in l q) new_is ∙ c.place_all.ensures.fates q
    ∙ ap (λ (p : List Place). placed_by p q (fate_in c.deref_mut.result.now q)) c.deref-3.ensures.value
    ∙ ap (λ (l : List (ℕ × Fate)). placed_by places q (fate_in l q)) c.deref_mut.ensures.value in
    let is = reads a r c.enter.new.entries.items new c.self.invariant t same placed in
    ap (λ (l : List (List ℕ)). list_at l a.passes) t.reading.lists ∙ reads_spent _ _ _ _ _ _ _ _ _ _ _ is a.passes (omega arith)

pub returns-clause-read : goal.returns-clause-read
returns-clause-read c =
    let a = c.self.inside in
    let r = c.args.reading in
    let places = r.places.items in
    let new = (with_items c.enter.new.entries c.place_all.new.entries).items in
    let new_is : new ≡ c.place_all.new.entries = with_same c.enter.new.entries c.deref_mut.result.now c.place_all.new.entries c.deref_mut.ensures.value c.place_all.ensures.numbers in
    let t = told a c.args.self.now r c.self.invariant c.self.view_is c.requires in
    let same = λ (q : ℕ). c.enter.ensures.fates q ∙ ap (λ (l : List (ℕ × Fate)). fate_in l q) c.grow.ensures.items in
    let placed = λ (q : ℕ). ap (λ (l : List (ℕ × Fate)). fate_in l q) new_is ∙ c.place_all.ensures.fates q
    ∙ ap (λ (p : List Place). placed_by p q (fate_in c.deref_mut.result.now q)) c.deref-3.ensures.value
    ∙ ap (λ (l : List (ℕ × Fate)). placed_by places q (fate_in l q)) c.deref_mut.ensures.value in
    let is = reads a r c.enter.new.entries.items new c.self.invariant t same placed in
    let front : front_left new r.front.items ≡ (shown a).front ++ front_places places =
    ap (front_left new) t.reading.front ∙ front_whole _ _ _ _ _ _ _ _ _ _ _ is ∙ ap (λ (f : List ℕ). f ++ front_places places) (sym t.parts.none) in
    let build : List ℕ → List (List ℕ) → List (ℕ × Outcome) → Progress = λ front lists done. record (shown a) {
      begun = true;
      read = r.judged;
      front = front;
      waiting = record { lists = lists; queues = a.queues; passes = a.passes };
      done = done;
    } in
    ap (λ (f : List ℕ). build f (items_of r.lists.items) c.grow-2.new.list.items) front
    ∙ ap (λ (l : List (List ℕ)). build ((shown a).front ++ front_places places) l c.grow-2.new.list.items) t.reading.lists
    ∙ ap (build ((shown a).front ++ front_places places) _) c.grow-2.ensures.items
    ∙ ap (λ (x : Progress). read_by x r.judged places) c.self.view_is
