-- The piece's bytes are the file's from the first entry that wasn't read.
use Rattle.std.proofs.Common.{◌≡◌, ◌∙◌, ◌+◌, ◌-◌, ◌*◌, ◌/◌, ◌++◌, List, ℕ, min, Option, None, length, take, drop, take_all, vec_len, inr, sym, ap, subst, arith, rules, length-take-le}
use Rattle.std.proofs.lemmas.List.{append-nil, with_items_is}
use Rattle.std.specs.Option.{ForSome}
use Rattle.irl_offer.specs.declared.receipt.Pair.{Pair}
use Rattle.irl_disk.specs.Disk.{Files}
use Rattle.irl_cache.specs.Reading.{Reader, ReachesRead, TakesExactly}
use Rattle.irl_cache.specs.SortedRun.{FallsAt, last_from}
use Rattle.irl_cache.proofs.Frames.{read_bytes, read_words}
use Rattle.irl_cache.proofs.Blocks.{piece_read, falls_in, filled_to, one_at_least, takes_exactly}
use Rattle.irl_cache.proofs.reader.CacheReader.read_piece.Goals as goal

-- the file reaches what was read
abbrev long_of : (r view : Reader) (told : Option Files) → view ≡ r → ForSome told (ReachesRead r) → ForSome told (ReachesRead view)
long_of r view told is long = subst (λ (v : Reader). ForSome told (ReachesRead v)) (sym is) long

pub read_front-requires-clause-place : goal.read_front-requires-clause-place
read_front-requires-clause-place g c = λ files told. omega (arith, long_of _ _ (g.S.Store.told c.args.store.now).files c.self.view_is c.requires.long files told)

pub invariant_of-self : goal.invariant_of-self
invariant_of-self g c =
    let inv = c.self.invariant in (
      inv.0,
      inv.1,
      omega arith,
      omega arith,
      omega (arith, inv.4, c.clear.ensures.len),
      omega (arith, inv.5, c.clear.ensures.len),
      (inv.6.0, inv.6.1),
      omega (arith, inv.7, c.clear.ensures.capacity),
      inr (0, omega (arith, c.clear.ensures.len)),
    )

pub returns-in_err-count : goal.returns-in_err-count
returns-in_err-count g c = record {
  more = search rules;
  same = search rules;
  ahead = search rules;
  read = search rules;
  reads_on = record {
    err = search rules;
    long = λ files told.
        let long = long_of _ _ (g.S.Store.told c.args.store.now).files c.self.view_is c.requires.long files (sym c.read_front.ensures.reads.same ∙ told) in
        omega (arith, long, ap (λ (l : List Pair). length l) c.clear.ensures.items);
    damaged = search rules;
    memory = search rules;
    full = search rules;
    taken = search rules;
    reads = search rules;
  };
}

pub invariant_of-self-then-count-wanted : goal.invariant_of-self-then-count-wanted
invariant_of-self-then-count-wanted g c =
    let inv = c.self.invariant in (
      inv.0,
      inv.1,
      omega arith,
      omega arith,
      omega (arith, inv.4, c.clear.ensures.len),
      omega (arith, inv.5, c.clear.ensures.len),
      (inv.6.0, inv.6.1),
      omega (arith, inv.7, c.clear.ensures.capacity),
      inr (0, omega (arith, c.clear.ensures.len)),
    )

pub returns-then-count-wanted : goal.returns-then-count-wanted
returns-then-count-wanted g c = record {
  more = search rules;
  same = search rules;
  ahead = search rules;
  read = search rules;
  reads_on = record {
    err = search rules;
    long = λ files told.
        let long = long_of _ _ (g.S.Store.told c.args.store.now).files c.self.view_is c.requires.long files (sym c.read_front.ensures.reads.same ∙ told) in
        omega (arith, long, ap (λ (l : List Pair). length l) c.clear.ensures.items);
    damaged = search rules;
    memory = search rules;
    full = search rules;
    taken = search rules;
    reads = search rules;
  };
}

pub slice_bounds-read_pairs-end : goal.slice_bounds-read_pairs-end
slice_bounds-read_pairs-end g c =
    sym (length-take-le (16 * c.min.result) c.deref.result.now (omega (arith, c.min.ensures, c.len.ensures, c.deref.ensures.len)))

pub invariant_of-self-in-Ok : goal.invariant_of-self-in-Ok
invariant_of-self-in-Ok g c =
    let inv = c.self.invariant in
    let m = c.min.result in
    let part : length (take (16 * m) c.deref.result.now) ≡ 16 * m = length-take-le (16 * m) c.deref.result.now (omega (arith, c.min.ensures, c.len.ensures, c.deref.ensures.len)) in
    let n : vec_len c.read_pairs.new.pairs ≡ m = omega (arith, c.in-Ok.ensures.count, part) in
    let piece : c.len.result / 16 ≡ c.self.inside.most * (inv.6.0 + 1) = omega (arith, c.len.ensures, inv.6.1) in
    let is : vec_len c.read_pairs.new.pairs - 0 ≡ min (c.self.inside.most * (inv.6.0 + 1)) (c.self.inside.entries - c.self.inside.given) =
    (let same : vec_len c.read_pairs.new.pairs - 0 ≡ m = omega (arith, n) in same) ∙ c.min.ensures ∙ ap (λ (k : ℕ). min k (c.self.inside.entries - c.self.inside.given)) piece in (
      inv.0,
      inv.1,
      omega arith,
      omega arith,
      omega (arith, n, c.min.ensures, inv.4),
      omega (arith, n, c.in_ok-count.ensures.within.1, c.if-count-wanted.false),
      (inv.6.0, inv.6.1),
      omega (arith, inv.7, c.read_pairs.ensures.capacity, c.clear.ensures.capacity),
      filled_to c.self.inside.given c.self.inside.entries c.self.inside.most inv.6.0 _ (omega (arith, inv.4)) is,
    )

pub invariant_of-self-in-Err : goal.invariant_of-self-in-Err
invariant_of-self-in-Err g c =
    let inv = c.self.invariant in (
      inv.0,
      inv.1,
      omega arith,
      omega arith,
      omega (arith, inv.4, c.clear-in-Err.ensures.len),
      omega (arith, inv.5, c.clear-in-Err.ensures.len),
      (inv.6.0, inv.6.1),
      omega
          (arith, inv.7, c.clear-in-Err.ensures.capacity, c.read_pairs.ensures.capacity, c.clear.ensures.capacity),
      inr (0, omega (arith, c.clear-in-Err.ensures.len)),
    )

pub returns-in-Ok : goal.returns-in-Ok
returns-in-Ok g c = record {
  more =
      let inv = c.self.invariant in
      let m = c.min.result in
      let left = rw (← c.self.view_is) at c.requires.left in
      let part : length (take (16 * m) c.deref.result.now) ≡ 16 * m = length-take-le (16 * m) c.deref.result.now (omega (arith, c.min.ensures, c.len.ensures, c.deref.ensures.len)) in
      let piece : c.len.result / 16 ≡ c.self.inside.most * (inv.6.0 + 1) = omega (arith, c.len.ensures, inv.6.1) in
      let is : m ≡ min (c.self.inside.most * (inv.6.0 + 1)) (c.self.inside.entries - c.self.inside.given) = c.min.ensures ∙ ap (λ (k : ℕ). min k (c.self.inside.entries - c.self.inside.given)) piece in
      let some = one_at_least c.self.inside.given c.self.inside.entries c.self.inside.most inv.6.0 m left inv.1 is in
      omega (arith, some, c.in-Ok.ensures.count, part, c.read_pairs.new.pairs.ok.0);
  same = search rules;
  ahead = search rules;
  read = rw (← c.self.view_is) (λ pairs had.
      let r = c.self.inside in
      let m = c.min.result in
      let items = c.read_pairs.new.pairs.items in
      let none = rw (← c.self.view_is) at c.requires.none in
      let part : length (take (16 * m) c.deref.result.now) ≡ 16 * m = length-take-le (16 * m) c.deref.result.now (omega (arith, c.min.ensures, c.len.ensures, c.deref.ensures.len)) in
      let n : length items ≡ m = omega (arith, c.in-Ok.ensures.count, part, c.read_pairs.new.pairs.ok.0) in
      let shown = c.deref.ensures.value ∙ with_items_is r.bytes c.read_front.new.bytes (c.read_front.auto.bytes ∙ c.deref_mut.ensures.len) in
      let whole : c.in_ok-count.count ≡ 16 * m = omega (arith, c.in_ok-count.ensures.within.0, c.if-count-wanted.false) in
      piece_read _ _ pairs items _ c.in-Ok.last c.read_front.ensures.reads.same none had c.in-Ok.ensures.rising c.in-Ok.ensures.last c.in-Ok.ensures.words
      (omega (arith, n, c.min.ensures, c.self.invariant.4))
      (λ files told.
      c.in-Ok.ensures.bytes
      ∙ take_all _ _ (omega (arith, part, n, c.read_pairs.new.pairs.ok.0))
      ∙ ap (λ (l : List ℕ). take (16 * m) l) shown
      ∙ ap (λ (k : ℕ). take k c.read_front.new.bytes) (sym whole)
      ∙ (c.in_ok-count.ensures.bytes files told).bytes
      ∙ ap (λ (k : ℕ). take k (drop (16 * r.given) (files r.file))) (let same : c.in_ok-count.count ≡ 16 * length items = omega (arith, whole, n) in same)));
  reads_on = record {
    err = search rules;
    long = search rules;
    damaged = search rules;
    memory = search rules;
    full = search rules;
    taken = rw (← c.self.view_is) (
        let m = c.min.result in
        let items = c.read_pairs.new.pairs.items in
        let part : length (take (16 * m) c.deref.result.now) ≡ 16 * m = length-take-le (16 * m) c.deref.result.now (omega (arith, c.min.ensures, c.len.ensures, c.deref.ensures.len)) in
        let none = rw (← c.self.view_is) at c.requires.none in
        let before = drop c.self.inside.end c.self.inside.pairs.items in
        let whole : c.in_ok-count.count ≡ 16 * (c.self.inside.given + length items - (c.self.inside.given + length before)) =
        omega (arith, c.in_ok-count.ensures.within.0, c.if-count-wanted.false, c.in-Ok.ensures.count, part, c.read_pairs.new.pairs.ok.0, ap (λ (l : List Pair). length l) none) in
        subst (λ (k : ℕ). TakesExactly c.self.inside.file k (g.S.Store.told c.args.store.now).taken (g.S.Store.told c.read_front.new.store).taken) whole
        (takes_exactly c.self.inside.file c.in_ok-count.count _ _ c.in_ok-count.ensures.taken));
    reads = search rules;
  };
}

pub returns-in-Err : goal.returns-in-Err
returns-in-Err g c = record {
  more = search rules;
  same = search rules;
  ahead = search rules;
  read = search rules;
  reads_on = record {
    err = search rules;
    long = search rules;
    damaged = λ f at e pairs had_self files told.
        let r = c.self.inside in
        let m = c.min.result in
        let named : f ≡ r.file = cc in
        let place : at ≡ 16 * r.given + c.in-Err.place = cc in
        let none = rw (← c.self.view_is) at c.requires.none in
        let had = rw (← c.self.view_is) at had_self in
        let part : length (take (16 * m) c.deref.result.now) ≡ 16 * m = length-take-le (16 * m) c.deref.result.now (omega (arith, c.min.ensures, c.len.ensures, c.deref.ensures.len)) in
        let shown = c.deref.ensures.value ∙ with_items_is r.bytes c.read_front.new.bytes (c.read_front.auto.bytes ∙ c.deref_mut.ensures.len) in
        let whole : c.in_ok-count.count ≡ 16 * m = omega (arith, c.in_ok-count.ensures.within.0, c.if-count-wanted.false) in
        let is : take (16 * m) c.deref.result.now ≡ take (16 * m) (drop (16 * r.given) (files r.file)) =
        ap (λ (l : List ℕ). take (16 * m) l) shown
        ∙ ap (λ (k : ℕ). take k c.read_front.new.bytes) (sym whole)
        ∙ (c.in_ok-count.ensures.bytes files told).bytes
        ∙ ap (λ (k : ℕ). take k (drop (16 * r.given) (files r.file))) whole in
        let last = had.last ∙ ap (λ (l : List Pair). last_from None l) (ap (λ (l : List Pair). pairs ++ l) none ∙ append-nil pairs) in
        let falls = falls_in r.entries m c.in-Err.place (files r.file) (take (16 * m) c.deref.result.now) pairs r.given r.last had.count (omega (arith, c.min.ensures, c.self.invariant.4))
        (read_words _ pairs _ had) (read_bytes _ pairs _ had files told) last is part c.in-Err.ensures.falls in
        let file : r.file ≡ c.args.self.now.file = ap (λ (v : Reader). v.file) c.self.view_is in
        let entries : r.entries ≡ c.args.self.now.entries = ap (λ (v : Reader). v.entries) c.self.view_is in (
          named ∙ file,
          inr (subst (λ (k : ℕ). FallsAt c.args.self.now.entries (files f) k) (sym place)
              (subst (λ (k : ℕ). FallsAt c.args.self.now.entries (files k) (16 * r.given + c.in-Err.place)) (sym named)
              (subst (λ (k : ℕ). FallsAt k (files r.file) (16 * r.given + c.in-Err.place)) entries falls))),
        );
    memory = search rules;
    full = search rules;
    taken = search rules;
    reads = search rules;
  };
}
