-- Each put is one stretch more.
use Rattle.std.proofs.Common.{◌≡◌, ◌∙◌, ◌+◌, ◌++◌, [], ◌∷◌, ℕ, suc, List, Option, Some, take, drop, get_or, take_all, drop-cons, refl, sym, subst, ap, arith, append_assoc, rules}
use Rattle.std.proofs.lemmas.List.{append-nil, take_more}
use Rattle.irl_offer.specs.declared.receipt.Pair.{Pair}
use Rattle.irl_cache.specs.SortedRun.{RisesFrom}
use Rattle.irl_cache.specs.Writing.{HasWritten}
use Rattle.irl_disk.proofs.Effects.{changes_none, changes_for}
use Rattle.irl_journal.proofs.Fronts.{keeps_none}
use Rattle.irl_journal.proofs.Growing.{on_err}
use Rattle.irl_cache.proofs.Growing.{went_on}
use Rattle.irl_cache.proofs.writer.CacheWriter.put_all.Goals as goal

abbrev none : Pair
none = record { key = 0; value = 0 }

pub loop-pair-init : goal.loop-pair-init
loop-pair-init g c = record {
  written = λ before had. subst (λ (pairs : List Pair). HasWritten (g.S.Store.told c.args.store.now).files pairs c.args.self.now) (sym (append-nil before)) had;
  end = omega arith;
  file = refl;
  long = c.requires.long;
  rise = c.requires.rising;
  went = changes_none _ (g.S.Store.told c.args.store.now) (g.met.S.Store.is_consistent c.args.store.now) (λ x. record { changed = keeps_none 0 (x c.args.self.now.out.file); others = λ g out. refl });
}

pub put-requires-clause-long : goal.put-requires-clause-long
put-requires-clause-long g c = c.loop-pair.invariant.long

pub put-requires-clause-above : goal.put-requires-clause-above
put-requires-clause-above g c = (rw (drop-cons c.args.pairs.now c.loop-pair.pair-index none c.loop-pair-test.true) at c.loop-pair.invariant.rise).0

-- a put that failed
pub returns-in_err-put : goal.returns-in_err-put
returns-in_err-put g c = record {
  written = search rules;
  written_some =
      let i = c.loop-pair.pair-index in
      on_err c.from_residual.result (λ before had. (
        i,
        omega (arith, c.loop-pair.auto.pair-index-end),
        c.in_err-put.ensures.written_before (before ++ take i c.args.pairs.now)
            (c.loop-pair.invariant.written before had),
      ));
  end = search rules;
  file = c.put.ensures.puts.file ∙ c.loop-pair.invariant.file;
  long = search rules;
  changes =
      let tells = g.S.Store.told in
      changes_for _ _ _ (tells c.args.store.now) (tells c.put.new.store) (λ failed. refl)
      (went_on c.args.self.now.out.file c.loop-pair.self.out.file _ (tells c.args.store.now) (tells c.loop-pair.store) (tells c.put.new.store) (g.met.S.Store.is_consistent c.loop-pair.store)
      c.loop-pair.invariant.file c.loop-pair.invariant.went c.in_err-put.ensures.puts.changes);
}

pub loop-pair-preserved : goal.loop-pair-preserved
loop-pair-preserved g c =
    let tells = g.S.Store.told in
    let pairs = c.args.pairs.now in
    let i = c.loop-pair.pair-index in
    let pair = get_or pairs i none in
    let next : suc i ≡ i + 1 = omega arith in
    let rest = rw (drop-cons pairs i none c.loop-pair-test.true) at c.loop-pair.invariant.rise in
    record {
      written = λ before had.
          subst (λ (l : List Pair). HasWritten (tells c.put.new.store).files l c.put.new.self)
          (append_assoc before (take i pairs) (pair ∷ []) ∙ ap (λ (l : List Pair). before ++ l) (sym (take_more pairs i none c.loop-pair-test.true)))
          (c.in_ok-put.ensures.puts.written (before ++ take i pairs) (c.loop-pair.invariant.written before had));
      end = omega (arith, c.loop-pair.invariant.end, c.in_ok-put.ensures.puts.end);
      file = c.put.ensures.puts.file ∙ c.loop-pair.invariant.file;
      long = c.put.ensures.puts.long;
      rise = subst (λ (last : Option ℕ). RisesFrom last (drop (i + 1) pairs)) (sym c.in_ok-put.ensures.last) (subst (λ (n : ℕ). RisesFrom (Some pair.key) (drop n pairs)) next rest.1);
      went = changes_for _ _ ⊥ (tells c.args.store.now) (tells c.put.new.store) (λ none. absurd none)
          (went_on c.args.self.now.out.file c.loop-pair.self.out.file _ (tells c.args.store.now) (tells c.loop-pair.store) (tells c.put.new.store) (g.met.S.Store.is_consistent c.loop-pair.store)
          c.loop-pair.invariant.file c.loop-pair.invariant.went c.put.ensures.puts.changes);
    }

pub returns : goal.returns
returns g c = record {
  written = λ before had.
      let all : take c.loop-pair.pair-index c.args.pairs.now ≡ c.args.pairs.now = take_all _ _ c.loop-pair-test.false in
      subst (λ (pairs : List Pair). HasWritten (g.S.Store.told c.loop-pair.store).files (before ++ pairs) c.loop-pair.self) all (c.loop-pair.invariant.written before had);
  written_some = search rules;
  end = omega (arith, c.loop-pair.invariant.end, c.loop-pair-test.false, c.loop-pair.auto.pair-index-end);
  file = c.loop-pair.invariant.file;
  long = c.loop-pair.invariant.long;
  changes =
      let went = c.loop-pair.invariant.went in
      record { told = went.told; stops = went.stops; taken = went.taken; cause = search rules };
}
