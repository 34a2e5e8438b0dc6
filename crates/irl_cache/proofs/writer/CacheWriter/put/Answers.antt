use Rattle.std.proofs.Common.{List, ℕ, [], ◌∷◌, ◌++◌, map, sym, subst, rules}
use Rattle.std.specs.Option.{ForSome}
use Rattle.irl_model.specs.Pairs.{pair_of}
use Rattle.irl_cache.specs.SortedRun.{pairs_bytes}
use Rattle.irl_journal.specs.Growing.{HasPut, ReachesPlace}
use Rattle.irl_cache.specs.Writing.{RunWriter}
use Rattle.irl_cache.proofs.Growing.{none_more, written_more}
use Rattle.irl_cache.proofs.writer.CacheWriter.put.Goals as goal

pub put-requires : goal.put-requires
put-requires g c = subst (λ (v : RunWriter). ForSome (g.S.Store.told c.args.store.now).files (ReachesPlace v.out)) (sym c.self.view_is) c.requires.long

pub returns-in_err-put-clause-puts : goal.returns-in_err-put-clause-puts
returns-in_err-put-clause-puts g c = record {
  written = search rules;
  written_some = none_more c.from_residual.result (c.args.pair ∷ []) c.args.self.now _ (g.S.Store.told c.args.store.now).files (g.S.Store.told c.put.new.store).files (search rules);
  end = search rules;
  file = search rules;
  long = search rules;
  changes = search rules;
}

pub returns-clause-puts : goal.returns-clause-puts
returns-clause-puts g c = record {
  written = λ pairs had.
      let tells = g.S.Store.told in
      let before = pairs_bytes (map pair_of pairs) in
      let had_put = subst (λ (v : RunWriter). HasPut (tells c.args.store.now).files before v.out) (sym c.self.view_is) had.put in
      let put = subst (λ (bytes : List ℕ). HasPut (tells c.put.new.store).files (before ++ bytes) c.put.new.self) c.pair_bytes.ensures (c.in_ok-put.ensures.put before had_put) in
      written_more (tells c.put.new.store).files pairs c.args.pair c.args.self.now (tells c.args.store.now).files c.put.new.self had c.requires.above put;
  written_some = search rules;
  end = search rules;
  file = search rules;
  long = search rules;
  changes = search rules;
}
