use Rattle.std.proofs.Common.{◌≡◌, ◌∙◌, Option, Err, ap, subst, sym, arith}
use Rattle.std.specs.Option.{ForSome}
use Rattle.std.proofs.lemmas.Result.{err_from_is_err_and}
use Rattle.irl_disk.specs.Disk.{Files}
use Rattle.irl_bay.specs.Drum.{Drum}
use Rattle.irl_bay.specs.Holding.{IsLong}
use Rattle.irl_ledger.specs.declared.ledger.Ledger.{Ledger}
use Rattle.irl_ledger.proofs.ToldPairs.{pairs_both, pairs_err, pairs_none, pairs_ok}
use Rattle.irl_ledger.proofs.ledger.Ledger.tell_pairs_to.Goals as goal

pub loop-self-init : goal.loop-self-init
loop-self-init g c = record {
  tells = pairs_none c.args.self.now (g.S.Store.told c.args.store.now) (g.met.S.Store.is_consistent c.args.store.now) (omega (arith, c.requires.told, c.requires.to));
  within = c.requires.told;
}

pub tell_piece-requires-clause-sound : goal.tell_piece-requires-clause-sound
tell_piece-requires-clause-sound g c =
    let pairs : c.loop-self.self.pairs ≡ c.args.self.now.pairs = ap (λ (l : Ledger). l.pairs) c.loop-self.invariant.tells.others in
    ap (λ (d : Drum). d.is_sound) pairs ∙ c.requires.sound

pub tell_piece-requires-clause-long : goal.tell_piece-requires-clause-long
tell_piece-requires-clause-long g c =
    let pairs : c.loop-self.self.pairs ≡ c.args.self.now.pairs = ap (λ (l : Ledger). l.pairs) c.loop-self.invariant.tells.others in
    subst (λ (files : Option Files). ForSome files (λ f. IsLong c.loop-self.self.pairs f)) (sym c.loop-self.invariant.tells.reads.reads.same)
    (subst (λ (d : Drum). ForSome (g.S.Store.told c.args.store.now).files (λ f. IsLong d f)) (sym pairs) c.requires.long)

pub returns-in_err-tell_piece-clause-tells : goal.returns-in_err-tell_piece-clause-tells
returns-in_err-tell_piece-clause-tells g c =
    let told = g.S.Store.told in
    let out = err_from_is_err_and c.from_residual.result c.from_residual.ensures.1 in
    pairs_err c.tell_piece.result c.from_residual.result _ c.args.self.now c.tell_piece.new.self (told c.args.store.now) (told c.tell_piece.new.store) c.in_err-tell_piece.was (out.1
    ∙ ap (λ e. Err e) out.2)
    (pairs_both c.tell_piece.result c.args.self.now c.loop-self.self c.tell_piece.new.self (told c.args.store.now) (told c.loop-self.store) (told c.tell_piece.new.store)
    c.is_sound-is_sound.ensures.drum
    (g.met.S.Store.is_consistent c.loop-self.store) c.loop-self.invariant.tells c.tell_piece.ensures.tells)

pub loop-self-preserved : goal.loop-self-preserved
loop-self-preserved g c =
    let told = g.S.Store.told in
    record {
      tells = pairs_ok c.tell_piece.result _ c.args.self.now c.tell_piece.new.self (told c.args.store.now) (told c.tell_piece.new.store) c.in_ok-tell_piece.was
          (pairs_both c.tell_piece.result c.args.self.now c.loop-self.self c.tell_piece.new.self (told c.args.store.now) (told c.loop-self.store) (told c.tell_piece.new.store)
          c.is_sound-is_sound.ensures.drum (g.met.S.Store.is_consistent c.loop-self.store) c.loop-self.invariant.tells c.tell_piece.ensures.tells);
      within = c.in_ok-tell_piece.ensures.within;
    }
