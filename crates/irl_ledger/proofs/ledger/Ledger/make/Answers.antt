use Rattle.std.proofs.Common.{◌≡◌, ◌∙◌, None, Err, IsErr, IsErrOf, refl, rules, sym, ap, subst}
use Rattle.irl_base.specs.declared.fault.Fault.TheVariants.{Failed}
use Rattle.irl_offer.specs.Settings.{AreValid}
use Rattle.irl_offer.specs.declared.settings.Settings.{Settings}
use Rattle.irl_model.specs.Book.{blank_book}
use Rattle.irl_disk.specs.Disk.{ChangesFile, Scribbled, TellsBy}
use Rattle.irl_disk.specs.Effects.{OnlyChanges}
use Rattle.irl_disk.proofs.Effects.{changes_for}
use Rattle.irl_layout.specs.BayFiles.{IsFileOf}
use Rattle.irl_bay.specs.Holding.{Holds}
use Rattle.irl_bay.specs.Making.{Makes}
use Rattle.irl_head.specs.StoreFiles.{crawl_file, pairs_base}
use Rattle.irl_log.specs.Log.{OpenLog}
use Rattle.irl_ledger.specs.declared.ledger.Ledger.{Ledger}
use Rattle.irl_ledger.proofs.Making.{both_changes, log_short, made_holds, made_open, pair_valid, refused_log, refused_pairs}
use Rattle.irl_ledger.proofs.ledger.Ledger.make.Goals as goal

-- ---- the bay of pairs
pub make-requires-clause-settings : goal.make-requires-clause-settings
make-requires-clause-settings g c = subst AreValid (sym c.pair_settings.ensures) (pair_valid c.args.settings.now c.requires.settings)

pub make-requires-clause-unmade : goal.make-requires-clause-unmade
make-requires-clause-unmade g c = λ files told f is. (c.requires.unmade files told).pairs f (subst (λ (s : Settings). IsFileOf pairs_base s.buckets f) c.pair_settings.ensures is)

pub returns-in_err-pairs : goal.returns-in_err-pairs
returns-in_err-pairs g c =
    let tells = g.S.Store.told in
    let was : c.make.result ≡ Err c.in_err-pairs.field-0.0 = search rules in
    let is : c.from_residual-in_err-pairs.result ≡ Err c.in_err-pairs.field-0.0 = search rules in
    refused_pairs c.make.result c.from_residual-in_err-pairs.result c.in_err-pairs.field-0.0 c.pair_settings.result c.args.settings.now c.args.store.now c.make.new.store (tells c.args.store.now)
    (tells c.make.new.store) was is c.pair_settings.ensures c.requires.settings c.make.ensures

-- ---- the log
pub make-requires-2-clause-short : goal.make-requires-2-clause-short
make-requires-2-clause-short g c =
    let tells = g.S.Store.told in
    log_short c.args.settings.now (tells c.args.store.now).files (tells c.make.new.store).files c.requires.settings
    (subst (λ (s : Settings). TellsBy (Makes pairs_base s.buckets) (tells c.args.store.now).files (tells c.make.new.store).files) c.pair_settings.ensures c.make.ensures.changes.told)
    c.requires.unmade

pub returns-in_err-log : goal.returns-in_err-log
returns-in_err-log g c =
    let tells = g.S.Store.told in
    let settings = c.args.settings.now in
    let is : c.from_residual-in_err-log.result ≡ Err Failed = search rules in
    let was : IsErr c.make-2.result = search rules in
    let bay = subst (λ (s : Settings). OnlyChanges (Makes pairs_base s.buckets) (IsErrOf c.make.result Failed) (tells c.args.store.now) (tells c.make.new.store)) c.pair_settings.ensures
    c.make.ensures.changes in
    refused_log c.from_residual-in_err-log.result _ _ settings c.args.store.now c.make-2.new.store (tells c.args.store.now) (tells c.make.new.store) (tells c.make-2.new.store) is was
    c.requires.settings (g.met.S.Store.is_consistent c.make.new.store) bay c.make-2.ensures.changes

pub returns : goal.returns
returns g c =
    let tells = g.S.Store.told in
    let settings = c.args.settings.now in
    let law = g.met.S.Store.is_consistent in
    let bay = subst (λ (s : Settings). OnlyChanges (Makes pairs_base s.buckets) (IsErrOf c.make.result Failed) (tells c.args.store.now) (tells c.make.new.store)) c.pair_settings.ensures
    c.make.ensures.changes in
    let drum = c.in_ok-pairs.ensures in
    let log = c.in_ok-log.ensures in
    let held = subst (λ (s : Settings). Holds (tells c.make.new.store).images c.in_ok-pairs.pairs (blank_book s.buckets s.rule)) c.pair_settings.ensures drum.holds in
    let ledger : Ledger = record { alloc = c.args.alloc; pairs = c.in_ok-pairs.pairs; log = c.in_ok-log.log; frontier = c.in_ok-frontier.frontier; suffixes = None; notes = c.new-2.result } in
    record {
      holds = made_holds settings (tells c.make.new.store) (tells c.make-2.new.store) ledger c.requires.settings (law c.make-2.new.store) c.in_ok-frontier.ensures refl c.new-2.ensures drum.drum
          drum.base
          (drum.settings ∙ c.pair_settings.ensures) held log.holds log.log c.make-2.ensures.changes.stops;
      sound = (drum.sound, ap (λ (l : OpenLog). l.journal.is_sound) log.log);
      is_open = made_open settings (tells c.make.new.store) (tells c.make-2.new.store) ledger c.requires.settings (law c.make-2.new.store) c.in_ok-frontier.ensures refl c.new-2.ensures drum.drum
          drum.base
          (drum.settings ∙ c.pair_settings.ensures) held log.holds log.log c.make-2.ensures.changes.stops (tells c.make.new.store).files log.ok;
      changes = both_changes settings _ _ (tells c.args.store.now) (tells c.make.new.store) (tells c.make-2.new.store) c.requires.settings (law c.make.new.store) bay
          (changes_for (ChangesFile crawl_file (Scribbled 0 1)) _ _ (tells c.make.new.store) (tells c.make-2.new.store) (λ is. let no : ⊥ = cc in absurd no) c.make-2.ensures.changes);
      memory_same = λ is. cc;
      full = λ n is. cc;
      damaged = λ f at is. cc;
    }
