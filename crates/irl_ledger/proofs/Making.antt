-- A ledger that was just made: it holds no pair and no event, whatever URLs stand beside.
use Rattle.std.proofs.Common.{◌≡◌, ◌∙◌, inl, inr, ℕ, zero, suc, ◌<◌, ◌≤◌, List, [], ◌∷◌, filter, length, replicate, nat_le, nat_lt, ◌&&◌, map, is_some, true, Option, None, Some, Result, Err, IsErrOf, refl, sym, ap, subst, arith}
use Rattle.std.proofs.Math.Bool.{and-false}
use Rattle.std.proofs.lemmas.Bool.{le-ltb}
use Rattle.std.proofs.lemmas.List.{get_or-replicate}
use Rattle.std.specs.List.{AllByRecursion}
use Rattle.std.specs.Option.{ForSome}
use Rattle.irl_base.specs.declared.fault.Fault.{Fault}
use Rattle.irl_base.specs.declared.fault.Fault.TheVariants.{Damaged, Failed, Full, Memory}
use Rattle.irl_offer.specs.Settings.{AreValid}
use Rattle.irl_offer.specs.Tuple.{Tuple}
use Rattle.irl_offer.specs.declared.offer.Rule.TheVariants.{Keep}
use Rattle.irl_offer.specs.declared.settings.Settings.{Settings}
use Rattle.irl_star.proofs.Counting.{counts_none}
use Rattle.irl_star.specs.Degrees.{Counts}
use Rattle.irl_model.specs.Book.{Book, blank_book, uniques}
use Rattle.irl_frontier.specs.Frontier.{Frontier, new_frontier}
use Rattle.irl_disk.specs.Disk.{Files, Changes, ChangesFile, Scribbled, TellsBy}
use Rattle.irl_disk.specs.Effects.{OnlyChanges}
use Rattle.irl_disk.specs.Images.{Told, IsConsistent, LeavesBy}
use Rattle.irl_disk.proofs.Effects.{changes_for, changes_then, changes_wider}
use Rattle.irl_layout.specs.BayFiles.{IsFileOf}
use Rattle.irl_bay.specs.Drum.{Drum, IsDrum, durable_at}
use Rattle.irl_bay.specs.Holding.{Holds}
use Rattle.irl_bay.specs.Making.{IsJournalOn, Makes, MakesBay}
use Rattle.irl_bay.proofs.Apart.{files_within, holds_beside, journal_files}
use Rattle.irl_bay.proofs.Standing.{holds_long}
use Rattle.irl_bay.proofs.Staying.{leaves_one, only_both, only_one, only_wider}
use Rattle.irl_head.specs.StoreFiles.{crawl_file, pairs_base, urls_base}
use Rattle.irl_log.specs.Log.{HoldsLog, OpenLog}
use Rattle.irl_ledger.specs.declared.ledger.Ledger.{Ledger}
use Rattle.irl_ledger.specs.Crawling.{pair_settings}
use Rattle.irl_ledger.specs.Holding.{FitsBays, HoldsLedger, IsFrontierOf, IsItemOf, IsOpenLedger, domain_by}
use Rattle.irl_ledger.specs.Noting.{AreWithin, no_notes}
use Rattle.irl_ledger.proofs.Noting.{none_within}
use Rattle.irl_ledger.specs.Making.{IsNewJournal, IsUnmadeCrawl, MakesCrawl, MakesLedger}

-- ---- the files
pub small : (settings : Settings) → AreValid settings → settings.buckets ≤ 64
small settings valid = let count = valid.buckets in grind arith

pub pair_valid : (settings : Settings) → AreValid settings → AreValid (pair_settings settings)
pair_valid settings valid = record {
  buckets = valid.buckets;
  sizes = record { array = valid.sizes.array; trigger = valid.sizes.trigger; block = valid.sizes.block; cap = valid.sizes.cap };
  budgets = record { queues = valid.budgets.queues; base = valid.budgets.base; most = valid.budgets.most; ranks = valid.budgets.ranks };
}

-- the log's file is none of the bay's
pub log_apart : (buckets : ℕ) → buckets ≤ 64 → IsFileOf pairs_base buckets crawl_file → ⊥
log_apart buckets few is = omega (arith, (files_within pairs_base buckets crawl_file few is).0)

on_journal : (buckets f : ℕ) → IsJournalOn pairs_base 0 buckets f → IsFileOf pairs_base buckets f
on_journal buckets f (inl manifest) = journal_files pairs_base buckets f (inl manifest)
on_journal buckets f (inr (b, within, is)) = journal_files pairs_base buckets f (inr (0, b, omega arith, within, is))

-- ---- steps
pub makes_both : (buckets : ℕ) (x y z : Files) → MakesCrawl buckets x y → MakesCrawl buckets y z → MakesCrawl buckets x z
makes_both buckets x y z first second = record {
  others = only_both (IsNewJournal buckets) x y z first.others second.others;
  unmade = λ was. second.unmade (first.unmade was);
}

-- the bay of pairs
bay_makes : (buckets : ℕ) (x y : Files) → buckets ≤ 64 → Makes pairs_base buckets x y → MakesCrawl buckets x y
bay_makes buckets x y few makes = record {
  others = only_wider (IsJournalOn pairs_base 0 buckets) (IsNewJournal buckets) x y (λ f is. inr is) makes.others;
  unmade = λ was. record {
    log = subst (λ (file : List ℕ). length file ≤ 1) (sym (makes.others crawl_file (λ is. log_apart buckets few (on_journal buckets crawl_file is)))) was.log;
    pairs = makes.unmade was.pairs;
  };
}

-- and the log
log_makes : (buckets : ℕ) (x y : Files) → buckets ≤ 64 → ChangesFile crawl_file (Scribbled 0 1) x y → MakesCrawl buckets x y
log_makes buckets x y few changes = record {
  others = only_one (IsNewJournal buckets) crawl_file (Scribbled 0 1) x y (inl refl) changes;
  unmade = λ was. record {
    log = omega (arith, was.log, changes.changed.no_longer);
    pairs = λ f is. subst (λ (file : List ℕ). length file ≤ 1) (sym (changes.others f (λ e. log_apart buckets few (subst (IsFileOf pairs_base buckets) e is)))) (was.pairs f is);
  };
}

pub bay_changes : (settings : Settings) (failed : Type 0) (old new : Told) → AreValid settings → OnlyChanges (Makes pairs_base settings.buckets) failed old new
    → OnlyChanges (MakesCrawl settings.buckets) failed old new
bay_changes settings failed old new valid changes =
    changes_wider (Makes pairs_base settings.buckets) (MakesCrawl settings.buckets) failed old new (λ x y. bay_makes settings.buckets x y (small settings valid)) changes

pub both_changes : (settings : Settings) (failed answered : Type 0) (old mid new : Told) → AreValid settings → IsConsistent mid → OnlyChanges (Makes pairs_base settings.buckets) failed old mid
    → OnlyChanges (ChangesFile crawl_file (Scribbled 0 1)) answered mid new → OnlyChanges (MakesCrawl settings.buckets) answered old new
both_changes settings failed answered old mid new valid law bay log =
    changes_then (MakesCrawl settings.buckets) failed answered old mid new law (makes_both settings.buckets) (bay_changes settings failed old mid valid bay)
    (changes_wider (ChangesFile crawl_file (Scribbled 0 1)) (MakesCrawl settings.buckets) answered mid new (λ x y. log_makes settings.buckets x y (small settings valid)) log)

-- the log isn't made yet
pub log_short : (settings : Settings) (old new : Option Files) → AreValid settings → TellsBy (Makes pairs_base settings.buckets) old new → ForSome old (IsUnmadeCrawl settings.buckets)
    → ForSome new (λ files. length (files crawl_file) ≤ 1)
log_short settings None new valid makes unmade = λ files told. cc
log_short settings (Some old) new valid makes unmade = λ files told.
    let same : makes.0 ≡ files = cc in
    subst (λ (f : Files). length (f crawl_file) ≤ 1) same ((bay_makes settings.buckets old makes.0 (small settings valid) makes.2).unmade (unmade old refl)).log

-- ---- the tables
none_told : (list : List (ℕ × Tuple)) → filter (λ p. nat_le 0 p.0 && nat_lt p.0 0) list ≡ []
none_told [] = refl
none_told (p ∷ list) = rw (le-ltb p.0 0 (omega arith), and-false (nat_le 0 p.0)) (none_told list)

none_wait : (domain : List ℕ → List ℕ) (urls : Book) (count : ℕ) → AllByRecursion (λ list. AllByRecursion (IsItemOf domain urls) list) (replicate count [])
none_wait domain urls zero = tt
none_wait domain urls (suc count) = (tt, none_wait domain urls count)

pub new_tables : (settings : Settings) (urls pairs : Book) → IsFrontierOf settings urls pairs [] (new_frontier settings)
new_tables settings urls pairs = record {
  settings_are = refl;
  progress_is = refl;
  items = none_wait (domain_by []) urls 65;
  degrees = subst (λ (list : List (ℕ × Tuple)). Counts (new_frontier settings).degrees (map (λ p. p.1.aux) list)) (sym (none_told (uniques pairs))) counts_none;
}

pub new_fits : (settings : Settings) (urls pairs : Drum) → urls.settings ≡ settings → FitsBays urls pairs (new_frontier settings)
new_fits settings urls pairs is = record {
  settings = sym is;
  cuts = omega arith;
  sent = omega arith;
  read = omega arith;
  fronts = λ b within. subst (λ (n : ℕ). n ≤ durable_at urls b) (sym (get_or-replicate settings.buckets b 0 0 (subst (λ (s : Settings). b < s.buckets) is within))) (omega arith);
  pairs_sent = omega arith;
  told = omega arith;
}

-- ---- the ledger
module _ (settings : Settings) (mid new : Told) (ledger : Ledger) (valid : AreValid settings) (law : IsConsistent new) (frontier : ledger.frontier ≡ new_frontier settings)
    (none : ledger.suffixes ≡ None) (blank : ledger.notes ≡ no_notes)
    (drum : IsDrum ledger.pairs) (base : ledger.pairs.base ≡ pairs_base) (same : ledger.pairs.settings ≡ pair_settings settings)
    (held : Holds mid.images ledger.pairs (blank_book settings.buckets Keep)) (log : HoldsLog new.images ledger.log [])
    (log_is : ledger.log ≡ record { journal = record { file = crawl_file; end = 0; is_sound = true }; buckets = settings.buckets })
    (stops : LeavesBy (ChangesFile crawl_file (Scribbled 0 1)) mid new) where
  pairs_held : Holds new.images ledger.pairs (blank_book settings.buckets Keep)
  pairs_held =
      holds_beside (λ f. f ≡ crawl_file) mid new ledger.pairs (blank_book settings.buckets Keep) drum law (leaves_one (λ f. f ≡ crawl_file) crawl_file (Scribbled 0 1) mid new refl stops)
      (λ f is e. log_apart settings.buckets (small settings valid)
      (subst (λ (n : ℕ). IsFileOf n settings.buckets crawl_file) base (subst (λ (s : Settings). IsFileOf ledger.pairs.base s.buckets crawl_file) same
      (subst (IsFileOf ledger.pairs.base ledger.pairs.settings.buckets) e is))))
      held

  pub made_holds : (urls : Book) → HoldsLedger new.images settings ledger urls (blank_book settings.buckets Keep) []
  made_holds urls = record {
    pairs_hold = pairs_held;
    log = log;
    frontier = subst (IsFrontierOf settings urls (blank_book settings.buckets Keep) []) (sym frontier) (new_tables settings urls (blank_book settings.buckets Keep));
    suffixes = none;
    log_ends = ap (λ (l : OpenLog). l.journal.end) log_is;
    notes = blank;
  }

  pub made_open : (after : Option Files) → Changes crawl_file (λ _ now. now ≡ 0 ∷ []) after new.files → (urls : Drum) → urls.base ≡ urls_base → urls.settings ≡ settings
      → IsOpenLedger urls ledger new.files
  made_open before wrote urls at is = record {
    urls_at = at;
    drum = drum;
    base = base;
    settings = same ∙ ap pair_settings (sym is);
    file = ap (λ (l : OpenLog). l.journal.file) log_is;
    buckets = ap (λ (l : OpenLog). l.buckets) log_is ∙ ap (λ (s : Settings). s.buckets) (sym is);
    long = λ sound files told. holds_long new ledger.pairs (blank_book settings.buckets Keep) files law pairs_held told;
    log_long = λ sound files told.
        subst (λ (n : ℕ). n < length (files crawl_file)) (sym (ap (λ (l : OpenLog). l.journal.end) log_is)) (one_byte before new.files files wrote told);
    fits = subst (FitsBays urls ledger.pairs) (sym frontier) (new_fits settings urls ledger.pairs is);
    begun = ap (λ (x : Frontier). x.progress.begun) frontier ∙ sym (ap is_some none);
    noted = subst (AreWithin ledger.log.journal.end) (sym blank) (none_within ledger.log.journal.end);
  }
    where
      one_byte : (before after : Option Files) (files : Files) → Changes crawl_file (λ _ now. now ≡ 0 ∷ []) before after → after ≡ Some files → 0 < length (files crawl_file)
      one_byte None after files changes told = cc
      one_byte (Some old) after files changes told =
          let here : changes.0 ≡ files = cc in
          let file : files crawl_file ≡ 0 ∷ [] = subst (λ (f : Files). f crawl_file ≡ 0 ∷ []) here changes.2.changed in
          rw file (omega arith)

-- ---- what is answered
-- the bay of pairs is refused
pub refused_pairs : {S : Type 0} (result : Result Drum Fault) (answer : Result Ledger Fault) (fault : Fault) (given settings : Settings) (old new : S) (before after : Told) → result ≡ Err fault
    → answer ≡ Err fault → given ≡ pair_settings settings → AreValid settings → MakesBay result pairs_base given old new before after → MakesLedger answer settings old new before after
refused_pairs result answer fault given settings old new before after was is same valid makes =
    let bay : MakesBay (Err fault) pairs_base (pair_settings settings) old new before after =
    subst (λ (s : Settings). MakesBay (Err fault) pairs_base s old new before after) same (subst (λ (r : Result Drum Fault). MakesBay r pairs_base given old new before after) was makes) in
    subst (λ (a : Result Ledger Fault). MakesLedger a settings old new before after) (sym is) (record {
      holds = tt;
      sound = tt;
      is_open = tt;
      changes = bay_changes settings _ before after valid (changes_for (Makes pairs_base settings.buckets) _ _ before after (λ e. other_of fault Failed e) bay.changes);
      memory_same = λ e. bay.memory_same (other_of fault Memory e);
      full = λ n e. bay.full n (other_of fault (Full n) e);
      damaged = λ f at e. bay.damaged f at (other_of fault (Damaged f at) e);
    })
  where
    other_of : (fault asked : Fault) → IsErrOf {T = Ledger} (Err fault) asked → IsErrOf {T = Drum} (Err fault) asked
    other_of fault asked is = let same : fault ≡ asked = cc in ap (λ (e : Fault). Err e) same

-- the log is refused
pub refused_log : {S : Type 0} (answer : Result Ledger Fault) (failed wrote : Type 0) (settings : Settings) (old new : S) (before mid after : Told) → answer ≡ Err Failed → failed → AreValid settings
    → IsConsistent mid → OnlyChanges (Makes pairs_base settings.buckets) wrote before mid → OnlyChanges (ChangesFile crawl_file (Scribbled 0 1)) failed mid after
    → MakesLedger answer settings old new before after
refused_log answer failed wrote settings old new before mid after is has valid law bay log =
    subst (λ (a : Result Ledger Fault). MakesLedger a settings old new before after) (sym is) (record {
      holds = tt;
      sound = tt;
      is_open = tt;
      changes = both_changes settings wrote _ before mid after valid law bay (changes_for (ChangesFile crawl_file (Scribbled 0 1)) failed _ mid after (λ e. has) log);
      memory_same = λ e. cc;
      full = λ n e. cc;
      damaged = λ f at e. cc;
    })
