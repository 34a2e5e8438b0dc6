-- What a new store has beside its bay of URLs is made, by its kind.
use Rattle.std.proofs.Common.{◌≡◌, ◌≢◌, ◌∙◌, ◌⊎◌, inl, inr, ℕ, ◌≤◌, List, [], length, Option, Result, Ok, Err, IsErrOf, refl, sym, ap, subst, arith}
use Rattle.std.specs.Option.{ForSome}
use Rattle.irl_base.specs.Faults.{HasCause}
use Rattle.irl_base.specs.declared.fault.Fault.{Fault}
use Rattle.irl_base.specs.declared.fault.Fault.TheVariants.{Failed as BayFailed, Memory as BayMemory, Full as BayFull, Damaged as BayDamaged}
use Rattle.irl_offer.specs.Settings.{AreValid}
use Rattle.irl_offer.specs.declared.offer.Rule.TheVariants.{Keep}
use Rattle.irl_offer.specs.declared.settings.Asked.{Asked}
use Rattle.irl_offer.specs.declared.settings.Kind.{Kind}
use Rattle.irl_offer.specs.declared.settings.Kind.TheVariants.{Lines, Tuples, Crawl as CrawlKind}
use Rattle.irl_offer.specs.declared.settings.Settings.{Settings}
use Rattle.irl_model.specs.Book.{Book, blank_book}
use Rattle.irl_events.specs.Events.{Happened}
use Rattle.irl_disk.specs.Disk.{Files}
use Rattle.irl_disk.specs.Effects.{OnlyChanges}
use Rattle.irl_disk.specs.Images.{Told, IsConsistent, LeavesSame}
use Rattle.irl_disk.proofs.Effects.{changes_for, changes_wider, told_none}
use Rattle.irl_disk.proofs.Stretches.{same_by}
use Rattle.irl_journal.specs.Format.{HasRecords}
use Rattle.irl_bay.specs.Drum.{Drum}
use Rattle.irl_bay.specs.Making.{IsJournalOf}
use Rattle.irl_bay.specs.Standing.{Stands}
use Rattle.irl_bay.proofs.Standing.{holds_stands}
use Rattle.irl_head.specs.declared.open_fault.OpenFault.{OpenFault}
use Rattle.irl_head.specs.declared.open_fault.OpenFault.TheVariants.{Failed, Memory}
use Rattle.irl_head.specs.Opening.{IsUnwanted}
use Rattle.irl_head.specs.StoreFiles.{crawl_file, pairs_base, urls_base}
use Rattle.irl_log.specs.Log.{AreLogged}
use Rattle.irl_log.specs.Spelling.{log_records}
use Rattle.irl_ledger.specs.declared.ledger.Ledger.{Ledger}
use Rattle.irl_ledger.specs.Crawling.{AreCrawlFiles, events_of, pair_settings}
use Rattle.irl_ledger.specs.Holding.{HoldsLedger, IsOpenLedger}
use Rattle.irl_ledger.specs.Making.{IsNewJournal, MakesCrawl, MakesLedger}
use Rattle.irl_yard.specs.declared.parts.Rest.{Rest}
use Rattle.irl_yard.specs.declared.parts.Rest.TheVariants.{Plain, Crawl}
use Rattle.irl_yard.specs.Entering.{AreSynced, HasGround, IsKindJournal, fault_of_bay}
use Rattle.irl_yard.specs.Making.{MakesRest, RestMade}
use Rattle.irl_yard.specs.Standing.{ArePlainFiles, HasRest}
use Rattle.irl_yard.proofs.Beside.{crawl_open, plain_open}
use Rattle.irl_yard.proofs.ByKind.{new_has}
use Rattle.irl_yard.proofs.RestFiles.{pairs_rest}

-- ---- a store of lines or of tuples
pub no_crawl : (kind : Kind) → (kind ≡ Lines) ⊎ (kind ≡ Tuples) → kind ≢ CrawlKind
no_crawl kind (inl lines) is = cc
no_crawl kind (inr tuples) is = cc

rest_none : (kind : Kind) (buckets : ℕ) (x : Files) → MakesRest kind buckets x x
rest_none kind buckets x = record { others = λ f out. refl; unmade = λ was. was }

still_rest : (settings : Settings) (failed : Type 0) (old new : Told) → new.files ≡ old.files → LeavesSame old new → new.taken ≡ old.taken → HasCause failed old.faults new.faults
    → OnlyChanges (MakesRest settings.kind settings.buckets) failed old new
still_rest settings failed old new same stops taken cause = record {
  told = told_none (MakesRest settings.kind settings.buckets) old.files new.files (rest_none settings.kind settings.buckets) same;
  stops = same_by old new (MakesRest settings.kind settings.buckets) (rest_none settings.kind settings.buckets) stops;
  taken = taken;
  cause = cause;
}

-- its files beside are synced,
pub plain_made : (settings : Settings) (failed : Type 0) (old new : Told) → settings.kind ≢ CrawlKind → AreValid settings → IsConsistent new → ForSome old.files (ArePlainFiles settings.buckets)
    → ForSome old.files (AreSynced new.images settings.buckets) → new.files ≡ old.files → LeavesSame old new → new.taken ≡ old.taken → HasCause failed old.faults new.faults
    → RestMade (Ok Plain) settings old new
plain_made settings failed old new plain valid law unmade synced same stops taken cause = record {
  holds = λ urls. plain;
  stops = λ image left.
      let told = law.tells image left in
      let was = sym same ∙ told.1 in
      let stays = synced told.0 was image left in
      let files = unmade told.0 was in
      new_has settings.kind settings image valid (record {
        crawl = subst (λ (file : List ℕ). length file ≤ 1) (sym (stays crawl_file (inl refl))) files.crawl;
        pairs = λ f is. subst (λ (file : List ℕ). length file ≤ 1) (sym (stays f (pairs_rest settings.buckets f is))) (files.pairs f is);
      });
  sound = tt;
  is_open = λ urls at is. plain_open urls new.files (subst (λ (s : Settings). s.kind ≢ CrawlKind) (sym is) plain);
  changes = still_rest settings _ old new same stops taken (record { later = cause.later; rose = λ is. (let no : ⊥ = cc in absurd no) });
  fault = tt;
}

-- or a sync fails
pub plain_refused : (answer : Result Rest OpenFault) (settings : Settings) (failed : Type 0) (old new : Told) → answer ≡ Err Failed → failed → new.files ≡ old.files → LeavesSame old new
    → new.taken ≡ old.taken → HasCause failed old.faults new.faults → RestMade answer settings old new
plain_refused answer settings failed old new is has same stops taken cause = subst (λ (a : Result Rest OpenFault). RestMade a settings old new) (sym is) (record {
  holds = tt;
  stops = tt;
  sound = tt;
  is_open = tt;
  changes = still_rest settings _ old new same stops taken (record { later = cause.later; rose = λ e. cause.rose has });
  fault = inl refl;
})

-- ---- a store of a crawl
kind_new : (kind : Kind) (buckets f : ℕ) → kind ≡ CrawlKind → IsNewJournal buckets f → IsKindJournal kind buckets f
kind_new kind buckets f is journal = subst (λ (k : Kind). IsKindJournal k buckets f) (sym is) (of journal)
  where
    of : IsNewJournal buckets f → (f ≡ crawl_file) ⊎ IsJournalOf pairs_base buckets f
    of (inl log) = inl log
    of (inr (inl manifest)) = inr (inl manifest)
    of (inr (inr (b, within, e))) = inr (inr (0, b, omega arith, within, e))

crawl_rest : (kind : Kind) (buckets : ℕ) (x y : Files) → kind ≡ CrawlKind → MakesCrawl buckets x y → MakesRest kind buckets x y
crawl_rest kind buckets x y is makes = record {
  others = λ f out. makes.others f (λ journal. out (kind_new kind buckets f is journal));
  unmade = λ was. let now = makes.unmade (record { log = was.crawl; pairs = was.pairs }) in record { crawl = now.log; pairs = now.pairs };
}

-- what it holds stands in each image
pub crawl_files : (settings : Settings) (images : Files → Type 0) (ledger : Ledger) (urls : Drum) (told : Option Files) (book pairs : Book) (events : List Happened) (image : Files) → images image
    → urls.settings ≡ settings → IsOpenLedger urls ledger told → HoldsLedger images settings ledger book pairs events → AreCrawlFiles settings pairs events image
crawl_files settings images ledger urls told book pairs events image left same is held =
    let stands = holds_stands images ledger.pairs pairs image is.drum held.pairs_hold left in
    record {
      pairs_stand = subst (λ (s : Settings). Stands pairs_base (pair_settings s) pairs image) same
          (subst (λ (s : Settings). Stands pairs_base s pairs image) is.settings
          (subst (λ (n : ℕ). Stands n ledger.pairs.settings pairs image) is.base stands));
      log = record {
        each = subst (λ (n : ℕ). AreLogged n (events_of events)) (is.buckets ∙ ap (λ (s : Settings). s.buckets) same) held.log.each;
        records = inr (subst (λ (f : ℕ). HasRecords (image f) (log_records (events_of events))) is.file (held.log.records image left).records);
      };
    }

-- its ledger is made,
pub crawl_made : {S : Type 0} (result : Result Ledger Fault) (ledger : Ledger) (settings : Settings) (old new : S) (before after : Told) → result ≡ Ok ledger → settings.kind ≡ CrawlKind
    → MakesLedger result settings old new before after → RestMade (Ok (Crawl ledger)) settings before after
crawl_made result ledger settings old new before after is kind makes =
    let made : MakesLedger (Ok ledger) settings old new before after = subst (λ (r : Result Ledger Fault). MakesLedger r settings old new before after) is makes in
    let changes = changes_for (MakesCrawl settings.buckets) _ (IsErrOf {T = Rest} (Ok (Crawl ledger)) Failed) before after (λ e. let no : ⊥ = cc in absurd no) made.changes in
    record {
      holds = λ urls. (kind, made.holds urls);
      stops = λ image left.
          let held = made.holds (blank_book settings.buckets Keep) in
          let beside : Drum = record ledger.pairs { base = urls_base; settings = settings } in
          subst (λ (k : Kind). HasRest k settings (blank_book settings.buckets Keep) [] image) (sym kind)
          (crawl_files settings after.images ledger beside after.files (blank_book settings.buckets Keep) (blank_book settings.buckets Keep) [] image left refl
          (made.is_open beside refl refl) held);
      sound = made.sound;
      is_open = λ urls at same. crawl_open urls ledger after.files (ap (λ (s : Settings). s.kind) same ∙ kind) (made.is_open urls at same);
      changes = changes_wider (MakesCrawl settings.buckets) (MakesRest settings.kind settings.buckets) _ before after (λ x y. crawl_rest settings.kind settings.buckets x y kind) changes;
      fault = tt;
    }

-- or is refused
pub crawl_refused : {S : Type 0} (result : Result Ledger Fault) (fault : Fault) (settings : Settings) (old new : S) (before after : Told) → result ≡ Err fault → settings.kind ≡ CrawlKind
    → MakesLedger result settings old new before after → RestMade (Err (fault_of_bay fault)) settings before after
crawl_refused result fault settings old new before after is kind makes =
    let made : MakesLedger (Err fault) settings old new before after = subst (λ (r : Result Ledger Fault). MakesLedger r settings old new before after) is makes in
    let changes = changes_for (MakesCrawl settings.buckets) _ (IsErrOf {T = Rest} (Err (fault_of_bay fault)) Failed) before after (λ e. failed fault made.full made.damaged e) made.changes in
    record {
      holds = tt;
      stops = tt;
      sound = tt;
      is_open = tt;
      changes = changes_wider (MakesCrawl settings.buckets) (MakesRest settings.kind settings.buckets) _ before after (λ x y. crawl_rest settings.kind settings.buckets x y kind) changes;
      fault = why fault made.full made.damaged;
    }
  where
    failed : (fault : Fault) → ((n : ℕ) → IsErrOf {T = Ledger} (Err fault) (BayFull n) → ⊥) → ((f at : ℕ) → IsErrOf {T = Ledger} (Err fault) (BayDamaged f at) → ⊥)
        → IsErrOf {T = Rest} (Err (fault_of_bay fault)) Failed → IsErrOf {T = Ledger} (Err fault) BayFailed
    failed BayFailed full damaged e = refl
    failed BayMemory full damaged e = cc
    failed (BayFull n) full damaged e = absurd (full n refl)
    failed (BayDamaged f at) full damaged e = absurd (damaged f at refl)

    why : (fault : Fault) → ((n : ℕ) → IsErrOf {T = Ledger} (Err fault) (BayFull n) → ⊥) → ((f at : ℕ) → IsErrOf {T = Ledger} (Err fault) (BayDamaged f at) → ⊥)
        → (fault_of_bay fault ≡ Failed) ⊎ (fault_of_bay fault ≡ Memory)
    why BayFailed full damaged = inl refl
    why BayMemory full damaged = inr refl
    why (BayFull n) full damaged = absurd (full n refl)
    why (BayDamaged f at) full damaged = absurd (damaged f at refl)

-- what it is refused with names no other make, and has no ground in the files
pub rest_unwanted : (fault : OpenFault) → (fault ≡ Failed) ⊎ (fault ≡ Memory) → IsUnwanted fault → ⊥
rest_unwanted fault (inl failed) is = subst IsUnwanted failed is
rest_unwanted fault (inr memory) is = subst IsUnwanted memory is

pub no_ground : (asked : Asked) (told : Option Files) (fault : OpenFault) → (fault ≡ Failed) ⊎ (fault ≡ Memory) → HasGround asked told fault
no_ground asked told fault (inl failed) = subst (HasGround asked told) (sym failed) tt
no_ground asked told fault (inr memory) = subst (HasGround asked told) (sym memory) tt
