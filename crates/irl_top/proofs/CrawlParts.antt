-- What beginning a crawl and crawling an input make of an open store.
use Rattle.std.proofs.Common.{◌≡◌, ◌≢◌, ◌∙◌, ◌⊎◌, inl, inr, ℕ, ◌<◌, ◌≤◌, List, [], ◌++◌, length, Option, None, Some, true, false, refl, sym, ap, subst, arith}
use Rattle.std.specs.Prelude.{Result, Ok, Err, OnOk, OnErr, IfErr, IsErrOf, flat_map, is_some, unwrap_or, ⊤}
use Rattle.irl_base.specs.declared.fault.Fault.{Fault}
use Rattle.irl_base.specs.declared.fault.Fault.TheVariants.{Failed as StoreFailed, Memory as StoreMemory, Full as StoreFull, Damaged as StoreDamaged}
use Rattle.irl_bay.specs.Drum.{Drum, IsDrum}
use Rattle.irl_core.specs.States.{begun_with}
use Rattle.irl_crawl.specs.Crawling.{CrawlsTo, CrawlsWhole, NoneWaits, OnlyCrawls, result_of}
use Rattle.irl_crawl.specs.Leading.{IsFullAt, Leads}
use Rattle.irl_crawl.specs.Refusing.{RefusesAsFound}
use Rattle.irl_crawl.specs.Turning.{AsksOnce, events_since}
use Rattle.irl_crawl.specs.Workers.{Given}
use Rattle.irl_crawl.specs.declared.plan.Ended.{Ended}
use Rattle.irl_crawl.specs.declared.plan.Ended.TheVariants.{Done as CrawlDone, Limit as CrawlLimit, Fault as CrawlFault}
use Rattle.irl_crawl.specs.declared.plan.Plan.{Plan}
use Rattle.irl_crawl.proofs.Leading.{leads_more_failed, leads_none, leads_then, leads_wide}
use Rattle.irl_crawl.proofs.OtherFiles.{others_log}
use Rattle.irl_disk.specs.Disk.{ChangesFile, Files, TellsBy}
use Rattle.irl_disk.specs.Images.{IsConsistent, Told}
use Rattle.irl_disk.proofs.Effects.{cause_for}
use Rattle.irl_events.specs.Events.{Begin, Happened}
use Rattle.irl_events.specs.State.{State, IsFrontState}
use Rattle.irl_head.specs.StoreFiles.{crawl_file}
use Rattle.irl_ledger.specs.declared.ledger.Ledger.{Ledger}
use Rattle.irl_key.specs.Key.{key_of}
use Rattle.irl_log.specs.Form.{max_suffixes}
use Rattle.irl_model.specs.Book.{Book}
use Rattle.irl_offer.specs.Tuple.{Tuple}
use Rattle.irl_offer.specs.declared.outcome.Outcome.{Outcome}
use Rattle.irl_offer.specs.declared.settings.Kind.TheVariants.{Crawl as CrawlKind}
use Rattle.irl_offer.specs.declared.settings.Settings.{Settings}
use Rattle.irl_pld.specs.Names.{bad_line}
use Rattle.irl_reach.specs.Along.{settled_in}
use Rattle.irl_reach.specs.Crawls.{IsStore, found_by, seed_offers}
use Rattle.irl_record.specs.Taped.{Taped}
use Rattle.irl_words.specs.declared.command.RunOptions.{RunOptions}
use Rattle.irl_yard.specs.declared.parts.Parts.{Parts}
use Rattle.irl_yard.specs.declared.parts.Rest.{Rest}
use Rattle.irl_yard.specs.declared.parts.Rest.TheVariants.{Plain, Crawl}
use Rattle.irl_yard.specs.Adding.{AddsEvent, MayBegin, with_event}
use Rattle.irl_yard.specs.Holding.{HoldsOpen, HoldsState, IsOpenRest, IsSound, StaysSound}
use Rattle.irl_yard.specs.Leading.{FailsAt, LeadsOrStays, LeadsTo}
use Rattle.irl_yard.specs.Passing.{suffixes_in}
use Rattle.irl_yard.specs.Sending.{HasBegun}
use Rattle.irl_yard.proofs.Begun.{ledger_in}
use Rattle.irl_yard.proofs.CallsLead.{event_leads}
use Rattle.irl_yard.proofs.Leading.{fails_wider}
use Rattle.irl_yard.proofs.StoreOfCrawl.{held_crawl}
use Rattle.irl_top.specs.Crawled.{CrawlTask, part_task, suffixes_for, Begins, BeginsAt, Crawled, CrawlsInput, EndsAsFound, Fits, HasOtherSuffixes}
use Rattle.irl_top.specs.Crawled.{IsCrawled, IsCrawlEnding, IsFullBy, IsPlanOf, KeepsSuffixes, MayCrawlInput, RefusesSuffixes, ending_of_crawl}
use Rattle.irl_top.specs.Message.{ending_of_store}
use Rattle.irl_top.specs.declared.ending.Ending.{Ending}
use Rattle.irl_top.specs.declared.ending.Ending.TheVariants.{DiskFault, Damaged, Full, NoMemory, OtherSettings}
use Rattle.irl_top.proofs.Beginning.{asks_behind, asks_wider, only_begun, only_behind, only_none, only_wider, pairs_begun, settled_behind, whole_behind}
use Rattle.irl_top.proofs.Giving.{GivesMore, gives_same}

-- ---- what an open store has of its crawl
suffixes_open : (images : Files → Type 0) (settings : Settings) (rest : Rest) (urls pairs : Book) (events : List Happened) → settings.kind ≡ CrawlKind
    → HoldsOpen images settings rest urls pairs events
    → suffixes_in rest ≡ begun_with events
suffixes_open images settings Plain urls pairs events kind held = absurd (held kind)
suffixes_open images settings (Crawl ledger) urls pairs events kind held = held.1.suffixes

pub suffixes_held : (images : Files → Type 0) (parts : Parts) (x : State) → parts.urls.settings.kind ≡ CrawlKind → HoldsState images parts x → suffixes_in parts.rest ≡ begun_with x.events
suffixes_held images parts x kind held = suffixes_open images parts.urls.settings parts.rest x.urls x.pairs x.events kind held.open_rest

pub begun_open : (urls : Drum) (rest : Rest) (told : Option Files) (text : List ℕ) → urls.settings.kind ≡ CrawlKind → IsOpenRest urls rest told → suffixes_in rest ≡ Some text → HasBegun rest
begun_open urls Plain told text kind opened is = absurd (opened.0 refl kind)
begun_open urls (Crawl ledger) told text kind opened is = (opened.1 ledger refl).1.begun ∙ ap (λ (o : Option (List ℕ)). is_some o) is

pub may_begin : (urls : Drum) (rest : Rest) (told : Option Files) (text : List ℕ) → urls.settings.kind ≡ CrawlKind → IsOpenRest urls rest told → suffixes_in rest ≡ None → bad_line text ≡ None
    → length text ≤ max_suffixes → MayBegin rest text
may_begin urls Plain told text kind opened none good short = absurd (opened.0 refl kind)
may_begin urls (Crawl ledger) told text kind opened none good short =
    ((opened.1 ledger refl).1.begun ∙ ap (λ (o : Option (List ℕ)). is_some o) none, record { limit = short; names = good })

text_of : (o : Option (List ℕ)) → is_some o ≡ true → (text : List ℕ) × (o ≡ Some text)
text_of None is = let no : ⊥ = cc in absurd no
text_of (Some text) is = (text, refl)

pub kind_begun : (urls : Drum) (rest : Rest) (told : Option Files) → IsOpenRest urls rest told → HasBegun rest → urls.settings.kind ≡ CrawlKind
kind_begun urls Plain told opened begun = absurd begun
kind_begun urls (Crawl ledger) told opened begun = (opened.1 ledger refl).0

pub suffixes_begun : (urls : Drum) (rest : Rest) (told : Option Files) → IsOpenRest urls rest told → HasBegun rest → (text : List ℕ) × (suffixes_in rest ≡ Some text)
suffixes_begun urls Plain told opened begun = absurd begun
suffixes_begun urls (Crawl ledger) told opened begun = text_of ledger.suffixes (sym (opened.1 ledger refl).1.begun ∙ begun)

pub store_held : (images : Files → Type 0) (parts : Parts) (x : State) → IsDrum parts.urls → parts.urls.settings.kind ≡ CrawlKind → HoldsState images parts x → IsStore x
store_held images parts x drum kind held =
    let is = held_crawl images parts x drum kind held in
    inr (
      parts.urls.settings,
      record { settings_are = is.settings_are; valid = is.valid; book = is.book; buckets = is.buckets; rule = is.rule; dropped = is.dropped; both = is.both; legal = is.legal },
    )

-- ---- suffixes that fit
-- a crawl that hasn't begun
fits_unbegun : (text : List ℕ) (x : State) → begun_with x.events ≡ None → Fits x text
fits_unbegun text x none kept wanted other =
    let both = sym none ∙ other.begun in
    let no : ⊥ = cc in
    no

-- and one that has begun
fits_begun : (text kept : List ℕ) (x : State) → begun_with x.events ≡ Some kept → (text ≡ []) ⊎ (kept ≡ text) → Fits x text
fits_begun text kept x is fits k w other =
    let both : Some other.text ≡ Some kept = sym other.begun ∙ is in
    let same : other.text ≡ kept = cc in
    elim fits [ inl none ↦ other.named none | inr one ↦ other.differ (same ∙ one) ]

fits_held : (text suffixes : List ℕ) (images : Files → Type 0) (parts : Parts) (x : State) → parts.urls.settings.kind ≡ CrawlKind → suffixes_in parts.rest ≡ Some suffixes → KeepsSuffixes parts text
    → HoldsState images parts x → Fits x text
fits_held text suffixes images parts x kind named keeps held = fits_begun text suffixes x (sym (suffixes_held images parts x kind held) ∙ named) (keeps suffixes named)

pub keeps_one : (text kept : List ℕ) (parts : Parts) → suffixes_in parts.rest ≡ Some kept → (text ≡ []) ⊎ (kept ≡ text) → KeepsSuffixes parts text
keeps_one text kept parts is fits other named =
    let both : Some other ≡ Some kept = sym named ∙ is in
    let same : other ≡ kept = cc in
    elim fits [ inl none ↦ inl none | inr one ↦ inr (same ∙ one) ]

-- ---- answers
-- a call's answer as that of a command
abbrev pub answer_of : Result Unit Fault → Result Unit Ending
answer_of (Ok done) = Ok tt
answer_of (Err fault) = Err (ending_of_store fault)

store_disk : (fault : Fault) → ending_of_store fault ≡ DiskFault → fault ≡ StoreFailed
store_disk StoreFailed is = refl
store_disk StoreMemory is = let no : ⊥ = cc in absurd no
store_disk (StoreFull n) is = let no : ⊥ = cc in absurd no
store_disk (StoreDamaged f at) is = let no : ⊥ = cc in absurd no

store_full : (fault : Fault) (n : ℕ) → ending_of_store fault ≡ Full n → fault ≡ StoreFull n
store_full StoreFailed n is = let no : ⊥ = cc in absurd no
store_full StoreMemory n is = let no : ⊥ = cc in absurd no
store_full (StoreFull m) n is = let one : m ≡ n = cc in cc
store_full (StoreDamaged f at) n is = let no : ⊥ = cc in absurd no

store_damaged : (fault : Fault) (f at : ℕ) → ending_of_store fault ≡ Damaged f at → fault ≡ StoreDamaged f at
store_damaged StoreFailed f at is = let no : ⊥ = cc in absurd no
store_damaged StoreMemory f at is = let no : ⊥ = cc in absurd no
store_damaged (StoreFull m) f at is = let no : ⊥ = cc in absurd no
store_damaged (StoreDamaged g place) f at is = let one : g ≡ f = cc in let two : place ≡ at = cc in cc

store_other : (fault : Fault) (n kept wanted : ℕ) → ending_of_store fault ≡ OtherSettings n kept wanted → ⊥
store_other StoreFailed n kept wanted is = cc
store_other StoreMemory n kept wanted is = cc
store_other (StoreFull m) n kept wanted is = cc
store_other (StoreDamaged f at) n kept wanted is = cc

pub store_kind : (fault : Fault) → IsCrawlEnding (ending_of_store fault)
store_kind StoreFailed = tt
store_kind StoreMemory = tt
store_kind (StoreFull n) = tt
store_kind (StoreDamaged f at) = tt

err_one : {T E : Type 0} (a b : E) → IsErrOf {T = T} {E = E} (Err a) b → a ≡ b
err_one a b is = cc

pub store_refuses : (fault : Fault) (text : List ℕ) → RefusesSuffixes (Err (ending_of_store fault)) text
store_refuses fault text n kept wanted is = absurd (store_other fault n kept wanted (err_one (ending_of_store fault) (OtherSettings n kept wanted) is))

answer_failed : (r : Result Unit Fault) → IsErrOf (answer_of r) DiskFault → IsErrOf r StoreFailed
answer_failed (Ok done) is = let no : ⊥ = cc in absurd no
answer_failed (Err fault) is = ap Err (store_disk fault (err_one (ending_of_store fault) DiskFault is))

failed_answer : (r : Result Unit Fault) → IsErrOf r StoreFailed → IsErrOf (answer_of r) DiskFault
failed_answer r is = ap answer_of is

-- ---- a beginning
pub told_on : (step : Files → Files → Type 0) (old new : Option Files) (files : Files) → TellsBy step old new → old ≡ Some files → (later : Files) × (new ≡ Some later)
told_on step None new files tells is = let no : ⊥ = cc in absurd no
told_on step (Some was) new files tells is = (tells.0, tells.1)

ok_has : {P : Type 0} (r : Result Unit Fault) → OnOk r P → r ≡ Ok tt → P
ok_has (Ok done) has is = has
ok_has (Err fault) has is = let no : ⊥ = cc in absurd no

module _ {S : Type 0} (tells : S → Told) (law : (s : S) → IsConsistent (tells s)) (r : Result Unit Fault) (text : List ℕ) (was now : Parts) (before after : S) (drum : IsDrum was.urls)
    (kind : was.urls.settings.kind ≡ CrawlKind) (opened : IsOpenRest was.urls was.rest (tells before).files) (later : IsOpenRest now.urls now.rest (tells after).files)
    (none : suffixes_in was.rest ≡ None) (adds : AddsEvent tells r (Begin text) was now before after) where
  kind_now : now.urls.settings.kind ≡ CrawlKind
  kind_now = ap (λ (d : Drum). d.settings.kind) adds.urls ∙ kind

  -- the suffixes are then those of the text
  named : r ≡ Ok tt → suffixes_in now.rest ≡ Some text
  named is =
      let first = ledger_in was.urls was.rest (tells before).files opened kind in
      let next = ledger_in now.urls now.rest (tells after).files later kind_now in
      ap suffixes_in next.1 ∙ (ok_has r (adds.tables first.0 next.0 first.1 next.1).done is).1

  pub begun_then : r ≡ Ok tt → HasBegun now.rest
  begun_then is = begun_open now.urls now.rest (tells after).files text kind_now later (named is)

  pub keeps_then : r ≡ Ok tt → KeepsSuffixes now text
  keeps_then is = keeps_one text text now (named is) (inr refl)

  made : (x : State) → HoldsState (tells before).images was x → (s : Result Unit Fault) → r ≡ s → LeadsOrStays s x (with_event (Begin text) [] x) now (tells before) (tells after)
      → (IsErrOf (answer_of s) DiskFault → ⊥) → (y : State) × Begins (answer_of s) text x y × LeadsTo x y now (tells before) (tells after)
  made x held (Ok done) is leads still =
      let y = with_event (Begin text) [] x in
      let first : begun_with x.events ≡ None = sym (suffixes_held (tells before).images was x kind held) ∙ none in (
        y,
        record {
          at = inr (first, refl);
          begun = sym (suffixes_held (tells after).images now y kind_now leads.done.holds) ∙ named is ∙ ap (λ (o : Option (List ℕ)). Some (unwrap_or o text)) (sym first);
          fits = fits_unbegun text x first;
          same = tt;
          full = λ n no. let never : ⊥ = cc in never;
          damaged = λ f at no. let never : ⊥ = cc in never;
          other = λ n kept wanted no. let never : ⊥ = cc in absurd never;
        },
        leads.done,
      )
  made x held (Err fault) is leads still = (
    x,
    record {
      at = inl refl;
      begun = tt;
      fits = tt;
      same = refl;
      full = λ n no. adds.full n (is ∙ ap Err (store_full fault n (err_one (ending_of_store fault) (Full n) no)));
      damaged = λ f at no. adds.damaged f at (is ∙ ap Err (store_damaged fault f at (err_one (ending_of_store fault) (Damaged f at) no)));
      other = λ n kept wanted no. absurd (store_other fault n kept wanted (err_one (ending_of_store fault) (OtherSettings n kept wanted) no));
    },
    leads.kept (λ failed. still (failed_answer (Err fault) failed)),
  )

  pub begin_leads : StaysSound (IsErrOf r StoreFailed) now → Leads (IsErrOf (answer_of r) DiskFault) (BeginsAt text) (Begins (answer_of r) text) was now (tells before) (tells after)
  begin_leads sound = record {
    leads = λ still files told x held. made x held r refl (event_leads tells law r (Begin text) was now x before after drum held adds) still;
    fails = λ failed files told x held.
        let first : begun_with x.events ≡ None = sym (suffixes_held (tells before).images was x kind held) ∙ none in
        let leads = event_leads tells law r (Begin text) was now x before after drum held adds in
        fails_wider _ (BeginsAt text x) x (tells before) (tells after) (λ y either. elim either [ inl same ↦ inl same | inr one ↦ inr (first, one) ]) (leads.failed (answer_failed r failed));
    told = λ files told. told_on _ (tells before).files (tells after).files files adds.others.told told;
    settings = ap (λ (d : Drum). d.settings) adds.urls;
    goes_on = record {
      drum = sound.drum;
      sound = λ still. sound.sound (λ failed. still (failed_answer r failed));
      unsound = λ failed. sound.unsound (answer_failed r failed);
    };
    cause = cause_for (IsErrOf r StoreFailed) (IsErrOf (answer_of r) DiskFault) (tells before).faults (tells after).faults (answer_failed r) adds.others.cause;
    others = others_log was now (tells before) (tells after) (ChangesFile crawl_file (λ _ _. ⊤)) (law after) adds.urls (λ x y changes. changes.others) adds.others.told adds.others.stops;
  }

-- it had begun
pub kept_leads : (text kept : List ℕ) (parts : Parts) (now : Told) → IsConsistent now → IsDrum parts.urls → IsSound parts → parts.urls.settings.kind ≡ CrawlKind → suffixes_in parts.rest ≡ Some kept
    → (r : Result Unit Ending) → (IsErrOf r DiskFault → ⊥) → ((x : State) → begun_with x.events ≡ Some kept → Begins r text x x)
    → Leads (IsErrOf r DiskFault) (BeginsAt text) (Begins r text) parts parts now now
kept_leads text kept parts now law drum sound kind is r fine begins = leads_none _ _ _ parts now law drum sound fine (λ x held. begins x (sym (suffixes_held now.images parts x kind held) ∙ is))

pub goes_on_begun : (text kept : List ℕ) (x : State) → (text ≡ []) ⊎ (kept ≡ text) → begun_with x.events ≡ Some kept → Begins (Ok tt) text x x
goes_on_begun text kept x fits is = record {
  at = inl refl;
  begun = is ∙ ap (λ (o : Option (List ℕ)). Some (unwrap_or o text)) (sym is);
  fits = fits_begun text kept x is fits;
  same = tt;
  full = λ n no. let never : ⊥ = cc in never;
  damaged = λ f at no. let never : ⊥ = cc in never;
  other = λ n k w no. let never : ⊥ = cc in absurd never;
}

pub other_begun : (text kept : List ℕ) (k w : ℕ) (x : State) → begun_with x.events ≡ Some kept → k ≡ key_of kept → w ≡ key_of text → kept ≢ text → text ≢ []
    → Begins (Err (OtherSettings 12 k w)) text x x
other_begun text kept k w x is k_is w_is differ named = record {
  at = inl refl;
  begun = tt;
  fits = tt;
  same = refl;
  full = λ n no. let never : ⊥ = cc in never;
  damaged = λ f at no. let never : ⊥ = cc in never;
  other = λ n l v other.
      let same = err_one (OtherSettings 12 k w) (OtherSettings n l v) other in
      let one : n ≡ 12 = cc in
      let two : l ≡ k = cc in
      let three : v ≡ w = cc in
      (one, record { text = kept; begun = is; kept_is = two ∙ k_is; wanted_is = three ∙ w_is; differ = differ; named = named });
}

pub other_refuses : (text : List ℕ) (k w : ℕ) → w ≡ key_of text → text ≢ [] → RefusesSuffixes (Err (OtherSettings 12 k w)) text
other_refuses text k w w_is named n l v other =
    let same = err_one (OtherSettings 12 k w) (OtherSettings n l v) other in
    let one : n ≡ 12 = cc in
    let two : v ≡ w = cc in
    (one, two ∙ w_is, named)

-- ---- a crawl over an open one
-- an input was crawled whole, by some suffixes
record IsWhole (task : CrawlTask) (settings : Settings) (input : Taped) (suffixes : List ℕ) (x y : State) : Type 0 where
  only : OnlyCrawls (task.given input) task.agent suffixes input.seeds settings 1 task.pages task.batch x y
  whole : CrawlsWhole suffixes input.seeds settings only.visits x y
  asks : AsksOnce (task.given input) only.visits (events_since x y)
  ends : NoneWaits settings y ⊎ (length (settled_in (events_since x y)) ≡ task.pages)

crawled_of : (task : CrawlTask) (settings : Settings) (input : Taped) (suffixes : List ℕ) (x y : State) → suffixes_for x input ≡ suffixes → Fits x input.suffixes
    → IsWhole task settings input suffixes x y → IsCrawled task settings input x y
crawled_of task settings input suffixes x y same fits is =
    let has = subst (λ (s : List ℕ). IsWhole task settings input s x y) (sym same) is in
    record { fits = fits; crawls = has.only; whole = has.whole; asks = has.asks; ends = has.ends }

whole_of : (task : CrawlTask) (settings : Settings) (input : Taped) (x y : State) → IsCrawled task settings input x y → IsWhole task settings input (suffixes_for x input) x y
whole_of task settings input x y is = record { only = is.crawls; whole = is.whole; asks = is.asks; ends = is.ends }

-- an offer of a crawl by some suffixes, or a link that it shows, has no room
abbrev IsFullIn : CrawlTask → Settings → Taped → List ℕ → State → State → ℕ → Type 0
IsFullIn task settings input suffixes x y n = (only : OnlyCrawls (task.given input) task.agent suffixes input.seeds settings 1 task.pages task.batch x y)
    × IsFullAt suffixes settings (seed_offers input ++ flat_map (found_by suffixes y.urls) only.visits) x y n

-- by the answer of the crawl
to_whole : (task : CrawlTask) (settings : Settings) (input : Taped) (suffixes : List ℕ) (given : Given) (x y : State) → GivesMore given (task.given input) → (ended : Ended)
    → CrawlsTo ended given task.agent suffixes input.seeds settings 1 task.pages task.batch x y → OnOk (ending_of_crawl ended) (IsWhole task settings input suffixes x y)
to_whole task settings input suffixes given x y more CrawlDone to = record {
  only = only_wider given (task.given input) task.agent suffixes input.seeds settings 1 task.pages task.batch x y more to.only;
  whole = (to.done refl).0;
  asks = asks_wider given (task.given input) to.only.visits (events_since x y) more (to.asks (inl refl));
  ends = inl (to.done refl).1;
}
to_whole task settings input suffixes given x y more CrawlLimit to = record {
  only = only_wider given (task.given input) task.agent suffixes input.seeds settings 1 task.pages task.batch x y more to.only;
  whole = (to.limit refl).0;
  asks = asks_wider given (task.given input) to.only.visits (events_since x y) more (to.asks (inr refl));
  ends = inr (to.limit refl).1;
}
to_whole task settings input suffixes given x y more (CrawlFault fault) to = tt

on_ok : {P Q : Type 0} (r : Result Unit Ending) → OnOk r P → (P → Q) → OnOk r Q
on_ok (Ok done) has gives = gives has
on_ok (Err ending) has gives = tt

crawl_failed : (ended : Ended) → IsErrOf (ending_of_crawl ended) DiskFault → ended ≡ CrawlFault StoreFailed
crawl_failed CrawlDone is = let no : ⊥ = cc in absurd no
crawl_failed CrawlLimit is = let no : ⊥ = cc in absurd no
crawl_failed (CrawlFault fault) is = ap CrawlFault (store_disk fault (err_one (ending_of_store fault) DiskFault is))

crawl_full : (ended : Ended) (n : ℕ) → IsErrOf (ending_of_crawl ended) (Full n) → IsErrOf (result_of ended) (StoreFull n)
crawl_full CrawlDone n is = let no : ⊥ = cc in absurd no
crawl_full CrawlLimit n is = let no : ⊥ = cc in absurd no
crawl_full (CrawlFault fault) n is = ap Err (store_full fault n (err_one (ending_of_store fault) (Full n) is))

crawl_damaged : (ended : Ended) (f at : ℕ) → IsErrOf (ending_of_crawl ended) (Damaged f at) → IsErrOf (result_of ended) (StoreDamaged f at)
crawl_damaged CrawlDone f at is = let no : ⊥ = cc in absurd no
crawl_damaged CrawlLimit f at is = let no : ⊥ = cc in absurd no
crawl_damaged (CrawlFault fault) f at is = ap Err (store_damaged fault f at (err_one (ending_of_store fault) (Damaged f at) is))

crawl_other : (ended : Ended) (n kept wanted : ℕ) → IsErrOf (ending_of_crawl ended) (OtherSettings n kept wanted) → ⊥
crawl_other CrawlDone n kept wanted is = cc
crawl_other CrawlLimit n kept wanted is = cc
crawl_other (CrawlFault fault) n kept wanted is = store_other fault n kept wanted (err_one (ending_of_store fault) (OtherSettings n kept wanted) is)

pub crawl_refuses : (ended : Ended) (text : List ℕ) → RefusesSuffixes (ending_of_crawl ended) text
crawl_refuses ended text n kept wanted is = absurd (crawl_other ended n kept wanted is)

pub crawl_kinds : (ended : Ended) → IfErr (ending_of_crawl ended) IsCrawlEnding
crawl_kinds CrawlDone = tt
crawl_kinds CrawlLimit = tt
crawl_kinds (CrawlFault fault) = store_kind fault

-- what a crawl is refused for
pub crawl_found : (ended : Ended) (now : Parts) (after : Told) → RefusesAsFound (result_of ended) now after → EndsAsFound (IsErrOf (ending_of_crawl ended)) now after
crawl_found ended now after refused = record { spoilt = λ f at is. refused.spoilt f at (crawl_damaged ended f at is) }

-- a beginning names no damage
pub begin_found : (fault : Fault) (now : Parts) (after : Told) → ((n : ℕ) → IsErrOf {T = Unit {0}} {E = Fault} (Err fault) (StoreFull n) → ⊥)
    → ((f at : ℕ) → IsErrOf {T = Unit {0}} {E = Fault} (Err fault) (StoreDamaged f at) → ⊥) → EndsAsFound (IsErrOf {T = Unit {0}} {E = Ending} (Err (ending_of_store fault))) now after
begin_found fault now after full damaged = record {
  spoilt = λ f at is. absurd (damaged f at (ap Err (store_damaged fault f at (err_one (ending_of_store fault) (Damaged f at) is))));
}

pub other_found : (n kept wanted : ℕ) (now : Parts) (after : Told) → EndsAsFound (IsErrOf {T = Unit {0}} {E = Ending} (Err (OtherSettings n kept wanted))) now after
other_found n kept wanted now after = record { spoilt = λ f at is. let no : ⊥ = cc in absurd no }

pub memory_found : (now : Parts) (after : Told) → EndsAsFound (IsErrOf {T = Unit {0}} {E = Ending} (Err NoMemory)) now after
memory_found now after = record { spoilt = λ f at is. let no : ⊥ = cc in absurd no }

pub ok_found : (now : Parts) (after : Told) → EndsAsFound (IsErrOf {T = Unit {0}} {E = Ending} (Ok tt)) now after
ok_found now after = record { spoilt = λ f at is. let no : ⊥ = cc in absurd no }

module _ (task : CrawlTask) (input : Taped) (ended : Ended) (suffixes : List ℕ) (given : Given) (was now : Parts) (before after : Told) (kind : was.urls.settings.kind ≡ CrawlKind)
    (more : GivesMore given (task.given input)) (named : suffixes_in was.rest ≡ Some suffixes) (keeps : KeepsSuffixes was input.suffixes) where
  same_for : (x : State) → HoldsState before.images was x → suffixes_for x input ≡ suffixes
  same_for x held = ap (λ (o : Option (List ℕ)). unwrap_or o input.suffixes) (sym (suffixes_held before.images was x kind held) ∙ named)

  fits_for : (x : State) → HoldsState before.images was x → Fits x input.suffixes
  fits_for x held = fits_held input.suffixes suffixes before.images was x kind named keeps held

  only_for : (x y : State) → HoldsState before.images was x → OnlyCrawls given task.agent suffixes input.seeds was.urls.settings 1 task.pages task.batch x y
      → CrawlsInput task was.urls.settings input x y
  only_for x y held only = subst (λ (s : List ℕ). OnlyCrawls (task.given input) task.agent s input.seeds was.urls.settings 1 task.pages task.batch x y) (sym (same_for x held))
      (only_wider given (task.given input) task.agent suffixes input.seeds was.urls.settings 1 task.pages task.batch x y more only)

  full_for : (x y : State) (n : ℕ) → HoldsState before.images was x → (to : CrawlsTo ended given task.agent suffixes input.seeds was.urls.settings 1 task.pages task.batch x y)
      → IsErrOf (ending_of_crawl ended) (Full n) → IsFullBy task was.urls.settings input x y n
  full_for x y n held to is = (
    fits_for x held,
    subst (λ (s : List ℕ). IsFullIn task was.urls.settings input s x y n) (sym (same_for x held))
        (only_wider given (task.given input) task.agent suffixes input.seeds was.urls.settings 1 task.pages task.batch x y more to.only, to.ground.full n (crawl_full ended n is)),
  )

  crawled_to : (x y : State) → HoldsState before.images was x → CrawlsTo ended given task.agent suffixes input.seeds was.urls.settings 1 task.pages task.batch x y
      → Crawled (ending_of_crawl ended) task was.urls.settings input x y
  crawled_to x y held to = record {
    crawls = only_for x y held to.only;
    fits = inr (fits_for x held);
    done = on_ok (ending_of_crawl ended) (to_whole task was.urls.settings input suffixes given x y more ended to)
        (crawled_of task was.urls.settings input suffixes x y (same_for x held) (fits_for x held));
    full = λ n is. full_for x y n held to is;
    whole = λ f at is. to.ground.whole f at (crawl_damaged ended f at is);
    other = λ n kept wanted is. absurd (crawl_other ended n kept wanted is);
  }

  pub played : Leads (ended ≡ CrawlFault StoreFailed) (OnlyCrawls given task.agent suffixes input.seeds was.urls.settings 1 task.pages task.batch)
      (CrawlsTo ended given task.agent suffixes input.seeds was.urls.settings 1 task.pages task.batch) was now before after
      → Leads (IsErrOf (ending_of_crawl ended) DiskFault) (MayCrawlInput task was.urls.settings input) (Crawled (ending_of_crawl ended) task was.urls.settings input) was now before after
  played leads = leads_more_failed (ended ≡ CrawlFault StoreFailed) (IsErrOf (ending_of_crawl ended) DiskFault) _ _ was now before after (λ is. ap ending_of_crawl is) (crawl_failed ended)
      (leads_wide _ _ _ _ _ was now before after leads (λ x y held front only. (only_for x y held only, inr (fits_for x held))) (λ x y held later front to. crawled_to x y held to))

-- by what a tape and the options of a run ask
pub played_by : (options : RunOptions) (input : Taped) (plan : Plan) (ended : Ended) (suffixes : List ℕ) (given : Given) (was now : Parts) (before after : Told)
    → IsPlanOf input options plan → was.urls.settings.kind ≡ CrawlKind → suffixes_in was.rest ≡ Some suffixes → KeepsSuffixes was input.suffixes
    → Leads (ended ≡ CrawlFault StoreFailed) (OnlyCrawls given plan.agent suffixes plan.seeds.items was.urls.settings 1 plan.pages plan.batch)
    (CrawlsTo ended given plan.agent suffixes plan.seeds.items was.urls.settings 1 plan.pages plan.batch) was now before after
    → Leads (IsErrOf (ending_of_crawl ended) DiskFault) (MayCrawlInput (part_task options given) was.urls.settings input)
    (Crawled (ending_of_crawl ended) (part_task options given) was.urls.settings input) was now before after
played_by options input plan ended suffixes given was now before after is kind named keeps leads =
    let P : List ℕ → List (List ℕ) → ℕ → ℕ → Type 0 =
    λ agent seeds pages batch. Leads (ended ≡ CrawlFault StoreFailed) (OnlyCrawls given agent suffixes seeds was.urls.settings 1 pages batch)
    (CrawlsTo ended given agent suffixes seeds was.urls.settings 1 pages batch) was now before after in
    let one = subst (λ (b : ℕ). P plan.agent plan.seeds.items plan.pages b) is.batch leads in
    let two = subst (λ (p : ℕ). P plan.agent plan.seeds.items p options.batch) is.pages one in
    let three = subst (λ (s : List (List ℕ)). P plan.agent s options.pages options.batch) is.seeds two in
    let four = subst (λ (a : List ℕ). P a input.seeds options.pages options.batch) is.agent three in
    played (part_task options given) input ended suffixes given was now before after kind (gives_same given) named keeps four

-- memory ran out before it
pub unplayed : (task : CrawlTask) (input : Taped) (parts : Parts) (now : Told) → IsConsistent now → IsDrum parts.urls → IsSound parts → (task.given input).may_miss 0
    → Leads (IsErrOf {T = Unit {0}} {E = Ending} (Err NoMemory) DiskFault) (MayCrawlInput task parts.urls.settings input) (Crawled (Err NoMemory) task parts.urls.settings input) parts parts now now
unplayed task input parts now law drum sound missed = leads_none _ _ _ parts now law drum sound (λ no. let never : ⊥ = cc in never) (λ x held. record {
  crawls = only_none (task.given input) task.agent (suffixes_for x input) input.seeds parts.urls.settings 1 task.pages task.batch missed x;
  fits = inl refl;
  done = tt;
  full = λ n no. let never : ⊥ = cc in absurd never;
  whole = λ f at no. let never : ⊥ = cc in never;
  other = λ n kept wanted no. let never : ⊥ = cc in absurd never;
})

-- ---- a beginning, and the crawl behind it
module _ (task : CrawlTask) (settings : Settings) (input : Taped) (x y z : State) (store : IsStore x) (begun : IsStore y) (front : IsFrontState x y) (goes : IsFrontState y z) where
  after_same : (P : State → State → Type 0) → y ≡ x → P y z → P x z
  after_same P is has = subst (λ (s : State). P s z) is has

  -- the suffixes are the same
  for_both : (y : State) → begun_with y.events ≡ Some (unwrap_or (begun_with x.events) input.suffixes) → suffixes_for y input ≡ suffixes_for x input
  for_both y is = ap (λ (o : Option (List ℕ)). unwrap_or o input.suffixes) is

  module _ (first : begun_with x.events ≡ None) (is : y ≡ with_event (Begin input.suffixes) [] x) (named : begun_with y.events ≡ Some (unwrap_or (begun_with x.events) input.suffixes)) where
    abbrev start : State
    start = with_event (Begin input.suffixes) [] x

    named_x : suffixes_for x input ≡ input.suffixes
    named_x = ap (λ (o : Option (List ℕ)). unwrap_or o input.suffixes) first

    begun_start : IsStore start
    begun_start = subst IsStore is begun

    front_start : IsFrontState x start
    front_start = subst (IsFrontState x) is front

    goes_start : IsFrontState start z
    goes_start = subst (λ (s : State). IsFrontState s z) is goes

    only_start : CrawlsInput task settings input y z → OnlyCrawls (task.given input) task.agent input.suffixes input.seeds settings 1 task.pages task.batch start z
    only_start crawls = subst (λ (s : State). OnlyCrawls (task.given input) task.agent input.suffixes input.seeds settings 1 task.pages task.batch s z) is
        (subst (λ (t : List ℕ). OnlyCrawls (task.given input) task.agent t input.seeds settings 1 task.pages task.batch y z) (for_both y named ∙ named_x) crawls)

    begin_only : CrawlsInput task settings input y z → CrawlsInput task settings input x z
    begin_only crawls = subst (λ (t : List ℕ). OnlyCrawls (task.given input) task.agent t input.seeds settings 1 task.pages task.batch x z) (sym named_x)
        (only_behind (task.given input) task.agent input.suffixes input.seeds settings 1 task.pages task.batch x z store begun_start front_start goes_start (only_start crawls))

    begin_whole : Fits x input.suffixes → IsCrawled task settings input y z → IsCrawled task settings input x z
    begin_whole fits crawled =
        let has = subst (λ (s : State). IsWhole task settings input input.suffixes s z) is
        (subst (λ (t : List ℕ). IsWhole task settings input t y z) (for_both y named ∙ named_x) (whole_of task settings input y z crawled)) in
        let only = only_behind (task.given input) task.agent input.suffixes input.seeds settings 1 task.pages task.batch x z store begun_start front_start goes_start has.only in
        crawled_of task settings input input.suffixes x z named_x fits (record {
          only = only;
          whole = whole_behind (task.given input) task.agent input.suffixes input.seeds settings 1 task.pages task.batch x z store begun_start front_start goes_start has.only has.whole;
          asks = asks_behind (task.given input) task.agent input.suffixes input.seeds settings 1 task.pages task.batch x z store begun_start front_start goes_start has.only has.asks;
          ends = elim has.ends [
            | inl none ↦ inl none
            | inr all ↦ inr (ap (λ (ds : List (ℕ × Outcome)). length ds)
                (settled_behind (task.given input) task.agent input.suffixes input.seeds settings 1 task.pages task.batch x z store begun_start front_start goes_start has.only) ∙ all)
          ];
        })

    begin_full : (n : ℕ) → Fits x input.suffixes → IsFullBy task settings input y z n → IsFullBy task settings input x z n
    begin_full n fits full =
        let has : IsFullIn task settings input input.suffixes start z n = subst (λ (s : State). IsFullIn task settings input input.suffixes s z n) is
        (subst (λ (t : List ℕ). IsFullIn task settings input t y z n) (for_both y named ∙ named_x) full.1) in
        let at : IsFullAt input.suffixes settings (seed_offers input ++ flat_map (found_by input.suffixes z.urls) has.0.visits) x z n = elim has.1 [
          | inl urls ↦ inl urls
          | inr pairs ↦ inr (
            pairs.0,
            pairs.1,
            pairs.2,
            pairs.3,
            subst (λ (l : List Tuple). settings.cap < length l) (pairs_begun input.suffixes input.suffixes settings x z.urls pairs.0) pairs.4,
          )
        ] in (
          fits,
          subst (λ (t : List ℕ). IsFullIn task settings input t x z n) (sym named_x)
              (only_behind (task.given input) task.agent input.suffixes input.seeds settings 1 task.pages task.batch x z store begun_start front_start goes_start has.0, at),
        )

-- by what the beginning made
module _ (task : CrawlTask) (settings : Settings) (input : Taped) (x y z : State) (store : IsStore x) (begun : IsStore y) (front : IsFrontState x y) (goes : IsFrontState y z)
    (begins : Begins (Ok tt) input.suffixes x y) where
  pub crawls_behind : CrawlsInput task settings input y z → CrawlsInput task settings input x z
  crawls_behind crawls = elim begins.at [
    | inl same ↦ subst (λ (s : State). CrawlsInput task settings input s z) same crawls
    | inr new ↦ begin_only task settings input x y z store begun front goes new.0 new.1 begins.begun crawls
  ]

  crawled_behind : IsCrawled task settings input y z → IsCrawled task settings input x z
  crawled_behind crawled = elim begins.at [
    | inl same ↦ subst (λ (s : State). IsCrawled task settings input s z) same crawled
    | inr new ↦ begin_whole task settings input x y z store begun front goes new.0 new.1 begins.begun begins.fits crawled
  ]

  full_behind : (n : ℕ) → IsFullBy task settings input y z n → IsFullBy task settings input x z n
  full_behind n full = elim begins.at [
    | inl same ↦ subst (λ (s : State). IsFullBy task settings input s z n) same full
    | inr new ↦ begin_full task settings input x y z store begun front goes new.0 new.1 begins.begun n begins.fits full
  ]

  -- the suffixes that it began with weren't others
  other_behind : (n kept wanted : ℕ) → HasOtherSuffixes y input.suffixes kept wanted → HasOtherSuffixes x input.suffixes kept wanted
  other_behind n kept wanted other = elim begins.at [
    | inl same ↦ subst (λ (s : State). HasOtherSuffixes s input.suffixes kept wanted) same other
    | inr new ↦
        let named : begun_with y.events ≡ Some input.suffixes = begins.begun ∙ ap (λ (o : Option (List ℕ)). Some (unwrap_or o input.suffixes)) new.0 in
        let both : Some other.text ≡ Some input.suffixes = sym other.begun ∙ named in
        let same : other.text ≡ input.suffixes = cc in
        absurd (other.differ same)
  ]

  pub all_behind : (r : Result Unit Ending) → Crawled r task settings input y z → Crawled r task settings input x z
  all_behind r is = record {
    crawls = crawls_behind is.crawls;
    fits = inr begins.fits;
    done = on_ok r is.done crawled_behind;
    full = λ n no. full_behind n (is.full n no);
    whole = is.whole;
    other = λ n kept wanted no. let has = is.other n kept wanted no in (has.0, other_behind n kept wanted has.1);
  }

-- the beginning, and the crawl behind it
pub leads_behind : (task : CrawlTask) (input : Taped) (r : Result Unit Ending) (was mid now : Parts) (before between after : Told) → IsDrum was.urls → IsDrum mid.urls
    → was.urls.settings.kind ≡ CrawlKind → Leads (IsErrOf {T = Unit {0}} {E = Ending} (Ok tt) DiskFault) (BeginsAt input.suffixes) (Begins (Ok tt) input.suffixes) was mid before between
    → Leads (IsErrOf r DiskFault) (MayCrawlInput task mid.urls.settings input) (Crawled r task mid.urls.settings input) mid now between after
    → Leads (IsErrOf r DiskFault) (MayCrawlInput task was.urls.settings input) (Crawled r task was.urls.settings input) was now before after
leads_behind task input r was mid now before between after drum later kind first second =
    let same : mid.urls.settings ≡ was.urls.settings = first.settings in
    let kind_mid : mid.urls.settings.kind ≡ CrawlKind = ap (λ (s : Settings). s.kind) same ∙ kind in
    leads_then (IsErrOf {T = Unit {0}} {E = Ending} (Ok tt) DiskFault) (IsErrOf r DiskFault) (BeginsAt input.suffixes) (Begins (Ok tt) input.suffixes) (MayCrawlInput task mid.urls.settings input)
    (Crawled r task mid.urls.settings input) (MayCrawlInput task was.urls.settings input) (Crawled r task was.urls.settings input) was mid now before between after first
    (λ no. let never : ⊥ = cc in never) second
    (λ x y z held held_mid front goes begins is.
    subst (λ (s : Settings). Crawled r task s input x z) same
    (all_behind task mid.urls.settings input x y z (store_held before.images was x drum kind held) (store_held between.images mid y later kind_mid held_mid) front goes begins r is))
    (λ x y z held held_mid front goes begins may. (
      subst (λ (s : Settings). CrawlsInput task s input x z) same
          (crawls_behind task mid.urls.settings input x y z (store_held before.images was x drum kind held) (store_held between.images mid y later kind_mid held_mid) front goes begins may.0),
      inr begins.fits,
    ))

-- one that wasn't begun
pub leads_unbegun : (task : CrawlTask) (input : Taped) (ending : Ending) (was now : Parts) (before after : Told) → IsDrum was.urls → was.urls.settings.kind ≡ CrawlKind
    → IsDrum now.urls → (task.given input).may_miss 0
    → Leads (IsErrOf {T = Unit {0}} {E = Ending} (Err ending) DiskFault) (BeginsAt input.suffixes) (Begins (Err ending) input.suffixes) was now before after
    → Leads (IsErrOf {T = Unit {0}} {E = Ending} (Err ending) DiskFault) (MayCrawlInput task was.urls.settings input) (Crawled (Err ending) task was.urls.settings input) was now before after
leads_unbegun task input ending was now before after drum kind later missed first =
    leads_wide _ _ _ _ _ was now before after first
    (λ x y held front at. (only_at x y at, fits_at x y at))
    (λ x y held held_now front begins. record {
      crawls = only_at x y begins.at;
      fits = inl begins.same;
      done = tt;
      full = λ n no. absurd (begins.full n no);
      whole = λ f at no. begins.damaged f at no;
      other = begins.other;
    })
  where
    settings : Settings
    settings = was.urls.settings

    only_at : (x y : State) → BeginsAt input.suffixes x y → CrawlsInput task settings input x y
    only_at x y (inl same) =
        subst (CrawlsInput task settings input x) (sym same) (only_none (task.given input) task.agent (suffixes_for x input) input.seeds settings 1 task.pages task.batch missed x)
    only_at x y (inr new) =
        let named : suffixes_for x input ≡ input.suffixes = ap (λ (o : Option (List ℕ)). unwrap_or o input.suffixes) new.0 in
        subst (CrawlsInput task settings input x) (sym new.1) (subst (λ (t : List ℕ). OnlyCrawls (task.given input) task.agent t input.seeds settings 1 task.pages task.batch x
        (with_event (Begin input.suffixes) [] x)) (sym named) (only_begun (task.given input) task.agent input.suffixes input.seeds settings 1 task.pages task.batch x missed))

    fits_at : (x y : State) → BeginsAt input.suffixes x y → (y ≡ x) ⊎ Fits x input.suffixes
    fits_at x y (inl same) = inl same
    fits_at x y (inr new) = inr (fits_unbegun input.suffixes x new.0)
