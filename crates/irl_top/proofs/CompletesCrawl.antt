-- A run that crawls is done, or memory ran out, where nothing fails and nothing is refused.
use Rattle.std.proofs.Common.{◌≡◌, ◌⊎◌, inl, inr, ℕ, Some, refl, sym, ap, subst, arith}
use Rattle.irl_bay.proofs.Blank.{blank_is_book}
use Rattle.irl_crawl.proofs.Room.{handed_few, room_pairs, room_urls}
use Rattle.irl_crawl.specs.Room.{most_handed}
use Rattle.irl_disk.specs.Disk.{Files}
use Rattle.irl_events.specs.State.{State}
use Rattle.irl_head.specs.Asking.{Agrees}
use Rattle.irl_model.specs.Book.{IsBook}
use Rattle.irl_offer.specs.Settings.{AreValid}
use Rattle.irl_offer.specs.declared.offer.Rule.TheVariants.{Keep}
use Rattle.irl_offer.specs.declared.settings.Asked.{Asked}
use Rattle.irl_offer.specs.declared.settings.Settings.{Settings}
use Rattle.irl_yard.specs.Opening.{entered_state}
use Rattle.irl_yard.specs.Standing.{HasState, IsLegal}
use Rattle.irl_yard.proofs.Grounds.{entered_made}
use Rattle.irl_top.specs.Crawled.{CompletesCrawl, CompletesFew, CrawlRun, CrawlTask, CrawlsThrough, MayComplete, MayCompleteFew, handed_by, settings_for, suffixes_for}
use Rattle.irl_top.specs.Outside.{Lent}
use Rattle.irl_top.specs.Run.{settings_in}
use Rattle.irl_top.specs.declared.ending.Ending.{Ending}
use Rattle.irl_top.specs.declared.ending.Ending.TheVariants.{Done, BadSettings, LineRefused, NotOurs, Damaged, OtherSettings, DiskFault, InputFault, OutputFault, NoMemory, Full}
use Rattle.irl_top.proofs.Deciding.{not_bad, not_other}

-- the settings that a store has once it is entered are those that it has or is made with
settings_entered : (asked : Asked) (x : State) (files : Files) → HasState x files → settings_for asked (entered_state asked x) ≡ settings_in asked x
settings_entered asked x files (inl blank) = subst (λ (s : State). settings_for asked (entered_state asked s) ≡ settings_in asked s) (sym blank.1) refl
settings_entered asked x files (inr made) = ap (λ (s : State). settings_for asked s) (entered_made asked made.0 x made.1.settings_are)

-- a store that stands for a state, over which it may complete
record Ground (task : CrawlTask) (asked : Asked) (before after : Lent) : Type 0 where
  files : Files
  x : State
  told : before.store.files ≡ Some files
  has : HasState x files
  may : MayComplete task asked before after x

module _ (task : CrawlTask) (asked : Asked) (before after : Lent) where
  bad : (n : ℕ) → CrawlRun task asked before after (BadSettings n) → Ground task asked before after → ⊥
  bad n run g =
      let valid = subst (λ (s : Settings). AreValid s) (settings_entered asked g.x g.files g.has) g.may.fine.valid in
      not_bad asked g.files g.x n g.has valid (run.bad n refl g.files g.told)

  other : (n kept wanted : ℕ) → CrawlRun task asked before after (OtherSettings n kept wanted) → Ground task asked before after → ⊥
  other n kept wanted run g = elim (run.other n kept wanted refl) [
    | inl settings ↦
        let agrees = subst (Agrees asked) (settings_entered asked g.x g.files g.has) g.may.fine.agrees in
        not_other asked g.files g.x n kept wanted g.has agrees (settings g.files g.told)
    | inr suffixes ↦
        let found = suffixes.2 g.files g.told g.x g.has in
        g.may.fine.suffixes found.0 found.1 kept wanted found.2
  ]

  full : (n : ℕ) → CrawlRun task asked before after (Full n) → Ground task asked before after → ⊥
  full n run g =
      let store = run.crawls g.files g.told g.x g.has in
      let found = store.full n refl in
      let crawls = found.2.1.0 in
      let room = g.may.room found.0 store.kept found.1 store.legal.0 crawls in
      elim found.2.1.1 [
        | inl urls ↦ let fits = room.0 n urls.0 in omega (arith, fits, urls.2)
        | inr pairs ↦ let fits = room.1 pairs.0 pairs.2 in omega (arith, fits, pairs.4)
      ]

  ends_well : (ending : Ending) → CrawlRun task asked before after ending → Ground task asked before after → (ending ≡ NoMemory) ⊎ (ending ≡ Done)
  ends_well Done run g = inr refl
  ends_well (BadSettings n) run g = absurd (bad n run g)
  ends_well (LineRefused n) run g = absurd (g.may.fine.read n (run.line n refl))
  ends_well (NotOurs at) run g = absurd (run.whole_ours at refl g.files g.told g.x g.has)
  ends_well (Damaged f at) run g = absurd (run.whole f at refl g.files g.told g.x g.has)
  ends_well (OtherSettings n kept wanted) run g = absurd (other n kept wanted run g)
  ends_well DiskFault run g = absurd (g.may.fine.store (run.disk.rose refl))
  ends_well InputFault run g = absurd (g.may.fine.input (run.input.rose refl))
  ends_well OutputFault run g = absurd (g.may.fine.output (run.output.rose refl))
  ends_well NoMemory run g = inl refl
  ends_well (Full n) run g = absurd (full n run g)

pub completes_crawl : (task : CrawlTask) (asked : Asked) (before after : Lent) (ending : Ending) → CrawlRun task asked before after ending → CompletesCrawl task asked before after ending
completes_crawl task asked before after ending run = λ files x told has may.
    ends_well task asked before after ending run (record { files = files; x = x; told = told; has = has; may = may })

-- ---- where few pages are visited
-- what keeps the laws of a state has a book of URLs
book_of : (y : State) → IsLegal y → IsBook y.urls
book_of y (inl blank) = subst (λ (s : State). IsBook s.urls) (sym blank) (blank_is_book 1 Keep refl)
book_of y (inr legal) = legal.1.book_is.is_book

-- then there is room for all that a crawl hands in
few_rooms : (task : CrawlTask) (asked : Asked) (before after : Lent) (x : State) → MayCompleteFew task asked before after x → MayComplete task asked before after x
few_rooms task asked before after x may = record {
  fine = may.fine;
  room = λ input y is_input legal crawls.
      let settings = settings_for asked (entered_state asked x) in
      let start = entered_state asked x in
      let suffixes = suffixes_for start input in
      let handed = handed_by input start y crawls.visits in
      let room = may.room input is_input in
      let most = most_handed task.pages input.seeds in
      let few = handed_few suffixes input.seeds y.urls crawls.visits task.pages crawls.few in (
        λ b within. room_urls suffixes settings handed most start y room few b within,
        λ b within. room_pairs suffixes settings handed most start y room few b within crawls.grows.urls.front crawls.crawls.offers (book_of y legal),
      );
}

pub completes_few : (task : CrawlTask) (asked : Asked) (before after : Lent) (ending : Ending) → CrawlRun task asked before after ending → CompletesFew task asked before after ending
completes_few task asked before after ending run = λ files x told has may.
    completes_crawl task asked before after ending run files x told has (few_rooms task asked before after x may)

-- both
pub crawls_through : (task : CrawlTask) (asked : Asked) (before after : Lent) (ending : Ending) → CrawlRun task asked before after ending → CrawlsThrough task asked before after ending
crawls_through task asked before after ending run =
    record { run = run; completes = completes_crawl task asked before after ending run; completes_few = completes_few task asked before after ending run }
