-- What is kept in memory of a crawl stays in the calls of its store: that it has begun, its suffixes, what is in front,
-- and that the pairs of all cuts are sent.
use Rattle.std.proofs.Common.{◌≡◌, ◌∙◌, ℕ, true, List, [], Option, Result, refl, sym, ap, subst}
use Rattle.irl_base.specs.declared.fault.Fault.{Fault}
use Rattle.irl_disk.specs.Disk.{Files}
use Rattle.irl_disk.specs.Images.{Told}
use Rattle.irl_bay.specs.Drum.{Drum}
use Rattle.irl_offer.specs.declared.note.Note.{Note}
use Rattle.irl_offer.specs.declared.outcome.Outcome.{Outcome}
use Rattle.irl_offer.specs.declared.settings.Kind.TheVariants.{Crawl as CrawlKind}
use Rattle.irl_events.specs.Events.{Event, Begin, Pairs, Pass, Robots, Settle, Progress, after_event}
use Rattle.irl_frontier.specs.Frontier.{Frontier}
use Rattle.irl_schedule.proofs.Outcomes.{by_answer}
use Rattle.irl_ledger.specs.declared.ledger.Ledger.{Ledger}
use Rattle.irl_yard.specs.declared.parts.Parts.{Parts}
use Rattle.irl_yard.specs.declared.parts.Rest.{Rest}
use Rattle.irl_yard.specs.declared.parts.Rest.TheVariants.{Plain, Crawl}
use Rattle.irl_yard.specs.Adding.{AddsEvent, AddsNotes}
use Rattle.irl_yard.specs.Holding.{HasLedger, IsOpenRest}
use Rattle.irl_yard.specs.Passing.{PassesState, front_in, suffixes_in}
use Rattle.irl_yard.specs.Sending.{HasBegun, HasSentCuts, SendsPairs}
use Rattle.irl_yard.proofs.SentStates.{begun_of}
use Rattle.irl_yard.proofs.SentWhole.{crawl_in}

-- a store of a crawl has one open
pub ledger_in : (urls : Drum) (rest : Rest) (told : Option Files) → IsOpenRest urls rest told → urls.settings.kind ≡ CrawlKind → HasLedger rest
ledger_in urls Plain told opened kind = absurd (opened.0 refl kind)
ledger_in urls (Crawl ledger) told opened kind = (ledger, refl)

-- ---- from what a call says of the two ledgers
module _ (was now : Parts) where
  abbrev Between : (Ledger → Ledger → Type 0) → Type 0
  Between says = (old new : Ledger) → was.rest ≡ Crawl old → now.rest ≡ Crawl new → says old new

  begun_by : Between (λ old new. old.frontier.progress.begun ≡ true → new.frontier.progress.begun ≡ true) → HasLedger now.rest → HasBegun was.rest → HasBegun now.rest
  begun_by says later begun =
      let first = crawl_in was.rest begun in
      subst HasBegun (sym later.1) (says first.0 later.0 first.1 later.1 (begun_of was.rest first.0 first.1 begun))

  suffixes_by : Between (λ old new. new.suffixes ≡ old.suffixes) → HasLedger was.rest → HasLedger now.rest → suffixes_in now.rest ≡ suffixes_in was.rest
  suffixes_by says first later = ap suffixes_in later.1 ∙ says first.0 later.0 first.1 later.1 ∙ sym (ap suffixes_in first.1)

  front_by : Between (λ old new. new.frontier.progress.front ≡ old.frontier.progress.front) → HasLedger was.rest → HasLedger now.rest → front_in now.rest ≡ front_in was.rest
  front_by says first later = ap front_in later.1 ∙ says first.0 later.0 first.1 later.1 ∙ sym (ap front_in first.1)

  sent_by : Between (λ old new. new.frontier.progress.cuts ≡ old.frontier.progress.cuts) → now.urls ≡ was.urls → HasLedger was.rest → HasSentCuts was → HasSentCuts now
  sent_by says urls first sent ledger is = says first.0 ledger first.1 is ∙ sent first.0 first.1 ∙ ap (λ (d : Drum). d.cuts) (sym urls)

-- each event is of a crawl that has begun
begins : (x : Progress) (event : Event) → (after_event x event []).begun ≡ true
begins x (Begin suffixes) = refl
begins x (Pairs cuts judged sent) = refl
begins x (Pass judged) = refl
begins x (Robots note) = refl
begins x (Settle fronts outcomes) = refl

-- ---- one event
module _ {S : Type 0} (told : S → Told) (result : Result Unit Fault) (event : Event) (was now : Parts) (before after : S) (adds : AddsEvent told result event was now before after) where
  pub event_begun : HasLedger now.rest → HasBegun was.rest → HasBegun now.rest
  event_begun = begun_by was now (λ old new was_is now_is begun.
      let tells = adds.tables old new was_is now_is in
      by_answer result tells.done tells.kept (λ done. ap (λ (x : Frontier). x.progress.begun) done.0 ∙ begins old.frontier.progress event)
      (λ kept. ap (λ (x : Frontier). x.progress.begun) kept.0 ∙ begun))

-- a settle
module _ {S : Type 0} (told : S → Told) (result : Result Unit Fault) (fronts : List ℕ) (outcomes : List (ℕ × Outcome)) (was now : Parts) (before after : S)
    (adds : AddsEvent told result (Settle fronts outcomes) was now before after) where
  pub settle_suffixes : HasLedger was.rest → HasLedger now.rest → suffixes_in now.rest ≡ suffixes_in was.rest
  settle_suffixes = suffixes_by was now (λ old new was_is now_is.
      let tells = adds.tables old new was_is now_is in
      by_answer result tells.done tells.kept (λ done. done.1) (λ kept. kept.1))

  pub settle_sent : HasLedger was.rest → HasSentCuts was → HasSentCuts now
  settle_sent = sent_by was now (λ old new was_is now_is.
      let tells = adds.tables old new was_is now_is in
      by_answer result tells.done tells.kept (λ done. ap (λ (x : Frontier). x.progress.cuts) done.0) (λ kept. ap (λ (x : Frontier). x.progress.cuts) kept.0))
      adds.urls

-- ---- notes
module _ {S : Type 0} (told : S → Told) (result : Result Unit Fault) (notes : List Note) (was now : Parts) (before after : S) (adds : AddsNotes told result notes was now before after) where
  pub notes_begun : HasLedger now.rest → HasBegun was.rest → HasBegun now.rest
  notes_begun = begun_by was now (λ old new was_is now_is begun. ap (λ (x : Frontier). x.progress.begun) (adds.tables old new was_is now_is).frontier ∙ begun)

  pub notes_suffixes : HasLedger was.rest → HasLedger now.rest → suffixes_in now.rest ≡ suffixes_in was.rest
  notes_suffixes = suffixes_by was now (λ old new was_is now_is. (adds.tables old new was_is now_is).suffixes)

  pub notes_front : HasLedger was.rest → HasLedger now.rest → front_in now.rest ≡ front_in was.rest
  notes_front = front_by was now (λ old new was_is now_is. ap (λ (x : Frontier). x.progress.front) (adds.tables old new was_is now_is).frontier)

  pub notes_sent : HasLedger was.rest → HasSentCuts was → HasSentCuts now
  notes_sent = sent_by was now (λ old new was_is now_is. ap (λ (x : Frontier). x.progress.cuts) (adds.tables old new was_is now_is).frontier) adds.urls

-- ---- a pass
module _ {S : Type 0} (told : S → Told) (result : Result ℕ Fault) (was now : Parts) (before after : S) (passes : PassesState told result was now before after) where
  pub pass_begun : HasLedger now.rest → HasBegun was.rest → HasBegun now.rest
  pass_begun = begun_by was now (λ old new was_is now_is begun.
      let tells = passes.tables old new was_is now_is in
      by_answer result tells.0 tells.1 (λ done. ap (λ (x : Frontier). x.progress.begun) done.2) (λ kept. ap (λ (x : Frontier). x.progress.begun) kept ∙ begun))

  pub pass_sent : HasLedger was.rest → HasSentCuts was → HasSentCuts now
  pass_sent = sent_by was now (λ old new was_is now_is.
      let tells = passes.tables old new was_is now_is in
      by_answer result tells.0 tells.1 (λ done. ap (λ (x : Frontier). x.progress.cuts) done.2) (λ kept. ap (λ (x : Frontier). x.progress.cuts) kept))
      passes.urls

-- ---- pairs
module _ (result : Result Unit Fault) (was now : Parts) (before after : Told) (sends : SendsPairs result was now before after) where
  pub pairs_suffixes : HasLedger was.rest → HasLedger now.rest → suffixes_in now.rest ≡ suffixes_in was.rest
  pairs_suffixes = suffixes_by was now (λ old new was_is now_is. (sends.tables old new was_is now_is).suffixes)

  pub pairs_front : HasLedger was.rest → HasLedger now.rest → front_in now.rest ≡ front_in was.rest
  pairs_front = front_by was now (λ old new was_is now_is. (sends.tables old new was_is now_is).front)
