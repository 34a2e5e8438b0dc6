-- What sending pairs adds to the cuts and to the records, where a crawl has begun.
use Rattle.std.proofs.Common.{◌≡◌, ◌⊎◌, inl, inr, ⊎_elim, ℕ, nat_eq, Bool, true, false, cond, List, [], Some, Result, Ok, Err, IsErrOf, refl, sym, ap, subst, arith}
use Rattle.irl_base.specs.declared.fault.Fault.{Fault}
use Rattle.irl_base.specs.declared.fault.Fault.TheVariants.{Failed}
use Rattle.irl_offer.specs.declared.settings.Settings.{Settings}
use Rattle.irl_core.specs.States.{cut_count}
use Rattle.irl_model.specs.Book.{Book}
use Rattle.irl_disk.specs.Disk.{ChangesOnly, Files}
use Rattle.irl_disk.specs.Images.{IsConsistent, Told, Follows, Leaves}
use Rattle.irl_events.specs.Events.{progress}
use Rattle.irl_events.specs.State.{State, IsFrontState}
use Rattle.irl_head.specs.StoreFiles.{pairs_base, urls_base}
use Rattle.irl_bay.specs.Drum.{Drum, IsDrum}
use Rattle.irl_schedule.proofs.Chains.{grows_same, tells_on}
use Rattle.irl_schedule.proofs.Outcomes.{err_gives, ok_gives}
use Rattle.irl_schedule.specs.Feeding.{Grows}
use Rattle.irl_schedule.specs.Schedule.{AddsUneven, HaveRecords, LeavesUneven, one_more}
use Rattle.irl_ledger.specs.Crawling.{pair_settings}
use Rattle.irl_ledger.specs.declared.ledger.Ledger.{Ledger}
use Rattle.irl_yard.specs.declared.parts.Parts.{Parts}
use Rattle.irl_yard.specs.Adding.{with_event}
use Rattle.irl_yard.specs.Holding.{HoldsState, IsOpenRest}
use Rattle.irl_yard.specs.Leading.{LeadsTo}
use Rattle.irl_yard.specs.Sending.{HasBegun, HasSent, IsSentFile, MayHaveSent, SendsPairs, sent_of, sent_state, with_pairs}
use Rattle.irl_yard.proofs.States.{event_front, pairs_front, state_both, state_same}
use Rattle.irl_crawl.proofs.Records.{HasBays, bays, held_one, leaves_three, live_as, live_stay, one_ledger, open_stay, sent_no_urls}
use Rattle.irl_crawl.proofs.RecordsThen.{HoldsOn, a_sending}
use Rattle.irl_crawl.specs.Batches.{Batches, ComeInBatches, HasBatched, HasBoth, HaveBoth, Records}

-- ---- the state that is sent
-- it has the same books, and comes behind
record IsSentOf (x y : State) : Type 0 where
  urls : y.urls ≡ x.urls
  pairs : y.pairs ≡ x.pairs
  front : IsFrontState x y

sent_is : (settings : Settings) (x : State) → IsSentOf x (sent_state settings x)
sent_is settings x = by_count (nat_eq (progress settings.queues settings.buckets x.events).cuts (cut_count x.urls))
  where
    by_count : (is_sent : Bool) → IsSentOf x (cond is_sent x (with_event (sent_of x) [] x))
    by_count true = record { urls = refl; pairs = refl; front = state_same x }
    by_count false = record { urls = refl; pairs = refl; front = event_front (sent_of x) [] x }

-- ---- sending
module _ (result : Result Unit Fault) (was now : Parts) (s t : Told) (sends : SendsPairs result was now s t) (opened : IsOpenRest was.urls was.rest s.files)
    (opened_now : IsOpenRest now.urls now.rest t.files) (law : IsDrum was.urls) (law_now : IsDrum now.urls) (consistent : IsConsistent t) (begun : HasBegun was.rest) where
  abbrev settings : Settings
  settings = was.urls.settings

  come : (x z : State) (book : Book) (records : Records) (pairs : ℕ → List (List ℕ)) → MayHaveSent settings x book → z.urls ≡ x.urls → z.pairs ≡ book → IsFrontState x z
      → AddsUneven one_more settings.buckets settings.array records.pairs pairs → ComeInBatches settings (a_sending 0) x z records (record { urls = records.urls; pairs = pairs })
  come x z book records pairs may urls_are pairs_are front adds = record {
    front = front;
    urls = subst (λ (b : Book). Grows settings 0 x.urls b) (sym urls_are) (grows_same settings x.urls);
    pairs = subst (λ (b : Book). Grows (pair_settings settings) 1 x.pairs b) (sym pairs_are) may.grows;
    records = record { urls = λ b within. omega arith; pairs = adds };
  }

  come_some : (x : State) (book : Book) (records : Records) (pairs : ℕ → List (List ℕ)) → MayHaveSent settings x book → AddsUneven one_more settings.buckets settings.array records.pairs pairs
      → ComeInBatches settings (a_sending 0) x (with_pairs book x) records (record { urls = records.urls; pairs = pairs })
  come_some x book records pairs may adds = come x (with_pairs book x) book records pairs may refl refl (pairs_front x book may.front) adds

  come_all : (x : State) (book : Book) (records : Records) (pairs : ℕ → List (List ℕ)) → MayHaveSent settings x book → AddsUneven one_more settings.buckets settings.array records.pairs pairs
      → ComeInBatches settings (a_sending 0) x (sent_state settings (with_pairs book x)) records (record { urls = records.urls; pairs = pairs })
  come_all x book records pairs may adds =
      let y = with_pairs book x in
      let sent = sent_is settings y in
      come x (sent_state settings y) book records pairs may sent.urls sent.pairs (state_both x y (sent_state settings y) (pairs_front x book may.front) sent.front) adds

  -- the settings of the bay of pairs are those of the URLs, as far as its records go
  adds_as : (x : State) (has : HasBays s.images was x) (old new : ℕ → List (List ℕ))
      → AddsUneven one_more has.ledger.pairs.settings.buckets has.ledger.pairs.settings.array old new → AddsUneven one_more settings.buckets settings.array old new
  adds_as x has old new adds = subst (λ (p : Settings). AddsUneven one_more p.buckets p.array old new) has.settings adds

  -- ---- a stop
  left_at : (x : State) (records : Records) (has : HasBays s.images was x) → HoldsState s.images was x → HaveBoth s.images was records → Leaves s t (HasSent settings x)
      → Leaves s t (LeavesUneven one_more has.ledger.pairs records.pairs) → Leaves s t (HasBatched settings a_sending x records)
  left_at x records has held have stops uneven_stops =
      leaves_three s t (Follows (ChangesOnly (IsSentFile settings.buckets)) s.images) (HasSent settings x) (LeavesUneven one_more has.ledger.pairs records.pairs)
      (HasBatched settings a_sending x records) sends.others.stops stops uneven_stops
      (λ image from sent pairs.
      let book = sent.0 in
      let may = sent.1 in
      let adds = adds_as x has records.pairs pairs.0 pairs.2 in
      let news : Records = record { urls = records.urls; pairs = pairs.0 } in
      let live : HasBoth settings news image = record {
        urls = live_as was.urls urls_base settings.buckets records.urls image has.base refl
            (live_stay (IsSentFile settings.buckets) s.images was.urls x.urls law held.urls.urls_hold (sent_no_urls s.images was x has) records.urls image have.urls from);
        pairs = live_as has.ledger.pairs pairs_base settings.buckets pairs.0 image has.pairs_base_is (ap (λ (p : Settings). p.buckets) has.settings) pairs.1;
      } in
      ⊎_elim
      (λ some. record { state = with_pairs book x; has = some; records = news; live = live; come = come_some x book records pairs.0 may adds })
      (λ all. record { state = sent_state settings (with_pairs book x); has = all.1; records = news; live = live; come = come_all x book records pairs.0 may adds })
      sent.2)

  -- ---- the end
  told_on : (files : Files) → s.files ≡ Some files → (after : Files) × (t.files ≡ Some after)
  told_on files told = tells_on _ s.files t.files files sends.others.told told

  -- what the states that are held are led to
  led : (files : Files) → s.files ≡ Some files → (x : State) → HoldsState s.images was x → (IsErrOf result Failed → ⊥) → (r : Result Unit Fault) → result ≡ r
      → (book : Book) × MayHaveSent settings x book × (LeadsTo x (with_pairs book x) now s t ⊎ LeadsTo x (sent_state settings (with_pairs book x)) now s t)
  led files told x held not (Ok value) is = let has = ok_gives result value sends.done is files told x held in (has.0, has.1.may, inr has.2)
  led files told x held not (Err fault) is = let has = err_gives result fault sends.kept is not files told x held in (has.0, has.1, inl has.2)

  pub pairs_on : HoldsOn (IsErrOf result Failed) was now s t
  pairs_on = record {
    held = λ not files told x held.
        let has = led files told x held not result refl in
        ⊎_elim (λ some. (with_pairs has.0 x, some.holds, some.front)) (λ all. (sent_state settings (with_pairs has.0 x), all.holds, all.front)) has.2;
    told = told_on;
    settings = ap (λ (d : Drum). d.settings) sends.urls;
  }

  come_held : (files : Files) → t.files ≡ Some files → (x y : State) (records : Records) (pairs : ℕ → List (List ℕ)) (book : Book) → HoldsState t.images now y → MayHaveSent settings x book
      → AddsUneven one_more settings.buckets settings.array records.pairs pairs
      → LeadsTo x (with_pairs book x) now s t ⊎ LeadsTo x (sent_state settings (with_pairs book x)) now s t
      → ComeInBatches settings (a_sending 0) x y records (record { urls = records.urls; pairs = pairs })
  come_held files told x y records pairs book last may adds either =
      let Come : State → Type 0 = λ z. ComeInBatches settings (a_sending 0) x z records (record { urls = records.urls; pairs = pairs }) in
      ⊎_elim
      (λ some. subst Come (held_one t now (with_pairs book x) y files consistent law_now told some.holds.urls last.urls) (come_some x book records pairs may adds))
      (λ all. subst Come (held_one t now (sent_state settings (with_pairs book x)) y files consistent law_now told all.holds.urls last.urls) (come_all x book records pairs may adds))
      either

  kept_at : (IsErrOf result Failed → ⊥) → (files : Files) → s.files ≡ Some files → (x y : State) (records : Records) → HoldsState s.images was x → HoldsState t.images now y
      → HaveBoth s.images was records → (after : Records) × HaveBoth t.images now after × ComeInBatches settings (a_sending 0) x y records after
  kept_at not files told x y records held last have =
      let has = bays s.images was s.files x law opened begun held in
      let at = bays t.images now t.files y law_now opened_now sends.begun last in
      let after = told_on files told in
      let way = led files told x held not result refl in
      let pairs = (sends.records files told x held).records not has.ledger at.ledger has.is at.is records.pairs (have.pairs has.ledger has.is) in
      let adds = adds_as x has records.pairs pairs.0 pairs.2 in
      let news : Records = record { urls = records.urls; pairs = pairs.0 } in (
        news,
        record {
          urls = open_stay (IsSentFile settings.buckets) s t was.urls now.urls x.urls y.urls after.0 records.urls law law_now consistent (sent_no_urls s.images was x has) sends.others.stops
              (ap (λ (d : Drum). d.base) sends.urls) (ap (λ (d : Drum). d.settings) sends.urls) held.urls.urls_hold last.urls.urls_hold after.1 have.urls;
          pairs = λ ledger is. subst (λ (l : Ledger). HaveRecords t.images l.pairs pairs.0) (one_ledger now.rest at.ledger ledger at.is is) pairs.1;
        },
        come_held after.0 after.1 x y records pairs.0 way.0 last way.1 adds way.2,
      )

  pub pairs_batch : Batches (IsErrOf result Failed) a_sending a_sending was now s t
  pairs_batch = record {
    keeps = λ not files told x y records held last have. kept_at not files told x y records held last have;
    stops = λ files told x records held have.
        let has = bays s.images was s.files x law opened begun held in
        left_at x records has held have (sends.stops files told x held) ((sends.records files told x held).stops has.ledger has.is records.pairs (have.pairs has.ledger has.is));
  }
