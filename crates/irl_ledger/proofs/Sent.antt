-- What sending pairs makes of a crawl's state.
use Rattle.std.proofs.Common.{◌≡◌, ◌∙◌, ℕ, zero, suc, nat_eq, ◌+◌, ◌<◌, ◌≤◌, true, List, [], ◌∷◌, ◌++◌, length, map, get_or, Option, None, Some, Result, length-append, refl, sym, ap, subst, append_assoc, append-nil, arith}
use Rattle.std.specs.Prelude.{is_some, unwrap_or, slice_index}
use Rattle.std.proofs.lemmas.List.Elements.{filter-append}
use Rattle.irl_base.specs.declared.fault.Fault.{Fault}
use Rattle.irl_offer.specs.Buckets.{bucket_of}
use Rattle.irl_offer.specs.Tuple.{Tuple}
use Rattle.irl_offer.specs.Settings.{AreValid}
use Rattle.irl_offer.specs.declared.settings.Settings.{Settings}
use Rattle.irl_model.specs.Book.{Book, IsFront, IsPrefixOf, judged_cut, lengths_of, part}
use Rattle.irl_model.proofs.FrontLaws.{prefix_both}
use Rattle.std.specs.List.{AllByRecursion}
use Rattle.irl_beast.specs.declared.item.Item.{Item}
use Rattle.irl_events.specs.Queues.{Waiting}
use Rattle.irl_events.specs.Events.{Happened, Progress}
use Rattle.irl_core.specs.States.{AreSent, begun_with, cut_count, judged_by}
use Rattle.irl_events.specs.Links.{pairs as pairs_of}
use Rattle.irl_key.specs.Key.{key_of}
use Rattle.irl_core.proofs.StateLemmas.{within_same}
use Rattle.irl_star.specs.Degrees.{Counts}
use Rattle.irl_disk.specs.Disk.{Files}
use Rattle.irl_disk.specs.Images.{Told, IsConsistent}
use Rattle.irl_layout.specs.BayFiles.{IsFileOf}
use Rattle.irl_bay.specs.Drum.{Drum, HasNumbers, IsDrum, durable_at, durables, pending_at}
use Rattle.irl_bay.specs.Holding.{Holds}
use Rattle.irl_bay.specs.Standing.{IsBookOf}
use Rattle.irl_bay.proofs.Apart.{files_within}
use Rattle.irl_bay.proofs.MergeFrames.{holds_fewer}
use Rattle.irl_disk.proofs.Stretches.{left_now}
use Rattle.irl_bay.proofs.Staying.{open_stays, told_before}
use Rattle.irl_schedule.specs.Feeding.{Fed, Grows, Moment, Stays, TakesWaiting, Waits, handed_in, list_at}
use Rattle.irl_schedule.specs.Schedule.{one_more}
use Rattle.irl_schedule.proofs.Steps.{durable_held}
use Rattle.irl_schedule.proofs.Counts.{durable_index, length-durables}
use Rattle.irl_head.specs.StoreFiles.{crawl_file, pairs_base}
use Rattle.irl_log.specs.Spelling.{log_records}
use Rattle.irl_ledger.specs.declared.ledger.Ledger.{Ledger}
use Rattle.irl_ledger.specs.Crawling.{IsCrawlState, domain_of, events_of, pair_settings}
use Rattle.irl_ledger.specs.Holding.{HoldsLedger, IsItemOf, IsOpenLedger, domain_by}
use Rattle.irl_ledger.specs.Running.{StaysOpen}
use Rattle.irl_ledger.specs.Telling.{TellsPairs}
use Rattle.irl_ledger.specs.Sending.{IsAllSent, MayBeSent, new_links, no_waiting}
use Rattle.irl_ledger.proofs.LastSent.{crawl_longer, prefixes_at, sent_now}

-- ---- the book of pairs
part_both : (buckets b : ℕ) (xs ys : List Tuple) → part buckets b (xs ++ ys) ≡ part buckets b xs ++ part buckets b ys
part_both buckets b xs ys = filter-append (λ (offer : Tuple). nat_eq (bucket_of buckets offer.key) b) xs ys

-- what takes some of the first of the new links takes some of them all
more_links : (buckets b : ℕ) (list old news links : List Tuple) → IsPrefixOf news links → IsPrefixOf list ((old ++ []) ++ part buckets b news) → IsPrefixOf list (old ++ part buckets b links)
more_links buckets b list old news links front takes =
    let tail = part buckets b front.0 in
    let whole : old ++ part buckets b links ≡ ((old ++ []) ++ part buckets b news) ++ tail =
    ap (λ (l : List Tuple). old ++ l) (ap (part buckets b) front.1 ∙ part_both buckets b news front.0) ∙ sym (append_assoc old (part buckets b news) tail)
    ∙ ap (λ (l : List Tuple). (l ++ part buckets b news) ++ tail) (sym (append-nil old)) in
    (takes.0 ++ tail, whole ∙ ap (λ (l : List Tuple). l ++ tail) takes.1 ∙ append_assoc list takes.0 tail)

pub may_take : (settings : Settings) (urls pairs : Book) (events : List Happened) (book : Book) (news : List Tuple) → IsBookOf (pair_settings settings) book
    → Grows (pair_settings settings) 1 pairs book
    → IsPrefixOf news (new_links settings urls events) → TakesWaiting (pair_settings settings) pairs no_waiting book news → MayBeSent settings urls pairs events book
may_take settings urls pairs events book news is grows links takes = record {
  book_is = is;
  front = grows.front;
  grows = grows;
  takes = λ b within. more_links settings.buckets b (list_at book b) (list_at pairs b) news (new_links settings urls events) links (takes b within);
}

-- a book between
pub may_between : (settings : Settings) (urls pairs : Book) (events : List Happened) (book most : Book) (news : List Tuple) → IsBookOf (pair_settings settings) pairs
    → IsBookOf (pair_settings settings) book
    → Grows (pair_settings settings) 1 pairs book → IsFront book most → IsPrefixOf news (new_links settings urls events) → TakesWaiting (pair_settings settings) pairs no_waiting most news
    → MayBeSent settings urls pairs events book
may_between settings urls pairs events book most news was is grows later links takes =
    may_take settings urls pairs events book news is grows links (λ b within.
    prefix_both (list_at book b) (list_at most b) _ (prefixes_at book.lists most.lists b later.lists (omega (arith, within, is.is_book.lists, is.buckets))) (takes b within))

-- where nothing is unjudged the last cut is at the lists' ends
same_numbers : (xs ys : List ℕ) (n : ℕ) → length xs ≡ n → length ys ≡ n → ((b : ℕ) → b < n → get_or xs b 0 ≡ get_or ys b 0) → xs ≡ ys
same_numbers [] [] n one two each = refl
same_numbers [] (y ∷ ys) n one two each = absurd (omega (arith, one, two))
same_numbers (x ∷ xs) [] n one two each = absurd (omega (arith, one, two))
same_numbers (x ∷ xs) (y ∷ ys) zero one two each = absurd (omega (arith, one))
same_numbers (x ∷ xs) (y ∷ ys) (suc n) one two each =
    let first : x ≡ y = each 0 (omega arith) in
    let rest : xs ≡ ys = same_numbers xs ys n (omega (arith, one)) (omega (arith, two)) (λ b within. each (suc b) (omega (arith, within))) in
    cc

all_cut : (drum : Drum) (book : Book) → IsDrum drum → HasNumbers drum book → ((b : ℕ) → b < drum.settings.buckets → pending_at drum b ≡ 0) → judged_cut book ≡ lengths_of book
all_cut drum book law numbers none =
    let same : drum.last.cut ≡ durables drum =
    same_numbers drum.last.cut (durables drum) drum.settings.buckets law.last.count (length-durables drum ∙ law.count) (λ b within.
    let at = durable_index drum b in
    let judged = (law.buckets b within).judged in
    let waits : pending_at drum b ≡ 0 = none b within in
    omega (arith, at, judged, waits)) in
    sym numbers.commit.cut ∙ same ∙ numbers.offers

module _ (settings : Settings) (urls pairs : Book) (events : List Happened) (news : List Tuple) (old new : Moment) (waits_none : old.waits ≡ no_waiting)
    (settings_are : old.drum.settings ≡ pair_settings settings)
    (fed : Fed 1 one_more news old new pairs) where
  pub fed_takes : TakesWaiting (pair_settings settings) pairs no_waiting fed.book news
  fed_takes = λ b within.
      let keeps = fed.keeps b (subst (λ (s : Settings). b < s.buckets) (sym settings_are) within) in
      let same : handed_in pairs no_waiting b ++ part (pair_settings settings).buckets b news ≡ handed_in fed.book new.waits b =
      sym (keeps ∙ ap (λ (w : Waits). handed_in pairs w b ++ part old.drum.settings.buckets b news) waits_none
      ∙ ap (λ (s : Settings). handed_in pairs no_waiting b ++ part s.buckets b news) settings_are) in
      (new.waits b, same)

  fed_is : Stays old new → IsBookOf (pair_settings settings) fed.book
  fed_is still = subst (λ (s : Settings). IsBookOf s fed.book) (still.settings ∙ settings_are) fed.holds.book_is

  fed_grows : Grows (pair_settings settings) 1 pairs fed.book
  fed_grows = subst (λ (s : Settings). Grows s 1 pairs fed.book) settings_are fed.grows

  -- the book that is held may be sent
  pub fed_may : Stays old new → IsPrefixOf news (new_links settings urls events) → MayBeSent settings urls pairs events fed.book
  fed_may still links = may_take settings urls pairs events fed.book news (fed_is still) fed_grows links fed_takes

  -- and where nothing waits and all is judged it has all
  pub fed_all : Stays old new → IsDrum new.drum → news ≡ new_links settings urls events → ((b : ℕ) → new.waits b ≡ []) → ((b : ℕ) → b < old.drum.settings.buckets → pending_at new.drum b ≡ 0)
      → IsAllSent settings urls pairs events fed.book
  unfolding fed_takes
  fed_all still law same empty judged_all = record {
    may = fed_may still ([], sym same ∙ sym (append-nil news));
    has = λ b within.
        let takes = fed_takes b within in
        let none : takes.0 ≡ [] = empty b in
        sym (append-nil (list_at fed.book b)) ∙ ap (λ (l : List Tuple). list_at fed.book b ++ l) (sym none) ∙ sym takes.1
        ∙ ap (λ (l : List Tuple). l ++ part settings.buckets b news) (append-nil (list_at pairs b)) ∙ ap (λ (l : List Tuple). list_at pairs b ++ part settings.buckets b l) same;
    judged_all = all_cut new.drum fed.book law fed.holds.numbers (λ b within. judged_all b (subst (λ (s : Settings). b < s.buckets) still.settings within));
  }

  -- a bucket that is full would be so with its list and all new links of it
  pub fed_full : Stays old new → (n : ℕ) → n < old.drum.settings.buckets → IsPrefixOf news (new_links settings urls events) → old.drum.settings.cap < durable_at new.drum n + length (new.waits n)
      → settings.cap < length (list_at pairs n) + length (part settings.buckets n (new_links settings urls events))
  unfolding fed_takes
  fed_full still n within links over =
      let there : n < new.drum.settings.buckets = subst (λ (s : Settings). n < s.buckets) (sym still.settings) within in
      let here : n < settings.buckets = subst (λ (s : Settings). n < s.buckets) settings_are within in
      let whole = ap (λ (l : List Tuple). length l) (fed_takes n here).1 in
      let all = ap (λ (l : List Tuple). length l) (ap (part settings.buckets n) links.1 ∙ part_both settings.buckets n news links.0) in
      let cap : old.drum.settings.cap ≡ settings.cap = ap (λ (s : Settings). s.cap) settings_are in
      omega (
        arith,
        over,
        cap,
        durable_held new.store.images new.drum fed.book n fed.holds there,
        whole,
        all,
        length-append (list_at pairs n ++ []) (part settings.buckets n news),
        length-append (list_at pairs n) [],
        length-append (list_at fed.book n) (new.waits n),
        length-append (part settings.buckets n news) (part settings.buckets n links.0),
      )

-- ---- the ledger
few : (settings : Settings) → AreValid settings → settings.buckets ≤ 64
few settings valid = let count = valid.buckets in grind arith

-- files of the pairs are none of the log's
pub pairs_no_log : (urls : Drum) (ledger : Ledger) (told : Option Files) → IsDrum urls → IsOpenLedger urls ledger told → IsFileOf ledger.pairs.base ledger.pairs.settings.buckets crawl_file → ⊥
pairs_no_log urls ledger told law opened is =
    let there = subst (λ (s : Settings). IsFileOf pairs_base s.buckets crawl_file) opened.settings (subst (λ (n : ℕ). IsFileOf n ledger.pairs.settings.buckets crawl_file) opened.base is) in
    omega (arith, (files_within pairs_base urls.settings.buckets crawl_file (few urls.settings law.settings) there).0)

module _ (urls : Drum) (old : Ledger) (now : Drum) (before after : Moment) (law : IsDrum urls) (opened : IsOpenLedger urls old before.store.files) (was : before.drum ≡ old.pairs)
    (is : after.drum ≡ now) (still : Stays before after) where
  no_log : IsFileOf before.drum.base before.drum.settings.buckets crawl_file → ⊥
  no_log file = pairs_no_log urls old before.store.files law opened (subst (λ (d : Drum). IsFileOf d.base d.settings.buckets crawl_file) was file)

  -- it is open still
  pub open_with : (failed : Type 0) → StaysOpen failed now after.store → IsOpenLedger urls (record old { pairs = now }) after.store.files
  open_with failed goes = record {
    urls_at = opened.urls_at;
    drum = goes.drum;
    base = ap (λ (d : Drum). d.base) (sym is) ∙ still.base ∙ ap (λ (d : Drum). d.base) was ∙ opened.base;
    settings = ap (λ (d : Drum). d.settings) (sym is) ∙ still.settings ∙ ap (λ (d : Drum). d.settings) was ∙ opened.settings;
    file = opened.file;
    buckets = opened.buckets;
    long = λ sound files told. goes.long sound files told;
    log_long = λ sound files told.
        let from = told_before (IsFileOf before.drum.base before.drum.settings.buckets) before.store.files after.store.files files still.others told in
        subst (λ (file : List ℕ). old.log.journal.end < length file) (sym (from.2 crawl_file no_log)) (opened.log_long sound from.0 from.1);
    fits = record {
      settings = opened.fits.settings;
      cuts = opened.fits.cuts;
      sent = opened.fits.sent;
      read = opened.fits.read;
      fronts = opened.fits.fronts;
      pairs_sent = opened.fits.pairs_sent;
      told = omega (arith, opened.fits.told, still.grows.judged, ap (λ (d : Drum). d.last.judged) was, ap (λ (d : Drum). d.last.judged) is);
    };
    begun = opened.begun;
    noted = opened.noted;
  }

  -- and holds what it held, with the longer book of pairs
  pub ledger_with : (settings : Settings) (urls_book pairs book : Book) (events : List Happened) → IsConsistent after.store → IsFront pairs book → Holds after.store.images now book
      → HoldsLedger before.store.images settings old urls_book pairs events → HoldsLedger after.store.images settings (record old { pairs = now }) urls_book book events
  ledger_with settings urls_book pairs book events consistent front held holds = record {
    pairs_hold = held;
    log = record {
      each = holds.log.each;
      records = open_stays (IsFileOf before.drum.base before.drum.settings.buckets) before.store after.store old.log.journal (log_records (events_of events)) consistent still.others_stop
          (λ changed. no_log (subst (IsFileOf before.drum.base before.drum.settings.buckets) opened.file changed)) holds.log.records;
    };
    frontier = record {
      settings_are = holds.frontier.settings_are;
      progress_is = holds.frontier.progress_is;
      items = holds.frontier.items;
      degrees = subst (λ (l : List (List ℕ)). Counts old.frontier.degrees l) (sym (ap (λ (us : List (ℕ × Tuple)). map (λ p. p.1.aux) us)
          (within_same pairs book holds.pairs_hold.book_is.is_book front 0 old.frontier.told (omega (arith, opened.fits.told, holds.pairs_hold.numbers.commit.judged))))) holds.frontier.degrees;
    };
    suffixes = holds.suffixes;
    log_ends = holds.log_ends;
    notes = holds.notes;
  }

-- ---- legality
pub some_text : (o : Option (List ℕ)) → is_some o ≡ true → o ≡ Some (unwrap_or o [])
some_text None is = cc
some_text (Some text) is = refl

-- the state is a crawl's with a book that may be sent
pub sent_legal : (settings : Settings) (urls pairs : Book) (events : List Happened) (book : Book) → IsBookOf settings urls → IsCrawlState settings urls pairs events
    → is_some (begun_with events) ≡ true
    → MayBeSent settings urls pairs events book → IsCrawlState settings urls book events
sent_legal settings urls pairs events book urls_are state begun may =
    crawl_longer settings urls pairs book events (unwrap_or (begun_with events) []) urls_are state (some_text (begun_with events) begun) may.book_is may.front may.takes

-- and where all are sent the event says so of the books
pub sent_event : (settings : Settings) (urls pairs : Book) (events : List Happened) (book : Book) → IsBookOf settings urls → IsCrawlState settings urls pairs events
    → is_some (begun_with events) ≡ true
    → IsAllSent settings urls pairs events book
    → AreSent (pairs_of (domain_of (unwrap_or (begun_with events) [])) key_of urls (cut_count urls)) urls book (cut_count urls) (judged_by urls (cut_count urls)) (judged_by book (cut_count book))
sent_event settings urls pairs events book urls_are state begun all =
    sent_now settings urls pairs book events (unwrap_or (begun_with events) []) urls_are state (some_text (begun_with events) begun) all.may.book_is all.may.front all.may.takes all.judged_all all.has

-- ---- the tables are told
module _ (urls : Drum) (old new : Ledger) (s t : Told) (result : Result Unit Fault) (lawful : IsConsistent t) (opened : IsOpenLedger urls old s.files) (tells : TellsPairs result old new s t) where
  -- the ledger is open still
  pub told_open : IsOpenLedger urls new t.files
  told_open =
      let here : IsOpenLedger urls (record old { frontier = new.frontier }) s.files = record {
        urls_at = opened.urls_at;
        drum = opened.drum;
        base = opened.base;
        settings = opened.settings;
        file = opened.file;
        buckets = opened.buckets;
        long = opened.long;
        log_long = opened.log_long;
        fits = record {
          settings = tells.tells.settings ∙ opened.fits.settings;
          cuts = subst (λ (x : Progress). x.cuts ≤ urls.cuts) (sym tells.tells.progress) opened.fits.cuts;
          sent = subst (λ (x : Progress). x.sent ≤ urls.last.judged) (sym tells.tells.progress) opened.fits.sent;
          read = subst (λ (x : Progress). x.read ≤ x.sent) (sym tells.tells.progress) opened.fits.read;
          fronts = λ b within. subst (λ (x : Progress). slice_index x.fronts b ≤ durable_at urls b) (sym tells.tells.progress) (opened.fits.fronts b within);
          pairs_sent = omega (arith, ap (λ (x : Progress). x.pairs) tells.tells.progress, opened.fits.pairs_sent, tells.tells.more);
          told = tells.within;
        };
        begun = ap (λ (x : Progress). x.begun) tells.tells.progress ∙ opened.begun;
        noted = opened.noted;
      } in
      subst (λ (l : Ledger). IsOpenLedger urls l t.files) (sym tells.others) (subst (λ (files : Option Files). IsOpenLedger urls (record old { frontier = new.frontier }) files)
      (sym tells.reads.reads.same) here)

  pub told_ledger : (settings : Settings) (urls_book pairs : Book) (events : List Happened) (files : Files) → s.files ≡ Some files → HoldsLedger s.images settings old urls_book pairs events
      → HoldsLedger t.images settings (record old { frontier = new.frontier }) urls_book pairs events
  told_ledger settings urls_book pairs events files told held =
      let left = left_now s t s.images lawful tells.reads.reads.stops in
      record {
        pairs_hold = holds_fewer s.images t.images old.pairs pairs opened.drum left held.pairs_hold;
        log = record { each = held.log.each; records = λ image there. held.log.records image (left image there) };
        frontier = record {
          settings_are = tells.tells.settings ∙ held.frontier.settings_are;
          progress_is = tells.tells.progress ∙ held.frontier.progress_is;
          items = subst (λ (w : Waiting Item). AllByRecursion (λ list. AllByRecursion (IsItemOf (domain_by events) urls_book) list) w.lists) (sym tells.tells.waiting) held.frontier.items;
          degrees = tells.degrees files told pairs held.pairs_hold held.frontier.degrees;
        };
        suffixes = held.suffixes;
        log_ends = held.log_ends;
        notes = held.notes;
      }
