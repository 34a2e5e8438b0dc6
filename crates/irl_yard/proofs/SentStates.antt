-- Sending pairs, over states.
use Rattle.std.proofs.Common.{◌≡◌, ◌↔◌, ◌∙◌, ◌⊎◌, inl, inr, ⊎_elim, ℕ, ◌+◌, ◌<◌, ◌≤◌, Bool, true, false, List, [], ◌∷◌, Option, Some, Result, Ok, Err, OnOk, IsErrOf, refl, sym, ap, subst, arith}
use Rattle.std.specs.Prelude.{is_some, unwrap_or}
use Rattle.std.specs.Option.{ForSome}
use Rattle.irl_base.specs.declared.fault.Fault.{Fault}
use Rattle.irl_base.specs.declared.fault.Fault.TheVariants.{Damaged, Failed, Full, Memory}
use Rattle.irl_offer.specs.declared.settings.Kind.{Kind}
use Rattle.irl_offer.specs.declared.settings.Kind.TheVariants.{Crawl as CrawlKind}
use Rattle.irl_offer.specs.declared.settings.Settings.{Settings}
use Rattle.irl_offer.specs.Tuple.{Tuple}
use Rattle.irl_model.specs.Book.{Book, IsFront, IsPrefixOf}
use Rattle.irl_model.proofs.FrontLaws.{front_both, front_same}
use Rattle.irl_events.specs.Events.{Progress}
use Rattle.irl_events.specs.State.{State}
use Rattle.irl_core.specs.States.{begun_with}
use Rattle.irl_disk.specs.Disk.{Files, ChangesOnly, TellsOnly}
use Rattle.irl_disk.specs.Images.{Told, IsConsistent, Follows, Leaves, LeavesBy}
use Rattle.irl_disk.proofs.Stretches.{left_now, widens}
use Rattle.irl_journal.specs.Format.{HasRecords}
use Rattle.irl_layout.specs.BayFiles.{IsFileOf}
use Rattle.irl_bay.specs.Drum.{Drum, IsDrum, durable_at}
use Rattle.irl_bay.specs.Holding.{Holds, IsLong}
use Rattle.irl_bay.specs.Standing.{IsBookOf, Stands}
use Rattle.irl_bay.proofs.Apart.{files_of_both, files_within, holds_beside, long_beside, stands_apart}
use Rattle.irl_bay.specs.JudgedSpoilt.{IsJudgedSpoiltAt}
use Rattle.irl_bay.proofs.Staying.{leaves_same, tells_same}
use Rattle.irl_bay.proofs.Standing.{holds_stands}
use Rattle.irl_schedule.specs.Schedule.{AddsUneven, HaveRecords, LeavesUneven, one_more}
use Rattle.irl_schedule.specs.Feeding.{Fed, FewUnjudged, Grows, HasBetween, Moment, Stays, TakesWaiting, moment}
use Rattle.irl_schedule.proofs.Between.{grows_between}
use Rattle.irl_schedule.proofs.Chains.{few_both, few_same, tells_on}
use Rattle.irl_schedule.proofs.Outcomes.{ok_gives}
use Rattle.irl_schedule.proofs.Journals.{leaves_pair}
use Rattle.irl_head.specs.StoreFiles.{crawl_file, head_file, pairs_base, urls_base}
use Rattle.irl_head.specs.Head.{head_bytes}
use Rattle.irl_log.specs.Log.{HasEvents}
use Rattle.irl_ledger.specs.declared.ledger.Ledger.{Ledger}
use Rattle.irl_ledger.specs.Crawling.{AreCrawlFiles, IsCrawlState, events_of, pair_settings}
use Rattle.irl_ledger.specs.Holding.{HoldsLedger, IsOpenLedger, IsSoundLedger}
use Rattle.irl_ledger.specs.Sending.{OffersPairs, judged_after, links_of, new_links, no_waiting}
use Rattle.irl_ledger.specs.Telling.{TellsPairs}
use Rattle.irl_ledger.proofs.Sent.{fed_all, fed_full, fed_may, fed_takes, ledger_with, may_between, open_with, sent_event, sent_legal, told_ledger}
use Rattle.irl_yard.specs.declared.parts.Parts.{Parts}
use Rattle.irl_yard.specs.declared.parts.Rest.{Rest}
use Rattle.irl_yard.specs.declared.parts.Rest.TheVariants.{Crawl}
use Rattle.irl_yard.specs.Holding.{HoldsOpen, HoldsState, HoldsUrls, IsSoundRest, StaysSound}
use Rattle.irl_yard.specs.Leading.{FailsAt, HasOneBetween, LeadsTo}
use Rattle.irl_yard.specs.Sending.{AddsPairRecords, ArePairsSent, HasBegun, HasToldAll, HasSentAll, HasSomeSent, IsSomeSent, KeepsCrawl, MayHaveSent, TellsState, links_in, OffersState, counted_behind, with_pairs}
use Rattle.irl_yard.specs.Standing.{HasRest, HasState, IsRest, IsStateOf}
use Rattle.irl_yard.proofs.Appended.{legal_as, same_crawl}
use Rattle.irl_yard.proofs.Holding.{holds_same, stops_same}
use Rattle.irl_yard.proofs.RestFiles.{few}
use Rattle.irl_yard.proofs.States.{pairs_front}

-- ---- a state with a longer book of pairs
module _ (s t : Told) (urls : Drum) (state : State) (law : IsDrum urls) (consistent : IsConsistent t) (kind : urls.settings.kind ≡ CrawlKind) (holds : HoldsUrls s.images urls state)
    (begun : is_some (begun_with state.events) ≡ true) where
  abbrev among : ℕ → Type 0
  among = IsFileOf pairs_base urls.settings.buckets

  small : urls.settings.buckets ≤ 64
  small = few urls.settings law.settings

  head_apart : among head_file → ⊥
  head_apart is = omega (arith, (files_within pairs_base urls.settings.buckets head_file small is).0)

  log_apart : among crawl_file → ⊥
  log_apart is = omega (arith, (files_within pairs_base urls.settings.buckets crawl_file small is).0)

  bay_apart : (base f : ℕ) → base ≡ urls_base → IsFileOf base urls.settings.buckets f → among f → ⊥
  bay_apart base f is one two = files_of_both urls.settings.buckets f small (subst (λ (n : ℕ). IsFileOf n urls.settings.buckets f) is one) two

  crawl : IsCrawlState urls.settings state.urls state.pairs state.events
  crawl = legal_as urls.settings kind state.pairs state.urls state.events holds.legal

  legal : (book : Book) → MayHaveSent urls.settings state book → IsRest urls.settings.kind urls.settings state.urls book state.events
  legal book may = subst (λ (k : Kind). IsRest k urls.settings state.urls book state.events) (sym kind)
      (sent_legal urls.settings state.urls state.pairs state.events book holds.urls_hold.book_is crawl begun may)

  -- so the state with it keeps the laws of one
  pub pairs_state : (book : Book) → MayHaveSent urls.settings state book → IsStateOf urls.settings (with_pairs book state)
  pairs_state book may = record { settings_are = holds.settings; valid = law.settings; book_is = holds.urls_hold.book_is; rest = legal book may }

  -- the rest of the files, where those of the pairs stand for the book
  rest_with : (book : Book) (old new : Files) → ChangesOnly among old new → Stands pairs_base (pair_settings urls.settings) book new
      → HasRest urls.settings.kind urls.settings state.pairs state.events old → HasRest urls.settings.kind urls.settings book state.events new
  rest_with book old new changes stands rest =
      let was : AreCrawlFiles urls.settings state.pairs state.events old = subst (λ (k : Kind). HasRest k urls.settings state.pairs state.events old) kind rest in
      let now : AreCrawlFiles urls.settings book state.events new = record {
        pairs_stand = stands;
        log = subst (λ (file : List ℕ). HasEvents urls.settings.buckets file (events_of state.events)) (sym (changes crawl_file log_apart)) was.log;
      } in
      subst (λ (k : Kind). HasRest k urls.settings book state.events new) (sym kind) now

  -- a joint image that follows
  pub has_pairs : (book : Book) (image : Files) → MayHaveSent urls.settings state book → Follows (ChangesOnly among) s.images image → Stands pairs_base (pair_settings urls.settings) book image
      → HasState (with_pairs book state) image
  has_pairs book image may from stands = inr (
    urls.settings,
    record {
      settings_are = holds.settings;
      valid = law.settings;
      head = inr (subst (λ (file : List ℕ). HasRecords file (head_bytes urls.settings ∷ [])) (sym (from.2 head_file head_apart)) (holds.head from.0 from.1));
      urls = stands_apart urls_base urls.settings state.urls from.0 image (λ f is. from.2 f (bay_apart urls_base f refl is))
          (subst (λ (n : ℕ). Stands n urls.settings state.urls from.0) holds.base (holds_stands s.images urls state.urls from.0 law holds.urls_hold from.1));
      legal = legal book may;
      rest = rest_with book from.0 image from.2 stands (holds.rest from.0 from.1);
    },
  )

  -- what is held at the end
  pub urls_with : (book : Book) → MayHaveSent urls.settings state book → LeavesBy (ChangesOnly among) s t
      → ((image : Files) → t.images image → Stands pairs_base (pair_settings urls.settings) book image) → HoldsUrls t.images urls (with_pairs book state)
  urls_with book may stops stands = record {
    settings = holds.settings;
    base = holds.base;
    head = λ image left.
        let from = left_now s t _ consistent stops image left in
        subst (λ (file : List ℕ). HasRecords file (head_bytes urls.settings ∷ [])) (sym (from.2 head_file head_apart)) (holds.head from.0 from.1);
    urls_hold = holds_beside among s t urls state.urls law consistent stops (λ f is. bay_apart urls.base f holds.base is) holds.urls_hold;
    legal = legal book may;
    rest = λ image left. let from = left_now s t _ consistent stops image left in rest_with book from.0 image from.2 (stands image left) (holds.rest from.0 from.1);
  }

-- ---- answers
pub failed_or_not : (result : Result Unit Fault) → IsErrOf result Failed ⊎ (IsErrOf result Failed → ⊥)
failed_or_not (Ok value) = inr (λ is. cc)
failed_or_not (Err Failed) = inl refl
failed_or_not (Err Memory) = inr (λ is. cc)
failed_or_not (Err (Full n)) = inr (λ is. cc)
failed_or_not (Err (Damaged f at)) = inr (λ is. cc)

pub on_ok : (result : Result Unit Fault) (P : Type 0) → ((value : Unit) → result ≡ Ok value → P) → OnOk result P
on_ok (Ok value) P gives = gives value refl
on_ok (Err fault) P gives = tt

-- of what is counted behind
behind_failed : (result : Result Unit Fault) → IsErrOf (counted_behind result) Failed → IsErrOf result Failed
behind_failed (Ok value) is = absurd (cc)
behind_failed (Err Failed) is = refl
behind_failed (Err Memory) is = absurd (cc)
behind_failed (Err (Full n)) is = absurd (cc)
behind_failed (Err (Damaged f at)) is = absurd (cc)

failed_behind : (result : Result Unit Fault) → IsErrOf result Failed → IsErrOf (counted_behind result) Failed
failed_behind (Ok value) is = absurd (cc)
failed_behind (Err Failed) is = refl
failed_behind (Err Memory) is = absurd (cc)
failed_behind (Err (Full n)) is = absurd (cc)
failed_behind (Err (Damaged f at)) is = absurd (cc)

behind_full : (result : Result Unit Fault) (n : ℕ) → IsErrOf (counted_behind result) (Full n) → (b : ℕ) × (n ≡ 64 + b) × IsErrOf result (Full b)
behind_full (Ok value) n is = absurd (cc)
behind_full (Err Failed) n is = absurd (cc)
behind_full (Err Memory) n is = absurd (cc)
behind_full (Err (Full b)) n is = let same : 64 + b ≡ n = cc in (b, sym same, refl)
behind_full (Err (Damaged f at)) n is = absurd (cc)

behind_damaged : (result : Result Unit Fault) (f at : ℕ) → IsErrOf (counted_behind result) (Damaged f at) → IsErrOf result (Damaged f at)
behind_damaged (Ok value) f at is = absurd (cc)
behind_damaged (Err Failed) f at is = absurd (cc)
behind_damaged (Err Memory) f at is = absurd (cc)
behind_damaged (Err (Full b)) f at is = absurd (cc)
behind_damaged (Err (Damaged g place)) f at is = is

behind_ok : (result : Result Unit Fault) (P : Type 0) → OnOk result P → OnOk (counted_behind result) P
behind_ok (Ok value) P has = has
behind_ok (Err Failed) P has = tt
behind_ok (Err Memory) P has = tt
behind_ok (Err (Full b)) P has = tt
behind_ok (Err (Damaged f at)) P has = tt

-- ---- what is kept in memory
-- parts that keep a crawl, whichever their ledgers are called
pub keeps_crawl : (was now : Parts) (old new : Ledger) → was.rest ≡ Crawl old → now.rest ≡ Crawl new → KeepsCrawl old new → (first second : Ledger) → was.rest ≡ Crawl first → now.rest ≡ Crawl second
    → KeepsCrawl first second
keeps_crawl was now old new was_rest now_rest keeps first second was_is now_is =
    subst (λ (x : Ledger). KeepsCrawl x second) (same_crawl old first (sym was_rest ∙ was_is)) (subst (KeepsCrawl old) (same_crawl new second (sym now_rest ∙ now_is)) keeps)

pub pairs_stay : (was now : Parts) (old new : Ledger) → was.rest ≡ Crawl old → now.rest ≡ Crawl new → new.pairs ≡ old.pairs → (first second : Ledger) → was.rest ≡ Crawl first → now.rest ≡ Crawl second
    → second.pairs ≡ first.pairs
pairs_stay was now old new was_rest now_rest same first second was_is now_is =
    ap (λ (l : Ledger). l.pairs) (sym (same_crawl new second (sym now_rest ∙ now_is))) ∙ same ∙ ap (λ (l : Ledger). l.pairs) (same_crawl old first (sym was_rest ∙ was_is))

-- ---- the links are offered
module _ (result : Result Unit Fault) (was now : Parts) (old new : Ledger) (s t : Told) (law : IsDrum was.urls) (lawful : IsConsistent t) (was_rest : was.rest ≡ Crawl old)
    (now_rest : now.rest ≡ Crawl new)
    (now_urls : now.urls ≡ was.urls) (others : new ≡ record old { pairs = new.pairs }) (kind : was.urls.settings.kind ≡ CrawlKind) (opened : IsOpenLedger was.urls old s.files)
    (begun : old.frontier.progress.begun ≡ true) (offers : OffersPairs result (unwrap_or old.suffixes []) old.frontier.progress.sent was.urls old.pairs new.pairs s t) where
  abbrev before : Moment
  before = moment s old.pairs no_waiting

  abbrev after : Moment
  after = moment t new.pairs offers.waits

  abbrev settings : Settings
  settings = was.urls.settings

  still : Stays before after
  still = offers.runs.stays

  abbrev among_pairs : ℕ → Type 0
  among_pairs = IsFileOf pairs_base settings.buckets

  pairs_leave : LeavesBy (ChangesOnly (IsFileOf pairs_base settings.buckets)) s t
  pairs_leave = subst (λ (n : ℕ). LeavesBy (ChangesOnly (IsFileOf n settings.buckets)) s t) opened.base
      (subst (λ (p : Settings). LeavesBy (ChangesOnly (IsFileOf old.pairs.base p.buckets)) s t) opened.settings still.others_stop)

  pairs_tell : TellsOnly (IsFileOf pairs_base settings.buckets) s.files t.files
  pairs_tell = subst (λ (n : ℕ). TellsOnly (IsFileOf n settings.buckets) s.files t.files) opened.base
      (subst (λ (p : Settings). TellsOnly (IsFileOf old.pairs.base p.buckets) s.files t.files) opened.settings still.others)

  now_base : new.pairs.base ≡ pairs_base
  now_base = still.base ∙ opened.base

  now_settings : new.pairs.settings ≡ pair_settings settings
  now_settings = still.settings ∙ opened.settings

  module _ (state : State) (holds : HoldsState s.images was state) (files : Files) (told : s.files ≡ Some files) where
    held : HoldsLedger s.images settings old state.urls state.pairs state.events
    held = let both : HoldsOpen s.images settings (Crawl old) state.urls state.pairs state.events =
        subst (λ (r : Rest). HoldsOpen s.images settings r state.urls state.pairs state.events) was_rest holds.open_rest in
        both.1

    begun_events : is_some (begun_with state.events) ≡ true
    begun_events = ap (λ (o : Option (List ℕ)). is_some o) (sym held.suffixes) ∙ sym opened.begun ∙ begun

    same_links : links_of (unwrap_or old.suffixes []) (judged_after old.frontier.progress.sent state.urls) ≡ new_links settings state.urls state.events
    same_links = ap (λ (o : Option (List ℕ)). links_of (unwrap_or o []) (judged_after old.frontier.progress.sent state.urls)) held.suffixes
        ∙ ap (λ (x : Progress). links_of (unwrap_or (begun_with state.events) []) (judged_after x.sent state.urls)) held.frontier.progress_is

    front : IsPrefixOf offers.news (new_links settings state.urls state.events)
    front = subst (λ (l : List Tuple). IsPrefixOf offers.news l) same_links (offers.front files told state.urls holds.urls.urls_hold)

    -- at the end
    ended : (book : Book) → IsDrum new.pairs → MayHaveSent settings state book → Holds t.images new.pairs book → HoldsState t.images now (with_pairs book state)
    ended book pairs_law may holds_book =
        let stands : (image : Files) → t.images image → Stands pairs_base (pair_settings settings) book image = λ image left.
        subst (λ (n : ℕ). Stands n (pair_settings settings) book image) now_base
        (subst (λ (p : Settings). Stands new.pairs.base p book image) now_settings (holds_stands t.images new.pairs book image pairs_law holds_book left)) in
        let urls_now = urls_with s t was.urls state law lawful kind holds.urls begun_events book may pairs_leave stands in
        let ledger = ledger_with was.urls old new.pairs before after law opened refl refl still settings state.urls state.pairs book state.events lawful may.front holds_book held in
        let beside : HoldsOpen t.images settings (Crawl new) state.urls book state.events =
        (kind, subst (λ (l : Ledger). HoldsLedger t.images settings l state.urls book state.events) (sym others) ledger) in
        record {
          urls = subst (λ (d : Drum). HoldsUrls t.images d (with_pairs book state)) (sym now_urls) urls_now;
          open_rest = subst (λ (d : Drum). HoldsOpen t.images d.settings now.rest state.urls book state.events) (sym now_urls)
              (subst (λ (r : Rest). HoldsOpen t.images settings r state.urls book state.events) (sym now_rest) beside);
        }

    was_is : IsBookOf (pair_settings settings) state.pairs
    was_is = subst (λ (p : Settings). IsBookOf p state.pairs) opened.settings held.pairs_hold.book_is

    -- a book that grew in batches, by the settings of the pairs, and one between
    abbrev GrowsBy : Book → Type 0
    GrowsBy book = Grows (pair_settings settings) 1 state.pairs book

    grows_by : (book : Book) → Grows old.pairs.settings 1 state.pairs book → GrowsBy book
    grows_by book = subst (λ (p : Settings). Grows p 1 state.pairs book) opened.settings

    less_grows : (book most : Book) → IsFront state.pairs book → IsFront book most → FewUnjudged old.pairs.settings state.pairs book → GrowsBy most → GrowsBy book
    less_grows book most first later few =
        grows_between (pair_settings settings) 1 state.pairs book most first later (subst (λ (p : Settings). FewUnjudged p state.pairs book) opened.settings few)

    -- files that stand for a book between two, of which the second has only new links behind
    has_between : (x most : Book) → IsFront state.pairs x → FewUnjudged old.pairs.settings state.pairs x → GrowsBy most → TakesWaiting (pair_settings settings) state.pairs no_waiting most offers.news
        → (image : Files) → Follows (ChangesOnly among_pairs) s.images image → HasBetween old.pairs.base old.pairs.settings x most image
        → HasOneBetween (with_pairs x state) (with_pairs most state) image
    has_between x most first few grows takes image from both =
        let stands = subst (λ (n : ℕ). Stands n (pair_settings settings) both.0 image) opened.base
        (subst (λ (p : Settings). Stands old.pairs.base p both.0 image) opened.settings both.1) in
        let up = front_both state.pairs x both.0 first both.2 in
        let grown = less_grows both.0 most up both.3 (few_both old.pairs.settings state.pairs x both.0 few both.4) grows in
        let may = may_between settings state.urls state.pairs state.events both.0 most offers.news was_is stands.book_is grown both.3 front takes in (
          with_pairs both.0 state,
          has_pairs s t was.urls state law lawful kind holds.urls begun_events both.0 image may from stands,
          pairs_front (with_pairs x state) both.0 both.2,
          pairs_front (with_pairs both.0 state) most both.3,
        )

    -- and so a stop leaves one
    stops_between : (most : Book) → GrowsBy most → TakesWaiting (pair_settings settings) state.pairs no_waiting most offers.news
        → Leaves s t (HasBetween old.pairs.base old.pairs.settings state.pairs most) → Leaves s t (HasOneBetween state (with_pairs most state))
    stops_between most grows takes leaves = widens s t _ _ (leaves_pair s t _ _ pairs_leave leaves) (λ image both.
        has_between state.pairs most (front_same state.pairs) (few_same old.pairs.settings state.pairs) grows takes image both.0 both.1)

    leads : (fed : Fed 1 one_more offers.news before after state.pairs) → IsDrum new.pairs → MayHaveSent settings state fed.book → LeadsTo state (with_pairs fed.book state) now s t
    leads fed pairs_law may = record {
      holds = ended fed.book pairs_law may fed.holds;
      front = pairs_front state fed.book may.front;
      stops = stops_between fed.book (grows_by fed.book fed.grows) (fed_takes settings state.urls state.pairs state.events offers.news before after refl opened.settings fed) fed.stops;
    }

    kept : IsDrum new.pairs → (IsErrOf result Failed → ⊥) → (book : Book) × MayHaveSent settings state book × LeadsTo state (with_pairs book state) now s t
    kept pairs_law not =
        let fed = offers.runs.fed not files told state.pairs held.pairs_hold in
        let may = fed_may settings state.urls state.pairs state.events offers.news before after refl opened.settings fed still front in
        (fed.book, may, leads fed pairs_law may)

    -- where the store failed
    fails : IsErrOf result Failed → FailsAt (IsSomeSent settings state) state s t
    fails failed =
        let strands = offers.runs.stranded failed files told state.pairs held.pairs_hold in
        let takes = subst (λ (p : Settings). TakesWaiting p state.pairs no_waiting strands.most offers.news) opened.settings strands.takes in
        let may : (x : Book) → IsBookOf old.pairs.settings x → Grows old.pairs.settings 1 state.pairs x → IsFront x strands.most → MayHaveSent settings state x = λ x is grows later.
        may_between settings state.urls state.pairs state.events x strands.most offers.news was_is (subst (λ (p : Settings). IsBookOf p x) opened.settings is) (grows_by x grows) later front takes in
        let up : IsFront strands.kept strands.most = front_both strands.kept strands.book strands.most strands.kept_front strands.front in
        let kept_may = may strands.kept strands.kept_legal strands.kept_grows up in
        let most_may = may strands.most strands.legal strands.may_grow (front_same strands.most) in
        let later = tells_on _ s.files t.files files still.others told in
        let legal : (x : Book) → MayHaveSent settings state x → IsStateOf settings (with_pairs x state) = pairs_state s t was.urls state law lawful kind holds.urls begun_events in
        let follows : (image : Files) → t.images image → Follows (ChangesOnly among_pairs) s.images image = λ image left. left_now s t _ lawful pairs_leave image left in
        record {
          kept = with_pairs strands.kept state;
          state = with_pairs strands.book state;
          most = with_pairs strands.most state;
          may_kept = (strands.kept, kept_may, refl);
          may_state = (strands.book, may strands.book (strands.told later.0 later.1).book_is strands.grows strands.front, refl);
          may_most = (strands.most, most_may, refl);
          told = λ image is.
              let stands = strands.told image is in
              let moved = subst (λ (n : ℕ). Stands n (pair_settings settings) strands.book image) opened.base
              (subst (λ (p : Settings). Stands old.pairs.base p strands.book image) opened.settings stands) in
              has_pairs s t was.urls state law lawful kind holds.urls begun_events strands.book image (may strands.book stands.book_is strands.grows strands.front)
              (follows image (lawful.told image is)) moved;
          first = pairs_front state strands.kept strands.kept_grows.front;
          fronts = (pairs_front (with_pairs strands.kept state) strands.book strands.kept_front, pairs_front (with_pairs strands.book state) strands.most strands.front);
          legal = (inr (settings, legal strands.kept kept_may), inr (settings, legal strands.most most_may));
          stops = stops_between strands.most (grows_by strands.most strands.may_grow) takes strands.stops;
          now = λ image left. has_between strands.kept strands.most strands.kept_grows.front strands.kept_grows.waits (grows_by strands.most strands.may_grow) takes image (follows image left)
              (strands.now image left);
        }

    done : IsDrum new.pairs → (value : Unit) → result ≡ Ok value → (book : Book) × HasSentAll settings state book × LeadsTo state (with_pairs book state) now s t
        × ArePairsSent (with_pairs book state)
    done pairs_law value is =
        let fed = offers.runs.fed (λ failed. let both = sym is ∙ failed in let no : ⊥ = cc in absurd no) files told state.pairs held.pairs_hold in
        let all = ok_gives result value offers.all is files told state.urls holds.urls.urls_hold ∙ same_links in
        let sent = fed_all settings state.urls state.pairs state.events offers.news before after refl opened.settings fed still pairs_law all (ok_gives result value offers.emptied is)
        (ok_gives result value offers.judged_all is) in
        let crawl = legal_as settings kind state.pairs state.urls state.events holds.urls.legal in
        (fed.book, sent, leads fed pairs_law sent.may, sent_event settings state.urls state.pairs state.events fed.book holds.urls.urls_hold.book_is crawl begun_events sent)

    -- a stop on the way
    between : (most : Book) → GrowsBy most → TakesWaiting (pair_settings settings) state.pairs no_waiting most offers.news → Leaves s t (HasBetween old.pairs.base old.pairs.settings state.pairs most)
        → Leaves s t (HasSomeSent settings state)
    between most grows takes leaves = widens s t _ _ (leaves_pair s t _ _ pairs_leave leaves) (λ image both.
        let stands = subst (λ (n : ℕ). Stands n (pair_settings settings) both.1.0 image) opened.base
        (subst (λ (p : Settings). Stands old.pairs.base p both.1.0 image) opened.settings both.1.1) in
        let was_is = subst (λ (p : Settings). IsBookOf p state.pairs) opened.settings held.pairs_hold.book_is in
        let grown = less_grows both.1.0 most both.1.2 both.1.3 both.1.4 grows in
        let may = may_between settings state.urls state.pairs state.events both.1.0 most offers.news was_is stands.book_is grown both.1.3 front takes in
        (both.1.0, may, has_pairs s t was.urls state law lawful kind holds.urls begun_events both.1.0 image may both.0 stands))

    stops : Leaves s t (HasSomeSent settings state)
    stops = ⊎_elim
        (λ (failed : IsErrOf result Failed).
        let strands = offers.runs.stranded failed files told state.pairs held.pairs_hold in
        between strands.most (grows_by strands.most strands.may_grow) (subst (λ (p : Settings). TakesWaiting p state.pairs no_waiting strands.most offers.news) opened.settings strands.takes)
        strands.stops)
        (λ (not : IsErrOf result Failed → ⊥).
        let fed = offers.runs.fed not files told state.pairs held.pairs_hold in
        between fed.book (grows_by fed.book fed.grows) (fed_takes settings state.urls state.pairs state.events offers.news before after refl opened.settings fed) fed.stops)
        (failed_or_not result)

    not_damaged : (f at : ℕ) → IsErrOf result (Damaged f at) → ⊥
    not_damaged f at is = ⊎_elim
        (λ there. there.whole files told state.urls holds.urls.urls_hold (legal_as settings kind state.pairs state.urls state.events holds.urls.legal).taken)
        (λ here. here.0 files told state.pairs held.pairs_hold)
        (offers.runs.damaged f at is)

    too_many : (b : ℕ) → IsErrOf result (Full b) → (b < settings.buckets) × (settings.cap < links_in settings state b)
    too_many b is =
        let why = offers.runs.full b is in
        let fed = offers.runs.fed (λ failed. let both = sym is ∙ failed in let no : ⊥ = cc in absurd no) files told state.pairs held.pairs_hold in (
          subst (λ (p : Settings). b < p.buckets) opened.settings why.0,
          fed_full settings state.urls state.pairs state.events offers.news before after refl opened.settings fed still b why.0 front why.2,
        )

    -- what becomes of the records of the live journals
    pair_records : AddsPairRecords (IsErrOf (counted_behind result) Failed) was now s t
    pair_records = record {
      records = λ not first second was_is now_is records have.
          let old_is = same_crawl old first (sym was_rest ∙ was_is) in
          let new_is = same_crawl new second (sym now_rest ∙ now_is) in
          let fed = offers.runs.fed (λ failed. not (failed_behind result failed)) files told state.pairs held.pairs_hold in
          let gives = fed.records records (subst (λ (l : Ledger). HaveRecords s.images l.pairs records) (sym old_is) have) in (
            gives.0,
            subst (λ (l : Ledger). HaveRecords t.images l.pairs gives.0) new_is gives.1,
            subst (λ (l : Ledger). AddsUneven one_more l.pairs.settings.buckets l.pairs.settings.array records gives.0) old_is gives.2,
          );
      stops = λ first was_is records have.
          let old_is = same_crawl old first (sym was_rest ∙ was_is) in
          let had = subst (λ (l : Ledger). HaveRecords s.images l.pairs records) (sym old_is) have in
          subst (λ (l : Ledger). Leaves s t (LeavesUneven one_more l.pairs records)) old_is (⊎_elim
          (λ (failed : IsErrOf result Failed). (offers.runs.stranded failed files told state.pairs held.pairs_hold).records_stop records had)
          (λ (not : IsErrOf result Failed → ⊥). (offers.runs.fed not files told state.pairs held.pairs_hold).records_stop records had)
          (failed_or_not result));
    }

  -- a bucket that is full takes no whole array more
  no_room : (b : ℕ) → IsErrOf result (Full b) → new.pairs.settings.cap < durable_at new.pairs b + new.pairs.settings.array
  no_room b is =
      let why = offers.runs.full b is in
      let few = offers.few b (subst (λ (p : Settings). b < p.buckets) (sym still.settings) why.0) in
      omega (arith, why.2, few, ap (λ (p : Settings). p.cap) still.settings)

  -- what is open stays so
  pub sent_open : IsOpenLedger was.urls new t.files
  sent_open = subst (λ (l : Ledger). IsOpenLedger was.urls l t.files) (sym others)
      (open_with was.urls old new.pairs before after law opened refl refl still (IsErrOf result Failed) offers.goes_on)

  pub sent_long : ForSome s.files (λ files. IsLong was.urls files) → ForSome t.files (λ files. IsLong was.urls files)
  sent_long long = long_beside (IsFileOf old.pairs.base old.pairs.settings.buckets) s.files t.files was.urls law still.others
      (λ f one two. files_of_both settings.buckets f (few settings law.settings) (subst (λ (n : ℕ). IsFileOf n settings.buckets f) opened.urls_at one)
      (subst (λ (p : Settings). IsFileOf pairs_base p.buckets f) opened.settings (subst (λ (n : ℕ). IsFileOf n old.pairs.settings.buckets f) opened.base two))) long

  pub sent_sound : old.log.journal.is_sound ≡ true → (IsErrOf result Failed → ⊥) → IsSoundLedger new
  sent_sound log not = (offers.goes_on.sound not, ap (λ (l : Ledger). l.log.journal.is_sound) others ∙ log)

  pub offers_state : OffersState (counted_behind result) was now s t
  offers_state = record {
    holds = λ not files told state holds. kept state holds files told offers.goes_on.drum (λ failed. not (failed_behind result failed));
    all = behind_ok result _ (on_ok result _ (λ value is files told state holds. done state holds files told offers.goes_on.drum value is));
    failed = λ is files told state holds. fails state holds files told (behind_failed result is);
    stops = λ files told state holds. stops state holds files told;
    full = λ n is files told state holds.
        let why = behind_full result n is in
        let many = too_many state holds files told why.0 why.2 in
        (why.0, why.1, many.0, many.1);
    room = λ b ledger is rest.
        let why = behind_full result (64 + b) is in
        let same : why.0 ≡ b = omega (arith, why.1) in
        subst (λ (l : Ledger). l.pairs.settings.cap < durable_at l.pairs b + l.pairs.settings.array) (same_crawl new ledger (sym now_rest ∙ rest))
        (no_room b (subst (λ (n : ℕ). IsErrOf result (Full n)) same why.2));
    records = λ files told state holds. pair_records state holds files told;
    damaged = λ f at is files told state holds. not_damaged state holds files told f at (behind_damaged result f at is);
    cause = record { later = offers.runs.cause.later; rose = λ failed. offers.runs.cause.rose (behind_failed result failed) };
    urls = now_urls;
    spoilt = λ f at is. ⊎_elim
        (λ there. inl there.spoilt)
        (λ here. inr (new, now_rest, λ files told. inl (here.1 files told)))
        (offers.runs.damaged f at (behind_damaged result f at is));
    others = record { told = pairs_tell; stops = pairs_leave };
    told = λ files told. tells_on _ s.files t.files files still.others told;
    tables = keeps_crawl was now old new was_rest now_rest (record {
      suffixes = ap (λ (l : Ledger). l.suffixes) others;
      front = ap (λ (l : Ledger). l.frontier.progress.front) others;
      begun = ap (λ (l : Ledger). l.frontier.progress.begun) others;
    });
  }

-- ---- soundness
not_true : (b : Bool) → (b ≡ true → ⊥) → b ≡ false
not_true true not = absurd (not refl)
not_true false not = refl

pub stays_sound : (result answered : Result Unit Fault) (now : Parts) (new : Ledger) → IsDrum now.urls → now.urls.is_sound ≡ true → now.rest ≡ Crawl new
    → ((now.has_failed ≡ true) ↔ IsErrOf result Failed)
    → ((IsErrOf result Failed → ⊥) → IsSoundLedger new) → (IsErrOf answered Failed → IsErrOf result Failed) → (IsErrOf result Failed → IsErrOf answered Failed)
    → StaysSound (IsErrOf answered Failed) now
stays_sound result answered now new law urls rest fails ledger one other = record {
  drum = law;
  sound = λ not. (urls, not_true now.has_failed (λ is. not (other (fails.0 is))), subst IsSoundRest (sym rest) (ledger (λ failed. not (other failed))));
  unsound = λ failed sound. let yes : now.has_failed ≡ true = fails.1 (one failed) in let both = sym yes ∙ sound.1 in let no : ⊥ = cc in no;
}

-- ---- the parts of a crawl that is open
pub begun_of : (rest : Rest) (crawl : Ledger) → rest ≡ Crawl crawl → HasBegun rest → crawl.frontier.progress.begun ≡ true
begun_of rest crawl is begun = let has : HasBegun (Crawl crawl) = subst HasBegun is begun in has

pub pairs_sound : (rest : Rest) (crawl : Ledger) → rest ≡ Crawl crawl → IsSoundRest rest → crawl.pairs.is_sound ≡ true
pairs_sound rest crawl is sound = let both : IsSoundRest (Crawl crawl) = subst IsSoundRest is sound in both.0

-- ---- the tables are told
module _ (result : Result Unit Fault) (was now : Parts) (old new : Ledger) (s t : Told) (law : IsDrum was.urls) (lawful : IsConsistent t) (was_rest : was.rest ≡ Crawl old)
    (now_rest : now.rest ≡ Crawl new)
    (now_urls : now.urls ≡ was.urls) (kind : was.urls.settings.kind ≡ CrawlKind) (opened : IsOpenLedger was.urls old s.files) (tells : TellsPairs result old new s t) where
  pub tells_state : TellsState result was now s t
  tells_state = record {
    holds = λ files told state holds.
        let both : HoldsOpen s.images was.urls.settings (Crawl old) state.urls state.pairs state.events =
        subst (λ (r : Rest). HoldsOpen s.images was.urls.settings r state.urls state.pairs state.events) was_rest holds.open_rest in
        let beside : HoldsOpen t.images was.urls.settings (Crawl new) state.urls state.pairs state.events = (
          kind,
          subst (λ (l : Ledger). HoldsLedger t.images was.urls.settings l state.urls state.pairs state.events) (sym tells.others)
              (told_ledger was.urls old new s t result lawful opened tells was.urls.settings state.urls state.pairs state.events files told both.1),
        ) in
        record {
          urls = subst (λ (d : Drum). HoldsUrls t.images d state) (sym now_urls) (holds_same s t was.urls state law lawful tells.reads.reads.stops holds.urls);
          open_rest = subst (λ (d : Drum). HoldsOpen t.images d.settings now.rest state.urls state.pairs state.events) (sym now_urls)
              (subst (λ (r : Rest). HoldsOpen t.images was.urls.settings r state.urls state.pairs state.events) (sym now_rest) beside);
        };
    stops = λ files told state holds. stops_same s t was.urls state law holds.urls tells.reads.reads.stops;
    full = tells.reads.full;
    damaged = λ f at is files told state holds.
        let both : HoldsOpen s.images was.urls.settings (Crawl old) state.urls state.pairs state.events =
        subst (λ (r : Rest). HoldsOpen s.images was.urls.settings r state.urls state.pairs state.events) was_rest holds.open_rest in
        tells.reads.whole f at is files told state.pairs both.1.pairs_hold;
    cause = tells.reads.reads.cause;
    urls = now_urls;
    spoilt = λ f at is. (
      new,
      now_rest,
      λ files told. inr (subst (λ (d : Drum). IsJudgedSpoiltAt d files f at) (sym (ap (λ (l : Ledger). l.pairs) tells.others))
          (tells.reads.spoilt f at is files (sym tells.reads.reads.same ∙ told))),
    );
    others = record { told = tells_same (λ f. ⊥) s.files t.files tells.reads.reads.same; stops = leaves_same (λ f. ⊥) s t tells.reads.reads.stops };
    told = λ files told. tells.reads.reads.same ∙ told;
    tables = keeps_crawl was now old new was_rest now_rest (record {
      suffixes = ap (λ (l : Ledger). l.suffixes) tells.others;
      front = ap (λ (x : Progress). x.front) tells.tells.progress;
      begun = ap (λ (x : Progress). x.begun) tells.tells.progress;
    });
    pairs = pairs_stay was now old new was_rest now_rest (ap (λ (l : Ledger). l.pairs) tells.others);
  }

pub told_of : (rest : Rest) (crawl : Ledger) → rest ≡ Crawl crawl → HasToldAll rest → crawl.frontier.told ≡ crawl.pairs.last.judged
told_of rest crawl is told = let has : HasToldAll (Crawl crawl) = subst HasToldAll is told in has
