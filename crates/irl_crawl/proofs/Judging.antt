-- Judging what is unjudged, and then sending the pairs, over states.
use Rattle.std.proofs.Common.{◌≡◌, ◌∙◌, inr, ⊎_elim, ℕ, ◌+◌, ◌<◌, nat_eq, Bool, true, false, cond, List, [], ◌∷◌, ◌++◌, length, Option, Some, Result}
use Rattle.std.proofs.Common.{Ok, Err, OnOk, IsErrOf, refl, sym, ap, subst, append-nil, length-append, arith}
use Rattle.std.specs.Prelude.{unwrap_or}
use Rattle.std.proofs.lemmas.Bool.{eqb-true}
use Rattle.std.proofs.lemmas.List.{ext_get_or}
use Rattle.std.specs.List.{AllByRecursion}
use Rattle.irl_base.proofs.Among.{among_none}
use Rattle.irl_base.specs.declared.fault.Fault.{Fault}
use Rattle.irl_base.specs.declared.fault.Fault.TheVariants.{Damaged, Failed, Full}
use Rattle.irl_bay.specs.Drum.{Drum, HasNumbers, IsDrum, durable_at, durables, pending_at}
use Rattle.irl_core.specs.States.{begun_with}
use Rattle.irl_disk.specs.Disk.{Files}
use Rattle.irl_disk.specs.Images.{IsConsistent, Told}
use Rattle.irl_events.proofs.Following.{after_more}
use Rattle.irl_events.specs.Events.{Happened, Progress, before_all, progress}
use Rattle.irl_events.specs.State.{State}
use Rattle.irl_model.specs.Book.{Book, IsPrefixOf, judged_cut, lengths_of, part}
use Rattle.irl_offer.specs.Tuple.{Tuple}
use Rattle.irl_offer.specs.declared.settings.Settings.{Settings}
use Rattle.irl_schedule.proofs.Counts.{durable_index, length-durables}
use Rattle.irl_schedule.proofs.Outcomes.{err_gives, ok_gives, ok_weaker}
use Rattle.irl_schedule.proofs.Chains.{grows_more, grows_same, tells_on}
use Rattle.irl_ledger.specs.Crawling.{pair_settings}
use Rattle.irl_ledger.specs.Sending.{judged_after, links_of, new_links}
use Rattle.irl_schedule.proofs.Steps.{durable_held}
use Rattle.irl_schedule.specs.Feeding.{Fed, Grows, Waits, list_at, moment}
use Rattle.irl_schedule.specs.Schedule.{none_more}
use Rattle.irl_schedule.specs.Scheduling.{Schedules}
use Rattle.irl_yard.specs.declared.parts.Parts.{Parts}
use Rattle.irl_yard.specs.declared.parts.Rest.{Rest}
use Rattle.irl_yard.specs.declared.parts.Rest.TheVariants.{Crawl}
use Rattle.irl_yard.specs.Adding.{with_event}
use Rattle.irl_yard.specs.Holding.{HoldsOpen, HoldsState, IsOpenRest, StaysSound}
use Rattle.irl_yard.specs.Leading.{LeadsTo}
use Rattle.irl_yard.specs.Sending.{AreSentAlready, HasBegun, HasSentAll, IsOnTheWay, MayHaveSent, SendsPairs, links_in, sent_of, sent_state, with_pairs}
use Rattle.irl_yard.specs.Standing.{with_urls}
use Rattle.irl_crawl.specs.Judging.{IsJudged, IsOfPairs, Judges, OnlyJudges}
use Rattle.irl_yard.specs.Passing.{front_in, suffixes_in}
use Rattle.irl_yard.proofs.Begun.{pairs_front, pairs_suffixes}
use Rattle.irl_yard.proofs.SentWhole.{crawl_in}
use Rattle.irl_crawl.specs.Leading.{GrowsInBatches, HasGround, IsSent, KeepsFront, Leads, NeedsNoGround}
use Rattle.irl_crawl.specs.Sending.{SendsAll, SendsLinks, links_since, pairs_for}
use Rattle.irl_crawl.proofs.Leading.{always, fails_wide, leads_then, leads_wide, never}
use Rattle.irl_crawl.proofs.OtherFiles.{others_sent}
use Rattle.irl_crawl.proofs.Batches.{covers_among, ground_none, ground_then, grown_to}
use Rattle.irl_crawl.proofs.Books.{AddsSome, adds_fed, adds_grown, lifts, takes_each}
use Rattle.irl_crawl.proofs.Sent.{owe_from, sends_all_from, sends_all_to, sends_from, sends_same, sends_to, sent_by}
use Rattle.irl_crawl.proofs.Spread.{same_each}
use Rattle.irl_crawl.proofs.Stores.{begun_held}

-- ---- nothing is offered but pairs
-- The first cuts one book, and the second the other.
pub record CutsUrls (settings : Settings) (x y : State) : Type 0 where
  pub grows : GrowsInBatches settings 1 x y
  pub lists : y.urls.lists ≡ x.urls.lists
  pub events : y.events ≡ x.events
  pub pairs : y.pairs ≡ x.pairs

pub record CutsPairs (suffixes : List ℕ) (settings : Settings) (x y : State) : Type 0 where
  pub only : OnlyJudges suffixes settings x y
  pub urls : y.urls ≡ x.urls

cuts_only : (suffixes : List ℕ) (settings : Settings) (x y : State) → CutsUrls settings x y → OnlyJudges suffixes settings x y
cuts_only suffixes settings x y cuts = record {
  grows = cuts.grows;
  lists = cuts.lists;
  more = [];
  events = cuts.events ∙ sym (append-nil x.events);
  pairs = tt;
  sends = sends_same suffixes settings x y cuts.pairs;
}

-- a merge sends no pair
cuts_sent : (settings : Settings) (x y : State) → CutsUrls settings x y → sent_by settings y ≡ sent_by settings x
cuts_sent settings x y cuts = ap (λ (hs : List Happened). (progress settings.queues settings.buckets hs).sent) cuts.events

pub only_both : (suffixes : List ℕ) (settings : Settings) (x y z : State) → CutsUrls settings x y → CutsPairs suffixes settings y z → OnlyJudges suffixes settings x z
only_both suffixes settings x y z first second =
    let two = second.only in
    record {
      grows = record {
        urls = subst (λ (b : Book). Grows settings 1 x.urls b) (sym second.urls) first.grows.urls;
        pairs = subst (λ (b : Book). Grows (pair_settings settings) 1 b z.pairs) first.pairs two.grows.pairs;
      };
      lists = two.lists ∙ first.lists;
      more = two.more;
      events = two.events ∙ ap (λ (l : List Happened). l ++ two.more) first.events;
      pairs = two.pairs;
      sends = sends_from suffixes settings x y z first.pairs (cuts_sent settings x y first) two.sends;
    }

-- ---- a merge
-- where nothing is unjudged the last cut is at the lists' ends
all_cut : (drum : Drum) (book : Book) → IsDrum drum → HasNumbers drum book → ((b : ℕ) → b < drum.settings.buckets → pending_at drum b ≡ 0) → judged_cut book ≡ lengths_of book
all_cut drum book law numbers none =
    let count : length drum.last.cut ≡ length (durables drum) = law.last.count ∙ sym (length-durables drum ∙ law.count) in
    let same : drum.last.cut ≡ durables drum =
    ext_get_or 0 drum.last.cut (durables drum) count (λ b within.
    let inside : b < drum.settings.buckets = omega (arith, within, law.last.count) in
    let at = durable_index drum b in
    let judged = (law.buckets b inside).judged in
    let waits : pending_at drum b ≡ 0 = none b inside in
    omega (arith, at, judged, waits)) in
    sym numbers.commit.cut ∙ same ∙ numbers.offers

abbrev pub no_waits : Waits
no_waits b = []

pub record MergesAll (result : Result Unit Fault) (settings : Settings) (x y : State) : Type 0 where
  pub only : CutsUrls settings x y
  pub all : OnOk result (judged_cut y.urls ≡ lengths_of y.urls)
  pub ground : NeedsNoGround result

module _ (result : Result Unit Fault) (was now : Parts) (s t : Told) (opened : IsOpenRest was.urls was.rest s.files) (law : IsDrum was.urls) (consistent : IsConsistent t) (begun : HasBegun was.rest)
    (schedules : Schedules result 1 none_more [] (moment s was.urls no_waits) (moment t now.urls no_waits)) (judged : OnOk result ((b : ℕ) → b < was.urls.settings.buckets → pending_at now.urls b ≡ 0))
    (rest : now.rest ≡ was.rest) (goes_on : StaysSound (IsErrOf result Failed) now) where
  adds_only : (x y : State) → AddsSome was.urls.settings 1 [] x y → CutsUrls was.urls.settings x y
  adds_only x y adds =
      let none : (b : ℕ) → part was.urls.settings.buckets b [] ≡ [] = λ b. refl in
      record {
        grows = adds_grown was.urls.settings 1 [] x y adds;
        lists = same_each (λ b. part was.urls.settings.buckets b []) x.urls.lists y.urls.lists adds.front.lists none (takes_each was.urls.settings 1 [] x y adds);
        events = ap (λ (z : State). z.events) adds.others;
        pairs = ap (λ (z : State). z.pairs) adds.others;
      }

  merged : (x : State) → HoldsState s.images was x → (fed : Fed 1 none_more [] (moment s was.urls no_waits) (moment t now.urls no_waits) x.urls)
      → ((f at : ℕ) → IsErrOf result (Damaged f at) → ⊥) → MergesAll result was.urls.settings x (with_urls fed.book x)
  merged x held fed whole = record {
    only = adds_only x (with_urls fed.book x) (adds_fed 1 none_more [] was now s t no_waits no_waits (λ b. refl) opened law consistent begun tt schedules.stays rest x fed);
    all = ok_weaker result judged (λ none. all_cut now.urls fed.book goes_on.drum fed.holds.numbers
        (λ b within. none b (subst (λ (p : Settings). b < p.buckets) schedules.stays.settings within)));
    ground = record {
      full = λ n is. let some = (schedules.full n is).1 in absurd (omega (arith, some));
      whole = whole;
    };
  }

  pub merge_leads : Leads (IsErrOf result Failed) (CutsUrls was.urls.settings) (MergesAll result was.urls.settings) was now s t
  merge_leads =
      lifts 1 none_more [] was now s t no_waits no_waits (λ b. refl) opened law consistent begun tt schedules.stays rest (IsErrOf result Failed) (CutsUrls was.urls.settings)
      (MergesAll result was.urls.settings) goes_on schedules.cause
      (λ not files told x held.
      let fed = schedules.fed not files told x.urls held.urls.urls_hold in
      (fed, merged x held fed (λ f at is. schedules.whole f at is files told x.urls held.urls.urls_hold)))
      (λ failure files told x holds. (schedules.stranded failure files told x holds).0) (λ x y held adds. adds_only x y adds)

-- ---- sending pairs
pub record SendsWhole (result : Result Unit Fault) (suffixes : List ℕ) (settings : Settings) (x y : State) : Type 0 where
  pub only : CutsPairs suffixes settings x y
  pub all : OnOk result (AreSentAlready settings y × SendsAll suffixes settings x y)
  pub ground : HasGround result suffixes settings [] x y

-- the event that the pairs are sent says so, of as many cuts as there are
abbrev cut_count : Book → ℕ
cut_count book = book.dropped + length book.cuts

sent_cuts : (settings : Settings) (x : State) → (progress settings.queues settings.buckets (sent_state settings x).events).cuts ≡ cut_count x.urls
sent_cuts settings x = by_count (nat_eq (progress settings.queues settings.buckets x.events).cuts (cut_count x.urls)) refl
  where
    by_count : (is_sent : Bool) → nat_eq (progress settings.queues settings.buckets x.events).cuts (cut_count x.urls) ≡ is_sent
        → (progress settings.queues settings.buckets (cond is_sent x (with_event (sent_of x) [] x)).events).cuts ≡ cut_count x.urls
    by_count true is = eqb-true (progress settings.queues settings.buckets x.events).cuts (cut_count x.urls) is
    by_count false is = ap (λ (p : Progress). p.cuts) (after_more (before_all settings.queues settings.buckets) x.events (sent_of x, []))

sent_books : (settings : Settings) (x : State) → ((sent_state settings x).urls ≡ x.urls) × ((sent_state settings x).pairs ≡ x.pairs)
sent_books settings x = by_count (nat_eq (progress settings.queues settings.buckets x.events).cuts (cut_count x.urls))
  where
    by_count : (is_sent : Bool) → ((cond is_sent x (with_event (sent_of x) [] x)).urls ≡ x.urls) × ((cond is_sent x (with_event (sent_of x) [] x)).pairs ≡ x.pairs)
    by_count true = (refl, refl)
    by_count false = (refl, refl)

-- events that tell of it at most
record TellsSent (x y : State) : Type 0 where
  more : List Happened
  events : y.events ≡ x.events ++ more
  pairs : AllByRecursion (λ (h : Happened). IsOfPairs h.0) more

sent_tells : (settings : Settings) (x : State) → TellsSent x (sent_state settings x)
sent_tells settings x = by_count (nat_eq (progress settings.queues settings.buckets x.events).cuts (cut_count x.urls))
  where
    by_count : (is_sent : Bool) → TellsSent x (cond is_sent x (with_event (sent_of x) [] x))
    by_count true = record { more = []; events = sym (append-nil x.events); pairs = tt }
    by_count false = record { more = (sent_of x, []) ∷ []; events = refl; pairs = (tt, tt) }

-- a book that may be sent has grown in batches
some_grown : (settings : Settings) (x : State) (book : Book) → MayHaveSent settings x book → GrowsInBatches settings 1 x (with_pairs book x)
some_grown settings x book may = record { urls = grows_more settings 0 1 x.urls x.urls (omega arith) (grows_same settings x.urls); pairs = may.grows }

-- by the suffixes that the crawl began with
module _ (suffixes : List ℕ) (settings : Settings) (x : State) (begun : begun_with x.events ≡ Some suffixes) where
  links_are : new_links settings x.urls x.events ≡ links_since suffixes settings x x.urls
  links_are = ap (λ (o : Option (List ℕ)). links_of (unwrap_or o []) (judged_after (sent_by settings x) x.urls)) begun

  some_sends : (book : Book) → MayHaveSent settings x book → SendsLinks suffixes settings x (with_pairs book x)
  some_sends book may b within = subst (λ (l : List Tuple). IsPrefixOf (list_at book b) (list_at x.pairs b ++ part settings.buckets b l)) links_are (may.takes b within)

  all_sends : (book : Book) → HasSentAll settings x book → SendsAll suffixes settings x (sent_state settings (with_pairs book x))
  all_sends book all =
      let y = with_pairs book x in
      let books = sent_books settings y in
      sends_all_to suffixes settings x y (sent_state settings y) books.0 books.1
      (λ b within. all.has b within ∙ ap (λ (l : List Tuple). list_at x.pairs b ++ part settings.buckets b l) links_are)

  some_only : (book : Book) → MayHaveSent settings x book → CutsPairs suffixes settings x (with_pairs book x)
  some_only book may = record {
    only = record { grows = some_grown settings x book may; lists = refl; more = []; events = sym (append-nil x.events); pairs = tt; sends = some_sends book may };
    urls = refl;
  }

  pairs_only : (book : Book) → MayHaveSent settings x book → CutsPairs suffixes settings x (sent_state settings (with_pairs book x))
  pairs_only book may =
      let y = with_pairs book x in
      let z = sent_state settings y in
      let books = sent_books settings y in
      let tells = sent_tells settings y in
      record {
        only = record {
          grows = grown_to settings 1 x y z books.0 books.1 (some_grown settings x book may);
          lists = ap (λ (b : Book). b.lists) books.0;
          more = tells.more;
          events = tells.events;
          pairs = tells.pairs;
          sends = sends_to suffixes settings x y z books.0 books.1 (some_sends book may);
        };
        urls = books.0;
      }

  way_only : (y : State) → IsOnTheWay settings x y → CutsPairs suffixes settings x y
  way_only y way = ⊎_elim
      (λ some. subst (CutsPairs suffixes settings x) (sym some.2) (some_only some.0 some.1))
      (λ all. subst (CutsPairs suffixes settings x) (sym all.2) (pairs_only all.0 all.1.may))
      way

  -- all links of a bucket pass the cap
  links_pass : (y : State) (b : ℕ) → y.urls ≡ x.urls → settings.cap < links_in settings x b → settings.cap < length (pairs_for suffixes settings x y.urls b)
  links_pass y b urls pass =
      let whole : pairs_for suffixes settings x y.urls b ≡ list_at x.pairs b ++ part settings.buckets b (new_links settings x.urls x.events) =
      ap (λ (book : Book). pairs_for suffixes settings x book b) urls ∙ ap (λ (l : List Tuple). list_at x.pairs b ++ part settings.buckets b l) (sym links_are) in
      let long = length-append (list_at x.pairs b) (part settings.buckets b (new_links settings x.urls x.events)) in
      let same = ap (λ (l : List Tuple). length l) whole in
      omega (arith, pass, long, same)

failure : {A : Type 0} (result : Result A Fault) (value : A) → result ≡ Ok value → IsErrOf result Failed → ⊥
failure result value is failed = let both = sym is ∙ failed in cc

module _ (suffixes : List ℕ) (result : Result Unit Fault) (was now : Parts) (s t : Told) (sends : SendsPairs result was now s t) (goes_on : StaysSound (IsErrOf result Failed) now)
    (same : suffixes_in was.rest ≡ Some suffixes) (open_now : IsOpenRest now.urls now.rest t.files) (consistent : IsConsistent t) where
  abbrev settings : Settings
  settings = was.urls.settings

  -- no whole array more fits to a list
  room_lacks : (b : ℕ) → IsErrOf result (Full (64 + b)) → b < settings.buckets → (y : State) → HoldsState t.images now y → settings.cap < length (list_at y.pairs b) + settings.array
  room_lacks b is within y held =
      let ledger = crawl_in now.rest sends.begun in
      let pairs : Settings = ledger.0.pairs.settings in
      let are : pairs ≡ pair_settings settings = (open_now.1 ledger.0 ledger.1).1.settings ∙ ap (λ (d : Drum). pair_settings d.settings) sends.urls in
      let holds : HoldsOpen t.images now.urls.settings (Crawl ledger.0) y.urls y.pairs y.events =
      subst (λ (r : Rest). HoldsOpen t.images now.urls.settings r y.urls y.pairs y.events) ledger.1 held.open_rest in
      let durable = durable_held t.images ledger.0.pairs y.pairs b holds.1.pairs_hold (subst (λ (p : Settings). b < p.buckets) (sym are) within) in
      let room : settings.cap < durable_at ledger.0.pairs b + settings.array =
      subst (λ (p : Settings). p.cap < durable_at ledger.0.pairs b + p.array) are (sends.room b ledger.0 is ledger.1) in
      omega (arith, room, durable)

  ground : (files : Files) → s.files ≡ Some files → (x y : State) → HoldsState s.images was x → HoldsState t.images now y → y.urls ≡ x.urls → HasGround result suffixes settings [] x y
  ground files told x y held later urls = record {
    full = λ n is.
        let why = sends.full n is files told x held in
        let at : IsErrOf result (Full (64 + why.0)) = subst (λ (m : ℕ). IsErrOf result (Full m)) why.1 is in
        inr (why.0, why.1, why.2, room_lacks why.0 at why.2 y later, links_pass suffixes settings x (begun_held s.images was x suffixes same held) y why.0 urls why.3);
    whole = λ f at is. sends.damaged f at is files told x held;
  }

  sent_already : (x : State) (book : Book) → HasSentAll settings x book → AreSentAlready settings (sent_state settings (with_pairs book x))
  sent_already x book all =
      let books = sent_books settings (with_pairs book x) in (
        sent_cuts settings (with_pairs book x) ∙ ap cut_count (sym books.0),
        subst (λ (b : Book). judged_cut b ≡ lengths_of b) (sym books.1) all.judged_all,
      )

  sends_once : (files : Files) → s.files ≡ Some files → (x : State) → HoldsState s.images was x → (IsErrOf result Failed → ⊥) → (r : Result Unit Fault) → result ≡ r
      → (y : State) × SendsWhole result suffixes settings x y × LeadsTo x y now s t
  sends_once files told x held not (Ok value) is =
      let has = ok_gives result value sends.done is files told x held in
      let y = sent_state settings (with_pairs has.0 x) in
      let begun = begun_held s.images was x suffixes same held in (
        y,
        record {
          only = pairs_only suffixes settings x begun has.0 has.1.may;
          all = always result (AreSentAlready settings y × SendsAll suffixes settings x y) (sent_already x has.0 has.1, all_sends suffixes settings x begun has.0 has.1);
          ground = ground files told x y held has.2.holds (sent_books settings (with_pairs has.0 x)).0;
        },
        has.2,
      )
  sends_once files told x held not (Err fault) is =
      let has = err_gives result fault sends.kept is not files told x held in
      let y = with_pairs has.0 x in (
        y,
        record {
          only = some_only suffixes settings x (begun_held s.images was x suffixes same held) has.0 has.1;
          all = never result fault (AreSentAlready settings y × SendsAll suffixes settings x y) is;
          ground = ground files told x y held has.2.holds refl;
        },
        has.2,
      )

  pub send_leads : Leads (IsErrOf result Failed) (CutsPairs suffixes settings) (SendsWhole result suffixes settings) was now s t
  send_leads = record {
    leads = λ not files told x held. sends_once files told x held not result refl;
    fails = λ failure files told x held.
        fails_wide (IsOnTheWay settings x) (CutsPairs suffixes settings x) x s t (λ y front way. way_only suffixes settings x (begun_held s.images was x suffixes same held) y way)
        (sends.failed failure files told x held);
    told = λ files told. tells_on _ s.files t.files files sends.others.told told;
    settings = ap (λ (d : Drum). d.settings) sends.urls;
    goes_on = goes_on;
    cause = sends.cause;
    others = others_sent was now s t consistent sends.urls sends.others;
  }

-- ---- both
pub judge_both : (suffixes : List ℕ) (merge sent : Result Unit Fault) (value : Unit) (was mid now : Parts) (s t u : Told) → merge ≡ Ok value
    → Leads (IsErrOf merge Failed) (CutsUrls was.urls.settings) (MergesAll merge was.urls.settings) was mid s t
    → Leads (IsErrOf sent Failed) (CutsPairs suffixes mid.urls.settings) (SendsWhole sent suffixes mid.urls.settings) mid now t u
    → Leads (IsErrOf sent Failed) (OnlyJudges suffixes was.urls.settings) (Judges sent suffixes was.urls.settings) was now s u
judge_both suffixes merge sent value was mid now s t u is one two =
    let settings = was.urls.settings in
    let later = subst (λ (p : Settings). Leads (IsErrOf sent Failed) (CutsPairs suffixes p) (SendsWhole sent suffixes p) mid now t u) one.settings two in
    leads_then (IsErrOf merge Failed) (IsErrOf sent Failed) (CutsUrls settings) (MergesAll merge settings) (CutsPairs suffixes settings) (SendsWhole sent suffixes settings)
    (OnlyJudges suffixes settings) (Judges sent suffixes settings) was mid now s t u one (failure merge value is) later
    (λ x y z held between first second merged sends.
    let cut = ok_gives merge value merged.all is in
    let none = cuts_sent settings x y merged.only in
    record {
      only = only_both suffixes settings x y z merged.only sends.only;
      all = ok_weaker sent sends.all (λ all. (
        record { urls = subst (λ (b : Book). judged_cut b ≡ lengths_of b) (sym sends.only.urls) cut; sent = all.0 },
        sends_all_from suffixes settings x y z merged.only.pairs none all.1,
      ));
      ground = ground_then sent suffixes settings [] [] x y z (owe_from suffixes settings x y merged.only.pairs none z.urls)
          (covers_among settings [] [] x y merged.only.lists (among_none [])) sends.ground;
    })
    (λ x y z held between first second merged sends. only_both suffixes settings x y z merged.only sends)

-- where the merge is refused
pub judge_refused : (suffixes : List ℕ) (merge result : Result Unit Fault) (fault : Fault) (was now : Parts) (s t : Told) → merge ≡ Err fault → result ≡ Err fault
    → Leads (IsErrOf merge Failed) (CutsUrls was.urls.settings) (MergesAll merge was.urls.settings) was now s t
    → Leads (IsErrOf result Failed) (OnlyJudges suffixes was.urls.settings) (Judges result suffixes was.urls.settings) was now s t
judge_refused suffixes merge result fault was now s t is out one =
    let settings = was.urls.settings in
    let same : Leads (IsErrOf result Failed) (CutsUrls settings) (MergesAll result settings) was now s t =
    subst (λ (r : Result Unit Fault). Leads (IsErrOf r Failed) (CutsUrls settings) (MergesAll r settings) was now s t) (is ∙ sym out) one in
    leads_wide (IsErrOf result Failed) (CutsUrls settings) (MergesAll result settings) (OnlyJudges suffixes settings) (Judges result suffixes settings) was now s t same
    (λ x y held front cuts. cuts_only suffixes settings x y cuts)
    (λ x y held later front merged. record {
      only = cuts_only suffixes settings x y merged.only;
      all = never result fault (IsJudged settings y × SendsAll suffixes settings x y) out;
      ground = ground_none result suffixes settings [] x y merged.ground;
    })

-- ---- what is kept in memory
pub judge_keeps : (result : Result Unit Fault) (was mid now : Parts) (t u : Told) → HasBegun was.rest → mid.rest ≡ was.rest → SendsPairs result mid now t u
    → OnOk result (KeepsFront was now × IsSent now)
judge_keeps result was mid now t u begun rest sends =
    let first = crawl_in mid.rest (subst HasBegun (sym rest) begun) in
    let later = crawl_in now.rest sends.begun in
    ok_weaker result sends.sent (λ sent. (
      record {
        keeps = record { begun = sends.begun; suffixes = pairs_suffixes result mid now t u sends first later ∙ ap suffixes_in rest };
        front = pairs_front result mid now t u sends first later ∙ ap front_in rest;
      },
      sent,
    ))
