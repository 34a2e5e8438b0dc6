-- A crawl that begins: its beginning, and what follows it.
use Rattle.std.proofs.Common.{◌≡◌, ◌∙◌, ◌⊎◌, inl, inr, ℕ, ◌+◌, ◌≤◌, List, [], ◌∷◌, ◌++◌, length, drop, map, Option, None, Some, refl, sym, ap, subst, append_assoc, append-nil, arith}
use Rattle.std.specs.Prelude.{unwrap_or}
use Rattle.std.specs.List.{AllByRecursion}
use Rattle.std.specs.List.Sorted.{IsPermutation}
use Rattle.std.proofs.lemmas.List.Elements.{All-nil, All-weaker}
use Rattle.std.proofs.lemmas.List.Sorted.{IsPermutation-refl}
use Rattle.std.proofs.Math.Seq.{drop-append_seam, drop-length}
use Rattle.irl_core.specs.States.{begun_with}
use Rattle.irl_crawl.proofs.Few.{few_none, few_then}
use Rattle.irl_crawl.specs.Crawling.{CrawlsWhole, OnlyCrawls}
use Rattle.irl_crawl.specs.Leading.{GrowsInBatches}
use Rattle.irl_crawl.specs.Sending.{SendsLinks, links_since, pairs_for}
use Rattle.irl_crawl.specs.Turning.{AreBatches, AsksOnce, RestsOn, events_since, input_of, turns_in}
use Rattle.irl_crawl.specs.Workers.{Given}
use Rattle.irl_events.specs.Events.{Begin, Event, Happened, Progress, after_event, after_events, before_all}
use Rattle.irl_events.specs.State.{State, IsFrontState}
use Rattle.irl_fetch.specs.Handling.{IsNoted}
use Rattle.irl_fetch.proofs.Handling.{noted_wider}
use Rattle.irl_ledger.specs.Sending.{judged_after, links_of}
use Rattle.irl_model.specs.Book.{Book, IsPrefixOf, part}
use Rattle.irl_offer.specs.Tuple.{Tuple}
use Rattle.irl_offer.specs.declared.outcome.Outcome.{Outcome}
use Rattle.irl_offer.specs.declared.settings.Settings.{Settings}
use Rattle.irl_reach.specs.Along.{notes_in, outcomes_of, settled_in}
use Rattle.irl_reach.specs.Crawls.{Crawls, CrawlsOn, IsStore, LeavesNone, Visit, without_seeds}
use Rattle.irl_reach.proofs.Joining.{crawls_follow, leaves_follow}
use Rattle.irl_reach.proofs.Turns.{added_same, crawls_event, crawls_quiet, crawls_wider}
use Rattle.irl_ledger.specs.Crawling.{pair_settings}
use Rattle.irl_schedule.proofs.Chains.{grows_more, grows_same}
use Rattle.irl_schedule.specs.Feeding.{Grows, list_at}
use Rattle.irl_yard.specs.Adding.{with_event}
use Rattle.irl_top.proofs.Giving.{GivesMore}

-- ---- books that stay
pub grows_begun : (settings : Settings) (early : ℕ) (x y : State) → y.urls ≡ x.urls → y.pairs ≡ x.pairs → GrowsInBatches settings early x y
grows_begun settings early x y urls pairs = record {
  urls = subst (Grows settings early x.urls) (sym urls) (grows_more settings 0 early x.urls x.urls (omega arith) (grows_same settings x.urls));
  pairs = subst (Grows (pair_settings settings) early x.pairs) (sym pairs)
      (grows_more (pair_settings settings) 0 early x.pairs x.pairs (omega arith) (grows_same (pair_settings settings) x.pairs));
}

pub grows_none : (settings : Settings) (early : ℕ) (x : State) → GrowsInBatches settings early x x
grows_none settings early x = grows_begun settings early x x refl refl

-- ---- pairs that are sent
sent_begun : (suffixes : List ℕ) (x : Progress) (events : List Happened) → (after_events x (events ++ (Begin suffixes, []) ∷ [])).sent ≡ (after_events x events).sent
sent_begun suffixes x [] = refl
sent_begun suffixes x (h ∷ events) = sent_begun suffixes (after_event x h.0 h.1) events

-- a beginning sends none
pub pairs_begun : (text suffixes : List ℕ) (settings : Settings) (x : State) (urls : Book) (b : ℕ)
    → pairs_for suffixes settings (with_event (Begin text) [] x) urls b ≡ pairs_for suffixes settings x urls b
pairs_begun text suffixes settings x urls b =
    ap (λ (n : ℕ). list_at x.pairs b ++ part settings.buckets b (links_of suffixes (judged_after n urls))) (sent_begun text (before_all settings.queues settings.buckets) x.events)

sends_none : (suffixes : List ℕ) (settings : Settings) (x y : State) → y.pairs ≡ x.pairs → SendsLinks suffixes settings x y
sends_none suffixes settings x y same = λ b lt.
    subst (λ (l : List Tuple). IsPrefixOf l (pairs_for suffixes settings x y.urls b)) (ap (λ (p : Book). list_at p b) (sym same))
    (part settings.buckets b (links_since suffixes settings x y.urls), refl)

-- ---- what visits rest on
rests_none : (given : Given) (events : List Happened) → given.may_miss 0 → notes_in events ≡ [] → RestsOn given [] events
rests_none given events missed none = record { noted = []; notes = sym none; each = All-nil (IsNoted given.gives); missing_are = missed }

pub rests_wider : (old new : Given) (visits : List Visit) (events : List Happened) → GivesMore old new → RestsOn old visits events → RestsOn new visits events
rests_wider old new visits events more rests = record {
  noted = rests.noted;
  notes = rests.notes;
  each = All-weaker (IsNoted old.gives) (IsNoted new.gives) (noted_wider old.gives new.gives more.wider) rests.noted rests.each;
  missing_are = more.missed _ rests.missing_are;
}

pub rests_alike : (given : Given) (visits : List Visit) (old new : List Happened) → notes_in new ≡ notes_in old → RestsOn given visits old → RestsOn given visits new
rests_alike given visits old new same rests = record { noted = rests.noted; notes = rests.notes ∙ sym same; each = rests.each; missing_are = rests.missing_are }

pub asks_wider : (old new : Given) (visits : List Visit) (events : List Happened) → GivesMore old new → AsksOnce old visits events → AsksOnce new visits events
unfolding rests_wider
asks_wider old new visits events more asks = record { rests = rests_wider old new visits events more asks.rests; made = omega (arith, more.made, asks.made) }

pub asks_alike : (given : Given) (visits : List Visit) (old new : List Happened) → notes_in new ≡ notes_in old → AsksOnce given visits old → AsksOnce given visits new
unfolding rests_alike
asks_alike given visits old new same asks = record { rests = rests_alike given visits old new same asks.rests; made = asks.made }

module _ (given : Given) (agent suffixes : List ℕ) (seeds : List (List ℕ)) (settings : Settings) (spare pages batch : ℕ) where
  -- nothing was crawled yet
  pub only_none : given.may_miss 0 → (x : State) → OnlyCrawls given agent suffixes seeds settings spare pages batch x x
  only_none missed x = record {
    visits = [];
    crawls = crawls_quiet (input_of suffixes seeds) given.gives agent [] x x refl refl;
    rests = rests_none given (events_since x x) missed (ap notes_in (drop-length x.events));
    few = omega arith;
    behind = few_none settings batch x x;
    batches = subst (AreBatches batch) (sym (drop-length x.events)) tt;
    pages_are = subst (λ (hs : List Happened). length (settled_in hs) ≤ pages) (sym (drop-length x.events)) (omega arith);
    grows = grows_none settings (spare + turns_in (events_since x x)) x;
    sends = sends_none suffixes settings x x refl;
  }

  -- and what begins visits nothing
  module _ (x : State) where
    abbrev start : State
    start = with_event (Begin suffixes) [] x

    pub begins : CrawlsOn (without_seeds (input_of suffixes seeds)) given.gives agent [] [] x start
    begins = crawls_event (without_seeds (input_of suffixes seeds)) given.gives agent [] x start (Begin suffixes) [] refl refl refl

    pub since_start : (y : State) (more : List Happened) → y.events ≡ start.events ++ more → events_since x y ≡ (Begin suffixes, []) ∷ more
    since_start y more is = ap (drop (length x.events)) (is ∙ append_assoc x.events ((Begin suffixes, []) ∷ []) more) ∙ drop-append_seam x.events ((Begin suffixes, []) ∷ more)

    pub later : (y : State) (more : List Happened) → y.events ≡ start.events ++ more → events_since start y ≡ more
    later y more is = ap (drop (length start.events)) is ∙ drop-append_seam start.events more

    pub since_both : (y : State) (more : List Happened) → y.events ≡ start.events ++ more → events_since x y ≡ events_since x start ++ events_since start y
    since_both y more is =
        since_start y more is ∙ ap (λ (hs : List Happened). (Begin suffixes, []) ∷ hs) (sym (later y more is))
        ∙ ap (λ (hs : List Happened). hs ++ events_since start y) (sym (since_start start [] (sym (append-nil start.events))))

    pub settled_later : (y : State) (more : List Happened) → y.events ≡ start.events ++ more → settled_in (events_since x y) ≡ settled_in (events_since start y)
    settled_later y more is = ap settled_in (since_start y more is) ∙ sym (ap settled_in (later y more is))

    pub notes_later : (y : State) (more : List Happened) → y.events ≡ start.events ++ more → notes_in (events_since x y) ≡ notes_in (events_since start y)
    notes_later y more is = ap notes_in (since_start y more is) ∙ sym (ap notes_in (later y more is))

    pub turns_later : (y : State) (more : List Happened) → y.events ≡ start.events ++ more → turns_in (events_since x y) ≡ turns_in (events_since start y)
    turns_later y more is =
        let all : turns_in (events_since x y) ≡ 0 + turns_in more = ap turns_in (since_start y more is) in
        let rest : turns_in (events_since start y) ≡ turns_in more = ap turns_in (later y more is) in
        omega (arith, all, rest)

    -- a crawl that has just begun
    pub only_begun : given.may_miss 0 → OnlyCrawls given agent suffixes seeds settings spare pages batch x start
    only_begun missed = record {
      visits = [];
      crawls = crawls_event (input_of suffixes seeds) given.gives agent [] x start (Begin suffixes) [] refl refl refl;
      rests = rests_none given (events_since x start) missed (ap notes_in (since_start start [] (sym (append-nil start.events))));
      few = omega arith;
      behind = few_none settings batch x start;
      batches = subst (AreBatches batch) (sym (since_start start [] (sym (append-nil start.events)))) (tt, tt);
      pages_are = subst (λ (hs : List Happened). length (settled_in hs) ≤ pages) (sym (since_start start [] (sym (append-nil start.events)))) (omega arith);
      grows = grows_begun settings (spare + turns_in (events_since x start)) x start refl refl;
      sends = sends_none suffixes settings x start refl;
    }

    module _ (y : State) (store : IsStore x) (begun : IsStore start) (front : IsFrontState x start) (goes : IsFrontState start y)
        (only : OnlyCrawls given agent suffixes seeds settings spare pages batch start y) where
      abbrev pub only_behind : OnlyCrawls given agent suffixes seeds settings spare pages batch x y
      only_behind = record {
        visits = only.visits;
        crawls = crawls_follow (input_of suffixes seeds) given.gives agent [] [] only.visits x start y begins only.crawls only.crawls.once store begun front goes;
        rests = rests_alike given only.visits (events_since start y) (events_since x y) (notes_later y only.crawls.more only.crawls.events) only.rests;
        few = only.few;
        behind = few_then x start y (since_both y only.crawls.more only.crawls.events) settings batch batch [] only.visits (omega arith) tt only.behind;
        batches = subst (AreBatches batch) (sym (since_start y only.crawls.more only.crawls.events))
            (tt, subst (AreBatches batch) (later y only.crawls.more only.crawls.events) only.batches);
        pages_are = subst (λ (ds : List (ℕ × Outcome)). length ds ≤ pages) (sym (settled_later y only.crawls.more only.crawls.events)) only.pages_are;
        grows = subst (λ (n : ℕ). GrowsInBatches settings (spare + n) x y) (sym (turns_later y only.crawls.more only.crawls.events))
            (record { urls = only.grows.urls; pairs = only.grows.pairs });
        sends = λ b lt. subst (λ (l : List Tuple). IsPrefixOf (list_at y.pairs b) l) (pairs_begun suffixes suffixes settings x y.urls b) (only.sends b lt);
      }

      none_left : LeavesNone (without_seeds (input_of suffixes seeds)) [] x start
      none_left = record {
        offers = subst (λ (l : List Tuple). IsPermutation l []) (sym (added_same x.urls.lists)) (IsPermutation-refl []);
        settled = tt;
      }

      pub whole_behind : CrawlsWhole suffixes seeds settings only.visits start y → CrawlsWhole suffixes seeds settings only.visits x y
      whole_behind whole = record {
        leaves = leaves_follow (input_of suffixes seeds) given.gives agent [] [] only.visits x start y begins only.crawls store begun front goes none_left whole.leaves;
        judged = whole.judged;
        sent = λ b lt. whole.sent b lt ∙ pairs_begun suffixes suffixes settings x y.urls b;
      }

      pub asks_behind : AsksOnce given only.visits (events_since start y) → AsksOnce given only.visits (events_since x y)
      asks_behind asks = asks_alike given only.visits (events_since start y) (events_since x y) (notes_later y only.crawls.more only.crawls.events) asks

      pub settled_behind : settled_in (events_since x y) ≡ settled_in (events_since start y)
      settled_behind = settled_later y only.crawls.more only.crawls.events

-- a crawl by what is given is one by more
abbrev pub only_wider : (old new : Given) (agent suffixes : List ℕ) (seeds : List (List ℕ)) (settings : Settings) (spare pages batch : ℕ) (x y : State) → GivesMore old new
    → OnlyCrawls old agent suffixes seeds settings spare pages batch x y → OnlyCrawls new agent suffixes seeds settings spare pages batch x y
only_wider old new agent suffixes seeds settings spare pages batch x y more only = record {
  visits = only.visits;
  crawls = crawls_wider old.gives new.gives more.wider (input_of suffixes seeds) agent [] only.visits x y only.crawls;
  rests = rests_wider old new only.visits (events_since x y) more only.rests;
  few = only.few;
  behind = only.behind;
  batches = only.batches;
  pages_are = only.pages_are;
  grows = only.grows;
  sends = only.sends;
}
