-- What turns and passes make of a state, one behind the other, is one crawl.
use Rattle.std.proofs.Common.{◌≡◌, ◌≢◌, ◌∙◌, ℕ, ◌+◌, ◌-◌, ◌≤◌, List, [], ◌∷◌, ◌++◌, map, length, append_assoc, refl, sym, ap, subst, arith, inr}
use Rattle.std.specs.Prelude.{AllPairs, flat_map}
use Rattle.std.specs.List.{AllByRecursion, Contains}
use Rattle.std.specs.List.Sorted.{IsPermutation}
use Rattle.std.proofs.lemmas.Grind.{flat_map-append}
use Rattle.std.proofs.lemmas.List.{append-nil, length-append}
use Rattle.std.proofs.lemmas.List.Sorted.{IsPermutation-refl}
use Rattle.irl_answer.specs.Found.{offer_from}
use Rattle.irl_events.specs.Events.{Event, Begin, Pairs, Pass, Robots, Settle, Happened}
use Rattle.irl_events.specs.State.{State, IsFrontState}
use Rattle.irl_offer.specs.declared.note.Note.{Note}
use Rattle.irl_offer.specs.declared.settings.Settings.{Settings}
use Rattle.irl_offer.specs.Tuple.{Tuple}
use Rattle.irl_polite.specs.Schedule.{Schedule}
use Rattle.irl_reach.proofs.Growing.{grows}
use Rattle.irl_reach.proofs.Joining.{all_found_later, crawls_join, leaves_join, visits_unique}
use Rattle.irl_reach.proofs.Members.{all_from, all_member, no_member}
use Rattle.irl_reach.proofs.Settled.{front_unsettled}
use Rattle.irl_reach.proofs.Turns.{added_same, crawls_behind, crawls_quiet, crawls_unvisited, crawls_wider, leaves_settled, once_more}
use Rattle.irl_reach.specs.Along.{notes_in, outcomes_of, settled_in}
use Rattle.irl_reach.specs.Crawls.{Crawls, IsCrawlStore, IsStore, LeavesNone, Visit, added_to, found_by}
use Rattle.irl_record.specs.Widening.{Answers}
use Rattle.irl_yard.specs.Passing.{come}
use Rattle.irl_crawl.proofs.Batches.{Covers, Fills, covers_append, fills_among, grown_both, grown_more, grown_same, turns_both}
use Rattle.irl_crawl.proofs.Few.{batches_both, few_none, few_then, settled_still}
use Rattle.irl_crawl.proofs.Resting.{Joins, asks_both, asks_none, rests_both, rests_none, since_are, since_none}
use Rattle.irl_crawl.proofs.Sent.{sends_all_then, sends_none, sends_same, sends_then}
use Rattle.irl_crawl.specs.Crawling.{CrawlsTo, CrawlsWhole, OnlyCrawls, result_of}
use Rattle.irl_crawl.specs.declared.plan.Ended.{Ended}
use Rattle.irl_crawl.specs.Judging.{IsJudged, IsOfPairs}
use Rattle.irl_crawl.specs.Leading.{HasGround}
use Rattle.irl_crawl.specs.Offering.{OnlySeeds}
use Rattle.irl_crawl.specs.Sending.{SendsAll}
use Rattle.irl_crawl.specs.Turning.{AreBatches, AreSettled, AsksOnce, OnlyTurns, RestsOn, TurnsWhole, events_since, input_of, turns_in}
use Rattle.irl_crawl.specs.Workers.{AreNotedIn, Given}

-- ---- events
settled_both : (xs ys : List Happened) → length (settled_in (xs ++ ys)) ≡ length (settled_in xs) + length (settled_in ys)
settled_both xs ys = ap length (flat_map-append (λ (h : Happened). outcomes_of h.0) xs ys) ∙ length-append (settled_in xs) (settled_in ys)

-- ---- two crawls, the second without seeds
module _ (gives : Answers) (agent suffixes : List ℕ) (seeds : List (List ℕ)) (first second : List Visit) (x y z : State) (a : Crawls (input_of suffixes seeds) gives agent first x y)
    (b : Crawls (input_of suffixes []) gives agent second y z) (store : IsStore x) (made : IsStore y) (one : IsFrontState x y) (two : IsFrontState y z) where
  pub both_since : events_since x z ≡ events_since x y ++ events_since y z
  both_since =
      let left = since_are x y a.more a.events in
      let right = since_are y z b.more b.events in
      let whole : events_since x z ≡ a.more ++ b.more = since_are x z (a.more ++ b.more) (b.events ∙ ap (λ (hs : List Happened). hs ++ b.more) a.events ∙ append_assoc x.events a.more b.more) in
      whole ∙ ap (λ (hs : List Happened). hs ++ b.more) (sym left) ∙ ap (λ (hs : List Happened). events_since x y ++ hs) (sym right)

  pub both_crawl : AllPairs (λ m n. m ≢ n) (map (λ (visit : Visit). visit.number) (first ++ second)) → Crawls (input_of suffixes seeds) gives agent (first ++ second) x z
  both_crawl once = crawls_join (input_of suffixes seeds) gives agent [] first second x y z a (crawls_behind (input_of suffixes []) gives agent first second y z b) once store made one two

  pub both_leave : LeavesNone (input_of suffixes seeds) first x y → LeavesNone (input_of suffixes []) second y z → LeavesNone (input_of suffixes seeds) (first ++ second) x z
  both_leave g h = leaves_join (input_of suffixes seeds) gives agent [] first second x y z a (crawls_behind (input_of suffixes []) gives agent first second y z b) store made one two g h

-- ---- how far a run came from a state
pub record SoFar (given : Given) (agent suffixes : List ℕ) (settings : Settings) (pages batch left : ℕ) (fronts : List Schedule) (x y : State) : Type 0 where
  pub only : OnlyCrawls given agent suffixes [] settings 0 pages batch x y
  pub whole : CrawlsWhole suffixes [] settings only.visits x y
  pub asks : AsksOnce given only.visits (events_since x y)
  pub known : AreNotedIn agent y.events fronts
  pub count : length (settled_in (events_since x y)) + left ≡ pages
  pub few : length only.visits + left ≤ pages

-- nothing was done
pub crawls_none : (given : Given) → given.may_miss 0 → (agent suffixes : List ℕ) (settings : Settings) (pages batch : ℕ) (x : State)
    → OnlyCrawls given agent suffixes [] settings 0 pages batch x x
crawls_none given zero agent suffixes settings pages batch x =
    let none = since_none x in
    record {
      visits = [];
      crawls = crawls_quiet (input_of suffixes []) given.gives agent [] x x refl refl;
      rests = rests_none given zero (events_since x x) (ap notes_in none);
      few = omega arith;
      behind = few_none settings batch x x;
      batches = subst (AreBatches batch) (sym none) tt;
      pages_are = subst (λ (hs : List Happened). length (settled_in hs) ≤ pages) (sym none) (omega arith);
      grows = grown_more settings 0 (0 + turns_in (events_since x x)) x x (omega arith) (grown_same settings x);
      sends = sends_same suffixes settings x x refl;
    }

pub far_none : (given : Given) (zero : given.may_miss 0) → given.made ≡ 0 → (agent suffixes : List ℕ) (settings : Settings) (pages batch : ℕ) (fronts : List Schedule) (x : State)
    → IsCrawlStore settings x → IsJudged settings x → AreNotedIn agent x.events fronts → SoFar given agent suffixes settings pages batch pages fronts x x
unfolding crawls_none
far_none given zero nothing agent suffixes settings pages batch fronts x made judged known = record {
  only = crawls_none given zero agent suffixes settings pages batch x;
  whole = record {
    leaves = record {
      offers = subst (λ (l : List _). IsPermutation l []) (sym (added_same x.urls.lists)) (IsPermutation-refl []);
      settled = tt;
    };
    judged = judged;
    sent = sends_none suffixes settings x made judged.sent.0;
  };
  asks = asks_none given zero nothing (events_since x x) (ap notes_in (since_none x));
  known = known;
  count = subst (λ (hs : List Happened). length (settled_in hs) + pages ≡ pages) (sym (since_none x)) (omega arith);
  few = omega arith;
}

-- ---- a turn more
-- in a time of its own, behind that of the run before
module _ (before own given : Given) (joins : Joins before own given) (agent suffixes : List ℕ) (settings : Settings) (pages batch left most : ℕ) (fronts : List Schedule) (x y z : State)
    (store : IsStore x) (made : IsCrawlStore settings y) (one : IsFrontState x y) (two : IsFrontState y z) (far : SoFar before agent suffixes settings pages batch left fronts x y)
    (turn : OnlyTurns own agent suffixes settings most y z) (within : most ≤ left) (small : most ≤ batch) where
  stood : IsStore y
  stood = inr (settings, made)

  -- what was given in either time is given
  first_crawl : Crawls (input_of suffixes []) given.gives agent far.only.visits x y
  first_crawl = crawls_wider before.gives given.gives joins.first (input_of suffixes []) agent [] far.only.visits x y far.only.crawls

  turn_crawl : Crawls (input_of suffixes []) given.gives agent turn.visits y z
  turn_crawl = crawls_wider own.gives given.gives joins.later (input_of suffixes []) agent [] turn.visits y z turn.crawls

  -- what is in front wasn't settled
  new : AllByRecursion (λ (visit : Visit). Contains (map (λ d. d.0) (settled_in y.events)) visit.number → ⊥) turn.visits
  new = all_from (λ (visit : Visit). Contains (map (λ d. d.0) (settled_in y.events)) visit.number → ⊥) turn.visits (λ visit there.
      front_unsettled settings y made visit.number (all_member (λ (v : Visit). Contains (come settings y).front v.number) turn.visits visit turn.front there))

  once : AllPairs (λ m n. m ≢ n) (map (λ (visit : Visit). visit.number) (far.only.visits ++ turn.visits))
  once = once_more y far.only.visits turn.visits far.only.crawls.once turn.crawls.once (leaves_settled (input_of suffixes []) far.only.visits x y far.whole.leaves) new

  since : events_since x z ≡ events_since x y ++ events_since y z
  since = both_since given.gives agent suffixes [] far.only.visits turn.visits x y z first_crawl turn_crawl store stood one two

  count_both : length (settled_in (events_since x z)) ≡ length (settled_in (events_since x y)) + length (settled_in (events_since y z))
  count_both = ap (λ (hs : List Happened). length (settled_in hs)) since ∙ settled_both (events_since x y) (events_since y z)

  -- what came of the visits before it stays settled
  still : AreSettled x z far.only.visits
  still = settled_still x y z since far.only.visits
      (λ visit there. (grows y z stood two).texts visit.number (visits_unique suffixes before.gives agent y _ far.only.visits far.only.crawls.visited visit there)) far.whole.leaves.settled

  pub turn_more : OnlyCrawls given agent suffixes [] settings 0 pages batch x z
  turn_more = record {
    visits = far.only.visits ++ turn.visits;
    crawls = both_crawl given.gives agent suffixes [] far.only.visits turn.visits x y z first_crawl turn_crawl store stood one two once;
    rests = subst (RestsOn given (far.only.visits ++ turn.visits)) (sym since)
        (rests_both before own given joins far.only.visits turn.visits (events_since x y) (events_since y z) far.only.rests turn.rests);
    few = let were = far.few in let few = turn.few in let both = length-append far.only.visits turn.visits in omega (arith, were, few, both, within);
    behind = few_then x y z since settings most batch far.only.visits turn.visits small still turn.behind;
    batches = subst (AreBatches batch) (sym since) (batches_both batch most (events_since x y) (events_since y z) small far.only.batches turn.batch);
    pages_are = let few = turn.settled in let many = far.count in let both = count_both in omega (arith, few, many, both, within);
    grows =
        let turns = ap turns_in since ∙ turns_both (events_since x y) (events_since y z) in
        let first = 0 + turns_in (events_since x y) in
        let second = turns_in (events_since y z) in
        grown_more settings (first + second) (0 + turns_in (events_since x z)) x z (omega (arith, turns)) (grown_both settings first second x y z far.only.grows turn.grows);
    sends = sends_then suffixes settings x y z store made one two far.whole.judged.sent.0 far.whole.sent turn.sends;
  }

  -- what was handed in up to the turn and in it is what all visits found
  pub more_covers : Covers settings (flat_map (found_by suffixes z.urls) turn.visits) (flat_map (found_by suffixes z.urls) turn_more.visits) x y
  unfolding turn_more
  more_covers =
      let found : List Visit → List Tuple = flat_map (found_by suffixes z.urls) in
      let same : flat_map (found_by suffixes y.urls) far.only.visits ≡ found far.only.visits =
      sym (all_found_later suffixes before.gives agent y z (grows y z stood two) _ far.only.visits far.only.crawls.visited) in
      let fills : Fills settings (found far.only.visits) x y =
      subst (λ (l : List Tuple). Fills settings l x y) same
      (fills_among settings (flat_map (found_by suffixes y.urls) far.only.visits) x y made.book made.buckets far.only.grows.urls.front far.only.crawls.offers) in
      subst (λ (l : List Tuple). Covers settings (found turn.visits) l x y) (sym (flat_map-append (found_by suffixes z.urls) far.only.visits turn.visits))
      (covers_append settings (found far.only.visits) (found turn.visits) x y fills)

  -- all that was loaded is settled
  pub far_more : (count : ℕ) (afters : List Schedule) → TurnsWhole count agent suffixes settings turn.visits afters y z → AsksOnce own turn.visits (events_since y z)
      → SoFar given agent suffixes settings pages batch (left - count) afters x z
  unfolding turn_more
  far_more count afters whole asks = record {
    only = turn_more;
    whole = record {
      leaves = both_leave given.gives agent suffixes [] far.only.visits turn.visits x y z first_crawl turn_crawl store stood one two far.whole.leaves whole.leaves;
      judged = whole.judged;
      sent = sends_all_then suffixes settings x y z store made one two far.whole.judged.sent.0 far.whole.sent whole.sent;
    };
    asks = subst (AsksOnce given (far.only.visits ++ turn.visits)) (sym since)
        (asks_both before own given joins far.only.visits turn.visits (events_since x y) (events_since y z) far.asks asks);
    known = whole.known;
    count = let few = turn.settled in let is = whole.count_is in let many = far.count in let both = count_both in omega (arith, few, is, many, both, within);
    few =
        let few = turn.settled in
        let is = whole.count_is in
        let were = far.few in
        let visited = whole.few in
        let both = length-append far.only.visits turn.visits in
        omega (arith, few, is, were, visited, both, within);
  }

-- ---- seeds
pairs_unsettled : (hs : List Happened) → AllByRecursion (λ h. IsOfPairs h.0) hs → settled_in hs ≡ []
pairs_unsettled [] all = refl
pairs_unsettled ((Begin suffixes, places) ∷ hs) all = absurd all.0
pairs_unsettled ((Pairs cuts judged pairs, places) ∷ hs) all = pairs_unsettled hs all.1
pairs_unsettled ((Pass judged, places) ∷ hs) all = absurd all.0
pairs_unsettled ((Robots note, places) ∷ hs) all = absurd all.0
pairs_unsettled ((Settle fronts outcomes, places) ∷ hs) all = absurd all.0

pairs_unnoted : (hs : List Happened) → AllByRecursion (λ h. IsOfPairs h.0) hs → notes_in hs ≡ []
pairs_unnoted [] all = refl
pairs_unnoted ((Begin suffixes, places) ∷ hs) all = absurd all.0
pairs_unnoted ((Pairs cuts judged pairs, places) ∷ hs) all = pairs_unnoted hs all.1
pairs_unnoted ((Pass judged, places) ∷ hs) all = absurd all.0
pairs_unnoted ((Robots note, places) ∷ hs) all = absurd all.0
pairs_unnoted ((Settle fronts outcomes, places) ∷ hs) all = absurd all.0

pairs_batches : (batch : ℕ) (hs : List Happened) → AllByRecursion (λ h. IsOfPairs h.0) hs → AreBatches batch hs
pairs_batches batch [] all = tt
pairs_batches batch ((Begin suffixes, places) ∷ hs) all = absurd all.0
pairs_batches batch ((Pairs cuts judged pairs, places) ∷ hs) all = (tt, pairs_batches batch hs all.1)
pairs_batches batch ((Pass judged, places) ∷ hs) all = absurd all.0
pairs_batches batch ((Robots note, places) ∷ hs) all = absurd all.0
pairs_batches batch ((Settle fronts outcomes, places) ∷ hs) all = absurd all.0

pairs_begin : (event : Event) (suffixes : List ℕ) → IsOfPairs event → event ≡ Begin suffixes → ⊥
pairs_begin event suffixes of is = subst IsOfPairs is of

-- the seeds of a crawl that visits nothing
pub seeds_crawl : (given : Given) → given.may_miss 0 → (agent suffixes : List ℕ) (seeds : List (List ℕ)) (settings : Settings) (pages batch : ℕ) (x y : State)
    → OnlySeeds suffixes settings seeds x y → OnlyCrawls given agent suffixes seeds settings 1 pages batch x y
seeds_crawl given zero agent suffixes seeds settings pages batch x y only =
    let since = since_are x y only.more only.events in
    let none = pairs_unsettled only.more only.pairs in
    record {
      visits = [];
      crawls = crawls_unvisited (input_of suffixes seeds) given.gives agent [] x y only.more only.among only.events
          (λ h text there is. absurd (pairs_begin h.0 text (all_member (λ (g : Happened). IsOfPairs g.0) only.more h only.pairs there) is))
          (λ note there. absurd (no_member note (subst (λ (notes : List Note). Contains notes note) (pairs_unnoted only.more only.pairs) there))) none;
      rests = rests_none given zero (events_since x y) (ap notes_in since ∙ pairs_unnoted only.more only.pairs);
      few = omega arith;
      behind = few_none settings batch x y;
      batches = subst (AreBatches batch) (sym since) (pairs_batches batch only.more only.pairs);
      pages_are = subst (λ (hs : List Happened). length (settled_in hs) ≤ pages) (sym since) (subst (λ (ds : List _). length ds ≤ pages) (sym none) (omega arith));
      grows = grown_more settings 1 (1 + turns_in (events_since x y)) x y (omega arith) only.grows;
      sends = only.sends;
    }

-- a crawl behind them
module _ (given : Given) (agent suffixes : List ℕ) (seeds : List (List ℕ)) (settings : Settings) (pages batch : ℕ) (x y z : State) (store : IsStore x) (made : IsCrawlStore settings y)
    (one : IsFrontState x y) (two : IsFrontState y z) (seeded : OnlySeeds suffixes settings seeds x y) (judged : IsJudged settings y) (sent : SendsAll suffixes settings x y)
    (run : OnlyCrawls given agent suffixes [] settings 0 pages batch y z) where
  -- so that in the time of the seeds no answer was missing
  abbrev nothing : Given
  nothing = record { gives = given.gives; may_miss = λ n. n ≡ 0; made = 0 }

  made_store : IsStore y
  made_store = inr (settings, made)

  abbrev first : OnlyCrawls nothing agent suffixes seeds settings 1 pages batch x y
  first = seeds_crawl nothing refl agent suffixes seeds settings pages batch x y seeded

  since_seeds : events_since x z ≡ events_since x y ++ events_since y z
  unfolding seeds_crawl
  since_seeds = both_since given.gives agent suffixes seeds [] run.visits x y z first.crawls run.crawls store made_store one two

  pub seeds_count : length (settled_in (events_since x z)) ≡ length (settled_in (events_since y z))
  seeds_count =
      let none : length (settled_in (events_since x y)) ≡ 0 = ap (λ (hs : List Happened). length (settled_in hs)) (since_are x y seeded.more seeded.events) ∙ ap length (pairs_unsettled seeded.more
      seeded.pairs) in
      let both = ap (λ (hs : List Happened). length (settled_in hs)) since_seeds ∙ settled_both (events_since x y) (events_since y z) in
      omega (arith, none, both)

  joins : Joins nothing given given
  joins = record {
    first = λ url want answer gives. gives;
    later = λ url want answer gives. gives;
    misses = λ m n none may. subst given.may_miss (omega (arith, none)) may;
    made = omega arith;
  }

  pub seeds_then : OnlyCrawls given agent suffixes seeds settings 1 pages batch x z
  unfolding seeds_crawl
  seeds_then = record {
    visits = run.visits;
    crawls = both_crawl given.gives agent suffixes seeds [] run.visits x y z first.crawls run.crawls store made_store one two run.crawls.once;
    rests = subst (RestsOn given run.visits) (sym since_seeds) (rests_both nothing given given joins [] run.visits (events_since x y) (events_since y z) first.rests run.rests);
    few = run.few;
    behind = few_then x y z since_seeds settings batch batch [] run.visits (omega arith) tt run.behind;
    batches = subst (AreBatches batch) (sym since_seeds) (batches_both batch batch (events_since x y) (events_since y z) (omega arith) first.batches run.batches);
    pages_are = let most = run.pages_are in let same = seeds_count in omega (arith, most, same);
    grows =
        let turns = ap turns_in since_seeds ∙ turns_both (events_since x y) (events_since y z) in
        let second = 0 + turns_in (events_since y z) in
        grown_more settings (1 + second) (1 + turns_in (events_since x z)) x z (omega (arith, turns)) (grown_both settings 1 second x y z seeded.grows run.grows);
    sends = sends_then suffixes settings x y z store made one two judged.sent.0 sent run.sends;
  }

  -- nothing was asked for to offer the seeds
  seeds_asks : AsksOnce given run.visits (events_since y z) → AsksOnce given run.visits (events_since x z)
  seeds_asks was =
      let since = since_are x y seeded.more seeded.events in
      let none = asks_none nothing refl refl (events_since x y) (ap notes_in since ∙ pairs_unnoted seeded.more seeded.pairs) in
      subst (AsksOnce given run.visits) (sym since_seeds) (asks_both nothing given given joins [] run.visits (events_since x y) (events_since y z) none was)

  -- and nothing is left over
  seeds_whole : IsPermutation (added_to x.urls.lists y.urls.lists) (map (offer_from 0) seeds) → CrawlsWhole suffixes [] settings run.visits y z → CrawlsWhole suffixes seeds settings run.visits x z
  unfolding seeds_crawl
  seeds_whole all was = record {
    leaves = both_leave given.gives agent suffixes seeds [] run.visits x y z first.crawls run.crawls store made_store one two
        (record { offers = subst (IsPermutation (added_to x.urls.lists y.urls.lists)) (sym (append-nil (map (offer_from 0) seeds))) all; settled = tt }) was.leaves;
    judged = was.judged;
    sent = sends_all_then suffixes settings x y z store made one two judged.sent.0 sent was.sent;
  }

-- and by its answer
pub seeds_to : (ended : Ended) (given : Given) (agent suffixes : List ℕ) (seeds : List (List ℕ)) (settings : Settings) (pages batch : ℕ) (x y z : State) → IsStore x → IsCrawlStore settings y
    → IsFrontState x y → IsFrontState y z → OnlySeeds suffixes settings seeds x y → IsJudged settings y → SendsAll suffixes settings x y
    → (to : CrawlsTo ended given agent suffixes [] settings 0 pages batch y z)
    → IsPermutation (added_to x.urls.lists y.urls.lists) (map (offer_from 0) seeds)
    → HasGround (result_of ended) suffixes settings (map (offer_from 0) seeds ++ flat_map (found_by suffixes z.urls) to.only.visits) x z
    → CrawlsTo ended given agent suffixes seeds settings 1 pages batch x z
unfolding seeds_then
seeds_to ended given agent suffixes seeds settings pages batch x y z store made one two seeded judged sent to all ground = record {
  only = seeds_then given agent suffixes seeds settings pages batch x y z store made one two seeded judged sent to.only;
  done = λ done.
      let was = to.done done in
      (seeds_whole given agent suffixes seeds settings pages batch x y z store made one two seeded judged sent to.only all was.0, was.1);
  limit = λ limit.
      let was = to.limit limit in (
        seeds_whole given agent suffixes seeds settings pages batch x y z store made one two seeded judged sent to.only all was.0,
        seeds_count given agent suffixes seeds settings pages batch x y z store made one two seeded judged sent to.only ∙ was.1,
        was.2,
      );
  asks = λ ends. seeds_asks given agent suffixes seeds settings pages batch x y z store made one two seeded judged sent to.only (to.asks ends);
  ground = ground;
}
