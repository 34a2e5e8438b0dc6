-- What a desk that hands a store back makes of the states that the store held.
use Rattle.std.proofs.Common.{◌≡◌, ◌∙◌, ◌⊎◌, inl, inr, ⊎_elim, ℕ, ◌<◌, List, [], ◌∷◌, ◌++◌, length, Some, Option, Result, Ok, Err, IsErrOf, refl, sym, ap, subst, arith}
use Rattle.std.specs.List.{AllByRecursion}
use Rattle.irl_base.specs.declared.fault.Fault.{Fault}
use Rattle.irl_base.specs.declared.fault.Fault.TheVariants.{Damaged, Failed, Full, Memory}
use Rattle.irl_bay.specs.Drum.{IsDrum}
use Rattle.irl_disk.specs.Disk.{Files}
use Rattle.irl_disk.specs.Images.{IsConsistent, Told}
use Rattle.irl_events.specs.State.{State}
use Rattle.irl_offer.specs.Offering.{Entered, IsTakenBy, fault_or}
use Rattle.irl_offer.specs.Tuple.{Tuple}
use Rattle.irl_offer.specs.declared.receipt.Receipt.{Receipt}
use Rattle.irl_offer.specs.declared.settings.Kind.{Kind}
use Rattle.irl_offer.specs.declared.settings.Kind.TheVariants.{Crawl as CrawlKind}
use Rattle.irl_offer.specs.declared.settings.Settings.{Settings}
use Rattle.irl_key.specs.Links.{IsCanonicalText}
use Rattle.irl_schedule.proofs.Outcomes.{ok_gives}
use Rattle.irl_schedule.proofs.Steps.{durable_held}
use Rattle.irl_schedule.specs.Arrays.{waiting_at}
use Rattle.irl_schedule.specs.Feeding.{Fed, Moment}
use Rattle.irl_schedule.specs.Schedule.{one_more}
use Rattle.irl_yard.specs.declared.parts.Parts.{Parts}
use Rattle.irl_yard.specs.Holding.{HoldsState, IsOpenRest}
use Rattle.irl_yard.specs.Sending.{HasBegun}
use Rattle.irl_yard.specs.Standing.{with_urls}
use Rattle.irl_desk.specs.Closing.{Closes, HandsBack, ended, last_after}
use Rattle.irl_desk.specs.Serving.{AreNumbered, IsFresh, Serves, Serving, moment_at}
use Rattle.irl_desk.specs.Stepping.{handed_at}
use Rattle.irl_desk.proofs.Spreading.{hands_back}
use Rattle.irl_crawl.specs.Leading.{HasGround, Leads}
use Rattle.irl_crawl.specs.Offering.{HasOffers, OffersSome, OnlyOffers, offers_in}
use Rattle.irl_crawl.proofs.Leading.{always, never}
use Rattle.irl_crawl.proofs.Books.{AddsSome, adds_fed, adds_grown, kind_begun, lifts, takes_each}
use Rattle.irl_crawl.proofs.Spread.{HasABucket, IsPage, all_offers, among_offers}

-- ---- the receipts
-- each offer is of a bucket
bucketed : (buckets : ℕ) (had : ℕ → ℕ) (before : List Tuple) (entries : List Entered) → AreNumbered buckets had before entries → AllByRecursion (HasABucket buckets) (offers_in entries)
bucketed buckets had before [] are = tt
bucketed buckets had before (one ∷ more) are =
    (subst (λ (r : Receipt). r.bucket < buckets) are.0.0 are.0.1, bucketed buckets had (before ++ one.offer ∷ []) more are.1)

-- ---- answers
-- What a caller answers behind a desk that was closed: at Ok the desk did so too, and a fault but want of memory is the one
-- that the desk answered last.
pub record IsBehind {A : Type 0} (answer : Result A Fault) (result : Result Unit Fault) (last : Option Fault) : Type 0 where
  pub done : (value : A) → answer ≡ Ok value → (closed : Unit) × (result ≡ Ok closed)
  pub named : (fault : Fault) → IsErrOf answer fault → (fault ≡ Memory) ⊎ (last ≡ Some fault)
  pub failed : last ≡ Some Failed → IsErrOf answer Failed

not_memory : (fault : Fault) (last : Option Fault) (P : Type 0) → (fault ≡ Memory → ⊥) → (fault ≡ Memory) ⊎ (last ≡ Some fault) → last ≡ Some fault
not_memory fault last P not named = ⊎_elim (λ memory. absurd (not memory)) (λ is. is) named

full_memory : (n : ℕ) → Full n ≡ Memory → ⊥
full_memory n is = cc

damaged_memory : (f at : ℕ) → Damaged f at ≡ Memory → ⊥
damaged_memory f at is = cc

failed_memory : Failed ≡ Memory → ⊥
failed_memory is = cc

module _ {S : Type 0} {A : Type 0} (told : S → Told) (entries : List Entered) (answer : Result A Fault) (result : Result Unit Fault) (old new : Serving S) (lawful : (s : S) → IsConsistent (told s))
    (opened : IsOpenRest old.parts.urls old.parts.rest (told old.store).files) (law : IsDrum old.parts.urls) (begun : HasBegun old.parts.rest) (fresh : IsFresh old)
    (hands : HandsBack told result entries old new) (behind : IsBehind answer result new.last) where
  abbrev s : Told
  s = told old.store

  abbrev t : Told
  t = told new.store

  abbrev was : Parts
  was = old.parts

  abbrev now : Parts
  now = new.parts

  abbrev settings : Settings
  settings = old.parts.urls.settings

  abbrev from : Moment
  from = moment_at told old

  abbrev to : Moment
  to = moment_at told new

  abbrev news : List Tuple
  news = offers_in entries

  kind : settings.kind ≡ CrawlKind
  kind = kind_begun was.urls was.rest s.files opened begun

  pages : AllByRecursion IsPage news
  pages = subst (λ (k : Kind). AllByRecursion (IsTakenBy IsCanonicalText k) news) kind hands.enters.taken

  buckets_are : AllByRecursion (HasABucket settings.buckets) news
  buckets_are = bucketed settings.buckets (handed_at (moment_at told old)) [] entries hands.enters.numbered

  only : (x y : State) → AddsSome settings 0 news x y → OnlyOffers settings entries x y
  only x y adds = record {
    others = adds.others;
    grows = adds_grown settings 0 news x y adds;
    among = among_offers settings.buckets news x.urls.lists y.urls.lists adds.front.lists adds.count buckets_are (takes_each settings 0 news x y adds);
  }

  adds : (x : State) (fed : Fed 0 one_more news from to x.urls) → AddsSome settings 0 news x (with_urls fed.book x)
  adds = adds_fed 0 one_more news was now s t (waiting_at old.arrays) (waiting_at new.arrays) fresh.empty opened law (lawful new.store) begun pages hands.enters.stays hands.enters.rest

  ground : (suffixes : List ℕ) (files : Files) → s.files ≡ Some files → (x : State) → HoldsState s.images was x → (fed : Fed 0 one_more news from to x.urls)
      → HasGround answer suffixes settings news x (with_urls fed.book x)
  ground suffixes files told_now x held fed = record {
    full = λ n is.
        let why = hands.enters.ground.full n (not_memory (Full n) new.last (new.last ≡ Some (Full n)) (full_memory n) (behind.named (Full n) is)) in
        let same = hands.enters.stays.settings in
        let has = durable_held t.images now.urls fed.book n fed.holds why.0 in
        let there : n < settings.buckets = subst (λ (p : Settings). n < p.buckets) same why.0 in
        let had = durable_held s.images was.urls x.urls n held.urls.urls_hold there in
        let handed = hands.enters.counts n in
        let none = ap (λ (l : List Tuple). length l) (fresh.empty n) in
        inl (
          there,
          omega (arith, why.2, why.3, has, ap (λ (p : Settings). p.array) same, ap (λ (p : Settings). p.cap) same),
          omega (arith, why.3, had, handed, none, ap (λ (p : Settings). p.cap) same),
        );
    whole = λ f at is.
        hands.enters.ground.whole f at (not_memory (Damaged f at) new.last (new.last ≡ Some (Damaged f at)) (damaged_memory f at) (behind.named (Damaged f at) is)) files told_now x.urls
        held.urls.urls_hold;
  }

  gives_by : (suffixes : List ℕ) (files : Files) → s.files ≡ Some files → (x : State) → HoldsState s.images was x → (IsErrOf answer Failed → ⊥) → (r : Result A Fault) → answer ≡ r
      → (fed : Fed 0 one_more news from to x.urls) × OffersSome answer suffixes settings entries x (with_urls fed.book x)
  gives_by suffixes files told_now x held not (Ok value) is =
      let closed = behind.done value is in
      let has = ok_gives result closed.0 hands.spread closed.1 files told_now x.urls held.urls.urls_hold in
      let y = with_urls has.0.book x in
      let some = adds x has.0 in (
        has.0,
        record {
          only = only x y some;
          all = always answer (HasOffers entries x y) (record {
            all = all_offers settings.buckets news x.urls.lists y.urls.lists some.front.lists some.count buckets_are
                (λ b within. has.1.lists b (subst (λ (n : ℕ). b < n) some.count within));
            stand = has.1.stand;
          });
          ground = ground suffixes files told_now x held has.0;
        },
      )
  gives_by suffixes files told_now x held not (Err fault) is =
      let fed = hands.enters.fed (λ failed. not (behind.failed failed)) files told_now x.urls held.urls.urls_hold in
      let y = with_urls fed.book x in
      (fed, record { only = only x y (adds x fed); all = never answer fault (HasOffers entries x y) is; ground = ground suffixes files told_now x held fed })

  failed_last : IsErrOf answer Failed → new.last ≡ Some Failed
  failed_last is = not_memory Failed new.last (new.last ≡ Some Failed) failed_memory (behind.named Failed is)

  -- What was offered is in the lists, by the answer.
  pub desk_leads : (suffixes : List ℕ) → Leads (IsErrOf answer Failed) (OnlyOffers settings entries) (OffersSome answer suffixes settings entries) was now s t
  desk_leads suffixes =
      lifts 0 one_more news was now s t (waiting_at old.arrays) (waiting_at new.arrays) fresh.empty opened law (lawful new.store) begun pages hands.enters.stays hands.enters.rest
      (IsErrOf answer Failed)
      (OnlyOffers settings entries) (OffersSome answer suffixes settings entries)
      (record {
        drum = hands.enters.sound.drum;
        sound = λ not. hands.enters.sound.sound (λ failed. not (behind.failed failed));
        unsound = λ failed. hands.enters.sound.unsound (failed_last failed);
      })
      (record { later = hands.enters.ground.cause.later; rose = λ failed. hands.enters.ground.cause.rose (failed_last failed) })
      (λ not files told_now x held. gives_by suffixes files told_now x held not answer refl) (λ failed. hands.enters.broken (failed_last failed)) (λ x y held some. only x y some)

-- ---- a desk that was served and then closed
-- the last fault after one more
pub last_named : (last : Option Fault) (fault : Fault) → (fault ≡ Memory) ⊎ (fault_or last fault ≡ Some fault)
last_named last Failed = inr refl
last_named last Memory = inl refl
last_named last (Full n) = inr refl
last_named last (Damaged f at) = inr refl

module _ {S : Type 0} (told : S → Told) (entries : List Entered) (old mid : Serving S) (closed : Result Unit Fault) (store : S) (parts : Parts) (lawful : (s : S) → IsConsistent (told s))
    (opened : IsOpenRest old.parts.urls old.parts.rest (told old.store).files) (law : IsDrum old.parts.urls) (begun : HasBegun old.parts.rest) (fresh : IsFresh old)
    (serves : Serves told entries old mid)
    (closes : Closes told closed mid store parts) where
  abbrev pub new : Serving S
  new = ended mid closed store parts closes.arrays

  pub hands : HandsBack told closed entries old new
  hands = hands_back told lawful entries closed old mid new fresh serves closes refl

  -- nothing changed beside the bay of URLs
  pub rest_kept : parts.rest ≡ old.parts.rest
  rest_kept = hands.enters.rest

  never_failed : (value : Unit) → closed ≡ Ok value → new.last ≡ Some Failed → ⊥
  never_failed value ok failed = let is = sym ok ∙ hands.last Failed failed in cc

  -- The answer is the refusal of closing it,
  pub closed_behind : {A : Type 0} (answer : Result A Fault) (fault : Fault) → closed ≡ Err fault → answer ≡ Err fault → IsBehind answer closed new.last
  closed_behind answer fault is out = record {
    done = λ value ok. let both = sym out ∙ ok in absurd (cc);
    named = λ other answered.
        let both = sym out ∙ answered in
        let same : fault ≡ other = cc in
        ⊎_elim (λ memory. inl memory) (λ last. inr (ap (last_after mid.last) (is ∙ ap (λ (f : Fault). Err f) same) ∙ last)) (last_named mid.last other);
    failed = λ failed. let both = sym is ∙ hands.last Failed failed in let same : fault ≡ Failed = cc in out ∙ ap (λ (f : Fault). Err f) same;
  }

  -- or that of who served it, who answers want of memory, or its last fault.
  pub served_behind : {A : Type 0} (answer : Result A Fault) (value : Unit) → closed ≡ Ok value → ((fault : Fault) → IsErrOf answer fault → (fault ≡ Memory) ⊎ (mid.last ≡ Some fault))
      → IsBehind answer closed new.last
  served_behind answer value ok why = record {
    done = λ done answered. (value, ok);
    named = λ fault answered. ⊎_elim (λ memory. inl memory) (λ last. let again = sym ok ∙ (closes.again fault last).0 in absurd (cc)) (why fault answered);
    failed = λ failed. absurd (never_failed value ok failed);
  }

  pub closed_leads : {A : Type 0} {suffixes : List ℕ} (answer : Result A Fault) → IsBehind answer closed new.last
      → Leads (IsErrOf answer Failed) (OnlyOffers old.parts.urls.settings entries) (OffersSome answer suffixes old.parts.urls.settings entries) old.parts parts (told old.store) (told store)
  closed_leads {suffixes = suffixes} answer behind = desk_leads told entries answer closed old new lawful opened law begun fresh hands behind suffixes
