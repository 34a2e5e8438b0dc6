-- Seeds that are handed in at a desk, and then judged, over states.
use Rattle.std.proofs.Common.{◌≡◌, ◌∙◌, ◌⊎◌, ℕ, ◌+◌, ◌<◌, List, [], ◌∷◌, ◌++◌, map, length, take, drop, get_or, Some, Result, Ok, Err, OnOk, IsErrOf, refl, sym, ap, subst, append-nil, arith}
use Rattle.std.proofs.lemmas.List.{map-append, take-append-drop, take_more}
use Rattle.std.proofs.lemmas.List.Sorted.{IsPermutation-refl}
use Rattle.std.specs.List.Sorted.{IsPermutation}
use Rattle.irl_answer.specs.Found.{offer_from}
use Rattle.irl_base.proofs.Among.{among_none, among_trans}
use Rattle.irl_base.specs.Among.{IsAmong}
use Rattle.irl_base.specs.declared.fault.Fault.{Fault}
use Rattle.irl_base.specs.declared.fault.Fault.TheVariants.{Failed, Memory}
use Rattle.irl_bay.specs.Drum.{IsDrum}
use Rattle.irl_disk.specs.Images.{IsConsistent, Told}
use Rattle.irl_events.specs.Events.{progress}
use Rattle.irl_events.specs.State.{State}
use Rattle.irl_model.specs.Book.{Book, IsPrefixOf}
use Rattle.irl_offer.specs.Offering.{Entered}
use Rattle.irl_offer.specs.Tuple.{Tuple}
use Rattle.irl_offer.specs.declared.receipt.Receipt.{Receipt}
use Rattle.irl_offer.specs.declared.settings.Settings.{Settings}
use Rattle.irl_reach.specs.Crawls.{added_to}
use Rattle.irl_reach.proofs.Turns.{added_same}
use Rattle.irl_schedule.proofs.Outcomes.{ok_weaker}
use Rattle.irl_yard.specs.declared.parts.Parts.{Parts}
use Rattle.irl_yard.specs.Holding.{IsOpenRest, IsSound}
use Rattle.irl_yard.specs.Passing.{front_in, suffixes_in}
use Rattle.irl_yard.specs.Sending.{HasBegun}
use Rattle.irl_desk.specs.Closing.{Closes, ended, last_after}
use Rattle.irl_desk.specs.Serving.{IsFresh, Serves, Serving}
use Rattle.irl_desk.proofs.Entering.{both_serve}
use Rattle.irl_crawl.specs.Judging.{IsJudged, Judges, OnlyJudges}
use Rattle.irl_crawl.specs.Leading.{IsOpen, IsSent, KeepsFront, Leads}
use Rattle.irl_crawl.specs.Offering.{OffersSome, OnlyOffers, OnlySeeds, Seeds, offers_in}
use Rattle.irl_crawl.specs.Seeding.{OffersSeeds}
use Rattle.irl_crawl.specs.Sending.{SendsAll}
use Rattle.irl_crawl.proofs.Batches.{covers_none, fills_among, ground_more, ground_then, grown_both, grown_more, grown_same}
use Rattle.irl_crawl.proofs.Leading.{always, leads_none, leads_then, leads_wide, never}
use Rattle.irl_crawl.proofs.Lifting.{IsBehind, closed_behind, closed_leads, hands, rest_kept, served_behind}
use Rattle.irl_crawl.proofs.Refusing.{refused_desk}
use Rattle.irl_crawl.specs.Refusing.{RefusesAsFound}
use Rattle.irl_crawl.proofs.Sent.{OweAlike, owe_from, sends_all_by, sends_by, sends_same}

-- ---- one seed after another
-- the first seeds were offered, so many as these
pub record Offered {S : Type 0} (told : S → Told) (seeds : List (List ℕ)) (old now : Serving S) : Type 0 where
  pub entries : List Entered
  pub serves : Serves told entries old now
  pub are : offers_in entries ≡ map (offer_from 0) seeds

pub offered_none : {S : Type 0} (told : S → Told) (x : Serving S) → Serves told [] x x → Offered told [] x x
offered_none told x serves = record { entries = []; serves = serves; are = refl }

pub offered_more : {S : Type 0} (told : S → Told) → ((s : S) → IsConsistent (told s)) → (seeds : List (List ℕ)) (web : List ℕ) (receipt : Receipt) (offer : Tuple) (old mid now : Serving S)
    → Offered told seeds old mid → Serves told (record { receipt = receipt; offer = offer } ∷ []) mid now → offer ≡ offer_from 0 web → Offered told (seeds ++ web ∷ []) old now
offered_more told lawful seeds web receipt offer old mid now one serves is = record {
  entries = one.entries ++ record { receipt = receipt; offer = offer } ∷ [];
  serves = both_serve told lawful one.entries (record { receipt = receipt; offer = offer } ∷ []) old mid now one.serves serves;
  are = map-append (λ (e : Entered). e.offer) one.entries (record { receipt = receipt; offer = offer } ∷ [])
      ∙ ap (λ (l : List Tuple). l ++ offer ∷ []) one.are ∙ ap (λ (o : Tuple). map (offer_from 0) seeds ++ o ∷ []) is ∙ sym (map-append (offer_from 0) seeds (web ∷ []));
}

-- the next one of all
pub offered_next : {S : Type 0} (told : S → Told) → ((s : S) → IsConsistent (told s)) → (seeds : List (List ℕ)) (i : ℕ) (web : List ℕ) (receipt : Receipt) (offer : Tuple) (old mid now : Serving S)
    → i < length seeds → web ≡ get_or seeds i web → Offered told (take i seeds) old mid → Serves told (record { receipt = receipt; offer = offer } ∷ []) mid now → offer ≡ offer_from 0 web
    → Offered told (take (i + 1) seeds) old now
offered_next told lawful seeds i web receipt offer old mid now within at one serves is =
    let more : take (i + 1) seeds ≡ take i seeds ++ web ∷ [] = take_more seeds i web within ∙ ap (λ (w : List ℕ). take i seeds ++ w ∷ []) (sym at) in
    subst (λ (l : List (List ℕ)). Offered told l old now) (sym more) (offered_more told lawful (take i seeds) web receipt offer old mid now one serves is)

-- one that is refused
pub offered_same : {S : Type 0} (told : S → Told) → ((s : S) → IsConsistent (told s)) → (seeds : List (List ℕ)) (old mid now : Serving S) → Offered told seeds old mid → Serves told [] mid now
    → Offered told seeds old now
offered_same told lawful seeds old mid now one serves = record {
  entries = one.entries ++ [];
  serves = both_serve told lawful one.entries [] old mid now one.serves serves;
  are = ap offers_in (append-nil one.entries) ∙ one.are;
}

-- the first ones of all
front_of : (i : ℕ) (seeds : List (List ℕ)) (offers : List Tuple) → offers ≡ map (offer_from 0) (take i seeds) → IsPrefixOf offers (map (offer_from 0) seeds)
front_of i seeds offers are = (
  map (offer_from 0) (drop i seeds),
  ap (map (offer_from 0)) (sym (take-append-drop i seeds)) ∙ map-append (offer_from 0) (take i seeds) (drop i seeds) ∙ ap (λ (l : List Tuple). l ++ map (offer_from 0) (drop i seeds)) (sym are),
)

-- a refusal leaves those before it
pub offers_stop : {S : Type 0} (told : S → Told) (result : Result Unit Fault) (fault : Fault) (i : ℕ) (seeds : List (List ℕ)) (old now : Serving S) → result ≡ Err fault
    → Offered told (take i seeds) old now → (fault ≡ Memory) ⊎ (now.last ≡ Some fault) → OffersSeeds told result seeds old now
offers_stop told result fault i seeds old now is one why = record {
  entries = one.entries;
  serves = one.serves;
  some = front_of i seeds (offers_in one.entries) one.are;
  all = never result fault (offers_in one.entries ≡ map (offer_from 0) seeds) is;
  fault = λ other answered. same_fault other answered;
}
  where
    same_fault : (other : Fault) → IsErrOf result other → (other ≡ Memory) ⊎ (now.last ≡ Some other)
    same_fault other answered =
        let both = sym is ∙ answered in
        let same : fault ≡ other = cc in
        subst (λ (f : Fault). (f ≡ Memory) ⊎ (now.last ≡ Some f)) same why

pub offers_all : {S : Type 0} (told : S → Told) (result : Result Unit Fault) (value : Unit) (seeds : List (List ℕ)) (old now : Serving S) → result ≡ Ok value → Offered told seeds old now
    → OffersSeeds told result seeds old now
offers_all told result value seeds old now is one = record {
  entries = one.entries;
  serves = one.serves;
  some = ([], ap (map (offer_from 0)) refl ∙ sym one.are ∙ sym (append-nil (offers_in one.entries)));
  all = always result (offers_in one.entries ≡ map (offer_from 0) seeds) one.are;
  fault = λ fault answered. let both = sym is ∙ answered in absurd (cc);
}

-- ---- states
among_front : (some all : List Tuple) → IsPrefixOf some all → IsAmong some all
among_front some all front = record { rest = front.0; is = subst (IsPermutation (some ++ front.0)) (sym front.1) (IsPermutation-refl (some ++ front.0)) }

among_seeds : (seeds : List (List ℕ)) (added offers : List Tuple) → IsAmong added offers → IsPrefixOf offers (map (offer_from 0) seeds) → IsAmong added (map (offer_from 0) seeds)
among_seeds seeds added offers among some = among_trans among (among_front offers (map (offer_from 0) seeds) some)

only_seeds : (suffixes : List ℕ) (settings : Settings) (seeds : List (List ℕ)) (entries : List Entered) (x y : State) → IsPrefixOf (offers_in entries) (map (offer_from 0) seeds)
    → OnlyOffers settings entries x y → OnlySeeds suffixes settings seeds x y
only_seeds suffixes settings seeds entries x y some only = record {
  grows = grown_more settings 0 1 x y (omega arith) only.grows;
  among = among_seeds seeds (added_to x.urls.lists y.urls.lists) (offers_in entries) only.among some;
  more = [];
  events = ap (λ (s : State). s.events) only.others ∙ sym (append-nil x.events);
  pairs = tt;
  sends = sends_same suffixes settings x y (ap (λ (s : State). s.pairs) only.others);
}

-- of the URLs of a later state, both states are to have the same pairs: offers of URLs send none
pub offers_owe : (suffixes : List ℕ) (settings : Settings) (entries : List Entered) (x y : State) → OnlyOffers settings entries x y → (urls : Book) → OweAlike suffixes settings x y urls
offers_owe suffixes settings entries x y only =
    owe_from suffixes settings x y (ap (λ (s : State). s.pairs) only.others) (ap (λ (s : State). (progress settings.queues settings.buckets s.events).sent) only.others)

-- and then judging
only_judged : (suffixes : List ℕ) (settings : Settings) (seeds : List (List ℕ)) (entries : List Entered) (x y z : State) → IsPrefixOf (offers_in entries) (map (offer_from 0) seeds)
    → OnlyOffers settings entries x y → OnlyJudges suffixes settings y z → OnlySeeds suffixes settings seeds x z
only_judged suffixes settings seeds entries x y z some only judges = record {
  grows = grown_more settings (0 + 1) 1 x z (omega arith) (grown_both settings 0 1 x y z only.grows judges.grows);
  among = among_seeds seeds (added_to x.urls.lists z.urls.lists) (offers_in entries)
      (subst (λ (l : List (List Tuple)). IsAmong (added_to x.urls.lists l) (offers_in entries)) (sym judges.lists) only.among) some;
  more = judges.more;
  events = judges.events ∙ ap (λ (s : State). s.events ++ judges.more) only.others;
  pairs = judges.pairs;
  sends = sends_by suffixes settings x y z (offers_owe suffixes settings entries x y only z.urls) judges.sends;
}

-- ---- a desk that was closed
abbrev done_answer : Result Unit Fault
done_answer = Ok tt

module _ {S : Type 0} (told : S → Told) (lawful : (s : S) → IsConsistent (told s)) (seeds : List (List ℕ)) (old mid : Serving S) (offered closed : Result Unit Fault) (store : S) (parts : Parts)
    (opened : IsOpenRest old.parts.urls old.parts.rest (told old.store).files) (law : IsDrum old.parts.urls) (begun : HasBegun old.parts.rest) (fresh : IsFresh old)
    (offers : OffersSeeds told offered seeds old mid) (closes : Closes told closed mid store parts) where
  abbrev s : Told
  s = told old.store

  abbrev t : Told
  t = told store

  abbrev settings : Settings
  settings = old.parts.urls.settings

  abbrev IsAnswer : Result Unit Fault → Type 0
  IsAnswer answer = IsBehind answer closed (last_after mid.last closed)

  lead : (suffixes : List ℕ) (answer : Result Unit Fault) → IsAnswer answer
      → Leads (IsErrOf answer Failed) (OnlyOffers settings offers.entries) (OffersSome answer suffixes settings offers.entries) old.parts parts s t
  lead suffixes answer behind = closed_leads told offers.entries old mid closed store parts lawful opened law begun fresh offers.serves closes answer behind

  behind : (answer : Result Unit Fault) (value : Unit) → closed ≡ Ok value → ((fault : Fault) → IsErrOf answer fault → (fault ≡ Memory) ⊎ (mid.last ≡ Some fault)) → IsAnswer answer
  behind answer value ok why = served_behind told offers.entries old mid closed store parts lawful opened law begun fresh offers.serves closes answer value ok why

  pub rest_after : parts.rest ≡ old.parts.rest
  rest_after = rest_kept told offers.entries old mid closed store parts lawful opened law begun fresh offers.serves closes

  -- what it is refused for
  reason : (answer : Result Unit Fault) → IsAnswer answer → RefusesAsFound answer parts t
  reason answer behind = refused_desk told offers.entries answer closed old (ended mid closed store parts closes.arrays)
      (hands told offers.entries old mid closed store parts lawful opened law begun fresh offers.serves closes) behind

  pub close_reason : (answer : Result Unit Fault) (fault : Fault) → closed ≡ Err fault → answer ≡ Err fault → RefusesAsFound answer parts t
  close_reason answer fault is out = reason answer (closed_behind told offers.entries old mid closed store parts lawful opened law begun fresh offers.serves closes answer fault is out)

  pub offer_reason : (answer : Result Unit Fault) (fault : Fault) (value : Unit) → closed ≡ Ok value → offered ≡ Err fault → answer ≡ Err fault → RefusesAsFound answer parts t
  offer_reason answer fault value ok is out = reason answer (behind answer value ok (λ other answered. offers.fault other (is ∙ sym out ∙ answered)))

  module _ (suffixes : List ℕ) where
    -- a refusal
    abbrev AllSeeds : State → State → Type 0
    AllSeeds x y = IsPermutation (added_to x.urls.lists y.urls.lists) (map (offer_from 0) seeds) × IsJudged settings y × SendsAll suffixes settings x y

    refused : (answer : Result Unit Fault) (fault : Fault) → answer ≡ Err fault → IsAnswer answer → Leads (IsErrOf answer Failed) (OnlySeeds suffixes settings seeds)
        (Seeds answer suffixes settings seeds) old.parts parts s t
    refused answer fault out behind =
        leads_wide (IsErrOf answer Failed) (OnlyOffers settings offers.entries) (OffersSome answer suffixes settings offers.entries) (OnlySeeds suffixes settings seeds)
        (Seeds answer suffixes settings seeds) old.parts parts s t (lead suffixes answer behind)
        (λ x y held front only. only_seeds suffixes settings seeds offers.entries x y offers.some only)
        (λ x y held later front some. record {
          only = only_seeds suffixes settings seeds offers.entries x y offers.some some.only;
          all = never answer fault (AllSeeds x y) out;
          ground = ground_more answer suffixes settings (offers_in offers.entries) (map (offer_from 0) seeds) x y
              (among_front (offers_in offers.entries) (map (offer_from 0) seeds) offers.some) some.ground;
        })

    pub close_refused : (answer : Result Unit Fault) (fault : Fault) → closed ≡ Err fault → answer ≡ Err fault
        → Leads (IsErrOf answer Failed) (OnlySeeds suffixes settings seeds) (Seeds answer suffixes settings seeds) old.parts parts s t
    close_refused answer fault is out = refused answer fault out (closed_behind told offers.entries old mid closed store parts lawful opened law begun fresh offers.serves closes answer fault is out)

    pub offer_refused : (answer : Result Unit Fault) (fault : Fault) (value : Unit) → closed ≡ Ok value → offered ≡ Err fault → answer ≡ Err fault
        → Leads (IsErrOf answer Failed) (OnlySeeds suffixes settings seeds) (Seeds answer suffixes settings seeds) old.parts parts s t
    offer_refused answer fault value ok is out = refused answer fault out (behind answer value ok (λ other answered. offers.fault other (is ∙ sym out ∙ answered)))

  -- all was offered
  module _ (value : Unit) (ok : closed ≡ Ok value) (all : offers_in offers.entries ≡ map (offer_from 0) seeds) where
    first : (suffixes : List ℕ) → Leads (IsErrOf done_answer Failed) (OnlyOffers settings offers.entries) (OffersSome done_answer suffixes settings offers.entries) old.parts parts s t
    first suffixes = lead suffixes done_answer (behind done_answer value ok (λ fault answered. absurd (cc)))

    not_failed : IsErrOf done_answer Failed → ⊥
    not_failed is = cc

    pub open_then : IsOpen parts
    open_then = record { sound = (first []).goes_on.sound not_failed; begun = subst HasBegun (sym rest_after) begun }

    pub judged_then : (suffixes : List ℕ) (answer : Result Unit Fault) (last : Parts) (u : Told)
        → Leads (IsErrOf answer Failed) (OnlyJudges suffixes parts.urls.settings) (Judges answer suffixes parts.urls.settings) parts last t u
        → Leads (IsErrOf answer Failed) (OnlySeeds suffixes settings seeds) (Seeds answer suffixes settings seeds) old.parts last s u
    judged_then suffixes answer last u judged =
        let one = first suffixes in
        let later = subst (λ (p : Settings). Leads (IsErrOf answer Failed) (OnlyJudges suffixes p) (Judges answer suffixes p) parts last t u) one.settings judged in
        leads_then (IsErrOf done_answer Failed) (IsErrOf answer Failed) (OnlyOffers settings offers.entries) (OffersSome done_answer suffixes settings offers.entries) (OnlyJudges suffixes settings)
        (Judges answer suffixes settings) (OnlySeeds suffixes settings seeds) (Seeds answer suffixes settings seeds) old.parts parts last s t u one not_failed later
        (λ x y z held between front next some judges. record {
          only = only_judged suffixes settings seeds offers.entries x y z offers.some some.only judges.only;
          all = ok_weaker answer judges.all (λ is. (
            subst (λ (l : List (List Tuple)). IsPermutation (added_to x.urls.lists l) (map (offer_from 0) seeds)) (sym judges.only.lists)
                (subst (IsPermutation (added_to x.urls.lists y.urls.lists)) all some.all.all),
            is.0,
            sends_all_by suffixes settings x y z (offers_owe suffixes settings offers.entries x y some.only z.urls) is.1,
          ));
          ground = ground_then answer suffixes settings [] (map (offer_from 0) seeds) x y z (offers_owe suffixes settings offers.entries x y some.only z.urls)
              (covers_none settings (map (offer_from 0) seeds) x y
              (fills_among settings (map (offer_from 0) seeds) x y between.urls.urls_hold.book_is.is_book (between.urls.urls_hold.book_is.buckets ∙ ap (λ (p : Settings). p.buckets) one.settings)
              some.only.grows.urls.front (among_seeds seeds (added_to x.urls.lists y.urls.lists) (offers_in offers.entries) some.only.among offers.some)))
              judges.ground;
        })
        (λ x y z held between front next some judges. only_judged suffixes settings seeds offers.entries x y z offers.some some.only judges)

-- ---- nothing was done
abbrev pub no_memory : Result Unit Fault
no_memory = Err Memory

none_seeded : (suffixes : List ℕ) (seeds : List (List ℕ)) (settings : Settings) (x : State) → Seeds no_memory suffixes settings seeds x x
none_seeded suffixes seeds settings x = record {
  only = record {
    grows = grown_more settings 0 1 x x (omega arith) (grown_same settings x);
    among = subst (λ (l : List Tuple). IsAmong l (map (offer_from 0) seeds)) (sym (added_same x.urls.lists)) (among_none (map (offer_from 0) seeds));
    more = [];
    events = sym (append-nil x.events);
    pairs = tt;
    sends = sends_same suffixes settings x x refl;
  };
  all = tt;
  ground = record { full = λ n is. absurd (cc); whole = λ f at is. absurd (cc) };
}

pub seeds_none : (suffixes : List ℕ) (seeds : List (List ℕ)) (parts : Parts) (now : Told) → IsConsistent now → IsDrum parts.urls → IsSound parts
    → Leads (IsErrOf no_memory Failed) (OnlySeeds suffixes parts.urls.settings seeds) (Seeds no_memory suffixes parts.urls.settings seeds) parts parts now now
seeds_none suffixes seeds parts now law drum sound =
    leads_none (IsErrOf no_memory Failed) (OnlySeeds suffixes parts.urls.settings seeds) (Seeds no_memory suffixes parts.urls.settings seeds) parts now law drum sound (λ is. absurd (cc))
    (λ x held. none_seeded suffixes seeds parts.urls.settings x)

-- ---- from the store that a desk was opened before
pub seeds_from : {S : Type 0} (told : S → Told) (suffixes : List ℕ) (seeds : List (List ℕ)) (answer : Result Unit Fault) (opened store : S) (old parts now : Parts) (t : Told) → opened ≡ store
    → old ≡ parts
    → Leads (IsErrOf answer Failed) (OnlySeeds suffixes old.urls.settings seeds) (Seeds answer suffixes old.urls.settings seeds) old now (told opened) t
    → Leads (IsErrOf answer Failed) (OnlySeeds suffixes parts.urls.settings seeds) (Seeds answer suffixes parts.urls.settings seeds) parts now (told store) t
seeds_from {S} told suffixes seeds answer opened store old parts now t same_store same_parts one =
    subst (λ (p : Parts). Leads (IsErrOf answer Failed) (OnlySeeds suffixes p.urls.settings seeds) (Seeds answer suffixes p.urls.settings seeds) p now (told store) t) same_parts
    (subst (λ (x : S). Leads (IsErrOf answer Failed) (OnlySeeds suffixes old.urls.settings seeds) (Seeds answer suffixes old.urls.settings seeds) old now (told x) t) same_store one)

-- where the same store comes back
pub seeds_back : {S : Type 0} (told : S → Told) (suffixes : List ℕ) (seeds : List (List ℕ)) (answer : Result Unit Fault) (store back : S) (parts last : Parts) → store ≡ back → parts ≡ last
    → Leads (IsErrOf answer Failed) (OnlySeeds suffixes parts.urls.settings seeds) (Seeds answer suffixes parts.urls.settings seeds) parts parts (told store) (told store)
    → Leads (IsErrOf answer Failed) (OnlySeeds suffixes parts.urls.settings seeds) (Seeds answer suffixes parts.urls.settings seeds) parts last (told store) (told back)
seeds_back {S} told suffixes seeds answer store back parts last same_store same_parts one =
    subst (λ (p : Parts). Leads (IsErrOf answer Failed) (OnlySeeds suffixes parts.urls.settings seeds) (Seeds answer suffixes parts.urls.settings seeds) parts p (told store) (told back)) same_parts
    (subst (λ (x : S). Leads (IsErrOf answer Failed) (OnlySeeds suffixes parts.urls.settings seeds) (Seeds answer suffixes parts.urls.settings seeds) parts parts (told store) (told x)) same_store one)

-- ---- what is kept in memory
pub keeps_behind : (result : Result Unit Fault) (was mid now : Parts) → mid.rest ≡ was.rest → OnOk result (KeepsFront mid now × IsSent now) → OnOk result (KeepsFront was now × IsSent now)
keeps_behind result was mid now rest keeps = ok_weaker result keeps (λ both. (
  record {
    keeps = record { begun = both.0.keeps.begun; suffixes = both.0.keeps.suffixes ∙ ap suffixes_in rest };
    front = both.0.front ∙ ap front_in rest;
  },
  both.1,
))
