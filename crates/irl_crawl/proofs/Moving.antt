-- Offers that are handed in stand in any order: what is made of states by them is the same.
use Rattle.std.proofs.Common.{ℕ, List, [], sym, subst, Result, Ok, Err, IsErrOf}
use Rattle.std.specs.Prelude.{OnOk}
use Rattle.std.specs.List.{AllByRecursion}
use Rattle.std.specs.List.Sorted.{IsPermutation}
use Rattle.std.proofs.lemmas.List.{append-nil}
use Rattle.std.proofs.lemmas.List.Elements.{All-from_recursion, recursion_from_All}
use Rattle.std.proofs.lemmas.List.Sorted.{All-permutation, IsPermutation-map, IsPermutation-trans}
use Rattle.irl_base.proofs.Among.{among_trans}
use Rattle.irl_base.specs.Among.{IsAmong}
use Rattle.irl_base.specs.declared.fault.Fault.{Fault}
use Rattle.irl_base.specs.declared.fault.Fault.TheVariants.{Failed}
use Rattle.irl_disk.specs.Images.{Told}
use Rattle.irl_events.specs.State.{State}
use Rattle.irl_offer.specs.Offering.{Entered}
use Rattle.irl_offer.specs.Tuple.{Tuple}
use Rattle.irl_offer.specs.declared.settings.Settings.{Settings}
use Rattle.irl_reach.specs.Crawls.{added_to}
use Rattle.irl_yard.specs.Settling.{StandsAt}
use Rattle.irl_yard.specs.declared.parts.Parts.{Parts}
use Rattle.irl_crawl.proofs.Batches.{ground_more}
use Rattle.irl_crawl.proofs.Leading.{leads_wide}
use Rattle.irl_crawl.specs.Leading.{Leads}
use Rattle.irl_crawl.specs.Offering.{HasOffers, OffersSome, OnlyOffers, offers_in}

-- what holds of each of some holds of each in another order
pub all_moved : {X : Type 0} (P : X → Type 0) (xs ys : List X) → IsPermutation xs ys → AllByRecursion P xs → AllByRecursion P ys
all_moved P xs ys moved all = recursion_from_All P ys (All-permutation P xs ys moved (All-from_recursion P xs all))

module _ (news entries : List Entered) (moved : IsPermutation news entries) where
  offers_are : IsPermutation (offers_in news) (offers_in entries)
  offers_are = IsPermutation-map (λ (one : Entered). one.offer) news entries moved

  offers_among : IsAmong (offers_in news) (offers_in entries)
  offers_among = record { rest = []; is = subst (λ (l : List Tuple). IsPermutation l (offers_in entries)) (sym (append-nil (offers_in news))) offers_are }

  only_moved : (settings : Settings) (x y : State) → OnlyOffers settings news x y → OnlyOffers settings entries x y
  only_moved settings x y only = record { others = only.others; grows = only.grows; among = among_trans only.among offers_among }

  has_moved : (x y : State) → HasOffers news x y → HasOffers entries x y
  has_moved x y has = record {
    all = IsPermutation-trans (added_to x.urls.lists y.urls.lists) (offers_in news) (offers_in entries) has.all offers_are;
    stand = all_moved (λ (one : Entered). StandsAt y.urls one.receipt one.offer) news entries moved has.stand;
  }

  ok_moved : {A : Type 0} (result : Result A Fault) (x y : State) → OnOk result (HasOffers news x y) → OnOk result (HasOffers entries x y)
  ok_moved (Ok value) x y has = has_moved x y has
  ok_moved (Err fault) x y has = tt

  pub offers_moved : {A : Type 0} (result : Result A Fault) (suffixes : List ℕ) (settings : Settings) (x y : State) → OffersSome result suffixes settings news x y
      → OffersSome result suffixes settings entries x y
  offers_moved result suffixes settings x y some = record {
    only = only_moved settings x y some.only;
    all = ok_moved result x y some.all;
    ground = ground_more result suffixes settings (offers_in news) (offers_in entries) x y offers_among some.ground;
  }

  -- and so of what an open store is led to
  pub leads_moved : {A : Type 0} (result : Result A Fault) (suffixes : List ℕ) (settings : Settings) (was now : Parts) (before after : Told)
      → Leads (IsErrOf result Failed) (OnlyOffers settings news) (OffersSome result suffixes settings news) was now before after
      → Leads (IsErrOf result Failed) (OnlyOffers settings entries) (OffersSome result suffixes settings entries) was now before after
  leads_moved result suffixes settings was now before after leads =
      leads_wide (IsErrOf result Failed) (OnlyOffers settings news) (OffersSome result suffixes settings news) (OnlyOffers settings entries) (OffersSome result suffixes settings entries)
      was now before after leads (λ x y held front only. only_moved settings x y only) (λ x y held later front some. offers_moved result suffixes settings x y some)
