-- A crawl of a store that was just made is one from nothing.
use Rattle.std.proofs.Common.{◌≡◌, ◌∙◌, ℕ, List, [], ◌∷◌, ◌++◌, replicate, sym, ap, subst, inl, inr}
use Rattle.std.specs.Prelude.{flat_map}
use Rattle.std.specs.List.{AllByRecursion, Contains}
use Rattle.std.proofs.lemmas.List.Elements.{Contains-append_cases}
use Rattle.irl_answer.specs.Found.{offer_from}
use Rattle.irl_base.specs.Among.{IsAmong}
use Rattle.irl_core.specs.States.{offers_of as offers_in, url_text}
use Rattle.irl_events.specs.Events.{Happened, Settle}
use Rattle.irl_events.specs.State.{State, blank_state}
use Rattle.irl_offer.specs.declared.offer.Op.TheVariants.{Both}
use Rattle.irl_offer.specs.declared.outcome.Outcome.{Outcome}
use Rattle.irl_offer.specs.Tuple.{Tuple}
use Rattle.irl_record.specs.Taped.{Taped}
use Rattle.irl_record.specs.Widening.{Answers}
use Rattle.irl_reach.specs.Crawls.{AreVisits, Crawls, IsSettled, Visit, added_to, found_by, seed_offers}
use Rattle.irl_reach.proofs.Finds.{web_found}
use Rattle.irl_reach.proofs.Growing.{added_new, added_none, all_new, all_of}
use Rattle.irl_reach.proofs.Members.{among_member, flat_cases, map_cases}

module _ (input : Taped) (gives : Answers) (agent : List ℕ) (visits : List Visit) (start end : State) (n : ℕ) (lists : start.urls.lists ≡ replicate n []) (none : start.events ≡ [])
    (is : Crawls input gives agent visits start end) where
  pub crawls_anew : Crawls input gives agent visits blank_state end
  crawls_anew = record {
    once = is.once;
    visited = subst (λ os. AreVisits input.suffixes gives agent end (os ++ seed_offers input) visits) (ap all_of lists ∙ all_new n) is.visited;
    offers = subst (λ os. IsAmong os (seed_offers input ++ flat_map (found_by input.suffixes end.urls) visits))
        (ap (λ ls. added_to ls end.urls.lists) lists ∙ added_new n end.urls.lists ∙ sym (added_new 1 end.urls.lists)) is.offers;
    more = is.more;
    events = is.events ∙ ap (λ hs. hs ++ is.more) none;
    begun = is.begun;
    notes = is.notes;
    settled = subst
        (λ (hs : List Happened). (earlier later : List Happened) (h : Happened) (fronts : List ℕ) (outcomes : List (ℕ × Outcome)) → is.more ≡ earlier ++ h ∷ later
        → h.0 ≡ Settle fronts outcomes → AllByRecursion (λ d. IsSettled input.suffixes agent visits end.urls (hs ++ earlier) fronts d.0 d.1) outcomes)
        none is.settled;
  }

  -- each offer of the end enters its key
  found_both : (visit : Visit) (offer : Tuple) → Contains (found_by input.suffixes end.urls visit) offer → offer.op ≡ Both
  found_both visit offer h =
      let found = web_found input.suffixes (url_text end.urls visit.number) visit.answer offer h in
      sym (ap (λ (o : Tuple). o.op) found.2)

  pub both_anew : (offer : Tuple) → Contains (offers_in end.urls) offer → offer.op ≡ Both
  both_anew offer h =
      let added = subst (λ os. Contains os offer) (sym (ap (λ ls. added_to ls end.urls.lists) lists ∙ added_new n end.urls.lists)) (added_none end.urls.lists offer h) in
      let there = among_member _ (seed_offers input ++ flat_map (found_by input.suffixes end.urls) visits) offer is.offers added in
      elim (Contains-append_cases (seed_offers input) (flat_map (found_by input.suffixes end.urls) visits) offer there) [
        | inl seed ↦ let from = map_cases (offer_from 0) input.seeds offer seed in sym (ap (λ (o : Tuple). o.op) from.2)
        | inr found ↦ let from = flat_cases (found_by input.suffixes end.urls) visits offer found in found_both from.0 offer from.2
      ]
