-- Where all is done, what was judged unique is what is reached.
use Rattle.std.proofs.Common.{◌≡◌, ◌∙◌, ℕ, ◌-◌, true, List, [], ◌∷◌, ◌++◌, map, take, refl, sym, ap, subst, arith, length-take}
use Rattle.std.specs.List.{Contains}
use Rattle.std.specs.Prelude.{flat_map}
use Rattle.std.proofs.lemmas.List.{drop_all}
use Rattle.std.proofs.lemmas.List.Elements.{Contains-append_left}
use Rattle.std.proofs.lemmas.List.Sorted.{Contains-permutation, IsPermutation-sym}
use Rattle.irl_answer.specs.Found.{offer_from}
use Rattle.irl_core.specs.States.{offers_of as offers_in, url_text}
use Rattle.irl_events.specs.Events.{progress}
use Rattle.irl_events.specs.State.{State}
use Rattle.irl_fate.specs.Fates.{fate_of}
use Rattle.irl_fate.specs.declared.fate.Fate.TheVariants.{Done}
use Rattle.irl_key.specs.Key.{key_of}
use Rattle.irl_model.specs.Book.{Book, IsBook, judged_cut, lengths_of, pending, stretch, uniques}
use Rattle.irl_offer.specs.declared.offer.Op.TheVariants.{Both}
use Rattle.irl_offer.specs.declared.outcome.Outcome.{Outcome}
use Rattle.irl_offer.specs.declared.settings.Settings.{Settings}
use Rattle.irl_offer.specs.Tuple.{Tuple}
use Rattle.irl_record.specs.Taped.{Taped}
use Rattle.irl_reach.specs.Along.{IsAlong, keys_in}
use Rattle.irl_reach.specs.Crawls.{LeavesNone, Visit, added_to, found_by, numbers_in, seed_offers}
use Rattle.irl_reach.specs.Reached.{LeadsTo, Reached, Seed, Led, is_followed}
use Rattle.irl_reach.specs.Tapes.{IsDue, found_on}
use Rattle.irl_reach.proofs.Finds.{found_url}
use Rattle.irl_reach.proofs.Growing.{added_listed}
use Rattle.irl_reach.proofs.Judged.{key_unique, unique_in, unique_text}
use Rattle.irl_reach.proofs.Members.{map_cases, map_member, no_member}
use Rattle.irl_reach.proofs.Reaching.{one_due, reached_least}
use Rattle.irl_reach.proofs.Settled.{done_settled}

-- a unique URL is reached, in whatever store
pub unique_reached : (tape : Taped) (agent : List ℕ) (state : State) → IsAlong tape agent state → (key : ℕ) → Contains (map (λ p. p.1.key) (uniques state.urls)) key → Reached tape agent key
unique_reached tape agent state along key h =
    let from = map_cases (λ (p : ℕ × Tuple). p.1.key) (uniques state.urls) key h in
    let listed = unique_in state.urls from.0 from.1 in
    along.reached key (subst (λ k. Contains (keys_in state.urls) k) from.2 (map_member (λ (o : Tuple). o.key) (offers_in state.urls) from.0.1 listed))

-- nothing is left where all that stands in the lists is judged
stretch_none : (firsts cut : List ℕ) (lists : List (List Tuple)) → stretch firsts cut cut lists ≡ []
stretch_none [] cut lists = refl
stretch_none (first ∷ firsts) [] lists = refl
stretch_none (first ∷ firsts) (c ∷ cut) [] = refl
stretch_none (first ∷ firsts) (c ∷ cut) (list ∷ lists) =
    ap (λ os. os ++ stretch firsts cut cut lists) (drop_all (c - first) (take (c - first) list) (omega (arith, length-take (c - first) list))) ∙ stretch_none firsts cut lists

pub none_pending : (book : Book) → judged_cut book ≡ lengths_of book → pending book ≡ []
none_pending book is = ap (λ end. stretch book.firsts (judged_cut book) end book.lists) (sym is) ∙ stretch_none book.firsts (judged_cut book) book.lists

-- the seeds of a crawl that leaves none over were offered
module _ (input : Taped) (visits : List Visit) (start end : State) (leaves : LeavesNone input visits start end) where
  seed_added : (url : List ℕ) → Contains input.seeds url → Contains (added_to start.urls.lists end.urls.lists) (offer_from 0 url)
  seed_added url h =
      let found = flat_map (found_by input.suffixes end.urls) visits in
      Contains-permutation (seed_offers input ++ found) (added_to start.urls.lists end.urls.lists) (offer_from 0 url)
      (IsPermutation-sym (added_to start.urls.lists end.urls.lists) (seed_offers input ++ found) leaves.offers)
      (Contains-append_left (seed_offers input) found (offer_from 0 url) (map_member (offer_from 0) input.seeds url h))

  pub seed_listed : (url : List ℕ) → Contains input.seeds url → Contains (keys_in end.urls) (key_of url)
  seed_listed url h =
      map_member (λ (o : Tuple). o.key) (offers_in end.urls) (offer_from 0 url) (added_listed start.urls.lists end.urls.lists (offer_from 0 url) (seed_added url h))

  -- so there is none where nothing was added, and nothing is reached
  pub none_reached : added_to start.urls.lists end.urls.lists ≡ [] → (tape : Taped) (agent : List ℕ) → input.seeds ≡ tape.seeds → (key : ℕ) → Reached tape agent key → ⊥
  none_reached none tape agent seeds key there =
      let no_seed : (url : List ℕ) → Contains tape.seeds url → ⊥ = λ url h.
      no_member (offer_from 0 url) (subst (λ os. Contains os (offer_from 0 url)) none (seed_added url (subst (λ ss. Contains ss url) (sym seeds) h))) in
      reached_least tape agent (λ k. ⊥) (record { seeds = no_seed; led = λ url offer never leads. never }) key there

module _ (tape : Taped) (agent : List ℕ) (settings : Settings) (state : State) (along : IsAlong tape agent state) (book : IsBook state.urls) (dropped : state.urls.dropped ≡ 0)
    (both : (offer : Tuple) → Contains (offers_in state.urls) offer → offer.op ≡ Both) (none : pending state.urls ≡ [])
    (seeds : (url : List ℕ) → Contains tape.seeds url → Contains (keys_in state.urls) (key_of url))
    (all : (number : ℕ) → Contains (numbers_in state.urls) number → (outcome : Outcome) × (fate_of (progress settings.queues settings.buckets state.events) number ≡ Done outcome)) where
  abbrev Judged : ℕ → Type 0
  Judged key = Contains (map (λ p. p.1.key) (uniques state.urls)) key

  judged : (key : ℕ) → Contains (keys_in state.urls) key → Judged key
  judged key h = key_unique state.urls book dropped both none key h

  -- a URL whose key was judged leads only to others
  led_judged : (url : List ℕ) (offer : Tuple) → Judged (key_of url) → LeadsTo tape agent url offer → Judged offer.key
  led_judged url offer h leads =
      let from = map_cases (λ (p : ℕ × Tuple). p.1.key) (uniques state.urls) (key_of url) h in
      let p = from.0 in
      let text = along.texts p.1 (unique_in state.urls p from.1) in
      let same : p.1.aux ≡ url = along.distinct p.1.aux url text.text (found_url tape url offer leads.found) (sym text.key ∙ from.2) in
      let under : url_text state.urls p.0 ≡ url = unique_text state.urls p from.1 ∙ same in
      let done = all p.0 (map_member (λ (q : ℕ × Tuple). q.0) (uniques state.urls) p from.1) in
      let settled = done_settled settings.queues settings.buckets state.events p.0 done.0 done.1 in
      let due : IsDue tape agent url done.0 = subst (λ t. IsDue tape agent t done.0) under (along.due p.0 done.0 settled) in
      let followed : is_followed done.0 ≡ true = ap is_followed (one_due tape agent url done.0 leads.outcome due leads.due) ∙ leads.followed in
      judged offer.key (along.followed p.0 done.0 settled followed offer (subst (λ t. Contains (found_on tape t) offer) (sym under) leads.found))

  pub reached_unique : (key : ℕ) → Reached tape agent key → Judged key
  reached_unique _ (Seed url there) = judged (key_of url) (seeds url there)
  reached_unique _ (Led url offer there leads) = led_judged url offer (reached_unique (key_of url) there) leads
