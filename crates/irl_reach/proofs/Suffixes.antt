-- What is along a tape doesn't depend on its suffixes: an offer's key and text don't.
use Rattle.std.proofs.Common.{◌≡◌, ◌∙◌, ℕ, List, [], ◌∷◌, ◌++◌, map, refl, sym, ap, subst}
use Rattle.std.specs.Prelude.{flat_map}
use Rattle.std.specs.List.{Contains}
use Rattle.irl_base.specs.Among.{IsAmong}
use Rattle.irl_answer.specs.Found.{domain_key, offer_from, offers_of}
use Rattle.irl_core.specs.States.{url_text, offers_of as offers_in}
use Rattle.irl_events.specs.State.{State, IsFrontState}
use Rattle.irl_key.specs.Key.{key_of}
use Rattle.irl_offer.specs.declared.outcome.Outcome.{Outcome}
use Rattle.irl_offer.specs.declared.reply.Answer.{Answer}
use Rattle.irl_offer.specs.Tuple.{Tuple}
use Rattle.irl_record.specs.Fetched.{by_tape}
use Rattle.irl_record.specs.Taped.{Taped}
use Rattle.irl_reach.specs.Along.{IsAlong, IsOfText, KeysDiffer, keys_in, texts_on, texts_with}
use Rattle.irl_reach.specs.Crawls.{AreVisits, Crawls, IsStore, Visit, added_to, found_by, with_suffixes}
use Rattle.irl_reach.specs.Reached.{LeadsTo, Reached, Seed, Led}
use Rattle.irl_reach.specs.Tapes.{IsDue, answer_on}
use Rattle.irl_reach.proofs.Finds.{offers_are, web_found, webs}
use Rattle.irl_reach.proofs.Members.{map_member}
use Rattle.irl_reach.proofs.Staying.{plain_along, stays_along}

-- ---- offers
texts_from : (domain : ℕ) (texts : List (List ℕ)) → map (λ (o : Tuple). o.aux) (map (offer_from domain) texts) ≡ texts
texts_from domain [] = refl
texts_from domain (text ∷ texts) = ap (λ ts. text ∷ ts) (texts_from domain texts)

texts_are : (suffixes url : List ℕ) (a : Answer) → map (λ (o : Tuple). o.aux) (offers_of suffixes url a) ≡ webs url a
texts_are suffixes url a = ap (map (λ (o : Tuple). o.aux)) (offers_are suffixes url a) ∙ texts_from (domain_key suffixes url) (webs url a)

-- an offer of the same page, by other suffixes
pub record IsAlsoFound (suffixes url : List ℕ) (a : Answer) (offer : Tuple) : Type 0 where
  pub other : Tuple
  pub found : Contains (offers_of suffixes url a) other
  pub key : other.key ≡ offer.key

also_found : (few many url : List ℕ) (a : Answer) (offer : Tuple) → Contains (offers_of few url a) offer → IsAlsoFound many url a offer
also_found few many url a offer h =
    let found = web_found few url a offer h in
    let domain = domain_key many url in
    record {
      other = offer_from domain found.0;
      found = subst (λ (os : List Tuple). Contains os (offer_from domain found.0)) (sym (offers_are many url a)) (map_member (offer_from domain) (webs url a) found.0 found.1);
      key = ap (λ (o : Tuple). o.key) found.2;
    }

-- ---- a tape's texts
module _ (suffixes : List ℕ) (tape : Taped) (agent : List ℕ) where
  abbrev Other : Taped
  Other = with_suffixes suffixes tape

  with_same : (url : List ℕ) → texts_with Other url ≡ texts_with tape url
  with_same url = ap (λ ts. url ∷ ts) (texts_are suffixes url (answer_on tape url) ∙ sym (texts_are tape.suffixes url (answer_on tape url)))

  all_same : (urls : List (List ℕ)) → flat_map (texts_with Other) urls ≡ flat_map (texts_with tape) urls
  all_same [] = refl
  all_same (url ∷ urls) = ap (λ ts. ts ++ flat_map (texts_with Other) urls) (with_same url) ∙ ap (λ ts. texts_with tape url ++ ts) (all_same urls)

  on_same : texts_on Other ≡ texts_on tape
  on_same = ap (λ ts. tape.seeds ++ ts) (all_same (map (λ r. r.0) tape.records))

  text_by : (offer : Tuple) → IsOfText tape offer → IsOfText Other offer
  text_by offer is = record { text = subst (λ ts. Contains ts offer.aux) (sym on_same) is.text; key = is.key }

  differ_by : KeysDiffer tape → KeysDiffer Other
  differ_by differ one other h k same = differ one other (subst (λ ts. Contains ts one) on_same h) (subst (λ ts. Contains ts other) on_same k) same

  due_by : (url : List ℕ) (due : Outcome) → IsDue tape agent url due → IsDue Other agent url due
  due_by url due is = record { state = is.state; note = is.note; is = is.is }

  -- ---- what is reached
  led_by : (url : List ℕ) (offer : Tuple) → Reached Other agent (key_of url) → LeadsTo tape agent url offer → Reached Other agent offer.key
  led_by url offer there leads =
      let also = also_found tape.suffixes suffixes url (answer_on tape url) offer leads.found in
      let leads_too : LeadsTo Other agent url also.other = record { outcome = leads.outcome; due = due_by url leads.outcome leads.due; followed = leads.followed; found = also.found } in
      subst (λ k. Reached Other agent k) also.key (Led url also.other there leads_too)

  pub reached_by : (key : ℕ) → Reached tape agent key → Reached Other agent key
  reached_by _ (Seed url there) = Seed url there
  reached_by _ (Led url offer there leads) = led_by url offer (reached_by _ there) leads

  -- ---- what is along it
  pub along_by : (state : State) → IsAlong tape agent state → IsAlong Other agent state
  along_by state is = record {
    distinct = differ_by is.distinct;
    texts = λ offer h. text_by offer (is.texts offer h);
    reached = λ key h. reached_by key (is.reached key h);
    due = λ n o h. due_by (url_text state.urls n) o (is.due n o h);
    followed = λ n o h follows offer found.
        let also = also_found suffixes tape.suffixes (url_text state.urls n) (answer_on tape (url_text state.urls n)) offer found in
        subst (λ k. Contains (keys_in state.urls) k) also.key (is.followed n o h follows also.other also.found);
    notes = is.notes;
  }

-- ---- a crawl by other suffixes
crawls_as : (input tape : Taped) (agent : List ℕ) (visits : List Visit) (start end : State) → input.seeds ≡ tape.seeds → Crawls input (by_tape tape) agent visits start end
    → Crawls (with_suffixes input.suffixes tape) (by_tape (with_suffixes input.suffixes tape)) agent visits start end
crawls_as input tape agent visits start end seeds is = record {
  once = is.once;
  visited = subst (λ ss. AreVisits input.suffixes (by_tape tape) agent end (offers_in start.urls ++ map (offer_from 0) ss) visits) seeds is.visited;
  offers = subst (λ ss. IsAmong (added_to start.urls.lists end.urls.lists) (map (offer_from 0) ss ++ flat_map (found_by input.suffixes end.urls) visits)) seeds is.offers;
  more = is.more;
  events = is.events;
  begun = is.begun;
  notes = is.notes;
  settled = is.settled;
}

pub stays_by : (input tape : Taped) (agent : List ℕ) (visits : List Visit) (start middle end : State) → input.seeds ≡ tape.seeds → IsAlong tape agent start
    → Crawls input (by_tape tape) agent visits start end → IsStore start → IsStore middle → IsFrontState start middle → IsFrontState middle end → IsAlong tape agent middle
stays_by input tape agent visits start middle end seeds along crawls store made one two =
    let other = with_suffixes input.suffixes tape in
    let stays = stays_along other agent visits start middle end (along_by input.suffixes tape agent start along) (crawls_as input tape agent visits start end seeds crawls) store made one two in
    along_by tape.suffixes other agent middle stays

-- the same of a state without events, whatever its kind
pub plain_by : (input tape : Taped) (agent : List ℕ) (visits : List Visit) (start middle end : State) → input.seeds ≡ tape.seeds → IsAlong tape agent start
    → Crawls input (by_tape tape) agent visits start end → IsStore start → IsFrontState start end
    → ((offer : Tuple) → Contains (offers_in middle.urls) offer → Contains (offers_in end.urls) offer) → middle.events ≡ [] → IsAlong tape agent middle
plain_by input tape agent visits start middle end seeds along crawls store front has none =
    let other = with_suffixes input.suffixes tape in
    let plain = plain_along other agent visits start end (along_by input.suffixes tape agent start along) (crawls_as input tape agent visits start end seeds crawls) store front middle has none in
    along_by tape.suffixes other agent middle plain
