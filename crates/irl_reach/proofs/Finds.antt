-- What answers offer, and what a tape does.
use Rattle.std.proofs.Common.{◌≡◌, ◌∙◌, ℕ, Bool, true, false, cond, List, [], ◌∷◌, map, Option, Some, None, refl, sym, ap, subst}
use Rattle.std.specs.Prelude.{flat_map, is_some, bytes_eq}
use Rattle.std.specs.List.{Contains}
use Rattle.std.specs.Map.{lookup}
use Rattle.std.specs.Option.{option_to_list}
use Rattle.std.proofs.lemmas.List.Elements.{Contains-append_left, Contains-append_right}
use Rattle.std.proofs.lemmas.Slice.Eq.{bytes_eq-Decides}
use Rattle.irl_answer.specs.Found.{domain_key, offer_from, offers_of, webs_of, webs_on}
use Rattle.irl_answer.specs.Outcomes.{is_success, location_of, outcome_of}
use Rattle.irl_key.specs.Key.{key_of}
use Rattle.irl_offer.specs.declared.outcome.Outcome.TheVariants as outcome
use Rattle.irl_offer.specs.declared.reply.Answer.{Answer}
use Rattle.irl_offer.specs.declared.reply.Answer.TheVariants as answer
use Rattle.irl_offer.specs.Replies.{Received}
use Rattle.irl_offer.specs.Tuple.{Tuple}
use Rattle.irl_record.specs.declared.record.Record.{Record}
use Rattle.irl_record.specs.Taped.{Taped, Records, answer_of, record_at}
use Rattle.irl_reach.specs.Along.{IsOfText, texts_on, texts_with}
use Rattle.irl_reach.specs.Reached.{is_followed}
use Rattle.irl_reach.specs.Tapes.{answer_on, found_on}
use Rattle.irl_reach.proofs.Members.{first_member, flat_member, later_member, map_cases, map_member, no_member}

-- the pages that an answer names
abbrev pub webs : List ℕ → Answer → List (List ℕ)
webs url (answer.Reply reply) = webs_of url reply
webs url answer.NoReply = []
webs url (answer.Short n) = []
webs url (answer.BadReply n) = []
webs url (answer.TooLarge n) = []
webs url answer.Coded = []

pub offers_are : (suffixes url : List ℕ) (a : Answer) → offers_of suffixes url a ≡ map (offer_from (domain_key suffixes url)) (webs url a)
offers_are suffixes url (answer.Reply reply) = refl
offers_are suffixes url answer.NoReply = refl
offers_are suffixes url (answer.Short n) = refl
offers_are suffixes url (answer.BadReply n) = refl
offers_are suffixes url (answer.TooLarge n) = refl
offers_are suffixes url answer.Coded = refl

pub web_found : (suffixes url : List ℕ) (a : Answer) (offer : Tuple) → Contains (offers_of suffixes url a) offer → (web : List ℕ) × Contains (webs url a) web
    × (offer_from (domain_key suffixes url) web ≡ offer)
web_found suffixes url a offer h = map_cases (offer_from (domain_key suffixes url)) (webs url a) offer (subst (λ (os : List Tuple). Contains os offer) (offers_are suffixes url a) h)

-- an offer has its text's key
pub found_key : (suffixes url : List ℕ) (a : Answer) (offer : Tuple) → Contains (offers_of suffixes url a) offer → offer.key ≡ key_of offer.aux
found_key suffixes url a offer h =
    let found = web_found suffixes url a offer h in
    sym (ap (λ (o : Tuple). o.key) found.2) ∙ ap (λ (o : Tuple). key_of o.aux) found.2

-- ---- only pages and redirects name others
followed_by : (success moved : Bool) (url : List ℕ) (reply : Received) (location : Option (List ℕ)) (web : List ℕ)
    → Contains (cond success (cond reply.html (webs_on url reply.body) []) (option_to_list location)) web
    → is_followed (cond success outcome.Page (cond (is_some location) outcome.Moved (outcome.Status reply.status))) ≡ true
followed_by true moved url reply location web h = refl
followed_by false moved url reply None web h = absurd (no_member web h)
followed_by false moved url reply (Some to) web h = refl

pub found_followed : (suffixes url : List ℕ) (a : Answer) (offer : Tuple) → Contains (offers_of suffixes url a) offer → is_followed (outcome_of url a) ≡ true
found_followed suffixes url (answer.Reply reply) offer h =
    let found = web_found suffixes url (answer.Reply reply) offer h in
    followed_by (is_success reply.status) true url reply (location_of url reply) found.0 found.1
found_followed suffixes url answer.NoReply offer h = absurd (no_member offer h)
found_followed suffixes url (answer.Short n) offer h = absurd (no_member offer h)
found_followed suffixes url (answer.BadReply n) offer h = absurd (no_member offer h)
found_followed suffixes url (answer.TooLarge n) offer h = absurd (no_member offer h)
found_followed suffixes url answer.Coded offer h = absurd (no_member offer h)

-- ---- what a tape offers is on it
on_record : (records : Records) (url : List ℕ) (r : Record) → record_at records url ≡ Some r → Contains (map (λ p. p.0) records) url
on_record [] url r is = let no : None ≡ Some r = is in absurd (cc)
on_record (p ∷ records) url r is = by (bytes_eq url p.0) refl (on_record records url r) is
  where
    by : (b : Bool) → bytes_eq url p.0 ≡ b → (lookup (bytes_eq url) records ≡ Some r → Contains (map (λ q. q.0) records) url)
        → cond b (Some p.1) (lookup (bytes_eq url) records) ≡ Some r → Contains (p.0 ∷ map (λ q. q.0) records) url
    by true e later is =
        let same : url ≡ p.0 = (bytes_eq-Decides url p.0).0 e in
        subst (λ t. Contains (p.0 ∷ map (λ q. q.0) records) t) (sym same) (first_member p.0 (map (λ q. q.0) records))
    by false e later is = later_member p.0 (map (λ q. q.0) records) url (later is)

found_recorded : (records : Records) (suffixes url : List ℕ) (found : Option Record) (offer : Tuple) → record_at records url ≡ found → Contains (offers_of suffixes url (answer_of found)) offer
    → Contains (map (λ p. p.0) records) url
found_recorded records suffixes url None offer is h = absurd (no_member offer h)
found_recorded records suffixes url (Some r) offer is h = on_record records url r is

-- a URL of whose answer the tape offers something is recorded,
pub found_record : (tape : Taped) (url : List ℕ) (offer : Tuple) → Contains (found_on tape url) offer → Contains (map (λ r. r.0) tape.records) url
found_record tape url offer h = found_recorded tape.records tape.suffixes url (record_at tape.records url) offer refl h

-- and so it is on the tape,
pub found_url : (tape : Taped) (url : List ℕ) (offer : Tuple) → Contains (found_on tape url) offer → Contains (texts_on tape) url
found_url tape url offer h =
    let there = found_record tape url offer h in
    Contains-append_right tape.seeds (flat_map (texts_with tape) (map (λ r. r.0) tape.records)) url
    (flat_member (texts_with tape) (map (λ r. r.0) tape.records) url url there (first_member url (map (λ (o : Tuple). o.aux) (found_on tape url))))

-- as is what it offers
pub found_text : (tape : Taped) (url : List ℕ) (offer : Tuple) → Contains (found_on tape url) offer → IsOfText tape offer
found_text tape url offer h =
    let there = found_record tape url offer h in
    let text = later_member url (map (λ (o : Tuple). o.aux) (found_on tape url)) offer.aux (map_member (λ (o : Tuple). o.aux) (found_on tape url) offer h) in
    record {
      text = Contains-append_right tape.seeds (flat_map (texts_with tape) (map (λ r. r.0) tape.records)) offer.aux
          (flat_member (texts_with tape) (map (λ r. r.0) tape.records) url offer.aux there text);
      key = found_key tape.suffixes url (answer_on tape url) offer h;
    }

-- a seed's offer
pub seed_text : (tape : Taped) (url : List ℕ) → Contains tape.seeds url → IsOfText tape (offer_from 0 url)
seed_text tape url there = record { text = Contains-append_left tape.seeds (flat_map (texts_with tape) (map (λ r. r.0) tape.records)) url there; key = refl }
