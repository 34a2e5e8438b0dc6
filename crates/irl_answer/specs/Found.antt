-- What an answer finds: the offers that a crawler makes of its links.
use Rattle.std.specs.Prelude.{ℕ, ◌≡◌, List, [], ◌∷◌, map, take, Option, None, Some, unwrap_or, option_and_then, option_to_list, filter_map, if◌then◌else◌}
use Rattle.irl_key.specs.Key.{key_of}
use Rattle.irl_key.specs.Links.{IsCanonicalText}
use Rattle.irl_key.specs.Web.{host_of}
use Rattle.irl_offer.specs.declared.offer.Op.TheVariants.{Both}
use Rattle.irl_offer.specs.declared.settings.Kind.TheVariants.{Crawl}
use Rattle.irl_offer.specs.declared.reply.Answer.{Answer}
use Rattle.irl_offer.specs.declared.reply.Answer.TheVariants as answer
use Rattle.irl_offer.specs.Offering.{IsTakenBy}
use Rattle.irl_offer.specs.Replies.{Received}
use Rattle.irl_offer.specs.Tuple.{Tuple}
use Rattle.irl_pld.specs.Domains.{pld_of}
use Rattle.irl_scan.specs.declared.span.Span.{Span}
use Rattle.irl_answer.specs.Outcomes.{web_of, is_success, location_of}
use Rattle.irl_answer.specs.Pages.{text_at, spans_on, base_text}

-- how many links of a page are offered
abbrev pub most_links : ℕ
most_links = 10000

-- What the links of a page are resolved against: its base, itself resolved against the page's URL. A base without a
-- canonical http text is ignored.
abbrev pub base_for : List ℕ → List ℕ → List ℕ
base_for url page = unwrap_or (option_and_then (web_of url) (base_text page)) url

-- the links at these places of a page that have a canonical http text, by these texts, in order
abbrev pub webs_at : List ℕ → List ℕ → List Span → List (List ℕ)
webs_at page base spans = filter_map (web_of base) (map (text_at page) spans)

-- those of a page that are offered: the first
abbrev pub webs_on : List ℕ → List ℕ → List (List ℕ)
webs_on url page = take most_links (webs_at page (base_for url page) (spans_on page))

-- the pages that a reply to that URL names: those on an HTML page, and of a redirect its location
abbrev pub webs_of : List ℕ → Received → List (List ℕ)
webs_of url reply =
    if is_success reply.status
    then (if reply.html then webs_on url reply.body else [])
    else option_to_list (location_of url reply)

-- the offer of a page that a page of the domain with this key names
abbrev pub offer_from : ℕ → List ℕ → Tuple
offer_from domain web = record { op = Both; key = key_of web; value = 0; from = domain; aux = web }

abbrev pub offers_of_reply : ℕ → List ℕ → Received → List Tuple
offers_of_reply domain url reply = map (offer_from domain) (webs_of url reply)

-- the key of a URL's pay-level domain
abbrev pub domain_key : List ℕ → List ℕ → ℕ
domain_key suffixes url = key_of (pld_of suffixes (host_of url))

-- The offers of an answer to that URL, in order.
abbrev pub offers_of : List ℕ → List ℕ → Answer → List Tuple
offers_of suffixes url (answer.Reply reply) = offers_of_reply (domain_key suffixes url) url reply
offers_of suffixes url answer.NoReply = []
offers_of suffixes url (answer.Short n) = []
offers_of suffixes url (answer.BadReply n) = []
offers_of suffixes url (answer.TooLarge n) = []
offers_of suffixes url answer.Coded = []

-- The first of a list was handed out, and the others are left. None was where none was left.
abbrev pub GivesFirst : List Tuple → Option Tuple → List Tuple → Type 0
GivesFirst old None new = (old ≡ []) × (new ≡ [])
GivesFirst old (Some first) new = old ≡ first ∷ new

-- a store of a crawl takes the offer: it checks and enters a canonical text
abbrev pub IsTaken : Tuple → Type 0
IsTaken offer = IsTakenBy IsCanonicalText Crawl offer
