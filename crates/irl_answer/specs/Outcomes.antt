-- What comes of a URL, by the answer of a fetch.
use Rattle.std.specs.Prelude.{ℕ, Bool, List, Option, None, Some, is_some, option_and_then, if◌then◌else◌}
use Rattle.irl_key.specs.declared.canon.Canon.{Canon}
use Rattle.irl_key.specs.declared.canon.Canon.TheVariants.{Web, NotHttp, Bad, TooLong}
use Rattle.irl_key.specs.Links.{canon_of}
use Rattle.irl_offer.specs.declared.outcome.Outcome.{Outcome}
use Rattle.irl_offer.specs.declared.outcome.Outcome.TheVariants as outcome
use Rattle.irl_offer.specs.declared.reply.Answer.{Answer}
use Rattle.irl_offer.specs.declared.reply.Answer.TheVariants as answer
use Rattle.irl_offer.specs.Replies.{Received}
use Rattle.irl_robots.specs.Status.{is_within, is_redirect}

-- the canonical text of what counts as a web page
abbrev pub web_in : Canon → Option (List ℕ)
web_in (Web web) = Some web
web_in NotHttp = None
web_in Bad = None
web_in TooLong = None

-- the canonical http text of a link against a base, if it has one
abbrev pub web_of : List ℕ → List ℕ → Option (List ℕ)
web_of base text = web_in (canon_of (Some base) text)

-- the location of a reply, if it is usable: one with a canonical http text, resolved against the URL that was asked for
abbrev pub usable : List ℕ → Option (List ℕ) → Option (List ℕ)
usable url location = option_and_then (web_of url) location

-- a success (RFC 9110, section 15.3)
abbrev pub is_success : ℕ → Bool
is_success status = is_within 200 299 status

-- where a reply sends its reader: the usable location of a redirect that is followed (RFC 9110, section 15.4)
abbrev pub location_of : List ℕ → Received → Option (List ℕ)
location_of url reply = if is_redirect reply.status then usable url reply.location else None

-- a page, a redirect that can be followed, or any other status
abbrev pub outcome_of_reply : List ℕ → Received → Outcome
outcome_of_reply url reply =
    if is_success reply.status
    then outcome.Page
    else (if is_some (location_of url reply) then outcome.Moved else outcome.Status reply.status)

-- What comes of a URL by an answer. `Denied` and `Shut` come of the robots file, and not of an answer.
abbrev pub outcome_of : List ℕ → Answer → Outcome
outcome_of url (answer.Reply reply) = outcome_of_reply url reply
outcome_of url answer.NoReply = outcome.Lost
outcome_of url (answer.Short n) = outcome.Lost
outcome_of url (answer.BadReply n) = outcome.Bad
outcome_of url (answer.TooLarge n) = outcome.Large
outcome_of url answer.Coded = outcome.Coded
