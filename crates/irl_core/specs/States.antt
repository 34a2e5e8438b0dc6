-- What a crawl's events keep beside the books of its store: the pairs that are sent are those of the links, a pass
-- reads what waits and puts it by the budgets, and no settle passes what is kept (Lee, Leonard, Wang and Loguinov,
-- "IRLbot: Scaling to 6 Billion Pages and Beyond", WWW 2008, sections 4 to 6). Here `domain` gives the pay-level domain
-- of a URL by a text of suffixes and the URL's text, and `key` the key of a text.
use Rattle.std.specs.Prelude.{◌≡◌, ℕ, ◌+◌, ◌≤◌, nat_eq, nat_le, nat_lt, ◌&&◌, List, [], ◌∷◌, ◌++◌, map, filter, find, flat_map, length, All, Option, None, Some, option_map, unwrap_or}
use Rattle.irl_offer.specs.declared.offer.Op.TheVariants.{Both}
use Rattle.irl_offer.specs.declared.place.Place.{Place}
use Rattle.irl_offer.specs.declared.settings.Settings.{Settings}
use Rattle.irl_offer.specs.Tuple.{Tuple}
use Rattle.irl_model.specs.Book.{Book, IsBelow, at_cut, gone, judged_offers, lengths_of, uniques}
use Rattle.irl_events.specs.Links.{pairs as pairs_of, linked, first_with, AreAlike}
use Rattle.irl_events.specs.Events.{Event, Begin, Pairs, Pass, Robots, Settle, Happened, Progress, progress}
use Rattle.irl_events.specs.Legal.{AreLegal}
use Rattle.irl_base.specs.Lists.{list_at}
use Rattle.irl_star.specs.Budgets.{budget}
use Rattle.irl_beast.specs.declared.item.Item.{Item}
use Rattle.irl_beast.specs.Places.{place}

-- ---- what a book tells
-- how many cuts it has had, and how many offers were judged up to a cut, from the beginning of time
abbrev pub cut_count : Book → ℕ
cut_count book = book.dropped + length book.cuts

abbrev pub judged_by : Book → ℕ → ℕ
judged_by book cut = gone book + length (judged_offers (at_cut cut book))

-- the unique offers, each with its number, whose numbers are from one on and below another
abbrev pub uniques_within : ℕ → ℕ → Book → List (ℕ × Tuple)
uniques_within from to book = filter (λ p. nat_le from p.0 && nat_lt p.0 to) (uniques book)

-- the offers of all its lists
abbrev pub offers_of : Book → List Tuple
offers_of book = flat_map (λ list. list) book.lists

-- ---- what is read, and where it is put
-- the text of the URL with a number, and what a pass reads of it: its number with its domain
abbrev pub url_text : Book → ℕ → List ℕ
url_text urls number = unwrap_or (option_map (λ p. p.1.aux) (find (λ p. nat_eq p.0 number) (uniques urls))) []

abbrev pub item_of : (List ℕ → List ℕ) → Book → ℕ → Item
item_of domain urls number = record { number = number; pld = domain (url_text urls number) }

-- what a pass of this number reads: the next queue, and then the URLs from the number of the pass before on
abbrev pub read_by : (List ℕ → List ℕ) → Book → Progress → ℕ → List Item
read_by domain urls x judged =
    map (item_of domain urls) (list_at x.waiting.lists x.waiting.passes
    ++ map (λ p. p.0) (uniques_within x.read judged urls))

-- where it puts them: by the budgets that the links give of what the cuts of the last sent pairs judged
abbrev pub places_of : (List ℕ → List ℕ) → (List ℕ → ℕ) → Settings → Book → Progress → ℕ → List Place
places_of domain key settings urls x judged =
    place x.waiting.passes x.waiting.queues (budget settings (linked (pairs_of domain key urls x.cuts)))
    (read_by domain urls x judged)

-- ---- what each event keeps
-- The pairs of so many cuts are sent: these cuts are there, and judged so many offers; so many pair offers are those
-- that a cut of the pairs' book judged; and the unique ones among them are, by key and domain, the first of each key of
-- the links.
pub record AreSent (links : List Tuple) (urls pairs : Book) (cuts judged sent : ℕ) : Type 0 where
  pub made : cuts ≤ cut_count urls
  pub counted : judged ≡ judged_by urls cuts
  pub at_a_cut : (cut : ℕ) × (cut ≤ cut_count pairs) × (sent ≡ judged_by pairs cut)
  pub alike : AreAlike (map (λ p. p.1) (uniques_within 0 sent pairs)) links

-- What the books say of an event with its places, by how far the crawl had come before it. Only a pass gives places:
-- nothing is kept of any beside another event.
abbrev pub IsOfBooks : (List ℕ → List ℕ) → (List ℕ → ℕ) → Settings → Book → Book → Progress → Event → List Place
    → Type 0
IsOfBooks domain key settings urls pairs x (Begin suffixes) places = places ≡ []
IsOfBooks domain key settings urls pairs x (Pairs cuts judged sent) places =
    AreSent (pairs_of domain key urls cuts) urls pairs cuts judged sent × (places ≡ [])
IsOfBooks domain key settings urls pairs x (Pass judged) places = places ≡ places_of domain key settings urls x judged
IsOfBooks domain key settings urls pairs x (Robots note) places = places ≡ []
-- no front passes its list
IsOfBooks domain key settings urls pairs x (Settle fronts outcomes) places = IsBelow fronts (lengths_of urls)
    × (places ≡ [])

-- what the pairs' book was offered: for each key that is there, first what is first of the links
pub record AreOffered (links offers : List Tuple) : Type 0 where
  pub each : All (λ offer. offer.op ≡ Both) offers
  pub first : (key : ℕ) (offer : Tuple) → first_with key offers ≡ Some offer → first_with key links ≡ Some offer

-- ---- the whole
-- the suffix text of a crawl's beginning, if it has begun
abbrev pub suffixes_of : Event → Option (List ℕ)
suffixes_of (Begin suffixes) = Some suffixes
suffixes_of (Pairs cuts judged pairs) = None
suffixes_of (Pass judged) = None
suffixes_of (Robots note) = None
suffixes_of (Settle fronts outcomes) = None

abbrev pub begun_with : List Happened → Option (List ℕ)
begun_with [] = None
begun_with (h ∷ hs) = suffixes_of h.0

-- what the pairs' book may hold: nothing where no crawl has begun
abbrev pub HoldsLinks : (List ℕ → List ℕ → List ℕ) → (List ℕ → ℕ) → Book → Book → Option (List ℕ) → Type 0
HoldsLinks domain key urls pairs None = offers_of pairs ≡ []
HoldsLinks domain key urls pairs (Some suffixes) =
    AreOffered (pairs_of (domain suffixes) key urls (cut_count urls)) (offers_of pairs)

-- A store's settings, its two books and its events are legal.
pub record IsLegalState (domain : List ℕ → List ℕ → List ℕ) (key : List ℕ
    → ℕ) (settings : Settings) (urls pairs : Book) (events : List Happened) : Type 0 where
  -- the events keep the rules by themselves
  pub rules : AreLegal settings.queues settings.buckets events
  -- and each keeps what the books say of it
  pub each : (before after : List Happened) (event : Event) (places : List Place)
      → events ≡ before ++ (event, places) ∷ after →
      IsOfBooks (domain (unwrap_or (begun_with events) [])) key settings urls pairs
      (progress settings.queues settings.buckets before) event places
  pub links : HoldsLinks domain key urls pairs (begun_with events)
