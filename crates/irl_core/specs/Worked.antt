-- A small crawl, worked by hand: three URLs are judged, read and put in their places, and one is settled. A domain is
-- the first byte of a URL, and a key the length of a text. Beside it stand crawls that differ from it in one thing.
use Rattle.std.specs.Prelude.{ℕ, List, [], ◌∷◌, take, length}
use Rattle.irl_offer.specs.declared.offer.Op.TheVariants.{Both}
use Rattle.irl_offer.specs.declared.offer.Rule.TheVariants.{Keep}
use Rattle.irl_offer.specs.declared.outcome.Outcome.TheVariants.{Page}
use Rattle.irl_offer.specs.declared.place.Place.{Place}
use Rattle.irl_offer.specs.declared.place.Slot.{Slot}
use Rattle.irl_offer.specs.declared.place.Slot.TheVariants.{Front, Queue}
use Rattle.irl_offer.specs.declared.settings.Kind.TheVariants.{Crawl}
use Rattle.irl_offer.specs.declared.settings.Settings.{Settings}
use Rattle.irl_offer.specs.Tuple.{Tuple}
use Rattle.irl_model.specs.Book.{Book}
use Rattle.irl_model.specs.Plain.{whole_book}
use Rattle.irl_events.specs.Events.{Begin, Pairs, Pass, Settle, Happened}

-- a domain that nobody links to has one page a pass, and the first of the others 3
abbrev pub settings : Settings
settings = record {
  kind = Crawl;
  rule = Keep;
  buckets = 1;
  array = 8;
  trigger = 8;
  block = 8;
  cap = 8;
  queues = 2;
  base = 1;
  most = 3;
  ranks = 1;
}

abbrev pub domain : List ℕ → List ℕ → List ℕ
domain suffixes url = take 1 url

abbrev pub key : List ℕ → ℕ
key text = length text

abbrev pub offer : ℕ → ℕ → List ℕ → Tuple
offer key from url = record { op = Both; key = key; value = 0; from = from; aux = url }

-- `a` and `a/` come from no page, and `b//` from a page of the domain whose key is 5
abbrev pub urls : Book
urls = whole_book 1 Keep ((offer 1 0 (97 ∷ []) ∷ offer 2 0 (97 ∷ 47 ∷ []) ∷ offer 3 5 (98 ∷ 47 ∷ 47 ∷ []) ∷ []) ∷ [])
    ((3 ∷ []) ∷ [])

-- the pair of that domain and `b`: the key is the length of its eight bytes and `b`
abbrev pub pairs : Book
pairs = whole_book 1 Keep ((offer 9 0 (98 ∷ []) ∷ []) ∷ []) ((1 ∷ []) ∷ [])

abbrev pub at : ℕ → Slot → Place
at number slot = record { number = number; slot = slot }

-- a crawl whose first pairs are those of so many cuts, which judged so many offers of the URLs and so many of the
-- pairs, whose pass puts what it reads in these places, and whose settle finds a list so long
abbrev pub crawl : ℕ → ℕ → ℕ → List Place → ℕ → List Happened
crawl cuts judged sent places front =
    (Begin [], []) ∷ (Pairs cuts judged sent, []) ∷ (Pass judged, places) ∷ (Settle (front ∷ []) ((0, Page) ∷ []), [])
    ∷ []

-- the places of the three URLs, where the second is put into this slot
abbrev pub places : Slot → List Place
places slot = at 0 Front ∷ at 1 slot ∷ at 2 Front ∷ []

abbrev pub events : Slot → List Happened
events slot = crawl 1 3 1 (places slot) 3

-- A later cut judges one URL more, `b///`, from the same page as `b//`: one link, since both domains are the same.
abbrev pub more_urls : Book
more_urls = whole_book 1 Keep ((offer 1 0 (97 ∷ []) ∷ offer 2 0 (97 ∷ 47 ∷ []) ∷ offer 3 5 (98 ∷ 47 ∷ 47 ∷ [])
    ∷ offer 4 5 (98 ∷ 47 ∷ 47 ∷ 47 ∷ []) ∷ []) ∷ []) ((3 ∷ []) ∷ (4 ∷ []) ∷ [])

-- the crawl where both cuts are read in one pass, which puts the second URL of `b` into this slot
abbrev pub more_events : Slot → List Happened
more_events slot = crawl 2 4 1 (at 0 Front ∷ at 1 (Queue 2) ∷ at 2 Front ∷ at 3 slot ∷ []) 4

-- The crawl goes on: both URLs in front are settled, the later cut is read, and a second pass reads what waits in the
-- second queue and then the URL of `b`, each the first of its domain in this pass.
abbrev pub two_passes : List Happened
two_passes =
    (Begin [], []) ∷ (Pairs 1 3 1, []) ∷ (Pass 3, places (Queue 2)) ∷ (Settle (4 ∷ []) ((0, Page) ∷ (2, Page) ∷ []), [])
    ∷ (Pairs 2 4 1, []) ∷ (Pass 4, at 1 Front ∷ at 3 Front ∷ []) ∷ []

-- the book of pairs with another domain under the same key
abbrev pub other_pairs : Book
other_pairs = whole_book 1 Keep ((offer 9 0 (99 ∷ []) ∷ []) ∷ []) ((1 ∷ []) ∷ [])

-- the book of pairs with one more behind it, not judged yet, that no link has
abbrev pub stray_pairs : Book
stray_pairs = whole_book 1 Keep ((offer 9 0 (98 ∷ []) ∷ offer 7 0 (98 ∷ []) ∷ []) ∷ []) ((1 ∷ []) ∷ [])
