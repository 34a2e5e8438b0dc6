-- The links between pay-level domains that judged URLs show, and how many domains link to each (Lee, Leonard, Wang,
-- Loguinov, "IRLbot: Scaling to 6 Billion Pages and Beyond", WWW 2008, section 5, STAR). Here `domain` gives the
-- pay-level domain of a URL, by its text, and `key` the key of a text.
use Rattle.std.specs.Prelude.{◌≡◌, ℕ, nat_eq, Bool, not, ◌&&◌, List, [], ◌∷◌, ◌++◌, map, filter, find, count_by, bytes_eq, Option, option_map}
use Rattle.std.specs.Int.{w64, to_be_bytes}
use Rattle.irl_offer.specs.declared.offer.Op.TheVariants.{Both}
use Rattle.irl_offer.specs.Tuple.{Tuple}
use Rattle.irl_model.specs.Book.{Book, judged_offers, at_cut}

-- what the DRUM of pairs is offered for a link from one domain, by its key, to another, by its text: the pair's key is
-- that of the eight bytes of the first, the highest first, with the second behind them
abbrev pub pair_offer : (List ℕ → ℕ) → ℕ → List ℕ → Tuple
pair_offer key source target = record {
  op = Both;
  key = key (to_be_bytes w64 source ++ target);
  value = 0;
  from = 0;
  aux = target;
}

-- whether an offer links two domains: it comes from a page, and its URL is of another domain than that page
abbrev pub links_domains : (List ℕ → List ℕ) → (List ℕ → ℕ) → Tuple → Bool
links_domains domain key offer = not (nat_eq offer.from 0) && not (nat_eq offer.from (key (domain offer.aux)))

-- the pairs of those of some offers that link two domains, in order
abbrev pub pair_offers : (List ℕ → List ℕ) → (List ℕ → ℕ) → List Tuple → List Tuple
pair_offers domain key offers =
    map (λ offer. pair_offer key offer.from (domain offer.aux)) (filter (links_domains domain key) offers)

-- the pairs of what the first so many cuts of a book judged
abbrev pub pairs : (List ℕ → List ℕ) → (List ℕ → ℕ) → Book → ℕ → List Tuple
pairs domain key book cuts = pair_offers domain key (judged_offers (at_cut cuts book))

-- the first offer of each key, in order
abbrev pub firsts_by_key : List Tuple → List Tuple
firsts_by_key [] = []
firsts_by_key (offer ∷ offers) = offer ∷ filter (λ other. not (nat_eq other.key offer.key)) (firsts_by_key offers)

-- the domains that some pairs lead to, each once for each domain that links to it
abbrev pub linked : List Tuple → List (List ℕ)
linked pairs = map (λ pair. pair.aux) (firsts_by_key pairs)

-- the in-degree of a domain by some pairs: how many domains link to it
abbrev pub degree : List Tuple → List ℕ → ℕ
degree pairs domain = count_by (λ target. bytes_eq domain target) (linked pairs)

-- the first of some offers with a key
abbrev pub first_with : ℕ → List Tuple → Option Tuple
first_with key offers = find (λ offer. nat_eq offer.key key) offers

-- the same texts stand for the same keys, where the text of a key is that of the first offer with it
abbrev pub AreAlike : List Tuple → List Tuple → Type 0
AreAlike xs ys = (key : ℕ) → option_map (λ offer. offer.aux) (first_with key xs)
    ≡ option_map (λ offer. offer.aux) (first_with key ys)
