-- What a pass reads of the URLs, and what is then to be fetched.
use Rattle.std.specs.Prelude.{◌≡◌, ℕ, ◌-◌, List, [], map, slice_get, true, Some}
use Rattle.irl_offer.specs.declared.receipt.Judged.{Judged}
use Rattle.irl_key.specs.declared.web.Work.{Work}
use Rattle.irl_model.specs.Book.{Book, gone, judged, uniques_from}
use Rattle.irl_events.specs.Legal.{are_rising}
use Rattle.irl_beast.specs.declared.item.Item.{Item}
use Rattle.irl_beast.specs.Passes.{item_numbers}
use Rattle.irl_core.specs.States.{item_of, uniques_within}
use Rattle.irl_ledger.specs.declared.ledger.Ledger.{Ledger}

-- ---- the fresh URLs
-- those of a book from one number on and below another, each with its domain
abbrev pub fresh_of : (List ℕ → List ℕ) → Book → ℕ → ℕ → List Item
fresh_of domain book from to = map (item_of domain book) (map (λ p. p.0) (uniques_within from to book))

-- those of some judged offers, the first of which has this number
abbrev pub items_from : (List ℕ → List ℕ) → ℕ → List Judged → List Item
items_from domain number judged = map (λ p. record { number = p.0; pld = domain p.1.aux }) (uniques_from number judged)

-- a crawl that has begun and has nothing left in front, and fresh URLs, in order of number, that the last sent pairs
-- cover and that no pass has read
pub record MayPass (ledger : Ledger) (fresh : List Item) : Type 0 where
  pub begun : ledger.frontier.progress.begun ≡ true
  pub front : ledger.frontier.progress.front ≡ []
  pub rising : are_rising ledger.frontier.progress.read ledger.frontier.progress.sent (item_numbers fresh) ≡ true

-- ---- the front
-- a page under the number of a judged offer is at the text of that offer
pub record IsWorkOf (book : Book) (work : Work) : Type 0 where
  pub one : Judged
  pub found : slice_get (judged book) (work.number - gone book) ≡ Some one
  pub web : work.web ≡ one.offer.aux
