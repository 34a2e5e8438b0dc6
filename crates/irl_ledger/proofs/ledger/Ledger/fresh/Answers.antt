use Rattle.std.proofs.Common.{◌≡◌, ◌∙◌, ◌-◌, ℕ, List, [], Option, take, drop, ap, sym, arith}
use Rattle.std.specs.Prelude.{unwrap_or}
use Rattle.irl_model.specs.Book.{gone, judged}
use Rattle.irl_ledger.specs.Crawling.{domain_of}
use Rattle.irl_ledger.specs.Passing.{items_from}
use Rattle.irl_ledger.proofs.FreshUrls.{fresh_items}
use Rattle.irl_ledger.proofs.Reading.{found_as, none_gone}
use Rattle.irl_ledger.proofs.ledger.Ledger.fresh.Goals as goal

pub returns-clause-reads : goal.returns-clause-reads
returns-clause-reads g c =
    let self = c.args.self.now in
    let urls = c.args.urls.now in
    let domain = domain_of (unwrap_or self.suffixes []) in
    let same : domain_of c.in-Some.suffixes ≡ domain = ap (λ (o : Option (List ℕ)). domain_of (unwrap_or o [])) (sym c.in-Some.is) in
    let from = self.frontier.progress.read in
    let to = self.frontier.progress.sent in
    found_as c.read_items.result _ _ urls (g.S.Store.told c.args.store.now) (g.S.Store.told c.read_items.new.store) (λ items book holds found.
    let zero : gone book ≡ 0 = none_gone urls.settings book holds.book_is in
    found
    ∙ ap (λ (d : List ℕ → List ℕ). items_from d c.read-from.result (take (c.sent-to.result - c.read-from.result) (drop (c.read-from.result - gone book) (judged book)))) same
    ∙ ap (λ (n : ℕ). items_from domain n (take (c.sent-to.result - n) (drop (n - gone book) (judged book)))) c.read-from.ensures
    ∙ ap (λ (n : ℕ). items_from domain from (take (n - from) (drop (from - gone book) (judged book)))) c.sent-to.ensures
    ∙ sym (fresh_items domain book from to (omega (arith, zero))))
    c.read_items.ensures.reads
