use Rattle.std.proofs.Common.{arith}
use Rattle.irl_yard.proofs.Adding.{is_open}
use Rattle.irl_yard.proofs.parts.Rest.front.Goals as goal

pub front-requires-clause-read : goal.front-requires-clause-read
front-requires-clause-read g c =
    let opened = is_open c.args.urls.now c.args.self.now c.in-Crawl.ledger (g.S.Store.told c.args.store.now).files c.in-Crawl.is c.requires.open_rest in
    omega (arith, opened.1.fits.read, opened.1.fits.sent)

pub front-requires-clause-base : goal.front-requires-clause-base
front-requires-clause-base g c =
    (is_open c.args.urls.now c.args.self.now c.in-Crawl.ledger (g.S.Store.told c.args.store.now).files c.in-Crawl.is c.requires.open_rest).1.urls_at
