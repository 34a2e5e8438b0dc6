use Rattle.irl_yard.specs.Moments.{moment_at}
use Rattle.irl_yard.proofs.Beside.{open_after}
use Rattle.irl_yard.proofs.Lifting.{lifts_books}
use Rattle.irl_yard.proofs.laws.books_make_states.Goals as goal

pub returns-clause-lifts : goal.returns-clause-lifts
returns-clause-lifts g c = λ waits later state law holds still.
    lifts_books state (moment_at c.args.before.now waits) (moment_at c.args.after.now later) (g.met.S.Store.is_consistent c.args.after.now.store) law holds.urls still

pub returns-clause-open_rest : goal.returns-clause-open_rest
returns-clause-open_rest g c = λ waits later state book law holds still same follows.
    let before = c.args.before.now in
    let after = c.args.after.now in
    open_after (moment_at before waits) (moment_at after later) before.parts.rest after.parts.rest state.urls book state.pairs state.events law (g.met.S.Store.is_consistent after.store) still
    before.rest_is same holds.urls.urls_hold.book_is.is_book follows holds.open_rest
