use Rattle.std.proofs.Common.{refl}
use Rattle.irl_yard.specs.Moments.{moment_at}
use Rattle.irl_yard.proofs.BooksLead.{books_fail, books_lead}
use Rattle.irl_yard.proofs.laws.books_lead_states.Goals as goal

pub returns-clause-leads : goal.returns-clause-leads
returns-clause-leads g c = λ waits later state early uneven news law holds still same fed follows.
    let before = c.args.before.now in
    let after = c.args.after.now in
    books_lead (moment_at before waits) (moment_at after later) before.parts after.parts state early uneven news refl refl before.rest_is law (g.met.S.Store.is_consistent after.store) holds still same
    fed follows

pub returns-clause-fails : goal.returns-clause-fails
returns-clause-fails g c = λ waits later state early uneven news law holds still stranded follows.
    books_fail (moment_at c.args.before.now waits) (moment_at c.args.after.now later) state early uneven news law (g.met.S.Store.is_consistent c.args.after.now.store) holds.urls still stranded follows
