-- The sync's images have the file's bytes, and the length that follows it changes nothing.
use Rattle.std.proofs.Common.{◌≡◌, ◌∙◌, ◌≤◌, length, arith}
use Rattle.irl_journal.proofs.Fronts.{synced_committed}
use Rattle.irl_journal.proofs.Opened.{stays_synced}
use Rattle.irl_journal.proofs.blob.Blob.open.Goals as goal

pub returns-then-branch-length-clause-durable : goal.returns-then-branch-length-clause-durable
returns-then-branch-length-clause-durable g c = λ files told.
    let tells = g.S.Store.told in
    stays_synced c.args.f (tells c.sync.new.self) (tells c.length.new.self) files (g.met.S.Store.is_consistent c.length.new.self) (c.in_ok-sync.ensures.durable files told) c.in_ok-length.ensures.stops

pub returns-clause-durable : goal.returns-clause-durable
returns-clause-durable g c = λ files told.
    let tells = g.S.Store.told in
    stays_synced c.args.f (tells c.sync.new.self) (tells c.length.new.self) files (g.met.S.Store.is_consistent c.length.new.self) (c.in_ok-sync.ensures.durable files told) c.in_ok-length.ensures.stops

pub returns-clause-committed : goal.returns-clause-committed
returns-clause-committed g c = λ files told.
    let tells = g.S.Store.told in
    let size : c.in_ok-length.field-0 ≡ length (files c.args.f) = rw (c.in_ok-sync.ensures.same ∙ told) at c.in_ok-length.ensures.value in
    let within : c.args.length ≤ length (files c.args.f) = omega (arith, size, c.if-branch-length.false) in
    synced_committed c.args.f c.args.length (files c.args.f) c.at.result (tells c.length.new.self).images c.at.ensures within
    (stays_synced c.args.f (tells c.sync.new.self) (tells c.length.new.self) files (g.met.S.Store.is_consistent c.length.new.self) (c.in_ok-sync.ensures.durable files told)
    c.in_ok-length.ensures.stops)
