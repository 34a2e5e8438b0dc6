use Rattle.std.proofs.Common.{◌∙◌}
use Rattle.irl_disk.proofs.Stretches.{left_now}
use Rattle.irl_yard.proofs.Making.{on_ok_then}
use Rattle.irl_yard.proofs.RestFiles.{rest_synced}
use Rattle.irl_yard.proofs.enter.sync_rest.Goals as goal

-- what the first calls synced stays so
pub returns-clause-synced : goal.returns-clause-synced
returns-clause-synced g c =
    let tells = g.S.Store.told in
    let images = (tells c.sync_files-2.new.store).images in
    let back = left_now (tells c.sync_files.new.store) (tells c.sync_files-2.new.store) _ (g.met.S.Store.is_consistent c.sync_files-2.new.store) c.sync_files-2.ensures.stops in
    let further = left_now (tells c.sync.new.self) (tells c.sync_files.new.store) _ (g.met.S.Store.is_consistent c.sync_files.new.store) c.sync_files.ensures.stops in
    on_ok_then c.sync_files-2.result (λ high files told. rest_synced images c.args.buckets files
    (λ image left. c.in_ok-sync.ensures.durable files told image (further image (back image left)))
    (λ image left. c.in_ok-sync_files.ensures.synced files (c.sync.ensures.same ∙ told) image (back image left))
    (high files (c.sync_files.ensures.same ∙ c.sync.ensures.same ∙ told)))
    c.sync_files-2.ensures.synced
