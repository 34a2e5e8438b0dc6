use Rattle.std.proofs.Common.{◌≡◌, ◌*◌, ◌/◌, ℕ, [], map, sym, subst, ap, arith}
use Rattle.std.specs.Option.{ForSome}
use Rattle.irl_model.specs.Pairs.{pair_of}
use Rattle.irl_journal.specs.Blob.{IsCommitted}
use Rattle.irl_journal.proofs.Fronts.{none_committed}
use Rattle.irl_journal.proofs.Growing.{put_end}
use Rattle.irl_cache.specs.SortedRun.{pairs_bytes}
use Rattle.irl_journal.specs.Growing.{HasPut, ReachesPlace}
use Rattle.irl_cache.specs.Writing.{RunWriter}
use Rattle.irl_cache.proofs.RunBytes.{length-pairs, length-mapped}
use Rattle.irl_cache.proofs.writer.CacheWriter.finish.Goals as goal

pub finish-requires : goal.finish-requires
finish-requires g c = subst (λ (v : RunWriter). ForSome (g.S.Store.told c.args.store.now).files (ReachesPlace v.out)) (sym c.self.view_is) c.requires

pub returns-clause-committed : goal.returns-clause-committed
returns-clause-committed g c = λ pairs had.
    let tells = g.S.Store.told in
    let out = c.self.inside.out in
    let bytes = pairs_bytes (map pair_of pairs) in
    let put = subst (λ (v : RunWriter). HasPut (tells c.args.store.now).files bytes v.out) (sym c.self.view_is) had.put in
    let none = subst (λ (n : ℕ). IsCommitted (tells c.args.store.now).images (record { file = out.file; length = n }) []) (sym c.self.invariant.1)
    (none_committed (tells c.args.store.now).images out.file) in
    let all : c.in_ok-finish.field-0 ≡ 16 * (c.in_ok-finish.field-0 / 16) = omega (arith, c.in_ok-finish.ensures.length, c.self.invariant.0) in
    let file : out.file ≡ c.args.self.out.file = ap (λ (v : RunWriter). v.out.file) c.self.view_is in
    subst (λ (f : ℕ). IsCommitted (tells c.finish.new.store).images (record { file = f; length = 16 * (c.in_ok-finish.field-0 / 16) }) bytes) file
    (subst (λ (n : ℕ). IsCommitted (tells c.finish.new.store).images (record { file = out.file; length = n }) bytes) all
    (c.in_ok-finish.ensures.committed bytes [] put none))

pub returns-clause-count : goal.returns-clause-count
returns-clause-count g c = λ pairs had.
    let tells = g.S.Store.told in
    let bytes = pairs_bytes (map pair_of pairs) in
    let put = subst (λ (v : RunWriter). HasPut (tells c.args.store.now).files bytes v.out) (sym c.self.view_is) had.put in
    omega (arith, c.in_ok-finish.ensures.length, c.self.invariant.1, put_end (tells c.args.store.now).files bytes c.self.inside.out put, length-pairs (map pair_of pairs), length-mapped pairs)
