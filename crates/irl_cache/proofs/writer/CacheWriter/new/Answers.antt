use Rattle.std.proofs.Common.{[], None, sym, subst}
use Rattle.irl_journal.specs.Growing.{Writer}
use Rattle.irl_cache.specs.Writing.{HasWritten}
use Rattle.irl_cache.proofs.Growing.{written_none}
use Rattle.irl_cache.proofs.writer.CacheWriter.new.Goals as goal

pub returns-clause-written : goal.returns-clause-written
returns-clause-written c = λ told.
    subst (λ (out : Writer). HasWritten told [] (record { out = out; last = None })) (sym c.in_ok-out.ensures.value) (written_none c.args.f told)
