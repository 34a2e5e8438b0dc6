use Rattle.std.proofs.Common.{[], List, None, sym, subst}
use Rattle.irl_offer.specs.declared.receipt.Pair.{Pair}
use Rattle.irl_cache.specs.Reading.{HasRead}
use Rattle.irl_cache.proofs.Frames.{read_none}
use Rattle.irl_cache.proofs.reader.CacheReader.new.Goals as goal

pub returns-clause-read : goal.returns-clause-read
returns-clause-read c = λ told.
    subst (λ (items : List Pair). HasRead told [] (record { file = c.args.f; entries = c.args.entries; most = c.args.block; given = 0; block = []; ahead = items; last = None }))
    (sym c.in_ok-pairs.ensures.items)
    (read_none c.args.f c.args.entries c.args.block told)
