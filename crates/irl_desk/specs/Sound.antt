-- That a store is sound is one fact, and no data: a ghost field of a desk says it.
use Rattle.std.proofs.Props.{props}
use Rattle.irl_yard.specs.Holding.{IsSoundRest}
use Rattle.irl_yard.specs.declared.parts.Rest.{Rest}
use Rattle.irl_yard.specs.declared.parts.Rest.TheVariants.{Plain, Crawl}

pub sound_rest : (rest : Rest) → IsProp (IsSoundRest rest)
sound_rest Plain = Prim.hlevel props
sound_rest (Crawl ledger) = Prim.hlevel props
