-- What a line is read as.
use Rattle.std.specs.Prelude.{List, [], ◌∷◌, Option, None, Some}
use Rattle.irl_offer.specs.Tuple.{Tuple}
use Rattle.irl_top.specs.declared.line.Reading.{Reading}
use Rattle.irl_top.specs.declared.line.Reading.TheVariants.{Skipped, Offered, Refused}

-- the offers of a line that was read so, or None where it is refused
abbrev pub offers_read : Reading → Option (List Tuple)
offers_read Skipped = Some []
offers_read (Offered offer) = Some (offer ∷ [])
offers_read Refused = None
