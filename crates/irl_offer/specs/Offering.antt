-- What handing offers into a store comes to.
use Rattle.std.specs.Prelude.{◌≡◌, ℕ, List, [], ◌∷◌, ◌++◌, Option, Some, Result, Ok, Err, ⊤}
use Rattle.std.specs.Option.{option_map}
use Rattle.irl_base.specs.declared.fault.Fault.{Fault}
use Rattle.irl_base.specs.declared.fault.Fault.TheVariants.{Failed, Memory, Full, Damaged}
use Rattle.irl_offer.specs.declared.offer.Op.TheVariants.{Both}
use Rattle.irl_offer.specs.declared.receipt.Receipt.{Receipt}
use Rattle.irl_offer.specs.declared.settings.Kind.{Kind}
use Rattle.irl_offer.specs.declared.settings.Kind.TheVariants.{Lines, Tuples, Crawl}
use Rattle.irl_offer.specs.Tuple.{Tuple}

-- an offer that was taken, as it was handed in, and where it stands
pub record Entered : Type 0 where
  pub receipt : Receipt
  pub offer : Tuple

-- one entry more where an offer was taken
abbrev pub entries_after : Result Receipt (Fault × Tuple) → Tuple → Option (List Entered) → Option (List Entered)
entries_after (Ok receipt) offer entries = option_map (λ list. list ++ record { receipt = receipt; offer = offer } ∷ [])
    entries
entries_after (Err refusal) offer entries = entries

-- the last fault but want of memory
abbrev pub fault_or : Option Fault → Fault → Option Fault
fault_or last Failed = Some Failed
fault_or last Memory = last
fault_or last (Full n) = Some (Full n)
fault_or last (Damaged f at) = Some (Damaged f at)

abbrev pub fault_after : Result Receipt (Fault × Tuple) → Option Fault → Option Fault
fault_after (Ok receipt) last = last
fault_after (Err refusal) last = fault_or last refusal.0

-- The offers that a store of a kind takes, where canonical texts are these: a crawl's check and enter a page by its
-- canonical text.
abbrev pub IsTakenBy : (List ℕ → Type 0) → Kind → Tuple → Type 0
IsTakenBy IsCanonical Lines offer = ⊤
IsTakenBy IsCanonical Tuples offer = ⊤
IsTakenBy IsCanonical Crawl offer = (offer.op ≡ Both) × IsCanonical offer.aux
