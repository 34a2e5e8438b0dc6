-- Seeds that are handed in at a desk, in order.
use Rattle.std.specs.Prelude.{◌≡◌, ◌⊎◌, ℕ, List, map, Some, Result, OnOk, IsErrOf}
use Rattle.irl_answer.specs.Found.{offer_from}
use Rattle.irl_base.specs.declared.fault.Fault.{Fault}
use Rattle.irl_base.specs.declared.fault.Fault.TheVariants.{Memory}
use Rattle.irl_disk.specs.Images.{Told}
use Rattle.irl_model.specs.Book.{IsPrefixOf}
use Rattle.irl_offer.specs.Offering.{Entered}
use Rattle.irl_desk.specs.Serving.{Serves, Serving}
use Rattle.irl_crawl.specs.Offering.{offers_in}

-- The first of them were offered, or at Ok all.
pub record OffersSeeds {S : Type 0} (told : S → Told) (result : Result Unit Fault) (seeds : List (List ℕ))
    (old new : Serving S) : Type 0 where
  pub entries : List Entered
  pub serves : Serves told entries old new
  pub some : IsPrefixOf (offers_in entries) (map (offer_from 0) seeds)
  pub all : OnOk result (offers_in entries ≡ map (offer_from 0) seeds)
  -- a fault is want of memory, or the last one of the desk
  pub fault : (fault : Fault) → IsErrOf result fault → (fault ≡ Memory) ⊎ (new.last ≡ Some fault)
