-- An offer of a pass: it holds the turn of the offer's bucket, until the offer is put or refused.
use Rattle.std.proofs.Common.{◌≡◌, ◌∙◌, ℕ, [], ◌∷◌, Option, None, Some, Result, Err, refl, sym, ap}
use Rattle.irl_base.specs.declared.fault.Fault.{Fault}
use Rattle.irl_base.specs.declared.fault.Fault.TheVariants.{Damaged, Failed, Full, Memory}
use Rattle.irl_offer.specs.Offering.{fault_or}
use Rattle.irl_disk.specs.declared.store.Store.{Ghosts}
use Rattle.irl_schedule.specs.Feeding.{IsArrayOf}
use Rattle.irl_desk.specs.Closing.{last_after}
use Rattle.irl_lock.specs.Plays.{with_turns}
use Rattle.irl_lock.specs.Sharing.{IsOf, opening_of}
use Rattle.irl_lock.specs.declared.held.Bin.{Bin}
use Rattle.irl_lock.specs.declared.held.Held.TheVariants.{InBin}
use Rattle.irl_lock.specs.declared.pass.Pass.{Pass}
use Rattle.irl_lock.specs.declared.shared.Shared.{Shared}

-- ---- the last fault
none_some : (fault : Fault) → ◌≡◌ {A = Option Fault} None (Some fault) → ⊥
none_some fault is = cc

kept_again : (mine : Option Fault) (fault : Fault) → (fault ≡ Memory → ⊥) → Some fault ≡ fault_or mine fault
kept_again mine Failed not = refl
kept_again mine Memory not = absurd (not refl)
kept_again mine (Full n) not = refl
kept_again mine (Damaged f at) not = refl

-- A store that goes on stops by the answer, and one that stopped answers its fault again: either way that is the pass's last
-- fault too, as it had none but the store's.
pub last_told : (mine old new : Option Fault) (made : Result (Unit {0}) Fault) → (old ≡ Some Memory → ⊥) → ((fault : Fault) → mine ≡ Some fault → old ≡ Some fault)
    → (old ≡ None → new ≡ last_after None made) → ((fault : Fault) → old ≡ Some fault → (made ≡ Err fault) × (new ≡ old)) → new ≡ last_after mine made
last_told None None new made memory told goes again = goes refl
last_told (Some fault) None new made memory told goes again = absurd (none_some fault (told fault refl))
last_told mine (Some fault) new made memory told goes again =
    let stopped = again fault refl in
    let same : Some fault ≡ fault_or mine fault = kept_again mine fault (λ is. memory (ap (λ (f : Fault). Some f) is)) in
    stopped.1 ∙ same ∙ ap (λ (r : Result (Unit {0}) Fault). last_after mine r) (sym stopped.0)

module _ {S : Type 0} {tells : Ghosts S} (shared : Shared S tells) (b : ℕ) (old : Pass S tells) where
  -- it holds the turn, and has done nothing else since
  pub record HoldsBin (now : Pass S tells) (bin : Bin) : Type 0 where
    pub own : IsOf shared now
    pub me : now.token.me ≡ (with_turns ((b, InBin bin) ∷ []) old.token.me.0, (b, None) ∷ [])
    pub last : now.last ≡ old.last
    pub array : IsArrayOf (opening_of shared).parts.urls.settings b bin.array
