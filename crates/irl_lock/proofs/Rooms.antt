-- Room that is made in front of a bucket, whatever waits elsewhere.
use Rattle.std.proofs.Common.{◌≡◌, ⊎_elim, ℕ, ◌+◌, ◌<◌, ◌≤◌, ◌^◌, List, [], length, Result, Err, refl, sym, ap, subst, arith}
use Rattle.std.proofs.lemmas.Bool.Decides.{eqb_tells}
use Rattle.irl_base.specs.declared.fault.Fault.{Fault}
use Rattle.irl_base.specs.declared.fault.Fault.TheVariants.{Full}
use Rattle.irl_array.specs.Waiting.{Waiting}
use Rattle.irl_offer.specs.Tuple.{Tuple}
use Rattle.irl_offer.specs.declared.settings.Settings.{Settings}
use Rattle.irl_disk.specs.Images.{IsConsistent}
use Rattle.irl_disk.specs.declared.store.Store.{Ghosts}
use Rattle.irl_bay.specs.Drum.{IsDrum, durable_at}
use Rattle.irl_schedule.specs.Feeding.{IsArrayOf, Waits, with_waiting}
use Rattle.irl_schedule.specs.Schedule.{none_more}
use Rattle.irl_schedule.proofs.Counts.{waiting_elsewhere, waiting_here}
use Rattle.irl_yard.specs.Holding.{IsSound}
use Rattle.irl_yard.specs.Moments.{moment_at}
use Rattle.irl_yard.specs.declared.yard.Yard.{Yard}
use Rattle.irl_desk.specs.Stepping.{handed_at}
use Rattle.irl_desk.proofs.Chaining.{FewWait, steps_none, steps_number}
use Rattle.irl_lock.specs.Books.{buckets_of}
use Rattle.irl_lock.specs.Seats.{FewWaitIn, GivesRoom}

module _ {S : Type 0} {tells : Ghosts S} where
  -- no more wait than an array has room for, in front of this bucket and elsewhere
  pub few_with : (yard now : Yard S tells) (others : Waits) (b : ℕ) (array : Waiting) → now.parts.urls.settings ≡ yard.parts.urls.settings → FewWaitIn yard others
      → IsArrayOf yard.parts.urls.settings b array → FewWait (moment_at now (with_waiting others b array.items))
  few_with yard now others b array same few is = λ c within. ⊎_elim
      (λ here. subst (λ (n : ℕ). length (with_waiting others b array.items n) ≤ now.parts.urls.settings.array) (sym here.1)
      (omega (arith, is.few, ap (λ (l : List Tuple). length l) (waiting_here others b array.items), ap (λ (s : Settings). s.array) same)))
      (λ other.
      let inside : c < buckets_of yard = omega (arith, within, ap (λ (s : Settings). s.buckets) same) in
      omega (arith, few c inside, ap (λ (l : List Tuple). length l) (waiting_elsewhere others b c array.items other.1), ap (λ (s : Settings). s.array) same))
      (eqb_tells c b)

  -- the settings stay
  pub room_settings : (result : Result (Unit {0}) Fault) (b : ℕ) (was now : Waiting) (old new : Yard S tells) → GivesRoom result b was now old new → new.parts.urls.settings ≡ old.parts.urls.settings
  room_settings result b was now old new gives =
      let none : Waits = λ c. [] in
      let few : FewWaitIn old none = λ c within. omega arith in
      (gives.steps none few).stays.settings

  -- a bucket has no number left
  pub no_number_left : (yard : Yard S tells) (b : ℕ) (array : Waiting) → IsConsistent (tells.told yard.store) → IsDrum yard.parts.urls → IsSound yard.parts → b < buckets_of yard
      → IsArrayOf yard.parts.urls.settings b array → length array.items < yard.parts.urls.settings.array → durable_at yard.parts.urls b < 2 ^ 64 → yard.parts.urls.settings.cap < 2 ^ 64
      → 2 ^ 64 ≤ durable_at yard.parts.urls b + length array.items → GivesRoom (Err (Full b)) b array array yard yard
  no_number_left yard b array law drum sound within is room durable cap passes = record {
    steps = λ others few.
        let now = moment_at yard (with_waiting others b array.items) in
        let waits = few_with yard yard others b array refl few is in
        let here : length (with_waiting others b array.items b) ≡ length array.items = ap (λ (l : List Tuple). length l) (waiting_here others b array.items) in
        let some : 1 ≤ length (now.waits b) = omega (arith, here, durable, passes) in
        let past : now.drum.settings.cap < handed_at now b = omega (arith, here, cap, passes) in
        steps_number (tt {0}) (Err (Full b)) b none_more now now (steps_none (tt {0}) now law drum waits) within waits (refl, some, past);
    rest = refl;
    sound = record {
      drum = drum;
      sound = λ not. sound;
      unsound = λ is. let no : ⊥ = cc in absurd no;
    };
    array = is;
    room = tt;
  }
