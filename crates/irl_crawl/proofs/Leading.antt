-- What parts of a crawl make of the states that an open store held, one behind the other.
use Rattle.std.proofs.Common.{◌≡◌, ◌∙◌, ℕ, Result, Ok, Err, OnOk, refl, arith}
use Rattle.irl_base.specs.Faults.{HasCause}
use Rattle.irl_base.specs.declared.fault.Fault.{Fault}
use Rattle.irl_bay.specs.Drum.{IsDrum}
use Rattle.irl_disk.specs.Disk.{Files}
use Rattle.irl_disk.specs.Images.{IsConsistent, Told}
use Rattle.irl_disk.proofs.Effects.{cause_for, cause_then}
use Rattle.irl_disk.proofs.Stretches.{stays}
use Rattle.irl_events.specs.State.{State, IsFrontState}
use Rattle.irl_yard.specs.declared.parts.Parts.{Parts}
use Rattle.irl_yard.specs.Holding.{HoldsState, IsSound}
use Rattle.irl_yard.specs.Leading.{FailsAt, HasOneBetween}
use Rattle.irl_yard.specs.Standing.{HasState}
use Rattle.irl_yard.proofs.Holding.{held_has}
use Rattle.irl_yard.proofs.Leading.{fails_then, leads_both}
use Rattle.irl_yard.proofs.States.{state_both, state_same}
use Rattle.irl_crawl.specs.Leading.{Leads}
use Rattle.irl_crawl.proofs.OtherFiles.{others_none, others_then}

-- ---- answers
-- what holds anyway holds at Ok, and what is refused isn't Ok
pub always : {A : Type 0} (answer : Result A Fault) (P : Type 0) → P → OnOk answer P
always (Ok value) P has = has
always (Err fault) P has = tt

pub never : {A : Type 0} (answer : Result A Fault) (fault : Fault) (P : Type 0) → answer ≡ Err fault → OnOk answer P
never (Ok value) fault P is = let no : ⊥ = cc in absurd no
never (Err other) fault P is = tt

-- without a failure a count may stay
cause_none : (failed : Type 0) (faults : ℕ) → (failed → ⊥) → HasCause failed faults faults
cause_none failed faults none = record { later = omega arith; rose = λ is. absurd (none is) }

-- ---- states that a store left as it failed
-- what was acknowledged last, what the files stand for and the greatest are others too
pub fails_as : (may other : State → Type 0) (x : State) (before after : Told) → (fails : FailsAt may x before after) → other fails.kept → other fails.state → other fails.most
    → FailsAt other x before after
fails_as may other x before after fails kept state most = record {
  kept = fails.kept;
  state = fails.state;
  most = fails.most;
  may_kept = kept;
  may_state = state;
  may_most = most;
  told = fails.told;
  first = fails.first;
  fronts = fails.fronts;
  legal = fails.legal;
  stops = fails.stops;
  now = fails.now;
}

-- and so is each that the first one leads to
pub fails_wide : (may wide : State → Type 0) (x : State) (before after : Told) → ((y : State) → IsFrontState x y → may y → wide y) → FailsAt may x before after → FailsAt wide x before after
fails_wide may wide x before after wider fails =
    let at : IsFrontState x fails.state = state_both x fails.kept fails.state fails.first fails.fronts.0 in
    fails_as may wide x before after fails (wider fails.kept fails.first fails.may_kept) (wider fails.state at fails.may_state)
    (wider fails.most (state_both x fails.state fails.most at fails.fronts.1) fails.may_most)

-- ---- one part behind another
-- The first didn't fail, so both together fail just where the second does.
pub leads_then : (first failed : Type 0) (may1 did1 may2 did2 may did : State → State → Type 0) (was mid now : Parts) (before between after : Told) → Leads first may1 did1 was mid before between
    → (first → ⊥)
    → Leads failed may2 did2 mid now between after
    → ((x y z : State) → HoldsState before.images was x → HoldsState between.images mid y → IsFrontState x y → IsFrontState y z → did1 x y → did2 y z → did x z)
    → ((x y z : State) → HoldsState before.images was x → HoldsState between.images mid y → IsFrontState x y → IsFrontState y z → did1 x y → may2 y z → may x z)
    → Leads failed may did was now before after
leads_then first failed may1 did1 may2 did2 may did was mid now before between after one sound two both stop = record {
  leads = λ still files told x held.
      let later = one.told files told in
      let y = one.leads sound files told x held in
      let z = two.leads still later.0 later.1 y.0 y.2.holds in
      (z.0, both x y.0 z.0 held y.2.holds y.2.front z.2.front y.1 z.1, leads_both x y.0 z.0 mid now before between after y.2 z.2);
  fails = λ failure files told x held.
      let later = one.told files told in
      let y = one.leads sound files told x held in
      fails_then (may x) x y.0 mid before between after y.2
      (fails_wide (may2 y.0) (may x) y.0 between after (λ z front may. stop x y.0 z held y.2.holds y.2.front front y.1 may) (two.fails failure later.0 later.1 y.0 y.2.holds));
  told = λ files told. let later = one.told files told in two.told later.0 later.1;
  settings = two.settings ∙ one.settings;
  goes_on = two.goes_on;
  cause = cause_then failed before.faults between.faults after.faults one.cause.later two.cause;
  others = others_then was mid now before between after one.settings one.others two.others;
}

-- What it says of states, said of more of them.
pub leads_wide : (failed : Type 0) (may did may_wide did_wide : State → State → Type 0) (was now : Parts) (before after : Told) → Leads failed may did was now before after
    → ((x y : State) → HoldsState before.images was x → IsFrontState x y → may x y → may_wide x y)
    → ((x y : State) → HoldsState before.images was x → HoldsState after.images now y → IsFrontState x y → did x y → did_wide x y)
    → Leads failed may_wide did_wide was now before after
leads_wide failed may did may_wide did_wide was now before after one wide_may wide_did = record {
  leads = λ still files told x held.
      let y = one.leads still files told x held in
      (y.0, wide_did x y.0 held y.2.holds y.2.front y.1, y.2);
  fails = λ failure files told x held. fails_wide (may x) (may_wide x) x before after (λ y front is. wide_may x y held front is) (one.fails failure files told x held);
  told = one.told;
  settings = one.settings;
  goes_on = one.goes_on;
  cause = one.cause;
  others = one.others;
}

-- Failures by another name.
pub leads_more_failed : (failed other : Type 0) (may did : State → State → Type 0) (was now : Parts) (before after : Told) → (failed → other) → (other → failed)
    → Leads failed may did was now before after → Leads other may did was now before after
leads_more_failed failed other may did was now before after there back one = record {
  leads = λ still. one.leads (λ failure. still (there failure));
  fails = λ failure. one.fails (back failure);
  told = one.told;
  settings = one.settings;
  goes_on = record {
    drum = one.goes_on.drum;
    sound = λ still. one.goes_on.sound (λ failure. still (there failure));
    unsound = λ failure. one.goes_on.unsound (back failure);
  };
  cause = cause_for failed other before.faults after.faults back one.cause;
  others = one.others;
}

-- Nothing was done.
pub leads_none : (failed : Type 0) (may did : State → State → Type 0) (parts : Parts) (now : Told) → IsConsistent now → IsDrum parts.urls → IsSound parts → (failed → ⊥)
    → ((x : State) → HoldsState now.images parts x → did x x) → Leads failed may did parts parts now now
leads_none failed may did parts now law drum sound still did_none = record {
  leads = λ _ files told x held. (
    x,
    did_none x held,
    record {
      holds = held;
      front = state_same x;
      stops = stays now (HasOneBetween x x) law
          (λ image left. same x image (held_has now.images parts.urls x image drum held.urls left));
    },
  );
  fails = λ failure. absurd (still failure);
  told = λ files told. (files, told);
  settings = refl;
  goes_on = record { drum = drum; sound = λ _. sound; unsound = λ failure. absurd (still failure) };
  cause = cause_none failed now.faults still;
  others = others_none parts now law;
}
  where
    same : (x : State) (image : Files) → HasState x image → HasOneBetween x x image
    same x image has = (x, has, state_same x, state_same x)
