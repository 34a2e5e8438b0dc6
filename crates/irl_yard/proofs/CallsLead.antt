-- Where a call of a crawl leads the state that an open store held.
use Rattle.std.proofs.Common.{◌≡◌, ⊎_elim, ℕ, [], List, Some, Result, Ok, Err, OnErr, OnOk, IsErrOf, inl, inr, refl, sym, subst}
use Rattle.irl_base.specs.declared.fault.Fault.{Fault}
use Rattle.irl_base.specs.declared.fault.Fault.TheVariants.{Damaged, Failed, Full, Memory}
use Rattle.irl_offer.specs.declared.note.Note.{Note}
use Rattle.irl_events.specs.Events.{Event}
use Rattle.irl_events.specs.State.{State, IsFrontState}
use Rattle.irl_model.proofs.FrontLaws.{front_same}
use Rattle.irl_disk.specs.Disk.{Files}
use Rattle.irl_disk.specs.Images.{Told, IsConsistent, Leaves}
use Rattle.irl_disk.proofs.Stretches.{stays}
use Rattle.irl_bay.specs.Drum.{IsDrum}
use Rattle.irl_yard.specs.declared.parts.Parts.{Parts}
use Rattle.irl_yard.specs.Adding.{AddsEvent, AddsNotes, notes_happened, with_event, with_notes}
use Rattle.irl_yard.specs.Holding.{HasOneOf, HoldsState}
use Rattle.irl_yard.specs.Leading.{IsEither, LeadsOrStays, LeadsTo}
use Rattle.irl_yard.specs.Passing.{PassesState, with_pass}
use Rattle.irl_yard.specs.Standing.{HasState, IsStateOf}
use Rattle.irl_yard.proofs.Holding.{held_has, held_legal}
use Rattle.irl_yard.proofs.Leading.{fails_one, fails_same, leads_one, leads_same}
use Rattle.irl_yard.proofs.States.{event_front}

-- notes come behind
notes_front : (notes : List Note) (state : State) → IsFrontState state (with_notes notes state)
notes_front notes state = inr (record { settings = refl; urls = front_same state.urls; pairs = front_same state.pairs; events = (notes_happened notes, refl) })

-- by the answer
ok_of : {A : Type 0} (result : Result A Fault) (P Q : Type 0) → OnOk result P → (P → Q) → OnOk result Q
ok_of (Ok value) P Q has gives = gives has
ok_of (Err fault) P Q has gives = tt

pub pass_leads : {S : Type 0} (tells : S → Told) (result : Result ℕ Fault) (was now : Parts) (state : State) (before after : S) (files : Files) → IsDrum was.urls → IsConsistent (tells after)
    → (tells before).files ≡ Some files → HoldsState (tells before).images was state → PassesState tells result was now before after
    → LeadsOrStays result state (with_pass was.urls.settings state) now (tells before) (tells after)
pass_leads tells result was now state before after files drum law told holds passes = record {
  done = ok_of result _ _ passes.holds (λ makes. leads_one state (with_pass was.urls.settings state) now (tells before) (tells after) (makes files told state holds) (event_front _ _ state)
      (passes.stops state holds));
  kept = kept_by result (λ is. passes.memory is state holds) (λ f at is. passes.damaged f at is state holds) (λ n is. passes.full n is) passes.still;
  failed = λ failed. ⊎_elim
      (λ (legal : IsStateOf was.urls.settings (with_pass was.urls.settings state)).
      fails_one (IsEither state (with_pass was.urls.settings state)) state (with_pass was.urls.settings state) (tells before) (tells after) law (event_front _ _ state) (passes.stops state holds)
      (inl refl) (inr refl) (inr (was.urls.settings, held_legal (tells before).images was.urls state drum holds.urls), inr (was.urls.settings, legal)))
      (λ (stays : Leaves (tells before) (tells after) (HasState state)).
      fails_same (IsEither state (with_pass was.urls.settings state)) state (tells before) (tells after) law stays (inl refl)
      (inr (was.urls.settings, held_legal (tells before).images was.urls state drum holds.urls)))
      (passes.legal files told state holds);
}
  where
    kept_by : (answer : Result ℕ Fault) → (IsErrOf answer Memory → HoldsState (tells after).images now state)
        → ((f at : ℕ) → IsErrOf answer (Damaged f at) → HoldsState (tells after).images now state) → ((n : ℕ) → IsErrOf answer (Full n) → ⊥)
        → ((IsErrOf answer Failed → ⊥) → OnErr answer ((x : State) → HoldsState (tells before).images was x → Leaves (tells before) (tells after) (HasState x)))
        → OnErr answer ((IsErrOf answer Failed → ⊥) → LeadsTo state state now (tells before) (tells after))
    kept_by (Ok n) memory damaged full still = tt
    kept_by (Err Failed) memory damaged full still = λ not. absurd (not refl)
    kept_by (Err Memory) memory damaged full still = λ not. leads_same state now (tells before) (tells after) (memory refl) (still not state holds)
    kept_by (Err (Full n)) memory damaged full still = λ not. absurd (full n refl)
    kept_by (Err (Damaged f at)) memory damaged full still = λ not. leads_same state now (tells before) (tells after) (damaged f at refl) (still not state holds)

-- a call that adds events, or changes nothing
module _ {S : Type 0} (tells : S → Told) (law : (s : S) → IsConsistent (tells s)) (result : Result Unit Fault) (was now : Parts) (state later : State) (before after : S) (drum : IsDrum was.urls)
    (held : HoldsState (tells before).images was state) (front : IsFrontState state later) (makes : OnOk result (HoldsState (tells after).images now later))
    (stops : Leaves (tells before) (tells after) (HasOneOf state later)) (legal : IsStateOf was.urls.settings later) (none : IsErrOf result Memory → (after ≡ before) × (now ≡ was))
    (not_full : (n : ℕ) → IsErrOf result (Full n) → ⊥) (not_damaged : (f at : ℕ) → IsErrOf result (Damaged f at) → ⊥) where
  unchanged : LeadsTo state state was (tells before) (tells before)
  unchanged = leads_same state was (tells before) (tells before) held
      (stays (tells before) (HasState state) (law before) (λ image left. held_has (tells before).images was.urls state image drum held.urls left))

  kept_by : (answer : Result Unit Fault) → (IsErrOf answer Memory → (after ≡ before) × (now ≡ was)) → ((n : ℕ) → IsErrOf answer (Full n) → ⊥) → ((f at : ℕ) → IsErrOf answer (Damaged f at) → ⊥)
      → OnErr answer ((IsErrOf answer Failed → ⊥) → LeadsTo state state now (tells before) (tells after))
  kept_by (Ok value) memory full damaged = tt
  kept_by (Err Failed) memory full damaged = λ not. absurd (not refl)
  kept_by (Err Memory) memory full damaged = λ not.
      subst (λ (s : S). LeadsTo state state now (tells before) (tells s)) (sym (memory refl).0)
      (subst (λ (p : Parts). LeadsTo state state p (tells before) (tells before)) (sym (memory refl).1) unchanged)
  kept_by (Err (Full n)) memory full damaged = λ not. absurd (full n refl)
  kept_by (Err (Damaged f at)) memory full damaged = λ not. absurd (damaged f at refl)

  adds_lead : LeadsOrStays result state later now (tells before) (tells after)
  adds_lead = record {
    done = ok_of result _ _ makes (λ has. leads_one state later now (tells before) (tells after) has front stops);
    kept = kept_by result none not_full not_damaged;
    failed = λ failed. fails_one (IsEither state later) state later (tells before) (tells after) (law after) front stops (inl refl) (inr refl)
        (inr (was.urls.settings, held_legal (tells before).images was.urls state drum held.urls), inr (was.urls.settings, legal));
  }

pub event_leads : {S : Type 0} (tells : S → Told) → ((s : S) → IsConsistent (tells s)) → (result : Result Unit Fault) (event : Event) (was now : Parts) (state : State) (before after : S)
    → IsDrum was.urls
    → HoldsState (tells before).images was state → AddsEvent tells result event was now before after → LeadsOrStays result state (with_event event [] state) now (tells before) (tells after)
event_leads tells law result event was now state before after drum held adds =
    adds_lead tells law result was now state (with_event event [] state) before after drum held (event_front event [] state) (ok_of result _ _ adds.holds (λ makes. makes state held))
    (adds.stops state held) (adds.legal state held) adds.memory adds.full adds.damaged

pub notes_lead : {S : Type 0} (tells : S → Told) → ((s : S) → IsConsistent (tells s)) → (result : Result Unit Fault) (notes : List Note) (was now : Parts) (state : State) (before after : S)
    → IsDrum was.urls
    → HoldsState (tells before).images was state → AddsNotes tells result notes was now before after → LeadsOrStays result state (with_notes notes state) now (tells before) (tells after)
notes_lead tells law result notes was now state before after drum held adds =
    adds_lead tells law result was now state (with_notes notes state) before after drum held (notes_front notes state) (ok_of result _ _ adds.holds (λ makes. makes state held)) (adds.stops state held)
    (adds.legal state held) adds.memory adds.full adds.damaged
