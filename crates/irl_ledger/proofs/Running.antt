-- Calls of a schedule one after the other.
use Rattle.std.proofs.Common.{◌≡◌, inl, inr, ℕ, ◌+◌, ◌<◌, ◌≤◌, List, ◌++◌, length, Result, Ok, Err, sym, subst, arith}
use Rattle.irl_base.specs.declared.fault.Fault.{Fault}
use Rattle.irl_base.specs.declared.fault.Fault.TheVariants.{Damaged, Failed, Full}
use Rattle.irl_offer.specs.declared.settings.Settings.{Settings}
use Rattle.irl_offer.specs.Tuple.{Tuple}
use Rattle.irl_disk.specs.Images.{IsConsistent}
use Rattle.irl_bay.specs.Drum.{durable_at}
use Rattle.irl_schedule.specs.Feeding.{Moment}
use Rattle.irl_schedule.specs.Schedule.{none_more}
use Rattle.irl_schedule.specs.Scheduling.{Schedules}
use Rattle.irl_schedule.proofs.Chains.{feeds_both, feeds_more, none_before, stays_both, stranded_after, stranded_more, tells_on}
use Rattle.irl_schedule.proofs.Outcomes.{same_refusal}
use Rattle.irl_ledger.specs.Running.{RunsSchedule}

-- one call
pub runs_once : {A : Type 0} (result : Result A Fault) (elsewhere : ℕ → ℕ → Type 0) (e : ℕ) (u : ℕ → ℕ) (news : List Tuple) (old new : Moment) → Schedules result e u news old new
    → RunsSchedule result elsewhere e u news old new
runs_once result elsewhere e u news old new one = record {
  stays = one.stays;
  fed = one.fed;
  stranded = λ failed files told x holds. (one.stranded failed files told x holds).0;
  full = one.full;
  damaged = λ f at is. inr (one.whole f at is, one.damaged f at is);
  cause = one.cause;
}

-- they may be said with greater numbers
pub runs_more : {A : Type 0} (result : Result A Fault) (elsewhere : ℕ → ℕ → Type 0) (e d : ℕ) (u v : ℕ → ℕ) (xs : List Tuple) (old new : Moment) → e ≤ d → ((b : ℕ) → u b ≤ v b)
    → RunsSchedule result elsewhere e u xs old new → RunsSchedule result elsewhere d v xs old new
unfolding stranded_more
runs_more result elsewhere e d u v xs old new le more runs = record {
  stays = runs.stays;
  fed = λ sound. feeds_more e d u v xs old new le more (runs.fed sound);
  stranded = λ failed files told x holds. stranded_more e d u v xs old new x le more (runs.stranded failed files told x holds);
  full = runs.full;
  damaged = runs.damaged;
  cause = runs.cause;
}

-- or of damage at more places
pub runs_wider : {A : Type 0} (result : Result A Fault) (near wide : ℕ → ℕ → Type 0) (e : ℕ) (u : ℕ → ℕ) (xs : List Tuple) (old new : Moment) → ((f at : ℕ) → near f at → wide f at)
    → RunsSchedule result near e u xs old new → RunsSchedule result wide e u xs old new
runs_wider result near wide e u xs old new wider runs = record {
  stays = runs.stays;
  fed = runs.fed;
  stranded = runs.stranded;
  full = runs.full;
  damaged = λ f at is. elim (runs.damaged f at is) [ inl there ↦ inl (wider f at there) | inr here ↦ inr here ];
  cause = runs.cause;
}

-- the same answer of a call that would have given something else
pub runs_ok : {A B : Type 0} (result : Result A Fault) (a : A) (b : B) (elsewhere : ℕ → ℕ → Type 0) (e : ℕ) (u : ℕ → ℕ) (xs : List Tuple) (old new : Moment) → result ≡ Ok a
    → RunsSchedule result elsewhere e u xs old new → RunsSchedule {A = B} (Ok b) elsewhere e u xs old new
runs_ok {A = A} {B = B} result a b elsewhere e u xs old new is given =
    let runs : RunsSchedule {A = A} (Ok a) elsewhere e u xs old new = subst (λ (r : Result A Fault). RunsSchedule r elsewhere e u xs old new) is given in
    record {
      stays = runs.stays;
      fed = λ sound. runs.fed (λ is. let no : ⊥ = cc in absurd no);
      stranded = λ is. let no : ⊥ = cc in absurd no;
      full = λ n is. let no : ⊥ = cc in absurd no;
      damaged = λ f at is. let no : ⊥ = cc in absurd no;
      cause = record { later = runs.cause.later; rose = λ is. let no : ⊥ = cc in absurd no };
    }

pub runs_err : {A B : Type 0} (result : Result A Fault) (answered : Result B Fault) (fault : Fault) (elsewhere : ℕ → ℕ → Type 0) (e : ℕ) (u : ℕ → ℕ) (xs : List Tuple) (old new : Moment)
    → result ≡ Err fault → answered ≡ Err fault → RunsSchedule result elsewhere e u xs old new → RunsSchedule answered elsewhere e u xs old new
runs_err {A = A} {B = B} result answered fault elsewhere e u xs old new was is given =
    let runs : RunsSchedule {A = A} (Err fault) elsewhere e u xs old new = subst (λ (r : Result A Fault). RunsSchedule r elsewhere e u xs old new) was given in
    let same : RunsSchedule {A = B} (Err fault) elsewhere e u xs old new = record {
      stays = runs.stays;
      fed = λ sound. runs.fed (λ is. sound (same_refusal {T = A} {U = B} fault Failed is));
      stranded = λ is. runs.stranded (same_refusal {T = B} {U = A} fault Failed is);
      full = λ n is. runs.full n (same_refusal {T = B} {U = A} fault (Full n) is);
      damaged = λ f at is. runs.damaged f at (same_refusal {T = B} {U = A} fault (Damaged f at) is);
      cause = record { later = runs.cause.later; rose = λ is. runs.cause.rose (same_refusal {T = B} {U = A} fault Failed is) };
    } in
    subst (λ (r : Result B Fault). RunsSchedule r elsewhere e u xs old new) (sym is) same

-- some that weren't refused, and then others
pub runs_both : {A B : Type 0} (a : A) (result : Result B Fault) (elsewhere : ℕ → ℕ → Type 0) (e d : ℕ) (u v : ℕ → ℕ) (xs ys : List Tuple) (old mid new : Moment) → IsConsistent mid.store
    → RunsSchedule {A = A} (Ok a) elsewhere e u xs old mid → RunsSchedule result elsewhere d v ys mid new → RunsSchedule result elsewhere (e + d) (λ b. u b + v b) (xs ++ ys) old new
unfolding stranded_after
runs_both a result elsewhere e d u v xs ys old mid new consistent first second =
    let fed = first.fed (λ is. let no : ⊥ = cc in absurd no) in
    record {
      stays = stays_both old mid new consistent first.stays second.stays;
      fed = λ sound. feeds_both e d u v xs ys old mid new first.stays fed (second.fed sound);
      stranded = λ failed files told x holds.
          let one = fed files told x holds in
          let after = tells_on _ old.store.files mid.store.files files first.stays.others told in
          stranded_after e d u v xs ys old mid new x first.stays one (second.stranded failed after.0 after.1 one.book one.holds);
      full = λ n is.
          let why = second.full n is in
          let settings = first.stays.settings in (
            subst (λ (s : Settings). n < s.buckets) settings why.0,
            why.1,
            subst (λ (s : Settings). s.cap < durable_at new.drum n + length (new.waits n)) settings why.2,
          );
      damaged = λ f at is. elim (second.damaged f at is) [ inl there ↦ inl there | inr here ↦ inr (none_before e u xs old mid first.stays fed here.0, here.1) ];
      cause = record { later = omega (arith, first.cause.later, second.cause.later); rose = λ is. let r = second.cause.rose is in omega (arith, first.cause.later, r) };
    }

-- where neither makes a cut early or a record uneven
pub runs_evenly : {A B : Type 0} (a : A) (result : Result B Fault) (elsewhere : ℕ → ℕ → Type 0) (d : ℕ) (v : ℕ → ℕ) (xs ys : List Tuple) (old mid new : Moment) → IsConsistent mid.store
    → RunsSchedule {A = A} (Ok a) elsewhere 0 none_more xs old mid → RunsSchedule result elsewhere d v ys mid new → RunsSchedule result elsewhere d v (xs ++ ys) old new
runs_evenly a result elsewhere d v xs ys old mid new consistent first second =
    runs_more result elsewhere (0 + d) d (λ b. none_more b + v b) v (xs ++ ys) old new (omega arith) (λ b. omega arith)
    (runs_both a result elsewhere 0 d none_more v xs ys old mid new consistent first second)
