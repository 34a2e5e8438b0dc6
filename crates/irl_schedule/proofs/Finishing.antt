-- How far the flushes of the end of an input have come.
use Rattle.std.proofs.Common.{◌≡◌, ◌≢◌, ◌∙◌, ⊎_elim, ℕ, ◌+◌, ◌-◌, ◌<◌, ◌≤◌, min, List, [], length, cond, Bool, Result, Ok, IsErrOf, refl, ap, arith}
use Rattle.std.proofs.lemmas.Bool.Decides.{eqb_tells}
use Rattle.irl_base.specs.declared.fault.Fault.{Fault}
use Rattle.irl_base.specs.declared.fault.Fault.TheVariants.{Full}
use Rattle.irl_offer.specs.Tuple.{Tuple}
use Rattle.irl_disk.specs.Images.{IsConsistent}
use Rattle.irl_bay.specs.Drum.{IsDrum, durable_at}
use Rattle.irl_schedule.specs.Feeding.{Moment, OnlyFlushes}
use Rattle.irl_schedule.specs.Schedule.{none_more, one_more, one_more_at}
use Rattle.irl_schedule.specs.Scheduling.{Schedules}
use Rattle.irl_schedule.proofs.Schedules.{answers_ok, schedules_more, schedules_none, schedules_then}

-- one record more in each bucket below this one
abbrev pub below : ℕ → ℕ → ℕ
below b c = min 1 (b - c)

-- what waits in front of the buckets below this one is flushed, and the others wait
pub record SoFar (b : ℕ) (old new : Moment) : Type 0 where
  pub schedules : Schedules {A = Unit {0}} (Ok tt) 0 (below b) [] old new
  pub last : new.drum.last ≡ old.drum.last
  pub cuts : new.drum.cuts ≡ old.drum.cuts
  pub before : (c : ℕ) → c < b → new.waits c ≡ []
  pub behind : (c : ℕ) → b ≤ c → (new.waits c ≡ old.waits c) × (durable_at new.drum c ≡ durable_at old.drum c)

below_one : (b c : ℕ) → below b c + one_more_at b c ≤ below (b + 1) c
below_one b c = ⊎_elim
    (λ same. let one : one_more_at b c ≡ 1 = ap (λ (t : Bool). cond t 1 0) same.0 in omega (arith, one, same.1))
    (λ other. let none : one_more_at b c ≡ 0 = ap (λ (t : Bool). cond t 1 0) other.0 in omega (arith, none))
    (eqb_tells c b)

below_all : (b c : ℕ) → below b c + one_more_at b c ≤ one_more c
below_all b c = omega (arith, below_one b c)

pub begins : (old : Moment) → IsConsistent old.store → IsDrum old.drum → SoFar 0 old old
begins old consistent law = record {
  schedules = schedules_more (Ok tt) 0 0 none_more (below 0) [] old old (omega arith) (λ c. omega arith) (schedules_none tt old consistent law);
  last = refl;
  cuts = refl;
  before = λ c within. absurd (omega (arith, within));
  behind = λ c le. (refl, refl);
}

-- one bucket more
pub goes_on : {A : Type 0} (b : ℕ) (result : Result A Fault) (a : A) (old mid new : Moment) → result ≡ Ok a → IsConsistent mid.store → SoFar b old mid → Schedules result 0 (one_more_at b) [] mid new
    → OnlyFlushes b mid.drum new.drum → new.waits b ≡ [] → ((c : ℕ) → c ≢ b → new.waits c ≡ mid.waits c) → SoFar (b + 1) old new
goes_on b result a old mid new is consistent far one counts emptied others = record {
  schedules = schedules_more (Ok tt) 0 0 (λ c. below b c + one_more_at b c) (below (b + 1)) [] old new (omega arith) (below_one b)
      (schedules_then tt (Ok tt) 0 0 (below b) (one_more_at b) [] [] old mid new consistent far.last far.cuts far.schedules (answers_ok result a tt 0 (one_more_at b) [] mid new is one));
  last = counts.last ∙ far.last;
  cuts = counts.cuts ∙ far.cuts;
  before = λ c within. ⊎_elim (λ same. ap (λ (n : ℕ). new.waits n) same.1 ∙ emptied) (λ other. others c other.1 ∙ far.before c (omega (arith, within, other.1))) (eqb_tells c b);
  behind = λ c le.
      let differs : c ≢ b = omega (arith, le) in
      let was = far.behind c (omega (arith, le)) in
      (others c differs ∙ was.0, counts.others c differs ∙ was.1);
}

-- where it is refused
pub ends : {A : Type 0} (b : ℕ) (result : Result A Fault) (old mid new : Moment) → IsConsistent mid.store → SoFar b old mid → Schedules result 0 (one_more_at b) [] mid new
    → Schedules result 0 one_more [] old new
ends b result old mid new consistent far one =
    schedules_more result 0 0 (λ c. below b c + one_more_at b c) one_more [] old new (omega arith) (below_all b)
    (schedules_then tt result 0 0 (below b) (one_more_at b) [] [] old mid new consistent far.last far.cuts far.schedules one)

-- and at the end
pub all_flushed : (b : ℕ) (old new : Moment) → SoFar b old new → Schedules {A = Unit {0}} (Ok tt) 0 one_more [] old new
all_flushed b old new far = schedules_more (Ok tt) 0 0 (below b) one_more [] old new (omega arith) (λ c. omega arith) far.schedules

-- where offers wait in front of one bucket alone, `Full` names it
pub full_names : {A : Type 0} (b : ℕ) (result : Result A Fault) (e : ℕ) (u : ℕ → ℕ) (news : List Tuple) (old new : Moment) → ((c : ℕ) → c ≢ b → new.waits c ≡ []) → Schedules result e u news old new
    → (n : ℕ) → IsErrOf result (Full n) → n ≡ b
full_names b result e u news old new none one n is = ⊎_elim
    (λ same. same.1)
    (λ other. let why = one.full n is in let empty = ap (λ (l : List Tuple). length l) (none n other.1) in absurd (omega (arith, why.1, empty)))
    (eqb_tells n b)
