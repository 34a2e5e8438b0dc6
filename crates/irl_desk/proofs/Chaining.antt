-- Steps of the schedule, one after another.
use Rattle.std.proofs.Common.{◌≡◌, ◌∙◌, ⊎_elim, ℕ, ◌+◌, ◌<◌, ◌≤◌, List, [], ◌++◌, length, Result, Ok, Err, OnErr, IsErrOf, refl, sym, ap, subst, arith}
use Rattle.irl_base.specs.declared.fault.Fault.{Fault}
use Rattle.irl_base.specs.declared.fault.Fault.TheVariants.{Damaged, Failed, Full}
use Rattle.irl_offer.specs.declared.settings.Settings.{Settings}
use Rattle.irl_offer.specs.Tuple.{Tuple}
use Rattle.irl_array.specs.Waiting.{Waiting}
use Rattle.irl_disk.specs.Images.{IsConsistent}
use Rattle.irl_bay.specs.Drum.{IsDrum, durable_at}
use Rattle.irl_schedule.specs.Arrays.{AreArrays, waiting_at}
use Rattle.irl_schedule.specs.Feeding.{Moment, Moves, Stays, Feeds}
use Rattle.irl_schedule.specs.Schedule.{none_more}
use Rattle.irl_schedule.specs.Scheduling.{Schedules}
use Rattle.irl_schedule.proofs.Chains.{feeds_both, none_before, stays_both, stranded_after, tells_on}
use Rattle.irl_schedule.proofs.Schedules.{schedules_none}
use Rattle.irl_schedule.proofs.Outcomes.{err_gives}
use Rattle.irl_intake.specs.Advancing.{StopsAt}
use Rattle.irl_intake.specs.declared.next.Next.{Next}
use Rattle.irl_intake.specs.declared.next.Next.TheVariants.{Merged, Ready}
use Rattle.irl_intake.proofs.Steps.{same_answer}
use Rattle.irl_desk.specs.Stepping.{Breaks, HasGround, Steps, handed_at}

-- no more offers of a bucket wait than an array has room for
abbrev pub FewWait : Moment → Type 0
FewWait now = (b : ℕ) → b < now.drum.settings.buckets → length (now.waits b) ≤ now.drum.settings.array

pub few_wait : (now : Moment) (arrays : List Waiting) → AreArrays now.drum.settings arrays → ((b : ℕ) → now.waits b ≡ waiting_at arrays b) → FewWait now
few_wait now arrays are same = λ b within. omega (arith, (are.each b within).few, ap (λ (l : List Tuple). length l) (same b))

-- ---- one step
moves_count : (old new : Moment) (b : ℕ) → Moves old new b → handed_at new b ≡ handed_at old b
moves_count old new b moves = ⊎_elim
    (λ same. omega (arith, same.1, ap (λ (l : List Tuple). length l) same.0))
    (λ moved. omega (arith, moved.1, ap (λ (l : List Tuple). length l) moved.0))
    moves

ground_of : {A : Type 0} (result : Result A Fault) (u : ℕ → ℕ) (old new : Moment) → FewWait new → Schedules result 0 u [] old new → HasGround (IsErrOf result) old new
ground_of {A} result u old new few one = record {
  full = λ n is.
      let why = subst (λ (s : Settings). (n < s.buckets) × (1 ≤ length (new.waits n)) × (s.cap < durable_at new.drum n + length (new.waits n))) (sym one.stays.settings) (one.full n is) in
      (why.0, why.1, few n why.0, why.2);
  damaged = one.damaged;
  whole = one.whole;
  cause = one.cause;
}

pub steps_one : {A : Type 0} (result : Result A Fault) (u : ℕ → ℕ) (old new : Moment) → FewWait new → Schedules result 0 u [] old new → Steps result u old new
steps_one {A} result u old new few one = record {
  stays = one.stays;
  fed = one.fed;
  stranded = λ failed files told x holds. (one.stranded failed files told x holds).0;
  counts = λ b. moves_count old new b (one.moves b);
  ground = ground_of result u old new few one;
}

-- nothing was done
pub steps_none : {A : Type 0} (a : A) (now : Moment) → IsConsistent now.store → IsDrum now.drum → FewWait now → Steps (Ok a) none_more now now
steps_none {A} a now law drum few = steps_one (Ok a) none_more now now few (schedules_none a now law drum)

-- ---- one after another
no_more : (n : ℕ) → 0 + n ≡ n
no_more n = omega arith

pub none_and : (u : ℕ → ℕ) → (λ (b : ℕ). none_more b + u b) ≡ u
none_and u = λ i b. no_more (u b) i

pub breaks_after : (u v : ℕ → ℕ) (xs ys : List Tuple) (old mid new : Moment) → Stays old mid → Feeds 0 u xs old mid → Breaks v ys mid new → Breaks (λ b. u b + v b) (xs ++ ys) old new
breaks_after u v xs ys old mid new still fed second = λ files told x holds.
    let one = fed files told x holds in
    let after = tells_on _ old.store.files mid.store.files files still.others told in
    stranded_after 0 0 u v xs ys old mid new x still one (second after.0 after.1 one.book one.holds)

pub ground_then : (answered : Fault → Type 0) (u : ℕ → ℕ) (xs : List Tuple) (old mid new : Moment) → Stays old mid → Feeds 0 u xs old mid → old.store.faults ≤ mid.store.faults
    → HasGround answered mid new → HasGround answered old new
ground_then answered u xs old mid new still fed faults second = record {
  full = second.full;
  damaged = second.damaged;
  whole = λ f at is. none_before 0 u xs old mid still fed (second.whole f at is);
  cause = record { later = omega (arith, faults, second.cause.later); rose = λ is. let r = second.cause.rose is in omega (arith, faults, r) };
}

pub steps_then : {A B : Type 0} (a : A) (result : Result B Fault) (u : ℕ → ℕ) (old mid new : Moment) → IsConsistent mid.store → Steps {A = A} (Ok a) none_more old mid
    → Steps {A = B} result u mid new → Steps {A = B} result u old new
steps_then {A = A} {B = B} a result u old mid new law first second =
    let fed = first.fed (λ is. let no : ⊥ = cc in absurd no) in
    record {
      stays = stays_both old mid new law first.stays second.stays;
      fed = λ fine. subst (λ (v : ℕ → ℕ). Feeds 0 v [] old new) (none_and u) (feeds_both 0 0 none_more u [] [] old mid new first.stays fed (second.fed fine));
      stranded = λ failed. subst (λ (v : ℕ → ℕ). Breaks v [] old new) (none_and u) (breaks_after none_more u [] [] old mid new first.stays fed (second.stranded failed));
      counts = λ b. second.counts b ∙ first.counts b;
      ground = ground_then (IsErrOf result) none_more [] old mid new first.stays fed first.ground.cause.later second.ground;
    }

-- ---- another answer
-- something else is given
pub steps_ok : {A B : Type 0} (a : A) (b : B) (u : ℕ → ℕ) (old new : Moment) → Steps {A = A} (Ok a) u old new → Steps {A = B} (Ok b) u old new
steps_ok {A = A} {B = B} a b u old new one = record {
  stays = one.stays;
  fed = λ fine. one.fed (λ is. let no : ⊥ = cc in absurd no);
  stranded = λ is. let no : ⊥ = cc in absurd no;
  counts = one.counts;
  ground = record {
    full = λ n is. let no : ⊥ = cc in absurd no;
    damaged = λ f at is. let no : ⊥ = cc in absurd no;
    whole = λ f at is. let no : ⊥ = cc in absurd no;
    cause = record { later = one.ground.cause.later; rose = λ is. let no : ⊥ = cc in absurd no };
  };
}

-- a refusal is handed on
pub steps_err : {A B : Type 0} (result : Result A Fault) (answered : Result B Fault) (fault : Fault) (u : ℕ → ℕ) (old new : Moment) → result ≡ Err fault → answered ≡ Err fault
    → Steps result u old new → Steps answered u old new
steps_err {A = A} {B = B} result answered fault u old new was is one = record {
  stays = one.stays;
  fed = λ fine. one.fed (λ named. fine (same_answer {A = B} {B = A} answered result fault Failed is was named));
  stranded = λ named. one.stranded (same_answer result answered fault Failed was is named);
  counts = one.counts;
  ground = record {
    full = λ n named. one.ground.full n (same_answer result answered fault (Full n) was is named);
    damaged = λ f at named. one.ground.damaged f at (same_answer result answered fault (Damaged f at) was is named);
    whole = λ f at named. one.ground.whole f at (same_answer result answered fault (Damaged f at) was is named);
    cause = record { later = one.ground.cause.later; rose = λ named. one.ground.cause.rose (same_answer result answered fault Failed was is named) };
  };
}

-- a bucket has no number left
full_err : {A B : Type 0} (a : A) (fault : Fault) (b : ℕ) (u : ℕ → ℕ) (old new : Moment) → Steps {A = A} (Ok a) u old new → b < new.drum.settings.buckets → FewWait new → fault ≡ Full b
    → 1 ≤ length (new.waits b) → new.drum.settings.cap < handed_at new b → Steps {A = B} (Err fault) u old new
full_err {A = A} {B = B} a fault b u old new one within few is some passes = record {
  stays = one.stays;
  fed = λ fine. one.fed (λ not. let no : ⊥ = cc in absurd no);
  stranded = λ failed. let no : ⊥ = cc in absurd no;
  counts = one.counts;
  ground = record {
    full = λ n named.
        let same : b ≡ n = cc in
        subst (λ (m : ℕ). (m < new.drum.settings.buckets) × (1 ≤ length (new.waits m)) × (length (new.waits m) ≤ new.drum.settings.array) × (new.drum.settings.cap < handed_at new m)) same
        (within, some, few b within, passes);
    damaged = λ f at named. let no : ⊥ = cc in absurd no;
    whole = λ f at named. let no : ⊥ = cc in absurd no;
    cause = record { later = one.ground.cause.later; rose = λ failed. let no : ⊥ = cc in absurd no };
  };
}

pub steps_number : {A B : Type 0} (a : A) (result : Result B Fault) (b : ℕ) (u : ℕ → ℕ) (old new : Moment) → Steps {A = A} (Ok a) u old new → b < new.drum.settings.buckets → FewWait new
    → OnErr result ((result ≡ Err (Full b)) × (1 ≤ length (new.waits b)) × (new.drum.settings.cap < handed_at new b)) → Steps {A = B} result u old new
steps_number {A = A} {B = B} a (Ok given) b u old new one within few why = steps_ok {A = A} {B = B} a given u old new one
steps_number {A = A} {B = B} a (Err fault) b u old new one within few why =
    let same : fault ≡ Full b = cc in
    full_err {A = A} {B = B} a fault b u old new one within few same why.1 why.2

-- ---- a flush of all that waits
pub next_merged : (next : Next) → (next ≡ Ready → ⊥) → next ≡ Merged
next_merged Merged not = refl
next_merged Ready not = absurd (not refl)

-- merges ran before it, and all waited as it did
pub ordered_on : {A B : Type 0} (result : Result A Fault) (answered : Result B Fault) (fault : Fault) (old mid new : Moment) → result ≡ Err fault → answered ≡ Err fault
    → mid.drum.settings ≡ old.drum.settings → ((b : ℕ) → mid.waits b ≡ old.waits b)
    → OnErr result ((n : ℕ) × StopsAt n mid new × ((m : ℕ) → IsErrOf result (Full m) → m ≡ n))
    → OnErr answered ((n : ℕ) × StopsAt n old new × ((m : ℕ) → IsErrOf answered (Full m) → m ≡ n))
ordered_on {A = A} {B = B} result answered fault old mid new was is settings waits ordered =
    let why = err_gives result fault ordered was in
    let stops : StopsAt why.0 old new = record {
      within = subst (λ (s : Settings). why.0 ≤ s.buckets) settings why.1.within;
      before = why.1.before;
      behind = λ c le. why.1.behind c le ∙ waits c;
    } in
    subst (λ (r : Result B Fault). OnErr r ((n : ℕ) × StopsAt n old new × ((m : ℕ) → IsErrOf answered (Full m) → m ≡ n))) (sym is)
    (why.0, stops, λ m named. why.2 m (same_answer result answered fault (Full m) was is named))
