-- What turns, and a whole run, add to the cuts and to the records, where a crawl has begun.
use Rattle.std.proofs.Common.{◌≡◌, ◌∙◌, ℕ, ◌+◌, Result, Ok, Err, IsErrOf, sym, ap, subst, arith}
use Rattle.irl_base.specs.declared.fault.Fault.{Fault as FaultValue}
use Rattle.irl_base.specs.declared.fault.Fault.TheVariants.{Failed}
use Rattle.irl_disk.specs.Images.{IsConsistent, Told}
use Rattle.irl_bay.specs.Drum.{IsDrum}
use Rattle.irl_yard.specs.declared.parts.Parts.{Parts}
use Rattle.irl_yard.specs.Holding.{IsOpenRest}
use Rattle.irl_yard.specs.Sending.{HasBegun}
use Rattle.irl_crawl.proofs.Records.{crawl_of}
use Rattle.irl_crawl.proofs.RecordsJudged.{just_besides, no_batch, none_besides, ok_or_failed}
use Rattle.irl_crawl.proofs.RecordsOfLog.{looks_batch}
use Rattle.irl_crawl.proofs.RecordsThen.{AreWithin, HoldsOn, IsWithin, batches_more, batches_then, same_within}
use Rattle.irl_crawl.specs.Batches.{Batches, Spare, Turned, a_desk_unless, besides, judged_in, just, turns_since}
use Rattle.irl_crawl.specs.Dealing.{OnlyLooks}
use Rattle.irl_crawl.specs.declared.plan.Ended.TheVariants.{Fault}

-- ---- a turn
-- a load only looks
pub load_batch : {A : Type 0} (result : Result A FaultValue) (failed : Type 0) (was now : Parts) (s t : Told) → OnlyLooks result was now s t → IsOpenRest was.urls was.rest s.files
    → IsOpenRest now.urls now.rest t.files → IsDrum was.urls → IsConsistent t → HasBegun was.rest → Batches failed (just 0 0) (just 0 0) was now s t
load_batch result failed was now s t looks opened opened_now law consistent begun =
    looks_batch failed was now s t opened opened_now law consistent (crawl_of was.rest begun) (crawl_of now.rest (subst HasBegun (sym looks.rest) begun)) looks.urls looks.stops looks.files looks.holds

-- and what follows it adds what it does alone
pub loaded_batch : (first failed : Type 0) (kept left : ℕ → Spare) (was mid now : Parts) (s t u : Told) → (first → ⊥) → ((m n : ℕ) → IsWithin (kept n) (kept (m + n)))
    → ((m n : ℕ) → IsWithin (left n) (left (m + n))) → AreWithin (just 0 0) left → HoldsOn first was mid s t → Batches first (just 0 0) (just 0 0) was mid s t → Batches failed kept left mid now t u
    → Batches failed kept left was now s u
loaded_batch first failed kept left was mid now s t u sound rising rising_left within on one two =
    batches_then first failed (just 0 0) (just 0 0) kept left kept left was mid now s t u on sound one two within
    (λ files told x y held between n. let more = rising_left (turns_since x y) n in (omega (arith, more.0), omega (arith, more.1), omega (arith, more.2)))
    (λ files told x y z held between last. let more = rising (turns_since x y) (turns_since y z) in (omega (arith, more.0), omega (arith, more.1), omega (arith, more.2)))

pub just_rising : (desks judges m n : ℕ) → IsWithin (just desks judges n) (just desks judges (m + n))
just_rising desks judges m n = (omega arith, omega arith, omega arith)

pub besides_rising : (desks judges m n : ℕ) → IsWithin (besides desks judges n) (besides desks judges (m + n))
besides_rising desks judges m n = (omega arith, omega arith, omega arith)

pub unless_rising : {A : Type 0} (result : Result A FaultValue) (m n : ℕ) → IsWithin (a_desk_unless result n) (a_desk_unless result (m + n))
unless_rising (Ok value) m n = besides_rising 0 0 m n
unless_rising (Err fault) m n = besides_rising 1 0 m n

pub none_unless : {A : Type 0} (result : Result A FaultValue) → AreWithin (just 0 0) (a_desk_unless result)
none_unless (Ok value) = none_besides 0 0
none_unless (Err fault) = none_besides 1 0

-- The turn that is settled pays for the desk.
pub turn_batch : {A : Type 0} (first : Type 0) (result : Result A FaultValue) (was mid now : Parts) (s t u : Told) → (first → ⊥) → HoldsOn first was mid s t
    → Batches first (just 1 0) (just 1 0) was mid s t
    → Batches (IsErrOf result Failed) judged_in judged_in mid now t u → Turned result mid now t u → Batches (IsErrOf result Failed) (a_desk_unless result) (besides 1 0) was now s u
turn_batch first (Ok value) was mid now s t u sound on one two turned =
    batches_then first (IsErrOf (Ok value) Failed) (just 1 0) (just 1 0) judged_in judged_in (besides 0 0) (besides 1 0) was mid now s t u on sound one two (just_besides 1 0)
    (λ files told x y held between n. (omega arith, omega arith, omega arith))
    (λ files told x y z held between last. let turn = turned files told y z between last in (omega (arith, turn), omega arith, omega arith))
turn_batch first (Err fault) was mid now s t u sound on one two turned =
    batches_then first (IsErrOf (Err fault) Failed) (just 1 0) (just 1 0) judged_in judged_in (besides 1 0) (besides 1 0) was mid now s t u on sound one two (just_besides 1 0)
    (λ files told x y held between n. (omega arith, omega arith, omega arith))
    (λ files told x y z held between last. (omega arith, omega arith, omega arith))

-- ---- a run
-- a fault that ends it is a failure where it was one
pub ended_failed : {A : Type 0} (result : Result A FaultValue) (fault : FaultValue) → result ≡ Err fault → IsErrOf result Failed → Fault fault ≡ Fault Failed
ended_failed result fault is failed = let same : fault ≡ Failed = (let both = sym is ∙ failed in cc) in ap (λ (f : FaultValue). Fault f) same

-- so far, and one step more that wasn't refused, or was
pub step_batch : {A : Type 0} (result : Result A FaultValue) (value : A) (was mid now : Parts) (s t u : Told) → result ≡ Ok value → HoldsOn ⊥ was mid s t
    → Batches ⊥ (besides 0 0) (besides 1 0) was mid s t
    → Batches (IsErrOf result Failed) (a_desk_unless result) (besides 1 0) mid now t u → Batches ⊥ (besides 0 0) (besides 1 0) was now s u
step_batch (Err fault) value was mid now s t u is on one two = absurd (cc)
step_batch (Ok other) value was mid now s t u is on one two =
    batches_then ⊥ ⊥ (besides 0 0) (besides 1 0) (besides 0 0) (besides 1 0) (besides 0 0) (besides 1 0) was mid now s t u on (λ no. no) one
    (batches_more (IsErrOf (Ok other) Failed) ⊥ (besides 0 0) (besides 1 0) (besides 0 0) (besides 1 0) mid now t u (λ failed. cc) (same_within (besides 0 0)) (same_within (besides 1 0)) two)
    (same_within (besides 1 0))
    (λ files told x y held between n. (omega arith, omega arith, omega arith)) (λ files told x y z held between last. (omega arith, omega arith, omega arith))

pub stopped_batch : {A : Type 0} (result : Result A FaultValue) (fault : FaultValue) (was mid now : Parts) (s t u : Told) → result ≡ Err fault → HoldsOn ⊥ was mid s t
    → Batches ⊥ (besides 0 0) (besides 1 0) was mid s t
    → Batches (IsErrOf result Failed) (a_desk_unless result) (besides 1 0) mid now t u → Batches (Fault fault ≡ Fault Failed) (besides 1 0) (besides 1 0) was now s u
stopped_batch (Ok value) fault was mid now s t u is on one two = absurd (cc)
stopped_batch (Err other) fault was mid now s t u is on one two =
    batches_then ⊥ (Fault fault ≡ Fault Failed) (besides 0 0) (besides 1 0) (besides 1 0) (besides 1 0) (besides 1 0) (besides 1 0) was mid now s t u on (λ no. no) one
    (batches_more (IsErrOf (Err other) Failed) (Fault fault ≡ Fault Failed) (besides 1 0) (besides 1 0) (besides 1 0) (besides 1 0) mid now t u (ended_failed (Err other) fault is)
    (same_within (besides 1 0)) (same_within (besides 1 0)) two)
    (same_within (besides 1 0))
    (λ files told x y held between n. (omega arith, omega arith, omega arith)) (λ files told x y z held between last. (omega arith, omega arith, omega arith))

-- it ends as it is
pub ended_batch : (ended : Type 0) (was now : Parts) (s t : Told) → Batches ⊥ (besides 0 0) (besides 1 0) was now s t → Batches ended (besides 1 0) (besides 1 0) was now s t
ended_batch ended was now s t far =
    batches_more ⊥ ended (besides 0 0) (besides 1 0) (besides 1 0) (besides 1 0) was now s t (λ no. absurd no) (λ n. (omega arith, omega arith, omega arith)) (same_within (besides 1 0)) far

-- the first moment
pub first_batch : (parts : Parts) (now : Told) → IsOpenRest parts.urls parts.rest now.files → IsDrum parts.urls → IsConsistent now → HasBegun parts.rest
    → Batches ⊥ (besides 0 0) (besides 1 0) parts parts now now
first_batch parts now opened law consistent begun =
    batches_more ⊥ ⊥ (just 0 0) (just 0 0) (besides 0 0) (besides 1 0) parts parts now now (λ no. no) (none_besides 0 0) (none_besides 1 0) (no_batch ⊥ parts now opened law consistent begun)

-- ---- a crawl
-- the seeds alone
pub seeds_alone : {A : Type 0} (result : Result A FaultValue) (ended : Type 0) (was now : Parts) (s t : Told) → (IsErrOf result Failed → ended)
    → Batches (IsErrOf result Failed) (just 1 1) (just 1 1) was now s t → Batches ended (besides 2 1) (besides 2 1) was now s t
seeds_alone result ended was now s t failed seeds =
    batches_more (IsErrOf result Failed) ended (just 1 1) (just 1 1) (besides 2 1) (besides 2 1) was now s t failed (λ n. (omega arith, omega arith, omega arith))
    (λ n. (omega arith, omega arith, omega arith)) seeds

-- and then a run
pub crawl_batch : {A : Type 0} (result : Result A FaultValue) (value : A) (ended : Type 0) (was mid now : Parts) (s t u : Told) → result ≡ Ok value → HoldsOn (IsErrOf result Failed) was mid s t
    → Batches (IsErrOf result Failed) (just 1 1) (just 1 1) was mid s t → Batches ended (besides 1 0) (besides 1 0) mid now t u → Batches ended (besides 2 1) (besides 2 1) was now s u
crawl_batch result value ended was mid now s t u is on one two =
    batches_then (IsErrOf result Failed) ended (just 1 1) (just 1 1) (besides 1 0) (besides 1 0) (besides 2 1) (besides 2 1) was mid now s t u on (ok_or_failed result value is) one two
    (λ n. (omega arith, omega arith, omega arith))
    (λ files told x y held between n. (omega arith, omega arith, omega arith)) (λ files told x y z held between last. (omega arith, omega arith, omega arith))
