-- What parts of a crawl are refused for, whatever the files stand for: where its answer is a call's, so is its reason.
use Rattle.std.proofs.Common.{◌≡◌, ◌∙◌, inl, inr, ⊎_elim, ℕ, List, [], Some, Result, Ok, Err, IsErrOf, refl, sym, ap}
use Rattle.std.specs.Prelude.{IsOkUnless, ⊤}
use Rattle.irl_base.specs.declared.fault.Fault.{Fault}
use Rattle.irl_base.specs.declared.fault.Fault.TheVariants.{Damaged, Full, Memory}
use Rattle.irl_bay.specs.Drum.{IsDrum}
use Rattle.irl_disk.specs.Disk.{ChangesFile}
use Rattle.irl_disk.specs.Images.{Told}
use Rattle.irl_head.specs.StoreFiles.{crawl_file}
use Rattle.irl_offer.specs.Offering.{Entered}
use Rattle.irl_schedule.specs.Feeding.{moment}
use Rattle.irl_schedule.specs.Schedule.{none_more}
use Rattle.irl_schedule.specs.Scheduling.{Schedules}
use Rattle.irl_yard.specs.declared.parts.Parts.{Parts}
use Rattle.irl_yard.specs.Holding.{IsOpenRest}
use Rattle.irl_yard.specs.Passing.{PassesState}
use Rattle.irl_yard.specs.Sending.{HasBegun, IsSentFile, SendsPairs}
use Rattle.irl_bay.proofs.BatchWrites.{tells_only, tells_wide}
use Rattle.irl_desk.specs.Closing.{HandsBack}
use Rattle.irl_desk.specs.Serving.{Serving}
use Rattle.irl_crawl.proofs.Damage.{log_besides, sent_besides, urls_broken_then, urls_place}
use Rattle.irl_crawl.proofs.Lifting.{IsBehind}
use Rattle.irl_crawl.proofs.Looking.{calm_damaged}
use Rattle.irl_crawl.proofs.RecordsOfDesks.{no_waiting}
use Rattle.irl_crawl.specs.Dealing.{OnlyLooks}
use Rattle.irl_crawl.specs.Refusing.{RefusesAsFound}

-- ---- answers
-- each refusal is one of another answer
pub refused_as : {A B : Type 0} (first : Result A Fault) (second : Result B Fault) (now : Parts) (after : Told) → ((fault : Fault) → IsErrOf second fault → IsErrOf first fault)
    → RefusesAsFound first now after → RefusesAsFound second now after
refused_as first second now after back one = record { spoilt = λ f at is. one.spoilt f at (back (Damaged f at) is) }

-- one that is handed on
pub refused_on : {A B : Type 0} (first : Result A Fault) (second : Result B Fault) (fault : Fault) (now : Parts) (after : Told) → first ≡ Err fault → second ≡ Err fault
    → RefusesAsFound first now after → RefusesAsFound second now after
refused_on first second fault now after is out one =
    refused_as first second now after (λ other answered. let same : fault ≡ other = (let both = sym out ∙ answered in cc) in is ∙ ap (λ (f : Fault). Err f) same) one

-- Ok and want of memory need no reason,
pub refused_calm : {A : Type 0} (result : Result A Fault) (now : Parts) (after : Told) → IsOkUnless result Memory → RefusesAsFound result now after
refused_calm result now after calm = record { spoilt = λ f at is. absurd (calm_damaged result calm f at is) }

pub refused_ok : {A : Type 0} (value : A) (now : Parts) (after : Told) → RefusesAsFound (Ok value) now after
refused_ok value now after = refused_calm (Ok value) now after tt

pub refused_memory : {A : Type 0} (now : Parts) (after : Told) → RefusesAsFound {A = A} (Err Memory) now after
refused_memory now after = refused_calm (Err Memory) now after refl

-- nor does an answer that names nothing
pub refused_never : {A : Type 0} (result : Result A Fault) (now : Parts) (after : Told) → ((n : ℕ) → IsErrOf result (Full n) → ⊥) → ((f at : ℕ) → IsErrOf result (Damaged f at) → ⊥)
    → RefusesAsFound result now after
refused_never result now after full damaged = record { spoilt = λ f at is. absurd (damaged f at is) }

-- ---- calls of an open store
-- those that only look
pub refused_looks : {A : Type 0} (result : Result A Fault) (was now : Parts) (before after : Told) → OnlyLooks result was now before after → RefusesAsFound result now after
refused_looks result was now before after looks = record { spoilt = looks.spoilt }

-- a merge of what is left
pub refused_merge : (result : Result Unit Fault) (was now : Parts) (s t : Told) → Schedules result 1 none_more [] (moment s was.urls no_waiting) (moment t now.urls no_waiting)
    → RefusesAsFound result now t
refused_merge result was now s t schedules = record { spoilt = λ f at is files told. inl (inl (schedules.damaged f at is files told)) }

-- sending pairs
pub refused_sends : (result : Result Unit Fault) (was now : Parts) (s t : Told) → IsDrum was.urls → IsOpenRest was.urls was.rest s.files → HasBegun was.rest → SendsPairs result was now s t
    → RefusesAsFound result now t
refused_sends result was now s t law opened begun sends = record {
  spoilt = λ f at is. ⊎_elim
      (λ urls. urls_broken_then was now s t (IsSentFile was.urls.settings.buckets) (sent_besides was.urls law (urls_place was.urls was.rest s.files opened begun)) sends.others.told sends.urls
      f at urls)
      (λ pairs. λ files told. inr (inr (pairs.0, pairs.1, inl (pairs.2 files told))))
      (sends.spoilt f at is);
}

-- a pass
pub refused_passes : {S : Type 0} (tells : S → Told) (result : Result ℕ Fault) (was now : Parts) (before after : S) → IsDrum was.urls → IsOpenRest was.urls was.rest (tells before).files
    → HasBegun was.rest → PassesState tells result was now before after → RefusesAsFound result now (tells after)
refused_passes tells result was now before after law opened begun passes = record {
  spoilt = λ f at is.
      urls_broken_then was now (tells before) (tells after) (λ g. g ≡ crawl_file) (log_besides was.urls law (urls_place was.urls was.rest (tells before).files opened begun))
      (tells_only (λ g. g ≡ crawl_file) (tells before).files (tells after).files
      (tells_wide (ChangesFile crawl_file (λ _ _. ⊤)) _ (tells before).files (tells after).files (λ x y changes. changes.others) passes.others.told))
      passes.urls f at (passes.spoilt f at is);
}

-- ---- a desk that was closed
module _ {S A : Type 0} (told : S → Told) (entries : List Entered) (answer : Result A Fault) (closed : Result Unit Fault) (old new : Serving S) (hands : HandsBack told closed entries old new)
    (behind : IsBehind answer closed new.last) where
  last_is : (fault : Fault) → (fault ≡ Memory → ⊥) → IsErrOf answer fault → new.last ≡ Some fault
  last_is fault not is = ⊎_elim (λ memory. absurd (not memory)) (λ last. last) (behind.named fault is)

  pub refused_desk : RefusesAsFound answer new.parts (told new.store)
  refused_desk = record { spoilt = λ f at is files here. inl (inl (hands.enters.ground.damaged f at (last_is (Damaged f at) (λ same. cc) is) files here)) }
