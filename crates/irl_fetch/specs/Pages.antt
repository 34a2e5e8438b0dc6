-- The fetch of a page, and the offers of what it names.
use Rattle.std.specs.Prelude.{◌≡◌, ◌⊎◌, ℕ, List, [], ◌∷◌, ◌++◌, map, Result, OnOk, OnErr, IfOk, IfErr}
use Rattle.irl_base.specs.declared.fault.Fault.{Fault}
use Rattle.irl_key.specs.declared.web.Work.{Work}
use Rattle.irl_offer.specs.Offering.{Entered, fault_or}
use Rattle.irl_offer.specs.Tuple.{Tuple}
use Rattle.irl_offer.specs.declared.done.Done.{Done}
use Rattle.irl_offer.specs.declared.receipt.Receipt.{Receipt}
use Rattle.irl_offer.specs.declared.reply.Answer.{Answer}
use Rattle.irl_offer.specs.declared.reply.Want.TheVariants.{Page}
use Rattle.irl_record.specs.Widening.{Answers}
use Rattle.irl_answer.specs.Found.{offers_of}
use Rattle.irl_fetch.specs.Handling.{Fetched, done_of, missing, answers_of, receipts_of, IsGiven}
use Rattle.irl_fetch.specs.Telling.{Fetcher, Offering, GoesOn, Enters, MakesAtMost, RoseBy, given_since}

-- the last fault of the offers after an answer: want of memory is none
abbrev pub FaultIs : {O A : Type 0} → Result A Fault → Offering O → Offering O → Type 0
FaultIs result old new = OnOk result (new.last_fault ≡ old.last_fault)
    × IfErr result (λ fault. new.last_fault ≡ fault_or old.last_fault fault)

-- All of these were offered, in order, or the first of them up to one that was refused.
pub record OffersAll {O : Type 0} (result : Result (List Receipt) Fault) (offers : List Tuple)
    (old new : Offering O) : Type 0 where
  pub ok : IfOk result (λ receipts. (entered : List Entered) × (map (λ one. one.offer) entered ≡ offers)
      × (receipts ≡ receipts_of entered) × Enters entered old new)
  pub err : OnErr result ((entered : List Entered) × (more : List Tuple)
      × (map (λ one. one.offer) entered ++ more ≡ offers) × Enters entered old new)
  pub fault : FaultIs result old new

-- some of what an answer to this page names was entered, the first of it, or nothing
abbrev pub IsPart : Answers → List ℕ → List ℕ → List Entered → Type 0
IsPart gives suffixes url entered = (entered ≡ []) ⊎ ((answer : Answer) × gives url Page answer × (more : List Tuple)
    × (map (λ one. one.offer) entered ++ more ≡ offers_of suffixes url answer))

-- What the answer to a page names was offered, and what came of the page is put behind the others.
pub record Settles {O : Type 0} (result : Result Unit Fault) (suffixes : List ℕ) (work : Work) (answer : Answer)
    (old new : Offering O) (was now : List Done) : Type 0 where
  pub ok : OnOk result ((entered : List Entered)
      × (map (λ one. one.offer) entered ≡ offers_of suffixes work.web answer)
      × (now ≡ was ++ done_of (record { work = work; treated = Fetched answer entered }) ∷ [])
      × Enters entered old new)
  pub err : OnErr result ((entered : List Entered) × (more : List Tuple)
      × (map (λ one. one.offer) entered ++ more ≡ offers_of suffixes work.web answer) × Enters entered old new)
  pub fault : FaultIs result old new

-- The page was fetched, what its answer names was offered, and what came of it is put behind the others.
pub record FetchesPage {O : Type 0} (result : Result Unit Fault) (suffixes : List ℕ) (work : Work) (old new : Fetcher)
    (before after : Offering O) (was now : List Done) : Type 0 where
  pub ok : OnOk result ((answer : Answer) × (entered : List Entered)
      × IsGiven (given_since old new) suffixes work.web (Fetched answer entered)
      × (now ≡ was ++ done_of (record { work = work; treated = Fetched answer entered }) ∷ [])
      × Enters entered before after
      × RoseBy (missing (answers_of (record { work = work; treated = Fetched answer entered }))) old.faults new.faults)
  pub err : OnErr result ((entered : List Entered) × IsPart (given_since old new) suffixes work.web entered
      × Enters entered before after)
  pub fault : FaultIs result before after
  pub goes_on : GoesOn old new
  pub asked : MakesAtMost 1 old new
