-- What judging, and settling, add to the cuts and to the records, where a crawl has begun.
use Rattle.std.proofs.Common.{◌≡◌, ◌∙◌, ℕ, ◌+◌, ◌≤◌, List, [], ◌∷◌, true, Option, None, Some, Result, Ok, Err, IsErrOf, refl, sym, ap, subst, arith}
use Rattle.std.specs.Prelude.{is_some}
use Rattle.irl_base.specs.declared.fault.Fault.{Fault}
use Rattle.irl_base.specs.declared.fault.Fault.TheVariants.{Failed}
use Rattle.irl_disk.specs.Disk.{Files}
use Rattle.irl_disk.specs.Images.{IsConsistent, Told}
use Rattle.irl_disk.proofs.Stretches.{stays}
use Rattle.irl_bay.specs.Drum.{Drum, IsDrum}
use Rattle.irl_events.specs.Events.{Event}
use Rattle.irl_events.specs.State.{State}
use Rattle.irl_ledger.specs.declared.ledger.Ledger.{Ledger}
use Rattle.irl_offer.specs.declared.settings.Kind.TheVariants.{Crawl as CrawlKind}
use Rattle.irl_yard.specs.declared.parts.Parts.{Parts}
use Rattle.irl_yard.specs.declared.parts.Rest.{Rest}
use Rattle.irl_yard.specs.declared.parts.Rest.TheVariants.{Plain, Crawl}
use Rattle.irl_yard.specs.Adding.{with_event}
use Rattle.irl_yard.specs.Holding.{HasLedger, HoldsState, IsOpenRest}
use Rattle.irl_yard.specs.Passing.{suffixes_in}
use Rattle.irl_yard.specs.Sending.{HasBegun}
use Rattle.irl_yard.proofs.States.{state_both}
use Rattle.irl_crawl.proofs.Records.{crawl_of, fronts_made, held_one, kind_open, turns_by, turns_then}
use Rattle.irl_crawl.proofs.RecordsOfLog.{looks_batch}
use Rattle.irl_crawl.proofs.RecordsThen.{AreWithin, HoldsOn, a_merge, a_sending, batches_more, batches_then}
use Rattle.irl_crawl.specs.Batches.{Batches, Spare, besides, judged_in, just, turns_since}
use Rattle.irl_crawl.specs.Turning.{turns_of}

-- ---- answers
-- a refusal that is handed on is a failure where it was one
pub failed_on : {A B : Type 0} (first : Result A Fault) (second : Result B Fault) (fault : Fault) → first ≡ Err fault → second ≡ Err fault → IsErrOf first Failed → IsErrOf second Failed
failed_on first second fault is out failed = let same : fault ≡ Failed = (let both = sym is ∙ failed in cc) in out ∙ ap (λ (f : Fault). Err f) same

pub ok_or_failed : {A : Type 0} (result : Result A Fault) (value : A) → result ≡ Ok value → IsErrOf result Failed → ⊥
ok_or_failed result value is failed = let both = sym is ∙ failed in cc

-- ---- what is to spare
pub merge_within : AreWithin a_merge (just 0 1)
merge_within n = (omega arith, omega arith, omega arith)

pub none_within : (desks judges : ℕ) → AreWithin (just 0 0) (just desks judges)
none_within desks judges n = (omega arith, omega arith, omega arith)

pub none_besides : (desks judges : ℕ) → AreWithin (just 0 0) (besides desks judges)
none_besides desks judges n = (omega arith, omega arith, omega arith)

pub none_judged : AreWithin (just 0 0) judged_in
none_judged n = (omega arith, omega arith, omega arith)

pub just_besides : (desks judges : ℕ) → AreWithin (just desks judges) (besides desks judges)
just_besides desks judges n = (omega arith, omega arith, omega arith)

pub desk_within : AreWithin (just 1 0) (just 1 1)
desk_within n = (omega arith, omega arith, omega arith)

-- ---- nothing was done
pub same_batch : (failed : Type 0) (parts : Parts) (now : Told) → IsOpenRest parts.urls parts.rest now.files → IsDrum parts.urls → IsConsistent now → HasLedger parts.rest
    → Batches failed (just 0 0) (just 0 0) parts parts now now
same_batch failed parts now opened law consistent crawl =
    looks_batch failed parts parts now now opened opened law consistent crawl crawl refl (stays now now.images consistent (λ image left. left)) refl (λ x held. held)

-- where it has begun
pub no_batch : (failed : Type 0) (parts : Parts) (now : Told) → IsOpenRest parts.urls parts.rest now.files → IsDrum parts.urls → IsConsistent now → HasBegun parts.rest
    → Batches failed (just 0 0) (just 0 0) parts parts now now
no_batch failed parts now opened law consistent begun = same_batch failed parts now opened law consistent (crawl_of parts.rest begun)

-- from the store that a desk was opened before
pub batch_from : {S : Type 0} (told : S → Told) (failed : Type 0) (kept left : ℕ → Spare) (opened store : S) (old parts now : Parts) (t : Told) → opened ≡ store → old ≡ parts
    → Batches failed kept left old now (told opened) t → Batches failed kept left parts now (told store) t
batch_from {S} told failed kept left opened store old parts now t same_store same_parts one =
    subst (λ (p : Parts). Batches failed kept left p now (told store) t) same_parts (subst (λ (x : S). Batches failed kept left old now (told x) t) same_store one)

-- where the same store comes back
pub back_batch : {S : Type 0} (told : S → Told) (failed : Type 0) (desks judges : ℕ) (store back : S) (parts last : Parts) → store ≡ back → parts ≡ last
    → IsOpenRest parts.urls parts.rest (told store).files → IsDrum parts.urls → IsConsistent (told store) → HasBegun parts.rest
    → Batches failed (just desks judges) (just desks judges) parts last (told store) (told back)
back_batch {S} told failed desks judges store back parts last same_store same_parts opened law consistent begun =
    let none = batches_more failed failed (just 0 0) (just 0 0) (just desks judges) (just desks judges) parts parts (told store) (told store) (λ is. is) (none_within desks judges)
    (none_within desks judges) (no_batch failed parts (told store) opened law consistent begun) in
    subst (λ (p : Parts). Batches failed (just desks judges) (just desks judges) parts p (told store) (told back)) same_parts
    (subst (λ (x : S). Batches failed (just desks judges) (just desks judges) parts parts (told store) (told x)) same_store none)

-- ---- judging
-- a merge, and then sending pairs
pub judge_batch : (merge sent : Result Unit Fault) (value : Unit) (was mid now : Parts) (s t u : Told) → merge ≡ Ok value → HoldsOn (IsErrOf merge Failed) was mid s t
    → Batches (IsErrOf merge Failed) a_merge a_merge was mid s t → Batches (IsErrOf sent Failed) a_sending a_sending mid now t u → Batches (IsErrOf sent Failed) (just 0 1) (just 0 1) was now s u
judge_batch merge sent value was mid now s t u is on one two =
    batches_then (IsErrOf merge Failed) (IsErrOf sent Failed) a_merge a_merge a_sending a_sending (just 0 1) (just 0 1) was mid now s t u on (ok_or_failed merge value is) one two merge_within
    (λ files told x y held between n. (omega arith, omega arith, omega arith)) (λ files told x y z held between last. (omega arith, omega arith, omega arith))

-- seeds that were offered, and then judging
pub seed_batch : (closed judged : Result Unit Fault) (value : Unit) (was mid now : Parts) (s t u : Told) → closed ≡ Ok value → HoldsOn (IsErrOf closed Failed) was mid s t
    → Batches (IsErrOf closed Failed) (just 1 0) (just 1 0) was mid s t → Batches (IsErrOf judged Failed) (just 0 1) (just 0 1) mid now t u
    → Batches (IsErrOf judged Failed) (just 1 1) (just 1 1) was now s u
seed_batch closed judged value was mid now s t u is on one two =
    batches_then (IsErrOf closed Failed) (IsErrOf judged Failed) (just 1 0) (just 1 0) (just 0 1) (just 0 1) (just 1 1) (just 1 1) was mid now s t u on (ok_or_failed closed value is) one two
    (λ n. (omega arith, omega arith, omega arith))
    (λ files told x y held between n. (omega arith, omega arith, omega arith)) (λ files told x y z held between last. (omega arith, omega arith, omega arith))

-- ---- what has begun
some_suffixes : (suffixes : Option (List ℕ)) → is_some suffixes ≡ true → (text : List ℕ) × (suffixes ≡ Some text)
some_suffixes None is = absurd (cc)
some_suffixes (Some text) is = (text, refl)

-- a crawl that has begun has its suffixes
pub suffixes_there : (parts : Parts) (told : Option Files) → IsOpenRest parts.urls parts.rest told → HasBegun parts.rest → (text : List ℕ) × (suffixes_in parts.rest ≡ Some text)
suffixes_there parts told opened begun =
    let crawl = crawl_of parts.rest begun in
    let kept = (opened.1 crawl.0 crawl.1).1 in
    let is : crawl.0.frontier.progress.begun ≡ true = subst HasBegun crawl.1 begun in
    let some = some_suffixes crawl.0.suffixes (sym kept.begun ∙ is) in
    (some.0, ap suffixes_in crawl.1 ∙ some.1)

crawl_still : (urls : Drum) (rest : Rest) (told : Option Files) → IsOpenRest urls rest told → urls.settings.kind ≡ CrawlKind → (ledger : Ledger) × (rest ≡ Crawl ledger)
crawl_still urls Plain told opened kind = absurd (opened.0 refl kind)
crawl_still urls (Crawl ledger) told opened kind = (ledger, refl)

-- and has them still where they stay
pub begun_on : (was now : Parts) (told later : Option Files) → IsOpenRest was.urls was.rest told → IsOpenRest now.urls now.rest later → now.urls ≡ was.urls
    → ((old new : Ledger) → was.rest ≡ Crawl old → now.rest ≡ Crawl new → new.suffixes ≡ old.suffixes) → HasBegun was.rest → HasBegun now.rest
begun_on was now told later opened opened_now urls suffixes begun =
    let first = crawl_of was.rest begun in
    let second = crawl_still now.urls now.rest later opened_now (ap (λ (d : Drum). d.settings.kind) urls ∙ kind_open was.urls was.rest told opened begun) in
    let is : first.0.frontier.progress.begun ≡ true = subst HasBegun first.1 begun in
    let old = (opened.1 first.0 first.1).1 in
    let new = (opened_now.1 second.0 second.1).1 in
    subst HasBegun (sym second.1) (new.begun ∙ ap (λ (o : Option (List ℕ)). is_some o) (suffixes first.0 second.0 first.1 second.1) ∙ sym old.begun ∙ is)

ledger_suffixes : (was now : Rest) (old new : Ledger) → suffixes_in now ≡ suffixes_in was → was ≡ Crawl old → now ≡ Crawl new → new.suffixes ≡ old.suffixes
ledger_suffixes was now old new same one two = sym (ap suffixes_in two) ∙ same ∙ ap suffixes_in one

pub begun_passed : (was now : Parts) (told later : Option Files) → IsOpenRest was.urls was.rest told → IsOpenRest now.urls now.rest later → now.urls ≡ was.urls
    → suffixes_in now.rest ≡ suffixes_in was.rest → HasBegun was.rest → HasBegun now.rest
begun_passed was now told later opened opened_now urls suffixes begun =
    begun_on was now told later opened opened_now urls (λ old new one two. ledger_suffixes was.rest now.rest old new suffixes one two) begun

-- ---- settling
-- notes, and then the event that is refused
pub refused_batch : (first second : Type 0) (was mid now : Parts) (s t u : Told) → (first → ⊥) → HoldsOn first was mid s t → Batches first (just 0 0) (just 0 0) was mid s t
    → Batches second (just 0 0) (just 0 0) mid now t u → Batches second judged_in judged_in was now s u
refused_batch first second was mid now s t u sound on one two =
    batches_then first second (just 0 0) (just 0 0) (just 0 0) (just 0 0) judged_in judged_in was mid now s t u on sound one two none_judged
    (λ files told x y held between n. (omega arith, omega arith, omega arith)) (λ files told x y z held between last. (omega arith, omega arith, omega arith))

-- a state with an event that settles a turn
pub turn_since : (event : Event) (x y : State) → turns_of event ≡ 1 → y ≡ with_event event [] x → turns_since x y ≡ 1
turn_since event x y one is =
    let turns : turns_since x y ≡ turns_of event + 0 = turns_by x y ((event, []) ∷ []) (ap (λ (z : State). z.events) is) in
    omega (arith, turns, one)

-- that event, and then judging
pub event_judged : (first judged : Type 0) (event : Event) (was mid now : Parts) (s t u : Told) → (first → ⊥) → turns_of event ≡ 1 → HoldsOn first was mid s t
    → ((files : Files) → t.files ≡ Some files → (x y : State) → HoldsState s.images was x → HoldsState t.images mid y → y ≡ with_event event [] x)
    → Batches first (just 0 0) (just 0 0) was mid s t → Batches judged (just 0 1) (just 0 1) mid now t u → Batches judged judged_in judged_in was now s u
event_judged first judged event was mid now s t u sound one on there settled two =
    batches_then first judged (just 0 0) (just 0 0) (just 0 1) (just 0 1) judged_in judged_in was mid now s t u on sound settled two none_judged
    (λ files told x y held between n.
    let later = on.told files told in
    let turn = turn_since event x y one (there later.0 later.1 x y held between) in
    (omega arith, omega (arith, turn), omega (arith, turn)))
    (λ files told x y z held between last.
    let turn = turn_since event x y one (there files told x y held between) in
    (omega arith, omega (arith, turn), omega (arith, turn)))

-- notes, and then all that
pub settle_batch : (first judged : Type 0) (was mid now : Parts) (s t u : Told) → (first → ⊥) → HoldsOn first was mid s t → Batches first (just 0 0) (just 0 0) was mid s t
    → Batches judged judged_in judged_in mid now t u → Batches judged judged_in judged_in was now s u
settle_batch first judged was mid now s t u sound on one two =
    batches_then first judged (just 0 0) (just 0 0) judged_in judged_in judged_in judged_in was mid now s t u on sound one two none_judged
    (λ files told x y held between n. (omega arith, omega arith, omega arith)) (λ files told x y z held between last. (omega arith, omega arith, omega arith))

-- ---- parts that hold states, one behind the other
-- The first didn't fail; a store holds one state.
pub holds_then : (first failed : Type 0) (was mid now : Parts) (s t u : Told) → (first → ⊥) → HoldsOn first was mid s t → HoldsOn failed mid now t u → HoldsOn failed was now s u
holds_then first failed was mid now s t u sound one two = record {
  held = λ not files told x held.
      let later = one.told files told in
      let y = one.held sound files told x held in
      let z = two.held not later.0 later.1 y.0 y.1 in
      (z.0, z.1, state_both x y.0 z.0 y.2 z.2);
  told = λ files told. let later = one.told files told in two.told later.0 later.1;
  settings = two.settings ∙ one.settings;
}

-- the event makes a turn of what is behind it
pub turned_then : (first second third : Type 0) (event : Event) (was mid late now : Parts) (s t u v : Told) → (first → ⊥) → (second → ⊥) → (third → ⊥) → IsConsistent v → IsDrum now.urls
    → turns_of event ≡ 1
    → HoldsOn first was mid s t → HoldsOn second mid late t u
    → ((files : Files) → u.files ≡ Some files → (x y : State) → HoldsState t.images mid x → HoldsState u.images late y → y ≡ with_event event [] x) → HoldsOn third late now u v
    → (files : Files) → s.files ≡ Some files → (x z : State) → HoldsState s.images was x → HoldsState v.images now z → 1 ≤ turns_since x z
turned_then first second third event was mid late now s t u v sound still not consistent law one on more there last files told x z held ends =
    let told_mid = on.told files told in
    let told_late = more.told told_mid.0 told_mid.1 in
    let told_now = last.told told_late.0 told_late.1 in
    let y = on.held sound files told x held in
    let w = more.held still told_mid.0 told_mid.1 y.0 y.1 in
    let e = last.held not told_late.0 told_late.1 w.0 w.1 in
    let same : e.0 ≡ z = held_one v now e.0 z told_now.0 consistent law told_now.1 e.1.urls ends.urls in
    let turn = turn_since event y.0 w.0 one (there told_late.0 told_late.1 y.0 w.0 y.1 w.1) in
    let up = fronts_made was.urls.settings x y.0 held.urls.settings y.2 in
    let next = fronts_made mid.urls.settings y.0 w.0 y.1.urls.settings w.2 in
    let ahead = fronts_made late.urls.settings w.0 e.0 w.1.urls.settings e.2 in
    let all = turns_then x y.0 e.0 up (fronts_made mid.urls.settings y.0 e.0 y.1.urls.settings (state_both y.0 w.0 e.0 w.2 e.2)) in
    let behind = turns_then y.0 w.0 e.0 next ahead in
    let long : 1 ≤ turns_since x e.0 = omega (arith, all, behind, turn) in
    subst (λ (k : State). 1 ≤ turns_since x k) same long
