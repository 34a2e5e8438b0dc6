-- Calls that only look at an open store, one behind the other, and what they make of a state.
use Rattle.std.proofs.Common.{◌≡◌, ◌∙◌, inr, ℕ, List, Option, Some, Result, Ok, Err, IsErrOf, refl, sym, ap, subst, arith}
use Rattle.std.specs.Option.{ForSome}
use Rattle.std.specs.Prelude.{IsOkUnless}
use Rattle.irl_base.specs.declared.fault.Fault.{Fault}
use Rattle.irl_base.specs.declared.fault.Fault.TheVariants.{Damaged, Failed, Full, Memory}
use Rattle.irl_disk.specs.Disk.{Files}
use Rattle.irl_disk.specs.Images.{Told, IsConsistent}
use Rattle.irl_disk.proofs.Effects.{cause_then}
use Rattle.irl_disk.proofs.Stretches.{reads_on, stays}
use Rattle.irl_bay.specs.Drum.{Drum, IsDrum}
use Rattle.irl_events.specs.State.{State}
use Rattle.irl_ledger.specs.Reading.{ReadsUrls}
use Rattle.irl_model.specs.Book.{Book}
use Rattle.irl_offer.specs.declared.note.Note.{Note}
use Rattle.irl_yard.specs.Holding.{HoldsState, IsSound, StaysSound}
use Rattle.irl_yard.specs.Merges.{ReadsState}
use Rattle.irl_yard.specs.Noting.{ReadsLastNote}
use Rattle.irl_yard.specs.declared.parts.Parts.{Parts}
use Rattle.irl_yard.proofs.Holding.{held_legal, stops_same}
use Rattle.irl_yard.proofs.Leading.{fails_same, leads_same}
use Rattle.irl_crawl.specs.Dealing.{OnlyLooks}
use Rattle.irl_crawl.proofs.Damage.{note_broken, urls_broken}
use Rattle.irl_crawl.proofs.OtherFiles.{others_same}
use Rattle.irl_crawl.specs.Leading.{Leads, NeedsNoGround}

-- ---- answers
-- one that is Ok, or want of memory, names nothing else
calm_failed : {A : Type 0} (result : Result A Fault) → IsOkUnless result Memory → IsErrOf result Failed → ⊥
calm_failed (Ok value) calm is = cc
calm_failed (Err fault) calm is = let no : Memory ≡ Failed = cc in cc

pub calm_full : {A : Type 0} (result : Result A Fault) → IsOkUnless result Memory → (n : ℕ) → IsErrOf result (Full n) → ⊥
calm_full (Ok value) calm n is = cc
calm_full (Err fault) calm n is = let no : Memory ≡ Full n = cc in cc

pub calm_damaged : {A : Type 0} (result : Result A Fault) → IsOkUnless result Memory → (f at : ℕ) → IsErrOf result (Damaged f at) → ⊥
calm_damaged (Ok value) calm f at is = cc
calm_damaged (Err fault) calm f at is = let no : Memory ≡ Damaged f at = cc in cc

pub calm_ok : {A : Type 0} (result : Result A Fault) (value : A) → result ≡ Ok value → IsOkUnless result Memory
calm_ok result value is = subst (λ r. IsOkUnless r Memory) (sym is) tt

pub calm_memory : {A : Type 0} (result : Result A Fault) (fault : Fault) → result ≡ Err fault → fault ≡ Memory → IsOkUnless result Memory
calm_memory result fault is lacks = subst (λ r. IsOkUnless r Memory) (sym is) lacks

-- an answer that refuses as another does
other_err : {A B : Type 0} (first : Result A Fault) (second : Result B Fault) (fault answer other : Fault) → first ≡ Err fault → second ≡ Err answer → answer ≡ fault → second ≡ Err other
    → first ≡ Err other
other_err first second fault answer other one two same is = let was : answer ≡ other = cc in one ∙ ap (λ (e : Fault). Err e) (sym same ∙ was)

back_err : {A B : Type 0} (first : Result A Fault) (second : Result B Fault) (fault answer other : Fault) → first ≡ Err fault → second ≡ Err answer → answer ≡ fault → first ≡ Err other
    → second ≡ Err other
back_err first second fault answer other one two same is = let was : fault ≡ other = cc in two ∙ ap (λ (e : Fault). Err e) (same ∙ was)

-- ---- no call
pub looks_none : {A : Type 0} (result : Result A Fault) (now : Parts) (at : Told) → IsConsistent at → IsSound now → IsOkUnless result Memory → OnlyLooks result now now at at
looks_none result now at law sound calm = record {
  urls = refl;
  rest = refl;
  files = refl;
  stops = stays at at.images law (λ image left. left);
  holds = λ x holds. holds;
  sound = λ no. sound;
  unsound = λ failed. absurd (calm_failed result calm failed);
  cause = record { later = omega arith; rose = λ failed. absurd (calm_failed result calm failed) };
  full = λ n is. calm_full result calm n is;
  spoilt = λ f at is. absurd (calm_damaged result calm f at is);
  whole = λ f at is. absurd (calm_damaged result calm f at is);
}

-- ---- one behind the other
pub looks_then : {A B : Type 0} (first : Result A Fault) (second : Result B Fault) (was mid now : Parts) (before between after : Told) → IsConsistent between → OnlyLooks first was mid before between
    → OnlyLooks second mid now between after → OnlyLooks second was now before after
looks_then first second was mid now before between after law one two = record {
  urls = two.urls ∙ one.urls;
  rest = two.rest ∙ one.rest;
  files = two.files ∙ one.files;
  stops = reads_on before between after before.images law one.stops two.stops;
  holds = λ x holds. two.holds x (one.holds x holds);
  sound = two.sound;
  unsound = two.unsound;
  cause = cause_then (IsErrOf second Failed) before.faults between.faults after.faults one.cause.later two.cause;
  full = two.full;
  spoilt = two.spoilt;
  whole = λ f at is files told x holds. two.whole f at is files (one.files ∙ told) x (one.holds x holds);
}

-- and then nothing more, but an answer
pub looks_calm : {A B : Type 0} (first : Result A Fault) (second : Result B Fault) (was now : Parts) (before after : Told) → IsConsistent after → IsOkUnless first Memory → IsOkUnless second Memory
    → OnlyLooks first was now before after → OnlyLooks second was now before after
looks_calm first second was now before after law one two looks =
    looks_then first second was now now before after after law looks (looks_none second now after law (looks.sound (calm_failed first one)) two)

-- what was refused is refused
pub looks_err : {A B : Type 0} (first : Result A Fault) (second : Result B Fault) (fault answer : Fault) (was now : Parts) (before after : Told) → first ≡ Err fault → second ≡ Err answer
    → answer ≡ fault
    → OnlyLooks first was now before after → OnlyLooks second was now before after
looks_err first second fault answer was now before after one two same looks = record {
  urls = looks.urls;
  rest = looks.rest;
  files = looks.files;
  stops = looks.stops;
  holds = looks.holds;
  sound = λ no. looks.sound (λ failed. no (back_err first second fault answer Failed one two same failed));
  unsound = λ failed. looks.unsound (other_err first second fault answer Failed one two same failed);
  cause = record { later = looks.cause.later; rose = λ failed. looks.cause.rose (other_err first second fault answer Failed one two same failed) };
  full = λ n is. looks.full n (other_err first second fault answer (Full n) one two same is);
  spoilt = λ f at is. looks.spoilt f at (other_err first second fault answer (Damaged f at) one two same is);
  whole = λ f at is. looks.whole f at (other_err first second fault answer (Damaged f at) one two same is);
}

-- after Ok it may be asked again
pub looks_sound : {A : Type 0} (result : Result A Fault) (value : A) (was now : Parts) (before after : Told) → result ≡ Ok value → OnlyLooks result was now before after → IsSound now
looks_sound result value was now before after is looks = looks.sound (calm_failed result (calm_ok result value is))

-- ---- the calls of an open store
pub looks_note : (result : Result (Option Note) Fault) (host : List ℕ) (moment : ℕ) (was now : Parts) (before after : Told) → ReadsLastNote result host moment was now before after
    → StaysSound (IsErrOf result Failed) now
    → OnlyLooks result was now before after
looks_note result host moment was now before after reads goes = record {
  urls = reads.urls;
  rest = reads.rest;
  files = reads.reads.same;
  stops = reads.reads.stops;
  holds = reads.holds;
  sound = goes.sound;
  unsound = goes.unsound;
  cause = reads.reads.cause;
  full = reads.full;
  spoilt = λ f at is. note_broken was now before after f at host reads.reads.same reads.rest (reads.spoilt f at is);
  whole = reads.whole;
}

pub looks_front : {A : Type 0} (result : Result A Fault) (gives is_of : A → Book → Type 0) (was now : Parts) (before after : Told) → ReadsUrls result gives was.urls before after
    → ReadsState result is_of was now before after → now.rest ≡ was.rest → StaysSound (IsErrOf result Failed) now → OnlyLooks result was now before after
looks_front result gives is_of was now before after reads states rest goes = record {
  urls = states.same;
  rest = rest;
  files = reads.reads.same;
  stops = reads.reads.stops;
  holds = states.holds;
  sound = goes.sound;
  unsound = goes.unsound;
  cause = reads.reads.cause;
  full = reads.full;
  spoilt = λ f at is. urls_broken was now before after f at reads.reads.same states.same (reads.spoilt f at is);
  whole = states.whole;
}

-- ---- what they make of a state
pub looks_ground : {A : Type 0} (result : Result A Fault) (was now : Parts) (before after : Told) (files : Files) (x : State) → before.files ≡ Some files → HoldsState before.images was x
    → OnlyLooks result was now before after → NeedsNoGround result
looks_ground result was now before after files x told holds looks = record {
  full = looks.full;
  whole = λ f at is. looks.whole f at is files told x holds;
}

-- where the store didn't fail a state is led to itself, and what was done holds of it
pub looks_lead : {A : Type 0} (result : Result A Fault) (did : State → State → Type 0) (was now : Parts) (before after : Told) → IsConsistent after → IsDrum was.urls
    → OnlyLooks result was now before after
    → ((IsErrOf result Failed → ⊥) → ForSome before.files (λ _. (x : State) → HoldsState before.images was x → did x x)) → Leads (IsErrOf result Failed) (λ x y. y ≡ x) did was now before after
looks_lead result did was now before after law drum looks does = record {
  leads = λ no files told x holds. (x, does no files told x holds, leads_same x now before after (looks.holds x holds) (stops_same before after was.urls x drum holds.urls looks.stops));
  fails = λ failed files told x holds. fails_same (λ y. y ≡ x) x before after law (stops_same before after was.urls x drum holds.urls looks.stops) refl
      (inr (was.urls.settings, held_legal before.images was.urls x drum holds.urls));
  told = λ files told. (files, looks.files ∙ told);
  settings = ap (λ (d : Drum). d.settings) looks.urls;
  goes_on = record { drum = subst IsDrum (sym looks.urls) drum; sound = looks.sound; unsound = looks.unsound };
  cause = looks.cause;
  others = others_same was now before after law looks.urls looks.files looks.stops;
}
