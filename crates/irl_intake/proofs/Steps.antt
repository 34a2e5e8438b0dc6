-- What a step before an offer, or at the end of an input, is, by the way in which it comes to its answer.
use Rattle.std.proofs.Common.{◌≡◌, ◌≢◌, ◌∙◌, ℕ, suc, ◌<◌, ◌≤◌, List, [], ◌∷◌, length, None, Some, Result, Ok, Err, IfOk, OnErr, IsErrOf, refl, sym, ap, subst, arith}
use Rattle.irl_base.specs.declared.fault.Fault.{Fault}
use Rattle.irl_base.specs.declared.fault.Fault.TheVariants.{Failed, Full}
use Rattle.irl_array.specs.Waiting.{Waiting}
use Rattle.irl_offer.specs.Tuple.{Tuple}
use Rattle.irl_offer.specs.declared.settings.Settings.{Settings}
use Rattle.irl_disk.specs.Images.{Told}
use Rattle.irl_bay.specs.Drum.{Drum, IsDrum, pending_at}
use Rattle.irl_schedule.specs.Arrays.{AreArrays, SomeWaiting, waiting_at}
use Rattle.irl_schedule.specs.Feeding.{Moment, moment, Waits}
use Rattle.irl_schedule.specs.Schedule.{IsDue, none_more, one_more}
use Rattle.irl_schedule.specs.Scheduling.{Schedules}
use Rattle.irl_schedule.proofs.Finishing.{SoFar}
use Rattle.irl_schedule.proofs.Outcomes.{err_gives, same_refusal}
use Rattle.irl_schedule.proofs.Schedules.{answers_err, schedules_more}
use Rattle.irl_schedule.proofs.Waits.{none_waits}
use Rattle.irl_yard.specs.declared.parts.Parts.{Parts}
use Rattle.irl_yard.specs.Holding.{StaysSound}
use Rattle.irl_intake.specs.Advancing.{Advances, FlushesWaiting, IsWaiting, MergesAlone, StopsAt, early_at, uneven_at}
use Rattle.irl_intake.specs.declared.next.Next.{Next}
use Rattle.irl_intake.specs.declared.next.Next.TheVariants.{Merged, Ready}
use Rattle.irl_intake.proofs.Falling.{falls}

-- ---- answers that are handed on
-- a refusal is
pub handed_on : {A B : Type 0} (result : Result A Fault) (answered : Result B Fault) (fault : Fault) (e : ℕ) (u : ℕ → ℕ) (news : List Tuple) (old new : Moment) → result ≡ Err fault
    → answered ≡ Err fault
    → Schedules result e u news old new → Schedules answered e u news old new
handed_on {A = A} {B = B} result answered fault e u news old new was is one =
    subst (λ (r : Result B Fault). Schedules r e u news old new) (sym is) (answers_err {A = A} {B = B} result fault e u news old new was one)

pub same_answer : {A B : Type 0} (result : Result A Fault) (answered : Result B Fault) (fault named : Fault) → result ≡ Err fault → answered ≡ Err fault → IsErrOf answered named → IsErrOf result named
same_answer {A = A} {B = B} result answered fault named was is names = was ∙ same_refusal {T = B} {U = A} fault named (sym is ∙ names)

pub sound_on : {A B : Type 0} (result : Result A Fault) (answered : Result B Fault) (fault : Fault) (now : Parts) → result ≡ Err fault → answered ≡ Err fault
    → StaysSound (IsErrOf result Failed) now → StaysSound (IsErrOf answered Failed) now
sound_on result answered fault now was is stays = record {
  drum = stays.drum;
  sound = λ not. stays.sound (λ failed. not (same_answer answered result fault Failed is was failed));
  unsound = λ failed. stays.unsound (same_answer result answered fault Failed was is failed);
}

-- a moment at which nothing has changed
pub same_moment : {S : Type 0} (told : S → Told) (before after : S) (old new : Drum) (waits : Waits) → new ≡ old → after ≡ before → moment (told after) new waits ≡ moment (told before) old waits
same_moment told before after old new waits drum store = ap (λ (d : Drum). moment (told after) d waits) drum ∙ ap (λ s. moment (told s) old waits) store

-- ---- before an offer
pub merged_first : (b : ℕ) (old new : Moment) → IsDrum old.drum → IsDue old.drum → IsWaiting (Some b) old → ((c : ℕ) → pending_at new.drum c ≡ 0) → (IsDue new.drum → ⊥)
    → ((c : ℕ) → new.waits c ≡ old.waits c) → Schedules (Ok Merged) 0 none_more [] old new → Advances (Ok Merged) (Some b) old new
merged_first b old new law due full judged none same schedules = record {
  ready = λ is. let no : ⊥ = cc in absurd no;
  merged = (λ is. (due, full), λ both. refl);
  alone = λ one two. record { schedules = schedules; waits = same; full = λ n is. let no : ⊥ = cc in absurd no; settled = none };
  falls = λ is. falls old.drum new.drum law due judged;
  waiting = λ is. same;
  others = λ c other. same c;
  settled = λ is. none;
  full = λ n is. let no : ⊥ = cc in absurd no;
  ordered = λ is. let no : ⊥ = cc in absurd no;
}

pub made_room : (b : ℕ) (old new : Moment) → (IsDue old.drum → ⊥) → length (new.waits b) < new.drum.settings.array → (IsDue new.drum → ⊥) → ((c : ℕ) → c ≢ b → new.waits c ≡ old.waits c)
    → Advances (Ok Ready) (Some b) old new
made_room b old new before room none others = record {
  ready = λ is. room;
  merged = (λ is. let no : ⊥ = cc in absurd no, λ both. absurd (before both.0));
  alone = λ due full. absurd (before due);
  falls = λ is. let no : ⊥ = cc in absurd no;
  waiting = λ is. let no : ⊥ = cc in absurd no;
  others = others;
  settled = λ full. none;
  full = λ n is. let no : ⊥ = cc in absurd no;
  ordered = λ is. let no : ⊥ = cc in absurd no;
}

pub refused_first : (b : ℕ) (result : Result Next Fault) (fault : Fault) (old new : Moment) → result ≡ Err fault → ((n : ℕ) → IsErrOf result (Full n) → n ≡ b)
    → (IsDue old.drum → IsWaiting (Some b) old → MergesAlone (Err fault) old new) → ((c : ℕ) → c ≢ b → new.waits c ≡ old.waits c) → Advances result (Some b) old new
refused_first b result fault old new is full alone others =
    subst (λ (r : Result Next Fault). Advances r (Some b) old new) (sym is) (record {
      ready = tt;
      merged = tt;
      alone = alone;
      falls = tt;
      waiting = tt;
      others = others;
      settled = tt;
      full = λ n named. full n (is ∙ named);
      ordered = λ same. let no : ⊥ = cc in absurd no;
    })

-- ---- at the end
pub merged_at_end : (old new : Moment) → IsDrum old.drum → IsDue old.drum → IsWaiting None old → ((c : ℕ) → pending_at new.drum c ≡ 0) → (IsDue new.drum → ⊥)
    → ((c : ℕ) → new.waits c ≡ old.waits c) → Schedules (Ok Merged) 0 none_more [] old new → Advances (Ok Merged) None old new
merged_at_end old new law due some judged none same schedules = record {
  ready = λ is. let no : ⊥ = cc in absurd no;
  merged = (λ is. (due, some), λ both. refl);
  alone = λ one two. record { schedules = schedules; waits = same; full = λ n is. let no : ⊥ = cc in absurd no; settled = none };
  falls = λ is. falls old.drum new.drum law due judged;
  waiting = λ is. same;
  others = tt;
  settled = tt;
  full = tt;
  ordered = λ is. tt;
}

pub all_done : (old new : Moment) → (IsWaiting None old → IsDue old.drum → ⊥) → ((b : ℕ) → new.waits b ≡ []) → ((b : ℕ) → b < new.drum.settings.buckets → pending_at new.drum b ≡ 0)
    → Advances (Ok Ready) None old new
all_done old new before empty judged = record {
  ready = λ is. (empty, judged);
  merged = (λ is. let no : ⊥ = cc in absurd no, λ both. absurd (before both.1 both.0));
  alone = λ due some. absurd (before some due);
  falls = λ is. let no : ⊥ = cc in absurd no;
  waiting = λ is. let no : ⊥ = cc in absurd no;
  others = tt;
  settled = tt;
  full = tt;
  ordered = λ is. tt;
}

pub refused_at_end : (result : Result Next Fault) (fault : Fault) (n : ℕ) (old new : Moment) → result ≡ Err fault → StopsAt n old new → ((m : ℕ) → IsErrOf result (Full m) → m ≡ n)
    → (IsDue old.drum → IsWaiting None old → MergesAlone (Err fault) old new) → Advances result None old new
refused_at_end result fault n old new is stops full alone =
    subst (λ (r : Result Next Fault). Advances r None old new) (sym is) (record {
      ready = tt;
      merged = tt;
      alone = alone;
      falls = tt;
      waiting = tt;
      others = tt;
      settled = tt;
      full = tt;
      ordered = λ same. (n, stops, λ m named. full m (is ∙ named));
    })

-- by what was refused
pub refused_by : {A : Type 0} (result : Result A Fault) (answered : Result Next Fault) (fault : Fault) (old new : Moment) → result ≡ Err fault → answered ≡ Err fault
    → OnErr result ((n : ℕ) × StopsAt n old new × ((m : ℕ) → IsErrOf result (Full m) → m ≡ n))
    → (IsWaiting None old → IsDue old.drum → ⊥) → Advances answered None old new
refused_by result answered fault old new was is ordered before =
    let why = err_gives result fault ordered was in
    refused_at_end answered fault why.0 old new is why.1 (λ m named. why.2 m (same_answer result answered fault (Full m) was is named)) (λ due some. absurd (before some due))

-- a call that is never refused as full
pub never_full : {A B : Type 0} (result : Result A Fault) (answered : Result B Fault) (fault : Fault) (e : ℕ) (u : ℕ → ℕ) (before after : Told) (old new : Drum) (m n : ℕ) → result ≡ Err fault
    → answered ≡ Err fault
    → ((waits : Waits) → Schedules result e u [] (moment before old waits) (moment after new waits)) → IsErrOf answered (Full m) → m ≡ n
never_full result answered fault e u before after old new m n was is each named =
    let why = (each (λ b. [])).full m (same_answer result answered fault (Full m) was is named) in
    absurd (omega (arith, why.1))

-- a merge that is refused, alone
pub alone_refused : {A : Type 0} (result : Result A Fault) (fault : Fault) (before after : Told) (old new : Drum) (waits : Waits) → result ≡ Err fault
    → ((w : Waits) → Schedules result 0 none_more [] (moment before old w) (moment after new w)) → MergesAlone (Err fault) (moment before old waits) (moment after new waits)
alone_refused {A = A} result fault before after old new waits was each = record {
  schedules = answers_err {A = A} {B = Next} result fault 0 none_more [] (moment before old waits) (moment after new waits) was (each waits);
  waits = λ c. refl;
  full = λ n named. zero_suc (never_full {A = A} {B = Next} result (Err fault) fault 0 none_more before after old new n (suc n) was refl each named);
  settled = tt;
}
  where
    zero_suc : {n : ℕ} → n ≡ suc n → ⊥
    zero_suc {n} same = absurd (omega (arith, same))

-- before any flush, at one, and behind all
pub stops_first : (old new : Moment) → ((c : ℕ) → new.waits c ≡ old.waits c) → StopsAt 0 old new
stops_first old new same = record { within = omega arith; before = λ c less. absurd (omega (arith, less)); behind = λ c le. same c }

pub stops_here : (b : ℕ) (old mid new : Moment) → b < old.drum.settings.buckets → SoFar b old mid → ((c : ℕ) → new.waits c ≡ mid.waits c) → StopsAt b old new
stops_here b old mid new within far same = record {
  within = omega (arith, within);
  before = λ c less. same c ∙ far.before c less;
  behind = λ c le. same c ∙ (far.behind c le).0;
}

pub stops_last : (old new : Moment) → ((c : ℕ) → new.waits c ≡ []) → ((c : ℕ) → old.drum.settings.buckets ≤ c → old.waits c ≡ []) → StopsAt old.drum.settings.buckets old new
stops_last old new empty past = record {
  within = omega arith;
  before = λ c less. empty c;
  behind = λ c le. empty c ∙ sym (past c le);
}

-- the order in which the arrays were flushed, of the answer that is handed on
pub refused_stop : {A B : Type 0} (result : Result A Fault) (answered : Result B Fault) (fault : Fault) (n : ℕ) (old new : Moment) → result ≡ Err fault → answered ≡ Err fault → StopsAt n old new
    → ((m : ℕ) → IsErrOf result (Full m) → m ≡ n) → OnErr answered ((k : ℕ) × StopsAt k old new × ((m : ℕ) → IsErrOf answered (Full m) → m ≡ k))
refused_stop {B = B} result answered fault n old new was is stops full =
    subst (λ (r : Result B Fault). OnErr r ((k : ℕ) × StopsAt k old new × ((m : ℕ) → IsErrOf answered (Full m) → m ≡ k))) (sym is)
    (n, stops, λ m named. full m (same_answer result answered fault (Full m) was is named))

-- a merge that is refused before any flush
pub refused_at_none : {A : Type 0} (result : Result A Fault) (answered : Result Next Fault) (fault : Fault) (old new : Moment) → result ≡ Err fault → answered ≡ Err fault
    → Schedules result 0 none_more [] old new → Schedules answered (early_at None answered) (uneven_at None answered) [] old new
refused_at_none {A = A} result answered fault old new was is one =
    subst (λ (r : Result Next Fault). Schedules r (early_at None r) (uneven_at None r) [] old new) (sym is)
    (schedules_more (Err fault) 0 1 none_more one_more [] old new (omega arith) (λ n. omega arith) (answers_err {A = A} {B = Next} result fault 0 none_more [] old new was one))

-- the last step, which doesn't merge alone
pub last_at_end : (result : Result Next Fault) (old new : Moment) → IfOk result (λ next. next ≡ Ready) → Schedules result 1 one_more [] old new
    → Schedules result (early_at None result) (uneven_at None result) [] old new
last_at_end (Ok Merged) old new is one = let no : ⊥ = cc in absurd no
last_at_end (Ok Ready) old new is one = one
last_at_end (Err fault) old new is one = one

-- ---- a flush of all that waits
no_length : (xs : List Tuple) → (1 ≤ length xs → ⊥) → xs ≡ []
no_length [] none = refl
no_length (x ∷ xs) none = absurd (none (omega arith))

pub none_wait : (settings : Settings) (arrays : List Waiting) → AreArrays settings arrays → (SomeWaiting settings.buckets arrays → ⊥) → (b : ℕ) → waiting_at arrays b ≡ []
none_wait settings arrays are none b =
    none_waits arrays settings.buckets b (omega (arith, are.count)) (λ c within. no_length (waiting_at arrays c) (λ some. none (c, within, some)))

pub flush_merged : (old new : Moment) → IsDrum old.drum → IsDue old.drum → IsWaiting None old → ((c : ℕ) → pending_at new.drum c ≡ 0) → (IsDue new.drum → ⊥)
    → ((c : ℕ) → new.waits c ≡ old.waits c) → Schedules (Ok Merged) 0 none_more [] old new → FlushesWaiting (Ok Merged) old new
flush_merged old new law due some judged none same schedules = record {
  ready = λ is. let no : ⊥ = cc in absurd no;
  merged = (λ is. (due, some), λ both. refl);
  alone = λ one two. record { schedules = schedules; waits = same; full = λ n is. let no : ⊥ = cc in absurd no; settled = none };
  falls = λ is. falls old.drum new.drum law due judged;
  waiting = λ is. same;
  ordered = tt;
}

pub flush_done : (old new : Moment) → (IsWaiting None old → IsDue old.drum → ⊥) → ((b : ℕ) → new.waits b ≡ []) → FlushesWaiting (Ok Ready) old new
flush_done old new before empty = record {
  ready = λ is. empty;
  merged = (λ is. let no : ⊥ = cc in absurd no, λ both. absurd (before both.1 both.0));
  alone = λ due some. absurd (before some due);
  falls = λ is. let no : ⊥ = cc in absurd no;
  waiting = λ is. let no : ⊥ = cc in absurd no;
  ordered = tt;
}

pub flush_idle : (old : Moment) → ((b : ℕ) → old.waits b ≡ []) → FlushesWaiting (Ok Ready) old old
flush_idle old none = flush_done old old (λ some due. let le = some.2 in absurd (omega (arith, le, ap (λ (l : List Tuple). length l) (none some.0)))) none

pub flush_refused : (result : Result Next Fault) (fault : Fault) (n : ℕ) (old new : Moment) → result ≡ Err fault → StopsAt n old new → ((m : ℕ) → IsErrOf result (Full m) → m ≡ n)
    → (IsDue old.drum → IsWaiting None old → MergesAlone (Err fault) old new) → FlushesWaiting result old new
flush_refused result fault n old new is stops full alone =
    subst (λ (r : Result Next Fault). FlushesWaiting r old new) (sym is) (record {
      ready = tt;
      merged = tt;
      alone = alone;
      falls = tt;
      waiting = tt;
      ordered = (n, stops, λ m named. full m (is ∙ named));
    })

-- by what was refused
pub flush_refused_by : {A : Type 0} (result : Result A Fault) (answered : Result Next Fault) (fault : Fault) (old new : Moment) → result ≡ Err fault → answered ≡ Err fault
    → OnErr result ((n : ℕ) × StopsAt n old new × ((m : ℕ) → IsErrOf result (Full m) → m ≡ n))
    → (IsWaiting None old → IsDue old.drum → ⊥) → FlushesWaiting answered old new
flush_refused_by result answered fault old new was is ordered before =
    let why = err_gives result fault ordered was in
    flush_refused answered fault why.0 old new is why.1 (λ m named. why.2 m (same_answer result answered fault (Full m) was is named)) (λ due some. absurd (before some due))

-- a refusal adds at most what the last step may
pub refused_uneven : {A : Type 0} (result : Result A Fault) (answered : Result Next Fault) (fault : Fault) (u : ℕ → ℕ) (old new : Moment) → result ≡ Err fault → answered ≡ Err fault
    → ((b : ℕ) → u b ≤ one_more b) → Schedules result 0 u [] old new → Schedules answered 0 (uneven_at None answered) [] old new
refused_uneven {A = A} result answered fault u old new was is few one =
    subst (λ (r : Result Next Fault). Schedules r 0 (uneven_at None r) [] old new) (sym is)
    (schedules_more (Err fault) 0 0 u one_more [] old new (omega arith) few (answers_err {A = A} {B = Next} result fault 0 u [] old new was one))
