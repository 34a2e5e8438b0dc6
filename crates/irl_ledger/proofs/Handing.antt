-- Offers that are handed in one after the other.
use Rattle.std.proofs.Common.{◌≡◌, ◌∙◌, inl, ⊎_elim, ℕ, ◌+◌, ◌-◌, ◌≤◌, Bool, false, ◌<◌, List, [], ◌∷◌, ◌++◌, length, set, Result, Ok, Err, IsErrOf, OnOk, refl, sym, ap, subst, append_assoc, append-nil, arith, true}
use Rattle.std.specs.List.{All}
use Rattle.std.specs.Option.{ForSome}
use Rattle.std.proofs.lemmas.List.{length_push}
use Rattle.std.proofs.lemmas.List.Elements.{All-append, All-from_recursion}
use Rattle.irl_base.specs.declared.fault.Fault.{Fault}
use Rattle.irl_base.specs.declared.fault.Fault.TheVariants.{Damaged, Failed, Full}
use Rattle.irl_offer.specs.Buckets.{bucket_of}
use Rattle.irl_offer.specs.Tuple.{Tuple}
use Rattle.irl_array.specs.Waiting.{Waiting}
use Rattle.irl_model.specs.Book.{IsPrefixOf}
use Rattle.irl_disk.specs.Images.{Told, IsConsistent}
use Rattle.irl_bay.specs.Drum.{Drum, IsDrum, durable_at, judged_at, pending_at}
use Rattle.irl_bay.specs.Holding.{IsLong, GoesOn}
use Rattle.irl_offer.specs.declared.settings.Settings.{Settings}
use Rattle.irl_schedule.specs.Scheduling.{Schedules}
use Rattle.irl_schedule.specs.Feeding.{IsArrayOf, Moment, moment, Waits, with_waiting}
use Rattle.irl_layout.specs.Commits.{Commit}
use Rattle.std.proofs.lemmas.Bool.Decides.{leb_tells}
use Rattle.std.specs.Prelude.{slice_index}
use Rattle.irl_schedule.specs.Schedule.{IsDue, none_more}
use Rattle.irl_schedule.proofs.Chains.{fed_still, stays_same}
use Rattle.irl_schedule.proofs.Outcomes.{same_refusal}
use Rattle.irl_schedule.proofs.Schedules.{schedules_none}
use Rattle.irl_schedule.specs.Arrays.{AreArrays, array_at, waiting_at}
use Rattle.irl_ledger.specs.Running.{Feeding, HandsIn, RunsSchedule, StaysOpen, Takes, moment_with, nowhere}
use Rattle.irl_schedule.proofs.Waits.{arrays_set, in_arrays, push_keeps}
use Rattle.irl_ledger.proofs.Running.{runs_both, runs_err, runs_evenly, runs_more, runs_ok, runs_once, runs_wider}

-- ---- a bay that stays open
pub open_after : (failed : Type 0) (new : Drum) (after : Told) → GoesOn failed new after → StaysOpen failed new after
open_after failed new after goes = record { drum = goes.drum; sound = λ not. by new.is_sound (λ e. not (goes.sound.0 e)); long = goes.long }
  where
    by : (sound : Bool) → (sound ≡ false → ⊥) → sound ≡ true
    by true not = refl
    by false not = absurd (not refl)

-- ---- feeding, one after the other
pub feeding_both : {A B : Type 0} (a : A) (result : Result B Fault) (elsewhere : ℕ → ℕ → Type 0) (d : ℕ) (v : ℕ → ℕ) (xs ys : List Tuple) (p q r : List Waiting) (x y z : Drum) (s t u : Told)
    → IsConsistent t → Feeding {A = A} (Ok a) elsewhere 0 none_more xs p q x y s t → Feeding result elsewhere d v ys q r y z t u → Feeding result elsewhere d v (xs ++ ys) p r x z s u
feeding_both a result elsewhere d v xs ys p q r x y z s t u consistent first second = record {
  runs = runs_evenly a result elsewhere d v xs ys (moment_with s x p) (moment_with t y q) (moment_with u z r) consistent first.runs second.runs;
  arrays = second.arrays;
  goes_on = second.goes_on;
}

pub feeding_wider : {A : Type 0} (result : Result A Fault) (near wide : ℕ → ℕ → Type 0) (e : ℕ) (u : ℕ → ℕ) (xs : List Tuple) (p q : List Waiting) (x y : Drum) (s t : Told)
    → ((f at : ℕ) → near f at → wide f at) → Feeding result near e u xs p q x y s t → Feeding result wide e u xs p q x y s t
feeding_wider result near wide e u xs p q x y s t wider feeding = record {
  runs = runs_wider result near wide e u xs (moment_with s x p) (moment_with t y q) wider feeding.runs;
  arrays = feeding.arrays;
  goes_on = feeding.goes_on;
}

pub feeding_ok : {A B : Type 0} (result : Result A Fault) (a : A) (b : B) (elsewhere : ℕ → ℕ → Type 0) (e : ℕ) (u : ℕ → ℕ) (xs : List Tuple) (p q : List Waiting) (x y : Drum) (s t : Told)
    → result ≡ Ok a → Feeding result elsewhere e u xs p q x y s t → Feeding {A = B} (Ok b) elsewhere e u xs p q x y s t
feeding_ok {A = A} {B = B} result a b elsewhere e u xs p q x y s t is feeding = record {
  runs = runs_ok {A = A} {B = B} result a b elsewhere e u xs (moment_with s x p) (moment_with t y q) is feeding.runs;
  arrays = feeding.arrays;
  goes_on = record {
    drum = feeding.goes_on.drum;
    sound = λ not. feeding.goes_on.sound (λ failed. let same = sym is ∙ failed in let no : ⊥ = cc in absurd no);
    long = feeding.goes_on.long;
  };
}

pub feeding_err : {A B : Type 0} (result : Result A Fault) (answered : Result B Fault) (fault : Fault) (elsewhere : ℕ → ℕ → Type 0) (e : ℕ) (u : ℕ → ℕ) (xs : List Tuple) (p q : List Waiting)
    (x y : Drum) (s t : Told) → result ≡ Err fault → answered ≡ Err fault → Feeding result elsewhere e u xs p q x y s t → Feeding answered elsewhere e u xs p q x y s t
feeding_err {A = A} {B = B} result answered fault elsewhere e u xs p q x y s t was is feeding = record {
  runs = runs_err {A = A} {B = B} result answered fault elsewhere e u xs (moment_with s x p) (moment_with t y q) was is feeding.runs;
  arrays = feeding.arrays;
  goes_on = record {
    drum = feeding.goes_on.drum;
    sound = λ not. feeding.goes_on.sound (λ failed. not (is ∙ same_refusal {T = A} {U = B} fault Failed (sym was ∙ failed)));
    long = feeding.goes_on.long;
  };
}

-- one call over a bay and its arrays
pub feeding_once : {A : Type 0} (result : Result A Fault) (e : ℕ) (u : ℕ → ℕ) (p q : List Waiting) (x y : Drum) (s t : Told) → AreArrays y.settings q
    → Schedules result e u [] (moment_with s x p) (moment_with t y q) → GoesOn (IsErrOf result Failed) y t → Feeding result nowhere e u [] p q x y s t
feeding_once result e u p q x y s t are one goes = record {
  runs = runs_once result nowhere e u [] (moment_with s x p) (moment_with t y q) one;
  arrays = are;
  goes_on = open_after (IsErrOf result Failed) y t goes;
}

-- and one with one of the arrays
pub feeding_at : {A : Type 0} (result : Result A Fault) (e : ℕ) (u : ℕ → ℕ) (arrays : List Waiting) (b : ℕ) (was now : Waiting) (x y : Drum) (s t : Told) → b < length arrays → was ≡ array_at arrays b
    → AreArrays x.settings arrays → IsArrayOf x.settings b now
    → ((others : Waits) → Schedules result e u [] (moment s x (with_waiting others b was.items)) (moment t y (with_waiting others b now.items))) → GoesOn (IsErrOf result Failed) y t
    → Feeding result nowhere e u [] arrays (set arrays b now) x y s t
feeding_at result e u arrays b was now x y s t within is are array each goes =
    feeding_once result e u arrays (set arrays b now) x y s t (arrays_set x.settings y.settings arrays b now (each (λ n. [])).stays.settings within are array)
    (in_arrays result e u arrays b was now s t x y within is each) goes

-- a merge leaves the arrays
pub feeding_merge : {A : Type 0} (result : Result A Fault) (e : ℕ) (u : ℕ → ℕ) (arrays : List Waiting) (x y : Drum) (s t : Told) → AreArrays x.settings arrays
    → ((waits : Waits) → Schedules result e u [] (moment s x waits) (moment t y waits)) → GoesOn (IsErrOf result Failed) y t → Feeding result nowhere e u [] arrays arrays x y s t
feeding_merge result e u arrays x y s t are each goes =
    feeding_once result e u arrays arrays x y s t (subst (λ (z : Settings). AreArrays z arrays) (sym (each (λ n. [])).stays.settings) are) (each (waiting_at arrays)) goes

-- it may be said with greater numbers
pub feeding_more : {A : Type 0} (result : Result A Fault) (elsewhere : ℕ → ℕ → Type 0) (e d : ℕ) (u v : ℕ → ℕ) (xs : List Tuple) (p q : List Waiting) (x y : Drum) (s t : Told) → e ≤ d
    → ((b : ℕ) → u b ≤ v b) → Feeding result elsewhere e u xs p q x y s t → Feeding result elsewhere d v xs p q x y s t
feeding_more result elsewhere e d u v xs p q x y s t le more feeding = record {
  runs = runs_more result elsewhere e d u v xs (moment_with s x p) (moment_with t y q) le more feeding.runs;
  arrays = feeding.arrays;
  goes_on = feeding.goes_on;
}

-- one after another of any kind
pub feeding_then : {A B : Type 0} (a : A) (result : Result B Fault) (elsewhere : ℕ → ℕ → Type 0) (e d : ℕ) (u v : ℕ → ℕ) (xs ys : List Tuple) (p q r : List Waiting) (x y z : Drum) (s t w : Told)
    → IsConsistent t → Feeding {A = A} (Ok a) elsewhere e u xs p q x y s t → Feeding result elsewhere d v ys q r y z t w
    → Feeding result elsewhere (e + d) (λ b. u b + v b) (xs ++ ys) p r x z s w
feeding_then a result elsewhere e d u v xs ys p q r x y z s t w consistent first second = record {
  runs = runs_both a result elsewhere e d u v xs ys (moment_with s x p) (moment_with t y q) (moment_with w z r) consistent first.runs second.runs;
  arrays = second.arrays;
  goes_on = second.goes_on;
}

-- nothing was done, and no fault of the store answered
pub runs_nothing : {A : Type 0} (result : Result A Fault) (elsewhere : ℕ → ℕ → Type 0) (now : Moment) → IsConsistent now.store → IsDrum now.drum → (IsErrOf result Failed → ⊥)
    → ((n : ℕ) → IsErrOf result (Full n) → ⊥) → ((f at : ℕ) → IsErrOf result (Damaged f at) → elsewhere f at) → RunsSchedule result elsewhere 0 none_more [] now now
runs_nothing result elsewhere now consistent law sound full damaged =
    let none = schedules_none {A = Unit {0}} tt now consistent law in
    record {
      stays = none.stays;
      fed = λ not. none.fed (λ is. let no : ⊥ = cc in absurd no);
      stranded = λ failed. absurd (sound failed);
      full = λ n is. absurd (full n is);
      damaged = λ f at is. inl (damaged f at is);
      cause = record { later = omega arith; rose = λ failed. absurd (sound failed) };
    }

pub feeding_nothing : {A : Type 0} (result : Result A Fault) (elsewhere : ℕ → ℕ → Type 0) (arrays : List Waiting) (now : Drum) (store : Told) → IsConsistent store → IsDrum now
    → AreArrays now.settings arrays
    → now.is_sound ≡ true → ForSome store.files (λ files. IsLong now files) → (IsErrOf result Failed → ⊥)
    → ((n : ℕ) → IsErrOf result (Full n) → ⊥) → ((f at : ℕ) → IsErrOf result (Damaged f at) → elsewhere f at) → Feeding result elsewhere 0 none_more [] arrays arrays now now store store
feeding_nothing result elsewhere arrays now store consistent law are is_open long sound full damaged = record {
  runs = runs_nothing result elsewhere (moment_with store now arrays) consistent law sound full damaged;
  arrays = are;
  goes_on = record { drum = law; sound = λ not. is_open; long = λ is. long };
}

-- ---- offers, one after the other
pub prefix_all : {X : Type 0} (xs : List X) → IsPrefixOf xs xs
prefix_all xs = ([], sym (append-nil xs))

pub prefix_more : {X : Type 0} (xs ys more : List X) → IsPrefixOf xs ys → IsPrefixOf xs (ys ++ more)
prefix_more xs ys more front = (front.0 ++ more, ap (λ l. l ++ more) front.1 ∙ append_assoc xs front.0 more)

pub prefix_behind : {X : Type 0} (xs ys zs : List X) → IsPrefixOf ys zs → IsPrefixOf (xs ++ ys) (xs ++ zs)
prefix_behind xs ys zs front = (front.0, ap (λ l. xs ++ l) front.1 ∙ sym (append_assoc xs ys front.0))

pub hands_both : {A B : Type 0} (a : A) (result : Result B Fault) (elsewhere : ℕ → ℕ → Type 0) (xs ys : List Tuple) (p q r : List Waiting) (x y z : Drum) (s t u : Told) → IsConsistent t
    → HandsIn {A = A} (Ok a) elsewhere xs p q x y s t → HandsIn result elsewhere ys q r y z t u → HandsIn result elsewhere (xs ++ ys) p r x z s u
hands_both {A = A} {B = B} a result elsewhere xs ys p q r x y z s t u consistent first second =
    let same : first.news ≡ xs = first.all in
    record {
      news = xs ++ second.news;
      front = prefix_behind xs second.news ys second.front;
      all = whole result second.news second.all;
      feeding = feeding_both a result elsewhere 0 none_more xs second.news p q r x y z s t u consistent
          (subst (λ (l : List Tuple). Feeding {A = A} (Ok a) elsewhere 0 none_more l p q x y s t) same first.feeding) second.feeding;
    }
  where
    whole : (result : Result B Fault) (news : List Tuple) → OnOk result (news ≡ ys) → OnOk result (xs ++ news ≡ xs ++ ys)
    whole (Ok b) news is = ap (λ (l : List Tuple). xs ++ l) is
    whole (Err fault) news is = tt

-- where one is refused others may be behind it
pub hands_more : {A : Type 0} (result : Result A Fault) (fault : Fault) (elsewhere : ℕ → ℕ → Type 0) (xs more : List Tuple) (p q : List Waiting) (x y : Drum) (s t : Told) → result ≡ Err fault
    → HandsIn result elsewhere xs p q x y s t → HandsIn result elsewhere (xs ++ more) p q x y s t
hands_more {A = A} result fault elsewhere xs more p q x y s t is hands = record {
  news = hands.news;
  front = prefix_more hands.news xs more hands.front;
  all = subst (λ (r : Result A Fault). OnOk r (hands.news ≡ xs ++ more)) (sym is) tt;
  feeding = hands.feeding;
}

pub hands_err : {A B : Type 0} (result : Result A Fault) (answered : Result B Fault) (fault : Fault) (elsewhere : ℕ → ℕ → Type 0) (xs : List Tuple) (p q : List Waiting)
    (x y : Drum) (s t : Told) → result ≡ Err fault → answered ≡ Err fault → HandsIn result elsewhere xs p q x y s t → HandsIn answered elsewhere xs p q x y s t
hands_err {A = A} {B = B} result answered fault elsewhere xs p q x y s t was is hands = record {
  news = hands.news;
  front = hands.front;
  all = subst (λ (r : Result B Fault). OnOk r (hands.news ≡ xs)) (sym is) tt;
  feeding = feeding_err {A = A} {B = B} result answered fault elsewhere 0 none_more hands.news p q x y s t was is hands.feeding;
}

pub hands_ok : {A B : Type 0} (result : Result A Fault) (a : A) (b : B) (elsewhere : ℕ → ℕ → Type 0) (xs : List Tuple) (p q : List Waiting) (x y : Drum) (s t : Told) → result ≡ Ok a
    → HandsIn result elsewhere xs p q x y s t → HandsIn {A = B} (Ok b) elsewhere xs p q x y s t
hands_ok {A = A} {B = B} result a b elsewhere xs p q x y s t is hands = record {
  news = hands.news;
  front = hands.front;
  all = subst (λ (r : Result A Fault). OnOk r (hands.news ≡ xs)) is hands.all;
  feeding = feeding_ok {A = A} {B = B} result a b elsewhere 0 none_more hands.news p q x y s t is hands.feeding;
}

pub hands_wider : {A : Type 0} (result : Result A Fault) (near wide : ℕ → ℕ → Type 0) (xs : List Tuple) (p q : List Waiting) (x y : Drum) (s t : Told)
    → ((f at : ℕ) → near f at → wide f at) → HandsIn result near xs p q x y s t → HandsIn result wide xs p q x y s t
hands_wider result near wide xs p q x y s t wider hands = record {
  news = hands.news;
  front = hands.front;
  all = hands.all;
  feeding = feeding_wider result near wide 0 none_more hands.news p q x y s t wider hands.feeding;
}

-- none
pub hands_none : (elsewhere : ℕ → ℕ → Type 0) (arrays : List Waiting) (now : Drum) (store : Told) → IsConsistent store → IsDrum now → AreArrays now.settings arrays → now.is_sound ≡ true
    → ForSome store.files (λ files. IsLong now files) → HandsIn {A = Unit {0}} (Ok tt) elsewhere [] arrays arrays now now store store
hands_none elsewhere arrays now store consistent law are is_open long = record {
  news = [];
  front = prefix_all [];
  all = refl;
  feeding = feeding_nothing {A = Unit {0}} (Ok tt) elsewhere arrays now store consistent law are is_open long (λ is. let no : ⊥ = cc in absurd no) (λ n is. let no : ⊥ = cc in absurd no)
      (λ f at is. let no : ⊥ = cc in absurd no);
}

-- one that was refused before anything was done
pub hands_nothing : {A : Type 0} (result : Result A Fault) (fault : Fault) (elsewhere : ℕ → ℕ → Type 0) (offers : List Tuple) (arrays : List Waiting) (now : Drum) (store : Told) → result ≡ Err fault
    → IsConsistent store → IsDrum now → AreArrays now.settings arrays → now.is_sound ≡ true → ForSome store.files (λ files. IsLong now files) → (IsErrOf result Failed → ⊥)
    → ((n : ℕ) → IsErrOf result (Full n) → ⊥) → ((f at : ℕ) → IsErrOf result (Damaged f at) → elsewhere f at) → HandsIn result elsewhere offers arrays arrays now now store store
hands_nothing {A = A} result fault elsewhere offers arrays now store is consistent law are is_open long sound full damaged = record {
  news = [];
  front = (offers, refl);
  all = subst (λ (r : Result A Fault). OnOk r ([] ≡ offers)) (sym is) tt;
  feeding = feeding_nothing result elsewhere arrays now store consistent law are is_open long sound full damaged;
}

-- an array takes one in
pub takes_in : (arrays : List Waiting) (b : ℕ) (was now : Waiting) (offer : Tuple) (drum : Drum) (store : Told) → IsConsistent store → IsDrum drum → AreArrays drum.settings arrays
    → drum.is_sound ≡ true → ForSome store.files (λ files. IsLong drum files) → b < length arrays → b ≡ bucket_of drum.settings.buckets offer.key → was ≡ array_at arrays b
    → now ≡ record { room = was.room; items = was.items ++ offer ∷ [] }
    → length (waiting_at arrays (bucket_of drum.settings.buckets offer.key)) < drum.settings.array → Takes (offer ∷ []) arrays (set arrays b now) drum store
takes_in arrays b was now offer drum store consistent law are is_open long within bucket is pushed room =
    let inside : b < drum.settings.buckets = omega (arith, within, are.count) in
    let old = moment_with store drum arrays in
    let new = moment_with store drum (set arrays b now) in
    let array = are.each b inside in
    let few : length was.items < drum.settings.array =
    subst (λ (w : Waiting). length w.items < drum.settings.array) (sym is) (subst (λ (n : ℕ). length (waiting_at arrays n) < drum.settings.array) (sym bucket) room) in
    let later : IsArrayOf drum.settings b now = subst (IsArrayOf drum.settings b) (sym pushed) (record {
      room = ap (λ (w : Waiting). w.room) is ∙ array.room;
      few = omega (arith, few, length_push was.items offer);
      offers = All-append (λ (o : Tuple). bucket_of drum.settings.buckets o.key ≡ b) was.items (offer ∷ [])
          (subst (λ (w : Waiting). All (λ (o : Tuple). bucket_of drum.settings.buckets o.key ≡ b) w.items) (sym is) array.offers)
          (All-from_recursion (λ (o : Tuple). bucket_of drum.settings.buckets o.key ≡ b) (offer ∷ []) (sym bucket, tt));
    }) in
    record {
      runs = record {
        stays = stays_same old new consistent refl refl;
        fed = λ not files told x holds. fed_still (offer ∷ []) old new x consistent law refl refl
            (push_keeps drum.settings x arrays b was.room offer was now within bucket is pushed) holds;
        stranded = λ is. let no : ⊥ = cc in absurd no;
        full = λ n is. let no : ⊥ = cc in absurd no;
        damaged = λ f at is. let no : ⊥ = cc in absurd no;
        cause = record { later = omega arith; rose = λ is. let no : ⊥ = cc in absurd no };
      };
      arrays = arrays_set drum.settings drum.settings arrays b now refl within are later;
      goes_on = record { drum = law; sound = λ not. is_open; long = λ is. long };
    }

-- a bucket that wasn't flushed has as few unjudged offers as when no merge was due
pub still_few : (old now : Drum) (b : ℕ) → (IsDue old → ⊥) → b < old.settings.buckets → now.settings ≡ old.settings → now.last ≡ old.last → durable_at now b ≡ durable_at old b
    → pending_at now b < now.settings.trigger
still_few old now b none within settings last durable =
    let same : pending_at now b ≡ pending_at old b = ap (λ (n : ℕ). n - judged_at now b) durable ∙ ap (λ (l : Commit). durable_at old b - slice_index l.cut b) last in
    let trigger : now.settings.trigger ≡ old.settings.trigger = ap (λ (s : Settings). s.trigger) settings in
    ⊎_elim (λ due. absurd (none (b, within, due.1))) (λ few. omega (arith, same, trigger, few.1)) (leb_tells old.settings.trigger (pending_at old b))
