-- The offers that wait in arrays, bucket by bucket.
use Rattle.std.proofs.Common.{◌≡◌, ◌≢◌, ◌∙◌, ⊎_elim, ℕ, ◌<◌, ◌≤◌, Bool, true, false, cond, List, [], ◌∷◌, ◌++◌, length, filter, nat_eq, set, Result, sym, ap, subst, append_assoc, append-nil, arith}
use Rattle.std.proofs.lemmas.List.{get_or-set_same, get_or-set_other, get_or_past, length-set, set-get_or}
use Rattle.std.proofs.lemmas.Bool.{eq-eqb}
use Rattle.std.proofs.lemmas.Bool.Decides.{eqb_tells, leb_tells}
use Rattle.irl_base.specs.declared.fault.Fault.{Fault}
use Rattle.irl_offer.specs.declared.settings.Settings.{Settings}
use Rattle.irl_offer.specs.Buckets.{bucket_of}
use Rattle.irl_offer.specs.Tuple.{Tuple}
use Rattle.irl_array.specs.Waiting.{Waiting}
use Rattle.irl_model.specs.Book.{Book, part}
use Rattle.irl_disk.specs.Images.{Told}
use Rattle.irl_bay.specs.Drum.{Drum}
use Rattle.irl_schedule.specs.Feeding.{Waits, with_waiting, IsArrayOf, Keeps, moment, list_at, handed_in}
use Rattle.irl_schedule.specs.Scheduling.{Schedules}
use Rattle.irl_schedule.proofs.Counts.{waiting_here, waiting_elsewhere}
use Rattle.irl_schedule.specs.Arrays.{no_array, array_at, waiting_at, AreArrays}

-- ---- one array of some
pub array_here : (arrays : List Waiting) (b : ℕ) (array : Waiting) → b < length arrays → array_at (set arrays b array) b ≡ array
array_here arrays b array within = get_or-set_same arrays b array no_array within

pub array_elsewhere : (arrays : List Waiting) (b c : ℕ) (array : Waiting) → c ≢ b → array_at (set arrays b array) c ≡ array_at arrays c
array_elsewhere arrays b c array other = get_or-set_other arrays b c array no_array other

-- they go on standing in front of the buckets
pub arrays_set : (settings later : Settings) (arrays : List Waiting) (b : ℕ) (array : Waiting) → later ≡ settings → b < length arrays → AreArrays settings arrays → IsArrayOf settings b array
    → AreArrays later (set arrays b array)
arrays_set settings later arrays b array same within are is = subst (λ (s : Settings). AreArrays s (set arrays b array)) (sym same) (record {
  count = length-set arrays b array ∙ are.count;
  each = λ c inside. ⊎_elim
      (λ e. subst (λ (n : ℕ). IsArrayOf settings n (array_at (set arrays b array) n)) (sym e.1) (subst (IsArrayOf settings b) (sym (array_here arrays b array within)) is))
      (λ other. subst (IsArrayOf settings c) (sym (array_elsewhere arrays b c array other.1)) (are.each c inside))
      (eqb_tells c b);
})

-- ---- what waits
-- with the offers of one array in front of its bucket, all wait as they do
pub waits_same : (arrays : List Waiting) (b : ℕ) → with_waiting (waiting_at arrays) b (waiting_at arrays b) ≡ waiting_at arrays
waits_same arrays b = λ i c. at c i
  where
    at : (c : ℕ) → with_waiting (waiting_at arrays) b (waiting_at arrays b) c ≡ waiting_at arrays c
    at c = ⊎_elim
        (λ same. subst (λ (n : ℕ). with_waiting (waiting_at arrays) b (waiting_at arrays b) n ≡ waiting_at arrays n) (sym same.1) (waiting_here (waiting_at arrays) b (waiting_at arrays b)))
        (λ other. waiting_elsewhere (waiting_at arrays) b c (waiting_at arrays b) other.1)
        (eqb_tells c b)

pub waits_set : (arrays : List Waiting) (b : ℕ) (array : Waiting) → b < length arrays → with_waiting (waiting_at arrays) b array.items ≡ waiting_at (set arrays b array)
waits_set arrays b array within = λ i c. at c i
  where
    at : (c : ℕ) → with_waiting (waiting_at arrays) b array.items c ≡ waiting_at (set arrays b array) c
    at c = ⊎_elim
        (λ same. subst (λ (n : ℕ). with_waiting (waiting_at arrays) b array.items n ≡ waiting_at (set arrays b array) n) (sym same.1)
        (waiting_here (waiting_at arrays) b array.items ∙ ap (λ (a : Waiting). a.items) (sym (array_here arrays b array within))))
        (λ other. waiting_elsewhere (waiting_at arrays) b c array.items other.1 ∙ ap (λ (a : Waiting). a.items) (sym (array_elsewhere arrays b c array other.1)))
        (eqb_tells c b)

-- what a call with one array does to all of them
pub in_arrays : {A : Type 0} (result : Result A Fault) (e : ℕ) (u : ℕ → ℕ) (arrays : List Waiting) (b : ℕ) (was now : Waiting) (before after : Told) (old new : Drum) → b < length arrays
    → was ≡ array_at arrays b
    → ((others : Waits) → Schedules result e u [] (moment before old (with_waiting others b was.items)) (moment after new (with_waiting others b now.items)))
    → Schedules result e u [] (moment before old (waiting_at arrays)) (moment after new (waiting_at (set arrays b now)))
in_arrays result e u arrays b was now before after old new within is each =
    let from : with_waiting (waiting_at arrays) b was.items ≡ waiting_at arrays = ap (λ (a : Waiting). with_waiting (waiting_at arrays) b a.items) is ∙ waits_same arrays b in
    subst (λ (w : Waits). Schedules result e u [] (moment before old w) (moment after new (waiting_at (set arrays b now)))) from
    (subst (λ (w : Waits). Schedules result e u [] (moment before old (with_waiting (waiting_at arrays) b was.items)) (moment after new w)) (waits_set arrays b now within) (each (waiting_at arrays)))

-- an array that stays as it is
pub set_same : (arrays : List Waiting) (b : ℕ) (was now : Waiting) → was ≡ array_at arrays b → now ≡ was → set arrays b now ≡ arrays
set_same arrays b was now is same = ap (λ (a : Waiting). set arrays b a) (same ∙ is) ∙ set-get_or arrays b no_array

-- no array waits
pub none_waits : (arrays : List Waiting) (n b : ℕ) → length arrays ≤ n → ((c : ℕ) → c < n → waiting_at arrays c ≡ []) → waiting_at arrays b ≡ []
none_waits arrays n b all before = ⊎_elim
    (λ past. ap (λ (a : Waiting). a.items) (get_or_past arrays b no_array (omega (arith, past.1, all))))
    (λ within. before b within.1)
    (leb_tells n b)

-- nothing waits past the last of them
pub none_past : (arrays : List Waiting) (b : ℕ) → length arrays ≤ b → waiting_at arrays b ≡ []
none_past arrays b past = ap (λ (a : Waiting). a.items) (get_or_past arrays b no_array past)

-- ---- one offer
filtered : (p : Tuple → Bool) (offer : Tuple) (test : Bool) → p offer ≡ test → filter p (offer ∷ []) ≡ cond test (offer ∷ []) []
filtered p offer test is = ap (λ (t : Bool). cond t (offer ∷ []) []) is

part_here : (buckets b : ℕ) (offer : Tuple) → bucket_of buckets offer.key ≡ b → part buckets b (offer ∷ []) ≡ offer ∷ []
part_here buckets b offer is = filtered (λ (o : Tuple). nat_eq (bucket_of buckets o.key) b) offer true (eq-eqb (bucket_of buckets offer.key) b is)

part_elsewhere : (buckets c : ℕ) (offer : Tuple) → bucket_of buckets offer.key ≢ c → part buckets c (offer ∷ []) ≡ []
part_elsewhere buckets c offer not =
    ⊎_elim (λ same. absurd (not same.1)) (λ other. filtered (λ (o : Tuple). nat_eq (bucket_of buckets o.key) c) offer false other.0) (eqb_tells (bucket_of buckets offer.key) c)

-- an offer that is pushed is handed in
pub push_keeps : (settings : Settings) (x : Book) (arrays : List Waiting) (b room : ℕ) (offer : Tuple) (before after : Waiting) → b < length arrays → b ≡ bucket_of settings.buckets offer.key
    → before ≡ array_at arrays b → after ≡ record { room = room; items = before.items ++ offer ∷ [] } → Keeps settings x (waiting_at arrays) x (waiting_at (set arrays b after)) (offer ∷ [])
push_keeps settings x arrays b room offer before after within is was pushed = λ c inside. ⊎_elim (λ same. here c same.1) (λ other. elsewhere c other.1) (eqb_tells c b)
  where
    here : (c : ℕ) → c ≡ b → handed_in x (waiting_at (set arrays b after)) c ≡ handed_in x (waiting_at arrays) c ++ part settings.buckets c (offer ∷ [])
    here c same =
        let list = list_at x c in
        let waits : waiting_at (set arrays b after) c ≡ waiting_at arrays c ++ offer ∷ [] =
        ap (λ (n : ℕ). waiting_at (set arrays b after) n) same ∙ ap (λ (a : Waiting). a.items) (array_here arrays b after within ∙ pushed) ∙ ap (λ (a : Waiting). a.items ++ offer ∷ []) was
        ∙ ap (λ (n : ℕ). waiting_at arrays n ++ offer ∷ []) (sym same) in
        ap (λ (l : List Tuple). list ++ l) waits ∙ sym (append_assoc list (waiting_at arrays c) (offer ∷ []))
        ∙ ap (λ (l : List Tuple). handed_in x (waiting_at arrays) c ++ l) (sym (part_here settings.buckets c offer (sym is ∙ sym same)))

    elsewhere : (c : ℕ) → c ≢ b → handed_in x (waiting_at (set arrays b after)) c ≡ handed_in x (waiting_at arrays) c ++ part settings.buckets c (offer ∷ [])
    elsewhere c other =
        let list = list_at x c in
        ap (λ (a : Waiting). list ++ a.items) (array_elsewhere arrays b c after other) ∙ sym (append-nil (handed_in x (waiting_at arrays) c))
        ∙ ap (λ (l : List Tuple). handed_in x (waiting_at arrays) c ++ l) (sym (part_elsewhere settings.buckets c offer (λ same. other (sym same ∙ sym is))))
