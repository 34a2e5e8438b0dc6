-- What a call of a bay is for what waits in front of it, and what two calls are one after the other.
use Rattle.std.proofs.Common.{◌≡◌, ◌∙◌, ◌⊎◌, inl, inr, ⊎_elim, ℕ, ◌+◌, ◌-◌, ◌<◌, ◌≤◌, max, List, [], ◌∷◌, ◌++◌, length, length-append, lt_of_not-le, Result, Ok, Err, OnOk, OnErr, IsErrOf, refl, sym, ap, subst, arith}
use Rattle.std.proofs.lemmas.Bool.Decides.{eqb_tells}
use Rattle.std.proofs.lemmas.List.Elements.{recursion_from_All}
use Rattle.std.specs.Option.{ForSome}
use Rattle.irl_offer.specs.Buckets.{bucket_of}
use Rattle.irl_array.specs.Waiting.{Waiting}
use Rattle.irl_base.specs.declared.fault.Fault.{Fault}
use Rattle.irl_base.specs.declared.fault.Fault.TheVariants.{Failed, Full, Damaged}
use Rattle.irl_offer.specs.declared.settings.Settings.{Settings}
use Rattle.irl_offer.specs.Tuple.{Tuple}
use Rattle.irl_model.specs.Book.{Book, flushed, lengths_of}
use Rattle.irl_disk.specs.Disk.{ChangesOnly}
use Rattle.irl_disk.specs.Images.{Told, IsConsistent}
use Rattle.irl_disk.proofs.Stretches.{widens_by}
use Rattle.irl_layout.specs.BayFiles.{IsFileOf, IsBucketFile}
use Rattle.irl_layout.specs.Commits.{live_side}
use Rattle.irl_bay.specs.Drum.{Drum, IsDrum, SomePending, KeepsCounts, CountsFlush, durable_at, pending_at}
use Rattle.irl_bay.specs.Flushing.{MayFlush, Flushes, FlushRefused, FlushMayLeave}
use Rattle.irl_bay.specs.Holding.{Holds, GoesOn}
use Rattle.irl_bay.specs.Merges.{Merges, KeepsBook, MergeRefused, MergeMayLeave}
use Rattle.irl_bay.specs.Merging.{IsMergeFile}
use Rattle.irl_bay.specs.Spoilt.{IsSpoiltAt}
use Rattle.irl_bay.proofs.Apart.{bucket_files, merge_files}
use Rattle.irl_bay.proofs.DrumFiles.{live_low}
use Rattle.irl_bay.proofs.Staying.{only_wider}
use Rattle.irl_schedule.specs.Schedule.{IsDue, none_more, uneven_flush}
use Rattle.irl_schedule.specs.Feeding.{Waits, with_waiting, IsArrayOf, OnlyFlushes, CutsOnce, AddsCut, Keeps, Moment, moment, Moves, Stays, Fed, Feeds, Strands}
use Rattle.irl_schedule.specs.Scheduling.{Schedules}
use Rattle.irl_schedule.proofs.Chains.{keeps_same, feeds_both, feeds_more, feeds_none, stays_both, stays_same, stranded_after, stranded_more, none_before, tells_on, tells_wider}
use Rattle.irl_schedule.proofs.Counts.{flush_even, waiting_here, waiting_elsewhere, flushed_durable_here, flushed_durable_elsewhere, flushed_pending_here, flushed_pending_elsewhere, kept_durable, kept_grow, flushed_grow, merged_grow, kept_pending, merged_durable, merged_pending, moves_none, moves_both}
use Rattle.irl_schedule.proofs.Journals.{buckets_apart, journal_stays}
use Rattle.irl_schedule.proofs.Merging.{Merging, merging, merge_fed, unmerged_fed, emptied_journals, kept_journals, merge_stranded, spoilt_told}
use Rattle.irl_schedule.proofs.Outcomes.{by_answer, err_gives, err_weaker, ok_three, ok_five, unless_failed, not_full, same_refusal, fits_unless}
use Rattle.irl_schedule.proofs.Steps.{Flushing, Flushed, flushing, flush_fed, flush_stranded}

-- ---- a flush
-- of an array in front of a bucket that no merge is due for
pub may_flush : (b : ℕ) (array : Waiting) (drum : Drum) → b < drum.settings.buckets → IsArrayOf drum.settings b array → 1 ≤ length array.items → pending_at drum b < drum.settings.trigger
    → MayFlush b array.items drum
may_flush b array drum within is some pending = record {
  bucket = within;
  some = some;
  few = is.few;
  offers = recursion_from_All (λ (offer : Tuple). bucket_of drum.settings.buckets offer.key ≡ b) array.items is.offers;
  pending = pending;
}

-- and of one that is full
pub may_flush_full : (b : ℕ) (array : Waiting) (drum : Drum) → IsDrum drum → b < drum.settings.buckets → IsArrayOf drum.settings b array → (IsDue drum → ⊥) → array.room ≤ length array.items
    → MayFlush b array.items drum
may_flush_full b array drum law within is ready full =
    may_flush b array drum within is (omega (arith, full, is.room, law.settings.sizes.array)) (lt_of_not-le (λ le. ready (b, within, le)))

module _ {S : Type 0} (told : S → Told) (lawful : (s : S) → IsConsistent (told s)) (result : Result Unit Fault) (b : ℕ) (was now : Waiting) (old new : Drum) (before after : S) (others : Waits)
    (law : IsDrum old) (may : MayFlush b was.items old) (flushes : Flushes result b was now old new (told before) (told after)) (refused : FlushRefused result b was now old new before after)
    (leaves : FlushMayLeave (IsErrOf result Failed) b was.items old (told before) (told after)) (goes_on : GoesOn (IsErrOf result Failed) new (told after)) where
  abbrev from : Moment
  from = moment (told before) old (with_waiting others b was.items)

  abbrev to : Moment
  to = moment (told after) new (with_waiting others b now.items)

  -- only the bucket's numbers change, and only at Ok
  pub flush_counts : OnlyFlushes b old new
  flush_counts = by_answer result flushes.counts refused.counts
      (λ counts. record { last = counts.last; cuts = counts.cuts; others = λ c other. flushed_durable_elsewhere b (length was.items) c old new other counts })
      (λ counts. record { last = counts.last; cuts = counts.cuts; others = λ c other. kept_durable old new c counts })

  unchanged : (told after ≡ told before) × (new ≡ old) → now ≡ was → Feeds 0 (uneven_flush old.settings.array b was.items) [] from to
  unchanged same array =
      feeds_more 0 0 none_more (uneven_flush old.settings.array b was.items) [] from to (omega arith) (λ n. omega arith)
      (feeds_none from to (lawful before) law same.0 same.1 (ap (λ (a : Waiting). with_waiting others b a.items) array))

  flush_fits : (IsErrOf result (Full b) → ⊥) → durable_at old b + length was.items ≤ old.settings.cap
  flush_fits not = fits_unless (durable_at old b + length was.items) old.settings.cap (λ passes. not (refused.full_first passes))

  flush_feeds : (IsErrOf result Failed → ⊥) → Feeds 0 (uneven_flush old.settings.array b was.items) [] from to
  flush_feeds sound = unless_failed result (Feeds 0 (uneven_flush old.settings.array b was.items) [] from to) sound
      (ok_five result flushes.holds flushes.counts flushes.not_full flushes.gains flushes.emptied (λ gives counts fits gains emptied. λ files is x holds.
      let flush : Flushing b was.items from to = flushing (IsErrOf result Failed) b was.items from to law may (sym (waiting_here others b was.items)) fits leaves in
      let done : Flushed b was.items from to = record {
        emptied = waiting_here others b now.items ∙ ap (λ (a : Waiting). a.items) emptied;
        others = λ c other. waiting_elsewhere others b c now.items other ∙ sym (waiting_elsewhere others b c was.items other);
        settings = counts.settings;
        holds = gives;
        gains = gains;
        records_kept = λ y c payloads other within held has.
            journal_stays (IsBucketFile old.base (live_side old.last) b) (told before) (told after) old new (flushed b was.items y) c payloads law goes_on.drum (lawful after) within
            (buckets_apart old.base (live_side old.last) c b _ other (inl refl)) leaves.others.stops counts.base counts.settings counts.last (gives y held) has;
      } in
      flush_fed b was.items from to x flush done holds))
      (λ memory. let same = refused.memory_same memory in unchanged (ap told same.0, same.1) (err_gives result _ refused.array memory))
      (λ n full. let same = refused.full_same n full in unchanged (ap told same.0, same.1) (err_gives result _ refused.array full))
      (λ f at damaged. absurd (refused.damaged f at damaged))

  flush_strands : IsErrOf result Failed → Strands 0 (uneven_flush old.settings.array b was.items) [] from to
  flush_strands failed = λ files is x holds.
      let same : now ≡ was = err_gives result _ refused.array failed in
      let keeps : Keeps old.settings x from.waits x to.waits [] = subst (λ (l : Waits). Keeps old.settings x from.waits x l []) (ap (λ (a : Waiting). with_waiting others b a.items) (sym same))
      (keeps_same old.settings x from.waits) in
      let fits = flush_fits (λ full. not_full result b failed full) in
      let flush : Flushing b was.items from to = flushing (IsErrOf result Failed) b was.items from to law may (sym (waiting_here others b was.items)) fits leaves in
      flush_stranded b was.items from to x (lawful after) keeps flush holds

  flush_stays : Stays from to
  flush_stays =
      let low = live_low old.last.live law.last.live in
      let are : (f : ℕ) → IsBucketFile old.base (live_side old.last) b f → IsFileOf old.base old.settings.buckets f = λ f is.
      bucket_files old.base old.settings.buckets (live_side old.last) b f may.bucket is low in
      record {
        settings = by_answer result flushes.counts refused.counts (λ counts. counts.settings) (λ counts. counts.settings);
        base = by_answer result flushes.counts refused.counts (λ counts. counts.base) (λ counts. counts.base);
        grows = by_answer result flushes.counts refused.counts (λ counts. flushed_grow b (length was.items) old new law may.bucket counts) (λ counts. kept_grow old new counts);
        others = tells_wider (IsBucketFile old.base (live_side old.last) b) (IsFileOf old.base old.settings.buckets) _ _ are leaves.others.told;
        others_stop = widens_by _ _ (ChangesOnly (IsBucketFile old.base (live_side old.last) b)) (ChangesOnly (IsFileOf old.base old.settings.buckets)) leaves.others.stops
            (λ x y. only_wider (IsBucketFile old.base (live_side old.last) b) (IsFileOf old.base old.settings.buckets) x y are);
        bound = λ d inside. ⊎_elim
            (λ same. subst (λ (n : ℕ). pending_at new n ≤ max (old.settings.trigger + old.settings.array - 1) (pending_at old n)) (sym same.1)
            (by_answer result flushes.counts refused.counts
            (λ counts. let more = flushed_pending_here b (length was.items) old new law may.bucket counts in omega (arith, more, may.few, may.pending))
            (λ counts. omega (arith, kept_pending old new b counts))))
            (λ other. by_answer result flushes.counts refused.counts
            (λ counts. omega (arith, flushed_pending_elsewhere b (length was.items) d old new other.1 counts))
            (λ counts. omega (arith, kept_pending old new d counts)))
            (eqb_tells d b);
      }

  flush_moves : (c : ℕ) → Moves from to c
  flush_moves c = ⊎_elim
      (λ same. subst (λ (n : ℕ). Moves from to n) (sym same.1) here)
      (λ other. moves_none from to c (waiting_elsewhere others b c now.items other.1 ∙ sym (waiting_elsewhere others b c was.items other.1)) (flush_counts.others c other.1))
      (eqb_tells c b)
    where
      gone : CountsFlush b (length was.items) old new × (now ≡ record { room = was.room; items = [] }) → Moves from to b
      gone ok = inr (
        waiting_here others b now.items ∙ ap (λ (a : Waiting). a.items) ok.1,
        omega (arith, flushed_durable_here b (length was.items) old new law may.bucket ok.0, ap (λ (l : List Tuple). length l) (waiting_here others b was.items)),
      )

      stayed : KeepsCounts old new × (now ≡ was) → Moves from to b
      stayed err = inl (
        waiting_here others b now.items ∙ ap (λ (a : Waiting). a.items) err.1 ∙ sym (waiting_here others b was.items),
        kept_durable old new b err.0,
      )

      by : (r : Result Unit Fault) → OnOk r (CountsFlush b (length was.items) old new) → OnOk r (now ≡ record { room = was.room; items = [] }) → OnErr r (KeepsCounts old new) → OnErr r (now ≡ was)
          → Moves from to b
      by (Ok value) counts emptied kept array = gone (counts, emptied)
      by (Err fault) counts emptied kept array = stayed (kept, array)

      here : Moves from to b
      here = by result flushes.counts flushes.emptied refused.counts refused.array

  flush_full : (n : ℕ) → IsErrOf result (Full n) → (n < old.settings.buckets) × (1 ≤ length (to.waits n)) × (old.settings.cap < durable_at new n + length (to.waits n))
  flush_full n full =
      let why = refused.full n full in
      let same = refused.full_same n full in
      let array : now ≡ was = err_gives result _ refused.array full in
      let waits : length (to.waits b) ≡ length was.items = ap (λ (l : List Tuple). length l) (waiting_here others b now.items ∙ ap (λ (a : Waiting). a.items) array) in
      let durable : durable_at new b ≡ durable_at old b = ap (λ (d : Drum). durable_at d b) same.1 in
      subst (λ (m : ℕ). (m < old.settings.buckets) × (1 ≤ length (to.waits m)) × (old.settings.cap < durable_at new m + length (to.waits m))) (sym why.0)
      (may.bucket, omega (arith, waits, may.some), omega (arith, waits, durable, why.1))

  pub flush_schedules : Schedules result 0 (uneven_flush old.settings.array b was.items) [] from to
  flush_schedules = record {
    stays = flush_stays;
    fed = flush_feeds;
    stranded = flush_strands;
    moves = flush_moves;
    cut = inl (flush_counts.cuts, flush_counts.last);
    judged_kept = err_weaker result refused.counts (λ counts. (counts.cuts, counts.last));
    full = flush_full;
    damaged = λ f at is. absurd (refused.damaged f at is);
    whole = λ f at is. absurd (refused.damaged f at is);
    cause = leaves.others.cause;
  }

-- ---- a merge
-- where one is due an offer is unjudged
pub some_due : (drum : Drum) → IsDrum drum → IsDue drum → SomePending drum
some_due drum law due = (due.0, due.1, omega (arith, due.2, law.settings.sizes.trigger))

module _ (result : Result ℕ Fault) (old new : Drum) (before after : Told) (waits : Waits) (early : ℕ)
    (lawful : IsConsistent after) (law : IsDrum old) (pending : SomePending old) (merges : Merges result old new before after) (refused : MergeRefused result old new before after)
    (leaves : MergeMayLeave (IsErrOf result Failed) old before after) (why : IsDue old ⊎ (1 ≤ early)) where
  abbrev merge_from : Moment
  merge_from = moment before old waits

  abbrev merge_to : Moment
  merge_to = moment after new waits

  merge_is : Merging merge_from merge_to
  merge_is = merging (IsErrOf result Failed) merge_from merge_to pending refl leaves

  not_merged : KeepsBook old new before after → Feeds early none_more [] merge_from merge_to
  not_merged kept = λ files is x holds.
      unmerged_fed early merge_from merge_to x law merge_is kept.writes.stops holds (kept.holds x holds) (kept_journals merge_from merge_to lawful law kept.same kept.writes.stops)

  merge_feeds : (IsErrOf result Failed → ⊥) → Feeds early none_more [] merge_from merge_to
  merge_feeds sound = unless_failed result (Feeds early none_more [] merge_from merge_to) sound
      (ok_three result merges.holds merges.counts merges.emptied (λ gives counts emptied. λ files is x holds.
      merge_fed early merge_from merge_to x law merge_is why holds (gives files is x holds) (emptied_journals merge_from merge_to counts.settings emptied)))
      (λ memory. not_merged (refused.memory memory))
      (λ n full. absurd (refused.full n full))
      (λ f at damaged. not_merged (refused.damaged f at damaged))

  merge_stays : Stays merge_from merge_to
  merge_stays = record {
    settings = by_answer result merges.counts refused.counts (λ counts. counts.settings) (λ counts. counts.settings);
    base = by_answer result merges.counts refused.counts (λ counts. counts.base) (λ counts. counts.base);
    grows = by_answer result merges.counts refused.counts (λ counts. merged_grow old new counts) (λ counts. kept_grow old new counts);
    others = tells_wider (IsMergeFile old) (IsFileOf old.base old.settings.buckets) _ _ (merge_files old) leaves.others.told;
    others_stop = widens_by _ _ (ChangesOnly (IsMergeFile old)) (ChangesOnly (IsFileOf old.base old.settings.buckets)) leaves.others.stops
        (λ x y. only_wider (IsMergeFile old) (IsFileOf old.base old.settings.buckets) x y (merge_files old));
    bound = λ b inside. by_answer result merges.counts refused.counts (λ counts. omega (arith, merged_pending b old new counts)) (λ counts. omega (arith, kept_pending old new b counts));
  }

  pub merge_schedules : Schedules result early none_more [] merge_from merge_to
  merge_schedules = record {
    stays = merge_stays;
    fed = merge_feeds;
    stranded = λ failed files is x holds. merge_stranded early merge_from merge_to x lawful law merge_is why holds;
    moves = λ b. moves_none merge_from merge_to b refl (by_answer result merges.counts refused.counts (λ counts. merged_durable old new b counts) (λ counts. kept_durable old new b counts));
    cut = by_answer result merges.counts refused.counts (λ counts. inr (counts.cuts, λ b. merged_pending b old new counts)) (λ counts. inl (counts.cuts, counts.last));
    judged_kept = err_weaker result refused.counts (λ counts. (counts.cuts, counts.last));
    full = λ n is. absurd (refused.full n is);
    damaged = λ f at is.
        let kept = refused.damaged f at is in
        subst (λ (d : Drum). ForSome after.files (λ files. IsSpoiltAt d files f at)) (sym kept.same)
        (spoilt_told old before.files after.files f at law kept.writes.told (refused.spoilt f at is));
    whole = λ f at is. refused.whole f at is;
    cause = leaves.others.cause;
  }

-- ---- one call after another
-- nothing was done
pub schedules_none : {A : Type 0} (a : A) (now : Moment) → IsConsistent now.store → IsDrum now.drum → Schedules (Ok a) 0 none_more [] now now
schedules_none a now consistent law = record {
  stays = stays_same now now consistent refl refl;
  fed = λ sound. feeds_none now now consistent law refl refl refl;
  stranded = λ is. let no : ⊥ = cc in absurd no;
  moves = λ b. moves_none now now b refl refl;
  cut = inl (refl, refl);
  judged_kept = tt;
  full = λ n is. let no : ⊥ = cc in absurd no;
  damaged = λ f at is. let no : ⊥ = cc in absurd no;
  whole = λ f at is. let no : ⊥ = cc in absurd no;
  cause = record { later = omega arith; rose = λ is. let no : ⊥ = cc in absurd no };
}

-- it may be said with greater numbers
pub schedules_more : {A : Type 0} (result : Result A Fault) (e d : ℕ) (u v : ℕ → ℕ) (xs : List Tuple) (old new : Moment) → e ≤ d → ((b : ℕ) → u b ≤ v b) → Schedules result e u xs old new
    → Schedules result d v xs old new
unfolding stranded_more
schedules_more result e d u v xs old new le more one = record {
  stays = one.stays;
  fed = λ sound. feeds_more e d u v xs old new le more (one.fed sound);
  stranded = λ failed files told x holds. let has = one.stranded failed files told x holds in (stranded_more e d u v xs old new x le more has.0, has.1, has.2, has.3);
  moves = one.moves;
  cut = one.cut;
  judged_kept = one.judged_kept;
  full = one.full;
  damaged = one.damaged;
  whole = one.whole;
  cause = one.cause;
}

-- the same answer of a call that would have given something else
pub schedules_ok : {A B : Type 0} (a : A) (b : B) (e : ℕ) (u : ℕ → ℕ) (xs : List Tuple) (old new : Moment) → Schedules {A = A} (Ok a) e u xs old new → Schedules {A = B} (Ok b) e u xs old new
schedules_ok a b e u xs old new one = record {
  stays = one.stays;
  fed = λ sound. one.fed (λ is. let no : ⊥ = cc in absurd no);
  stranded = λ is. let no : ⊥ = cc in absurd no;
  moves = one.moves;
  cut = one.cut;
  judged_kept = tt;
  full = λ n is. let no : ⊥ = cc in absurd no;
  damaged = λ f at is. let no : ⊥ = cc in absurd no;
  whole = λ f at is. let no : ⊥ = cc in absurd no;
  cause = record { later = one.cause.later; rose = λ is. let no : ⊥ = cc in absurd no };
}

pub schedules_err : {A B : Type 0} (fault : Fault) (e : ℕ) (u : ℕ → ℕ) (xs : List Tuple) (old new : Moment) → Schedules {A = A} (Err fault) e u xs old new
    → Schedules {A = B} (Err fault) e u xs old new
schedules_err {A = A} {B = B} fault e u xs old new one = record {
  stays = one.stays;
  fed = λ sound. one.fed (λ is. sound (same_refusal {T = A} {U = B} fault Failed is));
  stranded = λ is. one.stranded (same_refusal {T = B} {U = A} fault Failed is);
  moves = one.moves;
  cut = one.cut;
  judged_kept = one.judged_kept;
  full = λ n is. one.full n (same_refusal {T = B} {U = A} fault (Full n) is);
  damaged = λ f at is. one.damaged f at (same_refusal {T = B} {U = A} fault (Damaged f at) is);
  whole = λ f at is. one.whole f at (same_refusal {T = B} {U = A} fault (Damaged f at) is);
  cause = record { later = one.cause.later; rose = λ is. one.cause.rose (same_refusal {T = B} {U = A} fault Failed is) };
}

pub answers_ok : {A B : Type 0} (result : Result A Fault) (a : A) (b : B) (e : ℕ) (u : ℕ → ℕ) (xs : List Tuple) (old new : Moment) → result ≡ Ok a → Schedules result e u xs old new
    → Schedules {A = B} (Ok b) e u xs old new
answers_ok {A = A} {B = B} result a b e u xs old new is one =
    schedules_ok a b e u xs old new (subst (λ (r : Result A Fault). Schedules r e u xs old new) is one)

pub answers_err : {A B : Type 0} (result : Result A Fault) (fault : Fault) (e : ℕ) (u : ℕ → ℕ) (xs : List Tuple) (old new : Moment) → result ≡ Err fault → Schedules result e u xs old new
    → Schedules {A = B} (Err fault) e u xs old new
answers_err {A = A} {B = B} result fault e u xs old new is one =
    schedules_err {A = A} {B = B} fault e u xs old new (subst (λ (r : Result A Fault). Schedules r e u xs old new) is one)

-- no cut more where there are as many
longer : (xs ys : List (List ℕ)) → length (xs ++ ys) ≡ length xs → xs ++ ys ≡ xs
longer [] [] same = refl
longer [] (y ∷ ys) same = absurd (omega (arith, same))
longer (x ∷ xs) ys same = ap (λ (l : List (List ℕ)). x ∷ l) (longer xs ys (omega (arith, same)))

uncut : (e : ℕ) (u : ℕ → ℕ) (xs : List Tuple) (old mid : Moment) (x : Book) → mid.drum.cuts ≡ old.drum.cuts → Holds old.store.images old.drum x → (one : Fed e u xs old mid x) → one.book.cuts ≡ x.cuts
uncut e u xs old mid x cuts holds one =
    let count : length (x.cuts ++ one.grows.cuts) ≡ length x.cuts = omega (
      arith,
      cuts,
      holds.numbers.cuts,
      one.holds.numbers.cuts,
      holds.book_is.dropped,
      one.holds.book_is.dropped,
      ap (λ (l : List (List ℕ)). length l) one.grows.cuts_are,
    ) in
    one.grows.cuts_are ∙ longer x.cuts one.grows.cuts count

cuts_from : (y x z : Book) → y.cuts ≡ x.cuts → CutsOnce y z → CutsOnce x z
cuts_from y x z same (inl none) = inl (none ∙ same)
cuts_from y x z same (inr one) = inr (one ∙ ap (λ (l : List (List ℕ)). l ++ lengths_of z ∷ []) same)

cut_after : (old mid new : Drum) → mid.cuts ≡ old.cuts → mid.last ≡ old.last → AddsCut mid new → AddsCut old new
cut_after old mid new cuts last (inl none) = inl (none.0 ∙ cuts, none.1 ∙ last)
cut_after old mid new cuts last (inr one) = inr (one.0 ∙ ap (λ (n : ℕ). n + 1) cuts, one.1)

-- one cut is added at most
pub cut_few : (old new : Drum) → AddsCut old new → new.cuts ≤ old.cuts + 1
cut_few old new (inl none) = omega (arith, none.0)
cut_few old new (inr one) = omega (arith, one.0)

pub cuts_few : (x y : Book) → CutsOnce x y → length y.cuts ≤ length x.cuts + 1
cuts_few x y (inl none) = omega (arith, ap (λ (l : List (List ℕ)). length l) none)
cuts_few x y (inr one) = omega (arith, ap (λ (l : List (List ℕ)). length l) one, length-append x.cuts (lengths_of y ∷ []))

-- a call that adds no cut, and then another
pub schedules_then : {A B : Type 0} (a : A) (result : Result B Fault) (e d : ℕ) (u v : ℕ → ℕ) (xs ys : List Tuple) (old mid new : Moment) → IsConsistent mid.store
    → mid.drum.last ≡ old.drum.last → mid.drum.cuts ≡ old.drum.cuts → Schedules {A = A} (Ok a) e u xs old mid → Schedules result d v ys mid new
    → Schedules result (e + d) (λ b. u b + v b) (xs ++ ys) old new
unfolding stranded_after
schedules_then a result e d u v xs ys old mid new consistent last cuts first second =
    let fed = first.fed (λ is. let no : ⊥ = cc in absurd no) in
    record {
      stays = stays_both old mid new consistent first.stays second.stays;
      fed = λ sound. feeds_both e d u v xs ys old mid new first.stays fed (second.fed sound);
      stranded = λ failed files told x holds.
          let one = fed files told x holds in
          let after = tells_on _ old.store.files mid.store.files files first.stays.others told in
          let has = second.stranded failed after.0 after.1 one.book one.holds in
          let same = uncut e u xs old mid x cuts holds one in
          (stranded_after e d u v xs ys old mid new x first.stays one has.0, has.1 ∙ same, cuts_from one.book x has.0.book same has.2, cuts_from one.book x has.0.most same has.3);
      moves = λ b. moves_both old mid new b (first.moves b) (second.moves b);
      cut = cut_after old.drum mid.drum new.drum cuts last second.cut;
      judged_kept = err_weaker result second.judged_kept (λ kept. (kept.0 ∙ cuts, kept.1 ∙ last));
      full = λ n is.
          let why = second.full n is in
          let settings = first.stays.settings in (
            subst (λ (s : Settings). n < s.buckets) settings why.0,
            why.1,
            subst (λ (s : Settings). s.cap < durable_at new.drum n + length (new.waits n)) settings why.2,
          );
      damaged = second.damaged;
      whole = λ f at is. none_before e u xs old mid first.stays fed (second.whole f at is);
      cause = record { later = omega (arith, first.cause.later, second.cause.later); rose = λ is. let r = second.cause.rose is in omega (arith, first.cause.later, r) };
    }

-- ---- room that is made
-- a whole array is flushed
pub flush_whole : (result : Result Unit Fault) (b : ℕ) (array : Waiting) (settings : Settings) (old new : Moment) → IsArrayOf settings b array → array.room ≤ length array.items
    → Schedules result 0 (uneven_flush settings.array b array.items) [] old new → Schedules result 0 none_more [] old new
flush_whole result b array settings old new is full one =
    let whole : length array.items ≡ settings.array = omega (arith, full, is.room, is.few) in
    schedules_more result 0 0 (uneven_flush settings.array b array.items) none_more [] old new (omega arith) (λ n. flush_even settings.array b array.items n whole) one

-- and then a merge runs that is due
pub flush_then : {A B : Type 0} (result : Result A Fault) (a : A) (next : Result B Fault) (b : ℕ) (old mid new : Moment) → result ≡ Ok a → IsConsistent mid.store → OnlyFlushes b old.drum mid.drum
    → Schedules result 0 none_more [] old mid → Schedules next 0 none_more [] mid new → Schedules next 0 none_more [] old new
flush_then result a next b old mid new is consistent counts first second =
    schedules_then a next 0 0 none_more none_more [] [] old mid new consistent counts.last counts.cuts (answers_ok result a a 0 none_more [] old mid is first) second
