-- What one merge of a bay does for what waits in front of it.
use Rattle.std.proofs.Common.{◌≡◌, ◌≢◌, ◌∙◌, ◌⊎◌, inl, inr, ⊎_elim, ℕ, zero, suc, ◌+◌, ◌<◌, ◌≤◌, Bool, true, false, cond, ◌||◌, List, [], ◌∷◌, ◌++◌, length, nat_le, slice_index, Option, None, Some, refl, sym, ap, subst, append-nil, arith}
use Rattle.std.proofs.Math.Bool.{or-true}
use Rattle.std.proofs.lemmas.Bool.Decides.{nat_tests}
use Rattle.std.specs.Option.{ForSome}
use Rattle.irl_offer.specs.declared.entry.Entry.{Entry}
use Rattle.irl_offer.specs.declared.settings.Settings.{Settings}
use Rattle.irl_offer.specs.Tuple.{Tuple}
use Rattle.irl_model.specs.Book.{Book, IsFront, lengths_of, judged_cut, last_cut, merged}
use Rattle.irl_model.proofs.FrontLaws.{front_same, merged_front, merged_book}
use Rattle.irl_disk.specs.Disk.{Files, TellsBy}
use Rattle.irl_disk.specs.Images.{IsConsistent, Follows, Leaves, LeavesBy}
use Rattle.irl_disk.proofs.Stretches.{widens, left_now}
use Rattle.irl_bay.specs.declared.bucket.Bucket.{Bucket}
use Rattle.irl_layout.specs.Commits.{HasLiveRecords}
use Rattle.irl_bay.specs.Drum.{Drum, IsDrum, bucket_at, durables, pending_at, SomePending}
use Rattle.irl_bay.specs.Holding.{Holds, Becomes}
use Rattle.irl_bay.specs.Merges.{MergeMayLeave}
use Rattle.irl_bay.specs.Merging.{KeepsCommitted, IsMergeFile}
use Rattle.irl_bay.specs.Pending.{IsSpoiltBucket, HasEntries, HasRunsTo}
use Rattle.irl_bay.specs.Spoilt.{IsSpoiltAt, FallsAt}
use Rattle.irl_bay.specs.Standing.{IsBookOf, Stands}
use Rattle.irl_bay.proofs.MergeFrames.{batch_stays, holds_written, tail_moved}
use Rattle.irl_bay.proofs.Standing.{holds_stands}
use Rattle.irl_schedule.specs.Schedule.{IsDue, has_enough, early_cuts, uneven_records, AddsUneven, HasJournal, HaveRecords, LeavesUneven, none_more}
use Rattle.irl_schedule.specs.Feeding.{Waits, handed_in, list_at, length_at, FewUnjudged, Grows, Keeps, CutsOnce, HasBetween, Moment, Fed, Stranded}
use Rattle.irl_schedule.proofs.Chains.{few_same, grows_same, grows_more}
use Rattle.irl_schedule.proofs.Counts.{durable_index, length-durables}
use Rattle.irl_schedule.proofs.Steps.{HasOneOf, Uncut, no_first, durable_held, choose, leaves_all, told_these, told_none, told_one}

-- ---- a merge that is due
or_true : (a b : Bool) → b ≡ true → a || b ≡ true
or_true a b is = ap (λ (t : Bool). a || t) is ∙ or-true a

enough : (trigger : ℕ) (from to : List ℕ) (b : ℕ) → b < length from → b < length to → slice_index from b + trigger ≤ slice_index to b → has_enough trigger from to ≡ true
enough trigger [] to b within inside le = absurd (omega (arith, within))
enough trigger (first ∷ from) [] b within inside le = absurd (omega (arith, inside))
enough trigger (first ∷ from) (last ∷ to) zero within inside le =
    let here : nat_le (first + trigger) last ≡ true = grind (arith, nat_tests) in
    ap (λ (t : Bool). t || has_enough trigger from to) here
enough trigger (first ∷ from) (last ∷ to) (suc b) within inside le = or_true (nat_le (first + trigger) last) (has_enough trigger from to)
    (enough trigger from to b (omega (arith, within)) (omega (arith, inside)) le)

due_enough : (images : Files → Type 0) (urls : Drum) (x : Book) → IsDrum urls → Holds images urls x → IsDue urls → has_enough urls.settings.trigger (judged_cut x) (lengths_of x) ≡ true
due_enough images urls x law holds due =
    let numbers = holds.numbers in
    let b = due.0 in
    let counted : has_enough urls.settings.trigger urls.last.cut (durables urls) ≡ true =
    enough urls.settings.trigger urls.last.cut (durables urls) b (omega (arith, law.last.count, due.1)) (omega (arith, length-durables urls, law.count, due.1))
    (omega (arith, durable_index urls b, due.2, law.settings.sizes.trigger)) in
    subst (λ (from : List ℕ). has_enough urls.settings.trigger from (lengths_of x) ≡ true) numbers.commit.cut
    (subst (λ (to : List ℕ). has_enough urls.settings.trigger urls.last.cut to ≡ true) numbers.offers counted)

one_cut : (trigger early : ℕ) (from to : List ℕ) (test : Bool) → has_enough trigger from to ≡ test → (test ≡ true) ⊎ (1 ≤ early) → early_cuts trigger from (to ∷ []) ≤ early
one_cut trigger early from to true is why = let none : early_cuts trigger from (to ∷ []) ≡ 0 = ap (λ (t : Bool). cond t 0 1 + 0) is in omega (arith, none)
one_cut trigger early from to false is (inl due) = let no : ⊥ = cc in absurd no
one_cut trigger early from to false is (inr le) = let one : early_cuts trigger from (to ∷ []) ≡ 1 = ap (λ (t : Bool). cond t 0 1 + 0) is in omega (arith, one, le)

-- and all is judged
numbers_same : (images : Files → Type 0) (urls : Drum) (x : Book) (b : ℕ) → Holds images urls x → b < urls.settings.buckets → slice_index (lengths_of x) b ≡ length_at x b
numbers_same images urls x b holds within =
    let at = ap (λ (l : List ℕ). slice_index l b) holds.numbers.offers in
    let durable = durable_held images urls x b holds within in
    omega (arith, sym at, durable_index urls b, durable, no_first images urls x b holds within)

last_one : (from : List ℕ) (cuts : List (List ℕ)) (cut : List ℕ) → last_cut from (cuts ++ cut ∷ []) ≡ cut
last_one from [] cut = refl
last_one from (first ∷ cuts) cut = last_one first cuts cut

cut_waits : (images : Files → Type 0) (urls : Drum) (x : Book) → Holds images urls x → FewUnjudged urls.settings x (merged x)
cut_waits images urls x holds = λ b within.
    let cut = ap (λ (l : List ℕ). slice_index l b) (last_one x.firsts x.cuts (lengths_of x)) in
    omega (arith, cut, numbers_same images urls x b holds within)

-- the book with the cut is one that files may stand for
differs : (images : Files → Type 0) (urls : Drum) (x : Book) → Holds images urls x → SomePending urls → judged_cut x ≢ lengths_of x
differs images urls x holds some = λ same.
    let numbers = holds.numbers in
    let b = some.0 in
    let at = ap (λ (l : List ℕ). slice_index l b) (numbers.commit.cut ∙ same ∙ sym numbers.offers) in
    omega (arith, at, durable_index urls b, some.2)

cut_legal : (images : Files → Type 0) (urls : Drum) (x : Book) → IsDrum urls → Holds images urls x → SomePending urls → IsBookOf urls.settings (merged x)
cut_legal images urls x law holds some =
    let is = holds.book_is in
    record { is_book = merged_book x is.is_book (differs images urls x holds some); buckets = is.buckets; rule = is.rule; dropped = is.dropped }

cut_grows : (early : ℕ) (images : Files → Type 0) (urls : Drum) (x : Book) → IsDrum urls → Holds images urls x → IsDue urls ⊎ (1 ≤ early) → Grows urls.settings early x (merged x)
cut_grows early images urls x law holds why = record {
  front = merged_front x;
  fits = λ b within. inl refl;
  cuts = lengths_of x ∷ [];
  cuts_are = refl;
  early_are = one_cut urls.settings.trigger early (judged_cut x) (lengths_of x) (has_enough urls.settings.trigger (judged_cut x) (lengths_of x)) refl
      (⊎_elim (λ due. inl (due_enough images urls x law holds due)) (λ le. inr le) why);
  waits = cut_waits images urls x holds;
}

-- ---- what a merge says of stops, whatever it answers
pub record Merging (old new : Moment) : Type 0 where
  pub later : old.store.moment ≤ new.store.moment
  pub pending : SomePending old.drum
  pub waiting : new.waits ≡ old.waits
  pub stops : (book : Book) → Holds old.store.images old.drum book → Leaves old.store new.store (HasOneOf old.drum.base old.drum.settings book (merged book))
  pub records_stop : (book : Book) (b : ℕ) (payloads : List (List ℕ)) → b < old.drum.settings.buckets → Holds old.store.images old.drum book
      → HasJournal old.store.images old.drum b payloads
      → Leaves old.store new.store (λ image. HasLiveRecords old.drum.base old.drum.settings.buckets b payloads image
      ⊎ HasLiveRecords old.drum.base old.drum.settings.buckets b [] image)

-- it is what a merge may leave
pub merging : (failed : Type 0) (old new : Moment) → SomePending old.drum → new.waits ≡ old.waits → MergeMayLeave failed old.drum old.store new.store → Merging old new
merging failed old new pending waiting leaves = record {
  later = leaves.others.stops.later;
  pending = pending;
  waiting = waiting;
  stops = λ x holds. widens old.store new.store (Follows (Becomes (IsMergeFile old.drum) old.drum.base old.drum.settings x (merged x)) old.store.images) _ (leaves.stops x holds)
      (λ image from. from.2.stands);
  records_stop = λ x b payloads within holds has. leaves.records x b payloads holds within has;
}

-- the records of a live journal in an image, which are no more uneven than those before
abbrev AreFewer : Drum → (ℕ → List (List ℕ)) → Files → ℕ → List (List ℕ) → Type 0
AreFewer urls was image b payloads = HasLiveRecords urls.base urls.settings.buckets b payloads image × (uneven_records urls.settings.array payloads ≤ uneven_records urls.settings.array (was b))

same_or_empty : (urls : Drum) (was : ℕ → List (List ℕ)) (image : Files) (b : ℕ) → HasLiveRecords urls.base urls.settings.buckets b (was b) image
    ⊎ HasLiveRecords urls.base urls.settings.buckets b [] image → (payloads : List (List ℕ)) × AreFewer urls was image b payloads
same_or_empty urls was image b (inl same) = (was b, (same, omega arith))
same_or_empty urls was image b (inr empty) = ([], (empty, omega arith))

fewer_uneven : (urls : Drum) (was : ℕ → List (List ℕ)) (image : Files) → ((b : ℕ) → b < urls.settings.buckets → (payloads : List (List ℕ)) × AreFewer urls was image b payloads)
    → LeavesUneven none_more urls was image
fewer_uneven urls was image each =
    let chosen = choose urls.settings.buckets (AreFewer urls was image) each in
    (chosen.0, λ b within. (chosen.1 b within).0, λ b within. omega (arith, (chosen.1 b within).1))

merge_records_stop : (old new : Moment) (x : Book) (was : ℕ → List (List ℕ)) → Merging old new → Holds old.store.images old.drum x → HaveRecords old.store.images old.drum was
    → Leaves old.store new.store (LeavesUneven none_more old.drum was)
merge_records_stop old new x was merge holds have =
    let urls = old.drum in
    widens old.store new.store _ _ (leaves_all urls.settings.buckets old.store new.store (λ b image. HasLiveRecords urls.base urls.settings.buckets b (was b) image
    ⊎ HasLiveRecords urls.base urls.settings.buckets b [] image) merge.later
    (λ b within. merge.records_stop x b (was b) within holds (have b within)))
    (λ image has. fewer_uneven urls was image (λ b within. same_or_empty urls was image b (has b within)))

merge_between : (old new : Moment) (x : Book) → Merging old new → Holds old.store.images old.drum x → Leaves old.store new.store (HasBetween old.drum.base old.drum.settings x (merged x))
merge_between old new x merge holds =
    let urls = old.drum in
    let y = merged x in
    widens old.store new.store (HasOneOf urls.base urls.settings x y) (HasBetween urls.base urls.settings x y) (merge.stops x holds)
    (λ image has. ⊎_elim (λ was. (x, was, front_same x, merged_front x, few_same urls.settings x)) (λ now. (y, now, merged_front x, front_same y, cut_waits old.store.images urls x holds)) has)

merge_keeps : (old new : Moment) (x y : Book) → new.waits ≡ old.waits → ((b : ℕ) → list_at y b ≡ list_at x b) → Keeps old.drum.settings x old.waits y new.waits []
merge_keeps old new x y same lists = λ b within.
    subst (λ (l : Waits). handed_in y l b ≡ handed_in x old.waits b ++ []) (sym same)
    (ap (λ (l : List Tuple). l ++ old.waits b) (lists b) ∙ sym (append-nil (handed_in x old.waits b)))

-- the live journals have no more uneven records
abbrev pub KeepsJournals : Moment → Moment → Type 0
KeepsJournals old new = (was : ℕ → List (List ℕ)) → HaveRecords old.store.images old.drum was → (now : ℕ → List (List ℕ)) × HaveRecords new.store.images new.drum now
    × AddsUneven none_more old.drum.settings.buckets old.drum.settings.array was now

-- they are empty,
pub emptied_journals : (old new : Moment) → new.drum.settings ≡ old.drum.settings → ((b : ℕ) → b < old.drum.settings.buckets → HasJournal new.store.images new.drum b [])
    → KeepsJournals old new
emptied_journals old new settings empty = λ was have. (λ b. [], λ b within. empty b (subst (λ (s : Settings). b < s.buckets) settings within), λ b within. omega arith)

-- or they keep their records, where only what isn't committed changed
pub kept_journals : (old new : Moment) → IsConsistent new.store → IsDrum old.drum → new.drum ≡ old.drum → LeavesBy (KeepsCommitted old.drum) old.store new.store → KeepsJournals old new
kept_journals old new consistent law same stops = λ was have. (
  was,
  subst (λ (d : Drum). HaveRecords new.store.images d was) (sym same) (λ b within.
      tail_moved (bucket_at old.drum b).journal (was b) old.store.images new.store.images
      (λ image left. let from = left_now old.store new.store _ consistent stops image left in (from.0, from.1, (batch_stays old.drum from.0 image law from.2).journals b within))
      (have b within)),
  λ b within. omega arith,
)

-- a later book
fed_to : (early : ℕ) (old new : Moment) (x y : Book) → Merging old new → Holds old.store.images old.drum x → Holds new.store.images new.drum y
    → Grows old.drum.settings early x y → ((b : ℕ) → list_at y b ≡ list_at x b) → Leaves old.store new.store (HasBetween old.drum.base old.drum.settings x y) → KeepsJournals old new
    → Fed early none_more [] old new x
fed_to early old new x y merge holds after grows lists stops kept = record {
  book = y;
  holds = after;
  grows = grows;
  keeps = merge_keeps old new x y merge.waiting lists;
  stops = stops;
  records = kept;
  records_stop = λ was have. merge_records_stop old new x was merge holds have;
}

pub merge_fed : (early : ℕ) (old new : Moment) (x : Book) → IsDrum old.drum → Merging old new → IsDue old.drum ⊎ (1 ≤ early)
    → Holds old.store.images old.drum x → Holds new.store.images new.drum (merged x) → KeepsJournals old new → Fed early none_more [] old new x
merge_fed early old new x law merge why holds after kept =
    fed_to early old new x (merged x) merge holds after (cut_grows early old.store.images old.drum x law holds why) (λ b. refl) (merge_between old new x merge holds) kept

-- where it adds no cut, each image has the book
written_has : (old new : Moment) (x : Book) → IsDrum old.drum → Holds old.store.images old.drum x → LeavesBy (KeepsCommitted old.drum) old.store new.store
    → Leaves old.store new.store (HasBetween old.drum.base old.drum.settings x x)
written_has old new x law holds stops =
    let urls = old.drum in
    widens old.store new.store (Follows (KeepsCommitted urls) old.store.images) (HasBetween urls.base urls.settings x x) stops (λ image from. (
      x,
      holds_stands (Follows (KeepsCommitted urls) old.store.images) urls x image law
          (holds_written old.store.images (Follows (KeepsCommitted urls) old.store.images) urls x law (λ z left. left) holds) from,
      front_same x,
      front_same x,
      few_same urls.settings x,
    ))

grows_any : (early : ℕ) (settings : Settings) (x : Book) → Grows settings early x x
grows_any early settings x = grows_more settings 0 early x x (omega arith) (grows_same settings x)

pub unmerged_fed : (early : ℕ) (old new : Moment) (x : Book) → IsDrum old.drum → Merging old new → LeavesBy (KeepsCommitted old.drum) old.store new.store
    → Holds old.store.images old.drum x → Holds new.store.images new.drum x → KeepsJournals old new → Fed early none_more [] old new x
unmerged_fed early old new x law merge stops holds after kept =
    fed_to early old new x x merge holds after (grows_any early old.drum.settings x) (λ b. refl) (written_has old new x law holds stops) kept

-- ---- where the store failed
merge_strand : (early : ℕ) (old new : Moment) (x s : Book) → IsConsistent new.store → IsDrum old.drum → Merging old new → IsDue old.drum ⊎ (1 ≤ early)
    → Holds old.store.images old.drum x → ForSome new.store.files (Stands old.drum.base old.drum.settings s)
    → Grows old.drum.settings early x s → IsFront s (merged x) → CutsOnce x s → Uncut early none_more [] old new x
merge_strand early old new x s consistent law merge why holds told grows front cuts =
    let stranded : Stranded early none_more [] old new x = record {
      book = s;
      most = merged x;
      told = told;
      grows = grows;
      may_grow = cut_grows early old.store.images old.drum x law holds why;
      front = front;
      legal = cut_legal old.store.images old.drum x law holds merge.pending;
      kept = x;
      kept_grows = grows_any early old.drum.settings x;
      kept_front = grows.front;
      kept_legal = holds.book_is;
      keeps = merge_keeps old new x x merge.waiting (λ b. refl);
      now = λ image left. left_now old.store new.store (HasBetween old.drum.base old.drum.settings x (merged x)) consistent (merge_between old new x merge holds) image left;
      takes = λ b within. (old.waits b, append-nil (handed_in x old.waits b));
      stops = merge_between old new x merge holds;
      records_stop = λ was have. merge_records_stop old new x was merge holds have;
    } in
    (stranded, refl, cuts, inr refl)

pub merge_stranded : (early : ℕ) (old new : Moment) (x : Book) → IsConsistent new.store → IsDrum old.drum → Merging old new → IsDue old.drum ⊎ (1 ≤ early)
    → Holds old.store.images old.drum x
    → Uncut early none_more [] old new x
merge_stranded early old new x consistent law merge why holds = by_told new.store.files refl
  where
    before : ForSome new.store.files (Stands old.drum.base old.drum.settings x) → Uncut early none_more [] old new x
    before told = merge_strand early old new x x consistent law merge why holds told (grows_any early old.drum.settings x) (merged_front x) (inl refl)

    after : ForSome new.store.files (Stands old.drum.base old.drum.settings (merged x)) → Uncut early none_more [] old new x
    after told = merge_strand early old new x (merged x) consistent law merge why holds told (cut_grows early old.store.images old.drum x law holds why) (front_same (merged x)) (inr refl)

    by_told : (told : Option Files) → new.store.files ≡ told → Uncut early none_more [] old new x
    by_told None is = before (told_none new.store.files _ is)
    by_told (Some files) is = ⊎_elim (λ was. before (told_these new.store.files files _ is was)) (λ now. after (told_these new.store.files files _ is now))
        (told_one old.drum.base old.drum.settings x (merged x) old.store new.store files consistent (merge.stops x holds) is)

-- ---- damage
-- it is still there
runs_kept : (settings : Settings) (b from : ℕ) (old new : List ℕ) (runs : List (List Entry)) (at : ℕ) (behind : List ℕ) → new ≡ old → HasRunsTo settings b from old runs at behind
    → HasRunsTo settings b from new runs at behind
runs_kept settings b from old new runs at behind same has = subst (λ (file : List ℕ). HasRunsTo settings b from file runs at behind) (sym same) has

entries_kept : (settings : Settings) (b : ℕ) (bucket : Bucket) (old new : Files) (entries : List Entry) → new bucket.journal.file ≡ old bucket.journal.file → HasEntries settings b bucket old entries
    → HasEntries settings b bucket new entries
entries_kept settings b bucket old new entries same has = record {
  runs = has.runs;
  behind = has.behind;
  has = runs_kept settings b bucket.gate _ _ has.runs bucket.journal.end has.behind same has.has;
  joined = has.joined;
}

bucket_spoilt : (settings : Settings) (b : ℕ) (bucket : Bucket) (pending : ℕ) (old new : Files) (f at : ℕ) → new bucket.journal.file ≡ old bucket.journal.file
    → IsSpoiltBucket settings b bucket pending old f at → IsSpoiltBucket settings b bucket pending new f at
bucket_spoilt settings b bucket pending old new f at same (inl journal) = inl (
  journal.0,
  record { runs = journal.1.runs; behind = journal.1.behind; has = runs_kept settings b bucket.gate _ _ journal.1.runs at journal.1.behind same journal.1.has; why = journal.1.why },
)
bucket_spoilt settings b bucket pending old new f at same (inr (inl counts)) =
    inr (inl (counts.0, counts.1, record { entries = counts.2.entries; has = entries_kept settings b bucket old new counts.2.entries same counts.2.has; other = counts.2.other }))
bucket_spoilt settings b bucket pending old new f at same (inr (inr text)) =
    inr (inr (text.0, text.1, record { entries = text.2.entries; has = entries_kept settings b bucket old new text.2.entries same text.2.has; other = text.2.other }))

pub spoilt_kept : (urls : Drum) (old new : Files) (f at : ℕ) → IsDrum urls → KeepsCommitted urls old new → IsSpoiltAt urls old f at → IsSpoiltAt urls new f at
spoilt_kept urls old new f at law keeps (inl cache) =
    inl (cache.0, subst (λ (file : List ℕ). FallsAt urls.last.entries file at) (ap old cache.0 ∙ sym (batch_stays urls old new law keeps).cache ∙ ap new (sym cache.0)) cache.1)
spoilt_kept urls old new f at law keeps (inr bucket) =
    inr (
      bucket.0,
      bucket.1,
      bucket_spoilt urls.settings bucket.0 (bucket_at urls bucket.0) (pending_at urls bucket.0) old new f at ((batch_stays urls old new law keeps).journals bucket.0 bucket.1)
          bucket.2,
    )

-- what is told of it
pub spoilt_told : (urls : Drum) (old new : Option Files) (f at : ℕ) → IsDrum urls → TellsBy (KeepsCommitted urls) old new → ForSome old (λ files. IsSpoiltAt urls files f at)
    → ForSome new (λ files. IsSpoiltAt urls files f at)
spoilt_told urls None new f at law tells spoilt = λ files told. let no : ⊥ = cc in absurd no
spoilt_told urls (Some before) new f at law tells spoilt = λ files told.
    let same : tells.0 ≡ files = some_same _ _ (sym tells.1 ∙ told) in
    subst (λ (fs : Files). IsSpoiltAt urls fs f at) same (spoilt_kept urls before tells.0 f at law tells.2 (spoilt before refl))
  where
    some_same : (x y : Files) → Some x ≡ Some y → x ≡ y
    some_same x y same = cc
