-- A merge judges a bucket after another: what stays while it writes, and where damage stands.
use Rattle.std.proofs.Common.{◌≡◌, ◌≢◌, ◌∙◌, ◌⊎◌, ⊎_elim, inl, inr, ℕ, suc, ◌+◌, ◌-◌, ◌*◌, ◌/◌, ◌^◌, ◌<◌, ◌≤◌, List, [], ◌∷◌, ◌++◌, map, length, take, drop, Option, None, Some, Result, Err, refl, sym, ap, subst, arith, rules, append-nil, length-append, length-drop, length-take-le, take-append-drop, zero-add}
use Rattle.std.proofs.lemmas.Bool.Decides.{nat_tests}
use Rattle.std.proofs.lemmas.List.{length-map, length-replicate}
use Rattle.std.proofs.lemmas.List.Sums.{sum_by-append}
use Rattle.std.proofs.Math.Seq.{take-append_seam}
use Rattle.std.specs.List.{All, AllByRecursion}
use Rattle.std.specs.Option.{ForSome}
use Rattle.std.specs.Prelude.{replicate, IsErrOf}
use Rattle.irl_base.specs.declared.fault.Fault.{Fault}
use Rattle.irl_base.specs.declared.fault.Fault.TheVariants.{Damaged, Failed, Full, Memory}
use Rattle.std.specs.FinMap.{entries}
use Rattle.irl_offer.specs.Buckets.{IsBucketCount, bucket_of}
use Rattle.irl_offer.specs.Tuple.{Tuple}
use Rattle.irl_offer.specs.declared.entry.Entry.{Entry}
use Rattle.irl_offer.specs.declared.offer.Op.TheVariants.{Check}
use Rattle.irl_offer.specs.declared.offer.Verdict.{Verdict}
use Rattle.irl_offer.specs.declared.receipt.Pair.{Pair}
use Rattle.irl_offer.specs.declared.settings.Settings.{Settings}
use Rattle.irl_model.specs.Book.{Book, seen}
use Rattle.irl_model.specs.Judging.{KeyMap}
use Rattle.irl_model.specs.Pairs.{IsRising, keys_of, pair_of}
use Rattle.irl_model.proofs.Adding.{keys_grow}
use Rattle.irl_model.proofs.BucketOrder.{border}
use Rattle.irl_model.proofs.RisingKeys.{keys_are, pairs_are, rising_front}
use Rattle.irl_disk.specs.Disk.{Files, TellsBy, TellsOnly}
use Rattle.irl_disk.specs.Images.{IsConsistent, LeavesBy, Told}
use Rattle.irl_disk.proofs.Stretches.{left_now}
use Rattle.irl_journal.specs.Blob.{BeginsWith}
use Rattle.irl_cache.specs.Reading.{HasRead, read_of}
use Rattle.irl_cache.specs.SortedRun.{AreWordPairs, AreWords, EndsEarly, FallsAt, IsSpoiltRun, pairs_bytes}
use Rattle.irl_journal.specs.Growing.{HasPut}
use Rattle.irl_cache.specs.Writing.{HasWritten, RunWriter}
use Rattle.irl_merge.specs.Queries.{AreEntriesOf, bare, bare_entry}
use Rattle.irl_layout.specs.EntryRuns.{text_length}
use Rattle.irl_bay.specs.Drum.{Drum, IsDrum, bucket_at, cache_front, pending_at}
use Rattle.irl_bay.specs.Holding.{Holds, IsLong}
use Rattle.irl_bay.specs.Judging.{Judges}
use Rattle.irl_bay.specs.Merging.{KeepsCommitted, Writes}
use Rattle.irl_bay.specs.Pending.{AreOffersOf, HasEntries, HasRunsTo, IsSpoiltBucket}
use Rattle.irl_bay.specs.Sides.{HasMerged, IsSidesOf, rest_of}
use Rattle.irl_layout.specs.Runs.{entry_of_offer}
use Rattle.irl_bay.specs.Spoilt.{IsSpoiltAt}
use Rattle.irl_bay.specs.Telling.{HasTold, IsTellingOf}
use Rattle.irl_bay.specs.declared.bucket.Bucket.{Bucket}
use Rattle.irl_bay.specs.declared.sides.Sides.{Sides}
use Rattle.irl_bay.specs.declared.telling.Telling.{Telling}
use Rattle.irl_bay.proofs.BatchWrites.{on_for, on_none, still_long, tells_from}
use Rattle.irl_bay.proofs.CachePairs.{length-pairs, none_falls_there, same_pairs}
use Rattle.irl_bay.proofs.HeldBuckets.{cache_held, words_held}
use Rattle.irl_bay.proofs.MergeFrames.{batch_keeps_manifest, batch_stays, holds_written}
use Rattle.irl_bay.proofs.Staying.{told_before}
use Rattle.irl_bay.proofs.Sweeps.{IsSameFile, put_on, read_on}

-- ---- what is told before and after writes
pub told_after : (step : Files → Files → Type 0) (old new : Option Files) (files : Files) → TellsBy step old new → old ≡ Some files → (after : Files) × (new ≡ Some after) × step files after
told_after step None new files tells is = cc
told_after step (Some old) new files tells is =
    let same : old ≡ files = cc in
    (tells.0, tells.1, subst (λ (x : Files). step x tells.0) same tells.2)

pub long_kept : (drum : Drum) (old new : Told) → IsDrum drum → Writes drum old new → ForSome old.files (λ files. IsLong drum files) → ForSome new.files (λ files. IsLong drum files)
long_kept drum old new law writes long = λ files told.
    let from = tells_from (KeepsCommitted drum) old.files new.files files writes.told told in
    let before = long from.0 from.1 in
    let stays = batch_stays drum from.0 files law from.2 in
    let manifest = batch_keeps_manifest drum from.0 files law from.2 in
    record {
      manifest = subst (λ (file : List ℕ). drum.manifest.end < length file) (sym manifest) before.manifest;
      cache = subst (λ (file : List ℕ). (cache_front drum).length ≤ length file) (sym stays.cache) before.cache;
      judged = still_long _ _ _ before.judged stays.judged;
      texts = still_long _ _ _ before.texts stays.texts;
      journals = λ b within. subst (λ (file : List ℕ). (bucket_at drum b).journal.end < length file) (sym (stays.journals b within)) (before.journals b within);
      auxes = λ b within. subst (λ (file : List ℕ). (bucket_at drum b).aux.length ≤ length file) (sym (stays.auxes b within)) (before.auxes b within);
    }

-- the bay goes on holding its book
pub held_on : (drum : Drum) (old new : Told) → IsDrum drum → LeavesBy (KeepsCommitted drum) old new → (book : Book) → IsConsistent new → Holds old.images drum book → Holds new.images drum book
held_on drum old new law stops book now holds = holds_written old.images new.images drum book law (λ z left. left_now old new _ now stops z left) holds

-- ---- damage that stands after writes stood before them
module _ (settings : Settings) (b : ℕ) (bucket : Bucket) (y z : Files) (journal : z bucket.journal.file ≡ y bucket.journal.file) where
  runs_back : (from : ℕ) (runs : List (List Entry)) (at : ℕ) (behind : List ℕ) → HasRunsTo settings b from (z bucket.journal.file) runs at behind
      → HasRunsTo settings b from (y bucket.journal.file) runs at behind
  runs_back from runs at behind has = subst (λ (file : List ℕ). HasRunsTo settings b from file runs at behind) journal has

  entries_back : (found : List Entry) → HasEntries settings b bucket z found → HasEntries settings b bucket y found
  entries_back found has = record { runs = has.runs; behind = has.behind; has = runs_back bucket.gate has.runs bucket.journal.end has.behind has.has; joined = has.joined }

  bucket_back : (pending f at : ℕ) → IsSpoiltBucket settings b bucket pending z f at → IsSpoiltBucket settings b bucket pending y f at
  bucket_back pending f at (inl spoilt) =
      let s = spoilt.1 in
      inl (spoilt.0, record { runs = s.runs; behind = s.behind; has = runs_back bucket.gate s.runs at s.behind s.has; why = s.why })
  bucket_back pending f at (inr (inl spoilt)) =
      let s = spoilt.2 in
      inr (inl (spoilt.0, spoilt.1, record { entries = s.entries; has = entries_back s.entries s.has; other = s.other }))
  bucket_back pending f at (inr (inr spoilt)) =
      let s = spoilt.2 in
      inr (inr (spoilt.0, spoilt.1, record { entries = s.entries; has = entries_back s.entries s.has; other = s.other }))

pub spoilt_back : (drum : Drum) (y z : Files) (f at : ℕ) → IsDrum drum → KeepsCommitted drum y z → IsSpoiltAt drum z f at → IsSpoiltAt drum y f at
spoilt_back drum y z f at law keeps (inl spoilt) =
    let stays = batch_stays drum y z law keeps in
    let same : z f ≡ y f = ap z spoilt.0 ∙ stays.cache ∙ ap y (sym spoilt.0) in
    inl (spoilt.0, subst (λ (file : List ℕ). FallsAt drum.last.entries file at) same spoilt.1)
spoilt_back drum y z f at law keeps (inr spoilt) =
    let stays = batch_stays drum y z law keeps in
    let b = spoilt.0 in
    inr (b, spoilt.1, bucket_back drum.settings b (bucket_at drum b) y z (stays.journals b spoilt.1) (pending_at drum b) f at spoilt.2)

pub spoilt_first : (drum : Drum) (old new : Told) (f at : ℕ) → IsDrum drum → Writes drum old new → ForSome new.files (λ files. IsSpoiltAt drum files f at)
    → ForSome old.files (λ files. IsSpoiltAt drum files f at)
spoilt_first drum old new f at law writes spoilt = λ files told.
    let to = told_after (KeepsCommitted drum) old.files new.files files writes.told told in
    spoilt_back drum files to.0 f at law to.2 (spoilt to.0 to.1)

-- ---- damage of the live cache side
pub run_spoilt : (drum : Drum) (files : Files) (f at : ℕ) → IsLong drum files → (f ≡ (cache_front drum).file) × IsSpoiltRun drum.last.entries (files f) at → IsSpoiltAt drum files f at
run_spoilt drum files f at long spoilt = ⊎_elim
    (λ (short : EndsEarly drum.last.entries (files f) at). absurd (omega (arith, short.short, long.cache, ap (λ (n : ℕ). length (files n)) spoilt.0)))
    (λ (falls : FallsAt drum.last.entries (files f) at). inl (spoilt.0, falls))
    spoilt.1

pub run_whole : (images : Files → Type 0) (drum : Drum) (book : Book) (files : Files) (f at : ℕ) → Holds images drum book → images files → (f ≡ (cache_front drum).file)
    × IsSpoiltRun drum.last.entries (files f) at → ⊥
run_whole images drum book files f at holds now spoilt =
    let has = cache_held images drum book holds files now in
    let begins : BeginsWith (files f) (pairs_bytes (entries (seen book))) = subst (λ (n : ℕ). BeginsWith (files n) (pairs_bytes (entries (seen book)))) (sym spoilt.0) has.bytes in
    let size = ap (λ (l : List ℕ). length l) begins.1 in
    ⊎_elim
    (λ (short : EndsEarly drum.last.entries (files f) at). omega (arith, short.short, size, length-append (pairs_bytes (entries (seen book))) begins.0, length-pairs (entries (seen book)), has.count))
    (λ (falls : FallsAt drum.last.entries (files f) at). none_falls_there (seen book) drum.last.entries at (files f) (words_held images drum book holds) has.count begins falls)
    spoilt.1

-- ---- once all buckets are judged
-- a key of 64 bits has a bucket
few_buckets : (buckets key : ℕ) → IsBucketCount buckets → key < 2 ^ 64 → bucket_of buckets key < buckets
few_buckets buckets key count lt =
    let whole : buckets * (2 ^ 64 / buckets) ≡ 2 ^ 64 = all buckets count in
    (border buckets buckets key count).1 (subst (λ (n : ℕ). key < n) (sym whole) lt)
  where
    all : (n : ℕ) → IsBucketCount n → n * (2 ^ 64 / n) ≡ 2 ^ 64
    all n is = grind (arith, nat_tests)

some_bucket : (buckets : ℕ) → IsBucketCount buckets → 0 < buckets
some_bucket buckets is = grind (arith, nat_tests)

word_of : (pairs : List Pair) (p : Pair) (more : List Pair) → pairs ≡ p ∷ more → AreWordPairs (map pair_of pairs) → p.key < 2 ^ 64
word_of pairs p more is words = (subst (λ (l : List Pair). AreWordPairs (map pair_of l)) is words).0.0

all_back_pairs : (xs ys : List Pair) → AreWordPairs (map pair_of (xs ++ ys)) → AreWordPairs (map pair_of ys)
all_back_pairs [] ys words = words
all_back_pairs (x ∷ xs) ys words = all_back_pairs xs ys words.1

module _ (b : ℕ) (offers : List Tuple) (verdicts : List (Option Verdict)) (told : Option Files) (sides : Sides) (has : HasMerged b offers verdicts told sides) (count : IsBucketCount sides.buckets)
    (all : b ≡ sides.buckets) where
  -- no pair is left
  none_left : (rest_of sides ≡ []) × (sides.reader.given ≡ sides.reader.entries)
  none_left =
      let some = some_bucket sides.buckets count in
      ⊎_elim
      (λ left.
      let words = all_back_pairs has.fed (rest_of sides) (all_words (has.fed ++ rest_of sides) sides.reader.ahead has.read.words) in
      let key = word_of (rest_of sides) left.0 left.1 left.2 words in
      absurd (omega (arith, few_buckets sides.buckets left.0.key count key, left.3, some)))
      (λ done. done)
      (has.done (sides.buckets - 1) (omega (arith, some, all)))
    where
      all_words : (xs ys : List Pair) → AreWordPairs (map pair_of (xs ++ ys)) → AreWordPairs (map pair_of xs)
      all_words [] ys words = tt
      all_words (x ∷ xs) ys words = (words.0, all_words xs ys words.1)

  all_given : has.fed ++ rest_of sides ≡ has.fed
  all_given = ap (λ (l : List Pair). has.fed ++ l) none_left.0 ∙ append-nil has.fed

  none_ahead : sides.reader.ahead ≡ []
  none_ahead = nothing sides.reader.ahead (omega (arith, has.read.within, none_left.1))
    where
      nothing : (l : List Pair) → length l ≡ 0 → l ≡ []
      nothing [] e = refl
      nothing (x ∷ l) e = absurd (omega arith)

  all_read : (has.fed ++ rest_of sides) ++ sides.reader.ahead ≡ has.fed
  all_read = ap (λ (l : List Pair). (has.fed ++ rest_of sides) ++ l) none_ahead ∙ append-nil (has.fed ++ rest_of sides) ∙ all_given

  fed_all : length has.fed ≡ sides.reader.entries
  fed_all = omega (arith, has.read.count, none_left.1, ap (λ (l : List Pair). length l) all_given)

  -- and all of them were read
  pub read_all : read_of sides.reader ≡ sides.reader.entries
  read_all = omega (arith, none_left.1, ap (λ (l : List Pair). length l) none_ahead)

  -- so there are no fewer keys than before
  pub keys_grown : sides.reader.entries ≤ length has.put
  keys_grown =
      let rises = rising_front (has.fed ++ rest_of sides) sides.reader.ahead has.read.rising in
      let fed = pairs_are has.fed (rising_front has.fed (rest_of sides) rises) in
      let grown = keys_grow sides.rule (keys_of has.fed) offers in
      omega (arith, fed_all, length-map has.fed pair_of, ap (λ (l : List (ℕ × ℕ)). length l) fed, length-map has.put pair_of, ap (λ (l : List (ℕ × ℕ)). length l) has.keys, grown)

  -- and those that were fed are the set of a side that has it
  pub fed_are : (files : Files) (keys : KeyMap) → told ≡ Some files → AreWords keys → sides.reader.entries ≡ length (entries keys) → BeginsWith (files sides.reader.file) (pairs_bytes (entries keys))
      → keys_of has.fed ≡ keys
  fed_are files keys is words size begins =
      let read : BeginsWith (files sides.reader.file) (pairs_bytes (map pair_of has.fed)) =
      subst (λ (l : List Pair). BeginsWith (files sides.reader.file) (pairs_bytes (map pair_of l))) all_read (has.read.bytes files is) in
      let fed_words : AreWordPairs (map pair_of has.fed) = subst (λ (l : List Pair). AreWordPairs (map pair_of l)) all_read has.read.words in
      let many : length (map pair_of has.fed) ≡ length (entries keys) = length-map has.fed pair_of ∙ fed_all ∙ size in
      let long : length (pairs_bytes (map pair_of has.fed)) ≡ length (pairs_bytes (entries keys)) = length-pairs (map pair_of has.fed) ∙ ap (λ (n : ℕ). 16 * n) many
      ∙ sym (length-pairs (entries keys)) in
      let same : pairs_bytes (map pair_of has.fed) ≡ pairs_bytes (entries keys) = same_front _ _ read.0 begins.0 long (sym read.1 ∙ begins.1) in
      keys_are keys has.fed (same_pairs (map pair_of has.fed) (entries keys) fed_words words many same)
    where
      same_front : (xs ys us vs : List ℕ) → length xs ≡ length ys → xs ++ us ≡ ys ++ vs → xs ≡ ys
      same_front xs ys us vs size same = sym (take-append_seam xs us) ∙ ap (take (length xs)) same ∙ ap (λ (n : ℕ). take n (ys ++ vs)) size ∙ take-append_seam ys vs

-- ---- one bucket more
-- the offers of entries whose texts stand one behind the other
abbrev pub offers_in : List Entry → List ℕ → List Tuple
offers_in [] texts = []
offers_in (entry ∷ entries) texts = record { op = entry.op; key = entry.key; value = entry.value; from = entry.from; aux = take entry.aux_len texts } ∷ offers_in entries (drop entry.aux_len texts)

text_more : (entry : Entry) (entries : List Entry) → text_length (entry ∷ entries) ≡ entry.aux_len + text_length entries
text_more entry entries =
    let e = sum_by-append (λ (x : Entry). x.aux_len) (entry ∷ []) entries in
    e ∙ ap (λ (k : ℕ). k + text_length entries) (zero-add entry.aux_len)

pub offers_are : (entries : List Entry) (texts : List ℕ) → text_length entries ≡ length texts → AreOffersOf (offers_in entries texts) entries texts
offers_are [] texts size = record { entries_are = refl; texts_are = nothing texts size }
  where
    nothing : (l : List ℕ) → 0 ≡ length l → [] ≡ l
    nothing [] e = refl
    nothing (x ∷ l) e = absurd (omega arith)
offers_are (entry ∷ entries) texts size =
    let both = text_more entry entries in
    let within : entry.aux_len ≤ length texts = omega (arith, both, size) in
    let long = length-take-le entry.aux_len texts within in
    let rest = offers_are entries (drop entry.aux_len texts) (omega (arith, both, size, length-drop entry.aux_len texts)) in
    let one : Entry = record { op = entry.op; aux_len = length (take entry.aux_len texts); key = entry.key; value = entry.value; from = entry.from } in
    let same : one ≡ entry = ap (with_length entry) long in
    record {
      entries_are = ap (λ (e : Entry). e ∷ map entry_of_offer (offers_in entries (drop entry.aux_len texts))) same ∙ ap (λ (l : List Entry). entry ∷ l) rest.entries_are;
      texts_are = ap (λ (l : List ℕ). take entry.aux_len texts ++ l) rest.texts_are ∙ take-append-drop entry.aux_len texts;
    }
  where
    with_length : Entry → ℕ → Entry
    with_length entry n = record { op = entry.op; aux_len = n; key = entry.key; value = entry.value; from = entry.from }

-- entries alone are those of some offers: whatever texts of that length are theirs
pub some_offers : (entries : List Entry) → (news : List Tuple) × (map entry_of_offer news ≡ entries)
some_offers entries =
    let texts = replicate (text_length entries) 0 in
    (offers_in entries texts, (offers_are entries texts (sym (length-replicate (text_length entries) 0))).entries_are)

-- what the entries of offers ask
pub ask_the_same : (news : List Tuple) (entries : List Entry) → map entry_of_offer news ≡ entries → AreEntriesOf news entries
ask_the_same news entries are = ap (map bare_entry) (sym are) ∙ same news
  where
    same : (l : List Tuple) → map bare_entry (map entry_of_offer l) ≡ map bare l
    same [] = refl
    same (o ∷ l) = ap (λ (t : List Tuple). bare o ∷ t) (same l)

-- offers are of the bucket of their entries
pub of_bucket_too : (buckets b : ℕ) (news : List Tuple) (entries : List Entry) → map entry_of_offer news ≡ entries → All (λ (e : Entry). bucket_of buckets e.key ≡ b) entries
    → AllByRecursion (λ (o : Tuple). bucket_of buckets o.key ≡ b) news
of_bucket_too buckets b news entries are all = each news (subst (All (λ (e : Entry). bucket_of buckets e.key ≡ b)) (sym are) all)
  where
    none : Entry
    none = record { op = Check; aux_len = 0; key = 0; value = 0; from = 0 }

    each : (l : List Tuple) → All (λ (e : Entry). bucket_of buckets e.key ≡ b) (map entry_of_offer l) → AllByRecursion (λ (o : Tuple). bucket_of buckets o.key ≡ b) l
    each [] h = tt
    each (o ∷ l) h = (h 0 none (omega arith), each l (λ k d lt. h (suc k) d (omega (arith, lt))))

pub few_bytes : (buckets b : ℕ) → IsBucketCount buckets → b < buckets → b < 256
few_bytes buckets b is lt = grind (arith, nat_tests)

-- what was read and written of a file goes on where the file stays
pub only_same : (among : ℕ → Type 0) (g : ℕ) (told new : Option Files) → (among g → ⊥) → TellsOnly among told new → IsSameFile g told new
only_same among g told new out changes = λ files is.
    let from = told_before among told new files changes is in
    (from.0, from.1, from.2 g out)

written_on : (told new : Option Files) (pairs : List Pair) (writer : RunWriter) → IsSameFile writer.out.file told new → HasWritten told pairs writer → HasWritten new pairs writer
written_on told new pairs writer same has = record { put = put_on told new _ writer.out same has.put; rising = has.rising; last = has.last }

pub merged_on : (b : ℕ) (offers : List Tuple) (verdicts : List (Option Verdict)) (told new : Option Files) (sides : Sides) → IsSameFile sides.reader.file told new
    → IsSameFile sides.writer.out.file told new → HasMerged b offers verdicts told sides → HasMerged b offers verdicts new sides
merged_on b offers verdicts told new sides reads writes has = record {
  fed = has.fed;
  put = has.put;
  verdicts_are = has.verdicts_are;
  keys = has.keys;
  fed_below = has.fed_below;
  offers_below = has.offers_below;
  read = read_on told new (has.fed ++ rest_of sides) sides.reader reads has.read;
  behind = has.behind;
  done = has.done;
  written = written_on told new has.put sides.writer writes has.written;
}

pub told_on : (drum : Drum) (offers : List Tuple) (verdicts : List (Option Verdict)) (told new : Option Files) (telling : Telling) → IsSameFile telling.judged.file told new
    → IsSameFile telling.texts.file told new → HasTold drum offers verdicts told telling → HasTold drum offers verdicts new telling
told_on drum offers verdicts told new telling judged texts has = record {
  of = has.of;
  count = has.count;
  judged = put_on told new _ telling.judged judged has.judged;
  texts = put_on told new _ telling.texts texts has.texts;
  place = has.place;
  unique = has.unique;
}

-- the files of the cache and those of what is judged are apart
module _ (drum : Drum) (law : IsDrum drum) (sides : Sides) (telling : Telling) (of : IsSidesOf drum sides) (by : IsTellingOf drum telling) where
  abbrev IsTold : ℕ → Type 0
  IsTold f = (f ≡ telling.judged.file) ⊎ (f ≡ telling.texts.file)

  pub reader_apart : IsTold sides.reader.file → ⊥
  reader_apart is = ⊎_elim (λ e. omega (arith, e, of.from, by.judged_file, law.last.side)) (λ e. omega (arith, e, of.from, by.texts_file, law.last.side)) is

  pub writer_apart : IsTold sides.writer.out.file → ⊥
  writer_apart is = ⊎_elim (λ e. omega (arith, e, of.to, by.judged_file)) (λ e. omega (arith, e, of.to, by.texts_file)) is

pub judged_apart : (drum : Drum) (sides : Sides) (telling : Telling) → IsSidesOf drum sides → IsTellingOf drum telling → telling.judged.file ≢ sides.writer.out.file
judged_apart drum sides telling of by e = omega (arith, e, of.to, by.judged_file)

pub texts_apart : (drum : Drum) (sides : Sides) (telling : Telling) → IsSidesOf drum sides → IsTellingOf drum telling → telling.texts.file ≢ sides.writer.out.file
texts_apart drum sides telling of by e = omega (arith, e, of.to, by.texts_file)

-- ---- at first
pub nothing_merged : (told : Option Files) (sides : Sides) → rest_of sides ≡ [] → HasRead told [] sides.reader → HasWritten told [] sides.writer → HasMerged 0 [] [] told sides
nothing_merged told sides none read written = record {
  fed = [];
  put = [];
  verdicts_are = refl;
  keys = let rises : IsRising [] = search rules in pairs_are [] rises;
  fed_below = tt;
  offers_below = tt;
  read = subst (λ (l : List Pair). HasRead told l sides.reader) (sym none) read;
  behind = λ more few rises. from_none (rest_of sides ++ more);
  done = λ n lt. absurd (omega arith);
  written = written;
}
  where
    from_none : (l : List Pair) → AllByRecursion (λ (p : Pair). 0 ≤ bucket_of sides.buckets p.key) l
    from_none [] = tt
    from_none (p ∷ l) = (omega arith, from_none l)

pub nothing_told : (drum : Drum) (told : Option Files) (telling : Telling) → IsDrum drum → IsTellingOf drum telling → HasPut told [] telling.judged → HasPut told [] telling.texts
    → telling.place ≡ drum.last.texts → telling.unique ≡ drum.last.unique → HasTold drum [] [] told telling
nothing_told drum told telling law of judged texts place unique = record {
  of = of;
  count = refl;
  judged = judged;
  texts = texts;
  place = omega (arith, place, law.last.texts);
  unique = omega (arith, unique, law.last.unique);
}

-- ---- the answers of a call that judges
-- it refused for want of memory
pub judges_none : {A : Type 0} (result : Result A Fault) (drum : Drum) (now : Told) → IsConsistent now → result ≡ Err Memory → Judges result drum now now
judges_none result drum now law is = record {
  spoilt = λ f at e. absurd (cc);
  whole = λ f at e. absurd (cc);
  full = λ n e. cc;
  writes = on_for drum ⊥ _ now now (λ e. cc) (on_none drum now law);
}

-- it hands on the fault that it was answered
pub judges_for : {A B : Type 0} (found : Fault) (result : Result A Fault) (answered : Result B Fault) (drum : Drum) (old new : Told) → result ≡ Err found → answered ≡ Err found
    → Judges result drum old new → Judges answered drum old new
judges_for {A = A} {B = B} found result answered drum old new is gave judges = record {
  spoilt = λ f at e. judges.spoilt f at (back (Damaged f at) e);
  whole = λ f at e. judges.whole f at (back (Damaged f at) e);
  full = λ n e. judges.full n (back (Full n) e);
  writes = on_for drum _ _ old new (back Failed) judges.writes;
}
  where
    back : (named : Fault) → IsErrOf answered named → IsErrOf result named
    back named e =
        let same : found ≡ named = cc in
        let of : Fault → Result A Fault = λ fault. Err fault in
        is ∙ ap of same
