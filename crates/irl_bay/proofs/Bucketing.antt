-- A bucket's two files, before and after an append to them.
use Rattle.std.proofs.Common.{◌≡◌, ◌≢◌, ◌∙◌, ◌⊎◌, inl, inr, ℕ, ◌+◌, ◌<◌, ◌≤◌, List, [], ◌∷◌, ◌++◌, map, take, length, Option, refl, sym, ap, subst, arith, append_assoc, length-append, length-take-le, drop, Result, Ok}
use Rattle.std.proofs.lemmas.List.{map-append, take-append-le}
use Rattle.std.specs.List.{AllByRecursion}
use Rattle.std.specs.Option.{ForSome}
use Rattle.irl_offer.specs.Tuple.{Tuple}
use Rattle.irl_disk.specs.Disk.{Files, Changes, ChangesFile, Holds as Written, ChangesOnly, TellsOnly}
use Rattle.irl_disk.proofs.Frames.{told_from}
use Rattle.irl_disk.specs.Images.{Told, IsConsistent, Follows, Leaves, LeavesBy}
use Rattle.irl_disk.proofs.Stretches.{widens, joins, left_now}
use Rattle.irl_journal.specs.Format.{HasRecords, records_text}
use Rattle.irl_journal.specs.Appending.{Tail, IsOpen, HasOrGains, Appends as Recorded}
use Rattle.irl_journal.specs.Blob.{Front, BeginsWith, KeepsFront, IsCommitted}
use Rattle.irl_journal.proofs.Fronts.{begins_less, none_committed}
use Rattle.irl_bay.specs.declared.bucket.Bucket.{Bucket}
use Rattle.irl_layout.specs.Runs.{run_bytes, texts_of, IsOffer, IsRun, AreRuns, HasBucket}
use Rattle.irl_bay.specs.Holding.{HoldsBucket, BucketBecomes, IsFileOfBucket}
use Rattle.irl_layout.proofs.Runs.{one_run_more, texts-both}
use Rattle.irl_disk.specs.Effects.{OnlyChanges}
use Rattle.irl_disk.proofs.Effects.{cause_for, cause_then}
use Rattle.irl_bay.specs.Flushing.{Gains, MayGain}
use Rattle.irl_bay.specs.Opening.{IsLongBucket}
use Rattle.irl_bay.proofs.Staying.{only_one, only_both, told_before, tells_one, tells_both, leaves_one, leaves_both, open_stays, committed_stays}

-- ---- a bucket without an offer
pub new_bucket : (images : Files → Type 0) (journal : Tail) (file start array : ℕ) → IsOpen images journal []
    → HoldsBucket images array 0 (record { journal = journal; aux = record { file = file; length = 0 }; start = start; durable = start; gate = 0; skip = 0; text = 0 }) []
new_bucket images journal file start array is_open = record {
  before = [];
  behind = [];
  are = record { joined = refl; sizes = tt; offers = tt };
  journal = is_open;
  aux = none_committed images file;
  durable = omega arith;
  judged = omega arith;
  gate = refl;
  skip = refl;
  text = refl;
}

-- ---- an append
-- the journal's end is within what is told, also after calls that change other files
pub still_within : (among : ℕ → Type 0) (tail : Tail) (old new : Option Files) → TellsOnly among old new → (among tail.file → ⊥) → ForSome old (λ files. tail.end < length (files tail.file))
    → ForSome new (λ files. tail.end < length (files tail.file))
still_within among tail old new tells out within = λ files told.
    let was = told_before among old new files tells told in
    subst (λ (file : List ℕ). tail.end < length file) (sym (was.2 tail.file out)) (within was.0 was.1)

-- What is known of an append: the bucket with its list, the offers, and the store before it, between its two calls, and behind them.
pub record Appends (array cut : ℕ) (bucket : Bucket) (list news : List Tuple) (old : Told) : Type 0 where
  pub apart : bucket.journal.file ≢ bucket.aux.file
  pub run : IsRun array news
  pub offers : AllByRecursion IsOffer news
  pub holds : HoldsBucket old.images array cut bucket list

-- the texts are written, or may be
texts_become : (array cut : ℕ) (bucket : Bucket) (list news : List Tuple) (old : Told) (before image : Files) → Appends array cut bucket list news old → old.images before
    → ChangesFile bucket.aux.file (KeepsFront bucket.aux.length) before image → BucketBecomes bucket array list news before image
texts_become array cut bucket list news old before image a left step = record {
  others = only_one (IsFileOfBucket bucket) bucket.aux.file _ before image (inr refl) step;
  has = inl (record {
    runs = a.holds.before ++ a.holds.behind;
    are = a.holds.are;
    records = inr (subst (λ (file : List ℕ). HasRecords file (map run_bytes (a.holds.before ++ a.holds.behind))) (sym (step.others bucket.journal.file a.apart)) (a.holds.journal before left).records);
    texts = step.changed (texts_of list) a.holds.aux.size (a.holds.aux.each before left);
  });
}

pub stops_texts : (array cut : ℕ) (bucket : Bucket) (list news : List Tuple) (old mid : Told) → Appends array cut bucket list news old
    → LeavesBy (ChangesFile bucket.aux.file (KeepsFront bucket.aux.length)) old mid → LeavesBy (BucketBecomes bucket array list news) old mid
stops_texts array cut bucket list news old mid a stops = widens old mid _ _ stops (λ image from. (from.0, from.1, texts_become array cut bucket list news old from.0 image a from.1 from.2))

-- the record is written behind them, or may be
record_becomes : (array cut : ℕ) (bucket : Bucket) (list news : List Tuple) (bytes : List ℕ) (old : Told) (start before image : Files) → (a : Appends array cut bucket list news old)
    → bytes ≡ run_bytes news → BucketBecomes bucket array list news start before
    → BeginsWith (before bucket.aux.file) (texts_of list ++ texts_of news) → ChangesFile bucket.journal.file (HasOrGains (map run_bytes (a.holds.before ++ a.holds.behind)) bytes) before image
    → BucketBecomes bucket array list news start image
record_becomes array cut bucket list news bytes old start before image a is was begins step = record {
  others = only_both (IsFileOfBucket bucket) start before image was.others (only_one (IsFileOfBucket bucket) bucket.journal.file _ before image (inl refl) step);
  has = either step.changed;
}
  where
    runs : List (List Tuple)
    runs = a.holds.before ++ a.holds.behind

    texts : BeginsWith (image bucket.aux.file) (texts_of list ++ texts_of news)
    texts = subst (λ (file : List ℕ). BeginsWith file (texts_of list ++ texts_of news)) (sym (step.others bucket.aux.file (λ e. a.apart (sym e)))) begins

    either : HasRecords (image bucket.journal.file) (map run_bytes runs) ⊎ HasRecords (image bucket.journal.file) (map run_bytes runs ++ bytes ∷ [])
        → HasBucket array list (image bucket.journal.file) (image bucket.aux.file) ⊎ HasBucket array (list ++ news) (image bucket.journal.file) (image bucket.aux.file)
    either (inl has) = inl (record { runs = runs; are = a.holds.are; records = inr has; texts = begins_less (image bucket.aux.file) (texts_of list) (texts_of news) texts })
    either (inr has) = inr (record {
      runs = runs ++ news ∷ [];
      are = one_run_more array list news runs a.holds.are a.run a.offers;
      records = inr (subst (λ (payloads : List (List ℕ)). HasRecords (image bucket.journal.file) payloads) (ap (λ (l : List ℕ). map run_bytes runs ++ l ∷ []) is
          ∙ sym (map-append run_bytes runs (news ∷ []))) has);
      texts = subst (λ (l : List ℕ). BeginsWith (image bucket.aux.file) l) (sym (texts-both list news)) texts;
    })

-- What is known once the texts are on the disk.
pub record HasTexts (bucket : Bucket) (after : Front) (list news : List Tuple) (old mid : Told) : Type 0 where
  pub law : IsConsistent mid
  pub file : after.file ≡ bucket.aux.file
  pub committed : IsCommitted mid.images after (texts_of list ++ texts_of news)
  pub stops : LeavesBy (ChangesFile bucket.aux.file (KeepsFront bucket.aux.length)) old mid

pub has_texts : (array cut : ℕ) (bucket : Bucket) (after : Front) (list news : List Tuple) (texts : List ℕ) (old mid : Told) → Appends array cut bucket list news old → IsConsistent mid
    → after.file ≡ bucket.aux.file → texts ≡ texts_of news
    → ((held : List ℕ) → IsCommitted old.images bucket.aux held → IsCommitted mid.images after (held ++ texts)) → LeavesBy (ChangesFile bucket.aux.file (KeepsFront bucket.aux.length)) old mid
    → HasTexts bucket after list news old mid
has_texts array cut bucket after list news texts old mid a law file is committed stops = record {
  law = law;
  file = file;
  committed = subst (λ (l : List ℕ). IsCommitted mid.images after (texts_of list ++ l)) is (committed (texts_of list) a.holds.aux);
  stops = stops;
}

-- the journal is open as before
pub journal_stays : (array cut : ℕ) (bucket : Bucket) (after : Front) (list news : List Tuple) (old mid : Told) → (a : Appends array cut bucket list news old) → HasTexts bucket after list news old mid
    → IsOpen mid.images bucket.journal (map run_bytes (a.holds.before ++ a.holds.behind))
journal_stays array cut bucket after list news old mid a t =
    open_stays (λ f. f ≡ bucket.aux.file) old mid bucket.journal _ t.law (leaves_one (λ f. f ≡ bucket.aux.file) bucket.aux.file _ old mid refl t.stops) a.apart a.holds.journal

pub stops_record : (array cut : ℕ) (bucket : Bucket) (after : Front) (list news : List Tuple) (bytes : List ℕ) (old mid new : Told) → (a : Appends array cut bucket list news old)
    → HasTexts bucket after list news old mid → bytes ≡ run_bytes news
    → LeavesBy (ChangesFile bucket.journal.file (HasOrGains (map run_bytes (a.holds.before ++ a.holds.behind)) bytes)) mid new → LeavesBy (BucketBecomes bucket array list news) old new
stops_record array cut bucket after list news bytes old mid new a t is call =
    let first = stops_texts array cut bucket list news old mid a t.stops in
    joins old mid new _ first (widens mid new _ (Follows (BucketBecomes bucket array list news) old.images) call (λ image from.
    let was = left_now old mid _ t.law first from.0 from.1 in
    let begins = subst (λ (f : ℕ). BeginsWith (from.0 f) (texts_of list ++ texts_of news)) t.file (t.committed.each from.0 from.1) in
    (was.0, was.1, record_becomes array cut bucket list news bytes old was.0 from.0 image a is was.2 begins from.2)))

-- and at its end the bucket has both
pub holds_more : (array cut : ℕ) (bucket : Bucket) (tail : Tail) (after : Front) (list news : List Tuple) (bytes : List ℕ) (old mid new : Told) → (a : Appends array cut bucket list news old)
    → HasTexts bucket after list news old mid → bytes ≡ run_bytes news → IsConsistent new
    → LeavesBy (ChangesOnly (λ f. f ≡ bucket.journal.file)) mid new → ((payloads : List (List ℕ)) → IsOpen mid.images bucket.journal payloads → IsOpen new.images tail (payloads ++ bytes ∷ []))
    → HoldsBucket new.images array cut (record bucket { journal = tail; aux = after; durable = bucket.durable + length news }) (list ++ news)
holds_more array cut bucket tail after list news bytes old mid new a t is law others acknowledged =
    let runs = a.holds.before ++ a.holds.behind in
    let opened = acknowledged (map run_bytes runs) (journal_stays array cut bucket after list news old mid a t) in
    let payloads : map run_bytes runs ++ bytes ∷ [] ≡ map run_bytes (a.holds.before ++ (a.holds.behind ++ news ∷ [])) =
    ap (λ (l : List ℕ). map run_bytes runs ++ l ∷ []) is ∙ sym (map-append run_bytes runs (news ∷ [])) ∙ ap (map run_bytes) (append_assoc a.holds.before a.holds.behind (news ∷ [])) in
    record {
      before = a.holds.before;
      behind = a.holds.behind ++ news ∷ [];
      are = subst (AreRuns array (list ++ news)) (append_assoc a.holds.before a.holds.behind (news ∷ [])) (one_run_more array list news runs a.holds.are a.run a.offers);
      journal = subst (IsOpen new.images tail) payloads opened;
      aux = subst (IsCommitted new.images after) (sym (texts-both list news)) (committed_stays (λ f. f ≡ bucket.journal.file) mid new after _ law others (λ e. a.apart (sym e ∙ t.file)) t.committed);
      durable = omega (arith, a.holds.durable, length-append list news);
      judged = omega (arith, a.holds.judged, length-append list news);
      gate = a.holds.gate;
      skip = a.holds.skip;
      text = a.holds.text ∙ ap (λ (l : List Tuple). length (texts_of l)) (sym (take-append-le cut list news a.holds.judged));
    }

-- ---- calls that change neither of its files
pub bucket_stays : (among : ℕ → Type 0) (array cut : ℕ) (bucket : Bucket) (list : List Tuple) (old new : Told) → IsConsistent new → LeavesBy (ChangesOnly among) old new
    → (among bucket.journal.file → ⊥) → (among bucket.aux.file → ⊥) → HoldsBucket old.images array cut bucket list → HoldsBucket new.images array cut bucket list
bucket_stays among array cut bucket list old new law stops out_journal out_aux holds = record {
  before = holds.before;
  behind = holds.behind;
  are = holds.are;
  journal = open_stays among old new bucket.journal _ law stops out_journal holds.journal;
  aux = committed_stays among old new bucket.aux _ law stops out_aux holds.aux;
  durable = holds.durable;
  judged = holds.judged;
  gate = holds.gate;
  skip = holds.skip;
  text = holds.text;
}

-- ---- one record more
-- the texts change nothing of the journal
pub gains_none : (tail : Tail) (f : ℕ) (step : List ℕ → List ℕ → Type 0) (payloads : List (List ℕ)) (payload : List ℕ) (old mid : Told) → tail.file ≢ f → IsOpen old.images tail payloads
    → LeavesBy (ChangesFile f step) old mid
    → Leaves old mid (λ image. HasRecords (image tail.file) payloads ⊎ HasRecords (image tail.file) (payloads ++ payload ∷ []))
gains_none tail f step payloads payload old mid apart is_open stops =
    widens old mid (Follows (ChangesFile f step) old.images) (λ image. HasRecords (image tail.file) payloads ⊎ HasRecords (image tail.file) (payloads ++ payload ∷ [])) stops (λ image from.
    inl (subst (λ (file : List ℕ). HasRecords file payloads) (sym (from.2.others tail.file apart)) (is_open from.0 from.1).records))

-- and the record is there or not
pub gains_one : (tail : Tail) (payloads : List (List ℕ)) (bytes payload : List ℕ) (old mid new : Told) → bytes ≡ payload
    → Leaves old mid (λ image. HasRecords (image tail.file) payloads ⊎ HasRecords (image tail.file) (payloads ++ payload ∷ []))
    → LeavesBy (ChangesFile tail.file (HasOrGains payloads bytes)) mid new → Leaves old new (λ image. HasRecords (image tail.file) payloads ⊎ HasRecords (image tail.file) (payloads ++ payload ∷ []))
gains_one tail payloads bytes payload old mid new is first call =
    joins old mid new (λ image. HasRecords (image tail.file) payloads ⊎ HasRecords (image tail.file) (payloads ++ payload ∷ [])) first
    (widens mid new (Follows (ChangesFile tail.file (HasOrGains payloads bytes)) mid.images) _ call (λ image from.
    subst (λ (one : List ℕ). HasRecords (image tail.file) payloads ⊎ HasRecords (image tail.file) (payloads ++ one ∷ [])) is from.2.changed))

-- the journal stays open while the texts are written
pub still_open : (tail : Tail) (f : ℕ) (step : List ℕ → List ℕ → Type 0) (payloads : List (List ℕ)) (old mid : Told) → IsConsistent mid → tail.file ≢ f → LeavesBy (ChangesFile f step) old mid
    → IsOpen old.images tail payloads → IsOpen mid.images tail payloads
still_open tail f step payloads old mid law apart stops is_open = open_stays (λ g. g ≡ f) old mid tail payloads law (leaves_one (λ g. g ≡ f) f step old mid refl stops) apart is_open

-- ---- what is told is as long as what is committed
-- behind a write
pub texts_long : (f at : ℕ) (bytes : List ℕ) (old new : Option Files) → ForSome old (λ files. at ≤ length (files f)) → Changes f (Written at bytes) old new
    → ForSome new (λ files. at + length bytes ≤ length (files f))
texts_long f at bytes old new within changes = λ files told.
    let from = told_from f _ old new files changes told in
    let front : at ≤ length (from.0 f) = within from.0 from.1 in
    let is : files f ≡ take at (from.0 f) ++ bytes ++ drop (at + length bytes) (from.0 f) = from.2.changed in
    omega (arith, ap length is, length-append (take at (from.0 f) ++ bytes) (drop (at + length bytes) (from.0 f)), length-append (take at (from.0 f)) bytes, length-take-le at (from.0 f) front)

-- behind a record
pub record_long : (f end : ℕ) (record_ : List ℕ) (old new : Option Files) → ForSome old (λ files. end < length (files f))
    → Changes f (λ x y. y ≡ take end x ++ (record_ ++ (0 ∷ drop (end + length record_ + 1) x))) old new → ForSome new (λ files. end + length record_ < length (files f))
record_long f end record_ old new within changes = λ files told.
    let from = told_from f _ old new files changes told in
    let front : end < length (from.0 f) = within from.0 from.1 in
    let rest = 0 ∷ drop (end + length record_ + 1) (from.0 f) in
    omega (arith, ap length from.2.changed, length-append (take end (from.0 f)) (record_ ++ rest), length-append record_ rest, length-take-le end (from.0 f) (omega arith))

-- and of a file that stays
pub still_long : (among : ℕ → Type 0) (f n : ℕ) (old new : Option Files) → TellsOnly among old new → (among f → ⊥) → ForSome old (λ files. n ≤ length (files f))
    → ForSome new (λ files. n ≤ length (files f))
still_long among f n old new tells out within = λ files told.
    let was = told_before among old new files tells told in
    subst (λ (file : List ℕ). n ≤ length file) (sym (was.2 f out)) (within was.0 was.1)

-- ---- an append of offers, to both files
-- What a stop at any moment leaves of the bucket, and which files change.
pub record BucketMayLeave (failed : Type 0) (news : List Tuple) (old : Bucket) (before after : Told) : Type 0 where
  pub stops : (array cut : ℕ) (list : List Tuple) → IsRun array news → HoldsBucket before.images array cut old list → LeavesBy (BucketBecomes old array list news) before after
  pub gains : MayGain news old.journal.file old.journal before after
  pub others : OnlyChanges (ChangesOnly (IsFileOfBucket old)) failed before after

-- where the texts are refused
pub left_by_texts : (bucket : Bucket) (news : List Tuple) (failed answered : Type 0) (old new : Told) → bucket.journal.file ≢ bucket.aux.file → AllByRecursion IsOffer news
    → OnlyChanges (ChangesFile bucket.aux.file (KeepsFront bucket.aux.length)) failed old new → (answered → failed) → BucketMayLeave answered news bucket old new
left_by_texts bucket news failed answered old new apart offers changes is = record {
  stops = λ array cut list run holds. stops_texts array cut bucket list news old new (record { apart = apart; run = run; offers = offers; holds = holds }) changes.stops;
  gains = λ payloads is_open. gains_none bucket.journal bucket.aux.file _ payloads (run_bytes news) old new apart is_open changes.stops;
  others = record {
    told = tells_one (IsFileOfBucket bucket) bucket.aux.file _ _ _ (inr refl) changes.told;
    stops = leaves_one (IsFileOfBucket bucket) bucket.aux.file _ _ _ (inr refl) changes.stops;
    taken = changes.taken;
    cause = cause_for failed answered old.faults new.faults is changes.cause;
  };
}

-- What is known once the texts are appended.
pub record HasAppended (bucket : Bucket) (aux : Front) (news : List Tuple) (texts : List ℕ) (failed : Type 0) (old mid : Told) : Type 0 where
  pub apart : bucket.journal.file ≢ bucket.aux.file
  pub offers : AllByRecursion IsOffer news
  pub are : texts ≡ texts_of news
  pub law : IsConsistent mid
  pub file : aux.file ≡ bucket.aux.file
  pub end : aux.length ≡ bucket.aux.length + length texts
  pub committed : (held : List ℕ) → IsCommitted old.images bucket.aux held → IsCommitted mid.images aux (held ++ texts)
  pub bytes : Changes bucket.aux.file (Written bucket.aux.length texts) old.files mid.files
  pub changes : OnlyChanges (ChangesFile bucket.aux.file (KeepsFront bucket.aux.length)) failed old mid

module _ (bucket : Bucket) (aux : Front) (tail : Tail) (news : List Tuple) (texts bytes : List ℕ) (fault : Type 0) (old mid new : Told) (k : HasAppended bucket aux news texts fault old mid)
    (is : bytes ≡ run_bytes news) where
  -- what both calls leave
  pub left_by_both : {E : Type 0} (result : Result Unit E) (failed answered : Type 0) → Recorded result failed (bytes ∷ []) bucket.journal tail mid new → (answered → failed)
      → BucketMayLeave answered news bucket old new
  left_by_both result failed answered second what = record {
    stops = λ array cut list run holds.
        let a : Appends array cut bucket list news old = record { apart = k.apart; run = run; offers = k.offers; holds = holds } in
        let t = has_texts array cut bucket aux list news texts old mid a k.law k.file k.are k.committed k.changes.stops in
        stops_record array cut bucket aux list news bytes old mid new a t is (second.changes _ (journal_stays array cut bucket aux list news old mid a t)).stops;
    gains = λ payloads is_open.
        let before = gains_none bucket.journal bucket.aux.file _ payloads (run_bytes news) old mid k.apart is_open k.changes.stops in
        let still = still_open bucket.journal bucket.aux.file _ payloads old mid k.law k.apart k.changes.stops is_open in
        gains_one bucket.journal payloads bytes (run_bytes news) old mid new is before (second.changes payloads still).stops;
    others = record {
      told = tells_both (IsFileOfBucket bucket) _ _ _ (tells_one (IsFileOfBucket bucket) bucket.aux.file _ _ _ (inr refl) k.changes.told)
          (tells_one (IsFileOfBucket bucket) bucket.journal.file _ _ _ (inl refl) second.others.told);
      stops = leaves_both (IsFileOfBucket bucket) old mid new k.law (leaves_one (IsFileOfBucket bucket) bucket.aux.file _ _ _ (inr refl) k.changes.stops)
          (leaves_one (IsFileOfBucket bucket) bucket.journal.file _ _ _ (inl refl) second.others.stops);
      taken = second.others.taken ∙ k.changes.taken;
      cause = cause_then answered old.faults mid.faults new.faults k.changes.cause.later (cause_for failed answered mid.faults new.faults what second.others.cause);
    };
  }

  -- and what the bucket has at their end
  module _ {E : Type 0} (done : Unit) (failed : Type 0) (second : Recorded {E = E} (Ok done) failed (bytes ∷ []) bucket.journal tail mid new) where
    pub holds_both : (n array cut : ℕ) (list : List Tuple) → n ≡ length news → IsConsistent new → IsRun array news → HoldsBucket old.images array cut bucket list
        → HoldsBucket new.images array cut (record bucket { journal = tail; aux = aux; durable = bucket.durable + n }) (list ++ news)
    holds_both n array cut list count law run holds =
        let a : Appends array cut bucket list news old = record { apart = k.apart; run = run; offers = k.offers; holds = holds } in
        let t = has_texts array cut bucket aux list news texts old mid a k.law k.file k.are k.committed k.changes.stops in
        subst (λ (m : ℕ). HoldsBucket new.images array cut (record bucket { journal = tail; aux = aux; durable = bucket.durable + m }) (list ++ news)) (sym count)
        (holds_more array cut bucket tail aux list news bytes old mid new a t is law (leaves_one (λ f. f ≡ bucket.journal.file) bucket.journal.file _ _ _ refl second.others.stops) second.acknowledged)

    pub gains_both : Gains news bucket.journal tail old new
    gains_both = λ payloads is_open.
        let still = still_open bucket.journal bucket.aux.file _ payloads old mid k.law k.apart k.changes.stops is_open in
        subst (λ (one : List ℕ). IsOpen new.images tail (payloads ++ one ∷ [])) is (second.acknowledged payloads still)

    pub long_both : (durable : ℕ) → ForSome old.files (IsLongBucket bucket) → ForSome new.files (IsLongBucket (record bucket { journal = tail; aux = aux; durable = durable }))
    long_both durable long = λ files told.
        let journal = bucket.journal.file in
        let within = still_within (λ g. g ≡ bucket.aux.file) bucket.journal _ _ (tells_one (λ g. g ≡ bucket.aux.file) bucket.aux.file _ _ _ refl k.changes.told) k.apart
        (λ files told. (long files told).journal) in
        let behind = record_long journal bucket.journal.end (records_text (bytes ∷ [])) mid.files new.files within second.bytes files told in
        let put = texts_long bucket.aux.file bucket.aux.length texts old.files mid.files (λ files told. (long files told).aux) k.bytes in
        let still = still_long (λ g. g ≡ journal) bucket.aux.file (bucket.aux.length + length texts) mid.files new.files
        (tells_one (λ g. g ≡ journal) journal _ _ _ refl second.others.told) (λ e. k.apart (sym e)) put files told in
        record {
          journal = subst (λ (h : ℕ). tail.end < length (files h)) (sym second.file) (omega (arith, behind, second.end));
          aux = subst (λ (h : ℕ). aux.length ≤ length (files h)) (sym k.file) (omega (arith, still, k.end));
        }
