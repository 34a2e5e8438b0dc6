-- A flush changes one bucket: every other part of a bay stays, and so does what was judged.
use Rattle.std.proofs.Common.{◌≡◌, ◌≢◌, ◌∙◌, ◌⊎◌, inl, inr, ℕ, zero, suc, ◌+◌, ◌-◌, ◌<◌, ◌≤◌, Bool, true, List, [], ◌∷◌, ◌++◌, map, length, get_or, set, refl, sym, ap, subst, arith, append-nil, ⊎_elim, Option, None, Some, Result, Ok, Err, OnErr}
use Rattle.std.proofs.lemmas.List.{get_or-set_same, get_or-set_other, get_or-map, get_or_default, map-set, length-set}
use Rattle.std.proofs.Math.Seq.{map-set_same}
use Rattle.std.specs.List.{AllByRecursion}
use Rattle.std.specs.Option.{ForSome}
use Rattle.std.specs.FinMap.{entries}
use Rattle.irl_offer.specs.declared.settings.Settings.{Settings}
use Rattle.irl_offer.specs.Buckets.{bucket_of}
use Rattle.irl_offer.specs.Tuple.{Tuple}
use Rattle.irl_model.specs.Judging.{after}
use Rattle.irl_model.specs.Book.{Book, IsBook, judged_offers, flushed, flushed_lists, with_cuts}
use Rattle.irl_model.proofs.FrontLaws.{stretches_same, flushed_prefixes, flushed_judged}
use Rattle.irl_model.proofs.Flushes.{flushed_book, flushed_here, flushed_elsewhere, flushed_lengths-set, flushed_uniques}
use Rattle.irl_model.proofs.Merges.{earlier_book}
use Rattle.irl_disk.specs.Disk.{Files, ChangesOnly, TellsOnly}
use Rattle.irl_disk.specs.Images.{Told, IsConsistent, Leaves, LeavesBy}
use Rattle.irl_disk.proofs.Stretches.{stays, widens, widens_by}
use Rattle.irl_journal.specs.Format.{StandsFor, HasRecords}
use Rattle.irl_journal.specs.Appending.{IsOpen}
use Rattle.irl_journal.specs.Blob.{BeginsWith, IsCommitted}
use Rattle.irl_bay.specs.declared.bucket.Bucket.{Bucket}
use Rattle.irl_layout.specs.declared.files.BayFile.TheVariants.{Journal, Aux}
use Rattle.irl_layout.specs.BayFiles.{file_of, IsBucketFile}
use Rattle.irl_layout.specs.Runs.{texts_of, IsOffer, HasBucket}
use Rattle.irl_layout.specs.Commits.{Commit, IsCommitOf, AreCommitsOf, first_commit, last_commit, commit_bytes, live_side, live_offers, starts}
use Rattle.irl_bay.specs.Cache.{HasCache}
use Rattle.irl_cache.specs.SortedRun.{pairs_bytes}
use Rattle.irl_layout.specs.JudgedEntries.{judged_entries}
use Rattle.irl_bay.specs.Standing.{IsBookOf, HasBucketOf, Stands}
use Rattle.irl_bay.specs.Drum.{Drum, IsDrum, IsBucket, bucket_at, judged_at, durables, no_bucket, cache_front, judged_front, texts_front}
use Rattle.irl_bay.specs.Holding.{Holds, HoldsBucket, BucketBecomes, Becomes, IsLong, IsFileOfBucket}
use Rattle.irl_base.specs.Faults.{HasCause}
use Rattle.irl_bay.specs.Flushing.{MayGain, MayFlush, FlushMayLeave}
use Rattle.irl_bay.specs.Opening.{IsLongBucket}
use Rattle.irl_bay.proofs.HeldBuckets.{start_within}
use Rattle.irl_bay.proofs.JudgedBooks.{each_append}
use Rattle.irl_bay.proofs.Live.{live_flushed, live_beside}
use Rattle.irl_bay.proofs.Standing.{bucket_stands, holds_stands}
use Rattle.irl_bay.proofs.Staying.{only_wider, told_before, open_stays, committed_stays}
use Rattle.irl_bay.proofs.Bucketing.{BucketMayLeave, bucket_stays}

-- ---- which files are whose
-- a file below those of the buckets is of none
pub low_out : (base side b f : ℕ) → f < base + 10 → IsBucketFile base side b f → ⊥
low_out base side b f low (inl e) = omega (arith, e)
low_out base side b f low (inr e) = omega (arith, e)

-- and a file of one bucket is of no other on its side
pub other_out : (base side b c f : ℕ) → c ≢ b → IsBucketFile base side c f → IsBucketFile base side b f → ⊥
other_out base side b c f other (inl d) (inl e) = omega (arith, d, e, other)
other_out base side b c f other (inl d) (inr e) = omega (arith, d, e)
other_out base side b c f other (inr d) (inl e) = omega (arith, d, e)
other_out base side b c f other (inr d) (inr e) = omega (arith, d, e, other)

-- the files that a bucket names are the bucket's
pub as_file : (base side b cut : ℕ) (sound : Bool) (bucket : Bucket) (f : ℕ) → IsBucket base side b cut sound bucket → IsFileOfBucket bucket f → IsBucketFile base side b f
as_file base side b cut sound bucket f is (inl e) = inl (e ∙ is.journal)
as_file base side b cut sound bucket f is (inr e) = inr (e ∙ is.aux)

pub same_or_other : (c b : ℕ) → (c ≡ b) ⊎ (c ≢ b)
same_or_other zero zero = inl refl
same_or_other zero (suc b) = inr (λ e. omega (arith, e))
same_or_other (suc c) zero = inr (λ e. omega (arith, e))
same_or_other (suc c) (suc b) = ⊎_elim (λ e. inl (ap suc e)) (λ other. inr (λ e. other (omega (arith, e)))) (same_or_other c b)

-- ---- a bay with another bucket in the place of one
abbrev pub with_bucket : Drum → Bool → ℕ → Bucket → Drum
with_bucket drum sound b bucket = record drum { is_sound = sound; buckets = set drum.buckets b bucket }

pub bucket_here : (drum : Drum) (sound : Bool) (b : ℕ) (bucket : Bucket) → b < length drum.buckets → bucket_at (with_bucket drum sound b bucket) b ≡ bucket
bucket_here drum sound b bucket within = get_or-set_same drum.buckets b bucket no_bucket within

bucket_elsewhere : (drum : Drum) (sound : Bool) (b c : ℕ) (bucket : Bucket) → c ≢ b → bucket_at (with_bucket drum sound b bucket) c ≡ bucket_at drum c
bucket_elsewhere drum sound b c bucket other = get_or-set_other drum.buckets b c bucket no_bucket other

-- how many offers there are
durable_is : (drum : Drum) (b : ℕ) → b < length drum.buckets → get_or (durables drum) b 0 ≡ (bucket_at drum b).durable
durable_is drum b within = get_or-map (λ (bucket : Bucket). bucket.durable) drum.buckets b no_bucket 0 within

pub durables_more : (drum : Drum) (sound : Bool) (b : ℕ) (bucket : Bucket) → durables (with_bucket drum sound b bucket) ≡ set (durables drum) b bucket.durable
durables_more drum sound b bucket = map-set (λ (one : Bucket). one.durable) drum.buckets b bucket

pub durables_kept : (drum : Drum) (sound : Bool) (b : ℕ) (bucket : Bucket) → bucket.durable ≡ (bucket_at drum b).durable → durables (with_bucket drum sound b bucket) ≡ durables drum
durables_kept drum sound b bucket same = map-set_same (λ (one : Bucket). one.durable) drum.buckets b bucket no_bucket same

-- What an append leaves of a bucket, whether it failed or not.
pub record Grows (old new : Bucket) : Type 0 where
  pub journal : new.journal.file ≡ old.journal.file
  pub aux : new.aux.file ≡ old.aux.file
  pub durable : old.durable ≤ new.durable
  pub end : old.journal.end ≤ new.journal.end
  pub length : old.aux.length ≤ new.aux.length
  pub start : new.start ≡ old.start
  pub gate : new.gate ≡ old.gate
  pub text : new.text ≡ old.text

-- so the bay is one
pub grown_drum : (drum : Drum) (sound : Bool) (b : ℕ) (bucket : Bucket) → IsDrum drum → b < drum.settings.buckets → (sound ≡ true → drum.is_sound ≡ true)
    → (sound ≡ true → bucket.journal.is_sound ≡ true) → Grows (bucket_at drum b) bucket → IsDrum (with_bucket drum sound b bucket)
grown_drum drum sound b bucket law within was is grows = record {
  base = law.base;
  settings = law.settings;
  last = law.last;
  judged = law.judged;
  entries = law.entries;
  manifest = law.manifest;
  sound = λ yes. law.sound (was yes);
  cuts = law.cuts;
  count = length-set drum.buckets b bucket ∙ law.count;
  buckets = λ c inside. ⊎_elim
      (λ (e : c ≡ b). subst (IsBucket drum.base (live_side drum.last) c (judged_at drum c) sound)
      (sym (ap (bucket_at (with_bucket drum sound b bucket)) e ∙ bucket_here drum sound b bucket (omega (arith, law.count))))
      (subst (λ (n : ℕ). IsBucket drum.base (live_side drum.last) n (judged_at drum n) sound bucket) (sym e) here))
      (λ (other : c ≢ b). subst (IsBucket drum.base (live_side drum.last) c (judged_at drum c) sound) (sym (bucket_elsewhere drum sound b c bucket other)) (elsewhere (law.buckets c inside)))
      (same_or_other c b);
}
  where
    here : IsBucket drum.base (live_side drum.last) b (judged_at drum b) sound bucket
    here =
        let it = law.buckets b within in
        record {
          journal = grows.journal ∙ it.journal;
          aux = grows.aux ∙ it.aux;
          sound = is;
          start = omega (arith, it.start, grows.start);
          judged = omega (arith, it.judged, grows.durable);
          gate = omega (arith, it.gate, grows.gate, grows.end);
          text = omega (arith, it.text, grows.text, grows.length);
        }

    elsewhere : {n cut : ℕ} {one : Bucket} → IsBucket drum.base (live_side drum.last) n cut drum.is_sound one → IsBucket drum.base (live_side drum.last) n cut sound one
    elsewhere it = record { journal = it.journal; aux = it.aux; sound = λ yes. it.sound (was yes); start = it.start; judged = it.judged; gate = it.gate; text = it.text }

-- ---- the book
pub flushed_offers : (b : ℕ) (news : List Tuple) (book : Book) → IsBook book → judged_offers (flushed b news book) ≡ judged_offers book
flushed_offers b news book is = stretches_same book.firsts book.firsts book.cuts book.lists (flushed_lists b news book.lists) is.cuts (flushed_prefixes b news book.lists)

-- its commits stay
pub flushed_commit : (b : ℕ) (news : List Tuple) (book : Book) (commit : Commit) → IsBook book → IsCommitOf book commit → IsCommitOf (flushed b news book) commit
flushed_commit b news book commit law is = record {
  judged = is.judged ∙ ap length (sym (flushed_judged b news book law));
  unique = is.unique ∙ ap length (sym (flushed_uniques b news book law));
  texts = is.texts ∙ ap (λ (offers : List Tuple). length (texts_of offers)) (sym (flushed_offers b news book law));
  cut = is.cut;
}

pub flushed_commits : (b : ℕ) (news : List Tuple) (book : Book) (commits : List Commit) → IsBook book → AreCommitsOf book commits → AreCommitsOf (flushed b news book) commits
flushed_commits b news book commits law are = record {
  count = are.count;
  each = λ i within. flushed_commit b news (with_cuts (i + 1) book) _ (earlier_book (i + 1) book law) (are.each i within);
  form = are.form;
  grow = are.grow;
  name = are.name;
}

abbrev pub AreFor : Settings → ℕ → List Tuple → Type 0
AreFor settings b news = AllByRecursion (λ (offer : Tuple). bucket_of settings.buckets offer.key ≡ b) news

flushed_is : (settings : Settings) (b : ℕ) (news : List Tuple) (book : Book) → IsBookOf settings book → AreFor settings b news → IsBookOf settings (flushed b news book)
flushed_is settings b news book is news_are = record {
  is_book = flushed_book b news book is.is_book (subst (λ (n : ℕ). AllByRecursion (λ (offer : Tuple). bucket_of n offer.key ≡ b) news) (sym is.buckets) news_are);
  buckets = is.buckets;
  rule = is.rule;
  dropped = is.dropped;
}

no_lists : (b : ℕ) (lists : List (List Tuple)) → flushed_lists b [] lists ≡ lists
no_lists b [] = refl
no_lists zero (list ∷ lists) = ap (λ (l : List Tuple). l ∷ lists) (append-nil list)
no_lists (suc b) (list ∷ lists) = ap (λ (ls : List (List Tuple)). list ∷ ls) (no_lists b lists)

flushed_none : (b : ℕ) (book : Book) → flushed b [] book ≡ book
flushed_none b book = ap (λ (ls : List (List Tuple)). record book { lists = ls }) (no_lists b book.lists)

-- each offer has its room
flushed_fit : (b : ℕ) (news : List Tuple) (book : Book) → IsBook book → b < book.buckets → AllByRecursion IsOffer news → ((c : ℕ) → c < book.buckets → AllByRecursion IsOffer (get_or book.lists c []))
    → (c : ℕ) → c < book.buckets → AllByRecursion IsOffer (get_or (flushed b news book).lists c [])
flushed_fit b news book is within fit each c inside = ⊎_elim
    (λ (e : c ≡ b). subst (λ (n : ℕ). AllByRecursion IsOffer (get_or (flushed b news book).lists n [])) (sym e)
    (subst (AllByRecursion IsOffer) (sym (flushed_here b news book (omega (arith, is.lists)))) (each_append IsOffer (get_or book.lists b []) news (each b within) fit)))
    (λ (other : c ≢ b). subst (AllByRecursion IsOffer) (sym (flushed_elsewhere b news book c other)) (each c inside))
    (same_or_other c b)

-- ---- what an open bay holds then
abbrev HoldsAt : (Files → Type 0) → Drum → Book → ℕ → Type 0
HoldsAt images drum book c = HoldsBucket images drum.settings.array (judged_at drum c - (bucket_at drum c).start) (bucket_at drum c) (live_offers book drum.last c)

pub flush_holds : (drum : Drum) (sound : Bool) (b : ℕ) (bucket : Bucket) (news : List Tuple) (book : Book) (old new : Told) → IsDrum drum → b < drum.settings.buckets → AreFor drum.settings b news
    → AllByRecursion IsOffer news → IsConsistent new
    → LeavesBy (ChangesOnly (IsBucketFile drum.base (live_side drum.last) b)) old new → bucket.durable ≡ (bucket_at drum b).durable + length news → bucket.start ≡ (bucket_at drum b).start
    → ((cut : ℕ) (list : List Tuple) → HoldsBucket old.images drum.settings.array cut (bucket_at drum b) list → HoldsBucket new.images drum.settings.array cut bucket (list ++ news))
    → Holds old.images drum book → Holds new.images (with_bucket drum sound b bucket) (flushed b news book)
flush_holds drum sound b bucket news book old new law within news_are fit now stops durable start appended holds = record {
  book_is = flushed_is drum.settings b news book holds.book_is news_are;
  offers = flushed_fit b news book is_book inside_book fit holds.offers;
  starts_are = λ c inside. ⊎_elim
      (λ (e : c ≡ b). subst (λ (n : ℕ). (bucket_at (with_bucket drum sound b bucket) n).start ≡ get_or (starts book drum.last) n 0) (sym e)
      (ap (λ (one : Bucket). one.start) (bucket_here drum sound b bucket (omega (arith, law.count))) ∙ start ∙ holds.starts_are b inside_book))
      (λ (other : c ≢ b). ap (λ (one : Bucket). one.start) (bucket_elsewhere drum sound b c bucket other) ∙ holds.starts_are c inside)
      (same_or_other c b);
  buckets = λ c inside. ⊎_elim (λ (e : c ≡ b). subst (HoldsAt new.images (with_bucket drum sound b bucket) (flushed b news book)) (sym e) here) (λ (other : c ≢ b). elsewhere c inside other)
      (same_or_other c b);
  commits = holds.commits;
  commits_are = flushed_commits b news book holds.commits is_book holds.commits_are;
  last = holds.last;
  numbers = record {
    offers =
        durables_more drum sound b bucket
        ∙ ap (λ (n : ℕ). set (durables drum) b n) (durable ∙ ap (λ (n : ℕ). n + length news) (sym (durable_is drum b (omega (arith, law.count)))))
        ∙ ap (λ (ns : List ℕ). set ns b (get_or ns b 0 + length news)) holds.numbers.offers
        ∙ sym (flushed_lengths-set b news book is_book);
    commit = flushed_commit b news book drum.last is_book holds.numbers.commit;
    cuts = holds.numbers.cuts;
  };
  manifest = open_stays (IsBucketFile drum.base (live_side drum.last) b) old new drum.manifest _ now stops (low drum.manifest.file (omega (arith, law.manifest))) holds.manifest;
  keys = subst (λ (offers : List Tuple). drum.last.entries ≡ length (entries (after book.rule book.base offers))) (sym offers_same) holds.keys;
  cache = subst (λ (offers : List Tuple). IsCommitted new.images (cache_front drum) (pairs_bytes (entries (after book.rule book.base offers)))) (sym offers_same)
      (committed_stays (IsBucketFile drum.base (live_side drum.last) b) old new (cache_front drum) _ now stops (low (cache_front drum).file (omega (arith, law.last.side))) holds.cache);
  judged_are = subst (λ js. IsCommitted new.images (judged_front drum) (judged_entries 0 js)) (sym (flushed_judged b news book is_book))
      (committed_stays (IsBucketFile drum.base (live_side drum.last) b) old new (judged_front drum) _ now stops (low (judged_front drum).file (omega arith)) holds.judged_are);
  texts = subst (λ (offers : List Tuple). IsCommitted new.images (texts_front drum) (texts_of offers)) (sym offers_same)
      (committed_stays (IsBucketFile drum.base (live_side drum.last) b) old new (texts_front drum) _ now stops (low (texts_front drum).file (omega arith)) holds.texts);
}
  where
    is_book : IsBook book
    is_book = holds.book_is.is_book

    inside_book : b < book.buckets
    inside_book = omega (arith, holds.book_is.buckets)

    low : (f : ℕ) → f < drum.base + 10 → IsBucketFile drum.base (live_side drum.last) b f → ⊥
    low f = low_out drum.base (live_side drum.last) b f

    offers_same : judged_offers (flushed b news book) ≡ judged_offers book
    offers_same = flushed_offers b news book is_book

    here : HoldsAt new.images (with_bucket drum sound b bucket) (flushed b news book) b
    here =
        let cut = judged_at drum b - (bucket_at drum b).start in
        let live = live_flushed drum.settings book drum.last b news holds.book_is inside_book (start_within old.images drum book holds law b inside_book) in
        subst (λ (one : Bucket). HoldsBucket new.images drum.settings.array (judged_at drum b - one.start) one (live_offers (flushed b news book) drum.last b))
        (sym (bucket_here drum sound b bucket (omega (arith, law.count))))
        (subst (λ (n : ℕ). HoldsBucket new.images drum.settings.array (judged_at drum b - n) bucket (live_offers (flushed b news book) drum.last b)) (sym start)
        (subst (HoldsBucket new.images drum.settings.array cut bucket) (sym live) (appended cut (live_offers book drum.last b) (holds.buckets b inside_book))))

    elsewhere : (c : ℕ) → c < book.buckets → c ≢ b → HoldsAt new.images (with_bucket drum sound b bucket) (flushed b news book) c
    elsewhere c inside other =
        let it = law.buckets c (omega (arith, holds.book_is.buckets)) in
        let out = other_out drum.base (live_side drum.last) b c in
        subst (λ (one : Bucket). HoldsBucket new.images drum.settings.array (judged_at drum c - one.start) one (live_offers (flushed b news book) drum.last c))
        (sym (bucket_elsewhere drum sound b c bucket other))
        (subst (HoldsBucket new.images drum.settings.array (judged_at drum c - (bucket_at drum c).start) (bucket_at drum c)) (sym (live_beside book drum.last b c news other))
        (bucket_stays (IsBucketFile drum.base (live_side drum.last) b) drum.settings.array (judged_at drum c - (bucket_at drum c).start) (bucket_at drum c) _ old new now stops
        (out (bucket_at drum c).journal.file other (inl it.journal)) (out (bucket_at drum c).aux.file other (inr it.aux)) (holds.buckets c inside)))

-- ---- what a stop leaves then
-- files that stand for a book stand for it with the offers, where the bucket's two have them
abbrev StandsAt : Drum → Book → Files → ℕ → Type 0
StandsAt drum book files c = HasBucketOf drum.base drum.settings.array drum.last c (live_offers book drum.last c) files

stands_flushed : (drum : Drum) (b : ℕ) (news : List Tuple) (book : Book) (images : Files → Type 0) (before image : Files) → IsDrum drum → b < drum.settings.buckets → AreFor drum.settings b news
    → AllByRecursion IsOffer news → Holds images drum book → images before
    → ChangesOnly (IsBucketFile drum.base (live_side drum.last) b) before image → HasBucketOf drum.base drum.settings.array drum.last b (live_offers book drum.last b ++ news) image
    → Stands drum.base drum.settings (flushed b news book) image
stands_flushed drum b news book images before image law within news_are fit holds left others has = record {
  book_is = flushed_is drum.settings b news book holds.book_is news_are;
  commits = holds.commits;
  commits_are = flushed_commits b news book holds.commits is_book holds.commits_are;
  manifest = subst (λ (f : ℕ). StandsFor (image f) (map commit_bytes holds.commits)) law.manifest
      (subst (λ (file : List ℕ). StandsFor file (map commit_bytes holds.commits)) (sym (others drum.manifest.file (low drum.manifest.file (omega (arith, law.manifest)))))
      (inr (holds.manifest before left).records));
  offers = flushed_fit b news book is_book inside_book fit holds.offers;
  buckets = λ c inside. subst (λ (last : Commit). HasBucketOf drum.base drum.settings.array last c (live_offers (flushed b news book) last c) image) holds.last
      (⊎_elim (λ (e : c ≡ b). subst (StandsAt drum (flushed b news book) image) (sym e) here) (λ (other : c ≢ b). elsewhere c inside other) (same_or_other c b));
  cache = subst (λ (offers : List Tuple). HasCache drum.base (last_commit (first_commit book.buckets) holds.commits) (after book.rule book.base offers) image)
      (sym (flushed_offers b news book is_book))
      (subst (λ (last : Commit). HasCache drum.base last (after book.rule book.base (judged_offers book)) image) holds.last
      (record {
        count = holds.keys;
        bytes = stays (cache_front drum).file _ (omega (arith, law.last.side)) (holds.cache.each before left);
      }));
  judged_are = subst (λ js. BeginsWith (image (judged_front drum).file) (judged_entries 0 js)) (sym (flushed_judged b news book is_book))
      (stays (judged_front drum).file _ (omega arith) (holds.judged_are.each before left));
  texts = subst (λ (offers : List Tuple). BeginsWith (image (texts_front drum).file) (texts_of offers)) (sym (flushed_offers b news book is_book))
      (stays (texts_front drum).file _ (omega arith) (holds.texts.each before left));
}
  where
    is_book : IsBook book
    is_book = holds.book_is.is_book

    inside_book : b < book.buckets
    inside_book = omega (arith, holds.book_is.buckets)

    low : (f : ℕ) → f < drum.base + 10 → IsBucketFile drum.base (live_side drum.last) b f → ⊥
    low f = low_out drum.base (live_side drum.last) b f

    stays : (f : ℕ) (bytes : List ℕ) → f < drum.base + 10 → BeginsWith (before f) bytes → BeginsWith (image f) bytes
    stays f bytes below begins = subst (λ (file : List ℕ). BeginsWith file bytes) (sym (others f (low f below))) begins

    here : StandsAt drum (flushed b news book) image b
    here = subst (λ (list : List Tuple). HasBucketOf drum.base drum.settings.array drum.last b list image)
        (sym (live_flushed drum.settings book drum.last b news holds.book_is inside_book (start_within images drum book holds law b inside_book))) has

    elsewhere : (c : ℕ) → c < book.buckets → c ≢ b → StandsAt drum (flushed b news book) image c
    elsewhere c inside other =
        let it = law.buckets c (omega (arith, holds.book_is.buckets)) in
        let list = live_offers book drum.last c in
        let out = other_out drum.base (live_side drum.last) b c in
        let was = bucket_stands images drum.settings.array _ (bucket_at drum c) list before (holds.buckets c inside) left in
        subst (λ (l : List Tuple). HasBucketOf drum.base drum.settings.array drum.last c l image) (sym (live_beside book drum.last b c news other))
        (subst (λ (f : ℕ). HasBucket drum.settings.array list (image f) (image (file_of drum.base 0 (Aux (live_side drum.last) c)))) it.journal
        (subst (λ (f : ℕ). HasBucket drum.settings.array list (image (bucket_at drum c).journal.file) (image f)) it.aux
        (subst (λ (file : List ℕ). HasBucket drum.settings.array list file (image (bucket_at drum c).aux.file))
        (sym (others (bucket_at drum c).journal.file (out (bucket_at drum c).journal.file other (inl it.journal))))
        (subst (λ (file : List ℕ). HasBucket drum.settings.array list (before (bucket_at drum c).journal.file) file)
        (sym (others (bucket_at drum c).aux.file (out (bucket_at drum c).aux.file other (inr it.aux)))) was))))

-- a stop before anything is done
pub stops_none : (drum : Drum) (among : ℕ → Type 0) (book next : Book) (now : Told) → IsDrum drum → IsConsistent now → Holds now.images drum book
    → LeavesBy (Becomes among drum.base drum.settings book next) now now
stops_none drum among book next now law consistent holds = stays now _ consistent (λ image left.
    (image, left, record { others = λ f out. refl; stands = inl (holds_stands now.images drum book image law holds left) }))

-- and a stop in an append
becomes : (drum : Drum) (b : ℕ) (news : List Tuple) (book : Book) (images : Files → Type 0) (before image : Files) → IsDrum drum → b < drum.settings.buckets → AreFor drum.settings b news
    → AllByRecursion IsOffer news → Holds images drum book → images before
    → BucketBecomes (bucket_at drum b) drum.settings.array (live_offers book drum.last b) news before image
    → Becomes (IsBucketFile drum.base (live_side drum.last) b) drum.base drum.settings book (flushed b news book) before image
becomes drum b news book images before image law within news_are fit holds left step = record {
  others = others;
  stands = ⊎_elim
      (λ has. inl (subst (λ (next : Book). Stands drum.base drum.settings next image) (flushed_none b book)
      (stands_flushed drum b [] book images before image law within tt tt holds left others
      (subst (λ (l : List Tuple). HasBucketOf drum.base drum.settings.array drum.last b l image) (sym (append-nil list)) (named list has)))))
      (λ has. inr (stands_flushed drum b news book images before image law within news_are fit holds left others (named (list ++ news) has)))
      step.has;
}
  where
    list : List Tuple
    list = live_offers book drum.last b

    others : ChangesOnly (IsBucketFile drum.base (live_side drum.last) b) before image
    others = only_wider (IsFileOfBucket (bucket_at drum b)) (IsBucketFile drum.base (live_side drum.last) b) before image (λ f is.
        as_file drum.base (live_side drum.last) b _ _ (bucket_at drum b) f (law.buckets b within) is) step.others

    named : (l : List Tuple) → HasBucket drum.settings.array l (image (bucket_at drum b).journal.file) (image (bucket_at drum b).aux.file)
        → HasBucketOf drum.base drum.settings.array drum.last b l image
    named l has =
        subst (λ (f : ℕ). HasBucket drum.settings.array l (image f) (image (file_of drum.base 0 (Aux (live_side drum.last) b)))) (law.buckets b within).journal
        (subst (λ (f : ℕ). HasBucket drum.settings.array l (image (bucket_at drum b).journal.file) (image f)) (law.buckets b within).aux has)

pub stops_flush : (drum : Drum) (b : ℕ) (news : List Tuple) (book : Book) (old new : Told) → IsDrum drum → b < drum.settings.buckets → AreFor drum.settings b news → AllByRecursion IsOffer news
    → Holds old.images drum book
    → ((cut : ℕ) (list : List Tuple) → HoldsBucket old.images drum.settings.array cut (bucket_at drum b) list → LeavesBy (BucketBecomes (bucket_at drum b) drum.settings.array list news) old new)
    → LeavesBy (Becomes (IsBucketFile drum.base (live_side drum.last) b) drum.base drum.settings book (flushed b news book)) old new
stops_flush drum b news book old new law within news_are fit holds stops =
    widens old new _ _ (stops (judged_at drum b - (bucket_at drum b).start) (live_offers book drum.last b) (holds.buckets b (omega (arith, holds.book_is.buckets)))) (λ image from.
    (from.0, from.1, becomes drum b news book old.images from.0 image law within news_are fit holds from.1 from.2))

-- ---- for the call
-- the bucket that a bay's list has at its place
pub is_bucket : (drum view : Drum) (b : ℕ) (was : Bucket) → view ≡ drum → IsDrum drum → b < drum.settings.buckets → was ≡ get_or view.buckets b was → was ≡ bucket_at drum b
is_bucket drum view b was same law within is =
    let inside : b < length view.buckets = subst (λ (d : Drum). b < length d.buckets) (sym same) (omega (arith, law.count)) in
    is ∙ get_or_default view.buckets b was no_bucket inside ∙ ap (λ (d : Drum). bucket_at d b) same

-- by what a bucket names its files they are those of the bucket's number
files_named : (drum : Drum) (b : ℕ) (was : Bucket) (f : ℕ) → IsDrum drum → b < drum.settings.buckets → was ≡ bucket_at drum b → IsFileOfBucket was f → IsBucketFile drum.base (live_side drum.last) b f
files_named drum b was f law within is at = as_file drum.base (live_side drum.last) b _ _ (bucket_at drum b) f (law.buckets b within) (subst (λ (one : Bucket). IsFileOfBucket one f) is at)

pub leaves_named : (drum : Drum) (b : ℕ) (was : Bucket) (old new : Told) → IsDrum drum → b < drum.settings.buckets → was ≡ bucket_at drum b → LeavesBy (ChangesOnly (IsFileOfBucket was)) old new
    → LeavesBy (ChangesOnly (IsBucketFile drum.base (live_side drum.last) b)) old new
leaves_named drum b was old new law within is stops = widens_by old new _ _ stops (λ x y changes.
    only_wider (IsFileOfBucket was) (IsBucketFile drum.base (live_side drum.last) b) x y (λ f at. files_named drum b was f law within is at) changes)

pub tells_named : (drum : Drum) (b : ℕ) (was : Bucket) (old new : Option Files) → IsDrum drum → b < drum.settings.buckets → was ≡ bucket_at drum b → TellsOnly (IsFileOfBucket was) old new
    → TellsOnly (IsBucketFile drum.base (live_side drum.last) b) old new
tells_named drum b was None new law within is tells = tells
tells_named drum b was (Some old) new law within is tells = (
  tells.0,
  tells.1,
  only_wider (IsFileOfBucket was) (IsBucketFile drum.base (live_side drum.last) b) old tells.0 (λ f at.
      files_named drum b was f law within is at) tells.2,
)

pub on_err : {T E : Type 0} (result : Result T E) (P : Type 0) → P → OnErr result P
on_err (Ok value) P p = tt
on_err (Err error) P p = p

-- what is told is as long as what is then committed
pub flush_long : (drum : Drum) (sound : Bool) (b : ℕ) (bucket : Bucket) (old new : Option Files) → IsDrum drum → b < drum.settings.buckets
    → TellsOnly (IsBucketFile drum.base (live_side drum.last) b) old new → ForSome old (λ files. IsLong drum files)
    → ForSome new (IsLongBucket bucket)
    → ForSome new (λ files. IsLong (with_bucket drum sound b bucket) files)
flush_long drum sound b bucket old new law within tells before here = λ files told.
    let was = told_before (IsBucketFile drum.base (live_side drum.last) b) old new files tells told in
    let long = before was.0 was.1 in
    record {
      manifest = subst (λ (file : List ℕ). drum.manifest.end < length file) (sym
          (was.2 drum.manifest.file (low_out drum.base (live_side drum.last) b drum.manifest.file (omega (arith, law.manifest))))) long.manifest;
      cache = subst (λ (file : List ℕ). (cache_front drum).length ≤ length file)
          (sym (was.2 (cache_front drum).file (low_out drum.base (live_side drum.last) b (cache_front drum).file (omega (arith, law.last.side))))) long.cache;
      judged = subst (λ (file : List ℕ). (judged_front drum).length ≤ length file)
          (sym (was.2 (judged_front drum).file (low_out drum.base (live_side drum.last) b (judged_front drum).file (omega arith)))) long.judged;
      texts = subst (λ (file : List ℕ). (texts_front drum).length ≤ length file) (sym (was.2 (texts_front drum).file (low_out drum.base (live_side drum.last) b (texts_front drum).file (omega arith))))
          long.texts;
      journals = λ c inside. ⊎_elim
          (λ (e : c ≡ b). subst (λ (one : Bucket). one.journal.end < length (files one.journal.file))
          (sym (ap (bucket_at (with_bucket drum sound b bucket)) e ∙ bucket_here drum sound b bucket (omega (arith, law.count)))) (here files told).journal)
          (λ (other : c ≢ b). subst (λ (one : Bucket). one.journal.end < length (files one.journal.file)) (sym (bucket_elsewhere drum sound b c bucket other))
          (subst (λ (file : List ℕ). (bucket_at drum c).journal.end < length file)
          (sym (was.2 (bucket_at drum c).journal.file (other_out drum.base (live_side drum.last) b c _ other (inl (law.buckets c inside).journal)))) (long.journals c inside)))
          (same_or_other c b);
      auxes = λ c inside. ⊎_elim
          (λ (e : c ≡ b). subst (λ (one : Bucket). one.aux.length ≤ length (files one.aux.file))
          (sym (ap (bucket_at (with_bucket drum sound b bucket)) e ∙ bucket_here drum sound b bucket (omega (arith, law.count)))) (here files told).aux)
          (λ (other : c ≢ b). subst (λ (one : Bucket). one.aux.length ≤ length (files one.aux.file)) (sym (bucket_elsewhere drum sound b c bucket other))
          (subst (λ (file : List ℕ). (bucket_at drum c).aux.length ≤ length file)
          (sym (was.2 (bucket_at drum c).aux.file (other_out drum.base (live_side drum.last) b c _ other (inr (law.buckets c inside).aux)))) (long.auxes c inside)))
          (same_or_other c b);
    }

-- of the records of a bucket's journal, by the number of its file
abbrev pub LeavesGained : ℕ → List (List ℕ) → List ℕ → Told → Told → Type 0
LeavesGained f payloads payload old new = Leaves old new (λ (image : Files). HasRecords (image f) payloads ⊎ HasRecords (image f) (payloads ++ payload ∷ []))

pub gained_none : (drum : Drum) (b : ℕ) (payloads : List (List ℕ)) (payload : List ℕ) (now : Told) → IsDrum drum → b < drum.settings.buckets → IsConsistent now
    → IsOpen now.images (bucket_at drum b).journal payloads → LeavesGained (file_of drum.base 0 (Journal (live_side drum.last) b)) payloads payload now now
gained_none drum b payloads payload now law within consistent is_open =
    subst (λ (f : ℕ). LeavesGained f payloads payload now now) (law.buckets b within).journal
    (stays now (λ (image : Files). HasRecords (image (bucket_at drum b).journal.file) payloads
    ⊎ HasRecords (image (bucket_at drum b).journal.file) (payloads ++ payload ∷ [])) consistent (λ image left. inl (is_open image left).records))

-- what a stop leaves of the bucket, as it is said of the bay
pub flush_leaves : (drum : Drum) (b : ℕ) (was : Bucket) (news : List Tuple) (failed answered : Type 0) (old new : Told) → IsDrum drum → was ≡ bucket_at drum b → MayFlush b news drum
    → AllByRecursion IsOffer news → BucketMayLeave failed news was old new → HasCause answered old.faults new.faults → FlushMayLeave answered b news drum old new
flush_leaves drum b was news failed answered old new law is may fit left cause =
    let here = subst (λ (one : Bucket). BucketMayLeave failed news one old new) is left in
    record {
      stops = λ book holds. stops_flush drum b news book old new law may.bucket may.offers fit holds (λ cut list has. here.stops drum.settings.array cut list (may.some, may.few) has);
      gains = subst (λ (f : ℕ). MayGain news f (bucket_at drum b).journal old new) (law.buckets b may.bucket).journal here.gains;
      others = record {
        told = tells_named drum b (bucket_at drum b) old.files new.files law may.bucket refl here.others.told;
        stops = leaves_named drum b (bucket_at drum b) old new law may.bucket refl here.others.stops;
        taken = here.others.taken;
        cause = cause;
      };
    }

-- a bucket's two files are its own, and as long as what is committed of them
pub apart_bucket : (drum : Drum) (b : ℕ) (was : Bucket) → IsDrum drum → b < drum.settings.buckets → was ≡ bucket_at drum b → was.journal.file ≢ was.aux.file
apart_bucket drum b was law within is =
    let here = law.buckets b within in
    subst (λ (one : Bucket). one.journal.file ≢ one.aux.file) (sym is) (λ e. omega (arith, e, here.journal, here.aux))

pub long_bucket : (drum : Drum) (b : ℕ) (was : Bucket) (told : Option Files) → b < drum.settings.buckets → was ≡ bucket_at drum b → ForSome told (λ files. IsLong drum files)
    → ForSome told (IsLongBucket was)
long_bucket drum b was told within is before = λ files tells.
    let long = before files tells in
    subst (λ (one : Bucket). IsLongBucket one files) (sym is) (record { journal = long.journals b within; aux = long.auxes b within })
