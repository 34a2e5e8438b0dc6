-- A bay that was just made: each of its journals is empty, and it has the book without an offer.
use Rattle.std.proofs.Common.{◌≡◌, ◌≢◌, ◌∙◌, inl, inr, ℕ, zero, suc, ◌+◌, ◌-◌, ◌<◌, ◌≤◌, ◌^◌, true, List, [], ◌∷◌, ◌++◌, map, length, drop, replicate, get_or, Option, None, Some, refl, sym, ap, subst, arith, ⊎_elim, length-append}
use Rattle.std.proofs.lemmas.List.{get_or-replicate, length-replicate, get_or_append_left, drop_all}
use Rattle.std.proofs.Math.Seq.{get_or-append_seam}
use Rattle.std.specs.List.{AllByRecursion}
use Rattle.std.specs.Option.{ForSome}
use Rattle.std.specs.Ordering.{nat_cmp}
use Rattle.std.specs.FinMap.{entries, empty, from_sorted, entries-from_sorted, empty_of_len, len-entries}
use Rattle.irl_offer.specs.declared.offer.Rule.{Rule}
use Rattle.irl_offer.specs.declared.settings.Settings.{Settings}
use Rattle.irl_offer.specs.Buckets.{IsBucketCount}
use Rattle.irl_offer.specs.Settings.{AreValid}
use Rattle.irl_offer.specs.Tuple.{Tuple}
use Rattle.irl_model.specs.Book.{IsBook, AreOfBuckets, IsBelow, blank_book, list_lengths}
use Rattle.irl_disk.specs.Disk.{Files, Changes, ChangesFile, Scribbled, ChangesOnly, TellsBy}
use Rattle.irl_disk.specs.Images.{Told, IsConsistent, LeavesBy}
use Rattle.irl_disk.proofs.Frames.{told_from}
use Rattle.irl_disk.proofs.Stretches.{widens_by, joins_by}
use Rattle.irl_journal.specs.Appending.{Tail, IsOpen}
use Rattle.irl_journal.proofs.Fronts.{none_committed}
use Rattle.irl_bay.specs.declared.bucket.Bucket.{Bucket}
use Rattle.irl_layout.specs.declared.files.BayFile.TheVariants.{Manifest, Cache, Judged, Texts, Journal}
use Rattle.irl_layout.specs.BayFiles.{file_of, max_base, IsFileOf}
use Rattle.irl_layout.specs.Runs.{IsOffer}
use Rattle.irl_layout.specs.Commits.{Commit, IsCommit, IsCommitOf, first_commit, starts, live_offers}
use Rattle.irl_bay.specs.Drum.{Drum, IsDrum, no_bucket}
use Rattle.irl_bay.specs.Holding.{Holds, HoldsBucket}
use Rattle.irl_bay.specs.Making.{IsUnmade, IsJournalOn, Makes}
use Rattle.irl_bay.specs.Merging.{emptied}
use Rattle.irl_bay.proofs.Staying.{only_one, only_both, leaves_one, open_stays}
use Rattle.irl_bay.proofs.Bucketing.{bucket_stays}
use Rattle.irl_bay.proofs.Flushing.{same_or_other}

-- ---- one journal more
-- what leaves at most one byte where there was at most one
abbrev StaysShort : (List ℕ → List ℕ → Type 0) → Type 0
StaysShort step = (x y : List ℕ) → length x ≤ 1 → step x y → length y ≤ 1

scribbled_short : StaysShort (Scribbled 0 1)
scribbled_short x y short torn = omega (arith, short, torn.no_longer)

-- making a journal changes nothing else
makes_one : (base buckets f : ℕ) (step : List ℕ → List ℕ → Type 0) (old new : Files) → StaysShort step → IsJournalOn base 0 buckets f → ChangesFile f step old new → Makes base buckets old new
makes_one base buckets f step old new short is changes = record {
  others = only_one (IsJournalOn base 0 buckets) f step old new is changes;
  unmade = λ was g at. ⊎_elim
      (λ (e : g ≡ f). subst (λ (h : ℕ). length (new h) ≤ 1) (sym e) (short (old f) (new f) (was f (subst (IsFileOf base buckets) e at)) changes.changed))
      (λ (other : g ≢ f). subst (λ (file : List ℕ). length file ≤ 1) (sym (changes.others g other)) (was g at))
      (same_or_other g f);
}

makes_both : (base buckets : ℕ) (old mid new : Files) → Makes base buckets old mid → Makes base buckets mid new → Makes base buckets old new
makes_both base buckets old mid new first second = record {
  others = only_both (IsJournalOn base 0 buckets) old mid new first.others second.others;
  unmade = λ was. second.unmade (first.unmade was);
}

-- what is told changes so
told_made : (base buckets f : ℕ) (step : List ℕ → List ℕ → Type 0) (old new : Option Files) → StaysShort step → IsJournalOn base 0 buckets f → Changes f step old new
    → TellsBy (Makes base buckets) old new
told_made base buckets f step None new short is changes = changes
told_made base buckets f step (Some old) new short is changes = (changes.0, changes.1, makes_one base buckets f step old changes.0 short is changes.2)

pub told_torn : (base buckets f : ℕ) (old new : Option Files) → IsJournalOn base 0 buckets f → Changes f (Scribbled 0 1) old new → TellsBy (Makes base buckets) old new
told_torn base buckets f old new is changes = told_made base buckets f (Scribbled 0 1) old new scribbled_short is changes

pub told_more : (base buckets : ℕ) (old mid new : Option Files) → TellsBy (Makes base buckets) old mid → TellsBy (Makes base buckets) mid new → TellsBy (Makes base buckets) old new
told_more base buckets None mid new first second = subst (λ (told : Option Files). TellsBy (Makes base buckets) told new) first second
told_more base buckets (Some old) mid new first second =
    let then_ = subst (λ (told : Option Files). TellsBy (Makes base buckets) told new) first.1 second in
    (then_.0, then_.1, makes_both base buckets old first.0 then_.0 first.2 then_.2)

pub told_same : (base buckets : ℕ) (told : Option Files) → TellsBy (Makes base buckets) told told
told_same base buckets None = refl
told_same base buckets (Some files) = (files, refl, record { others = λ f out. refl; unmade = λ was. was })

-- and so does what a stop leaves
pub leaves_made : (base buckets f : ℕ) (old new : Told) → IsJournalOn base 0 buckets f → LeavesBy (ChangesFile f (Scribbled 0 1)) old new → LeavesBy (Makes base buckets) old new
leaves_made base buckets f old new is stops = widens_by old new _ _ stops (λ x y changes. makes_one base buckets f (Scribbled 0 1) x y scribbled_short is changes)

pub leaves_more : (base buckets f : ℕ) (old mid new : Told) → IsConsistent mid → IsJournalOn base 0 buckets f → LeavesBy (Makes base buckets) old mid → LeavesBy (ChangesFile f (Scribbled 0 1)) mid new
    → LeavesBy (Makes base buckets) old new
leaves_more base buckets f old mid new law is first second = joins_by old mid new _ law (λ x y z. makes_both base buckets x y z) first (leaves_made base buckets f mid new is second)

-- what is told has at most one byte in each file of the bay
still_unmade : (base buckets f : ℕ) (step : List ℕ → List ℕ → Type 0) (old new : Option Files) → ((x y : List ℕ) → step x y → length y ≤ 1) → Changes f step old new
    → ForSome old (λ files. IsUnmade base buckets files) → ForSome new (λ files. IsUnmade base buckets files)
still_unmade base buckets f step old new few changes was = λ files told g at.
    let from = told_from f step old new files changes told in
    ⊎_elim
    (λ (e : g ≡ f). subst (λ (h : ℕ). length (files h) ≤ 1) (sym e) (few (from.0 f) (files f) from.2.changed))
    (λ (other : g ≢ f). subst (λ (file : List ℕ). length file ≤ 1) (sym (from.2.others g other)) (was from.0 from.1 g at))
    (same_or_other g f)

-- ---- the buckets so far
abbrev pub made_bucket : ℕ → ℕ → Bucket
made_bucket base b = emptied base 0 b 0

-- the manifest and the first buckets are made
pub record MadeSoFar (old now : Told) (base buckets : ℕ) (manifest : Tail) (made : List Bucket) (b : ℕ) : Type 0 where
  pub count : length made ≡ b
  pub each : (k : ℕ) → k < b → get_or made k no_bucket ≡ made_bucket base k
  pub holds : (k : ℕ) → k < b → (array : ℕ) → HoldsBucket now.images array 0 (made_bucket base k) []
  pub manifest_open : IsOpen now.images manifest []
  pub unmade : ForSome now.files (λ files. IsUnmade base buckets files)
  pub files : TellsBy (Makes base buckets) old.files now.files
  pub stops : LeavesBy (Makes base buckets) old now

pub made_none : (old now : Told) (base buckets f : ℕ) (manifest : Tail) → f ≡ file_of base 0 Manifest → IsOpen now.images manifest [] → ForSome old.files (λ files. IsUnmade base buckets files)
    → Changes f (λ x y. y ≡ 0 ∷ []) old.files now.files → LeavesBy (ChangesFile f (Scribbled 0 1)) old now
    → MadeSoFar old now base buckets manifest [] 0
made_none old now base buckets f manifest is is_open was changes stops = record {
  count = refl;
  each = λ k within. absurd (omega (arith, within));
  holds = λ k within. absurd (omega (arith, within));
  manifest_open = is_open;
  unmade = still_unmade base buckets f _ old.files now.files (λ x y one. omega (arith, ap length one)) changes was;
  files = told_made base buckets f _ old.files now.files (λ x y short one. omega (arith, ap length one)) (inl is) changes;
  stops = leaves_made base buckets f old now (inl is) stops;
}

pub made_more : (old mid new : Told) (base buckets : ℕ) (manifest : Tail) (made : List Bucket) (b : ℕ) (bucket : Bucket) → IsConsistent mid → IsConsistent new → b < buckets
    → manifest.file ≡ file_of base 0 Manifest → MadeSoFar old mid base buckets manifest made b → bucket ≡ made_bucket base b
    → ((array : ℕ) → HoldsBucket new.images array 0 bucket []) → Changes (file_of base 0 (Journal 0 b)) (λ x y. length y ≡ 1) mid.files new.files
    → LeavesBy (ChangesFile (file_of base 0 (Journal 0 b)) (Scribbled 0 1)) mid new → MadeSoFar old new base buckets manifest (made ++ bucket ∷ []) (b + 1)
made_more old mid new base buckets manifest made b bucket law_mid law within file so_far is holds changes stops = record {
  count = omega (arith, so_far.count, length-append made (bucket ∷ []));
  each = λ k inside. ⊎_elim
      (λ (e : k ≡ b). subst (λ (n : ℕ). get_or (made ++ bucket ∷ []) n no_bucket ≡ made_bucket base n) (so_far.count ∙ sym e) (get_or-append_seam made bucket [] no_bucket ∙ is
      ∙ ap (made_bucket base) (sym so_far.count)))
      (λ (other : k ≢ b). get_or_append_left made (bucket ∷ []) no_bucket k (omega (arith, inside, other, so_far.count)) ∙ so_far.each k (omega (arith, inside, other)))
      (same_or_other k b);
  holds = λ k inside array. ⊎_elim
      (λ (e : k ≡ b). subst (λ (one : Bucket). HoldsBucket new.images array 0 one []) (is ∙ ap (made_bucket base) (sym e)) (holds array))
      (λ (other : k ≢ b). bucket_stays (λ f. f ≡ file_of base 0 (Journal 0 b)) array 0 (made_bucket base k) [] mid new law others (λ e. omega (arith, e, other)) (λ e. omega (arith, e))
      (so_far.holds k (omega (arith, inside, other)) array))
      (same_or_other k b);
  manifest_open = open_stays (λ f. f ≡ file_of base 0 (Journal 0 b)) mid new manifest [] law others (λ e. omega (arith, e, file)) so_far.manifest_open;
  unmade = still_unmade base buckets (file_of base 0 (Journal 0 b)) _ mid.files new.files (λ x y one. omega (arith, one)) changes so_far.unmade;
  files = told_more base buckets old.files mid.files new.files so_far.files (told_made base buckets (file_of base 0 (Journal 0 b)) _ mid.files new.files (λ x y short one. omega (arith, one))
      (inr (b, within, refl)) changes);
  stops = leaves_more base buckets (file_of base 0 (Journal 0 b)) old mid new law_mid (inr (b, within, refl)) so_far.stops stops;
}
  where
    others : LeavesBy (ChangesOnly (λ f. f ≡ file_of base 0 (Journal 0 b))) mid new
    others = leaves_one (λ f. f ≡ file_of base 0 (Journal 0 b)) (file_of base 0 (Journal 0 b)) _ mid new refl stops

-- ---- the book without an offer
no_lengths : (n : ℕ) → list_lengths (replicate n 0) (replicate n []) ≡ replicate n 0
no_lengths zero = refl
no_lengths (suc n) = ap (λ (ns : List ℕ). 0 ∷ ns) (no_lengths n)

no_offers : (buckets b n : ℕ) → AreOfBuckets buckets b (replicate n [])
no_offers buckets b zero = tt
no_offers buckets b (suc n) = (tt, no_offers buckets (b + 1) n)

zeros_below : (n : ℕ) → IsBelow (replicate n 0) (list_lengths (replicate n 0) (replicate n []))
zeros_below zero = tt
zeros_below (suc n) = (omega arith, zeros_below n)

pub blank_is_book : (buckets : ℕ) (rule : Rule) → IsBucketCount buckets → IsBook (blank_book buckets rule)
blank_is_book buckets rule is = record {
  buckets = is;
  firsts = length-replicate buckets 0;
  lists = length-replicate buckets [];
  each = no_offers buckets 0 buckets;
  cuts = zeros_below buckets;
  none = λ e. (refl, refl);
}

zeros_fit : (n : ℕ) → AllByRecursion (λ (k : ℕ). k < 2 ^ 64) (replicate n 0)
zeros_fit zero = tt
zeros_fit (suc n) = (omega arith, zeros_fit n)

pub first_is_commit : (buckets : ℕ) → IsCommit buckets (first_commit buckets)
first_is_commit buckets = record {
  side = omega arith;
  live = tt;
  entries = omega arith;
  judged = omega arith;
  unique = omega arith;
  texts = omega arith;
  count = length-replicate buckets 0;
  cut = zeros_fit buckets;
}

pub first_is_blank : (buckets : ℕ) (rule : Rule) → IsCommitOf (blank_book buckets rule) (first_commit buckets)
first_is_blank buckets rule = record { judged = refl; unique = refl; texts = refl; cut = refl }

-- its lists have none
none_at : (n b : ℕ) → get_or (replicate {A = List Tuple} n []) b [] ≡ []
none_at zero b = refl
none_at (suc n) zero = refl
none_at (suc n) (suc b) = none_at n b

pub blank_lists : (buckets : ℕ) (rule : Rule) (b : ℕ) → get_or (blank_book buckets rule).lists b [] ≡ []
blank_lists buckets rule b = none_at buckets b

pub blank_live : (buckets : ℕ) (rule : Rule) (last : Commit) (b : ℕ) → live_offers (blank_book buckets rule) last b ≡ []
blank_live buckets rule last b =
    let n : ℕ = get_or (starts (blank_book buckets rule) last) b 0 - get_or (blank_book buckets rule).firsts b 0 in
    ap (λ (list : List Tuple). drop n list) (blank_lists buckets rule b) ∙ drop_all n [] (omega arith)

-- a map without keys has no entries
no_entries : entries {K = ℕ} {X = ℕ} {R = nat_cmp} empty ≡ []
no_entries =
    let none : entries {K = ℕ} {X = ℕ} {R = nat_cmp} (from_sorted []) ≡ [] = entries-from_sorted nat_cmp [] tt in
    ap entries (sym (empty_of_len (from_sorted {R = nat_cmp} []) (len-entries (from_sorted {R = nat_cmp} []) ∙ ap length none))) ∙ none

-- the buckets' counts are zeros
no_durables : (made : List Bucket) → ((k : ℕ) → k < length made → (get_or made k no_bucket).durable ≡ 0) → map (λ (bucket : Bucket). bucket.durable) made ≡ replicate (length made) 0
no_durables [] each = refl
no_durables (bucket ∷ made) each =
    ap (λ (n : ℕ). n ∷ map (λ (one : Bucket). one.durable) made) (each 0 (omega arith)) ∙ ap (λ (ns : List ℕ). 0 ∷ ns) (no_durables made (λ k within. each (suc k) (omega arith)))

-- ---- the bay
abbrev pub made_drum : ℕ → Settings → Tail → Commit → List Bucket → Drum
made_drum base settings manifest last made = record { base = base; settings = settings; is_sound = true; manifest = manifest; last = last; cuts = 0; buckets = made }

pub made_is_drum : (old now : Told) (base : ℕ) (settings : Settings) (manifest : Tail) (last : Commit) (made : List Bucket) → base ≤ max_base → AreValid settings → last ≡ first_commit settings.buckets
    → manifest ≡ record { file = file_of base 0 Manifest; end = 0; is_sound = true } → MadeSoFar old now base settings.buckets manifest made settings.buckets
    → IsDrum (made_drum base settings manifest last made)
made_is_drum old now base settings manifest last made low valid is tail so_far = subst (λ (commit : Commit). IsDrum (made_drum base settings manifest commit made)) (sym is) (record {
  base = low;
  settings = valid;
  last = first_is_commit settings.buckets;
  judged = omega arith;
  entries = omega arith;
  manifest = ap (λ (t : Tail). t.file) tail;
  sound = λ yes. ap (λ (t : Tail). t.is_sound) tail;
  cuts = omega arith;
  count = so_far.count;
  buckets = λ b within. rw (so_far.each b within) (record {
    journal = refl;
    aux = refl;
    sound = λ yes. refl;
    start = omega arith;
    judged = omega (arith, get_or-replicate {A = ℕ} settings.buckets b 0 0 within);
    gate = omega arith;
    text = omega arith;
  });
})

pub made_holds : (old now : Told) (base : ℕ) (settings : Settings) (manifest : Tail) (last : Commit) (made : List Bucket) → AreValid settings → last ≡ first_commit settings.buckets
    → MadeSoFar old now base settings.buckets manifest made settings.buckets
    → Holds now.images (made_drum base settings manifest last made) (blank_book settings.buckets settings.rule)
made_holds old now base settings manifest last made valid is so_far = subst (λ (commit : Commit).
    Holds now.images (made_drum base settings manifest commit made) (blank_book settings.buckets settings.rule)) (sym is) (record {
      book_is = record { is_book = blank_is_book settings.buckets settings.rule valid.buckets; buckets = refl; rule = refl; dropped = refl };
      offers = λ b within. subst (AllByRecursion IsOffer) (sym (blank_lists settings.buckets settings.rule b)) tt;
      starts_are = λ b within. ap (λ (bucket : Bucket). bucket.start) (so_far.each b within) ∙ sym (get_or-replicate {A = ℕ} settings.buckets b 0 0 within);
      buckets = λ b within.
          let bucket = get_or made b no_bucket in
          let cut : get_or (first_commit settings.buckets).cut b 0 - bucket.start ≡ 0 = omega (arith, get_or-replicate {A = ℕ} settings.buckets b 0 0 within) in
          let here = subst (λ (one : Bucket). HoldsBucket now.images settings.array 0 one []) (sym (so_far.each b within)) (so_far.holds b within settings.array) in
          let none = blank_live settings.buckets settings.rule (first_commit settings.buckets) b in
          subst (λ (n : ℕ). HoldsBucket now.images settings.array n bucket (live_offers (blank_book settings.buckets settings.rule) (first_commit settings.buckets) b)) (sym cut)
          (subst (λ (list : List Tuple). HoldsBucket now.images settings.array 0 bucket list) (sym none) here);
      commits = [];
      commits_are = record { count = refl; each = λ i within. absurd (omega (arith, within)); form = tt; grow = tt; name = tt };
      last = refl;
      numbers = record {
        offers =
            no_durables made (λ k within. ap (λ (bucket : Bucket). bucket.durable) (so_far.each k (omega (arith, within, so_far.count))))
            ∙ ap (λ (n : ℕ). replicate n 0) so_far.count ∙ sym (no_lengths settings.buckets);
        commit = first_is_blank settings.buckets settings.rule;
        cuts = refl;
      };
      manifest = so_far.manifest_open;
      keys = rw no_entries refl;
      cache = rw no_entries (none_committed now.images (file_of base 0 (Cache 0)));
      judged_are = none_committed now.images (file_of base 0 Judged);
      texts = none_committed now.images (file_of base 0 Texts);
    })
