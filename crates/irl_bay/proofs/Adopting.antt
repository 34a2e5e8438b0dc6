-- The buckets of a bay, opened one after the other.
use Rattle.std.specs.Prelude.{IfSome}
use Rattle.std.proofs.Common.{◌≡◌, ◌∙◌, ◌≢◌, inl, inr, ⊎_elim, ℕ, suc, zero, ◌+◌, ◌<◌, ◌≤◌, List, [], ◌∷◌, ◌++◌, length, map, take, get_or, Option, Some, None, refl, sym, ap, subst, arith}
use Rattle.irl_offer.specs.Tuple.{Tuple}
use Rattle.irl_offer.specs.declared.settings.Settings.{Settings}
use Rattle.irl_disk.specs.Disk.{Files, Changes, ChangesFile, TellsBy}
use Rattle.irl_disk.specs.Images.{Told, IsConsistent, Follows, LeavesBy}
use Rattle.irl_disk.proofs.Stretches.{goes_on, left_now, widens_by}
use Rattle.irl_disk.proofs.Frames.{among_one, among_joins, told_from}
use Rattle.irl_journal.specs.Format.{StandsFor}
use Rattle.irl_journal.specs.Appending.{Ends}
use Rattle.irl_journal.specs.Blob.{Front, BeginsWith, IsCommitted}
use Rattle.irl_journal.specs.Visiting.{IsOpened}
use Rattle.irl_layout.specs.BayFiles.{file_of}
use Rattle.irl_layout.specs.Commits.{Commit, IsCommit, live_side, side_of}
use Rattle.irl_layout.specs.declared.commit.Live.{Live}
use Rattle.irl_layout.specs.declared.files.BayFile.TheVariants.{Journal, Aux}
use Rattle.irl_bay.specs.declared.bucket.Bucket.{Bucket}
use Rattle.irl_bay.specs.Damage.{HasRuns, IsDamagedBucket, IsDamagedJournal}
use Rattle.irl_layout.specs.EntryRuns.{AreRunPayloads, entries_bytes, entries_in, text_length}
use Rattle.irl_bay.specs.Damage.{IsShort}
use Rattle.irl_offer.specs.declared.entry.Entry.{Entry}
use Rattle.irl_bay.specs.Holding.{HoldsBucket}
use Rattle.irl_layout.specs.Runs.{HasBucket, run_bytes, texts_of}
use Rattle.irl_layout.proofs.EntryBytes.{below_or_not}
use Rattle.irl_bay.specs.Opening.{IsOpenBucket, HasWhole, IsLongBucket, HasListOf, IsJournalBelow, OpensBelow, OpensBucket}

-- ---- steps of opening
pub opened_none : (x : List ℕ) → IsOpened x x
opened_none x = inl refl

pub opened_both : (x y z : List ℕ) → IsOpened x y → IsOpened y z → IsOpened x z
opened_both x y z (inl first) (inl second) = inl (second ∙ first)
opened_both x y z (inl first) (inr second) = inr (subst (λ (w : List ℕ). (length w ≤ 1) × (w ≢ 0 ∷ []) × (length z ≤ 1)) first second)
opened_both x y z (inr first) (inl second) = inr (first.0, first.1, subst (λ (w : List ℕ). length w ≤ 1) (sym second) first.2)
opened_both x y z (inr first) (inr second) = inr (first.0, first.1, second.2)

-- no bucket yet
pub below_none : (base side : ℕ) (files : Files) → OpensBelow base side 0 files files
below_none base side files = record { changed = λ f is. opened_none (files f); others = λ f out. refl }

-- more of them
pub below_wider : (base side n m : ℕ) (old new : Files) → n ≤ m → OpensBelow base side n old new → OpensBelow base side m old new
below_wider base side n m old new few step = record {
  changed = λ f is. ⊎_elim (λ (below : is.0 < n). step.changed f (is.0, below, is.2)) (λ (past : n ≤ is.0). inl (step.others f (λ other. omega (arith, is.2, other.1, other.2, past))))
      (below_or_not is.0 n);
  others = λ f out. step.others f (λ is. out (is.0, omega (arith, is.1, few), is.2));
}

one_below : (base side b : ℕ) (old new : Files) → ChangesFile (file_of base 0 (Journal side b)) IsOpened old new → OpensBelow base side (b + 1) old new
one_below base side b old new step = among_one (IsJournalBelow base side (b + 1)) (λ f. IsOpened) (file_of base 0 (Journal side b)) IsOpened old new (
  b,
  omega arith,
  refl,
) (λ x y is. is) (λ g x is. opened_none x) step

-- one bucket more
pub below_more : (base side b : ℕ) (old mid new : Files) → OpensBelow base side b old mid → ChangesFile (file_of base 0 (Journal side b)) IsOpened mid new → OpensBelow base side (b + 1) old new
below_more base side b old mid new first second =
    among_joins (IsJournalBelow base side (b + 1)) (λ f. IsOpened) old mid new (λ g x y z is. opened_both x y z) (below_wider base side b (b + 1) old mid (omega arith) first)
    (one_below base side b mid new second)

pub tells_more : (base side b : ℕ) (old mid new : Option Files) → TellsBy (OpensBelow base side b) old mid → Changes (file_of base 0 (Journal side b)) IsOpened mid new
    → TellsBy (OpensBelow base side (b + 1)) old new
tells_more base side b None mid new first second = subst (λ (files : Option Files). Changes (file_of base 0 (Journal side b)) IsOpened files new) first second
tells_more base side b (Some old) mid new first second =
    let next = subst (λ (files : Option Files). Changes (file_of base 0 (Journal side b)) IsOpened files new) first.1 second in
    (next.0, next.1, below_more base side b old first.0 next.0 first.2 next.2)

pub stops_more : (base side b : ℕ) (old mid new : Told) → IsConsistent mid → LeavesBy (OpensBelow base side b) old mid → LeavesBy (ChangesFile (file_of base 0 (Journal side b)) IsOpened) mid new
    → LeavesBy (OpensBelow base side (b + 1)) old new
stops_more base side b old mid new law first second =
    goes_on old mid new (Follows (OpensBelow base side (b + 1)) old.images) (ChangesFile (file_of base 0 (Journal side b)) IsOpened) law
    (widens_by old mid (OpensBelow base side b) (OpensBelow base side (b + 1)) first (λ x y. below_wider base side b (b + 1) x y (omega arith)))
    second (λ before image was step. (
      was.0,
      was.1,
      among_joins (IsJournalBelow base side (b + 1)) (λ f. IsOpened) was.0 before image (λ g x y z is. opened_both x y z) was.2
          (one_below base side b before image step),
    ))

pub tells_wider : (base side n m : ℕ) (old new : Option Files) → n ≤ m → TellsBy (OpensBelow base side n) old new → TellsBy (OpensBelow base side m) old new
tells_wider base side n m None new few tells = tells
tells_wider base side n m (Some old) new few tells = (tells.0, tells.1, below_wider base side n m old tells.0 few tells.2)

pub stops_wider : (base side n m : ℕ) (old new : Told) → n ≤ m → LeavesBy (OpensBelow base side n) old new → LeavesBy (OpensBelow base side m) old new
stops_wider base side n m old new few stops = widens_by old new (OpensBelow base side n) (OpensBelow base side m) stops (λ x y. below_wider base side n m x y few)

-- ---- what stays of the other buckets' files
pub same_journal : (base side b c : ℕ) (old new : Files) → b ≤ c → OpensBelow base side b old new → new (file_of base 0 (Journal side c)) ≡ old (file_of base 0 (Journal side c))
same_journal base side b c old new past step = step.others (file_of base 0 (Journal side c)) (λ is. omega (arith, is.1, is.2, past))

pub same_aux : (base side b c : ℕ) (old new : Files) → OpensBelow base side b old new → new (file_of base 0 (Aux side c)) ≡ old (file_of base 0 (Aux side c))
same_aux base side b c old new step = step.others (file_of base 0 (Aux side c)) (λ is. omega (arith, is.1, is.2))

pub whole_back : (base side : ℕ) (settings : Settings) (b : ℕ) (old new : Files) (bucket : Bucket) → OpensBelow base side b old new → HasWhole base side settings b new bucket
    → HasWhole base side settings b old bucket
whole_back base side settings b old new bucket step whole = record {
  runs = whole.runs;
  has = record { each = whole.has.each; records = subst (λ (file : List ℕ). StandsFor file (map entries_bytes whole.runs)) (same_journal base side b b old new (omega arith) step) whole.has.records };
  durable = whole.durable;
  texts = omega (arith, whole.texts, ap length (same_aux base side b b old new step));
}

abbrev HasBucketOf : Settings → List Tuple → List ℕ → List ℕ → Type 0
HasBucketOf settings list journal aux = HasBucket settings.array list journal aux

pub list_on : (base side : ℕ) (settings : Settings) (b start cut : ℕ) (list : List Tuple) (old new : Files) → OpensBelow base side b old new → HasListOf base side settings b start cut list old
    → HasListOf base side settings b start cut list new
list_on base side settings b start cut list old new step is = record {
  has = subst (λ (file : List ℕ). HasBucketOf settings list file (new (file_of base 0 (Aux side b)))) (sym (same_journal base side b b old new (omega arith) step))
      (subst (λ (file : List ℕ). HasBucketOf settings list (old (file_of base 0 (Journal side b))) file) (sym (same_aux base side b b old new step)) is.has);
  here = is.here;
  within = is.within;
  few = is.few;
}

-- a bucket that was opened before stays as it is held
pub holds_on : (base side b c first : ℕ) (array cut : ℕ) (bucket : Bucket) (list : List Tuple) (old new : Told) → IsConsistent new → c < b → IsOpenBucket base side c first bucket
    → LeavesBy (ChangesFile (file_of base 0 (Journal side b)) IsOpened) old new
    → HoldsBucket old.images array cut bucket list → HoldsBucket new.images array cut bucket list
holds_on base side b c first array cut bucket list old new law below is step holds = record {
  before = holds.before;
  behind = holds.behind;
  are = holds.are;
  journal = λ image left.
      let from = left_now old new _ law step image left in
      let same = from.2.others bucket.journal.file (λ e. omega (arith, is.journal, e, below)) in
      subst (λ (file : List ℕ). Ends bucket.journal.end file (map run_bytes (holds.before ++ holds.behind))) (sym same) (holds.journal from.0 from.1);
  aux = record {
    size = holds.aux.size;
    each = λ image left.
        let from = left_now old new _ law step image left in
        let same = from.2.others bucket.aux.file (λ e. omega (arith, is.aux, e)) in
        subst (λ (file : List ℕ). BeginsWith file (texts_of list)) (sym same) (holds.aux.each from.0 from.1);
  };
  durable = holds.durable;
  judged = holds.judged;
  gate = holds.gate;
  skip = holds.skip;
  text = holds.text;
}

-- and as long as it was
pub long_on : (base side b c first : ℕ) (bucket : Bucket) (old new : Files) → c < b → IsOpenBucket base side c first bucket → ChangesFile (file_of base 0 (Journal side b)) IsOpened old new
    → IsLongBucket bucket old → IsLongBucket bucket new
long_on base side b c first bucket old new below is step long = record {
  journal = omega (arith, long.journal, ap length (step.others bucket.journal.file (λ e. omega (arith, is.journal, e, below))));
  aux = omega (arith, long.aux, ap length (step.others bucket.aux.file (λ e. omega (arith, is.aux, e))));
}

-- ---- the fronts
pub front_on : (images new : Files → Type 0) (files : Files) (blob : Front) (f g n m : ℕ) → blob ≡ record { file = f; length = n } → f ≡ g → n ≡ m → IsCommitted images blob (take n (files f))
    → ((image : Files) → new image → images image)
    → IsCommitted new (record { file = g; length = m }) (take m (files g))
front_on images new files blob f g n m is same_file same_length committed kept =
    subst (λ (k : ℕ). IsCommitted new (record { file = g; length = k }) (take k (files g))) same_length
    (subst (λ (h : ℕ). IsCommitted new (record { file = h; length = n }) (take n (files h))) same_file
    (let here = subst (λ (front : Front). IsCommitted images front (take n (files f))) is committed in record { size = here.size; each = λ image left. here.each image (kept image left) }))

-- ---- items of a list and one more
pub item_before : (xs : List Bucket) (x d : Bucket) (c : ℕ) → c < length xs → get_or (xs ++ x ∷ []) c d ≡ get_or xs c d
item_before [] x d c within = absurd (omega (arith, within))
item_before (y ∷ xs) x d zero within = refl
item_before (y ∷ xs) x d (suc c) within = item_before xs x d c (omega (arith, within))

pub item_last : (xs : List Bucket) (x d : Bucket) (c : ℕ) → c ≡ length xs → get_or (xs ++ x ∷ []) c d ≡ x
item_last [] x d zero is = refl
item_last [] x d (suc c) is = absurd (omega (arith, is))
item_last (y ∷ xs) x d zero is = absurd (omega (arith, is))
item_last (y ∷ xs) x d (suc c) is = item_last xs x d c (omega (arith, is))

-- what holds of each holds of one more
pub each_item : (P : ℕ → Bucket → Type 0) (xs new : List Bucket) (x d : Bucket) (b : ℕ) → length xs ≡ b → new ≡ xs ++ x ∷ [] → ((k : ℕ) → k < b → P k (get_or xs k d)) → P b x → (k : ℕ) → k < b + 1
    → P k (get_or new k d)
each_item P xs new x d b count is each here k below = ⊎_elim
    (λ (was : k < b). subst (λ (y : Bucket). P k y) (sym (ap (λ (l : List Bucket). get_or l k d) is ∙ item_before xs x d k (omega (arith, was, count)))) (each k was))
    (λ (now : b ≤ k).
    let same : k ≡ b = omega (arith, below, now) in
    subst (λ (y : Bucket). P k y) (sym (ap (λ (l : List Bucket). get_or l k d) is ∙ item_last xs x d k (omega (arith, same, count)))) (subst (λ (j : ℕ). P j x) (sym same) here))
    (below_or_not k b)

-- damage of a bucket stood there before the others were opened
pub runs_back : (base side : ℕ) (settings : Settings) (b : ℕ) (old new : Files) (runs : List (List Entry)) → OpensBelow base side b old new → HasRuns base side settings b new runs
    → HasRuns base side settings b old runs
runs_back base side settings b old new runs step has = record {
  each = has.each;
  records = subst (λ (file : List ℕ). StandsFor file (map entries_bytes runs)) (same_journal base side b b old new (omega arith) step) has.records;
}

pub damaged_back : (base side : ℕ) (settings : Settings) (b : ℕ) (old new : Files) (f at : ℕ) → OpensBelow base side b old new → IsDamagedBucket base side settings b new f at
    → IsDamagedBucket base side settings b old f at
damaged_back base side settings b old new f at step (inl damaged) =
    let same : new f ≡ old f = ap new damaged.0 ∙ same_journal base side b b old new (omega arith) step ∙ ap old (sym damaged.0) in
    inl (damaged.0, subst (λ (file : List ℕ). IsDamagedJournal (AreRunPayloads settings b) file at) same damaged.1)
damaged_back base side settings b old new f at step (inr damaged) =
    let same : new f ≡ old f = ap new damaged.0 ∙ same_aux base side b b old new step ∙ ap old (sym damaged.0) in
    inr (
      damaged.0,
      (
        damaged.1.0,
        runs_back base side settings b old new damaged.1.0 step damaged.1.1,
        subst (λ (file : List ℕ). IsShort (text_length (entries_in damaged.1.0)) file at) same damaged.1.2,
      ),
    )

-- ---- the side that a commit leaves live
side_within : (live : Option ℕ) → IfSome live (λ side. side ≤ 1) → side_of live ≤ 1
side_within None is = omega arith
side_within (Some side) is = is

pub side_fits : (buckets : ℕ) (commit : Commit) → IsCommit buckets commit → live_side commit ≤ 1
side_fits buckets commit is = side_within commit.live is.live

-- ---- a bucket that was opened
-- the others are opened after it
pub opened_on : (base b c : ℕ) (settings : Settings) (live : Live) (bucket : Bucket) (old mid new : Told) → IsConsistent new → c < b
    → Changes (file_of base 0 (Journal live.side b)) IsOpened mid.files new.files → LeavesBy (ChangesFile (file_of base 0 (Journal live.side b)) IsOpened) mid new
    → OpensBucket base settings c live old mid bucket → OpensBucket base settings c live old new bucket
opened_on base b c settings live bucket old mid new law below changes stops is = record {
  opened = is.opened;
  found = is.found;
  long = λ files tells.
      let was = told_from (file_of base 0 (Journal live.side b)) IsOpened mid.files new.files files changes tells in
      long_on base live.side b c live.start bucket was.0 files below is.opened was.2 (is.long was.0 was.1);
  holds = λ files tells list has. holds_on base live.side b c live.start settings.array live.judged bucket list mid new law below is.opened stops (is.holds files tells list has);
}

-- others were opened before it
told_then : (base side b : ℕ) (old mid : Option Files) (files : Files) → TellsBy (OpensBelow base side b) old mid → old ≡ Some files → (now : Files) × (mid ≡ Some now)
    × OpensBelow base side b files now
told_then base side b old mid files told tells = subst (λ (from : Option Files). TellsBy (OpensBelow base side b) from mid) tells told

pub opened_back : (base b : ℕ) (settings : Settings) (live : Live) (bucket : Bucket) (old mid new : Told) → TellsBy (OpensBelow base live.side b) old.files mid.files
    → OpensBucket base settings b live mid new bucket → OpensBucket base settings b live old new bucket
opened_back base b settings live bucket old mid new told is = record {
  opened = is.opened;
  found = λ files tells.
      let at = told_then base live.side b old.files mid.files files told tells in
      whole_back base live.side settings b files at.0 bucket at.2 (is.found at.0 at.1);
  long = is.long;
  holds = λ files tells list has.
      let at = told_then base live.side b old.files mid.files files told tells in
      is.holds at.0 at.1 list (list_on base live.side settings b live.start live.judged list files at.0 at.2 has);
}
