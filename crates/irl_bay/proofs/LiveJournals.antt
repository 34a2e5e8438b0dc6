-- The journals that opening a bay reads and changes: the manifest, and those of the buckets on the side that it leaves live.
use Rattle.std.proofs.Common.{◌≡◌, ◌≢◌, ◌∙◌, ◌⊎◌, inl, inr, ⊎_elim, ℕ, ◌<◌, ◌≤◌, List, [], ◌∷◌, length, map, drop, Option, Some, None, refl, sym, ap, subst, arith}
use Rattle.std.specs.Option.{ForSome}
use Rattle.irl_offer.specs.declared.settings.Settings.{Settings}
use Rattle.irl_model.specs.Book.{Book}
use Rattle.irl_disk.specs.Disk.{Files, Changes, ChangesFile, ChangesAmong, TellsBy}
use Rattle.irl_base.specs.Faults.{HasCause}
use Rattle.irl_disk.specs.Effects.{OnlyReads, ReadsAndChanges}
use Rattle.irl_disk.specs.Images.{Told, IsConsistent, Follows, LeavesBy}
use Rattle.irl_disk.proofs.Effects.{told_none}
use Rattle.irl_disk.specs.Taken.{TakesAmong, TakesOnly}
use Rattle.irl_disk.proofs.Frames.{among_one, told_from, takes_none, takes_both, takes_only}
use Rattle.irl_disk.proofs.Stretches.{joins, left_now, reads_on, same_by, stays, widens, widens_by}
use Rattle.irl_journal.specs.Appending.{Tail, IsOpen}
use Rattle.irl_journal.specs.Format.{StandsFor, records_text, placed_from}
use Rattle.irl_journal.specs.Visiting.{IsOpened, TakesAll, TookUpTo}
use Rattle.irl_journal.proofs.Lists.{few_bytes, one_list}
use Rattle.irl_layout.specs.BayFiles.{file_of}
use Rattle.irl_layout.specs.declared.files.BayFile.TheVariants.{Manifest, Journal}
use Rattle.irl_bay.specs.declared.history.HistoryVisitor.{HistoryVisitor}
use Rattle.irl_layout.specs.Commits.{Commit, commit_bytes, first_commit, last_commit, live_side}
use Rattle.irl_bay.specs.Damage.{HasManifest, IsLiveJournal, IsAdopted}
use Rattle.irl_bay.specs.Making.{IsJournalOn, IsJournalOf}
use Rattle.irl_bay.specs.Opening.{IsJournalBelow, OpensBelow, AdoptMayLeave}
use Rattle.irl_bay.specs.Standing.{Stands}
use Rattle.irl_bay.proofs.Adopted.{first_is, last_is, manifest_of, takes_wider, took_side}
use Rattle.irl_bay.proofs.AdoptedBook.{same_commits}
use Rattle.irl_bay.proofs.Adopting.{opened_none, opened_both, side_fits}
use Rattle.irl_bay.proofs.Apart.{stands_opened}
use Rattle.irl_layout.proofs.EntryBytes.{below_or_not}
use Rattle.irl_bay.proofs.Flushing.{same_or_other}
use Rattle.irl_bay.proofs.Reached.{TakesCommit, rise_each, took_commits}

-- ---- a manifest
-- what it stands for after it was opened it stood for before
opened_back : (old new : List ℕ) (payloads : List (List ℕ)) → IsOpened old new → StandsFor new payloads → StandsFor old payloads
opened_back old new payloads (inl same) stands = subst (λ (file : List ℕ). StandsFor file payloads) same stands
opened_back old new payloads (inr short) (inl none) = inl (short.0, none.1)
opened_back old new payloads (inr short) (inr has) = inl (short.0, few_bytes new payloads short.2 has)

-- files have at most one
one_manifest : (base buckets : ℕ) (files : Files) (xs ys : List Commit) → HasManifest base buckets files xs → HasManifest base buckets files ys → xs ≡ ys
one_manifest base buckets files xs ys has other =
    same_commits buckets xs ys (rise_each buckets (first_commit buckets) xs has.rise) (rise_each buckets (first_commit buckets) ys other.rise)
    (one_list (files (file_of base 0 Manifest)) (map commit_bytes xs) (map commit_bytes ys) has.records other.records)

-- the files have a manifest, and its last commit leaves this side live
pub record HasLive (base buckets side : ℕ) (files : Files) : Type 0 where
  pub commits : List Commit
  pub has : HasManifest base buckets files commits
  pub live : live_side (last_commit (first_commit buckets) commits) ≡ side

live_back : (base buckets side : ℕ) (old new : Files) → IsOpened (old (file_of base 0 Manifest)) (new (file_of base 0 Manifest)) → HasLive base buckets side new → HasLive base buckets side old
live_back base buckets side old new opened is = record {
  commits = is.commits;
  has = record { rise = is.has.rise; records = opened_back (old (file_of base 0 Manifest)) (new (file_of base 0 Manifest)) (map commit_bytes is.commits) opened is.has.records };
  live = is.live;
}

-- so the journals on that side are the live ones
live_below : (base buckets side : ℕ) (files : Files) → HasLive base buckets side files → (f : ℕ) → IsJournalBelow base side buckets f → IsLiveJournal base buckets files f
live_below base buckets side files is f below = inr (is.commits, is.has, (below.0, below.1, below.2 ∙ ap (λ (s : ℕ). file_of base 0 (Journal s below.0)) (sym is.live)))

below_live : (base buckets side : ℕ) (files : Files) → HasLive base buckets side files → (f : ℕ) → IsLiveJournal base buckets files f → (f ≡ file_of base 0 Manifest)
    ⊎ IsJournalBelow base side buckets f
below_live base buckets side files is f (inl manifest) = inl manifest
below_live base buckets side files is f (inr (commits, has, (b, within, e))) =
    let same : commits ≡ is.commits = one_manifest base buckets files commits is.commits has is.has in
    let live : live_side (last_commit (first_commit buckets) commits) ≡ side = ap (λ (l : List Commit). live_side (last_commit (first_commit buckets) l)) same ∙ is.live in
    inr (b, within, e ∙ ap (λ (s : ℕ). file_of base 0 (Journal s b)) live)

-- ---- what changes
adopted_manifest : (base buckets : ℕ) (old new : Files) → ChangesFile (file_of base 0 Manifest) IsOpened old new → IsAdopted base buckets old new
adopted_manifest base buckets old new step = among_one (IsLiveJournal base buckets old) (λ f. IsOpened) (file_of base 0 Manifest) IsOpened old new (inl refl) (λ x y is. is) (λ g x is. opened_none x)
    step

-- the manifest, and then the buckets on the side that it leaves live
adopted_then : (base side buckets : ℕ) (old mid new : Files) → IsAdopted base buckets old mid → HasLive base buckets side mid → OpensBelow base side buckets mid new → IsAdopted base buckets old new
adopted_then base side buckets old mid new first live second =
    let was = live_back base buckets side old mid (first.changed (file_of base 0 Manifest) (inl refl)) live in
    record {
      changed = λ f is. opened_both (old f) (mid f) (new f) (first.changed f is) (⊎_elim
          (λ (manifest : f ≡ file_of base 0 Manifest). inl (second.others f (λ below. omega (arith, manifest, below.2))))
          (λ (below : IsJournalBelow base side buckets f). second.changed f below)
          (below_live base buckets side old was f is));
      others = λ f out. second.others f (λ below. out (live_below base buckets side old was f below)) ∙ first.others f out;
    }

tells_manifest : (base buckets : ℕ) (old new : Option Files) → Changes (file_of base 0 Manifest) IsOpened old new → TellsBy (IsAdopted base buckets) old new
tells_manifest base buckets None new changes = changes
tells_manifest base buckets (Some old) new changes = (changes.0, changes.1, adopted_manifest base buckets old changes.0 changes.2)

tells_buckets : (base side buckets : ℕ) (old mid new : Option Files) → TellsBy (IsAdopted base buckets) old mid → ForSome mid (HasLive base buckets side)
    → TellsBy (OpensBelow base side buckets) mid new → TellsBy (IsAdopted base buckets) old new
tells_buckets base side buckets None mid new first live second = subst (λ (files : Option Files). TellsBy (OpensBelow base side buckets) files new) first second
tells_buckets base side buckets (Some old) mid new first live second =
    let next = subst (λ (files : Option Files). TellsBy (OpensBelow base side buckets) files new) first.1 second in
    (next.0, next.1, adopted_then base side buckets old first.0 next.0 first.2 (live first.0 first.1) next.2)

-- ---- one call after the other
-- no byte is read but of the manifest and of the buckets' journals on one side; where the store tells its files, that is
-- the live one
record ReadsLive (base buckets : ℕ) (files : Option Files) (old new : Option (ℕ → ℕ)) : Type 0 where
  side : ℕ
  fits : side ≤ 1
  among : TakesAmong (IsJournalOn base side buckets) old new
  live : ForSome files (λ told. TakesAmong (IsLiveJournal base buckets told) old new)

-- from one snapshot to a later one the files change at most as opening the bay may, for what is told and at each stop
pub record AdoptsTo (base buckets : ℕ) (old new : Told) : Type 0 where
  files : TellsBy (IsAdopted base buckets) old.files new.files
  stops : LeavesBy (IsAdopted base buckets) old new
  reads : ReadsLive base buckets old.files old.taken new.taken

adopted_none : (base buckets : ℕ) (files : Files) → IsAdopted base buckets files files
adopted_none base buckets files = record { changed = λ f is. opened_none (files f); others = λ f out. refl }

pub adopts_none : (base buckets : ℕ) (now : Told) → IsConsistent now → AdoptsTo base buckets now now
adopts_none base buckets now law = record {
  files = told_none (IsAdopted base buckets) now.files now.files (adopted_none base buckets) refl;
  stops = same_by now now (IsAdopted base buckets) (adopted_none base buckets) (stays now now.images law (λ image left. left));
  reads = record {
    side = 0;
    fits = omega arith;
    among = takes_none (IsJournalOn base 0 buckets) now.taken now.taken refl;
    live = λ told is. takes_none (IsLiveJournal base buckets told) now.taken now.taken refl;
  };
}

-- the manifest is opened
pub adopts_first : (base buckets f : ℕ) (failed : Type 0) (old new : Told) → f ≡ file_of base 0 Manifest → ReadsAndChanges (λ g. g ≡ f) (ChangesFile f IsOpened) failed old new
    → AdoptsTo base buckets old new
adopts_first base buckets f failed old new is step = record {
  files = tells_manifest base buckets old.files new.files (subst (λ (n : ℕ). Changes n IsOpened old.files new.files) is step.told);
  stops = widens_by old new _ (IsAdopted base buckets) (subst (λ (n : ℕ). LeavesBy (ChangesFile n IsOpened) old new) is step.stops) (adopted_manifest base buckets);
  reads = record {
    side = 0;
    fits = omega arith;
    among = takes_only (IsJournalOn base 0 buckets) f old.taken new.taken (inl is) step.taken;
    live = λ told is_told. takes_only (IsLiveJournal base buckets told) f old.taken new.taken (inl is) step.taken;
  };
}

-- a call reads no file but the manifest, and changes nothing
pub adopts_read : (base buckets : ℕ) (among : ℕ → Type 0) (failed : Type 0) (old mid new : Told) → IsConsistent mid → ((f : ℕ) → among f → f ≡ file_of base 0 Manifest) → AdoptsTo base buckets old mid
    → OnlyReads among failed mid new → AdoptsTo base buckets old new
adopts_read base buckets among failed old mid new law within first step = record {
  files = subst (TellsBy (IsAdopted base buckets) old.files) (sym step.same) first.files;
  stops = reads_on old mid new _ law first.stops step.stops;
  reads = record {
    side = first.reads.side;
    fits = first.reads.fits;
    among = takes_both (IsJournalOn base first.reads.side buckets) old.taken mid.taken new.taken first.reads.among
        (takes_wider among (IsJournalOn base first.reads.side buckets) mid.taken new.taken (λ f is. inl (within f is)) step.taken);
    live = λ told is. takes_both (IsLiveJournal base buckets told) old.taken mid.taken new.taken (first.reads.live told is)
        (takes_wider among (IsLiveJournal base buckets told) mid.taken new.taken (λ f among_it. inl (within f among_it)) step.taken);
  };
}

-- ---- what opening the manifest gives
pub record IsVisited (base buckets side : ℕ) (old mid : Told) : Type 0 where
  adopts : AdoptsTo base buckets old mid
  taken : TakesOnly (file_of base 0 Manifest) old.taken mid.taken
  fits : side ≤ 1
  -- the side that it leaves live, in what was told, and in what each stop leaves from then on
  told : ForSome old.files (HasLive base buckets side)
  live : (image : Files) → mid.images image → HasLive base buckets side image

-- a visitor that took its records has its last commit
live_of : (base buckets f : ℕ) (files : Files) (blank new : HistoryVisitor) (last : Commit) (payloads : List (List ℕ)) → f ≡ file_of base 0 Manifest → blank.buckets ≡ buckets
    → blank.last ≡ first_commit buckets → blank.count ≡ 0 → last ≡ new.last
    → StandsFor (files f) payloads → TakesAll TakesCommit blank (placed_from 0 payloads) new → HasLive base buckets (live_side last) files
live_of base buckets f files blank new last payloads is many first none same stands took =
    let told = manifest_of base buckets f files blank.last blank.count payloads new is first none stands (took_commits buckets 0 blank new payloads many (omega (arith, none)) took) in
    record { commits = told.commits; has = told.has; live = ap live_side (sym told.last_is ∙ sym same) }

pub visited : (base buckets f : ℕ) (failed : Type 0) (old mid : Told) (journal : Tail) (blank new : HistoryVisitor) (last : Commit) → IsConsistent mid → f ≡ file_of base 0 Manifest → journal.file ≡ f
    → blank.buckets ≡ buckets → blank.last ≡ first_commit buckets → blank.count ≡ 0 → last ≡ new.last
    → ReadsAndChanges (λ g. g ≡ f) (ChangesFile f IsOpened) failed old mid
    → ForSome old.files (λ files. (payloads : List (List ℕ)) × StandsFor (files f) payloads)
    → ForSome old.files (λ files. (payloads : List (List ℕ)) → StandsFor (files f) payloads → (journal.end ≡ length (records_text payloads)) × TakesAll TakesCommit blank (placed_from 0 payloads) new
    × IsOpen mid.images journal payloads)
    → TookUpTo TakesCommit blank new 0 journal.end → IsVisited base buckets (live_side last) old mid
visited base buckets f failed old mid journal blank new last law is_file is_journal many first none same step found records took = record {
  adopts = adopts_first base buckets f failed old mid is_file step;
  taken = subst (λ (n : ℕ). TakesOnly n old.taken mid.taken) is_file step.taken;
  fits = took_side buckets blank.last blank.count took.payloads new last first (took_commits buckets 0 blank new took.payloads many (omega (arith, none)) took.took) same;
  told = λ files tells.
      let list = found files tells in
      live_of base buckets f files blank new last list.0 is_file many first none same list.1 (records files tells list.0 list.1).1;
  live = λ image left.
      let after = law.tells image left in
      let before = told_from f IsOpened old.files mid.files after.0 step.told after.1 in
      let list = found before.0 before.1 in
      let read = records before.0 before.1 list.0 list.1 in
      live_of base buckets f image blank new last list.0 is_file many first none same (subst (λ (n : ℕ). StandsFor (image n) list.0) is_journal (inr (read.2 image left).records)) read.1;
}

-- and then the buckets are opened, after files were synced
pub adopts_buckets : (base side buckets : ℕ) (failed other : Type 0) (old mid synced new : Told) → IsVisited base buckets side old mid → IsConsistent mid → IsConsistent synced
    → OnlyReads (λ f. ⊥) failed mid synced → ReadsAndChanges (IsJournalBelow base side buckets) (OpensBelow base side buckets) other synced new → AdoptsTo base buckets old new
adopts_buckets base side buckets failed other old mid synced new visit law law_synced reads step =
    let first = adopts_read base buckets (λ f. ⊥) failed old mid synced law (λ f none. absurd none) visit.adopts reads in
    let live = λ (image : Files) (left : synced.images image). visit.live image (left_now mid synced mid.images law_synced reads.stops image left) in
    let front = λ (among : ℕ → Type 0) (is : among (file_of base 0 Manifest)). takes_both among old.taken mid.taken synced.taken
    (takes_only among (file_of base 0 Manifest) old.taken mid.taken is visit.taken)
    (takes_wider (λ f. ⊥) among mid.taken synced.taken (λ f none. absurd none) reads.taken) in
    record {
      files = tells_buckets base side buckets old.files synced.files new.files first.files (λ files told. live files (law_synced.told files told)) step.told;
      stops = joins old synced new (Follows (IsAdopted base buckets) old.images) first.stops
          (widens synced new (Follows (OpensBelow base side buckets) synced.images) (Follows (IsAdopted base buckets) old.images) step.stops (λ image from.
          let was = left_now old synced (Follows (IsAdopted base buckets) old.images) law_synced first.stops from.0 from.1 in
          (was.0, was.1, adopted_then base side buckets was.0 from.0 image was.2 (live from.0 from.1) from.2)));
      reads = record {
        side = side;
        fits = visit.fits;
        among = takes_both (IsJournalOn base side buckets) old.taken synced.taken new.taken (front (IsJournalOn base side buckets) (inl refl))
            (takes_wider (IsJournalBelow base side buckets) (IsJournalOn base side buckets) synced.taken new.taken (λ g below. inr below) step.taken);
        live = λ files told. takes_both (IsLiveJournal base buckets files) old.taken synced.taken new.taken (front (IsLiveJournal base buckets files) (inl refl))
            (takes_wider (IsJournalBelow base side buckets) (IsLiveJournal base buckets files) synced.taken new.taken (live_below base buckets side files (visit.told files told)) step.taken);
      };
    }

-- ---- journals on both sides
-- bytes are others or not
same_bytes : (xs ys : List ℕ) → (xs ≡ ys) ⊎ (xs ≢ ys)
same_bytes [] [] = inl refl
same_bytes [] (y ∷ ys) = inr (λ e. cc)
same_bytes (x ∷ xs) [] = inr (λ e. cc)
same_bytes (x ∷ xs) (y ∷ ys) = ⊎_elim
    (λ (e : x ≡ y). ⊎_elim
    (λ (es : xs ≡ ys). inl cc)
    (λ (other : xs ≢ ys). inr (λ e. other (ap (drop 1) e)))
    (same_bytes xs ys))
    (λ (other : x ≢ y). inr (λ e. other (cc)))
    (same_or_other x y)

-- so a file was opened or it wasn't
opened_or_not : (old new : List ℕ) → IsOpened old new ⊎ (IsOpened old new → ⊥)
opened_or_not old new = ⊎_elim
    (λ (same : new ≡ old). inl (inl same))
    (λ (other : new ≢ old). ⊎_elim
    (λ (closed : old ≡ 0 ∷ []). inr (λ is. ⊎_elim other (λ short. short.1 closed) is))
    (λ (no_gate : old ≢ 0 ∷ []). ⊎_elim
    (λ (short : length old < 2). ⊎_elim
    (λ (few : length new < 2). inl (inr (omega (arith, short), no_gate, omega (arith, few))))
    (λ (long : 2 ≤ length new). inr (λ is. ⊎_elim other (λ one. omega (arith, one.2, long)) is))
    (below_or_not (length new) 2))
    (λ (long : 2 ≤ length old). inr (λ is. ⊎_elim other (λ one. omega (arith, one.0, long)) is))
    (below_or_not (length old) 2))
    (same_bytes old (0 ∷ [])))
    (same_bytes new old)

live_is_one : (base buckets f : ℕ) (files : Files) → IsLiveJournal base buckets files f → IsJournalOf base buckets f
live_is_one base buckets f files (inl manifest) = inl manifest
live_is_one base buckets f files (inr (commits, has, (b, within, e))) =
    let last = last_is buckets (first_commit buckets) commits (first_is buckets) (rise_each buckets (first_commit buckets) commits has.rise) in
    inr (_, b, side_fits buckets (last_commit (first_commit buckets) commits) last, within, e)

-- what opening does it does to journals of the bay
pub adopted_wider : (base buckets : ℕ) (old new : Files) → IsAdopted base buckets old new → ChangesAmong (IsJournalOf base buckets) (λ f. IsOpened) old new
adopted_wider base buckets old new step = record {
  changed = λ f is. ⊎_elim
      (λ (opened : IsOpened (old f) (new f)). opened)
      (λ (no : IsOpened (old f) (new f) → ⊥). absurd (no (inl (step.others f (λ live. no (step.changed f live))))))
      (opened_or_not (old f) (new f));
  others = λ f out. step.others f (λ live. out (live_is_one base buckets f old live));
}

-- so files that stand for a book stand for it
pub stands_adopted : (base : ℕ) (settings : Settings) (book : Book) (old new : Files) → IsAdopted base settings.buckets old new → Stands base settings book old → Stands base settings book new
stands_adopted base settings book old new step stands = stands_opened base settings book old new (adopted_wider base settings.buckets old new step) stands

-- ---- what a stop leaves
pub may_leave : (failed : Type 0) (base : ℕ) (settings : Settings) (old new : Told) → AdoptsTo base settings.buckets old new → HasCause failed old.faults new.faults
    → AdoptMayLeave failed base settings old new
may_leave failed base settings old new to cause = record {
  stands = λ book all. widens old new _ (λ (image : Files). Stands base settings book image) to.stops (λ image from. stands_adopted base settings book from.0 image from.2 (all from.0 from.1));
  side = to.reads.side;
  fits = to.reads.fits;
  changes = record { told = to.files; stops = to.stops; taken = to.reads.among; cause = cause };
  live = to.reads.live;
}
