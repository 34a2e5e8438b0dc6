-- What entering a store keeps of the live journals of a bay's buckets, whichever bay it is.
use Rattle.std.proofs.Common.{◌≡◌, ⊎_elim, inl, inr, ℕ, ◌+◌, ◌<◌, ◌≤◌, List, [], ◌∷◌, length, Option, Some, sym, subst, arith}
use Rattle.std.specs.List.{AllByRecursion}
use Rattle.std.specs.Prelude.{None, IfSome}
use Rattle.irl_bay.specs.Making.{IsJournalOf}
use Rattle.irl_bay.proofs.Apart.{journal_files}
use Rattle.irl_disk.specs.Disk.{Files}
use Rattle.irl_disk.proofs.Before.{below_or_above}
use Rattle.irl_head.specs.Opening.{IsBlank}
use Rattle.irl_head.specs.StoreFiles.{IsOtherFile, crawl_file, pairs_base, urls_base}
use Rattle.irl_journal.specs.Format.{StandsFor}
use Rattle.irl_journal.proofs.Lists.{few_bytes}
use Rattle.irl_journal.proofs.Opened.{opened_stands}
use Rattle.irl_layout.specs.BayFiles.{IsFileOf, file_of, max_base}
use Rattle.irl_layout.specs.Commits.{Commit, IsCommit, first_commit, last_commit, live_side, side_of}
use Rattle.irl_layout.specs.declared.files.BayFile.TheVariants.{Manifest, Journal}
use Rattle.irl_offer.specs.Settings.{settings_of}
use Rattle.irl_offer.specs.declared.settings.Asked.{Asked}
use Rattle.irl_offer.specs.declared.settings.Kind.{Kind}
use Rattle.irl_offer.specs.declared.settings.Kind.TheVariants.{Lines, Tuples, Crawl}
use Rattle.irl_offer.specs.declared.settings.Settings.{Settings}
use Rattle.irl_events.specs.State.{State}
use Rattle.irl_yard.specs.Entering.{Enters, IsKindJournal, IsStoreJournal, MakesStore}
use Rattle.irl_yard.specs.Holding.{HasLiveJournal}
use Rattle.irl_yard.specs.Standing.{ArePlainFiles, HasState}
use Rattle.irl_yard.proofs.Entering.{plain_blank}
use Rattle.irl_yard.proofs.Grounds.{blank_has}
use Rattle.irl_yard.proofs.Making.{urls_other}
use Rattle.irl_yard.proofs.RestFiles.{few}
use Rattle.irl_top.proofs.Closed.{blank_image}

-- ---- sides
low_side : (live : Option ℕ) → IfSome live (λ side. side ≤ 1) → side_of live ≤ 1
low_side None fits = omega arith
low_side (Some side) fits = fits

last_low : (buckets : ℕ) (first : Commit) (commits : List Commit) → live_side first ≤ 1 → AllByRecursion (IsCommit buckets) commits → live_side (last_commit first commits) ≤ 1
last_low buckets first [] low forms = low
last_low buckets first (commit ∷ commits) low forms = last_low buckets commit commits (low_side commit.live forms.0.live) forms.1

-- ---- files of at most one byte
-- each stands for as much as another such
short_stands : (old new : List ℕ) (payloads : List (List ℕ)) → length old ≤ 1 → length new ≤ 1 → StandsFor old payloads → StandsFor new payloads
short_stands old new payloads short also (inl none) = inl (also, none.1)
short_stands old new payloads short also (inr has) = inl (also, few_bytes old payloads short has)

-- making a store leaves them so behind the head
makes_short : (settings : Settings) (old new : Files) → settings.buckets ≤ 64 → MakesStore settings old new → IsBlank old → (f : ℕ) → IsOtherFile f → length (new f) ≤ 1
makes_short settings old new small makes blank f is = ⊎_elim
    (λ (short : length (new f) < 2). omega (arith, short))
    (λ (long : 2 ≤ length (new f)).
    let none : IsStoreJournal settings.kind settings.buckets f → ⊥ = λ journal. (let few = short journal in omega (arith, few, long)) in
    subst (λ (file : List ℕ). length file ≤ 1) (sym (makes.others f none)) (blank.others f is))
    (below_or_above (length (new f)) 2)
  where
    plain : ArePlainFiles settings.buckets new
    plain = makes.rest (plain_blank settings.buckets old small blank)

    short_kind : (kind : Kind) → IsKindJournal kind settings.buckets f → length (new f) ≤ 1
    short_kind Lines never = absurd never
    short_kind Tuples never = absurd never
    short_kind Crawl (inl log) = subst (λ (n : ℕ). length (new n) ≤ 1) (sym log) plain.crawl
    short_kind Crawl (inr journal) = plain.pairs f (journal_files pairs_base settings.buckets f journal)

    short : IsStoreJournal settings.kind settings.buckets f → length (new f) ≤ 1
    short (inl head) = absurd (omega (arith, head, is.0))
    short (inr (inl journal)) = makes.unmade (λ g of. blank.others g (urls_other settings.buckets g small of)) f (journal_files urls_base settings.buckets f journal)
    short (inr (inr kind)) = short_kind settings.kind kind

-- ---- the records of a bucket
pub enters_records_at : (base : ℕ) → 1 ≤ base → base ≤ max_base → (asked : Asked) (told : Option Files) (files : Files) (state : State) (old new : Files) (buckets b : ℕ) (payloads : List (List ℕ))
    → told ≡ Some files → HasState state files → HasState state old → Enters asked told old new → b < 64 → HasLiveJournal base buckets b payloads old → HasLiveJournal base buckets b payloads new
enters_records_at base above below asked told files state old new buckets b payloads is_told has_told has enters within journal = record {
  commits = journal.commits;
  form = journal.form;
  manifest = stands enters (file_of base 0 Manifest) (omega (arith, above), omega (arith, below)) _ journal.manifest;
  records = stands enters (file_of base 0 (Journal side b)) (omega (arith, above), omega (arith, low, within, below)) payloads journal.records;
}
  where
    side : ℕ
    side = live_side (last_commit (first_commit buckets) journal.commits)

    low : side ≤ 1
    low = last_low buckets (first_commit buckets) journal.commits (omega arith) journal.form

    stands : Enters asked told old new → (f : ℕ) → IsOtherFile f → (list : List (List ℕ)) → StandsFor (old f) list → StandsFor (new f) list
    stands (inl opens) f other list was = opened_stands (old f) (new f) list (⊎_elim (λ same. inl same) (λ opened. opened.1) (opens f)) was
    stands (inr (blank, valid, makes)) f other list was =
        let same = (blank_has state files (blank files is_told).head has_told).1 in
        let before = blank_image state old same has in
        short_stands (old f) (new f) list (before.others f other) (makes_short (settings_of asked) old new (few (settings_of asked) valid) makes before f other) was
