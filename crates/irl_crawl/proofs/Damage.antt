-- Where damage of an open store of a crawl is: what a call found before it changed other files is there after it.
use Rattle.std.proofs.Common.{◌≡◌, ◌∙◌, ◌⊎◌, inl, inr, ℕ, ◌≤◌, List, Option, Some, refl, sym, ap, subst, arith}
use Rattle.std.specs.FinMap.{get}
use Rattle.std.specs.Option.{ForSome}
use Rattle.irl_bay.specs.Drum.{Drum, IsDrum, judged_front}
use Rattle.irl_bay.specs.JudgedSpoilt.{IsJudgedSpoiltAt, IsSpoiltEntry}
use Rattle.irl_bay.proofs.Apart.{files_of_both, files_within}
use Rattle.irl_bay.proofs.Staying.{told_before}
use Rattle.irl_disk.specs.Disk.{ChangesOnly, Files, TellsOnly}
use Rattle.irl_disk.specs.Images.{Told}
use Rattle.irl_head.specs.StoreFiles.{crawl_file, urls_base}
use Rattle.irl_layout.specs.BayFiles.{IsFileOf}
use Rattle.irl_layout.specs.declared.files.BayFile.TheVariants.{Judged}
use Rattle.irl_ledger.specs.declared.ledger.Ledger.{Ledger}
use Rattle.irl_ledger.specs.Reading.{IsStrangeTextAt}
use Rattle.irl_log.specs.Noting.{NoteStandsAt}
use Rattle.irl_offer.specs.declared.note.Note.{Note}
use Rattle.irl_yard.specs.declared.parts.Parts.{Parts}
use Rattle.irl_yard.specs.declared.parts.Rest.{Rest}
use Rattle.irl_yard.specs.declared.parts.Rest.TheVariants.{Crawl}
use Rattle.irl_yard.specs.Holding.{IsOpenRest}
use Rattle.irl_yard.specs.Sending.{HasBegun, IsSentFile}
use Rattle.irl_crawl.proofs.Records.{AreBeside, crawl_of, few_buckets}
use Rattle.irl_crawl.specs.Refusing.{IsBrokenAt, IsEntryAt}

-- ---- a look that changes nothing
-- at the URLs,
entry_of : (images : Files → Type 0) (urls : Drum) (f at : ℕ) → IsStrangeTextAt images urls f at → IsEntryAt urls f at
entry_of images urls f at strange = record { file = strange.file; i = strange.i; within = strange.within; place = strange.place }

judged_broken : (images : Files → Type 0) (parts : Parts) (files : Files) (f at : ℕ) → IsJudgedSpoiltAt parts.urls files f at ⊎ IsStrangeTextAt images parts.urls f at → IsBrokenAt parts files f at
judged_broken images parts files f at (inl judged) = inl (inr judged)
judged_broken images parts files f at (inr strange) = inr (inl (entry_of images parts.urls f at strange))

pub urls_broken : (was now : Parts) (before after : Told) (f at : ℕ) → after.files ≡ before.files → now.urls ≡ was.urls
    → ForSome before.files (λ files. IsJudgedSpoiltAt was.urls files f at ⊎ IsStrangeTextAt before.images was.urls f at) → ForSome after.files (λ files. IsBrokenAt now files f at)
urls_broken was now before after f at same urls spoilt = λ files told.
    let here = subst (λ (d : Drum). IsJudgedSpoiltAt d files f at ⊎ IsStrangeTextAt before.images d f at) (sym urls) (spoilt files (sym same ∙ told)) in
    judged_broken before.images now files f at here

-- and at the log
pub note_broken : (was now : Parts) (before after : Told) (f at : ℕ) (host : List ℕ) → after.files ≡ before.files → now.rest ≡ was.rest
    → ((ledger : Ledger) × (was.rest ≡ Crawl ledger) × (f ≡ crawl_file) × (get ledger.notes host ≡ Some at)
    × ForSome before.files (λ files. (note : Note) → NoteStandsAt ledger.log (files crawl_file) at note → ⊥))
    → ForSome after.files (λ files. IsBrokenAt now files f at)
note_broken was now before after f at host same rest (ledger, is, file, known, none) = λ files told.
    inr (inr (ledger, rest ∙ is, inr (record { file = file; host = host; known = known; none = none files (sym same ∙ told) })))

-- ---- a call that changes other files
-- the judged file of the URLs stays
module _ (was now : Parts) (before after : Told) (among : ℕ → Type 0) (beside : AreBeside among was.urls) (told : TellsOnly among before.files after.files) (urls : now.urls ≡ was.urls) where
  judged_same : (old files : Files) → ChangesOnly among old files → files (judged_front was.urls).file ≡ old (judged_front was.urls).file
  judged_same old files changes = changes (judged_front was.urls).file (λ is. beside (judged_front was.urls).file is (Judged, tt, refl))

  judged_kept : (old files : Files) (f at : ℕ) → ChangesOnly among old files → IsJudgedSpoiltAt was.urls old f at → IsJudgedSpoiltAt was.urls files f at
  judged_kept old files f at changes spoilt =
      let file : f ≡ (judged_front was.urls).file = spoilt.0 in
      let same : files f ≡ old f = ap files file ∙ judged_same old files changes ∙ ap old (sym file) in
      (file, subst (λ (bytes : List ℕ). IsSpoiltEntry was.urls bytes at) (sym same) spoilt.1)

  still_broken : (old files : Files) (f at : ℕ) → ChangesOnly among old files → IsJudgedSpoiltAt was.urls old f at ⊎ IsStrangeTextAt before.images was.urls f at
      → IsJudgedSpoiltAt was.urls files f at ⊎ IsStrangeTextAt before.images was.urls f at
  still_broken old files f at changes (inl judged) = inl (judged_kept old files f at changes judged)
  still_broken old files f at changes (inr strange) = inr strange

  pub urls_broken_then : (f at : ℕ) → ForSome before.files (λ files. IsJudgedSpoiltAt was.urls files f at ⊎ IsStrangeTextAt before.images was.urls f at)
      → ForSome after.files (λ files. IsBrokenAt now files f at)
  urls_broken_then f at spoilt = λ files is.
      let old = told_before among before.files after.files files told is in
      let here = still_broken old.0 files f at old.2 (spoilt old.0 old.1) in
      judged_broken before.images now files f at (subst (λ (d : Drum). IsJudgedSpoiltAt d files f at ⊎ IsStrangeTextAt before.images d f at) (sym urls) here)

-- ---- files beside the URLs
module _ (urls : Drum) (law : IsDrum urls) (base : urls.base ≡ urls_base) where
  few : urls.settings.buckets ≤ 64
  few = few_buckets urls.settings.buckets law.settings.buckets

  of_urls : (f : ℕ) → IsFileOf urls.base urls.settings.buckets f → IsFileOf urls_base urls.settings.buckets f
  of_urls f is = subst (λ (n : ℕ). IsFileOf n urls.settings.buckets f) base is

  pub log_besides : AreBeside (λ f. f ≡ crawl_file) urls
  log_besides f is of = omega (arith, is, (files_within urls_base urls.settings.buckets f few (of_urls f of)).0)

  pub sent_besides : AreBeside (IsSentFile urls.settings.buckets) urls
  sent_besides f (inl pairs) of = files_of_both urls.settings.buckets f few (of_urls f of) pairs
  sent_besides f (inr is) of = log_besides f is of

-- where the bay of URLs of an open crawl begins
pub urls_place : (urls : Drum) (rest : Rest) (told : Option Files) → IsOpenRest urls rest told → HasBegun rest → urls.base ≡ urls_base
urls_place urls rest told opened begun = let crawl = crawl_of rest begun in (opened.1 crawl.0 crawl.1).1.urls_at
