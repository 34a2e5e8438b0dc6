-- A store of a crawl is opened, one part after the other: what each does to its files, and what becomes of them in the end.
use Rattle.std.proofs.Common.{◌≡◌, ◌≢◌, ◌∙◌, ◌⊎◌, ⊎_elim, inl, inr, ℕ, List, [], ◌∷◌, Option, sym, subst}
use Rattle.std.specs.Option.{ForSome}
use Rattle.irl_offer.specs.Settings.{AreValid}
use Rattle.irl_offer.specs.declared.settings.Asked.{Asked}
use Rattle.irl_offer.specs.declared.settings.Kind.{Kind}
use Rattle.irl_offer.specs.declared.settings.Kind.TheVariants.{Crawl}
use Rattle.irl_offer.specs.declared.settings.Settings.{Settings}
use Rattle.irl_disk.specs.Disk.{Files, ChangesFile}
use Rattle.irl_disk.specs.Effects.{ReadsAndChanges}
use Rattle.irl_disk.specs.Images.{Told, Follows, IsConsistent, LeavesBy}
use Rattle.irl_disk.proofs.Effects.{cause_for, cause_then, told_then, told_wider}
use Rattle.irl_disk.proofs.Frames.{takes_both}
use Rattle.irl_disk.proofs.Stretches.{joins_by, left_now, widens_by}
use Rattle.irl_journal.specs.Format.{HasRecords}
use Rattle.irl_journal.specs.Visiting.{IsOpened}
use Rattle.irl_journal.proofs.Lists.{few_bytes}
use Rattle.irl_bay.specs.Damage.{IsAdopted}
use Rattle.irl_bay.specs.Making.{IsJournalOf}
use Rattle.irl_bay.proofs.Adopted.{takes_wider}
use Rattle.irl_bay.proofs.Flushing.{same_or_other}
use Rattle.irl_bay.proofs.LiveJournals.{adopted_wider}
use Rattle.irl_head.specs.Asking.{Agrees}
use Rattle.irl_head.specs.Head.{head_bytes}
use Rattle.irl_head.specs.Opening.{HasHead, KeepsHead}
use Rattle.irl_head.specs.StoreFiles.{head_file, crawl_file, pairs_base}
use Rattle.irl_yard.specs.Entering.{Enters, EntersStore, IsKindJournal, IsReadFile, IsToldJournal, OpensStore}
use Rattle.irl_yard.proofs.Answered.{entering}
use Rattle.irl_yard.proofs.Entering.{opened_twice, side_or_none}

-- ---- steps
-- what is opened may be opened again
pub opens_both : (asked : Asked) (told : Option Files) (x y z : Files) → OpensStore asked told x y → OpensStore asked told y z → OpensStore asked told x z
opens_both asked told x y z first second = λ f. both f (first f) (second f)
  where
    both : (f : ℕ) → (y f ≡ x f) ⊎ (IsToldJournal asked told f × IsOpened (x f) (y f)) → (z f ≡ y f) ⊎ (IsToldJournal asked told f × IsOpened (y f) (z f))
        → (z f ≡ x f) ⊎ (IsToldJournal asked told f × IsOpened (x f) (z f))
    both f (inl same) (inl also) = inl (also ∙ same)
    both f (inl same) (inr opened) = inr (opened.0, subst (λ (file : List ℕ). IsOpened file (z f)) same opened.1)
    both f (inr opened) (inl same) = inr (opened.0, subst (λ (file : List ℕ). IsOpened (x f) file) (sym same) opened.1)
    both f (inr opened) (inr also) = inr (opened.0, opened_twice (x f) (y f) (z f) opened.1 also.1)

module _ (asked : Asked) (told : Option Files) (settings : Settings) (valid : AreValid settings) (agrees : Agrees asked settings) (has : ForSome told (HasHead settings))
    (kind : settings.kind ≡ Crawl) where
  pub of_kind : (f : ℕ) → (f ≡ crawl_file) ⊎ IsJournalOf pairs_base settings.buckets f → IsToldJournal asked told f
  of_kind f is = inr (settings, valid, agrees, has, inr (inr (subst (λ (k : Kind). IsKindJournal k settings.buckets f) (sym kind) is)))

  -- the log
  pub log_opens : (x y : Files) → ChangesFile crawl_file IsOpened x y → OpensStore asked told x y
  log_opens x y step = λ f. ⊎_elim
      (λ (e : f ≡ crawl_file). inr (of_kind f (inl e), subst (λ (h : ℕ). IsOpened (x h) (y h)) (sym e) step.changed))
      (λ (other : f ≢ crawl_file). inl (step.others f other))
      (same_or_other f crawl_file)

  -- the bay of pairs
  pub pairs_open : (x y : Files) → IsAdopted pairs_base settings.buckets x y → OpensStore asked told x y
  pairs_open x y step =
      let adopted = adopted_wider pairs_base settings.buckets x y step in
      λ f. ⊎_elim
      (λ (is : IsJournalOf pairs_base settings.buckets f). inr (of_kind f (inr is), adopted.changed f is))
      (λ (none : IsJournalOf pairs_base settings.buckets f → ⊥). inl (adopted.others f none))
      (side_or_none pairs_base settings.buckets f)

-- ---- calls
-- two that open
pub opens_then : (asked : Asked) (told : Option Files) (failed answered : Type 0) (old mid new : Told) → IsConsistent mid
    → ReadsAndChanges (IsReadFile asked told) (OpensStore asked told) failed old mid → ReadsAndChanges (IsReadFile asked told) (OpensStore asked told) answered mid new
    → ReadsAndChanges (IsReadFile asked told) (OpensStore asked told) answered old new
opens_then asked told failed answered old mid new law first second = record {
  told = told_then (OpensStore asked told) old.files mid.files new.files (opens_both asked told) first.told second.told;
  stops = joins_by old mid new (OpensStore asked told) law (opens_both asked told) first.stops second.stops;
  taken = takes_both (IsReadFile asked told) old.taken mid.taken new.taken first.taken second.taken;
  cause = cause_then answered old.faults mid.faults new.faults first.cause.later second.cause;
}

-- one by a step that opens
pub opens_by : (asked : Asked) (told : Option Files) (among : ℕ → Type 0) (step : Files → Files → Type 0) (failed answered : Type 0) (old new : Told) → (answered → failed)
    → ((f : ℕ) → among f → IsReadFile asked told f) → ((x y : Files) → step x y → OpensStore asked told x y) → ReadsAndChanges among step failed old new
    → ReadsAndChanges (IsReadFile asked told) (OpensStore asked told) answered old new
opens_by asked told among step failed answered old new is reads opens call = record {
  told = told_wider step (OpensStore asked told) old.files new.files opens call.told;
  stops = widens_by old new step (OpensStore asked told) call.stops opens;
  taken = takes_wider among (IsReadFile asked told) old.taken new.taken reads call.taken;
  cause = cause_for failed answered old.faults new.faults is call.cause;
}

-- what opens a store enters it
pub enters_opened : (asked : Asked) (failed : Type 0) (old new : Told) → IsConsistent old → ReadsAndChanges (IsReadFile asked old.files) (OpensStore asked old.files) failed old new
    → EntersStore asked failed old new
enters_opened asked failed old new law call =
    entering asked failed old new law (told_wider (OpensStore asked old.files) (Enters asked old.files) old.files new.files (λ x y opens. inl opens) call.told)
    (widens_by old new (OpensStore asked old.files) (Enters asked old.files) call.stops (λ x y opens. inl opens)) call.taken call.cause

-- ---- the head
-- a file with a record has more than one byte, so opening leaves it
opened_records : (old new : List ℕ) (payload : List ℕ) → IsOpened old new → HasRecords old (payload ∷ []) → HasRecords new (payload ∷ [])
opened_records old new payload (inl same) has = subst (λ (file : List ℕ). HasRecords file (payload ∷ [])) (sym same) has
opened_records old new payload (inr short) has = let none = few_bytes old (payload ∷ []) short.0 has in cc

pub head_opened : (asked : Asked) (told : Option Files) (settings : Settings) (old new : Told) → IsConsistent new → LeavesBy (OpensStore asked told) old new → KeepsHead old.images settings
    → KeepsHead new.images settings
head_opened asked told settings old new law stops kept = λ image left.
    let from = left_now old new (Follows (OpensStore asked told) old.images) law stops image left in
    ⊎_elim
    (λ (same : image head_file ≡ from.0 head_file). subst (λ (file : List ℕ). HasRecords file (head_bytes settings ∷ [])) (sym same) (kept from.0 from.1))
    (λ (opened : IsToldJournal asked told head_file × IsOpened (from.0 head_file) (image head_file)). opened_records (from.0 head_file) (image head_file) (head_bytes settings) opened.1
    (kept from.0 from.1))
    (from.2 head_file)
