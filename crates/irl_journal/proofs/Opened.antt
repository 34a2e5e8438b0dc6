-- What stops leave while a journal is opened.
use Rattle.std.proofs.Common.{◌≡◌, ◌≢◌, ◌∙◌, ℕ, ◌≤◌, List, [], ◌∷◌, length, Some, inl, inr, sym, subst, refl, arith}
use Rattle.std.specs.Option.{ForSome}
use Rattle.irl_disk.specs.Disk.{Files, ChangesFile, Scribbled}
use Rattle.irl_disk.specs.Images.{Told, IsConsistent, Follows, LeavesBy, LeavesSame}
use Rattle.irl_disk.proofs.Stretches.{joins, widens, left_now, reads_on, same_by}
use Rattle.irl_journal.specs.Format.{StandsFor}
use Rattle.irl_journal.specs.Visiting.{IsOpened}
use Rattle.irl_journal.proofs.Lists.{few_bytes}

-- two stretches that change nothing
pub stays_so : (old mid new : Told) → IsConsistent mid → LeavesSame old mid → LeavesSame mid new → LeavesSame old new
stays_so old mid new law first second = reads_on old mid new old.images law first second

-- a stretch that changes nothing is one that opens a journal
pub opens_none : (f : ℕ) (old new : Told) → LeavesSame old new → LeavesBy (ChangesFile f IsOpened) old new
opens_none f old new leaves = same_by old new (ChangesFile f IsOpened) (λ image. record { changed = inl refl; others = λ g other. refl }) leaves

-- a stretch that changes nothing, and one that writes the first byte of a file of at most one that is no closed gate
pub opens : (f : ℕ) (old mid new : Told) → IsConsistent mid → LeavesSame old mid → ((image : Files) → mid.images image → (length (image f) ≤ 1) × (image f ≢ 0 ∷ []))
    → LeavesBy (ChangesFile f (Scribbled 0 1)) mid new → LeavesBy (ChangesFile f IsOpened) old new
opens f old mid new law first short second =
    let opened = Follows (ChangesFile f IsOpened) old.images in
    joins old mid new opened
    (opens_none f old mid first)
    (widens mid new (Follows (ChangesFile f (Scribbled 0 1)) mid.images) opened second (λ image left.
    let few = short left.0 left.1 in (
      left.0,
      left_now old mid old.images law first left.0 left.1,
      record { changed = inr (few.0, few.1, omega (arith, few.0, left.2.changed.no_longer)); others = left.2.others },
    )))

-- after a sync, and calls that change nothing, each image has what the file had
pub stays_synced : (f : ℕ) (synced new : Told) (files : Files) → IsConsistent new → ((image : Files) → synced.images image → image f ≡ files f) → LeavesSame synced new → (image : Files)
    → new.images image → image f ≡ files f
stays_synced f synced new files law durable leaves image left = durable image (left_now synced new synced.images law leaves image left)

-- the same, whatever is told
pub as_synced : (f : ℕ) (old synced new : Told) → IsConsistent synced → IsConsistent new → synced.files ≡ old.files
    → ForSome old.files (λ files. (image : Files) → synced.images image → image f ≡ files f) → LeavesSame synced new
    → (image : Files) → new.images image → (files : Files) × (synced.files ≡ Some files) × (image f ≡ files f)
as_synced f old synced new law law_new same durable leaves image left =
    let was = left_now synced new synced.images law_new leaves image left in
    let told = law.tells image was in
    (told.0, told.1, durable told.0 (sym same ∙ told.1) image was)

-- ---- what opening does to a file
-- the records stay
pub opened_stands : (old new : List ℕ) (payloads : List (List ℕ)) → IsOpened old new → StandsFor old payloads → StandsFor new payloads
opened_stands old new payloads (inl same) stands = subst (λ (file : List ℕ). StandsFor file payloads) (sym same) stands
opened_stands old new payloads (inr short) (inl has) = inl (short.2, has.1)
opened_stands old new payloads (inr short) (inr has) = inl (short.2, few_bytes old payloads short.0 has)

module _ (f : ℕ) where
  -- a file may stay as it is
  pub opens_same : (files : Files) → ChangesFile f IsOpened files files
  opens_same files = record { changed = inl refl; others = λ g not. refl }

  -- and opening it twice is opening it
  pub opens_twice : (a b c : Files) → ChangesFile f IsOpened a b → ChangesFile f IsOpened b c → ChangesFile f IsOpened a c
  opens_twice a b c h k = record {
    changed = both h.changed k.changed;
    others = λ g not. k.others g not ∙ h.others g not;
  }
    where
      both : IsOpened (a f) (b f) → IsOpened (b f) (c f) → IsOpened (a f) (c f)
      both (inl e) (inl d) = inl (d ∙ e)
      both (inl e) (inr s) = inr (rw (← e) s.0, λ is. s.1 (e ∙ is), s.2)
      both (inr s) (inl d) = inr (s.0, s.1, rw d s.2)
      both (inr s) (inr t) = inr (s.0, s.1, t.2)
