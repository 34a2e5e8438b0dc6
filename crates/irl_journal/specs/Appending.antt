-- A journal that is open, and what an append leaves.
use Rattle.std.specs.Prelude.{◌≡◌, ◌⊎◌, ⊤, ℕ, ◌+◌, Bool, List, [], ◌∷◌, ◌++◌, length, take, drop, Result, OnOk, OnErr, IsOk, IsErrOf, true, ◌↔◌, ◌≤◌, All}
use Rattle.irl_base.specs.declared.fault.Fault.{Fault}
use Rattle.irl_base.specs.declared.fault.Fault.TheVariants.{Damaged, Failed, Full, Memory}
use Rattle.irl_disk.specs.Disk.{Files, Changes, ChangesFile}
use Rattle.irl_disk.specs.Effects.{OnlyChanges}
use Rattle.irl_disk.specs.Images.{Told}
use Rattle.irl_journal.specs.Format.{HasRecords, records_text, max_payload}

-- a journal as contracts see it: its file, the place of the closed gate, and whether no append failed
pub record Tail : Type 0 where
  pub file : ℕ
  pub end : ℕ
  pub is_sound : Bool

-- a payload that is being put together, and the most bytes that it may have
pub record Draft : Type 0 where
  pub room : ℕ
  pub bytes : List ℕ

-- a frame with this room has room for each of these payloads
pub record HasRoom (room : ℕ) (payloads : List (List ℕ)) : Type 0 where
  pub limit : room ≤ max_payload
  pub each : All (λ payload. length payload ≤ room) payloads

-- a file has these records, and the closed gate behind them stands at this place
pub record Ends (end : ℕ) (file : List ℕ) (payloads : List (List ℕ)) : Type 0 where
  pub records : HasRecords file payloads
  pub place : end ≡ length (records_text payloads)

-- each joint image that a stop now may leave has these records, with the closed gate where the journal ends
abbrev pub IsOpen : (Files → Type 0) → Tail → List (List ℕ) → Type 0
IsOpen images tail payloads = (image : Files) → images image → Ends tail.end (image tail.file) payloads

-- the file has these records, or these and more behind them
abbrev pub HasOrGainsAll : List (List ℕ) → List (List ℕ) → List ℕ → List ℕ → Type 0
HasOrGainsAll payloads more old new = HasRecords new payloads ⊎ HasRecords new (payloads ++ more)

-- the same of one more
abbrev pub HasOrGains : List (List ℕ) → List ℕ → List ℕ → List ℕ → Type 0
HasOrGains payloads payload old new = HasOrGainsAll payloads (payload ∷ []) old new

-- from its old end on the file has these records and the next gate, and the rest is as it was; none change nothing
abbrev pub HasAppended : ℕ → List (List ℕ) → List ℕ → List ℕ → Type 0
HasAppended end [] old new = new ≡ old
HasAppended end (payload ∷ payloads) old new = let more = payload ∷ payloads in new
    ≡ take end old ++ (records_text more ++ (0 ∷ drop (end + length (records_text more) + 1) old))

-- An append of these payloads, by its answer: what it leaves of the journal, and of its store. `failed` is that it
-- answered a fault of the store.
pub record Appends {E : Type 0} (result : Result Unit E) (failed : Type 0) (more : List (List ℕ)) (old new : Tail)
    (before after : Told) : Type 0 where
  -- each stop from then on leaves the records
  pub acknowledged : OnOk result ((payloads : List (List ℕ)) → IsOpen before.images old payloads
      → IsOpen after.images new (payloads ++ more))
  pub end : OnOk result (new.end ≡ old.end + length (records_text more))
  pub end_kept : OnErr result (new.end ≡ old.end)
  pub file : new.file ≡ old.file
  -- a stop at any moment leaves the records from before, with the new ones or without any of them, and every other file
  -- as it was
  pub changes : (payloads : List (List ℕ)) → IsOpen before.images old payloads
      → OnlyChanges (ChangesFile old.file (HasOrGainsAll payloads more)) failed before after
  pub bytes : OnOk result (Changes old.file (HasAppended old.end more) before.files after.files)
  -- every other file stays, whatever this one has
  pub others : OnlyChanges (ChangesFile old.file (λ _ _. ⊤)) failed before after

-- An append of several payloads at once, by its answer.
pub record AppendsAll {S : Type 0} (told : S → Told) (result : Result Unit Fault) (more : List (List ℕ))
    (old new : Tail)
    (before after : S) : Type 0 where
  pub appends : Appends result (IsErrOf result Failed) more old new (told before) (told after)
  pub sound : (new.is_sound ≡ true) ↔ (IsOk result ⊎ IsErrOf result Memory)
  -- want of memory changes nothing, and neither do no payloads, which it always answers Ok
  pub memory : IsErrOf result Memory → (after ≡ before) × (new ≡ old)
  pub idle : more ≡ [] → IsOk result × (after ≡ before) × (new ≡ old)
  pub full : (n : ℕ) → IsErrOf result (Full n) → ⊥
  pub damaged : (f at : ℕ) → IsErrOf result (Damaged f at) → ⊥
