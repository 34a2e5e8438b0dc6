-- How the two writes of an append, each with its sync, lead from one state of the store to the next.
use Rattle.std.proofs.Common.{◌≡◌, inl, ⊎_elim, ℕ, ◌+◌, ◌<◌, true, false, List, [], ◌∷◌, ◌++◌, length, Option, None, Some, Result, Ok, Err, IsErr, refl, sym, ◌∙◌, subst, arith}
use Rattle.std.proofs.lemmas.List.{append-nil}
use Rattle.std.specs.Option.{ForSome}
use Rattle.std.specs.Prelude.{IsErrOf}
use Rattle.irl_base.specs.declared.fault.Fault.{Fault}
use Rattle.irl_base.specs.declared.fault.Fault.TheVariants.{Failed as StoreFailed}
use Rattle.irl_disk.specs.Disk.{Files, Changes, ChangesFile, Holds, Scribbled}
use Rattle.irl_disk.specs.Effects.{OnlyChanges}
use Rattle.irl_disk.specs.Images.{Told, IsConsistent}
use Rattle.irl_disk.proofs.Effects.{changes_for, changes_none, changes_then, changes_wider}
use Rattle.irl_disk.proofs.Frames.{told_from}
use Rattle.irl_disk.proofs.Stretches.{widens}
use Rattle.irl_journal.specs.Format.{open_gate, records_text, HasRecords}
use Rattle.irl_journal.specs.Appending.{Tail, Ends, IsOpen, HasOrGainsAll, Appends, AppendsAll}
use Rattle.irl_journal.specs.Blob.{KeepsFront}
use Rattle.irl_journal.specs.Synced.{IsDurable, WritesSynced}
use Rattle.irl_journal.proofs.Gates.{IsTail, HasBehind, kept_behind, written_behind, torn_gate, written_gate, length-record}
use Rattle.irl_journal.proofs.Writing.{told_bytes}

-- a step that is also another one
pub as_step : (f : ℕ) (step other : List ℕ → List ℕ → Type 0) (old new : Option Files) → ((before : Files) (after : List ℕ) → old ≡ Some before → step (before f) after → other (before f) after)
    → Changes f step old new → Changes f other old new
as_step f step other None new wide changes = changes
as_step f step other (Some old) new wide changes = (changes.0, changes.1, record { changed = wide old (changes.0 f) refl changes.2.changed; others = changes.2.others })

-- and one that is, of what a stop could leave
pub changes_known : (f : ℕ) (step wide : List ℕ → List ℕ → Type 0) (failed : Type 0) (old new : Told) → IsConsistent old
    → ((x : Files) (after : List ℕ) → old.images x → step (x f) after → wide (x f) after) → OnlyChanges (ChangesFile f step) failed old new → OnlyChanges (ChangesFile f wide) failed old new
changes_known f step wide failed old new law allows changes = record {
  told = as_step f step wide old.files new.files (λ before after told. allows before after (law.told before told)) changes.told;
  stops = widens old new _ _ changes.stops (λ image left.
      (left.0, left.1, record { changed = allows left.0 (image f) left.1 left.2.changed; others = left.2.others }));
  taken = changes.taken;
  cause = changes.cause;
}

-- once the records are synced, each image has them behind the gate
pub is_behind : (f end : ℕ) (bytes tail : List ℕ) (payloads : List (List ℕ)) (old mid : Told) → IsConsistent old → IsConsistent mid → bytes ≡ tail ++ 0 ∷ []
    → ((image : Files) → old.images image → Ends end (image f) payloads) → Changes f (Holds (end + 1) bytes) old.files mid.files → IsDurable f mid → (image : Files) → mid.images image
    → HasBehind end (image f) payloads tail
is_behind f end bytes tail payloads old mid law_old law_mid are is_open wrote durable image left =
    let told = law_mid.tells image left in
    let from = told_from f (Holds (end + 1) bytes) old.files mid.files told.0 wrote told.1 in
    let has = written_behind payloads tail bytes (from.0 f) (told.0 f) end are (is_open from.0 (law_old.told from.0 from.1)) from.2.changed in
    subst (λ (file : List ℕ). HasBehind end file payloads tail) (sym (durable told.0 told.1 image left)) has

-- and once the gate is, each has the records
pub is_gained : (f end : ℕ) (tail : List ℕ) (payloads more : List (List ℕ)) (mid new : Told) → IsConsistent mid → IsConsistent new → IsTail more tail
    → ((image : Files) → mid.images image → HasBehind end (image f) payloads tail) → Changes f (Holds end (open_gate ∷ [])) mid.files new.files → IsDurable f new → (image : Files) → new.images image
    → Ends (end + length (records_text more)) (image f) (payloads ++ more)
is_gained f end tail payloads more mid new law_mid law_new is behind wrote durable image left =
    let told = law_new.tells image left in
    let from = told_from f (Holds end (open_gate ∷ [])) mid.files new.files told.0 wrote told.1 in
    let has = written_gate payloads more tail (from.0 f) (told.0 f) end is (behind from.0 (law_mid.told from.0 from.1)) from.2.changed in
    subst (λ (file : List ℕ). Ends (end + length (records_text more)) file (payloads ++ more)) (sym (durable told.0 told.1 image left)) has

-- What an append's calls so far did to the files, where `failed` says that the last one answered a fault of the store.
pub record Grows (more : List (List ℕ)) (tail : Tail) (failed : Type 0) (old new : Told) : Type 0 where
  pub changes : (payloads : List (List ℕ)) → IsOpen old.images tail payloads → OnlyChanges (ChangesFile tail.file (HasOrGainsAll payloads more)) failed old new
  pub others : OnlyChanges (ChangesFile tail.file (λ before after. Unit {0})) failed old new

-- nothing
pub grows_none : (more : List (List ℕ)) (tail : Tail) (now : Told) → IsConsistent now → Grows more tail ⊥ now now
grows_none more tail now law = record {
  changes = λ payloads is_open.
      changes_known tail.file (λ before after. after ≡ before) _ ⊥ now now law
      (λ x after left same. inl (subst (λ (file : List ℕ). HasRecords file payloads) (sym same) (is_open x left).records))
      (changes_none _ now law (λ x. record { changed = refl; others = λ g other. refl }));
  others = changes_none _ now law (λ x. record { changed = tt; others = λ g other. refl });
}

-- what is written behind the closed gate
pub grows_behind : (more : List (List ℕ)) (tail : Tail) (failed : Type 0) (old mid : Told) → IsConsistent old → OnlyChanges (ChangesFile tail.file (KeepsFront (tail.end + 1))) failed old mid
    → Grows more tail failed old mid
grows_behind more tail failed old mid law wrote = record {
  changes = λ payloads is_open.
      changes_known tail.file _ _ failed old mid law (λ x after left keeps. inl (kept_behind payloads (x tail.file) after tail.end (is_open x left) keeps)) wrote;
  others = changes_wider _ _ failed old mid (λ x y step. record { changed = tt; others = step.others }) wrote;
}

-- and the open gate
pub grows_gate : (more : List (List ℕ)) (text : List ℕ) (tail : Tail) (before failed : Type 0) (old mid new : Told) → IsConsistent mid → IsTail more text
    → ((payloads : List (List ℕ)) → IsOpen old.images tail payloads → (image : Files) → mid.images image → HasBehind tail.end (image tail.file) payloads text) → Grows more tail before old mid
    → OnlyChanges (ChangesFile tail.file (Scribbled tail.end 1)) failed mid new → Grows more tail failed old new
grows_gate more text tail before failed old mid new law is behind grew wrote = record {
  changes = λ payloads is_open.
      changes_then _ before failed old mid new law
      (λ x y z one two. record { changed = two.changed; others = λ g other. two.others g other ∙ one.others g other })
      (grew.changes payloads is_open)
      (changes_known tail.file _ _ failed mid new law
      (λ x after left torn. torn_gate payloads more text (x tail.file) after tail.end is (behind payloads is_open x left) torn) wrote);
  others = changes_then _ before failed old mid new law
      (λ x y z one two. record { changed = tt; others = λ g other. two.others g other ∙ one.others g other })
      grew.others (changes_wider _ _ failed mid new (λ x y step. record { changed = tt; others = step.others }) wrote);
}

-- by the answer that the append gives
pub grows_for : (more : List (List ℕ)) (tail : Tail) (failed answered : Type 0) (old new : Told) → (answered → failed) → Grows more tail failed old new → Grows more tail answered old new
grows_for more tail failed answered old new is grew = record {
  changes = λ payloads is_open. changes_for _ failed answered old new is (grew.changes payloads is_open);
  others = changes_for _ failed answered old new is grew.others;
}

-- a refusal
pub refuses : {E : Type 0} (result : Result Unit E) (failed : Type 0) (more : List (List ℕ)) (old new : Tail) (before after : Told) → IsErr result → new.end ≡ old.end → new.file ≡ old.file
    → Grows more old failed before after → Appends result failed more old new before after
refuses (Ok x) failed more old new before after is end file grew = cc
refuses (Err e) failed more old new before after is end file grew = record {
  acknowledged = tt;
  end = tt;
  end_kept = end;
  file = file;
  changes = grew.changes;
  bytes = tt;
  others = grew.others;
}

-- no records
pub appends_none : {E : Type 0} (failed : Type 0) (tail : Tail) (now : Told) → IsConsistent now → (failed → ⊥) → Appends {E = E} (Ok tt) failed [] tail tail now now
appends_none failed tail now law never =
    let grew = grows_for [] tail ⊥ failed now now never (grows_none [] tail now law) in
    record {
      acknowledged = λ payloads is_open. subst (λ (all : List (List ℕ)). IsOpen now.images tail all) (sym (append-nil payloads)) is_open;
      end = omega arith;
      end_kept = tt;
      file = refl;
      changes = grew.changes;
      bytes = (changes_none (ChangesFile tail.file (λ before after. after ≡ before)) now law (λ x. record { changed = refl; others = λ g other. refl })).told;
      others = grew.others;
    }

-- both writes are done
pub accepts : {E A B C D : Type 0} (failed wrote_failed : Type 0) (more : List (List ℕ)) (text bytes : List ℕ) (step : List ℕ → List ℕ → Type 0) (x : A) (y : C) (old new : Tail)
    (before mid after : Told) → IsConsistent before → IsConsistent mid → IsConsistent after → IsTail more text → bytes ≡ text ++ 0 ∷ [] → (failed → ⊥)
    → new.file ≡ old.file → new.end ≡ old.end + length bytes → ForSome before.files (λ files. old.end < length (files old.file))
    → OnlyChanges (ChangesFile old.file (KeepsFront (old.end + 1))) wrote_failed before mid
    → WritesSynced {A = A} {E = B} (Ok x) old.file (old.end + 1) bytes step before mid
    → WritesSynced {A = C} {E = D} (Ok y) old.file old.end (open_gate ∷ []) (Scribbled old.end 1) mid after
    → Appends {E = E} (Ok tt) failed more old new before after
accepts failed wrote_failed more text bytes step x y old new before mid after law_before law_mid law_after is are never file end within keeps wrote opened =
    let size : length bytes ≡ length (records_text more) = length-record more text bytes is are in
    let behind = λ (payloads : List (List ℕ)) (is_open : IsOpen before.images old payloads).
    is_behind old.file old.end bytes text payloads before mid law_before law_mid are is_open wrote.holds wrote.durable in
    let grew = grows_for more old _ failed before after (λ f. absurd (never f))
    (grows_gate more text old wrote_failed _ before mid after law_mid is behind (grows_behind more old wrote_failed before mid law_before keeps) opened.changes) in
    record {
      acknowledged = λ payloads is_open image left.
          let gained = is_gained old.file old.end text payloads more mid after law_mid law_after is (behind payloads is_open) opened.holds opened.durable image left in
          subst (λ (f : ℕ). Ends new.end (image f) (payloads ++ more)) (sym file) (record { records = gained.records; place = omega (arith, gained.place) });
      end = omega arith;
      end_kept = tt;
      file = file;
      changes = grew.changes;
      bytes = told_bytes old.file old.end bytes text more before.files mid.files after.files is are within wrote.holds opened.holds;
      others = grew.others;
    }

-- ---- several records at once
-- the store failed
pub all_refused : {S : Type 0} (told : S → Told) (failed : Type 0) (more : List (List ℕ)) (old new : Tail) (before after : S) → (more ≡ [] → ⊥) → new.is_sound ≡ false → new.end ≡ old.end
    → new.file ≡ old.file → failed → Grows more old failed (told before) (told after) → AppendsAll told (Err StoreFailed) more old new before after
all_refused told failed more old new before after some unsound end file is grew = record {
  appends = refuses (Err StoreFailed) _ more old new (told before) (told after) refl end file (grows_for more old failed _ (told before) (told after) (λ e. is) grew);
  sound = (λ e. cc, ⊎_elim (λ e. cc) (λ e. cc));
  memory = λ e. cc;
  idle = λ none. absurd (some none);
  full = λ n e. cc;
  damaged = λ f at e. cc;
}

-- the records are on the disk
pub all_accepted : {S : Type 0} (told : S → Told) (more : List (List ℕ)) (old new : Tail) (before after : S) → (more ≡ [] → ⊥) → new.is_sound ≡ true
    → Appends {E = Fault} (Ok tt) (IsErrOf {T = Unit {0}} {E = Fault} (Ok tt) StoreFailed) more old new (told before) (told after) → AppendsAll told (Ok tt) more old new before after
all_accepted told more old new before after some is_sound appends = record {
  appends = appends;
  sound = (λ e. inl refl, λ e. is_sound);
  memory = λ e. cc;
  idle = λ none. absurd (some none);
  full = λ n e. cc;
  damaged = λ f at e. cc;
}
