-- What several puts of a writer, and its end, do to the file.
use Rattle.std.proofs.Common.{◌≡◌, ◌∙◌, ℕ, ◌+◌, ◌≤◌, ◌<◌, List, [], ◌∷◌, ◌++◌, length, get_or, take, drop, Option, None, Some, Result, Ok, Err, IsErr, IfOk, suc, zero, refl, sym, ap, subst, arith, append_assoc, length-append, length-take-le, take-append-drop}
use Rattle.std.proofs.lemmas.List.{append-nil, take_at, take_more, take_all, drop_at, drop-append-le}
use Rattle.std.proofs.lemmas.List.Concat.{flat_map-append}
use Rattle.std.proofs.lemmas.List.Elements.{All-weaker, recursion_from_All}
use Rattle.std.specs.Option.{ForSome}
use Rattle.std.specs.List.{AllByRecursion}
use Rattle.irl_disk.specs.Disk.{Files, Changes, ChangesFile, Holds}
use Rattle.irl_disk.specs.Effects.{OnlyChanges}
use Rattle.irl_disk.specs.Images.{Told, IsConsistent}
use Rattle.irl_disk.proofs.Effects.{changes_for, changes_then}
use Rattle.irl_disk.proofs.Frames.{told_from}
use Rattle.irl_journal.specs.Appending.{HasRoom}
use Rattle.irl_journal.specs.Blob.{KeepsFront}
use Rattle.irl_journal.specs.Format.{records_text, record_text, body_text, appended_text, open_gate, IsPayload}
use Rattle.irl_journal.specs.Growing.{Writer, HasPut, Puts, Finishes, KeepsRest, ReachesPlace, end_of}
use Rattle.irl_journal.specs.Synced.{IsDurable, WritesSynced}
use Rattle.irl_journal.proofs.Fronts.{begins_take}
use Rattle.irl_journal.proofs.Gates.{IsTail}
use Rattle.irl_journal.proofs.Growing.{keeps_files, rest_then}

-- ---- the bytes
-- what stands behind the first gate of payloads, of which there are some
pub tail_of : (payloads : List (List ℕ)) → 1 ≤ length payloads → AllByRecursion IsPayload payloads → IsTail payloads (drop 1 (records_text payloads))
tail_of [] some fits = absurd (omega arith)
tail_of (payload ∷ payloads) some fits = record { text = refl; fits = fits }

pub fits_all : (room : ℕ) (payloads : List (List ℕ)) → HasRoom room payloads → AllByRecursion IsPayload payloads
fits_all room payloads has = recursion_from_All IsPayload payloads
    (All-weaker (λ (payload : List ℕ). length payload ≤ room) IsPayload (λ payload fits. omega (arith, fits, has.limit)) payloads has.each)

-- how many they are
pub length-appended : (payloads : List (List ℕ)) → 1 ≤ length payloads → length (appended_text payloads) ≡ length (records_text payloads)
length-appended [] some = absurd (omega arith)
length-appended (payload ∷ payloads) some = length-append (drop 1 (records_text (payload ∷ payloads))) (0 ∷ []) ∙ omega arith

-- the first of them
pub text_first : (payloads : List (List ℕ)) → 1 ≤ length payloads → body_text (get_or payloads 0 []) ≡ drop 1 (records_text (take 1 payloads))
text_first [] some = absurd (omega arith)
text_first (payload ∷ payloads) some = sym (append-nil (body_text payload))

text_long : (payloads : List (List ℕ)) (i : ℕ) → 1 ≤ i → i < length payloads → 1 ≤ length (records_text (take i payloads))
text_long [] i some less = absurd (omega arith)
text_long (payload ∷ payloads) zero some less = absurd (omega arith)
text_long (payload ∷ payloads) (suc i) some less = omega arith

-- and one more
pub text_more : (payloads : List (List ℕ)) (i : ℕ) → 1 ≤ i → i < length payloads
    → drop 1 (records_text (take i payloads)) ++ open_gate ∷ [] ++ body_text (get_or payloads i []) ≡ drop 1 (records_text (take (i + 1) payloads))
text_more payloads i some less =
    let payload = get_or payloads i [] in
    let front = records_text (take i payloads) in
    append_assoc (drop 1 front) (open_gate ∷ []) (body_text payload)
    ∙ ap (λ (l : List ℕ). drop 1 front ++ l) (sym (append-nil (record_text payload)))
    ∙ sym (drop-append-le 1 front (records_text (payload ∷ [])) (text_long payloads i some less))
    ∙ ap (λ (l : List ℕ). drop 1 l) (sym (flat_map-append record_text (take i payloads) (payload ∷ [])))
    ∙ ap (λ (l : List (List ℕ)). drop 1 (records_text l)) (sym (take_more payloads i [] less))

-- ---- puts
pub puts_both : {E : Type 0} (first more : List ℕ) (old mid new : Writer) (before between after : Told) → IsConsistent between → Puts {E = E} (Ok tt) first old mid before between
    → Puts {E = E} (Ok tt) more mid new between after → Puts {E = E} (Ok tt) (first ++ more) old new before after
puts_both first more old mid new before between after law one two = record {
  put = λ bytes had. subst (λ (l : List ℕ). HasPut after.files l new) (append_assoc bytes first more) (two.put (bytes ++ first) (one.put bytes had));
  put_before = tt;
  end = omega (arith, one.end, two.end, length-append first more);
  end_before = tt;
  file = two.file ∙ one.file;
  kept = two.kept ∙ one.kept;
  long = two.long;
  rest = rest_then old.file (end_of mid) (end_of new) before.files between.files after.files (omega (arith, two.end)) one.rest (rw one.file at two.rest);
  changes = changes_then _ _ _ before between after law (keeps_files old.file old.kept) one.changes (rw (one.file, one.kept) at two.changes);
}

-- a closed gate behind all records
pub puts_closed : {E : Type 0} (payloads : List (List ℕ)) (i : ℕ) (old mid new : Writer) (before between after : Told) → IsConsistent between → length payloads ≤ i
    → Puts {E = E} (Ok tt) (drop 1 (records_text (take i payloads))) old mid before between → Puts {E = E} (Ok tt) (0 ∷ []) mid new between after
    → Puts {E = E} (Ok tt) (appended_text payloads) old new before after
puts_closed payloads i old mid new before between after law all one two =
    puts_both (drop 1 (records_text payloads)) (0 ∷ []) old mid new before between after law (rw (take_all i payloads all) at one) two

-- and what comes behind them
pub puts_changes : {E : Type 0} (failed : Type 0) (first : List ℕ) (old mid : Writer) (before between after : Told) → IsConsistent between → Puts {E = E} (Ok tt) first old mid before between
    → OnlyChanges (ChangesFile mid.file (KeepsFront mid.kept)) failed between after → OnlyChanges (ChangesFile old.file (KeepsFront old.kept)) failed before after
puts_changes failed first old mid before between after law one two = changes_then _ _ failed before between after law (keeps_files old.file old.kept) one.changes (rw (one.file, one.kept) at two)

-- ---- all of it
pub refused_synced : {A E : Type 0} (result : Result A E) (failed : Type 0) (f at : ℕ) (bytes : List ℕ) (step : List ℕ → List ℕ → Type 0) (before after : Told) → IsErr result
    → (IsErr result → failed) → OnlyChanges (ChangesFile f step) failed before after → WritesSynced result f at bytes step before after
refused_synced (Ok x) failed f at bytes step before after is for changes = cc
refused_synced (Err e) failed f at bytes step before after is for changes = record { within = tt; holds = tt; durable = tt; changes = changes_for _ failed _ before after for changes }

-- what is put by a writer stands in the file, between what was there
holds_put : (kept n : ℕ) (bytes held rest old new : List ℕ) → kept ≤ length old → n ≡ kept + length bytes → KeepsFront kept old new → new ≡ held ++ bytes ++ rest → length held ≡ kept
    → KeepsRest n old new → Holds kept bytes old new
holds_put kept n bytes held rest old new long end keeps is size same =
    let front : take kept new ≡ take kept old =
    ap (λ (m : ℕ). take m new) (sym (length-take-le kept old long))
    ∙ begins_take new (take kept old) (keeps (take kept old) (length-take-le kept old long) (drop kept old, sym (take-append-drop kept old))) in
    let is_held : held ≡ take kept old =
    sym (take_at held (bytes ++ rest) kept size) ∙ ap (λ (l : List ℕ). take kept l) (sym (append_assoc held bytes rest) ∙ sym is) ∙ front in
    let is_rest : rest ≡ drop (kept + length bytes) old =
    sym (drop_at (held ++ bytes) rest (kept + length bytes) (omega (arith, size, length-append held bytes)))
    ∙ ap (λ (l : List ℕ). drop (kept + length bytes) l) (sym is)
    ∙ subst (λ (m : ℕ). drop m new ≡ drop m old) end same in
    is ∙ ap (λ (l : List ℕ). l ++ bytes ++ rest) is_held ∙ ap (λ (l : List ℕ). take kept old ++ bytes ++ l) is_rest

holds_told : (f kept n : ℕ) (bytes : List ℕ) (w : Writer) (old new : Option Files) → w.file ≡ f → w.kept ≡ kept → w.waiting ≡ [] → n ≡ kept + length bytes
    → ForSome old (λ files. kept ≤ length (files f)) → Changes f (KeepsFront kept) old new → Changes f (KeepsRest n) old new → HasPut new bytes w → Changes f (Holds kept bytes) old new
holds_told f kept n bytes w None new file_is kept_is none end long keeps rest put = keeps
holds_told f kept n bytes w (Some old) new file_is kept_is none end long keeps rest put =
    let files = keeps.0 in
    let same : rest.0 ≡ files = cc in
    let stands = put.stand files keeps.1 in
    let are : put.written ≡ bytes = sym (put.are ∙ ap (λ (l : List ℕ). put.written ++ l) none ∙ append-nil put.written) in
    let is : files f ≡ stands.0 ++ bytes ++ stands.1 = ap files (sym file_is) ∙ stands.2 ∙ ap (λ (l : List ℕ). stands.0 ++ l ++ stands.1) are in (
      files,
      keeps.1,
      record {
        changed = holds_put kept n bytes stands.0 stands.1 (old f) (files f) (long old refl) end keeps.2.changed is (stands.3 ∙ kept_is)
            (subst (λ (new : Files). KeepsRest n (old f) (new f)) same rest.2.changed);
        others = keeps.2.others;
      },
    )

pub finishes_synced : {E : Type 0} (result : Result ℕ E) (bytes : List ℕ) (old mid : Writer) (before between after : Told) → IsConsistent between → (old.waiting ≡ []) × (old.place ≡ old.kept)
    → ForSome before.files (ReachesPlace old) → Puts {E = E} (Ok tt) bytes old mid before between → Finishes result mid between after
    → WritesSynced result old.file old.kept bytes (KeepsFront old.kept) before after
finishes_synced (Err e) bytes old mid before between after law begun long puts ends =
    record { within = tt; holds = tt; durable = tt; changes = puts_changes _ bytes old mid before between after law puts ends.changes }
finishes_synced (Ok n) bytes old mid before between after law begun long puts ends =
    let size : n ≡ old.kept + length bytes = omega (arith, ends.length, puts.end, begun.1, ap (λ (l : List ℕ). length l) begun.0) in
    let long_kept : ForSome before.files (λ files. old.kept ≤ length (files old.file)) = λ files told. omega (arith, long files told, begun.1) in
    let had : HasPut before.files [] old =
    record {
      written = [];
      are = sym begun.0;
      place = omega (arith, begun.1);
      stand = λ files told. (
        take old.kept (files old.file),
        drop old.kept (files old.file),
        sym (take-append-drop old.kept (files old.file))
            ∙ ap (λ (l : List ℕ). l ++ drop old.kept (files old.file)) (sym (append-nil (take old.kept (files old.file)))),
        length-take-le old.kept (files old.file) (long_kept files told),
      );
    } in
    let has = ends.put bytes (puts.put [] had) in
    let changes = puts_changes _ bytes old mid before between after law puts ends.changes in
    let rest = rest_then old.file (end_of mid) n before.files between.files after.files (omega (arith, ends.length)) puts.rest (rw puts.file at ends.rest) in
    record {
      within = omega (arith, size, ends.bound);
      holds = holds_told old.file old.kept n bytes _ before.files after.files puts.file puts.kept refl size long_kept changes.told rest has;
      durable = rw puts.file at ends.durable;
      changes = changes;
    }

-- how long the file then is
pub finishes_length : {E : Type 0} (result : Result ℕ E) (payloads : List (List ℕ)) (old mid : Writer) (before between after : Told) → 1 ≤ length payloads
    → (old.waiting ≡ []) × (old.place ≡ old.kept) → Puts {E = E} (Ok tt) (appended_text payloads) old mid before between → Finishes result mid between after
    → IfOk result (λ n. n ≡ old.kept + length (records_text payloads))
finishes_length (Err e) payloads old mid before between after some begun puts ends = tt
finishes_length (Ok n) payloads old mid before between after some begun puts ends =
    omega (arith, ends.length, puts.end, begun.1, ap (λ (l : List ℕ). length l) begun.0, length-appended payloads some)
