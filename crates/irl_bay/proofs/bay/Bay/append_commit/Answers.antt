use Rattle.std.proofs.Common.{◌≡◌, ◌∙◌, ◌+◌, ◌<◌, ◌++◌, ◌∷◌, List, ℕ, [], Option, Result, length, take, drop, refl, sym, ap, subst, arith, length-append, length-take-le}
use Rattle.std.proofs.lemmas.Result.{err_from_is_err_and}
use Rattle.std.specs.Prelude.{IsErr}
use Rattle.std.specs.Option.{ForSome}
use Rattle.irl_disk.specs.Disk.{Files, Changes}
use Rattle.irl_disk.specs.Images.{Told}
use Rattle.irl_disk.proofs.Frames.{told_from}
use Rattle.irl_journal.specs.Appending.{Appends, HasAppended, Tail}
use Rattle.irl_journal.specs.Format.{records_text}
use Rattle.irl_bay.specs.declared.bay.Bay.TheInside.{Inside}
use Rattle.irl_bay.specs.Drum.{Drum}
use Rattle.irl_layout.proofs.Numbers.{commit_fits, commit_in_frame}
use Rattle.irl_bay.proofs.bay.Bay.append_commit.Goals as goal

abbrev drum_of : Inside → Drum
drum_of b = record { base = b.base; settings = b.settings; is_sound = b.is_sound; manifest = b.manifest; last = b.last; cuts = b.cuts; buckets = b.buckets.items }

-- the same append, of the bytes that the frame has, and for the journal that is kept
same_append : {E : Type 0} (result answered : Result Unit E) (payload bytes : List ℕ) (old new kept : Tail) (before after : Told) → result ≡ answered → payload ≡ bytes → new ≡ kept
    → Appends result (IsErr result) (payload ∷ []) old new before after → Appends answered (IsErr answered) (bytes ∷ []) old kept before after
same_append {E = E} result answered payload bytes old new kept before after answer bytes_are kept_is appends =
    subst (λ (r : Result Unit E). Appends r (IsErr r) (bytes ∷ []) old kept before after) answer
    (subst (λ (b : List ℕ). Appends result (IsErr result) (b ∷ []) old kept before after) bytes_are
    (subst (λ (tail : Tail). Appends result (IsErr result) (payload ∷ []) old tail before after) kept_is appends))

-- the file reaches past the gate behind what was appended
long_after : (old new : Tail) (payload : List ℕ) (before after : Option Files) → ForSome before (λ files. old.end < length (files old.file))
    → Changes old.file (HasAppended old.end (payload ∷ [])) before after → new.end ≡ old.end + length (records_text (payload ∷ [])) → new.file ≡ old.file
    → ForSome after (λ files. new.end < length (files new.file))
long_after old new payload before after long changes end file = λ files told.
    let more = payload ∷ [] in
    let from = told_from old.file (HasAppended old.end more) before after files changes told in
    let was = long from.0 from.1 in
    let size = length-take-le old.end (from.0 old.file) (omega (arith, was)) in
    let gate = 0 ∷ drop (old.end + length (records_text more) + 1) (from.0 old.file) in
    let is = ap (λ (bytes : List ℕ). length bytes) from.2.changed ∙ length-append (take old.end (from.0 old.file)) (records_text more ++ gate) in
    let rest = length-append (records_text more) gate in
    subst (λ (f : ℕ). new.end < length (files f)) (sym file) (omega (arith, is, rest, size, end))

pub put-requires : goal.put-requires
put-requires g c =
    let asked = rw (← c.self.view_is) at c.requires in
    let d = drum_of c.self.inside in
    let form = asked.commit.room.form in
    record { room = commit_fits c.args.frame.now d.settings.buckets c.args.next asked.frame form.count; side = form.side; live = form.live }

pub append-requires-clause-place : goal.append-requires-clause-place
append-requires-clause-place g c = rw (← c.self.view_is) at c.requires.long

pub returns-in_err-append-clause-appends : goal.returns-in_err-append-clause-appends
returns-in_err-append-clause-appends g c = rw (← c.self.view_is) (
    let asked = rw (← c.self.view_is) at c.requires in
    let tells = g.S.Store.told in
    let bytes = commit_in_frame c.args.frame.now c.put.new.frame _ c.args.next c.args.next asked.frame c.put.ensures refl in
    let out = err_from_is_err_and c.from_residual.result c.from_residual.ensures.1 in
    let answer : c.append.result ≡ c.from_residual.result = cc in
    same_append _ _ _ _ c.self.inside.manifest _ _ (tells c.args.store.now) (tells c.append.new.store) answer bytes refl c.append.ensures.appends)

pub returns-clause-appends : goal.returns-clause-appends
returns-clause-appends g c = rw (← c.self.view_is) (
    let asked = rw (← c.self.view_is) at c.requires in
    let tells = g.S.Store.told in
    let bytes = commit_in_frame c.args.frame.now c.put.new.frame _ c.args.next c.args.next asked.frame c.put.ensures refl in
    let kept = sym (ap (λ (x : Drum). x.manifest) c.install.ensures.value) in
    same_append _ _ _ _ c.self.inside.manifest _ _ (tells c.args.store.now) (tells c.append.new.store) refl bytes kept c.in_ok-append.ensures.appends)

pub returns-clause-long_kept : goal.returns-clause-long_kept
returns-clause-long_kept g c =
    let tells = g.S.Store.told in
    let long = rw (← c.self.view_is) at c.requires.long in
    let appends = c.in_ok-append.ensures.appends in
    let kept = sym (ap (λ (x : Drum). x.manifest) c.install.ensures.value) in
    subst (λ (tail : Tail). ForSome (tells c.append.new.store).files (λ files. tail.end < length (files tail.file))) kept
    (long_after c.self.inside.manifest c.append.new.self c.put.new.frame.bytes (tells c.args.store.now).files (tells c.append.new.store).files long appends.bytes appends.end appends.file)
