-- The records are written behind the closed gate, which is then opened.
use Rattle.std.proofs.Common.{◌≡◌, ◌+◌, ◌-◌, ◌<◌, ◌≤◌, [], List, ℕ, true, false, IsErr, Result, Ok, Err, length, drop, refl, sym, subst, ap, arith, rules}
use Rattle.std.specs.Option.{ForSome}
use Rattle.irl_base.specs.declared.fault.Fault.{Fault}
use Rattle.irl_base.specs.declared.fault.Fault.TheVariants.{Failed}
use Rattle.irl_disk.specs.Disk.{Changes, ChangesFile, Holds}
use Rattle.irl_disk.specs.Effects.{OnlyChanges}
use Rattle.irl_disk.specs.Images.{Told}
use Rattle.irl_journal.specs.Appending.{Tail, AppendsAll}
use Rattle.irl_journal.specs.Blob.{KeepsFront}
use Rattle.irl_journal.specs.Format.{records_text, appended_text}
use Rattle.irl_journal.specs.Growing.{Writer}
use Rattle.irl_journal.specs.Synced.{WritesSynced}
use Rattle.irl_journal.proofs.Appended.{grows_behind, grows_gate, is_behind, accepts, all_refused, all_accepted}
use Rattle.irl_journal.proofs.Pieces.{tail_of, fits_all, length-appended}
use Rattle.irl_journal.proofs.Writing.{still_within}
use Rattle.irl_journal.proofs.journal.Journal.append_in_pieces.Goals as goal

-- the closed gate's place is within what is told
abbrev told_within : (tail view : Tail) (now : Told) → view ≡ tail → ForSome now.files (λ files. tail.end < length (files tail.file)) → ForSome now.files (λ files. view.end < length (files view.file))
told_within tail view now is within = subst (λ (t : Tail). ForSome now.files (λ files. t.end < length (files t.file))) (sym is) within

pub write-requires-clause-long : goal.write-requires-clause-long
write-requires-clause-long g c = λ files told.
    let within = told_within _ _ (g.S.Store.told c.args.store.now) c.self.view_is c.requires.place files told in
    let place = ap (λ (w : Writer). w.place) c.in_ok-behind.ensures.writer in
    let file = ap (λ (w : Writer). length (files w.file)) c.in_ok-behind.ensures.writer in
    omega (arith, within, place, file)

pub write_synced-requires-clause-place : goal.write_synced-requires-clause-place
write_synced-requires-clause-place g c =
    let s = c.self.inside in
    let old = g.S.Store.told c.args.store.now in
    let mid = g.S.Store.told c.write.new.store in
    let payloads = g.P.Payloads.payloads c.args.payloads.now in
    let holds = subst (λ (w : Writer). Changes w.file (Holds w.kept (appended_text payloads)) old.files mid.files) c.in_ok-behind.ensures.writer c.in_ok-length.ensures.synced.holds in
    still_within s.file s.end (appended_text payloads) _ _ (told_within _ _ old c.self.view_is c.requires.place) holds

-- the records were not written, or not synced
pub returns-in_err-length : goal.returns-in_err-length
returns-in_err-length g c =
    let s = c.self.inside in
    let tail : Tail = record { file = s.file; end = s.end; is_sound = s.is_sound } in
    let ended : Tail = record { file = s.file; end = s.end; is_sound = false } in
    let payloads = g.P.Payloads.payloads c.args.payloads.now in
    let tells = g.S.Store.told in
    let old = tells c.args.store.now in
    let mid = tells c.write.new.store in
    let some : payloads ≡ [] → ⊥ = λ none. omega (arith, c.count.ensures, c.if-count-eq0.false, ap (λ (l : List (List ℕ)). length l) none) in
    let keeps = subst (λ (w : Writer). OnlyChanges (ChangesFile w.file (KeepsFront w.kept)) (IsErr c.write.result) old mid) c.in_ok-behind.ensures.writer c.write.ensures.synced.changes in
    let grew = grows_behind payloads tail _ old mid (g.met.S.Store.is_consistent c.args.store.now) keeps in
    let is : c.from_residual-in_err-length.result ≡ Err Failed = search rules in
    rw (← c.self.view_is) (subst (λ (result : Result Unit Fault). AppendsAll tells result payloads tail ended c.args.store.now c.write.new.store) (sym is)
    (all_refused tells (IsErr c.write.result) payloads tail _ c.args.store.now c.write.new.store some refl refl refl (search rules) grew))

-- the gate was not
pub returns-in_err-write_synced : goal.returns-in_err-write_synced
returns-in_err-write_synced g c =
    let s = c.self.inside in
    let tail : Tail = record { file = s.file; end = s.end; is_sound = s.is_sound } in
    let ended : Tail = record { file = s.file; end = s.end; is_sound = false } in
    let payloads = g.P.Payloads.payloads c.args.payloads.now in
    let tells = g.S.Store.told in
    let law = g.met.S.Store.is_consistent in
    let old = tells c.args.store.now in
    let mid = tells c.write.new.store in
    let new = tells c.write_synced.new.store in
    let many : 1 ≤ length payloads = omega (arith, c.count.ensures, c.if-count-eq0.false) in
    let some : payloads ≡ [] → ⊥ = λ none. omega (arith, many, ap (λ (l : List (List ℕ)). length l) none) in
    let wrote = subst (λ (w : Writer). WritesSynced (Ok c.in_ok-length.length) w.file w.kept (appended_text payloads) (KeepsFront w.kept) old mid) c.in_ok-behind.ensures.writer
    c.in_ok-length.ensures.synced in
    let is_tail = tail_of payloads many (fits_all _ payloads c.in_ok-behind.ensures.room) in
    let grew = grows_gate payloads (drop 1 (records_text payloads)) tail _ _ old mid new (law c.write.new.store) is_tail
    (λ payloads is_open.
    is_behind s.file s.end _ _ payloads old mid (law c.args.store.now) (law c.write.new.store) refl is_open wrote.holds wrote.durable)
    (grows_behind payloads tail _ old mid (law c.args.store.now) wrote.changes) c.write_synced.ensures.changes in
    let is : c.from_residual-in_err-write_synced.result ≡ Err Failed = search rules in
    rw (← c.self.view_is) (subst (λ (result : Result Unit Fault). AppendsAll tells result payloads tail ended c.args.store.now c.write_synced.new.store) (sym is)
    (all_refused tells (IsErr c.write_synced.result) payloads tail _ c.args.store.now c.write_synced.new.store some refl refl refl (search rules) grew))

-- both are done, and the records are on the disk
pub returns : goal.returns
returns g c =
    let s = c.self.inside in
    let tail : Tail = record { file = s.file; end = s.end; is_sound = s.is_sound } in
    let n = c.in_ok-length.length in
    let after : Tail = record { file = s.file; end = n - 1; is_sound = true } in
    let payloads = g.P.Payloads.payloads c.args.payloads.now in
    let tells = g.S.Store.told in
    let law = g.met.S.Store.is_consistent in
    let old = tells c.args.store.now in
    let mid = tells c.write.new.store in
    let many : 1 ≤ length payloads = omega (arith, c.count.ensures, c.if-count-eq0.false) in
    let some : payloads ≡ [] → ⊥ = λ none. omega (arith, many, ap (λ (l : List (List ℕ)). length l) none) in
    let wrote = subst (λ (w : Writer). WritesSynced (Ok n) w.file w.kept (appended_text payloads) (KeepsFront w.kept) old mid) c.in_ok-behind.ensures.writer c.in_ok-length.ensures.synced in
    let is_tail = tail_of payloads many (fits_all _ payloads c.in_ok-behind.ensures.room) in
    let end : n - 1 ≡ s.end + length (appended_text payloads) =
    omega (arith, c.in_ok-length.ensures.length, length-appended payloads many, ap (λ (w : Writer). w.kept) c.in_ok-behind.ensures.writer) in
    rw (← c.self.view_is) (all_accepted tells payloads tail after c.args.store.now c.write_synced.new.store some refl
    (accepts _ _ payloads (drop 1 (records_text payloads)) (appended_text payloads) _ _ _ tail after old mid (tells c.write_synced.new.store) (law c.args.store.now) (law c.write.new.store)
    (law c.write_synced.new.store) is_tail refl (λ e. cc) refl end (told_within _ _ old c.self.view_is c.requires.place) wrote.changes wrote c.in_ok-write_synced.ensures))
