-- The two writes, each with its sync, one after the other.
use Rattle.std.proofs.Common.{◌≡◌, ◌+◌, ◌<◌, ◌≤◌, [], ◌∷◌, IsErr, length, refl, sym, subst, arith, rules}
use Rattle.std.specs.Option.{ForSome}
use Rattle.irl_disk.specs.Images.{Told}
use Rattle.irl_journal.specs.Appending.{Tail}
use Rattle.irl_journal.specs.Format.{body_text}
use Rattle.irl_journal.proofs.Gates.{one_tail}
use Rattle.irl_journal.proofs.Growing.{keeps_synced}
use Rattle.irl_journal.proofs.Appended.{grows_behind, grows_gate, grows_for, is_behind, refuses, accepts}
use Rattle.irl_journal.proofs.Writing.{still_within}
use Rattle.irl_journal.proofs.journal.Journal.append.Goals as goal

-- the closed gate's place is within what is told
abbrev told_within : (tail view : Tail) (now : Told) → view ≡ tail → ForSome now.files (λ files. tail.end < length (files tail.file)) → ForSome now.files (λ files. view.end < length (files view.file))
told_within tail view now is within = subst (λ (t : Tail). ForSome now.files (λ files. t.end < length (files t.file))) (sym is) within

pub write_synced-requires-clause-place : goal.write_synced-requires-clause-place
write_synced-requires-clause-place g c = λ files told. omega (arith, told_within _ _ (g.S.Store.told c.args.store.now) c.self.view_is c.requires.place files told)

pub write_synced-requires-2-clause-place : goal.write_synced-requires-2-clause-place
write_synced-requires-2-clause-place g c =
    let s = c.self.inside in
    still_within s.file s.end c.closed_record-bytes.result.now _ _ (told_within _ _ (g.S.Store.told c.args.store.now) c.self.view_is c.requires.place) c.in_ok-write_synced.ensures.holds

-- the record was not written, or not synced
pub returns-in_err-write_synced-clause-appends : goal.returns-in_err-write_synced-clause-appends
returns-in_err-write_synced-clause-appends g c =
    let s = c.self.inside in
    let tail : Tail = record { file = s.file; end = s.end; is_sound = s.is_sound } in
    let more = c.args.frame.now.bytes ∷ [] in
    let law = g.met.S.Store.is_consistent in
    let old = g.S.Store.told c.args.store.now in
    let mid = g.S.Store.told c.write_synced.new.store in
    let wrote = grows_behind more tail _ old mid (law c.args.store.now) (keeps_synced s.file (s.end + 1) (s.end + 1) _ _ old mid (omega arith) c.write_synced.ensures.changes) in
    let grew = grows_for more tail _ (IsErr c.from_residual.result) old mid (λ e. search rules) wrote in
    rw (← c.self.view_is) (refuses c.from_residual.result _ more tail _ old mid c.from_residual.ensures.0 refl refl grew)

-- the gate was not
pub returns-in_err-write_synced-2-clause-appends : goal.returns-in_err-write_synced-2-clause-appends
returns-in_err-write_synced-2-clause-appends g c =
    let s = c.self.inside in
    let tail : Tail = record { file = s.file; end = s.end; is_sound = s.is_sound } in
    let payload = c.args.frame.now.bytes in
    let law = g.met.S.Store.is_consistent in
    let old = g.S.Store.told c.args.store.now in
    let mid = g.S.Store.told c.write_synced.new.store in
    let new = g.S.Store.told c.write_synced-2.new.store in
    let wrote = grows_behind (payload ∷ []) tail _ old mid (law c.args.store.now) (keeps_synced s.file (s.end + 1) (s.end + 1) _ _ old mid (omega arith) c.write_synced.ensures.changes) in
    let opened = grows_gate (payload ∷ []) (body_text payload) tail _ _ old mid new (law c.write_synced.new.store) (one_tail payload c.closed_record-bytes.ensures.limit)
    (λ payloads is_open.
    is_behind s.file s.end c.closed_record-bytes.result.now (body_text payload) payloads old mid (law c.args.store.now) (law c.write_synced.new.store) c.closed_record-bytes.ensures.bytes is_open
    c.in_ok-write_synced.ensures.holds c.in_ok-write_synced.ensures.durable) wrote c.write_synced-2.ensures.changes in
    let result = c.from_residual-in_err-write_synced-2.result in
    let grew = grows_for (payload ∷ []) tail _ (IsErr result) old new (λ e. search rules) opened in
    rw (← c.self.view_is) (refuses result _ (payload ∷ []) tail _ old new c.from_residual-in_err-write_synced-2.ensures.0 refl refl grew)

-- both are done, and the record is on the disk
pub returns-clause-appends : goal.returns-clause-appends
returns-clause-appends g c =
    let s = c.self.inside in
    let tail : Tail = record { file = s.file; end = s.end; is_sound = s.is_sound } in
    let payload = c.args.frame.now.bytes in
    let law = g.met.S.Store.is_consistent in
    let old = g.S.Store.told c.args.store.now in
    let mid = g.S.Store.told c.write_synced.new.store in
    rw (← c.self.view_is) (
    accepts _ _ (payload ∷ []) (body_text payload) c.closed_record-bytes.result.now _ _ _ tail _ old mid (g.S.Store.told c.write_synced-2.new.store) (law c.args.store.now)
    (law c.write_synced.new.store) (law c.write_synced-2.new.store) (one_tail payload c.closed_record-bytes.ensures.limit) c.closed_record-bytes.ensures.bytes (λ e. cc) refl refl
    (told_within _ _ old c.self.view_is c.requires.place) (keeps_synced s.file (s.end + 1) (s.end + 1) _ _ old mid (omega arith) c.write_synced.ensures.changes) c.in_ok-write_synced.ensures
    c.in_ok-write_synced-2.ensures)
