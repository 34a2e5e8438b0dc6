use Rattle.std.proofs.Common.{◌≡◌, ◌≤◌, ◌+◌, ◌-◌, ℕ, List, [], refl, sym, ap, subst, ◌∙◌, arith, length, get_or}
use Rattle.std.specs.List.{sum}
use Rattle.std.specs.Vec.{with_items}
use Rattle.std.proofs.lemmas.List.{with_items_is}
use Rattle.irl_base.specs.Faults.{counted}
use Rattle.irl_disk.specs.Disk.{ChangesFile, Holds, Scribbled}
use Rattle.irl_disk.specs.Sure.{Held, bytes_held, files_cut, pieces, sure_files}
use Rattle.irl_disk.proofs.Pieces.{piece_long}
use Rattle.irl_disk.proofs.Steps.{scribbled_none}
use Rattle.irl_disk.proofs.SureCalls.{leaves_step, needed, scribbled_by_write}
use Rattle.irl_disk.proofs.sure.SureStoreStore.write.Goals as goal
use Rattle.irl_disk.proofs.sure.SureStoreStore.write.Goals.{After-write_into, In-Ok}

pub write_into-requires-clause-place : goal.write_into-requires-clause-place
write_into-requires-clause-place c =
    let lengths = c.self.inside.lengths.items in
    let bytes = c.self.inside.bytes.items in
    let place : c.args.at ≤ length (files_cut lengths bytes c.args.f) = subst (λ (store : Held). c.args.at ≤ length (sure_files store c.args.f)) (sym c.self.view_is) (c.requires.place _ refl) in
    rw c.deref_mut-2.ensures.value (omega (arith, piece_long lengths bytes c.args.f c.self.invariant.2))

lengths_are : (c : After-write_into) → (with_items c.self.inside.lengths c.write_into.new.lengths).items ≡ c.write_into.new.lengths
lengths_are c = with_items_is c.self.inside.lengths c.write_into.new.lengths (omega arith)

bytes_are : (c : After-write_into) → (with_items c.self.inside.bytes c.write_into.new.bytes).items ≡ c.write_into.new.bytes
bytes_are c = with_items_is c.self.inside.bytes c.write_into.new.bytes (omega arith)

room_is : (c : After-write_into) → c.args.self.now.room ≡ length (with_items c.self.inside.bytes c.write_into.new.bytes).items
room_is c = sym (ap (λ (store : Held). store.room) c.self.view_is) ∙ omega (arith, ap (λ (xs : List ℕ). length xs) (bytes_are c))

-- how many bytes the files need together
needed_is : (c : After-write_into) → bytes_held c.args.self.now + (c.args.at + length c.args.bytes.now - length (sure_files c.args.self.now c.args.f))
    ≡ sum c.deref_mut-2.result.now + (c.args.at + length c.args.bytes.now - get_or c.deref_mut-2.result.now c.args.f 0)
needed_is c = rw c.deref_mut-2.ensures.value
    (needed c.args.self.now c.self.inside.lengths.items c.self.inside.bytes.items c.args.f (c.args.at + length c.args.bytes.now) (sym (ap (λ (store : Held). store.files) c.self.view_is))
    c.self.invariant.2)

-- a write that was done
written : (c : In-Ok) → ChangesFile c.args.f (Holds c.args.at c.args.bytes.now) (sure_files c.args.self.now)
    (files_cut (with_items c.self.inside.lengths c.write_into.new.lengths).items (with_items c.self.inside.bytes c.write_into.new.bytes).items)
written c =
    let call = (goal.at.returns-in-Ok-clause-ok c).After-write_into in
    rw (lengths_are call, bytes_are call, ← c.self.view_is) (rw (c.deref_mut-2.ensures.value, c.deref_mut.ensures.value) at c.in-Ok.ensures.ok)

pub returns-in-Ok-clause-ok : goal.returns-in-Ok-clause-ok
returns-in-Ok-clause-ok c = (_, refl, written c)

pub returns-in-Ok-clause-stops : goal.returns-in-Ok-clause-stops
returns-in-Ok-clause-stops c =
    leaves_step (sure_files c.args.self.now) _ _ _ _ _ (ChangesFile c.args.f (Scribbled c.args.at (length c.args.bytes.now)))
    (scribbled_by_write c.args.f c.args.at c.args.bytes.now (sure_files c.args.self.now) _ (c.requires.place _ refl) (written c))

pub returns-in-Ok-clause-logs : goal.returns-in-Ok-clause-logs
returns-in-Ok-clause-logs c =
    let call = (goal.at.returns-in-Ok-clause-logs c).After-write_into in
    let room : c.args.self.now.room ≡ length (with_items c.self.inside.bytes c.write_into.new.bytes).items = room_is call in
    record {
      failed = (λ failed. cc, λ over. absurd (omega (arith, over, needed_is call, ap (λ (store : Held). store.room) c.self.view_is, c.deref_mut.ensures.len, c.in-Ok.ensures.room)));
      kept = λ failed. cc;
      faults = ap (λ (store : Held). store.faults) c.self.view_is;
      room = sym room;
    }

-- one that failed
unchanged : (c : After-write_into) → c.write_into.new.lengths ≡ c.deref_mut-2.result.now → c.write_into.new.bytes ≡ c.deref_mut.result.now
    → pieces (with_items c.self.inside.lengths c.write_into.new.lengths).items (with_items c.self.inside.bytes c.write_into.new.bytes).items ≡ c.args.self.now.files
unchanged c lengths bytes = rw (lengths_are c, bytes_are c, lengths, bytes, c.deref_mut-2.ensures.value, c.deref_mut.ensures.value) (ap (λ (store : Held). store.files) c.self.view_is)

pub returns-in-Err-clause-stops : goal.returns-in-Err-clause-stops
returns-in-Err-clause-stops c =
    leaves_step (sure_files c.args.self.now) _ _ _ _ _ (ChangesFile c.args.f (Scribbled c.args.at (length c.args.bytes.now)))
    (scribbled_none c.args.at (length c.args.bytes.now) c.args.f (sure_files c.args.self.now) _ (λ g.
    ap (λ (files : List (List ℕ)). get_or files g []) (unchanged (goal.at.returns-in-Err-clause-stops c).After-write_into c.in-Err.ensures.lengths_stay c.in-Err.ensures.bytes_stay)))

pub returns-in-Err-clause-logs : goal.returns-in-Err-clause-logs
returns-in-Err-clause-logs c =
    let call = (goal.at.returns-in-Err-clause-logs c).After-write_into in
    record {
      failed = (λ e. omega (arith, needed_is call, ap (λ (store : Held). store.room) c.self.view_is, c.deref_mut.ensures.len, c.in-Err.ensures.no_room), λ over. refl);
      kept = λ e. (unchanged call c.in-Err.ensures.lengths_stay c.in-Err.ensures.bytes_stay, ap (λ (store : Held). store.taken) c.self.view_is);
      faults = c.fault.ensures.counted ∙ ap (λ (store : Held). counted store.faults) c.self.view_is;
      room = sym (room_is call);
    }
