use Rattle.std.proofs.Common.{◌≡◌, ◌≤◌, ℕ, List, refl, sym, ap, subst, ◌∙◌, arith, length}
use Rattle.std.specs.Vec.{with_items}
use Rattle.std.proofs.lemmas.List.{with_items_is}
use Rattle.irl_disk.specs.Disk.{ChangesFile, IsPrefix, PartlyCut}
use Rattle.irl_disk.specs.Sure.{Held, files_cut, sure_files}
use Rattle.irl_disk.proofs.Pieces.{file_cut, piece_long, three_parts}
use Rattle.irl_disk.proofs.SureCalls.{leaves_step, partly_cut_by_cut}
use Rattle.irl_disk.proofs.sure.SureStoreStore.cut.Goals as goal
use Rattle.irl_disk.proofs.sure.SureStoreStore.cut.Goals.{After-deref_mut-2, After-resize}

pub resize-requires-clause-room : goal.resize-requires-clause-room
resize-requires-clause-room c =
    let lengths = c.self.inside.lengths.items in
    let bytes = c.self.inside.bytes.items in
    let place : c.args.to ≤ length (files_cut lengths bytes c.args.f) = subst (λ (store : Held). c.args.to ≤ length (sure_files store c.args.f)) (sym c.self.view_is) (c.requires.place _ refl) in
    rw (c.deref_mut-2.ensures.value, c.deref_mut.ensures.value)
    (omega (arith, piece_long lengths bytes c.args.f c.self.invariant.2, three_parts lengths c.args.f (omega (arith, c.self.invariant.0)), c.self.invariant.2))

lengths_are : (c : After-resize) → (with_items c.self.inside.lengths c.resize.new.lengths).items ≡ c.resize.new.lengths
lengths_are c = with_items_is c.self.inside.lengths c.resize.new.lengths (omega arith)

bytes_are : (c : After-resize) → (with_items c.self.inside.bytes c.resize.new.bytes).items ≡ c.resize.new.bytes
bytes_are c = with_items_is c.self.inside.bytes c.resize.new.bytes (omega arith)

changed : (c : After-resize) → ChangesFile c.args.f (IsPrefix c.args.to) (sure_files c.args.self.now)
    (files_cut (with_items c.self.inside.lengths c.resize.new.lengths).items (with_items c.self.inside.bytes c.resize.new.bytes).items)
changed c = rw (lengths_are c, bytes_are c) (file_cut c.args.f c.args.to (sure_files c.args.self.now) (files_cut c.resize.new.lengths c.resize.new.bytes) (c.requires.place _ refl)
    (rw (← c.self.view_is) (rw (c.deref_mut-2.ensures.value, c.deref_mut.ensures.value) at c.resize.ensures.files)))

pub invariant_of-self : goal.invariant_of-self
invariant_of-self c =
    let lengths = lengths_are (goal.at.invariant_of-self c).After-resize in
    let bytes = bytes_are (goal.at.invariant_of-self c).After-resize in (
      ap (λ (xs : List ℕ). length xs) lengths ∙ omega (arith, c.self.invariant.0),
      c.self.invariant.1,
      rw (lengths, bytes) c.resize.ensures.fits,
    )

pub returns-clause-ok : goal.returns-clause-ok
returns-clause-ok c = (_, refl, changed (goal.at.returns-clause-ok c).After-resize)

pub returns-clause-stops : goal.returns-clause-stops
returns-clause-stops c =
    leaves_step (sure_files c.args.self.now) _ _ _ _ _ (ChangesFile c.args.f (PartlyCut c.args.to))
    (partly_cut_by_cut c.args.f c.args.to (sure_files c.args.self.now) _ (c.requires.place _ refl) (changed (goal.at.returns-clause-stops c).After-resize))
