use Rattle.std.proofs.Common.{◌≡◌, ◌∙◌, ◌≤◌, ◌+◌, ◌*◌, ◌++◌, ◌∷◌, ℕ, [], length, refl, ap, arith}
use Rattle.byteorder.specs.Endian.{little_bytes}
use Rattle.irl_layout.specs.Commits.{sides_byte}
use Rattle.irl_layout.proofs.Numbers.{draft, length-commit, commit_put, four_fit, others_fit}
use Rattle.irl_layout.proofs.commit.Commit.put.Goals as goal

pub put_numbers-requires : goal.put_numbers-requires
put_numbers-requires c =
    let commit = c.args.self.now in
    let fits : length c.args.frame.now.bytes + (33 + 8 * length commit.cut) ≤ c.args.frame.now.room = omega (arith, c.requires.room, length-commit commit) in
    four_fit c.args.frame.now.room c.sides_byte.result (length commit.cut) c.args.frame.now.bytes c.put.new.self fits c.put.ensures

pub put_numbers-requires-2 : goal.put_numbers-requires-2
put_numbers-requires-2 c = rw c.deref.ensures.value (
    let cut = c.self.inside.cut.items in
    let fits : length c.args.frame.now.bytes + (33 + 8 * length cut) ≤ c.args.frame.now.room = rw (← c.self.view_is) at (rw (length-commit c.args.self.now) at c.requires.room) in
    others_fit c.args.frame.now.room c.sides_byte.result (length cut) c.args.frame.now.bytes _ c.put.new.self c.put_numbers.new.frame fits refl c.put.ensures c.put_numbers.ensures)

pub returns : goal.returns
returns c = rw (← c.self.view_is) (
    let inside = c.self.inside in
    let byte : c.put.new.self ≡ draft c.args.frame.now.room (c.args.frame.now.bytes ++ sides_byte inside.side inside.live ∷ []) =
    c.put.ensures ∙ ap (λ (n : ℕ). draft c.args.frame.now.room (c.args.frame.now.bytes ++ n ∷ [])) c.sides_byte.ensures in
    commit_put (little_bytes 8) c.args.frame.now.room (sides_byte inside.side inside.live) inside.entries inside.judged inside.unique inside.texts c.args.frame.now.bytes inside.cut.items
    c.put.new.self c.put_numbers.new.frame c.put_numbers-2.new.frame byte c.put_numbers.ensures (rw c.deref.ensures.value at c.put_numbers-2.ensures))
