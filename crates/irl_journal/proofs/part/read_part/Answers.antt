use Rattle.std.proofs.Common.{◌≡◌, ◌∙◌, ◌++◌, length, take, drop, sym, ap, arith}
use Rattle.std.proofs.Math.Seq.{take-append_seam}
use Rattle.irl_journal.proofs.part.read_part.Goals as goal

pub returns-then-branch-clause-bytes : goal.returns-then-branch-clause-bytes
returns-then-branch-clause-bytes g c = λ files tells.
    let size : length c.read.new.into ≡ c.in_ok-part.part.len = c.read.auto.into ∙ c.deref_mut.ensures.len in
    let all : c.in_ok-part.part.len ≡ c.args.length = c.in_ok-part.ensures.len in
    let file = ap (λ front. front.file) c.at.ensures in
    ap (λ n. take n (c.read.new.into ++ drop (length c.read.new.into) c.in_ok-part.part.items)) (sym size)
    ∙ take-append_seam c.read.new.into (drop (length c.read.new.into) c.in_ok-part.part.items)
    ∙ c.in_ok-read.ensures.bytes c.if-branch.true files tells
    ∙ ap (λ n. take n (drop c.args.at (files c.at.result.file))) (size ∙ all)
    ∙ ap (λ f. take c.args.length (drop c.args.at (files f))) file

pub returns-else-branch-clause-damaged : goal.returns-else-branch-clause-damaged
returns-else-branch-clause-damaged g c = λ f place e files tells.
    let size : length c.read.new.into ≡ c.in_ok-part.part.len = c.read.auto.into ∙ c.deref_mut.ensures.len in
    let all : c.in_ok-part.part.len ≡ c.args.length = c.in_ok-part.ensures.len in
    let file = ap (λ front. length (files front.file)) c.at.ensures in
    let filled = (c.in_ok-read.ensures.long files tells).1 (omega (arith, size, all, file, c.requires.long files tells)) in
    let not_filled = c.if-branch.false in
    cc
