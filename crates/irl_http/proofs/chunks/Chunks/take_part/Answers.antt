-- As many bytes of a chunk are taken as there are, as are left and as there is room for.
use Rattle.std.proofs.Common.{◌≡◌, ◌+◌, ◌-◌, ◌<◌, ◌≤◌, ◌++◌, take, length, sym, ap, subst, [], inl, refl, arith, length-take, length-append}
use Rattle.irl_http.specs.declared.chunks.Due.TheVariants as due
use Rattle.irl_http.specs.Bodies.{IsDue, InChunk, QuietAhead, most_of, due_after}
use Rattle.irl_http.specs.Chunks.{EndsInChunk}
use Rattle.irl_http.proofs.ChunkSteps.{in_quiet, in_more, in_full, part_ahead, due_next, quiet_here}
use Rattle.irl_http.proofs.chunks.Chunks.take_part.Goals as goal

pub returns-then-count-eq0-clause-step : goal.returns-then-count-eq0-clause-step
returns-then-count-eq0-clause-step c = λ done d.
    let body = c.args.self.now.body.items in
    let a : IsDue (due.Part c.args.left) body done = subst (λ x. IsDue x body done) c.requires.due d in
    let q = in_quiet c.args.want c.args.left [] body done a.1 (inl refl) c.requires.room in
    let none : length c.args.bytes.now ≡ 0 = omega (arith, c.lesser-count.ensures, c.min-room.ensures, c.most.ensures, c.len.ensures, c.requires.room, c.if-count-eq0.true, a.0) in
    (subst (λ n. QuietAhead c.args.want done c.args.bytes.now (n + 1)) (sym none) (quiet_here c.args.want done c.args.bytes.now q), d, omega (arith, none))

pub returns-then-len-most-clause-step : goal.returns-then-len-most-clause-step
returns-then-len-most-clause-step c = λ done d.
    let body = c.args.self.now.body.items in
    let ahead = c.args.bytes.now in
    let count = c.lesser-count.result in
    let t = take count ahead in
    let a : IsDue (due.Part c.args.left) body done = subst (λ x. IsDue x body done) c.requires.due d in
    let items : c.extend_from_slice.new.self.items ≡ body ++ t = c.in_ok-extend_from_slice.ensures.items in
    let fits : count ≤ c.args.left = omega (arith, c.lesser-count.ensures) in
    let within : count ≤ length ahead = omega (arith, c.lesser-count.ensures, c.min-room.ensures) in
    let size : length t ≡ count = omega (arith, length-take count ahead, within) in
    let room : length body + count ≤ most_of c.args.want = omega (arith, c.lesser-count.ensures, c.min-room.ensures, c.most.ensures, c.len.ensures, c.requires.room) in (
      part_ahead c.args.want c.args.left body done ahead count a.1 (omega arith) (omega arith) room,
      subst (λ b. EndsInChunk (done ++ t) b) (sym items) (in_full c.args.left body done t a.1 (omega (arith, size, fits)) (omega (arith, size, c.if-count-eq0.false))),
    )

pub returns-clause-step : goal.returns-clause-step
returns-clause-step c = λ done d.
    let body = c.args.self.now.body.items in
    let ahead = c.args.bytes.now in
    let count = c.lesser-count.result in
    let t = take count ahead in
    let a : IsDue (due.Part c.args.left) body done = subst (λ x. IsDue x body done) c.requires.due d in
    let items : c.extend_from_slice.new.self.items ≡ body ++ t = c.in_ok-extend_from_slice.ensures.items in
    let fits : count ≤ c.args.left = omega (arith, c.lesser-count.ensures) in
    let within : count ≤ length ahead = omega (arith, c.lesser-count.ensures, c.min-room.ensures) in
    let size : length t ≡ count = omega (arith, length-take count ahead, within) in
    let more : length body + count < most_of c.args.want = omega (
      arith,
      ap length items,
      length-append body t,
      size,
      c.if-len-most.false,
      c.len-2.ensures,
      c.most-2.ensures,
      c.lesser-count.ensures,
      c.min-room.ensures,
      c.most.ensures,
      c.len.ensures,
      c.requires.room,
    ) in
    let b : InChunk (c.args.left - length t) [] (body ++ t) (done ++ t) = in_more c.args.left body done t a.1 (omega (arith, size, fits)) in
    let next : IsDue (due_after c.args.left count) (body ++ t) (done ++ t) = due_next c.args.left count (body ++ t) (done ++ t) fits
    (subst (λ n. InChunk (c.args.left - n) [] (body ++ t) (done ++ t)) size b) in (
      part_ahead c.args.want c.args.left body done ahead (count + 1) a.1 (omega arith) (omega arith) (omega (arith, more)),
      subst (λ x. IsDue x c.extend_from_slice.new.self.items (done ++ t)) (sym c.after_part-self.ensures) (subst (λ l. IsDue (due_after c.args.left count) l (done ++ t)) (sym items) next),
    )
