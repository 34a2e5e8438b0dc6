-- Behind whole chunks stands a chunk line, or that of the last chunk.
use Rattle.std.proofs.Common.{◌+◌, ◌++◌, ◌<◌, take, length, sym, ◌∙◌, subst, [], arith}
use Rattle.httparse.specs.Grammar.{chunk_size}
use Rattle.irl_http.specs.Bodies.{IsDue, InChunk, AfterChunks}
use Rattle.irl_http.proofs.ChunkSteps.{IsLineAhead, line_quiet, line_last, line_part, line_taken, line_long, line_ahead, line_before, line_broken, line_none_take, line_may_take}
use Rattle.irl_http.proofs.chunks.Chunks.take_line.Goals as goal

pub returns-then-size-eq0-clause-step : goal.returns-then-size-eq0-clause-step
returns-then-size-eq0-clause-step c = λ done d.
    let body = c.args.self.now.body.items in
    let ahead = c.args.bytes.now in
    let a : AfterChunks body done = subst (λ x. IsDue x body done) c.requires.due d in
    let e = c.in-Whole.ensures in
    let i : IsLineAhead e.0 ahead c.in-Whole.length = record { short = e.1; text = e.2; size = e.3 } in
    (line_quiet c.args.want body done ahead e.0 c.in-Whole.length a i, line_last body done ahead e.0 c.in-Whole.length a i (sym e.5 ∙ c.if-size-eq0.true))

pub returns-else-size-eq0-clause-moves : goal.returns-else-size-eq0-clause-moves
returns-else-size-eq0-clause-moves c =
    let e = c.in-Whole.ensures in
    (omega (arith, e.3, line_long e.0 e.1.valid), e.4, c.requires.room)

pub returns-else-size-eq0-clause-step : goal.returns-else-size-eq0-clause-step
returns-else-size-eq0-clause-step c = λ done d.
    let body = c.args.self.now.body.items in
    let ahead = c.args.bytes.now in
    let a : AfterChunks body done = subst (λ x. IsDue x body done) c.requires.due d in
    let e = c.in-Whole.ensures in
    let i : IsLineAhead e.0 ahead c.in-Whole.length = record { short = e.1; text = e.2; size = e.3 } in
    let some : 0 < chunk_size e.0 = omega (arith, e.5, c.if-size-eq0.false) in (
      line_taken c.args.want body done ahead e.0 c.in-Whole.length a i some c.requires.room,
      (omega (arith, e.5, some), subst (λ n. InChunk n [] body (done ++ take c.in-Whole.length ahead)) (sym e.5) (line_part body done ahead e.0 c.in-Whole.length a i some)),
    )

pub returns-in-Open-clause-step : goal.returns-in-Open-clause-step
returns-in-Open-clause-step c = λ done d.
    let body = c.args.self.now.body.items in
    let ahead = c.args.bytes.now in
    let a : AfterChunks body done = subst (λ x. IsDue x body done) c.requires.due d in
    let e = c.in-Open.ensures in
    (line_ahead c.args.want body done ahead (length ahead + 1) a (λ m below. line_none_take m ahead e.1) (λ m below. line_may_take m ahead e.2) (omega (arith, e.0)), d, e.0)

pub returns-in-Bad-clause-step : goal.returns-in-Bad-clause-step
returns-in-Bad-clause-step c = λ done d.
    let body = c.args.self.now.body.items in
    let ahead = c.args.bytes.now in
    let a : AfterChunks body done = subst (λ x. IsDue x body done) c.requires.due d in
    let e = c.in-Bad.ensures in
    (line_before c.args.want body done ahead c.in-Bad.n a e.2 e.3.0 e.3.1, line_broken body done ahead c.in-Bad.n a e.4)
