-- Behind the first byte of a line end stands the second, and the chunk is whole.
use Rattle.std.proofs.Common.{◌≡◌, ◌+◌, ◌++◌, ◌∷◌, [], take, inr, refl, sym, ap, ◌∙◌, subst, arith, append-nil}
use Rattle.irl_http.specs.declared.fields.Plan.TheVariants as plan
use Rattle.irl_http.specs.Bodies.{IsDue, InChunk, QuietAhead, QuietBody}
use Rattle.irl_http.proofs.ChunkSteps.{in_quiet, in_behind, in_broken, in_ended, after_quiet, line_empty_none, line_empty_may, quiet_here, quiet_both}
use Rattle.irl_http.proofs.chunks.Chunks.take_line_feed.Goals as goal

pub returns-in-None-clause-step : goal.returns-in-None-clause-step
returns-in-None-clause-step c = λ done d.
    let body = c.args.self.now.body.items in
    let a : InChunk 0 (13 ∷ []) body done = subst (λ x. IsDue x body done) c.requires.due d in
    let q = in_quiet c.args.want 0 (13 ∷ []) body done a (inr (refl, refl)) c.requires.room in
    (subst (λ n. QuietAhead c.args.want done c.args.bytes.now (n + 1)) (sym c.in-None.ensures.none) (quiet_here c.args.want done c.args.bytes.now q), d, omega (arith, c.in-None.ensures.none))

pub returns-in-Some-eq10-clause-step : goal.returns-in-Some-eq10-clause-step
returns-in-Some-eq10-clause-step c = λ done d.
    let body = c.args.self.now.body.items in
    let ahead = c.args.bytes.now in
    let a : InChunk 0 (13 ∷ []) body done = subst (λ x. IsDue x body done) c.requires.due d in
    let q = in_quiet c.args.want 0 (13 ∷ []) body done a (inr (refl, refl)) c.requires.room in
    let first : take 1 ahead ≡ 10 ∷ [] = c.in-Some-eq10.ensures.some.0 ∙ ap (λ x. x ∷ []) c.in-Some-eq10.field-0-test in
    let b : InChunk 0 (13 ∷ 10 ∷ []) body (done ++ take 1 ahead) = subst (λ t. InChunk 0 (13 ∷ t) body (done ++ take 1 ahead)) first (in_behind 0 (13 ∷ []) body done (take 1 ahead) a) in
    let after = in_ended body _ b in
    let next = after_quiet c.args.want body (done ++ take 1 ahead) [] after line_empty_none line_empty_may (omega arith) in
    (quiet_both c.args.want done ahead q (subst (QuietBody c.args.want plan.Chunked) (append-nil (done ++ take 1 ahead)) next), after)

pub returns-in-Some-clause-step : goal.returns-in-Some-clause-step
returns-in-Some-clause-step c = λ done d.
    let body = c.args.self.now.body.items in
    let ahead = c.args.bytes.now in
    let a : InChunk 0 (13 ∷ []) body done = subst (λ x. IsDue x body done) c.requires.due d in
    let q = in_quiet c.args.want 0 (13 ∷ []) body done a (inr (refl, refl)) c.requires.room in
    let b : InChunk 0 (13 ∷ c.in-Some.field-0 ∷ []) body (done ++ take 1 ahead) =
    subst (λ t. InChunk 0 (13 ∷ t) body (done ++ take 1 ahead)) c.in-Some.ensures.some.0 (in_behind 0 (13 ∷ []) body done (take 1 ahead) a) in
    (quiet_here c.args.want done ahead q, in_broken (13 ∷ c.in-Some.field-0 ∷ []) body _ b (refl, c.in-Some.field-0-test.1, refl))
