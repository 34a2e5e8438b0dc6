-- Behind the bytes of a chunk stands the first byte of a line end.
use Rattle.std.proofs.Common.{◌≡◌, ◌+◌, ◌++◌, ◌∷◌, [], take, inl, inr, refl, sym, ap, ◌∙◌, subst, arith}
use Rattle.irl_http.specs.Bodies.{IsDue, InChunk, QuietAhead}
use Rattle.irl_http.proofs.ChunkSteps.{in_quiet, in_behind, in_broken, quiet_here, quiet_both}
use Rattle.irl_http.proofs.chunks.Chunks.take_carriage_return.Goals as goal

pub returns-in-None-clause-step : goal.returns-in-None-clause-step
returns-in-None-clause-step c = λ done d.
    let body = c.args.self.now.body.items in
    let a : InChunk 0 [] body done = subst (λ x. IsDue x body done) c.requires.due d in
    let q = in_quiet c.args.want 0 [] body done a (inl refl) c.requires.room in
    (subst (λ n. QuietAhead c.args.want done c.args.bytes.now (n + 1)) (sym c.in-None.ensures.none) (quiet_here c.args.want done c.args.bytes.now q), d, omega (arith, c.in-None.ensures.none))

pub returns-in-Some-eq13-clause-step : goal.returns-in-Some-eq13-clause-step
returns-in-Some-eq13-clause-step c = λ done d.
    let body = c.args.self.now.body.items in
    let ahead = c.args.bytes.now in
    let a : InChunk 0 [] body done = subst (λ x. IsDue x body done) c.requires.due d in
    let q = in_quiet c.args.want 0 [] body done a (inl refl) c.requires.room in
    let first : take 1 ahead ≡ 13 ∷ [] = c.in-Some-eq13.ensures.some.0 ∙ ap (λ x. x ∷ []) c.in-Some-eq13.field-0-test in
    let b : InChunk 0 (13 ∷ []) body (done ++ take 1 ahead) = subst (λ t. InChunk 0 t body (done ++ take 1 ahead)) first (in_behind 0 [] body done (take 1 ahead) a) in
    (quiet_both c.args.want done ahead q (in_quiet c.args.want 0 (13 ∷ []) body _ b (inr (refl, refl)) c.requires.room), b)

pub returns-in-Some-clause-step : goal.returns-in-Some-clause-step
returns-in-Some-clause-step c = λ done d.
    let body = c.args.self.now.body.items in
    let ahead = c.args.bytes.now in
    let a : InChunk 0 [] body done = subst (λ x. IsDue x body done) c.requires.due d in
    let q = in_quiet c.args.want 0 [] body done a (inl refl) c.requires.room in
    let b : InChunk 0 (c.in-Some.field-0 ∷ []) body (done ++ take 1 ahead) = subst (λ t. InChunk 0 t body (done ++ take 1 ahead)) c.in-Some.ensures.some.0
    (in_behind 0 [] body done (take 1 ahead) a) in
    (quiet_here c.args.want done ahead q, in_broken (c.in-Some.field-0 ∷ []) body _ b c.in-Some.field-0-test.1)
