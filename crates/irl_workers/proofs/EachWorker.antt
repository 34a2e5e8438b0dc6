-- What holds of each worker, over lists of them.
use Rattle.std.proofs.Common.{◌≡◌, ℕ, zero, suc, List, [], ◌∷◌, ◌++◌, length, ap, refl, subst}
use Rattle.std.specs.Prelude.{Some, slice_get}
use Rattle.std.proofs.lemmas.Option.{none-some, same_Some}
use Rattle.irl_workers.specs.Workers.{EachWorker}

-- some workers, and others behind them
pub each_both : {F W : Type 0} (Holds : F → F → W → W → Type 0) (olds news : List F) (befores afters : List W) (olds' news' : List F) (befores' afters' : List W)
    → EachWorker Holds olds news befores afters → EachWorker Holds olds' news' befores' afters'
    → EachWorker Holds (olds ++ olds') (news ++ news') (befores ++ befores') (afters ++ afters')
each_both Holds [] [] [] [] olds' news' befores' afters' some others = others
each_both Holds (old ∷ olds) (new ∷ news) (before ∷ befores) (after ∷ afters) olds' news' befores' afters' some others =
    (some.0, each_both Holds olds news befores afters olds' news' befores' afters' some.1 others)
each_both Holds [] [] [] (after ∷ afters) olds' news' befores' afters' some others = absurd some
each_both Holds [] [] (before ∷ befores) afters olds' news' befores' afters' some others = absurd some
each_both Holds [] (new ∷ news) befores afters olds' news' befores' afters' some others = absurd some
each_both Holds (old ∷ olds) [] befores afters olds' news' befores' afters' some others = absurd some
each_both Holds (old ∷ olds) (new ∷ news) [] afters olds' news' befores' afters' some others = absurd some
each_both Holds (old ∷ olds) (new ∷ news) (before ∷ befores) [] olds' news' befores' afters' some others = absurd some

-- the same of lists that are theirs, one behind the other
pub each_whole : {F W : Type 0} (Holds : F → F → W → W → Type 0) (olds news : List F) (befores afters : List W) (olds' news' : List F) (befores' afters' : List W)
    (all : List F) (whole : List W) → olds ++ olds' ≡ all → befores ++ befores' ≡ whole
    → EachWorker Holds olds news befores afters → EachWorker Holds olds' news' befores' afters'
    → EachWorker Holds all (news ++ news') whole (afters ++ afters')
each_whole {F} {W} Holds olds news befores afters olds' news' befores' afters' all whole is-all is-whole some others =
    subst (λ (x : List F × List W). EachWorker Holds x.0 (news ++ news') x.1 (afters ++ afters')) (λ i. (is-all i, is-whole i))
    (each_both Holds olds news befores afters olds' news' befores' afters' some others)

-- lists of one worker
pub each_one : {F W : Type 0} (Holds : F → F → W → W → Type 0) (old new : F) (before after : W) → Holds old new before after
    → EachWorker Holds (old ∷ []) (new ∷ []) (before ∷ []) (after ∷ [])
each_one Holds old new before after holds = (holds, tt)

-- There are as many of each.
pub each_count : {F W : Type 0} (Holds : F → F → W → W → Type 0) (olds news : List F) (befores afters : List W)
    → EachWorker Holds olds news befores afters
    → (length news ≡ length olds) × (length befores ≡ length olds) × (length afters ≡ length olds)
each_count Holds [] [] [] [] each = (refl, refl, refl)
each_count Holds (old ∷ olds) (new ∷ news) (before ∷ befores) (after ∷ afters) each =
    let rest = each_count Holds olds news befores afters each.1 in
    (ap suc rest.0, ap suc rest.1, ap suc rest.2)
each_count Holds [] [] [] (after ∷ afters) each = absurd each
each_count Holds [] [] (before ∷ befores) afters each = absurd each
each_count Holds [] (new ∷ news) befores afters each = absurd each
each_count Holds (old ∷ olds) [] befores afters each = absurd each
each_count Holds (old ∷ olds) (new ∷ news) [] afters each = absurd each
each_count Holds (old ∷ olds) (new ∷ news) (before ∷ befores) [] each = absurd each

-- what holds of the worker at a place
pub each_at : {F W : Type 0} (Holds : F → F → W → W → Type 0) (olds news : List F) (befores afters : List W)
    → EachWorker Holds olds news befores afters → (at : ℕ) (old new : F) (before after : W)
    → slice_get olds at ≡ Some old → slice_get news at ≡ Some new → slice_get befores at ≡ Some before → slice_get afters at ≡ Some after
    → Holds old new before after
each_at Holds [] [] [] [] each at old new before after was is stood stands = absurd (none-some old was)
each_at {F} {W} Holds (o ∷ olds) (n ∷ news) (b ∷ befores) (a ∷ afters) each zero old new before after was is stood stands =
    subst (λ (x : F × F × W × W). Holds x.0 x.1 x.2 x.3)
    (λ i. (same_Some o old was i, same_Some n new is i, same_Some b before stood i, same_Some a after stands i)) each.0
each_at Holds (o ∷ olds) (n ∷ news) (b ∷ befores) (a ∷ afters) each (suc at) old new before after was is stood stands =
    each_at Holds olds news befores afters each.1 at old new before after was is stood stands
each_at Holds [] [] [] (a ∷ afters) each at old new before after was is stood stands = absurd each
each_at Holds [] [] (b ∷ befores) afters each at old new before after was is stood stands = absurd each
each_at Holds [] (n ∷ news) befores afters each at old new before after was is stood stands = absurd each
each_at Holds (o ∷ olds) [] befores afters each at old new before after was is stood stands = absurd each
each_at Holds (o ∷ olds) (n ∷ news) [] afters each at old new before after was is stood stands = absurd each
each_at Holds (o ∷ olds) (n ∷ news) (b ∷ befores) [] each at old new before after was is stood stands = absurd each
