use Rattle.std.proofs.Common.{◌≡◌, map}
use Rattle.std.specs.Map.Iter.{deref_pair}
use Rattle.irl_model.proofs.key_set.KeySet.pairs.Given as goal

-- the pairs are the entries that were given so far
abbrev pub invariant-loop-key : goal.invariant-loop-key
invariant-loop-key l = map (λ p. (p.key, p.value)) l.pairs.items ≡ map deref_pair l.yielded
