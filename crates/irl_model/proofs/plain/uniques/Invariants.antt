use Rattle.std.proofs.Common.{◌≡◌, map}
use Rattle.std.specs.List.{filter}
use Rattle.irl_model.specs.Book.{is_unique}
use Rattle.irl_model.proofs.plain.uniques.Given as goal

-- the unique ones so far, with their numbers
abbrev pub invariant-loop-number : goal.invariant-loop-number
invariant-loop-number l = l.uniques.items ≡ map (λ p. (p.0, p.1.offer)) (filter (λ p. is_unique p.1.verdict) l.yielded)
