-- The event that pairs are sent.
use Rattle.std.proofs.Common.{◌≡◌, ℕ, ◌≤◌, [], None, true, refl}
use Rattle.std.proofs.lemmas.Bool.{le-leb}
use Rattle.irl_events.specs.Events.{Pairs, Progress}
use Rattle.irl_events.specs.Legal.{broken}

pub pairs_keep : (x : Progress) (cuts judged sent : ℕ) → x.begun ≡ true → x.cuts ≤ cuts → x.sent ≤ judged → x.pairs ≤ sent → broken x (Pairs cuts judged sent) [] ≡ None
pairs_keep x cuts judged sent begun one two three = rw (begun, le-leb x.cuts cuts one, le-leb x.sent judged two, le-leb x.pairs sent three) refl
