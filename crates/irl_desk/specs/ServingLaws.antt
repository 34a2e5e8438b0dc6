-- Some calls of a desk behind others.
use Rattle.std.proofs.Common.{List, [], ◌∷◌, ◌++◌, subst}
use Rattle.irl_disk.specs.Images.{Told}
use Rattle.irl_desk.specs.Serving.{Follows, Serving, ServesInTurn, Stage}

serve_both : {S : Type 0} (told : S → Told) (first second : List (Stage S)) (old mid new : Serving S)
    → ServesInTurn told first old mid → ServesInTurn told second mid new → ServesInTurn told (first ++ second) old new
serve_both {S} told [] second old mid new same serves =
    subst (λ (x : Serving S). ServesInTurn told second x new) same serves
serve_both {S} told (stage ∷ more) second old mid new first serves =
    (first.0, serve_both told more second stage.left mid new first.1 serves)

pub both_follow : {S : Type 0} (told : S → Told) (old mid new : Serving S) → Follows told old mid
    → Follows told mid new → Follows told old new
both_follow {S} told old mid new first second =
    (first.0 ++ second.0, serve_both told first.0 second.0 old mid new first.1 second.1)
