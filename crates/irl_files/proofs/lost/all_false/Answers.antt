-- Each item of so many `false` is one, and so is what a read past them gives.
use Rattle.std.proofs.Common.{◌≡◌, ℕ, false, get_or, replicate, sym, subst, arith, ⊎_elim}
use Rattle.std.proofs.lemmas.Bool.{cases_lt}
use Rattle.std.proofs.lemmas.List.{get_or-replicate, get_or_past, length-replicate}
use Rattle.irl_files.proofs.lost.all_false.Goals as goal

get_or-all_false : (n i : ℕ) → get_or (replicate n false) i false ≡ false
get_or-all_false n i =
    ⊎_elim
    (λ within. get_or-replicate n i false false within)
    (λ past. get_or_past (replicate n false) i false (omega (arith, length-replicate n false)))
    (cases_lt i n)

pub returns-clause-each : goal.returns-clause-each
returns-clause-each c =
    λ i. subst (λ all. get_or all i false ≡ false) (sym (c.in_ok-all.ensures.items_if_clones_equal (λ y same. same))) (get_or-all_false c.args.count i)
