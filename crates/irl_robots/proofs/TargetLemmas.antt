-- Which rules may be passed over by their heads.
use Rattle.std.proofs.Common.{◌≡◌, ℕ, ◌+◌, ◌<◌, false, ◌&&◌, eqb, ltb, leb, List, [], ◌∷◌, length, take, get_or, Option, Some, None, refl, sym, ap, ◌∙◌, arith, eq-eqb}
use Rattle.std.specs.List.{fold}
use Rattle.std.proofs.lemmas.List.{take_more}
use Rattle.std.proofs.lemmas.List.Sums.{fold-append}
use Rattle.std.proofs.lemmas.Bool.{and_from, lt-ltb, le-leb, false_from_ne_true, false≢true}
use Rattle.std.proofs.Math.Bool.{and-false}
use Rattle.irl_robots.specs.declared.rule.PathRule.{PathRule}
use Rattle.irl_robots.specs.declared.target.Target.{Target}
use Rattle.irl_robots.specs.declared.target.Target.TheVariants.{Normal, Written}
use Rattle.irl_robots.specs.Heads.{head_of}
use Rattle.irl_robots.specs.Matching.{matches}
use Rattle.irl_robots.specs.Rule.{wins_over, best_after}
use Rattle.irl_robots.specs.Target.{normal_of, IsSummed, may_begin}
use Rattle.irl_robots.proofs.HeadsLemmas.{begins}

-- a rule whose head says that the target doesn't begin with it
pub not-begun : (target : Target) (pattern : List ℕ) → IsSummed target → may_begin target (head_of pattern) ≡ false → matches pattern (normal_of target) ≡ false
not-begun (Normal octets sums) pattern summed fails =
    false_from_ne_true _
    (λ h.
    let front = begins pattern octets.now h in
    let head = head_of pattern in
    let within : head.len < length sums.now = omega (arith, summed.0, front.short) in
    false≢true (sym fails ∙ and_from (leb head.len (length octets.now) && ltb head.len (length sums.now)) (eqb (get_or sums.now head.len 0) head.sum)
    (and_from _ _ (le-leb head.len (length octets.now) front.long) (lt-ltb head.len (length sums.now) within)) (eq-eqb _ _ (summed.1 head.len within ∙ front.same))))
not-begun (Written path) pattern summed fails = absurd (false≢true (sym fails))

pub passed_over : (path : List ℕ) (found : Option PathRule) (x : PathRule) → matches x.pattern path ≡ false → best_after path found x ≡ found
passed_over path None x unmatched = rw unmatched refl
passed_over path (Some best) x unmatched = rw (unmatched, and-false (wins_over x best)) refl

-- one rule more, whatever its head says
pub after-one : (target : Target) (rules : List PathRule) (i : ℕ) (d : PathRule) → i < length rules
    → fold (best_after (normal_of target)) None (take (i + 1) rules) ≡ best_after (normal_of target) (fold (best_after (normal_of target)) None (take i rules)) (get_or rules i d)
after-one target rules i d below =
    ap (fold (best_after (normal_of target)) None) (take_more rules i d below)
    ∙ fold-append (best_after (normal_of target)) None (take i rules) (get_or rules i d ∷ [])
