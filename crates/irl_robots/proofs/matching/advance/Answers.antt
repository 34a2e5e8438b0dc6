use Rattle.std.proofs.Common.{◌≡◌, ◌≢◌, ◌⊎◌, ◌≤◌, ◌∷◌, ◌-◌, take, drop, length, get_or, ap, ◌∙◌, arith}
use Rattle.irl_robots.specs.Matching.{matches, is_empty}
use Rattle.irl_robots.specs.Octets.{octets_left}
use Rattle.irl_robots.proofs.MatchingLemmas.{matches-at_empty, matches-at_end, matches-at_octet, one_then-met, one_then-unmet, one_then-past, first-and-rest}
use Rattle.irl_robots.proofs.matching.advance.Goals as goal
use Rattle.irl_robots.proofs.matching.advance.Goals.{in_default-via-in-Some-octet+else-octet-first, in_default-via-in_default}

pub returns-in-empty : goal.returns-in-empty
returns-in-empty c = matches-at_empty c.args.place.pattern.now _ c.in-empty.len_below

pub returns-in-None : goal.returns-in-None
returns-in-None c =
    let is : get_or c.args.place.pattern.now 0 0 ≡ 36 = grind arith in
    matches-at_end c.args.place.pattern.now (octets_left c.args.place.path) c.in-36.len_at_least c.in-36.len_below is
    ∙ ap is_empty c.in-None.ensures.steps.0

pub returns-in-Some : goal.returns-in-Some
returns-in-Some c =
    let is : get_or c.args.place.pattern.now 0 0 ≡ 36 = grind arith in
    matches-at_end c.args.place.pattern.now (octets_left c.args.place.path) c.in-36.len_at_least c.in-36.len_below is
    ∙ ap is_empty c.in-Some.ensures.steps

pub returns-in-Some-octet : goal.returns-in-Some-octet
returns-in-Some-octet c =
    let p = c.args.place.pattern.now in
    let t = octets_left c.args.place.path in
    let long : 1 ≤ length p = grind arith in
    let star : get_or p 0 0 ≢ 42 = grind arith in
    let last : (get_or p 0 0 ≢ 36) ⊎ (2 ≤ length p) = grind arith in
    let rest = octets_left c.next-octet.new.self in
    let met : t ≡ c.in-Some-octet.octet ∷ rest = c.in-Some-octet.ensures.steps in (
      get_or p 0 0,
      record {
        literal = star;
        pattern = first-and-rest p long;
        path = met ∙ ap (λ o. o ∷ rest) c.if-octet-first.true;
        same = matches-at_octet p t long star last ∙ one_then-met (get_or p 0 0) _ (matches (take (length p - 1) (drop 1 p))) t rest met c.if-octet-first.true;
      },
    )

pub returns-in_default : goal.returns-in_default
returns-in_default c =
    let p = c.args.place.pattern.now in
    let t = octets_left c.args.place.path in
    let long : 1 ≤ length p = grind arith in
    let star : get_or p 0 0 ≢ 42 = grind arith in
    let last : (get_or p 0 0 ≢ 36) ⊎ (2 ≤ length p) = grind arith in
    matches-at_octet p t long star last ∙ (elim c.in_default.branch [
      | in_default-via-in-Some-octet+else-octet-first w ↦ one_then-unmet (get_or p 0 0) _ (matches (take (length p - 1) (drop 1 p))) t _ w.in-Some-octet.ensures.steps w.if-octet-first.false
      | in_default-via-in_default w ↦ one_then-past (get_or p 0 0) (matches (take (length p - 1) (drop 1 p))) t w.in_default.ensures.steps.0
    ])
