use Rattle.std.proofs.Common.{◌≡◌, ◌∙◌, ℕ, zero, suc, List, [], ◌∷◌, ◌++◌, ◌+◌, ◌<◌, ◌≤◌, length, take, drop, set, get_or, Option, refl, sym, ap, subst, arith}
use Rattle.std.proofs.lemmas.List.{set-get_or}
use Rattle.irl_http.specs.declared.link.Connection.{Connection}
use Rattle.irl_record.specs.Wired.{Wired}
use Rattle.irl_top.specs.Ports.{Port, aimed, aimed_all, port_of, ports_of}
use Rattle.irl_top.proofs.crawling.aim_all.Goals as goal

module _ {P : Type 0} (number : ℕ) (agent : List ℕ) where
  abbrev half : ℕ → List (Wired P) → List (Wired P)
  half i all = aimed_all number agent (take i all) ++ drop i all

  next : (all : List (Wired P)) (i : ℕ) (was : Wired P) → i < length all → was ≡ get_or (half i all) i was → set (half i all) i (aimed number agent was) ≡ half (suc i) all
  next [] i was lt is = absurd (omega arith)
  next (f ∷ all) zero was lt is = ap (λ (g : Wired P). aimed number agent g ∷ all) is
  next (f ∷ all) (suc i) was lt is = ap (λ (gs : List (Wired P)). aimed number agent f ∷ gs) (next all i was (omega arith) is)

  -- one more is aimed
  preserved : (copy : List ℕ) (all now : List (Wired P)) (i : ℕ) (was new : Wired P) → i < length all → now ≡ half i all → was ≡ get_or now i was → copy ≡ agent
      → new ≡ aimed number copy (get_or now i was) → set now i new ≡ half (i + 1) all
  preserved copy all now i was new lt inv item same is =
      let made : new ≡ aimed number agent was = is ∙ ap (λ (a : List ℕ). aimed number a (get_or now i was)) same ∙ ap (λ (f : Wired P). aimed number agent f) (sym item) in
      let up : suc i ≡ i + 1 = omega arith in
      subst (λ (n : ℕ). set now i new ≡ half n all) up
      (ap (λ (fs : List (Wired P)). set fs i new) inv ∙ ap (λ (f : Wired P). set (half i all) i f) made ∙ next all i was lt (item ∙ ap (λ (fs : List (Wired P)). get_or fs i was) inv))

  whole : (all : List (Wired P)) (i : ℕ) → length all ≤ i → half i all ≡ aimed_all number agent all
  whole [] zero le = refl
  whole [] (suc i) le = refl
  whole (f ∷ all) zero le = absurd (omega arith)
  whole (f ∷ all) (suc i) le = ap (λ (gs : List (Wired P)). aimed number agent f ∷ gs) (whole all i (omega arith))

  kept : (connections : P → Option (List Connection)) (faults : P → ℕ) (all : List (Wired P)) (i : ℕ) → ports_of connections faults (half i all) ≡ ports_of connections faults all
  kept connections faults [] zero = refl
  kept connections faults [] (suc i) = refl
  kept connections faults (f ∷ all) zero = refl
  kept connections faults (f ∷ all) (suc i) = ap (λ (ports : List Port). port_of connections faults f ∷ ports) (kept connections faults all i)

pub returns-in_err-copy-clause-ports : goal.returns-in_err-copy-clause-ports
returns-in_err-copy-clause-ports g c =
    let l = c.loop-fetcher in
    let told : List (Wired g.row.P.Denot) → List Port = ports_of g.P.Link.connections g.P.Link.faults in
    let inv : l.fetchers ≡ half c.args.number c.args.agent.now l.fetcher-index c.args.fetchers.now = l.invariant in
    ap told (set-get_or l.fetchers l.fetcher-index c.fetcher-item.result ∙ inv) ∙ kept c.args.number c.args.agent.now g.P.Link.connections g.P.Link.faults c.args.fetchers.now l.fetcher-index

pub loop-fetcher-preserved : goal.loop-fetcher-preserved
loop-fetcher-preserved g c =
    preserved c.args.number c.args.agent.now c.in_ok-copy.field-0 c.args.fetchers.now c.loop-fetcher.fetchers c.loop-fetcher.fetcher-index c.fetcher-item.result c.aim.new.self
    c.loop-fetcher-test.true c.loop-fetcher.invariant c.fetcher-item.is c.in_ok-copy.ensures c.aim.ensures

pub returns-clause-ports : goal.returns-clause-ports
returns-clause-ports g c =
    let l = c.loop-fetcher in
    let told : List (Wired g.row.P.Denot) → List Port = ports_of g.P.Link.connections g.P.Link.faults in
    let inv : l.fetchers ≡ half c.args.number c.args.agent.now l.fetcher-index c.args.fetchers.now = l.invariant in
    ap told inv ∙ kept c.args.number c.args.agent.now g.P.Link.connections g.P.Link.faults c.args.fetchers.now l.fetcher-index

pub returns-clause-aimed : goal.returns-clause-aimed
returns-clause-aimed g c =
    let l = c.loop-fetcher in
    let inv : l.fetchers ≡ half c.args.number c.args.agent.now l.fetcher-index c.args.fetchers.now = l.invariant in
    inv ∙ whole c.args.number c.args.agent.now c.args.fetchers.now l.fetcher-index c.loop-fetcher-test.false
