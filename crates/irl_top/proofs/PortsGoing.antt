-- What ports tell goes on, each in its place.
use Rattle.std.proofs.Common.{◌≡◌, ℕ, suc, List, [], ◌∷◌, ◌++◌, ◌≤◌, length, take, drop, Option, ◌∙◌, refl, sym, ap, subst, arith}
use Rattle.std.proofs.lemmas.List.{length-map, map-append, take-append-drop}
use Rattle.irl_fetch.proofs.Telling.{keeps_same}
use Rattle.irl_http.specs.declared.link.Connection.{Connection}
use Rattle.irl_record.specs.Wired.{Wired}
use Rattle.irl_top.specs.Ports.{Port, PortGoesOn, PortsGoOn, aimed, aimed_all, port_of, ports_of}
use Rattle.irl_top.proofs.Giving.{WiresGoOn, aimed_go, aimed_rest}

pub port_same : (port : Port) → PortGoesOn port port
port_same port = record { made = keeps_same port.connections; faults = omega arith }

pub ports_same : (ports : List Port) → PortsGoOn ports ports
ports_same [] = tt
ports_same (port ∷ ports) = (port_same port, ports_same ports)

module _ {P : Type 0} (connections : P → Option (List Connection)) (faults : P → ℕ) where
  -- the first are aimed, which leaves their ports, and they alone crawl
  front_goes : (number : ℕ) (agent : List ℕ) (front news rest : List (Wired P)) → length news ≡ length front → WiresGoOn connections faults (aimed_all number agent front) news
      → PortsGoOn (ports_of connections faults (front ++ rest)) (ports_of connections faults (news ++ rest))
  front_goes number agent [] [] rest count all = ports_same (ports_of connections faults rest)
  front_goes number agent [] (new ∷ news) rest count all = absurd (omega (arith, count))
  front_goes number agent (old ∷ front) [] rest count all = absurd (omega (arith, count))
  front_goes number agent (old ∷ front) (new ∷ news) rest count all =
      let goes = all.each 0 (record old { number = number; agent = agent }) new refl refl in (
        record { made = goes.asked; faults = goes.faults },
        front_goes number agent front news rest (omega (arith, count))
            (record { count = omega (arith, all.count); each = λ at f g was is. all.each (suc at) f g was is }),
      )

  -- so many of some ports are aimed, and then so many crawl
  pub ports_aimed : (number : ℕ) (agent : List ℕ) (n : ℕ) (ports front news : List (Wired P)) → n ≤ length ports → front ≡ aimed_all number agent (take n ports)
      → WiresGoOn connections faults (take n (front ++ drop n ports)) news
      → PortsGoOn (ports_of connections faults ports) (ports_of connections faults (news ++ drop n (front ++ drop n ports)))
  ports_aimed number agent n ports front news few is all =
      let goes = aimed_go connections faults number agent n ports front news few is all in
      let count : length news ≡ length (take n ports) = goes.count ∙ length-map (take n ports) (aimed number agent) in
      subst (λ (l : List (Wired P)). PortsGoOn (ports_of connections faults ports) (ports_of connections faults (news ++ l)))
      (sym (aimed_rest connections faults number agent n ports front few is))
      (subst (λ (l : List (Wired P)). PortsGoOn (ports_of connections faults l) (ports_of connections faults (news ++ drop n ports))) (take-append-drop n ports)
      (front_goes number agent (take n ports) news (drop n ports) count goes))

  -- so many are aimed, and none is called
  pub ports_uncalled : (n : ℕ) (ports front : List (Wired P)) → ports_of connections faults front ≡ ports_of connections faults (take n ports)
      → PortsGoOn (ports_of connections faults ports) (ports_of connections faults (front ++ drop n ports))
  ports_uncalled n ports front is =
      subst (PortsGoOn (ports_of connections faults ports))
      (ap (λ (l : List (Wired P)). ports_of connections faults l) (sym (take-append-drop n ports)) ∙ map-append (port_of connections faults) (take n ports) (drop n ports)
      ∙ ap (λ (l : List Port). l ++ ports_of connections faults (drop n ports)) (sym is)
      ∙ sym (map-append (port_of connections faults) front (drop n ports)))
      (ports_same (ports_of connections faults ports))
