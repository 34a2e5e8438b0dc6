use Rattle.std.proofs.Common.{◌≡◌, ◌∙◌, ℕ, ◌+◌, ◌∷◌, [], ◌++◌, List, take, true, false, sym, ap, arith}
use Rattle.std.specs.Prelude.{bytes_eq}
use Rattle.std.proofs.lemmas.List.{take_more}
use Rattle.irl_offer.specs.Tuple.{Tuple}
use Rattle.irl_events.specs.Links.{degree as degree_of}
use Rattle.irl_events.proofs.LinkLemmas.{is_new, degree-yes, degree-old, degree-other}
use Rattle.irl_events.proofs.links.degree.Goals.{then-is_new+then-eq, else-is_new, else-is_new-via-then-is_new+else-eq, else-is_new-via-else-is_new}
use Rattle.irl_events.proofs.links.degree.Goals as goal

pub loop-place-preserved : goal.loop-place-preserved
loop-place-preserved c =
    let i = c.loop-place.place in
    let pairs = c.args.pairs.now in
    let domain : List ℕ = c.args.domain.now in
    let x : Tuple = c.index-pairs-place.result in
    let before : List Tuple = take i pairs in
    let next : take (i + 1) pairs ≡ before ++ x ∷ [] =
    take_more pairs i x c.loop-place-test.true ∙ ap (λ (y : Tuple). before ++ y ∷ []) (sym c.index-pairs-place.is) in
    let more : degree_of (take (i + 1) pairs) domain ≡ degree_of (before ++ x ∷ []) domain = ap (λ (ps : List Tuple). degree_of ps domain) next in
    let new : is_new before x.key ≡ c.is_new.result = sym (c.is_new.ensures ∙ ap (λ (y : Tuple). is_new before y.key) c.pair.view_is) in
    elim c.if-is_new.branch [
      | then-is_new+then-eq w ↦
          let same : bytes_eq domain x.aux ≡ true =
          ap (λ (y : Tuple). bytes_eq domain y.aux) (sym c.pair.view_is) ∙ ap (bytes_eq domain) (sym w.bytes.ensures) ∙ sym w.eq.ensures ∙ w.if-eq.true in
          let one = degree-yes before x domain (new ∙ w.if-is_new.true) same in
          record { degree = omega arith; few = omega arith }
      | else-is_new w ↦ elim w.else-is_new.branch [
        | else-is_new-via-then-is_new+else-eq w' ↦
            let other : bytes_eq domain x.aux ≡ false =
            ap (λ (y : Tuple). bytes_eq domain y.aux) (sym c.pair.view_is) ∙ ap (bytes_eq domain) (sym w'.bytes.ensures) ∙ sym w'.eq.ensures ∙ w'.if-eq.false in
            let none = degree-other before x domain (new ∙ w'.if-is_new.true) other in
            record { degree = omega arith; few = omega arith }
        | else-is_new-via-else-is_new w' ↦
            let none = degree-old before x domain (new ∙ w'.if-is_new.false) in
            record { degree = omega arith; few = omega arith }
      ]
    ]
