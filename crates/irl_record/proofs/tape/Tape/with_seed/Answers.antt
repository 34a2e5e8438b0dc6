use Rattle.std.proofs.Common.{[], ◌∷◌, All, sym, subst}
use Rattle.std.specs.Option.{IfSome}
use Rattle.std.proofs.lemmas.List.Elements.{All-append, All-cons, All-nil}
use Rattle.irl_key.specs.Links.{IsCanonicalText}
use Rattle.irl_record.proofs.tape.Tape.with_seed.Goals as goal

pub invariant_of-tape : goal.invariant_of-tape
invariant_of-tape c =
    let found : IsCanonicalText c.in-Some.web = subst (λ o. IfSome o IsCanonicalText) c.in-Some.is c.in_ok-web.ensures.found in
    let canonical = All-append IsCanonicalText c.tape.inside.seeds.items (c.in-Some.web ∷ []) c.tape.invariant.0 (All-cons IsCanonicalText c.in-Some.web [] found (All-nil IsCanonicalText)) in
    (subst (All IsCanonicalText) (sym c.in_ok-push.ensures.items) canonical, c.tape.invariant.1)
