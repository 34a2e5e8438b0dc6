use Rattle.std.proofs.Common.{◌∙◌, ◌++◌, ◌∷◌, [], refl, sym, ap, subst}
use Rattle.std.specs.List.{AllZip}
use Rattle.irl_key.specs.Web.{IsHost}
use Rattle.irl_key.specs.declared.web.Work.{Work}
use Rattle.irl_polite.specs.Inside.{place_of, Grows, IsEntered, IsOwner}
use Rattle.irl_polite.specs.Schedule.{host}
use Rattle.irl_polite.proofs.GrowLemmas.{grows_on, all_zip_push, all_zip_weaker}
use Rattle.irl_polite.proofs.slots.slots_of.Goals as goal

pub loop-work-preserved : goal.loop-work-preserved
loop-work-preserved c =
    let before = c.loop-work.invariant in
    let names = place_of c.loop-work.names.entries in
    let names' = place_of c.enter.new.names.entries in
    let x : Work = c.in-Some.work in
    let grown : Grows names c.loop-work.hosts.items names' c.enter.new.hosts.items = c.enter.ensures.grown in
    let owner : IsOwner names' (host x) c.in_ok-host.host = record {
      named = ap names' (sym c.host.ensures.value) ∙ c.in_ok-host.ensures.place;
      given = subst IsHost c.host.ensures.value c.host.ensures.given;
    } in
    record {
      grown = grows_on (place_of c.args.names.now.entries) c.args.hosts.now.items names c.loop-work.hosts.items names' c.enter.new.hosts.items before.grown grown;
      entered = subst (AllZip (IsEntered names') (c.loop-work.yielded ++ x ∷ [])) (sym c.in_ok-push.ensures.items)
          (all_zip_push (IsEntered names') c.loop-work.yielded c.loop-work.slots.items x _
          (all_zip_weaker (IsEntered names) (IsEntered names')
          (λ w s e. record { holds = e.holds; owner = record { named = grown.kept (host w) s.host e.owner.named; given = e.owner.given } })
          c.loop-work.yielded c.loop-work.slots.items before.entered)
          (record { holds = refl; owner = owner }));
    }
