use Rattle.irl_key.specs.declared.web.Work.{Work}
use Rattle.irl_polite.specs.declared.slots.Slot.{Slot}
use Rattle.irl_polite.specs.Schedule.{host}
use Rattle.irl_polite.specs.Inside.{place_of, Grows, IsEntered}
use Rattle.irl_polite.proofs.GrowLemmas.{all_zip_weaker}
use Rattle.irl_polite.proofs.loading.prepare.Goals as goal

pub returns-clause-prepared : goal.returns-clause-prepared
returns-clause-prepared c =
    let before = place_of c.slots_of.new.names.entries in
    let names = place_of c.read_all.new.names.entries in
    let grown : Grows before c.slots_of.new.hosts.items names c.read_all.new.hosts.items = c.read_all.ensures.grown in
    record {
      entered = all_zip_weaker (IsEntered before) (IsEntered names)
          (λ (w : Work) (s : Slot) e. record { holds = e.holds; owner = record { named = grown.kept (host w) s.host e.owner.named; given = e.owner.given } })
          c.args.items.items c.in_ok-slots.slots.items c.in_ok-slots.ensures.entered;
      heard = c.in_ok-read.ensures.read;
    }
