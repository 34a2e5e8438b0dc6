use Rattle.std.proofs.Common.{◌∙◌, ℕ, List, ◌∷◌, sym, ap, subst}
use Rattle.irl_offer.specs.declared.settings.Settings.{Settings}
use Rattle.irl_schedule.specs.Feeding.{IsArrayOf}
use Rattle.irl_lock.specs.Plays.{M}
use Rattle.irl_lock.specs.declared.held.Bin.{Bin}
use Rattle.irl_lock.specs.declared.held.Held.{Held}
use Rattle.irl_lock.specs.declared.held.Held.TheVariants.{InYard}
use Rattle.irl_lock.specs.declared.held.Stand.{Stand}
use Rattle.irl_lock.proofs.Offering.{last_told}
use Rattle.irl_lock.proofs.pass.Pass.make_room.Goals as goal

pub note-bin-requires-clause-refilled : goal.note-bin-requires-clause-refilled
note-bin-requires-clause-refilled g c =
    let stand = c.in-InYard.stand in
    let turns = ap (λ (m : M g.S.Store). m.0.turns) c.in-InYard.ensures.holds
    ∙ ap (λ (l : List (ℕ × Held g.row.S.Denot g.S.Store)). (c.args.shared.now.buckets, InYard stand) ∷ l) c.requires.holds.0 in
    (c.refill-made.result, c.args.bin, stand, c.refill-made.ensures, turns)

pub returns-clause-last : goal.returns-clause-last
returns-clause-last g c =
    let stand = c.in-InYard.stand in
    let room = c.refill-made.ensures in
    last_told c.args.self.now.last stand.last c.refill-made.new.stand.last c.refill-made.result c.in-InYard.ensures.behind.3
    (λ fault is. c.in-InYard.ensures.fits.1 fault (sym c.requires.last ∙ is)) room.last
    (λ fault is. let again = room.again fault is in (again.0, ap (λ (s : Stand g.row.S.Denot g.S.Store). s.last) again.1))

pub returns-clause-array : goal.returns-clause-array
returns-clause-array g c =
    let settings : Settings = c.args.shared.now.table.shared.key.value.parts.urls.settings in
    let array : IsArrayOf settings c.args.b c.refill-made.new.bin.array =
    subst (λ (s : Settings). IsArrayOf s c.args.b c.refill-made.new.bin.array) c.in-InYard.ensures.behind.1 c.refill-made.ensures.array in
    subst (λ (bin : Bin). IsArrayOf settings c.args.b bin.array) (sym c.note-bin.ensures.same) array
