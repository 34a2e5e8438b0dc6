use Rattle.std.proofs.Common.{sym, subst, refl}
use Rattle.irl_model.specs.Book.{Book}
use Rattle.irl_disk.proofs.Stretches.{left_now}
use Rattle.irl_bay.specs.Drum.{Drum}
use Rattle.irl_bay.specs.Holding.{Holds}
use Rattle.irl_bay.proofs.MergeFrames.{holds_fewer}
use Rattle.irl_schedule.specs.Feeding.{moment, Moment}
use Rattle.irl_schedule.proofs.Chains.{fed_read, stays_read}
use Rattle.irl_schedule.specs.Arrays.{waiting_at}
use Rattle.irl_intake.proofs.intake.Intake.judged_from.Goals as goal

pub returns-clause-still : goal.returns-clause-still
returns-clause-still g c =
    let tells = g.S.Store.told in
    let was = c.args.self.now in
    let new = c.judged_from.new.self in
    let law = c.is_sound-is_sound.ensures.drum in
    let lawful = g.met.S.Store.is_consistent new.store in
    let same = c.judged_from.ensures.states.same in
    let stops = c.judged_from.ensures.reads.reads.stops in
    let from : Moment = moment (tells was.yard.store) was.yard.parts.urls (waiting_at was.arrays.items) in
    let to : Moment = moment (tells new.store) new.parts.urls (waiting_at was.arrays.items) in
    let holds : (book : Book) → Holds from.store.images from.drum book → Holds to.store.images to.drum book = λ book held.
    subst (λ (d : Drum). Holds to.store.images d book) (sym same)
    (holds_fewer from.store.images to.store.images from.drum book law (left_now from.store to.store from.store.images lawful stops) held) in
    record {
      kept = same;
      holds = holds;
      fed = λ files told x held. fed_read from to x lawful law stops same refl held (holds x held);
      stays = stays_read from to same c.judged_from.ensures.reads.reads.same stops;
    }
