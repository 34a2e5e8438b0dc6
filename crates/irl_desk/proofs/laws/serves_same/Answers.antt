use Rattle.irl_desk.specs.Serving.{serving_of}
use Rattle.irl_desk.proofs.Entering.{same_serves}
use Rattle.irl_desk.proofs.laws.serves_same.Goals as goal

pub returns : goal.returns
returns g c =
    let desk = c.args.desk.now in
    same_serves g.S.Store.told (serving_of desk) (g.met.S.Store.is_consistent desk.intake.yard.store) c.is_sound-is_sound.ensures.drum desk.intake.arrays_are desk.sound
