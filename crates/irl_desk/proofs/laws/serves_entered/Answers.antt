use Rattle.irl_desk.specs.Serving.{serving_of}
use Rattle.irl_desk.proofs.Following.{serves_all}
use Rattle.irl_desk.proofs.laws.serves_entered.Goals as goal

pub returns : goal.returns
returns g c = λ news new. serves_all g.S.Store.told g.met.S.Store.is_consistent (serving_of c.args.desk.now) new c.serves_same.ensures news
