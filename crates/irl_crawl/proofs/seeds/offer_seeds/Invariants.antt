use Rattle.std.proofs.Common.{take}
use Rattle.irl_fetch.specs.Telling.{TakesPages}
use Rattle.irl_key.specs.Links.{IsCanonicalText}
use Rattle.irl_offer.specs.Offering.{IsTakenBy}
use Rattle.irl_desk.specs.Serving.{serving_of}
use Rattle.irl_crawl.proofs.Seeding.{Offered}
use Rattle.irl_crawl.proofs.seeds.offer_seeds.Given as goal

abbrev pub invariant-loop-web : goal.invariant-loop-web
invariant-loop-web g l = record {
  done : Offered g.S.Store.told (take l.web-index l.seeds) (serving_of l.fn.desk) (serving_of l.desk);
  takes : TakesPages (IsTakenBy IsCanonicalText l.desk.intake.yard.parts.urls.settings.kind);
}
