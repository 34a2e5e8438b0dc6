use Rattle.std.proofs.Common.{◌∙◌, Err, ap, refl, subst, sym, IsErrOf}
use Rattle.irl_base.specs.declared.fault.Fault.TheVariants.{Memory, Failed}
use Rattle.irl_bay.specs.Drum.{IsDrum}
use Rattle.irl_yard.specs.declared.parts.Parts.{Parts}
use Rattle.irl_yard.specs.declared.yard.Yard.{Yard}
use Rattle.irl_yard.specs.Passing.{suffixes_in}
use Rattle.irl_yard.specs.Sending.{HasBegun}
use Rattle.irl_desk.specs.Serving.{serving_of}
use Rattle.irl_schedule.proofs.Outcomes.{ok_gives}
use Rattle.irl_crawl.proofs.Seeding.{close_reason, close_refused, judged_then, keeps_behind, offer_reason, offer_refused, open_then, rest_after, seeds_back, seeds_from, seeds_none}
use Rattle.irl_crawl.proofs.RecordsJudged.{back_batch, batch_from, desk_within, failed_on, ok_or_failed, seed_batch}
use Rattle.irl_crawl.proofs.RecordsOfDesks.{desk_batch, desk_on}
use Rattle.irl_crawl.proofs.RecordsThen.{batches_more}
use Rattle.irl_crawl.specs.Batches.{just}
use Rattle.irl_crawl.proofs.Refusing.{refused_memory}
use Rattle.irl_crawl.proofs.seeds.seed.Goals as goal

pub returns-in-Err-clause-leads : goal.returns-in-Err-clause-leads
returns-in-Err-clause-leads g c = λ suffixes is.
    let tells = g.S.Store.told in
    let was = c.args.yard in
    let back = sym c.in-Err.ensures.back in
    seeds_back tells suffixes c.args.seeds.now (Err Memory) was.store c.in-Err.yard.store was.parts c.in-Err.yard.parts (ap (λ (y : Yard g.row.S.Denot g.S.Store). y.store) back)
    (ap (λ (y : Yard g.row.S.Denot g.S.Store). y.parts) back)
    (seeds_none suffixes c.args.seeds.now was.parts (tells was.store) (g.met.S.Store.is_consistent was.store) c.is_sound-is_sound.ensures.drum c.requires.open.sound)

pub returns-in-Err-closed-clause-leads : goal.returns-in-Err-closed-clause-leads
returns-in-Err-closed-clause-leads g c = λ suffixes is.
    let tells = g.S.Store.told in
    let was = c.args.yard in
    let yard = c.in-Ok.desk.intake.yard in
    let after = c.close-closed.result.1 in
    let parts = c.in-Ok.ensures.yard.1 in
    seeds_from tells suffixes c.args.seeds.now (Err c.in-Err-closed.fault) yard.store was.store yard.parts was.parts after.parts (tells after.store) c.in-Ok.ensures.yard.0 parts
    (close_refused tells g.met.S.Store.is_consistent c.args.seeds.now (serving_of c.in-Ok.desk) (serving_of c.offer_seeds-offered.new.desk) c.offer_seeds-offered.result c.close-closed.result.0
    after.store
    after.parts yard.rest_is (subst (λ (p : Parts). IsDrum p.urls) (sym parts) c.is_sound-is_sound.ensures.drum) (subst (λ (p : Parts). HasBegun p.rest) (sym parts) c.requires.open.begun)
    c.in-Ok.ensures.fresh c.offer_seeds-offered.ensures c.close-closed.ensures suffixes (Err c.in-Err-closed.fault) c.in-Err-closed.fault c.in-Err-closed.is refl)

pub returns-in-Err-offered-clause-leads : goal.returns-in-Err-offered-clause-leads
returns-in-Err-offered-clause-leads g c = λ suffixes is.
    let tells = g.S.Store.told in
    let was = c.args.yard in
    let yard = c.in-Ok.desk.intake.yard in
    let after = c.close-closed.result.1 in
    let parts = c.in-Ok.ensures.yard.1 in
    seeds_from tells suffixes c.args.seeds.now (Err c.in-Err-offered.fault) yard.store was.store yard.parts was.parts after.parts (tells after.store) c.in-Ok.ensures.yard.0 parts
    (offer_refused tells g.met.S.Store.is_consistent c.args.seeds.now (serving_of c.in-Ok.desk) (serving_of c.offer_seeds-offered.new.desk) c.offer_seeds-offered.result c.close-closed.result.0
    after.store
    after.parts yard.rest_is (subst (λ (p : Parts). IsDrum p.urls) (sym parts) c.is_sound-is_sound.ensures.drum) (subst (λ (p : Parts). HasBegun p.rest) (sym parts) c.requires.open.begun)
    c.in-Ok.ensures.fresh c.offer_seeds-offered.ensures c.close-closed.ensures suffixes (Err c.in-Err-offered.fault) c.in-Err-offered.fault
    c.in_default.field-0 c.in_default.is c.in-Err-offered.is refl)

pub returns-clause-leads : goal.returns-clause-leads
returns-clause-leads g c = λ suffixes is.
    let tells = g.S.Store.told in
    let was = c.args.yard in
    let yard = c.in-Ok.desk.intake.yard in
    let after = c.close-closed.result.1 in
    let last = c.judge-judged.new.yard in
    let parts = c.in-Ok.ensures.yard.1 in
    let rest = rest_after tells g.met.S.Store.is_consistent c.args.seeds.now (serving_of c.in-Ok.desk) (serving_of c.offer_seeds-offered.new.desk) c.offer_seeds-offered.result
    c.close-closed.result.0 after.store after.parts yard.rest_is (subst (λ (p : Parts). IsDrum p.urls) (sym parts) c.is_sound-is_sound.ensures.drum)
    (subst (λ (p : Parts). HasBegun p.rest) (sym parts) c.requires.open.begun) c.in-Ok.ensures.fresh c.offer_seeds-offered.ensures c.close-closed.ensures in
    let all = ok_gives c.offer_seeds-offered.result c.in_default-offered.field-0 c.offer_seeds-offered.ensures.all c.in_default-offered.is in
    seeds_from tells suffixes c.args.seeds.now c.judge-judged.result yard.store was.store yard.parts was.parts last.parts (tells last.store) c.in-Ok.ensures.yard.0 parts
    (judged_then tells g.met.S.Store.is_consistent c.args.seeds.now (serving_of c.in-Ok.desk) (serving_of c.offer_seeds-offered.new.desk) c.offer_seeds-offered.result c.close-closed.result.0
    after.store
    after.parts yard.rest_is (subst (λ (p : Parts). IsDrum p.urls) (sym parts) c.is_sound-is_sound.ensures.drum) (subst (λ (p : Parts). HasBegun p.rest) (sym parts) c.requires.open.begun)
    c.in-Ok.ensures.fresh c.offer_seeds-offered.ensures c.close-closed.ensures c.in_default.field-0 c.in_default.is all suffixes c.judge-judged.result last.parts (tells last.store)
    (c.judge-judged.ensures.leads suffixes (ap suffixes_in (rest ∙ ap (λ (p : Parts). p.rest) parts) ∙ is)))

pub judge-judged-requires : goal.judge-judged-requires
judge-judged-requires g c =
    let was = c.args.yard in
    let yard = c.in-Ok.desk.intake.yard in
    let after = c.close-closed.result.1 in
    let parts = c.in-Ok.ensures.yard.1 in
    let all = ok_gives c.offer_seeds-offered.result c.in_default-offered.field-0 c.offer_seeds-offered.ensures.all c.in_default-offered.is in
    record {
      «open» = open_then g.S.Store.told g.met.S.Store.is_consistent c.args.seeds.now (serving_of c.in-Ok.desk) (serving_of c.offer_seeds-offered.new.desk) c.offer_seeds-offered.result
          c.close-closed.result.0 after.store after.parts yard.rest_is (subst (λ (p : Parts). IsDrum p.urls) (sym parts) c.is_sound-is_sound.ensures.drum)
          (subst (λ (p : Parts). HasBegun p.rest) (sym parts) c.requires.open.begun) c.in-Ok.ensures.fresh c.offer_seeds-offered.ensures c.close-closed.ensures
          c.in_default.field-0 c.in_default.is all;
    }

pub returns-clause-keeps : goal.returns-clause-keeps
returns-clause-keeps g c =
    let was = c.args.yard in
    let yard = c.in-Ok.desk.intake.yard in
    let after = c.close-closed.result.1 in
    let parts = c.in-Ok.ensures.yard.1 in
    let rest = rest_after g.S.Store.told g.met.S.Store.is_consistent c.args.seeds.now (serving_of c.in-Ok.desk) (serving_of c.offer_seeds-offered.new.desk) c.offer_seeds-offered.result
    c.close-closed.result.0 after.store after.parts yard.rest_is (subst (λ (p : Parts). IsDrum p.urls) (sym parts) c.is_sound-is_sound.ensures.drum)
    (subst (λ (p : Parts). HasBegun p.rest) (sym parts) c.requires.open.begun) c.in-Ok.ensures.fresh c.offer_seeds-offered.ensures c.close-closed.ensures in
    keeps_behind c.judge-judged.result was.parts after.parts c.judge-judged.new.yard.parts (rest ∙ ap (λ (p : Parts). p.rest) parts) c.judge-judged.ensures.keeps

pub returns-in-Err-clause-batches : goal.returns-in-Err-clause-batches
returns-in-Err-clause-batches g c =
    let tells = g.S.Store.told in
    let was = c.args.yard in
    let back = sym c.in-Err.ensures.back in
    back_batch tells _ 1 1 was.store c.in-Err.yard.store was.parts c.in-Err.yard.parts (ap (λ (y : Yard g.row.S.Denot g.S.Store). y.store) back)
    (ap (λ (y : Yard g.row.S.Denot g.S.Store). y.parts) back) was.rest_is c.is_sound-is_sound.ensures.drum (g.met.S.Store.is_consistent was.store) c.requires.open.begun

pub returns-in-Err-closed-clause-batches : goal.returns-in-Err-closed-clause-batches
returns-in-Err-closed-clause-batches g c =
    let tells = g.S.Store.told in
    let was = c.args.yard in
    let yard = c.in-Ok.desk.intake.yard in
    let after = c.close-closed.result.1 in
    let closed = c.close-closed.result.0 in
    let parts = c.in-Ok.ensures.yard.1 in
    let offers = c.offer_seeds-offered.ensures in
    batch_from tells _ (just 1 1) (just 1 1) yard.store was.store yard.parts was.parts after.parts (tells after.store) c.in-Ok.ensures.yard.0 parts
    (batches_more (IsErrOf closed Failed) _ (just 1 0) (just 1 0) (just 1 1) (just 1 1) yard.parts after.parts (tells yard.store) (tells after.store)
    (failed_on {B = Unit} closed (Err c.in-Err-closed.fault) c.in-Err-closed.fault c.in-Err-closed.is refl) desk_within desk_within
    (desk_batch tells g.met.S.Store.is_consistent offers.entries (serving_of c.in-Ok.desk) (serving_of c.offer_seeds-offered.new.desk) closed after.store after.parts yard.rest_is
    (subst (λ (p : Parts). IsDrum p.urls) (sym parts) c.is_sound-is_sound.ensures.drum) (subst (λ (p : Parts). HasBegun p.rest) (sym parts) c.requires.open.begun) c.in-Ok.ensures.fresh
    offers.serves c.close-closed.ensures))

pub returns-in-Err-offered-clause-batches : goal.returns-in-Err-offered-clause-batches
returns-in-Err-offered-clause-batches g c =
    let tells = g.S.Store.told in
    let was = c.args.yard in
    let yard = c.in-Ok.desk.intake.yard in
    let after = c.close-closed.result.1 in
    let closed = c.close-closed.result.0 in
    let parts = c.in-Ok.ensures.yard.1 in
    let offers = c.offer_seeds-offered.ensures in
    batch_from tells _ (just 1 1) (just 1 1) yard.store was.store yard.parts was.parts after.parts (tells after.store) c.in-Ok.ensures.yard.0 parts
    (batches_more (IsErrOf closed Failed) _ (just 1 0) (just 1 0) (just 1 1) (just 1 1) yard.parts after.parts (tells yard.store) (tells after.store)
    (λ failed. absurd (ok_or_failed closed c.in_default.field-0 c.in_default.is failed)) desk_within desk_within
    (desk_batch tells g.met.S.Store.is_consistent offers.entries (serving_of c.in-Ok.desk) (serving_of c.offer_seeds-offered.new.desk) closed after.store after.parts yard.rest_is
    (subst (λ (p : Parts). IsDrum p.urls) (sym parts) c.is_sound-is_sound.ensures.drum) (subst (λ (p : Parts). HasBegun p.rest) (sym parts) c.requires.open.begun) c.in-Ok.ensures.fresh
    offers.serves c.close-closed.ensures))

pub returns-clause-batches : goal.returns-clause-batches
returns-clause-batches g c =
    let tells = g.S.Store.told in
    let law = g.met.S.Store.is_consistent in
    let was = c.args.yard in
    let yard = c.in-Ok.desk.intake.yard in
    let after = c.close-closed.result.1 in
    let closed = c.close-closed.result.0 in
    let last = c.judge-judged.new.yard in
    let parts = c.in-Ok.ensures.yard.1 in
    let offers = c.offer_seeds-offered.ensures in
    let desk = serving_of c.in-Ok.desk in
    let mid = serving_of c.offer_seeds-offered.new.desk in
    let drum = subst (λ (p : Parts). IsDrum p.urls) (sym parts) c.is_sound-is_sound.ensures.drum in
    let begun = subst (λ (p : Parts). HasBegun p.rest) (sym parts) c.requires.open.begun in
    batch_from tells (IsErrOf c.judge-judged.result Failed) (just 1 1) (just 1 1) yard.store was.store yard.parts was.parts last.parts (tells last.store) c.in-Ok.ensures.yard.0 parts
    (seed_batch closed c.judge-judged.result c.in_default.field-0 yard.parts after.parts last.parts (tells yard.store) (tells after.store) (tells last.store) c.in_default.is
    (desk_on tells law offers.entries desk mid closed after.store after.parts yard.rest_is drum begun c.in-Ok.ensures.fresh offers.serves c.close-closed.ensures)
    (desk_batch tells law offers.entries desk mid closed after.store after.parts yard.rest_is drum begun c.in-Ok.ensures.fresh offers.serves c.close-closed.ensures)
    c.judge-judged.ensures.batches)

pub returns-in-Err-clause-refused : goal.returns-in-Err-clause-refused
returns-in-Err-clause-refused g c = refused_memory c.in-Err.yard.parts (g.S.Store.told c.in-Err.yard.store)

pub returns-in-Err-closed-clause-refused : goal.returns-in-Err-closed-clause-refused
returns-in-Err-closed-clause-refused g c =
    let yard = c.in-Ok.desk.intake.yard in
    let after = c.close-closed.result.1 in
    let parts = c.in-Ok.ensures.yard.1 in
    close_reason g.S.Store.told g.met.S.Store.is_consistent c.args.seeds.now (serving_of c.in-Ok.desk) (serving_of c.offer_seeds-offered.new.desk) c.offer_seeds-offered.result
    c.close-closed.result.0 after.store after.parts yard.rest_is (subst (λ (p : Parts). IsDrum p.urls) (sym parts) c.is_sound-is_sound.ensures.drum)
    (subst (λ (p : Parts). HasBegun p.rest) (sym parts) c.requires.open.begun) c.in-Ok.ensures.fresh c.offer_seeds-offered.ensures c.close-closed.ensures (Err c.in-Err-closed.fault)
    c.in-Err-closed.fault c.in-Err-closed.is refl

pub returns-in-Err-offered-clause-refused : goal.returns-in-Err-offered-clause-refused
returns-in-Err-offered-clause-refused g c =
    let yard = c.in-Ok.desk.intake.yard in
    let after = c.close-closed.result.1 in
    let parts = c.in-Ok.ensures.yard.1 in
    offer_reason g.S.Store.told g.met.S.Store.is_consistent c.args.seeds.now (serving_of c.in-Ok.desk) (serving_of c.offer_seeds-offered.new.desk) c.offer_seeds-offered.result
    c.close-closed.result.0 after.store after.parts yard.rest_is (subst (λ (p : Parts). IsDrum p.urls) (sym parts) c.is_sound-is_sound.ensures.drum)
    (subst (λ (p : Parts). HasBegun p.rest) (sym parts) c.requires.open.begun) c.in-Ok.ensures.fresh c.offer_seeds-offered.ensures c.close-closed.ensures (Err c.in-Err-offered.fault)
    c.in-Err-offered.fault c.in_default.field-0 c.in_default.is c.in-Err-offered.is refl

pub returns-clause-refused : goal.returns-clause-refused
returns-clause-refused g c = c.judge-judged.ensures.refused
