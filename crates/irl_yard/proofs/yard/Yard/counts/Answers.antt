use Rattle.std.proofs.Common.{subst}
use Rattle.irl_yard.specs.declared.parts.Rest.{Rest}
use Rattle.irl_yard.specs.declared.parts.Rest.TheVariants.{Plain, Crawl}
use Rattle.irl_yard.specs.Holding.{HoldsOpen}
use Rattle.irl_yard.proofs.FrontStates.{crawl_counts_are, many, plain_counts_are}
use Rattle.irl_yard.proofs.yard.Yard.counts.Goals as goal

pub returns-in-Plain : goal.returns-in-Plain
returns-in-Plain g c = λ state holds.
    let images = (g.S.Store.told c.args.self.now.store).images in
    let parts = c.args.self.now.parts in
    let counts = c.plain_counts.result in
    let ensures = c.plain_counts.ensures in
    let plain : HoldsOpen images parts.urls.settings Plain state.urls state.pairs state.events =
    subst (λ (r : Rest). HoldsOpen images parts.urls.settings r state.urls state.pairs state.events) c.in-Plain.is holds.open_rest in
    plain_counts_are images parts.urls state holds.urls counts ensures.offers ensures.judged plain
    (λ queues buckets. ensures.fates queues buckets _ (many images parts.urls state holds.urls counts ensures.offers ensures.judged)) ensures.pairs

pub returns-in-Crawl : goal.returns-in-Crawl
returns-in-Crawl g c = λ state holds.
    let images = (g.S.Store.told c.args.self.now.store).images in
    let parts = c.args.self.now.parts in
    let counts = c.counts.result in
    let ensures = c.counts.ensures in
    let opened : HoldsOpen images parts.urls.settings (Crawl c.in-Crawl.ledger) state.urls state.pairs state.events =
    subst (λ (r : Rest). HoldsOpen images parts.urls.settings r state.urls state.pairs state.events) c.in-Crawl.is holds.open_rest in
    crawl_counts_are images parts.urls state holds.urls counts ensures.offers ensures.judged c.is_sound-is_sound.ensures.drum opened.0 c.in-Crawl.ledger opened.1
    (λ read. ensures.fates _ (many images parts.urls state holds.urls counts ensures.offers ensures.judged) read) ensures.pairs
