use Rattle.std.proofs.Common.{◌≡◌, ◌∙◌, ◌^◌, ◌<◌, ◌≤◌, ℕ, IfOk, Ok, Err, Result, length, min, sym, ap, subst, IsErrOf, refl}
use Rattle.std.specs.List.{All, AllByRecursion}
use Rattle.std.proofs.lemmas.List.{length-map}
use Rattle.std.proofs.lemmas.List.Elements.{recursion_from_All}
use Rattle.irl_base.specs.declared.fault.Fault.{Fault}
use Rattle.irl_fetch.specs.declared.working.WorkLog.{WorkLog}
use Rattle.irl_log.specs.Form.{IsNote}
use Rattle.irl_offer.specs.declared.note.Note.{Note}
use Rattle.irl_polite.specs.Inside.{schedule}
use Rattle.irl_yard.specs.Passing.{front_in, suffixes_in}
use Rattle.irl_yard.specs.Settling.{MaySettle}
use Rattle.irl_crawl.specs.Fetching.{Fetches}
use Rattle.irl_crawl.specs.Serving.{KeepsNumbers}
use Rattle.irl_crawl.specs.Workers.{AreIdle, given_by, schedules}
use Rattle.irl_crawl.proofs.Going.{all_go_then}
use Rattle.irl_crawl.proofs.Leading.{always}
use Rattle.irl_crawl.proofs.OneTurn.{all_settled, count_within, fetches_for, idle_after, if_count, not_fetched, not_loaded, notes_fit, settle_may, settled_after, settles_for}
use Rattle.irl_crawl.proofs.Rising.{given_same, rose_between_all, rose_between_fewer, widens_second}
use Rattle.irl_crawl.proofs.Stores.{held_is_crawl}
use Rattle.irl_crawl.proofs.Visits.{notes_from}
use Rattle.irl_base.specs.declared.fault.Fault.TheVariants.{Failed}
use Rattle.irl_crawl.proofs.RecordsJudged.{failed_on, just_besides, none_besides, none_within, ok_or_failed}
use Rattle.irl_crawl.proofs.RecordsThen.{batches_more, leads_on}
use Rattle.irl_crawl.proofs.RecordsTurned.{besides_rising, just_rising, loaded_batch, turn_batch, unless_rising}
use Rattle.irl_crawl.specs.Batches.{a_desk_unless, besides, just}
use Rattle.irl_crawl.proofs.Refusing.{refused_on}
use Rattle.irl_crawl.proofs.turn.turn.Given.{Over}
use Rattle.irl_record.specs.Widening.{Widens}
use Rattle.irl_crawl.proofs.turn.turn.Goals as goal

-- what a fetcher that may be sent keeps in every thread, it keeps in this one
abbrev earlier : (g : Over) (x : g.row.F.Denot) (since later : ℕ) → since ≤ later → Widens (g.F.Fetch.gives x later) (g.F.Fetch.gives x since)
earlier g = (g.met.F.Fetch g.world.𝓛 g.world.𝓜 g.world.𝓡 ((λ s x. x), (λ x. x), (λ x. x), λ x. x)).earlier

pub returns-in-Err-clause-leads : goal.returns-in-Err-clause-leads
returns-in-Err-clause-leads g c =
    let tells = g.S.Store.told in
    let was = c.args.yard in
    let crew = c.args.crew.now in
    let given = given_by g.F.Fetch.asked g.F.Fetch.gives g.F.Fetch.faults c.args.fetchers.now c.load.new.fetchers in
    not_loaded crew.agent crew.suffixes c.args.most (schedules crew.fronts.items) (schedules c.load.new.self.fronts.items) (schedules c.load.new.self.fronts.items) given given
    (given_same given) (rose_between_fewer g.F.Fetch.faults c.args.fetchers.now c.load.new.fetchers) was.parts c.load.new.yard.parts (tells was.store) (tells c.load.new.yard.store)
    (rose_between_all g.F.Fetch.asked g.F.Fetch.gives g.F.Fetch.faults g.F.Fetch.last g.F.Fetch.aim c.args.fetchers.now c.load.new.fetchers c.load.ensures.fetchers)
    (λ x held. held_is_crawl (tells was.store).images was.parts x c.is_sound-is_sound.ensures.drum c.requires.«open».begun held) c.requires.suffixes c.in-Err.fault c.in-Err.ensures.leads

pub settle-settled-requires-clause-notes : goal.settle-settled-requires-clause-notes
settle-settled-requires-clause-notes g c =
    let given = given_by g.F.Fetch.asked g.F.Fetch.gives g.F.Fetch.faults c.load.new.fetchers c.fetch_all-worked.new.fetchers in
    let crew = c.load.new.self in
    let mid = c.load.new.yard in
    let now = c.fetch_all-worked.result.1 in
    let befores = schedules crew.fronts.items in
    let afters = schedules c.fetch_all-worked.new.crew.fronts.items in
    let fetches = subst (λ (r : Result WorkLog Fault). Fetches r given crew.agent crew.suffixes befores afters mid.parts now.parts (g.S.Store.told mid.store) (g.S.Store.told now.store)) c.in-Ok.is
    c.fetch_all-worked.ensures.fetches in
    subst (AllByRecursion IsNote) (sym (c.deref-in-Ok.ensures.value ∙ fetches.whole.notes))
    (notes_fit given.gives fetches.noted fetches.worked.notes
    (recursion_from_All (λ (note : Note). note.when < 2 ^ 64) (notes_from fetches.noted)
    (subst (All (λ (note : Note). note.when < 2 ^ 64)) (c.deref.ensures.value ∙ fetches.whole.notes) c.moments_are_words.ensures)))

pub settle-settled-requires-clause-settles : goal.settle-settled-requires-clause-settles
settle-settled-requires-clause-settles g c =
    let given = given_by g.F.Fetch.asked g.F.Fetch.gives g.F.Fetch.faults c.load.new.fetchers c.fetch_all-worked.new.fetchers in
    let crew = c.load.new.self in
    let mid = c.load.new.yard in
    let now = c.fetch_all-worked.result.1 in
    let befores = schedules crew.fronts.items in
    let afters = schedules c.fetch_all-worked.new.crew.fronts.items in
    let fetches = subst (λ (r : Result WorkLog Fault). Fetches r given crew.agent crew.suffixes befores afters mid.parts now.parts (g.S.Store.told mid.store) (g.S.Store.told now.store)) c.in-Ok.is
    c.fetch_all-worked.ensures.fetches in
    subst (λ (ds : _). MaySettle now.parts.urls now.parts.rest ds) (sym c.deref-in-Ok-2.ensures.value)
    (settle_may c.args.most given crew.agent crew.suffixes befores afters c.args.yard.parts mid.parts now.parts (g.S.Store.told mid.store) (g.S.Store.told now.store) c.in-Ok.log fetches
    c.in_default.ensures.next
    c.load.ensures.rest c.requires.front)

pub returns-in-Ok-clause-leads : goal.returns-in-Ok-clause-leads
returns-in-Ok-clause-leads g c =
    let tells = g.S.Store.told in
    let was = c.args.yard in
    let old = c.args.crew.now in
    let crew = c.load.new.self in
    let mid = c.load.new.yard in
    let now = c.fetch_all-worked.result.1 in
    let last = c.settle-settled.new.yard in
    let log = c.in-Ok.log in
    let given = given_by g.F.Fetch.asked g.F.Fetch.gives g.F.Fetch.faults c.load.new.fetchers c.fetch_all-worked.new.fetchers in
    let wide = given_by g.F.Fetch.asked g.F.Fetch.gives g.F.Fetch.faults c.args.fetchers.now c.fetch_all-worked.new.fetchers in
    let befores = schedules crew.fronts.items in
    let afters = schedules c.fetch_all-worked.new.crew.fronts.items in
    let fetches = fetches_for (Ok log) given crew.agent old.agent crew.suffixes old.suffixes befores afters mid.parts now.parts (tells mid.store) (tells now.store) c.load.ensures.agent
    c.load.ensures.suffixes
    (subst (λ (r : Result WorkLog Fault). Fetches r given crew.agent crew.suffixes befores afters mid.parts now.parts (tells mid.store) (tells now.store)) c.in-Ok.is
    c.fetch_all-worked.ensures.fetches) in
    settled_after old.agent old.suffixes c.args.most (schedules old.fronts.items) befores afters given wide
    (widens_second g.F.Fetch.asked g.F.Fetch.gives g.F.Fetch.faults g.F.Fetch.last g.F.Fetch.aim c.args.fetchers.now c.load.new.fetchers c.fetch_all-worked.new.fetchers c.load.ensures.fetchers
    c.fetch_all-worked.ensures.fetchers (earlier g) c.load.ensures.made)
    (rose_between_fewer g.F.Fetch.faults c.load.new.fetchers c.fetch_all-worked.new.fetchers) was.parts mid.parts (tells was.store) (tells mid.store)
    (rose_between_all g.F.Fetch.asked g.F.Fetch.gives g.F.Fetch.faults g.F.Fetch.last g.F.Fetch.aim c.args.fetchers.now c.fetch_all-worked.new.fetchers
    (all_go_then g.F.Fetch.asked g.F.Fetch.gives g.F.Fetch.faults g.F.Fetch.last g.F.Fetch.aim c.args.fetchers.now c.load.new.fetchers c.fetch_all-worked.new.fetchers c.load.ensures.fetchers
    c.fetch_all-worked.ensures.fetchers))
    (λ x held. held_is_crawl (tells was.store).images was.parts x c.is_sound-is_sound.ensures.drum c.requires.«open».begun held) c.requires.suffixes c.in_default.field-0 c.in_default.ensures.leads
    c.in_default.ensures.next now.parts (tells now.store) log fetches c.requires.front c.settle-settled.result last.parts (tells last.store)
    (settles_for old.suffixes c.settle-settled.result now.parts.urls.settings c.deref-in-Ok.result.now log.notes.items c.deref-in-Ok-2.result.now log.done.items now.parts last.parts (tells now.store)
    (tells last.store)
    c.deref-in-Ok.ensures.value c.deref-in-Ok-2.ensures.value
    (c.settle-settled.ensures.leads old.suffixes (ap suffixes_in (fetches.rest ∙ c.load.ensures.rest) ∙ c.requires.suffixes)))
    (subst (λ (ds : _). IfOk c.settle-settled.result (λ count. count ≡ length ds)) c.deref-in-Ok-2.ensures.value c.settle-settled.ensures.count)

pub returns-in-Ok-clause-all : goal.returns-in-Ok-clause-all
returns-in-Ok-clause-all g c =
    let given = given_by g.F.Fetch.asked g.F.Fetch.gives g.F.Fetch.faults c.load.new.fetchers c.fetch_all-worked.new.fetchers in
    let crew = c.load.new.self in
    let mid = c.load.new.yard in
    let now = c.fetch_all-worked.result.1 in
    let befores = schedules crew.fronts.items in
    let afters = schedules c.fetch_all-worked.new.crew.fronts.items in
    let fetches = subst (λ (r : Result WorkLog Fault). Fetches r given crew.agent crew.suffixes befores afters mid.parts now.parts (g.S.Store.told mid.store) (g.S.Store.told now.store)) c.in-Ok.is
    c.fetch_all-worked.ensures.fetches in
    if_count c.settle-settled.result (length c.deref-in-Ok-2.result.now) (λ (n : ℕ). n ≡ min c.args.most (length (front_in c.args.yard.parts.rest))) c.settle-settled.ensures.count
    (all_settled c.args.most given crew.agent crew.suffixes befores afters c.args.yard.parts mid.parts now.parts (g.S.Store.told mid.store) (g.S.Store.told now.store) c.in-Ok.log fetches
    c.in_default.ensures.next
    c.deref-in-Ok-2.result.now c.deref-in-Ok-2.ensures.value)

pub returns-in-Ok-clause-count : goal.returns-in-Ok-clause-count
returns-in-Ok-clause-count g c =
    let given = given_by g.F.Fetch.asked g.F.Fetch.gives g.F.Fetch.faults c.load.new.fetchers c.fetch_all-worked.new.fetchers in
    let crew = c.load.new.self in
    let mid = c.load.new.yard in
    let now = c.fetch_all-worked.result.1 in
    let befores = schedules crew.fronts.items in
    let afters = schedules c.fetch_all-worked.new.crew.fronts.items in
    let fetches = subst (λ (r : Result WorkLog Fault). Fetches r given crew.agent crew.suffixes befores afters mid.parts now.parts (g.S.Store.told mid.store) (g.S.Store.told now.store)) c.in-Ok.is
    c.fetch_all-worked.ensures.fetches in
    if_count c.settle-settled.result (length c.deref-in-Ok-2.result.now) (λ (n : ℕ). (1 ≤ n) × (n ≤ c.args.most)) c.settle-settled.ensures.count
    (count_within (length c.deref-in-Ok-2.result.now) c.args.most (length (front_in c.args.yard.parts.rest))
    (all_settled c.args.most given crew.agent crew.suffixes befores afters c.args.yard.parts mid.parts now.parts (g.S.Store.told mid.store) (g.S.Store.told now.store) c.in-Ok.log fetches
    c.in_default.ensures.next
    c.deref-in-Ok-2.result.now c.deref-in-Ok-2.ensures.value) c.requires.front)

pub returns-in-Ok-clause-idle : goal.returns-in-Ok-clause-idle
returns-in-Ok-clause-idle g c =
    let given = given_by g.F.Fetch.asked g.F.Fetch.gives g.F.Fetch.faults c.load.new.fetchers c.fetch_all-worked.new.fetchers in
    let crew = c.load.new.self in
    let mid = c.load.new.yard in
    let now = c.fetch_all-worked.result.1 in
    let after = c.fetch_all-worked.new.crew in
    let befores = schedules crew.fronts.items in
    let afters = schedules after.fronts.items in
    let fetches = subst (λ (r : Result WorkLog Fault). Fetches r given crew.agent crew.suffixes befores afters mid.parts now.parts (g.S.Store.told mid.store) (g.S.Store.told now.store)) c.in-Ok.is
    c.fetch_all-worked.ensures.fetches in
    let count : length befores ≡ length c.args.fetchers.now = length-map crew.fronts.items schedule ∙ c.load.ensures.count ∙ sym (length-map c.args.crew.now.fronts.items schedule) ∙
    c.requires.idle.count_is in
    let agent : after.agent ≡ crew.agent = ap (λ (k : _). k.agent) c.fetch_all-worked.ensures.crew in
    always c.settle-settled.result (AreIdle (length c.args.fetchers.now) after.agent afters)
    (subst (λ (name : _). AreIdle (length c.args.fetchers.now) name afters) (sym agent)
    (idle_after c.in-Ok.log given (length c.args.fetchers.now) crew.agent crew.suffixes befores afters mid.parts now.parts (g.S.Store.told mid.store) (g.S.Store.told now.store) count fetches))

pub returns-in-Ok-clause-fetchers : goal.returns-in-Ok-clause-fetchers
returns-in-Ok-clause-fetchers g c =
    all_go_then g.F.Fetch.asked g.F.Fetch.gives g.F.Fetch.faults g.F.Fetch.last g.F.Fetch.aim c.args.fetchers.now c.load.new.fetchers c.fetch_all-worked.new.fetchers c.load.ensures.fetchers
    c.fetch_all-worked.ensures.fetchers

pub returns-in-Err-worked-clause-leads : goal.returns-in-Err-worked-clause-leads
returns-in-Err-worked-clause-leads g c =
    let tells = g.S.Store.told in
    let was = c.args.yard in
    let old = c.args.crew.now in
    let crew = c.load.new.self in
    let mid = c.load.new.yard in
    let now = c.fetch_all-worked.result.1 in
    let fault = c.in-Err-worked.fault in
    let given = given_by g.F.Fetch.asked g.F.Fetch.gives g.F.Fetch.faults c.load.new.fetchers c.fetch_all-worked.new.fetchers in
    let wide = given_by g.F.Fetch.asked g.F.Fetch.gives g.F.Fetch.faults c.args.fetchers.now c.fetch_all-worked.new.fetchers in
    let befores = schedules crew.fronts.items in
    let afters = schedules c.fetch_all-worked.new.crew.fronts.items in
    let fetches = fetches_for (Err fault) given crew.agent old.agent crew.suffixes old.suffixes befores afters mid.parts now.parts (tells mid.store) (tells now.store) c.load.ensures.agent
    c.load.ensures.suffixes
    (subst (λ (r : Result WorkLog Fault). Fetches r given crew.agent crew.suffixes befores afters mid.parts now.parts (tells mid.store) (tells now.store)) c.in-Err-worked.is
    c.fetch_all-worked.ensures.fetches) in
    not_fetched old.agent old.suffixes c.args.most (schedules old.fronts.items) befores afters given wide
    (widens_second g.F.Fetch.asked g.F.Fetch.gives g.F.Fetch.faults g.F.Fetch.last g.F.Fetch.aim c.args.fetchers.now c.load.new.fetchers c.fetch_all-worked.new.fetchers c.load.ensures.fetchers
    c.fetch_all-worked.ensures.fetchers (earlier g) c.load.ensures.made)
    (rose_between_fewer g.F.Fetch.faults c.load.new.fetchers c.fetch_all-worked.new.fetchers) was.parts mid.parts (tells was.store) (tells mid.store)
    (rose_between_all g.F.Fetch.asked g.F.Fetch.gives g.F.Fetch.faults g.F.Fetch.last g.F.Fetch.aim c.args.fetchers.now c.fetch_all-worked.new.fetchers
    (all_go_then g.F.Fetch.asked g.F.Fetch.gives g.F.Fetch.faults g.F.Fetch.last g.F.Fetch.aim c.args.fetchers.now c.load.new.fetchers c.fetch_all-worked.new.fetchers c.load.ensures.fetchers
    c.fetch_all-worked.ensures.fetchers))
    (λ x held. held_is_crawl (tells was.store).images was.parts x c.is_sound-is_sound.ensures.drum c.requires.«open».begun held) c.requires.suffixes c.in_default.field-0 c.in_default.ensures.leads
    c.in_default.ensures.next now.parts (tells now.store) fault fetches

pub returns-in-Err-worked-clause-fetchers : goal.returns-in-Err-worked-clause-fetchers
returns-in-Err-worked-clause-fetchers g c =
    all_go_then g.F.Fetch.asked g.F.Fetch.gives g.F.Fetch.faults g.F.Fetch.last g.F.Fetch.aim c.args.fetchers.now c.load.new.fetchers c.fetch_all-worked.new.fetchers c.load.ensures.fetchers
    c.fetch_all-worked.ensures.fetchers

pub returns-in-Ok-clause-numbers : goal.returns-in-Ok-clause-numbers
returns-in-Ok-clause-numbers g c =
    subst (KeepsNumbers c.args.crew.now.hosts) (sym (ap (λ (k : _). k.hosts) c.fetch_all-worked.ensures.crew)) c.load.ensures.numbers

pub returns-in-Err-worked-clause-numbers : goal.returns-in-Err-worked-clause-numbers
returns-in-Err-worked-clause-numbers g c =
    subst (KeepsNumbers c.args.crew.now.hosts) (sym (ap (λ (k : _). k.hosts) c.fetch_all-worked.ensures.crew)) c.load.ensures.numbers

pub returns-in-Err-clause-batches : goal.returns-in-Err-clause-batches
returns-in-Err-clause-batches g c =
    let tells = g.S.Store.told in
    let was = c.args.yard in
    let now = c.load.new.yard in
    batches_more (IsErrOf {T = Unit} (Err c.in-Err.fault) Failed) _ (just 0 0) (just 0 0) (besides 1 0) (besides 1 0) was.parts now.parts (tells was.store) (tells now.store)
    (failed_on {A = Unit} {B = ℕ} (Err c.in-Err.fault) (Err c.in-Err.fault) c.in-Err.fault refl refl) (none_besides 1 0) (none_besides 1 0) (c.in-Err.ensures.batches c.requires.«open».begun)

pub returns-in-Err-worked-clause-batches : goal.returns-in-Err-worked-clause-batches
returns-in-Err-worked-clause-batches g c =
    let tells = g.S.Store.told in
    let was = c.args.yard in
    let mid = c.load.new.yard in
    let now = c.fetch_all-worked.result.1 in
    let done = c.in_default.field-0 in
    let fault = c.in-Err-worked.fault in
    let worked = c.fetch_all-worked.result.0 in
    batches_more (IsErrOf worked Failed) _ (just 1 0) (just 1 0) (besides 1 0) (besides 1 0) was.parts now.parts (tells was.store) (tells now.store)
    (failed_on {B = ℕ} worked (Err fault) fault c.in-Err-worked.is refl) (just_besides 1 0) (just_besides 1 0)
    (loaded_batch (IsErrOf (Ok done) Failed) (IsErrOf worked Failed) (just 1 0) (just 1 0) was.parts mid.parts now.parts (tells was.store) (tells mid.store) (tells now.store)
    (ok_or_failed (Ok done) done refl) (just_rising 1 0) (just_rising 1 0) (none_within 1 0)
    (leads_on (IsErrOf (Ok done) Failed) _ _ was.parts mid.parts (tells was.store) (tells mid.store) c.in_default.ensures.leads) (c.in_default.ensures.batches c.requires.«open».begun)
    c.fetch_all-worked.ensures.batches)

pub returns-in-Ok-clause-batches : goal.returns-in-Ok-clause-batches
returns-in-Ok-clause-batches g c =
    let tells = g.S.Store.told in
    let was = c.args.yard in
    let mid = c.load.new.yard in
    let now = c.fetch_all-worked.result.1 in
    let last = c.settle-settled.new.yard in
    let done = c.in_default.field-0 in
    let log = c.in-Ok.log in
    let worked = c.fetch_all-worked.result.0 in
    let result = c.settle-settled.result in
    loaded_batch (IsErrOf (Ok done) Failed) (IsErrOf result Failed) (a_desk_unless result) (besides 1 0) was.parts mid.parts last.parts (tells was.store) (tells mid.store) (tells last.store)
    (ok_or_failed (Ok done) done refl) (unless_rising result) (besides_rising 1 0) (none_besides 1 0)
    (leads_on (IsErrOf (Ok done) Failed) _ _ was.parts mid.parts (tells was.store) (tells mid.store) c.in_default.ensures.leads) (c.in_default.ensures.batches c.requires.«open».begun)
    (turn_batch (IsErrOf worked Failed) result mid.parts now.parts last.parts (tells mid.store) (tells now.store) (tells last.store) (ok_or_failed worked log c.in-Ok.is)
    (leads_on (IsErrOf worked Failed) _ _ mid.parts now.parts (tells mid.store) (tells now.store) c.fetch_all-worked.ensures.fetches.leads) c.fetch_all-worked.ensures.batches
    c.settle-settled.ensures.batches c.settle-settled.ensures.turned)

pub returns-in-Err-clause-refused : goal.returns-in-Err-clause-refused
returns-in-Err-clause-refused g c =
    let now = c.load.new.yard in
    refused_on {A = Unit} {B = ℕ} (Err c.in-Err.fault) (Err c.in-Err.fault) c.in-Err.fault now.parts (g.S.Store.told now.store) refl refl c.in-Err.ensures.refused

pub returns-in-Err-worked-clause-refused : goal.returns-in-Err-worked-clause-refused
returns-in-Err-worked-clause-refused g c =
    let now = c.fetch_all-worked.result.1 in
    let fault = c.in-Err-worked.fault in
    refused_on {B = ℕ} c.fetch_all-worked.result.0 (Err fault) fault now.parts (g.S.Store.told now.store) c.in-Err-worked.is refl c.fetch_all-worked.ensures.refused

pub returns-in-Ok-clause-refused : goal.returns-in-Ok-clause-refused
returns-in-Ok-clause-refused g c = c.settle-settled.ensures.refused
