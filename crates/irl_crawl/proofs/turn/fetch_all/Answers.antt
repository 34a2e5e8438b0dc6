use Rattle.std.proofs.Common.{◌≡◌, Result, Ok, Err, IsErrOf, map, refl, sym, subst, ap}
use Rattle.std.specs.List.{flat_map}
use Rattle.irl_base.specs.declared.fault.Fault.{Fault}
use Rattle.irl_base.specs.declared.fault.Fault.TheVariants.{Memory, Failed}
use Rattle.irl_bay.specs.Drum.{IsDrum}
use Rattle.irl_fetch.specs.declared.working.WorkLog.{WorkLog}
use Rattle.irl_yard.specs.declared.parts.Parts.{Parts}
use Rattle.irl_yard.specs.Sending.{HasBegun}
use Rattle.irl_lock.specs.Books.{fresh_of}
use Rattle.irl_lock.specs.Sharing.{Closes, entries_in, opening_of}
use Rattle.irl_crawl.specs.Fetching.{Fetches}
use Rattle.irl_crawl.specs.Workers.{given_by, schedules}
use Rattle.irl_crawl.proofs.Fetching.{fetched_closed, fetched_refused, not_opened, reason_closed, reason_refused}
use Rattle.irl_crawl.proofs.OverShared.{closes_serves, closes_stops, fresh_is}
use Rattle.irl_crawl.proofs.Rising.{rose_between_same}
use Rattle.irl_crawl.proofs.RecordsJudged.{back_batch, batch_from, failed_on, ok_or_failed}
use Rattle.irl_crawl.proofs.RecordsOfDesks.{desk_batch}
use Rattle.irl_crawl.proofs.RecordsThen.{batches_more, same_within}
use Rattle.irl_crawl.specs.Batches.{just}
use Rattle.irl_crawl.proofs.turn.fetch_all.Given.{Over}
use Rattle.irl_disk.specs.Images.{IsConsistent}
use Rattle.irl_crawl.proofs.turn.fetch_all.Goals as goal

-- what a store that may be sent keeps in every thread, it keeps in this one
abbrev consistent : (g : Over) (store : g.row.S.Denot) → IsConsistent (g.S.Store.told store)
consistent g = (g.met.S.Store g.world.𝓛 g.world.𝓜 g.world.𝓡 ((λ s x. x), (λ x. x), (λ x. x), λ x. x)).is_consistent

pub returns-in-Err-clause-fetches : goal.returns-in-Err-clause-fetches
returns-in-Err-clause-fetches g c =
    let given = given_by g.F.Fetch.asked g.F.Fetch.gives g.F.Fetch.faults c.args.fetchers.now c.args.fetchers.now in
    let was = c.args.yard in
    let crew = c.args.crew.now in
    let fronts = schedules crew.fronts.items in
    let tells = g.S.Store.told in
    let memory : c.in-Err.fault ≡ Memory = c.in-Err.ensures.back.0 in
    let back : c.in-Err.yard ≡ was = c.in-Err.ensures.back.1 in
    subst (λ (f : Fault). Fetches (Err f) given crew.agent crew.suffixes fronts fronts was.parts c.in-Err.yard.parts (tells was.store) (tells c.in-Err.yard.store)) (sym memory)
    (subst (λ (y : _). Fetches (Err Memory) given crew.agent crew.suffixes fronts fronts was.parts y.parts (tells was.store) (tells y.store)) (sym back)
    (not_opened given crew.agent crew.suffixes fronts was.parts (tells was.store) (consistent g was.store) c.is_sound-is_sound.ensures.drum c.requires.«open».sound
    c.requires.agents (rose_between_same g.F.Fetch.faults c.args.fetchers.now)))

pub returns-in-Err-clause-batches : goal.returns-in-Err-clause-batches
returns-in-Err-clause-batches g c =
    let tells = g.S.Store.told in
    let was = c.args.yard in
    let back : c.in-Err.yard ≡ was = c.in-Err.ensures.back.1 in
    back_batch tells _ 1 0 was.store c.in-Err.yard.store was.parts c.in-Err.yard.parts (ap (λ (y : _). y.store) (sym back)) (ap (λ (y : _). y.parts) (sym back)) was.rest_is
    c.is_sound-is_sound.ensures.drum (consistent g was.store) c.requires.«open».begun

pub returns-in-Ok-close-clause-fetches : goal.returns-in-Ok-close-clause-fetches
returns-in-Ok-close-clause-fetches g c =
    let was = c.args.yard in
    let opening = opening_of c.in-Ok.made.0 in
    let opened : opening ≡ was = c.in-Ok.ensures.opening in
    let passes = c.work_all-worked.result.1.items in
    let after = c.in-Ok-close.yard in
    let closes : Closes (Ok after) opening passes = c.in-Ok-close.ensures in
    let given = given_by g.F.Fetch.asked g.F.Fetch.gives g.F.Fetch.faults c.args.fetchers.now c.work_all-worked.new.fetchers in
    let crew = c.args.crew.now in
    fetched_closed g.S.Store.told (consistent g) c.work_all-worked.result.0 given crew.agent crew.suffixes (schedules crew.fronts.items)
    (schedules c.work_all-worked.new.crew.fronts.items) (flat_map entries_in passes) (map (λ pass. pass.last) passes) (fresh_of opening) closes.mid after.store after.parts
    c.work_all-worked.ensures.works (fresh_is opening) closes.news closes.whole (closes_serves closes) (closes_stops closes) was.store was.parts (ap (λ (y : _). y.store) opened)
    (ap (λ (y : _). y.parts) opened) opening.rest_is c.is_sound-is_sound.ensures.drum c.requires.«open».begun (Ok tt) closes.closing tt refl

pub returns-in-Ok-close-clause-batches : goal.returns-in-Ok-close-clause-batches
returns-in-Ok-close-clause-batches g c =
    let was = c.args.yard in
    let opening = opening_of c.in-Ok.made.0 in
    let opened : opening ≡ was = c.in-Ok.ensures.opening in
    let passes = c.work_all-worked.result.1.items in
    let after = c.in-Ok-close.yard in
    let closes : Closes (Ok after) opening passes = c.in-Ok-close.ensures in
    let tells = g.S.Store.told in
    let parts = ap (λ (y : _). y.parts) opened in
    let closed : Result (Unit {0}) Fault = Ok tt in
    batch_from tells _ (just 1 0) (just 1 0) opening.store was.store opening.parts was.parts after.parts (tells after.store) (ap (λ (y : _). y.store) opened) parts
    (batches_more (IsErrOf closed Failed) _ (just 1 0) (just 1 0) (just 1 0) (just 1 0) opening.parts after.parts (tells opening.store) (tells after.store)
    (λ failed. absurd (ok_or_failed closed tt refl failed)) (same_within (just 1 0)) (same_within (just 1 0))
    (desk_batch tells (consistent g) closes.news (fresh_of opening) closes.mid closed after.store after.parts opening.rest_is
    (subst (λ (p : Parts). IsDrum p.urls) (sym parts) c.is_sound-is_sound.ensures.drum) (subst (λ (p : Parts). HasBegun p.rest) (sym parts) c.requires.«open».begun) (fresh_is opening)
    (closes_serves closes) closes.closing))

pub returns-in-Ok-close-clause-refused : goal.returns-in-Ok-close-clause-refused
returns-in-Ok-close-clause-refused g c =
    let was = c.args.yard in
    let opening = opening_of c.in-Ok.made.0 in
    let opened : opening ≡ was = c.in-Ok.ensures.opening in
    let passes = c.work_all-worked.result.1.items in
    let after = c.in-Ok-close.yard in
    let closes : Closes (Ok after) opening passes = c.in-Ok-close.ensures in
    let given = given_by g.F.Fetch.asked g.F.Fetch.gives g.F.Fetch.faults c.args.fetchers.now c.work_all-worked.new.fetchers in
    let crew = c.args.crew.now in
    reason_closed g.S.Store.told (consistent g) c.work_all-worked.result.0 given crew.agent crew.suffixes (schedules crew.fronts.items)
    (schedules c.work_all-worked.new.crew.fronts.items) (flat_map entries_in passes) (map (λ pass. pass.last) passes) (fresh_of opening) closes.mid after.store after.parts
    c.work_all-worked.ensures.works (fresh_is opening) closes.news closes.whole (closes_serves closes) (closes_stops closes) was.store was.parts (ap (λ (y : _). y.store) opened)
    (ap (λ (y : _). y.parts) opened) opening.rest_is c.is_sound-is_sound.ensures.drum c.requires.«open».begun (Ok tt) closes.closing tt refl

pub returns-in-Err-close-clause-fetches : goal.returns-in-Err-close-clause-fetches
returns-in-Err-close-clause-fetches g c =
    let was = c.args.yard in
    let opening = opening_of c.in-Ok.made.0 in
    let opened : opening ≡ was = c.in-Ok.ensures.opening in
    let passes = c.work_all-worked.result.1.items in
    let after = c.in-Err-close.yard in
    let closes : Closes (Err (c.in-Err-close.fault, after)) opening passes = c.in-Err-close.ensures in
    let given = given_by g.F.Fetch.asked g.F.Fetch.gives g.F.Fetch.faults c.args.fetchers.now c.work_all-worked.new.fetchers in
    let crew = c.args.crew.now in
    fetched_refused g.S.Store.told (consistent g) c.work_all-worked.result.0 given crew.agent crew.suffixes (schedules crew.fronts.items)
    (schedules c.work_all-worked.new.crew.fronts.items) (flat_map entries_in passes) (map (λ pass. pass.last) passes) (fresh_of opening) closes.mid after.store after.parts
    c.work_all-worked.ensures.works (fresh_is opening) closes.news closes.whole (closes_serves closes) (closes_stops closes) was.store was.parts (ap (λ (y : _). y.store) opened)
    (ap (λ (y : _). y.parts) opened) opening.rest_is c.is_sound-is_sound.ensures.drum c.requires.«open».begun (Err c.in-Err-close.fault) closes.closing c.in-Err-close.fault refl

pub returns-in-Err-close-clause-batches : goal.returns-in-Err-close-clause-batches
returns-in-Err-close-clause-batches g c =
    let was = c.args.yard in
    let opening = opening_of c.in-Ok.made.0 in
    let opened : opening ≡ was = c.in-Ok.ensures.opening in
    let passes = c.work_all-worked.result.1.items in
    let after = c.in-Err-close.yard in
    let closes : Closes (Err (c.in-Err-close.fault, after)) opening passes = c.in-Err-close.ensures in
    let tells = g.S.Store.told in
    let parts = ap (λ (y : _). y.parts) opened in
    let closed : Result (Unit {0}) Fault = Err c.in-Err-close.fault in
    batch_from tells _ (just 1 0) (just 1 0) opening.store was.store opening.parts was.parts after.parts (tells after.store) (ap (λ (y : _). y.store) opened) parts
    (batches_more (IsErrOf closed Failed) _ (just 1 0) (just 1 0) (just 1 0) (just 1 0) opening.parts after.parts (tells opening.store) (tells after.store)
    (failed_on {B = WorkLog} closed (Err c.in-Err-close.fault) c.in-Err-close.fault refl refl) (same_within (just 1 0)) (same_within (just 1 0))
    (desk_batch tells (consistent g) closes.news (fresh_of opening) closes.mid closed after.store after.parts opening.rest_is
    (subst (λ (p : Parts). IsDrum p.urls) (sym parts) c.is_sound-is_sound.ensures.drum) (subst (λ (p : Parts). HasBegun p.rest) (sym parts) c.requires.«open».begun) (fresh_is opening)
    (closes_serves closes) closes.closing))

pub returns-in-Err-close-clause-refused : goal.returns-in-Err-close-clause-refused
returns-in-Err-close-clause-refused g c =
    let was = c.args.yard in
    let opening = opening_of c.in-Ok.made.0 in
    let opened : opening ≡ was = c.in-Ok.ensures.opening in
    let passes = c.work_all-worked.result.1.items in
    let after = c.in-Err-close.yard in
    let closes : Closes (Err (c.in-Err-close.fault, after)) opening passes = c.in-Err-close.ensures in
    let given = given_by g.F.Fetch.asked g.F.Fetch.gives g.F.Fetch.faults c.args.fetchers.now c.work_all-worked.new.fetchers in
    let crew = c.args.crew.now in
    reason_refused g.S.Store.told (consistent g) c.work_all-worked.result.0 given crew.agent crew.suffixes (schedules crew.fronts.items)
    (schedules c.work_all-worked.new.crew.fronts.items) (flat_map entries_in passes) (map (λ pass. pass.last) passes) (fresh_of opening) closes.mid after.store after.parts
    c.work_all-worked.ensures.works (fresh_is opening) closes.news closes.whole (closes_serves closes) (closes_stops closes) was.store was.parts (ap (λ (y : _). y.store) opened)
    (ap (λ (y : _). y.parts) opened) opening.rest_is c.is_sound-is_sound.ensures.drum c.requires.«open».begun (Err c.in-Err-close.fault) closes.closing c.in-Err-close.fault refl
