use Rattle.std.proofs.Common.{◌≡◌, ◌∙◌, ◌++◌, ◌∷◌, [], ◌<◌, length, get_or, refl, sym, ap, arith}
use Rattle.std.specs.Prelude.{◌%◌}
use Rattle.std.proofs.lemmas.Option.{slice_get-get_or}
use Rattle.std.proofs.lemmas.Result.{IfOk-at_ok}
use Rattle.irl_crawl.specs.Serving.{number_of}
use Rattle.irl_crawl.proofs.Deals.{deals_one, serves_one}
use Rattle.irl_crawl.proofs.Going.{all_go_at}
use Rattle.irl_crawl.proofs.Rising.{made_at}
use Rattle.irl_crawl.proofs.dealing.deal.Goals as goal

pub returns-in_err-read_note-clause-fetchers : goal.returns-in_err-read_note-clause-fetchers
returns-in_err-read_note-clause-fetchers g c =
    let worker = c.in_ok-met.met.number % length c.args.fetchers.now in
    let within : worker < length c.args.fetchers.now = omega arith in
    all_go_at g.F.Fetch.asked g.F.Fetch.gives g.F.Fetch.faults g.F.Fetch.last g.F.Fetch.aim c.args.fetchers.now worker c.index-fetchers-worker.result c.read_note.new.fetch within
    c.read_note.ensures.goes_on

pub returns-in_err-keep-clause-fetchers : goal.returns-in_err-keep-clause-fetchers
returns-in_err-keep-clause-fetchers g c =
    let worker = c.in_ok-met.met.number % length c.args.fetchers.now in
    let within : worker < length c.args.fetchers.now = omega arith in
    all_go_at g.F.Fetch.asked g.F.Fetch.gives g.F.Fetch.faults g.F.Fetch.last g.F.Fetch.aim c.args.fetchers.now worker c.index-fetchers-worker.result c.read_note.new.fetch within
    c.read_note.ensures.goes_on

pub returns-clause-fetchers : goal.returns-clause-fetchers
returns-clause-fetchers g c =
    let worker = c.in_ok-met.met.number % length c.args.fetchers.now in
    let within : worker < length c.args.fetchers.now = omega arith in
    all_go_at g.F.Fetch.asked g.F.Fetch.gives g.F.Fetch.faults g.F.Fetch.last g.F.Fetch.aim c.args.fetchers.now worker c.index-fetchers-worker.result c.read_note.new.fetch within
    c.read_note.ensures.goes_on

pub returns-clause-deals : goal.returns-clause-deals
returns-clause-deals g c =
    let worker = c.in_ok-met.met.number % length c.args.fetchers.now in
    let within : worker < length c.args.shares.now = omega arith in
    let share = get_or c.args.shares.now worker c.index-shares-worker.result in
    let pushed = IfOk-at_ok (λ _. c.keep.new.items.items ≡ share.items.items ++ c.args.work ∷ []) c.in_ok-keep.was c.keep.ensures.ok in
    deals_one c.read_note.result c.args.yard.now.parts c.read_note.new.yard.parts (g.S.Store.told c.args.yard.now.store) (g.S.Store.told c.read_note.new.yard.store)
    (g.met.S.Store.is_consistent c.read_note.new.yard.store) share.notes.items c.read_note.new.notes.items c.read_note.ensures.adds c.args.work c.args.shares.now worker share
    (record { items = c.keep.new.items; notes = c.read_note.new.notes }) c.in_ok-read_note.was
    (slice_get-get_or c.args.shares.now worker c.index-shares-worker.result within) refl refl pushed

pub returns-clause-serves : goal.returns-clause-serves
returns-clause-serves g c =
    let worker = c.in_ok-met.met.number % length c.args.fetchers.now in
    let within : worker < length c.args.shares.now = omega arith in
    let share = get_or c.args.shares.now worker c.index-shares-worker.result in
    let pushed = IfOk-at_ok (λ _. c.keep.new.items.items ≡ share.items.items ++ c.args.work ∷ []) c.in_ok-keep.was c.keep.ensures.ok in
    serves_one (length c.args.fetchers.now) c.args.hosts.now c.name.new.self c.args.work c.args.shares.now worker c.in_ok-met.met.number share
    (record { items = c.keep.new.items; notes = c.read_note.new.notes }) c.name.ensures.kept
    (ap (number_of c.name.new.self) (sym c.host-host.ensures.value) ∙ c.in_ok-met.ensures.number) refl
    (slice_get-get_or c.args.shares.now worker c.index-shares-worker.result within) pushed

pub returns-in_err-read_note-clause-made : goal.returns-in_err-read_note-clause-made
returns-in_err-read_note-clause-made g c =
    let worker = c.in_ok-met.met.number % length c.args.fetchers.now in
    let within : worker < length c.args.fetchers.now = omega arith in
    made_at g.F.Fetch.asked c.args.fetchers.now worker c.index-fetchers-worker.result c.read_note.new.fetch within c.read_note.ensures.asked

pub returns-in_err-keep-clause-made : goal.returns-in_err-keep-clause-made
returns-in_err-keep-clause-made g c =
    let worker = c.in_ok-met.met.number % length c.args.fetchers.now in
    let within : worker < length c.args.fetchers.now = omega arith in
    made_at g.F.Fetch.asked c.args.fetchers.now worker c.index-fetchers-worker.result c.read_note.new.fetch within c.read_note.ensures.asked

pub returns-clause-made : goal.returns-clause-made
returns-clause-made g c =
    let worker = c.in_ok-met.met.number % length c.args.fetchers.now in
    let within : worker < length c.args.fetchers.now = omega arith in
    made_at g.F.Fetch.asked c.args.fetchers.now worker c.index-fetchers-worker.result c.read_note.new.fetch within c.read_note.ensures.asked
