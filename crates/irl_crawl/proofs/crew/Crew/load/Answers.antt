use Rattle.std.proofs.Common.{◌≡◌, ◌∙◌, Err, List, length, Vec, ◌++◌, ap, sym, subst, rules}
use Rattle.std.specs.Prelude.{IsErrOf}
use Rattle.std.specs.List.{All}
use Rattle.std.specs.List.Sorted.{IsPermutation}
use Rattle.std.specs.Vec.{with_items}
use Rattle.std.proofs.lemmas.List.{with_items_is}
use Rattle.std.proofs.lemmas.Result.{IfOk-at_ok, err_from_is_err_and}
use Rattle.irl_base.specs.declared.fault.Fault.TheVariants.{Failed}
use Rattle.irl_bay.specs.Drum.{IsDrum}
use Rattle.irl_polite.specs.Inside.{Held}
use Rattle.irl_yard.specs.Passing.{front_in}
use Rattle.irl_crawl.specs.Dealing.{HaveTaken, dealt}
use Rattle.irl_crawl.specs.Leading.{Leads}
use Rattle.irl_crawl.specs.Loading.{AreNext, Loads}
use Rattle.irl_crawl.specs.Serving.{AreServed}
use Rattle.irl_crawl.specs.Workers.{AreFor, AreReady, schedules}
use Rattle.irl_crawl.specs.declared.dealing.Share.{Share}
use Rattle.irl_crawl.proofs.Loads.{all_ready, all_served, done, load_done, load_refused, next_are}
use Rattle.irl_crawl.proofs.Looking.{calm_memory, calm_ok, looks_calm, looks_err, looks_front, looks_then}
use Rattle.irl_crawl.proofs.Shares.{IsEmpty}
use Rattle.irl_crawl.proofs.Taking.{taken_agents}
use Rattle.irl_crawl.proofs.RecordsTurned.{load_batch}
use Rattle.irl_crawl.proofs.Refusing.{refused_calm, refused_looks, refused_ok, refused_on}
use Rattle.irl_crawl.proofs.crew.Crew.load.Goals as goal

-- a vector that was lent as a slice has what the slice had at last
lent : {X A : Type 0} (v : Vec X A) (news : List X) → length news ≡ length v.items → (with_items v news).items ≡ news
lent v news same = with_items_is v news (same ∙ sym v.ok.0)

-- and so have the shares and the fronts that took them
taken_lent : {A : Type 0} (fronts : Vec Held A) (shares : Vec Share A) (olds news : List Held) (filled : List Share) → olds ≡ fronts.items → length filled ≡ length shares.items
    → HaveTaken (with_items shares filled).items (schedules olds) (schedules news) → HaveTaken filled (schedules fronts.items) (schedules news)
taken_lent fronts shares olds news filled was same taken =
    subst (λ (l : List Held). HaveTaken filled (schedules l) (schedules news)) was
    (subst (λ (l : List Share). HaveTaken l (schedules olds) (schedules news)) (lent shares filled same) taken)

pub returns-in_err-works-clause-leads : goal.returns-in_err-works-clause-leads
returns-in_err-works-clause-leads g c =
    let was = c.args.yard.now.parts in
    let before = g.S.Store.told c.args.yard.now.store in
    let now = c.front.new.self.parts in
    let after = g.S.Store.told c.front.new.self.store in
    let drum : IsDrum was.urls = subst IsDrum c.front.ensures.states.same c.front.ensures.goes_on.drum in
    let out = err_from_is_err_and c.from_residual.result c.from_residual.ensures.1 in
    let looks = looks_front c.front.result _ _ was now before after c.front.ensures.reads c.front.ensures.states c.front.ensures.rest c.front.ensures.goes_on in
    load_refused c.from_residual.result out.0 was.urls.settings c.args.self.now.agent (schedules c.args.self.now.fronts.items) (schedules c.args.self.now.fronts.items) was now before after
    (g.met.S.Store.is_consistent c.front.new.self.store) drum out.1 (looks_err c.front.result c.from_residual.result c.in_err-works.field-0.0 out.0 was now before after c.in_err-works.was out.1 out.2
    looks)

pub returns-in_err-shares-clause-leads : goal.returns-in_err-shares-clause-leads
returns-in_err-shares-clause-leads g c =
    let was = c.args.yard.now.parts in
    let before = g.S.Store.told c.args.yard.now.store in
    let now = c.front.new.self.parts in
    let after = g.S.Store.told c.front.new.self.store in
    let law = g.met.S.Store.is_consistent c.front.new.self.store in
    let drum : IsDrum was.urls = subst IsDrum c.front.ensures.states.same c.front.ensures.goes_on.drum in
    let result = c.from_residual-in_err-shares.result in
    let out = err_from_is_err_and result c.from_residual-in_err-shares.ensures.1 in
    let looks = looks_front c.front.result _ _ was now before after c.front.ensures.reads c.front.ensures.states c.front.ensures.rest c.front.ensures.goes_on in
    load_refused result out.0 was.urls.settings c.args.self.now.agent (schedules c.args.self.now.fronts.items) (schedules c.args.self.now.fronts.items) was now before after law drum out.1
    (looks_calm c.front.result result was now before after law (calm_ok c.front.result c.in_ok-works.works c.in_ok-works.was) (calm_memory result out.0 out.1 out.2) looks)

pub returns-in_err-deal_all-clause-leads : goal.returns-in_err-deal_all-clause-leads
returns-in_err-deal_all-clause-leads g c =
    let was = c.args.yard.now.parts in
    let before = g.S.Store.told c.args.yard.now.store in
    let mid = c.front.new.self.parts in
    let between = g.S.Store.told c.front.new.self.store in
    let now = c.deal_all.new.yard.parts in
    let after = g.S.Store.told c.deal_all.new.yard.store in
    let drum : IsDrum was.urls = subst IsDrum c.front.ensures.states.same c.front.ensures.goes_on.drum in
    let result = c.from_residual-in_err-deal_all.result in
    let out = err_from_is_err_and result c.from_residual-in_err-deal_all.ensures.1 in
    let looks = looks_front c.front.result _ _ was mid before between c.front.ensures.reads c.front.ensures.states c.front.ensures.rest c.front.ensures.goes_on in
    let whole = looks_then c.front.result c.deal_all.result was mid now before between after (g.met.S.Store.is_consistent c.front.new.self.store) looks c.deal_all.ensures.deals.looks in
    load_refused result out.0 was.urls.settings c.args.self.now.agent (schedules c.args.self.now.fronts.items) (schedules c.args.self.now.fronts.items) was now before after
    (g.met.S.Store.is_consistent c.deal_all.new.yard.store) drum out.1 (looks_err c.deal_all.result result c.in_err-deal_all.field-0.0 out.0 was now before after c.in_err-deal_all.was out.1 out.2
    whole)

pub returns-in_err-hand_out-clause-leads : goal.returns-in_err-hand_out-clause-leads
returns-in_err-hand_out-clause-leads g c =
    let was = c.args.yard.now.parts in
    let before = g.S.Store.told c.args.yard.now.store in
    let mid = c.front.new.self.parts in
    let between = g.S.Store.told c.front.new.self.store in
    let now = c.deal_all.new.yard.parts in
    let after = g.S.Store.told c.deal_all.new.yard.store in
    let law = g.met.S.Store.is_consistent c.deal_all.new.yard.store in
    let drum : IsDrum was.urls = subst IsDrum c.front.ensures.states.same c.front.ensures.goes_on.drum in
    let result = c.from_residual-in_err-hand_out.result in
    let out = err_from_is_err_and result c.from_residual-in_err-hand_out.ensures.1 in
    let looks = looks_front c.front.result _ _ was mid before between c.front.ensures.reads c.front.ensures.states c.front.ensures.rest c.front.ensures.goes_on in
    let whole = looks_then c.front.result c.deal_all.result was mid now before between after (g.met.S.Store.is_consistent c.front.new.self.store) looks c.deal_all.ensures.deals.looks in
    load_refused result out.0 was.urls.settings c.args.self.now.agent (schedules c.args.self.now.fronts.items) _ was now before after law drum out.1
    (looks_calm c.deal_all.result result was now before after law (calm_ok c.deal_all.result c.in_ok-deal_all.field-0 c.in_ok-deal_all.was) (calm_memory result out.0 out.1 out.2) whole)

pub returns-in_err-hand_out-clause-numbers : goal.returns-in_err-hand_out-clause-numbers
returns-in_err-hand_out-clause-numbers g c = λ name n is. c.deal_all.ensures.serves.numbers name n (c.begin_turn.ensures name ∙ is)

pub returns-in_err-hand_out-clause-agents : goal.returns-in_err-hand_out-clause-agents
returns-in_err-hand_out-clause-agents g c =
    let fronts = c.args.self.now.fronts in
    let same : length c.hand_out.new.fronts ≡ length fronts.items = search rules in
    let some = c.hand_out.ensures.some in
    let was : c.deref_mut-2.result.now ≡ fronts.items = c.deref_mut-2.ensures.value in
    let taken = subst (λ (l : List Held). HaveTaken some.0 (schedules l) (schedules c.hand_out.new.fronts)) was some.1 in
    subst (λ (l : List Held). AreFor c.args.self.now.agent (schedules l)) (sym (lent fronts c.hand_out.new.fronts same))
    (taken_agents c.args.self.now.agent some.0 (schedules fronts.items) (schedules c.hand_out.new.fronts) taken c.requires.idle.agents)

pub returns-clause-leads : goal.returns-clause-leads
returns-clause-leads g c =
    let fronts = c.args.self.now.fronts in
    let news = c.hand_out.new.fronts in
    let shares = c.deal_all.new.shares in
    let same : length news ≡ length fronts.items = search rules in
    let same_shares : length shares ≡ length c.in_ok-shares.shares.items = search rules in
    let few : length shares ≡ length (schedules fronts.items) = same_shares ∙ c.in_ok-shares.ensures.count ∙ sym c.requires.idle.count_is in
    let empty = c.deref_mut.result.now in
    let none : All IsEmpty empty = subst (All IsEmpty) (sym c.deref_mut.ensures.value) c.in_ok-shares.ensures.empty in
    let handed = IfOk-at_ok (λ _. HaveTaken (with_items c.in_ok-shares.shares shares).items (schedules c.deref_mut-2.result.now) (schedules news)) c.in_ok-hand_out.was c.hand_out.ensures.ok in
    let taken = taken_lent fronts c.in_ok-shares.shares c.deref_mut-2.result.now news shares c.deref_mut-2.ensures.value same_shares handed in
    let moved = IfOk-at_ok (λ _. IsPermutation (dealt shares) (dealt empty ++ c.in_ok-works.works.items)) c.in_ok-deal_all.was c.deal_all.ensures.deals.items in
    let was = c.args.yard.now.parts in
    let before = g.S.Store.told c.args.yard.now.store in
    let mid = c.front.new.self.parts in
    let between = g.S.Store.told c.front.new.self.store in
    let now = c.deal_all.new.yard.parts in
    let after = g.S.Store.told c.deal_all.new.yard.store in
    let law_between = g.met.S.Store.is_consistent c.front.new.self.store in
    let law = g.met.S.Store.is_consistent c.deal_all.new.yard.store in
    let drum : IsDrum was.urls = subst IsDrum c.front.ensures.states.same c.front.ensures.goes_on.drum in
    let looks = looks_front c.front.result _ _ was mid before between c.front.ensures.reads c.front.ensures.states c.front.ensures.rest c.front.ensures.goes_on in
    let first = looks_calm c.front.result done was mid before between law_between (calm_ok c.front.result c.in_ok-works.works c.in_ok-works.was) tt looks in
    let all = looks_then c.front.result c.deal_all.result was mid now before between after law_between looks c.deal_all.ensures.deals.looks in
    let whole = looks_calm c.deal_all.result done was now before after law (calm_ok c.deal_all.result c.in_ok-deal_all.field-0 c.in_ok-deal_all.was) tt all in
    subst (λ (l : List Held). Leads (IsErrOf done Failed) (λ x y. y ≡ x) (Loads done was.urls.settings c.args.self.now.agent (schedules fronts.items) (schedules l)) was now before after)
    (sym (lent fronts news same))
    (load_done c.in_ok-works.works.items empty shares (schedules fronts.items) (schedules news) none moved taken few was.urls.settings c.args.self.now.agent was mid now before between after law drum
    first
    c.in_ok-works.ensures.states.value whole (IfOk-at_ok _ c.in_ok-deal_all.was c.deal_all.ensures.deals.notes) c.requires.idle.agents)

pub returns-clause-next : goal.returns-clause-next
returns-clause-next g c =
    let fronts = c.args.self.now.fronts in
    let news = c.hand_out.new.fronts in
    let shares = c.deal_all.new.shares in
    let same : length news ≡ length fronts.items = search rules in
    let same_shares : length shares ≡ length c.in_ok-shares.shares.items = search rules in
    let few : length shares ≡ length (schedules fronts.items) = same_shares ∙ c.in_ok-shares.ensures.count ∙ sym c.requires.idle.count_is in
    let empty = c.deref_mut.result.now in
    let none : All IsEmpty empty = subst (All IsEmpty) (sym c.deref_mut.ensures.value) c.in_ok-shares.ensures.empty in
    let handed = IfOk-at_ok (λ _. HaveTaken (with_items c.in_ok-shares.shares shares).items (schedules c.deref_mut-2.result.now) (schedules news)) c.in_ok-hand_out.was c.hand_out.ensures.ok in
    let taken = taken_lent fronts c.in_ok-shares.shares c.deref_mut-2.result.now news shares c.deref_mut-2.ensures.value same_shares handed in
    let moved = IfOk-at_ok (λ _. IsPermutation (dealt shares) (dealt empty ++ c.in_ok-works.works.items)) c.in_ok-deal_all.was c.deal_all.ensures.deals.items in
    subst (λ (l : List Held). AreNext (front_in c.args.yard.now.parts.rest) c.args.most (schedules l)) (sym (lent fronts news same))
    (next_are c.in_ok-works.works.items empty shares (schedules fronts.items) (schedules news) none moved taken few (front_in c.args.yard.now.parts.rest) c.args.most c.in_ok-works.ensures.first)

pub returns-clause-ready : goal.returns-clause-ready
returns-clause-ready g c =
    let fronts = c.args.self.now.fronts in
    let news = c.hand_out.new.fronts in
    let shares = c.deal_all.new.shares in
    let same : length news ≡ length fronts.items = search rules in
    let same_shares : length shares ≡ length c.in_ok-shares.shares.items = search rules in
    let few : length shares ≡ length (schedules fronts.items) = same_shares ∙ c.in_ok-shares.ensures.count ∙ sym c.requires.idle.count_is in
    let empty = c.deref_mut.result.now in
    let none : All IsEmpty empty = subst (All IsEmpty) (sym c.deref_mut.ensures.value) c.in_ok-shares.ensures.empty in
    let handed = IfOk-at_ok (λ _. HaveTaken (with_items c.in_ok-shares.shares shares).items (schedules c.deref_mut-2.result.now) (schedules news)) c.in_ok-hand_out.was c.hand_out.ensures.ok in
    let taken = taken_lent fronts c.in_ok-shares.shares c.deref_mut-2.result.now news shares c.deref_mut-2.ensures.value same_shares handed in
    let moved = IfOk-at_ok (λ _. IsPermutation (dealt shares) (dealt empty ++ c.in_ok-works.works.items)) c.in_ok-deal_all.was c.deal_all.ensures.deals.items in
    subst (λ (l : List Held). AreReady (schedules l)) (sym (lent fronts news same)) (all_ready c.in_ok-works.works.items empty shares (schedules fronts.items) (schedules news) none moved taken few)

pub returns-clause-served : goal.returns-clause-served
returns-clause-served g c =
    let fronts = c.args.self.now.fronts in
    let news = c.hand_out.new.fronts in
    let shares = c.deal_all.new.shares in
    let same : length news ≡ length fronts.items = search rules in
    let same_shares : length shares ≡ length c.in_ok-shares.shares.items = search rules in
    let few : length shares ≡ length (schedules fronts.items) = same_shares ∙ c.in_ok-shares.ensures.count ∙ sym c.requires.idle.count_is in
    let empty = c.deref_mut.result.now in
    let none : All IsEmpty empty = subst (All IsEmpty) (sym c.deref_mut.ensures.value) c.in_ok-shares.ensures.empty in
    let handed = IfOk-at_ok (λ _. HaveTaken (with_items c.in_ok-shares.shares shares).items (schedules c.deref_mut-2.result.now) (schedules news)) c.in_ok-hand_out.was c.hand_out.ensures.ok in
    let taken = taken_lent fronts c.in_ok-shares.shares c.deref_mut-2.result.now news shares c.deref_mut-2.ensures.value same_shares handed in
    let moved = IfOk-at_ok (λ _. IsPermutation (dealt shares) (dealt empty ++ c.in_ok-works.works.items)) c.in_ok-deal_all.was c.deal_all.ensures.deals.items in
    let serves = IfOk-at_ok _ c.in_ok-deal_all.was c.deal_all.ensures.serves.served in
    subst (λ (l : List Held). AreServed c.deal_all.new.hosts (length c.args.fetchers.now) (schedules l)) (sym (lent fronts news same))
    (all_served c.in_ok-works.works.items empty shares (schedules fronts.items) (schedules news) none moved taken few c.begin_turn.new.self c.deal_all.new.hosts (length c.args.fetchers.now)
    (record { numbers = c.deal_all.ensures.serves.numbers; served = serves }))

pub returns-clause-numbers : goal.returns-clause-numbers
returns-clause-numbers g c = λ name n is. c.deal_all.ensures.serves.numbers name n (c.begin_turn.ensures name ∙ is)

pub returns-clause-agents : goal.returns-clause-agents
returns-clause-agents g c =
    let fronts = c.args.self.now.fronts in
    let same : length c.hand_out.new.fronts ≡ length fronts.items = search rules in
    let some = c.hand_out.ensures.some in
    let was : c.deref_mut-2.result.now ≡ fronts.items = c.deref_mut-2.ensures.value in
    let taken = subst (λ (l : List Held). HaveTaken some.0 (schedules l) (schedules c.hand_out.new.fronts)) was some.1 in
    subst (λ (l : List Held). AreFor c.args.self.now.agent (schedules l)) (sym (lent fronts c.hand_out.new.fronts same))
    (taken_agents c.args.self.now.agent some.0 (schedules fronts.items) (schedules c.hand_out.new.fronts) taken c.requires.idle.agents)

pub returns-in_err-works-clause-batches : goal.returns-in_err-works-clause-batches
returns-in_err-works-clause-batches g c = λ begun.
    let tells = g.S.Store.told in
    let was = c.args.yard.now in
    let now = c.front.new.self in
    let looks = looks_front c.front.result _ _ was.parts now.parts (tells was.store) (tells now.store) c.front.ensures.reads c.front.ensures.states c.front.ensures.rest c.front.ensures.goes_on in
    load_batch c.front.result _ was.parts now.parts (tells was.store) (tells now.store) looks was.rest_is now.rest_is (subst IsDrum c.front.ensures.states.same c.front.ensures.goes_on.drum)
    (g.met.S.Store.is_consistent now.store) begun

pub returns-in_err-shares-clause-batches : goal.returns-in_err-shares-clause-batches
returns-in_err-shares-clause-batches g c = λ begun.
    let tells = g.S.Store.told in
    let was = c.args.yard.now in
    let now = c.front.new.self in
    let looks = looks_front c.front.result _ _ was.parts now.parts (tells was.store) (tells now.store) c.front.ensures.reads c.front.ensures.states c.front.ensures.rest c.front.ensures.goes_on in
    load_batch c.front.result _ was.parts now.parts (tells was.store) (tells now.store) looks was.rest_is now.rest_is (subst IsDrum c.front.ensures.states.same c.front.ensures.goes_on.drum)
    (g.met.S.Store.is_consistent now.store) begun

pub returns-in_err-deal_all-clause-batches : goal.returns-in_err-deal_all-clause-batches
returns-in_err-deal_all-clause-batches g c = λ begun.
    let tells = g.S.Store.told in
    let law = g.met.S.Store.is_consistent in
    let was = c.args.yard.now in
    let mid = c.front.new.self in
    let now = c.deal_all.new.yard in
    let looks = looks_front c.front.result _ _ was.parts mid.parts (tells was.store) (tells mid.store) c.front.ensures.reads c.front.ensures.states c.front.ensures.rest c.front.ensures.goes_on in
    load_batch c.deal_all.result _ was.parts now.parts (tells was.store) (tells now.store)
    (looks_then c.front.result c.deal_all.result was.parts mid.parts now.parts (tells was.store) (tells mid.store) (tells now.store) (law mid.store) looks c.deal_all.ensures.deals.looks)
    was.rest_is now.rest_is (subst IsDrum c.front.ensures.states.same c.front.ensures.goes_on.drum) (law now.store) begun

pub returns-in_err-hand_out-clause-batches : goal.returns-in_err-hand_out-clause-batches
returns-in_err-hand_out-clause-batches g c = λ begun.
    let tells = g.S.Store.told in
    let law = g.met.S.Store.is_consistent in
    let was = c.args.yard.now in
    let mid = c.front.new.self in
    let now = c.deal_all.new.yard in
    let looks = looks_front c.front.result _ _ was.parts mid.parts (tells was.store) (tells mid.store) c.front.ensures.reads c.front.ensures.states c.front.ensures.rest c.front.ensures.goes_on in
    load_batch c.deal_all.result _ was.parts now.parts (tells was.store) (tells now.store)
    (looks_then c.front.result c.deal_all.result was.parts mid.parts now.parts (tells was.store) (tells mid.store) (tells now.store) (law mid.store) looks c.deal_all.ensures.deals.looks)
    was.rest_is now.rest_is (subst IsDrum c.front.ensures.states.same c.front.ensures.goes_on.drum) (law now.store) begun

pub returns-clause-batches : goal.returns-clause-batches
returns-clause-batches g c = λ begun.
    let tells = g.S.Store.told in
    let law = g.met.S.Store.is_consistent in
    let was = c.args.yard.now in
    let mid = c.front.new.self in
    let now = c.deal_all.new.yard in
    let looks = looks_front c.front.result _ _ was.parts mid.parts (tells was.store) (tells mid.store) c.front.ensures.reads c.front.ensures.states c.front.ensures.rest c.front.ensures.goes_on in
    load_batch c.deal_all.result _ was.parts now.parts (tells was.store) (tells now.store)
    (looks_then c.front.result c.deal_all.result was.parts mid.parts now.parts (tells was.store) (tells mid.store) (tells now.store) (law mid.store) looks c.deal_all.ensures.deals.looks)
    was.rest_is now.rest_is (subst IsDrum c.front.ensures.states.same c.front.ensures.goes_on.drum) (law now.store) begun

pub returns-in_err-works-clause-refused : goal.returns-in_err-works-clause-refused
returns-in_err-works-clause-refused g c =
    let tells = g.S.Store.told in
    let was = c.args.yard.now in
    let now = c.front.new.self in
    let out = err_from_is_err_and c.from_residual.result c.from_residual.ensures.1 in
    refused_on c.front.result c.from_residual.result c.in_err-works.field-0.0 now.parts (tells now.store) c.in_err-works.was (out.1 ∙ ap (λ e. Err e) out.2)
    (refused_looks c.front.result was.parts now.parts (tells was.store) (tells now.store)
    (looks_front c.front.result _ _ was.parts now.parts (tells was.store) (tells now.store) c.front.ensures.reads c.front.ensures.states c.front.ensures.rest c.front.ensures.goes_on))

pub returns-in_err-shares-clause-refused : goal.returns-in_err-shares-clause-refused
returns-in_err-shares-clause-refused g c =
    let result = c.from_residual-in_err-shares.result in
    let out = err_from_is_err_and result c.from_residual-in_err-shares.ensures.1 in
    refused_calm result c.front.new.self.parts (g.S.Store.told c.front.new.self.store) (calm_memory result out.0 out.1 out.2)

pub returns-in_err-deal_all-clause-refused : goal.returns-in_err-deal_all-clause-refused
returns-in_err-deal_all-clause-refused g c =
    let tells = g.S.Store.told in
    let mid = c.front.new.self in
    let now = c.deal_all.new.yard in
    let result = c.from_residual-in_err-deal_all.result in
    let out = err_from_is_err_and result c.from_residual-in_err-deal_all.ensures.1 in
    refused_on c.deal_all.result result c.in_err-deal_all.field-0.0 now.parts (tells now.store) c.in_err-deal_all.was (out.1 ∙ ap (λ e. Err e) out.2)
    (refused_looks c.deal_all.result mid.parts now.parts (tells mid.store) (tells now.store) c.deal_all.ensures.deals.looks)

pub returns-in_err-hand_out-clause-refused : goal.returns-in_err-hand_out-clause-refused
returns-in_err-hand_out-clause-refused g c =
    let result = c.from_residual-in_err-hand_out.result in
    let out = err_from_is_err_and result c.from_residual-in_err-hand_out.ensures.1 in
    refused_calm result c.deal_all.new.yard.parts (g.S.Store.told c.deal_all.new.yard.store) (calm_memory result out.0 out.1 out.2)

pub returns-clause-refused : goal.returns-clause-refused
returns-clause-refused g c = refused_ok tt c.deal_all.new.yard.parts (g.S.Store.told c.deal_all.new.yard.store)
