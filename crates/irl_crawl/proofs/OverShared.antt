-- Workers over a store that they share: what each is before its turn, and what all of them leave.
use Rattle.std.proofs.Common.{◌≡◌, ◌∙◌, ℕ, zero, suc, List, [], ◌∷◌, ◌++◌, length, map, Option, Some, Result, IfOk, refl, sym, ap, subst, arith}
use Rattle.std.specs.Prelude.{IsSome, Vec}
use Rattle.std.specs.Vec.{with_items}
use Rattle.std.specs.declared.alloc.Global.{Global}
use Rattle.std.specs.List.{All, AllByRecursion, AllZip, Any, flat_map}
use Rattle.std.proofs.lemmas.List.Elements.{All-from_recursion, recursion_from_All}
use Rattle.irl_base.specs.declared.fault.Fault.{Fault}
use Rattle.irl_disk.specs.declared.store.Store.{Ghosts}
use Rattle.irl_key.specs.Links.{IsCanonicalText}
use Rattle.irl_offer.specs.Offering.{Entered, IsTakenBy}
use Rattle.irl_offer.specs.Tuple.{Tuple}
use Rattle.irl_polite.specs.Inside.{Held, schedule}
use Rattle.irl_polite.specs.Schedule.{Schedule}
use Rattle.irl_record.specs.Widening.{Answers}
use Rattle.irl_record.specs.Wired.{Made}
use Rattle.irl_fetch.specs.declared.working.WorkLog.{WorkLog}
use Rattle.irl_fetch.specs.Telling.{TakesPages, fetcher, offering}
use Rattle.irl_yard.specs.declared.yard.Yard.{Yard}
use Rattle.irl_desk.specs.Serving.{IsFresh, Serves}
use Rattle.irl_lock.specs.Books.{fresh_of}
use Rattle.irl_lock.specs.Seated.{GoesOn, goes_on_none}
use Rattle.irl_lock.specs.Sharing.{Closes, IsFree, IsFreshPass, IsOf, entries_in, opening_of, parts_in_all}
use Rattle.irl_lock.specs.declared.pass.Pass.{Pass}
use Rattle.irl_lock.specs.declared.seated.Seated.{Seated}
use Rattle.irl_lock.specs.declared.shared.Shared.{Shared}
use Rattle.irl_workers.specs.Workers.{EachWorker, IsDone, IsReady}
use Rattle.irl_workers.specs.declared.halves.Worker.{Worker}
use Rattle.irl_crawl.specs.Workers.{AllGoOn, AreFor, AreReady, IsMomentBy, given_by, schedules}
use Rattle.irl_crawl.specs.Working.{AreByWorker, Joins, WorkAll}
use Rattle.irl_crawl.proofs.AllWork.{AllDid, all_moments, all_order, all_works}
use Rattle.irl_crawl.proofs.Seating.{each_told, flat_maps, lent, maps, zip_count}
use Rattle.irl_crawl.proofs.SideBySide.{IsFirst, all_did, all_follow, all_over}

module _ {S : Type 0} {tells : Ghosts S} where
  abbrev pass_of : Worker (Seated S tells) → Pass S tells
  pass_of seat = seat.offers.pass

  abbrev front_of : Worker (Seated S tells) → Held
  front_of seat = seat.front

  -- how a pass tells what it offers
  abbrev entries : Seated S tells → Option (List Entered)
  entries seated = Some (entries_in seated.pass)

  abbrev last_fault : Seated S tells → Option Fault
  last_fault seated = seated.pass.last

  abbrev takes : Seated S tells → Tuple → Type 0
  takes seated = IsTakenBy IsCanonicalText (opening_of seated.shared.now).parts.urls.settings.kind

  abbrev follows : Seated S tells → Seated S tells → Type 0
  follows old new = GoesOn old.shared.now new.shared.now old.pass new.pass

  -- ---- passes that have done nothing
  pub fresh_own : (shared : Shared S tells) (passes : List (Pass S tells)) → AllByRecursion (IsFreshPass shared) passes → AllByRecursion (IsOf shared) passes
  fresh_own shared [] fresh = tt
  fresh_own shared (pass ∷ passes) fresh = (fresh.0.own, fresh_own shared passes fresh.1)

  pub fresh_free : (shared : Shared S tells) (passes : List (Pass S tells)) → AllByRecursion (IsFreshPass shared) passes → AllByRecursion IsFree passes
  fresh_free shared [] fresh = tt
  fresh_free shared (pass ∷ passes) fresh = (fresh.0.free, fresh_free shared passes fresh.1)

  pub fresh_entries : (shared : Shared S tells) (passes : List (Pass S tells)) → AllByRecursion (IsFreshPass shared) passes → flat_map entries_in passes ≡ []
  fresh_entries shared [] fresh = refl
  fresh_entries shared (pass ∷ passes) fresh = ap (λ (l : List Entered). l ++ flat_map entries_in passes) fresh.0.entries ∙ fresh_entries shared passes fresh.1

  -- ---- before a turn
  module _ (shared : Shared S tells) where
    ready_each : (seats : List (Worker (Seated S tells))) → TakesPages (IsTakenBy IsCanonicalText (opening_of shared).parts.urls.settings.kind)
        → AllByRecursion (λ seat. IsFreshPass shared seat.offers.pass) seats → AllByRecursion (λ seat. seat.offers.shared.now ≡ shared) seats
        → AreReady (map (λ seat. schedule seat.front) seats) → AllByRecursion (IsReady last_fault takes) seats
    ready_each [] pages fresh same ready = tt
    ready_each (seat ∷ seats) pages fresh same ready = (
      record {
        calm = fresh.0.last;
        pages = subst (λ (s : Shared S tells). TakesPages (IsTakenBy IsCanonicalText (opening_of s).parts.urls.settings.kind)) (sym same.0) pages;
        awaits = ready 0 (schedule seat.front) refl;
      },
      ready_each seats pages fresh.1 same.1 (λ at. ready (suc at)),
    )

    pub all_ready : (made seats : List (Worker (Seated S tells))) (passes : List (Pass S tells)) (taken fronts : Vec Held Global) → seats ≡ made → taken ≡ fronts
        → map (λ w. w.offers.pass) made ≡ passes → map (λ w. w.front) made ≡ taken.items → AllByRecursion (λ seat. seat.offers.shared.now ≡ shared) made
        → TakesPages (IsTakenBy IsCanonicalText (opening_of shared).parts.urls.settings.kind) → AllByRecursion (IsFreshPass shared) passes → AreReady (schedules fronts.items)
        → All (IsReady last_fault takes) seats
    all_ready made seats passes taken fronts seats_are taken_are are_passes are_fronts same pages fresh ready =
        subst (All (IsReady last_fault takes)) (sym seats_are)
        (All-from_recursion (IsReady last_fault takes) made
        (ready_each made pages (each_told pass_of (IsFreshPass shared) made passes are_passes fresh) same
        (subst AreReady (sym (maps front_of schedule made ∙ ap schedules (are_fronts ∙ ap (λ (v : Vec Held Global). v.items) taken_are))) ready)))

    -- ---- behind it
    own_each : (seats after : List (Worker (Seated S tells))) → AllZip (λ a b. follows a.offers b.offers) seats after → AllByRecursion (λ seat. seat.offers.shared.now ≡ shared) seats
        → AllByRecursion (IsOf shared) (map pass_of after)
    own_each [] [] on same = tt
    own_each (seat ∷ seats) (next ∷ after) on same =
        (subst (λ (s : Shared S tells). IsOf s next.offers.pass) (on.0.shared ∙ same.0) next.offers.own, own_each seats after on.1 same.1)
    own_each [] (next ∷ after) on same = absurd on
    own_each (seat ∷ seats) [] on same = absurd on

  free_each : (after : List (Worker (Seated S tells))) → AllByRecursion IsFree (map pass_of after)
  free_each [] = tt
  free_each (next ∷ after) = (next.offers.free, free_each after)

  parts_each : (seats after : List (Worker (Seated S tells))) → AllZip (λ a b. follows a.offers b.offers) seats after → parts_in_all (map pass_of after) ≡ parts_in_all (map pass_of seats)
  parts_each [] [] on = refl
  parts_each (seat ∷ seats) (next ∷ after) on = let rest = parts_each seats after on.1 in omega (arith, rest, on.0.parts)
  parts_each [] (next ∷ after) on = absurd on
  parts_each (seat ∷ seats) [] on = absurd on

  -- ---- the whole
  -- Workers were made of passes and fronts, and lent; each has done its turn.
  module _ {F : Type 0} (asked : F → Made) (gives : F → ℕ → Answers) (faults last : F → ℕ) (aim : F → List ℕ) (agent suffixes : List ℕ) (shared : Shared S tells) (olds news : List F)
      (passes : List (Pass S tells)) (taken fronts : Vec Held Global) (made : Vec (Worker (Seated S tells)) Global) (seats after : List (Worker (Seated S tells))) (taken_are : taken ≡ fronts)
      (their_passes : map (λ w. w.offers.pass) made.items ≡ passes) (their_fronts : map (λ w. w.front) made.items ≡ taken.items)
      (their_shared : AllByRecursion (λ w. w.offers.shared.now ≡ shared) made.items) (fresh : AllByRecursion (IsFreshPass shared) passes) (for : AreFor agent (schedules fronts.items))
      (seats_are : seats ≡ made.items) (done : EachWorker (IsDone (fetcher asked gives faults last aim) (offering entries last_fault takes follows) suffixes) olds news seats after) where
    are_passes : map pass_of seats ≡ passes
    are_passes = ap (map pass_of) seats_are ∙ their_passes

    are_fronts : map front_of seats ≡ fronts.items
    are_fronts = ap (map front_of) seats_are ∙ their_fronts ∙ ap (λ (v : Vec Held Global). v.items) taken_are

    are_shared : AllByRecursion (λ w. w.offers.shared.now ≡ shared) seats
    are_shared = subst (AllByRecursion (λ (w : Worker (Seated S tells)). w.offers.shared.now ≡ shared)) (sym seats_are) their_shared

    first_each : (seats : List (Worker (Seated S tells))) → AllByRecursion (λ seat. IsFreshPass shared seat.offers.pass) seats → AllByRecursion (λ seat. (schedule seat.front).agent ≡ agent) seats
        → AllByRecursion (IsFirst asked gives faults last aim entries last_fault takes follows (λ seated. entries_in seated.pass) (λ o. refl) agent suffixes) seats
    first_each [] fresh for = tt
    first_each (seat ∷ seats) fresh for = (record { none = fresh.0.entries; calm = fresh.0.last; for = for.0 }, first_each seats fresh.1 for.1)

    befores_are : map (λ seat. schedule seat.front) seats ≡ schedules fronts.items
    befores_are = maps front_of schedule seats ∙ ap schedules are_fronts

    follow : AllZip (λ a b. follows a.offers b.offers) seats after
    follow = all_follow asked gives faults last aim entries last_fault takes follows (λ seated. entries_in seated.pass) (λ o. refl) agent suffixes olds news seats after
        (λ x. goes_on_none x.shared.now x.pass) done

    abbrev back : List (Worker (Seated S tells))
    back = (with_items made after).items

    whole : back ≡ after
    whole = lent made after (zip_count (λ (a : Worker (Seated S tells)) (b : Worker (Seated S tells)). follows a.offers b.offers) seats after follow ∙ ap length seats_are)

    pub over : AllByRecursion (λ w. IsSome w.done) back
    over = subst (AllByRecursion (λ (w : Worker (Seated S tells)). IsSome w.done)) (sym whole)
        (all_over asked gives faults last aim entries last_fault takes follows (λ seated. entries_in seated.pass) (λ o. refl) agent suffixes olds news seats after done)

    -- What came of them was taken back.
    module _ (results : List (Result WorkLog Fault)) (backs : List (Pass S tells)) (afters : List Held) (are_results : map (λ r. Some r) results ≡ map (λ w. w.done) back)
        (are_backs : backs ≡ map (λ w. w.offers.pass) back) (are_afters : afters ≡ map (λ w. w.front) back) where
      backs_are : backs ≡ map pass_of after
      backs_are = are_backs ∙ ap (map pass_of) whole

      afters_are : afters ≡ map front_of after
      afters_are = are_afters ∙ ap (map front_of) whole

      did : AllDid asked gives faults last aim agent suffixes olds news (schedules fronts.items) (schedules afters) results (flat_map entries_in backs) (map (λ pass. pass.last) backs)
      did =
          subst (λ (x : List Schedule × List Schedule × List Entered × List (Option Fault)). AllDid asked gives faults last aim agent suffixes olds news x.0 x.1 results x.2 x.3)
          (λ i. (
            befores_are i,
            (maps front_of schedule after ∙ ap schedules (sym afters_are)) i,
            (flat_maps pass_of entries_in after ∙ ap (flat_map entries_in) (sym backs_are)) i,
            (maps pass_of (λ (pass : Pass S tells). pass.last) after ∙ ap (map (λ (pass : Pass S tells). pass.last)) (sym backs_are)) i,
          ))
          (all_did asked gives faults last aim entries last_fault takes follows (λ seated. entries_in seated.pass) (λ o. refl) agent suffixes olds news seats after results done
          (first_each seats (each_told pass_of (IsFreshPass shared) seats passes are_passes fresh)
          (each_told (λ seat. schedule seat.front) (λ s. s.agent ≡ agent) seats (schedules fronts.items) befores_are (recursion_from_All (λ s. s.agent ≡ agent) (schedules fronts.items) for)))
          (are_results ∙ ap (map (λ (w : Worker (Seated S tells)). w.done)) whole))

      pub works : (result : Result WorkLog Fault) → Joins result results
          → WorkAll result (given_by asked gives faults olds news) agent suffixes (schedules fronts.items) (schedules afters) (flat_map entries_in backs) (map (λ pass. pass.last) backs)
      works result joins = all_works result joins did

      pub order : (result : Result WorkLog Fault) → Joins result results → IfOk result (λ log. AreByWorker (schedules fronts.items) log.done.items)
      order result joins = all_order result joins did

      pub moments : (result : Result WorkLog Fault) → Joins result results → IfOk result (λ log. All (λ note. IsMomentBy last olds news note.when) log.notes.items)
      moments result joins = all_moments result joins did

      pub goes_on : AllGoOn asked gives faults last aim olds news
      goes_on = did.goes_on

      pub own : AllByRecursion (IsOf shared) backs
      own = subst (AllByRecursion (IsOf shared)) (sym backs_are) (own_each shared seats after follow are_shared)

      pub free : AllByRecursion IsFree backs
      free = subst (AllByRecursion IsFree) (sym backs_are) (free_each after)

      pub parts : parts_in_all backs ≡ parts_in_all passes
      parts = ap parts_in_all backs_are ∙ parts_each seats after follow ∙ ap parts_in_all are_passes

  -- ---- as the store is closed
  stops_any : (passes : List (Pass S tells)) (last : Option Fault) → AllByRecursion (λ pass. (fault : Fault) → pass.last ≡ Some fault → last ≡ Some fault) passes → (fault : Fault)
      → Any (λ l. l ≡ Some fault) (map (λ pass. pass.last) passes) → last ≡ Some fault
  stops_any [] last stops fault any = absurd (omega (arith, any.2))
  stops_any (pass ∷ passes) last stops fault (zero, l, within, stands, is) = stops.0 fault (stands ∙ is)
  stops_any (pass ∷ passes) last stops fault (suc at, l, within, stands, is) = stops_any passes last stops.1 fault (at, l, omega (arith, within), stands, is)

  -- Nothing waits, and nothing was entered, where it is just opened.
  pub fresh_is : (opening : Yard S tells) → IsFresh (fresh_of opening)
  fresh_is opening = record { empty = λ b. refl; entries = refl; last = refl }

  module _ {result : Result (Yard S tells) (Fault × Yard S tells)} {opening : Yard S tells} {passes : List (Pass S tells)} (closes : Closes result opening passes) where
    pub closes_stops : (fault : Fault) → Any (λ last. last ≡ Some fault) (map (λ pass. pass.last) passes) → closes.mid.last ≡ Some fault
    closes_stops = stops_any passes closes.mid.last closes.stops

    -- It served what was handed in.
    pub closes_serves : Serves tells.told closes.news (fresh_of opening) closes.mid
    closes_serves = record { enters = λ none. closes.enters; again = λ fault no. absurd (cc) }
