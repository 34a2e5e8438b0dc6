-- What the workers did over a store that they share, and what is handed back as it is closed, together.
use Rattle.std.proofs.Common.{◌≡◌, ◌∙◌, ◌⊎◌, ⊎_elim, inl, inr, ℕ, ◌≤◌, List, [], ◌∷◌, ◌++◌, length, map, Option, Some, Result, Ok, Err, IfOk, IsErrOf, refl, sym, ap, subst, arith}
use Rattle.std.specs.Prelude.{OnOk}
use Rattle.std.specs.List.{All, AllByRecursion, Any, flat_map}
use Rattle.std.specs.List.Sorted.{IsPermutation}
use Rattle.std.proofs.lemmas.List.{append-nil}
use Rattle.std.proofs.lemmas.List.Elements.{All-nil}
use Rattle.std.proofs.lemmas.List.Sorted.{IsPermutation-refl, IsPermutation-trans}
use Rattle.irl_base.proofs.Among.{among_none}
use Rattle.irl_base.specs.Among.{IsAmong}
use Rattle.irl_base.specs.declared.fault.Fault.{Fault}
use Rattle.irl_base.specs.declared.fault.Fault.TheVariants.{Failed, Memory}
use Rattle.irl_bay.specs.Drum.{IsDrum}
use Rattle.irl_disk.specs.Images.{IsConsistent, Told}
use Rattle.irl_events.specs.State.{State}
use Rattle.irl_key.specs.declared.web.Work.{Work}
use Rattle.irl_ledger.specs.Settling.{IsFlushed}
use Rattle.irl_offer.specs.Offering.{Entered}
use Rattle.irl_offer.specs.Tuple.{Tuple}
use Rattle.irl_offer.specs.declared.receipt.Receipt.{Receipt}
use Rattle.irl_offer.specs.declared.settings.Settings.{Settings}
use Rattle.irl_polite.specs.Schedule.{Schedule}
use Rattle.irl_reach.proofs.Turns.{added_same}
use Rattle.irl_schedule.proofs.Outcomes.{ok_gives}
use Rattle.irl_yard.specs.declared.parts.Parts.{Parts}
use Rattle.irl_yard.specs.Holding.{IsOpenRest, IsSound}
use Rattle.irl_yard.specs.Sending.{HasBegun}
use Rattle.irl_fetch.specs.Handling.{Handled, Noted, answered, done_of, entered_of, receipts_of}
use Rattle.irl_fetch.specs.declared.working.WorkLog.{WorkLog}
use Rattle.irl_desk.specs.Closing.{Closes, ended}
use Rattle.irl_desk.specs.Serving.{IsFresh, Serves, Serving}
use Rattle.irl_crawl.specs.Fetching.{Fetches, FetchesWhole, entries_of}
use Rattle.irl_crawl.specs.Offering.{OffersSome, OnlyOffers}
use Rattle.irl_crawl.specs.Workers.{AreFor, Given, loaded}
use Rattle.irl_crawl.specs.Working.{Begun, HaveWorked, IsBegun, KnowAsNoted, WorkAll}
use Rattle.irl_crawl.proofs.AllWork.{have_none}
use Rattle.irl_crawl.proofs.Batches.{grown_same}
use Rattle.irl_crawl.proofs.Leading.{leads_none}
use Rattle.irl_crawl.proofs.Lifting.{IsBehind, closed_behind, closed_leads, hands, rest_kept, served_behind}
use Rattle.irl_crawl.proofs.Moving.{all_moved, leads_moved}
use Rattle.irl_crawl.proofs.Refusing.{refused_desk}
use Rattle.irl_crawl.specs.Refusing.{RefusesAsFound}

-- ---- what was done, whatever is answered
-- all of it, but for what is flushed
record IsWhole (log : WorkLog) (agent : List ℕ) (handled : List Handled) (noted : List Noted) (left : List Work) (begun : List Begun) (befores afters : List Schedule) : Type 0 where
  done : log.done.items ≡ map done_of handled
  notes : log.notes.items ≡ map (λ one. one.note) noted
  none_left : left ≡ []
  none_begun : begun ≡ []
  known : KnowAsNoted agent noted befores afters
  items : All (λ s. s.items ≡ []) afters

record WasWorked (result : Result WorkLog Fault) (given : Given) (agent suffixes : List ℕ) (befores afters : List Schedule) (handed : List Entered) : Type 0 where
  handled : List Handled
  noted : List Noted
  left : List Work
  worked : HaveWorked given agent suffixes handled noted left befores
  begun : List Begun
  others : List Work
  is_left : IsPermutation left (map (λ one. one.work) begun ++ others)
  are_begun : All (IsBegun given.gives agent suffixes noted befores) begun
  few : length begun ≤ length befores
  are_entries : IsPermutation handed (entries_of handled begun)
  whole : IfOk result (λ log. IsWhole log agent handled noted left begun befores afters)
  asked : OnOk result (given.made ≤ answered handled noted)

was_worked : (result : Result WorkLog Fault) (given : Given) (agent suffixes : List ℕ) (befores afters : List Schedule) (handed : List Entered) (lasts : List (Option Fault))
    → WorkAll result given agent suffixes befores afters handed lasts → WasWorked result given agent suffixes befores afters handed
was_worked (Ok log) given agent suffixes befores afters handed lasts all =
    let f = all.finish in
    record {
      handled = f.handled;
      noted = f.noted;
      left = [];
      worked = f.worked;
      begun = [];
      others = [];
      is_left = IsPermutation-refl [];
      are_begun = All-nil _;
      few = omega arith;
      are_entries = subst (IsPermutation handed) (sym (append-nil (flat_map entered_of f.handled))) f.are_entries;
      whole = record { done = f.done; notes = f.notes; none_left = refl; none_begun = refl; known = f.known; items = f.none_left };
      asked = f.asked;
    }
was_worked (Err fault) given agent suffixes befores afters handed lasts all =
    let s = all.stop in
    record {
      handled = s.handled;
      noted = s.noted;
      left = s.left;
      worked = s.worked;
      begun = s.begun;
      others = s.others;
      is_left = s.is_left;
      are_begun = s.are_begun;
      few = s.few;
      are_entries = s.are_entries;
      whole = tt;
      asked = tt;
    }

-- ---- receipts
flushed_first : (P : Receipt → Type 0) (entries others : List Entered) → AllByRecursion (λ one. P one.receipt) (entries ++ others)
    → AllByRecursion P (receipts_of entries) × AllByRecursion (λ one. P one.receipt) others
flushed_first P [] others all = (tt, all)
flushed_first P (one ∷ entries) others all = let rest = flushed_first P entries others all.1 in ((all.0, rest.0), rest.1)

-- those of what was done are those of what was entered
flushed_done : (P : Receipt → Type 0) (handled : List Handled) → AllByRecursion (λ one. P one.receipt) (flat_map entered_of handled)
    → AllByRecursion (λ d. AllByRecursion P d.receipts) (map done_of handled)
flushed_done P [] all = tt
flushed_done P (one ∷ handled) all =
    let parts = flushed_first P (entered_of one) (flat_map entered_of handled) all in
    (parts.0, flushed_done P handled parts.1)

-- ---- answers
whole_flushed : (result : Result WorkLog Fault) (agent : List ℕ) (handled : List Handled) (noted : List Noted) (left : List Work) (begun : List Begun) (befores afters : List Schedule) (now : Parts)
    → IfOk result (λ log. IsWhole log agent handled noted left begun befores afters) → AllByRecursion (λ one. IsFlushed now.urls one.receipt) (entries_of handled begun)
    → IfOk result (λ log. FetchesWhole log agent handled noted left begun befores afters now)
whole_flushed (Ok log) agent handled noted left begun befores afters now whole flushed =
    let entries : entries_of handled begun ≡ flat_map entered_of handled = ap (λ (l : List Begun). entries_of handled l) whole.none_begun ∙ append-nil (flat_map entered_of handled) in
    let all = subst (AllByRecursion (λ (one : Entered). IsFlushed now.urls one.receipt)) entries flushed in
    record {
      done = whole.done;
      notes = whole.notes;
      none_left = whole.none_left;
      none_begun = whole.none_begun;
      flushed = subst (AllByRecursion (λ (d : _). AllByRecursion (IsFlushed now.urls) d.receipts)) (sym whole.done) (flushed_done (IsFlushed now.urls) handled all);
      known = whole.known;
      items = whole.items;
    }
whole_flushed (Err fault) agent handled noted left begun befores afters now whole flushed = tt

-- ---- the whole
module _ {S : Type 0} (tells : S → Told) (law : (s : S) → IsConsistent (tells s)) (result : Result WorkLog Fault) (given : Given) (agent suffixes : List ℕ) (befores afters : List Schedule)
    (handed : List Entered) (lasts : List (Option Fault)) (old mid : Serving S) (store : S) (parts : Parts) (all : WorkAll result given agent suffixes befores afters handed lasts)
    (fresh : IsFresh old) (entries : List Entered) (moved : IsPermutation entries handed) (serves : Serves tells entries old mid)
    (stops : (fault : Fault) → Any (λ last. last ≡ Some fault) lasts → mid.last ≡ Some fault) (start : S) (first : Parts)
    (store_is : old.store ≡ start) (parts_are : old.parts ≡ first) (opened : IsOpenRest old.parts.urls old.parts.rest (tells old.store).files) (drum : IsDrum first.urls) (begun : HasBegun first.rest)
    (closed : Result (Unit {0}) Fault) (closes : Closes tells closed mid store parts) where
  old_drum : IsDrum old.parts.urls
  old_drum = subst (λ (p : Parts). IsDrum p.urls) (sym parts_are) drum

  old_begun : HasBegun old.parts.rest
  old_begun = subst (λ (p : Parts). HasBegun p.rest) (sym parts_are) begun

  it : WasWorked result given agent suffixes befores afters handed
  it = was_worked result given agent suffixes befores afters handed lasts all

  -- in the order in which the store took them
  are_entries : IsPermutation entries (entries_of it.handled it.begun)
  are_entries = IsPermutation-trans entries handed (entries_of it.handled it.begun) moved it.are_entries

  -- a fault of the workers is want of memory, or the one by which the store stopped
  why : (fault : Fault) → IsErrOf result fault → (fault ≡ Memory) ⊎ (mid.last ≡ Some fault)
  why fault is = ⊎_elim (λ memory. inl memory) (λ some. inr (stops fault some)) (all.fault fault is)

  -- by the answer, where it is as good as the desk's
  fetched : (answer : Result WorkLog Fault) → IsBehind answer closed (ended mid closed store parts closes.arrays).last
      → IfOk answer (λ log. FetchesWhole log agent it.handled it.noted it.left it.begun befores afters parts) → OnOk answer (given.made ≤ answered it.handled it.noted)
      → Fetches answer given agent suffixes befores afters first parts (tells start) (tells store)
  fetched answer behind whole asked =
      subst (λ (p : Parts). Fetches answer given agent suffixes befores afters p parts (tells start) (tells store)) parts_are
      (subst (λ (s : S). Fetches answer given agent suffixes befores afters old.parts parts (tells s) (tells store)) store_is (record {
        handled = it.handled;
        noted = it.noted;
        left = it.left;
        worked = it.worked;
        begun = it.begun;
        others = it.others;
        is_left = it.is_left;
        are_begun = it.are_begun;
        few = it.few;
        whole = whole;
        asked = asked;
        leads = leads_moved entries (entries_of it.handled it.begun) are_entries answer suffixes old.parts.urls.settings old.parts parts (tells old.store) (tells store)
            (closed_leads tells entries old mid closed store parts law opened old_drum old_begun fresh serves closes answer behind);
        rest = rest_kept tells entries old mid closed store parts law opened old_drum old_begun fresh serves closes;
        count = all.count;
        agents = all.agents;
      }))

  -- what it is refused for
  reason : (answer : Result WorkLog Fault) → IsBehind answer closed (ended mid closed store parts closes.arrays).last → RefusesAsFound answer parts (tells store)
  reason answer behind = refused_desk tells entries answer closed old (ended mid closed store parts closes.arrays)
      (hands tells entries old mid closed store parts law opened old_drum old_begun fresh serves closes) behind

  pub reason_closed : (value : Unit {0}) → closed ≡ Ok value → RefusesAsFound result parts (tells store)
  reason_closed value is =
      reason result
      (served_behind tells entries old mid closed store parts law opened old_drum old_begun fresh serves closes result value is why)

  pub reason_refused : (fault : Fault) → closed ≡ Err fault → RefusesAsFound {A = WorkLog} (Err fault) parts (tells store)
  reason_refused fault is = reason (Err fault) (closed_behind tells entries old mid closed store parts law opened old_drum old_begun fresh serves closes (Err fault) fault is refl)

  -- the desk was closed: what the workers answer,
  pub fetched_closed : (value : Unit {0}) → closed ≡ Ok value → Fetches result given agent suffixes befores afters first parts (tells start) (tells store)
  fetched_closed value is =
      fetched result
      (served_behind tells entries old mid closed store parts law opened old_drum old_begun fresh serves closes result value is why)
      (whole_flushed result agent it.handled it.noted it.left it.begun befores afters parts it.whole
      (all_moved (λ (one : Entered). IsFlushed parts.urls one.receipt) entries (entries_of it.handled it.begun) are_entries
      (ok_gives closed value (hands tells entries old mid closed store parts law opened old_drum old_begun fresh serves closes).flushed is))) it.asked

  -- or its refusal
  pub fetched_refused : (fault : Fault) → closed ≡ Err fault → Fetches (Err fault) given agent suffixes befores afters first parts (tells start) (tells store)
  fetched_refused fault is = fetched (Err fault) (closed_behind tells entries old mid closed store parts law opened old_drum old_begun fresh serves closes (Err fault) fault is refl) tt tt

-- there was no memory for a desk
offers_none : {A : Type 0} (suffixes : List ℕ) (settings : Settings) (x : State) → OffersSome {A = A} (Err Memory) suffixes settings [] x x
offers_none suffixes settings x = record {
  only = record { others = refl; grows = grown_same settings x; among = subst (λ (l : List Tuple). IsAmong l []) (sym (added_same x.urls.lists)) (among_none []) };
  all = tt;
  ground = record {
    full = λ n is. let no : ⊥ = cc in absurd no;
    whole = λ f at is. cc;
  };
}

pub not_opened : (given : Given) (agent suffixes : List ℕ) (befores : List Schedule) (parts : Parts) (now : Told) → IsConsistent now → IsDrum parts.urls → IsSound parts → AreFor agent befores
    → given.may_miss 0
    → Fetches (Err Memory) given agent suffixes befores befores parts parts now now
not_opened given agent suffixes befores parts now law drum sound agents none = record {
  handled = [];
  noted = [];
  left = loaded befores;
  worked = have_none given agent suffixes befores none;
  begun = [];
  others = loaded befores;
  is_left = IsPermutation-refl (loaded befores);
  are_begun = All-nil _;
  few = omega arith;
  whole = tt;
  asked = tt;
  leads = leads_none (IsErrOf {T = WorkLog} {E = Fault} (Err Memory) Failed) (OnlyOffers parts.urls.settings []) (OffersSome {A = WorkLog} (Err Memory) suffixes parts.urls.settings []) parts now law
      drum sound
      (λ is. cc) (λ x held. offers_none suffixes parts.urls.settings x);
  rest = refl;
  count = refl;
  agents = agents;
}
