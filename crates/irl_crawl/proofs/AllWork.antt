-- What workers do side by side, each by itself, put together.
use Rattle.std.proofs.Common.{◌≡◌, ◌∙◌, ◌⊎◌, ⊎_elim, ℕ, ◌+◌, ◌*◌, ◌≤◌, zero, suc, List, [], ◌∷◌, ◌++◌, length, map, Option, Some, Result, Ok, Err, IfOk, inl, inr, refl, sym, ap, subst, arith}
use Rattle.std.specs.Prelude.{slice_get}
use Rattle.std.specs.List.{All, Any, flat_map}
use Rattle.std.specs.List.Sorted.{IsPermutation}
use Rattle.std.proofs.lemmas.List.{append-nil, map-append}
use Rattle.std.proofs.lemmas.List.Concat.{flat_map-append}
use Rattle.std.proofs.lemmas.List.Elements.{All-append, All-cons, All-map, All-nil, All-same, All-weaker}
use Rattle.std.proofs.lemmas.List.Sorted.{IsPermutation-append, IsPermutation-append_comm, IsPermutation-append_left, IsPermutation-append_right, IsPermutation-map, IsPermutation-refl, IsPermutation-trans}
use Rattle.std.proofs.lemmas.List.{append_assoc, length-append}
use Rattle.std.proofs.lemmas.Option.{none-some, same_Some}
use Rattle.irl_base.specs.declared.fault.Fault.{Fault}
use Rattle.irl_base.specs.declared.fault.Fault.TheVariants.{Memory}
use Rattle.irl_key.specs.Web.{target_of}
use Rattle.irl_key.specs.declared.web.Work.{Work}
use Rattle.irl_offer.specs.Offering.{Entered}
use Rattle.irl_offer.specs.declared.done.Done.{Done}
use Rattle.irl_offer.specs.declared.note.Note.{Note}
use Rattle.irl_polite.specs.Schedule.{Schedule, host}
use Rattle.irl_polite.specs.declared.known.Known.{Known}
use Rattle.irl_record.specs.Widening.{Answers, Widens}
use Rattle.irl_record.specs.Wired.{Made}
use Rattle.irl_robots.specs.Leave.{host_state, leave_of}
use Rattle.irl_robots.specs.declared.host.HostState.{HostState}
use Rattle.irl_robots.specs.declared.host.Leave.TheVariants.{Allowed}
use Rattle.irl_fetch.specs.declared.working.WorkLog.{WorkLog}
use Rattle.irl_fetch.specs.Handling.{Handled, IsHandled, IsNoted, Noted, answered, done_of, entered_of}
use Rattle.irl_fetch.specs.Pages.{IsPart}
use Rattle.irl_fetch.specs.Telling.{Fetcher, GoesOn, MakesAtMost, fetcher, given_since}
use Rattle.irl_fetch.specs.Working.{HasWorked, IsKnownOf, IsStateOf}
use Rattle.irl_fetch.proofs.Handling.{answered_both, any_alone, any_left, any_right, any_weaker, handled_wider, noted_wider}
use Rattle.irl_fetch.proofs.Jobs.{part_wider}
use Rattle.irl_crawl.specs.Workers.{AllGoOn, AreFor, Given, IsGivenBy, IsMomentBy, IsStateAmong, given_by, loaded}
use Rattle.irl_crawl.specs.Working.{AreByWorker, Begun, FinishAll, HaveWorked, IsBegun, IsWholeOf, Joins, KeepDelays, KnowAsNoted, KnowByMoment, StopAll, WorkAll, begun_entries}
use Rattle.irl_crawl.proofs.Rising.{unanswered, unanswered_both}

abbrev works_of : List Handled → List Work
works_of handled = map (λ one. one.work) handled

abbrev works_begun : List Begun → List Work
works_begun begun = map (λ one. one.work) begun

pub have_none : (given : Given) (agent suffixes : List ℕ) (befores : List Schedule) → given.may_miss 0 → HaveWorked given agent suffixes [] [] (loaded befores) befores
have_none given agent suffixes befores may = record { items = IsPermutation-refl (loaded befores); each = All-nil _; notes = All-nil _; missing_are = may }

-- ## Two lists, each of two parts
turned : {X : Type 0} (ws xs ys zs : List X) → IsPermutation ((ws ++ xs) ++ (ys ++ zs)) ((ws ++ ys) ++ (xs ++ zs))
turned {X} ws xs ys zs =
    let inner : IsPermutation (xs ++ (ys ++ zs)) (ys ++ (xs ++ zs)) =
    subst (λ (l : List X). IsPermutation l (ys ++ (xs ++ zs))) (append_assoc xs ys zs)
    (subst (IsPermutation ((xs ++ ys) ++ zs)) (append_assoc ys xs zs) (IsPermutation-append_left zs (xs ++ ys) (ys ++ xs) (IsPermutation-append_comm xs ys))) in
    subst (λ (l : List X). IsPermutation l ((ws ++ ys) ++ (xs ++ zs))) (sym (append_assoc ws xs (ys ++ zs)))
    (subst (IsPermutation (ws ++ (xs ++ (ys ++ zs)))) (sym (append_assoc ws ys (xs ++ zs))) (IsPermutation-append_right ws (xs ++ (ys ++ zs)) (ys ++ (xs ++ zs)) inner))

-- what both hold is the first parts, and then the others
both_parts : {X : Type 0} (one two a b c d : List X) → IsPermutation one (a ++ b) → IsPermutation two (c ++ d) → IsPermutation (one ++ two) ((a ++ c) ++ (b ++ d))
both_parts one two a b c d first second =
    IsPermutation-trans (one ++ two) ((a ++ b) ++ (c ++ d)) ((a ++ c) ++ (b ++ d)) (IsPermutation-append one (a ++ b) two (c ++ d) first second) (turned a b c d)

-- ## One worker
-- what of it was begun, by what it was given, and by the states that it knew
pub record HasBegun (gives : Answers) (IsState : List ℕ → HostState → Type 0) (suffixes : List ℕ) (begun : Begun) : Type 0 where
  pub state : HostState
  pub known : IsState (host begun.work) state
  pub allowed : leave_of state (target_of begun.work.web) ≡ Allowed
  pub some : IsPart gives suffixes begun.work.web begun.part

begun_one : (gives more : Answers) (IsState : List ℕ → HostState → Type 0) (agent suffixes : List ℕ) (noted : List Noted) (befores : List Schedule) → Widens gives more
    → ((host : List ℕ) (state : HostState) → IsState host state → IsStateAmong agent befores noted host state) → (begun : Begun) → HasBegun gives IsState suffixes begun
    → IsBegun more agent suffixes noted befores begun
begun_one gives more IsState agent suffixes noted befores wider states begun is =
    record { state = is.state; known = states (host begun.work) is.state is.known; allowed = is.allowed; some = part_wider gives more wider suffixes begun.work.web begun.part is.some }

begun_wider : (gives more : Answers) (agent suffixes : List ℕ) (one two : List Noted) (befores fronts : List Schedule) → Widens gives more
    → ((host : List ℕ) (state : HostState) → IsStateAmong agent befores one host state → IsStateAmong agent fronts two host state) → (begun : Begun)
    → IsBegun gives agent suffixes one befores begun → IsBegun more agent suffixes two fronts begun
begun_wider gives more agent suffixes one two befores fronts wider states begun is =
    record { state = is.state; known = states (host begun.work) is.state is.known; allowed = is.allowed; some = part_wider gives more wider suffixes begun.work.web begun.part is.some }

-- It did all of it.
pub record DidWhole (log : WorkLog) (handled : List Handled) (noted : List Noted) (left : List Work) (begun : List Begun) (a b : Fetcher) (t : Schedule) : Type 0 where
  pub done : log.done.items ≡ map done_of handled
  pub notes : log.notes.items ≡ map (λ one. one.note) noted
  pub none_left : left ≡ []
  pub none_begun : begun ≡ []
  pub asked : MakesAtMost (answered handled noted) a b
  pub items : t.items ≡ []

-- It handled some of its items, and began one of the others at most.
pub record OneDid (result : Result WorkLog Fault) (suffixes : List ℕ) (a b : Fetcher) (s t : Schedule) (entries : List Entered) (last : Option Fault) : Type 0 where
  pub handled : List Handled
  pub noted : List Noted
  pub left : List Work
  pub worked : HasWorked suffixes handled noted left a b s t
  pub asked : MakesAtMost (answered handled noted + 6) a b
  pub begun : List Begun
  pub others : List Work
  pub is_left : IsPermutation left (works_begun begun ++ others)
  pub are_begun : All (HasBegun (given_since a b) (IsStateOf s noted) suffixes) begun
  pub few : length begun ≤ 1
  pub entries_are : entries ≡ flat_map entered_of handled ++ begun_entries begun
  pub whole : (log : WorkLog) → result ≡ Ok log → DidWhole log handled noted left begun a b t
  pub named : (fault : Fault) → result ≡ Err fault → (fault ≡ Memory) ⊎ (last ≡ Some fault)
  pub goes_on : GoesOn a b
  pub agent : t.agent ≡ s.agent
  pub delay : t.delay ≡ s.delay

-- ## Several workers
-- They did all of it.
pub record DidAll (logs : List WorkLog) (given : Given) (handled : List Handled) (noted : List Noted) (left : List Work) (begun : List Begun) (befores afters : List Schedule) : Type 0 where
  pub done : flat_map (λ (log : WorkLog). log.done.items) logs ≡ map done_of handled
  pub notes : flat_map (λ (log : WorkLog). log.notes.items) logs ≡ map (λ one. one.note) noted
  pub none_left : left ≡ []
  pub none_begun : begun ≡ []
  pub asked : given.made ≤ answered handled noted
  pub items : All (λ s. s.items ≡ []) afters
  pub order : AreByWorker befores (flat_map (λ (log : WorkLog). log.done.items) logs)

-- Each handled some of its items, and began one of the others at most.
pub record AllDid {F : Type 0} (asked : F → Made) (gives : F → ℕ → Answers) (faults last : F → ℕ) (aim : F → List ℕ) (agent suffixes : List ℕ) (olds news : List F) (befores afters : List Schedule)
    (results : List (Result WorkLog Fault)) (entries : List Entered) (lasts : List (Option Fault)) : Type 0 where
  pub handled : List Handled
  pub noted : List Noted
  pub left : List Work
  pub worked : HaveWorked (given_by asked gives faults olds news) agent suffixes handled noted left befores
  pub asked_are : (given_by asked gives faults olds news).made ≤ answered handled noted + 6 * length befores
  pub begun : List Begun
  pub others : List Work
  pub is_left : IsPermutation left (works_begun begun ++ others)
  pub are_begun : All (IsBegun (IsGivenBy asked gives olds news) agent suffixes noted befores) begun
  pub few : length begun ≤ length befores
  pub are_entries : IsPermutation entries (flat_map entered_of handled ++ begun_entries begun)
  pub known : KnowAsNoted agent noted befores afters
  pub knows : KnowByMoment noted befores afters
  pub moments : All (λ one. IsMomentBy last olds news one.note.when) noted
  pub whole : (logs : List WorkLog) → results ≡ map (λ one. Ok one) logs → DidAll logs (given_by asked gives faults olds news) handled noted left begun befores afters
  pub named : (fault : Fault) → Any (λ part. part ≡ Err fault) results → (fault ≡ Memory) ⊎ Any (λ one. one ≡ Some fault) lasts
  pub goes_on : AllGoOn asked gives faults last aim olds news
  pub count : length afters ≡ length befores
  pub agents : AreFor agent afters
  pub delays : KeepDelays befores afters

pub none_did : {F : Type 0} (asked : F → Made) (gives : F → ℕ → Answers) (faults last : F → ℕ) (aim : F → List ℕ) (agent suffixes : List ℕ)
    → AllDid asked gives faults last aim agent suffixes [] [] [] [] [] [] []
none_did asked gives faults last aim agent suffixes = record {
  handled = [];
  noted = [];
  left = [];
  worked = have_none (given_by asked gives faults [] []) agent suffixes [] refl;
  asked_are = omega arith;
  begun = [];
  others = [];
  is_left = IsPermutation-refl [];
  are_begun = All-nil _;
  few = omega arith;
  are_entries = IsPermutation-refl [];
  known = λ at front no. absurd (none-some front no);
  knows = λ at old new no. absurd (none-some old no);
  moments = All-nil _;
  whole = λ logs is. whole_none logs is;
  named = λ fault no. absurd (omega (arith, no.2));
  goes_on = record { count = refl; each = λ at old new no. absurd (none-some old no) };
  count = refl;
  agents = All-nil _;
  delays = λ at old new no. absurd (none-some old no);
} where
  whole_none : (logs : List WorkLog) → ◌≡◌ {A = List (Result WorkLog Fault)} [] (map (λ one. Ok one) logs) → DidAll logs (given_by asked gives faults [] []) [] [] [] [] [] []
  whole_none [] is = record { done = refl; notes = refl; none_left = refl; none_begun = refl; asked = omega arith; items = All-nil _; order = refl }
  whole_none (log ∷ logs) is = absurd (cc)

-- ## One worker and others
numbers_of : (handled : List Handled) → map (λ (one : Done). one.number) (map done_of handled) ≡ map (λ (work : Work). work.number) (works_of handled)
numbers_of [] = refl
numbers_of (one ∷ handled) = ap (λ (numbers : List ℕ). one.work.number ∷ numbers) (numbers_of handled)

numbers_same : (items left : List Work) (done : List Done) (handled : List Handled) → done ≡ map done_of handled → left ≡ [] → IsPermutation items (works_of handled ++ left)
    → IsPermutation (map (λ work. work.number) items) (map (λ one. one.number) done)
numbers_same items left done handled is none same =
    subst (IsPermutation (map (λ (work : Work). work.number) items))
    (ap (λ (l : List Work). map (λ (work : Work). work.number) (works_of handled ++ l)) none
    ∙ ap (map (λ (work : Work). work.number)) (append-nil (works_of handled)) ∙ sym (numbers_of handled) ∙ ap (map (λ (one : Done). one.number)) (sym is))
    (IsPermutation-map (λ (work : Work). work.number) items (works_of handled ++ left) same)

module _ {F : Type 0} (asked : F → Made) (gives : F → ℕ → Answers) (faults last : F → ℕ) (aim : F → List ℕ) (agent suffixes : List ℕ) (x y : F) (olds news : List F) (s t : Schedule)
    (befores afters : List Schedule) (result : Result WorkLog Fault) (results : List (Result WorkLog Fault)) (own entries : List Entered) (fault : Option Fault) (lasts : List (Option Fault))
    (for : s.agent ≡ agent) (one : OneDid result suffixes (fetcher asked gives faults last aim x) (fetcher asked gives faults last aim y) s t own fault)
    (rest : AllDid asked gives faults last aim agent suffixes olds news befores afters results entries lasts) where
  abbrev a : Fetcher
  a = fetcher asked gives faults last aim x

  abbrev b : Fetcher
  b = fetcher asked gives faults last aim y

  abbrev all : Given
  all = given_by asked gives faults (x ∷ olds) (y ∷ news)

  abbrev noted : List Noted
  noted = one.noted ++ rest.noted

  abbrev handled : List Handled
  handled = one.handled ++ rest.handled

  given_first : Widens (given_since a b) all.gives
  given_first = λ url want answer given. record { at = 0; old = x; new = y; was = refl; is = refl; given = given }

  given_others : Widens (IsGivenBy asked gives olds news) all.gives
  given_others = λ url want answer is. record { at = suc is.at; old = is.old; new = is.new; was = is.was; is = is.is; given = is.given }

  state_first : (host : List ℕ) (state : HostState) → IsStateOf s one.noted host state → IsStateAmong agent (s ∷ befores) noted host state
  state_first host state is = elim is [
    | inl known ↦ inl (0, s, known.0, refl, known.1, known.2)
    | inr some ↦ inr (any_left _ one.noted rest.noted (any_weaker _ _ one.noted (λ n says. (says.0, ap (host_state n.note.state) (sym for) ∙ says.1)) some))
  ]

  state_others : (host : List ℕ) (state : HostState) → IsStateAmong agent befores rest.noted host state → IsStateAmong agent (s ∷ befores) noted host state
  state_others host state is = elim is [
    | inl known ↦ inl (suc known.0, known.1, known.2, known.3, known.4, known.5)
    | inr some ↦ inr (any_right _ one.noted rest.noted some)
  ]

  -- ---- what was done
  worked : HaveWorked all agent suffixes handled noted (one.left ++ rest.left) (s ∷ befores)
  worked = record {
    items = subst (λ (works : List Work). IsPermutation (s.items ++ loaded befores) (works ++ (one.left ++ rest.left))) (sym (map-append (λ (h : Handled). h.work) one.handled rest.handled))
        (both_parts s.items (loaded befores) (works_of one.handled) one.left (works_of rest.handled) rest.left one.worked.items rest.worked.items);
    each = All-append (IsHandled all.gives (IsStateAmong agent (s ∷ befores) noted) suffixes) one.handled rest.handled
        (All-weaker (IsHandled (given_since a b) (IsStateOf s one.noted) suffixes) (IsHandled all.gives (IsStateAmong agent (s ∷ befores) noted) suffixes)
        (handled_wider (given_since a b) all.gives (IsStateOf s one.noted) (IsStateAmong agent (s ∷ befores) noted) given_first state_first suffixes) one.handled one.worked.each)
        (All-weaker (IsHandled (IsGivenBy asked gives olds news) (IsStateAmong agent befores rest.noted) suffixes) (IsHandled all.gives (IsStateAmong agent (s ∷ befores) noted) suffixes)
        (handled_wider (IsGivenBy asked gives olds news) all.gives (IsStateAmong agent befores rest.noted) (IsStateAmong agent (s ∷ befores) noted) given_others state_others suffixes)
        rest.handled rest.worked.each);
    notes = All-append (IsNoted all.gives) one.noted rest.noted
        (All-weaker (IsNoted (given_since a b)) (IsNoted all.gives) (noted_wider (given_since a b) all.gives given_first) one.noted one.worked.notes)
        (All-weaker (IsNoted (IsGivenBy asked gives olds news)) (IsNoted all.gives) (noted_wider (IsGivenBy asked gives olds news) all.gives given_others) rest.noted rest.worked.notes);
    missing_are = (
      unanswered one.handled one.noted,
      unanswered rest.handled rest.noted,
      omega (arith, unanswered_both one.handled rest.handled one.noted rest.noted),
      one.worked.lost,
      rest.worked.missing_are,
    );
  }

  abbrev begun : List Begun
  begun = one.begun ++ rest.begun

  left : IsPermutation (one.left ++ rest.left) (works_begun begun ++ (one.others ++ rest.others))
  left =
      subst (λ (works : List Work). IsPermutation (one.left ++ rest.left) (works ++ (one.others ++ rest.others))) (sym (map-append (λ (b : Begun). b.work) one.begun rest.begun))
      (both_parts one.left rest.left (works_begun one.begun) one.others (works_begun rest.begun) rest.others one.is_left rest.is_left)

  are_begun : All (IsBegun all.gives agent suffixes noted (s ∷ befores)) begun
  are_begun = All-append (IsBegun all.gives agent suffixes noted (s ∷ befores)) one.begun rest.begun
      (All-weaker (HasBegun (given_since a b) (IsStateOf s one.noted) suffixes) (IsBegun all.gives agent suffixes noted (s ∷ befores))
      (begun_one (given_since a b) all.gives (IsStateOf s one.noted) agent suffixes noted (s ∷ befores) given_first state_first) one.begun one.are_begun)
      (All-weaker (IsBegun (IsGivenBy asked gives olds news) agent suffixes rest.noted befores) (IsBegun all.gives agent suffixes noted (s ∷ befores))
      (begun_wider (IsGivenBy asked gives olds news) all.gives agent suffixes rest.noted noted befores (s ∷ befores) given_others state_others) rest.begun rest.are_begun)

  are_entries : IsPermutation (own ++ entries) (flat_map entered_of handled ++ begun_entries begun)
  are_entries =
      subst (λ (l : List Entered × List Entered). IsPermutation (own ++ entries) (l.0 ++ l.1))
      (λ i. (sym (flat_map-append entered_of one.handled rest.handled) i, sym (flat_map-append (λ (b : Begun). b.part) one.begun rest.begun) i))
      (both_parts own entries (flat_map entered_of one.handled) (begun_entries one.begun) (flat_map entered_of rest.handled) (begun_entries rest.begun)
      (subst (IsPermutation own) one.entries_are (IsPermutation-refl own)) rest.are_entries)

  -- ---- what is known
  known_first : (host : List ℕ) (known : Known) → IsKnownOf s one.noted host known → IsStateAmong agent (s ∷ befores) noted host known.state
  known_first host known is = elim is [
    | inl same ↦ inl (0, s, known, refl, same, refl)
    | inr some ↦ inr (any_left _ one.noted rest.noted (any_weaker _ _ one.noted (λ n says. (says.0, ap (host_state n.note.state) (sym for) ∙ says.1)) some))
  ]

  known : KnowAsNoted agent noted (s ∷ befores) (t ∷ afters)
  known zero front is host last says =
      known_first host last (one.worked.known host last (subst (λ (f : Schedule). f.known host ≡ Some last) (sym (same_Some t front is)) says))
  known (suc at) front is host last says = state_others host last.state (rest.known at front is host last says)

  knows : KnowByMoment noted (s ∷ befores) (t ∷ afters)
  knows zero old new was is host last says =
      subst (λ (f : Schedule). IsKnownOf f noted host last) (same_Some s old was)
      (⊎_elim (λ same. inl same) (λ some. inr (any_left _ one.noted rest.noted some))
      (one.worked.known host last (subst (λ (f : Schedule). f.known host ≡ Some last) (sym (same_Some t new is)) says)))
  knows (suc at) old new was is host last says = ⊎_elim (λ same. inl same) (λ some. inr (any_right _ one.noted rest.noted some)) (rest.knows at old new was is host last says)

  moments : All (λ n. IsMomentBy last (x ∷ olds) (y ∷ news) n.note.when) noted
  moments = All-append (λ (n : Noted). IsMomentBy last (x ∷ olds) (y ∷ news) n.note.when) one.noted rest.noted
      (All-weaker (λ (n : Noted). (last x ≤ n.note.when) × (n.note.when ≤ last y)) (λ (n : Noted). IsMomentBy last (x ∷ olds) (y ∷ news) n.note.when)
      (λ n when. record { at = 0; old = x; new = y; was = refl; is = refl; from = when.0; till = when.1 }) one.noted one.worked.moments)
      (All-weaker (λ (n : Noted). IsMomentBy last olds news n.note.when) (λ (n : Noted). IsMomentBy last (x ∷ olds) (y ∷ news) n.note.when)
      (λ n when. record { at = suc when.at; old = when.old; new = when.new; was = when.was; is = when.is; from = when.from; till = when.till }) rest.noted rest.moments)

  goes_on : AllGoOn asked gives faults last aim (x ∷ olds) (y ∷ news)
  goes_on = record { count = ap suc rest.goes_on.count; each = each } where
    each : (at : ℕ) (old new : F) → slice_get (x ∷ olds) at ≡ Some old → slice_get (y ∷ news) at ≡ Some new
        → GoesOn (fetcher asked gives faults last aim old) (fetcher asked gives faults last aim new)
    each zero old new was is =
        subst (λ (p : F × F). GoesOn (fetcher asked gives faults last aim p.0) (fetcher asked gives faults last aim p.1)) (λ i. (same_Some x old was i, same_Some y new is i)) one.goes_on
    each (suc at) old new was is = rest.goes_on.each at old new was is

  delays : KeepDelays (s ∷ befores) (t ∷ afters)
  delays zero old new was is = ap (λ (f : Schedule). f.delay) (sym (same_Some t new is)) ∙ one.delay ∙ ap (λ (f : Schedule). f.delay) (same_Some s old was)
  delays (suc at) old new was is = rest.delays at old new was is

  -- ---- by the answers
  whole : (logs : List WorkLog) → result ∷ results ≡ map (λ one. Ok one) logs → DidAll logs all handled noted (one.left ++ rest.left) begun (s ∷ befores) (t ∷ afters)
  whole [] is = absurd (cc)
  whole (log ∷ logs) is =
      let first : result ≡ Ok log = cc in
      let others : results ≡ map (λ one. Ok one) logs = cc in
      let w : DidWhole log one.handled one.noted one.left one.begun a b t = one.whole log first in
      let r : DidAll logs (given_by asked gives faults olds news) rest.handled rest.noted rest.left rest.begun befores afters = rest.whole logs others in
      record {
        done = ap (λ (l : List Done). l ++ flat_map (λ (log : WorkLog). log.done.items) logs) w.done ∙ ap (λ (l : List Done). map done_of one.handled ++ l) r.done
            ∙ sym (map-append done_of one.handled rest.handled);
        notes = ap (λ l. l ++ flat_map (λ (log : WorkLog). log.notes.items) logs) w.notes ∙ ap (λ l. map (λ (n : Noted). n.note) one.noted ++ l) r.notes
            ∙ sym (map-append (λ (n : Noted). n.note) one.noted rest.noted);
        none_left = ap (λ (l : List Work). l ++ rest.left) w.none_left ∙ r.none_left;
        none_begun = ap (λ (l : List Begun). l ++ rest.begun) w.none_begun ∙ r.none_begun;
        asked = omega (arith, w.asked, r.asked, answered_both one.handled rest.handled one.noted rest.noted);
        items = All-cons (λ (f : Schedule). f.items ≡ []) t afters w.items r.items;
        order = (
          log.done.items,
          flat_map (λ (log : WorkLog). log.done.items) logs,
          refl,
          numbers_same s.items one.left log.done.items one.handled w.done w.none_left one.worked.items,
          r.order,
        );
      }

  named : (f : Fault) → Any (λ part. part ≡ Err f) (result ∷ results) → (f ≡ Memory) ⊎ Any (λ l. l ≡ Some f) (fault ∷ lasts)
  named f (zero, part, within, stands, is) =
      ⊎_elim (λ memory. inl memory) (λ last. inr (0, fault, omega arith, refl, last)) (one.named f (stands ∙ is))
  named f (suc at, part, within, stands, is) =
      ⊎_elim (λ memory. inl memory) (λ some. inr (any_right (λ l. l ≡ Some f) (fault ∷ []) lasts some)) (rest.named f (at, part, omega (arith, within), stands, is))

  pub one_more : AllDid asked gives faults last aim agent suffixes (x ∷ olds) (y ∷ news) (s ∷ befores) (t ∷ afters) (result ∷ results) (own ++ entries) (fault ∷ lasts)
  one_more = record {
    handled = handled;
    noted = noted;
    left = one.left ++ rest.left;
    worked = worked;
    asked_are = omega (arith, one.asked, rest.asked_are, answered_both one.handled rest.handled one.noted rest.noted);
    begun = begun;
    others = one.others ++ rest.others;
    is_left = left;
    are_begun = are_begun;
    few = omega (arith, length-append one.begun rest.begun, one.few, rest.few);
    are_entries = are_entries;
    known = known;
    knows = knows;
    moments = moments;
    whole = whole;
    named = named;
    goes_on = goes_on;
    count = ap suc rest.count;
    agents = All-cons (λ (f : Schedule). f.agent ≡ agent) t afters (one.agent ∙ for) rest.agents;
    delays = delays;
  }

-- ## What is answered
-- The first of the parts are whole, and their logs joined; these are left.
pub record HaveJoined (log : WorkLog) (left all : List (Result WorkLog Fault)) : Type 0 where
  pub logs : List WorkLog
  pub parts : map (λ one. Ok one) logs ++ left ≡ all
  pub whole : IsWholeOf log logs

pub joined_none : (log : WorkLog) (all : List (Result WorkLog Fault)) → log.done.items ≡ [] → log.notes.items ≡ [] → HaveJoined log all all
joined_none log parts done notes = record { logs = []; parts = refl; whole = record { done = done; notes = notes } }

pub joined_one : (log part whole : WorkLog) (left rest all : List (Result WorkLog Fault)) → HaveJoined log left all → left ≡ Ok part ∷ rest
    → whole.done.items ≡ log.done.items ++ part.done.items → whole.notes.items ≡ log.notes.items ++ part.notes.items → HaveJoined whole rest all
joined_one log part whole waiting rest parts far is done notes = record {
  logs = far.logs ++ part ∷ [];
  parts = ap (λ (l : List (Result WorkLog Fault)). l ++ rest) (map-append (λ (one : WorkLog). Ok one) far.logs (part ∷ []))
      ∙ append_assoc (map (λ (one : WorkLog). Ok one) far.logs) (Ok part ∷ []) rest ∙ ap (λ (l : List (Result WorkLog Fault)). map (λ (one : WorkLog). Ok one) far.logs ++ l) (sym is) ∙ far.parts;
  whole = record {
    done = done ∙ ap (λ (l : List Done). l ++ part.done.items) far.whole.done ∙ ap (λ (l : List Done). flat_map (λ (one : WorkLog). one.done.items) far.logs ++ l) (sym (append-nil part.done.items))
        ∙ sym (flat_map-append (λ (one : WorkLog). one.done.items) far.logs (part ∷ []));
    notes = notes ∙ ap (λ (l : List Note). l ++ part.notes.items) far.whole.notes
        ∙ ap (λ (l : List Note). flat_map (λ (one : WorkLog). one.notes.items) far.logs ++ l) (sym (append-nil part.notes.items))
        ∙ sym (flat_map-append (λ (one : WorkLog). one.notes.items) far.logs (part ∷ []));
  };
}

-- One was refused.
pub joined_refused : (result : Result WorkLog Fault) (fault : Fault) (log : WorkLog) (left rest all : List (Result WorkLog Fault)) → HaveJoined log left all → left ≡ Err fault ∷ rest
    → result ≡ Err fault → Joins result all
joined_refused result fault log waiting rest parts far first is = subst (λ (r : Result WorkLog Fault). Joins r parts) (sym is) (record {
  whole = tt;
  fault = λ other same.
      let one : fault ≡ other = cc in
      inr (subst (Any (λ (part : Result WorkLog Fault). part ≡ Err other)) far.parts
      (any_right (λ (part : Result WorkLog Fault). part ≡ Err other) (map (λ (one : WorkLog). Ok one) far.logs) waiting
      (subst (Any (λ (part : Result WorkLog Fault). part ≡ Err other)) (sym first)
      (any_left (λ (part : Result WorkLog Fault). part ≡ Err other) (Err fault ∷ []) rest
      (any_alone (λ (part : Result WorkLog Fault). part ≡ Err other) (Err fault) (ap (λ (f : Fault). Err f) one))))));
})

-- ## What they leave, by what is answered
pub finishes_all : {F : Type 0} {asked : F → Made} {gives : F → ℕ → Answers} {faults last : F → ℕ} {aim : F → List ℕ} {agent suffixes : List ℕ} {olds news : List F} {befores afters : List Schedule}
    {results : List (Result WorkLog Fault)} {entries : List Entered} {lasts : List (Option Fault)} (log : WorkLog) (logs : List WorkLog)
    → AllDid asked gives faults last aim agent suffixes olds news befores afters results entries lasts → results ≡ map (λ one. Ok one) logs
    → IsWholeOf log logs → FinishAll log (given_by asked gives faults olds news) agent suffixes befores afters entries
finishes_all {asked = asked} {gives = gives} {faults = faults} {agent = agent} {suffixes = suffixes} {olds = olds} {news = news} {befores = befores} {entries = entries} log logs did is joined =
    let w = did.whole logs is in
    record {
      handled = did.handled;
      noted = did.noted;
      done = joined.done ∙ w.done;
      notes = joined.notes ∙ w.notes;
      worked = subst (λ (left : List Work). HaveWorked (given_by asked gives faults olds news) agent suffixes did.handled did.noted left befores) w.none_left did.worked;
      asked = w.asked;
      are_entries = subst (IsPermutation entries)
          (ap (λ (l : List Begun). flat_map entered_of did.handled ++ begun_entries l) w.none_begun ∙ append-nil (flat_map entered_of did.handled)) did.are_entries;
      known = did.known;
      knows = did.knows;
      none_left = w.items;
    }

pub stops_all : {F : Type 0} {asked : F → Made} {gives : F → ℕ → Answers} {faults last : F → ℕ} {aim : F → List ℕ} {agent suffixes : List ℕ} {olds news : List F} {befores afters : List Schedule}
    {results : List (Result WorkLog Fault)} {entries : List Entered} {lasts : List (Option Fault)}
    → AllDid asked gives faults last aim agent suffixes olds news befores afters results entries lasts → StopAll (given_by asked gives faults olds news) agent suffixes befores entries
stops_all did = record {
  handled = did.handled;
  noted = did.noted;
  left = did.left;
  worked = did.worked;
  asked = did.asked_are;
  begun = did.begun;
  others = did.others;
  is_left = did.is_left;
  are_begun = did.are_begun;
  few = did.few;
  are_entries = did.are_entries;
}

pub all_works : {F : Type 0} {asked : F → Made} {gives : F → ℕ → Answers} {faults last : F → ℕ} {aim : F → List ℕ} {agent suffixes : List ℕ} {olds news : List F} {befores afters : List Schedule}
    {results : List (Result WorkLog Fault)} {entries : List Entered} {lasts : List (Option Fault)} (result : Result WorkLog Fault) → Joins result results
    → AllDid asked gives faults last aim agent suffixes olds news befores afters results entries lasts
    → WorkAll result (given_by asked gives faults olds news) agent suffixes befores afters entries lasts
all_works {results = results} (Ok log) joins did = record {
  finish = finishes_all log joins.whole.0 did joins.whole.1 joins.whole.2;
  stop = tt;
  fault = λ fault no. absurd (cc);
  count = did.count;
  agents = did.agents;
  delays = did.delays;
}
all_works {results = results} (Err y) joins did = record {
  finish = tt;
  stop = stops_all did;
  fault = λ fault is. ⊎_elim (λ memory. inl memory) (did.named fault) (joins.fault fault is);
  count = did.count;
  agents = did.agents;
  delays = did.delays;
}

pub all_order : {F : Type 0} {asked : F → Made} {gives : F → ℕ → Answers} {faults last : F → ℕ} {aim : F → List ℕ} {agent suffixes : List ℕ} {olds news : List F} {befores afters : List Schedule}
    {results : List (Result WorkLog Fault)} {entries : List Entered} {lasts : List (Option Fault)} (result : Result WorkLog Fault) → Joins result results
    → AllDid asked gives faults last aim agent suffixes olds news befores afters results entries lasts → IfOk result (λ log. AreByWorker befores log.done.items)
all_order {befores = befores} (Ok log) joins did = subst (AreByWorker befores) (sym joins.whole.2.done) (did.whole joins.whole.0 joins.whole.1).order
all_order (Err y) joins did = tt

pub all_moments : {F : Type 0} {asked : F → Made} {gives : F → ℕ → Answers} {faults last : F → ℕ} {aim : F → List ℕ} {agent suffixes : List ℕ} {olds news : List F} {befores afters : List Schedule}
    {results : List (Result WorkLog Fault)} {entries : List Entered} {lasts : List (Option Fault)} (result : Result WorkLog Fault) → Joins result results
    → AllDid asked gives faults last aim agent suffixes olds news befores afters results entries lasts → IfOk result (λ log. All (λ note. IsMomentBy last olds news note.when) log.notes.items)
all_moments {last = last} {olds = olds} {news = news} (Ok log) joins did =
    All-same (λ (note : Note). IsMomentBy last olds news note.when) log.notes.items (map (λ (one : Noted). one.note) did.noted) (joins.whole.2.notes ∙ (did.whole joins.whole.0 joins.whole.1).notes)
    (All-map (λ (note : Note). IsMomentBy last olds news note.when) (λ (one : Noted). one.note) did.noted did.moments)
all_moments (Err y) joins did = tt

delays_stay : (fronts : List Schedule) → KeepDelays fronts fronts
delays_stay fronts = λ at old new was is. ap (λ (x : Schedule). x.delay) (same_Some new old (sym is ∙ was))

-- there was no room for them
pub works_none : (given : Given) (agent suffixes : List ℕ) (befores : List Schedule) (entries : List Entered) (lasts : List (Option Fault)) → given.may_miss 0 → given.made ≡ 0 → entries ≡ []
    → AreFor agent befores → WorkAll (Err Memory) given agent suffixes befores befores entries lasts
works_none given agent suffixes befores entries lasts may made none for = record {
  finish = tt;
  stop = record {
    handled = [];
    noted = [];
    left = loaded befores;
    worked = have_none given agent suffixes befores may;
    asked = omega (arith, made);
    begun = [];
    others = loaded befores;
    is_left = IsPermutation-refl (loaded befores);
    are_begun = All-nil _;
    few = omega arith;
    are_entries = subst (λ (l : List Entered). IsPermutation l []) (sym none) (IsPermutation-refl []);
  };
  fault = λ fault is. inl (cc);
  count = refl;
  agents = for;
  delays = delays_stay befores;
}
