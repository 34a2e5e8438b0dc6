-- What the loop over a front's jobs keeps.
use Rattle.std.proofs.Common.{◌≡◌, ◌∙◌, ℕ, List, [], ◌++◌, map, inl, inr, refl, sym, ap, subst, arith}
use Rattle.std.specs.Prelude.{Result, Ok, Err}
use Rattle.std.specs.List.{flat_map}
use Rattle.std.proofs.lemmas.List.{append_assoc, map-append}
use Rattle.std.proofs.lemmas.List.Concat.{flat_map-append}
use Rattle.irl_base.specs.declared.fault.Fault.{Fault}
use Rattle.irl_offer.specs.Offering.{Entered, fault_or}
use Rattle.irl_polite.specs.Schedule.{Schedule}
use Rattle.irl_fetch.specs.declared.working.WorkLog.{WorkLog}
use Rattle.irl_fetch.specs.Telling.{Fetcher, Offering, GoesOn, Enters, MakesAtMost, given_since}
use Rattle.irl_fetch.specs.Handling.{Handled, Noted, answered, entered_of, done_of}
use Rattle.irl_fetch.specs.Working.{HasWorked, DoesSome, StopsWork, FinishesWork, Works}
use Rattle.irl_fetch.proofs.Telling.{IsEarlier, goes_none, goes_then, given_before, makes_none, enters_none, enters_then, enters_as}
use Rattle.irl_fetch.proofs.Handling.{answered_both}
use Rattle.irl_fetch.proofs.Pieces.{works_none, works_then, state_then}
use Rattle.irl_fetch.proofs.Jobs.{IsReady, part_wider}
use Rattle.irl_fetch.proofs.Results.{refused_if, refused_err, refused_fault}

-- All jobs so far were done, and their results are the log.
pub record SoFar {O : Type 0} (log : WorkLog) (suffixes : List ℕ) (a b : Fetcher) (s t : Schedule) (o p : Offering O) : Type 0 where
  pub handled : List Handled
  pub noted : List Noted
  pub done : log.done.items ≡ map done_of handled
  pub notes : log.notes.items ≡ map (λ one. one.note) noted
  pub worked : HasWorked suffixes handled noted t.items a b s t
  pub asked : MakesAtMost (answered handled noted) a b
  pub entered : Enters (flat_map entered_of handled) o p
  pub ready : IsReady t
  pub calm : p.last_fault ≡ o.last_fault
  pub goes_on : GoesOn a b
  pub agent : t.agent ≡ s.agent
  pub delay : t.delay ≡ s.delay

pub far_first : {O : Type 0} (log : WorkLog) (suffixes : List ℕ) (a : Fetcher) (s : Schedule) (o : Offering O) → log.done.items ≡ [] → log.notes.items ≡ [] → IsReady s → SoFar log suffixes a a s s o o
far_first log suffixes a s o done notes ready = record {
  handled = [];
  noted = [];
  done = done;
  notes = notes;
  worked = works_none suffixes a a s s (goes_none a) refl;
  asked = makes_none a a refl;
  entered = enters_none o;
  ready = ready;
  calm = refl;
  goes_on = goes_none a;
  agent = refl;
  delay = refl;
}

asked_then : (h1 h2 : List Handled) (n1 n2 : List Noted) (a b c : Fetcher) → MakesAtMost (answered h1 n1) a b → MakesAtMost (answered h2 n2) b c → MakesAtMost (answered (h1 ++ h2) (n1 ++ n2)) a c
asked_then h1 h2 n1 n2 a b c one two = let all = answered_both h1 h2 n1 n2 in omega (arith, all, one, two)

pub far_next : {O : Type 0} (first last : WorkLog) (suffixes : List ℕ) (a b c : Fetcher) (s t u : Schedule) (o p q : Offering O) → IsEarlier c.gives → SoFar first suffixes a b s t o p
    → DoesSome first last suffixes b c t u p q → GoesOn b c → q.last_fault ≡ p.last_fault → u.agent ≡ t.agent → u.delay ≡ t.delay → SoFar last suffixes a c s u o q
far_next first last suffixes a b c s t u o p q earlier far does on calm agent delay = record {
  handled = far.handled ++ does.handled;
  noted = far.noted ++ does.noted;
  done = does.done ∙ ap (λ xs. xs ++ map done_of does.handled) far.done ∙ sym (map-append done_of far.handled does.handled);
  notes = does.notes ∙ ap (λ xs. xs ++ map (λ (one : Noted). one.note) does.noted) far.notes ∙ sym (map-append (λ (one : Noted). one.note) far.noted does.noted);
  worked = works_then suffixes far.handled does.handled far.noted does.noted u.items a b c s t u earlier far.goes_on on far.agent far.worked does.worked;
  asked = asked_then far.handled does.handled far.noted does.noted a b c far.asked does.asked;
  entered = enters_as (flat_map entered_of far.handled ++ flat_map entered_of does.handled) (flat_map entered_of (far.handled ++ does.handled)) o q
      (sym (flat_map-append entered_of far.handled does.handled)) (enters_then (flat_map entered_of far.handled) (flat_map entered_of does.handled) o p q far.entered does.entered);
  ready = does.ready;
  calm = calm ∙ far.calm;
  goes_on = goes_then a b c far.goes_on on;
  agent = agent ∙ far.agent;
  delay = delay ∙ far.delay;
}

pub far_finishes : {O : Type 0} (log : WorkLog) (suffixes : List ℕ) (a b : Fetcher) (s t : Schedule) (o p : Offering O) → SoFar log suffixes a b s t o p → t.items ≡ []
    → FinishesWork log suffixes a b s t o p
far_finishes log suffixes a b s t o p far none = record {
  handled = far.handled;
  noted = far.noted;
  done = far.done;
  notes = far.notes;
  worked = subst (λ left. HasWorked suffixes far.handled far.noted left a b s t) none far.worked;
  asked = far.asked;
  entered = far.entered;
  none_left = none;
}

entered_then : (h1 h2 : List Handled) (part : List Entered) → flat_map entered_of h1 ++ (flat_map entered_of h2 ++ part) ≡ flat_map entered_of (h1 ++ h2) ++ part
entered_then h1 h2 part =
    sym (append_assoc (flat_map entered_of h1) (flat_map entered_of h2) part) ∙ ap (λ xs. xs ++ part) (sym (flat_map-append entered_of h1 h2))

pub far_stops : {O : Type 0} (log : WorkLog) (suffixes : List ℕ) (a b c : Fetcher) (s t u : Schedule) (o p q : Offering O) → IsEarlier c.gives → SoFar log suffixes a b s t o p → GoesOn b c
    → StopsWork suffixes b c t u p q → StopsWork suffixes a c s u o q
far_stops log suffixes a b c s t u o p q earlier far on stops = record {
  handled = far.handled ++ stops.handled;
  noted = far.noted ++ stops.noted;
  left = stops.left;
  worked = works_then suffixes far.handled stops.handled far.noted stops.noted stops.left a b c s t u earlier far.goes_on on far.agent far.worked stops.worked;
  asked = let all = answered_both far.handled stops.handled far.noted stops.noted in omega (arith, all, far.asked, stops.asked);
  part = stops.part;
  begun = elim stops.begun [
    | inl none ↦ inl none
    | inr one ↦ inr (record {
      work = one.work;
      others = one.others;
      is_left = one.is_left;
      state = one.state;
      known = state_then s t far.noted stops.noted far.agent far.worked.known _ one.state one.known;
      allowed = one.allowed;
      some = part_wider (given_since b c) (given_since a c) (given_before a b c earlier far.goes_on) suffixes one.work.web stops.part one.some;
    })
  ];
  entered = enters_as (flat_map entered_of far.handled ++ (flat_map entered_of stops.handled ++ stops.part)) (flat_map entered_of (far.handled ++ stops.handled) ++ stops.part) o q
      (entered_then far.handled stops.handled stops.part) (enters_then (flat_map entered_of far.handled) (flat_map entered_of stops.handled ++ stops.part) o p q far.entered stops.entered);
}

-- ## All of it

pub works_done : {O : Type 0} (log : WorkLog) (suffixes : List ℕ) (a b : Fetcher) (s t : Schedule) (o p : Offering O) → SoFar log suffixes a b s t o p → t.items ≡ []
    → Works (Ok log) suffixes a b s t o p
works_done log suffixes a b s t o p far none = record {
  finishes = far_finishes log suffixes a b s t o p far none;
  stops = tt;
  fault = (far.calm, tt);
  goes_on = far.goes_on;
  agent = far.agent;
  delay = far.delay;
}

pub works_stopped : {O : Type 0} (result : Result WorkLog Fault) (y z : Fault) (log : WorkLog) (suffixes : List ℕ) (a b c : Fetcher) (s t u : Schedule) (o p q : Offering O) → result ≡ Err y → y ≡ z
    → IsEarlier c.gives → SoFar log suffixes a b s t o p → GoesOn b c → StopsWork suffixes b c t u p q → q.last_fault ≡ fault_or p.last_fault z → u.agent ≡ t.agent → u.delay ≡ t.delay
    → Works result suffixes a c s u o q
works_stopped result y z log suffixes a b c s t u o p q is same earlier far on stops fault agent delay = record {
  finishes = refused_if (λ (l : WorkLog). FinishesWork l suffixes a c s u o q) result y is;
  stops = refused_err (StopsWork suffixes a c s u o q) result y is (far_stops log suffixes a b c s t u o p q earlier far on stops);
  fault = refused_fault result y o q is (fault ∙ ap (λ last. fault_or last z) far.calm ∙ ap (fault_or o.last_fault) (sym same));
  goes_on = goes_then a b c far.goes_on on;
  agent = agent ∙ far.agent;
  delay = delay ∙ far.delay;
}
