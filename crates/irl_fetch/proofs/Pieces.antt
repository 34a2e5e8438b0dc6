-- What was done after what was done: pieces of work are joined.
use Rattle.std.proofs.Common.{◌≡◌, ◌∙◌, ℕ, ◌+◌, ◌≤◌, List, [], ◌∷◌, ◌++◌, map, Some, inl, inr, refl, sym, ap, subst, arith}
use Rattle.std.specs.List.{flat_map}
use Rattle.std.specs.List.Sorted.{IsPermutation}
use Rattle.std.proofs.lemmas.List.{append-nil, append_assoc, map-append}
use Rattle.std.proofs.lemmas.List.Concat.{flat_map-append}
use Rattle.std.proofs.lemmas.List.Elements.{All-nil, All-cons, All-append, All-weaker}
use Rattle.std.proofs.lemmas.List.Sorted.{IsPermutation-refl, IsPermutation-trans, IsPermutation-append_right}
use Rattle.irl_key.specs.declared.web.Work.{Work}
use Rattle.irl_robots.specs.Leave.{host_state}
use Rattle.irl_robots.specs.declared.host.HostState.{HostState}
use Rattle.irl_polite.specs.Schedule.{Schedule, changed}
use Rattle.irl_polite.specs.declared.known.Known.{Known}
use Rattle.irl_polite.proofs.Lists.{cases_text, changed_same, changed_other}
use Rattle.irl_fetch.specs.Telling.{Fetcher, GoesOn, RoseBy, given_since}
use Rattle.irl_fetch.specs.Handling.{Handled, Noted, IsHandled, IsNoted, missing, answers_of}
use Rattle.irl_fetch.specs.Working.{HasWorked, IsStateOf, IsKnownOf}
use Rattle.irl_fetch.proofs.Telling.{IsEarlier, given_then, given_before, rose_then, rose_none}
use Rattle.irl_fetch.proofs.Handling.{any_left, any_right, any_weaker, any_alone, handled_wider, noted_wider, missing_both}

abbrev works_of : List Handled → List Work
works_of handled = map (λ one. one.work) handled

-- ## States of hosts

pub state_more : (first : Schedule) (one two : List Noted) (at : List ℕ) (state : HostState) → IsStateOf first one at state → IsStateOf first (one ++ two) at state
state_more first one two at state is = elim is [
  | inl known ↦ inl known
  | inr some ↦ inr (any_left _ one two some)
]

-- what is known last is a state
known_state : (first : Schedule) (noted : List Noted) (at : List ℕ) (last : Known) → IsKnownOf first noted at last → IsStateOf first noted at last.state
known_state first noted at last is = elim is [
  | inl same ↦ inl (last, same, refl)
  | inr some ↦ inr (any_weaker _ _ noted (λ x says. (says.0, says.1)) some)
]

-- what is known last at a later moment was known at one between, or noted since
known_then : (first mid : Schedule) (one two : List Noted) → mid.agent ≡ first.agent → ((at : List ℕ) (last : Known) → mid.known at ≡ Some last → IsKnownOf first one at last)
    → (at : List ℕ) (last : Known) → IsKnownOf mid two at last → IsKnownOf first (one ++ two) at last
known_then first mid one two agent before at last is = elim is [
  | inl same ↦ elim (before at last same) [
    | inl known ↦ inl known
    | inr some ↦ inr (any_left _ one two some)
  ]
  | inr some ↦ inr (any_right _ one two (any_weaker _ _ two (λ x says. (says.0, ap (host_state x.note.state) (sym agent) ∙ says.1, says.2)) some))
]

-- a state that is known at a moment between is one from the first moment on
pub state_then : (first mid : Schedule) (one two : List Noted) → mid.agent ≡ first.agent → ((at : List ℕ) (last : Known) → mid.known at ≡ Some last → IsKnownOf first one at last)
    → (at : List ℕ) (state : HostState) → IsStateOf mid two at state → IsStateOf first (one ++ two) at state
state_then first mid one two agent before at state is = elim is [
  | inl known ↦ state_more first one two at state (subst (IsStateOf first one at) known.2 (known_state first one at known.0 (before at known.0 known.1)))
  | inr some ↦ inr (any_right _ one two (any_weaker _ _ two (λ x says. (says.0, ap (host_state x.note.state) (sym agent) ∙ says.1)) some))
]

-- ## Answers that never came

abbrev unanswered : List Handled → List Noted → ℕ
unanswered handled noted = missing (flat_map answers_of handled) + missing (flat_map (λ (one : Noted). one.answers) noted)

unanswered_both : (h1 h2 : List Handled) (n1 n2 : List Noted) → unanswered (h1 ++ h2) (n1 ++ n2) ≡ unanswered h1 n1 + unanswered h2 n2
unanswered_both h1 h2 n1 n2 =
    let handled = ap missing (flat_map-append answers_of h1 h2) ∙ missing_both (flat_map answers_of h1) (flat_map answers_of h2) in
    let noted = ap missing (flat_map-append (λ (one : Noted). one.answers) n1 n2) ∙ missing_both (flat_map (λ (one : Noted). one.answers) n1) (flat_map (λ (one : Noted). one.answers) n2) in
    omega (arith, handled, noted)

-- a note was asked for at a moment of this time
abbrev InTime : Fetcher → Fetcher → Noted → Type 0
InTime a b one = (a.last ≤ one.note.when) × (one.note.when ≤ b.last)

in_time_then : (a b c : Fetcher) → GoesOn b c → (one : Noted) → InTime a b one → InTime a c one
in_time_then a b c on one when = (when.0, omega (arith, when.1, on.last))

in_time_before : (a b c : Fetcher) → GoesOn a b → (one : Noted) → InTime b c one → InTime a c one
in_time_before a b c on one when = (omega (arith, when.0, on.last), when.1)

-- ## Pieces joined

items_then : (all mid left : List Work) (h1 h2 : List Handled) → IsPermutation all (works_of h1 ++ mid) → IsPermutation mid (works_of h2 ++ left) → IsPermutation all (works_of (h1 ++ h2) ++ left)
items_then all mid left h1 h2 one two =
    subst (IsPermutation all) (sym (append_assoc (works_of h1) (works_of h2) left) ∙ ap (λ works. works ++ left) (sym (map-append (λ (one : Handled). one.work) h1 h2)))
    (IsPermutation-trans all (works_of h1 ++ mid) (works_of h1 ++ (works_of h2 ++ left)) one (IsPermutation-append_right (works_of h1) mid (works_of h2 ++ left) two))

pub works_then : (suffixes : List ℕ) (h1 h2 : List Handled) (n1 n2 : List Noted) (left : List Work) (a b c : Fetcher) (s t u : Schedule) → IsEarlier c.gives → GoesOn a b → GoesOn b c
    → t.agent ≡ s.agent → HasWorked suffixes h1 n1 t.items a b s t → HasWorked suffixes h2 n2 left b c t u → HasWorked suffixes (h1 ++ h2) (n1 ++ n2) left a c s u
works_then suffixes h1 h2 n1 n2 left a b c s t u earlier ab bc agent one two = record {
  items = items_then s.items t.items left h1 h2 one.items two.items;
  each = All-append (IsHandled (given_since a c) (IsStateOf s (n1 ++ n2)) suffixes) h1 h2
      (All-weaker (IsHandled (given_since a b) (IsStateOf s n1) suffixes) (IsHandled (given_since a c) (IsStateOf s (n1 ++ n2)) suffixes)
      (handled_wider (given_since a b) (given_since a c) (IsStateOf s n1) (IsStateOf s (n1 ++ n2)) (given_then a b c bc) (state_more s n1 n2) suffixes) h1 one.each)
      (All-weaker (IsHandled (given_since b c) (IsStateOf t n2) suffixes) (IsHandled (given_since a c) (IsStateOf s (n1 ++ n2)) suffixes)
      (handled_wider (given_since b c) (given_since a c) (IsStateOf t n2) (IsStateOf s (n1 ++ n2)) (given_before a b c earlier ab) (state_then s t n1 n2 agent one.known) suffixes) h2 two.each);
  notes = All-append (IsNoted (given_since a c)) n1 n2
      (All-weaker (IsNoted (given_since a b)) (IsNoted (given_since a c)) (noted_wider (given_since a b) (given_since a c) (given_then a b c bc)) n1 one.notes)
      (All-weaker (IsNoted (given_since b c)) (IsNoted (given_since a c)) (noted_wider (given_since b c) (given_since a c) (given_before a b c earlier ab)) n2 two.notes);
  moments = All-append (InTime a c) n1 n2
      (All-weaker (InTime a b) (InTime a c) (in_time_then a b c bc) n1 one.moments)
      (All-weaker (InTime b c) (InTime a c) (in_time_before a b c ab) n2 two.moments);
  known = λ at last is. known_then s t n1 n2 agent one.known at last (two.known at last is);
  lost = subst (λ n. RoseBy n a.faults c.faults) (sym (unanswered_both h1 h2 n1 n2)) (rose_then (unanswered h1 n1) (unanswered h2 n2) a.faults b.faults c.faults one.lost two.lost);
}

-- ## One piece

-- nothing was done
pub works_none : (suffixes : List ℕ) (a b : Fetcher) (s t : Schedule) → GoesOn a b → t.known ≡ s.known → HasWorked suffixes [] [] s.items a b s t
works_none suffixes a b s t on known = record {
  items = IsPermutation-refl s.items;
  each = All-nil _;
  notes = All-nil _;
  moments = All-nil _;
  known = λ at last is. inl (ap (λ (f : List ℕ → _). f at) (sym known) ∙ is);
  lost = rose_none a.faults b.faults on.faults;
}

alone_unanswered : (handled : Handled) → unanswered (handled ∷ []) [] ≡ missing (answers_of handled)
alone_unanswered handled = let same = ap missing (append-nil (answers_of handled)) in omega (arith, same)

noted_unanswered : (noted : Noted) → unanswered [] (noted ∷ []) ≡ missing noted.answers
noted_unanswered noted = let same = ap missing (append-nil noted.answers) in omega (arith, same)

-- an item was handled
pub works_one : (suffixes : List ℕ) (handled : Handled) (left : List Work) (a b : Fetcher) (s t : Schedule) → IsPermutation s.items (handled.work ∷ left) → t.known ≡ s.known
    → IsHandled (given_since a b) (IsStateOf s []) suffixes handled → RoseBy (missing (answers_of handled)) a.faults b.faults → HasWorked suffixes (handled ∷ []) [] left a b s t
works_one suffixes handled left a b s t items known is lost = record {
  items = items;
  each = All-cons (IsHandled (given_since a b) (IsStateOf s []) suffixes) handled [] is (All-nil _);
  notes = All-nil _;
  moments = All-nil _;
  known = λ at last same. inl (ap (λ (f : List ℕ → _). f at) (sym known) ∙ same);
  lost = subst (λ n. RoseBy n a.faults b.faults) (sym (alone_unanswered handled)) lost;
}

known_handed : (s t : Schedule) (name : List ℕ) (state : HostState) (when : ℕ) (noted : Noted) → t.known ≡ changed s.known name (Some (record { state = state; when = when })) → noted.note.host ≡ name
    → host_state noted.note.state s.agent ≡ state → noted.note.when ≡ when → (at : List ℕ) (last : Known) → t.known at ≡ Some last → IsKnownOf s (noted ∷ []) at last
known_handed s t name state when noted known of says moment at last is = elim (cases_text at name) [
  | inl (same, here) ↦
      let told : Some (record { state = state; when = when }) ≡ Some last =
      sym (changed_same s.known name _) ∙ ap (changed s.known name (Some (record { state = state; when = when }))) (sym here) ∙ ap (λ (f : List ℕ → _). f at) (sym known) ∙ is in
      let one : record { state = state; when = when } ≡ last = cc in
      inr (any_alone _ noted (of ∙ sym here, says ∙ ap (λ (k : Known). k.state) one, moment ∙ ap (λ (k : Known). k.when) one))
  | inr (differs, other) ↦ inl (sym (changed_other s.known name _ at other) ∙ ap (λ (f : List ℕ → _). f at) (sym known) ∙ is)
]

-- a robots file was noted, and handed in
pub works_noted : (suffixes : List ℕ) (noted : Noted) (name : List ℕ) (when : ℕ) (a b : Fetcher) (s t : Schedule) → t.items ≡ s.items
    → t.known ≡ changed s.known name (Some (record { state = host_state noted.note.state s.agent; when = when })) → noted.note.host ≡ name → noted.note.when ≡ when
    → IsNoted (given_since a b) noted → (a.last ≤ noted.note.when) × (noted.note.when ≤ b.last) → RoseBy (missing noted.answers) a.faults b.faults
    → HasWorked suffixes [] (noted ∷ []) t.items a b s t
works_noted suffixes noted name when a b s t items known of at is moment lost = record {
  items = subst (IsPermutation s.items) (sym items) (IsPermutation-refl s.items);
  each = All-nil _;
  notes = All-cons (IsNoted (given_since a b)) noted [] is (All-nil _);
  moments = All-cons (InTime a b) noted [] moment (All-nil _);
  known = known_handed s t name (host_state noted.note.state s.agent) when noted known of refl at;
  lost = subst (λ n. RoseBy n a.faults b.faults) (sym (noted_unanswered noted)) lost;
}
