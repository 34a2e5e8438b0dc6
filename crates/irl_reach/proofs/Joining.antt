-- Two crawls, one after the other, are one.
use Rattle.std.proofs.Common.{◌≡◌, ◌≢◌, ◌∙◌, ℕ, List, [], ◌∷◌, ◌++◌, map, length, drop, Some, None, refl, sym, ap, subst, append_assoc, ◌⊎◌, inl, inr}
use Rattle.std.specs.Prelude.{flat_map, AllPairs}
use Rattle.std.specs.List.{AllByRecursion, Contains}
use Rattle.std.specs.List.Sorted.{IsPermutation}
use Rattle.std.proofs.lemmas.List.{map-append, append-nil}
use Rattle.std.proofs.lemmas.List.Elements.{Contains-append_left, Contains-append_right, Contains-append_cases}
use Rattle.std.proofs.lemmas.List.Sorted.{IsPermutation-refl, IsPermutation-trans, IsPermutation-append, IsPermutation-append_comm, IsPermutation-append_left, IsPermutation-append_right}
use Rattle.irl_answer.specs.Found.{offer_from, offers_of}
use Rattle.irl_answer.specs.Outcomes.{outcome_of}
use Rattle.irl_base.proofs.Among.{among_append, among_trans}
use Rattle.irl_base.specs.Among.{IsAmong}
use Rattle.irl_core.specs.States.{begun_with, url_text, offers_of as offers_in}
use Rattle.irl_events.specs.Events.{Event, Settle, Happened}
use Rattle.irl_events.specs.State.{State, IsFrontState, blank_state}
use Rattle.irl_key.specs.Web.{host_of, target_of}
use Rattle.irl_model.specs.Book.{ArePrefixes, IsBelow, IsPrefixOf, lengths_of}
use Rattle.irl_offer.specs.declared.note.NoteState.{NoteState}
use Rattle.irl_offer.specs.declared.outcome.Outcome.{Outcome}
use Rattle.irl_offer.specs.declared.reply.Want.TheVariants.{Page}
use Rattle.irl_offer.specs.declared.settings.Settings.{Settings}
use Rattle.irl_offer.specs.Tuple.{Tuple}
use Rattle.irl_record.specs.Taped.{Taped}
use Rattle.irl_record.specs.Widening.{Answers}
use Rattle.irl_robots.specs.declared.host.Leave.{Leave}
use Rattle.irl_robots.specs.declared.host.Leave.TheVariants.{Allowed, Denied, Shut}
use Rattle.irl_robots.specs.Leave.{leave}
use Rattle.irl_reach.specs.Along.{notes_in, notes_of, outcomes_of, settled_in}
use Rattle.irl_reach.specs.Crawls.{AreVisits, ComesOf, CrawlsOn, IsCrawlStore, IsKnown, IsSettled, IsStore, IsVisit, LeavesNone, Visit, added_to, found_by, numbers_in, with_seeds, without_seeds}
use Rattle.irl_reach.proofs.Growing.{Grows, drop_front, grows, made_fronts}
use Rattle.irl_reach.proofs.Members.{all_from, all_member, among_member, flat_append, flat_left, flat_member, flat_right, first_member, map_cases, map_member, member_cases, no_member}
use Rattle.irl_reach.proofs.Settled.{settled_number}
use Rattle.irl_reach.proofs.Staying.{below_same_of, settle_below_of}

-- ---- lists that grow twice
pub drop_within : {X : Type 0} (xs ys zs : List X) → drop (length xs) ((xs ++ ys) ++ zs) ≡ drop (length xs) (xs ++ ys) ++ zs
drop_within [] ys zs = refl
drop_within (x ∷ xs) ys zs = drop_within xs ys zs

-- the second and the third of four lists change places
turned : {X : Type 0} (ws xs ys zs : List X) → IsPermutation ((ws ++ xs) ++ (ys ++ zs)) ((ws ++ ys) ++ (xs ++ zs))
turned ws xs ys zs =
    let inner : IsPermutation (xs ++ (ys ++ zs)) (ys ++ (xs ++ zs)) =
    subst (λ l. IsPermutation l (ys ++ (xs ++ zs))) (append_assoc xs ys zs)
    (subst (λ l. IsPermutation ((xs ++ ys) ++ zs) l) (append_assoc ys xs zs) (IsPermutation-append_left zs (xs ++ ys) (ys ++ xs) (IsPermutation-append_comm xs ys))) in
    subst (λ l. IsPermutation l ((ws ++ ys) ++ (xs ++ zs))) (sym (append_assoc ws xs (ys ++ zs)))
    (subst (λ l. IsPermutation (ws ++ (xs ++ (ys ++ zs))) l) (sym (append_assoc ws ys (xs ++ zs))) (IsPermutation-append_right ws (xs ++ (ys ++ zs)) (ys ++ (xs ++ zs)) inner))

-- what is added to one list in two steps, before what is added to the others
one_more : (x y z : List Tuple) (whole first second : List Tuple) → IsPrefixOf x y → IsPrefixOf y z → IsPermutation whole (first ++ second)
    → IsPermutation (drop (length x) z ++ whole) ((drop (length x) y ++ first) ++ (drop (length y) z ++ second))
one_more x y z whole first second h k rest =
    let split : drop (length x) z ≡ drop (length x) y ++ k.0 =
    ap (drop (length x)) (k.1 ∙ ap (λ l. l ++ k.0) h.1) ∙ drop_within x h.0 k.0 ∙ ap (λ l. drop (length x) l ++ k.0) (sym h.1) in
    let tail : drop (length y) z ≡ k.0 = ap (drop (length y)) k.1 ∙ drop_front y k.0 in
    subst (λ l. IsPermutation (l ++ whole) ((drop (length x) y ++ first) ++ (drop (length y) z ++ second))) (sym split)
    (subst (λ l. IsPermutation ((drop (length x) y ++ k.0) ++ whole) ((drop (length x) y ++ first) ++ (l ++ second))) (sym tail)
    (IsPermutation-trans ((drop (length x) y ++ k.0) ++ whole) ((drop (length x) y ++ k.0) ++ (first ++ second)) ((drop (length x) y ++ first) ++ (k.0 ++ second))
    (IsPermutation-append_right (drop (length x) y ++ k.0) whole (first ++ second) rest) (turned (drop (length x) y) k.0 first second)))

pub added_twice : (xs ys zs : List (List Tuple)) → ArePrefixes xs ys → ArePrefixes ys zs → IsPermutation (added_to xs zs) (added_to xs ys ++ added_to ys zs)
added_twice [] [] [] h k = IsPermutation-refl []
added_twice [] [] (z ∷ zs) h k = absurd k
added_twice [] (y ∷ ys) zs h k = absurd h
added_twice (x ∷ xs) [] zs h k = absurd h
added_twice (x ∷ xs) (y ∷ ys) [] h k = absurd k
added_twice (x ∷ xs) (y ∷ ys) (z ∷ zs) h k = one_more x y z (added_to xs zs) (added_to xs ys) (added_to ys zs) h.0 k.0 (added_twice xs ys zs h.1 k.1)

none_twice : (ys zs : List (List Tuple)) → ArePrefixes ys zs → IsPermutation (added_to [] zs) (added_to [] ys ++ added_to ys zs)
none_twice [] [] k = IsPermutation-refl []
none_twice [] (z ∷ zs) k = absurd k
none_twice (y ∷ ys) [] k = absurd k
none_twice (y ∷ ys) (z ∷ zs) k = one_more [] y z (added_to [] zs) (added_to [] ys) (added_to ys zs) (y, refl) k.0 (none_twice ys zs k.1)

blank_twice : (ys zs : List (List Tuple)) → ArePrefixes ys zs → IsPermutation (added_to ([] ∷ []) zs) (added_to ([] ∷ []) ys ++ added_to ys zs)
blank_twice [] [] k = IsPermutation-refl []
blank_twice [] (z ∷ zs) k = absurd k
blank_twice (y ∷ ys) [] k = absurd k
blank_twice (y ∷ ys) (z ∷ zs) k = none_twice (y ∷ ys) (z ∷ zs) k

-- the same of states
pub added_join : (x y z : State) → IsStore x → IsStore y → IsFrontState x y → IsFrontState y z → IsPermutation (added_to x.urls.lists z.urls.lists)
    (added_to x.urls.lists y.urls.lists ++ added_to y.urls.lists z.urls.lists)
added_join x y z store made one two = elim store [
  | inl blank ↦ subst Joins (sym blank) (from_blank made)
  | inr settings ↦
      let first = made_fronts settings.0 x y settings.1 one in
      elim made [
        | inl none ↦
            let no : Some settings.0 ≡ None = sym settings.1.settings_are ∙ sym first.settings ∙ ap (λ (s : State). s.settings) none in
            absurd (cc)
        | inr others ↦ added_twice x.urls.lists y.urls.lists z.urls.lists first.urls.lists (made_fronts others.0 y z others.1 two).urls.lists
      ]
]
  where
    Joins : State → Type 0
    Joins x = IsPermutation (added_to x.urls.lists z.urls.lists) (added_to x.urls.lists y.urls.lists ++ added_to y.urls.lists z.urls.lists)

    none : IsPermutation (added_to blank_state.urls.lists z.urls.lists) (added_to blank_state.urls.lists blank_state.urls.lists ++ added_to blank_state.urls.lists z.urls.lists)
    none = IsPermutation-refl (added_to blank_state.urls.lists z.urls.lists)

    from_blank : IsStore y → Joins blank_state
    from_blank made = elim made [
      | inl blank ↦
          subst (λ (s : State). IsPermutation (added_to blank_state.urls.lists z.urls.lists) (added_to blank_state.urls.lists s.urls.lists ++ added_to s.urls.lists z.urls.lists)) (sym blank) none
      | inr others ↦ blank_twice y.urls.lists z.urls.lists (made_fronts others.0 y z others.1 two).urls.lists
    ]

-- ---- visits
begun_more : (hs rest : List Happened) (suffixes : List ℕ) → begun_with hs ≡ Some suffixes → begun_with (hs ++ rest) ≡ Some suffixes
begun_more [] rest suffixes is = let no : None ≡ Some suffixes = is in absurd (cc)
begun_more (h ∷ hs) rest suffixes is = is

pub grows_same : (x : State) → Grows x x
grows_same x = record { offers = λ o c. c; added = λ o c. inl c; events = ([], sym (append-nil x.events)); numbers = λ n c. c; texts = λ n c. refl }

module _ (suffixes : List ℕ) (gives : Answers) (agent : List ℕ) where
  module _ (x y : State) (grown : Grows x y) where
    known_later : (host : List ℕ) (state : NoteState) → IsKnown gives x.events host state → IsKnown gives y.events host state
    known_later host state known = elim known [
      | inl event ↦
          inl (event.0, subst (λ hs. Contains (notes_in hs) event.0) (sym grown.events.1) (flat_left (λ (g : Happened). notes_of g.0) x.events grown.events.0 event.0 event.1), event.2, event.3)
      | inr answers ↦ inr answers
    ]

    -- a visit is one of a later state too, and finds the same
    visit_later : (made more : List Tuple) (v : Visit) → ((o : Tuple) → Contains made o → Contains more o) → IsVisit suffixes gives agent x made v → IsVisit suffixes gives agent y more v
    visit_later made more v within is =
        let text : url_text y.urls v.number ≡ url_text x.urls v.number = grown.texts v.number is.unique in
        let from = map_cases (λ (o : Tuple). o.aux) made (url_text x.urls v.number) is.offered in
        let offered : Contains (map (λ (o : Tuple). o.aux) more) (url_text x.urls v.number) =
        subst (λ t. Contains (map (λ (o : Tuple). o.aux) more) t) from.2 (map_member (λ (o : Tuple). o.aux) more from.0 (within from.0 from.1)) in
        record {
          begun = ap begun_with grown.events.1 ∙ begun_more x.events grown.events.0 suffixes is.begun;
          unique = grown.numbers v.number is.unique;
          offered = subst (λ t. Contains (map (λ (o : Tuple). o.aux) more) t) (sym text) offered;
          state = is.state;
          known = subst (λ t. IsKnown gives y.events (host_of t) is.state) (sym text) (known_later (host_of (url_text x.urls v.number)) is.state is.known);
          allowed = subst (λ t. leave is.state agent (target_of t) ≡ Allowed) (sym text) is.allowed;
          given = subst (λ t. gives t Page v.answer) (sym text) is.given;
        }

    found_later : (v : Visit) → Contains (numbers_in x.urls) v.number → found_by suffixes y.urls v ≡ found_by suffixes x.urls v
    found_later v there = ap (λ t. offers_of suffixes t v.answer) (grown.texts v.number there)

    pub all_found_later : (made : List Tuple) (visits : List Visit) → AreVisits suffixes gives agent x made visits
        → flat_map (found_by suffixes y.urls) visits ≡ flat_map (found_by suffixes x.urls) visits
    all_found_later made [] are = refl
    all_found_later made (v ∷ visits) are =
        ap (λ l. l ++ flat_map (found_by suffixes y.urls) visits) (found_later v are.0.unique)
        ∙ ap (λ l. found_by suffixes x.urls v ++ l) (all_found_later (made ++ found_by suffixes x.urls v) visits are.1)

    pub visits_later : (made more : List Tuple) (visits : List Visit) → ((o : Tuple) → Contains made o → Contains more o) → AreVisits suffixes gives agent x made visits
        → AreVisits suffixes gives agent y more visits
    visits_later made more [] within are = tt
    visits_later made more (v ∷ visits) within are =
        let here = found_by suffixes x.urls v in
        let there = found_by suffixes y.urls v in
        let same : there ≡ here = found_later v are.0.unique in
        let wider : (o : Tuple) → Contains (made ++ here) o → Contains (more ++ there) o = λ o c. elim (Contains-append_cases made here o c) [
          | inl old ↦ Contains-append_left more there o (within o old)
          | inr new ↦ Contains-append_right more there o (subst (λ l. Contains l o) (sym same) new)
        ] in
        (visit_later made more v within are.0, visits_later (made ++ here) (more ++ there) visits wider are.1)

  pub visits_append : (end : State) (made : List Tuple) (xs ys : List Visit) → AreVisits suffixes gives agent end made xs
      → AreVisits suffixes gives agent end (made ++ flat_map (found_by suffixes end.urls) xs) ys → AreVisits suffixes gives agent end made (xs ++ ys)
  visits_append end made [] ys h k = subst (λ l. AreVisits suffixes gives agent end l ys) (append-nil made) k
  visits_append end made (x ∷ xs) ys h k =
      let f = found_by suffixes end.urls in
      let assoc : made ++ (f x ++ flat_map f xs) ≡ (made ++ f x) ++ flat_map f xs = sym (append_assoc made (f x) (flat_map f xs)) in
      (h.0, visits_append end (made ++ f x) xs ys h.1 (subst (λ l. AreVisits suffixes gives agent end l ys) assoc k))

-- each is to a unique URL
pub visits_unique : (suffixes : List ℕ) (gives : Answers) (agent : List ℕ) (x : State) (made : List Tuple) (visits : List Visit) → AreVisits suffixes gives agent x made visits
    → (v : Visit) → Contains visits v → Contains (numbers_in x.urls) v.number
visits_unique suffixes gives agent x made [] are v c = absurd (no_member v c)
visits_unique suffixes gives agent x made (w ∷ visits) are v c = elim (member_cases w visits v c) [
  | inl same ↦ subst (λ (u : Visit). Contains (numbers_in x.urls) u.number) same are.0.unique
  | inr there ↦ visits_unique suffixes gives agent x (made ++ found_by suffixes x.urls w) visits are.1 v there
]

flat_both : {X Y : Type 0} (f : X → List Y) (xs ys : List X) → flat_map f (xs ++ ys) ≡ flat_map f xs ++ flat_map f ys
flat_both f [] ys = refl
flat_both f (x ∷ xs) ys = ap (λ l. f x ++ l) (flat_both f xs ys) ∙ sym (append_assoc (f x) (flat_map f xs) (flat_map f ys))

-- ---- where an event stands in two lists one behind the other
record InFirst {X : Type 0} (xs e : List X) (h : X) : Type 0 where
  rest : List X
  is : xs ≡ e ++ h ∷ rest

record InSecond {X : Type 0} (xs ys e : List X) (h : X) (l : List X) : Type 0 where
  before : List X
  front : e ≡ xs ++ before
  is : ys ≡ before ++ h ∷ l

which_of : {X : Type 0} (xs ys e : List X) (h : X) (l : List X) → xs ++ ys ≡ e ++ h ∷ l → InFirst xs e h ⊎ InSecond xs ys e h l
which_of [] ys e h l is = inr (record { before = e; front = refl; is = is })
which_of {X = X} (x ∷ xs) ys [] h l is =
    let same : x ≡ h = cc in
    inl (record { rest = xs; is = ap (λ w. w ∷ xs) same })
which_of {X = X} (x ∷ xs) ys (w ∷ e) h l is =
    let same : x ≡ w = cc in
    let rest : xs ++ ys ≡ e ++ h ∷ l = ap (drop 1) is in
    elim (which_of xs ys e h l rest) [
      | inl first ↦ inl (record { rest = first.rest; is = ap (λ k. x ∷ k) first.is ∙ ap (λ v. v ∷ (e ++ h ∷ first.rest)) same })
      | inr second ↦ inr (record { before = second.before; front = ap (λ v. v ∷ e) (sym same) ∙ ap (λ k. x ∷ k) second.front; is = second.is })
    ]

-- ---- the whole
-- the offers of seeds
abbrev pub of_seeds : List (List ℕ) → List Tuple
of_seeds seeds = map (offer_from 0) seeds

pub among_of : {X : Type 0} (xs ys : List X) → IsPermutation xs ys → IsAmong xs ys
among_of xs ys is = record { rest = []; is = subst (λ l. IsPermutation l ys) (sym (append-nil xs)) is }

module _ (input : Taped) (gives : Answers) (agent : List ℕ) (few many : List (List ℕ)) (before first second : List Visit) (start middle end : State)
    (a : CrawlsOn (with_seeds few input) gives agent before first start middle) (b : CrawlsOn (with_seeds many input) gives agent (before ++ first) second middle end)
    (store : IsStore start) (made : IsStore middle) (one : IsFrontState start middle) (two : IsFrontState middle end) where
  later : Grows middle end
  later = grows middle end made two

  abbrev found : List Visit → List Tuple
  found visits = flat_map (found_by input.suffixes end.urls) visits

  abbrev found_first : List Tuple
  found_first = flat_map (found_by input.suffixes middle.urls) first

  same_found : found first ≡ found_first
  same_found = all_found_later input.suffixes gives agent middle end later (offers_in start.urls ++ of_seeds few) first a.visited

  seeds_are : of_seeds (few ++ many) ≡ of_seeds few ++ of_seeds many
  seeds_are = map-append (offer_from 0) few many

  -- what is offered before any visit: what the start lists, and all seeds
  abbrev offered : List Tuple
  offered = offers_in start.urls ++ of_seeds (few ++ many)

  old_offered : (o : Tuple) → Contains (offers_in start.urls) o → Contains offered o
  old_offered o c = Contains-append_left (offers_in start.urls) (of_seeds (few ++ many)) o c

  few_offered : (o : Tuple) → Contains (of_seeds few) o → Contains offered o
  few_offered o c =
      Contains-append_right (offers_in start.urls) (of_seeds (few ++ many)) o (subst (λ l. Contains l o) (sym seeds_are) (Contains-append_left (of_seeds few) (of_seeds many) o c))

  many_offered : (o : Tuple) → Contains (of_seeds many) o → Contains offered o
  many_offered o c =
      Contains-append_right (offers_in start.urls) (of_seeds (few ++ many)) o (subst (λ l. Contains l o) (sym seeds_are) (Contains-append_right (of_seeds few) (of_seeds many) o c))

  first_made : (o : Tuple) → Contains (offers_in start.urls ++ of_seeds few) o → Contains offered o
  first_made o c = elim (Contains-append_cases (offers_in start.urls) (of_seeds few) o c) [
    | inl old ↦ old_offered o old
    | inr seed ↦ few_offered o seed
  ]

  -- what the middle one lists stood there, is a seed's, or was found
  listed : (o : Tuple) → Contains (offers_in middle.urls) o → Contains (offered ++ found first) o
  listed o c = elim ((grows start middle store one).added o c) [
    | inl old ↦ Contains-append_left offered (found first) o (old_offered o old)
    | inr new ↦
        elim (Contains-append_cases (of_seeds few) found_first o (among_member _ _ o a.offers new)) [
          | inl seed ↦ Contains-append_left offered (found first) o (few_offered o seed)
          | inr there ↦ Contains-append_right offered (found first) o (subst (λ l. Contains l o) (sym same_found) there)
        ]
  ]

  second_made : (o : Tuple) → Contains (offers_in middle.urls ++ of_seeds many) o → Contains (offered ++ found first) o
  second_made o c = elim (Contains-append_cases (offers_in middle.urls) (of_seeds many) o c) [
    | inl old ↦ listed o old
    | inr seed ↦ Contains-append_left offered (found first) o (many_offered o seed)
  ]

  visited : AreVisits input.suffixes gives agent end offered (first ++ second)
  visited =
      visits_append input.suffixes gives agent end offered first second
      (visits_later input.suffixes gives agent middle end later (offers_in start.urls ++ of_seeds few) offered first first_made a.visited)
      (visits_later input.suffixes gives agent end end (grows_same end) (offers_in middle.urls ++ of_seeds many) (offered ++ found first) second second_made b.visited)

  -- the seeds of both, and what both found
  order : IsPermutation ((of_seeds few ++ found_first) ++ (of_seeds many ++ found second)) (of_seeds (few ++ many) ++ found (first ++ second))
  order =
      let same : of_seeds (few ++ many) ++ found (first ++ second) ≡ (of_seeds few ++ of_seeds many) ++ (found_first ++ found second) =
      ap (λ l. l ++ found (first ++ second)) seeds_are ∙ ap (λ l. (of_seeds few ++ of_seeds many) ++ l) (flat_both (found_by input.suffixes end.urls) first second)
      ∙ ap (λ l. (of_seeds few ++ of_seeds many) ++ (l ++ found second)) same_found in
      subst (λ l. IsPermutation ((of_seeds few ++ found_first) ++ (of_seeds many ++ found second)) l) (sym same) (turned (of_seeds few) found_first (of_seeds many) (found second))

  abbrev added : List Tuple
  added = added_to start.urls.lists end.urls.lists

  abbrev parts : List Tuple
  parts = added_to start.urls.lists middle.urls.lists ++ added_to middle.urls.lists end.urls.lists

  offers : IsAmong added (of_seeds (few ++ many) ++ found (first ++ second))
  offers = among_trans (among_of added parts (added_join start middle end store made one two)) (among_trans (among_append a.offers b.offers) (among_of _ _ order))

  events : end.events ≡ start.events ++ (a.more ++ b.more)
  events = b.events ∙ ap (λ hs. hs ++ b.more) a.events ∙ append_assoc start.events a.more b.more

  -- ---- what was settled
  in_middle : (earlier rest : List Happened) (h : Happened) (fronts : List ℕ) (outcomes : List (ℕ × Outcome)) → a.more ≡ earlier ++ h ∷ rest → h.0 ≡ Settle fronts outcomes
      → (d : ℕ × Outcome) → Contains outcomes d → Contains (settled_in middle.events) d
  in_middle earlier rest h fronts outcomes at is d c =
      let place : middle.events ≡ start.events ++ (earlier ++ h ∷ rest) = a.events ∙ ap (λ hs. start.events ++ hs) at in
      let here : Contains (outcomes_of h.0) d = subst (λ (e : Event). Contains (outcomes_of e) d) (sym is) c in
      subst (λ hs. Contains (settled_in hs) d) (sym place)
      (flat_member (λ (g : Happened). outcomes_of g.0) (start.events ++ (earlier ++ h ∷ rest)) h d
      (Contains-append_right start.events (earlier ++ h ∷ rest) h (Contains-append_right earlier (h ∷ rest) h (first_member h rest))) here)

  wider : (v : Visit) → Contains ((before ++ first) ++ second) v → Contains (before ++ (first ++ second)) v
  wider v c = subst (λ vs. Contains vs v) (append_assoc before first second) c

  comes_later : (settings : Settings) (l : Leave) (fronts : List ℕ) (n : ℕ) (o : Outcome) → IsCrawlStore settings middle → IsBelow fronts (lengths_of middle.urls)
      → url_text end.urls n ≡ url_text middle.urls n → ComesOf input.suffixes (before ++ first) middle.urls fronts l n o → ComesOf input.suffixes (before ++ (first ++ second)) end.urls fronts l n o
  comes_later settings Allowed fronts n o is below text c =
      let v = c.0 in
      let place : url_text end.urls v.number ≡ url_text middle.urls v.number = ap (url_text end.urls) c.2 ∙ text ∙ ap (url_text middle.urls) (sym c.2) in
      let same : found_by input.suffixes end.urls v ≡ found_by input.suffixes middle.urls v = ap (λ t. offers_of input.suffixes t v.answer) place in (
        v,
        wider v (Contains-append_left (before ++ first) second v c.1),
        c.2,
        c.3 ∙ ap (λ t. outcome_of t v.answer) (sym text),
        λ offer there. subst (λ os. Contains os offer) (sym (below_same_of settings middle end fronts is two below)) (c.4 offer (subst (λ os. Contains os offer) same there)),
      )
  comes_later settings (Denied line) fronts n o is below text c = c
  comes_later settings Shut fronts n o is below text c = c

  one_later : (settings : Settings) (earlier : List Happened) (fronts : List ℕ) (d : ℕ × Outcome) → IsCrawlStore settings middle → IsBelow fronts (lengths_of middle.urls)
      → Contains (settled_in middle.events) d → IsSettled input.suffixes agent (before ++ first) middle.urls (start.events ++ earlier) fronts d.0 d.1
      → IsSettled input.suffixes agent (before ++ (first ++ second)) end.urls (start.events ++ earlier) fronts d.0 d.1
  one_later settings earlier fronts d is below there it =
      let text = later.texts d.0 (settled_number settings middle is d.0 d.1 there) in
      record {
        note = it.note;
        noted = it.noted;
        host = it.host ∙ ap host_of (sym text);
        comes = subst (λ t. ComesOf input.suffixes (before ++ (first ++ second)) end.urls fronts (leave it.note.state agent (target_of t)) d.0 d.1) (sym text)
            (comes_later settings (leave it.note.state agent (target_of (url_text middle.urls d.0))) fronts d.0 d.1 is below text it.comes);
      }

  comes_wider : (l : Leave) (fronts : List ℕ) (n : ℕ) (o : Outcome) → ComesOf input.suffixes ((before ++ first) ++ second) end.urls fronts l n o
      → ComesOf input.suffixes (before ++ (first ++ second)) end.urls fronts l n o
  comes_wider Allowed fronts n o c = (c.0, wider c.0 c.1, c.2, c.3, c.4)
  comes_wider (Denied line) fronts n o c = c
  comes_wider Shut fronts n o c = c

  settled : (earlier later : List Happened) (h : Happened) (fronts : List ℕ) (outcomes : List (ℕ × Outcome)) → a.more ++ b.more ≡ earlier ++ h ∷ later → h.0 ≡ Settle fronts outcomes
      → AllByRecursion (λ d. IsSettled input.suffixes agent (before ++ (first ++ second)) end.urls (start.events ++ earlier) fronts d.0 d.1) outcomes
  settled earlier later h fronts outcomes at is = elim (which_of a.more b.more earlier h later at) [
    | inl here ↦
        let all = a.settled earlier here.rest h fronts outcomes here.is is in
        let place : middle.events ≡ (start.events ++ earlier) ++ h ∷ here.rest = a.events ∙ ap (λ hs. start.events ++ hs) here.is ∙ sym (append_assoc start.events earlier (h ∷ here.rest)) in
        all_from (λ (d : ℕ × Outcome). IsSettled input.suffixes agent (before ++ (first ++ second)) end.urls (start.events ++ earlier) fronts d.0 d.1) outcomes (λ d c.
        let there = in_middle earlier here.rest h fronts outcomes here.is is d c in
        by (made_of d there) earlier here.rest h fronts outcomes place is d there
        (all_member (λ (e : ℕ × Outcome). IsSettled input.suffixes agent (before ++ first) middle.urls (start.events ++ earlier) fronts e.0 e.1) outcomes d all c))
    | inr here ↦
        let all = b.settled here.before later h fronts outcomes here.is is in
        let front : middle.events ++ here.before ≡ start.events ++ earlier =
        ap (λ hs. hs ++ here.before) a.events ∙ append_assoc start.events a.more here.before ∙ ap (λ hs. start.events ++ hs) (sym here.front) in
        all_from (λ (d : ℕ × Outcome). IsSettled input.suffixes agent (before ++ (first ++ second)) end.urls (start.events ++ earlier) fronts d.0 d.1) outcomes (λ d c.
        let it = all_member (λ (e : ℕ × Outcome). IsSettled input.suffixes agent ((before ++ first) ++ second) end.urls (middle.events ++ here.before) fronts e.0 e.1) outcomes d all c in
        record {
          note = it.note;
          noted = subst (λ hs. Contains (notes_in hs) it.note) front it.noted;
          host = it.host;
          comes = comes_wider (leave it.note.state agent (target_of (url_text end.urls d.0))) fronts d.0 d.1 it.comes;
        })
  ]
    where
      made_of : (d : ℕ × Outcome) → Contains (settled_in middle.events) d → (settings : Settings) × IsCrawlStore settings middle
      made_of d there = elim made [
        | inl blank ↦ absurd (no_member d (subst (λ (x : State). Contains (settled_in x.events) d) blank there))
        | inr is ↦ is
      ]

      by : (m : (settings : Settings) × IsCrawlStore settings middle) (earlier rest : List Happened) (h : Happened) (fronts : List ℕ) (outcomes : List (ℕ × Outcome))
          → middle.events ≡ (start.events ++ earlier) ++ h ∷ rest → h.0 ≡ Settle fronts outcomes → (d : ℕ × Outcome) → Contains (settled_in middle.events) d
          → IsSettled input.suffixes agent (before ++ first) middle.urls (start.events ++ earlier) fronts d.0 d.1
          → IsSettled input.suffixes agent (before ++ (first ++ second)) end.urls (start.events ++ earlier) fronts d.0 d.1
      by m earlier rest h fronts outcomes place is d there it =
          one_later m.0 earlier fronts d m.1 (settle_below_of m.0 middle (start.events ++ earlier) rest h fronts outcomes m.1 place is) there it

  pub seeds_join : AllPairs (λ x y. x ≢ y) (map (λ (visit : Visit). visit.number) (first ++ second)) → CrawlsOn (with_seeds (few ++ many) input) gives agent before (first ++ second) start end
  seeds_join once = record {
    once = once;
    visited = visited;
    offers = offers;
    more = a.more ++ b.more;
    events = events;
    begun = λ h suffixes there is. elim (Contains-append_cases a.more b.more h there) [ inl old ↦ a.begun h suffixes old is | inr new ↦ b.begun h suffixes new is ];
    notes = λ note there. elim (flat_append (λ (g : Happened). notes_of g.0) a.more b.more note there) [ inl old ↦ a.notes note old | inr new ↦ b.notes note new ];
    settled = settled;
  }

  -- and nothing is left over, where nothing was in both
  rest_of : (x : State) (hs more : List Happened) → x.events ≡ hs ++ more → drop (length hs) x.events ≡ more
  rest_of x hs more is = ap (drop (length hs)) is ∙ drop_front hs more

  -- what came of a visit, by a state's URLs
  abbrev came : State → Visit → ℕ × Outcome
  came x v = (v.number, outcome_of (url_text x.urls v.number) v.answer)

  pub seeds_leave : LeavesNone (with_seeds few input) first start middle → LeavesNone (with_seeds many input) second middle end
      → LeavesNone (with_seeds (few ++ many) input) (first ++ second) start end
  seeds_leave g h = record {
    offers = IsPermutation-trans added parts (of_seeds (few ++ many) ++ found (first ++ second)) (added_join start middle end store made one two)
        (IsPermutation-trans parts ((of_seeds few ++ found_first) ++ (of_seeds many ++ found second)) (of_seeds (few ++ many) ++ found (first ++ second))
        (IsPermutation-append (added_to start.urls.lists middle.urls.lists) (of_seeds few ++ found_first)
        (added_to middle.urls.lists end.urls.lists) (of_seeds many ++ found second) g.offers h.offers) order);
    settled = all_from (λ (v : Visit). Contains (settled_in (drop (length start.events) end.events)) (came end v)) (first ++ second) (λ v c.
        subst (λ hs. Contains (settled_in hs) (came end v)) (sym (rest_of end start.events (a.more ++ b.more) events)) (settled_both v c));
  }
    where
      settled_both : (v : Visit) → Contains (first ++ second) v → Contains (settled_in (a.more ++ b.more)) (came end v)
      settled_both v c = elim (Contains-append_cases first second v c) [
        | inl old ↦
            let there = all_member (λ (w : Visit). Contains (settled_in (drop (length start.events) middle.events)) (came middle w)) first v g.settled old in
            let there_more = subst (λ hs. Contains (settled_in hs) (came middle v)) (rest_of middle start.events a.more a.events) there in
            let text : url_text end.urls v.number ≡ url_text middle.urls v.number =
            later.texts v.number (visits_unique input.suffixes gives agent middle (offers_in start.urls ++ of_seeds few) first a.visited v old) in
            subst (λ t. Contains (settled_in (a.more ++ b.more)) (v.number, outcome_of t v.answer)) (sym text)
            (flat_left (λ (g : Happened). outcomes_of g.0) a.more b.more (came middle v) there_more)
        | inr new ↦
            let there = all_member (λ (w : Visit). Contains (settled_in (drop (length middle.events) end.events)) (came end w)) second v h.settled new in
            flat_right (λ (g : Happened). outcomes_of g.0) a.more b.more (came end v)
            (subst (λ hs. Contains (settled_in hs) (came end v)) (rest_of end middle.events b.more b.events) there)
      ]

-- ---- where the first crawl offers all seeds, and where it offers none
module _ (input : Taped) (gives : Answers) (agent : List ℕ) (before first second : List Visit) (start middle end : State) where
  pub crawls_join : CrawlsOn input gives agent before first start middle → CrawlsOn (without_seeds input) gives agent (before ++ first) second middle end
      → AllPairs (λ x y. x ≢ y) (map (λ (visit : Visit). visit.number) (first ++ second)) → IsStore start → IsStore middle → IsFrontState start middle → IsFrontState middle end
      → CrawlsOn input gives agent before (first ++ second) start end
  crawls_join a b once store made one two =
      subst (λ seeds. CrawlsOn (with_seeds seeds input) gives agent before (first ++ second) start end) (append-nil input.seeds)
      (seeds_join input gives agent input.seeds [] before first second start middle end a b store made one two once)

  pub leaves_join : CrawlsOn input gives agent before first start middle → CrawlsOn (without_seeds input) gives agent (before ++ first) second middle end
      → IsStore start → IsStore middle → IsFrontState start middle → IsFrontState middle end → LeavesNone input first start middle → LeavesNone (without_seeds input) second middle end
      → LeavesNone input (first ++ second) start end
  leaves_join a b store made one two g h =
      subst (λ seeds. LeavesNone (with_seeds seeds input) (first ++ second) start end) (append-nil input.seeds)
      (seeds_leave input gives agent input.seeds [] before first second start middle end a b store made one two g h)

  pub crawls_follow : CrawlsOn (without_seeds input) gives agent before first start middle → CrawlsOn input gives agent (before ++ first) second middle end
      → AllPairs (λ x y. x ≢ y) (map (λ (visit : Visit). visit.number) (first ++ second)) → IsStore start → IsStore middle → IsFrontState start middle → IsFrontState middle end
      → CrawlsOn input gives agent before (first ++ second) start end
  crawls_follow a b once store made one two = seeds_join input gives agent [] input.seeds before first second start middle end a b store made one two once

  pub leaves_follow : CrawlsOn (without_seeds input) gives agent before first start middle → CrawlsOn input gives agent (before ++ first) second middle end
      → IsStore start → IsStore middle → IsFrontState start middle → IsFrontState middle end → LeavesNone (without_seeds input) first start middle → LeavesNone input second middle end
      → LeavesNone input (first ++ second) start end
  leaves_follow a b store made one two g h = seeds_leave input gives agent [] input.seeds before first second start middle end a b store made one two g h
