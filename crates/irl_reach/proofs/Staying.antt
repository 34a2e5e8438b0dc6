-- A crawl whose answers are a tape's stays along it.
use Rattle.std.proofs.Common.{◌≡◌, ◌∙◌, ℕ, true, false, List, [], ◌∷◌, ◌++◌, map, refl, sym, ap, subst, append_assoc, ◌⊎◌, inl, inr}
use Rattle.std.specs.Prelude.{flat_map, unwrap_or}
use Rattle.std.specs.List.{Contains}
use Rattle.std.proofs.lemmas.List.Elements.{Contains-append_cases}
use Rattle.irl_answer.specs.Found.{offer_from, offers_of}
use Rattle.irl_answer.specs.Outcomes.{outcome_of}
use Rattle.irl_core.specs.States.{IsOfBooks, begun_with, url_text, offers_of as offers_in}
use Rattle.irl_events.specs.Events.{Event, Begin, Pairs, Pass, Robots, Settle, Happened, progress}
use Rattle.irl_events.specs.State.{State, IsFrontState, blank_state}
use Rattle.irl_key.specs.Key.{key_of}
use Rattle.irl_key.specs.Web.{host_of, target_of}
use Rattle.irl_model.proofs.FrontLaws.{stretch_same}
use Rattle.irl_model.specs.Book.{IsBelow, lengths_of, stretch}
use Rattle.irl_offer.specs.declared.note.Note.{Note}
use Rattle.irl_offer.specs.declared.note.NoteState.{NoteState}
use Rattle.irl_offer.specs.declared.outcome.Outcome.{Outcome}
use Rattle.irl_offer.specs.declared.settings.Settings.{Settings}
use Rattle.irl_offer.specs.Tuple.{Tuple}
use Rattle.irl_record.specs.Fetched.{by_tape}
use Rattle.irl_record.specs.Taped.{Taped}
use Rattle.irl_robots.specs.declared.host.Leave.{Leave}
use Rattle.irl_robots.specs.declared.host.Leave.TheVariants.{Allowed, Denied, Shut}
use Rattle.irl_robots.specs.Leave.{leave}
use Rattle.irl_reach.specs.Along.{IsAlong, IsOfText, KeysDiffer, keys_in, notes_in, notes_of, outcomes_of, settled_in}
use Rattle.irl_reach.specs.Crawls.{AreVisits, ComesOf, Crawls, IsCrawlStore, IsKnown, IsSettled, IsStore, IsVisit, Visit, domain_of, found_by, offers_below, seed_offers}
use Rattle.irl_reach.specs.Reached.{LeadsTo, Reached, Seed, Led, is_followed}
use Rattle.irl_reach.specs.Tapes.{IsDue, IsNoteOn, answer_on, found_on, outcome_by}
use Rattle.irl_reach.proofs.Finds.{found_followed, found_text, seed_text}
use Rattle.irl_reach.proofs.Growing.{Grows, fronts_join, grows, made_fronts, stretch_member}
use Rattle.irl_reach.proofs.Members.{all_member, among_member, cut_front, flat_append, flat_cases, flat_left, map_cases, map_member, member_cases, no_member, split_at}
use Rattle.irl_reach.proofs.Settled.{settled_number}

module _ (tape : Taped) (agent : List ℕ) where
  -- an offer of a text of the tape whose key is reached
  pub record IsGood (offer : Tuple) : Type 0 where
    pub text : IsOfText tape offer
    pub reached : Reached tape agent offer.key

  good_seeds : (offer : Tuple) → Contains (seed_offers tape) offer → IsGood offer
  good_seeds offer h =
      let found = map_cases (offer_from 0) tape.seeds offer h in
      subst IsGood found.2 (record { text = seed_text tape found.0 found.1; reached = Seed found.0 found.1 })

  module _ (end : State) (notes : (note : Note) → Contains (notes_in end.events) note → IsNoteOn tape note.host note.state) where
    known_note : (host : List ℕ) (state : NoteState) → IsKnown (by_tape tape) end.events host state → IsNoteOn tape host state
    known_note host state known = elim known [
      | inl event ↦ subst (λ h. IsNoteOn tape h state) event.2 (subst (λ s. IsNoteOn tape event.0.host s) event.3 (notes event.0 event.1))
      | inr answers ↦ answers
    ]

    -- what a visit finds, where it is to a URL that was offered before
    good_found : (made : List Tuple) (visit : Visit) → ((offer : Tuple) → Contains made offer → IsGood offer) → IsVisit tape.suffixes (by_tape tape) agent end made visit
        → (offer : Tuple) → Contains (found_by tape.suffixes end.urls visit) offer → IsGood offer
    good_found made visit good is offer h =
        let url = url_text end.urls visit.number in
        let before = map_cases (λ (o : Tuple). o.aux) made url is.offered in
        let known = good before.0 before.1 in
        let key : before.0.key ≡ key_of url = known.text.key ∙ ap key_of before.2 in
        let there : Reached tape agent (key_of url) = subst (λ k. Reached tape agent k) key known.reached in
        let answer : visit.answer ≡ answer_on tape url = is.given in
        let found : Contains (found_on tape url) offer = subst (λ a. Contains (offers_of tape.suffixes url a) offer) answer h in
        let due : IsDue tape agent url (outcome_of url (answer_on tape url)) =
        record { state = is.state; note = known_note (host_of url) is.state is.known; is = sym (ap (λ l. outcome_by l (outcome_of url (answer_on tape url))) is.allowed) } in
        let leads : LeadsTo tape agent url offer =
        record { outcome = outcome_of url (answer_on tape url); due = due; followed = found_followed tape.suffixes url (answer_on tape url) offer found; found = found } in
        record { text = found_text tape url offer found; reached = Led url offer there leads }

    good_visits : (made : List Tuple) (visits : List Visit) → ((offer : Tuple) → Contains made offer → IsGood offer) → AreVisits tape.suffixes (by_tape tape) agent end made visits
        → (offer : Tuple) → Contains (flat_map (found_by tape.suffixes end.urls) visits) offer → IsGood offer
    good_visits made [] good are offer h = absurd (no_member offer h)
    good_visits made (visit ∷ visits) good are offer h =
        let here = good_found made visit good are.0 in
        let more : (o : Tuple) → Contains (made ++ found_by tape.suffixes end.urls visit) o → IsGood o =
        λ o c. elim (Contains-append_cases made (found_by tape.suffixes end.urls visit) o c) [ inl old ↦ good o old | inr new ↦ here o new ] in
        elim (Contains-append_cases (found_by tape.suffixes end.urls visit) (flat_map (found_by tape.suffixes end.urls) visits) offer h) [
          | inl first ↦ here offer first
          | inr later ↦ good_visits (made ++ found_by tape.suffixes end.urls visit) visits more are.1 offer later
        ]

    visit_answer : (made : List Tuple) (visits : List Visit) (v : Visit) → AreVisits tape.suffixes (by_tape tape) agent end made visits → Contains visits v
        → v.answer ≡ answer_on tape (url_text end.urls v.number)
    visit_answer made [] v are h = absurd (no_member v h)
    visit_answer made (visit ∷ visits) v are h = elim (member_cases visit visits v h) [
      | inl same ↦ subst (λ (w : Visit). w.answer ≡ answer_on tape (url_text end.urls w.number)) same are.0.given
      | inr there ↦ visit_answer (made ++ found_by tape.suffixes end.urls visit) visits v are.1 there
    ]

-- an event that settles something is a settle
pub record IsSettle (event : Event) (d : ℕ × Outcome) : Type 0 where
  pub fronts : List ℕ
  pub outcomes : List (ℕ × Outcome)
  pub is : event ≡ Settle fronts outcomes
  pub there : Contains outcomes d

settle_of : (event : Event) (d : ℕ × Outcome) → Contains (outcomes_of event) d → IsSettle event d
settle_of (Begin suffixes) d h = absurd (no_member d h)
settle_of (Pairs cuts judged pairs) d h = absurd (no_member d h)
settle_of (Pass judged) d h = absurd (no_member d h)
settle_of (Robots note) d h = absurd (no_member d h)
settle_of (Settle fronts outcomes) d h = record { fronts = fronts; outcomes = outcomes; is = refl; there = h }

-- what a legal settle's fronts stand above is in each later state the same
pub settle_below_of : (settings : Settings) (state : State) (before after : List Happened) (h : Happened) (fronts : List ℕ) (outcomes : List (ℕ × Outcome)) → IsCrawlStore settings state
    → state.events ≡ before ++ h ∷ after → h.0 ≡ Settle fronts outcomes → IsBelow fronts (lengths_of state.urls)
settle_below_of settings state before after h fronts outcomes is at same =
    let domain = domain_of (unwrap_or (begun_with state.events) []) in
    (subst (λ (e : Event). IsOfBooks domain key_of settings state.urls state.pairs (progress settings.queues settings.buckets before) e h.1) same (is.legal.each before after h.0 h.1 at)).0

pub below_same_of : (settings : Settings) (x y : State) (fronts : List ℕ) → IsCrawlStore settings x → IsFrontState x y → IsBelow fronts (lengths_of x.urls)
    → offers_below fronts y.urls ≡ offers_below fronts x.urls
below_same_of settings x y fronts is front below =
    let books = (made_fronts settings x y is front).urls in
    ap (λ firsts. stretch firsts firsts fronts y.urls.lists) books.firsts ∙ stretch_same x.urls.firsts x.urls.firsts fronts x.urls.lists y.urls.lists below books.lists

-- ---- what a crawl offers
module _ (tape : Taped) (agent : List ℕ) (visits : List Visit) (start end : State) (along : IsAlong tape agent start) (crawls : Crawls tape (by_tape tape) agent visits start end)
    (store : IsStore start) (front : IsFrontState start end) where
  notes_along : (note : Note) → Contains (notes_in end.events) note → IsNoteOn tape note.host note.state
  notes_along note h = elim (flat_append (λ (g : Happened). notes_of g.0) start.events crawls.more note (subst (λ hs. Contains (notes_in hs) note) crawls.events h)) [
    | inl old ↦ along.notes note old
    | inr new ↦ crawls.notes note new
  ]

  good_start : (offer : Tuple) → Contains (offers_in start.urls) offer → IsGood tape agent offer
  good_start offer h = record { text = along.texts offer h; reached = along.reached offer.key (map_member (λ (o : Tuple). o.key) (offers_in start.urls) offer h) }

  good_made : (offer : Tuple) → Contains (offers_in start.urls ++ seed_offers tape) offer → IsGood tape agent offer
  good_made offer h = elim (Contains-append_cases (offers_in start.urls) (seed_offers tape) offer h) [
    | inl old ↦ good_start offer old
    | inr seed ↦ good_seeds tape agent offer seed
  ]

  good_along : (offer : Tuple) → Contains (offers_in end.urls) offer → IsGood tape agent offer
  good_along offer h = elim ((grows start end store front).added offer h) [
    | inl old ↦ good_start offer old
    | inr new ↦
        let there = among_member _ (seed_offers tape ++ flat_map (found_by tape.suffixes end.urls) visits) offer crawls.offers new in
        elim (Contains-append_cases (seed_offers tape) (flat_map (found_by tape.suffixes end.urls) visits) offer there) [
          | inl seed ↦ good_seeds tape agent offer seed
          | inr found ↦ good_visits tape agent end notes_along (offers_in start.urls ++ seed_offers tape) visits good_made crawls.visited offer found
        ]
  ]

  reached_in : (offers : List Tuple) → ((offer : Tuple) → Contains offers offer → IsGood tape agent offer) → (key : ℕ) → Contains (map (λ o. o.key) offers) key → Reached tape agent key
  reached_in offers good key h =
      let from = map_cases (λ (o : Tuple). o.key) offers key h in
      subst (λ k. Reached tape agent k) from.2 (good from.0 from.1).reached

  -- a state without events whose offers a crawl has, whatever its kind
  pub plain_along : (middle : State) → ((offer : Tuple) → Contains (offers_in middle.urls) offer → Contains (offers_in end.urls) offer) → middle.events ≡ [] → IsAlong tape agent middle
  plain_along middle has none =
      let good : (offer : Tuple) → Contains (offers_in middle.urls) offer → IsGood tape agent offer = λ offer h. good_along offer (has offer h) in
      record {
        distinct = along.distinct;
        texts = λ offer h. (good offer h).text;
        reached = reached_in (offers_in middle.urls) good;
        due = λ n o h. absurd (no_member (n, o) (subst (λ hs. Contains (settled_in hs) (n, o)) none h));
        followed = λ n o h. absurd (no_member (n, o) (subst (λ hs. Contains (settled_in hs) (n, o)) none h));
        notes = λ note h. absurd (no_member note (subst (λ hs. Contains (notes_in hs) note) none h));
      }

-- ---- a state on its way
module _ (tape : Taped) (agent : List ℕ) (visits : List Visit) (start middle end : State) (along : IsAlong tape agent start) (crawls : Crawls tape (by_tape tape) agent visits start end)
    (store : IsStore start) (made : IsStore middle) (one : IsFrontState start middle) (two : IsFrontState middle end) where
  first : Grows start middle
  first = grows start middle store one

  second : Grows middle end
  second = grows middle end made two

  whole : IsFrontState start end
  whole = fronts_join start middle end store one two

  -- ---- notes and offers
  end_notes : (note : Note) → Contains (notes_in end.events) note → IsNoteOn tape note.host note.state
  end_notes = notes_along tape agent visits start end along crawls store whole

  middle_notes : (note : Note) → Contains (notes_in middle.events) note → IsNoteOn tape note.host note.state
  middle_notes note h = end_notes note (subst (λ hs. Contains (notes_in hs) note) (sym second.events.1) (flat_left (λ (g : Happened). notes_of g.0) middle.events second.events.0 note h))

  good_middle : (offer : Tuple) → Contains (offers_in middle.urls) offer → IsGood tape agent offer
  good_middle offer h = good_along tape agent visits start end along crawls store whole offer (second.offers offer h)

  -- ---- outcomes
  answered : (v : Visit) (n : ℕ) → Contains visits v → v.number ≡ n → v.answer ≡ answer_on tape (url_text end.urls n)
  answered v n there same =
      visit_answer tape agent end end_notes (offers_in start.urls ++ seed_offers tape) visits v crawls.visited there ∙ ap (λ m. answer_on tape (url_text end.urls m)) same

  came : (l : Leave) (fronts : List ℕ) (n : ℕ) (o : Outcome) → ComesOf tape.suffixes visits end.urls fronts l n o
      → o ≡ outcome_by l (outcome_of (url_text end.urls n) (answer_on tape (url_text end.urls n)))
  came Allowed fronts n o c = c.3 ∙ ap (outcome_of (url_text end.urls n)) (answered c.0 n c.1 c.2)
  came (Denied line) fronts n o c = c
  came Shut fronts n o c = c

  offered : (settings : Settings) (l : Leave) (fronts : List ℕ) (n : ℕ) (o : Outcome) → IsCrawlStore settings middle → IsBelow fronts (lengths_of middle.urls)
      → ComesOf tape.suffixes visits end.urls fronts l n o → is_followed o ≡ true → (offer : Tuple) → Contains (found_on tape (url_text end.urls n)) offer → Contains (keys_in middle.urls) offer.key
  offered settings Allowed fronts n o is below c followed offer h =
      let made : found_by tape.suffixes end.urls c.0 ≡ found_on tape (url_text end.urls n) =
      ap (λ m. offers_of tape.suffixes (url_text end.urls m) c.0.answer) c.2 ∙ ap (offers_of tape.suffixes (url_text end.urls n)) (answered c.0 n c.1 c.2) in
      let there : Contains (offers_below fronts end.urls) offer = c.4 offer (subst (λ os. Contains os offer) (sym made) h) in
      let here : Contains (offers_below fronts middle.urls) offer = subst (λ os. Contains os offer) (below_same_of settings middle end fronts is two below) there in
      map_member (λ (x : Tuple). x.key) (offers_in middle.urls) offer (stretch_member middle.urls.firsts middle.urls.firsts fronts middle.urls.lists offer here)
  offered settings (Denied line) fronts n o is below c followed offer h = let no : false ≡ true = sym (ap is_followed c) ∙ followed in absurd (cc)
  offered settings Shut fronts n o is below c followed offer h = let no : false ≡ true = sym (ap is_followed c) ∙ followed in absurd (cc)

  more_are : crawls.more ≡ first.events.0 ++ second.events.0
  more_are =
      cut_front start.events crawls.more (first.events.0 ++ second.events.0)
      (sym crawls.events ∙ second.events.1 ∙ ap (λ hs. hs ++ second.events.0) first.events.1 ∙ append_assoc start.events first.events.0 second.events.0)

  -- an outcome that was settled since the start
  record IsNew (settings : Settings) (n : ℕ) (o : Outcome) : Type 0 where
    earlier : List Happened
    fronts : List ℕ
    settled : IsSettled tape.suffixes agent visits end.urls (start.events ++ earlier) fronts n o
    below : IsBelow fronts (lengths_of middle.urls)
    noted : (note : Note) → Contains (notes_in (start.events ++ earlier)) note → IsNoteOn tape note.host note.state

  is_new : (settings : Settings) (n : ℕ) (o : Outcome) → IsCrawlStore settings middle → Contains (settled_in first.events.0) (n, o) → IsNew settings n o
  is_new settings n o is h =
      let news = first.events.0 in
      let rest = second.events.0 in
      let at = flat_cases (λ (g : Happened). outcomes_of g.0) news (n, o) h in
      let cut = split_at news at.0 at.1 in
      let settle = settle_of at.0.0 (n, o) at.2 in
      let here : crawls.more ≡ cut.0 ++ at.0 ∷ (cut.1 ++ rest) = more_are ∙ ap (λ hs. hs ++ rest) cut.2 ∙ append_assoc cut.0 (at.0 ∷ cut.1) rest in
      let all = crawls.settled cut.0 (cut.1 ++ rest) at.0 settle.fronts settle.outcomes here settle.is in
      let place : middle.events ≡ (start.events ++ cut.0) ++ at.0 ∷ cut.1 = first.events.1 ∙ ap (λ hs. start.events ++ hs) cut.2 ∙ sym (append_assoc start.events cut.0 (at.0 ∷ cut.1)) in
      record {
        earlier = cut.0;
        fronts = settle.fronts;
        settled = all_member (λ (d : ℕ × Outcome). IsSettled tape.suffixes agent visits end.urls (start.events ++ cut.0) settle.fronts d.0 d.1) settle.outcomes (n, o) all settle.there;
        below = settle_below_of settings middle (start.events ++ cut.0) cut.1 at.0 settle.fronts settle.outcomes is place settle.is;
        noted = λ note c. middle_notes note (subst (λ hs. Contains (notes_in hs) note) (sym place) (flat_left (λ (g : Happened). notes_of g.0) (start.events ++ cut.0) (at.0 ∷ cut.1) note c));
      }

  due_new : (settings : Settings) (n : ℕ) (o : Outcome) → IsNew settings n o → IsDue tape agent (url_text end.urls n) o
  due_new settings n o new =
      let s = new.settled in
      record {
        state = s.note.state;
        note = subst (λ h. IsNoteOn tape h s.note.state) s.host (new.noted s.note s.noted);
        is = came (leave s.note.state agent (target_of (url_text end.urls n))) new.fronts n o s.comes;
      }

  -- by the states: nothing is settled in a store that wasn't made
  settled_made : (n : ℕ) (o : Outcome) → Contains (settled_in middle.events) (n, o) → (settings : Settings) × IsCrawlStore settings middle
  settled_made n o h = elim made [
    | inl blank ↦ absurd (no_member (n, o) (subst (λ (s : State). Contains (settled_in s.events) (n, o)) blank h))
    | inr is ↦ is
  ]

  old_text : (n : ℕ) (o : Outcome) → Contains (settled_in start.events) (n, o) → url_text middle.urls n ≡ url_text start.urls n
  old_text n o h = elim store [
    | inl blank ↦ absurd (no_member (n, o) (subst (λ (s : State). Contains (settled_in s.events) (n, o)) blank h))
    | inr is ↦ first.texts n (settled_number is.0 start is.1 n o h)
  ]

  which : (n : ℕ) (o : Outcome) → Contains (settled_in middle.events) (n, o) → Contains (settled_in start.events) (n, o) ⊎ Contains (settled_in first.events.0) (n, o)
  which n o h = flat_append (λ (g : Happened). outcomes_of g.0) start.events first.events.0 (n, o) (subst (λ hs. Contains (settled_in hs) (n, o)) first.events.1 h)

  middle_due : (n : ℕ) (o : Outcome) → Contains (settled_in middle.events) (n, o) → IsDue tape agent (url_text middle.urls n) o
  middle_due n o h = elim (which n o h) [
    | inl old ↦ subst (λ t. IsDue tape agent t o) (sym (old_text n o old)) (along.due n o old)
    | inr new ↦
        let is = settled_made n o h in
        let text = second.texts n (settled_number is.0 middle is.1 n o h) in
        subst (λ t. IsDue tape agent t o) text (due_new is.0 n o (is_new is.0 n o is.1 new))
  ]

  middle_followed : (n : ℕ) (o : Outcome) → Contains (settled_in middle.events) (n, o) → is_followed o ≡ true → (offer : Tuple) → Contains (found_on tape (url_text middle.urls n)) offer
      → Contains (keys_in middle.urls) offer.key
  middle_followed n o h followed offer found = elim (which n o h) [
    | inl old ↦
        let there = along.followed n o old followed offer (subst (λ t. Contains (found_on tape t) offer) (old_text n o old) found) in
        let from = map_cases (λ (x : Tuple). x.key) (offers_in start.urls) offer.key there in
        subst (λ k. Contains (keys_in middle.urls) k) from.2 (map_member (λ (x : Tuple). x.key) (offers_in middle.urls) from.0 (first.offers from.0 from.1))
    | inr new ↦
        let is = settled_made n o h in
        let text = second.texts n (settled_number is.0 middle is.1 n o h) in
        let it = is_new is.0 n o is.1 new in
        offered is.0 (leave it.settled.note.state agent (target_of (url_text end.urls n))) it.fronts n o is.1 it.below it.settled.comes followed offer
        (subst (λ t. Contains (found_on tape t) offer) (sym text) found)
  ]

  pub stays_along : IsAlong tape agent middle
  stays_along = record {
    distinct = along.distinct;
    texts = λ offer h. (good_middle offer h).text;
    reached = reached_in tape agent visits start end along crawls store whole (offers_in middle.urls) good_middle;
    due = middle_due;
    followed = middle_followed;
    notes = middle_notes;
  }

pub blank_along : (tape : Taped) (agent : List ℕ) → KeysDiffer tape → IsAlong tape agent blank_state
blank_along tape agent differ = record {
  distinct = differ;
  texts = λ offer h. absurd (no_member offer h);
  reached = λ key h. absurd (no_member key h);
  due = λ n o h. absurd (no_member (n, o) h);
  followed = λ n o h. absurd (no_member (n, o) h);
  notes = λ note h. absurd (no_member note h);
}
