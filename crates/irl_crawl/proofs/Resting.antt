-- What visits and notes rest on, over stretches of time one behind the other.
use Rattle.std.proofs.Common.{◌≡◌, ◌∙◌, ℕ, ◌+◌, ◌≤◌, List, [], ◌++◌, map, length, drop, sym, ap, subst, arith, length-append}
use Rattle.std.specs.Prelude.{flat_map}
use Rattle.std.proofs.lemmas.List.{append-nil, map-append}
use Rattle.std.proofs.lemmas.List.Concat.{flat_map-append}
use Rattle.std.proofs.lemmas.List.Elements.{All-append, All-nil, All-weaker}
use Rattle.irl_events.specs.Events.{Happened}
use Rattle.irl_events.specs.State.{State}
use Rattle.irl_fetch.proofs.Handling.{missing_both, noted_wider}
use Rattle.irl_fetch.specs.Handling.{IsNoted, Noted, missing}
use Rattle.irl_offer.specs.declared.note.Note.{Note}
use Rattle.irl_offer.specs.declared.reply.Answer.{Answer}
use Rattle.irl_reach.proofs.Growing.{drop_front}
use Rattle.irl_reach.specs.Along.{notes_in, notes_of}
use Rattle.irl_reach.specs.Crawls.{Visit}
use Rattle.irl_record.specs.Widening.{Answers, Widens}
use Rattle.irl_record.specs.Wired.{Made}
use Rattle.irl_crawl.proofs.Giving.{AreEarlier, given_first, given_second}
use Rattle.irl_crawl.proofs.Rising.{WidensGiven, missed_both}
use Rattle.irl_crawl.specs.Turning.{AsksOnce, RestsOn, events_since}
use Rattle.irl_crawl.specs.Workers.{AllGoOn, Given, given_by}

-- ---- events
pub since_are : (x y : State) (more : List Happened) → y.events ≡ x.events ++ more → events_since x y ≡ more
since_are x y more is = ap (drop (length x.events)) is ∙ drop_front x.events more

pub since_none : (x : State) → events_since x x ≡ []
since_none x = since_are x x [] (sym (append-nil x.events))

-- ---- what was given
-- Two stretches of time are one: what was given in either is given in it, as many answers may be missing as in both, and as
-- many connections were made.
pub record Joins (one two whole : Given) : Type 0 where
  pub first : Widens one.gives whole.gives
  pub later : Widens two.gives whole.gives
  pub misses : (m n : ℕ) → one.may_miss m → two.may_miss n → whole.may_miss (m + n)
  pub made : whole.made ≤ one.made + two.made

pub joined_given : {F : Type 0} (asked : F → Made) (gives : F → ℕ → Answers) (faults last : F → ℕ) (aim : F → List ℕ) (olds mids news : List F) → AllGoOn asked gives faults last aim olds mids
    → AllGoOn asked gives faults last aim mids news → AreEarlier gives
    → Joins (given_by asked gives faults olds mids) (given_by asked gives faults mids news) (given_by asked gives faults olds news)
joined_given asked gives faults last aim olds mids news one two earlier = record {
  first = given_first asked gives faults last aim olds mids news one two;
  later = given_second asked gives faults last aim olds mids news one two earlier;
  misses = missed_both asked gives faults last aim olds mids news one two;
  made = omega arith;
}

-- ---- what is rested on
-- where nothing was visited, and no note tells
pub rests_none : (given : Given) → given.may_miss 0 → (events : List Happened) → notes_in events ≡ [] → RestsOn given [] events
rests_none given zero events none = record { noted = []; notes = sym none; each = All-nil (IsNoted given.gives); missing_are = zero }

-- where more was given
pub rests_wider : (old new : Given) → WidensGiven old new → (visits : List Visit) (events : List Happened) → RestsOn old visits events → RestsOn new visits events
rests_wider old new wider visits events rests = record {
  noted = rests.noted;
  notes = rests.notes;
  each = All-weaker (IsNoted old.gives) (IsNoted new.gives) (noted_wider old.gives new.gives wider.gives) rests.noted rests.each;
  missing_are = wider.may_miss _ rests.missing_are;
}

-- ---- and no more is asked for
pub asks_none : (given : Given) → given.may_miss 0 → given.made ≡ 0 → (events : List Happened) → notes_in events ≡ [] → AsksOnce given [] events
unfolding rests_none
asks_none given zero made events none = record { rests = rests_none given zero events none; made = omega (arith, made) }

pub asks_wider : (old new : Given) → WidensGiven old new → (visits : List Visit) (events : List Happened) → AsksOnce old visits events → AsksOnce new visits events
unfolding rests_wider
asks_wider old new wider visits events asks = record {
  rests = rests_wider old new wider visits events asks.rests;
  made = omega (arith, wider.made, asks.made);
}

-- one behind the other
module _ (one two whole : Given) (joins : Joins one two whole) (first later : List Visit) (before after : List Happened) (a : RestsOn one first before) (b : RestsOn two later after) where
  abbrev answers_in : List Visit → List Answer
  answers_in visits = map (λ (visit : Visit). visit.answer) visits

  abbrev noted_answers : List Noted → List Answer
  noted_answers noted = flat_map (λ (one : Noted). one.answers) noted

  abbrev notes_are : List Noted → List Note
  notes_are noted = map (λ (one : Noted). one.note) noted

  pub rests_both : RestsOn whole (first ++ later) (before ++ after)
  rests_both = record {
    noted = a.noted ++ b.noted;
    notes = map-append (λ (one : Noted). one.note) a.noted b.noted ∙ ap (λ (l : List Note). l ++ notes_are b.noted) a.notes ∙ ap (λ (l : List Note). notes_in before ++ l) b.notes
        ∙ sym (flat_map-append (λ (h : Happened). notes_of h.0) before after);
    each = All-append (IsNoted whole.gives) a.noted b.noted
        (All-weaker (IsNoted one.gives) (IsNoted whole.gives) (noted_wider one.gives whole.gives joins.first) a.noted a.each)
        (All-weaker (IsNoted two.gives) (IsNoted whole.gives) (noted_wider two.gives whole.gives joins.later) b.noted b.each);
    missing_are =
        let m = missing (answers_in first) + missing (noted_answers a.noted) in
        let n = missing (answers_in later) + missing (noted_answers b.noted) in
        let visits = ap missing (map-append (λ (visit : Visit). visit.answer) first later) ∙ missing_both (answers_in first) (answers_in later) in
        let noted = ap missing (flat_map-append (λ (one : Noted). one.answers) a.noted b.noted) ∙ missing_both (noted_answers a.noted) (noted_answers b.noted) in
        let count : m + n ≡ missing (answers_in (first ++ later)) + missing (noted_answers (a.noted ++ b.noted)) = omega (arith, visits, noted) in
        subst whole.may_miss count (joins.misses m n a.missing_are b.missing_are);
  }

pub asks_both : (one two whole : Given) (joins : Joins one two whole) (first later : List Visit) (before after : List Happened) → AsksOnce one first before → AsksOnce two later after
    → AsksOnce whole (first ++ later) (before ++ after)
unfolding rests_both
asks_both one two whole joins first later before after a b =
    let answers = λ (one : Noted). one.answers in
    let noted = ap length (flat_map-append answers a.rests.noted b.rests.noted) ∙ length-append (flat_map answers a.rests.noted) (flat_map answers b.rests.noted) in
    record {
      rests = rests_both one two whole joins first later before after a.rests b.rests;
      made = omega (arith, joins.made, a.made, b.made, noted, length-append first later);
    }
