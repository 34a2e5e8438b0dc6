-- What all fetchers give over two stretches of time, one behind the other.
use Rattle.std.proofs.Common.{◌≡◌, ℕ, ◌<◌, ◌≤◌, List, length, Some, arith}
use Rattle.std.specs.Prelude.{slice_get}
use Rattle.irl_polite.proofs.Lists.{get_some, get_within}
use Rattle.irl_record.specs.Widening.{Answers, Widens}
use Rattle.irl_record.specs.Wired.{Made, how_many}
use Rattle.irl_fetch.proofs.Telling.{keeps_count}
use Rattle.irl_crawl.specs.Workers.{AllGoOn, IsGivenBy}

-- where one list has an element another of its length has one
one_there : {X Y : Type 0} (xs : List X) (ys : List Y) (at : ℕ) (x : X) → length ys ≡ length xs → slice_get xs at ≡ Some x → (y : Y) × (slice_get ys at ≡ Some y)
one_there xs ys at x long is =
    let within : at < length xs = get_within xs at x is in
    get_some ys at (omega (arith, within, long))

-- the answers of a fetcher since a count are among those since each count before it
abbrev pub AreEarlier : {F : Type 0} → (F → ℕ → Answers) → Type 0
AreEarlier {F} gives = (x : F) (since later : ℕ) → since ≤ later → Widens (gives x later) (gives x since)

module _ {F : Type 0} (asked : F → Made) (gives : F → ℕ → Answers) (faults last : F → ℕ) (aim : F → List ℕ) (olds mids news : List F) (one : AllGoOn asked gives faults last aim olds mids)
    (two : AllGoOn asked gives faults last aim mids news) where
  -- what was given in the first one,
  pub given_first : Widens (IsGivenBy asked gives olds mids) (IsGivenBy asked gives olds news)
  given_first url want answer given =
      let new = one_there mids news given.at given.new two.count given.is in
      let on = two.each given.at given.new new.0 given.is new.1 in
      record { at = given.at; old = given.old; new = new.0; was = given.was; is = new.1; given = on.wider (how_many (asked given.old)) url want answer given.given }

  -- and in the second, is given in both together
  pub given_second : AreEarlier gives → Widens (IsGivenBy asked gives mids news) (IsGivenBy asked gives olds news)
  given_second earlier url want answer given =
      let same : length olds ≡ length mids = omega (arith, one.count) in
      let old = one_there mids olds given.at given.old same given.was in
      let on = one.each given.at old.0 given.old old.1 given.was in
      let since = keeps_count (asked old.0) (asked given.old) on.asked in
      record {
        at = given.at;
        old = old.0;
        new = given.new;
        was = old.1;
        is = given.is;
        given = earlier given.new (how_many (asked old.0)) (how_many (asked given.old)) since url want answer given.given;
      }
