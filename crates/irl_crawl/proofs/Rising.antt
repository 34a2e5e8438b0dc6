-- Counts of faults of several fetchers, which rose by the parts of a number.
use Rattle.std.proofs.Common.{◌≡◌, ◌∙◌, ℕ, ◌+◌, ◌≤◌, zero, suc, List, [], ◌∷◌, ◌++◌, ◌<◌, length, set, get_or, Some, refl, sym, ap, arith}
use Rattle.std.specs.Prelude.{slice_get}
use Rattle.std.specs.List.{flat_map}
use Rattle.std.proofs.lemmas.List.Concat.{flat_map-append}
use Rattle.std.proofs.lemmas.Option.{same_Some}
use Rattle.irl_record.specs.Widening.{Answers, Widens}
use Rattle.irl_record.specs.Wired.{Made, how_many}
use Rattle.irl_fetch.specs.Handling.{Handled, Noted, answers_of, missing}
use Rattle.irl_fetch.proofs.Handling.{missing_both}
use Rattle.irl_fetch.proofs.Telling.{rose_none, rose_then}
use Rattle.irl_crawl.specs.Workers.{AllGoOn, Given, RoseBetween, given_by, made_by}
use Rattle.irl_crawl.proofs.Giving.{AreEarlier, given_second}

-- ---- answers that never came
abbrev pub unanswered : List Handled → List Noted → ℕ
unanswered handled noted = missing (flat_map answers_of handled) + missing (flat_map (λ (one : Noted). one.answers) noted)

pub unanswered_both : (h1 h2 : List Handled) (n1 n2 : List Noted) → unanswered (h1 ++ h2) (n1 ++ n2) ≡ unanswered h1 n1 + unanswered h2 n2
unanswered_both h1 h2 n1 n2 =
    let handled = ap missing (flat_map-append answers_of h1 h2) ∙ missing_both (flat_map answers_of h1) (flat_map answers_of h2) in
    let noted = ap missing (flat_map-append (λ (one : Noted). one.answers) n1 n2) ∙ missing_both (flat_map (λ (one : Noted). one.answers) n1) (flat_map (λ (one : Noted). one.answers) n2) in
    omega (arith, handled, noted)

-- ---- counts
module _ {F : Type 0} (faults : F → ℕ) where
  -- no count fell
  abbrev pub NoneFell : List F → List F → Type 0
  NoneFell olds news = (at : ℕ) (old new : F) → slice_get olds at ≡ Some old → slice_get news at ≡ Some new → faults old ≤ faults new

  pub rose_between_none : (olds news : List F) → NoneFell olds news → RoseBetween faults olds news 0
  rose_between_none [] news fell = refl
  rose_between_none (old ∷ olds) [] fell = refl
  rose_between_none (old ∷ olds) (new ∷ news) fell = (
    0,
    0,
    omega arith,
    rose_none (faults old) (faults new) (fell 0 old new refl refl),
    rose_between_none olds news (λ at. fell (suc at)),
  )

  pub rose_between_same : (xs : List F) → RoseBetween faults xs xs 0
  rose_between_same xs = rose_between_none xs xs (λ at old new was is. let one : old ≡ new = same_Some old new (sym was ∙ is) in omega (arith, ap faults one))

  -- by fewer
  pub rose_between_fewer : (olds news : List F) (few many : ℕ) → few ≤ many → RoseBetween faults olds news many → RoseBetween faults olds news few
  rose_between_fewer [] news few many within rose = omega (arith, within, rose)
  rose_between_fewer (old ∷ olds) [] few many within rose = omega (arith, within, rose)
  rose_between_fewer (old ∷ olds) (new ∷ news) few many within (own, others, sum, here, rest) = (own, others, omega (arith, within, sum), here, rest)

  -- first by some, then by others
  pub rose_between_then : (xs ys zs : List F) (a b : ℕ) → length ys ≡ length xs → length zs ≡ length ys → RoseBetween faults xs ys a → RoseBetween faults ys zs b → RoseBetween faults xs zs (a + b)
  rose_between_then [] [] zs a b one two first second = omega (arith, first, second)
  rose_between_then [] (y ∷ ys) zs a b one two first second = absurd (omega (arith, one))
  rose_between_then (x ∷ xs) [] zs a b one two first second = absurd (omega (arith, one))
  rose_between_then (x ∷ xs) (y ∷ ys) [] a b one two first second = absurd (omega (arith, two))
  rose_between_then (x ∷ xs) (y ∷ ys) (z ∷ zs) a b one two (own, others, sum, here, rest) (own', others', sum', here', rest') = (
    own + own',
    others + others',
    omega (arith, sum, sum'),
    rose_then own own' (faults x) (faults y) (faults z) here here',
    rose_between_then xs ys zs others others' (omega (arith, one)) (omega (arith, two)) rest rest',
  )

-- of all that go on
pub none_fell : {F : Type 0} (asked : F → Made) (gives : F → ℕ → Answers) (faults last : F → ℕ) (aim : F → List ℕ) (olds news : List F) → AllGoOn asked gives faults last aim olds news
    → NoneFell faults olds news
none_fell asked gives faults last aim olds news on = λ at old new was is. (on.each at old new was is).faults

pub rose_between_all : {F : Type 0} (asked : F → Made) (gives : F → ℕ → Answers) (faults last : F → ℕ) (aim : F → List ℕ) (olds news : List F) → AllGoOn asked gives faults last aim olds news
    → RoseBetween faults olds news 0
rose_between_all asked gives faults last aim olds news on = rose_between_none faults olds news (none_fell asked gives faults last aim olds news on)

-- ---- connections
module _ {F : Type 0} (asked : F → Made) where
  -- one that made none is put in its place
  pub made_at : (xs : List F) (at : ℕ) (d new : F) → at < length xs → asked new ≡ asked (get_or xs at d) → made_by asked (set xs at new) ≡ made_by asked xs
  made_at [] at d new within same = absurd (omega (arith, within))
  made_at (x ∷ xs) zero d new within same = omega (arith, ap how_many same)
  made_at (x ∷ xs) (suc at) d new within same = let rest = made_at xs at d new (omega (arith, within)) same in omega (arith, rest)

-- ---- what was given
-- what may have missed some may have missed fewer
abbrev pub MayMissFewer : Given → Type 0
MayMissFewer given = (few many : ℕ) → few ≤ many → given.may_miss many → given.may_miss few

-- of what was given in a part of some time, beside which no connection was made: it is given in all of it, and as many
-- may have been missing
pub record WidensGiven (part whole : Given) : Type 0 where
  pub gives : Widens part.gives whole.gives
  pub may_miss : (n : ℕ) → part.may_miss n → whole.may_miss n
  pub made : whole.made ≤ part.made

pub given_same : (given : Given) → WidensGiven given given
given_same given = record { gives = λ url want answer is. is; may_miss = λ n may. may; made = omega arith }

module _ {F : Type 0} (asked : F → Made) (gives : F → ℕ → Answers) (faults last : F → ℕ) (aim : F → List ℕ) (olds mids news : List F) (one : AllGoOn asked gives faults last aim olds mids)
    (two : AllGoOn asked gives faults last aim mids news) where
  -- that of the second part
  pub widens_second : AreEarlier gives → made_by asked mids ≡ made_by asked olds → WidensGiven (given_by asked gives faults mids news) (given_by asked gives faults olds news)
  widens_second earlier none = record {
    gives = given_second asked gives faults last aim olds mids news one two earlier;
    may_miss = λ n rose.
        rose_between_fewer faults olds news n (0 + n) (omega arith)
        (rose_between_then faults olds mids news 0 n one.count two.count (rose_between_all asked gives faults last aim olds mids one) rose);
    made = omega (arith, none);
  }

  -- both may have missed some
  pub missed_both : (a b : ℕ) → RoseBetween faults olds mids a → RoseBetween faults mids news b → RoseBetween faults olds news (a + b)
  missed_both a b first second = rose_between_then faults olds mids news a b one.count two.count first second
