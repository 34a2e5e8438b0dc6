-- What goes on between moments of a fetcher, and what is entered between moments of offers.
use Rattle.std.proofs.Common.{◌≡◌, ◌∙◌, ℕ, ◌+◌, ◌-◌, ◌^◌, ◌≤◌, List, [], ◌++◌, Option, Some, None, length, refl, sym, ap, subst, arith, length-append}
use Rattle.std.specs.Prelude.{min}
use Rattle.std.specs.Option.{option_map}
use Rattle.std.proofs.lemmas.List.{append-nil, append_assoc}
use Rattle.irl_offer.specs.Offering.{Entered}
use Rattle.irl_record.specs.Widening.{Answers, Widens}
use Rattle.irl_record.specs.Wired.{KeepsMade, Made, MakesAtMostOne, how_many}
use Rattle.irl_fetch.specs.Telling.{Fetcher, GoesOn, MakesAtMost, RoseBy, given_since, Offering, Enters}

-- ## Connections

pub keeps_same : (made : Made) → KeepsMade made made
keeps_same None = tt
keeps_same (Some made) = ([], sym (append-nil made))

pub keeps_as : (one two : Made) → two ≡ one → KeepsMade one two
keeps_as one two same = subst (KeepsMade one) (sym same) (keeps_same one)

pub keeps_one : (one two : Made) → MakesAtMostOne one two → KeepsMade one two
keeps_one None None makes = tt
keeps_one None (Some two) makes = absurd makes
keeps_one (Some one) None makes = absurd makes
keeps_one (Some one) (Some two) (more, is, few) = (more, is)

pub keeps_then : (one two three : Made) → KeepsMade one two → KeepsMade two three → KeepsMade one three
keeps_then None None three first second = second
keeps_then None (Some two) three first second = absurd first
keeps_then (Some one) None three first second = absurd first
keeps_then (Some one) (Some two) None first second = absurd second
keeps_then (Some one) (Some two) (Some three) (more, is) (others, then) =
    (more ++ others, then ∙ ap (λ l. l ++ others) is ∙ append_assoc one more others)

-- one more at most
pub counts_one : (one two : Made) → MakesAtMostOne one two → how_many two ≤ how_many one + 1
counts_one None None makes = omega arith
counts_one None (Some two) makes = absurd makes
counts_one (Some one) None makes = absurd makes
counts_one (Some one) (Some two) (more, is, few) = omega (arith, ap length is, length-append one more, few)

-- their count doesn't fall
pub keeps_count : (one two : Made) → KeepsMade one two → how_many one ≤ how_many two
keeps_count None None keeps = omega arith
keeps_count None (Some two) keeps = absurd keeps
keeps_count (Some one) None keeps = absurd keeps
keeps_count (Some one) (Some two) (more, is) = omega (arith, ap length is, length-append one more)

-- ## A fetcher

-- an answer since a count is one since each count before it
abbrev pub IsEarlier : (ℕ → Answers) → Type 0
IsEarlier gives = (since later : ℕ) → since ≤ later → Widens (gives later) (gives since)

pub goes_none : (a : Fetcher) → GoesOn a a
goes_none a = record { asked = keeps_same a.asked; wider = λ since url want answer given. given; faults = omega arith; last = omega arith; aim = refl }

pub goes_then : (a b c : Fetcher) → GoesOn a b → GoesOn b c → GoesOn a c
goes_then a b c one two = record {
  asked = keeps_then a.asked b.asked c.asked one.asked two.asked;
  wider = λ since url want answer given. two.wider since url want answer (one.wider since url want answer given);
  faults = omega (arith, one.faults, two.faults);
  last = omega (arith, one.last, two.last);
  aim = two.aim ∙ one.aim;
}

-- by numbers of connections
pub makes_none : (a b : Fetcher) → b.asked ≡ a.asked → MakesAtMost 0 a b
makes_none a b same = omega (arith, ap how_many same)

pub makes_then : (m n : ℕ) (a b c : Fetcher) → MakesAtMost m a b → MakesAtMost n b c → MakesAtMost (m + n) a c
makes_then m n a b c one two = omega (arith, one, two)

pub makes_more : (m n : ℕ) (a b : Fetcher) → m ≤ n → MakesAtMost m a b → MakesAtMost n a b
makes_more m n a b few makes = omega (arith, few, makes)

-- what was given still is
pub given_then : (a b c : Fetcher) → GoesOn b c → Widens (given_since a b) (given_since a c)
given_then a b c on = on.wider (how_many a.asked)

-- what is given since a later moment is given since an earlier one
pub given_before : (a b c : Fetcher) → IsEarlier c.gives → GoesOn a b → Widens (given_since b c) (given_since a c)
given_before a b c earlier on = earlier (how_many a.asked) (how_many b.asked) (keeps_count a.asked b.asked on.asked)

-- ## Counts

capped_then : (cap a b x y z : ℕ) → min (x + a) cap ≤ y → min (y + b) cap ≤ z → min (x + (a + b)) cap ≤ z
capped_then cap a b x y z one two = omega arith

capped_wide : (cap n x y z w : ℕ) → x ≤ y → min (y + n) cap ≤ z → z ≤ w → min (x + n) cap ≤ w
capped_wide cap n x y z w low rose high = omega arith

capped_none : (cap x y : ℕ) → x ≤ y → min (x + 0) cap ≤ y
capped_none cap x y low = omega arith

pub rose_then : (a b x y z : ℕ) → RoseBy a x y → RoseBy b y z → RoseBy (a + b) x z
rose_then a b x y z one two = capped_then (2 ^ 64 - 1) a b x y z one two

pub rose_wide : (n x y z w : ℕ) → x ≤ y → RoseBy n y z → z ≤ w → RoseBy n x w
rose_wide n x y z w low rose high = capped_wide (2 ^ 64 - 1) n x y z w low rose high

pub rose_none : (x y : ℕ) → x ≤ y → RoseBy 0 x y
rose_none x y low = capped_none (2 ^ 64 - 1) x y low

-- ## Offers

none_entered : (entries : Option (List Entered)) → entries ≡ option_map (λ list. list ++ []) entries
none_entered None = refl
none_entered (Some list) = ap (λ (l : List Entered). Some l) (sym (append-nil list))

pub enters_none : {O : Type 0} (a : Offering O) → Enters [] a a
enters_none a = record { entries = none_entered a.entries; takes = λ offer. (λ taken. taken, λ taken. taken); follows = λ value did. did }

both_entered : (entries : Option (List Entered)) (one two : List Entered)
    → option_map (λ list. list ++ two) (option_map (λ list. list ++ one) entries) ≡ option_map (λ list. list ++ (one ++ two)) entries
both_entered None one two = refl
both_entered (Some list) one two = ap (λ (l : List Entered). Some l) (append_assoc list one two)

pub enters_then : {O : Type 0} (one two : List Entered) (a b c : Offering O) → Enters one a b → Enters two b c → Enters (one ++ two) a c
enters_then one two a b c first second = record {
  entries = second.entries ∙ ap (option_map (λ list. list ++ two)) first.entries ∙ both_entered a.entries one two;
  takes = λ offer. (λ taken. (first.takes offer).0 ((second.takes offer).0 taken), λ taken. (second.takes offer).1 ((first.takes offer).1 taken));
  follows = λ value did. second.follows value (first.follows value did);
}

pub enters_as : {O : Type 0} (one two : List Entered) (a b : Offering O) → one ≡ two → Enters one a b → Enters two a b
enters_as one two a b is enters = record {
  entries = enters.entries ∙ ap (λ (news : List Entered). option_map (λ list. list ++ news) a.entries) is;
  takes = enters.takes;
  follows = enters.follows;
}
