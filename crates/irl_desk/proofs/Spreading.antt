-- What the lists have of the offers that were entered.
use Rattle.std.proofs.Common.{◌≡◌, ◌∙◌, ℕ, zero, suc, ◌+◌, ◌-◌, ◌<◌, ◌≤◌, List, [], ◌∷◌, ◌++◌, length, length-append, get_or, Option, None, Some, Result, Ok, Err, OnOk, refl, sym, ap, subst, append_assoc, append-nil, arith}
use Rattle.std.specs.Prelude.{slice_get, slice_index}
use Rattle.std.specs.List.{AllByRecursion, Any}
use Rattle.irl_base.specs.declared.fault.Fault.{Fault}
use Rattle.irl_base.specs.declared.fault.Fault.TheVariants.{Damaged, Failed, Full, Memory}
use Rattle.irl_offer.specs.Buckets.{bucket_of}
use Rattle.irl_offer.specs.Offering.{Entered}
use Rattle.irl_offer.specs.Tuple.{Tuple}
use Rattle.irl_offer.specs.declared.receipt.Receipt.{Receipt}
use Rattle.irl_offer.specs.declared.settings.Settings.{Settings}
use Rattle.irl_model.specs.Book.{Book, ArePrefixes, IsFront, IsPrefixOf, list_lengths, part}
use Rattle.irl_model.proofs.FrontLaws.{prefix_both}
use Rattle.irl_disk.specs.Images.{Told, IsConsistent}
use Rattle.irl_bay.specs.Drum.{Drum, durable_at}
use Rattle.irl_bay.specs.Holding.{Holds}
use Rattle.irl_schedule.specs.Arrays.{waiting_at}
use Rattle.irl_schedule.specs.Feeding.{Moment, list_at}
use Rattle.irl_schedule.specs.Schedule.{none_more, one_more}
use Rattle.irl_schedule.proofs.Counts.{durable_index}
use Rattle.irl_schedule.proofs.Outcomes.{ok_weaker}
use Rattle.irl_ledger.specs.Settling.{IsFlushed}
use Rattle.irl_yard.specs.Settling.{StandsAt}
use Rattle.irl_desk.specs.Closing.{Closes, HandsBack, HasAdded, HasSpread, MayHaveAdded, OnlyAdds, Spreads, ended, last_after}
use Rattle.irl_desk.specs.Serving.{AreNumbered, Enters, IsFresh, Serves, Serving, moment_at, offers_in, receipt_behind}
use Rattle.irl_desk.specs.Stepping.{handed_at}
use Rattle.irl_desk.proofs.Entering.{enters_both, enters_more}
use Rattle.irl_desk.proofs.Numbers.{IsOf, entry_at, part_both, part_here, parts_long}

-- ---- lists
list_prefix : (xss yss : List (List Tuple)) (b : ℕ) → ArePrefixes xss yss → IsPrefixOf (get_or xss b []) (get_or yss b [])
list_prefix [] [] b front = ([], refl)
list_prefix [] (ys ∷ yss) b front = absurd front
list_prefix (xs ∷ xss) [] b front = absurd front
list_prefix (xs ∷ xss) (ys ∷ yss) zero front = front.0
list_prefix (xs ∷ xss) (ys ∷ yss) (suc b) front = list_prefix xss yss b front.1

front_list : (x y : Book) (b : ℕ) → IsFront x y → IsPrefixOf (list_at x b) (list_at y b)
front_list x y b front = list_prefix x.lists y.lists b front.lists

stays_at : (xs ys : List Tuple) (i : ℕ) (offer : Tuple) → slice_get xs i ≡ Some offer → slice_get (xs ++ ys) i ≡ Some offer
stays_at [] ys i offer is = absurd (cc)
stays_at (x ∷ xs) ys zero offer is = is
stays_at (x ∷ xs) ys (suc i) offer is = stays_at xs ys i offer is

-- the offer behind some, and one that stands behind them
at_seam : (xs : List Tuple) (offer : Tuple) (ys : List Tuple) → slice_get (xs ++ offer ∷ ys) (length xs) ≡ Some offer
at_seam [] offer ys = refl
at_seam (x ∷ xs) offer ys = at_seam xs offer ys

behind : (xs ys : List Tuple) (place : ℕ) (offer : Tuple) → length xs ≤ place → slice_get (xs ++ ys) place ≡ Some offer → slice_get ys (place - length xs) ≡ Some offer
behind [] ys place offer le is = subst (λ (n : ℕ). slice_get ys n ≡ Some offer) (omega arith) is
behind (x ∷ xs) ys zero offer le is = absurd (omega (arith, le))
behind (x ∷ xs) ys (suc place) offer le is =
    subst (λ (n : ℕ). slice_get ys n ≡ Some offer) (omega arith) (behind xs ys place offer (omega (arith, le)) is)

-- how long a list is from the beginning of time
length_in : (firsts : List ℕ) (lists : List (List Tuple)) (b : ℕ) → b < length firsts → b < length lists
    → get_or (list_lengths firsts lists) b 0 ≡ get_or firsts b 0 + length (get_or lists b [])
length_in [] lists b within inside = absurd (omega (arith, within))
length_in (f ∷ fs) [] b within inside = absurd (omega (arith, inside))
length_in (f ∷ fs) (l ∷ ls) zero within inside = refl
length_in (f ∷ fs) (l ∷ ls) (suc b) within inside = length_in fs ls b (omega (arith, within)) (omega (arith, inside))

-- the number behind a bucket's last offer
numbers_held : (old : Moment) (x : Book) (b : ℕ) → Holds old.store.images old.drum x → b < old.drum.settings.buckets → durable_at old.drum b ≡ slice_index x.firsts b + length (list_at x b)
numbers_held old x b holds within =
    let book = holds.book_is.is_book in
    let buckets = holds.book_is.buckets in
    sym (durable_index old.drum b) ∙ ap (λ (l : List ℕ). slice_index l b) holds.numbers.offers
    ∙ length_in x.firsts x.lists b (omega (arith, within, buckets, book.firsts)) (omega (arith, within, buckets, book.lists))

-- ---- receipts that are flushed
flushed_all : (drum : Drum) (had : ℕ → ℕ) (before : List Tuple) (entries : List Entered) → AreNumbered drum.settings.buckets had before entries
    → ((b : ℕ) → durable_at drum b ≡ had b + length (part drum.settings.buckets b (before ++ offers_in entries))) → AllByRecursion (λ one. IsFlushed drum one.receipt) entries
flushed_all drum had before [] are counts = tt
flushed_all drum had before (one ∷ more) are counts =
    let buckets = drum.settings.buckets in
    let b = bucket_of buckets one.offer.key in
    let less : had b + length (part buckets b before) < durable_at drum b = omega (
      arith,
      counts b,
      parts_long buckets b before (one.offer ∷ offers_in more),
      ap (λ (l : List Tuple). length l) (part_here buckets b one.offer (offers_in more) refl),
    ) in
    let number : one.receipt.number < durable_at drum one.receipt.bucket =
    subst (λ (r : Receipt). r.number < durable_at drum r.bucket) (sym are.0.0) less in (
      (are.0.1, number),
      flushed_all drum had (before ++ one.offer ∷ []) more are.1
          (λ c. subst (λ (l : List Tuple). durable_at drum c ≡ had c + length (part buckets c l)) (sym (append_assoc before (one.offer ∷ []) (offers_in more))) (counts c)),
    )

-- ---- at Ok
stand_all : (buckets : ℕ) (had : ℕ → ℕ) (x y : Book) (before : List Tuple) (entries : List Entered) → AreNumbered buckets had before entries
    → ((b : ℕ) → b < buckets → had b ≡ slice_index y.firsts b + length (list_at x b)) → ((b : ℕ) → b < buckets → list_at y b ≡ list_at x b ++ part buckets b (before ++ offers_in entries))
    → AllByRecursion (λ one. StandsAt y one.receipt one.offer) entries
stand_all buckets had x y before [] are numbers lists = tt
stand_all buckets had x y before (one ∷ more) are numbers lists =
    let b = bucket_of buckets one.offer.key in
    let within : b < buckets = subst (λ (r : Receipt). r.bucket < buckets) are.0.0 are.0.1 in
    let front = list_at x b ++ part buckets b before in
    let rest = part buckets b (offers_in more) in
    let list : list_at y b ≡ front ++ one.offer ∷ rest =
    lists b within ∙ ap (λ (l : List Tuple). list_at x b ++ l) (part_both buckets b before (one.offer ∷ offers_in more) ∙ ap (λ (l : List Tuple). part buckets b before ++ l)
    (part_here buckets b one.offer (offers_in more) refl)) ∙ sym (append_assoc (list_at x b) (part buckets b before) (one.offer ∷ rest)) in
    let place : slice_index y.firsts b + length front ≡ had b + length (part buckets b before) = omega (arith, numbers b within, length-append (list_at x b) (part buckets b before)) in
    let stands : StandsAt y (receipt_behind buckets had before one.offer) one.offer =
    (length front, (place, ap (λ (l : List Tuple). slice_get l (length front)) list ∙ at_seam front one.offer rest)) in (
      subst (λ (r : Receipt). StandsAt y r one.offer) (sym are.0.0) stands,
      stand_all buckets had x y (before ++ one.offer ∷ []) more are.1 numbers (λ c inside.
          subst (λ (l : List Tuple). list_at y c ≡ list_at x c ++ part buckets c l) (sym (append_assoc before (one.offer ∷ []) (offers_in more))) (lists c inside)),
    )

pub spreads : (buckets : ℕ) (had : ℕ → ℕ) (x y : Book) (entries : List Entered) → AreNumbered buckets had [] entries
    → ((b : ℕ) → b < buckets → had b ≡ slice_index y.firsts b + length (list_at x b)) → ((b : ℕ) → b < buckets → list_at y b ≡ list_at x b ++ part buckets b (offers_in entries))
    → Spreads buckets entries x y
spreads buckets had x y entries are numbers lists = record { lists = lists; stand = stand_all buckets had x y [] entries are numbers lists }

-- ---- and where it is refused
only_adds : (buckets : ℕ) (had : ℕ → ℕ) (x y : Book) (entries : List Entered) → AreNumbered buckets had [] entries → IsFront x y
    → ((b : ℕ) → b < buckets → had b ≡ slice_index y.firsts b + length (list_at x b)) → ((b : ℕ) → b < buckets → IsPrefixOf (list_at y b) (list_at x b ++ part buckets b (offers_in entries)))
    → OnlyAdds buckets entries x y
only_adds buckets had x y entries are front numbers takes = record {
  front = λ b within. front_list x y b front;
  each = λ b place offer within le at.
      let prefix = takes b within in
      let whole : slice_get (list_at x b ++ part buckets b (offers_in entries)) place ≡ Some offer =
      ap (λ (l : List Tuple). slice_get l place) prefix.1 ∙ stays_at (list_at y b) prefix.0 place offer at in
      let there = behind (list_at x b) (part buckets b (offers_in entries)) place offer le whole in
      let found = entry_at buckets had [] entries b (place - length (list_at x b)) offer are there in
      let number : had b + (0 + (place - length (list_at x b))) ≡ slice_index y.firsts b + place = omega (arith, numbers b within, le) in
      subst (λ (n : ℕ). Any (IsOf b n offer) entries) number found;
}

-- ---- from a fresh desk
module _ {S : Type 0} (told : S → Told) (entries : List Entered) (result : Result (Unit {0}) Fault) (old new : Serving S) (fresh : IsFresh old) (enters : Enters told one_more entries old new)
    (named : (fault : Fault) → new.last ≡ Some fault → result ≡ Err fault) where
  abbrev from : Moment
  from = moment_at told old

  abbrev to : Moment
  to = moment_at told new

  abbrev buckets : ℕ
  buckets = old.parts.urls.settings.buckets

  abbrev Empty : Type 0
  Empty = (b : ℕ) → waiting_at new.arrays b ≡ []

  numbers : (x y : Book) → Holds from.store.images from.drum x → IsFront x y → (b : ℕ) → b < buckets → handed_at from b ≡ slice_index y.firsts b + length (list_at x b)
  numbers x y holds front b within = omega (
    arith,
    ap (λ (l : List Tuple). length l) (fresh.empty b),
    numbers_held from x b holds within,
    ap (λ (l : List ℕ). slice_index l b) front.firsts,
  )

  -- what was handed in of a bucket, with nothing that waited
  whole : (x : Book) (list : List Tuple) (b : ℕ) → list ≡ (list_at x b ++ waiting_at old.arrays b) ++ part buckets b (offers_in entries) → list ≡ list_at x b ++ part buckets b (offers_in entries)
  whole x list b is = is ∙ ap (λ (l : List Tuple). (list_at x b ++ l) ++ part buckets b (offers_in entries)) (fresh.empty b)
      ∙ ap (λ (l : List Tuple). l ++ part buckets b (offers_in entries)) (append-nil (list_at x b))

  takes_kept : (x y : Book) → ((b : ℕ) → b < buckets → list_at y b ++ waiting_at new.arrays b ≡ (list_at x b ++ waiting_at old.arrays b) ++ part buckets b (offers_in entries))
      → (b : ℕ) → b < buckets → IsPrefixOf (list_at y b) (list_at x b ++ part buckets b (offers_in entries))
  takes_kept x y keeps b within = (waiting_at new.arrays b, sym (whole x (list_at y b ++ waiting_at new.arrays b) b (keeps b within)))

  takes_most : (x y : Book) → ((b : ℕ) → b < buckets → IsPrefixOf (list_at y b) ((list_at x b ++ waiting_at old.arrays b) ++ part buckets b (offers_in entries)))
      → (b : ℕ) → b < buckets → IsPrefixOf (list_at y b) (list_at x b ++ part buckets b (offers_in entries))
  takes_most x y takes b within =
      let one = takes b within in
      (one.0, sym (whole x ((list_at x b ++ waiting_at old.arrays b) ++ part buckets b (offers_in entries)) b refl) ∙ one.1)

  adds : (x y : Book) → Holds from.store.images from.drum x → IsFront x y → ((b : ℕ) → b < buckets → IsPrefixOf (list_at y b) (list_at x b ++ part buckets b (offers_in entries)))
      → OnlyAdds buckets entries x y
  adds x y holds front takes = only_adds buckets (handed_at from) x y entries enters.numbered front (numbers x y holds front) takes

  added : (new.last ≡ Some Failed → ⊥) → HasAdded entries from to
  added fine = λ files tells x holds.
      let fed = enters.fed fine files tells x holds in
      (fed, adds x fed.book holds fed.grows.front (takes_kept x fed.book fed.keeps))

  broken : new.last ≡ Some Failed → MayHaveAdded entries from to
  broken failed = λ files tells x holds.
      let has = enters.broken failed files tells x holds in
      let most = takes_most x has.most has.takes in (
        has,
        adds x has.kept holds has.kept_grows.front (takes_kept x has.kept has.keeps),
        adds x has.book holds has.grows.front
            (λ b within. prefix_both (list_at has.book b) (list_at has.most b) (list_at x b ++ part buckets b (offers_in entries)) (front_list has.book has.most b has.front) (most b within)),
        adds x has.most holds has.may_grow.front most,
      )

  no_err : (v : Unit {0}) → Ok v ≡ Err Failed → ⊥
  no_err v is = cc

  spread_by : (r : Result (Unit {0}) Fault) → result ≡ r → OnOk r Empty → OnOk r (HasSpread entries from to)
  spread_by (Ok v) is none = λ files tells x holds.
      let fed = enters.fed (λ failed. no_err v (sym is ∙ named Failed failed)) files tells x holds in
      let lists : (b : ℕ) → b < buckets → list_at fed.book b ≡ list_at x b ++ part buckets b (offers_in entries) = λ b within.
      sym (append-nil (list_at fed.book b)) ∙ ap (λ (l : List Tuple). list_at fed.book b ++ l) (sym (none b)) ∙ whole x (list_at fed.book b ++ waiting_at new.arrays b) b (fed.keeps b within) in
      (fed, spreads buckets (handed_at from) x fed.book entries enters.numbered (numbers x fed.book holds fed.grows.front) lists)
  spread_by (Err f) is none = tt

  flushed : Empty → AllByRecursion (λ one. IsFlushed new.parts.urls one.receipt) entries
  flushed none =
      let settings = enters.stays.settings in
      flushed_all new.parts.urls (handed_at from) [] entries (subst (λ (s : Settings). AreNumbered s.buckets (handed_at from) [] entries) (sym settings) enters.numbered)
      (λ b. subst (λ (s : Settings). durable_at new.parts.urls b ≡ handed_at from b + length (part s.buckets b (offers_in entries))) (sym settings)
      (omega (arith, enters.counts b, ap (λ (l : List Tuple). length l) (none b))))

  pub hands : OnOk result Empty → HandsBack told result entries old new
  hands empty = record {
    enters = enters;
    last = named;
    flushed = ok_weaker result empty flushed;
    spread = spread_by result refl empty;
    added = added;
    broken = broken;
  }

-- ---- a desk that is closed
last_named : (result : Result (Unit {0}) Fault) (fault : Fault) → last_after None result ≡ Some fault → result ≡ Err fault
last_named (Ok v) fault is = let no : ⊥ = cc in absurd no
last_named (Err Failed) fault is = cc
last_named (Err Memory) fault is = let no : ⊥ = cc in absurd no
last_named (Err (Full n)) fault is = cc
last_named (Err (Damaged f at)) fault is = cc

err_same : (result : Result (Unit {0}) Fault) (one other : Fault) → Some one ≡ Some other → result ≡ Err one → result ≡ Err other
err_same result one other same is = cc

pub hands_back : {S : Type 0} (told : S → Told) → ((s : S) → IsConsistent (told s)) → (entries : List Entered) (result : Result (Unit {0}) Fault) (old mid new : Serving S) → IsFresh old
    → Serves told entries old mid → (closes : Closes told result mid new.store new.parts) → new ≡ ended mid result new.store new.parts closes.arrays → HandsBack told result entries old new
hands_back {S} told lawful entries result old mid new fresh serves closes is = by_last mid.last refl
  where
    first : Enters told none_more entries old mid
    first = serves.enters fresh.last

    empty : OnOk result ((b : ℕ) → waiting_at new.arrays b ≡ [])
    empty = ok_weaker result closes.emptied (λ none b. ap (λ (x : Serving S). waiting_at x.arrays b) is ∙ none b)

    by_last : (last : Option Fault) → mid.last ≡ last → HandsBack told result entries old new
    by_last None none =
        let both = enters_both told one_more entries [] old mid (ended mid result new.store new.parts closes.arrays) (lawful mid.store) none first (closes.enters none) in
        let enters = subst (λ (x : Serving S). Enters told one_more entries old x) (sym is)
        (subst (λ (l : List Entered). Enters told one_more l old (ended mid result new.store new.parts closes.arrays)) (append-nil entries) both) in
        hands told entries result old new fresh enters
        (λ fault named. last_named result fault (ap (λ (last : Option Fault). last_after last result) (sym none) ∙ sym (ap (λ (x : Serving S). x.last) is) ∙ named)) empty
    by_last (Some f) some =
        let again = closes.again f some in
        let same : new ≡ mid = is ∙ again.1 in
        let enters = subst (λ (x : Serving S). Enters told one_more entries old x) (sym same) (enters_more told none_more one_more entries old mid (λ b. omega arith) first) in
        hands told entries result old new fresh enters
        (λ fault named. let fault_is : Some f ≡ Some fault = sym some ∙ sym (ap (λ (x : Serving S). x.last) same) ∙ named in err_same result f fault fault_is again.0) empty
