-- What the receipts of several passes say, where one history was handed in of which each pass has its part.
use Rattle.std.proofs.Common.{◌≡◌, ◌≢◌, ◌∙◌, ⊎_elim, ℕ, suc, ◌+◌, ◌<◌, ◌≤◌, Bool, true, false, cond, ◌&&◌, List, [], ◌∷◌, ◌++◌, length, length-append, map, nat_eq, Result, Ok, refl, sym, ap, subst, arith}
use Rattle.std.proofs.lemmas.Bool.{and_from, and_parts, both_ways, eq-eqb, eqb-true, false_from_ne_true, ne_eqb}
use Rattle.std.proofs.lemmas.Bool.Decides.{eqb_tells}
use Rattle.std.proofs.lemmas.List.Sorted.{IsPermutation-map, sum_by-IsPermutation}
use Rattle.std.proofs.lemmas.List.Sums.{length-filter}
use Rattle.std.proofs.lemmas.Map.Keys.{IsDistinct-IsPermutation, IsDistinct-cons, IsDistinct-head, IsDistinct-tail}
use Rattle.std.specs.Prelude.{filter, slice_index}
use Rattle.std.specs.List.{AllByRecursion, IsDistinct, flat_map}
use Rattle.std.specs.List.Sorted.{IsPermutation}
use Rattle.std.specs.Option.{ForSome}
use Rattle.irl_base.specs.declared.fault.Fault.{Fault}
use Rattle.irl_offer.specs.Buckets.{bucket_of}
use Rattle.irl_offer.specs.Offering.{Entered}
use Rattle.irl_offer.specs.Tuple.{Tuple}
use Rattle.irl_offer.specs.declared.receipt.Receipt.{Receipt}
use Rattle.irl_model.specs.Book.{Book, part}
use Rattle.irl_disk.specs.Images.{IsConsistent}
use Rattle.irl_disk.specs.declared.store.Store.{Ghosts}
use Rattle.irl_bay.specs.Holding.{Holds}
use Rattle.irl_schedule.specs.Feeding.{length_at, list_at}
use Rattle.irl_schedule.specs.Schedule.{none_more}
use Rattle.irl_schedule.proofs.Steps.{durable_held, no_first}
use Rattle.irl_yard.specs.Settling.{StandsAt}
use Rattle.irl_yard.specs.declared.yard.Yard.{Yard}
use Rattle.irl_desk.specs.Closing.{HandsBack, Spreads, ended}
use Rattle.irl_desk.specs.Serving.{AreNumbered, Enters, IsFresh, Serves, Serving, moment_at, offers_in}
use Rattle.irl_desk.specs.Stepping.{handed_at}
use Rattle.irl_desk.proofs.Numbers.{part_here, parts_long}
use Rattle.irl_desk.proofs.Spreading.{hands_back}
use Rattle.irl_lock.specs.Books.{IsPartOf, buckets_of, fresh_of}
use Rattle.irl_lock.specs.Sharing.{Closes, answer_of, entries_in, yard_of}
use Rattle.irl_lock.specs.Spread.{AreOnce, DoRise, IsSpread, receipts_for}
use Rattle.irl_lock.specs.declared.pass.Pass.{Pass}

-- ---- lists
-- what is true of each element is true of each of a part
all_part : {X : Type 0} (P : X → Type 0) (xs ys : List X) → IsPartOf xs ys → AllByRecursion P ys → AllByRecursion P xs
all_part {X} P [] ys is all = tt
all_part {X} P (x ∷ xs) [] is all = absurd is
all_part {X} P (x ∷ xs) (y ∷ ys) is all = ⊎_elim
    (λ (here : (x ≡ y) × IsPartOf xs ys). (subst P (sym here.0) all.0, all_part P xs ys here.1 all.1))
    (λ (later : IsPartOf (x ∷ xs) ys). all_part P (x ∷ xs) ys later all.1) is

-- what follows of each element
all_so : {X : Type 0} (P Q : X → Type 0) (xs : List X) → ((x : X) → P x → Q x) → AllByRecursion P xs → AllByRecursion Q xs
all_so {X} P Q [] so all = tt
all_so {X} P Q (x ∷ xs) so all = (so x all.0, all_so P Q xs so all.1)

-- and of what is made of each, and the way back
all_made : {X Y : Type 0} (f : X → Y) (P : X → Type 0) (Q : Y → Type 0) (xs : List X) → ((x : X) → P x → Q (f x)) → AllByRecursion P xs → AllByRecursion Q (map f xs)
all_made {X} {Y} f P Q [] so all = tt
all_made {X} {Y} f P Q (x ∷ xs) so all = (so x all.0, all_made f P Q xs so all.1)

all_unmade : {X Y : Type 0} (f : X → Y) (P : Y → Type 0) (Q : X → Type 0) (xs : List X) → ((x : X) → P (f x) → Q x) → AllByRecursion P (map f xs) → AllByRecursion Q xs
all_unmade {X} {Y} f P Q [] so all = tt
all_unmade {X} {Y} f P Q (x ∷ xs) so all = (so x all.0, all_unmade f P Q xs so all.1)

-- the lists that are made of the elements, behind each other
joined_map : {X Y : Type 0} (f : X → List Y) (xs : List X) → flat_map (λ (l : List Y). l) (map f xs) ≡ flat_map f xs
joined_map {X} {Y} f [] = refl
joined_map {X} {Y} f (x ∷ xs) = ap (λ (l : List Y). f x ++ l) (joined_map f xs)

-- ---- numbers that rise
-- of the same bucket one has a number above the other's; one has another receipt
abbrev IsAbove : Entered → Entered → Type 0
IsAbove one other = other.receipt.bucket ≡ one.receipt.bucket → one.receipt.number < other.receipt.number

abbrev IsOther : Entered → Entered → Type 0
IsOther one other = other.receipt ≢ one.receipt

-- those of a part rise too, and none that rises is there twice
rise_part : (xs ys : List Entered) → IsPartOf xs ys → DoRise ys → DoRise xs
rise_part [] ys is rise = tt
rise_part (x ∷ xs) [] is rise = absurd is
rise_part (x ∷ xs) (y ∷ ys) is rise = ⊎_elim
    (λ (here : (x ≡ y) × IsPartOf xs ys).
    (subst (λ (one : Entered). AllByRecursion (IsAbove one) xs) (sym here.0) (all_part (IsAbove y) xs ys here.1 rise.0), rise_part xs ys here.1 rise.1))
    (λ (later : IsPartOf (x ∷ xs) ys). rise_part (x ∷ xs) ys later rise.1) is

above_other : (one other : Entered) → IsAbove one other → IsOther one other
above_other one other above same =
    let number = ap (λ (r : Receipt). r.number) same in
    let less = above (ap (λ (r : Receipt). r.bucket) same) in
    omega (arith, number, less)

rise_once : (xs : List Entered) → DoRise xs → AreOnce xs
rise_once [] rise = tt
rise_once (x ∷ xs) rise = (all_so (IsAbove x) (IsOther x) xs (above_other x) rise.0, rise_once xs rise.1)

-- receipts behind so many offers of a bucket have numbers from there on
numbers_from : (buckets : ℕ) (had : ℕ → ℕ) (b n : ℕ) (before : List Tuple) (entries : List Entered) → AreNumbered buckets had before entries → n ≤ had b + length (part buckets b before)
    → AllByRecursion (λ other. other.receipt.bucket ≡ b → n ≤ other.receipt.number) entries
numbers_from buckets had b n before [] are from = tt
numbers_from buckets had b n before (one ∷ more) are from =
    let head : one.receipt.bucket ≡ b → n ≤ one.receipt.number = λ is.
    let c = bucket_of buckets one.offer.key in
    let bucket : c ≡ b = sym (ap (λ (r : Receipt). r.bucket) are.0.0) ∙ is in
    let number = ap (λ (r : Receipt). r.number) are.0.0 ∙ ap (λ (c : ℕ). had c + length (part buckets c before)) bucket in
    omega (arith, number, from) in
    (head, numbers_from buckets had b n (before ++ one.offer ∷ []) more are.1 (omega (arith, from, parts_long buckets b before (one.offer ∷ []))))

-- receipts in the order in which they were given rise
pub numbered_rise : (buckets : ℕ) (had : ℕ → ℕ) (before : List Tuple) (entries : List Entered) → AreNumbered buckets had before entries → DoRise entries
numbered_rise buckets had before [] are = tt
numbered_rise buckets had before (one ∷ more) are =
    let c = bucket_of buckets one.offer.key in
    let n = had c + length (part buckets c before) in
    let bucket : one.receipt.bucket ≡ c = ap (λ (r : Receipt). r.bucket) are.0.0 in
    let number : one.receipt.number ≡ n = ap (λ (r : Receipt). r.number) are.0.0 in
    let here : length (part buckets c (one.offer ∷ [])) ≡ 1 = ap (λ (l : List Tuple). length l) (part_here buckets c one.offer [] refl) in
    let from : n + 1 ≤ had c + length (part buckets c (before ++ one.offer ∷ [])) = omega (arith, here, parts_long buckets c before (one.offer ∷ [])) in (
      all_so (λ other. other.receipt.bucket ≡ c → n + 1 ≤ other.receipt.number) (IsAbove one) more
          (λ other above same. let less = above (same ∙ bucket) in omega (arith, less, number))
          (numbers_from buckets had c (n + 1) (before ++ one.offer ∷ []) more are.1 from),
      numbered_rise buckets had (before ++ one.offer ∷ []) more are.1,
    )

-- ---- no number twice, in whatever order
-- whether two receipts are one
abbrev same_receipt : Receipt → Receipt → Bool
same_receipt x y = nat_eq x.bucket y.bucket && nat_eq x.number y.number

nat_turns : (a b : ℕ) → nat_eq a b ≡ nat_eq b a
nat_turns a b = ⊎_elim
    (λ same. same.0 ∙ sym (eq-eqb b a (sym same.1)))
    (λ other. other.0 ∙ sym (ne_eqb b a (λ is. other.1 (sym is))))
    (eqb_tells a b)

same_turns : (x y : Receipt) → same_receipt x y ≡ same_receipt y x
same_turns x y = λ i. nat_turns x.bucket y.bucket i && nat_turns x.number y.number i

same_is : (x : Receipt) → same_receipt x x ≡ true
same_is x = and_from (nat_eq x.bucket x.bucket) (nat_eq x.number x.number) (eq-eqb x.bucket x.bucket refl) (eq-eqb x.number x.number refl)

is_same : (x y : Receipt) → same_receipt x y ≡ true → y ≡ x
is_same x y is =
    let both = and_parts (nat_eq x.bucket y.bucket) (nat_eq x.number y.number) is in
    let bucket = eqb-true x.bucket y.bucket both.0 in
    let number = eqb-true x.number y.number both.1 in
    λ i. record { bucket = sym bucket i; number = sym number i }

apart_other : (x y : Entered) → IsOther x y → same_receipt x.receipt y.receipt ≡ false
apart_other x y other = false_from_ne_true (same_receipt x.receipt y.receipt) (λ is. other (is_same x.receipt y.receipt is))

other_apart : (x y : Entered) → same_receipt x.receipt y.receipt ≡ false → IsOther x y
other_apart x y apart is = both_ways (same_receipt x.receipt y.receipt) apart (ap (λ (r : Receipt). same_receipt x.receipt r) is ∙ same_is x.receipt)

-- receipts that differ, one by one and by that test
abbrev receipts_in : List Entered → List Receipt
receipts_in entries = map (λ one. one.receipt) entries

none_distinct : IsDistinct same_receipt []
unfolding IsDistinct
none_distinct = tt

once_distinct : (xs : List Entered) → AreOnce xs → IsDistinct same_receipt (receipts_in xs)
once_distinct [] once = none_distinct
once_distinct (x ∷ xs) once = IsDistinct-cons same_receipt x.receipt (receipts_in xs)
    (all_made (λ (one : Entered). one.receipt) (IsOther x) (λ r. same_receipt x.receipt r ≡ false) xs (apart_other x) once.0) (once_distinct xs once.1)

distinct_once : (xs : List Entered) → IsDistinct same_receipt (receipts_in xs) → AreOnce xs
distinct_once [] distinct = tt
distinct_once (x ∷ xs) distinct = (
  all_unmade (λ (one : Entered). one.receipt) (λ r. same_receipt x.receipt r ≡ false) (IsOther x) xs (other_apart x)
      (IsDistinct-head same_receipt x.receipt (receipts_in xs) distinct),
  distinct_once xs (IsDistinct-tail same_receipt x.receipt (receipts_in xs) distinct),
)

pub once_moved : (xs ys : List Entered) → IsPermutation xs ys → AreOnce xs → AreOnce ys
once_moved xs ys moved once = distinct_once ys (IsDistinct-IsPermutation same_receipt same_turns (receipts_in xs) (receipts_in ys)
    (IsPermutation-map (λ (one : Entered). one.receipt) xs ys moved) (once_distinct xs once))

-- ---- how many receipts are for a bucket
abbrev is_for : ℕ → Entered → Bool
is_for b one = nat_eq one.receipt.bucket b

-- as many in whatever order
pub counts_moved : (b : ℕ) (xs ys : List Entered) → IsPermutation xs ys → receipts_for b ys ≡ receipts_for b xs
counts_moved b xs ys moved = length-filter (is_for b) ys ∙ sum_by-IsPermutation (λ (one : Entered). cond (is_for b one) 1 0) xs ys moved ∙ sym (length-filter (is_for b) xs)

either_long : {X Y : Type 0} (test : Bool) (x : X) (xs : List X) (y : Y) (ys : List Y) → length xs ≡ length ys → length (cond test (x ∷ xs) xs) ≡ length (cond test (y ∷ ys) ys)
either_long {X} {Y} true x xs y ys same = ap (λ (n : ℕ). suc n) same
either_long {X} {Y} false x xs y ys same = same

-- as many as there are offers of the bucket
pub counts_numbered : (buckets : ℕ) (had : ℕ → ℕ) (b : ℕ) (before : List Tuple) (entries : List Entered) → AreNumbered buckets had before entries
    → receipts_for b entries ≡ length (part buckets b (offers_in entries))
counts_numbered buckets had b before [] are = refl
counts_numbered buckets had b before (one ∷ more) are =
    let same = counts_numbered buckets had b (before ++ one.offer ∷ []) more are.1 in
    let kept = filter (is_for b) more in
    ap (λ (r : Receipt). length (cond (nat_eq r.bucket b) (one ∷ kept) kept)) are.0.0
    ∙ either_long (nat_eq (bucket_of buckets one.offer.key) b) one kept one.offer (part buckets b (offers_in more)) same

-- ---- where the lists have what was handed in
-- each number is behind those that the list had
numbers_later : (buckets : ℕ) (had : ℕ → ℕ) (x : Book) (before : List Tuple) (entries : List Entered) → AreNumbered buckets had before entries
    → ((b : ℕ) → b < buckets → had b ≡ length_at x b) → AllByRecursion (λ one. length_at x one.receipt.bucket ≤ one.receipt.number) entries
numbers_later buckets had x before [] are numbers = tt
numbers_later buckets had x before (one ∷ more) are numbers =
    let c = bucket_of buckets one.offer.key in
    let within : c < buckets = subst (λ (r : Receipt). r.bucket < buckets) are.0.0 are.0.1 in
    let from : length_at x c ≤ had c + length (part buckets c before) = omega (arith, numbers c within) in (
      subst (λ (r : Receipt). length_at x r.bucket ≤ r.number) (sym are.0.0) from,
      numbers_later buckets had x (before ++ one.offer ∷ []) more are.1 numbers,
    )

-- From one book to a later one that has what was handed in, of which each pass did its part.
pub spread_of : (buckets : ℕ) (had : ℕ → ℕ) (passes : List (List Entered)) (news : List Entered) (x y : Book) → AreNumbered buckets had [] news
    → ((b : ℕ) → b < buckets → had b ≡ length_at x b) → y.firsts ≡ x.firsts → Spreads buckets news x y
    → IsPermutation news (flat_map (λ pass. pass) passes) → AllByRecursion (λ pass. IsPartOf pass news) passes → IsSpread buckets passes x y
spread_of buckets had passes news x y are numbers firsts spreads whole in_order =
    let rise = numbered_rise buckets had [] news are in
    let all = flat_map (λ (pass : List Entered). pass) passes in
    let every : (P : Entered → Type 0) → AllByRecursion P news → AllByRecursion (AllByRecursion P) passes = λ P of.
    all_so (λ (pass : List Entered). IsPartOf pass news) (AllByRecursion P) passes (λ pass is. all_part P pass news is of) in_order in
    record {
      front = λ b within. (part buckets b (offers_in news), spreads.lists b within);
      counts = λ b within.
          let list = ap (λ (l : List Tuple). length l) (spreads.lists b within) in
          let first = ap (λ (l : List ℕ). slice_index l b) firsts in
          omega (
            arith,
            list,
            first,
            length-append (list_at x b) (part buckets b (offers_in news)),
            counts_moved b news all whole,
            counts_numbered buckets had b [] news are,
          );
      stand = every (λ one. StandsAt y one.receipt one.offer) spreads.stand;
      later = every (λ one. length_at x one.receipt.bucket ≤ one.receipt.number) (numbers_later buckets had x [] news are numbers);
      rise = all_so (λ (pass : List Entered). IsPartOf pass news) DoRise passes (λ pass is. rise_part pass news is rise) in_order;
      once = once_moved news all whole (rise_once news rise);
    }

-- ---- a store that passes shared, closed
module _ {S : Type 0} {tells : Ghosts S} (lawful : (s : S) → IsConsistent (tells.told s)) where
  -- nothing waits and nothing was entered where a store is just opened, and it hasn't stopped
  fresh_is : (opening : Yard S tells) → IsFresh (fresh_of opening)
  fresh_is opening = record { empty = λ b. refl; entries = refl; last = refl }

  serves_fresh : (opening : Yard S tells) (news : List Entered) (mid : Serving S) → Enters tells.told none_more news (fresh_of opening) mid → Serves tells.told news (fresh_of opening) mid
  serves_fresh opening news mid enters = record { enters = λ none. enters; again = λ fault is. let no : ⊥ = cc in absurd no }

  -- what passes did is handed back as by one desk
  pub handed_back : (result : Result (Yard S tells) (Fault × Yard S tells)) (opening : Yard S tells) (passes : List (Pass S tells)) → (closes : Closes result opening passes)
      → HandsBack tells.told (answer_of result) closes.news (fresh_of opening)
      (ended closes.mid (answer_of result) (yard_of result).store (yard_of result).parts closes.closing.arrays)
  handed_back result opening passes closes =
      let now = ended closes.mid (answer_of result) (yard_of result).store (yard_of result).parts closes.closing.arrays in
      hands_back tells.told lawful closes.news (answer_of result) (fresh_of opening) closes.mid now (fresh_is opening) (serves_fresh opening closes.news closes.mid closes.enters) closes.closing refl

  -- the number behind each bucket's last offer, as the store is opened
  numbers_first : (opening : Yard S tells) (x : Book) → Holds (tells.told opening.store).images opening.parts.urls x → (b : ℕ) → b < buckets_of opening
      → handed_at (moment_at tells.told (fresh_of opening)) b ≡ length_at x b
  numbers_first opening x holds b within = omega (
    arith,
    durable_held (tells.told opening.store).images opening.parts.urls x b holds within,
    no_first (tells.told opening.store).images opening.parts.urls x b holds within,
  )

  -- and at Ok it is in the lists
  pub passes_are_spread : (back opening : Yard S tells) (passes : List (Pass S tells)) → Closes (Ok back) opening passes
      → ForSome (tells.told opening.store).files (λ _. (x : Book) → Holds (tells.told opening.store).images opening.parts.urls x
      → (y : Book) × Holds (tells.told back.store).images back.parts.urls y × IsSpread (buckets_of opening) (map entries_in passes) x y)
  passes_are_spread back opening passes closes = λ files tells_files x holds.
      let hands = handed_back (Ok back) opening passes closes in
      let spread = hands.spread files tells_files x holds in
      let fed = spread.0 in
      let spreads = spread.1 in
      let whole = subst (IsPermutation closes.news) (sym (joined_map entries_in passes)) closes.whole in
      let in_order = all_made entries_in (λ pass. IsPartOf (entries_in pass) closes.news) (λ entries. IsPartOf entries closes.news) passes (λ pass is. is) closes.in_order in (
        fed.book,
        fed.holds,
        spread_of (buckets_of opening) (handed_at (moment_at tells.told (fresh_of opening))) (map entries_in passes) closes.news x fed.book
            hands.enters.numbered (numbers_first opening x holds) fed.grows.front.firsts spreads whole in_order,
      )
