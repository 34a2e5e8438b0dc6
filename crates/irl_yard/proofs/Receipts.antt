-- The offers of receipts stand in the lists of URLs, and stay there.
use Rattle.std.proofs.Common.{◌≡◌, ◌∙◌, ℕ, zero, suc, ◌+◌, ◌<◌, List, [], ◌∷◌, ◌++◌, length, length-append, get_or, replicate, Some, refl, sym, ap, subst, arith}
use Rattle.std.specs.Prelude.{slice_get, slice_index, slice_index_or}
use Rattle.std.specs.List.{AllByRecursion}
use Rattle.irl_offer.specs.Tuple.{Tuple}
use Rattle.irl_offer.specs.declared.done.Done.{Done}
use Rattle.irl_offer.specs.declared.receipt.Receipt.{Receipt}
use Rattle.irl_offer.specs.declared.settings.Settings.{Settings}
use Rattle.irl_model.specs.Book.{Book, IsBelow, IsFront, IsPrefixOf, ArePrefixes, list_lengths, lengths_of}
use Rattle.irl_model.proofs.Stretches.{below_at}
use Rattle.irl_bay.specs.Drum.{Drum, durables}
use Rattle.irl_bay.specs.Standing.{IsBookOf}
use Rattle.irl_schedule.proofs.Counts.{durable_index}
use Rattle.irl_ledger.specs.Settling.{IsFlushed}
use Rattle.irl_yard.specs.Settling.{HasLinks, HasOffer, StandsAt, StayLinks}

-- ---- a place in a list
some_at : (xs : List Tuple) (i : ℕ) → i < length xs → (offer : Tuple) × (slice_get xs i ≡ Some offer)
some_at [] i lt = absurd (omega (arith, lt))
some_at (x ∷ xs) zero lt = (x, refl)
some_at (x ∷ xs) (suc i) lt = some_at xs i (omega (arith, lt))

stays_at : (xs ys : List Tuple) (i : ℕ) (offer : Tuple) → slice_get xs i ≡ Some offer → slice_get (xs ++ ys) i ≡ Some offer
stays_at [] ys i offer is = absurd (cc)
stays_at (x ∷ xs) ys zero offer is = is
stays_at (x ∷ xs) ys (suc i) offer is = stays_at xs ys i offer is

prefix_at : (xs ys : List (List Tuple)) (b : ℕ) → ArePrefixes xs ys → IsPrefixOf (get_or xs b []) (get_or ys b [])
prefix_at [] [] b are = ([], refl)
prefix_at [] (y ∷ ys) b are = absurd are
prefix_at (x ∷ xs) [] b are = absurd are
prefix_at (x ∷ xs) (y ∷ ys) zero are = are.0
prefix_at (x ∷ xs) (y ∷ ys) (suc b) are = prefix_at xs ys b are.1

-- a number below a list's length has its place in it, where no offer of it is dropped
within_list : (k : ℕ) (lists : List (List Tuple)) (b n : ℕ) → n < get_or (list_lengths (replicate k 0) lists) b 0 → (slice_index (replicate k 0) b ≡ 0) × (n < length (get_or lists b []))
within_list zero lists b n lt = absurd (omega (arith, lt))
within_list (suc k) [] b n lt = absurd (omega (arith, lt))
within_list (suc k) (l ∷ ls) zero n lt = (refl, omega (arith, lt))
within_list (suc k) (l ∷ ls) (suc b) n lt = within_list k ls b n lt

-- ---- a receipt
-- one whose number is below the list's length has its offer
pub has_offer : (settings : Settings) (book : Book) (receipt : Receipt) → IsBookOf settings book → receipt.number < slice_index (lengths_of book) receipt.bucket → HasOffer book receipt
has_offer settings book receipt is lt =
    let b = receipt.bucket in
    let zeros = (is.is_book.none is.dropped).1 in
    let within = within_list book.buckets book.lists b receipt.number (subst (λ (firsts : List ℕ). receipt.number < slice_index (list_lengths firsts book.lists) b) zeros lt) in
    let offer = some_at (slice_index_or book.lists b []) receipt.number within.1 in
    let first : slice_index book.firsts b ≡ 0 = ap (λ (firsts : List ℕ). slice_index firsts b) zeros ∙ within.0 in
    (lt, (offer.0, (receipt.number, (omega (arith, first), offer.1))))

pub offer_stays : (x y : Book) (receipt : Receipt) (offer : Tuple) → IsFront x y → StandsAt x receipt offer → StandsAt y receipt offer
offer_stays x y receipt offer front at =
    let more = prefix_at x.lists y.lists receipt.bucket front.lists in (
      at.0,
      (
        ap (λ (firsts : List ℕ). slice_index firsts receipt.bucket + at.0) front.firsts ∙ at.1.0,
        ap (λ (l : List Tuple). slice_get l at.0) more.1 ∙ stays_at (slice_index_or x.lists receipt.bucket []) more.0 at.0 offer at.1.1,
      ),
    )

longer_list : (firsts : List ℕ) (xs ys : List (List Tuple)) (b n : ℕ) → ArePrefixes xs ys → n < get_or (list_lengths firsts xs) b 0 → n < get_or (list_lengths firsts ys) b 0
longer_list [] xs ys b n are lt = absurd (omega (arith, lt))
longer_list (f ∷ fs) [] ys b n are lt = absurd (omega (arith, lt))
longer_list (f ∷ fs) (x ∷ xs) [] b n are lt = absurd are
longer_list (f ∷ fs) (x ∷ xs) (y ∷ ys) zero n are lt = omega (arith, lt, ap length are.0.1 ∙ length-append x are.0.0)
longer_list (f ∷ fs) (x ∷ xs) (y ∷ ys) (suc b) n are lt = longer_list fs xs ys b n are.1 lt

has_later : (x y : Book) (receipt : Receipt) → IsFront x y → HasOffer x receipt → HasOffer y receipt
has_later x y receipt front has = (
  subst (λ (firsts : List ℕ). receipt.number < slice_index (list_lengths firsts y.lists) receipt.bucket) (sym front.firsts)
      (longer_list x.firsts x.lists y.lists receipt.bucket receipt.number front.lists has.0),
  (has.1.0, offer_stays x y receipt has.1.0 front has.1.1),
)

-- ---- what is done
receipts_flushed : (settings : Settings) (urls : Drum) (book : Book) (receipts : List Receipt) → IsBookOf settings book → IsBelow (durables urls) (lengths_of book)
    → AllByRecursion (IsFlushed urls) receipts → AllByRecursion (HasOffer book) receipts
receipts_flushed settings urls book [] is below all = tt
receipts_flushed settings urls book (r ∷ rs) is below all = (
  has_offer settings book r is (omega (arith, all.0.1, durable_index urls r.bucket, below_at (durables urls) (lengths_of book) r.bucket below)),
  receipts_flushed settings urls book rs is below all.1,
)

-- the offers stand in lists that are no shorter than the bay's
pub links_flushed : (settings : Settings) (urls : Drum) (book : Book) (done : List Done) → IsBookOf settings book → IsBelow (durables urls) (lengths_of book)
    → AllByRecursion (λ d. AllByRecursion (IsFlushed urls) d.receipts) done → HasLinks done book
links_flushed settings urls book [] is below all = tt
links_flushed settings urls book (d ∷ ds) is below all = (receipts_flushed settings urls book d.receipts is below all.0, links_flushed settings urls book ds is below all.1)

receipts_later : (x y : Book) (receipts : List Receipt) → IsFront x y → AllByRecursion (HasOffer x) receipts → AllByRecursion (HasOffer y) receipts
receipts_later x y [] front all = tt
receipts_later x y (r ∷ rs) front all = (has_later x y r front all.0, receipts_later x y rs front all.1)

-- and in what has the book as a front
pub links_later : (x y : Book) (done : List Done) → IsFront x y → HasLinks done x → HasLinks done y
links_later x y [] front all = tt
links_later x y (d ∷ ds) front all = (receipts_later x y d.receipts front all.0, links_later x y ds front all.1)

receipts_stay : (x y : Book) (receipts : List Receipt) → IsFront x y → AllByRecursion (λ r. (offer : Tuple) → StandsAt x r offer → StandsAt y r offer) receipts
receipts_stay x y [] front = tt
receipts_stay x y (r ∷ rs) front = (λ offer at. offer_stays x y r offer front at, receipts_stay x y rs front)

pub links_stay : (x y : Book) (done : List Done) → IsFront x y → StayLinks done x y
links_stay x y [] front = tt
links_stay x y (d ∷ ds) front = (receipts_stay x y d.receipts front, links_stay x y ds front)
