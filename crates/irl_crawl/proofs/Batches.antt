-- Books that grow in batches, and what was handed in: of states, and of one part of a crawl behind another.
use Rattle.std.proofs.Common.{◌≡◌, ◌∙◌, ℕ, zero, suc, ◌+◌, ◌<◌, ◌≤◌, nat_eq, cond, List, [], ◌∷◌, ◌++◌, length, drop, get_or, inl, inr, Result, IsErrOf, refl, sym, ap, subst, length-append, arith}
use Rattle.std.proofs.lemmas.List.Elements.{filter-append}
use Rattle.std.proofs.lemmas.List.Sorted.{sum_by-IsPermutation}
use Rattle.std.proofs.lemmas.List.Sums.{length-filter}
use Rattle.std.specs.List.{AllByRecursion}
use Rattle.irl_base.specs.Among.{IsAmong}
use Rattle.irl_base.specs.declared.fault.Fault.{Fault}
use Rattle.irl_base.specs.declared.fault.Fault.TheVariants.{Damaged, Full}
use Rattle.irl_bay.proofs.InBuckets.{all_back}
use Rattle.irl_events.specs.Events.{Happened}
use Rattle.irl_events.specs.State.{State}
use Rattle.irl_ledger.specs.Crawling.{pair_settings}
use Rattle.irl_model.specs.Book.{AreOfBuckets, ArePrefixes, Book, IsBook, IsFront, part}
use Rattle.irl_offer.specs.Buckets.{bucket_of}
use Rattle.irl_offer.specs.Tuple.{Tuple}
use Rattle.irl_offer.specs.declared.settings.Settings.{Settings}
use Rattle.irl_reach.proofs.Growing.{drop_front}
use Rattle.irl_reach.specs.Crawls.{added_to}
use Rattle.irl_schedule.proofs.Chains.{grows_both, grows_more, grows_same}
use Rattle.irl_schedule.specs.Feeding.{Grows, list_at}
use Rattle.irl_crawl.proofs.Sent.{OweAlike}
use Rattle.irl_crawl.proofs.Spread.{part_here}
use Rattle.irl_crawl.specs.Leading.{GrowsInBatches, HasGround, IsFullAt, NeedsNoGround}
use Rattle.irl_crawl.specs.Turning.{turns_in, turns_of}

-- ---- books that grow
module _ (settings : Settings) where
  pub grown_same : (x : State) → GrowsInBatches settings 0 x x
  grown_same x = record { urls = grows_same settings x.urls; pairs = grows_same (pair_settings settings) x.pairs }

  pub grown_both : (first later : ℕ) (x y z : State) → GrowsInBatches settings first x y → GrowsInBatches settings later y z → GrowsInBatches settings (first + later) x z
  grown_both first later x y z one two = record {
    urls = grows_both settings first later x.urls y.urls z.urls one.urls two.urls;
    pairs = grows_both (pair_settings settings) first later x.pairs y.pairs z.pairs one.pairs two.pairs;
  }

  pub grown_more : (few many : ℕ) (x y : State) → few ≤ many → GrowsInBatches settings few x y → GrowsInBatches settings many x y
  grown_more few many x y within grows = record {
    urls = grows_more settings few many x.urls y.urls within grows.urls;
    pairs = grows_more (pair_settings settings) few many x.pairs y.pairs within grows.pairs;
  }

  -- states with the same books
  pub grown_from : (early : ℕ) (x y z : State) → y.urls ≡ x.urls → y.pairs ≡ x.pairs → GrowsInBatches settings early y z → GrowsInBatches settings early x z
  grown_from early x y z urls pairs grows = record {
    urls = subst (λ (b : Book). Grows settings early b z.urls) urls grows.urls;
    pairs = subst (λ (b : Book). Grows (pair_settings settings) early b z.pairs) pairs grows.pairs;
  }

  pub grown_to : (early : ℕ) (x y z : State) → z.urls ≡ y.urls → z.pairs ≡ y.pairs → GrowsInBatches settings early x y → GrowsInBatches settings early x z
  grown_to early x y z urls pairs grows = record {
    urls = subst (λ (b : Book). Grows settings early x.urls b) (sym urls) grows.urls;
    pairs = subst (λ (b : Book). Grows (pair_settings settings) early x.pairs b) (sym pairs) grows.pairs;
  }

  pub grown_alike : (x y : State) → y.urls ≡ x.urls → y.pairs ≡ x.pairs → GrowsInBatches settings 0 x y
  grown_alike x y urls pairs = grown_to 0 x x y urls pairs (grown_same x)

-- ---- turns among events
pub turns_both : (xs ys : List Happened) → turns_in (xs ++ ys) ≡ turns_in xs + turns_in ys
turns_both [] ys = omega arith
turns_both (x ∷ xs) ys = let rest = turns_both xs ys in omega (arith, rest)

pub turn_there : (xs ys : List Happened) (h : Happened) → turns_of h.0 ≡ 1 → 1 ≤ turns_in (xs ++ h ∷ ys)
turn_there [] ys h is = omega (arith, is)
turn_there (x ∷ xs) ys h is = let rest = turn_there xs ys h is in omega (arith, rest)

-- ---- parts of offers
pub part_both : (buckets n : ℕ) (xs ys : List Tuple) → length (part buckets n (xs ++ ys)) ≡ length (part buckets n xs) + length (part buckets n ys)
part_both buckets n xs ys =
    ap length (filter-append (λ (offer : Tuple). nat_eq (bucket_of buckets offer.key) n) xs ys) ∙ length-append (part buckets n xs) (part buckets n ys)

pub part_among : (buckets n : ℕ) (xs ys : List Tuple) → IsAmong xs ys → length (part buckets n xs) ≤ length (part buckets n ys)
part_among buckets n xs ys among =
    let is_there : Tuple → _ = λ offer. nat_eq (bucket_of buckets offer.key) n in
    let same = sum_by-IsPermutation (λ (offer : Tuple). cond (is_there offer) 1 0) (xs ++ among.rest) ys among.is in
    omega (arith, part_both buckets n xs among.rest, length-filter is_there (xs ++ among.rest), length-filter is_there ys, same)

all_part : (buckets b : ℕ) (list : List Tuple) → AllByRecursion (λ (offer : Tuple). bucket_of buckets offer.key ≡ b) list → part buckets b list ≡ list
all_part buckets b [] all = refl
all_part buckets b (one ∷ list) all = part_here buckets b one list all.0 ∙ ap (λ (l : List Tuple). one ∷ l) (all_part buckets b list all.1)

-- a list has no more than it had, and what was added of its bucket
added_long : (buckets first k : ℕ) (xs ys : List (List Tuple)) → ArePrefixes xs ys → AreOfBuckets buckets first ys
    → length (get_or ys k []) ≤ length (get_or xs k []) + length (part buckets (first + k) (added_to xs ys))
added_long buckets first k [] [] front of = omega arith
added_long buckets first k [] (y ∷ ys) front of = absurd front
added_long buckets first k (x ∷ xs) [] front of = absurd front
added_long buckets first zero (x ∷ xs) (y ∷ ys) front of =
    let more : List Tuple = front.0.0 in
    let rest : drop (length x) y ≡ more = ap (drop (length x)) front.0.1 ∙ drop_front x more in
    let here : part buckets first (drop (length x) y) ≡ more =
    ap (part buckets first) rest
    ∙ all_part buckets first more (all_back (λ (offer : Tuple). bucket_of buckets offer.key ≡ first) x more
    (subst (AllByRecursion (λ (offer : Tuple). bucket_of buckets offer.key ≡ first)) front.0.1 of.0)) in
    let at : part buckets (first + 0) (drop (length x) y ++ added_to xs ys) ≡ part buckets first (drop (length x) y ++ added_to xs ys) =
    ap (λ n. part buckets n (drop (length x) y ++ added_to xs ys)) (omega arith) in
    omega (
      arith,
      ap length at,
      ap length here,
      ap length front.0.1,
      length-append x more,
      part_both buckets first (drop (length x) y) (added_to xs ys),
    )
added_long buckets first (suc k) (x ∷ xs) (y ∷ ys) front of =
    let rest = added_long buckets (first + 1) k xs ys front.1 of.1 in
    let at : part buckets (first + suc k) (added_to xs ys) ≡ part buckets (first + 1 + k) (added_to xs ys) = ap (λ n. part buckets n (added_to xs ys)) (omega arith) in
    omega (arith, rest, ap length at, part_both buckets (first + suc k) (drop (length x) y) (added_to xs ys))

-- ---- what was handed in
-- in each bucket of URLs a state's list has at most what another's has, and these
abbrev pub Fills : Settings → List Tuple → State → State → Type 0
Fills settings handed x y = (n : ℕ) → n < settings.buckets
    → length (list_at y.urls n) ≤ length (list_at x.urls n) + length (part settings.buckets n handed)

pub fills_among : (settings : Settings) (handed : List Tuple) (x y : State) → IsBook y.urls → y.urls.buckets ≡ settings.buckets → IsFront x.urls y.urls
    → IsAmong (added_to x.urls.lists y.urls.lists) handed → Fills settings handed x y
fills_among settings handed x y is buckets front among = λ n within.
    let long : length (list_at y.urls n) ≤ length (list_at x.urls n) + length (part settings.buckets (0 + n) (added_to x.urls.lists y.urls.lists)) =
    added_long settings.buckets 0 n x.urls.lists y.urls.lists front.lists (subst (λ (count : ℕ). AreOfBuckets count 0 y.urls.lists) buckets is.each) in
    let at : part settings.buckets (0 + n) (added_to x.urls.lists y.urls.lists) ≡ part settings.buckets n (added_to x.urls.lists y.urls.lists) =
    ap (λ m. part settings.buckets m (added_to x.urls.lists y.urls.lists)) (omega arith) in
    omega (arith, long, ap length at, part_among settings.buckets n (added_to x.urls.lists y.urls.lists) handed among)

-- and with these behind at most that with others behind
abbrev pub Covers : Settings → List Tuple → List Tuple → State → State → Type 0
Covers settings later handed x y = (n : ℕ) → n < settings.buckets
    → length (list_at y.urls n) + length (part settings.buckets n later) ≤ length (list_at x.urls n) + length (part settings.buckets n handed)

pub covers_among : (settings : Settings) (later handed : List Tuple) (x y : State) → y.urls.lists ≡ x.urls.lists → IsAmong later handed → Covers settings later handed x y
covers_among settings later handed x y same among = λ n within.
    let long : length (list_at y.urls n) ≡ length (list_at x.urls n) = ap (λ (lists : List (List Tuple)). length (get_or lists n [])) same in
    omega (arith, long, part_among settings.buckets n later handed among)

pub covers_none : (settings : Settings) (handed : List Tuple) (x y : State) → Fills settings handed x y → Covers settings [] handed x y
covers_none settings handed x y fills = λ n within. let fill = fills n within in omega (arith, fill)

pub covers_append : (settings : Settings) (first later : List Tuple) (x y : State) → Fills settings first x y → Covers settings later (first ++ later) x y
covers_append settings first later x y fills = λ n within.
    let fill = fills n within in
    omega (arith, fill, part_both settings.buckets n first later)

-- ---- grounds
full_before : (suffixes : List ℕ) (settings : Settings) (later handed : List Tuple) (x y z : State) (n : ℕ) → OweAlike suffixes settings x y z.urls → Covers settings later handed x y
    → IsFullAt suffixes settings later y z n → IsFullAt suffixes settings handed x z n
full_before suffixes settings later handed x y z n owe covers (inl urls) = inl (urls.0, urls.1, let all = covers n urls.0 in omega (arith, urls.2, all))
full_before suffixes settings later handed x y z n owe covers (inr (b, is, within, lacks, full)) =
    inr (b, is, within, lacks, subst (λ (l : List Tuple). settings.cap < length l) (sym (owe b within)) full)

-- of a later part for both together
pub ground_before : {A B : Type 0} (one : Result A Fault) (other : Result B Fault) (suffixes : List ℕ) (settings : Settings) (later handed : List Tuple) (x y z : State)
    → ((fault : Fault) → IsErrOf other fault → IsErrOf one fault) → OweAlike suffixes settings x y z.urls → Covers settings later handed x y → HasGround one suffixes settings later y z
    → HasGround other suffixes settings handed x z
ground_before one other suffixes settings later handed x y z same owe covers ground = record {
  full = λ n is. full_before suffixes settings later handed x y z n owe covers (ground.full n (same (Full n) is));
  whole = λ f at is. ground.whole f at (same (Damaged f at) is);
}

pub ground_then : {A : Type 0} (result : Result A Fault) (suffixes : List ℕ) (settings : Settings) (later handed : List Tuple) (x y z : State) → OweAlike suffixes settings x y z.urls
    → Covers settings later handed x y → HasGround result suffixes settings later y z → HasGround result suffixes settings handed x z
ground_then result suffixes settings later handed x y z owe covers ground = ground_before result result suffixes settings later handed x y z (λ fault is. is) owe covers ground

-- from the same state on, with more that was handed in
pub ground_more : {A : Type 0} (result : Result A Fault) (suffixes : List ℕ) (settings : Settings) (later handed : List Tuple) (x y : State) → IsAmong later handed
    → HasGround result suffixes settings later x y → HasGround result suffixes settings handed x y
ground_more result suffixes settings later handed x y among ground =
    ground_then result suffixes settings later handed x x y (λ b within. refl) (covers_among settings later handed x x refl among) ground

-- where no list is full and nothing is damaged, anything may have been handed in
pub ground_none : {A : Type 0} (result : Result A Fault) (suffixes : List ℕ) (settings : Settings) (handed : List Tuple) (x y : State) → NeedsNoGround result
    → HasGround result suffixes settings handed x y
ground_none result suffixes settings handed x y none = record { full = λ n is. absurd (none.full n is); whole = none.whole }
