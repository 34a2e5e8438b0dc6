-- What one flush of a bay does for what waits in front of it.
use Rattle.std.proofs.Common.{◌≡◌, ◌≢◌, ◌∙◌, ◌⊎◌, inl, inr, ⊎_elim, ℕ, zero, suc, ◌+◌, ◌*◌, ◌-◌, ◌<◌, ◌≤◌, max, Bool, true, false, cond, not, List, [], ◌∷◌, ◌++◌, length, filter, nat_eq, slice_index, Option, None, Some, refl, sym, ap, subst, append-nil, length-append, arith}
use Rattle.std.proofs.lemmas.List.Elements.{filter-append}
use Rattle.std.proofs.lemmas.Bool.{eq-eqb}
use Rattle.std.proofs.Math.Nat.{eq-or-lt_of_le}
use Rattle.std.proofs.lemmas.Bool.Decides.{eqb_tells, nat_tests}
use Rattle.std.specs.List.{AllByRecursion}
use Rattle.std.specs.Option.{ForSome}
use Rattle.irl_offer.specs.declared.settings.Settings.{Settings}
use Rattle.irl_offer.specs.Buckets.{bucket_of}
use Rattle.irl_offer.specs.Tuple.{Tuple}
use Rattle.irl_model.specs.Book.{Book, IsFront, flushed}
use Rattle.irl_model.proofs.Flushes.{flushed_here, flushed_elsewhere, flushed_book}
use Rattle.irl_model.proofs.FrontLaws.{front_same, flushed_front}
use Rattle.irl_disk.specs.Disk.{Files}
use Rattle.irl_disk.specs.Images.{Told, IsConsistent, Follows, Leaves}
use Rattle.irl_disk.proofs.Stretches.{widens, left_now}
use Rattle.irl_layout.specs.Commits.{HasLiveRecords, live_side}
use Rattle.irl_layout.specs.BayFiles.{IsBucketFile}
use Rattle.irl_bay.specs.Drum.{Drum, IsDrum, durable_at, pending_at}
use Rattle.irl_layout.specs.Runs.{run_bytes}
use Rattle.irl_bay.proofs.Live.{first_zero, length_is}
use Rattle.irl_layout.proofs.Runs.{length-run_bytes}
use Rattle.irl_bay.specs.Flushing.{MayFlush, FlushMayLeave}
use Rattle.irl_bay.specs.Holding.{Holds, Becomes}
use Rattle.irl_bay.specs.Standing.{IsBookOf, Stands}
use Rattle.irl_schedule.specs.Schedule.{entry_len, uneven_records, one_more_at, uneven_flush, HasJournal, HaveRecords, AddsUneven, LeavesUneven}
use Rattle.irl_schedule.specs.Feeding.{list_at, length_at, unjudged_at, handed_in, FewUnjudged, Grows, Keeps, TakesWaiting, CutsOnce, HasBetween, Moment, Fed, Stranded}
use Rattle.irl_schedule.proofs.Chains.{few_same, grows_same}
use Rattle.irl_schedule.proofs.Counts.{durable_index}
use Rattle.irl_schedule.proofs.Journals.{buckets_apart, gains_stay, leaves_pair, manifest_apart, records_stay}

-- ---- several facts of what stops leave
-- each number of some has a fact, or something else is so
all_or : (n : ℕ) (A : Type 0) (Q : ℕ → Type 0) → ((c : ℕ) → c < n → A ⊎ Q c) → A ⊎ ((c : ℕ) → c < n → Q c)
all_or zero A Q each = inr (λ c within. absurd (omega (arith, within)))
all_or (suc n) A Q each =
    ⊎_elim (λ was. inl was)
    (λ below. ⊎_elim (λ was. inl was)
    (λ here. inr (λ c within. ⊎_elim (λ same. subst Q (sym same.1) here) (λ other. below c (omega (arith, within, other.1))) (eqb_tells c n)))
    (each n (omega arith)))
    (all_or n A Q (λ c within. each c (omega (arith, within))))

pub leaves_all : (n : ℕ) (old new : Told) (P : ℕ → Files → Type 0) → old.moment ≤ new.moment → ((c : ℕ) → c < n → Leaves old new (P c)) → Leaves old new (λ image. (c : ℕ) → c < n → P c image)
leaves_all n old new P later each = record {
  later = later;
  each = λ image left. λ c within. (each c within).each image left;
  before = λ t image le left. all_or n (old.since t image) (λ c. P c image) (λ c within. (each c within).before t image le left);
}

-- ---- a value for each number below another
pub choose : (n : ℕ) (P : ℕ → List (List ℕ) → Type 0) → ((b : ℕ) → b < n → (r : List (List ℕ)) × P b r) → (was : ℕ → List (List ℕ)) × ((b : ℕ) → b < n → P b (was b))
choose zero P each = (λ b. [], λ b within. absurd (omega arith))
choose (suc n) P each =
    let before = choose n P (λ b within. each b (omega (arith, within))) in
    let last = each n (omega arith) in
    let pick : ℕ → List (List ℕ) = λ b. cond (nat_eq b n) last.0 (before.0 b) in
    let at_last : pick n ≡ last.0 = ap (λ (t : Bool). cond t last.0 (before.0 n)) (same_number n) in
    let below : (b : ℕ) → b < n → pick b ≡ before.0 b = λ b within. ap (λ (t : Bool). cond t last.0 (before.0 b)) (other_number b n within) in
    (pick, λ b within. by_place b n P pick (subst (P n) (sym at_last) last.1) (λ less. subst (P b) (sym (below b less)) (before.1 b less)) within)
  where
    same_number : (m : ℕ) → nat_eq m m ≡ true
    same_number m = grind (arith, nat_tests)

    other_number : (b m : ℕ) → b < m → nat_eq b m ≡ false
    other_number b m less = grind (arith, nat_tests)

    by_place : (b m : ℕ) (Q : ℕ → List (List ℕ) → Type 0) (pick : ℕ → List (List ℕ)) → Q m (pick m) → (b < m → Q b (pick b)) → b < suc m → Q b (pick b)
    by_place b m Q pick here less within = ⊎_elim (λ (e : b ≡ m). subst (λ (k : ℕ). Q k (pick k)) (sym e) here) (λ (l : b < m). less l) (eq-or-lt_of_le {n = b} {m = m} (omega (arith, within)))

-- ---- uneven records
-- whether a record is uneven
abbrev is_uneven : ℕ → List ℕ → Bool
is_uneven array payload = not (nat_eq (length payload) (entry_len * array))

one_uneven : (array : ℕ) (payload : List ℕ) (test : Bool) → is_uneven array payload ≡ test → uneven_records array (payload ∷ []) ≡ cond test 1 0
one_uneven array payload true is = ap (λ (t : Bool). length (cond t (payload ∷ []) [])) is
one_uneven array payload false is = ap (λ (t : Bool). length (cond t (payload ∷ []) [])) is

more_uneven : (array : ℕ) (payloads : List (List ℕ)) (payload : List ℕ) → uneven_records array (payloads ++ payload ∷ []) ≡ uneven_records array payloads + uneven_records array (payload ∷ [])
more_uneven array payloads payload =
    ap (λ (l : List (List ℕ)). length l) (filter-append (is_uneven array) payloads (payload ∷ [])) ∙ length-append (filter (is_uneven array) payloads) (filter (is_uneven array) (payload ∷ []))

-- at most as many as a flush may add
run_uneven : (array b : ℕ) (items : List Tuple) → uneven_records array (run_bytes items ∷ []) ≤ uneven_flush array b items b
run_uneven array b items = ⊎_elim (λ same. whole same.0 same.1) (λ other. part other.0) (eqb_tells (length items) array)
  where
    whole : nat_eq (length items) array ≡ true → length items ≡ array → uneven_records array (run_bytes items ∷ []) ≤ uneven_flush array b items b
    whole test same =
        let even : is_uneven array (run_bytes items) ≡ false = ap (λ (t : Bool). not t) (eq-eqb (length (run_bytes items)) (entry_len * array) (omega (arith, length-run_bytes items, same))) in
        let none = one_uneven array (run_bytes items) false even in
        omega (arith, none)

    part : nat_eq (length items) array ≡ false → uneven_records array (run_bytes items ∷ []) ≤ uneven_flush array b items b
    part test =
        let one : uneven_flush array b items b ≡ 1 = ap (λ (t : Bool). cond t 0 (one_more_at b b)) test ∙ ap (λ (t : Bool). cond t 1 0) (eq-eqb b b refl) in
        at_most_one (is_uneven array (run_bytes items)) refl one
      where
        at_most_one : (test : Bool) → is_uneven array (run_bytes items) ≡ test → uneven_flush array b items b ≡ 1 → uneven_records array (run_bytes items ∷ []) ≤ uneven_flush array b items b
        at_most_one true is one = omega (arith, one_uneven array (run_bytes items) true is, one)
        at_most_one false is one = omega (arith, one_uneven array (run_bytes items) false is, one)

-- ---- a flush
-- a joint image's bay has one of two books
abbrev pub HasOneOf : ℕ → Settings → Book → Book → Files → Type 0
HasOneOf base settings x y image = Stands base settings x image ⊎ Stands base settings y image

-- What a flush of a bucket's array says of stops, whatever it answers.
pub record Flushing (b : ℕ) (items : List Tuple) (old new : Moment) : Type 0 where
  pub law : IsDrum old.drum
  pub within : b < old.drum.settings.buckets
  pub waits : items ≡ old.waits b
  pub fits : durable_at old.drum b + length items ≤ old.drum.settings.cap
  pub few : length items ≤ old.drum.settings.array
  pub offers : AllByRecursion (λ offer. bucket_of old.drum.settings.buckets offer.key ≡ b) items
  pub pending : pending_at old.drum b < old.drum.settings.trigger
  pub stops : (book : Book) → Holds old.store.images old.drum book → Leaves old.store new.store (HasOneOf old.drum.base old.drum.settings book (flushed b items book))
  pub gains_stop : (book : Book) (payloads : List (List ℕ)) → Holds old.store.images old.drum book → HasJournal old.store.images old.drum b payloads
      → Leaves old.store new.store (λ image. HasLiveRecords old.drum.base old.drum.settings.buckets b payloads image
      ⊎ HasLiveRecords old.drum.base old.drum.settings.buckets b (payloads ++ run_bytes items ∷ []) image)
  pub records_stop : (book : Book) (c : ℕ) (payloads : List (List ℕ)) → c ≢ b → c < old.drum.settings.buckets → Holds old.store.images old.drum book
      → HasJournal old.store.images old.drum c payloads
      → Leaves old.store new.store (HasLiveRecords old.drum.base old.drum.settings.buckets c payloads)

-- it is what a flush may leave
pub flushing : (failed : Type 0) (b : ℕ) (items : List Tuple) (old new : Moment) → IsDrum old.drum → MayFlush b items old.drum → items ≡ old.waits b
    → durable_at old.drum b + length items ≤ old.drum.settings.cap → FlushMayLeave failed b items old.drum old.store new.store → Flushing b items old new
flushing failed b items old new law may waits fits leaves =
    let drum = old.drum in
    let side = live_side drum.last in
    record {
      law = law;
      within = may.bucket;
      waits = waits;
      fits = fits;
      few = may.few;
      offers = may.offers;
      pending = may.pending;
      stops = λ x holds. widens old.store new.store (Follows (Becomes (IsBucketFile drum.base side b) drum.base drum.settings x (flushed b items x)) old.store.images) _ (leaves.stops x holds)
          (λ image from. from.2.stands);
      gains_stop = λ x payloads holds has.
          gains_stay old.store new.store drum x b payloads (payloads ++ run_bytes items ∷ []) law holds leaves.others.stops (leaves.gains payloads has);
      records_stop = λ x c payloads other within holds has.
          records_stay (IsBucketFile drum.base side b) old.store new.store drum x c payloads law holds within
          (buckets_apart drum.base side c b _ other (inl refl)) (manifest_apart drum.base side b) leaves.others.stops has;
    }

-- the records with those of a flush
abbrev gained : ℕ → List ℕ → (ℕ → List (List ℕ)) → ℕ → List (List ℕ)
gained b payload was c = cond (nat_eq c b) (was c ++ payload ∷ []) (was c)

gained_here : (b : ℕ) (payload : List ℕ) (was : ℕ → List (List ℕ)) (c : ℕ) → nat_eq c b ≡ true → gained b payload was c ≡ was c ++ payload ∷ []
gained_here b payload was c is = ap (λ (t : Bool). cond t (was c ++ payload ∷ []) (was c)) is

gained_elsewhere : (b : ℕ) (payload : List ℕ) (was : ℕ → List (List ℕ)) (c : ℕ) → nat_eq c b ≡ false → gained b payload was c ≡ was c
gained_elsewhere b payload was c is = ap (λ (t : Bool). cond t (was c ++ payload ∷ []) (was c)) is

gains_uneven : (array buckets b : ℕ) (items : List Tuple) (was : ℕ → List (List ℕ)) → AddsUneven (uneven_flush array b items) buckets array was (gained b (run_bytes items) was)
gains_uneven array buckets b items was = λ c within. ⊎_elim
    (λ same. subst (λ (l : List (List ℕ)). uneven_records array l ≤ uneven_records array (was c) + uneven_flush array b items c) (sym (gained_here b (run_bytes items) was c same.0))
    (subst (λ (n : ℕ). uneven_records array (was c ++ run_bytes items ∷ []) ≤ uneven_records array (was c) + uneven_flush array b items n) (sym same.1)
    (omega (arith, more_uneven array (was c) (run_bytes items), run_uneven array b items))))
    (λ other. subst (λ (l : List (List ℕ)). uneven_records array l ≤ uneven_records array (was c) + uneven_flush array b items c) (sym (gained_elsewhere b (run_bytes items) was c other.0))
    (omega arith))
    (eqb_tells c b)

flush_records_stop : (b : ℕ) (items : List Tuple) (old new : Moment) (x : Book) (was : ℕ → List (List ℕ)) → Flushing b items old new → Holds old.store.images old.drum x
    → HaveRecords old.store.images old.drum was
    → Leaves old.store new.store (LeavesUneven (uneven_flush old.drum.settings.array b items) old.drum was)
flush_records_stop b items old new x was flush holds have =
    let base = old.drum.base in
    let buckets = old.drum.settings.buckets in
    let array = old.drum.settings.array in
    let here = flush.gains_stop x (was b) holds (have b flush.within) in
    let others = leaves_all buckets old.store new.store (λ c image. c ≢ b → HasLiveRecords base buckets c (was c) image) here.later (λ c within.
    ⊎_elim (λ same. widens old.store new.store _ (λ image. c ≢ b → HasLiveRecords base buckets c (was c) image) here (λ image has other. absurd (other same.1)))
    (λ other. widens old.store new.store (HasLiveRecords base buckets c (was c)) (λ image. c ≢ b
    → HasLiveRecords base buckets c (was c) image) (flush.records_stop x c (was c) other.1 within holds (have c within)) (λ image has not. has))
    (eqb_tells c b)) in
    widens old.store new.store _ _ (leaves_pair old.store new.store _ _ here others) (λ image has. ⊎_elim
    (λ same. (
      was,
      λ c within. ⊎_elim (λ is. subst (λ (n : ℕ). HasLiveRecords base buckets n (was n) image) (sym is.1) same) (λ other. has.1 c within other.1) (eqb_tells c b),
      λ c within. omega arith,
    ))
    (λ more. (
      gained b (run_bytes items) was,
      λ c within. ⊎_elim
          (λ is. subst (λ (l : List (List ℕ)). HasLiveRecords base buckets c l image) (sym (gained_here b (run_bytes items) was c is.0))
          (subst (λ (n : ℕ). HasLiveRecords base buckets n (was n ++ run_bytes items ∷ []) image) (sym is.1) more))
          (λ other. subst (λ (l : List (List ℕ)). HasLiveRecords base buckets c l image) (sym (gained_elsewhere b (run_bytes items) was c other.0)) (has.1 c within other.1))
          (eqb_tells c b),
      gains_uneven array buckets b items was,
    ))
    has.0)

-- the book with the offers
pub list_within : (images : Files → Type 0) (drum : Drum) (x : Book) (b : ℕ) → Holds images drum x → b < drum.settings.buckets → b < x.buckets
list_within images drum x b holds within = subst (λ (n : ℕ). b < n) (sym holds.book_is.buckets) within

pub no_first : (images : Files → Type 0) (drum : Drum) (x : Book) (b : ℕ) → Holds images drum x → b < drum.settings.buckets → slice_index x.firsts b ≡ 0
no_first images drum x b holds within = first_zero drum.settings x b holds.book_is (list_within images drum x b holds within)

-- how many offers it has
pub durable_held : (images : Files → Type 0) (drum : Drum) (x : Book) (b : ℕ) → Holds images drum x → b < drum.settings.buckets → durable_at drum b ≡ length (list_at x b)
durable_held images drum x b holds within =
    sym (durable_index drum b) ∙ ap (λ (l : List ℕ). slice_index l b) holds.numbers.offers ∙ length_is drum.settings x b holds.book_is (list_within images drum x b holds within)

list_here : (images : Files → Type 0) (urls : Drum) (x : Book) (b : ℕ) (items : List Tuple) → Holds images urls x → b < urls.settings.buckets
    → list_at (flushed b items x) b ≡ list_at x b ++ items
list_here images urls x b items holds within = flushed_here b items x (omega (arith, list_within images urls x b holds within, holds.book_is.is_book.lists))

-- how many offers of a book are unjudged
pub unjudged_pending : (images : Files → Type 0) (urls : Drum) (x : Book) (b : ℕ) → Holds images urls x → b < urls.settings.buckets → unjudged_at x b ≡ pending_at urls b
unjudged_pending images urls x b holds within =
    let durable = durable_held images urls x b holds within in
    let cut = ap (λ (l : List ℕ). slice_index l b) holds.numbers.commit.cut in
    omega (arith, no_first images urls x b holds within, durable, cut)

flush_front : (b : ℕ) (items : List Tuple) (x : Book) → IsFront x (flushed b items x)
flush_front b items x = flushed_front b items x

flush_waits : (b : ℕ) (items : List Tuple) (old new : Moment) (x : Book) → Flushing b items old new → Holds old.store.images old.drum x
    → FewUnjudged old.drum.settings x (flushed b items x)
flush_waits b items old new x flush holds = λ c within. ⊎_elim (λ same. here c same.1) (λ other. elsewhere c other.1) (eqb_tells c b)
  where
    here : (c : ℕ) → c ≡ b → unjudged_at (flushed b items x) c ≤ max (old.drum.settings.trigger + old.drum.settings.array - 1) (unjudged_at x c)
    here c same =
        let list = ap (λ (l : List Tuple). length l) (list_here old.store.images old.drum x b items holds flush.within) in
        let was = unjudged_pending old.store.images old.drum x b holds flush.within in
        subst (λ (n : ℕ). unjudged_at (flushed b items x) n ≤ max (old.drum.settings.trigger + old.drum.settings.array - 1) (unjudged_at x n)) (sym same)
        (omega (arith, list, length-append (list_at x b) items, was, flush.pending, flush.few))

    elsewhere : (c : ℕ) → c ≢ b → unjudged_at (flushed b items x) c ≤ max (old.drum.settings.trigger + old.drum.settings.array - 1) (unjudged_at x c)
    elsewhere c other = let list = ap (λ (l : List Tuple). length l) (flushed_elsewhere b items x c other) in omega (arith, list)

-- the book with them is one that files may stand for
flush_legal : (b : ℕ) (items : List Tuple) (old new : Moment) (x : Book) → Flushing b items old new → Holds old.store.images old.drum x
    → IsBookOf old.drum.settings (flushed b items x)
flush_legal b items old new x flush holds =
    let is = holds.book_is in
    record {
      is_book = flushed_book b items x is.is_book (subst (λ (n : ℕ). AllByRecursion (λ (offer : Tuple). bucket_of n offer.key ≡ b) items) (sym is.buckets) flush.offers);
      buckets = is.buckets;
      rule = is.rule;
      dropped = is.dropped;
    }

flush_grows : (b : ℕ) (items : List Tuple) (old new : Moment) (x : Book) → Flushing b items old new → Holds old.store.images old.drum x
    → Grows old.drum.settings 0 x (flushed b items x)
flush_grows b items old new x flush holds =
    let urls = old.drum in
    let images = old.store.images in
    let y = flushed b items x in
    record {
      front = flush_front b items x;
      fits = λ c within. ⊎_elim
          (λ same. inr (subst (λ (n : ℕ). length_at y n ≤ urls.settings.cap) (sym same.1) (
          let durable = durable_held images urls x b holds flush.within in
          omega (
            arith,
            no_first images urls x b holds flush.within,
            ap (λ (l : List Tuple). length l) (list_here images urls x b items holds flush.within),
            length-append (list_at x b) items,
            durable,
            flush.fits,
          )
          )))
          (λ other. inl (flushed_elsewhere b items x c other.1))
          (eqb_tells c b);
      cuts = [];
      cuts_are = sym (append-nil x.cuts);
      early_are = omega arith;
      waits = flush_waits b items old new x flush holds;
    }

flush_between : (b : ℕ) (items : List Tuple) (old new : Moment) (x : Book) → Flushing b items old new → Holds old.store.images old.drum x
    → Leaves old.store new.store (HasBetween old.drum.base old.drum.settings x (flushed b items x))
flush_between b items old new x flush holds =
    let settings = old.drum.settings in
    let y = flushed b items x in
    widens old.store new.store (HasOneOf old.drum.base settings x y) (HasBetween old.drum.base settings x y) (flush.stops x holds)
    (λ image has. ⊎_elim (λ was. (x, was, front_same x, flush_front b items x, few_same settings x)) (λ now. (y, now, flush_front b items x, front_same y, flush_waits b items old new x flush holds))
    has)

flush_takes : (b : ℕ) (items : List Tuple) (old new : Moment) (x : Book) → Flushing b items old new → Holds old.store.images old.drum x
    → TakesWaiting old.drum.settings x old.waits (flushed b items x) []
flush_takes b items old new x flush holds = λ c within. ⊎_elim
    (λ same. (
      [],
      append-nil (handed_in x old.waits c) ∙ ap (λ (n : ℕ). list_at x n ++ old.waits n) same.1 ∙ ap (λ (l : List Tuple). list_at x b ++ l) (sym flush.waits)
          ∙ sym (list_here old.store.images old.drum x b items holds flush.within) ∙ ap (λ (n : ℕ). list_at (flushed b items x) n) (sym same.1)
          ∙ sym (append-nil (list_at (flushed b items x) c)),
    ))
    (λ other. (
      old.waits c,
      append-nil (handed_in x old.waits c) ∙ ap (λ (l : List Tuple). l ++ old.waits c) (sym (flushed_elsewhere b items x c other.1)),
    ))
    (eqb_tells c b)

-- what one that answers Ok says besides
pub record Flushed (b : ℕ) (items : List Tuple) (old new : Moment) : Type 0 where
  pub emptied : new.waits b ≡ []
  pub others : (c : ℕ) → c ≢ b → new.waits c ≡ old.waits c
  pub settings : new.drum.settings ≡ old.drum.settings
  pub holds : (book : Book) → Holds old.store.images old.drum book → Holds new.store.images new.drum (flushed b items book)
  pub gains : (payloads : List (List ℕ)) → HasJournal old.store.images old.drum b payloads → HasJournal new.store.images new.drum b (payloads ++ run_bytes items ∷ [])
  pub records_kept : (book : Book) (c : ℕ) (payloads : List (List ℕ)) → c ≢ b → c < old.drum.settings.buckets → Holds old.store.images old.drum book
      → HasJournal old.store.images old.drum c payloads → HasJournal new.store.images new.drum c payloads

flush_keeps : (b : ℕ) (items : List Tuple) (old new : Moment) (x : Book) → Flushing b items old new → Flushed b items old new → Holds old.store.images old.drum x
    → Keeps old.drum.settings x old.waits (flushed b items x) new.waits []
flush_keeps b items old new x flush done holds = λ c within. ⊎_elim
    (λ same. subst (λ (n : ℕ). handed_in (flushed b items x) new.waits n ≡ handed_in x old.waits n ++ []) (sym same.1)
    (ap (λ (l : List Tuple). list_at (flushed b items x) b ++ l) done.emptied ∙ append-nil (list_at (flushed b items x) b)
    ∙ list_here old.store.images old.drum x b items holds flush.within
    ∙ ap (λ (l : List Tuple). list_at x b ++ l) flush.waits ∙ sym (append-nil (handed_in x old.waits b))))
    (λ other. ap (λ (l : List Tuple). l ++ new.waits c) (flushed_elsewhere b items x c other.1) ∙ ap (λ (l : List Tuple). list_at x c ++ l) (done.others c other.1)
    ∙ sym (append-nil (handed_in x old.waits c)))
    (eqb_tells c b)

pub flush_fed : (b : ℕ) (items : List Tuple) (old new : Moment) (x : Book) → Flushing b items old new → Flushed b items old new → Holds old.store.images old.drum x
    → Fed 0 (uneven_flush old.drum.settings.array b items) [] old new x
flush_fed b items old new x flush done holds =
    let run = run_bytes items in
    record {
      book = flushed b items x;
      holds = done.holds x holds;
      grows = flush_grows b items old new x flush holds;
      keeps = flush_keeps b items old new x flush done holds;
      stops = flush_between b items old new x flush holds;
      records = λ was have. (
        gained b run was,
        λ c within.
            let inside : c < old.drum.settings.buckets = subst (λ (s : Settings). c < s.buckets) done.settings within in
            ⊎_elim
            (λ same. subst (λ (l : List (List ℕ)). HasJournal new.store.images new.drum c l) (sym (gained_here b run was c same.0))
            (subst (λ (n : ℕ). HasJournal new.store.images new.drum n (was n ++ run ∷ [])) (sym same.1) (done.gains (was b) (have b flush.within))))
            (λ other. subst (λ (l : List (List ℕ)). HasJournal new.store.images new.drum c l) (sym (gained_elsewhere b run was c other.0))
            (done.records_kept x c (was c) other.1 inside holds (have c inside)))
            (eqb_tells c b),
        gains_uneven old.drum.settings.array old.drum.settings.buckets b items was,
      );
      records_stop = λ was have. flush_records_stop b items old new x was flush holds have;
    }

-- what the store tells has one of two books
pub told_one : (base : ℕ) (settings : Settings) (x y : Book) (old new : Told) (files : Files) → IsConsistent new → Leaves old new (HasOneOf base settings x y) → new.files ≡ Some files
    → HasOneOf base settings x y files
told_one base settings x y old new files law stops told = left_now old new (HasOneOf base settings x y) law stops files (law.told files told)

-- what is kept has no cut more, and the others one at most, by which all is judged
abbrev pub Uncut : ℕ → (ℕ → ℕ) → List Tuple → Moment → Moment → Book → Type 0
Uncut early uneven news old new x = (stranded : Stranded early uneven news old new x) × (stranded.kept.cuts ≡ x.cuts) × CutsOnce x stranded.book × CutsOnce x stranded.most

flush_strand : (b : ℕ) (items : List Tuple) (old new : Moment) (x s : Book) → IsConsistent new.store → Keeps old.drum.settings x old.waits x new.waits [] → Flushing b items old new
    → Holds old.store.images old.drum x → ForSome new.store.files (Stands old.drum.base old.drum.settings s) → Grows old.drum.settings 0 x s → IsFront s (flushed b items x) → s.cuts ≡ x.cuts
    → Uncut 0 (uneven_flush old.drum.settings.array b items) [] old new x
flush_strand b items old new x s consistent keeps flush holds told grows front cuts =
    let stranded : Stranded 0 (uneven_flush old.drum.settings.array b items) [] old new x = record {
      book = s;
      most = flushed b items x;
      told = told;
      grows = grows;
      may_grow = flush_grows b items old new x flush holds;
      front = front;
      legal = flush_legal b items old new x flush holds;
      kept = x;
      kept_grows = grows_same old.drum.settings x;
      kept_front = grows.front;
      kept_legal = holds.book_is;
      keeps = keeps;
      now = λ image left. left_now old.store new.store (HasBetween old.drum.base old.drum.settings x (flushed b items x)) consistent (flush_between b items old new x flush holds) image left;
      takes = flush_takes b items old new x flush holds;
      stops = flush_between b items old new x flush holds;
      records_stop = λ was have. flush_records_stop b items old new x was flush holds have;
    } in
    (stranded, refl, inl cuts, inl refl)

-- what is told of one set of files
pub told_these : (told : Option Files) (files : Files) (P : Files → Type 0) → told ≡ Some files → P files → ForSome told P
told_these told files P is has = λ other also. let same : files ≡ other = cc in subst P same has

pub told_none : (told : Option Files) (P : Files → Type 0) → told ≡ None → ForSome told P
told_none told P is = λ other also. let no : ⊥ = cc in absurd no

pub flush_stranded : (b : ℕ) (items : List Tuple) (old new : Moment) (x : Book) → IsConsistent new.store → Keeps old.drum.settings x old.waits x new.waits [] → Flushing b items old new
    → Holds old.store.images old.drum x
    → Uncut 0 (uneven_flush old.drum.settings.array b items) [] old new x
flush_stranded b items old new x consistent keeps flush holds = by_told new.store.files refl
  where
    before : ForSome new.store.files (Stands old.drum.base old.drum.settings x) → Uncut 0 (uneven_flush old.drum.settings.array b items) [] old new x
    before told = flush_strand b items old new x x consistent keeps flush holds told (grows_same old.drum.settings x) (flush_front b items x) refl

    after : ForSome new.store.files (Stands old.drum.base old.drum.settings (flushed b items x)) → Uncut 0 (uneven_flush old.drum.settings.array b items) [] old new x
    after told = flush_strand b items old new x (flushed b items x) consistent keeps flush holds told (flush_grows b items old new x flush holds) (front_same (flushed b items x)) refl

    by_told : (told : Option Files) → new.store.files ≡ told → Uncut 0 (uneven_flush old.drum.settings.array b items) [] old new x
    by_told None is = before (told_none new.store.files _ is)
    by_told (Some files) is = ⊎_elim (λ was. before (told_these new.store.files files _ is was)) (λ now. after (told_these new.store.files files _ is now))
        (told_one old.drum.base old.drum.settings x (flushed b items x) old.store new.store files consistent (flush.stops x holds) is)
