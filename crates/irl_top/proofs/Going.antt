-- A part of a run after another.
use Rattle.std.proofs.Common.{◌≡◌, ◌∙◌, ◌⊎◌, inl, inr, ⊎_elim, ℕ, zero, suc, ◌+◌, ◌<◌, ◌≤◌, List, [], ◌++◌, length, sum, replicate, Option, refl, sym, ap, subst, arith}
use Rattle.std.proofs.KnownBytes.{Appends-nil}
use Rattle.std.specs.Io.KnownBytes.{Appends}
use Rattle.irl_offer.specs.declared.settings.Settings.{Settings}
use Rattle.irl_offer.specs.Tuple.{Tuple}
use Rattle.irl_model.specs.Book.{Book, IsFront, gone, judged_cut, lengths_of, IsPrefixOf}
use Rattle.irl_model.proofs.FrontLaws.{front_same}
use Rattle.irl_disk.specs.Disk.{Files}
use Rattle.irl_disk.specs.Images.{IsConsistent}
use Rattle.irl_bay.specs.Drum.{IsDrum}
use Rattle.irl_bay.specs.Holding.{Holds}
use Rattle.irl_bay.specs.Standing.{Stands, IsBookOf}
use Rattle.irl_bay.proofs.Standing.{holds_stands}
use Rattle.irl_schedule.specs.Feeding.{Moment, Stays, Fed, Stranded, Grows, Keeps, HasBetween, length_at}
use Rattle.irl_schedule.proofs.Chains.{few_same, grows_both, keeps_both, fed_both, stranded_after, tells_on, stays_both}
use Rattle.irl_top.specs.Message.{IsAllPrinted, IsEndOfInput}
use Rattle.irl_top.specs.Printed.{before_last, judged_count}
use Rattle.irl_top.specs.Session.{Place, HoldsAt, IsPrinted, ArePrinted, unprinted, FewWait, Goes, Ends, GoesOn, EndsWith, HoldsNone, HasReason}
use Rattle.irl_top.specs.declared.line.LineKind.{LineKind}
use Rattle.irl_top.specs.declared.ending.Ending.{Ending}
use Rattle.irl_top.specs.declared.ending.Ending.TheVariants.{Done, DiskFault, Full}
use Rattle.irl_top.proofs.Sinks.{appends_both}
use Rattle.irl_top.proofs.Unprinted.{judged_later, printed_then, printed_later, prefix_then, before_one, before_same, none_unprinted, text_before_both}

-- ---- numbers
sum-zeros : (n : ℕ) → sum (replicate n 0) ≡ 0
sum-zeros zero = refl
sum-zeros (suc n) = sum-zeros n

-- no judged offer is dropped
pub gone_none : (settings : Settings) (book : Book) → IsBookOf settings book → gone book ≡ 0
gone_none settings book is = ap sum (is.is_book.none is.dropped).1 ∙ sum-zeros book.buckets

-- how many are judged
pub judged_number : (place : Place) (book : Book) → HoldsAt place book → place.moment.drum.last.judged ≡ judged_count book
judged_number place book holds = omega (arith, holds.numbers.commit.judged, gone_none place.moment.drum.settings book holds.book_is)

-- ---- one part after another
pub goes_both : (kind : LineKind) (e d : ℕ) (u v : ℕ → ℕ) (xs ys : List Tuple) (old mid new : Place) (x : Book) → Stays old.moment mid.moment → (first : Goes kind e u xs old mid x)
    → Goes kind d v ys mid new first.fed.book → Goes kind (e + d) (λ b. u b + v b) (xs ++ ys) old new x
unfolding fed_both
goes_both kind e d u v xs ys old mid new x still first second =
    let book = first.fed.holds.book_is.is_book in
    let y = first.fed.book in
    let z = second.fed.book in
    record {
      fed = fed_both e d u v xs ys old.moment mid.moment new.moment x still first.fed second.fed;
      later = omega (arith, first.later, second.later);
      are = second.are;
      text = first.text ++ second.text;
      written = appends_both _ _ _ first.text second.text first.written second.written;
      prints = printed_then first.text second.text (unprinted kind old.printed z) (unprinted kind mid.printed z) (unprinted kind new.printed z)
          (printed_later kind y z old.printed mid.printed first.text book second.fed.grows.front first.later first.are.1 first.prints) second.prints;
    }

pub goes_then_ends : (kind : LineKind) (e d : ℕ) (u v : ℕ → ℕ) (xs ys : List Tuple) (old mid new : Place) (ending : Ending) (x : Book) → Stays old.moment mid.moment
    → (first : Goes kind e u xs old mid x) → Ends kind d v ys mid new ending first.fed.book → Ends kind (e + d) (λ b. u b + v b) (xs ++ ys) old new ending x
unfolding stranded_after
goes_then_ends kind e d u v xs ys old mid new ending x still first second =
    let settings = old.moment.drum.settings in
    let book = first.fed.holds.book_is.is_book in
    let y = first.fed.book in
    let z = second.kept in
    let strands = stranded_after e d u v xs ys old.moment mid.moment new.moment x still first.fed second.strands in
    let grows : Grows settings d y z = subst (λ (s : Settings). Grows s d y z) still.settings second.grows in
    let seen : first.text ++ unprinted kind mid.printed z ≡ unprinted kind old.printed z =
    printed_later kind y z old.printed mid.printed first.text book grows.front first.later first.are.1 first.prints in
    let most = second.strands.most in
    let seen_most : first.text ++ unprinted kind mid.printed most ≡ unprinted kind old.printed most =
    printed_later kind y most old.printed mid.printed first.text book second.strands.may_grow.front first.later first.are.1 first.prints in
    record {
      strands = strands;
      kept = z;
      grows = grows_both settings e d x y z first.fed.grows grows;
      front = second.front;
      settled = second.settled;
      now = λ image left. subst (λ (n : ℕ). HasBetween n settings z second.strands.most image) still.base
          (subst (λ (s : Settings). HasBetween mid.moment.drum.base s z second.strands.most image) still.settings (second.now image left));
      legal = subst (λ (s : Settings). IsBookOf s z) still.settings second.legal;
      waits = second.waits;
      few = subst (λ (s : Settings). FewWait s second.waits) still.settings second.few;
      keeps = keeps_both settings x y z old.moment.waits mid.moment.waits second.waits xs ys first.fed.keeps
          (subst (λ (s : Settings). Keeps s y mid.moment.waits z second.waits ys) still.settings second.keeps);
      text = first.text ++ second.text;
      written = appends_both _ _ _ first.text second.text first.written second.written;
      prints = prefix_then first.text second.text (unprinted kind old.printed z) (unprinted kind mid.printed z) seen second.prints;
      printed_before = text_before_both kind most old.printed mid.printed first.text second.text second.strands.legal.is_book first.later seen_most second.printed_before;
      prints_all = λ all. ap (λ (l : List ℕ). first.text ++ l) (second.prints_all all) ∙ seen;
      full = λ b is. subst (λ (s : Settings). (b < s.buckets) × (1 ≤ length (second.waits b))
          × (s.cap < length_at z b + length (second.waits b))) still.settings (second.full b is);
      done = second.done;
    }

-- ---- from what an intake's call says
-- It makes no cut, or where all was printed one at most: so all that was judged before the last one is printed still.
abbrev pub AddsFewCuts : Place → Place → Type 0
AddsFewCuts old new = (new.moment.drum.cuts ≡ old.moment.drum.cuts) ⊎ (IsPrinted old × (new.moment.drum.cuts ≤ old.moment.drum.cuts + 1))

still_printed : (old new : Place) (x y : Book) → HoldsAt old x → HoldsAt new y → IsFront x y → AddsFewCuts old new → ArePrinted old.printed x → ArePrinted old.printed y
still_printed old new x y holds after front few are = (
  ⊎_elim
      (λ same.
      let cuts : length y.cuts ≡ length x.cuts = omega (arith, same, holds.numbers.cuts, after.numbers.cuts, holds.book_is.dropped, after.book_is.dropped) in
      omega (arith, are.0, before_same x y holds.book_is.is_book after.book_is.is_book front cuts))
      (λ one.
      let cuts : length y.cuts ≤ length x.cuts + 1 = omega (arith, one.1, holds.numbers.cuts, after.numbers.cuts, holds.book_is.dropped, after.book_is.dropped) in
      omega (arith, before_one x y holds.book_is.is_book after.book_is.is_book front cuts, one.0, judged_number old x holds)) few,
  omega (arith, are.1, judged_later x y holds.book_is.is_book front),
)

-- nothing was printed
pub goes_fed : (kind : LineKind) (e : ℕ) (u : ℕ → ℕ) (xs : List Tuple) (old new : Place) (x : Book) → HoldsAt old x → ArePrinted old.printed x → AddsFewCuts old new
    → new.output.bytes ≡ old.output.bytes → new.printed ≡ old.printed → Fed e u xs old.moment new.moment x → Goes kind e u xs old new x
goes_fed kind e u xs old new x holds are few output printed fed = record {
  fed = fed;
  later = omega (arith, printed);
  are = subst (λ (p : ℕ). ArePrinted p fed.book) (sym printed) (still_printed old new x fed.book holds fed.holds fed.grows.front few are);
  text = [];
  written = subst (λ (o : Option (List ℕ)). Appends old.output.bytes o []) (sym output) (Appends-nil old.output.bytes);
  prints = ap (λ (p : ℕ). unprinted kind p fed.book) printed;
}

-- a book that is held is one of the bay, with the settings of before
book_held : (old new : Moment) (x : Book) → Stays old new → Holds new.store.images new.drum x → IsBookOf old.drum.settings x
book_held old new x still holds = subst (λ (s : Settings). IsBookOf s x) still.settings holds.book_is

-- and each joint image stands for it
stands_held : (old new : Moment) (x : Book) → Stays old new → IsDrum new.drum → Holds new.store.images new.drum x → (image : Files) → new.store.images image
    → Stands old.drum.base old.drum.settings x image
stands_held old new x still law holds image left = subst (λ (n : ℕ). Stands n old.drum.settings x image) still.base
    (subst (λ (s : Settings). Stands new.drum.base s x image) still.settings (holds_stands new.store.images new.drum x image law holds left))

between_held : (old new : Moment) (x : Book) → Stays old new → IsDrum new.drum → Holds new.store.images new.drum x → (image : Files) → new.store.images image
    → HasBetween old.drum.base old.drum.settings x x image
between_held old new x still law holds image left = (x, stands_held old new x still law holds image left, front_same x, front_same x, few_same old.drum.settings x)

-- the book that is held is the one that is told, and that every stop leaves
abbrev strands_fed : (e : ℕ) (u : ℕ → ℕ) (xs : List Tuple) (old new : Moment) (x : Book) → IsConsistent new.store → IsDrum new.drum → Stays old new → Fed e u xs old new x
    → Stranded e u xs old new x
strands_fed e u xs old new x law drum still fed = record {
  book = fed.book;
  most = fed.book;
  told = λ files tells. stands_held old new fed.book still drum fed.holds files (law.told files tells);
  grows = fed.grows;
  may_grow = fed.grows;
  front = front_same fed.book;
  legal = book_held old new fed.book still fed.holds;
  kept = fed.book;
  kept_grows = fed.grows;
  kept_front = front_same fed.book;
  kept_legal = book_held old new fed.book still fed.holds;
  keeps = fed.keeps;
  now = between_held old new fed.book still drum fed.holds;
  takes = λ b within. (new.waits b, sym (fed.keeps b within));
  stops = fed.stops;
  records_stop = fed.records_stop;
}

-- what an ending adds where the bay holds a book
pub record Closes (kind : LineKind) (old new : Place) (ending : Ending) (book : Book) : Type 0 where
  pub text : List ℕ
  pub written : Appends old.output.bytes new.output.bytes text
  pub prints : IsPrefixOf text (unprinted kind old.printed book)
  pub printed_before : IsPrefixOf (unprinted kind old.printed (before_last book)) text
  pub prints_all : IsAllPrinted ending → text ≡ unprinted kind old.printed book
  pub full : (b : ℕ) → ending ≡ Full b → (b < old.moment.drum.settings.buckets) × (1 ≤ length (new.moment.waits b))
      × (old.moment.drum.settings.cap < length_at book b + length (new.moment.waits b))
  pub done : ending ≡ Done → ((b : ℕ) → new.moment.waits b ≡ []) × (judged_cut book ≡ lengths_of book)

pub ends_fed : (kind : LineKind) (e : ℕ) (u : ℕ → ℕ) (xs : List Tuple) (old new : Place) (ending : Ending) (x : Book) → IsConsistent new.moment.store → IsDrum new.moment.drum
    → Stays old.moment new.moment → FewWait old.moment.drum.settings new.moment.waits
    → (fed : Fed e u xs old.moment new.moment x) → Closes kind old new ending fed.book → Ends kind e u xs old new ending x
ends_fed kind e u xs old new ending x law drum still few fed closes = record {
  strands = strands_fed e u xs old.moment new.moment x law drum still fed;
  kept = fed.book;
  grows = fed.grows;
  front = front_same fed.book;
  legal = book_held old.moment new.moment fed.book still fed.holds;
  waits = new.moment.waits;
  few = few;
  keeps = fed.keeps;
  settled = λ not. (refl, refl);
  now = between_held old.moment new.moment fed.book still drum fed.holds;
  text = closes.text;
  written = closes.written;
  prints = closes.prints;
  printed_before = closes.printed_before;
  prints_all = closes.prints_all;
  full = closes.full;
  done = closes.done;
}

-- an ending that is none of those for which there is more to say
pub record IsPlain (ending : Ending) : Type 0 where
  pub printed : IsAllPrinted ending → ⊥
  pub full : (b : ℕ) → ending ≡ Full b → ⊥
  pub done : ending ≡ Done → ⊥

disk_no_input : IsEndOfInput DiskFault → ⊥
disk_no_input is = elim is [ inl done ↦ let no : ⊥ = cc in absurd no | inr rest ↦ elim rest [ inl line ↦ let e = line.1 in let no : ⊥ = cc in absurd no | inr input ↦ let no : ⊥ = cc in absurd no ] ]

disk_plain : IsPlain DiskFault
disk_plain = record {
  printed = λ is. elim is [ inl of_input ↦ disk_no_input of_input | inr over ↦ let e = over.1 in let no : ⊥ = cc in absurd no ];
  full = λ b is. cc;
  done = λ is. cc;
}

-- the store failed in a call that may have added one cut, before which all was printed
pub ends_stranded : (kind : LineKind) (e : ℕ) (u : ℕ → ℕ) (xs : List Tuple) (old new : Place) (x : Book) → HoldsAt old x → IsPrinted old → FewWait old.moment.drum.settings new.moment.waits
    → new.output.bytes ≡ old.output.bytes → (strands : Stranded e u xs old.moment new.moment x) → length strands.most.cuts ≤ length x.cuts + 1 → Ends kind e u xs old new DiskFault x
ends_stranded kind e u xs old new x holds whole few output strands cuts =
    let before : judged_count (before_last strands.most) ≤ old.printed =
    omega (arith, whole, judged_number old x holds, before_one x strands.most holds.book_is.is_book strands.legal.is_book strands.may_grow.front cuts) in
    record {
      strands = strands;
      kept = strands.kept;
      grows = strands.kept_grows;
      front = strands.kept_front;
      legal = strands.kept_legal;
      waits = new.moment.waits;
      few = few;
      keeps = strands.keeps;
      settled = λ not. absurd (not refl);
      now = strands.now;
      text = [];
      written = subst (λ (o : Option (List ℕ)). Appends old.output.bytes o []) (sym output) (Appends-nil old.output.bytes);
      prints = (unprinted kind old.printed strands.kept, refl);
      printed_before = none_unprinted kind (before_last strands.most) old.printed [] before;
      prints_all = λ is. absurd (disk_plain.printed is);
      full = λ b is. absurd (disk_plain.full b is);
      done = λ is. absurd (disk_plain.done is);
    }

-- ---- the same of each book that was held
pub goes_on_both : (kind : LineKind) (e d : ℕ) (u v : ℕ → ℕ) (xs ys : List Tuple) (old mid new : Place) → Stays old.moment mid.moment → GoesOn kind e u xs old mid → GoesOn kind d v ys mid new
    → GoesOn kind (e + d) (λ b. u b + v b) (xs ++ ys) old new
goes_on_both kind e d u v xs ys old mid new still first second = λ files told x holds are.
    let one = first files told x holds are in
    let after = tells_on _ old.moment.store.files mid.moment.store.files files still.others told in
    goes_both kind e d u v xs ys old mid new x still one (second after.0 after.1 one.fed.book one.fed.holds one.are)

pub goes_on_ends : (kind : LineKind) (e d : ℕ) (u v : ℕ → ℕ) (xs ys : List Tuple) (old mid new : Place) (ending : Ending) → Stays old.moment mid.moment → GoesOn kind e u xs old mid
    → EndsWith kind d v ys mid new ending → EndsWith kind (e + d) (λ b. u b + v b) (xs ++ ys) old new ending
goes_on_ends kind e d u v xs ys old mid new ending still first second = λ files told x holds are.
    let one = first files told x holds are in
    let after = tells_on _ old.moment.store.files mid.moment.store.files files still.others told in
    goes_then_ends kind e d u v xs ys old mid new ending x still one (second after.0 after.1 one.fed.book one.fed.holds one.are)

-- a store that holds none later held none
pub none_before : (kind : LineKind) (e : ℕ) (u : ℕ → ℕ) (xs : List Tuple) (old mid : Place) → Stays old.moment mid.moment → GoesOn kind e u xs old mid → HoldsNone mid → HoldsNone old
none_before kind e u xs old mid still first none = λ files told x holds are.
    let one = first files told x holds are in
    let after = tells_on _ old.moment.store.files mid.moment.store.files files still.others told in
    none after.0 after.1 one.fed.book one.fed.holds one.are

pub reason_then : (kind : LineKind) (e : ℕ) (u : ℕ → ℕ) (xs : List Tuple) (old mid new : Place) (before ending : Ending) → IsConsistent mid.moment.store → GoesOn kind e u xs old mid
    → HasReason old mid before → HasReason mid new ending → HasReason old new ending
reason_then kind e u xs old mid new before ending law first one two = record {
  stays = stays_both old.moment mid.moment new.moment law one.stays two.stays;
  disk = record { later = omega (arith, one.disk.later, two.disk.later); rose = λ is. omega (arith, one.disk.later, two.disk.rose is) };
  output = record { later = omega (arith, one.output.later, two.output.later); rose = λ is. omega (arith, one.output.later, two.output.rose is) };
  opened = two.opened;
  damaged = two.damaged;
  long = two.long;
  whole = λ f at is. none_before kind e u xs old mid one.stays first (two.whole f at is);
}
