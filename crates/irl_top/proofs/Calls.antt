-- What a call on an open store, and a piece that is printed, do to a run.
use Rattle.std.proofs.Common.{◌≡◌, ◌≢◌, ◌∙◌, ◌⊎◌, inl, inr, ⊎_elim, ℕ, zero, suc, ◌+◌, ◌-◌, ◌<◌, ◌≤◌, List, [], ◌∷◌, ◌++◌, length, take, drop, get_or, refl, sym, ap, subst, append_assoc, append-nil, length-take, length-drop, arith}
use Rattle.std.proofs.lemmas.List.{take-append-drop, drop-drop, drop_all, length-map}
use Rattle.std.specs.Prelude.{Result, Ok, Err, IfErr, IsErrOf}
use Rattle.std.specs.Result.{IsErrAnd}
use Rattle.std.proofs.lemmas.Result.{err_from_is_err_and}
use Rattle.std.proofs.Math.Seq.{drop-append_seam}
use Rattle.std.specs.Option.{ForSome}
use Rattle.std.specs.Io.KnownBytes.{Appends}
use Rattle.irl_array.specs.Waiting.{Waiting}
use Rattle.irl_base.specs.Faults.{HasCause}
use Rattle.irl_offer.specs.Tuple.{Tuple}
use Rattle.irl_offer.specs.declared.settings.Settings.{Settings}
use Rattle.irl_offer.specs.declared.receipt.Judged.{Judged}
use Rattle.irl_base.specs.declared.fault.Fault.{Fault}
use Rattle.irl_base.specs.declared.fault.Fault.TheVariants.{Failed as StoreFailed, Memory as StoreMemory, Full as StoreFull, Damaged as StoreDamaged}
use Rattle.irl_model.specs.Book.{Book, gone, judged, judged_cut, lengths_of}
use Rattle.irl_disk.specs.Images.{IsConsistent}
use Rattle.irl_bay.specs.Standing.{IsBookOf}
use Rattle.irl_bay.specs.declared.bucket.Bucket.{Bucket}
use Rattle.irl_layout.specs.Commits.{Commit}
use Rattle.irl_bay.specs.Drum.{Drum, IsDrum, durable_at, durables, pending_at, SomePending}
use Rattle.irl_bay.specs.Holding.{IsLong}
use Rattle.irl_bay.specs.Spoilt.{IsSpoiltAt}
use Rattle.irl_bay.specs.JudgedSpoilt.{IsJudgedSpoiltAt}
use Rattle.irl_bay.proofs.Merged.{durable_is}
use Rattle.irl_schedule.specs.Schedule.{none_more, one_more}
use Rattle.irl_schedule.specs.Feeding.{Stays, Fed, Feeds, HeldNone, length_at}
use Rattle.irl_schedule.specs.Scheduling.{Schedules}
use Rattle.irl_schedule.proofs.Chains.{stays_same, feeds_more, feeds_none}
use Rattle.irl_schedule.proofs.Schedules.{cut_few, cuts_few}
use Rattle.irl_schedule.proofs.Steps.{durable_held}
use Rattle.irl_schedule.specs.Arrays.{AreArrays, waiting_at}
use Rattle.irl_io.specs.Written.{AppendsPrefix}
use Rattle.irl_top.specs.Message.{ending_of, ending_of_store, IsAllPrinted, IsEndOfInput, IsUnopened}
use Rattle.irl_top.specs.Printed.{before_last, judged_lines, judged_count}
use Rattle.irl_top.specs.Session.{Place, HoldsAt, IsPrinted, ArePrinted, unprinted, FewWait, Goes, Ends, GoesOn, EndsWith, HasReason}
use Rattle.irl_top.specs.Stream.{Stream}
use Rattle.irl_top.specs.declared.line.LineKind.{LineKind}
use Rattle.irl_top.specs.declared.ending.Ending.{Ending}
use Rattle.irl_top.specs.declared.ending.Ending.TheVariants.{Done, LineRefused, Damaged, DiskFault, InputFault, OutputFault, NoMemory, Full}
use Rattle.irl_top.proofs.Unprinted.{lines-append, before_same, judged_later, printed_later, unprinted_more, none_unprinted, text_before}
use Rattle.irl_top.proofs.Going.{goes_on_ends, gone_none, judged_number, AddsFewCuts, IsPlain, ends_fed, ends_stranded, goes_fed}

-- ---- endings
-- what an intake's refusal ends a run with
store_unopened : (fault : Fault) → IsUnopened (ending_of_store fault) → ⊥
store_unopened StoreFailed is = elim is [
  | inl bad ↦ let e = bad.1 in let no : ⊥ = cc in
      absurd no
  | inr rest ↦ elim rest [ inl ours ↦ let e = ours.1 in let no : ⊥ = cc in absurd no | inr other ↦ let e = other.3 in let no : ⊥ = cc in absurd no ]
]
store_unopened StoreMemory is = elim is [
  | inl bad ↦ let e = bad.1 in let no : ⊥ = cc in
      absurd no
  | inr rest ↦ elim rest [ inl ours ↦ let e = ours.1 in let no : ⊥ = cc in absurd no | inr other ↦ let e = other.3 in let no : ⊥ = cc in absurd no ]
]
store_unopened (StoreFull b) is = elim is [
  | inl bad ↦ let e = bad.1 in let no : ⊥ = cc in
      absurd no
  | inr rest ↦ elim rest [ inl ours ↦ let e = ours.1 in let no : ⊥ = cc in absurd no | inr other ↦ let e = other.3 in let no : ⊥ = cc in absurd no ]
]
store_unopened (StoreDamaged f at) is = elim is [
  | inl bad ↦ let e = bad.1 in let no : ⊥ = cc in
      absurd no
  | inr rest ↦ elim rest [ inl ours ↦ let e = ours.1 in let no : ⊥ = cc in absurd no | inr other ↦ let e = other.3 in let no : ⊥ = cc in absurd no ]
]

store_disk : (fault : Fault) → ending_of_store fault ≡ DiskFault → fault ≡ StoreFailed
store_disk StoreFailed is = refl
store_disk StoreMemory is = let no : ⊥ = cc in absurd no
store_disk (StoreFull b) is = let no : ⊥ = cc in absurd no
store_disk (StoreDamaged f at) is = let no : ⊥ = cc in absurd no

store_output : (fault : Fault) → ending_of_store fault ≡ OutputFault → ⊥
store_output StoreFailed is = cc
store_output StoreMemory is = cc
store_output (StoreFull b) is = cc
store_output (StoreDamaged f at) is = cc

store_damaged : (fault : Fault) (f at : ℕ) → ending_of_store fault ≡ Damaged f at → fault ≡ StoreDamaged f at
store_damaged StoreFailed f at is = let no : ⊥ = cc in absurd no
store_damaged StoreMemory f at is = let no : ⊥ = cc in absurd no
store_damaged (StoreFull b) f at is = let no : ⊥ = cc in absurd no
store_damaged (StoreDamaged g place) f at is = let one : g ≡ f = cc in let two : place ≡ at = cc in cc

store_full : (fault : Fault) (b : ℕ) → ending_of_store fault ≡ Full b → fault ≡ StoreFull b
store_full StoreFailed b is = let no : ⊥ = cc in absurd no
store_full StoreMemory b is = let no : ⊥ = cc in absurd no
store_full (StoreFull c) b is = let one : c ≡ b = cc in cc
store_full (StoreDamaged g place) b is = let no : ⊥ = cc in absurd no

pub store_input : (fault : Fault) → IsEndOfInput (ending_of_store fault) → ⊥
store_input StoreFailed is = elim is [
  | inl done ↦ let no : ⊥ = cc in absurd no
  | inr rest ↦ elim rest [
    | inl line ↦ let e = line.1 in let no : ⊥ = cc in absurd no
    | inr input ↦ let no : ⊥ = cc in
        absurd no
  ]
]
store_input StoreMemory is = elim is [
  | inl done ↦ let no : ⊥ = cc in absurd no
  | inr rest ↦ elim rest [
    | inl line ↦ let e = line.1 in let no : ⊥ = cc in absurd no
    | inr input ↦ let no : ⊥ = cc in
        absurd no
  ]
]
store_input (StoreFull b) is = elim is [
  | inl done ↦ let no : ⊥ = cc in absurd no
  | inr rest ↦ elim rest [
    | inl line ↦ let e = line.1 in let no : ⊥ = cc in absurd no
    | inr input ↦ let no : ⊥ = cc in
        absurd no
  ]
]
store_input (StoreDamaged f at) is = elim is [
  | inl done ↦ let no : ⊥ = cc in absurd no
  | inr rest ↦ elim rest [
    | inl line ↦ let e = line.1 in let no : ⊥ = cc in
        absurd no
    | inr input ↦ let no : ⊥ = cc in absurd no
  ]
]

store_done : (fault : Fault) → ending_of_store fault ≡ Done → ⊥
store_done StoreFailed is = cc
store_done StoreMemory is = cc
store_done (StoreFull b) is = cc
store_done (StoreDamaged f at) is = cc

-- ---- ends
-- the offers that wait of a bucket don't fit
abbrev pub IsOver : Place → Place → ℕ → Type 0
IsOver old new b = (b < old.moment.drum.settings.buckets) × (1 ≤ length (new.moment.waits b))
    × (old.moment.drum.settings.cap < durable_at new.moment.drum b + length (new.moment.waits b))

-- so they don't fit behind its list
over_full : (old new : Place) (book : Book) (b : ℕ) → new.moment.drum.settings ≡ old.moment.drum.settings → HoldsAt new book → IsOver old new b
    → (b < old.moment.drum.settings.buckets) × (1 ≤ length (new.moment.waits b)) × (old.moment.drum.settings.cap < length_at book b + length (new.moment.waits b))
over_full old new book b same holds over =
    let within : b < new.moment.drum.settings.buckets = subst (λ (s : Settings). b < s.buckets) (sym same) over.0 in
    (over.0, over.1, omega (arith, over.2, durable_held new.moment.store.images new.moment.drum book b holds within))

-- no array has more than its room, by the settings of before
pub few_wait : (old new : Drum) (arrays : List Waiting) → new.settings ≡ old.settings → AreArrays new.settings arrays → FewWait old.settings (λ b. waiting_at arrays b)
few_wait old new arrays same are = subst (λ (s : Settings). FewWait s (λ b. waiting_at arrays b)) same (λ b within. (are.each b within).few)

-- nothing waits and nothing is unjudged
pub record IsFinished (new : Place) : Type 0 where
  pub empty : (b : ℕ) → new.moment.waits b ≡ []
  pub judged : SomePending new.moment.drum → ⊥

same_numbers : (xs ys : List ℕ) (n : ℕ) → length xs ≡ n → length ys ≡ n → ((b : ℕ) → b < n → get_or xs b 0 ≡ get_or ys b 0) → xs ≡ ys
same_numbers [] [] n one two each = refl
same_numbers [] (y ∷ ys) n one two each = absurd (omega (arith, one, two))
same_numbers (x ∷ xs) [] n one two each = absurd (omega (arith, one, two))
same_numbers (x ∷ xs) (y ∷ ys) zero one two each = absurd (omega (arith, one))
same_numbers (x ∷ xs) (y ∷ ys) (suc n) one two each =
    let first : x ≡ y = each 0 (omega arith) in
    let rest : xs ≡ ys = same_numbers xs ys n (omega (arith, one)) (omega (arith, two)) (λ b within. each (suc b) (omega (arith, within))) in
    cc

no_more : (n : ℕ) → (0 < n → ⊥) → n ≡ 0
no_more zero not = refl
no_more (suc n) not = absurd (not (omega arith))

-- so the last cut is at the lists' ends
all_judged : (place : Place) (book : Book) → IsDrum place.moment.drum → HoldsAt place book → (SomePending place.moment.drum → ⊥) → judged_cut book ≡ lengths_of book
all_judged place book law holds none =
    let drum = place.moment.drum in
    let numbers = holds.numbers in
    let same : drum.last.cut ≡ durables drum =
    same_numbers drum.last.cut (durables drum) drum.settings.buckets law.last.count (length-map drum.buckets (λ (bucket : Bucket). bucket.durable) ∙ law.count) (λ b within.
    let at = durable_is drum b in
    let judged = (law.buckets b within).judged in
    let waits : pending_at drum b ≡ 0 = no_more (pending_at drum b) (λ some. none (b, within, some)) in
    omega (arith, at, judged, waits)) in
    sym numbers.commit.cut ∙ same ∙ numbers.offers

-- all that was judged is printed
pub printed_all : (kind : LineKind) (place : Place) (book : Book) → HoldsAt place book → IsPrinted place → unprinted kind place.printed book ≡ []
printed_all kind place book holds whole =
    ap (judged_lines kind) (drop_all (place.printed - gone book) (judged book) (omega (arith, whole, judged_number place book holds)))

-- what a run adds to a part that goes on, when it ends
pub record Last (old new : Place) (ending : Ending) : Type 0 where
  pub printed : IsAllPrinted ending → IsPrinted new
  pub full : (b : ℕ) → ending ≡ Full b → IsOver old new b
  pub done : ending ≡ Done → IsFinished new

pub ends_goes : (kind : LineKind) (e : ℕ) (u : ℕ → ℕ) (xs : List Tuple) (old new : Place) (ending : Ending) (x : Book) → IsConsistent new.moment.store → IsDrum new.moment.drum
    → FewWait old.moment.drum.settings new.moment.waits → Stays old.moment new.moment
    → Last old new ending → Goes kind e u xs old new x → Ends kind e u xs old new ending x
ends_goes kind e u xs old new ending x law drum few still last goes =
    let y = goes.fed.book in
    ends_fed kind e u xs old new ending x law drum still few goes.fed (record {
      text = goes.text;
      written = goes.written;
      prints = (unprinted kind new.printed y, sym goes.prints);
      printed_before = text_before kind y old.printed new.printed goes.text goes.fed.holds.book_is.is_book goes.later goes.are.0 goes.prints;
      prints_all = λ all. sym (append-nil goes.text) ∙ ap (λ (l : List ℕ). goes.text ++ l) (sym (printed_all kind new y goes.fed.holds (last.printed all))) ∙ goes.prints;
      full = λ b is. over_full old new y b still.settings goes.fed.holds (last.full b is);
      done = λ is. let finished = last.done is in (finished.empty, all_judged new y drum goes.fed.holds finished.judged);
    })

pub ends_on : (kind : LineKind) (e : ℕ) (u : ℕ → ℕ) (xs : List Tuple) (old new : Place) (ending : Ending) → IsConsistent new.moment.store → IsDrum new.moment.drum
    → FewWait old.moment.drum.settings new.moment.waits → Stays old.moment new.moment
    → Last old new ending → GoesOn kind e u xs old new → EndsWith kind e u xs old new ending
ends_on kind e u xs old new ending law drum few still last goes = λ files told x holds are. ends_goes kind e u xs old new ending x law drum few still last (goes files told x holds are)

-- ---- an intake's call
pub goes_call : (kind : LineKind) (e : ℕ) (u : ℕ → ℕ) (xs : List Tuple) (old new : Place) → AddsFewCuts old new → new.output.bytes ≡ old.output.bytes → new.printed ≡ old.printed
    → Feeds e u xs old.moment new.moment → GoesOn kind e u xs old new
goes_call kind e u xs old new few output printed feeds = λ files told x holds are. goes_fed kind e u xs old new x holds are few output printed (feeds files told x holds)

pub last_of_store : (old new : Place) (fault : Fault) → ((n : ℕ) → fault ≡ StoreFull n → IsOver old new n) → ((n : ℕ) → fault ≡ StoreFull n → IsPrinted new)
    → Last old new (ending_of_store fault)
last_of_store old new fault full whole = record {
  printed = λ is. ⊎_elim (λ input. absurd (store_input fault input)) (λ over. whole over.0 (store_full fault over.0 over.1)) is;
  full = λ b is. full b (store_full fault b is);
  done = λ is. absurd (store_done fault is);
}

-- a call of the schedule that is refused
pub ends_call : {A : Type 0} (kind : LineKind) (e : ℕ) (u : ℕ → ℕ) (xs : List Tuple) (old new : Place) (fault : Fault) → IsConsistent new.moment.store → IsDrum new.moment.drum
    → FewWait old.moment.drum.settings new.moment.waits → IsPrinted old → new.output.bytes ≡ old.output.bytes → new.printed ≡ old.printed
    → Schedules {A = A} (Err fault) e u xs old.moment new.moment → EndsWith kind e u xs old new (ending_of_store fault)
ends_call {A} kind e u xs old new fault law drum few whole output printed does = by_fault fault does
  where
    judged_still : (f : Fault) → Schedules {A = A} (Err f) e u xs old.moment new.moment → IsPrinted new
    judged_still f still = omega (arith, whole, printed, ap (λ (l : Commit). l.judged) still.judged_kept.1)

    went : (f : Fault) → (f ≡ StoreFailed → ⊥) → Schedules {A = A} (Err f) e u xs old.moment new.moment → EndsWith kind e u xs old new (ending_of_store f)
    went f not still =
        ends_on kind e u xs old new (ending_of_store f) law drum few still.stays (last_of_store old new f (λ n is. still.full n (ap Err is)) (λ n is. judged_still f still))
        (goes_call kind e u xs old new (inr (whole, cut_few old.moment.drum new.moment.drum still.cut)) output printed (still.fed (λ is. not (cc))))

    by_fault : (f : Fault) → Schedules {A = A} (Err f) e u xs old.moment new.moment → EndsWith kind e u xs old new (ending_of_store f)
    by_fault StoreFailed still = λ files told x holds are.
        let strands = still.stranded refl files told x holds in
        ends_stranded kind e u xs old new x holds whole few output strands.0 (cuts_few x strands.0.most strands.3)
    by_fault StoreMemory still = went StoreMemory (λ is. cc) still
    by_fault (StoreFull b) still = went (StoreFull b) (λ is. cc) still
    by_fault (StoreDamaged f at) still = went (StoreDamaged f at) (λ is. cc) still

-- why it is
pub reason_call : (old new : Place) (fault : Fault) → Stays old.moment new.moment → HasCause (fault ≡ StoreFailed) old.moment.store.faults new.moment.store.faults → new.output ≡ old.output
    → ((f at : ℕ) → fault ≡ StoreDamaged f at → ForSome new.moment.store.files (λ files. IsSpoiltAt new.moment.drum files f at ⊎ IsJudgedSpoiltAt new.moment.drum files f at))
    → ((f at : ℕ) → fault ≡ StoreDamaged f at → ForSome new.moment.store.files (IsLong new.moment.drum)) → ((f at : ℕ) → fault ≡ StoreDamaged f at → HeldNone old.moment)
    → HasReason old new (ending_of_store fault)
reason_call old new fault still cause output damaged long whole = record {
  stays = still;
  disk = record { later = cause.later; rose = λ is. cause.rose (store_disk fault is) };
  output = record { later = omega (arith, ap (λ (s : Stream). s.faults) output); rose = λ is. absurd (store_output fault is) };
  opened = store_unopened fault;
  damaged = λ f at is. damaged f at (store_damaged fault f at is);
  long = λ f at is. long f at (store_damaged fault f at is);
  whole = λ f at is files told x holds are. whole f at (store_damaged fault f at is) files told x holds;
}

-- a call that isn't
pub reason_went : (old new : Place) → Stays old.moment new.moment → old.moment.store.faults ≤ new.moment.store.faults → old.output.faults ≤ new.output.faults → HasReason old new Done
reason_went old new still disk output = record {
  stays = still;
  disk = record { later = disk; rose = λ is. let no : ⊥ = cc in absurd no };
  output = record { later = output; rose = λ is. let no : ⊥ = cc in absurd no };
  opened = λ is. elim is [
    | inl bad ↦ let e = bad.1 in let no : ⊥ = cc in absurd no
    | inr rest ↦ elim rest [
      | inl ours ↦ let e = ours.1 in let no : ⊥ = cc in absurd no
      | inr other ↦ let e = other.3 in
          let no : ⊥ = cc in absurd no
    ]
  ];
  damaged = λ f at is. let no : ⊥ = cc in absurd no;
  long = λ f at is. let no : ⊥ = cc in absurd no;
  whole = λ f at is. let no : ⊥ = cc in absurd no;
}

-- no call was made
pub reason_same : (old : Place) → IsConsistent old.moment.store → HasReason old old Done
reason_same old law = reason_went old old (stays_same old.moment old.moment law refl refl) (omega arith) (omega arith)

pub goes_same : (kind : LineKind) (old : Place) → IsConsistent old.moment.store → IsDrum old.moment.drum → GoesOn kind 0 none_more [] old old
goes_same kind old law drum = goes_call kind 0 none_more [] old old (inl refl) refl refl (feeds_none old.moment old.moment law drum refl refl refl)

-- ---- a piece that is printed
-- some judged offers from one on, and those behind them
piece_lines : (kind : LineKind) (n most : ℕ) (all found : List Judged) → found ≡ take most (drop n all)
    → judged_lines kind found ++ judged_lines kind (drop (n + length found) all) ≡ judged_lines kind (drop n all)
piece_lines kind n most all found is =
    let rest = drop most (drop n all) in
    let whole : found ++ rest ≡ drop n all = ap (λ (l : List Judged). l ++ rest) is ∙ take-append-drop most (drop n all) in
    let behind : drop (n + length found) all ≡ rest = sym (drop-drop (length found) n all) ∙ ap (λ (l : List Judged). drop (length found) l) (sym whole) ∙ drop-append_seam found rest in
    ap (λ (l : List Judged). judged_lines kind found ++ judged_lines kind l) behind ∙ sym (lines-append kind found rest) ∙ ap (judged_lines kind) whole

-- the same of a book, of which no judged offer is dropped
piece_of : (kind : LineKind) (settings : Settings) (book : Book) (printed next most : ℕ) (found : List Judged) → IsBookOf settings book → found ≡ take most (drop (printed - gone book) (judged book))
    → next ≡ printed + length found → judged_lines kind found ++ unprinted kind next book ≡ unprinted kind printed book
piece_of kind settings book printed next most found is pieces next_is =
    let none = gone_none settings book is in
    let at : next - gone book ≡ (printed - gone book) + length found = omega (arith, none, next_is) in
    ap (λ (n : ℕ). judged_lines kind found ++ judged_lines kind (drop n (judged book))) at ∙ piece_lines kind (printed - gone book) most (judged book) found pieces

piece_within : (settings : Settings) (book : Book) (printed next most : ℕ) (found : List Judged) → IsBookOf settings book → found ≡ take most (drop (printed - gone book) (judged book))
    → next ≡ printed + length found → printed ≤ judged_count book → next ≤ judged_count book
piece_within settings book printed next most found is pieces next_is few =
    omega (
      arith,
      gone_none settings book is,
      next_is,
      few,
      ap (λ (l : List Judged). length l) pieces,
      length-take most (drop (printed - gone book) (judged book)),
      length-drop (printed - gone book) (judged book),
    )

-- what is found of the judged offers of each book that the bay holds
abbrev pub Finds : Place → ℕ → List Judged → Type 0
Finds old most found = ForSome old.moment.store.files (λ _. (book : Book) → HoldsAt old book → found ≡ take most (drop (old.printed - gone book) (judged book)))

goes_piece : (kind : LineKind) (old new : Place) (most : ℕ) (found : List Judged) (x : Book) → HoldsAt old x → ArePrinted old.printed x → new.moment.drum.cuts ≡ old.moment.drum.cuts
    → Fed 0 none_more [] old.moment new.moment x → found ≡ take most (drop (old.printed - gone x) (judged x))
    → new.printed ≡ old.printed + length found → Appends old.output.bytes new.output.bytes (judged_lines kind found) → Goes kind 0 none_more [] old new x
goes_piece kind old new most found x holds are cuts fed pieces next written =
    let is = holds.book_is in
    let within = piece_within old.moment.drum.settings x old.printed new.printed most found is pieces next are.1 in
    let before = before_same x fed.book is.is_book fed.holds.book_is.is_book fed.grows.front
    (omega (arith, cuts, holds.numbers.cuts, fed.holds.numbers.cuts, is.dropped, fed.holds.book_is.dropped)) in
    record {
      fed = fed;
      later = omega (arith, next);
      are = (omega (arith, before, are.0, next), omega (arith, within, judged_later x fed.book is.is_book fed.grows.front));
      text = judged_lines kind found;
      written = written;
      prints = printed_later kind x fed.book old.printed new.printed (judged_lines kind found) is.is_book fed.grows.front (omega (arith, next)) within
          (piece_of kind old.moment.drum.settings x old.printed new.printed most found is pieces next);
    }

pub goes_on_piece : (kind : LineKind) (old new : Place) (most : ℕ) (found : List Judged) → new.moment.drum.cuts ≡ old.moment.drum.cuts → Feeds 0 none_more [] old.moment new.moment
    → Finds old most found → new.printed ≡ old.printed + length found → Appends old.output.bytes new.output.bytes (judged_lines kind found) → GoesOn kind 0 none_more [] old new
goes_on_piece kind old new most found cuts feeds finds next written = λ files told x holds are.
    goes_piece kind old new most found x holds are cuts (feeds files told x holds) (finds files told x holds) next written

-- a piece of which a prefix is printed
pub ends_piece : (kind : LineKind) (old new : Place) (most : ℕ) (found : List Judged) (ending : Ending) → IsConsistent new.moment.store → IsDrum new.moment.drum → Stays old.moment new.moment
    → FewWait old.moment.drum.settings new.moment.waits → IsPlain ending → new.moment.drum.cuts ≡ old.moment.drum.cuts → Feeds 0 none_more [] old.moment new.moment → Finds old most found
    → AppendsPrefix old.output.bytes new.output.bytes (judged_lines kind found)
    → EndsWith kind 0 none_more [] old new ending
ends_piece kind old new most found ending law drum still few plain cuts feeds finds part = λ files told x holds are.
    let fed = feeds files told x holds in
    let pieces = finds files told x holds in
    let is = holds.book_is in
    let text = take part.0 (judged_lines kind found) in
    let rest = drop part.0 (judged_lines kind found) in
    let more = unprinted_more kind x fed.book is.is_book fed.grows.front in
    let behind = unprinted kind (old.printed + length found) x in
    let whole : unprinted kind old.printed fed.book ≡ text ++ (rest ++ (behind ++ more.0)) =
    more.1 old.printed are.1 ∙ ap (λ (l : List ℕ). l ++ more.0) (sym (piece_of kind old.moment.drum.settings x old.printed (old.printed + length found) most found is pieces refl))
    ∙ append_assoc (judged_lines kind found) behind more.0 ∙ ap (λ (l : List ℕ). l ++ (behind ++ more.0)) (sym (take-append-drop part.0 (judged_lines kind found)))
    ∙ append_assoc text rest (behind ++ more.0) in
    let before = before_same x fed.book is.is_book fed.holds.book_is.is_book fed.grows.front
    (omega (arith, cuts, holds.numbers.cuts, fed.holds.numbers.cuts, is.dropped, fed.holds.book_is.dropped)) in
    ends_fed kind 0 none_more [] old new ending x law drum still few fed (record {
      text = text;
      written = part.1;
      prints = (rest ++ (behind ++ more.0), whole);
      printed_before = none_unprinted kind (before_last fed.book) old.printed text (omega (arith, before, are.0));
      prints_all = λ all. absurd (plain.printed all);
      full = λ b e. absurd (plain.full b e);
      done = λ e. absurd (plain.done e);
    })

memory_no_input : IsEndOfInput NoMemory → ⊥
memory_no_input is = elim is [ inl done ↦ let no : ⊥ = cc in absurd no | inr rest ↦ elim rest [ inl line ↦ let e = line.1 in let no : ⊥ = cc in absurd no | inr input ↦ let no : ⊥ = cc in absurd no ] ]

pub memory_plain : IsPlain NoMemory
memory_plain = record {
  printed = λ is. elim is [ inl of_input ↦ memory_no_input of_input | inr over ↦ let e = over.1 in let no : ⊥ = cc in absurd no ];
  full = λ b is. cc;
  done = λ is. cc;
}

output_no_input : IsEndOfInput OutputFault → ⊥
output_no_input is = elim is [ inl done ↦ let no : ⊥ = cc in absurd no | inr rest ↦ elim rest [ inl line ↦ let e = line.1 in let no : ⊥ = cc in absurd no | inr input ↦ let no : ⊥ = cc in absurd no ] ]

pub output_plain : IsPlain OutputFault
output_plain = record {
  printed = λ is. elim is [ inl of_input ↦ output_no_input of_input | inr over ↦ let e = over.1 in let no : ⊥ = cc in absurd no ];
  full = λ b is. cc;
  done = λ is. cc;
}

-- an ending that is one of these two
abbrev pub IsOfPiece : Ending → Type 0
IsOfPiece ending = (ending ≡ NoMemory) ⊎ (ending ≡ OutputFault)

pub piece_plain : (ending : Ending) → IsOfPiece ending → IsPlain ending
piece_plain ending (inl memory) = subst IsPlain (sym memory) memory_plain
piece_plain ending (inr output) = subst IsPlain (sym output) output_plain

memory_unopened : IsUnopened NoMemory → ⊥
memory_unopened is = elim is [
  | inl bad ↦ let e = bad.1 in let no : ⊥ = cc in absurd no
  | inr rest ↦ elim rest [
    | inl ours ↦ let e = ours.1 in let no : ⊥ = cc in
        absurd no
    | inr other ↦ let e = other.3 in let no : ⊥ = cc in absurd no
  ]
]

output_unopened : IsUnopened OutputFault → ⊥
output_unopened is = elim is [
  | inl bad ↦ let e = bad.1 in let no : ⊥ = cc in absurd no
  | inr rest ↦ elim rest [
    | inl ours ↦ let e = ours.1 in let no : ⊥ = cc in
        absurd no
    | inr other ↦ let e = other.3 in let no : ⊥ = cc in absurd no
  ]
]

pub reason_piece : (old new : Place) (ending : Ending) → IsOfPiece ending → Stays old.moment new.moment → old.moment.store.faults ≤ new.moment.store.faults
    → HasCause (ending ≡ OutputFault) old.output.faults new.output.faults → HasReason old new ending
reason_piece old new ending (inl memory) still disk output = subst (HasReason old new) (sym memory) (record {
  stays = still;
  disk = record { later = disk; rose = λ is. let no : ⊥ = cc in absurd no };
  output = record { later = output.later; rose = λ is. let no : ⊥ = cc in absurd no };
  opened = memory_unopened;
  damaged = λ f at is. let no : ⊥ = cc in absurd no;
  long = λ f at is. let no : ⊥ = cc in absurd no;
  whole = λ f at is. let no : ⊥ = cc in absurd no;
})
reason_piece old new ending (inr failed) still disk output = subst (HasReason old new) (sym failed) (record {
  stays = still;
  disk = record { later = disk; rose = λ is. let no : ⊥ = cc in absurd no };
  output = record { later = output.later; rose = λ is. output.rose failed };
  opened = output_unopened;
  damaged = λ f at is. let no : ⊥ = cc in absurd no;
  long = λ f at is. let no : ⊥ = cc in absurd no;
  whole = λ f at is. let no : ⊥ = cc in absurd no;
})

-- ---- what a `?` answers
pub err_is : {T E : Type 0} (r : Result T E) (e : E) → IsErrAnd r (λ y. y ≡ e) → r ≡ Err e
err_is r e h = let out = err_from_is_err_and r h in out.1 ∙ ap Err out.2

-- ---- the end of an input
-- at Done nothing waits, all is judged, and all that is judged is printed
pub last_finished : (old new : Place) → IsPrinted new → ((b : ℕ) → new.moment.waits b ≡ []) → (SomePending new.moment.drum → ⊥) → Last old new Done
last_finished old new whole empty judged = record {
  printed = λ all. whole;
  full = λ b is. let no : ⊥ = cc in absurd no;
  done = λ is. record { empty = empty; judged = judged };
}

-- what holds of every answer of a call that reads nothing
pub no_line : {T : Type 0} (r : Result T Ending) → IfErr r (λ ending. IsEndOfInput ending → ⊥) → (n : ℕ) → IsErrOf r (LineRefused n) → ⊥
no_line (Ok x) kinds n is = let no : ⊥ = cc in absurd no
no_line (Err e) kinds n is = kinds (inr (inl (n, cc)))

pub no_line_of : (r : Result (Unit {0}) Ending) → IfErr r (λ ending. IsEndOfInput ending → ⊥) → (n : ℕ) → ending_of r ≡ LineRefused n → ⊥
no_line_of (Ok x) kinds n is = let no : ⊥ = cc in absurd no
no_line_of (Err e) kinds n is = kinds (inr (inl (n, is)))

pub no_input_of : (r : Result (Unit {0}) Ending) → IfErr r (λ ending. IsEndOfInput ending → ⊥) → ending_of r ≡ InputFault → ⊥
no_input_of (Ok x) kinds is = let no : ⊥ = cc in absurd no
no_input_of (Err e) kinds is = kinds (inr (inr is))

-- the same numbers for the whole of an input
lifts_goes : (kind : LineKind) (old : Place) → IsConsistent old.moment.store → IsDrum old.moment.drum → GoesOn kind 1 one_more [] old old
lifts_goes kind old law drum = goes_call kind 1 one_more [] old old (inl refl) refl refl (feeds_more 0 1 none_more one_more [] old.moment old.moment (omega arith) (λ b. omega arith)
    (feeds_none old.moment old.moment law drum refl refl refl))

-- the run ends where it stands
pub stop_here : (kind : LineKind) (old : Place) (ending : Ending) → IsConsistent old.moment.store → IsDrum old.moment.drum → FewWait old.moment.drum.settings old.moment.waits
    → (ending ≢ Done) → ((b : ℕ) → ending ≢ Full b) → (IsAllPrinted ending → IsPrinted old) → EndsWith kind 1 one_more [] old old ending
stop_here kind old ending law drum few not_done not_full whole =
    ends_on kind 1 one_more [] old old ending law drum few (stays_same old.moment old.moment law refl refl)
    (record { printed = whole; full = λ b is. absurd (not_full b is); done = λ is. absurd (not_done is) }) (lifts_goes kind old law drum)

-- what a step of the input can end a run with
abbrev pub IsOfInput : Ending → Type 0
IsOfInput ending = (ending ≡ NoMemory) ⊎ (ending ≡ InputFault) ⊎ ((n : ℕ) × (ending ≡ LineRefused n))

pub input_done : (ending : Ending) → IsOfInput ending → ending ≢ Done
input_done ending (inl memory) = λ is. let no : ⊥ = cc in absurd no
input_done ending (inr (inl input)) = λ is. let no : ⊥ = cc in absurd no
input_done ending (inr (inr line)) = λ is. let e = line.1 in let no : ⊥ = cc in absurd no

pub input_full : (ending : Ending) → IsOfInput ending → (b : ℕ) → ending ≢ Full b
input_full ending (inl memory) b = λ is. let no : ⊥ = cc in absurd no
input_full ending (inr (inl input)) b = λ is. let no : ⊥ = cc in absurd no
input_full ending (inr (inr line)) b = λ is. let e = line.1 in let no : ⊥ = cc in absurd no

line_unopened : (n : ℕ) → IsUnopened (LineRefused n) → ⊥
line_unopened n is = elim is [
  | inl bad ↦ let e = bad.1 in let no : ⊥ = cc in absurd no
  | inr rest ↦ elim rest [
    | inl ours ↦ let e = ours.1 in let no : ⊥ = cc in
        absurd no
    | inr other ↦ let e = other.3 in let no : ⊥ = cc in absurd no
  ]
]

input_unopened : IsUnopened InputFault → ⊥
input_unopened is = elim is [
  | inl bad ↦ let e = bad.1 in let no : ⊥ = cc in absurd no
  | inr rest ↦ elim rest [
    | inl ours ↦ let e = ours.1 in let no : ⊥ = cc in
        absurd no
    | inr other ↦ let e = other.3 in let no : ⊥ = cc in absurd no
  ]
]

pub reason_input : (old : Place) (ending : Ending) → IsConsistent old.moment.store → IsOfInput ending → HasReason old old ending
reason_input old ending law (inl memory) = subst (HasReason old old) (sym memory) (record {
  stays = stays_same old.moment old.moment law refl refl;
  disk = record { later = omega arith; rose = λ is. let no : ⊥ = cc in absurd no };
  output = record { later = omega arith; rose = λ is. let no : ⊥ = cc in absurd no };
  opened = memory_unopened;
  damaged = λ f at is. let no : ⊥ = cc in absurd no;
  long = λ f at is. let no : ⊥ = cc in absurd no;
  whole = λ f at is. let no : ⊥ = cc in absurd no;
})
reason_input old ending law (inr (inl input)) = subst (HasReason old old) (sym input) (record {
  stays = stays_same old.moment old.moment law refl refl;
  disk = record { later = omega arith; rose = λ is. let no : ⊥ = cc in absurd no };
  output = record { later = omega arith; rose = λ is. let no : ⊥ = cc in absurd no };
  opened = input_unopened;
  damaged = λ f at is. let no : ⊥ = cc in absurd no;
  long = λ f at is. let no : ⊥ = cc in absurd no;
  whole = λ f at is. let no : ⊥ = cc in absurd no;
})
reason_input old ending law (inr (inr line)) = subst (HasReason old old) (sym line.1) (record {
  stays = stays_same old.moment old.moment law refl refl;
  disk = record { later = omega arith; rose = λ is. let no : ⊥ = cc in absurd no };
  output = record { later = omega arith; rose = λ is. let no : ⊥ = cc in absurd no };
  opened = line_unopened line.0;
  damaged = λ f at is. let no : ⊥ = cc in absurd no;
  long = λ f at is. let no : ⊥ = cc in absurd no;
  whole = λ f at is. let no : ⊥ = cc in absurd no;
})

pub ends_lifted : (kind : LineKind) (news : List Tuple) (old mid new : Place) (ending : Ending) → IsConsistent mid.moment.store → IsDrum mid.moment.drum → Stays old.moment mid.moment
    → GoesOn kind 0 none_more news old mid → EndsWith kind 0 none_more [] mid new ending → EndsWith kind 1 one_more (news ++ []) old new ending
ends_lifted kind news old mid new ending law drum still goes ends =
    goes_on_ends kind 0 1 none_more one_more news [] old mid new ending still goes
    (goes_on_ends kind 1 0 one_more none_more [] [] mid mid new ending (stays_same mid.moment mid.moment law refl refl) (lifts_goes kind mid law drum) ends)

-- nothing waits yet, and memory runs out
pub stop_plain : (kind : LineKind) (old : Place) → IsConsistent old.moment.store → IsDrum old.moment.drum → FewWait old.moment.drum.settings old.moment.waits
    → EndsWith kind 1 one_more [] old old NoMemory
stop_plain kind old law drum few = stop_here kind old NoMemory law drum few (λ is. let no : ⊥ = cc in absurd no) (λ b is. let no : ⊥ = cc in absurd no) (λ all. absurd (memory_plain.printed all))
