-- Links of judged URLs that are read in pieces and handed into the bay of pairs.
use Rattle.std.proofs.Common.{◌≡◌, ◌∙◌, inl, inr, ℕ, zero, suc, ◌+◌, ◌-◌, ◌<◌, ◌≤◌, List, [], ◌∷◌, ◌++◌, length, take, drop, Option, Some, Result, Ok, Err, IfOk, IsErrOf, refl, sym, ap, subst, append_assoc, arith, true}
use Rattle.std.specs.Prelude.{slice_get}
use Rattle.std.specs.Option.{ForSome}
use Rattle.irl_base.specs.declared.fault.Fault.{Fault}
use Rattle.irl_base.specs.declared.fault.Fault.TheVariants.{Damaged, Failed, Full}
use Rattle.irl_offer.specs.Tuple.{Tuple}
use Rattle.irl_offer.specs.declared.receipt.Judged.{Judged}
use Rattle.irl_offer.specs.declared.settings.Settings.{Settings}
use Rattle.irl_array.specs.Waiting.{Waiting}
use Rattle.irl_key.specs.Links.{IsCanonicalText}
use Rattle.irl_model.specs.Book.{Book, IsPrefixOf, gone, judged}
use Rattle.irl_model.proofs.FrontLaws.{front_same}
use Rattle.irl_disk.specs.Disk.{Files}
use Rattle.irl_disk.specs.Effects.{OnlyReads}
use Rattle.irl_disk.specs.Images.{Told, IsConsistent}
use Rattle.irl_disk.proofs.Stretches.{left_now}
use Rattle.irl_layout.specs.BayFiles.{file_of}
use Rattle.irl_layout.specs.declared.files.BayFile.TheVariants.{Judged as JudgedFile}
use Rattle.irl_bay.specs.Drum.{Drum, IsDrum}
use Rattle.irl_bay.specs.Holding.{Holds, IsLong}
use Rattle.irl_bay.specs.Merges.{ReadsJudged}
use Rattle.irl_bay.specs.Standing.{Stands, IsBookOf}
use Rattle.irl_bay.proofs.MergeFrames.{holds_fewer}
use Rattle.irl_bay.proofs.Standing.{holds_stands}
use Rattle.irl_schedule.specs.Feeding.{Moment, Fed, Stays, Stranded}
use Rattle.irl_schedule.specs.Schedule.{none_more}
use Rattle.irl_schedule.proofs.Chains.{fed_read, few_same, stays_read}
use Rattle.irl_head.specs.StoreFiles.{urls_base}
use Rattle.irl_schedule.specs.Arrays.{AreArrays}
use Rattle.irl_ledger.specs.Running.{Feeding, moment_with}
use Rattle.irl_ledger.specs.Sending.{IsSpoiltUrl, IsStrangeIn, judged_after, judged_between, links_of}
use Rattle.irl_ledger.proofs.Links.{links_both, take_rest}
use Rattle.irl_ledger.proofs.Reading.{judged_taken, part_at}

-- ---- a store that was only read
-- the book that is held is the one that is told, and that every stop leaves
strands_read : (e : ℕ) (u : ℕ → ℕ) (xs : List Tuple) (old new : Moment) (x : Book) → IsConsistent new.store → IsDrum new.drum → Stays old new → Fed e u xs old new x → Stranded e u xs old new x
strands_read e u xs old new x law drum still fed =
    let book_is : IsBookOf old.drum.settings fed.book = subst (λ (s : Settings). IsBookOf s fed.book) still.settings fed.holds.book_is in
    let stands : (image : Files) → new.store.images image → Stands old.drum.base old.drum.settings fed.book image = λ image left.
    subst (λ (n : ℕ). Stands n old.drum.settings fed.book image) still.base
    (subst (λ (s : Settings). Stands new.drum.base s fed.book image) still.settings (holds_stands new.store.images new.drum fed.book image drum fed.holds left)) in
    record {
      book = fed.book;
      most = fed.book;
      told = λ files tells. stands files (law.told files tells);
      grows = fed.grows;
      may_grow = fed.grows;
      front = front_same fed.book;
      legal = book_is;
      kept = fed.book;
      kept_grows = fed.grows;
      kept_front = front_same fed.book;
      kept_legal = book_is;
      keeps = fed.keeps;
      now = λ image left. (fed.book, stands image left, front_same fed.book, front_same fed.book, few_same old.drum.settings fed.book);
      takes = λ b within. (new.waits b, sym (fed.keeps b within));
      stops = fed.stops;
      records_stop = fed.records_stop;
    }

pub feeding_read : {A : Type 0} (result : Result A Fault) (among : ℕ → Type 0) (elsewhere : ℕ → ℕ → Type 0) (arrays : List Waiting) (drum : Drum) (s t : Told) → IsConsistent t → IsDrum drum
    → AreArrays drum.settings arrays → drum.is_sound ≡ true → ForSome s.files (λ files. IsLong drum files) → OnlyReads among (IsErrOf result Failed) s t
    → ((n : ℕ) → IsErrOf result (Full n) → ⊥) → ((f at : ℕ) → IsErrOf result (Damaged f at) → elsewhere f at) → Feeding result elsewhere 0 none_more [] arrays arrays drum drum s t
feeding_read result among elsewhere arrays drum s t consistent law are is_open long reads full damaged =
    let old = moment_with s drum arrays in
    let new = moment_with t drum arrays in
    let still = stays_read old new refl reads.same reads.stops in
    let holds : (book : Book) → Holds s.images drum book → Holds t.images drum book = λ book held. holds_fewer s.images t.images drum book law (left_now s t s.images consistent reads.stops) held in
    let fed : (x : Book) → Holds s.images drum x → Fed 0 none_more [] old new x = λ x held. fed_read old new x consistent law reads.stops refl refl held (holds x held) in
    record {
      runs = record {
        stays = still;
        fed = λ not files told x held. fed x held;
        stranded = λ failed files told x held. strands_read 0 none_more [] old new x consistent law still (fed x held);
        full = λ n is. absurd (full n is);
        damaged = λ f at is. inl (damaged f at is);
        cause = reads.cause;
      };
      arrays = are;
      goes_on = record { drum = law; sound = λ not. is_open; long = λ is. subst (λ (files : Option Files). ForSome files (λ files. IsLong drum files)) (sym reads.same) long };
    }

-- ---- damage of the URLs
-- what reading names
pub spoilt_read : {A : Type 0} (result : Result A Fault) (gives : A → Book → Type 0) (urls : Drum) (s t : Told) (f at : ℕ) → ReadsJudged result gives urls s t → IsErrOf result (Damaged f at)
    → IsSpoiltUrl s urls f at
spoilt_read result gives urls s t f at reads is = record {
  spoilt = λ files told. inl (reads.spoilt f at is files told);
  whole = λ files told book holds taken. reads.whole f at is files told book holds;
}

get_within : {X : Type 0} (xs : List X) (k : ℕ) (x : X) → slice_get xs k ≡ Some x → k < length xs
get_within [] k x is = absurd (cc)
get_within (y ∷ ys) zero x is = omega arith
get_within (y ∷ ys) (suc k) x is = omega (arith, get_within ys k x is)

-- and what stands in the part that was read
pub spoilt_part : (urls : Drum) (s : Told) (from most : ℕ) (part : List Judged) (f at : ℕ) → urls.base ≡ urls_base → from + length part ≤ urls.last.judged
    → ForSome s.files (λ _. (book : Book) → Holds s.images urls book → part ≡ take most (drop (from - gone book) (judged book))) → IsStrangeIn from part f at → IsSpoiltUrl s urls f at
spoilt_part urls s from most part f at base within value strange =
    let there : (files : Files) → s.files ≡ Some files → (book : Book) → Holds s.images urls book → slice_get (judged book) (from + strange.i - gone book) ≡ Some strange.one = λ files told book holds.
    part_at urls.settings book holds.book_is from most strange.i part strange.one (value files told book holds) strange.found_at in
    record {
      spoilt = λ files told. inr (record {
        file = strange.file ∙ ap (λ (n : ℕ). file_of n 0 JudgedFile) (sym base);
        i = from + strange.i;
        within = omega (arith, within, get_within part strange.i strange.one strange.found_at);
        place = strange.place;
        strange = λ book one holds found canonical.
            let same : one ≡ strange.one = some_same (sym found ∙ there files told book holds) in
            strange.strange (subst (λ (j : Judged). IsCanonicalText j.offer.aux) same canonical);
      });
      whole = λ files told book holds taken.
          strange.strange (judged_taken urls.settings book holds.book_is taken (from + strange.i - gone book) strange.one (there files told book holds));
    }
  where
    some_same : {x y : Judged} → Some x ≡ Some y → x ≡ y
    some_same is = cc

-- ---- what a part was read of
take_length : {X : Type 0} (n : ℕ) (xs : List X) → take (length (take n xs)) xs ≡ take n xs
take_length zero xs = refl
take_length (suc n) [] = refl
take_length (suc n) (x ∷ xs) = let same : length (x ∷ take n xs) ≡ suc (length (take n xs)) = refl in ap (λ l. x ∷ l) (take_length n xs)

pub front_read : (suffixes : List ℕ) (from most : ℕ) (part : List Judged) (news : List Tuple) (book : Book) → part ≡ take most (drop (from - gone book) (judged book))
    → IsPrefixOf news (links_of suffixes part)
    → IsPrefixOf news (links_of suffixes (judged_after from book))
front_read suffixes from most part news book is front =
    let rest = links_of suffixes (drop most (judged_after from book)) in
    let whole : links_of suffixes (judged_after from book) ≡ links_of suffixes part ++ rest =
    ap (links_of suffixes) (take_rest most (judged_after from book)) ∙ links_both suffixes (take most (judged_after from book)) (drop most (judged_after from book))
    ∙ ap (λ (l : List Judged). links_of suffixes l ++ rest) (sym is) in
    (front.0 ++ rest, whole ∙ ap (λ (l : List Tuple). l ++ rest) front.1 ∙ append_assoc news front.0 rest)

pub all_read : (suffixes : List ℕ) (from most : ℕ) (part : List Judged) (book : Book) → part ≡ take most (drop (from - gone book) (judged book))
    → links_of suffixes part ≡ links_of suffixes (judged_between from (from + length part) book)
all_read suffixes from most part book is =
    let count : from + length part - from ≡ length part = omega arith in
    ap (links_of suffixes) (is ∙ sym (take_length most (judged_after from book)) ∙ ap (λ (l : List Judged). take (length l) (judged_after from book)) (sym is)
    ∙ ap (λ (n : ℕ). take n (judged_after from book)) (sym count))

-- a refusal gives nothing
pub if_err : {A : Type 0} (result : Result A Fault) (fault : Fault) (P : A → Type 0) → result ≡ Err fault → IfOk result P
if_err (Ok a) fault P is = absurd (cc)
if_err (Err e) fault P is = tt
