-- The links of all judged URLs, piece after piece.
use Rattle.std.proofs.Common.{◌≡◌, ◌∙◌, ◌⊎◌, inl, inr, ℕ, ◌+◌, ◌-◌, ◌<◌, ◌≤◌, List, [], ◌++◌, length, take, drop, Option, Some, Result, Ok, Err, true, OnOk, IfOk, refl, sym, ap, subst, arith}
use Rattle.std.specs.Option.{ForSome}
use Rattle.std.specs.Prelude.{unwrap_or}
use Rattle.std.proofs.lemmas.List.{length-drop}
use Rattle.irl_base.specs.declared.fault.Fault.{Fault}
use Rattle.irl_base.specs.declared.fault.Fault.TheVariants.{Damaged, Failed, Full, Memory}
use Rattle.irl_offer.specs.Tuple.{Tuple}
use Rattle.irl_offer.specs.declared.receipt.Judged.{Judged}
use Rattle.irl_offer.specs.declared.settings.Settings.{Settings}
use Rattle.irl_offer.specs.Settings.{AreValid}
use Rattle.irl_array.specs.Waiting.{Waiting}
use Rattle.irl_model.specs.Book.{Book, IsPrefixOf, gone, judged}
use Rattle.irl_disk.specs.Disk.{Files, ChangesOnly}
use Rattle.irl_disk.specs.Images.{Told, IsConsistent}
use Rattle.irl_layout.specs.BayFiles.{IsFileOf}
use Rattle.irl_layout.specs.declared.files.BayFile.TheVariants.{Judged as JudgedFile}
use Rattle.irl_bay.specs.Drum.{Drum, IsDrum, pending_at}
use Rattle.irl_bay.specs.Holding.{Holds, IsLong}
use Rattle.irl_bay.specs.JudgedSpoilt.{IsJudgedSpoiltAt, IsSpoiltEntry}
use Rattle.irl_bay.proofs.Apart.{files_of_both, holds_beside, long_beside}
use Rattle.irl_bay.proofs.Staying.{told_before}
use Rattle.irl_schedule.specs.Feeding.{Moment, Stays, moment, Waits}
use Rattle.irl_schedule.specs.Schedule.{none_more, one_more}
use Rattle.irl_schedule.proofs.Chains.{tells_on}
use Rattle.irl_head.specs.StoreFiles.{pairs_base}
use Rattle.irl_schedule.specs.Arrays.{waiting_at}
use Rattle.irl_ledger.specs.Reading.{IsStrangeTextAt}
use Rattle.irl_ledger.specs.Running.{Feeding, RunsSchedule, moment_with}
use Rattle.irl_ledger.specs.Sending.{IsSpoiltUrl, MayReadUrls, OffersPairs, OffersPiece, judged_after, judged_between, links_of, no_waiting}
use Rattle.irl_ledger.proofs.Handing.{feeding_both, feeding_wider, prefix_behind, runs_nothing}
use Rattle.irl_ledger.proofs.Running.{runs_more}
use Rattle.irl_ledger.proofs.Links.{drop_both, links_both, take_all, take_both, take_rest}
use Rattle.irl_ledger.proofs.Reading.{none_gone}

-- ---- the URLs stay while pairs are offered
few : (settings : Settings) → AreValid settings → settings.buckets ≤ 64
few settings valid = let count = valid.buckets in grind arith

pub urls_apart : (urls pairs : Drum) (told : Option Files) → IsDrum urls → MayReadUrls urls pairs told → (f : ℕ) → IsFileOf urls.base urls.settings.buckets f
    → IsFileOf pairs.base pairs.settings.buckets f → ⊥
urls_apart urls pairs told law may f one two =
    let here = subst (λ (n : ℕ). IsFileOf n urls.settings.buckets f) may.base one in
    let there = subst (λ (s : Settings). IsFileOf pairs_base s.buckets f) may.settings (subst (λ (n : ℕ). IsFileOf n pairs.settings.buckets f) may.pairs_at two) in
    files_of_both urls.settings.buckets f (few urls.settings law.settings) here there

module _ (urls : Drum) (old new : Moment) (law : IsDrum urls) (consistent : IsConsistent new.store) (may : MayReadUrls urls old.drum old.store.files) (still : Stays old new) where
  pub urls_held : (book : Book) → Holds old.store.images urls book → Holds new.store.images urls book
  urls_held book held = holds_beside (IsFileOf old.drum.base old.drum.settings.buckets) old.store new.store urls book law consistent still.others_stop
      (urls_apart urls old.drum old.store.files law may) held

  pub may_later : MayReadUrls urls new.drum new.store.files
  may_later = record {
    sound = may.sound;
    long = long_beside (IsFileOf old.drum.base old.drum.settings.buckets) old.store.files new.store.files urls law still.others (urls_apart urls old.drum old.store.files law may) may.long;
    base = may.base;
    pairs_at = still.base ∙ may.pairs_at;
    settings = still.settings ∙ may.settings;
  }

  spoilt_kept : (before files : Files) (f at : ℕ) → ChangesOnly (IsFileOf old.drum.base old.drum.settings.buckets) before files → IsJudgedSpoiltAt urls files f at
      ⊎ IsStrangeTextAt new.store.images urls f at
      → IsJudgedSpoiltAt urls before f at ⊎ IsStrangeTextAt old.store.images urls f at
  spoilt_kept before files f at only (inl entry) =
      let is : IsFileOf urls.base urls.settings.buckets f = subst (IsFileOf urls.base urls.settings.buckets) (sym entry.0) (JudgedFile, tt, refl) in
      inl (entry.0, subst (λ (file : List ℕ). IsSpoiltEntry urls file at) (only f (urls_apart urls old.drum old.store.files law may f is)) entry.1)
  spoilt_kept before files f at only (inr strange) = inr (record {
    file = strange.file;
    i = strange.i;
    within = strange.within;
    place = strange.place;
    strange = λ book one holds found. strange.strange book one (urls_held book holds) found;
  })

  -- damage that is seen later was there before
  pub spoilt_before : (f at : ℕ) → IsSpoiltUrl new.store urls f at → IsSpoiltUrl old.store urls f at
  spoilt_before f at spoilt = record {
    spoilt = λ before told.
        let after = tells_on _ old.store.files new.store.files before still.others told in
        let was = told_before _ old.store.files new.store.files after.0 still.others after.1 in
        let same : was.0 ≡ before = some_same (sym was.1 ∙ told) in
        spoilt_kept before after.0 f at (subst (λ (files : Files). ChangesOnly (IsFileOf old.drum.base old.drum.settings.buckets) files after.0) same was.2) (spoilt.spoilt after.0 after.1);
    whole = λ before told book holds taken.
        let after = tells_on _ old.store.files new.store.files before still.others told in
        spoilt.whole after.0 after.1 book (urls_held book holds) taken;
  }
    where
      some_same : {x y : Files} → Some x ≡ Some y → x ≡ y
      some_same is = ap (λ (o : Option Files). unwrap_or o (λ f. [])) is

-- ---- one piece after another
between_both : (from at to : ℕ) (book : Book) → gone book ≡ 0 → from ≤ at → at ≤ to → judged_between from to book ≡ judged_between from at book ++ judged_between at to book
between_both from at to book none one two =
    let xs = judged_after from book in
    let count : to - from ≡ (at - from) + (to - at) = omega (arith, one, two) in
    let place : at - gone book ≡ (from - gone book) + (at - from) = omega (arith, one, none) in
    ap (λ (n : ℕ). take n xs) count ∙ take_both (at - from) (to - at) xs
    ∙ ap (λ (l : List Judged). take (at - from) xs ++ take (to - at) l) (sym (drop_both (from - gone book) (at - from) (judged book)) ∙ ap (λ (n : ℕ). drop n (judged book)) (sym place))

after_both : (from at : ℕ) (book : Book) → gone book ≡ 0 → from ≤ at → judged_after from book ≡ judged_between from at book ++ judged_after at book
after_both from at book none one =
    let xs = judged_after from book in
    let place : at - gone book ≡ (from - gone book) + (at - from) = omega (arith, one, none) in
    take_rest (at - from) xs
    ∙ ap (λ (l : List Judged). take (at - from) xs ++ l) (sym (drop_both (from - gone book) (at - from) (judged book)) ∙ ap (λ (n : ℕ). drop n (judged book)) (sym place))

-- how far the links were handed in
pub record OfferedTo (suffixes : List ℕ) (from at : ℕ) (urls old new : Drum) (was now : List Waiting) (s t : Told) : Type 0 where
  pub behind : from ≤ at
  pub within : at ≤ urls.last.judged
  pub may : MayReadUrls urls new t.files
  pub news : List Tuple
  pub all : ForSome s.files (λ _. (book : Book) → Holds s.images urls book → news ≡ links_of suffixes (judged_between from at book))
  pub feeding : Feeding {A = Unit {0}} (Ok (tt {0})) (IsSpoiltUrl s urls) 0 none_more news was now old new s t

pub offered_none : (suffixes : List ℕ) (from : ℕ) (urls old : Drum) (was : List Waiting) (s : Told) → from ≤ urls.last.judged → MayReadUrls urls old s.files
    → Feeding {A = Unit {0}} (Ok (tt {0})) (IsSpoiltUrl s urls) 0 none_more [] was was old old s s → OfferedTo suffixes from from urls old old was was s s
offered_none suffixes from urls old was s within may feeding = record {
  behind = omega arith;
  within = within;
  may = may;
  news = [];
  all = λ files told book holds. let none : from - from ≡ 0 = omega arith in sym (ap (λ (n : ℕ). links_of suffixes (take n (judged_after from book))) none);
  feeding = feeding;
}

-- a piece more
module _ (result : Result ℕ Fault) (suffixes : List ℕ) (from at : ℕ) (urls old mid new : Drum) (p q r : List Waiting) (s t w : Told) (law : IsDrum urls) (consistent : IsConsistent t)
    (first_may : MayReadUrls urls old s.files) (far : OfferedTo suffixes from at urls old mid p q s t) (piece : OffersPiece result suffixes at urls q r mid new t w) where
  held : (book : Book) → Holds s.images urls book → Holds t.images urls book
  held book holds = urls_held urls (moment_with s old p) (moment_with t mid q) law consistent first_may far.feeding.runs.stays book holds

  pub piece_feeding : Feeding result (IsSpoiltUrl s urls) 0 none_more (far.news ++ piece.news) p r old new s w
  piece_feeding = feeding_both (tt {0}) result (IsSpoiltUrl s urls) 0 none_more far.news piece.news p q r old mid new s t w consistent far.feeding
      (feeding_wider result (IsSpoiltUrl t urls) (IsSpoiltUrl s urls) 0 none_more piece.news q r mid new t w
      (spoilt_before urls (moment_with s old p) (moment_with t mid q) law consistent first_may far.feeding.runs.stays) piece.feeding)

  pub piece_front : ForSome s.files (λ _. (book : Book) → Holds s.images urls book → IsPrefixOf (far.news ++ piece.news) (links_of suffixes (judged_after from book)))
  piece_front = λ files told book holds.
      let after = tells_on _ s.files t.files files far.feeding.runs.stays.others told in
      let none = none_gone urls.settings book holds.book_is in
      let whole : links_of suffixes (judged_after from book) ≡ far.news ++ links_of suffixes (judged_after at book) =
      ap (links_of suffixes) (after_both from at book none far.behind) ∙ links_both suffixes (judged_between from at book) (judged_after at book)
      ∙ ap (λ (l : List Tuple). l ++ links_of suffixes (judged_after at book)) (sym (far.all files told book holds)) in
      let front = prefix_behind far.news piece.news (links_of suffixes (judged_after at book)) (piece.front after.0 after.1 book (held book holds)) in
      (front.0, whole ∙ front.1)

  -- the next piece begins where it ended
  pub piece_joined : (to : ℕ) → result ≡ Ok to → at ≤ to → to ≤ urls.last.judged → IsConsistent w
      → Feeding {A = Unit {0}} (Ok (tt {0})) (IsSpoiltUrl s urls) 0 none_more (far.news ++ piece.news) p r old new s w
      → OfferedTo suffixes from to urls old new p r s w
  piece_joined to is le within lawful feeding = record {
    behind = omega (arith, far.behind, le);
    within = within;
    may = may_later urls (moment_with s old p) (moment_with w new r) law lawful first_may feeding.runs.stays;
    news = far.news ++ piece.news;
    all = λ files told book holds.
        let after = tells_on _ s.files t.files files far.feeding.runs.stays.others told in
        let none = none_gone urls.settings book holds.book_is in
        let all = subst (λ (a : Result ℕ Fault). IfOk a (λ to. ForSome t.files (λ _. (book : Book) → Holds t.images urls book → piece.news ≡ links_of suffixes (judged_between at to book)))) is
        piece.all in
        ap (λ (l : List Tuple). l ++ piece.news) (far.all files told book holds)
        ∙ ap (λ (l : List Tuple). links_of suffixes (judged_between from at book) ++ l) (all after.0 after.1 book (held book holds))
        ∙ sym (links_both suffixes (judged_between from at book) (judged_between at to book)) ∙ ap (links_of suffixes) (sym (between_both from at to book none far.behind le));
    feeding = feeding;
  }

-- ---- the end
pub offers_ended : (result : Result Unit Fault) (suffixes : List ℕ) (from : ℕ) (urls old new : Drum) (was now : List Waiting) (news : List Tuple) (s t : Told) → ((b : ℕ) → waiting_at was b ≡ [])
    → ForSome s.files (λ _. (book : Book) → Holds s.images urls book → IsPrefixOf news (links_of suffixes (judged_after from book)))
    → OnOk result (ForSome s.files (λ _. (book : Book) → Holds s.images urls book → news ≡ links_of suffixes (judged_after from book)))
    → Feeding result (IsSpoiltUrl s urls) 1 one_more news was now old new s t → OnOk result ((b : ℕ) → waiting_at now b ≡ []) → OnOk result ((b : ℕ) → b < old.settings.buckets → pending_at new b ≡ 0)
    → OffersPairs result suffixes from urls old new s t
offers_ended result suffixes from urls old new was now news s t empty front all feeding emptied judged_all =
    let same : waiting_at was ≡ no_waiting = λ i b. empty b i in
    record {
      news = news;
      front = front;
      all = all;
      waits = waiting_at now;
      few = λ b within. (feeding.arrays.each b within).few;
      runs = subst (λ (w : Waits). RunsSchedule result (IsSpoiltUrl s urls) 1 one_more news (moment s old w) (moment t new (waiting_at now))) same feeding.runs;
      emptied = emptied;
      judged_all = judged_all;
      goes_on = feeding.goes_on;
    }

-- all is read
pub all_between : (from at : ℕ) (book : Book) → length (judged book) ≤ at → gone book ≡ 0 → from ≤ at → judged_between from at book ≡ judged_after from book
all_between from at book all none behind = take_all (at - from) (judged_after from book) (omega (arith, few_left (from - gone book) (judged book), all, none, behind))
  where
    few_left : (n : ℕ) (xs : List Judged) → length (drop n xs) ≤ length xs - n
    few_left n xs = let same : length (drop n xs) ≡ length xs - n = length-drop n xs in omega (arith, same)

pub any_answer : {P : Type 0} (result : Result Unit Fault) → P → OnOk result P
any_answer (Ok value) has = has
any_answer (Err fault) has = tt

on_err : (result : Result Unit Fault) (fault : Fault) (P : Type 0) → result ≡ Err fault → OnOk result P
on_err (Ok value) fault P is = absurd (cc)
on_err (Err other) fault P is = tt

pub offers_refused : (result : Result Unit Fault) (fault : Fault) (suffixes : List ℕ) (from : ℕ) (urls old new : Drum) (was now : List Waiting) (news : List Tuple) (s t : Told) → result ≡ Err fault
    → ((b : ℕ) → waiting_at was b ≡ []) → ForSome s.files (λ _. (book : Book) → Holds s.images urls book → IsPrefixOf news (links_of suffixes (judged_after from book)))
    → Feeding result (IsSpoiltUrl s urls) 1 one_more news was now old new s t → OffersPairs result suffixes from urls old new s t
offers_refused result fault suffixes from urls old new was now news s t is empty front feeding =
    offers_ended result suffixes from urls old new was now news s t empty front (on_err result fault _ is) feeding (on_err result fault _ is) (on_err result fault _ is)

-- where there was no memory for the arrays
pub offers_nothing : (result : Result Unit Fault) (suffixes : List ℕ) (from : ℕ) (urls now : Drum) (s : Told) → result ≡ Err Memory → IsConsistent s → IsDrum now → now.is_sound ≡ true
    → ForSome s.files (λ files. IsLong now files) → OffersPairs result suffixes from urls now now s s
offers_nothing result suffixes from urls now s is consistent law is_open long =
    let alone : (fault : Fault) → result ≡ Err fault → fault ≡ Memory = λ fault named. let both = sym is ∙ named in cc in
    record {
      news = [];
      front = λ files told book holds. (links_of suffixes (judged_after from book), refl);
      all = on_err result Memory _ is;
      waits = no_waiting;
      few = λ b within. omega arith;
      runs = runs_more result (IsSpoiltUrl s urls) 0 1 none_more one_more [] (moment s now no_waiting) (moment s now no_waiting) (omega arith) (λ b. omega arith)
          (runs_nothing result (IsSpoiltUrl s urls) (moment s now no_waiting) consistent law (λ failed. let same = alone Failed failed in let no : ⊥ = cc in absurd no)
          (λ n full. let same = alone (Full n) full in let no : ⊥ = cc in absurd no) (λ f at damaged. let same = alone (Damaged f at) damaged in let no : ⊥ = cc in absurd no));
      emptied = on_err result Memory _ is;
      judged_all = on_err result Memory _ is;
      goes_on = record { drum = law; sound = λ not. is_open; long = λ sound. long };
    }
