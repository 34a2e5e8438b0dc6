-- What stands behind the turns, and what the words count: what each kind of step does to it.
use Rattle.std.proofs.Common.{◌≡◌, ◌≢◌, ◌∙◌, ◌⊎◌, inl, inr, ⊎_elim, ℕ, zero, suc, ◌+◌, ◌%◌, ◌^◌, ◌<◌, ◌≤◌, List, [], ◌∷◌, ◌++◌, length, length-append, set, Option, None, Some, Result, Ok, Err, IsErrOf, refl, sym, ap, subst, append_assoc, append-nil, arith}
use Rattle.std.proofs.Math.Nat.{mod-eq_of_lt}
use Rattle.std.proofs.lemmas.Bool.Decides.{eqb_tells}
use Rattle.std.proofs.lemmas.List.{get_or-set_other, get_or-set_same}
use Rattle.std.proofs.lemmas.List.Elements.{All-append}
use Rattle.std.specs.Prelude.{slice_index, slice_set}
use Rattle.std.specs.List.{All, AllByRecursion}
use mathlib.Core.Option.{some}
use lib.ListN.{get_elem?}
use Rattle.irl_base.specs.declared.fault.Fault.{Fault}
use Rattle.irl_base.specs.declared.fault.Fault.TheVariants.{Damaged, Failed, Full, Memory}
use Rattle.irl_array.specs.Waiting.{Waiting}
use Rattle.irl_offer.specs.Buckets.{bucket_of}
use Rattle.irl_offer.specs.Offering.{Entered, IsTakenBy}
use Rattle.irl_offer.specs.Tuple.{Tuple}
use Rattle.irl_offer.specs.declared.receipt.Receipt.{Receipt}
use Rattle.irl_offer.specs.declared.settings.Settings.{Settings}
use Rattle.irl_key.specs.Links.{IsCanonicalText}
use Rattle.irl_model.specs.Book.{Book, part}
use Rattle.irl_disk.specs.Images.{Told, IsConsistent}
use Rattle.irl_disk.specs.declared.store.Store.{Ghosts}
use Rattle.irl_bay.specs.Drum.{Drum, IsDrum, durable_at}
use Rattle.irl_schedule.specs.Arrays.{AreArrays, array_at, waiting_at}
use Rattle.irl_schedule.specs.Feeding.{Feeds, IsArrayOf, Keeps, Moment, Stays, Stranded, TakesWaiting, Waits, handed_in, list_at, with_waiting}
use Rattle.irl_schedule.specs.Schedule.{none_more}
use Rattle.irl_schedule.proofs.Chains.{fed_still, feeds_both, keeps_both}
use Rattle.irl_schedule.proofs.Waits.{array_elsewhere, array_here, arrays_set, set_same, waits_same, waits_set}
use Rattle.irl_yard.specs.Holding.{IsSound}
use Rattle.irl_yard.specs.Moments.{moment_at as yard_at}
use Rattle.irl_yard.specs.declared.parts.Parts.{Parts}
use Rattle.irl_yard.specs.declared.yard.Yard.{Yard}
use Rattle.irl_desk.specs.Closing.{last_after}
use Rattle.irl_desk.specs.Serving.{AreNumbered, Enters, Serving, moment_at, offers_in, receipt_behind}
use Rattle.irl_desk.specs.Stepping.{Breaks, Steps, handed_at}
use Rattle.irl_desk.proofs.Answering.{last_err, last_ok}
use Rattle.irl_desk.proofs.Chaining.{few_wait, none_and, steps_none}
use Rattle.irl_desk.proofs.Entering.{IsLastBy, enters_both, enters_steps}
use Rattle.irl_desk.proofs.Numbers.{all_both, numbered_both, offers_both, part_both, part_elsewhere, part_here, parts_long}
use Rattle.irl_lock.specs.Books.{AreParts, HasBooks, all_parts, bin_of, buckets_of, count_word, fresh_known, fresh_of, serving_now}
use Rattle.irl_lock.specs.Plays.{end_of, pushed, with_entry, with_last}
use Rattle.irl_lock.specs.Seats.{Refills}
use Rattle.irl_lock.specs.declared.held.Bin.{Bin}
use Rattle.irl_lock.specs.declared.held.Held.{Held}
use Rattle.irl_lock.specs.declared.held.Held.TheVariants.{InBin, InYard}
use Rattle.irl_lock.specs.declared.held.Stand.{Stand}
use Rattle.irl_lock.specs.declared.view.Known.{Known}
use Rattle.irl_lock.proofs.PartSteps.{parts_entry, parts_first, parts_last}

-- ---- one offer more, whatever fault was answered
-- a bucket's offers that wait, with one more in front of another
module _ (buckets : ℕ) (arrays : List Waiting) (b : ℕ) (after : Waiting) (offer : Tuple) (within : b < length arrays) (is : bucket_of buckets offer.key ≡ b)
    (pushes : after.items ≡ waiting_at arrays b ++ offer ∷ []) where
  waits_one : (c : ℕ) → waiting_at (set arrays b after) c ≡ waiting_at arrays c ++ part buckets c (offer ∷ [])
  waits_one c = ⊎_elim (λ same. here same.1) (λ other. elsewhere other.1) (eqb_tells c b)
    where
      here : c ≡ b → waiting_at (set arrays b after) c ≡ waiting_at arrays c ++ part buckets c (offer ∷ [])
      here same = subst (λ (n : ℕ). waiting_at (set arrays b after) n ≡ waiting_at arrays n ++ part buckets n (offer ∷ [])) (sym same)
          (ap (λ (a : Waiting). a.items) (array_here arrays b after within) ∙ pushes ∙ ap (λ (l : List Tuple). waiting_at arrays b ++ l) (sym (part_here buckets b offer [] is)))

      elsewhere : c ≢ b → waiting_at (set arrays b after) c ≡ waiting_at arrays c ++ part buckets c (offer ∷ [])
      elsewhere other = ap (λ (a : Waiting). a.items) (array_elsewhere arrays b c after other) ∙ sym (append-nil (waiting_at arrays c))
          ∙ ap (λ (l : List Tuple). waiting_at arrays c ++ l) (sym (part_elsewhere buckets c offer [] (λ same. other (sym same ∙ is))))

-- from one moment to another, at which one offer more waits
module _ {S : Type 0} (told : S → Told) (lawful : (s : S) → IsConsistent (told s)) (old : Serving S) (store : S) (parts : Parts) (last : Option Fault) (arrays later : List Waiting)
    (before : List Entered) (news : List Entered) (one : Entered) where
  abbrev now : Serving S
  now = record { store = store; parts = parts; arrays = arrays; entries = before; last = last }

  abbrev new : Serving S
  new = record { store = store; parts = parts; arrays = later; entries = before ++ one ∷ []; last = last }

  abbrev m0 : Moment
  m0 = moment_at told old

  abbrev m1 : Moment
  m1 = moment_at told now

  abbrev m2 : Moment
  m2 = moment_at told new

  abbrev buckets : ℕ
  buckets = parts.urls.settings.buckets

  pub record IsOneMore : Type 0 where
    pub arrays_are : AreArrays parts.urls.settings later
    pub waits : (c : ℕ) → waiting_at later c ≡ waiting_at arrays c ++ part buckets c (one.offer ∷ [])
    pub taken : IsTakenBy IsCanonicalText parts.urls.settings.kind one.offer
    pub bucket : bucket_of buckets one.offer.key < buckets
    pub receipt : one.receipt ≡ receipt_behind buckets (handed_at m1) [] one.offer

  keeps_one : IsOneMore → (settings : Settings) → settings ≡ parts.urls.settings → (x : Book) → Keeps settings x (waiting_at arrays) x (waiting_at later) (one.offer ∷ [])
  keeps_one more settings same x = λ c within.
      let list = list_at x c in
      ap (λ (l : List Tuple). list ++ l) (more.waits c ∙ ap (λ (s : Settings). waiting_at arrays c ++ part s.buckets c (one.offer ∷ [])) (sym same))
      ∙ sym (append_assoc list (waiting_at arrays c) (part settings.buckets c (one.offer ∷ [])))

  counts_one : IsOneMore → (c : ℕ) → handed_at m2 c ≡ handed_at m1 c + length (part buckets c (one.offer ∷ []))
  counts_one more c = omega (
    arith,
    ap (λ (l : List Tuple). length l) (more.waits c),
    length-append (waiting_at arrays c) (part buckets c (one.offer ∷ [])),
  )

  feeds_one : IsOneMore → IsDrum parts.urls → Feeds 0 none_more (one.offer ∷ []) m1 m2
  feeds_one more drum = λ files tells x holds. fed_still (one.offer ∷ []) m1 m2 x (lawful store) drum refl refl (keeps_one more parts.urls.settings refl x) holds

  takes_one : (settings : Settings) (x y : Book) (was : Waits) (offers : List Tuple) → TakesWaiting settings x was y offers → TakesWaiting settings x was y (offers ++ one.offer ∷ [])
  takes_one settings x y was offers takes = λ b within.
      let prefix = takes b within in
      let some = part settings.buckets b (one.offer ∷ []) in
      let whole = handed_in x was b in
      let both : part settings.buckets b (offers ++ one.offer ∷ []) ≡ part settings.buckets b offers ++ some = part_both settings.buckets b offers (one.offer ∷ []) in (
        prefix.0 ++ some,
        ap (λ (l : List Tuple). whole ++ l) both ∙ sym (append_assoc whole (part settings.buckets b offers) some)
            ∙ ap (λ (l : List Tuple). l ++ some) prefix.1 ∙ append_assoc (list_at y b) prefix.0 some,
      )

  stranded_one : IsOneMore → (offers : List Tuple) (x : Book) → parts.urls.settings ≡ old.parts.urls.settings → Stranded 0 none_more offers m0 m1 x
      → Stranded 0 none_more (offers ++ one.offer ∷ []) m0 m2 x
  stranded_one more offers x settings has = record {
    book = has.book;
    most = has.most;
    told = has.told;
    grows = has.grows;
    may_grow = has.may_grow;
    front = has.front;
    legal = has.legal;
    kept = has.kept;
    kept_grows = has.kept_grows;
    kept_front = has.kept_front;
    kept_legal = has.kept_legal;
    keeps = keeps_both old.parts.urls.settings x has.kept has.kept (waiting_at old.arrays) (waiting_at arrays) (waiting_at later) offers (one.offer ∷ []) has.keeps
        (keeps_one more old.parts.urls.settings (sym settings) has.kept);
    now = has.now;
    takes = takes_one old.parts.urls.settings x has.most (waiting_at old.arrays) offers has.takes;
    stops = has.stops;
    records_stop = has.records_stop;
  }

  stays_one : Stays m0 m1 → Stays m0 m2
  stays_one stays = record {
    settings = stays.settings;
    base = stays.base;
    grows = stays.grows;
    others = stays.others;
    others_stop = stays.others_stop;
    bound = stays.bound;
  }

  pub enters_one : IsOneMore → Enters told none_more news old now → Enters told none_more (news ++ one ∷ []) old new
  enters_one more enters =
      let settings = enters.stays.settings in
      let both = sym (offers_both news (one ∷ [])) in
      let of_old : (P : Settings → Type 0) → P parts.urls.settings → P old.parts.urls.settings = λ P is. subst P settings is in
      record {
        entries = ap (λ (l : List Entered). l ++ one ∷ []) enters.entries ∙ append_assoc old.entries news (one ∷ []);
        stays = stays_one enters.stays;
        rest = enters.rest;
        arrays = more.arrays_are;
        sound = enters.sound;
        taken = subst (AllByRecursion (IsTakenBy IsCanonicalText old.parts.urls.settings.kind)) both
            (all_both (IsTakenBy IsCanonicalText old.parts.urls.settings.kind) (offers_in news) (one.offer ∷ []) enters.taken
            (of_old (λ s. IsTakenBy IsCanonicalText s.kind one.offer) more.taken, tt));
        numbered = numbered_both old.parts.urls.settings.buckets (handed_at m0) (handed_at m1) news (one ∷ []) enters.counts enters.numbered
            (of_old (λ s. AreNumbered s.buckets (handed_at m1) [] (one ∷ []))
            ((more.receipt, subst (λ (r : Receipt). r.bucket < buckets) (sym more.receipt) more.bucket), tt));
        counts = λ c.
            let after = of_old (λ s. handed_at m2 c ≡ handed_at m1 c + length (part s.buckets c (one.offer ∷ []))) (counts_one more c) in
            omega (
              arith,
              enters.counts c,
              after,
              parts_long old.parts.urls.settings.buckets c (offers_in news) (one.offer ∷ []),
              ap (λ (l : List Tuple). length (part old.parts.urls.settings.buckets c l)) both,
            );
        fed = λ not. subst (λ (l : List Tuple). Feeds 0 none_more l m0 m2) both
            (subst (λ (v : ℕ → ℕ). Feeds 0 v (offers_in news ++ one.offer ∷ []) m0 m2) (none_and none_more)
            (feeds_both 0 0 none_more none_more (offers_in news) (one.offer ∷ []) m0 m1 m2 enters.stays (enters.fed not) (feeds_one more enters.sound.drum)));
        broken = λ is. subst (λ (l : List Tuple). Breaks none_more l m0 m2) both
            (λ files tells x holds. stranded_one more (offers_in news) x settings (enters.broken is files tells x holds));
        ground = record {
          full = λ n is.
              let why = enters.ground.full n is in
              let few = (more.arrays_are.each n why.0).few in
              let long : length (waiting_at later n) ≡ length (waiting_at arrays n) + length (part buckets n (one.offer ∷ [])) =
              ap (λ (l : List Tuple). length l) (more.waits n) ∙ length-append (waiting_at arrays n) (part buckets n (one.offer ∷ [])) in
              (why.0, omega (arith, why.1, long), few, omega (arith, why.3, long));
          damaged = enters.ground.damaged;
          whole = enters.ground.whole;
          cause = enters.ground.cause;
        };
      }

-- ---- a few facts
all_one : {X : Type 0} (P : X → Type 0) (x : X) → P x → All P (x ∷ [])
all_one P x is zero d inside = is
all_one P x is (suc k) d inside = absurd (omega (arith, inside))

-- a fault was answered, or none
by_last : {X : Type 0} (last : Option Fault) → (last ≡ None → X) → ((fault : Fault) → last ≡ Some fault → X) → X
by_last None goes stops = goes refl
by_last (Some fault) goes stops = stops fault refl

last_by : (result : Result (Unit {0}) Fault) (last : Option Fault) → last ≡ last_after None result → IsLastBy result last
last_by (Ok v) last is = last_ok (Ok v) v last refl is
last_by (Err fault) last is = last_err (Err fault) fault last refl is

none_no_memory : ◌≡◌ {A = Option Fault} None (Some Memory) → ⊥
none_no_memory is = cc

-- what is left behind an answer is no want of memory
after_no_memory : (result : Result (Unit {0}) Fault) → last_after None result ≡ Some Memory → ⊥
after_no_memory (Ok v) is = none_no_memory is
after_no_memory (Err Failed) is = cc
after_no_memory (Err Memory) is = none_no_memory is
after_no_memory (Err (Full n)) is = cc
after_no_memory (Err (Damaged f at)) is = cc

ok_not_failed : IsErrOf {T = Unit {0}} {E = Fault} (Ok tt) Failed → ⊥
ok_not_failed is = cc

-- a bin is made of its two parts
abbrev bin_for : ℕ → Waiting → Bin
bin_for first array = record { first = first; array = array }

bin_made : (bin : Bin) (first : ℕ) (array : Waiting) → bin.first ≡ first → bin.array ≡ array → bin ≡ bin_for first array
bin_made bin first array one other = λ i. record { first = one i; array = other i }

-- ---- what stands behind a turn
module _ {S : Type 0} {tells : Ghosts S} where
  abbrev pub held_bin : Bin → Held S tells → Bin
  held_bin other (InBin bin) = bin
  held_bin other (InYard stand) = other

  abbrev pub held_stand : Stand S tells → Held S tells → Stand S tells
  held_stand other (InBin bin) = other
  held_stand other (InYard stand) = stand

  pub same_bin : (x y : Bin) → ◌≡◌ {A = Held S tells} (InBin x) (InBin y) → x ≡ y
  same_bin x y is = ap (held_bin x) is

  pub same_stand : (x y : Stand S tells) → ◌≡◌ {A = Held S tells} (InYard x) (InYard y) → x ≡ y
  same_stand x y is = ap (held_stand x) is

-- ---- the steps
module _ {S : Type 0} {tells : Ghosts S} (lawful : (s : S) → IsConsistent (tells.told s)) (opening : Yard S tells) where
  -- Only the words that count matter.
  pub books_words : (words others : List ℕ) (knowns : List Known) (held : ℕ → Held S tells)
      → ((b : ℕ) → b < buckets_of opening → slice_index others (count_word opening b) ≡ slice_index words (count_word opening b))
      → HasBooks opening words knowns held → HasBooks opening others knowns held
  books_words words others knowns held same books = record {
    stand = books.stand;
    arrays = books.arrays;
    news = books.news;
    yard_is = books.yard_is;
    bins_are = books.bins_are;
    counts = λ b within. same b within ∙ books.counts b within;
    enters = books.enters;
    parts = books.parts;
    memory = books.memory;
  }

  -- a turn's word is set
  pub books_turn : (words : List ℕ) (t n : ℕ) (knowns : List Known) (held : ℕ → Held S tells) → t ≤ buckets_of opening → HasBooks opening words knowns held
      → HasBooks opening (slice_set words t n) knowns held
  books_turn words t n knowns held within books = books_words words (slice_set words t n) knowns held
      (λ b inside. get_or-set_other words t (count_word opening b) n 0 (λ same. omega (arith, same, within))) books

  -- seats know something else, of which the parts go on
  pub books_parts : (words : List ℕ) (knowns others : List Known) (held : ℕ → Held S tells) → (books : HasBooks opening words knowns held)
      → AreParts books.news books.stand.last others → HasBooks opening words others held
  books_parts words knowns others held books parts = record {
    stand = books.stand;
    arrays = books.arrays;
    news = books.news;
    yard_is = books.yard_is;
    bins_are = books.bins_are;
    counts = books.counts;
    enters = books.enters;
    parts = parts;
    memory = books.memory;
  }

  -- ---- an offer is counted
  module _ (words : List ℕ) (knowns : List Known) (held after : ℕ → Held S tells) (id b : ℕ) (known : Known) (bin : Bin) (offer : Tuple) where
    pub record IsCount : Type 0 where
      pub seat : get_elem? knowns id ≡ some known
      pub part : 1 ≤ known.parts
      pub within : b < buckets_of opening
      pub long : count_word opening b < length words
      pub was : held b ≡ InBin bin
      pub now : after b ≡ InBin (pushed bin offer)
      pub others : (t : ℕ) → t ≢ b → after t ≡ held t
      pub room : length bin.array.items < opening.parts.urls.settings.array
      pub number : end_of bin < 2 ^ 64
      pub bucket : bucket_of (buckets_of opening) offer.key ≡ b
      pub taken : IsTakenBy IsCanonicalText opening.parts.urls.settings.kind offer

    module _ (is : IsCount) (books : HasBooks opening words knowns held) where
      abbrev count_drum : Drum
      count_drum = books.stand.yard.parts.urls

      abbrev c1 : Moment
      c1 = moment_at tells.told (serving_now books.stand books.arrays books.news)

      count_settings : count_drum.settings ≡ opening.parts.urls.settings
      count_settings = books.enters.stays.settings

      count_bin : bin ≡ bin_of books.stand books.arrays b
      count_bin = same_bin bin (bin_of books.stand books.arrays b) (sym is.was ∙ books.bins_are b is.within)

      count_inside : b < length books.arrays
      count_inside = omega (arith, is.within, books.enters.arrays.count, ap (λ (s : Settings). s.buckets) count_settings)

      count_items : bin.array.items ≡ waiting_at books.arrays b
      count_items = ap (λ (x : Bin). x.array.items) count_bin

      -- the number behind all that the bucket got
      count_handed : end_of bin ≡ handed_at c1 b
      count_handed = ap (λ (x : Bin). end_of x) count_bin

      pub count_found : slice_index words (count_word opening b) ≡ end_of bin % 2 ^ 64
      count_found = books.counts b is.within ∙ ap (λ (n : ℕ). n % 2 ^ 64) (sym count_handed)

      count_whole : slice_index words (count_word opening b) ≡ end_of bin
      count_whole = count_found ∙ mod-eq_of_lt is.number

      abbrev count_arrays : List Waiting
      count_arrays = set books.arrays b (pushed bin offer).array

      abbrev counted : Entered
      counted = record { receipt = record { bucket = b; number = slice_index words (count_word opening b) }; offer = offer }

      count_waits : (c : ℕ) → waiting_at count_arrays c ≡ waiting_at books.arrays c ++ part count_drum.settings.buckets c (offer ∷ [])
      count_waits = waits_one count_drum.settings.buckets books.arrays b (pushed bin offer).array offer count_inside
          (ap (λ (s : Settings). bucket_of s.buckets offer.key) count_settings ∙ is.bucket) (ap (λ (l : List Tuple). l ++ offer ∷ []) count_items)

      count_receipt : counted.receipt ≡ receipt_behind count_drum.settings.buckets (handed_at c1) [] offer
      count_receipt =
          let of : ℕ → ℕ → Receipt = λ c n. record { bucket = c; number = n } in
          let place : bucket_of count_drum.settings.buckets offer.key ≡ b = ap (λ (s : Settings). bucket_of s.buckets offer.key) count_settings ∙ is.bucket in
          let all : slice_index words (count_word opening b) ≡ handed_at c1 b + 0 = omega (arith, count_whole, count_handed) in
          ap (λ (n : ℕ). of b n) all ∙ ap (λ (c : ℕ). of c (handed_at c1 c + 0)) (sym place)

      count_array : IsArrayOf count_drum.settings b (pushed bin offer).array
      count_array =
          let was : IsArrayOf count_drum.settings b (array_at books.arrays b) = books.enters.arrays.each b (omega (arith, is.within, ap (λ (s : Settings). s.buckets) count_settings)) in
          let array : IsArrayOf count_drum.settings b bin.array = subst (IsArrayOf count_drum.settings b) (sym (ap (λ (x : Bin). x.array) count_bin)) was in
          let room = is.room in
          let most : length bin.array.items < count_drum.settings.array = omega (arith, room, ap (λ (s : Settings). s.array) count_settings) in
          record {
            room = array.room;
            few = omega (arith, most, length-append bin.array.items (offer ∷ []));
            offers = All-append (λ (o : Tuple). bucket_of count_drum.settings.buckets o.key ≡ b) bin.array.items (offer ∷ []) array.offers
                (all_one (λ (o : Tuple). bucket_of count_drum.settings.buckets o.key ≡ b) offer (ap (λ (s : Settings). bucket_of s.buckets offer.key) count_settings ∙ is.bucket));
          }

      count_arrays_are : AreArrays count_drum.settings count_arrays
      count_arrays_are = arrays_set count_drum.settings count_drum.settings books.arrays b (pushed bin offer).array refl count_inside books.enters.arrays count_array

      abbrev one_more : Type 0
      one_more = IsOneMore tells.told lawful (fresh_of opening) books.stand.yard.store books.stand.yard.parts books.stand.last books.arrays count_arrays books.news books.news counted

      is_one : one_more
      is_one = record {
        arrays_are = count_arrays_are;
        waits = count_waits;
        taken = subst (λ (s : Settings). IsTakenBy IsCanonicalText s.kind offer) (sym count_settings) is.taken;
        bucket = omega (arith, ap (λ (s : Settings). bucket_of s.buckets offer.key) count_settings, is.bucket, is.within, ap (λ (s : Settings). s.buckets) count_settings);
        receipt = count_receipt;
      }

      abbrev c2 : Moment
      c2 = moment_at tells.told (serving_now books.stand count_arrays (books.news ++ counted ∷ []))

      count_bins : (c : ℕ) → c < buckets_of opening → after c ≡ InBin (bin_of books.stand count_arrays c)
      count_bins c inside_c = ⊎_elim
          (λ same. subst (λ (n : ℕ). after n ≡ InBin (bin_of books.stand count_arrays n)) (sym same.1)
          (is.now ∙ ap (λ (x : Bin). InBin x) (bin_made (pushed bin offer) (durable_at count_drum b) (array_at count_arrays b) (ap (λ (x : Bin). x.first) count_bin)
          (sym (array_here books.arrays b (pushed bin offer).array count_inside)))))
          (λ other. is.others c other.1 ∙ books.bins_are c inside_c
          ∙ ap (λ (a : Waiting). InBin (bin_for (durable_at count_drum c) a)) (sym (array_elsewhere books.arrays b c (pushed bin offer).array other.1)))
          (eqb_tells c b)

      -- one more of this bucket, and as many of another
      long_here : handed_at c2 b ≡ handed_at c1 b + 1
      long_here = omega (
        arith,
        ap (λ (l : List Tuple). length l) (count_waits b),
        length-append (waiting_at books.arrays b) (part count_drum.settings.buckets b (offer ∷ [])),
        ap (λ (l : List Tuple). length l) (part_here count_drum.settings.buckets b offer [] (ap (λ (s : Settings). bucket_of s.buckets offer.key) count_settings ∙ is.bucket)),
      )

      long_elsewhere : (c : ℕ) → c ≢ b → handed_at c2 c ≡ handed_at c1 c
      long_elsewhere c other = ap (λ (a : Waiting). durable_at count_drum c + length a.items) (array_elsewhere books.arrays b c (pushed bin offer).array other)

      abbrev count_next : ℕ
      count_next = (slice_index words (count_word opening b) + 1) % 2 ^ 64

      count_words : (c : ℕ) → c < buckets_of opening → slice_index (slice_set words (count_word opening b) count_next) (count_word opening c) ≡ handed_at c2 c % 2 ^ 64
      count_words c inside_c = ⊎_elim
          (λ same. subst (λ (n : ℕ). slice_index (slice_set words (count_word opening b) count_next) (count_word opening n) ≡ handed_at c2 n % 2 ^ 64) (sym same.1)
          (get_or-set_same words (count_word opening b) count_next 0 is.long ∙ ap (λ (n : ℕ). (n + 1) % 2 ^ 64) (count_whole ∙ count_handed) ∙ ap (λ (n : ℕ). n % 2 ^ 64) (sym long_here)))
          (λ other. get_or-set_other words (count_word opening b) (count_word opening c) count_next 0 (λ same. other.1 (omega (arith, same)))
          ∙ books.counts c inside_c ∙ ap (λ (n : ℕ). n % 2 ^ 64) (sym (long_elsewhere c other.1)))
          (eqb_tells c b)

      pub books_count : HasBooks opening (slice_set words (count_word opening b) count_next) (slice_set knowns id (with_entry b (slice_index words (count_word opening b)) offer known)) after
      books_count = record {
        stand = books.stand;
        arrays = count_arrays;
        news = books.news ++ counted ∷ [];
        yard_is = is.others (buckets_of opening) (λ same. omega (arith, same, is.within)) ∙ books.yard_is;
        bins_are = count_bins;
        counts = count_words;
        enters = enters_one tells.told lawful (fresh_of opening) books.stand.yard.store books.stand.yard.parts books.stand.last books.arrays count_arrays books.news books.news counted is_one
            books.enters;
        parts = parts_entry books.news books.stand.last knowns id b (slice_index words (count_word opening b)) offer known is.seat is.part books.parts;
        memory = books.memory;
      }

  -- ---- room was made
  module _ (words : List ℕ) (knowns : List Known) (held after : ℕ → Held S tells) (id b : ℕ) (known : Known) (was now : Bin) (old new : Stand S tells) (result : Result (Unit {0}) Fault) where
    pub record IsNote : Type 0 where
      pub seat : get_elem? knowns id ≡ some known
      pub part : 1 ≤ known.parts
      pub within : b < buckets_of opening
      pub bin_was : held b ≡ InBin was
      pub yard_was : held (buckets_of opening) ≡ InYard old
      pub bin_now : after b ≡ InBin now
      pub yard_now : after (buckets_of opening) ≡ InYard new
      pub others : (t : ℕ) → t ≢ b → t ≢ buckets_of opening → after t ≡ held t
      pub refills : Refills result b was now old new

    module _ (is : IsNote) (books : HasBooks opening words knowns held) where
      note_stand : old ≡ books.stand
      note_stand = same_stand old books.stand (sym is.yard_was ∙ books.yard_is)

      note_old : Enters tells.told none_more books.news (fresh_of opening) (serving_now old books.arrays books.news)
      note_old = subst (λ (s : Stand S tells). Enters tells.told none_more books.news (fresh_of opening) (serving_now s books.arrays books.news)) (sym note_stand) books.enters

      note_bin : was ≡ bin_of old books.arrays b
      note_bin = same_bin was (bin_of old books.arrays b) (sym is.bin_was ∙ books.bins_are b is.within ∙ ap (λ (s : Stand S tells). InBin (bin_of s books.arrays b)) (sym note_stand))

      note_settings : old.yard.parts.urls.settings ≡ opening.parts.urls.settings
      note_settings = note_old.stays.settings

      note_within : b < old.yard.parts.urls.settings.buckets
      note_within = omega (arith, is.within, ap (λ (s : Settings). s.buckets) note_settings)

      note_inside : b < length books.arrays
      note_inside = omega (arith, note_within, note_old.arrays.count)

      abbrev note_arrays : List Waiting
      note_arrays = set books.arrays b now.array

      abbrev s1 : Serving S
      s1 = serving_now old books.arrays books.news

      abbrev s2 : Serving S
      s2 = serving_now new note_arrays books.news

      note_array : was.array ≡ array_at books.arrays b
      note_array = ap (λ (x : Bin). x.array) note_bin

      note_steps : old.last ≡ None → Steps result none_more (moment_at tells.told s1) (moment_at tells.told s2)
      note_steps none =
          let others = waiting_at books.arrays in
          let from : with_waiting others b was.array.items ≡ others = ap (λ (a : Waiting). with_waiting others b a.items) note_array ∙ waits_same books.arrays b in
          let to : with_waiting others b now.array.items ≡ waiting_at note_arrays = waits_set books.arrays b now.array note_inside in
          subst (λ (w : Waits). Steps result none_more (yard_at old.yard w) (moment_at tells.told s2)) from
          (subst (λ (w : Waits). Steps result none_more (yard_at old.yard (with_waiting others b was.array.items)) (yard_at new.yard w)) to
          (is.refills.steps none others (few_wait (moment_at tells.told s1) books.arrays note_old.arrays (λ c. refl))))

      last_is : old.last ≡ None → IsLastBy result new.last
      last_is none = last_by result new.last (is.refills.last none)

      enters_done : old.last ≡ None → Enters tells.told none_more books.news (fresh_of opening) s2
      enters_done none =
          let moved = note_steps none in
          let arrays_are = arrays_set old.yard.parts.urls.settings new.yard.parts.urls.settings books.arrays b now.array moved.stays.settings note_inside note_old.arrays is.refills.array in
          let second = enters_steps tells.told result none_more s1 s2 refl is.refills.rest arrays_are (last_is none) (is.refills.sound none) moved in
          subst (λ (l : List Entered). Enters tells.told none_more l (fresh_of opening) s2) (append-nil books.news)
          (enters_both tells.told none_more books.news [] (fresh_of opening) s1 s2 (lawful old.yard.store) none note_old second)

      enters_again : (fault : Fault) → old.last ≡ Some fault → Enters tells.told none_more books.news (fresh_of opening) s2
      enters_again fault stopped =
          let again = is.refills.again fault stopped in
          let arrays : note_arrays ≡ books.arrays = set_same books.arrays b was.array now.array note_array (ap (λ (x : Bin). x.array) again.2) in
          subst (λ (l : List Waiting). Enters tells.told none_more books.news (fresh_of opening) (serving_now new l books.news)) (sym arrays)
          (subst (λ (s : Stand S tells). Enters tells.told none_more books.news (fresh_of opening) (serving_now s books.arrays books.news)) (sym again.1) note_old)

      enters_later : Enters tells.told none_more books.news (fresh_of opening) s2
      enters_later = by_last old.last enters_done enters_again

      last_later : (old.last ≡ None) ⊎ (new.last ≡ old.last)
      last_later = by_last old.last (λ none. inl none) (λ fault stopped. inr (ap (λ (s : Stand S tells). s.last) (is.refills.again fault stopped).1))

      memory_later : new.last ≡ Some Memory → ⊥
      memory_later = λ memory. by_last old.last
          (λ none. after_no_memory result (sym (is.refills.last none) ∙ memory))
          (λ fault stopped. books.memory (ap (λ (s : Stand S tells). s.last) (sym note_stand) ∙ sym (ap (λ (s : Stand S tells). s.last) (is.refills.again fault stopped).1) ∙ memory))

      -- no bucket has more or less than it had
      handed_same : (c : ℕ) → handed_at (moment_at tells.told s2) c ≡ handed_at (moment_at tells.told s1) c
      handed_same c = enters_later.counts c ∙ sym (note_old.counts c)

      durable_same : (c : ℕ) → c ≢ b → durable_at new.yard.parts.urls c ≡ durable_at old.yard.parts.urls c
      durable_same c other = omega (arith, handed_same c, ap (λ (a : Waiting). length a.items) (array_elsewhere books.arrays b c now.array other))

      note_bins : (c : ℕ) → c < buckets_of opening → after c ≡ InBin (bin_of new note_arrays c)
      note_bins c inside_c = ⊎_elim
          (λ same. subst (λ (n : ℕ). after n ≡ InBin (bin_of new note_arrays n)) (sym same.1)
          (is.bin_now ∙ ap (λ (x : Bin). InBin x)
          (bin_made now (durable_at new.yard.parts.urls b) (array_at note_arrays b) is.refills.first (sym (array_here books.arrays b now.array note_inside)))))
          (λ other. is.others c other.1 (λ same. omega (arith, same, inside_c)) ∙ books.bins_are c inside_c
          ∙ ap (λ (x : Bin). InBin x) (bin_made (bin_of books.stand books.arrays c) (durable_at new.yard.parts.urls c) (array_at note_arrays c)
          (ap (λ (s : Stand S tells). durable_at s.yard.parts.urls c) (sym note_stand) ∙ sym (durable_same c other.1)) (sym (array_elsewhere books.arrays b c now.array other.1))))
          (eqb_tells c b)

      pub books_note : HasBooks opening words (slice_set knowns id (with_last new.last known)) after
      books_note = record {
        stand = new;
        arrays = note_arrays;
        news = books.news;
        yard_is = is.yard_now;
        bins_are = note_bins;
        counts = λ c inside_c. books.counts c inside_c
            ∙ ap (λ (s : Stand S tells). handed_at (moment_at tells.told (serving_now s books.arrays books.news)) c % 2 ^ 64) (sym note_stand)
            ∙ ap (λ (n : ℕ). n % 2 ^ 64) (sym (handed_same c));
        enters = enters_later;
        parts = parts_last books.news old.last new.last knowns id known is.seat is.part last_later
            (subst (λ (s : Stand S tells). AreParts books.news s.last knowns) (sym note_stand) books.parts);
        memory = memory_later;
      }

  -- ---- a store that is just opened
  module _ (words : List ℕ) (arrays : List Waiting) (held : ℕ → Held S tells) (drum : IsDrum opening.parts.urls) (sound : IsSound opening.parts)
      (are : AreArrays opening.parts.urls.settings arrays) (empty : (b : ℕ) → waiting_at arrays b ≡ []) where
    abbrev first_stand : Stand S tells
    first_stand = record { yard = opening; last = None }

    none_yet : waiting_at arrays ≡ waiting_at []
    none_yet = λ i b. empty b i

    enters_first : Enters tells.told none_more [] (fresh_of opening) (serving_now first_stand arrays [])
    enters_first =
        let now = moment_at tells.told (serving_now first_stand arrays []) in
        let same = steps_none tt now (lawful opening.store) drum (few_wait now arrays are (λ b. refl)) in
        let steps : Steps {A = Unit {0}} (Ok tt) none_more (moment_at tells.told (fresh_of opening)) now =
        subst (λ (w : Waits). Steps {A = Unit {0}} (Ok tt) none_more (yard_at opening w) now) none_yet same in
        enters_steps tells.told (Ok tt) none_more (fresh_of opening) (serving_now first_stand arrays []) refl refl are (last_by (Ok tt) None refl)
        (record { drum = drum; sound = λ not. sound; unsound = λ is. absurd (ok_not_failed is) }) steps

    pub books_first : held (buckets_of opening) ≡ InYard first_stand
        → ((b : ℕ) → b < buckets_of opening → held b ≡ InBin (record { first = durable_at opening.parts.urls b; array = array_at arrays b }))
        → ((b : ℕ) → b < buckets_of opening → slice_index words (count_word opening b) ≡ durable_at opening.parts.urls b)
        → ((b : ℕ) → b < buckets_of opening → durable_at opening.parts.urls b < 2 ^ 64) → HasBooks opening words (fresh_known all_parts ∷ []) held
    books_first yard bins counts small = record {
      stand = first_stand;
      arrays = arrays;
      news = [];
      yard_is = yard;
      bins_are = bins;
      counts = λ b within.
          let all : durable_at opening.parts.urls b + length (waiting_at arrays b) ≡ durable_at opening.parts.urls b = omega (arith, ap (λ (l : List Tuple). length l) (empty b)) in
          counts b within ∙ sym (mod-eq_of_lt (small b within)) ∙ ap (λ (n : ℕ). n % 2 ^ 64) (sym all);
      enters = enters_first;
      parts = parts_first;
      memory = λ is. none_no_memory is;
    }
