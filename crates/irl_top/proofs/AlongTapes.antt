-- A run over a tape leaves a store along it that was along it.
use Rattle.std.proofs.Common.{◌≡◌, ◌≢◌, ◌∙◌, ◌⊎◌, inl, inr, ⊎_elim, ℕ, List, [], ◌∷◌, ◌++◌, map, length, replicate, Option, None, Some, refl, sym, ap, subst, arith, append-nil, length-append}
use Rattle.std.specs.Prelude.{unwrap_or}
use Rattle.std.specs.List.{Contains}
use Rattle.irl_bay.proofs.Blank.{blank_is_book}
use Rattle.irl_core.specs.States.{offers_of as offers_in}
use Rattle.irl_crawl.specs.Turning.{input_of}
use Rattle.irl_crawl.proofs.Stores.{store_as}
use Rattle.irl_disk.specs.Disk.{Files}
use Rattle.irl_disk.proofs.Stretches.{widens}
use Rattle.irl_events.specs.Events.{Happened}
use Rattle.irl_events.specs.State.{State, AreFronts, IsFrontState, blank_state}
use Rattle.irl_fate.specs.Fates.{fate_of}
use Rattle.irl_fate.specs.declared.fate.Fate.TheVariants.{Done as DoneFate}
use Rattle.irl_head.specs.Asking.{Agrees}
use Rattle.irl_key.specs.Key.{key_of}
use Rattle.irl_model.specs.Book.{ArePrefixes, Book, IsBook, IsFront, IsPrefixOf, uniques}
use Rattle.irl_model.specs.Judging.{KeyMap}
use Rattle.irl_offer.specs.Settings.{settings_of}
use Rattle.irl_offer.specs.Tuple.{Tuple}
use Rattle.irl_offer.specs.declared.offer.Op.TheVariants.{Both}
use Rattle.irl_offer.specs.declared.offer.Rule.{Rule}
use Rattle.irl_offer.specs.declared.offer.Rule.TheVariants.{Keep}
use Rattle.irl_offer.specs.declared.outcome.Outcome.{Outcome}
use Rattle.irl_offer.specs.declared.settings.Asked.{Asked}
use Rattle.irl_offer.specs.declared.settings.Kind.{Kind}
use Rattle.irl_offer.specs.declared.settings.Kind.TheVariants.{Lines, Tuples, Crawl as CrawlKind}
use Rattle.irl_offer.specs.declared.settings.Settings.{Settings}
use Rattle.irl_reach.specs.Along.{IsAlong, keys_in}
use Rattle.irl_reach.specs.Crawls.{Crawls, IsCrawlStore, IsStore, Visit, added_to, numbers_in}
use Rattle.irl_reach.specs.Reached.{Reached}
use Rattle.irl_reach.proofs.Anew.{both_anew, crawls_anew}
use Rattle.irl_reach.proofs.Ending.{none_pending, none_reached, reached_unique, seed_listed, unique_reached}
use Rattle.irl_reach.proofs.Growing.{added_new, grows_fronts}
use Rattle.irl_reach.proofs.Members.{no_member}
use Rattle.irl_reach.proofs.Suffixes.{plain_by, stays_by}
use Rattle.irl_reach.proofs.Turns.{added_same, crawls_quiet, crawls_wider}
use Rattle.irl_record.specs.Fetched.{by_tape}
use Rattle.irl_record.specs.Taped.{Taped}
use Rattle.irl_record.specs.Widening.{Answers, Widens}
use Rattle.irl_words.specs.declared.command.RunOptions.{RunOptions}
use Rattle.irl_yard.specs.Leading.{HasOneBetween}
use Rattle.irl_yard.specs.Opening.{entered_state}
use Rattle.irl_yard.specs.Passing.{come}
use Rattle.irl_yard.specs.Standing.{HasState, IsMade, IsRest}
use Rattle.irl_yard.proofs.Grounds.{entered_made}
use Rattle.irl_yard.proofs.Holding.{made_state}
use Rattle.irl_yard.proofs.StoreOfCrawl.{store_of_crawl}
use Rattle.irl_yard.proofs.States.{no_settings, one_state, state_both}
use Rattle.irl_top.specs.Crawled.{AreAllDone, CrawlRun, CrawlTask, CrawlsStore, HasReached, IsCrawled, IsInput, KeepsAlong, MayCrawl, StaysAlong, replay_task, settings_for, site_task, suffixes_for}
use Rattle.irl_top.specs.Outside.{Lent}
use Rattle.irl_top.specs.declared.ending.Ending.{Ending}
use Rattle.irl_top.specs.declared.ending.Ending.TheVariants.{Done, DiskFault}
use Rattle.irl_top.proofs.CrawlRuns.{kind_agrees}

-- ---- a state between another and itself
none_left : {X : Type 0} (rest : List X) → length rest ≡ 0 → rest ≡ []
none_left [] is = refl
none_left (x ∷ rest) is = absurd (omega (arith, is))

prefix_end : {X : Type 0} (xs ys : List X) → IsPrefixOf xs ys → IsPrefixOf ys xs → ys ≡ xs
prefix_end {X = X} xs ys one two =
    let long : length ys ≡ length (xs ++ one.0) = ap (λ (l : List X). length l) one.1 in
    let back : length xs ≡ length (ys ++ two.0) = ap (λ (l : List X). length l) two.1 in
    let none = none_left one.0 (omega (arith, long, back, length-append xs one.0, length-append ys two.0)) in
    one.1 ∙ ap (λ (r : List X). xs ++ r) none ∙ append-nil xs

prefixes_end : (xs ys : List (List Tuple)) → ArePrefixes xs ys → ArePrefixes ys xs → ys ≡ xs
prefixes_end [] [] one two = refl
prefixes_end [] (y ∷ ys) one two = absurd one
prefixes_end (x ∷ xs) [] one two = absurd one
prefixes_end (x ∷ xs) (y ∷ ys) one two = ap (λ z. z ∷ ys) (prefix_end x y one.0 two.0) ∙ ap (λ zs. x ∷ zs) (prefixes_end xs ys one.1 two.1)

same_book : (buckets : ℕ) (rule : Rule) (base : KeyMap) (dropped : ℕ) (firsts : List ℕ) (lists : List (List Tuple)) (cuts : List (List ℕ)) (book : Book) → buckets ≡ book.buckets → rule ≡ book.rule
    → base ≡ book.base → dropped ≡ book.dropped → firsts ≡ book.firsts → lists ≡ book.lists → cuts ≡ book.cuts
    → record { buckets = buckets; rule = rule; base = base; dropped = dropped; firsts = firsts; lists = lists; cuts = cuts } ≡ book
same_book buckets rule base dropped firsts lists cuts book a b c d e f g = rw (a, b, c, d, e, f, g) refl

book_end : (x y : Book) → IsFront x y → IsFront y x → y ≡ x
book_end x y one two =
    same_book y.buckets y.rule y.base y.dropped y.firsts y.lists y.cuts x one.buckets one.rule one.base one.dropped one.firsts (prefixes_end x.lists y.lists one.lists two.lists)
    (prefix_end x.cuts y.cuts one.cuts two.cuts)

same_state : (settings : Option Settings) (urls pairs : Book) (events : List Happened) (state : State) → settings ≡ state.settings → urls ≡ state.urls → pairs ≡ state.pairs → events ≡ state.events
    → record { settings = settings; urls = urls; pairs = pairs; events = events } ≡ state
same_state settings urls pairs events state a b c d = rw (a, b, c, d) refl

fronts_end : (x y : State) → AreFronts x y → AreFronts y x → y ≡ x
fronts_end x y one two =
    same_state y.settings y.urls y.pairs y.events x one.settings (book_end x.urls y.urls one.urls two.urls) (book_end x.pairs y.pairs one.pairs two.pairs)
    (prefix_end x.events y.events one.events two.events)

unmade : (y : State) (image : Files) → HasState y image → y.settings ≡ None → y ≡ blank_state
unmade y image (inl blank) none = blank.1
unmade y image (inr made) none = absurd (no_settings made.0 (sym made.1.settings_are ∙ none))

between_itself : (x y : State) (files image : Files) → HasState x files → HasState y image → IsFrontState x y → IsFrontState y x → y ≡ x
between_itself x y files image for_x for_y (inl none) (inl bare) = unmade y image for_y bare ∙ sym (unmade x files for_x none)
between_itself x y files image for_x for_y (inl none) (inr two) = unmade y image for_y (sym two.settings ∙ none) ∙ sym (unmade x files for_x none)
between_itself x y files image for_x for_y (inr one) (inl bare) = unmade y image for_y bare ∙ sym (unmade x files for_x (sym one.settings ∙ bare))
between_itself x y files image for_x for_y (inr one) (inr two) = fronts_end x y one two

-- ---- stores
crawl_store : (settings : Settings) (state : State) (files : Files) → settings.kind ≡ CrawlKind → IsMade settings state files → IsCrawlStore settings state
crawl_store settings state files kind made =
    store_as settings state (store_of_crawl settings state kind (made_state settings state files made))

-- a store of another kind has no event
by_kind : (kind : Kind) (settings : Settings) (urls pairs : Book) (events : List Happened) → IsRest kind settings urls pairs events → (kind ≡ CrawlKind) ⊎ (events ≡ [])
by_kind Lines settings urls pairs events rest = inr rest.events_are
by_kind Tuples settings urls pairs events rest = inr rest.events_are
by_kind CrawlKind settings urls pairs events rest = inl refl

book_of : (y : State) (image : Files) → HasState y image → IsBook y.urls × (y.urls.dropped ≡ 0)
book_of y image (inl blank) = subst (λ (s : State). IsBook s.urls × (s.urls.dropped ≡ 0)) (sym blank.1) (blank_is_book 1 Keep refl, refl)
book_of y image (inr made) = (made.1.urls.book_is.is_book, made.1.urls.book_is.dropped)

-- what is done by the settings that a state has, is by some
done_by : (asked : Asked) (y : State) (image : Files) → HasState y image → AreAllDone y
    → (settings : Settings) × ((number : ℕ) → Contains (numbers_in y.urls) number → (outcome : Outcome) × (fate_of (come settings y) number ≡ DoneFate outcome))
done_by asked y image (inl blank) all = (settings_of asked, λ n h. absurd (no_member n (subst (λ (s : State). Contains (numbers_in s.urls) n) blank.1 h)))
done_by asked y image (inr made) all = (made.0, λ n h. all made.0 n made.1.settings_are h)

-- ---- a crawl from the state that entering leaves is one from the state
entered_crawl : (asked : Asked) (x : State) (files : Files) → HasState x files → (input : Taped) (gives : Answers) (agent : List ℕ) (visits : List Visit) (y : State)
    → Crawls input gives agent visits (entered_state asked x) y → Crawls input gives agent visits x y
entered_crawl asked x files (inl blank) input gives agent visits y crawls =
    subst (λ (s : State). Crawls input gives agent visits s y) (sym blank.1)
    (crawls_anew input gives agent visits (entered_state asked blank_state) y (settings_of asked).buckets refl refl
    (subst (λ (s : State). Crawls input gives agent visits (entered_state asked s) y) blank.1 crawls))
entered_crawl asked x files (inr made) input gives agent visits y crawls =
    subst (λ (s : State). Crawls input gives agent visits s y) (entered_made asked made.0 x made.1.settings_are) crawls

-- what stands in the lists of a store that a run entered, and didn't change
added_entered : (asked : Asked) (x : State) (files : Files) → HasState x files → added_to (entered_state asked x).urls.lists x.urls.lists ≡ []
added_entered asked x files (inl blank) =
    subst (λ (s : State). added_to (entered_state asked s).urls.lists s.urls.lists ≡ []) (sym blank.1) (added_new (settings_of asked).buckets ([] ∷ []))
added_entered asked x files (inr made) =
    subst (λ (s : State). added_to s.urls.lists x.urls.lists ≡ []) (sym (entered_made asked made.0 x made.1.settings_are)) (added_same x.urls.lists)

some_same : (one other : Settings) → Some one ≡ Some other → one ≡ other
some_same one other same = cc

settings_made : (asked : Asked) (settings : Settings) (x : State) → x.settings ≡ Some settings → settings_for asked (entered_state asked x) ≡ settings
settings_made asked settings x is =
    ap (λ (s : State). settings_for asked s) (entered_made asked settings x is) ∙ ap (λ (o : Option Settings). unwrap_or o (settings_of asked)) is

-- ---- a run
-- a crawl by answers of the tape leads from a state to another
record CrawlsFrom (tape : Taped) (agent : List ℕ) (x y : State) : Type 0 where
  input : Taped
  visits : List Visit
  seeds : input.seeds ≡ tape.seeds
  crawls : Crawls input (by_tape tape) agent visits x y

module _ (task : CrawlTask) (asked : Asked) (bytes : Option (List ℕ)) (tape : Taped) (gives : (input : Taped) → Widens (task.given input).gives (by_tape input))
    (one : (input : Taped) → IsInput task bytes input → input ≡ tape) (kind : asked.kind ≡ CrawlKind) (files : Files) (x : State) (has : HasState x files) (along : IsAlong tape task.agent x) where
  crawls_from : (input : Taped) (suffixes : List ℕ) (visits : List Visit) (y : State) → IsInput task bytes input
      → Crawls (input_of suffixes input.seeds) (task.given input).gives task.agent visits (entered_state asked x) y → CrawlsFrom tape task.agent x y
  crawls_from input suffixes visits y is crawls =
      let wide = crawls_wider (task.given input).gives (by_tape input) (gives input) (input_of suffixes input.seeds) task.agent [] visits (entered_state asked x) y crawls in
      record {
        input = input_of suffixes input.seeds;
        visits = visits;
        seeds = ap (λ (t : Taped). t.seeds) (one input is);
        crawls = entered_crawl asked x files has (input_of suffixes input.seeds) (by_tape tape) task.agent visits y
            (subst (λ (t : Taped). Crawls (input_of suffixes input.seeds) (by_tape t) task.agent visits (entered_state asked x) y) (one input is) wide);
      }

  may_from : (y : State) → MayCrawl task (settings_for asked (entered_state asked x)) bytes (entered_state asked x) y → CrawlsFrom tape task.agent x y
  may_from y (inl same) = record {
    input = tape;
    visits = [];
    seeds = refl;
    crawls = entered_crawl asked x files has tape (by_tape tape) task.agent [] y
        (crawls_quiet tape (by_tape tape) task.agent [] (entered_state asked x) y (ap (λ (s : State). s.urls.lists) same) (ap (λ (s : State). s.events) same));
  }
  may_from y (inr (input, is, fits, only, front)) = crawls_from input (suffixes_for (entered_state asked x) input) only.visits y is only.crawls

  kind_of : (made : Settings) → x.settings ≡ Some made → Agrees asked (settings_for asked (entered_state asked x)) → made.kind ≡ CrawlKind
  kind_of made is agrees = kind_agrees asked made (subst (Agrees asked) (settings_made asked made x is) agrees) kind

  store_at : Agrees asked (settings_for asked (entered_state asked x)) → HasState x files → IsStore x
  store_at agrees (inl blank) = inl blank.1
  store_at agrees (inr made) = inr (made.0, crawl_store made.0 x files (kind_of made.0 made.1.settings_are agrees) made.1)

  -- each state on the way stays along the tape
  along_made : (y z : State) (image : Files) (made : Settings) → IsMade made z image → IsStore x → CrawlsFrom tape task.agent x y → IsFrontState x z → IsFrontState z y → IsAlong tape task.agent z
  along_made y z image made is store from first second = elim (by_kind made.kind made z.urls z.pairs z.events is.legal) [
    | inl crawl ↦
        stays_by from.input tape task.agent from.visits x z y from.seeds along from.crawls store (inr (made, crawl_store made z image crawl is)) first second
    | inr none ↦
        plain_by from.input tape task.agent from.visits x z y from.seeds along from.crawls store (state_both x z y first second)
        (λ offer h. ⊎_elim (λ (bare : z.settings ≡ None). absurd (no_settings made (sym is.settings_are ∙ bare)))
        (λ (fronts : AreFronts z y). (grows_fronts z y is.urls.book_is.is_book fronts).offers offer h) second) none
  ]

  along_on : (y z : State) (image : Files) → HasState z image → IsStore x → CrawlsFrom tape task.agent x y → IsFrontState x z → IsFrontState z y → IsAlong tape task.agent z
  along_on y z image (inl blank) store from first second =
      stays_by from.input tape task.agent from.visits x z y from.seeds along from.crawls store (inl blank.1) first second
  along_on y z image (inr made) store from first second = along_made y z image made.0 made.1 store from first second

  along_at : (most z : State) (image : Files) → (most ≡ x) ⊎ MayCrawl task (settings_for asked (entered_state asked x)) bytes (entered_state asked x) most
      → (most ≡ x) ⊎ Agrees asked (settings_for asked (entered_state asked x)) → HasState z image → IsFrontState x z → IsFrontState z most → IsAlong tape task.agent z
  along_at most z image may agrees for_z first second =
      let still : most ≡ x → IsAlong tape task.agent z = λ same.
      subst (λ s. IsAlong tape task.agent s) (sym (between_itself x z files image has for_z first (subst (λ s. IsFrontState z s) same second))) along in
      ⊎_elim still (λ made. ⊎_elim still (λ crawled. along_on most z image for_z (store_at made has) (may_from most crawled) first second) may) agrees

  -- ---- at Done
  module _ (y : State) (image : Files) (for_y : HasState y image) (front : IsFrontState x y) (input : Taped) (is : IsInput task bytes input)
      (crawled : IsCrawled task (settings_for asked (entered_state asked x)) input (entered_state asked x) y) (along_y : IsAlong tape task.agent y) where
    abbrev Crawled : Taped
    Crawled = input_of (suffixes_for (entered_state asked x) input) input.seeds

    listed : (url : List ℕ) → Contains tape.seeds url → Contains (keys_in y.urls) (key_of url)
    listed url h =
        seed_listed Crawled crawled.crawls.visits (entered_state asked x) y crawled.whole.leaves url (subst (λ (t : Taped). Contains t.seeds url) (sym (one input is)) h)

    -- nothing is reached where nothing was added
    unreached : y ≡ x → (key : ℕ) → Reached tape task.agent key → ⊥
    unreached same key there =
        let none : added_to (entered_state asked x).urls.lists y.urls.lists ≡ [] = ap (λ (s : State). added_to (entered_state asked x).urls.lists s.urls.lists) same
        ∙ added_entered asked x files has in
        none_reached Crawled crawled.crawls.visits (entered_state asked x) y crawled.whole.leaves none tape task.agent (ap (λ (t : Taped). t.seeds) (one input is)) key there

    -- each offer enters its key
    both_new : (entered_state asked x).urls.lists ≡ replicate (settings_of asked).buckets [] → (entered_state asked x).events ≡ [] → (offer : Tuple) → Contains (offers_in y.urls) offer
        → offer.op ≡ Both
    both_new lists events =
        both_anew (input_of (suffixes_for (entered_state asked x) input) input.seeds) (task.given input).gives task.agent crawled.crawls.visits (entered_state asked x) y (settings_of asked).buckets
        lists events crawled.crawls.crawls

    both_made : (made other : Settings) → IsMade made x files → IsMade other y image → Agrees asked (settings_for asked (entered_state asked x)) → AreFronts x y → (offer : Tuple)
        → Contains (offers_in y.urls) offer → offer.op ≡ Both
    both_made made other of_x of_y agrees fronts =
        let same : made ≡ other = some_same made other (sym of_x.settings_are ∙ sym fronts.settings ∙ of_y.settings_are) in
        let crawl : other.kind ≡ CrawlKind = subst (λ (s : Settings). s.kind ≡ CrawlKind) same (kind_of made of_x.settings_are agrees) in
        (crawl_store other y image crawl of_y).both

    both_by : HasState x files → HasState y image → IsFrontState x y → Agrees asked (settings_for asked (entered_state asked x)) → (offer : Tuple) → Contains (offers_in y.urls) offer
        → offer.op ≡ Both
    both_by (inl blank) of_y first agrees =
        both_new (ap (λ (s : State). (entered_state asked s).urls.lists) blank.1) (ap (λ (s : State). (entered_state asked s).events) blank.1)
    both_by (inr made) of_y (inl none) agrees = absurd (no_settings made.0 (sym made.1.settings_are ∙ none))
    both_by (inr made) (inl blank) (inr fronts) agrees = absurd (no_settings made.0 (sym made.1.settings_are ∙ sym fronts.settings ∙ ap (λ (s : State). s.settings) blank.1))
    both_by (inr made) (inr other) (inr fronts) agrees = both_made made.0 other.0 made.1 other.1 agrees fronts

    all_reached : Agrees asked (settings_for asked (entered_state asked x)) → AreAllDone y → (key : ℕ) → Reached tape task.agent key → Contains (map (λ p. p.1.key) (uniques y.urls)) key
    all_reached agrees all key there =
        let book = book_of y image for_y in
        let done = done_by asked y image for_y all in
        reached_unique tape task.agent done.0 y along_y book.0 book.1 (both_by has for_y front agrees) (none_pending y.urls crawled.whole.judged.urls) listed done.1 key there

    has_reached : (y ≡ x) ⊎ Agrees asked (settings_for asked (entered_state asked x)) → AreAllDone y → HasReached tape task.agent y
    has_reached either all = λ key. (
      unique_reached tape task.agent y along_y key,
      λ there. ⊎_elim (λ (same : y ≡ x). absurd (unreached same key there)) (λ (agrees : Agrees asked (settings_for asked (entered_state asked x))). all_reached agrees all key there) either,
    )

never_disk : (ending : Ending) → ending ≡ Done → ending ≢ DiskFault
never_disk ending done = λ failed. let no : Done ≡ DiskFault = sym done ∙ failed in let never : ⊥ = cc in absurd never

-- ---- what it leaves
module _ (task : CrawlTask) (asked : Asked) (before after : Lent) (ending : Ending) (tape : Taped) (gives : (input : Taped) → Widens (task.given input).gives (by_tape input))
    (one : (input : Taped) → IsInput task before.input.bytes input → input ≡ tape) (kind : asked.kind ≡ CrawlKind) (files : Files) (x : State) (has : HasState x files)
    (along : IsAlong tape task.agent x) (run : CrawlsStore task asked before after ending x) where
  state_front : IsFrontState x run.state
  state_front = state_both x run.kept run.state run.first run.fronts.0

  along_here : (most z : State) (image : Files) → (most ≡ x) ⊎ MayCrawl task (settings_for asked (entered_state asked x)) before.input.bytes (entered_state asked x) most
      → (most ≡ x) ⊎ Agrees asked (settings_for asked (entered_state asked x)) → HasState z image → IsFrontState x z → IsFrontState z most → IsAlong tape task.agent z
  along_here = along_at task asked before.input.bytes tape gives one kind files x has along

  -- of what the files stand for
  module _ (later : Files) (told : after.store.files ≡ Some later) (y : State) (for_y : HasState y later) where
    is_state : run.state ≡ y
    is_state = one_state run.state y later (run.told later told) for_y

    along_told : IsAlong tape task.agent y
    along_told = subst (λ s. IsAlong tape task.agent s) is_state (along_here run.most run.state later run.may_most run.agrees (run.told later told) state_front run.fronts.1)

    reached_told : ending ≡ Done → AreAllDone y → HasReached tape task.agent y
    reached_told done all =
        let settled = run.settled (never_disk ending done) in
        let kept : run.kept ≡ y = sym settled.0 ∙ is_state in
        let crawled = run.done (inl done) in
        let either : (y ≡ x) ⊎ Agrees asked (settings_for asked (entered_state asked x)) = ⊎_elim (λ (same : run.most ≡ x). inl (sym kept ∙ sym settled.1 ∙ same)) (λ agrees. inr agrees) run.agrees in
        has_reached task asked before.input.bytes tape gives one kind files x has along y later for_y (subst (λ s. IsFrontState x s) is_state state_front) crawled.0 crawled.1
        (subst (λ s. IsCrawled task (settings_for asked (entered_state asked x)) crawled.0 (entered_state asked x) s) kept crawled.2) along_told either all

  along_between : (image : Files) → HasOneBetween x run.most image → (z : State) → HasState z image → IsAlong tape task.agent z
  along_between image between z for_z =
      subst (λ s. IsAlong tape task.agent s) (one_state between.0 z image between.1 for_z) (along_here run.most between.0 image run.may_most run.agrees between.1 between.2 between.3)

  pub stays_on : StaysAlong tape task.agent before after ending x
  stays_on = record {
    told = λ later told y for_y. along_told later told y for_y;
    stops = λ each. widens before.store after.store (HasOneBetween x run.most) (λ image. (z : State) → HasState z image → IsAlong tape task.agent z) (run.stops each) along_between;
    reached = λ done later told y for_y all. reached_told later told y for_y done all;
  }

-- ---- the whole
pub keeps_along : (task : CrawlTask) (asked : Asked) (before after : Lent) (ending : Ending) → ((input : Taped) → Widens (task.given input).gives (by_tape input)) → asked.kind ≡ CrawlKind
    → CrawlRun task asked before after ending → KeepsAlong task before after ending
keeps_along task asked before after ending gives kind run = λ tape is files told x has along.
    stays_on task asked before after ending tape gives is.1 kind files x has along (run.crawls files told x has)

-- the tasks over a tape that gives the answers
pub replay_gives : (options : RunOptions) (input : Taped) → Widens ((replay_task options).given input).gives (by_tape input)
replay_gives options input = λ url want answer given. given

pub site_gives : (options : RunOptions) (pages : ℕ) (input : Taped) → Widens ((site_task options pages).given input).gives (by_tape input)
site_gives options pages input = λ url want answer given. given
