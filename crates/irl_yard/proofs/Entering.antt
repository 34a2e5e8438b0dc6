-- What entering a store does to its files, and that it keeps the state, or makes the new store's.
use Rattle.std.proofs.Common.{◌≡◌, ◌≢◌, ◌∙◌, ◌⊎◌, ⊎_elim, inl, inr, ℕ, zero, suc, ◌+◌, ◌*◌, ◌<◌, ◌≤◌, List, [], ◌∷◌, length, refl, sym, ap, subst, arith, Option, None, Some, IfSome}
use Rattle.std.specs.List.{AllByRecursion}
use Rattle.std.specs.Option.{ForSome}
use Rattle.irl_offer.specs.Settings.{AreValid, settings_of}
use Rattle.irl_offer.specs.declared.settings.Asked.{Asked}
use Rattle.irl_offer.specs.declared.settings.Settings.{Settings}
use Rattle.irl_offer.specs.declared.settings.Kind.{Kind}
use Rattle.irl_offer.specs.declared.settings.Kind.TheVariants.{Lines, Tuples, Crawl}
use Rattle.irl_model.specs.Book.{Book}
use Rattle.irl_events.specs.Events.{Happened}
use Rattle.irl_events.specs.State.{State, blank_state}
use Rattle.irl_disk.specs.Disk.{Files, Changes, ChangesFile, ChangesOnly, TellsBy}
use Rattle.irl_disk.specs.Images.{Told, IsConsistent, Follows, Leaves, LeavesBy, LeavesSame}
use Rattle.irl_disk.specs.Taken.{TakesAmong, TakesOnly}
use Rattle.irl_disk.proofs.Before.{below_or_above}
use Rattle.irl_disk.proofs.Frames.{takes_only}
use Rattle.irl_disk.proofs.Stretches.{joins, joins_by, widens, widens_by, same_by, left_now}
use Rattle.irl_journal.specs.Format.{StandsFor}
use Rattle.irl_journal.specs.Visiting.{IsOpened}
use Rattle.irl_journal.proofs.Lists.{few_bytes}
use Rattle.irl_journal.proofs.Opened.{opened_stands}
use Rattle.irl_layout.specs.BayFiles.{file_of, IsFileOf}
use Rattle.irl_layout.specs.Commits.{Commit, IsCommit, first_commit, last_commit, live_side, side_of}
use Rattle.irl_layout.specs.declared.files.BayFile.TheVariants.{Manifest, Journal}
use Rattle.irl_bay.specs.Damage.{IsAdopted}
use Rattle.irl_bay.specs.Making.{IsJournalOn, IsJournalOf, IsUnmade, Makes}
use Rattle.irl_bay.proofs.Adopted.{takes_wider}
use Rattle.irl_bay.proofs.Apart.{files_within, stands_kept, unmade_stands, journal_files}
use Rattle.irl_bay.proofs.Flushing.{same_or_other}
use Rattle.irl_bay.proofs.LiveJournals.{adopted_wider}
use Rattle.irl_head.specs.StoreFiles.{head_file, crawl_file, urls_base, pairs_base, IsOtherFile}
use Rattle.irl_head.specs.Head.{head_bytes}
use Rattle.irl_head.specs.Opening.{IsBlank, HasHead, KeepsBlank}
use Rattle.irl_yard.specs.Standing.{ArePlainFiles, HasRest, IsMade, HasState}
use Rattle.irl_yard.specs.Holding.{HasLiveJournal, HasOneOf}
use Rattle.irl_yard.specs.Opening.{new_state, entered_state}
use Rattle.irl_head.specs.Writing.{GainsFirst}
use Rattle.irl_yard.specs.Entering.{IsRestFile, IsKindJournal, IsReadFile, IsStoreJournal, IsToldJournal, OpensStore, MakesStore, Enters}
use Rattle.irl_yard.specs.Making.{MakesRest}
use Rattle.irl_ledger.specs.Crawling.{events_of, pair_settings}
use Rattle.irl_log.specs.Spelling.{log_records}
use Rattle.irl_head.specs.Asking.{Agrees}
use Rattle.irl_head.proofs.Beginning.{file_stays}
use Rattle.irl_head.proofs.Grounds.{none_or_one, one_head}
use Rattle.irl_yard.proofs.Grounds.{blank_has, made_head}
use Rattle.irl_yard.proofs.ByKind.{new_has, new_rest, rest_stays}
use Rattle.irl_yard.proofs.RestFiles.{few, one_side, head_no_journal, pairs_rest, rest_no_file, rest_no_head, rest_no_journal, same_as_told}
use Rattle.irl_yard.proofs.Making.{head_no_urls, pairs_other, urls_other}

-- ---- the journals of a store
-- the rest's journals are among the files of the rest
pub kind_journal : (kind : Kind) (buckets f : ℕ) → IsKindJournal kind buckets f → IsRestFile buckets f
kind_journal Lines buckets f is = absurd is
kind_journal Tuples buckets f is = absurd is
kind_journal Crawl buckets f (inl e) = inl e
kind_journal Crawl buckets f (inr pairs) = pairs_rest buckets f (journal_files pairs_base buckets f pairs)

-- the journals of a store that was told with these settings are those of its kind
told_as : (asked : Asked) (told : Option Files) (files : Files) (settings : Settings) (f : ℕ) → told ≡ Some files → HasHead settings files → IsToldJournal asked told f
    → IsStoreJournal settings.kind settings.buckets f
told_as asked told files settings f is head (inl e) = inl e
told_as asked told files settings f is head (inr (other, valid, agrees, kept, journal)) =
    subst (λ (s : Settings). IsStoreJournal s.kind s.buckets f) (one_head other settings files (kept files is) head) journal

-- ---- a step of opening
pub opened_twice : (a b c : List ℕ) → IsOpened a b → IsOpened b c → IsOpened a c
opened_twice a b c (inl e) (inl d) = inl (d ∙ e)
opened_twice a b c (inl e) (inr s) = inr (rw (← e) s.0, λ is. s.1 (e ∙ is), s.2)
opened_twice a b c (inr s) (inl d) = inr (s.0, s.1, rw d s.2)
opened_twice a b c (inr s) (inr t) = inr (s.0, s.1, t.2)

opened_short : (old new : List ℕ) → length old ≤ 1 → IsOpened old new → length new ≤ 1
opened_short old new short (inl same) = subst (λ (file : List ℕ). length file ≤ 1) (sym same) short
opened_short old new short (inr s) = s.2

-- what is changed of the head may be changed again
pub looks_twice : (x y z : Files) → ChangesFile head_file IsOpened x y → ChangesFile head_file IsOpened y z → ChangesFile head_file IsOpened x z
looks_twice x y z first second = record {
  changed = opened_twice (x head_file) (y head_file) (z head_file) first.changed second.changed;
  others = λ f other. second.others f other ∙ first.others f other;
}

pub opens_none : (asked : Asked) (told : Option Files) (files : Files) → OpensStore asked told files files
opens_none asked told files = λ f. inl refl

-- each file changes at most as opening a journal may
each_opened : (asked : Asked) (told : Option Files) (old new : Files) → OpensStore asked told old new → (f : ℕ) → IsOpened (old f) (new f)
each_opened asked told old new opens f = ⊎_elim (λ same. inl same) (λ opened. opened.1) (opens f)

pub head_opens : (asked : Asked) (told : Option Files) (x y z : Files) → ChangesFile head_file IsOpened x y → OpensStore asked told y z → OpensStore asked told x z
head_opens asked told x y z first second = λ f. ⊎_elim
    (λ (e : f ≡ head_file). inr (
      inl e,
      subst (λ (h : ℕ). IsOpened (x h) (z h)) (sym e)
          (opened_twice (x head_file) (y head_file) (z head_file) first.changed (each_opened asked told y z second head_file)),
    ))
    (λ (other : f ≢ head_file). ⊎_elim
    (λ (same : z f ≡ y f). inl (same ∙ first.others f other))
    (λ (opened : IsToldJournal asked told f × IsOpened (y f) (z f)). inr (opened.0, subst (λ (file : List ℕ). IsOpened file (z f)) (first.others f other) opened.1))
    (second f))
    (same_or_other f head_file)

-- some file of a bucket's, or none
bucket_or_none : (from buckets f : ℕ) → ((b : ℕ) × (b < buckets) × (f ≡ from + 2 * b)) ⊎ ((b : ℕ) → b < buckets → f ≡ from + 2 * b → ⊥)
bucket_or_none from zero f = inr (λ b within e. omega (arith, within))
bucket_or_none from (suc n) f = ⊎_elim
    (λ (here : f ≡ from + 2 * n). inl (n, omega arith, here))
    (λ (other : f ≢ from + 2 * n). ⊎_elim
    (λ (found : (b : ℕ) × (b < n) × (f ≡ from + 2 * b)). inl (found.0, omega (arith, found.1), found.2))
    (λ (none : (b : ℕ) → b < n → f ≡ from + 2 * b → ⊥). inr (λ b within e. ⊎_elim
    (λ (below : b < n). none b below e)
    (λ (above : n ≤ b). other (e ∙ ap (λ (k : ℕ). from + 2 * k) (omega (arith, within, above))))
    (below_or_above b n)))
    (bucket_or_none from n f))
    (same_or_other f (from + 2 * n))

pub side_or_none : (base buckets f : ℕ) → IsJournalOf base buckets f ⊎ (IsJournalOf base buckets f → ⊥)
side_or_none base buckets f = ⊎_elim
    (λ (manifest : f ≡ base). inl (inl (omega (arith, manifest))))
    (λ (other : f ≢ base). ⊎_elim
    (λ (low : (b : ℕ) × (b < buckets) × (f ≡ (base + 10) + 2 * b)). inl (inr (0, low.0, omega arith, low.1, omega (arith, low.2))))
    (λ (no_low : (b : ℕ) → b < buckets → f ≡ (base + 10) + 2 * b → ⊥). ⊎_elim
    (λ (high : (b : ℕ) × (b < buckets) × (f ≡ (base + 500) + 2 * b)). inl (inr (1, high.0, omega arith, high.1, omega (arith, high.2))))
    (λ (no_high : (b : ℕ) → b < buckets → f ≡ (base + 500) + 2 * b → ⊥). inr (none other no_low no_high))
    (bucket_or_none (base + 500) buckets f))
    (bucket_or_none (base + 10) buckets f))
    (same_or_other f base)
  where
    none : f ≢ base → ((b : ℕ) → b < buckets → f ≡ (base + 10) + 2 * b → ⊥) → ((b : ℕ) → b < buckets → f ≡ (base + 500) + 2 * b → ⊥) → IsJournalOf base buckets f → ⊥
    none other no_low no_high (inl manifest) = other (omega (arith, manifest))
    none other no_low no_high (inr (zero, b, low, within, e)) = no_low b within (omega (arith, e))
    none other no_low no_high (inr (suc zero, b, low, within, e)) = no_high b within (omega (arith, e))
    none other no_low no_high (inr (suc (suc n), b, low, within, e)) = omega (arith, low)

-- the bay's journals are opened
pub adopted_opens : (asked : Asked) (told : Option Files) (settings : Settings) (old new : Files) → AreValid settings → Agrees asked settings → ForSome told (HasHead settings)
    → IsAdopted urls_base settings.buckets old new → OpensStore asked told old new
adopted_opens asked told settings old new valid agrees has step =
    let adopted = adopted_wider urls_base settings.buckets old new step in
    λ f. ⊎_elim
    (λ (is : IsJournalOf urls_base settings.buckets f). inr (inr (settings, valid, agrees, has, inr (inl is)), adopted.changed f is))
    (λ (none : IsJournalOf urls_base settings.buckets f → ⊥). inl (adopted.others f none))
    (side_or_none urls_base settings.buckets f)

-- ---- a step of making
-- the journals of a new store but the head
abbrev IsBesideHead : Settings → ℕ → Type 0
IsBesideHead settings f = IsJournalOf urls_base settings.buckets f ⊎ IsKindJournal settings.kind settings.buckets f

-- only they change, and what wasn't made isn't made yet
pub record MakesBeside (settings : Settings) (old new : Files) : Type 0 where
  pub others : ChangesOnly (IsBesideHead settings) old new
  pub unmade : IsUnmade urls_base settings.buckets old → IsUnmade urls_base settings.buckets new
  pub rest : ArePlainFiles settings.buckets old → ArePlainFiles settings.buckets new

pub beside_none : (settings : Settings) (x : Files) → MakesBeside settings x x
beside_none settings x = record { others = λ f out. refl; unmade = λ was. was; rest = λ was. was }

pub beside_both : (settings : Settings) (x y z : Files) → MakesBeside settings x y → MakesBeside settings y z → MakesBeside settings x z
beside_both settings x y z first second = record {
  others = λ f out. second.others f out ∙ first.others f out;
  unmade = λ was. second.unmade (first.unmade was);
  rest = λ was. second.rest (first.rest was);
}

-- none of them is the head
beside_no_head : (settings : Settings) → settings.buckets ≤ 64 → IsBesideHead settings head_file → ⊥
beside_no_head settings small (inl journal) = head_no_journal settings.buckets small journal
beside_no_head settings small (inr kind) = rest_no_head settings.buckets head_file (kind_journal settings.kind settings.buckets head_file kind) refl

-- the rest of a store stays where its files do
plain_same : (buckets : ℕ) (old new : Files) → ((f : ℕ) → IsRestFile buckets f → new f ≡ old f) → ArePlainFiles buckets old → ArePlainFiles buckets new
plain_same buckets old new same are = record {
  crawl = subst (λ (file : List ℕ). length file ≤ 1) (sym (same crawl_file (inl refl))) are.crawl;
  pairs = λ f is. subst (λ (file : List ℕ). length file ≤ 1) (sym (same f (pairs_rest buckets f is))) (are.pairs f is);
}

-- the bay of URLs is made,
pub urls_makes : (settings : Settings) (x y : Files) → settings.buckets ≤ 64 → Makes urls_base settings.buckets x y → MakesBeside settings x y
urls_makes settings x y small makes = record {
  others = λ f out. makes.others f (λ journal. out (inl (one_side 0 settings.buckets f (omega arith) journal)));
  unmade = makes.unmade;
  rest = plain_same settings.buckets x y (λ f rest. makes.others f (λ journal. rest_no_journal settings.buckets f small rest (one_side 0 settings.buckets f (omega arith) journal)));
}

-- and so is the rest
pub rest_makes : (settings : Settings) (x y : Files) → settings.buckets ≤ 64 → MakesRest settings.kind settings.buckets x y → MakesBeside settings x y
rest_makes settings x y small makes = record {
  others = λ f out. makes.others f (λ journal. out (inr journal));
  unmade = λ was f is. subst (λ (file : List ℕ). length file ≤ 1)
      (sym (makes.others f (λ journal. rest_no_file settings.buckets f small (kind_journal settings.kind settings.buckets f journal) is))) (was f is);
  rest = makes.unmade;
}

-- then the head may have its record
pub makes_then : (settings : Settings) (x y z : Files) → settings.buckets ≤ 64 → MakesBeside settings x y → ChangesFile head_file (GainsFirst (head_bytes settings)) y z → MakesStore settings x z
makes_then settings x y z small makes gains = record {
  others = λ f out. gains.others f (λ e. out (inl e)) ∙ makes.others f (λ journal. out (inr journal));
  unmade = λ unmade f is. subst (λ (file : List ℕ). length file ≤ 1) (sym (gains.others f (head_no_urls urls_base settings.buckets f refl small is))) (makes.unmade unmade f is);
  rest = λ unmade. plain_same settings.buckets y z (λ f rest. gains.others f (rest_no_head settings.buckets f rest)) (makes.rest unmade);
  head = λ none. gains.changed (subst (λ (file : List ℕ). StandsFor file []) (sym (makes.others head_file (beside_no_head settings small))) none);
}

pub makes_alone : (settings : Settings) (x y : Files) → settings.buckets ≤ 64 → MakesBeside settings x y → MakesStore settings x y
makes_alone settings x y small makes = makes_then settings x y y small makes (file_stays head_file (GainsFirst (head_bytes settings)) (λ file none. inl none) y)

head_makes : (settings : Settings) (x y z : Files) → settings.buckets ≤ 64 → ChangesFile head_file IsOpened x y → MakesStore settings y z → MakesStore settings x z
head_makes settings x y z small first second = record {
  others = λ f out. second.others f out ∙ first.others f (λ e. out (inl e));
  unmade = λ unmade. second.unmade (λ f is. subst (λ (file : List ℕ). length file ≤ 1) (sym (first.others f (head_no_urls urls_base settings.buckets f refl small is))) (unmade f is));
  rest = λ unmade. second.rest (plain_same settings.buckets x y (λ f rest. first.others f (rest_no_head settings.buckets f rest)) unmade);
  head = λ none. second.head (opened_stands (x head_file) (y head_file) [] first.changed none);
}

-- ---- entering behind a look at the head
head_enters : (asked : Asked) (told : Option Files) (x y z : Files) → ChangesFile head_file IsOpened x y → Enters asked told y z → Enters asked told x z
head_enters asked told x y z first (inl opens) = inl (head_opens asked told x y z first opens)
head_enters asked told x y z first (inr (blank, valid, makes)) = inr (blank, valid, head_makes (settings_of asked) x y z (few (settings_of asked) valid) first makes)

pub head_alone : (asked : Asked) (told : Option Files) (old new : Told) → LeavesBy (ChangesFile head_file IsOpened) old new → LeavesBy (Enters asked told) old new
head_alone asked told old new look = widens_by old new _ _ look (λ x y first. inl (head_opens asked told x y y first (opens_none asked told y)))

pub entered_then : (asked : Asked) (told : Option Files) (old mid new : Told) → IsConsistent mid → LeavesBy (ChangesFile head_file IsOpened) old mid → LeavesBy (Enters asked told) mid new
    → LeavesBy (Enters asked told) old new
entered_then asked told old mid new law look enters =
    joins old mid new (Follows (Enters asked told) old.images) (head_alone asked told old mid look)
    (widens mid new (Follows (Enters asked told) mid.images) (Follows (Enters asked told) old.images) enters (λ image from.
    let was = left_now old mid (Follows (ChangesFile head_file IsOpened) old.images) law look from.0 from.1 in
    (was.0, was.1, head_enters asked told was.0 from.0 image was.2 from.2)))

-- a stretch that changes nothing enters
pub same_enters : (asked : Asked) (told : Option Files) (old new : Told) → LeavesSame old new → LeavesBy (Enters asked told) old new
same_enters asked told old new same = same_by old new (Enters asked told) (λ files. inl (opens_none asked told files)) same

pub tells_wider : (step wide : Files → Files → Type 0) (old new : Option Files) → ((x y : Files) → step x y → wide x y) → TellsBy step old new → TellsBy wide old new
tells_wider step wide None new allows tells = tells
tells_wider step wide (Some old) new allows tells = (tells.0, tells.1, allows old tells.0 tells.2)

-- ---- making a store
makes_enters : (asked : Asked) (told : Option Files) (settings : Settings) (x y : Files) → settings ≡ settings_of asked → ForSome told IsBlank → AreValid settings → MakesStore settings x y
    → Enters asked told x y
makes_enters asked told settings x y new blank valid makes = inr (blank, subst AreValid new valid, subst (λ (s : Settings). MakesStore s x y) new makes)

-- what it has beside its head is made
pub made_steps : (asked : Asked) (told : Option Files) (settings : Settings) (old new : Told) → settings ≡ settings_of asked → ForSome told IsBlank → AreValid settings
    → LeavesBy (MakesBeside settings) old new → LeavesBy (Enters asked told) old new
made_steps asked told settings old new is_new blank valid makes =
    widens_by old new (MakesBeside settings) (Enters asked told) makes (λ x y step. makes_enters asked told settings x y is_new blank valid (makes_alone settings x y (few settings valid) step))

-- and then its head is written
pub written_steps : (asked : Asked) (told : Option Files) (settings : Settings) (old made new : Told) → settings ≡ settings_of asked → ForSome told IsBlank → AreValid settings
    → IsConsistent made → LeavesBy (MakesBeside settings) old made → LeavesBy (ChangesFile head_file (GainsFirst (head_bytes settings))) made new → LeavesBy (Enters asked told) old new
written_steps asked told settings old made new is_new blank valid law_made makes gains =
    let small = few settings valid in
    let stores = joins old made new (Follows (MakesStore settings) old.images)
    (widens_by old made (MakesBeside settings) (MakesStore settings) makes (λ x y step. makes_alone settings x y small step))
    (widens made new (Follows (ChangesFile head_file (GainsFirst (head_bytes settings))) made.images) (Follows (MakesStore settings) old.images) gains (λ image from.
    let was = left_now old made (Follows (MakesBeside settings) old.images) law_made makes from.0 from.1 in
    (was.0, was.1, makes_then settings was.0 from.0 image small was.2 from.2))) in
    widens_by old new (MakesStore settings) (Enters asked told) stores (λ x y step. makes_enters asked told settings x y is_new blank valid step)

-- the same of what is told
pub made_told : (asked : Asked) (told : Option Files) (settings : Settings) (old new : Option Files) → settings ≡ settings_of asked → ForSome told IsBlank → AreValid settings
    → TellsBy (MakesBeside settings) old new → TellsBy (Enters asked told) old new
made_told asked told settings old new is_new blank valid makes =
    tells_wider (MakesBeside settings) (Enters asked told) old new (λ x y step. makes_enters asked told settings x y is_new blank valid (makes_alone settings x y (few settings valid) step)) makes

both_told : (settings : Settings) (old made new : Option Files) → settings.buckets ≤ 64 → TellsBy (MakesBeside settings) old made
    → Changes head_file (GainsFirst (head_bytes settings)) made new → TellsBy (MakesStore settings) old new
both_told settings None made new small makes gains = subst (λ (m : Option Files). Changes head_file (GainsFirst (head_bytes settings)) m new) makes gains
both_told settings (Some old) made new small makes gains =
    let next = subst (λ (m : Option Files). Changes head_file (GainsFirst (head_bytes settings)) m new) makes.1 gains in
    (next.0, next.1, makes_then settings old makes.0 next.0 small makes.2 next.2)

pub written_told : (asked : Asked) (told : Option Files) (settings : Settings) (old made new : Option Files) → settings ≡ settings_of asked → ForSome told IsBlank → AreValid settings
    → TellsBy (MakesBeside settings) old made → Changes head_file (GainsFirst (head_bytes settings)) made new → TellsBy (Enters asked told) old new
written_told asked told settings old made new is_new blank valid makes gains =
    tells_wider (MakesStore settings) (Enters asked told) old new (λ x y step. makes_enters asked told settings x y is_new blank valid step)
    (both_told settings old made new (few settings valid) makes gains)

-- ---- the state
opens_blank : (asked : Asked) (told : Option Files) (old new : Files) → OpensStore asked told old new → IsBlank old → IsBlank new
opens_blank asked told old new opens blank = record {
  head = opened_stands (old head_file) (new head_file) [] (each_opened asked told old new opens head_file) blank.head;
  others = λ f is. opened_short (old f) (new f) (blank.others f is) (each_opened asked told old new opens f);
}

-- a store that was told with a state has its settings
told_head : (settings : Settings) (state : State) (files : Files) → state.settings ≡ Some settings → HasState state files → HasHead settings files
told_head settings state files is (inl blank) = let no : None ≡ Some settings = sym (ap (λ (s : State). s.settings) blank.1) ∙ is in cc
told_head settings state files is (inr (other, made)) =
    let both : Some other ≡ Some settings = sym made.settings_are ∙ is in
    let same : other ≡ settings = cc in
    subst (λ (s : Settings). HasHead s files) same (made_head other state files made)

-- the rest stays where each of its journals changes at most as opening one may
module _ (settings : Settings) (pairs : Book) (events : List Happened) (old new : Files) (small : settings.buckets ≤ 64) (each : (f : ℕ) → IsOpened (old f) (new f)) where
  rest_opened : (kind : Kind) → ((f : ℕ) → (IsStoreJournal kind settings.buckets f → ⊥) → new f ≡ old f) → HasRest kind settings pairs events old → HasRest kind settings pairs events new
  rest_opened Lines others has = rest_stays settings pairs events Lines old new (same_as_told settings.buckets old new (λ f rest. others f (none f rest))) has
    where
      none : (f : ℕ) → IsRestFile settings.buckets f → IsStoreJournal Lines settings.buckets f → ⊥
      none f rest (inl head) = rest_no_head settings.buckets f rest head
      none f rest (inr (inl journal)) = rest_no_journal settings.buckets f small rest journal
      none f rest (inr (inr never)) = never
  rest_opened Tuples others has = rest_stays settings pairs events Tuples old new (same_as_told settings.buckets old new (λ f rest. others f (none f rest))) has
    where
      none : (f : ℕ) → IsRestFile settings.buckets f → IsStoreJournal Tuples settings.buckets f → ⊥
      none f rest (inl head) = rest_no_head settings.buckets f rest head
      none f rest (inr (inl journal)) = rest_no_journal settings.buckets f small rest journal
      none f rest (inr (inr never)) = never
  rest_opened Crawl others has = record {
    pairs_stand = stands_kept pairs_base (pair_settings settings) pairs old new (record {
      journals = λ f is payloads. opened_stands (old f) (new f) payloads (each f);
      others = λ f is out. others f (none f is out);
    }) has.pairs_stand;
    log = record { each = has.log.each; records = opened_stands (old crawl_file) (new crawl_file) (log_records (events_of events)) (each crawl_file) has.log.records };
  }
    where
      none : (f : ℕ) → IsFileOf pairs_base settings.buckets f → (IsJournalOf pairs_base settings.buckets f → ⊥) → IsStoreJournal Crawl settings.buckets f → ⊥
      none f is out (inl head) = rest_no_head settings.buckets f (pairs_rest settings.buckets f is) head
      none f is out (inr (inl journal)) = rest_no_journal settings.buckets f small (pairs_rest settings.buckets f is) journal
      none f is out (inr (inr (inl log))) = omega (arith, log, (files_within pairs_base settings.buckets f small is).0)
      none f is out (inr (inr (inr journal))) = out journal

pub opens_made : (asked : Asked) (told : Option Files) (files : Files) (settings : Settings) (state : State) (old new : Files) → told ≡ Some files → HasHead settings files
    → OpensStore asked told old new
    → IsMade settings state old → IsMade settings state new
opens_made asked told files settings state old new is head opens made = record {
  settings_are = made.settings_are;
  valid = made.valid;
  head = opened_stands (old head_file) (new head_file) (head_bytes settings ∷ []) (each head_file) made.head;
  urls = stands_kept urls_base settings state.urls old new (record {
    journals = λ f urls payloads. opened_stands (old f) (new f) payloads (each f);
    others = λ f urls out. others f (apart f urls out);
  }) made.urls;
  legal = made.legal;
  rest = rest_opened settings state.pairs state.events old new small each settings.kind others made.rest;
}
  where
    small : settings.buckets ≤ 64
    small = few settings made.valid

    each : (f : ℕ) → IsOpened (old f) (new f)
    each = each_opened asked told old new opens

    others : (f : ℕ) → (IsStoreJournal settings.kind settings.buckets f → ⊥) → new f ≡ old f
    others f out = ⊎_elim (λ same. same) (λ opened. absurd (out (told_as asked told files settings f is head opened.0))) (opens f)

    apart : (f : ℕ) → IsFileOf urls_base settings.buckets f → (IsJournalOf urls_base settings.buckets f → ⊥) → IsStoreJournal settings.kind settings.buckets f → ⊥
    apart f urls out (inl e) = head_no_urls urls_base settings.buckets f refl small urls e
    apart f urls out (inr (inl journal)) = out journal
    apart f urls out (inr (inr kind)) = rest_no_file settings.buckets f small (kind_journal settings.kind settings.buckets f kind) urls

-- opening keeps it
pub opens_keeps : (asked : Asked) (told : Option Files) (files : Files) (state : State) (old new : Files) → told ≡ Some files → HasState state files → OpensStore asked told old new
    → HasState state old
    → HasState state new
opens_keeps asked told files state old new is_told has_told opens (inl blank) = inl (opens_blank asked told old new opens blank.0, blank.1)
opens_keeps asked told files state old new is_told has_told opens (inr (settings, made)) =
    inr (settings, opens_made asked told files settings state old new is_told (told_head settings state files made.settings_are has_told) opens made)

-- making leaves a store that wasn't made as one, or makes it
pub plain_blank : (buckets : ℕ) (files : Files) → buckets ≤ 64 → IsBlank files → ArePlainFiles buckets files
plain_blank buckets files small blank = record {
  crawl = blank.others crawl_file (omega arith, omega arith);
  pairs = λ f is. blank.others f (pairs_other buckets f small is);
}

makes_short : (settings : Settings) (old new : Files) → settings.buckets ≤ 64 → MakesStore settings old new → IsBlank old → (f : ℕ) → IsOtherFile f → length (new f) ≤ 1
makes_short settings old new small makes blank f is = ⊎_elim
    (λ (short : length (new f) < 2). omega (arith, short))
    (λ (long : 2 ≤ length (new f)).
    let none : IsStoreJournal settings.kind settings.buckets f → ⊥ = λ journal. (let few = short journal in omega (arith, few, long)) in
    subst (λ (file : List ℕ). length file ≤ 1) (sym (makes.others f none)) (blank.others f is))
    (below_or_above (length (new f)) 2)
  where
    plain : ArePlainFiles settings.buckets new
    plain = makes.rest (plain_blank settings.buckets old small blank)

    short_kind : (kind : Kind) → IsKindJournal kind settings.buckets f → length (new f) ≤ 1
    short_kind Lines never = absurd never
    short_kind Tuples never = absurd never
    short_kind Crawl (inl log) = subst (λ (n : ℕ). length (new n) ≤ 1) (sym log) plain.crawl
    short_kind Crawl (inr journal) = plain.pairs f (journal_files pairs_base settings.buckets f journal)

    short : IsStoreJournal settings.kind settings.buckets f → length (new f) ≤ 1
    short (inl head) = absurd (omega (arith, head, is.0))
    short (inr (inl journal)) = makes.unmade (λ g of. blank.others g (urls_other settings.buckets g small of)) f (journal_files urls_base settings.buckets f journal)
    short (inr (inr kind)) = short_kind settings.kind kind

pub makes_state : (settings : Settings) (old new : Files) → AreValid settings → MakesStore settings old new → IsBlank old → IsBlank new ⊎ HasState (new_state settings) new
makes_state settings old new valid makes blank =
    let small = few settings valid in
    let others = makes_short settings old new small makes blank in
    ⊎_elim
    (λ none. inl (record { head = none; others = others }))
    (λ has. inr (inr (
      settings,
      record {
        settings_are = refl;
        valid = valid;
        head = inr has;
        urls = unmade_stands urls_base settings new valid (λ f is. others f (urls_other settings.buckets f small is));
        legal = new_rest settings.kind settings valid;
        rest = new_has settings.kind settings new valid (makes.rest (plain_blank settings.buckets old small blank));
      },
    )))
    (makes.head blank.head)

blank_still : (state : State) (files : Files) → state ≡ blank_state → HasState state files → IsBlank files
blank_still state files is (inl blank) = blank.0
blank_still state files is (inr (settings, made)) = let no : None ≡ Some settings = sym (ap (λ (s : State). s.settings) is) ∙ made.settings_are in cc

-- so entering leaves the state, or of a store that wasn't made the new store's
pub enters_keeps : (asked : Asked) (told : Option Files) (files : Files) (state : State) (old new : Files) → told ≡ Some files → HasState state files → HasState state old
    → Enters asked told old new → HasOneOf state (entered_state asked state) new
enters_keeps asked told files state old new is_told has_told has (inl opens) = inl (opens_keeps asked told files state old new is_told has_told opens has)
enters_keeps asked told files state old new is_told has_told has (inr (blank, valid, makes)) =
    let was = blank files is_told in
    let same = (blank_has state files was.head has_told).1 in
    ⊎_elim
    (λ none. inl (inl (none, same)))
    (λ made. inr (subst (λ (s : State). HasState (entered_state asked s) new) (sym same) made))
    (makes_state (settings_of asked) old new valid makes (blank_still state old same has))

-- what is told
pub told_keeps : (asked : Asked) (old new : Option Files) (state : State) → TellsBy (Enters asked old) old new
    → ForSome old (λ files. HasState state files → ForSome new (HasOneOf state (entered_state asked state)))
told_keeps asked None new state tells = λ files told. cc
told_keeps asked (Some old) new state tells = λ files told has after is.
    let same : old ≡ files = cc in
    let here : tells.0 ≡ after = cc in
    let was = subst (HasState state) (sym same) has in
    subst (HasOneOf state (entered_state asked state)) here (enters_keeps asked (Some old) old state old tells.0 refl was was tells.2)

-- and what stops leave
pub stops_keep : (asked : Asked) (old new : Told) (state : State) → IsConsistent old → LeavesBy (Enters asked old.files) old new
    → ((image : Files) → old.images image → HasState state image) → Leaves old new (HasOneOf state (entered_state asked state))
stops_keep asked old new state law enters has =
    widens old new (Follows (Enters asked old.files) old.images) (HasOneOf state (entered_state asked state)) enters (λ image from.
    let told = law.tells from.0 from.1 in
    enters_keeps asked old.files told.0 state from.0 image told.1 (has told.0 (law.told told.0 told.1)) (has from.0 from.1) from.2)

-- ---- a store that wasn't made yet
-- it stays so while its head is looked at,
pub looks_blank : (old new : Files) → ChangesFile head_file IsOpened old new → KeepsBlank old new
looks_blank old new look blank = record {
  head = opened_stands (old head_file) (new head_file) [] look.changed blank.head;
  others = λ f is. subst (λ (file : List ℕ). length file ≤ 1) (sym (look.others f (λ e. omega (arith, e, is.0)))) (blank.others f is);
}

pub looked_blank : (old new : Told) → LeavesBy (ChangesFile head_file IsOpened) old new → LeavesBy KeepsBlank old new
looked_blank old new look = widens_by old new (ChangesFile head_file IsOpened) KeepsBlank look looks_blank

pub looks_then : (old mid new : Told) → IsConsistent mid → LeavesBy (ChangesFile head_file IsOpened) old mid → LeavesBy KeepsBlank mid new → LeavesBy KeepsBlank old new
looks_then old mid new law look keeps = joins_by old mid new KeepsBlank law (λ x y z first second blank. second (first blank)) (looked_blank old mid look) keeps

-- while nothing changes,
pub same_blank : (old new : Told) → LeavesSame old new → LeavesBy KeepsBlank old new
same_blank old new same = same_by old new KeepsBlank (λ files blank. blank) same

pub told_same : (old new : Option Files) → new ≡ old → TellsBy KeepsBlank old new
told_same None new same = same
told_same (Some old) new same = (old, same, λ blank. blank)

-- while what it has beside its head is made,
makes_blank : (settings : Settings) (old new : Files) → settings.buckets ≤ 64 → MakesBeside settings old new → KeepsBlank old new
makes_blank settings old new small makes blank = record {
  head = subst (λ (file : List ℕ). StandsFor file []) (sym (makes.others head_file (beside_no_head settings small))) blank.head;
  others = makes_short settings old new small (makes_alone settings old new small makes) blank;
}

pub beside_blank : (settings : Settings) (old new : Told) → settings.buckets ≤ 64 → LeavesBy (MakesBeside settings) old new → LeavesBy KeepsBlank old new
beside_blank settings old new small makes = widens_by old new (MakesBeside settings) KeepsBlank makes (λ x y step. makes_blank settings x y small step)

pub beside_told : (settings : Settings) (old new : Option Files) → settings.buckets ≤ 64 → TellsBy (MakesBeside settings) old new → TellsBy KeepsBlank old new
beside_told settings old new small makes = tells_wider (MakesBeside settings) KeepsBlank old new (λ x y step. makes_blank settings x y small step) makes

-- and while one is entered that was made
enters_blank : (asked : Asked) (told : Option Files) (settings : Settings) (files x y : Files) → told ≡ Some files → StandsFor (files head_file) (head_bytes settings ∷ []) → Enters asked told x y
    → KeepsBlank x y
enters_blank asked told settings files x y is head (inl opens) = opens_blank asked told x y opens
enters_blank asked told settings files x y is head (inr (blank, valid, makes)) = absurd (none_or_one (files head_file) (head_bytes settings) (blank files is).head head)

pub opened_blank : (asked : Asked) (settings : Settings) (old new : Told) → IsConsistent old → ForSome old.files (λ files. StandsFor (files head_file) (head_bytes settings ∷ []))
    → LeavesBy (Enters asked old.files) old new → LeavesBy KeepsBlank old new
opened_blank asked settings old new law head enters =
    widens old new (Follows (Enters asked old.files) old.images) (Follows KeepsBlank old.images) enters (λ image from.
    let told = law.tells from.0 from.1 in
    (from.0, from.1, enters_blank asked old.files settings told.0 from.0 image told.1 (head told.0 told.1) from.2))

pub opened_told : (asked : Asked) (settings : Settings) (old new : Option Files) → ForSome old (λ files. StandsFor (files head_file) (head_bytes settings ∷ [])) → TellsBy (Enters asked old) old new
    → TellsBy KeepsBlank old new
opened_told asked settings None new head tells = tells
opened_told asked settings (Some old) new head tells = (tells.0, tells.1, enters_blank asked (Some old) settings old old tells.0 refl (head old refl) tells.2)

-- so it isn't made yet, in what is told and in what stops leave
pub blank_told : (old new : Option Files) → TellsBy KeepsBlank old new → ForSome old (λ files. IsBlank files → ForSome new IsBlank)
blank_told None new tells = λ files told. cc
blank_told (Some old) new tells = λ files told blank after is.
    let same : old ≡ files = cc in
    let here : tells.0 ≡ after = cc in
    subst IsBlank here (tells.2 (subst IsBlank (sym same) blank))

-- in what is told then
pub made_blank : (old new : Option Files) → TellsBy KeepsBlank old new → ForSome old IsBlank → ForSome new IsBlank
made_blank None new tells blank = λ files told. cc
made_blank (Some old) new tells blank = λ files told.
    let here : tells.0 ≡ files = cc in
    subst IsBlank here (tells.2 (blank old refl))

pub blank_stops : (old new : Told) → LeavesBy KeepsBlank old new → ((image : Files) → old.images image → IsBlank image) → Leaves old new IsBlank
blank_stops old new keeps blank = widens old new (Follows KeepsBlank old.images) IsBlank keeps (λ image from. from.2 (blank from.0 from.1))

-- ---- bytes taken
pub head_takes : (asked : Asked) (told : Option Files) (old new : Option (ℕ → ℕ)) → TakesOnly head_file old new → TakesAmong (IsReadFile asked told) old new
head_takes asked told old new takes = takes_only (IsReadFile asked told) head_file old new (inl (inl refl)) takes

pub adopted_takes : (asked : Asked) (told : Option Files) (settings : Settings) (old new : Option (ℕ → ℕ)) (side : ℕ) → AreValid settings → Agrees asked settings → ForSome told (HasHead settings)
    → side ≤ 1 → TakesAmong (IsJournalOn urls_base side settings.buckets) old new → TakesAmong (IsReadFile asked told) old new
adopted_takes asked told settings old new side valid agrees has low takes =
    takes_wider (IsJournalOn urls_base side settings.buckets) (IsReadFile asked told) old new
    (λ f is. inl (inr (settings, valid, agrees, has, inr (inl (one_side side settings.buckets f low is))))) takes

-- ---- the records of a bucket
live_low : (live : Option ℕ) → IfSome live (λ side. side ≤ 1) → side_of live ≤ 1
live_low None fits = omega arith
live_low (Some side) fits = fits

last_low : (buckets : ℕ) (first : Commit) (commits : List Commit) → live_side first ≤ 1 → AllByRecursion (IsCommit buckets) commits → live_side (last_commit first commits) ≤ 1
last_low buckets first [] low forms = low
last_low buckets first (commit ∷ commits) low forms = last_low buckets commit commits (live_low commit.live forms.0.live) forms.1

-- a journal of at most one byte has no record, and stands for as much as another such
short_stands : (old new : List ℕ) (payloads : List (List ℕ)) → length old ≤ 1 → length new ≤ 1 → StandsFor old payloads → StandsFor new payloads
short_stands old new payloads short also (inl none) = inl (also, none.1)
short_stands old new payloads short also (inr has) = inl (also, few_bytes old payloads short has)

-- entering leaves those of a store with a state, in its files and in each image
pub enters_records : (asked : Asked) (told : Option Files) (files : Files) (state : State) (old new : Files) (buckets b : ℕ) (payloads : List (List ℕ)) → told ≡ Some files → HasState state files
    → HasState state old → Enters asked told old new → b < 64
    → HasLiveJournal urls_base buckets b payloads old → HasLiveJournal urls_base buckets b payloads new
enters_records asked told files state old new buckets b payloads is_told has_told has enters within journal = record {
  commits = journal.commits;
  form = journal.form;
  manifest = stands enters (file_of urls_base 0 Manifest) (omega arith, omega arith) _ journal.manifest;
  records = stands enters (file_of urls_base 0 (Journal side b)) (omega arith, omega (arith, low, within)) payloads journal.records;
}
  where
    side : ℕ
    side = live_side (last_commit (first_commit buckets) journal.commits)

    low : side ≤ 1
    low = last_low buckets (first_commit buckets) journal.commits (omega arith) journal.form

    stands : Enters asked told old new → (f : ℕ) → IsOtherFile f → (list : List (List ℕ)) → StandsFor (old f) list → StandsFor (new f) list
    stands (inl opens) f other list was = opened_stands _ _ list (each_opened asked told old new opens f) was
    stands (inr (blank, valid, makes)) f other list was =
        let same = (blank_has state files (blank files is_told).head has_told).1 in
        let before = blank_still state old same has in
        short_stands (old f) (new f) list (before.others f other) (makes_short (settings_of asked) old new (few (settings_of asked) valid) makes before f other) was
