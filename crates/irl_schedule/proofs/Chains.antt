-- Calls one after the other: what each keeps, both keep.
use Rattle.std.proofs.Common.{◌≡◌, ◌∙◌, ◌⊎◌, inl, inr, ℕ, ◌+◌, ◌-◌, ◌<◌, ◌≤◌, max, List, [], ◌∷◌, ◌++◌, nat_eq, Option, None, Some, refl, sym, ap, subst, append_assoc, append-nil, arith}
use Rattle.std.proofs.lemmas.List.Elements.{filter-append}
use Rattle.irl_offer.specs.declared.settings.Settings.{Settings}
use Rattle.irl_offer.specs.Buckets.{bucket_of}
use Rattle.irl_offer.specs.Tuple.{Tuple}
use Rattle.irl_model.specs.Book.{Book, IsFront, judged_cut, last_cut, part}
use Rattle.irl_model.proofs.FrontLaws.{front_same, front_both}
use Rattle.std.specs.Option.{ForSome}
use Rattle.irl_disk.specs.Disk.{Files, TellsOnly, ChangesOnly}
use Rattle.irl_disk.specs.Images.{Told, IsConsistent, Leaves, LeavesBy, LeavesSame}
use Rattle.irl_disk.proofs.Stretches.{stays, widens, joins, left_now}
use Rattle.irl_layout.specs.BayFiles.{IsFileOf}
use Rattle.irl_layout.specs.Commits.{HasLiveRecords}
use Rattle.irl_bay.specs.Drum.{Drum, IsDrum, pending_at}
use Rattle.irl_bay.proofs.Staying.{only_wider, tells_same, tells_both, leaves_same, leaves_both}
use Rattle.irl_bay.proofs.Standing.{holds_stands}
use Rattle.irl_bay.specs.Holding.{Holds}
use Rattle.irl_bay.specs.Standing.{Stands, IsBookOf}
use Rattle.irl_schedule.proofs.Counts.{grow_both, same_grow}
use Rattle.irl_schedule.proofs.Journals.{left_records}
use Rattle.irl_schedule.specs.Schedule.{early_cuts, HaveRecords, AddsUneven, LeavesUneven, none_more}
use Rattle.irl_schedule.specs.Feeding.{list_at, length_at, handed_in, Waits, FewUnjudged, Grows, Keeps, TakesWaiting, HasBetween, Moment, Stays, Fed, Stranded, Feeds, HeldNone}

-- ---- a later book
pub few_same : (settings : Settings) (x : Book) → FewUnjudged settings x x
few_same settings x = λ b within. omega arith

pub few_both : (settings : Settings) (x y z : Book) → FewUnjudged settings x y → FewUnjudged settings y z → FewUnjudged settings x z
few_both settings x y z first second = λ b within. omega (arith, first b within, second b within)

last_append : (from : List ℕ) (xs ys : List (List ℕ)) → last_cut from (xs ++ ys) ≡ last_cut (last_cut from xs) ys
last_append from [] ys = refl
last_append from (cut ∷ xs) ys = last_append cut xs ys

early_append : (trigger : ℕ) (from : List ℕ) (xs ys : List (List ℕ)) → early_cuts trigger from (xs ++ ys) ≡ early_cuts trigger from xs + early_cuts trigger (last_cut from xs) ys
early_append trigger from [] ys = omega arith
early_append trigger from (cut ∷ xs) ys = omega (arith, early_append trigger cut xs ys)

judged_later : (x y : Book) (cuts : List (List ℕ)) → y.firsts ≡ x.firsts → y.cuts ≡ x.cuts ++ cuts → judged_cut y ≡ last_cut (judged_cut x) cuts
judged_later x y cuts firsts are = ap (λ (f : List ℕ). last_cut f y.cuts) firsts ∙ ap (λ (c : List (List ℕ)). last_cut x.firsts c) are ∙ last_append x.firsts x.cuts cuts

same_length : (x y : Book) (b : ℕ) → y.firsts ≡ x.firsts → list_at y b ≡ list_at x b → length_at y b ≡ length_at x b
same_length x y b firsts list = cc

fits_both : (settings : Settings) (x y z : Book) (b : ℕ) → z.firsts ≡ y.firsts → (list_at y b ≡ list_at x b) ⊎ (length_at y b ≤ settings.cap)
    → (list_at z b ≡ list_at y b) ⊎ (length_at z b ≤ settings.cap) → (list_at z b ≡ list_at x b) ⊎ (length_at z b ≤ settings.cap)
fits_both settings x y z b firsts first (inr fits) = inr fits
fits_both settings x y z b firsts (inl same) (inl again) = inl (again ∙ same)
fits_both settings x y z b firsts (inr fits) (inl again) = inr (subst (λ (n : ℕ). n ≤ settings.cap) (sym (same_length y z b firsts again)) fits)

pub grows_both : (settings : Settings) (e d : ℕ) (x y z : Book) → Grows settings e x y → Grows settings d y z → Grows settings (e + d) x z
grows_both settings e d x y z first second = record {
  front = front_both x y z first.front second.front;
  fits = λ b within. fits_both settings x y z b second.front.firsts (first.fits b within) (second.fits b within);
  cuts = first.cuts ++ second.cuts;
  cuts_are = second.cuts_are ∙ ap (λ (l : List (List ℕ)). l ++ second.cuts) first.cuts_are ∙ append_assoc x.cuts first.cuts second.cuts;
  early_are =
      let later = subst (λ (from : List ℕ). early_cuts settings.trigger from second.cuts ≤ d) (judged_later x y first.cuts first.front.firsts first.cuts_are) second.early_are in
      omega (arith, early_append settings.trigger (judged_cut x) first.cuts second.cuts, first.early_are, later);
  waits = few_both settings x y z first.waits second.waits;
}

pub grows_same : (settings : Settings) (x : Book) → Grows settings 0 x x
grows_same settings x = record { front = front_same x; fits = λ b within. inl refl; cuts = []; cuts_are = sym (append-nil x.cuts); early_are = omega arith; waits = few_same settings x }

pub grows_more : (settings : Settings) (e d : ℕ) (x y : Book) → e ≤ d → Grows settings e x y → Grows settings d x y
grows_more settings e d x y le grows = record {
  front = grows.front;
  fits = grows.fits;
  cuts = grows.cuts;
  cuts_are = grows.cuts_are;
  early_are = omega (arith, le, grows.early_are);
  waits = grows.waits;
}

-- ---- offers that were handed in
joined : {X : Type 0} (a b c p q r : List X) → b ≡ a ++ p → c ≡ b ++ q → r ≡ p ++ q → c ≡ a ++ r
joined a b c p q r first second both = second ∙ ap (λ l. l ++ q) first ∙ append_assoc a p q ∙ ap (λ l. a ++ l) (sym both)

part_both : (buckets b : ℕ) (xs ys : List Tuple) → part buckets b (xs ++ ys) ≡ part buckets b xs ++ part buckets b ys
part_both buckets b xs ys = filter-append (λ (offer : Tuple). nat_eq (bucket_of buckets offer.key) b) xs ys

pub keeps_both : (settings : Settings) (x y z : Book) (was mid now : Waits) (xs ys : List Tuple) → Keeps settings x was y mid xs → Keeps settings y mid z now ys
    → Keeps settings x was z now (xs ++ ys)
keeps_both settings x y z was mid now xs ys first second = λ b within.
    joined (handed_in x was b) (handed_in y mid b) (handed_in z now b) _ _ _ (first b within) (second b within) (part_both settings.buckets b xs ys)

pub keeps_same : (settings : Settings) (x : Book) (was : Waits) → Keeps settings x was x was []
keeps_same settings x was = λ b within. sym (append-nil (handed_in x was b))

pub takes_both : (settings : Settings) (x y z : Book) (was mid : Waits) (xs ys : List Tuple) → Keeps settings x was y mid xs → TakesWaiting settings y mid z ys
    → TakesWaiting settings x was z (xs ++ ys)
takes_both settings x y z was mid xs ys first second = λ b within.
    let more = part settings.buckets b ys in
    let whole : handed_in y mid b ++ more ≡ handed_in x was b ++ part settings.buckets b (xs ++ ys) =
    joined (handed_in x was b) (handed_in y mid b) (handed_in y mid b ++ more) _ _ _ (first b within) refl (part_both settings.buckets b xs ys) in
    ((second b within).0, sym whole ∙ (second b within).1)

-- ---- stops
pub stops_both : (base : ℕ) (settings : Settings) (old mid new : Told) (x y z : Book) → IsFront x y → FewUnjudged settings x y → IsFront y z → Leaves old mid (HasBetween base settings x y)
    → Leaves mid new (HasBetween base settings y z) → Leaves old new (HasBetween base settings x z)
stops_both base settings old mid new x y z first few second before after =
    joins old mid new (HasBetween base settings x z) (widens old mid (HasBetween base settings x y) (HasBetween base settings x z) before (λ image has.
    (has.0, has.1, has.2, front_both has.0 y z has.3 second, has.4)))
    (widens mid new (HasBetween base settings y z) (HasBetween base settings x z) after (λ image has. (has.0, has.1, front_both x y has.0 first has.2, has.3, few_both settings x y has.0 few has.4)))

-- ---- records
-- what is left of a later bay is left of an earlier one
uneven_before : (u v : ℕ → ℕ) (old mid : Drum) (was between : ℕ → List (List ℕ)) (image : Files) → mid.settings ≡ old.settings → mid.base ≡ old.base
    → AddsUneven u old.settings.buckets old.settings.array was between → LeavesUneven v mid between image → LeavesUneven (λ b. u b + v b) old was image
uneven_before u v old mid was between image settings base adds left = (
  left.0,
  λ b within. subst (λ (n : ℕ). HasLiveRecords n old.settings.buckets b (left.0 b) image) base
      (subst (λ (s : Settings). HasLiveRecords mid.base s.buckets b (left.0 b) image) settings (left.1 b (subst (λ (s : Settings). b < s.buckets) (sym settings) within))),
  λ b within.
      let more = subst (λ (s : Settings). AddsUneven v s.buckets s.array between left.0) settings left.2 in
      omega (arith, adds b within, more b within),
)

pub uneven_longer : (u v : ℕ → ℕ) (old : Drum) (was : ℕ → List (List ℕ)) (image : Files) → ((b : ℕ) → u b ≤ v b) → LeavesUneven u old was image → LeavesUneven v old was image
uneven_longer u v old was image more left = (left.0, left.1, λ b within. omega (arith, more b, left.2 b within))

pub records_stop_both : (u v : ℕ → ℕ) (old mid new : Told) (urls later : Drum) (was between : ℕ → List (List ℕ)) → later.settings ≡ urls.settings → later.base ≡ urls.base
    → AddsUneven u urls.settings.buckets urls.settings.array was between → Leaves old mid (LeavesUneven u urls was) → Leaves mid new (LeavesUneven v later between)
    → Leaves old new (LeavesUneven (λ b. u b + v b) urls was)
records_stop_both u v old mid new urls later was between settings base adds before after =
    joins old mid new _ (widens old mid (LeavesUneven u urls was) _ before (λ image left. uneven_longer u (λ b. u b + v b) urls was image (λ b. omega arith) left))
    (widens mid new (LeavesUneven v later between) _ after (λ image left. uneven_before u v urls later was between image settings base adds left))

-- ---- what is told
pub tells_on : (among : ℕ → Type 0) (old new : Option Files) (files : Files) → TellsOnly among old new → old ≡ Some files → (after : Files) × (new ≡ Some after)
tells_on among None new files tells told = let no : ⊥ = cc in absurd no
tells_on among (Some before) new files tells told = (tells.0, tells.1)

pub tells_wider : (among wide : ℕ → Type 0) (old new : Option Files) → ((f : ℕ) → among f → wide f) → TellsOnly among old new → TellsOnly wide old new
tells_wider among wide None new wider tells = tells
tells_wider among wide (Some before) new wider tells = (tells.0, tells.1, only_wider among wide before tells.0 wider tells.2)

-- ---- whatever is answered
pub stays_both : (old mid new : Moment) → IsConsistent mid.store → Stays old mid → Stays mid new → Stays old new
stays_both old mid new consistent first second =
    let buckets : mid.drum.settings.buckets ≡ old.drum.settings.buckets = ap (λ (s : Settings). s.buckets) first.settings in
    record {
      settings = second.settings ∙ first.settings;
      base = second.base ∙ first.base;
      grows = grow_both old.drum mid.drum new.drum first.grows second.grows;
      others = tells_both _ _ _ _ first.others (subst (λ (n : ℕ). TellsOnly (IsFileOf n old.drum.settings.buckets) mid.store.files new.store.files) first.base
          (subst (λ (n : ℕ). TellsOnly (IsFileOf mid.drum.base n) mid.store.files new.store.files) buckets second.others));
      others_stop = leaves_both _ old.store mid.store new.store consistent first.others_stop
          (subst (λ (n : ℕ). LeavesBy (ChangesOnly (IsFileOf n old.drum.settings.buckets)) mid.store new.store) first.base
          (subst (λ (n : ℕ). LeavesBy (ChangesOnly (IsFileOf mid.drum.base n)) mid.store new.store) buckets second.others_stop));
      bound = λ b within.
          let later = subst (λ (s : Settings). b < s.buckets → pending_at new.drum b ≤ max (s.trigger + s.array - 1) (pending_at mid.drum b)) first.settings (second.bound b) within in
          omega (arith, later, first.bound b within);
    }

-- where only what waits changed
pub stays_same : (old new : Moment) → IsConsistent old.store → new.store ≡ old.store → new.drum ≡ old.drum → Stays old new
stays_same old new consistent store urls = record {
  settings = ap (λ (d : Drum). d.settings) urls;
  base = ap (λ (d : Drum). d.base) urls;
  grows = same_grow old.drum new.drum urls;
  others = tells_same _ _ _ (ap (λ (s : Told). s.files) store);
  others_stop = subst (λ (s : Told). LeavesBy (ChangesOnly (IsFileOf old.drum.base old.drum.settings.buckets)) old.store s) (sym store)
      (leaves_same _ old.store old.store (stays old.store old.store.images consistent (λ image left. left)));
  bound = λ b within. subst (λ (d : Drum). pending_at d b ≤ max (old.drum.settings.trigger + old.drum.settings.array - 1) (pending_at old.drum b)) (sym urls) (omega arith);
}

-- or where the store was only read
pub stays_read : (old new : Moment) → new.drum ≡ old.drum → new.store.files ≡ old.store.files → LeavesSame old.store new.store → Stays old new
stays_read old new urls files same = record {
  settings = ap (λ (d : Drum). d.settings) urls;
  base = ap (λ (d : Drum). d.base) urls;
  grows = same_grow old.drum new.drum urls;
  others = tells_same _ _ _ files;
  others_stop = leaves_same _ old.store new.store same;
  bound = λ b within. subst (λ (d : Drum). pending_at d b ≤ max (old.drum.settings.trigger + old.drum.settings.array - 1) (pending_at old.drum b)) (sym urls) (omega arith);
}

-- ---- a book that is fed
unfoldable pub fed_both : (e d : ℕ) (u v : ℕ → ℕ) (xs ys : List Tuple) (old mid new : Moment) (x : Book) → Stays old mid → (first : Fed e u xs old mid x) → Fed d v ys mid new first.book
    → Fed (e + d) (λ b. u b + v b) (xs ++ ys) old new x
fed_both e d u v xs ys old mid new x still first second =
    let y = first.book in
    let z = second.book in
    let grows = subst (λ (s : Settings). Grows s d y z) still.settings second.grows in
    let keeps = subst (λ (s : Settings). Keeps s y mid.waits z new.waits ys) still.settings second.keeps in
    let stops = subst (λ (n : ℕ). Leaves mid.store new.store (HasBetween n old.drum.settings y z)) still.base
    (subst (λ (s : Settings). Leaves mid.store new.store (HasBetween mid.drum.base s y z)) still.settings second.stops) in
    record {
      book = z;
      holds = second.holds;
      grows = grows_both old.drum.settings e d x y z first.grows grows;
      keeps = keeps_both old.drum.settings x y z old.waits mid.waits new.waits xs ys first.keeps keeps;
      stops = stops_both old.drum.base old.drum.settings old.store mid.store new.store x y z first.grows.front first.grows.waits second.grows.front first.stops stops;
      records = λ was have.
          let between = first.records was have in
          let now = second.records between.0 between.1 in (
            now.0,
            now.1,
            λ b within.
                let more = subst (λ (s : Settings). AddsUneven v s.buckets s.array between.0 now.0) still.settings now.2 in
                omega (arith, between.2 b within, more b within),
          );
      records_stop = λ was have.
          let between = first.records was have in
          records_stop_both u v old.store mid.store new.store old.drum mid.drum was between.0 still.settings still.base between.2 (first.records_stop was have)
          (second.records_stop between.0 between.1);
    }

unfoldable pub stranded_after : (e d : ℕ) (u v : ℕ → ℕ) (xs ys : List Tuple) (old mid new : Moment) (x : Book) → Stays old mid → (first : Fed e u xs old mid x) → Stranded d v ys mid new first.book
    → Stranded (e + d) (λ b. u b + v b) (xs ++ ys) old new x
stranded_after e d u v xs ys old mid new x still first second =
    let y = first.book in
    let grows = subst (λ (s : Settings). Grows s d y second.book) still.settings second.grows in
    let may_grow = subst (λ (s : Settings). Grows s d y second.most) still.settings second.may_grow in
    let takes = subst (λ (s : Settings). TakesWaiting s y mid.waits second.most ys) still.settings second.takes in
    let stops = subst (λ (n : ℕ). Leaves mid.store new.store (HasBetween n old.drum.settings y second.most)) still.base
    (subst (λ (s : Settings). Leaves mid.store new.store (HasBetween mid.drum.base s y second.most)) still.settings second.stops) in
    record {
      book = second.book;
      most = second.most;
      told = subst (λ (n : ℕ). ForSome new.store.files (Stands n old.drum.settings second.book)) still.base
          (subst (λ (s : Settings). ForSome new.store.files (Stands mid.drum.base s second.book)) still.settings second.told);
      grows = grows_both old.drum.settings e d x y second.book first.grows grows;
      may_grow = grows_both old.drum.settings e d x y second.most first.grows may_grow;
      front = second.front;
      legal = subst (λ (s : Settings). IsBookOf s second.most) still.settings second.legal;
      kept = second.kept;
      kept_grows = grows_both old.drum.settings e d x y second.kept first.grows (subst (λ (s : Settings). Grows s d y second.kept) still.settings second.kept_grows);
      kept_front = second.kept_front;
      kept_legal = subst (λ (s : Settings). IsBookOf s second.kept) still.settings second.kept_legal;
      keeps = keeps_both old.drum.settings x y second.kept old.waits mid.waits new.waits xs ys first.keeps
          (subst (λ (s : Settings). Keeps s y mid.waits second.kept new.waits ys) still.settings second.keeps);
      now = λ image left. subst (λ (n : ℕ). HasBetween n old.drum.settings second.kept second.most image) still.base
          (subst (λ (s : Settings). HasBetween mid.drum.base s second.kept second.most image) still.settings (second.now image left));
      takes = takes_both old.drum.settings x y second.most old.waits mid.waits xs ys first.keeps takes;
      stops = stops_both old.drum.base old.drum.settings old.store mid.store new.store x y second.most first.grows.front first.grows.waits second.may_grow.front first.stops stops;
      records_stop = λ was have.
          let between = first.records was have in
          records_stop_both u v old.store mid.store new.store old.drum mid.drum was between.0 still.settings still.base between.2 (first.records_stop was have)
          (second.records_stop between.0 between.1);
    }

-- it may be said with greater numbers
pub fed_more : (e d : ℕ) (u v : ℕ → ℕ) (xs : List Tuple) (old new : Moment) (x : Book) → e ≤ d → ((b : ℕ) → u b ≤ v b) → Fed e u xs old new x → Fed d v xs old new x
fed_more e d u v xs old new x le more fed = record {
  book = fed.book;
  holds = fed.holds;
  grows = grows_more old.drum.settings e d x fed.book le fed.grows;
  keeps = fed.keeps;
  stops = fed.stops;
  records = λ was have.
      let now = fed.records was have in
      (now.0, now.1, λ b within. omega (arith, more b, now.2 b within));
  records_stop = λ was have. widens old.store new.store (LeavesUneven u old.drum was) _ (fed.records_stop was have) (λ image left. uneven_longer u v old.drum was image more left);
}

unfoldable pub stranded_more : (e d : ℕ) (u v : ℕ → ℕ) (xs : List Tuple) (old new : Moment) (x : Book) → e ≤ d → ((b : ℕ) → u b ≤ v b) → Stranded e u xs old new x → Stranded d v xs old new x
stranded_more e d u v xs old new x le more has = record {
  book = has.book;
  most = has.most;
  told = has.told;
  grows = grows_more old.drum.settings e d x has.book le has.grows;
  may_grow = grows_more old.drum.settings e d x has.most le has.may_grow;
  front = has.front;
  legal = has.legal;
  kept = has.kept;
  kept_grows = grows_more old.drum.settings e d x has.kept le has.kept_grows;
  kept_front = has.kept_front;
  kept_legal = has.kept_legal;
  keeps = has.keeps;
  now = has.now;
  takes = has.takes;
  stops = has.stops;
  records_stop = λ was have. widens old.store new.store (LeavesUneven u old.drum was) _ (has.records_stop was have) (λ image left. uneven_longer u v old.drum was image more left);
}

-- ---- the same of each book that was held
pub feeds_both : (e d : ℕ) (u v : ℕ → ℕ) (xs ys : List Tuple) (old mid new : Moment) → Stays old mid → Feeds e u xs old mid → Feeds d v ys mid new → Feeds (e + d) (λ b. u b + v b) (xs ++ ys) old new
feeds_both e d u v xs ys old mid new still first second = λ files told x holds.
    let one = first files told x holds in
    let after = tells_on _ old.store.files mid.store.files files still.others told in
    fed_both e d u v xs ys old mid new x still one (second after.0 after.1 one.book one.holds)

pub feeds_more : (e d : ℕ) (u v : ℕ → ℕ) (xs : List Tuple) (old new : Moment) → e ≤ d → ((b : ℕ) → u b ≤ v b) → Feeds e u xs old new → Feeds d v xs old new
feeds_more e d u v xs old new le more feeds = λ files told x holds. fed_more e d u v xs old new x le more (feeds files told x holds)

-- ---- where the store wasn't called
journals_same : (old new : Moment) (was : ℕ → List (List ℕ)) → new.store ≡ old.store → new.drum ≡ old.drum → HaveRecords old.store.images old.drum was
    → HaveRecords new.store.images new.drum was
journals_same old new was store urls have =
    subst (λ (s : Told). HaveRecords s.images new.drum was) (sym store) (subst (λ (d : Drum). HaveRecords old.store.images d was) (sym urls) have)

journals_left : (now : Told) (urls : Drum) (x : Book) (was : ℕ → List (List ℕ)) → IsDrum urls → IsConsistent now → Holds now.images urls x → HaveRecords now.images urls was
    → Leaves now now (LeavesUneven none_more urls was)
journals_left now urls x was law consistent holds have = stays now _ consistent (λ image left. (
  was,
  λ b within. left_records now.images urls x law holds b (was b) image within (have b within) left,
  λ b within. omega arith,
))

pub fed_still : (xs : List Tuple) (old new : Moment) (x : Book) → IsConsistent old.store → IsDrum old.drum → new.store ≡ old.store → new.drum ≡ old.drum
    → Keeps old.drum.settings x old.waits x new.waits xs → Holds old.store.images old.drum x → Fed 0 none_more xs old new x
fed_still xs old new x consistent law store urls keeps holds = record {
  book = x;
  holds = subst (λ (s : Told). Holds s.images new.drum x) (sym store) (subst (λ (d : Drum). Holds old.store.images d x) (sym urls) holds);
  grows = grows_same old.drum.settings x;
  keeps = keeps;
  stops = subst (λ (s : Told). Leaves old.store s (HasBetween old.drum.base old.drum.settings x x)) (sym store)
      (stays old.store (HasBetween old.drum.base old.drum.settings x x) consistent (λ image left.
      (x, holds_stands old.store.images old.drum x image law holds left, front_same x, front_same x, few_same old.drum.settings x)));
  records = λ was have. (was, journals_same old new was store urls have, λ b within. omega arith);
  records_stop = λ was have. subst (λ (s : Told). Leaves old.store s (LeavesUneven none_more old.drum was)) (sym store) (journals_left old.store old.drum x was law consistent holds have);
}

-- nothing was done
pub feeds_none : (old new : Moment) → IsConsistent old.store → IsDrum old.drum → new.store ≡ old.store → new.drum ≡ old.drum → new.waits ≡ old.waits → Feeds 0 none_more [] old new
feeds_none old new consistent law store urls waits = λ files told x holds.
    fed_still [] old new x consistent law store urls (subst (λ (l : Waits). Keeps old.drum.settings x old.waits x l []) (sym waits) (keeps_same old.drum.settings x old.waits))
    holds

-- ---- where the store was only read
pub fed_read : (old new : Moment) (x : Book) → IsConsistent new.store → IsDrum old.drum → LeavesSame old.store new.store → new.drum ≡ old.drum → new.waits ≡ old.waits
    → Holds old.store.images old.drum x → Holds new.store.images new.drum x → Fed 0 none_more [] old new x
fed_read old new x consistent law same urls waits holds after = record {
  book = x;
  holds = after;
  grows = grows_same old.drum.settings x;
  keeps = subst (λ (l : Waits). Keeps old.drum.settings x old.waits x l []) (sym waits) (keeps_same old.drum.settings x old.waits);
  stops = widens old.store new.store old.store.images (HasBetween old.drum.base old.drum.settings x x) same (λ image left.
      (x, holds_stands old.store.images old.drum x image law holds left, front_same x, front_same x, few_same old.drum.settings x));
  records = λ was have. (
    was,
    subst (λ (d : Drum). HaveRecords new.store.images d was) (sym urls) (λ b within image left. have b within image (left_now old.store new.store old.store.images consistent same image left)),
    λ b within. omega arith,
  );
  records_stop = λ was have. widens old.store new.store old.store.images (LeavesUneven none_more old.drum was) same (λ image left. (
    was,
    λ b within. left_records old.store.images old.drum x law holds b (was b) image within (have b within) left,
    λ b within. omega arith,
  ));
}

-- where a later store held no book, an earlier one didn't
pub none_before : (e : ℕ) (u : ℕ → ℕ) (xs : List Tuple) (old mid : Moment) → Stays old mid → Feeds e u xs old mid → HeldNone mid → HeldNone old
none_before e u xs old mid still first none = λ files told x holds.
    let one = first files told x holds in
    let after = tells_on _ old.store.files mid.store.files files still.others told in
    none after.0 after.1 one.book one.holds
