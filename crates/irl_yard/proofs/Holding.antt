-- A store that holds a state: each joint image has it, and calls that change the bay's files alone leave the rest.
use Rattle.std.proofs.Common.{◌≡◌, ◌∙◌, inl, inr, ⊎_elim, ℕ, ◌<◌, ◌≤◌, List, [], ◌∷◌, Some, Result, Ok, Err, OnOk, sym, ap, subst, arith}
use Rattle.irl_offer.specs.declared.settings.Settings.{Settings}
use Rattle.irl_offer.specs.Buckets.{IsBucketCount}
use Rattle.irl_model.specs.Book.{Book}
use Rattle.irl_events.specs.State.{State}
use Rattle.irl_disk.specs.Disk.{Files, ChangesOnly}
use Rattle.irl_disk.specs.Images.{Told, IsConsistent, Follows, Leaves, LeavesBy, LeavesSame}
use Rattle.irl_disk.proofs.Stretches.{widens, left_now}
use Rattle.irl_journal.specs.Format.{HasRecords}
use Rattle.irl_layout.specs.BayFiles.{IsFileOf}
use Rattle.irl_bay.specs.Standing.{IsBookOf, Stands}
use Rattle.irl_bay.specs.Drum.{Drum, IsDrum}
use Rattle.irl_bay.specs.Holding.{Holds, Becomes}
use Rattle.irl_bay.proofs.MergeFrames.{holds_fewer}
use Rattle.irl_bay.proofs.Standing.{holds_stands}
use Rattle.irl_bay.proofs.Apart.{files_within, files_of_both}
use Rattle.irl_head.specs.StoreFiles.{head_file, crawl_file, urls_base, pairs_base}
use Rattle.irl_head.specs.Head.{head_bytes}
use Rattle.irl_yard.specs.Standing.{HasRest, HasState, IsMade, IsRest, IsStateOf, with_urls}
use Rattle.irl_yard.specs.Holding.{HoldsUrls, HasOneOf}
use Rattle.irl_yard.proofs.ByKind.{IsSameBeside, rest_stays}

-- these files are those of the bay of URLs
abbrev pub AreOfUrls : Drum → (ℕ → Type 0) → Type 0
AreOfUrls urls among = (f : ℕ) → among f → IsFileOf urls.base urls.settings.buckets f

few_buckets : (buckets : ℕ) → IsBucketCount buckets → buckets ≤ 64
few_buckets buckets valid = grind arith

-- ---- a joint image has the state
-- what stands beside the bay of URLs in it
pub record IsBeside (urls : Drum) (state : State) (image : Files) : Type 0 where
  pub head : HasRecords (image head_file) (head_bytes urls.settings ∷ [])
  pub rest : HasRest urls.settings.kind urls.settings state.pairs state.events image

pub held_beside : (images : Files → Type 0) (urls : Drum) (state : State) (image : Files) → HoldsUrls images urls state → images image → IsBeside urls state image
held_beside images urls state image holds left = record {
  head = holds.head image left;
  rest = holds.rest image left;
}

-- the head and the rest stay where only files of the bay of URLs change
beside_same : (among : ℕ → Type 0) (urls : Drum) (old new : Files) → IsDrum urls → urls.base ≡ urls_base → AreOfUrls urls among → ChangesOnly among old new
    → (new head_file ≡ old head_file) × IsSameBeside urls.settings.buckets old new
beside_same among urls old new law base are changes = (
  changes head_file (λ is. low head_file (omega arith) (are head_file is)),
  (changes crawl_file (λ is. low crawl_file (omega arith) (are crawl_file is)), λ f is. changes f (λ was. apart f (are f was) is)),
)
  where
    few : urls.settings.buckets ≤ 64
    few = few_buckets urls.settings.buckets law.settings.buckets

    low : (f : ℕ) → f < urls_base → IsFileOf urls.base urls.settings.buckets f → ⊥
    low f below is = omega (arith, below, base, (files_within urls.base urls.settings.buckets f few is).0)

    apart : (f : ℕ) → IsFileOf urls.base urls.settings.buckets f → IsFileOf pairs_base urls.settings.buckets f → ⊥
    apart f one two = files_of_both urls.settings.buckets f few (subst (λ (n : ℕ). IsFileOf n urls.settings.buckets f) base one) two

pub rest_kept : (among : ℕ → Type 0) (urls : Drum) (state : State) (old new : Files) → IsDrum urls → urls.base ≡ urls_base → AreOfUrls urls among → ChangesOnly among old new → IsBeside urls state old
    → IsBeside urls state new
rest_kept among urls state old new law base are changes beside =
    let same = beside_same among urls old new law base are changes in
    record {
      head = subst (λ (file : List ℕ). HasRecords file (head_bytes urls.settings ∷ [])) (sym same.0) beside.head;
      rest = rest_stays urls.settings state.pairs state.events urls.settings.kind old new same.1 beside.rest;
    }

-- files that stand for a book of URLs, beside the rest
pub has_state : (images : Files → Type 0) (urls : Drum) (state : State) (book : Book) (image : Files) → IsDrum urls → HoldsUrls images urls state
    → IsRest urls.settings.kind urls.settings book state.pairs state.events → IsBeside urls state image → Stands urls.base urls.settings book image → HasState (with_urls book state) image
has_state images urls state book image law holds legal beside stands = inr (
  urls.settings,
  record {
    settings_are = holds.settings;
    valid = law.settings;
    head = inr beside.head;
    urls = subst (λ (base : ℕ). Stands base urls.settings book image) holds.base stands;
    legal = legal;
    rest = beside.rest;
  },
)

-- what a stop now may leave has the state that is held
pub held_has : (images : Files → Type 0) (urls : Drum) (state : State) (image : Files) → IsDrum urls → HoldsUrls images urls state → images image → HasState state image
held_has images urls state image law holds left =
    has_state images urls state state.urls image law holds holds.legal (held_beside images urls state image holds left) (holds_stands images urls state.urls image law holds.urls_hold left)

-- ---- states
pub held_state : (images : Files → Type 0) (urls : Drum) (state : State) (book : Book) → IsDrum urls → HoldsUrls images urls state
    → IsRest urls.settings.kind urls.settings book state.pairs state.events → IsBookOf urls.settings book → IsStateOf urls.settings (with_urls book state)
held_state images urls state book law holds legal is = record {
  settings_are = holds.settings;
  valid = law.settings;
  book_is = is;
  rest = legal;
}

-- the state that is held
pub held_legal : (images : Files → Type 0) (urls : Drum) (state : State) → IsDrum urls → HoldsUrls images urls state → IsStateOf urls.settings state
held_legal images urls state law holds = held_state images urls state state.urls law holds holds.legal holds.urls_hold.book_is

pub made_state : (settings : Settings) (state : State) (files : Files) → IsMade settings state files → IsStateOf settings state
made_state settings state files made = record {
  settings_are = made.settings_are;
  valid = made.valid;
  book_is = made.urls.book_is;
  rest = made.legal;
}

-- ---- a call on the bay of URLs
-- at its end the store holds the state with the book that the bay then holds
pub holds_after : (among : ℕ → Type 0) (old new : Told) (was now : Drum) (state : State) (book : Book) → IsDrum was → IsConsistent new → AreOfUrls was among → LeavesBy (ChangesOnly among) old new
    → now.base ≡ was.base → now.settings ≡ was.settings → HoldsUrls old.images was state → IsRest was.settings.kind was.settings book state.pairs state.events → Holds new.images now book
    → HoldsUrls new.images now (with_urls book state)
holds_after among old new was now state book law consistent are stops base settings holds legal after = record {
  settings = holds.settings ∙ ap (λ (s : Settings). Some s) (sym settings);
  base = base ∙ holds.base;
  head = λ image left.
      let from = left_now old new _ consistent stops image left in
      let same = beside_same among was from.0 image law holds.base are from.2 in
      subst (λ (s : Settings). HasRecords (image head_file) (head_bytes s ∷ [])) (sym settings)
      (subst (λ (file : List ℕ). HasRecords file (head_bytes was.settings ∷ [])) (sym same.0) (holds.head from.0 from.1));
  urls_hold = after;
  legal = subst (λ (s : Settings). IsRest s.kind s book state.pairs state.events) (sym settings) legal;
  rest = λ image left.
      let from = left_now old new _ consistent stops image left in
      subst (λ (s : Settings). HasRest s.kind s state.pairs state.events image) (sym settings)
      (rest_stays was.settings state.pairs state.events was.settings.kind from.0 image (beside_same among was from.0 image law holds.base are from.2).1 (holds.rest from.0 from.1));
}

-- and a stop in it leaves the state, with the book before it or the one that it makes
pub stops_one_of : (among : ℕ → Type 0) (old new : Told) (urls : Drum) (state : State) (book : Book) → IsDrum urls → AreOfUrls urls among → HoldsUrls old.images urls state
    → IsRest urls.settings.kind urls.settings book state.pairs state.events → LeavesBy (Becomes among urls.base urls.settings state.urls book) old new
    → Leaves old new (HasOneOf state (with_urls book state))
stops_one_of among old new urls state book law are holds legal stops =
    widens old new (Follows (Becomes among urls.base urls.settings state.urls book) old.images) _ stops (λ image from.
    let rest = rest_kept among urls state from.0 image law holds.base are from.2.others (held_beside old.images urls state from.0 holds from.1) in
    ⊎_elim (λ was. inl (has_state old.images urls state state.urls image law holds holds.legal rest was))
    (λ has. inr (has_state old.images urls state book image law holds legal rest has))
    from.2.stands)

-- ---- a call that changes nothing
-- at its end the store holds the state
pub holds_same : (old new : Told) (urls : Drum) (state : State) → IsDrum urls → IsConsistent new → LeavesSame old new → HoldsUrls old.images urls state → HoldsUrls new.images urls state
holds_same old new urls state law consistent same holds =
    let was = left_now old new old.images consistent same in
    record {
      settings = holds.settings;
      base = holds.base;
      head = λ image left. holds.head image (was image left);
      urls_hold = holds_fewer old.images new.images urls state.urls law was holds.urls_hold;
      legal = holds.legal;
      rest = λ image left. holds.rest image (was image left);
    }

-- and each stop in it leaves the state
pub stops_same : (old new : Told) (urls : Drum) (state : State) → IsDrum urls → HoldsUrls old.images urls state → LeavesSame old new → Leaves old new (HasState state)
stops_same old new urls state law holds same = widens old new old.images (HasState state) same (λ image left. held_has old.images urls state image law holds left)

-- ---- results
-- of two facts about a result that is Ok, a third
pub on_ok_both : {T E P Q R : Type 0} (result : Result T E) → OnOk result P → OnOk result Q → (P → Q → R) → OnOk result R
on_ok_both (Ok value) p q gives = gives p q
on_ok_both (Err error) p q gives = tt
