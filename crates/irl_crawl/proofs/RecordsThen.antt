-- Cuts and records that come in batches, in one part of a crawl behind another.
use Rattle.std.proofs.Common.{◌≡◌, ℕ, ◌+◌, ◌≤◌, Some, sym, subst, arith}
use Rattle.std.specs.Option.{ForSome}
use Rattle.irl_offer.specs.declared.settings.Settings.{Settings}
use Rattle.irl_disk.specs.Disk.{Files}
use Rattle.irl_disk.specs.Images.{Told}
use Rattle.irl_disk.proofs.Stretches.{joins, widens}
use Rattle.irl_events.specs.State.{State, IsFrontState}
use Rattle.irl_ledger.specs.Crawling.{pair_settings}
use Rattle.irl_schedule.proofs.Chains.{grows_both, grows_more}
use Rattle.irl_yard.specs.declared.parts.Parts.{Parts}
use Rattle.irl_yard.specs.Holding.{HoldsState}
use Rattle.irl_yard.proofs.States.{state_both}
use Rattle.irl_crawl.specs.Batches.{Batches, ComeInBatches, HasBatched, HasBoth, Records, Spare, turns_since}
use Rattle.irl_crawl.specs.Leading.{Leads}
use Rattle.irl_crawl.proofs.Records.{fronts_made, turns_then}

-- ---- what is to spare
abbrev pub IsWithin : Spare → Spare → Type 0
IsWithin few many = (few.desks ≤ many.desks) × (few.merges ≤ many.merges) × (few.sends ≤ many.sends)

-- that of one part and of another behind it
abbrev pub together : Spare → Spare → Spare
together one two = record { desks = one.desks + two.desks; merges = one.merges + two.merges; sends = one.sends + two.sends }

-- one merge of what is left, and once sending pairs
abbrev pub a_merge : ℕ → Spare
a_merge turns = record { desks = 0; merges = 1; sends = 0 }

abbrev pub a_sending : ℕ → Spare
a_sending turns = record { desks = 0; merges = 0; sends = 1 }

-- whatever turns are settled in each part
abbrev pub AreWithin : (ℕ → Spare) → (ℕ → Spare) → Type 0
AreWithin few many = (n : ℕ) → IsWithin (few n) (many n)

pub same_within : (spare : ℕ → Spare) → AreWithin spare spare
same_within spare n = (omega arith, omega arith, omega arith)

-- where so many turns were settled in the one part, and so many in the other
abbrev pub SpareBoth : (ℕ → Spare) → (ℕ → Spare) → (ℕ → Spare) → ℕ → ℕ → Type 0
SpareBoth one two all m n = IsWithin (together (one m) (two n)) (all (m + n))

-- ---- states and records
pub come_more : (settings : Settings) (few many : Spare) (x y : State) (old new : Records) → IsWithin few many → ComeInBatches settings few x y old new → ComeInBatches settings many x y old new
come_more settings few many x y old new within come = record {
  front = come.front;
  urls = grows_more settings few.merges many.merges x.urls y.urls within.1 come.urls;
  pairs = grows_more (pair_settings settings) few.sends many.sends x.pairs y.pairs within.2 come.pairs;
  records = record {
    urls = λ b inside. let adds = come.records.urls b inside in omega (arith, adds, within.0);
    pairs = λ b inside. let adds = come.records.pairs b inside in omega (arith, adds, within.2);
  };
}

pub come_both : (settings : Settings) (one two : Spare) (x y z : State) (old mid new : Records) → ComeInBatches settings one x y old mid → ComeInBatches settings two y z mid new
    → ComeInBatches settings (together one two) x z old new
come_both settings one two x y z old mid new first second = record {
  front = state_both x y z first.front second.front;
  urls = grows_both settings one.merges two.merges x.urls y.urls z.urls first.urls second.urls;
  pairs = grows_both (pair_settings settings) one.sends two.sends x.pairs y.pairs z.pairs first.pairs second.pairs;
  records = record {
    urls = λ b inside. let adds = first.records.urls b inside in let more = second.records.urls b inside in omega (arith, adds, more);
    pairs = λ b inside. let adds = first.records.pairs b inside in let more = second.records.pairs b inside in omega (arith, adds, more);
  };
}

pub batched_more : (settings : Settings) (few many : ℕ → Spare) (x : State) (old : Records) (image : Files) → AreWithin few many → HasBatched settings few x old image
    → HasBatched settings many x old image
batched_more settings few many x old image within has = record {
  state = has.state;
  has = has.has;
  records = has.records;
  live = has.live;
  come = come_more settings (few (turns_since x has.state)) (many (turns_since x has.state)) x has.state old has.records (within (turns_since x has.state)) has.come;
}

-- ---- the states that are held
-- Each state that was held is led to one that is held, unless the store failed.
pub record HoldsOn (failed : Type 0) (was now : Parts) (before after : Told) : Type 0 where
  pub held : (failed → ⊥) → ForSome before.files (λ _. (x : State) → HoldsState before.images was x → (y : State) × HoldsState after.images now y × IsFrontState x y)
  pub told : (files : Files) → before.files ≡ Some files → (later : Files) × (after.files ≡ Some later)
  pub settings : now.urls.settings ≡ was.urls.settings

pub leads_on : (failed : Type 0) (may did : State → State → Type 0) (was now : Parts) (before after : Told) → Leads failed may did was now before after → HoldsOn failed was now before after
leads_on failed may did was now before after leads = record {
  held = λ still files told x held. let y = leads.leads still files told x held in (y.0, y.2.holds, y.2.front);
  told = leads.told;
  settings = leads.settings;
}

-- ---- parts of a crawl
-- more may be spare, and failures may have another name
pub batches_more : (failed other : Type 0) (few_kept few_left kept left : ℕ → Spare) (was now : Parts) (before after : Told) → (failed → other) → AreWithin few_kept kept → AreWithin few_left left
    → Batches failed few_kept few_left was now before after → Batches other kept left was now before after
batches_more failed other few_kept few_left kept left was now before after there keeping leaving one = record {
  keeps = λ still files told x y old held last have.
      let has = one.keeps (λ failure. still (there failure)) files told x y old held last have in
      (has.0, has.1, come_more was.urls.settings (few_kept (turns_since x y)) (kept (turns_since x y)) x y old has.0 (keeping (turns_since x y)) has.2);
  stops = λ files told x old held have.
      widens before after _ _ (one.stops files told x old held have) (λ image has. batched_more was.urls.settings few_left left x old image leaving has);
}

module _ (first failed : Type 0) (kept1 left1 kept2 left2 kept left : ℕ → Spare) (was mid now : Parts) (s t u : Told) (on : HoldsOn first was mid s t) (sound : first → ⊥)
    (one : Batches first kept1 left1 was mid s t) (two : Batches failed kept2 left2 mid now t u) (leaving : AreWithin left1 left)
    (left_then : (files : Files) → s.files ≡ Some files → (x y : State) → HoldsState s.images was x → HoldsState t.images mid y → (n : ℕ) → SpareBoth kept1 left2 left (turns_since x y) n)
    (keeping : (files : Files) → t.files ≡ Some files → (x y z : State) → HoldsState s.images was x → HoldsState t.images mid y → HoldsState u.images now z
    → SpareBoth kept1 kept2 kept (turns_since x y) (turns_since y z)) where
  abbrev settings : Settings
  settings = was.urls.settings

  -- up to a state of the second part
  later : (spare all : ℕ → Spare) (x y z : State) (old mid_records new : Records) → HoldsState s.images was x → HoldsState t.images mid y
      → SpareBoth kept1 spare all (turns_since x y) (turns_since y z) → ComeInBatches settings (kept1 (turns_since x y)) x y old mid_records
      → ComeInBatches mid.urls.settings (spare (turns_since y z)) y z mid_records new
      → ComeInBatches settings (all (turns_since x z)) x z old new
  later spare all x y z old mid_records new held between within up come =
      let m = turns_since x y in
      let n = turns_since y z in
      let behind = subst (λ (p : Settings). ComeInBatches p (spare n) y z mid_records new) on.settings come in
      let turns : turns_since x z ≡ m + n =
      turns_then x y z (fronts_made was.urls.settings x y held.urls.settings up.front) (fronts_made mid.urls.settings y z between.urls.settings behind.front) in
      subst (λ (k : ℕ). ComeInBatches settings (all k) x z old new) (sym turns)
      (come_more settings (together (kept1 m) (spare n)) (all (m + n)) x z old new within (come_both settings (kept1 m) (spare n) x y z old mid_records new up behind))

  batched_later : (x y : State) (old mid_records : Records) (image : Files) → HoldsState s.images was x → HoldsState t.images mid y
      → ((n : ℕ) → SpareBoth kept1 left2 left (turns_since x y) n) → ComeInBatches settings (kept1 (turns_since x y)) x y old mid_records
      → HasBatched mid.urls.settings left2 y mid_records image → HasBatched settings left x old image
  batched_later x y old mid_records image held between within up has = record {
    state = has.state;
    has = has.has;
    records = has.records;
    live = subst (λ (p : Settings). HasBoth p has.records image) on.settings has.live;
    come = later left2 left x y has.state old mid_records has.records held between (within (turns_since y has.state)) up has.come;
  }

  -- The first didn't fail.
  pub batches_then : Batches failed kept left was now s u
  batches_then = record {
    keeps = λ still files told x z old held last have.
        let told_then = on.told files told in
        let y = on.held sound files told x held in
        let up = one.keeps sound files told x y.0 old held y.1 have in
        let has = two.keeps still told_then.0 told_then.1 y.0 z up.0 y.1 last up.1 in
        (has.0, has.1, later kept2 kept x y.0 z old up.0 has.0 held y.1 (keeping told_then.0 told_then.1 x y.0 z held y.1 last) up.2 has.2);
    stops = λ files told x old held have.
        let told_then = on.told files told in
        let y = on.held sound files told x held in
        let up = one.keeps sound files told x y.0 old held y.1 have in
        joins s t u _ (widens s t _ _ (one.stops files told x old held have) (λ image has. batched_more settings left1 left x old image leaving has))
        (widens t u _ _ (two.stops told_then.0 told_then.1 y.0 up.0 y.1 up.1) (λ image has. batched_later x y.0 old up.0 image held y.1 (left_then files told x y.0 held y.1) up.2 has));
  }
