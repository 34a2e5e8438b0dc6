-- What waits in front of a bucket, and what a call makes of the numbers of a bay.
use Rattle.std.proofs.Common.{◌≡◌, ◌≢◌, ◌∙◌, inl, inr, ⊎_elim, ℕ, ◌+◌, ◌<◌, ◌≤◌, Bool, true, false, cond, List, length, nat_eq, slice_index, refl, sym, ap, subst, arith}
use Rattle.std.proofs.lemmas.List.{get_or-set_same, get_or-set_other, length-map}
use Rattle.std.proofs.Math.ListN.{get_or-map}
use Rattle.std.proofs.lemmas.Bool.{eq-eqb}
use Rattle.std.proofs.lemmas.Bool.Decides.{eqb_tells}
use Rattle.irl_offer.specs.Tuple.{Tuple}
use Rattle.irl_bay.specs.declared.bucket.Bucket.{Bucket}
use Rattle.irl_layout.specs.Commits.{Commit}
use Rattle.irl_bay.specs.Drum.{Drum, IsDrum, no_bucket, durables, durable_at, pending_at, KeepsCounts, CountsFlush, CountsMerge}
use Rattle.irl_schedule.specs.Feeding.{CountsGrow, Waits, with_waiting, Moment, Moves}
use Rattle.irl_schedule.specs.Schedule.{none_more, one_more_at, uneven_flush}

-- ---- what waits
with_same : (test : Bool) (offers other : List Tuple) → test ≡ true → cond test offers other ≡ offers
with_same test offers other is = ap (λ (t : Bool). cond t offers other) is

with_other : (test : Bool) (offers other : List Tuple) → test ≡ false → cond test offers other ≡ other
with_other test offers other is = ap (λ (t : Bool). cond t offers other) is

-- in front of this bucket these
pub waiting_here : (others : Waits) (b : ℕ) (offers : List Tuple) → with_waiting others b offers b ≡ offers
waiting_here others b offers = with_same (nat_eq b b) offers (others b) (eq-eqb b b refl)

-- and the others elsewhere
pub waiting_elsewhere : (others : Waits) (b c : ℕ) (offers : List Tuple) → c ≢ b → with_waiting others b offers c ≡ others c
waiting_elsewhere others b c offers other =
    ⊎_elim (λ same. absurd (other same.1)) (λ differs. with_other (nat_eq c b) offers (others c) differs.0) (eqb_tells c b)

-- ---- numbers of a bay
pub durable_index : (drum : Drum) (b : ℕ) → slice_index (durables drum) b ≡ durable_at drum b
durable_index drum b = get_or-map (λ (bucket : Bucket). bucket.durable) drum.buckets b no_bucket

pub same_durables : (old new : Drum) (b : ℕ) → durables new ≡ durables old → durable_at new b ≡ durable_at old b
same_durables old new b same = sym (durable_index new b) ∙ ap (λ (l : List ℕ). slice_index l b) same ∙ durable_index old b

pub length-durables : (drum : Drum) → length (durables drum) ≡ length drum.buckets
length-durables drum = length-map drum.buckets (λ (bucket : Bucket). bucket.durable)

pub kept_pending : (old new : Drum) (b : ℕ) → KeepsCounts old new → pending_at new b ≡ pending_at old b
kept_pending old new b counts =
    let last = ap (λ (commit : Commit). slice_index commit.cut b) counts.last in
    omega (arith, last, same_durables old new b counts.offers)

pub flushed_durable_here : (b n : ℕ) (old new : Drum) → IsDrum old → b < old.settings.buckets → CountsFlush b n old new → durable_at new b ≡ durable_at old b + n
flushed_durable_here b n old new law within counts =
    sym (durable_index new b) ∙ ap (λ (l : List ℕ). slice_index l b) counts.offers ∙ get_or-set_same (durables old) b (durable_at old b + n) 0 (omega (arith, length-durables old, law.count))

pub flushed_durable_elsewhere : (b n c : ℕ) (old new : Drum) → c ≢ b → CountsFlush b n old new → durable_at new c ≡ durable_at old c
flushed_durable_elsewhere b n c old new other counts =
    sym (durable_index new c) ∙ ap (λ (l : List ℕ). slice_index l c) counts.offers ∙ get_or-set_other (durables old) b c (durable_at old b + n) 0 other ∙ durable_index old c

pub flushed_pending_here : (b n : ℕ) (old new : Drum) → IsDrum old → b < old.settings.buckets → CountsFlush b n old new → pending_at new b ≤ pending_at old b + n
flushed_pending_here b n old new law within counts =
    let last = ap (λ (commit : Commit). slice_index commit.cut b) counts.last in
    omega (arith, last, flushed_durable_here b n old new law within counts)

pub flushed_pending_elsewhere : (b n c : ℕ) (old new : Drum) → c ≢ b → CountsFlush b n old new → pending_at new c ≡ pending_at old c
flushed_pending_elsewhere b n c old new other counts =
    let last = ap (λ (commit : Commit). slice_index commit.cut c) counts.last in
    omega (arith, last, flushed_durable_elsewhere b n c old new other counts)

pub merged_pending : (b : ℕ) (old new : Drum) → CountsMerge old new → pending_at new b ≡ 0
merged_pending b old new counts =
    let cut = ap (λ (l : List ℕ). slice_index l b) counts.cut in
    omega (arith, cut, durable_index old b, same_durables old new b counts.offers)

-- ---- what leaves an array
pub kept_durable : (old new : Drum) (b : ℕ) → KeepsCounts old new → durable_at new b ≡ durable_at old b
kept_durable old new b counts = same_durables old new b counts.offers

pub merged_durable : (old new : Drum) (b : ℕ) → CountsMerge old new → durable_at new b ≡ durable_at old b
merged_durable old new b counts = same_durables old new b counts.offers

-- ---- no count falls
pub same_grow : (old new : Drum) → new ≡ old → CountsGrow old new
same_grow old new same = record {
  cuts = omega (arith, ap (λ (d : Drum). d.cuts) same);
  judged = omega (arith, ap (λ (d : Drum). d.last.judged) same);
  durable = λ b. omega (arith, ap (λ (d : Drum). durable_at d b) same);
}

pub grow_both : (old mid new : Drum) → CountsGrow old mid → CountsGrow mid new → CountsGrow old new
grow_both old mid new one two = record {
  cuts = omega (arith, one.cuts, two.cuts);
  judged = omega (arith, one.judged, two.judged);
  durable = λ b. omega (arith, one.durable b, two.durable b);
}

pub kept_grow : (old new : Drum) → KeepsCounts old new → CountsGrow old new
kept_grow old new counts = record {
  cuts = omega (arith, counts.cuts);
  judged = omega (arith, ap (λ (commit : Commit). commit.judged) counts.last);
  durable = λ b. omega (arith, kept_durable old new b counts);
}

pub flushed_grow : (b n : ℕ) (old new : Drum) → IsDrum old → b < old.settings.buckets → CountsFlush b n old new → CountsGrow old new
flushed_grow b n old new law within counts = record {
  cuts = omega (arith, counts.cuts);
  judged = omega (arith, ap (λ (commit : Commit). commit.judged) counts.last);
  durable = λ c. ⊎_elim
      (λ same. subst (λ (m : ℕ). durable_at old m ≤ durable_at new m) (sym same.1) (omega (arith, flushed_durable_here b n old new law within counts)))
      (λ other. omega (arith, flushed_durable_elsewhere b n c old new other.1 counts))
      (eqb_tells c b);
}

pub merged_grow : (old new : Drum) → CountsMerge old new → CountsGrow old new
merged_grow old new counts = record {
  cuts = omega (arith, counts.cuts);
  judged = omega (arith, counts.unique, counts.unique_more);
  durable = λ b. omega (arith, merged_durable old new b counts);
}

-- nothing moves where nothing changes
pub moves_none : (old new : Moment) (b : ℕ) → new.waits b ≡ old.waits b → durable_at new.drum b ≡ durable_at old.drum b → Moves old new b
moves_none old new b waits durable = inl (waits, durable)

-- what moves in one of two calls, or in both
pub moves_both : (old mid new : Moment) (b : ℕ) → Moves old mid b → Moves mid new b → Moves old new b
moves_both old mid new b (inl same) (inl kept) = inl (kept.0 ∙ same.0, kept.1 ∙ same.1)
moves_both old mid new b (inl same) (inr moved) = inr (moved.0, omega (arith, moved.1, same.1, ap (λ (l : List Tuple). length l) same.0))
moves_both old mid new b (inr moved) (inl kept) = inr (kept.0 ∙ moved.0, kept.1 ∙ moved.1)
moves_both old mid new b (inr moved) (inr again) = inr (again.0, omega (arith, again.1, moved.1, ap (λ (l : List Tuple). length l) moved.0))

-- ---- uneven records
at_most : (test : Bool) (n : ℕ) → cond test 0 n ≤ n
at_most true n = omega arith
at_most false n = omega arith

pub flush_few : (array b : ℕ) (offers : List Tuple) (c : ℕ) → uneven_flush array b offers c ≤ one_more_at b c
flush_few array b offers c = at_most (nat_eq (length offers) array) (one_more_at b c)

-- a flush of a whole array adds none
pub flush_even : (array b : ℕ) (offers : List Tuple) (c : ℕ) → length offers ≡ array → uneven_flush array b offers c ≤ none_more c
flush_even array b offers c whole =
    let none : uneven_flush array b offers c ≡ 0 = ap (λ (t : Bool). cond t 0 (one_more_at b c)) (eq-eqb (length offers) array whole) in
    omega (arith, none)
