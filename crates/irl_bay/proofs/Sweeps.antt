-- How a merge's way through the cache goes on, from one call to the next.
use Rattle.std.proofs.Common.{◌≡◌, ◌≢◌, ◌∙◌, ℕ, ◌+◌, ◌-◌, ◌*◌, ◌<◌, ◌≤◌, List, [], ◌∷◌, ◌++◌, map, length, Option, None, Some, inl, inr, refl, sym, ap, subst, arith, append-nil, append_assoc, length-append}
use Rattle.std.proofs.lemmas.List.{map-append}
use Rattle.std.specs.List.{AllByRecursion}
use Rattle.std.specs.Option.{ForSome}
use Rattle.std.specs.FinMap.{entries}
use Rattle.irl_offer.specs.Buckets.{IsBucketCount, bucket_of}
use Rattle.irl_offer.specs.Tuple.{Tuple}
use Rattle.irl_offer.specs.declared.offer.Verdict.{Verdict}
use Rattle.irl_offer.specs.declared.receipt.Pair.{Pair}
use Rattle.irl_model.specs.Judging.{AreParts, after, judgements}
use Rattle.irl_model.specs.Pairs.{ArePairsOf, IsRising, keys_of, pair_of}
use Rattle.irl_model.proofs.Parts.{each_too, parts_after, parts_judged, parts_of_pairs}
use Rattle.irl_model.proofs.RisingKeys.{pairs_rise, rising_back, rising_front}
use Rattle.irl_disk.specs.Disk.{Files, Changes, ChangesFile}
use Rattle.irl_disk.specs.Effects.{OnlyChanges, OnlyReads, ReadsAndChanges}
use Rattle.irl_disk.specs.Images.{Told, IsConsistent}
use Rattle.irl_disk.proofs.Effects.{cause_for, cause_then, told_none, told_then}
use Rattle.irl_disk.proofs.Stretches.{joins_by, same_by, stays}
use Rattle.irl_disk.proofs.Frames.{takes_both, takes_none, told_from}
use Rattle.irl_journal.specs.Blob.{BeginsWith, KeepsFront}
use Rattle.irl_journal.proofs.Fronts.{keeps_both, keeps_none}
use Rattle.irl_cache.specs.Reading.{HasRead, Reader, ReachesRead, TakesExactly, read_of}
use Rattle.irl_cache.proofs.Frames.{takes_more, takes_nothing}
use Rattle.irl_cache.specs.SortedRun.{IsSpoiltRun, RisesFrom, pairs_bytes}
use Rattle.irl_journal.specs.Growing.{HasPut, ReachesPlace, Writer}
use Rattle.irl_cache.specs.Writing.{HasWritten, RunWriter}
use Rattle.irl_merge.specs.declared.sweep.Sweep.{Sweep}
use Rattle.irl_merge.specs.Sweeping.{HasSwept}
use Rattle.irl_merge.proofs.Given.{given_is_rising, given_within}
use Rattle.irl_bay.specs.declared.sides.Sides.{Sides}
use Rattle.irl_bay.specs.Sides.{HasMerged, IsSweeping, IsDone, IsSameCache, LieFrom, ReadsAndPuts, ReadsOn, rest_of}
use Rattle.irl_bay.proofs.CachePairs.{length-pairs}
use Rattle.irl_bay.proofs.InBuckets.{all_both, all_front, all_two, above_first, below_border, border_of, bucket_after, from_border, from_here, here_is, is_here, lie_now, lie_on, put_below, rises_from_last, rising_both}

-- ---- files
-- a file is as before, where a store tells it
abbrev pub IsSameFile : ℕ → Option Files → Option Files → Type 0
IsSameFile g told new = ForSome new (λ files. (before : Files) × (told ≡ Some before) × (files g ≡ before g))

pub same_file : (f g : ℕ) (step : List ℕ → List ℕ → Type 0) (told new : Option Files) → g ≢ f → Changes f step told new → IsSameFile g told new
same_file f g step told new apart changes = λ files is.
    let from = told_from f step told new files changes is in
    (from.0, from.1, from.2.others g apart)

pub same_told : (g : ℕ) (told new : Option Files) → new ≡ told → IsSameFile g told new
same_told g told new same = λ files is. (files, sym same ∙ is, refl)

pub read_on : (told new : Option Files) (pairs : List Pair) (reader : Reader) → IsSameFile reader.file told new → HasRead told pairs reader → HasRead new pairs reader
read_on told new pairs reader same has = record {
  count = has.count;
  within = has.within;
  rising = has.rising;
  words = has.words;
  last = has.last;
  bytes = λ files is.
      let from = same files is in
      subst (λ (file : List ℕ). BeginsWith file (pairs_bytes (map pair_of (pairs ++ reader.ahead)))) (sym from.2) (has.bytes from.0 from.1);
}

-- what was read and written is there
pub has_reached : (told : Option Files) (pairs : List Pair) (reader : Reader) → HasRead told pairs reader → ForSome told (ReachesRead reader)
has_reached told pairs reader has = λ files is.
    let begins = has.bytes files is in
    let size = length-pairs (map pair_of (pairs ++ reader.ahead)) in
    let many : length (map pair_of (pairs ++ reader.ahead)) ≡ length pairs + length reader.ahead = pairs_many pairs reader.ahead in
    omega (arith, ap (λ (l : List ℕ). length l) begins.1, length-append (pairs_bytes (map pair_of (pairs ++ reader.ahead))) begins.0, size, many, has.count)
  where
    map_many : (l : List Pair) → length (map pair_of l) ≡ length l
    map_many [] = refl
    map_many (p ∷ l) = omega (arith, map_many l)

    pairs_many : (xs ys : List Pair) → length (map pair_of (xs ++ ys)) ≡ length xs + length ys
    pairs_many xs ys = map_many (xs ++ ys) ∙ length-append xs ys

pub has_place : (told : Option Files) (pairs : List Pair) (writer : RunWriter) → HasWritten told pairs writer → ForSome told (ReachesPlace writer.out)
has_place told pairs writer has = λ files is.
    let stand = has.put.stand files is in
    omega (arith, ap (λ (l : List ℕ). length l) stand.2, length-append (stand.0 ++ has.put.written) stand.1, length-append stand.0 has.put.written, stand.3, has.put.place)

-- what is done with a bucket is done with those before it
pub done_on : (n b : ℕ) (sides after_sides : Sides) → rest_of after_sides ≡ rest_of sides → after_sides.buckets ≡ sides.buckets → after_sides.reader ≡ sides.reader → n ≤ b → IsDone b sides
    → IsDone n after_sides
done_on n b sides after_sides left buckets reader le (inl more) =
    let lt : n < bucket_of sides.buckets more.0.key = omega (arith, more.3) in
    inl (more.0, more.1, left ∙ more.2, subst (λ (k : ℕ). n < bucket_of k more.0.key) (sym buckets) lt)
done_on n b sides after_sides left buckets reader le (inr all) = inr (left ∙ all.0, subst (λ (r : Reader). r.given ≡ r.entries) (sym reader) all.1)

-- ---- a bucket's sweep begins
pub begins : (b : ℕ) (offers : List Tuple) (verdicts : List (Option Verdict)) (news : List Tuple) (told : Option Files) (sweep : Sweep) (sides : Sides) → HasMerged b offers verdicts told sides
    → AllByRecursion (λ offer. bucket_of sides.buckets offer.key ≡ b) news
    → HasSwept sides.rule news [] [] sweep → IsSweeping b offers verdicts news told sweep sides
begins b offers verdicts news told sweep sides has here swept =
    let none : has.fed ++ [] ≡ has.fed = append-nil has.fed in
    record {
      before = has.fed;
      put = has.put;
      fed = [];
      given = [];
      verdicts_are = has.verdicts_are;
      keys = has.keys;
      before_below = has.fed_below;
      offers_below = has.offers_below;
      fed_here = tt;
      news_here = here;
      swept = swept;
      read = subst (λ (l : List Pair). HasRead told (l ++ rest_of sides) sides.reader) (sym none) has.read;
      behind = subst (λ (l : List Pair). LieFrom sides.buckets b sides.reader.entries l (rest_of sides)) (sym none) has.behind;
      written = subst (λ (l : List Pair). HasWritten told l sides.writer) (sym (append-nil has.put)) has.written;
    }

-- ---- while it goes on
module _ (b : ℕ) (offers : List Tuple) (verdicts : List (Option Verdict)) (news : List Tuple) (told : Option Files) (sweep : Sweep) (sides : Sides)
    (is : IsSweeping b offers verdicts news told sweep sides) where
  -- all that was read rises, and is no more than there is
  all_rise : IsRising ((is.before ++ is.fed) ++ rest_of sides)
  all_rise = rising_front ((is.before ++ is.fed) ++ rest_of sides) sides.reader.ahead is.read.rising

  fed_rise : IsRising (is.before ++ is.fed)
  fed_rise = rising_front (is.before ++ is.fed) (rest_of sides) all_rise

  few : length ((is.before ++ is.fed) ++ rest_of sides) ≤ sides.reader.entries
  few = omega (arith, is.read.count, is.read.within)

  pub rest_rises : IsRising (is.fed ++ rest_of sides)
  rest_rises = rising_back is.before (is.fed ++ rest_of sides) (subst (λ (l : List Pair). IsRising l) (append_assoc is.before is.fed (rest_of sides)) all_rise)

  -- and so does the next piece of it behind what the sweep was fed
  pub piece_rises : (piece rest : List Pair) → rest_of sides ≡ piece ++ rest → IsRising (is.fed ++ piece)
  piece_rises piece rest cut =
      rising_front (is.fed ++ piece) rest (subst (λ (l : List Pair). IsRising l) (ap (λ (l : List Pair). is.fed ++ l) cut ∙ sym (append_assoc is.fed piece rest)) rest_rises)

  -- what is put is below the bucket
  put_rises : IsRising is.put
  put_rises = pairs_rise (after sides.rule (keys_of is.before) offers) is.put is.keys

  puts_below : AllByRecursion (λ (p : Pair). bucket_of sides.buckets p.key < b) is.put
  puts_below = put_below sides.buckets b sides.rule is.before is.put offers (rising_front is.before is.fed fed_rise) is.keys is.before_below is.offers_below

  -- what is given, of pairs of the bucket, may be put behind it
  pub more_rises : (fed given more : List Pair) (after_sweep : Sweep) → given ≡ is.given ++ more → AllByRecursion (λ (p : Pair). bucket_of sides.buckets p.key ≡ b) fed
      → HasSwept sides.rule news fed given after_sweep → RisesFrom sides.writer.last more
  more_rises fed given more after_sweep cut here swept =
      let test = is_here sides.buckets b in
      let of_fed = each_too (λ (p : Pair). here_is sides.buckets b p.key) fed here in
      let of_news = each_too (λ (o : Tuple). here_is sides.buckets b o.key) news is.news_here in
      let within = given_within test sides.rule news fed given after_sweep swept of_fed of_news in
      let given_here = each_too (λ (p : Pair). from_here sides.buckets b p.key) given within in
      let all = rising_both sides.buckets b is.put given put_rises (given_is_rising sides.rule news fed given after_sweep swept) puts_below given_here in
      let cut_all : is.put ++ given ≡ (is.put ++ is.given) ++ more = ap (λ (l : List Pair). is.put ++ l) cut ∙ sym (append_assoc is.put is.given more) in
      subst (λ (last : Option ℕ). RisesFrom last more) (sym is.written.last) (rises_from_last (is.put ++ is.given) more (subst (λ (l : List Pair). IsRising l) cut_all all))

  -- the piece is of the bucket
  pub piece_here : (piece rest : List Pair) → rest_of sides ≡ piece ++ rest → AllByRecursion (λ (p : Pair). bucket_of sides.buckets p.key ≤ b) piece
      → AllByRecursion (λ (p : Pair). bucket_of sides.buckets p.key ≡ b) (is.fed ++ piece)
  piece_here piece rest cut upto =
      let from = lie_now sides.buckets b sides.reader.entries (is.before ++ is.fed) (rest_of sides) is.behind few all_rise in
      let of_piece = all_front (λ (p : Pair). b ≤ bucket_of sides.buckets p.key) piece rest (subst (AllByRecursion (λ (p : Pair). b ≤ bucket_of sides.buckets p.key)) cut from) in
      all_both (λ (p : Pair). bucket_of sides.buckets p.key ≡ b) is.fed piece is.fed_here
      (all_two (λ (p : Pair). bucket_of sides.buckets p.key ≤ b) (λ (p : Pair). b ≤ bucket_of sides.buckets p.key) (λ (p : Pair). bucket_of sides.buckets p.key ≡ b) (λ p le ge. omega arith) piece upto
      of_piece)

  -- once it is fed
  pub feeds : (piece rest more : List Pair) (new : Option Files) (after_sweep : Sweep) (after_sides : Sides) → rest_of sides ≡ piece ++ rest → rest_of after_sides ≡ rest
      → after_sides.rule ≡ sides.rule → after_sides.buckets ≡ sides.buckets → after_sides.reader ≡ sides.reader
      → AllByRecursion (λ (p : Pair). bucket_of sides.buckets p.key ≤ b) piece → HasSwept sides.rule news (is.fed ++ piece) (is.given ++ more) after_sweep → IsSameFile sides.reader.file told new
      → HasWritten new ((is.put ++ is.given) ++ more) after_sides.writer
      → IsSweeping b offers verdicts news new after_sweep after_sides
  feeds piece rest more new after_sweep after_sides cut left rule buckets reader upto swept same written = record {
    before = is.before;
    put = is.put;
    fed = is.fed ++ piece;
    given = is.given ++ more;
    verdicts_are = is.verdicts_are ∙ ap (λ r. map (λ p. p.1) (judgements r (keys_of is.before) offers)) (sym rule);
    keys = subst (λ r. ArePairsOf (after r (keys_of is.before) offers) is.put) (sym rule) is.keys;
    before_below = subst (λ (n : ℕ). AllByRecursion (λ (p : Pair). bucket_of n p.key < b) is.before) (sym buckets) is.before_below;
    offers_below = subst (λ (n : ℕ). AllByRecursion (λ (o : Tuple). bucket_of n o.key < b) offers) (sym buckets) is.offers_below;
    fed_here = subst (λ (n : ℕ). AllByRecursion (λ (p : Pair). bucket_of n p.key ≡ b) (is.fed ++ piece)) (sym buckets) (piece_here piece rest cut upto);
    news_here = subst (λ (n : ℕ). AllByRecursion (λ (o : Tuple). bucket_of n o.key ≡ b) news) (sym buckets) is.news_here;
    swept = subst (λ r. HasSwept r news (is.fed ++ piece) (is.given ++ more) after_sweep) (sym rule) swept;
    read =
        let pairs : (is.before ++ is.fed) ++ rest_of sides ≡ (is.before ++ (is.fed ++ piece)) ++ rest_of after_sides =
        ap (λ (l : List Pair). (is.before ++ is.fed) ++ l) cut ∙ sym (append_assoc (is.before ++ is.fed) piece rest) ∙ ap (λ (l : List Pair). l ++ rest) (append_assoc is.before is.fed piece)
        ∙ ap (λ (l : List Pair). (is.before ++ (is.fed ++ piece)) ++ l) (sym left) in
        subst (λ (r : Reader). HasRead new ((is.before ++ (is.fed ++ piece)) ++ rest_of after_sides) r) (sym reader)
        (subst (λ (l : List Pair). HasRead new l sides.reader) pairs (read_on told new ((is.before ++ is.fed) ++ rest_of sides) sides.reader same is.read));
    behind =
        let lie = lie_on sides.buckets b sides.reader.entries (is.before ++ is.fed) piece rest
        (subst (λ (l : List Pair). LieFrom sides.buckets b sides.reader.entries (is.before ++ is.fed) l) cut is.behind) in
        let fed_too = subst (λ (l : List Pair). LieFrom sides.buckets b sides.reader.entries l rest) (append_assoc is.before is.fed piece) lie in
        let left_too = subst (λ (l : List Pair). LieFrom sides.buckets b sides.reader.entries (is.before ++ (is.fed ++ piece)) l) (sym left) fed_too in
        let entries_too = subst (λ (r : Reader). LieFrom sides.buckets b r.entries (is.before ++ (is.fed ++ piece)) (rest_of after_sides)) (sym reader) left_too in
        subst (λ (n : ℕ). LieFrom n b after_sides.reader.entries (is.before ++ (is.fed ++ piece)) (rest_of after_sides)) (sym buckets) entries_too;
    written = subst (λ (l : List Pair). HasWritten new l after_sides.writer) (append_assoc is.put is.given more) written;
  }

  -- once the next block is read
  pub nexts : (new : Option Files) (after_sides : Sides) → rest_of sides ≡ [] → after_sides.rule ≡ sides.rule → after_sides.buckets ≡ sides.buckets → after_sides.writer ≡ sides.writer
      → after_sides.reader.entries ≡ sides.reader.entries
      → new ≡ told → HasRead new (((is.before ++ is.fed) ++ rest_of sides) ++ rest_of after_sides) after_sides.reader → IsSweeping b offers verdicts news new sweep after_sides
  nexts new after_sides none rule buckets writer count same read =
      let all : (is.before ++ is.fed) ++ rest_of sides ≡ is.before ++ is.fed = ap (λ (l : List Pair). (is.before ++ is.fed) ++ l) none ∙ append-nil (is.before ++ is.fed) in
      record {
        before = is.before;
        put = is.put;
        fed = is.fed;
        given = is.given;
        verdicts_are = is.verdicts_are ∙ ap (λ r. map (λ p. p.1) (judgements r (keys_of is.before) offers)) (sym rule);
        keys = subst (λ r. ArePairsOf (after r (keys_of is.before) offers) is.put) (sym rule) is.keys;
        before_below = subst (λ (n : ℕ). AllByRecursion (λ (p : Pair). bucket_of n p.key < b) is.before) (sym buckets) is.before_below;
        offers_below = subst (λ (n : ℕ). AllByRecursion (λ (o : Tuple). bucket_of n o.key < b) offers) (sym buckets) is.offers_below;
        fed_here = subst (λ (n : ℕ). AllByRecursion (λ (p : Pair). bucket_of n p.key ≡ b) is.fed) (sym buckets) is.fed_here;
        news_here = subst (λ (n : ℕ). AllByRecursion (λ (o : Tuple). bucket_of n o.key ≡ b) news) (sym buckets) is.news_here;
        swept = subst (λ r. HasSwept r news is.fed is.given sweep) (sym rule) is.swept;
        read = subst (λ (l : List Pair). HasRead new (l ++ rest_of after_sides) after_sides.reader) all read;
        behind =
            let lie : LieFrom sides.buckets b sides.reader.entries (is.before ++ is.fed) (rest_of after_sides) = λ more.
            let whole = subst (λ (l : List Pair). LieFrom sides.buckets b sides.reader.entries (is.before ++ is.fed) l) none is.behind in
            whole (rest_of after_sides ++ more) in
            subst (λ (n : ℕ). LieFrom n b after_sides.reader.entries (is.before ++ is.fed) (rest_of after_sides)) (sym buckets)
            (subst (λ (n : ℕ). LieFrom sides.buckets b n (is.before ++ is.fed) (rest_of after_sides)) (sym count) lie);
        written = subst (λ (w : RunWriter). HasWritten new (is.put ++ is.given) w) (sym writer) (subst (λ (t : Option Files). HasWritten t (is.put ++ is.given) sides.writer) (sym same) is.written);
      }

  -- ---- it ends: the keys below the bucket and its own are two parts of a set
  parts : IsBucketCount sides.buckets → AreParts (border_of sides.buckets b) (keys_of (is.before ++ is.fed)) (keys_of is.before) (keys_of is.fed)
  parts count = parts_of_pairs (border_of sides.buckets b) is.before is.fed fed_rise (each_too (λ (p : Pair). below_border sides.buckets b p.key count) is.before is.before_below)
      (each_too (λ (p : Pair). from_border sides.buckets b p.key count) is.fed is.fed_here)

  ends_behind : IsDone b sides → LieFrom sides.buckets (b + 1) sides.reader.entries (is.before ++ is.fed) (rest_of sides)
  ends_behind (inl left) = λ more few rises.
      let p = left.0 in
      let fed = is.before ++ is.fed in
      let whole : IsRising (p ∷ (left.1 ++ more)) = rising_back fed (p ∷ (left.1 ++ more)) (subst (λ (l : List Pair). IsRising (fed ++ (l ++ more))) left.2 rises) in
      let later = each_too (λ (q : Pair) (lt : p.key < q.key). let le = bucket_after sides.buckets p.key q.key lt in
      omega (arith, le, left.3)) (left.1 ++ more) (above_first p (left.1 ++ more) whole) in
      let here : b + 1 ≤ bucket_of sides.buckets p.key = omega (arith, left.3) in
      subst (λ (l : List Pair). AllByRecursion (λ (q : Pair). b + 1 ≤ bucket_of sides.buckets q.key) (l ++ more)) (sym left.2) (here, later)
  ends_behind (inr all) = λ more few rises.
      let fed = is.before ++ is.fed in
      let size = length-append fed (rest_of sides ++ more) in
      let size_2 = length-append (rest_of sides) more in
      let size_3 = length-append fed (rest_of sides) in
      let none : length more ≡ 0 = omega (arith, few, size, size_2, size_3, is.read.count, all.1) in
      subst (λ (l : List Pair). AllByRecursion (λ (q : Pair). b + 1 ≤ bucket_of sides.buckets q.key) (l ++ more)) (sym all.0) (nothing more none)
    where
      nothing : (more : List Pair) → length more ≡ 0 → AllByRecursion (λ (q : Pair). b + 1 ≤ bucket_of sides.buckets q.key) more
      nothing [] none = tt
      nothing (q ∷ more) none = absurd (omega arith)

  module _ (count : IsBucketCount sides.buckets) (more : List Pair) (given_all : ArePairsOf (after sides.rule (keys_of is.fed) news) (is.given ++ more)) where
    all_put : ArePairsOf (after sides.rule (keys_of (is.before ++ is.fed)) (offers ++ news)) ((is.put ++ is.given) ++ more)
    all_put =
        let border = border_of sides.buckets b in
        let low = each_too (λ (o : Tuple). below_border sides.buckets b o.key count) offers is.offers_below in
        let high = each_too (λ (o : Tuple). from_border sides.buckets b o.key count) news is.news_here in
        let joined = (parts_after border sides.rule (keys_of (is.before ++ is.fed)) (keys_of is.before) (keys_of is.fed) offers news (parts count) low high).joined in
        ap (map pair_of) (append_assoc is.put is.given more) ∙ map-append pair_of is.put (is.given ++ more) ∙ ap (λ (l : List (ℕ × ℕ)). l ++ map pair_of (is.given ++ more)) is.keys
        ∙ ap (λ (l : List (ℕ × ℕ)). entries (after sides.rule (keys_of is.before) offers) ++ l) given_all ∙ sym joined

    pub last_rises : RisesFrom sides.writer.last more
    last_rises = subst (λ (last : Option ℕ). RisesFrom last more) (sym is.written.last) (rises_from_last (is.put ++ is.given) more (pairs_rise _ ((is.put ++ is.given) ++ more) all_put))

    pub ends : (found : List (Option Verdict)) (new : Option Files) (after_sides : Sides) → IsDone b sides → found ≡ map (λ p. p.1) (judgements sides.rule (keys_of is.fed) news)
        → rest_of after_sides ≡ rest_of sides → after_sides.rule ≡ sides.rule → after_sides.buckets ≡ sides.buckets → after_sides.reader ≡ sides.reader
        → IsSameFile sides.reader.file told new → HasWritten new ((is.put ++ is.given) ++ more) after_sides.writer → HasMerged (b + 1) (offers ++ news) (verdicts ++ found) new after_sides
    ends found new after_sides done judged left rule buckets reader same written =
        let border = border_of sides.buckets b in
        let keys = keys_of (is.before ++ is.fed) in
        let low = each_too (λ (o : Tuple). below_border sides.buckets b o.key count) offers is.offers_below in
        let high = each_too (λ (o : Tuple). from_border sides.buckets b o.key count) news is.news_here in
        let both = parts_judged border sides.rule keys (keys_of is.before) (keys_of is.fed) offers news (parts count) low high in
        let under : (n : ℕ) → n < b → n < b + 1 = λ n lt. omega arith in
        let at : (n : ℕ) → n ≡ b → n < b + 1 = λ n e. omega arith in
        record {
          fed = is.before ++ is.fed;
          put = (is.put ++ is.given) ++ more;
          verdicts_are =
              ap (λ (l : List (Option Verdict)). l ++ found) is.verdicts_are ∙ ap (λ (l : List (Option Verdict)). map (λ p. p.1) (judgements sides.rule (keys_of is.before) offers) ++ l) judged
              ∙ sym (map-append (λ (p : Tuple × Option Verdict). p.1) (judgements sides.rule (keys_of is.before) offers) (judgements sides.rule (keys_of is.fed) news))
              ∙ ap (map (λ (p : Tuple × Option Verdict). p.1)) (sym both)
              ∙ ap (λ r. map (λ (p : Tuple × Option Verdict). p.1) (judgements r keys (offers ++ news))) (sym rule);
          keys = subst (λ r. ArePairsOf (after r keys (offers ++ news)) ((is.put ++ is.given) ++ more)) (sym rule) all_put;
          fed_below = subst (λ (n : ℕ). AllByRecursion (λ (p : Pair). bucket_of n p.key < b + 1) (is.before ++ is.fed)) (sym buckets)
              (all_both (λ (p : Pair). bucket_of sides.buckets p.key < b + 1) is.before is.fed (each_too (λ (p : Pair). under (bucket_of sides.buckets p.key)) is.before is.before_below)
              (each_too (λ (p : Pair). at (bucket_of sides.buckets p.key)) is.fed is.fed_here));
          offers_below = subst (λ (n : ℕ). AllByRecursion (λ (o : Tuple). bucket_of n o.key < b + 1) (offers ++ news)) (sym buckets)
              (all_both (λ (o : Tuple). bucket_of sides.buckets o.key < b + 1) offers news (each_too (λ (o : Tuple). under (bucket_of sides.buckets o.key)) offers is.offers_below)
              (each_too (λ (o : Tuple). at (bucket_of sides.buckets o.key)) news is.news_here));
          read = subst (λ (r : Reader). HasRead new ((is.before ++ is.fed) ++ rest_of after_sides) r) (sym reader)
              (subst (λ (l : List Pair). HasRead new ((is.before ++ is.fed) ++ l) sides.reader) (sym left) (read_on told new ((is.before ++ is.fed) ++ rest_of sides) sides.reader same is.read));
          behind = subst (λ (n : ℕ). LieFrom n (b + 1) after_sides.reader.entries (is.before ++ is.fed) (rest_of after_sides)) (sym buckets)
              (subst (λ (r : Reader). LieFrom sides.buckets (b + 1) r.entries (is.before ++ is.fed) (rest_of after_sides)) (sym reader)
              (subst (λ (l : List Pair). LieFrom sides.buckets (b + 1) sides.reader.entries (is.before ++ is.fed) l) (sym left) (ends_behind done)));
          done = λ n lt. done_on n b sides after_sides left buckets reader (omega arith) done;
          written = written;
        }

-- ---- one file is written, wherever
module _ (f : ℕ) where
  step_none : (x : Files) → ChangesFile f (KeepsFront 0) x x
  step_none x = record { changed = keeps_none 0 (x f); others = λ g out. refl }

  step_both : (x y z : Files) → ChangesFile f (KeepsFront 0) x y → ChangesFile f (KeepsFront 0) y z → ChangesFile f (KeepsFront 0) x z
  step_both x y z one two = record { changed = keeps_both 0 (x f) (y f) (z f) one.changed two.changed; others = λ g out. two.others g out ∙ one.others g out }

-- ---- calls that read the live side and write the other
module _ (sides : Sides) where
  abbrev pub puts_step : Files → Files → Type 0
  puts_step = ChangesFile sides.writer.out.file (KeepsFront 0)

  pub puts_none : (now : Told) → IsConsistent now → ReadsAndPuts sides ⊥ now now
  puts_none now law = record {
    told = told_none puts_step now.files now.files (step_none sides.writer.out.file) refl;
    stops = same_by now now puts_step (step_none sides.writer.out.file) (stays now now.images law (λ image was. was));
    taken = takes_none _ now.taken now.taken refl;
    cause = record { later = omega arith; rose = λ no. absurd no };
  }

  pub puts_for : (failed answered : Type 0) (old new : Told) → (answered → failed) → ReadsAndPuts sides failed old new → ReadsAndPuts sides answered old new
  puts_for failed answered old new gave puts = record { told = puts.told; stops = puts.stops; taken = puts.taken; cause = cause_for failed answered old.faults new.faults gave puts.cause }

  pub puts_then : (failed answered : Type 0) (old mid new : Told) → IsConsistent mid → ReadsAndPuts sides failed old mid → ReadsAndPuts sides answered mid new → ReadsAndPuts sides answered old new
  puts_then failed answered old mid new law first second = record {
    told = told_then puts_step old.files mid.files new.files (step_both sides.writer.out.file) first.told second.told;
    stops = joins_by old mid new puts_step law (step_both sides.writer.out.file) first.stops second.stops;
    taken = takes_both _ old.taken mid.taken new.taken first.taken second.taken;
    cause = cause_then answered old.faults mid.faults new.faults first.cause.later second.cause;
  }

  -- a call that only writes, and one that only reads
  pub puts_only : (failed : Type 0) (old new : Told) → OnlyChanges puts_step failed old new → ReadsAndPuts sides failed old new
  puts_only failed old new changes = record { told = changes.told; stops = changes.stops; taken = takes_none _ old.taken new.taken changes.taken; cause = changes.cause }

  pub puts_read : (failed : Type 0) (old new : Told) → OnlyReads (λ f. f ≡ sides.reader.file) failed old new → ReadsAndPuts sides failed old new
  puts_read failed old new reads = record {
    told = told_none puts_step old.files new.files (step_none sides.writer.out.file) reads.same;
    stops = same_by old new puts_step (step_none sides.writer.out.file) reads.stops;
    taken = reads.taken;
    cause = reads.cause;
  }

-- the same of sides that have the same files
pub puts_of : (from sides : Sides) (failed : Type 0) (old new : Told) → IsSameCache from sides → ReadsAndPuts sides failed old new → ReadsAndPuts from failed old new
puts_of from sides failed old new same puts =
    subst (λ (f : ℕ). ReadsAndChanges (λ g. g ≡ f) (ChangesFile from.writer.out.file (KeepsFront 0)) failed old new) same.from
    (subst (λ (f : ℕ). ReadsAndChanges (λ g. g ≡ sides.reader.file) (ChangesFile f (KeepsFront 0)) failed old new) same.to puts)

-- ---- damage of the side that is read was there before the other was written
pub spoilt_before : (f g count h at : ℕ) (step : List ℕ → List ℕ → Type 0) (told new : Option Files) → g ≢ f → Changes f step told new → ForSome new (λ files. (h ≡ g) × IsSpoiltRun count (files h) at)
    → ForSome told (λ files. (h ≡ g) × IsSpoiltRun count (files h) at)
spoilt_before f g count h at step None new apart changes spoilt = λ files is. cc
spoilt_before f g count h at step (Some old) new apart changes spoilt = λ files is.
    let same : old ≡ files = cc in
    let there = spoilt changes.0 changes.1 in
    let stays : changes.0 h ≡ old h = changes.2.others h (λ e. apart (sym there.0 ∙ e)) in
    (there.0, subst (λ (x : Files). IsSpoiltRun count (x h) at) same (subst (λ (file : List ℕ). IsSpoiltRun count file at) stays there.1))

-- the files and settings stay
pub same_cache : (sides : Sides) → IsSameCache sides sides
same_cache sides = record { rule = refl; buckets = refl; from = refl; entries = refl; to = refl }

pub same_both : (x y z : Sides) → IsSameCache x y → IsSameCache y z → IsSameCache x z
same_both x y z one two = record { rule = two.rule ∙ one.rule; buckets = two.buckets ∙ one.buckets; from = two.from ∙ one.from; entries = two.entries ∙ one.entries; to = two.to ∙ one.to }

-- ---- the ends of files that are written
pub put_on : (told new : Option Files) (bytes : List ℕ) (writer : Writer) → IsSameFile writer.file told new → HasPut told bytes writer → HasPut new bytes writer
put_on told new bytes writer same has = record {
  written = has.written;
  are = has.are;
  place = has.place;
  stand = λ files is.
      let from = same files is in
      subst (λ (file : List ℕ). (held rest : List ℕ) × (file ≡ held ++ has.written ++ rest) × (length held ≡ writer.kept)) (sym from.2) (has.stand from.0 from.1);
}

pub put_reached : (told : Option Files) (bytes : List ℕ) (writer : Writer) → HasPut told bytes writer → ForSome told (ReachesPlace writer)
put_reached told bytes writer has = λ files is.
    let stand = has.stand files is in
    omega (arith, ap (λ (l : List ℕ). length l) stand.2, length-append (stand.0 ++ has.written) stand.1, length-append stand.0 has.written, stand.3, has.place)

pub still_reached : (told new : Option Files) (writer : Writer) → IsSameFile writer.file told new → ForSome told (ReachesPlace writer) → ForSome new (ReachesPlace writer)
still_reached told new writer same reached = λ files is.
    let from = same files is in
    subst (λ (file : List ℕ). writer.place ≤ length file) (sym from.2) (reached from.0 from.1)

-- ---- how much of the live side is read
pub reads_none : (from to : Reader) (old new : Option (ℕ → ℕ)) → to ≡ from → new ≡ old → ReadsOn from to old new
reads_none from to old new same taken =
    let none : 0 ≡ 16 * (read_of to - read_of from) = omega (arith, ap (λ (r : Reader). read_of r) same) in
    (omega (arith, ap (λ (r : Reader). read_of r) same), subst (λ (n : ℕ). TakesExactly from.file n old new) none (takes_nothing from.file old new taken))

pub reads_both : (from mid to : Reader) (old then_ new : Option (ℕ → ℕ)) → mid.file ≡ from.file → ReadsOn from mid old then_ → ReadsOn mid to then_ new → ReadsOn from to old new
reads_both from mid to old then_ new file one two =
    let all : 16 * (read_of mid - read_of from) + 16 * (read_of to - read_of mid) ≡ 16 * (read_of to - read_of from) = omega (arith, one.0, two.0) in
    let second = subst (λ (f : ℕ). TakesExactly f (16 * (read_of to - read_of mid)) then_ new) file two.1 in (
      omega (arith, one.0, two.0),
      subst (λ (n : ℕ). TakesExactly from.file n old new) all
          (takes_more from.file (16 * (read_of mid - read_of from)) (16 * (read_of to - read_of mid)) old then_ new one.1 second),
    )
