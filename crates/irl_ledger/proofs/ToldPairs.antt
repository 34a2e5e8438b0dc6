-- Judged pairs that are told to the tables.
use Rattle.std.proofs.Common.{◌≡◌, ◌∙◌, ℕ, zero, suc, ◌+◌, ◌-◌, ◌<◌, ◌≤◌, nat_le, nat_lt, ◌&&◌, Bool, true, false, List, [], ◌∷◌, ◌++◌, map, length, take, drop, Option, None, Some, Result, Ok, Err, OnOk, OnErr, refl, sym, ap, subst, append_assoc, append-nil, arith}
use Rattle.std.specs.Prelude.{IfOk, IsErrOf, slice_get, ⊤}
use Rattle.std.specs.Option.{ForSome}
use Rattle.std.specs.Borrow.{Bor}
use Rattle.std.specs.List.{filter}
use Rattle.std.proofs.lemmas.Bool.{and_right, le-leb, le-ltb, lt-ltb}
use Rattle.std.proofs.lemmas.List.{map-append}
use Rattle.std.proofs.lemmas.List.Elements.{filter-append}
use Rattle.irl_base.specs.declared.fault.Fault.{Fault}
use Rattle.irl_base.specs.declared.fault.Fault.TheVariants.{Damaged, Failed, Full, Memory}
use Rattle.irl_offer.specs.Tuple.{Tuple}
use Rattle.irl_offer.specs.declared.receipt.Judged.{Judged}
use Rattle.irl_model.specs.Book.{Book, gone, is_unique, judged, uniques_from}
use Rattle.irl_star.specs.Degrees.{Counts}
use Rattle.irl_disk.specs.Effects.{OnlyReads}
use Rattle.irl_disk.specs.Images.{Told, IsConsistent}
use Rattle.irl_disk.proofs.Effects.{reads_for, reads_none, reads_then}
use Rattle.irl_disk.proofs.Stretches.{left_now}
use Rattle.irl_bay.specs.Drum.{Drum, IsDrum}
use Rattle.irl_bay.specs.Holding.{Holds}
use Rattle.irl_bay.specs.JudgedSpoilt.{IsJudgedFile}
use Rattle.irl_bay.specs.Merges.{ReadsJudged}
use Rattle.irl_bay.proofs.MergeFrames.{holds_fewer}
use Rattle.irl_frontier.specs.Frontier.{Frontier, domain_of, one_told}
use Rattle.irl_ledger.specs.declared.ledger.Ledger.{Ledger}
use Rattle.irl_ledger.specs.Holding.{domains_told}
use Rattle.irl_ledger.specs.Telling.{TellsEach, TellsMore, TellsPairs, unique_domains}
use Rattle.irl_ledger.proofs.Links.{same_answer, take_both, take_next}
use Rattle.irl_ledger.proofs.Reading.{none_gone}

-- ---- one pair
tells_same : (x : Frontier) → TellsMore x x
tells_same x = record { settings = refl; progress = refl; waiting = refl; more = omega arith }

pub tells_both : (x y z : Frontier) → TellsMore x y → TellsMore y z → TellsMore x z
tells_both x y z first second = record {
  settings = second.settings ∙ first.settings;
  progress = second.progress ∙ first.progress;
  waiting = second.waiting ∙ first.waiting;
  more = omega (arith, first.more, second.more);
}

tells_one : (x : Frontier) (linked : Option (Bor (List ℕ))) → TellsMore x (one_told x linked)
tells_one x None = record { settings = refl; progress = refl; waiting = refl; more = omega arith }
tells_one x (Some linked) = record { settings = refl; progress = refl; waiting = refl; more = omega arith }

one_more : (x : Frontier) (linked : Option (Bor (List ℕ))) → (one_told x linked).told ≡ x.told + 1
one_more x None = refl
one_more x (Some linked) = refl

pub told_one : {E : Type 0} (result : Result Unit E) (old new : Frontier) (linked : Option (Bor (List ℕ))) (one : Judged) → domain_of linked ≡ unique_domains (one ∷ [])
    → OnOk result (new ≡ one_told old linked) → OnErr result (new ≡ old)
    → ((adds : List (List ℕ)) → Counts old.degrees adds → OnOk result (Counts new.degrees (adds ++ domain_of linked)))
    → TellsEach result (one ∷ []) old new
told_one (Ok u) old new linked one same ok err counts = record {
  tells = subst (TellsMore old) (sym ok) (tells_one old linked);
  count = 1;
  few = omega arith;
  all = refl;
  told = ap (λ (x : Frontier). x.told) ok ∙ one_more old linked;
  degrees = λ adds are. subst (λ (l : List (List ℕ)). Counts new.degrees (adds ++ l)) same (counts adds are);
}
told_one (Err e) old new linked one same ok err counts = record {
  tells = subst (TellsMore old) (sym err) (tells_same old);
  count = 0;
  few = omega arith;
  all = tt;
  told = ap (λ (x : Frontier). x.told) err ∙ omega arith;
  degrees = λ adds are. subst (λ (l : List (List ℕ)). Counts new.degrees l) (sym (append-nil adds)) (subst (λ (x : Frontier). Counts x.degrees adds) (sym err) are);
}

-- ---- a part
pub unique_both : (xs ys : List Judged) → unique_domains (xs ++ ys) ≡ unique_domains xs ++ unique_domains ys
unique_both xs ys =
    let aux : Judged → List ℕ = λ one. one.offer.aux in
    let test : Judged → Bool = λ one. is_unique one.verdict in
    ap (map aux) (filter-append test xs ys) ∙ map-append aux (filter test xs) (filter test ys)

take_more : (xs : List Judged) (i n : ℕ) (x : Judged) → slice_get xs i ≡ Some x → n ≤ 1 → take (i + n) xs ≡ take i xs ++ take n (x ∷ [])
take_more xs i zero x found few = let there : i + zero ≡ i = omega arith in ap (λ (k : ℕ). take k xs) there ∙ sym (append-nil (take i xs))
take_more xs i (suc zero) x found few = take_next xs i x found
take_more xs i (suc (suc n)) x found few = absurd (omega (arith, few))

-- how far a part was told
pub record ToldSome (found : List Judged) (count : ℕ) (old new : Frontier) : Type 0 where
  pub tells : TellsMore old new
  pub told : new.told ≡ old.told + count
  pub degrees : (adds : List (List ℕ)) → Counts old.degrees adds → Counts new.degrees (adds ++ unique_domains (take count found))

pub told_none : (found : List Judged) (x : Frontier) → ToldSome found 0 x x
told_none found x = record { tells = tells_same x; told = omega arith; degrees = λ adds are. subst (λ (l : List (List ℕ)). Counts x.degrees l) (sym (append-nil adds)) are }

pub told_then : {E : Type 0} (result : Result Unit E) (found : List Judged) (i : ℕ) (one : Judged) (x y z : Frontier) → slice_get found i ≡ Some one → ToldSome found i x y
    → (each : TellsEach result (one ∷ []) y z) → ToldSome found (i + each.count) x z
told_then result found i one x y z here first each = record {
  tells = tells_both x y z first.tells each.tells;
  told = omega (arith, first.told, each.told);
  degrees = λ adds are.
      let both : (adds ++ unique_domains (take i found)) ++ unique_domains (take each.count (one ∷ [])) ≡ adds ++ unique_domains (take (i + each.count) found) =
      append_assoc adds (unique_domains (take i found)) (unique_domains (take each.count (one ∷ [])))
      ∙ ap (λ (l : List (List ℕ)). adds ++ l) (sym (unique_both (take i found) (take each.count (one ∷ []))) ∙ sym (ap unique_domains (take_more found i each.count one here each.few))) in
      subst (λ (l : List (List ℕ)). Counts z.degrees l) both (each.degrees (adds ++ unique_domains (take i found)) (first.degrees adds are));
}

-- ---- a book
none_within : (t k : ℕ) (js : List Judged) → t ≤ k → filter (λ (p : ℕ × Tuple). nat_le 0 p.0 && nat_lt p.0 t) (uniques_from k js) ≡ []
none_within t k [] le = refl
none_within t k (j ∷ js) le = by (is_unique j.verdict) refl (none_within t (k + 1) js (omega (arith, le)))
  where
    by : (unique : Bool) → is_unique j.verdict ≡ unique → filter (λ (p : ℕ × Tuple). nat_le 0 p.0 && nat_lt p.0 t) (uniques_from (k + 1) js) ≡ []
        → filter (λ (p : ℕ × Tuple). nat_le 0 p.0 && nat_lt p.0 t) (uniques_from k (j ∷ js)) ≡ []
    by true u rest = rw u (rw (and_right (nat_le 0 k) (nat_lt k t) (le-ltb k t le)) rest)
    by false u rest = rw u rest

told_first : (k n : ℕ) (js : List Judged) → map (λ (p : ℕ × Tuple). p.1.aux) (filter (λ (p : ℕ × Tuple). nat_le 0 p.0 && nat_lt p.0 (k + n)) (uniques_from k js)) ≡ unique_domains (take n js)
told_first k zero js = ap (map (λ (p : ℕ × Tuple). p.1.aux)) (none_within (k + 0) k js (omega arith))
told_first k (suc n) [] = refl
told_first k (suc n) (j ∷ js) = let there : k + 1 + n ≡ k + suc n = omega arith in
    by (is_unique j.verdict) refl (subst (λ (t : ℕ). map (λ (p : ℕ × Tuple). p.1.aux) (filter (λ (p : ℕ × Tuple). nat_le 0 p.0 && nat_lt p.0 t) (uniques_from (k + 1) js))
    ≡ unique_domains (take n js)) there (told_first (k + 1) n js))
  where
    by : (unique : Bool) → is_unique j.verdict ≡ unique
        → map (λ (p : ℕ × Tuple). p.1.aux) (filter (λ (p : ℕ × Tuple). nat_le 0 p.0 && nat_lt p.0 (k + suc n)) (uniques_from (k + 1) js)) ≡ unique_domains (take n js)
        → map (λ (p : ℕ × Tuple). p.1.aux) (filter (λ (p : ℕ × Tuple). nat_le 0 p.0 && nat_lt p.0 (k + suc n)) (uniques_from k (j ∷ js))) ≡ unique_domains (j ∷ take n js)
    by true u rest = rw u (rw (le-leb 0 k (omega arith), lt-ltb k (k + suc n) (omega arith)) (ap (λ (l : List (List ℕ)). j.offer.aux ∷ l) rest))
    by false u rest = rw u rest

-- the domains of some pairs more
pub told_more : (book : Book) (t n : ℕ) → gone book ≡ 0 → domains_told (t + n) book ≡ domains_told t book ++ unique_domains (take n (drop (t - gone book) (judged book)))
told_more book t n none =
    let js = judged book in
    let whole : (k : ℕ) → domains_told k book ≡ unique_domains (take k js) = λ k.
    ap (λ (g : ℕ). map (λ (p : ℕ × Tuple). p.1.aux) (filter (λ (p : ℕ × Tuple). nat_le 0 p.0 && nat_lt p.0 k) (uniques_from g js))) none
    ∙ (let there : 0 + k ≡ k = omega arith in subst (λ (m : ℕ). map (λ (p : ℕ × Tuple). p.1.aux) (filter (λ (p : ℕ × Tuple). nat_le 0 p.0 && nat_lt p.0 m) (uniques_from 0 js))
    ≡ unique_domains (take k js)) there
    (told_first 0 k js)) in
    let there : t - gone book ≡ t = omega (arith, none) in
    whole (t + n) ∙ ap unique_domains (take_both t n js) ∙ unique_both (take t js) (take n (drop t js))
    ∙ ap (λ (l : List (List ℕ)). l ++ unique_domains (take n (drop t js))) (sym (whole t)) ∙ ap (λ (k : ℕ). domains_told t book ++ unique_domains (take n (drop k js))) (sym there)

-- ---- a part that is told
pub tells_err : {E : Type 0} (result : Result Unit E) (error : E) (found : List Judged) (k : ℕ) (x z : Frontier) → result ≡ Err error → ToldSome found k x z → k ≤ length found
    → TellsEach result found x z
tells_err {E = E} result error found k x z is told few = record {
  tells = told.tells;
  count = k;
  few = few;
  all = subst (λ (r : Result Unit E). OnOk r (k ≡ length found)) (sym is) tt;
  told = told.told;
  degrees = told.degrees;
}

some_within : (xs : List Judged) (i : ℕ) (x : Judged) → slice_get xs i ≡ Some x → i < length xs
some_within [] i x is = absurd (cc)
some_within (y ∷ ys) zero x is = omega arith
some_within (y ∷ ys) (suc i) x is = omega (arith, some_within ys i x is)

pub told_few : {E : Type 0} (result : Result Unit E) (found : List Judged) (i : ℕ) (one : Judged) (y z : Frontier) → slice_get found i ≡ Some one → (each : TellsEach result (one ∷ []) y z)
    → i + each.count ≤ length found
told_few result found i one y z here each = omega (arith, each.few, some_within found i one here)

take_taken : {X : Type 0} (count most : ℕ) (xs : List X) → count ≤ length (take most xs) → take count (take most xs) ≡ take count xs
take_taken zero most xs le = refl
take_taken (suc count) zero xs le = absurd (omega (arith, le))
take_taken (suc count) (suc most) [] le = absurd (omega (arith, le))
take_taken (suc count) (suc most) (x ∷ xs) le = ap (λ l. x ∷ l) (take_taken count most xs (omega (arith, le)))

-- ---- reading
any_value : {A : Type 0} (result : Result A Fault) (P : A → Type 0) → ((a : A) → P a) → IfOk result P
any_value (Ok a) P each = each a
any_value (Err fault) P each = tt

-- what is read may be said of an answer that names no fault of the store, and no damage
pub reads_well : {A : Type 0} (result : Result A Fault) (failed : Type 0) (drum : Drum) (s t : Told) → ((fault : Fault) → result ≡ Err fault → fault ≡ Memory)
    → OnlyReads (IsJudgedFile drum) failed s t
    → ReadsJudged result (λ _ _. ⊤) drum s t
reads_well result failed drum s t memory reads = record {
  value = any_value result _ (λ a files told book holds. tt);
  spoilt = λ f at is. let same = memory (Damaged f at) is in let no : ⊥ = cc in absurd no;
  whole = λ f at is. let same = memory (Damaged f at) is in let no : ⊥ = cc in absurd no;
  full = λ n is. let same = memory (Full n) is in let no : ⊥ = cc in absurd no;
  reads = reads_for (IsJudgedFile drum) failed (IsErrOf result Failed) s t (λ is. let same = memory Failed is in let no : ⊥ = cc in absurd no) reads;
}

pub reads_refused : {A B : Type 0} (result : Result A Fault) (answered : Result B Fault) (fault : Fault) (gives : A → Book → Type 0) (drum : Drum) (s t : Told) → result ≡ Err fault
    → answered ≡ Err fault
    → ReadsJudged result gives drum s t → ReadsJudged answered (λ _ _. ⊤) drum s t
reads_refused result answered fault gives drum s t was is reads = record {
  value = any_value answered _ (λ a files told book holds. tt);
  spoilt = λ f at named. reads.spoilt f at (same_answer result answered fault (Damaged f at) was is named);
  whole = λ f at named. reads.whole f at (same_answer result answered fault (Damaged f at) was is named);
  full = λ n named. reads.full n (same_answer result answered fault (Full n) was is named);
  reads = reads_for (IsJudgedFile drum) (IsErrOf result Failed) (IsErrOf answered Failed) s t (same_answer result answered fault Failed was is) reads.reads;
}

-- one reading after another
pub reads_both : {A : Type 0} (result : Result A Fault) (failed : Type 0) (drum : Drum) (s t w : Told) → IsDrum drum → IsConsistent t → OnlyReads (IsJudgedFile drum) failed s t
    → ReadsJudged result (λ _ _. ⊤) drum t w → ReadsJudged result (λ _ _. ⊤) drum s w
reads_both result failed drum s t w law consistent first second = record {
  value = any_value result _ (λ a files told book holds. tt);
  spoilt = λ f at is files told. second.spoilt f at is files (first.same ∙ told);
  whole = λ f at is files told book holds. second.whole f at is files (first.same ∙ told) book
      (holds_fewer s.images t.images drum book law (left_now s t s.images consistent first.stops) holds);
  full = second.full;
  reads = reads_then (IsJudgedFile drum) failed (IsErrOf result Failed) s t w consistent first second.reads;
}

-- ---- a piece of the judged pairs
-- what was told of a part that was read
pub told_piece : (result : Result Unit Fault) (old : Ledger) (x : Frontier) (s t : Told) (most count : ℕ) (part : List Judged) → ToldSome part count old.frontier x → count ≤ length part
    → ForSome s.files (λ _. (book : Book) → Holds s.images old.pairs book → part ≡ take most (drop (old.frontier.told - gone book) (judged book)))
    → old.frontier.told + length part ≤ old.pairs.last.judged → old.frontier.told < old.pairs.last.judged → ReadsJudged result (λ _ _. ⊤) old.pairs s t
    → TellsPairs result old (record old { frontier = x }) s t
told_piece result old x s t most count part told few value within some reads = record {
  tells = told.tells;
  idle = λ same. absurd (omega (arith, some, same));
  others = refl;
  within = omega (arith, told.told, few, within);
  degrees = λ files tells book holds counts.
      let none = none_gone old.pairs.settings book holds.book_is in
      let rest = drop (old.frontier.told - gone book) (judged book) in
      let is : part ≡ take most rest = value files tells book holds in
      let same : take count part ≡ take count rest =
      ap (λ (l : List Judged). take count l) is ∙ take_taken count most rest (subst (λ (l : List Judged). count ≤ length l) is few) in
      let whole : domains_told x.told book ≡ domains_told old.frontier.told book ++ unique_domains (take count part) =
      ap (λ (n : ℕ). domains_told n book) told.told ∙ told_more book old.frontier.told count none
      ∙ ap (λ (l : List Judged). domains_told old.frontier.told book ++ unique_domains l) (sym same) in
      subst (λ (l : List (List ℕ)). Counts x.degrees l) (sym whole) (told.degrees (domains_told old.frontier.told book) counts);
  reads = reads;
}

-- nothing is told
pub pairs_none : (old : Ledger) (s : Told) → IsConsistent s → old.frontier.told ≤ old.pairs.last.judged → TellsPairs (Ok (tt {0})) old old s s
pairs_none old s consistent within = record {
  tells = tells_same old.frontier;
  others = refl;
  within = within;
  idle = λ same. (refl, refl, refl);
  degrees = λ files told book holds counts. counts;
  reads = reads_well (Ok (tt {0})) ⊥ old.pairs s s (λ fault is. let no : ⊥ = cc in absurd no) (reads_none (IsJudgedFile old.pairs) s consistent);
}

pub pairs_both : (result : Result Unit Fault) (x y z : Ledger) (s t w : Told) → IsDrum x.pairs → IsConsistent t → TellsPairs (Ok (tt {0})) x y s t → TellsPairs result y z t w
    → TellsPairs result x z s w
pairs_both result x y z s t w law consistent first second =
    let pairs : y.pairs ≡ x.pairs = ap (λ (l : Ledger). l.pairs) first.others in
    let later = subst (λ (d : Drum). ReadsJudged result (λ _ _. ⊤) d t w) pairs second.reads in
    record {
      tells = tells_both x.frontier y.frontier z.frontier first.tells second.tells;
      others = second.others ∙ ap (λ (l : Ledger). record l { frontier = z.frontier }) first.others;
      within = subst (λ (d : Drum). z.frontier.told ≤ d.last.judged) pairs second.within;
      idle = λ same.
          let one = first.idle same in
          let two = second.idle (subst (λ (l : Ledger). l.frontier.told ≡ l.pairs.last.judged) (sym one.1) same) in
          (two.0, two.1 ∙ one.1, two.2 ∙ one.2);
      degrees = λ files told book holds counts.
          let there = holds_fewer s.images t.images x.pairs book law (left_now s t s.images consistent first.reads.reads.stops) holds in
          second.degrees files (first.reads.reads.same ∙ told) book (subst (λ (d : Drum). Holds t.images d book) (sym pairs) there) (first.degrees files told book holds counts);
      reads = reads_both result _ x.pairs s t w law consistent first.reads.reads later;
    }

-- ---- what a piece comes to
pub told_some : {E : Type 0} (result : Result Unit E) (found : List Judged) (x z : Frontier) → (each : TellsEach result found x z) → ToldSome found each.count x z
told_some result found x z each = record { tells = each.tells; told = each.told; degrees = each.degrees }

-- none of it was read
pub told_nothing : (result : Result Unit Fault) (old : Ledger) (s t : Told) → old.frontier.told < old.pairs.last.judged → ReadsJudged result (λ _ _. ⊤) old.pairs s t → TellsPairs result old old s t
told_nothing result old s t some reads = record {
  tells = tells_same old.frontier;
  others = refl;
  within = omega (arith, some);
  idle = λ same. absurd (omega (arith, some, same));
  degrees = λ files told book holds counts. counts;
  reads = reads;
}

pub memory_alone : {A : Type 0} (result : Result A Fault) (fault : Fault) → result ≡ Err Memory → result ≡ Err fault → fault ≡ Memory
memory_alone result fault is named = let both = sym is ∙ named in cc

-- the same answer of another call
pub pairs_err : (result answered : Result Unit Fault) (fault : Fault) (x z : Ledger) (s t : Told) → result ≡ Err fault → answered ≡ Err fault → TellsPairs result x z s t → TellsPairs answered x z s t
pairs_err result answered fault x z s t was is told = subst (λ (r : Result Unit Fault). TellsPairs r x z s t) (was ∙ sym is) told

pub pairs_ok : (result : Result Unit Fault) (value : Unit) (x z : Ledger) (s t : Told) → result ≡ Ok value → TellsPairs result x z s t → TellsPairs (Ok (tt {0})) x z s t
pairs_ok result value x z s t is told = subst (λ (r : Result Unit Fault). TellsPairs r x z s t) is told
