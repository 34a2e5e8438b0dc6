-- The parts of all seats: what each kind of step does to what the seats know.
use Rattle.std.proofs.Common.{◌≡◌, ◌≢◌, ◌∙◌, ◌⊎◌, inl, inr, ℕ, zero, suc, ◌+◌, ◌-◌, ◌≤◌, List, [], ◌∷◌, ◌++◌, set, Option, None, Some, refl, sym, ap, subst, append_assoc, append-nil, arith}
use Rattle.std.proofs.lemmas.List.{map-append}
use Rattle.std.proofs.lemmas.List.Sorted.{IsPermutation-append_comm, IsPermutation-append_left, IsPermutation-append_right, IsPermutation-refl, IsPermutation-sym, IsPermutation-trans}
use Rattle.std.proofs.lemmas.Grind.{flat_map-append}
use Rattle.std.specs.Prelude.{slice_set}
use Rattle.std.specs.List.{AllByRecursion, flat_map}
use Rattle.std.specs.List.Sorted.{IsPermutation}
use mathlib.Core.Option.{some, some-injective, some-ne-none}
use lib.ListN.{get_elem?}
use Rattle.atomic_table.proofs.Lists.{set_again, set_else}
use Rattle.irl_base.specs.declared.fault.Fault.{Fault}
use Rattle.irl_offer.specs.Offering.{Entered}
use Rattle.irl_offer.specs.Tuple.{Tuple}
use Rattle.irl_lock.specs.Books.{AreParts, IsPartOf, all_parts, entered, entries_of, fresh_known, known_entries, shares_of, total_parts}
use Rattle.irl_lock.specs.Plays.{joined_known, with_entry, with_last, with_parts}
use Rattle.irl_lock.specs.declared.view.Known.{Known}
use Rattle.irl_lock.specs.declared.view.Share.{Share}
use Rattle.irl_lock.specs.declared.view.Taken.{Taken}

-- ---- lists of which one element is set
-- what holds of each
all_set : {X : Type 0} (P : X → Type 0) (xs : List X) (i : ℕ) (x : X) → AllByRecursion P xs → P x → AllByRecursion P (set xs i x)
all_set P [] i x all is = tt
all_set P (y ∷ ys) zero x all is = (is, all.1)
all_set P (y ∷ ys) (suc i) x all is = (all.0, all_set P ys i x all.1 is)

all_at : {X : Type 0} (P : X → Type 0) (xs : List X) (i : ℕ) (x : X) → AllByRecursion P xs → get_elem? xs i ≡ some x → P x
all_at P [] i x all at = absurd (some-ne-none x (sym at))
all_at P (y ∷ ys) zero x all at = subst P (some-injective y x at) all.0
all_at P (y ∷ ys) (suc i) x all at = all_at P ys i x all.1 at

all_more : {X : Type 0} (P Q : X → Type 0) (xs : List X) → ((x : X) → P x → Q x) → AllByRecursion P xs → AllByRecursion Q xs
all_more P Q [] more all = tt
all_more P Q (x ∷ xs) more all = (more x all.0, all_more P Q xs more all.1)

all_append : {X : Type 0} (P : X → Type 0) (xs ys : List X) → AllByRecursion P xs → AllByRecursion P ys → AllByRecursion P (xs ++ ys)
all_append P [] ys first second = second
all_append P (x ∷ xs) ys first second = (first.0, all_append P xs ys first.1 second)

-- one that is set is there, and setting it back brings the list back
set_there : {X : Type 0} (xs : List X) (i : ℕ) (x y : X) → get_elem? xs i ≡ some x → get_elem? (set xs i y) i ≡ some y
set_there [] i x y at = absurd (some-ne-none x (sym at))
set_there (z ∷ zs) zero x y at = refl
set_there (z ∷ zs) (suc i) x y at = set_there zs i x y at

set_back : {X : Type 0} (xs : List X) (i : ℕ) (x y : X) → get_elem? xs i ≡ some x → set (set xs i y) i x ≡ xs
set_back [] i x y at = refl
set_back (z ∷ zs) zero x y at = λ k. sym (some-injective z x at) k ∷ zs
set_back (z ∷ zs) (suc i) x y at = ap (λ l. z ∷ l) (set_back zs i x y at)

-- two places may be set in either order
set_swap : {X : Type 0} (xs : List X) (i j : ℕ) (x y : X) → i ≢ j → set (set xs i x) j y ≡ set (set xs j y) i x
set_swap [] i j x y apart = refl
set_swap (z ∷ zs) zero zero x y apart = absurd (apart refl)
set_swap (z ∷ zs) zero (suc j) x y apart = refl
set_swap (z ∷ zs) (suc i) zero x y apart = refl
set_swap (z ∷ zs) (suc i) (suc j) x y apart = ap (λ l. z ∷ l) (set_swap zs i j x y (λ e. apart (ap suc e)))

-- what all of them give, where one gives these too
more_at : {X Y : Type 0} (f : X → List Y) (xs : List X) (i : ℕ) (x y : X) (more : List Y) → get_elem? xs i ≡ some x → IsPermutation (f x ++ more) (f y)
    → IsPermutation (flat_map f xs ++ more) (flat_map f (set xs i y))
more_at f [] i x y more at is = absurd (some-ne-none x (sym at))
more_at {Y = Y} f (z ∷ zs) zero x y more at is =
    let all = flat_map f zs in
    let same : f z ≡ f x = ap f (some-injective z x at) in
    let first : (f z ++ all) ++ more ≡ f x ++ (all ++ more) = append_assoc (f z) all more ∙ ap (λ (l : List Y). l ++ (all ++ more)) same in
    let turn : IsPermutation (f x ++ (all ++ more)) (f x ++ (more ++ all)) = IsPermutation-append_right (f x) (all ++ more) (more ++ all) (IsPermutation-append_comm all more) in
    let last : IsPermutation ((f x ++ more) ++ all) (f y ++ all) = IsPermutation-append_left all (f x ++ more) (f y) is in
    subst (λ (l : List Y). IsPermutation l (f y ++ all)) (sym first)
    (IsPermutation-trans (f x ++ (all ++ more)) (f x ++ (more ++ all)) (f y ++ all) turn (subst (λ (l : List Y). IsPermutation l (f y ++ all)) (append_assoc (f x) more all) last))
more_at {Y = Y} f (z ∷ zs) (suc i) x y more at is =
    subst (λ (l : List Y). IsPermutation l (f z ++ flat_map f (set zs i y))) (sym (append_assoc (f z) (flat_map f zs) more))
    (IsPermutation-append_right (f z) (flat_map f zs ++ more) (flat_map f (set zs i y)) (more_at f zs i x y more at is))

-- where it gives what it gave
same_at : {X Y : Type 0} (f : X → List Y) (xs : List X) (i : ℕ) (x y : X) → get_elem? xs i ≡ some x → f y ≡ f x → IsPermutation (flat_map f xs) (flat_map f (set xs i y))
same_at {Y = Y} f xs i x y at same =
    subst (λ (l : List Y). IsPermutation l (flat_map f (set xs i y))) (append-nil (flat_map f xs))
    (more_at f xs i x y [] at (subst (λ (l : List Y). IsPermutation l (f y)) (same ∙ sym (append-nil (f x))) (IsPermutation-refl (f y))))

-- ---- how many parts
parts_set : (knowns : List Known) (id : ℕ) (old new : Known) → get_elem? knowns id ≡ some old → total_parts (set knowns id new) + old.parts ≡ total_parts knowns + new.parts
parts_set [] id old new at = absurd (some-ne-none old (sym at))
parts_set (x ∷ xs) zero old new at = let same : x.parts ≡ old.parts = ap (λ (k : Known). k.parts) (some-injective x old at) in omega (arith, same)
parts_set (x ∷ xs) (suc id) old new at = omega (arith, parts_set xs id old new at)

parts_append : (xs ys : List Known) → total_parts (xs ++ ys) ≡ total_parts xs + total_parts ys
parts_append [] ys = omega arith
parts_append (x ∷ xs) ys = omega (arith, parts_append xs ys)

parts_at : (knowns : List Known) (id : ℕ) (known : Known) → get_elem? knowns id ≡ some known → known.parts ≤ total_parts knowns
parts_at [] id known at = absurd (some-ne-none known (sym at))
parts_at (x ∷ xs) zero known at = let same : x.parts ≡ known.parts = ap (λ (k : Known). k.parts) (some-injective x known at) in omega (arith, same)
parts_at (x ∷ xs) (suc id) known at = omega (arith, parts_at xs id known at)

-- ---- a part of a history
part_longer : {X : Type 0} (xs ys zs : List X) → IsPartOf xs ys → IsPartOf xs (ys ++ zs)
part_longer [] ys zs part = tt
part_longer (x ∷ xs) [] zs part = absurd part
part_longer (x ∷ xs) (y ∷ ys) zs (inl both) = inl (both.0, part_longer xs ys zs both.1)
part_longer (x ∷ xs) (y ∷ ys) zs (inr behind) = inr (part_longer (x ∷ xs) ys zs behind)

last_is_part : {X : Type 0} (x : X) (ys : List X) → IsPartOf (x ∷ []) (ys ++ x ∷ [])
last_is_part x [] = inl (refl, tt)
last_is_part x (y ∷ ys) = inr (last_is_part x ys)

part_one_more : {X : Type 0} (z : X) (xs ys : List X) → IsPartOf xs ys → IsPartOf (xs ++ z ∷ []) (ys ++ z ∷ [])
part_one_more z [] ys part = last_is_part z ys
part_one_more z (x ∷ xs) [] part = absurd part
part_one_more z (x ∷ xs) (y ∷ ys) (inl both) = inl (both.0, part_one_more z xs ys both.1)
part_one_more z (x ∷ xs) (y ∷ ys) (inr behind) = inr (part_one_more z (x ∷ xs) ys behind)

-- ---- of one seat
abbrev InOrder : List Entered → Known → Type 0
InOrder news known = AllByRecursion (λ share. IsPartOf (entries_of share) news) (shares_of known)

abbrev Stops : Option Fault → Known → Type 0
Stops last known = AllByRecursion (λ share. (fault : Fault) → share.last ≡ Some fault → last ≡ Some fault) (shares_of known)

abbrev Idle : Known → Type 0
Idle known = known.parts ≡ 0 → known ≡ fresh_known 0

order_longer : (news : List Entered) (one : Entered) (known : Known) → InOrder news known → InOrder (news ++ one ∷ []) known
order_longer news one known all = all_more (λ share. IsPartOf (entries_of share) news) (λ share. IsPartOf (entries_of share) (news ++ one ∷ [])) (shares_of known)
    (λ share part. part_longer (entries_of share) news (one ∷ []) part) all

none_some : (fault : Fault) → ◌≡◌ {A = Option Fault} None (Some fault) → ⊥
none_some fault is = cc

-- where none was the last, or it stays
stops_later : (old new : Option Fault) (fault : Fault) → (old ≡ None) ⊎ (new ≡ old) → old ≡ Some fault → new ≡ Some fault
stops_later old new fault (inl none) is = absurd (none_some fault (sym none ∙ is))
stops_later old new fault (inr same) is = same ∙ is

stops_all : (old new : Option Fault) (shares : List Share) → (old ≡ None) ⊎ (new ≡ old)
    → AllByRecursion (λ share. (fault : Fault) → share.last ≡ Some fault → old ≡ Some fault) shares
    → AllByRecursion (λ share. (fault : Fault) → share.last ≡ Some fault → new ≡ Some fault) shares
stops_all old new shares either all = all_more (λ share. (fault : Fault) → share.last ≡ Some fault → old ≡ Some fault)
    (λ share. (fault : Fault) → share.last ≡ Some fault → new ≡ Some fault) shares (λ share stops fault is. stops_later old new fault either (stops fault is)) all

-- ---- what a seat's own pass entered, and what it took in
abbrev one_of : ℕ → ℕ → Tuple → Taken
one_of b number offer = record { receipt = record { bucket = b; number = number }; offer = offer }

entry_behind : (b number : ℕ) (offer : Tuple) (known : Known)
    → IsPermutation (known_entries known ++ entered (one_of b number offer) ∷ []) (known_entries (with_entry b number offer known))
entry_behind b number offer known =
    let own = entries_of known.mine in
    let others = flat_map entries_of known.joined in
    let one : List Entered = entered (one_of b number offer) ∷ [] in
    let turn : IsPermutation (own ++ (others ++ one)) (own ++ (one ++ others)) = IsPermutation-append_right own (others ++ one) (one ++ others) (IsPermutation-append_comm others one) in
    let new : known_entries (with_entry b number offer known) ≡ own ++ (one ++ others) =
    ap (λ (l : List Entered). l ++ others) (map-append entered known.mine.entries (one_of b number offer ∷ [])) ∙ append_assoc own one others in
    subst (λ (l : List Entered). IsPermutation l (known_entries (with_entry b number offer known))) (sym (append_assoc own others one))
    (subst (λ (l : List Entered). IsPermutation (own ++ (others ++ one)) l) (sym new) turn)

joined_entries : (known other : Known) → known_entries (joined_known known other) ≡ known_entries known ++ known_entries other
joined_entries known other =
    let own = entries_of known.mine in
    ap (λ (l : List Entered). own ++ l) (flat_map-append entries_of known.joined (shares_of other))
    ∙ sym (append_assoc own (flat_map entries_of known.joined) (known_entries other))

-- ---- the steps
-- one entry more of a seat's own pass
pub parts_entry : (news : List Entered) (last : Option Fault) (knowns : List Known) (id b number : ℕ) (offer : Tuple) (known : Known) → get_elem? knowns id ≡ some known → 1 ≤ known.parts
    → AreParts news last knowns → AreParts (news ++ entered (one_of b number offer) ∷ []) last (slice_set knowns id (with_entry b number offer known))
parts_entry news last knowns id b number offer known at part are =
    let one = entered (one_of b number offer) in
    let new = with_entry b number offer known in
    let mine = all_at (InOrder news) knowns id known are.in_order at in
    let total : total_parts (set knowns id new) ≡ total_parts knowns = omega (arith, parts_set knowns id known new at) in
    let own : entries_of new.mine ≡ entries_of known.mine ++ one ∷ [] = map-append entered known.mine.entries (one_of b number offer ∷ []) in
    record {
      total = total ∙ are.total;
      whole = IsPermutation-trans (news ++ one ∷ []) (flat_map known_entries knowns ++ one ∷ []) (flat_map known_entries (set knowns id new))
          (IsPermutation-append_left (one ∷ []) news (flat_map known_entries knowns) are.whole)
          (more_at known_entries knowns id known new (one ∷ []) at (entry_behind b number offer known));
      in_order = all_set (InOrder (news ++ one ∷ [])) knowns id new (all_more (InOrder news) (InOrder (news ++ one ∷ [])) knowns (order_longer news one) are.in_order) (
        subst (λ (l : List Entered). IsPartOf l (news ++ one ∷ [])) (sym own) (part_one_more one (entries_of known.mine) news mine.0),
        (order_longer news one known mine).1,
      );
      stops = all_set (Stops last) knowns id new are.stops (all_at (Stops last) knowns id known are.stops at);
      idle = all_set Idle knowns id new are.idle (λ none. absurd (omega (arith, none, part)));
    }

-- the last fault of a seat's own pass is that of the store
pub parts_last : (news : List Entered) (old new : Option Fault) (knowns : List Known) (id : ℕ) (known : Known) → get_elem? knowns id ≡ some known → 1 ≤ known.parts
    → (old ≡ None) ⊎ (new ≡ old) → AreParts news old knowns → AreParts news new (slice_set knowns id (with_last new known))
parts_last news old new knowns id known at part either are =
    let now = with_last new known in
    let total : total_parts (set knowns id now) ≡ total_parts knowns = omega (arith, parts_set knowns id known now at) in
    let later : AllByRecursion (Stops new) knowns = all_more (Stops old) (Stops new) knowns (λ one all. stops_all old new (shares_of one) either all) are.stops in
    record {
      total = total ∙ are.total;
      whole = IsPermutation-trans news (flat_map known_entries knowns) (flat_map known_entries (set knowns id now)) are.whole (same_at known_entries knowns id known now at refl);
      in_order = all_set (InOrder news) knowns id now are.in_order (all_at (InOrder news) knowns id known are.in_order at);
      stops = all_set (Stops new) knowns id now later ((λ fault is. is), (all_at (Stops new) knowns id known later at).1);
      idle = all_set Idle knowns id now are.idle (λ none. absurd (omega (arith, none, part)));
    }

-- a seat knows what it knew
pub parts_again : (news : List Entered) (last : Option Fault) (knowns : List Known) (id : ℕ) (known : Known) → get_elem? knowns id ≡ some known → AreParts news last knowns
    → AreParts news last (slice_set knowns id known)
parts_again news last knowns id known at are = subst (AreParts news last) (sym (set_again knowns id known at)) are

-- one part of a seat's goes to a new one
pub parts_split : (news : List Entered) (last : Option Fault) (knowns : List Known) (id : ℕ) (known : Known) → get_elem? knowns id ≡ some known → 2 ≤ known.parts
    → AreParts news last knowns → AreParts news last (slice_set knowns id (with_parts (known.parts - 1) known) ++ fresh_known 1 ∷ [])
parts_split news last knowns id known at part are =
    let left = with_parts (known.parts - 1) known in
    let less = set knowns id left in
    let total : total_parts (less ++ fresh_known 1 ∷ []) ≡ total_parts knowns = omega (arith, part, parts_set knowns id known left at, parts_append less (fresh_known 1 ∷ [])) in
    let behind : flat_map known_entries (less ++ fresh_known 1 ∷ []) ≡ flat_map known_entries less =
    flat_map-append known_entries less (fresh_known 1 ∷ []) ∙ append-nil (flat_map known_entries less) in
    record {
      total = total ∙ are.total;
      whole = subst (IsPermutation news) (sym behind)
          (IsPermutation-trans news (flat_map known_entries knowns) (flat_map known_entries less) are.whole (same_at known_entries knowns id known left at refl));
      in_order = all_append (InOrder news) less (fresh_known 1 ∷ []) (all_set (InOrder news) knowns id left are.in_order (all_at (InOrder news) knowns id known are.in_order at)) ((tt, tt), tt);
      stops = all_append (Stops last) less (fresh_known 1 ∷ []) (all_set (Stops last) knowns id left are.stops (all_at (Stops last) knowns id known are.stops at))
          (((λ fault is. absurd (none_some fault is)), tt), tt);
      idle = all_append Idle less (fresh_known 1 ∷ []) (all_set Idle knowns id left are.idle (λ none. absurd (omega (arith, none, part)))) ((λ none. absurd (omega (arith, none))), tt);
    }

-- a seat takes in what another knows
pub parts_join : (news : List Entered) (last : Option Fault) (knowns : List Known) (id place : ℕ) (known other : Known) → get_elem? knowns id ≡ some known → 1 ≤ known.parts
    → (place ≡ id → ⊥) → get_elem? (slice_set knowns id (joined_known known other)) place ≡ some other → AreParts news last knowns
    → AreParts news last (slice_set (slice_set knowns id (joined_known known other)) place (fresh_known 0))
parts_join news last knowns id place known other at part apart there are =
    let both = joined_known known other in
    let none = fresh_known 0 in
    let less = set knowns place none in
    let other_at : get_elem? knowns place ≡ some other = sym (set_else knowns id place both apart) ∙ there in
    let known_at : get_elem? less id ≡ some known = set_else knowns place id none (λ e. apart (sym e)) ∙ at in
    let taken : IsPermutation (flat_map known_entries less ++ known_entries other) (flat_map known_entries (set less place other)) =
    more_at known_entries less place none other (known_entries other) (set_there knowns place other none other_at) (IsPermutation-refl (known_entries other)) in
    let was : IsPermutation (flat_map known_entries less ++ known_entries other) (flat_map known_entries knowns) =
    subst (λ (l : List Known). IsPermutation (flat_map known_entries less ++ known_entries other) (flat_map known_entries l)) (set_back knowns place other none other_at) taken in
    let now : IsPermutation (flat_map known_entries less ++ known_entries other) (flat_map known_entries (set less id both)) =
    more_at known_entries less id known both (known_entries other) known_at
    (subst (λ (l : List Entered). IsPermutation (known_entries known ++ known_entries other) l) (sym (joined_entries known other))
    (IsPermutation-refl (known_entries known ++ known_entries other))) in
    let order = all_at (InOrder news) knowns id known are.in_order at in
    let stop = all_at (Stops last) knowns id known are.stops at in
    let order_other = all_at (InOrder news) knowns place other are.in_order other_at in
    let stop_other = all_at (Stops last) knowns place other are.stops other_at in
    subst (AreParts news last) (sym (set_swap knowns id place both none (λ e. apart (sym e)))) (record {
      total = total_by less (parts_set knowns place other none other_at) (parts_set less id known both known_at) ∙ are.total;
      whole = IsPermutation-trans news (flat_map known_entries knowns) (flat_map known_entries (set less id both)) are.whole
          (IsPermutation-trans (flat_map known_entries knowns) (flat_map known_entries less ++ known_entries other) (flat_map known_entries (set less id both))
          (IsPermutation-sym (flat_map known_entries less ++ known_entries other) (flat_map known_entries knowns) was) now);
      in_order = all_set (InOrder news) less id both (all_set (InOrder news) knowns place none are.in_order (tt, tt))
          (order.0, all_append (λ share. IsPartOf (entries_of share) news) known.joined (shares_of other) order.1 order_other);
      stops = all_set (Stops last) less id both (all_set (Stops last) knowns place none are.stops ((λ fault is. absurd (none_some fault is)), tt))
          (stop.0, all_append (λ share. (fault : Fault) → share.last ≡ Some fault → last ≡ Some fault) known.joined (shares_of other) stop.1 stop_other);
      idle = all_set Idle less id both (all_set Idle knowns place none are.idle (λ e. refl)) (λ zero. absurd (omega (arith, zero, part)));
    })
  where
    total_by : (less : List Known) → total_parts less + other.parts ≡ total_parts knowns + 0
        → total_parts (set less id (joined_known known other)) + known.parts ≡ total_parts less + (known.parts + other.parts)
        → total_parts (set less id (joined_known known other)) ≡ total_parts knowns
    total_by less first second = omega (arith, first, second)

-- the first seat of a store that is just opened
pub parts_first : AreParts [] None (fresh_known all_parts ∷ [])
parts_first = record {
  total = refl;
  whole = IsPermutation-refl [];
  in_order = ((tt, tt), tt);
  stops = (((λ fault is. absurd (none_some fault is)), tt), tt);
  idle = ((λ none. absurd (omega (arith, none))), tt);
}

-- ---- a seat that has all parts
none_entered : (knowns : List Known) → total_parts knowns ≡ 0 → AllByRecursion Idle knowns → flat_map known_entries knowns ≡ []
none_entered [] none idle = refl
none_entered (x ∷ xs) none idle =
    let fresh : x ≡ fresh_known 0 = idle.0 (omega (arith, none)) in
    ap (λ (k : Known). known_entries k ++ flat_map known_entries xs) fresh ∙ none_entered xs (omega (arith, none)) idle.1

alone_entered : (knowns : List Known) (id : ℕ) (known : Known) → get_elem? knowns id ≡ some known → total_parts knowns ≡ known.parts → AllByRecursion Idle knowns
    → flat_map known_entries knowns ≡ known_entries known
alone_entered [] id known at all idle = absurd (some-ne-none known (sym at))
alone_entered (x ∷ xs) zero known at all idle =
    let same : x ≡ known = some-injective x known at in
    let parts : x.parts ≡ known.parts = ap (λ (k : Known). k.parts) same in
    let others : flat_map known_entries xs ≡ [] = none_entered xs (omega (arith, all, parts)) idle.1 in
    ap (λ (k : Known). known_entries k ++ flat_map known_entries xs) same ∙ ap (λ (l : List Entered). known_entries known ++ l) others ∙ append-nil (known_entries known)
alone_entered (x ∷ xs) (suc id) known at all idle =
    let few = parts_at xs id known at in
    let fresh : x ≡ fresh_known 0 = idle.0 (omega (arith, all, few)) in
    ap (λ (k : Known). known_entries k ++ flat_map known_entries xs) fresh ∙ alone_entered xs id known at (omega (arith, all, few)) idle.1

-- it knows all that was done
pub record IsAll (news : List Entered) (last : Option Fault) (known : Known) : Type 0 where
  pub whole : IsPermutation news (known_entries known)
  pub in_order : AllByRecursion (λ share. IsPartOf (entries_of share) news) (shares_of known)
  pub stops : AllByRecursion (λ share. (fault : Fault) → share.last ≡ Some fault → last ≡ Some fault) (shares_of known)

pub parts_alone : (news : List Entered) (last : Option Fault) (knowns : List Known) (id : ℕ) (known : Known) → get_elem? knowns id ≡ some known → known.parts ≡ all_parts
    → AreParts news last knowns → IsAll news last known
parts_alone news last knowns id known at all are = record {
  whole = subst (IsPermutation news) (alone_entered knowns id known at (are.total ∙ sym all) are.idle) are.whole;
  in_order = all_at (InOrder news) knowns id known are.in_order at;
  stops = all_at (Stops last) knowns id known are.stops at;
}

-- any other seat has no part
pub parts_other : (news : List Entered) (last : Option Fault) (knowns : List Known) (id place : ℕ) (known other : Known) → get_elem? knowns id ≡ some known → known.parts ≡ all_parts
    → (place ≡ id → ⊥) → get_elem? knowns place ≡ some other → AreParts news last knowns → other.parts ≡ 0
parts_other news last knowns id place known other at all apart there are =
    let none = fresh_known 0 in
    let rest = parts_at (set knowns id none) place other (set_else knowns id place none apart ∙ there) in
    omega (arith, rest, parts_set knowns id known none at, are.total, all)
