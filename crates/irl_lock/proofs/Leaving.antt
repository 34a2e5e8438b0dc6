-- What is left of a table whose one seat has all parts, and what a desk makes of it that is closed.
use Rattle.std.proofs.Common.{◌≡◌, ◌∙◌, ℕ, ◌+◌, ◌<◌, ◌≤◌, List, [], ◌∷◌, ◌++◌, map, length, append-nil, append_assoc, Option, None, Some, Result, refl, sym, ap, subst, ⊎_elim, arith}
use Rattle.std.specs.List.{AllByRecursion, flat_map}
use Rattle.std.specs.List.Sorted.{IsPermutation}
use mathlib.Core.Logic.{dite}
use mathlib.Core.Option.{some, some-injective}
use native.Mathlib.Decide.{ℕ_discrete}
use lib.ListN.{get_elem?}
use Rattle.atomic_table.specs.Table.{Final, Seen}
use Rattle.atomic_table.specs.Seated.{TableId}
use Rattle.irl_base.specs.declared.fault.Fault.{Fault}
use Rattle.irl_base.specs.declared.fault.Fault.TheVariants.{Failed}
use Rattle.irl_array.specs.Waiting.{Waiting}
use Rattle.irl_offer.specs.Offering.{Entered}
use Rattle.irl_offer.specs.declared.settings.Settings.{Settings}
use Rattle.irl_disk.specs.Images.{Told}
use Rattle.irl_disk.specs.declared.store.Store.{Ghosts}
use Rattle.irl_schedule.specs.Arrays.{no_array}
use Rattle.irl_schedule.specs.Schedule.{one_more}
use Rattle.irl_yard.specs.Holding.{IsSound}
use Rattle.irl_yard.specs.declared.parts.Parts.{Parts}
use Rattle.irl_yard.specs.declared.yard.Yard.{Yard}
use Rattle.irl_desk.specs.Closing.{Closes as DeskCloses, last_after}
use Rattle.irl_desk.specs.Serving.{Enters, Serving}
use Rattle.irl_lock.specs.Books.{IsPartOf, all_parts, bin_of, buckets_of, entries_of, serving_now, shares_of}
use Rattle.irl_lock.specs.Plays.{M, both_of, joined_known}
use Rattle.irl_lock.specs.Rule.{IsKept, known_of, turns_of}
use Rattle.irl_lock.specs.Seats.{IsOn}
use Rattle.irl_lock.specs.Sharing.{Closes, IsFree, Leaves, answer_of, entries_in, mine_of, yard_of}
use Rattle.irl_lock.specs.declared.held.Bin.{Bin}
use Rattle.irl_lock.specs.declared.held.Held.{Held}
use Rattle.irl_lock.specs.declared.held.Held.TheVariants.{InBin, InYard}
use Rattle.irl_lock.specs.declared.held.Stand.{Stand}
use Rattle.irl_lock.specs.declared.pass.Pass.{Pass}
use Rattle.irl_lock.specs.declared.view.Known.{Known}
use Rattle.irl_lock.specs.declared.view.Share.{Share}
use Rattle.irl_lock.specs.declared.view.View.{View}
use Rattle.irl_lock.proofs.Laying.{at_within, same_list, snoc_at, stand_or}
use Rattle.irl_lock.proofs.Listed.{is_within, map_at, of_map_at}
use Rattle.irl_lock.proofs.PartSteps.{parts_alone, parts_other}
use Rattle.irl_lock.proofs.TurnSteps.{at_rest}

none_some : (fault : Fault) → ◌≡◌ {A = Option Fault} None (Some fault) → ⊥
none_some fault is = cc

-- what a seat knows that took another in
pub shares_more : (known other : Known) (rest : List Share) → other.joined ≡ [] → shares_of (joined_known known other) ++ rest ≡ shares_of known ++ (other.mine ∷ rest)
shares_more known other rest none =
    ap (λ (l : List Share). shares_of (record { parts = known.parts + other.parts; mine = known.mine; joined = known.joined ++ other.mine ∷ l }) ++ rest) none
    ∙ append_assoc (shares_of known) (other.mine ∷ []) rest

-- what a desk entered before changes nothing of what it enters
entered_more : {S : Type 0} (told : S → Told) (uneven : ℕ → ℕ) (entries : List Entered) (store later : S) (parts now : Parts) (arrays left : List Waiting) (last end : Option Fault)
    → Enters told uneven [] (record { store = store; parts = parts; arrays = arrays; entries = []; last = last }) (record { store = later; parts = now; arrays = left; entries = []; last = end })
    → Enters told uneven [] (record { store = store; parts = parts; arrays = arrays; entries = entries; last = last })
    (record { store = later; parts = now; arrays = left; entries = entries; last = end })
entered_more {S} told uneven entries store later parts now arrays left last end enters = record {
  entries = sym (append-nil entries);
  stays = enters.stays;
  rest = enters.rest;
  arrays = enters.arrays;
  sound = enters.sound;
  taken = enters.taken;
  numbered = enters.numbered;
  counts = enters.counts;
  fed = enters.fed;
  broken = enters.broken;
  ground = enters.ground;
}

module _ {S : Type 0} {tells : Ghosts S} where
  -- ---- what the table leaves
  pub record IsLeft (opening : Yard S tells) (known : Known) (slots : List (Option (Held S tells))) : Type 0 where
    pub arrays : List Waiting
    pub stand : Stand S tells
    pub leaves : Leaves opening known arrays stand
    pub count : length arrays ≡ buckets_of opening
    pub bins : (b : ℕ) → b < buckets_of opening → get_elem? slots b ≡ some (Some (InBin (bin_of stand arrays b)))
    pub last : get_elem? slots (buckets_of opening) ≡ some (Some (InYard stand))

  pub is_left : (opening : Yard S tells) (id : ℕ) (view : View S tells) (words : List ℕ) (slots : List (Option (Held S tells))) → view.known.parts ≡ all_parts → view.turns ≡ []
      → Final (Seen (IsKept opening) id view) words slots → IsLeft opening view.known slots
  is_left opening id view words slots all free f =
      let s = f.0 in
      let k = f.1.0 in
      let at = f.1.1 in
      let books = k.books in
      let turns : List (List (ℕ × Held S tells)) = map turns_of s.views in
      let knowns : List Known = map known_of s.views in
      let known_at : get_elem? knowns id ≡ some view.known = map_at known_of s.views id view at in
      let no_turns : (j : ℕ) (u : View S tells) → get_elem? s.views j ≡ some u → u.turns ≡ [] = λ j u e. dite (ℕ_discrete j id)
      (λ same. ap turns_of (some-injective u view (sym e ∙ ap (get_elem? s.views) same ∙ at)) ∙ free)
      (λ apart. (k.seats j u e).idle (parts_other books.news books.stand.last knowns id j view.known u.known known_at all apart (map_at known_of s.views j u e) books.parts)) in
      let idle : (j : ℕ) (xs : List (ℕ × Held S tells)) → get_elem? turns j ≡ some xs → xs ≡ [] = λ j xs e.
      let u = of_map_at turns_of s.views j xs e in sym u.2 ∙ no_turns j u.0 u.1 in
      let home : (t : ℕ) → t ≤ buckets_of opening → get_elem? slots t ≡ some (Some (k.held t)) = λ t inside.
      f.4 t (Some (k.held t)) (at_rest (buckets_of opening) s.words s.homes turns k.held k.turns idle t inside) in
      let alone = parts_alone books.news books.stand.last knowns id view.known known_at all books.parts in
      record {
        arrays = books.arrays;
        stand = books.stand;
        leaves = record { news = books.news; enters = books.enters; whole = alone.whole; in_order = alone.in_order; stops = alone.stops };
        count = books.enters.arrays.count ∙ ap (λ (x : Settings). x.buckets) books.enters.stays.settings;
        bins = λ b inside. home b (omega (arith, inside)) ∙ ap (λ (h : Held S tells). some (Some h)) (books.bins_are b inside);
        last = home (buckets_of opening) (omega arith) ∙ ap (λ (h : Held S tells). some (Some h)) books.yard_is;
      }

  -- the bin in a slot, or this one where there is none
  abbrev bin_or : Bin → Option (Held S tells) → Bin
  bin_or other (Some (InBin bin)) = bin
  bin_or other (Some (InYard stand)) = other
  bin_or other None = other

  -- the arrays that were taken out, one after the other, of these slots
  abbrev pub AreTaken : List (Option (Held S tells)) → List Waiting → Type 0
  AreTaken slots arrays = (j : ℕ) (array : Waiting) → get_elem? arrays j ≡ some array → (bin : Bin) × (get_elem? slots j ≡ some (Some (InBin bin))) × (bin.array ≡ array)

  pub taken_more : (slots : List (Option (Held S tells))) (arrays new : List Waiting) (bin : Bin) (b : ℕ) → length arrays ≡ b → new ≡ arrays ++ bin.array ∷ []
      → get_elem? slots b ≡ some (Some (InBin bin)) → AreTaken slots arrays → AreTaken slots new
  taken_more slots arrays new bin b long is here each j array at = ⊎_elim
      (λ (old : get_elem? arrays j ≡ some array). each j array old)
      (λ (last : (j ≡ length arrays) × (bin.array ≡ array)). (bin, ap (get_elem? slots) (last.0 ∙ long) ∙ here, last.1))
      (snoc_at arrays bin.array array j (ap (λ (l : List Waiting). get_elem? l j) (sym is) ∙ at))

  -- they are those of the table
  same_arrays : (opening : Yard S tells) (known : Known) (slots : List (Option (Held S tells))) (taken : List Waiting) (left : IsLeft opening known slots)
      → length taken ≡ buckets_of opening → AreTaken slots taken → taken ≡ left.arrays
  same_arrays opening known slots taken left long each = same_list taken left.arrays (long ∙ sym left.count) (λ j array e.
      let inside : j < buckets_of opening = omega (arith, is_within taken j array e, long) in
      let found = each j array e in
      let same : bin_of left.stand left.arrays j ≡ found.0 =
      ap (bin_or found.0) (some-injective (Some (InBin (bin_of left.stand left.arrays j))) (Some (InBin found.0)) (sym (left.bins j inside) ∙ found.1)) in
      at_within left.arrays j no_array (omega (arith, inside, left.count)) ∙ ap (λ (a : Waiting). some a) (ap (λ (x : Bin). x.array) same ∙ found.2))

  pub takes_out : (opening : Yard S tells) (known : Known) (slots : List (Option (Held S tells))) (taken : List Waiting) (stand : Stand S tells) → IsLeft opening known slots
      → length taken ≡ buckets_of opening → AreTaken slots taken → get_elem? slots (buckets_of opening) ≡ some (Some (InYard stand)) → Leaves opening known taken stand
  takes_out opening known slots taken stand left long each last =
      let arrays_are = same_arrays opening known slots taken left long each in
      let stand_is : stand ≡ left.stand = ap (stand_or stand) (some-injective (Some (InYard stand)) (Some (InYard left.stand)) (sym last ∙ left.last)) in
      subst (λ (x : List Waiting × Stand S tells). Leaves opening known x.0 x.1) (λ i. (sym arrays_are i, sym stand_is i)) left.leaves

  -- ---- one seat in place of all
  pub none_left : (passes : List (Pass S tells)) (n : ℕ) → n ≡ length passes → n ≡ 0 → passes ≡ []
  none_left [] n long none = refl
  none_left (pass ∷ more) n long none = absurd (omega (arith, long, none))

  pub on_more : (table own : TableId) (opening : Yard S tells) (view other : View S tells) → IsOn table opening own view → IsOn table opening own (both_of view other)
  on_more table own opening view other on = record { own_is = on.own_is; words = on.words; slots = on.slots; opening_is = on.opening_is; part = omega (arith, on.part) }

  pub on_after : (table was now : TableId) (opening : Yard S tells) (me new : M tells) (other : View S tells) → IsOn table opening was me.0 → now ≡ was
      → new ≡ (both_of me.0 other, me.1) → IsOn table opening now new.0
  on_after table was now opening me new other on same is =
      subst (λ (x : TableId × M tells). IsOn table opening x.0 x.1.0) (λ i. (sym same i, sym is i)) (on_more table was opening me.0 other on)

  -- ---- closing a desk over what is left
  closes_entered : (told : S → Told) (result : Result (Unit {0}) Fault) (stand : Stand S tells) (arrays : List Waiting) (entries : List Entered) (store : S) (parts : Parts)
      → DeskCloses told result (serving_now stand arrays []) store parts → DeskCloses told result (serving_now stand arrays entries) store parts
  closes_entered told result stand arrays entries store parts closes = record {
    arrays = closes.arrays;
    enters = λ none. entered_more told one_more entries stand.yard.store store stand.yard.parts parts arrays closes.arrays stand.last (last_after stand.last result) (closes.enters none);
    again = λ fault stopped.
        let again = closes.again fault stopped in
        (again.0, λ i. record { store = (again.1 i).store; parts = (again.1 i).parts; arrays = (again.1 i).arrays; entries = entries; last = (again.1 i).last });
    emptied = closes.emptied;
    ordered = closes.ordered;
  }

  -- ---- all passes
  entries_all : (passes : List (Pass S tells)) → flat_map entries_of (map mine_of passes) ≡ flat_map entries_in passes
  entries_all [] = refl
  entries_all (pass ∷ more) = ap (λ (l : List Entered). entries_in pass ++ l) (entries_all more)

  orders_all : (news : List Entered) (passes : List (Pass S tells)) → AllByRecursion (λ share. IsPartOf (entries_of share) news) (map mine_of passes)
      → AllByRecursion (λ pass. IsPartOf (entries_in pass) news) passes
  orders_all news [] all = tt
  orders_all news (pass ∷ more) all = (all.0, orders_all news more all.1)

  stops_all : (last : Option Fault) (passes : List (Pass S tells)) → AllByRecursion IsFree passes
      → AllByRecursion (λ share. (fault : Fault) → share.last ≡ Some fault → last ≡ Some fault) (map mine_of passes)
      → AllByRecursion (λ pass. (fault : Fault) → pass.last ≡ Some fault → last ≡ Some fault) passes
  stops_all last [] free all = tt
  stops_all last (pass ∷ more) free all = ((λ fault is. all.0 fault (sym free.0.last ∙ is)), stops_all last more free.1 all.1)

  -- the store that comes back
  pub closes_all : (opening : Yard S tells) (known : Known) (arrays : List Waiting) (stand : Stand S tells) (passes : List (Pass S tells)) (result : Result (Yard S tells) (Fault × Yard S tells))
      → Leaves opening known arrays stand → shares_of known ≡ map mine_of passes → AllByRecursion IsFree passes
      → DeskCloses tells.told (answer_of result) (serving_now stand arrays []) (yard_of result).store (yard_of result).parts → Closes result opening passes
  closes_all opening known arrays stand passes result leaves shares free closes = record {
    news = leaves.news;
    whole = subst (IsPermutation leaves.news) (ap (flat_map entries_of) shares ∙ entries_all passes) leaves.whole;
    in_order = orders_all leaves.news passes (subst (AllByRecursion (λ share. IsPartOf (entries_of share) leaves.news)) shares leaves.in_order);
    mid = serving_now stand arrays leaves.news;
    enters = leaves.enters;
    stops = stops_all stand.last passes free (subst (AllByRecursion (λ share. (fault : Fault) → share.last ≡ Some fault → stand.last ≡ Some fault)) shares leaves.stops);
    closing = closes_entered tells.told (answer_of result) stand arrays leaves.news (yard_of result).store (yard_of result).parts closes;
  }

  pub closes_by : (opening : Yard S tells) (known : Known) (arrays : List Waiting) (stand : Stand S tells) (passes : List (Pass S tells)) (result : Result (Yard S tells) (Fault × Yard S tells))
      (answer : Result (Unit {0}) Fault) (desk : Serving S) → Leaves opening known arrays stand → shares_of known ≡ map mine_of passes → AllByRecursion IsFree passes
      → desk ≡ serving_now stand arrays [] → answer ≡ answer_of result → DeskCloses tells.told answer desk (yard_of result).store (yard_of result).parts → Closes result opening passes
  closes_by opening known arrays stand passes result answer desk leaves shares free desk_is answer_is closes =
      closes_all opening known arrays stand passes result leaves shares free
      (subst (λ (x : Result (Unit {0}) Fault × Serving S). DeskCloses tells.told x.0 x.1 (yard_of result).store (yard_of result).parts) (λ i. (answer_is i, desk_is i)) closes)

  -- a store that didn't stop goes on
  pub goes_on : (opening : Yard S tells) (known : Known) (arrays : List Waiting) (stand : Stand S tells) → Leaves opening known arrays stand → stand.last ≡ None → IsSound stand.yard.parts
  goes_on opening known arrays stand leaves none = leaves.enters.sound.sound (λ failed. none_some Failed (sym none ∙ failed))
