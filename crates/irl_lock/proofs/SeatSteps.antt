-- A table that is made, a seat that is cut in two, and one that takes another in: each keeps the rule.
use Rattle.std.proofs.Common.{◌≡◌, ◌∙◌, ℕ, zero, suc, ◌+◌, ◌-◌, ◌^◌, ◌<◌, ◌≤◌, List, [], ◌∷◌, ◌++◌, map, length, length-append, Option, None, Some, refl, sym, ap, subst, ⊎_elim, arith}
use Rattle.std.proofs.lemmas.List.{length-map}
use Rattle.std.specs.List.{AllByRecursion}
use Rattle.std.specs.Prelude.{slice_set}
use mathlib.Core.Logic.{dite}
use mathlib.Core.Option.{some, some-injective, some-ne-none}
use native.Mathlib.Decide.{ℕ_discrete}
use lib.ListN.{get_elem?}
use Rattle.atomic_table.specs.Table.{Joins, Splits, opening as table_of}
use Rattle.atomic_table.proofs.Lists.{at_last, at_longer, at_map, at_snoc}
use Rattle.irl_array.specs.Waiting.{Waiting}
use Rattle.irl_disk.specs.Images.{IsConsistent}
use Rattle.irl_disk.specs.declared.store.Store.{Ghosts}
use Rattle.irl_bay.specs.Drum.{IsDrum}
use Rattle.irl_schedule.specs.Arrays.{AreArrays, waiting_at}
use Rattle.irl_yard.specs.Holding.{IsSound}
use Rattle.irl_yard.specs.declared.yard.Yard.{Yard}
use Rattle.irl_lock.specs.Books.{AreParts, HasBooks, bin_of, buckets_of, entries_of, fresh_known}
use Rattle.irl_lock.specs.Laying.{AreSlots, AreWords, first_stand}
use Rattle.irl_lock.specs.Plays.{M, both_of, joined_known, left_of, right_of, spent_of, with_parts}
use Rattle.irl_lock.specs.Rule.{IsKept, IsSeat, first_view, known_of, turns_of, view_of}
use Rattle.irl_lock.specs.Sharing.{IsFreshPass, opening_of, parts_in, parts_in_all}
use Rattle.irl_lock.specs.Turns.{AreTurns}
use Rattle.irl_lock.specs.declared.held.Held.{Held}
use Rattle.irl_lock.specs.declared.held.Held.TheVariants.{InBin, InYard}
use Rattle.irl_lock.specs.declared.view.Known.{Known}
use Rattle.irl_lock.specs.declared.view.View.{View}
use Rattle.irl_lock.specs.declared.pass.Pass.{Pass}
use Rattle.irl_lock.specs.declared.shared.Shared.{Shared}
use Rattle.irl_lock.proofs.BookSteps.{books_first}
use Rattle.irl_lock.proofs.Listed.{changed, changed_else, changed_here, each_set, every_snoc, map_at, map_slice_set, map_snoc}
use Rattle.irl_lock.proofs.PartSteps.{parts_join, parts_split}
use Rattle.irl_lock.proofs.TurnSteps.{joined, opened, split}

module _ {S : Type 0} {tells : Ghosts S} where
  -- the books, where seats know other things
  books_known : (opening : Yard S tells) (words : List ℕ) (knowns others : List Known) (held : ℕ → Held S tells) (books : HasBooks opening words knowns held)
      → AreParts books.news books.stand.last others → HasBooks opening words others held
  books_known opening words knowns others held books parts = record {
    stand = books.stand;
    arrays = books.arrays;
    news = books.news;
    yard_is = books.yard_is;
    bins_are = books.bins_are;
    counts = books.counts;
    enters = books.enters;
    parts = parts;
    memory = books.memory;
  }

  -- ---- a seat is cut in two
  pub splits : (opening : Yard S tells) (id : ℕ) (view : View S tells) → 2 ≤ view.known.parts → Splits (IsKept opening) id view (left_of view) (right_of view)
  splits opening id view many s k at =
      let left : View S tells = left_of view in
      let right : View S tells = right_of view in
      let views : List (View S tells) = slice_set s.views id left in
      let knowns : List Known = map known_of s.views in
      let turns_are : map turns_of (views ++ right ∷ []) ≡ slice_set (map turns_of s.views) id view.turns ++ [] ∷ [] =
      map_snoc turns_of views right ∙ ap (λ (xs : List (List (ℕ × Held S tells))). xs ++ [] ∷ []) (map_slice_set turns_of s.views id left) in
      let knowns_are : map known_of (views ++ right ∷ []) ≡ slice_set knowns id (with_parts (view.known.parts - 1) view.known) ++ fresh_known 1 ∷ [] =
      map_snoc known_of views right ∙ ap (λ (xs : List Known). xs ++ fresh_known 1 ∷ []) (map_slice_set known_of s.views id left) in
      let seat = k.seats id view at in
      record {
        held = k.held;
        long = k.long;
        turns = subst (λ (xs : List (List (ℕ × Held S tells))). AreTurns (buckets_of opening) s.words s.homes xs k.held) (sym turns_are)
            (split (buckets_of opening) s.words s.homes (map turns_of s.views) k.held id view.turns k.turns (map_at turns_of s.views id view at));
        books = books_known opening s.words knowns (map known_of (views ++ right ∷ [])) k.held k.books
            (subst (AreParts k.books.news k.books.stand.last) (sym knowns_are)
            (parts_split k.books.news k.books.stand.last knowns id view.known (map_at known_of s.views id view at) many k.books.parts));
        seats = λ j u e. ⊎_elim
            (λ (was : get_elem? views j ≡ some u). each_set (λ _. IsSeat opening) s.views id left
            record { opening_is = λ _. seat.opening_is (omega (arith, many)); idle = λ (none : view.known.parts - 1 ≡ 0). absurd (omega (arith, none, many)) }
            (λ i v _ e'. k.seats i v e') j u was)
            (λ (is : right ≡ u). subst (IsSeat opening) is record { opening_is = λ _. seat.opening_is (omega (arith, many)); idle = λ _. refl })
            (at_snoc views right u j e);
      }

  -- ---- a seat takes in another, which holds no turn
  pub joins : (opening : Yard S tells) (id : ℕ) (view : View S tells) (place : ℕ) (other : View S tells) → other.turns ≡ [] → 1 ≤ view.known.parts
      → Joins (IsKept opening) id view place other (both_of view other) spent_of
  joins opening id view place other free part s k at apart there =
      let both : View S tells = both_of view other in
      let spent : View S tells = spent_of in
      let views : List (View S tells) = slice_set s.views id both in
      let turns : List (List (ℕ × Held S tells)) = map turns_of s.views in
      let knowns : List Known = map known_of s.views in
      let first_turns : map turns_of views ≡ slice_set turns id view.turns = map_slice_set turns_of s.views id both in
      let first_knowns : map known_of views ≡ slice_set knowns id (joined_known view.known other.known) = map_slice_set known_of s.views id both in
      let turns_are : map turns_of (slice_set views place spent) ≡ slice_set (slice_set turns id view.turns) place [] =
      map_slice_set turns_of views place spent ∙ ap (λ (xs : List (List (ℕ × Held S tells))). slice_set xs place []) first_turns in
      let knowns_are : map known_of (slice_set views place spent) ≡ slice_set (slice_set knowns id (joined_known view.known other.known)) place (fresh_known 0) =
      map_slice_set known_of views place spent ∙ ap (λ (xs : List Known). slice_set xs place (fresh_known 0)) first_knowns in
      let other_turns : get_elem? (slice_set turns id view.turns) place ≡ some [] =
      ap (λ (xs : List (List (ℕ × Held S tells))). get_elem? xs place) (sym first_turns) ∙ map_at turns_of views place other there ∙ ap (λ (x : List (ℕ × Held S tells)). some x) free in
      let other_known : get_elem? (slice_set knowns id (joined_known view.known other.known)) place ≡ some other.known =
      ap (λ (xs : List Known). get_elem? xs place) (sym first_knowns) ∙ map_at known_of views place other there in
      let seat = k.seats id view at in
      record {
        held = k.held;
        long = k.long;
        turns = subst (λ (xs : List (List (ℕ × Held S tells))). AreTurns (buckets_of opening) s.words s.homes xs k.held) (sym turns_are)
            (joined (buckets_of opening) s.words s.homes turns k.held id place view.turns k.turns (map_at turns_of s.views id view at) other_turns);
        books = books_known opening s.words knowns (map known_of (slice_set views place spent)) k.held k.books
            (subst (AreParts k.books.news k.books.stand.last) (sym knowns_are)
            (parts_join k.books.news k.books.stand.last knowns id place view.known other.known (map_at known_of s.views id view at) part apart other_known k.books.parts));
        seats = each_set (λ _. IsSeat opening) views place spent
            record { opening_is = λ (some_part : 1 ≤ 0). absurd (omega (arith, some_part)); idle = λ _. refl }
            (λ j u _ e. each_set (λ _. IsSeat opening) s.views id both
            record { opening_is = λ _. seat.opening_is part; idle = λ (none : view.known.parts + other.known.parts ≡ 0). absurd (omega (arith, none, part)) }
            (λ i v _ e'. k.seats i v e') j u e);
      }

  -- ---- a table that is made
  first_seat : (opening : Yard S tells) (id : ℕ) (view : View S tells) → get_elem? (first_view opening ∷ []) id ≡ some view → IsSeat opening view
  first_seat opening zero view at = subst (IsSeat opening) (some-injective (first_view opening) view at) record { opening_is = λ _. refl; idle = λ _. refl }
  first_seat opening (suc id) view at = absurd (some-ne-none view (sym at))

  -- what stands behind the turns then
  abbrev first_held : Yard S tells → List Waiting → ℕ → Held S tells
  first_held opening arrays = changed (λ b. InBin (bin_of (first_stand opening) arrays b)) (buckets_of opening) (InYard (first_stand opening))

  pub opens : ((s : S) → IsConsistent (tells.told s)) → (opening : Yard S tells) (words : List ℕ) (arrays : List Waiting) (slots : List (Option (Held S tells)))
      → IsDrum opening.parts.urls → IsSound opening.parts → AreArrays opening.parts.urls.settings arrays → ((b : ℕ) → waiting_at arrays b ≡ [])
      → AreWords opening words → AreSlots opening arrays slots
      → IsKept opening (table_of words slots (first_view opening))
  opens lawful opening words arrays slots drum sound are empty words_are slots_are =
      let last : ℕ = buckets_of opening in
      let bin : ℕ → Held S tells = λ b. InBin (bin_of (first_stand opening) arrays b) in
      let yard : Held S tells = InYard (first_stand opening) in
      let held : ℕ → Held S tells = first_held opening arrays in
      let bins : (b : ℕ) → b < last → held b ≡ bin b = λ b inside. changed_else bin last b yard (λ same. omega (arith, same, inside)) in
      let store : held last ≡ yard = changed_here bin last last yard refl in
      let long : length slots ≡ last + 1 = ap length slots_are.slots_are ∙ length-append slots_are.front (Some yard ∷ []) ∙ ap (λ (n : ℕ). n + 1) slots_are.count in
      let at_home : (t : ℕ) (h : Held S tells) → get_elem? slots t ≡ some (Some h) → held t ≡ h → get_elem? (map some slots) t ≡ some (some (Some (held t)))
      = λ t h at is. at_map some slots t (Some h) at ∙ ap (λ (x : Held S tells). some (some (Some x))) (sym is) in
      let place : (t : ℕ) → get_elem? slots t ≡ get_elem? (slots_are.front ++ Some yard ∷ []) t = λ t. ap (λ (l : List (Option (Held S tells))). get_elem? l t) slots_are.slots_are in
      record {
        held = held;
        long = words_are.count;
        turns = opened last words (map some slots) held (length-map slots some ∙ long) words_are.turns
            (λ t inside. dite (ℕ_discrete t last)
            (λ same. at_home t yard (place t ∙ at_last slots_are.front (Some yard) t (slots_are.count ∙ sym same)) (ap held same ∙ store))
            (λ apart. let less : t < last = omega (arith, inside, apart) in
            at_home t (bin t) (place t ∙ at_longer slots_are.front (Some yard ∷ []) t (Some (bin t)) (slots_are.bins t less)) (bins t less)));
        books = books_first lawful opening words arrays held drum sound are empty store bins words_are.counts words_are.fit;
        seats = first_seat opening;
      }

  -- ---- passes that are dealt out
  parts_snoc : (passes : List (Pass S tells)) (pass : Pass S tells) → parts_in_all (passes ++ pass ∷ []) ≡ parts_in_all passes + parts_in pass
  parts_snoc [] pass = omega arith
  parts_snoc (x ∷ xs) pass = let r = parts_snoc xs pass in omega (arith, r)

  -- one more that has done nothing
  pub fresh_more : (shared : Shared S tells) (passes new : List (Pass S tells)) (pass : Pass S tells) → new ≡ passes ++ pass ∷ [] → AllByRecursion (IsFreshPass shared) passes → IsFreshPass shared pass
      → AllByRecursion (IsFreshPass shared) new × (parts_in_all new ≡ parts_in_all passes + parts_in pass) × (length new ≡ length passes + 1)
  fresh_more shared passes new pass is fresh one = (
    subst (AllByRecursion (IsFreshPass shared)) (sym is) (every_snoc (IsFreshPass shared) passes pass fresh one),
    ap parts_in_all is ∙ parts_snoc passes pass,
    ap length is ∙ length-append passes (pass ∷ []),
  )

  -- a pass whose seat knows no more than the opening
  pub fresh_pass : (shared : Shared S tells) (pass : Pass S tells) (parts : ℕ) → pass.token.table_id ≡ shared.table.shared.table_id
      → pass.token.me ≡ (view_of (opening_of shared) [] (fresh_known parts), []) → 1 ≤ parts → pass.number + 1 < 2 ^ 64 → pass.last ≡ None
      → IsFreshPass shared pass × (parts_in pass ≡ parts)
  fresh_pass shared pass parts own me some_part number last =
      let parts_are : pass.token.me.0.known.parts ≡ parts = ap (λ (m : M tells). m.0.known.parts) me in (
        record {
          own = record {
            on = record {
              own_is = own;
              words = omega (arith, shared.words, shared.buckets_are);
              slots = omega (arith, shared.slots, shared.buckets_are);
              opening_is = ap (λ (m : M tells). m.0.opening) me;
              part = omega (arith, parts_are, some_part);
            };
            number = number;
          };
          free = record {
            slots = ap (λ (m : M tells). m.1) me;
            turns = ap (λ (m : M tells). m.0.turns) me;
            last = last ∙ sym (ap (λ (m : M tells). m.0.known.mine.last) me);
            joined = ap (λ (m : M tells). m.0.known.joined) me;
          };
          entries = ap (λ (m : M tells). entries_of m.0.known.mine) me;
          last = last;
        },
        parts_are,
      )

  -- one part of so many goes to a new seat
  pub part_given : (opening : Yard S tells) (me new other : M tells) (parts : ℕ) → me ≡ (view_of opening [] (fresh_known parts), [])
      → new ≡ (left_of me.0, me.1) → other ≡ (right_of me.0, [])
      → (new ≡ (view_of opening [] (fresh_known (parts - 1)), [])) × (other ≡ (view_of opening [] (fresh_known 1), []))
  part_given opening me new other parts is left right =
      (left ∙ ap (λ (m : M tells). (left_of m.0, m.1)) is, right ∙ ap (λ (m : M tells). (right_of m.0, [])) is)
