-- A count keeps the rule.
use Rattle.std.proofs.Common.{◌≡◌, ◌∙◌, inl, ℕ, ◌+◌, ◌%◌, ◌^◌, ◌<◌, ◌≤◌, List, [], ◌∷◌, length, map, refl, sym, ap, subst, arith}
use Rattle.std.specs.Prelude.{slice_index, slice_set}
use mathlib.Core.Option.{none, some}
use lib.ListN.{get_elem?}
use Rattle.atomic_table.specs.Seated.{TableId}
use Rattle.atomic_table.specs.Table.{Allows, keeps, rest, step}
use Rattle.irl_offer.specs.Buckets.{bucket_of}
use Rattle.irl_offer.specs.Offering.{IsTakenBy}
use Rattle.irl_offer.specs.Tuple.{Tuple}
use Rattle.irl_key.specs.Links.{IsCanonicalText}
use Rattle.irl_disk.specs.Images.{IsConsistent}
use Rattle.irl_disk.specs.declared.store.Store.{Ghosts}
use Rattle.irl_yard.specs.declared.yard.Yard.{Yard}
use Rattle.irl_lock.specs.Books.{HasBooks, buckets_of, count_word}
use Rattle.irl_lock.specs.Plays.{Counted, M, end_of, pushed, with_entry, with_known}
use Rattle.irl_lock.specs.Rule.{IsKept, IsSeat, known_of, turns_of}
use Rattle.irl_lock.specs.Seats.{IsOn}
use Rattle.irl_lock.specs.Turns.{AreTurns}
use Rattle.irl_lock.specs.declared.held.Bin.{Bin}
use Rattle.irl_lock.specs.declared.held.Held.{Held}
use Rattle.irl_lock.specs.declared.held.Held.TheVariants.{InBin}
use Rattle.irl_lock.specs.declared.view.Known.{Known}
use Rattle.irl_lock.specs.declared.view.View.{View}
use Rattle.irl_lock.proofs.BookSteps.{IsCount, books_count, count_found, held_bin}
use Rattle.irl_lock.proofs.Listed.{changed, changed_else, changed_here, each_set, map_at, map_slice_set, words_long}
use Rattle.irl_lock.proofs.TurnSteps.{keeps_behind, revalued_first, word_behind}

-- a seat of the table stays one, where it has as many parts and knows the same opening
pub on_later : {S : Type 0} {tells : Ghosts S} (table own later : TableId) (opening : Yard S tells) (view now : View S tells) → IsOn table opening own view → later ≡ own
    → now.opening ≡ view.opening → now.known.parts ≡ view.known.parts → IsOn table opening later now
on_later table own later opening view now on same first parts = record {
  own_is = same ∙ on.own_is;
  words = on.words;
  slots = on.slots;
  opening_is = first ∙ on.opening_is;
  part = omega (arith, parts, on.part);
}

module _ {S : Type 0} {tells : Ghosts S} where
  -- the bin that stands behind the turn claimed last
  abbrev pub first_bin : Bin → List (ℕ × Held S tells) → Bin
  first_bin other [] = other
  first_bin other (x ∷ more) = held_bin other x.1

  module _ (lawful : (s : S) → IsConsistent (tells.told s)) (opening : Yard S tells) (slots id b : ℕ) (offer : Tuple) (me : M tells) (bin : Bin) (more : List (ℕ × Held S tells))
      (turns : me.0.turns ≡ (b, InBin bin) ∷ more) (part : 1 ≤ me.0.known.parts) (within : b < buckets_of opening) (bucket : bucket_of (buckets_of opening) offer.key ≡ b)
      (room : length bin.array.items < opening.parts.urls.settings.array) (number : end_of bin < 2 ^ 64) (taken : IsTakenBy IsCanonicalText opening.parts.urls.settings.kind offer) where
    pub counts : Allows (IsKept opening) slots id me (count_word opening b) (λ n. (n + 1) % 2 ^ 64) (Counted b offer (step slots (count_word opening b) 1 0 none) me)
    counts s k _ at _ =
        let view = me.0 in
        let last = buckets_of opening in
        let place = count_word opening b in
        let found = slice_index s.words place in
        let word = (found + 1) % 2 ^ 64 in
        let seats = map turns_of s.views in
        let knowns = map known_of s.views in
        let now : List (ℕ × Held S tells) = (b, InBin (pushed bin offer)) ∷ more in
        let known : Known = with_entry b found offer view.known in
        let later : View S tells = with_known now known view in
        let held : ℕ → Held S tells = changed k.held b (InBin (pushed bin offer)) in
        let turns_at : get_elem? seats id ≡ some ((b, InBin bin) ∷ more) = map_at turns_of s.views id view at ∙ ap some turns in
        let behind = keeps_behind last s.words s.homes seats k.held id ((b, InBin bin) ∷ more) b (InBin bin) k.turns turns_at (inl (refl, refl)) in
        let long = k.long in
        let is : IsCount lawful opening s.words knowns k.held held id b view.known bin offer = record {
          seat = map_at known_of s.views id view at;
          part = part;
          within = within;
          long = omega (arith, long, within);
          was = behind.1;
          now = changed_here k.held b b (InBin (pushed bin offer)) refl;
          others = λ t other. changed_else k.held b t (InBin (pushed bin offer)) other;
          room = room;
          number = number;
          bucket = bucket;
          taken = taken;
        } in (
          later,
          keeps,
          tt,
          record {
            held = held;
            long = words_long s.words place word ∙ k.long;
            turns = subst (λ (l : List (List (ℕ × Held S tells))). AreTurns last (slice_set s.words place word) s.homes l held) (sym (map_slice_set turns_of s.views id later))
                (word_behind last s.words s.homes (slice_set seats id now) held place word
                (revalued_first last s.words s.homes seats k.held id b (InBin bin) (InBin (pushed bin offer)) more k.turns turns_at) (omega arith));
            books = subst (λ (l : List Known). HasBooks opening (slice_set s.words place word) l held) (sym (map_slice_set known_of s.views id later))
                (books_count lawful opening s.words knowns k.held held id b view.known bin offer is k.books);
            seats = each_set (λ i u. IsSeat opening u) s.views id later
                (record { opening_is = (k.seats id view at).opening_is; idle = λ zero. absurd (omega (arith, zero, part)) })
                (λ i u other there. k.seats i u there);
          },
          λ bin' more' is'.
              let same = sym turns ∙ is' in
              let p : bin ≡ bin' = ap (first_bin bin) same in
              let q : more ≡ more' = ap rest same in (
                count_found lawful opening s.words knowns k.held held id b view.known bin offer is k.books ∙ ap (λ (x : Bin). end_of x % 2 ^ 64) p,
                ap (λ (x : Bin × List (ℕ × Held S tells)). (with_known ((b, InBin (pushed x.0 offer)) ∷ x.1) known view, me.1)) (λ i. (p i, q i)),
              ),
        )

  -- the same, by what the step is told
  pub counts_at : (lawful : (s : S) → IsConsistent (tells.told s)) (opening : Yard S tells) (slots id b : ℕ) (offer : Tuple) (me : M tells) (bin : Bin) (more : List (ℕ × Held S tells))
      (at says_bucket : ℕ) (says_offer : Tuple) → at ≡ count_word opening b → says_bucket ≡ b → says_offer ≡ offer → me.0.turns ≡ (b, InBin bin) ∷ more → 1 ≤ me.0.known.parts
      → b < buckets_of opening → bucket_of (buckets_of opening) offer.key ≡ b → length bin.array.items < opening.parts.urls.settings.array → end_of bin < 2 ^ 64
      → IsTakenBy IsCanonicalText opening.parts.urls.settings.kind offer
      → Allows (IsKept opening) slots id me at (λ n. (n + 1) % 2 ^ 64) (Counted says_bucket says_offer (step slots at 1 0 none) me)
  counts_at lawful opening slots id b offer me bin more at says_bucket says_offer is_at is_bucket is_offer turns part within bucket room number taken =
      subst (λ (z : ℕ × ℕ × Tuple). Allows (IsKept opening) slots id me z.0 (λ n. (n + 1) % 2 ^ 64) (Counted z.1 z.2 (step slots z.0 1 0 none) me))
      (λ i. (sym is_at i, sym is_bucket i, sym is_offer i)) (counts lawful opening slots id b offer me bin more turns part within bucket room number taken)

  -- what a count tells, of the bucket and the offer that it was told
  pub counted_told : (b says_bucket : ℕ) (offer says_offer : Tuple) (me after : M tells) (found : ℕ) (bin : Bin) (more : List (ℕ × Held S tells))
      → says_bucket ≡ b → says_offer ≡ offer → Counted says_bucket says_offer (step 0 0 0 0 none) me found after → me.0.turns ≡ (b, InBin bin) ∷ more
      → (found ≡ end_of bin % 2 ^ 64) × (after ≡ (with_known ((b, InBin (pushed bin offer)) ∷ more) (with_entry b found offer me.0.known) me.0, me.1))
  counted_told b says_bucket offer says_offer me after found bin more is_bucket is_offer told turns =
      subst (λ (z : ℕ × Tuple). Counted z.0 z.1 (step 0 0 0 0 none) me found after) (λ i. (is_bucket i, is_offer i)) told bin more turns
