-- The keys of a book's judged offers and their values have their room.
use Rattle.std.proofs.Common.{◌≡◌, ◌∙◌, ℕ, zero, suc, ◌-◌, ◌^◌, ◌<◌, List, [], ◌∷◌, ◌++◌, length, take, drop, get_or, refl, sym, subst, arith, Option, None, Some, cond, true, false}
use Rattle.std.specs.declared.cmp.Ordering.TheVariants.{Less, Equal, Greater}
use Rattle.std.specs.Ordering.{nat_cmp, eq_by_cmp}
use Rattle.std.specs.Cmp.{nat_cmp_total}
use Rattle.std.specs.List.{AllByRecursion}
use Rattle.std.specs.FinMap.{empty, insert, get, find, put, entries, entries-insert, get-entries, len-entries, len-empty}
use Rattle.std.specs.FinMap.Entries.{by_order}
use Rattle.irl_offer.specs.declared.offer.Rule.{Rule}
use Rattle.irl_offer.specs.declared.offer.Rule.TheVariants.{Keep, Replace, Add}
use Rattle.irl_offer.specs.Tuple.{Tuple}
use Rattle.irl_model.specs.Book.{Book, stretch, stretches, judged_offers, seen}
use Rattle.irl_model.specs.Judging.{KeyMap, after, combined, entered, enters}
use Rattle.irl_cache.specs.SortedRun.{AreWords}
use Rattle.irl_layout.specs.Runs.{IsOffer}

abbrev IsWord : ℕ × ℕ → Type 0
IsWord p = (p.0 < 2 ^ 64) × (p.1 < 2 ^ 64)

-- ---- one key
words_put : (k v : ℕ) (es : List (ℕ × ℕ)) → k < 2 ^ 64 → v < 2 ^ 64 → AllByRecursion IsWord es → AllByRecursion IsWord (put nat_cmp k v es)
words_put k v [] hk hv h = ((hk, hv), tt)
words_put k v (e ∷ es) hk hv h =
    elim (nat_cmp k e.0) as (λ r. AllByRecursion IsWord (by_order r ((k, v) ∷ e ∷ es) ((e.0, v) ∷ es) (e ∷ put nat_cmp k v es))) [
      | Less ↦ ((hk, hv), h)
      | Equal ↦ ((h.0.0, hv), h.1)
      | Greater ↦ (h.0, words_put k v es hk hv h.1)
    ]

words_insert : (keys : KeyMap) (k v : ℕ) → k < 2 ^ 64 → v < 2 ^ 64 → AreWords keys → AreWords (insert keys k v)
words_insert keys k v hk hv h = subst (AllByRecursion IsWord) (sym (entries-insert nat_cmp_total keys k v)) (words_put k v (entries keys) hk hv h)

-- a value that is there
abbrev IsSmall : Option ℕ → Type 0
IsSmall None = Unit {0}
IsSmall (Some value) = value < 2 ^ 64

found_small : (q : ℕ) (es : List (ℕ × ℕ)) → AllByRecursion IsWord es → IsSmall (find nat_cmp q es)
found_small q [] h = tt
found_small q (e ∷ es) h = elim (eq_by_cmp nat_cmp q e.0) as (λ b. IsSmall (cond b (Some e.1) (find nat_cmp q es))) [ true ↦ h.0.1 | false ↦ found_small q es h.1 ]

combined_small : (rule : Rule) (known : Option ℕ) (value : ℕ) → IsSmall known → value < 2 ^ 64 → combined rule known value < 2 ^ 64
combined_small Keep None value small lt = lt
combined_small Replace None value small lt = lt
combined_small Add None value small lt = lt
combined_small Keep (Some old) value small lt = small
combined_small Replace (Some old) value small lt = lt
combined_small Add (Some old) value small lt = omega arith

words_entered : (rule : Rule) (keys : KeyMap) (offer : Tuple) → AreWords keys → IsOffer offer → AreWords (entered rule keys offer)
words_entered rule keys offer h is =
    let small : IsSmall (get keys offer.key) = subst IsSmall (sym (get-entries keys offer.key)) (found_small offer.key (entries keys) h) in
    let new : AreWords (insert keys offer.key (combined rule (get keys offer.key) offer.value)) =
    words_insert keys offer.key _ is.key (combined_small rule (get keys offer.key) offer.value small is.value) h in
    elim (enters offer.op) as (λ b. AreWords (cond b (insert keys offer.key (combined rule (get keys offer.key) offer.value)) keys)) [ true ↦ new | false ↦ h ]

-- ---- a list of offers
pub words_after : (rule : Rule) (keys : KeyMap) (offers : List Tuple) → AreWords keys → AllByRecursion IsOffer offers → AreWords (after rule keys offers)
words_after rule keys [] h is = h
words_after rule keys (o ∷ offers) h is = words_after rule (entered rule keys o) offers (words_entered rule keys o h is.0) is.1

all_both : (xs ys : List Tuple) → AllByRecursion IsOffer xs → AllByRecursion IsOffer ys → AllByRecursion IsOffer (xs ++ ys)
all_both [] ys h k = k
all_both (x ∷ xs) ys h k = (h.0, all_both xs ys h.1 k)

all_take : (n : ℕ) (xs : List Tuple) → AllByRecursion IsOffer xs → AllByRecursion IsOffer (take n xs)
all_take zero xs h = tt
all_take (suc n) [] h = tt
all_take (suc n) (x ∷ xs) h = (h.0, all_take n xs h.1)

all_drop : (n : ℕ) (xs : List Tuple) → AllByRecursion IsOffer xs → AllByRecursion IsOffer (drop n xs)
all_drop zero xs h = h
all_drop (suc n) [] h = h
all_drop (suc n) (x ∷ xs) h = all_drop n xs h.1

all_stretch : (firsts froms tos : List ℕ) (lists : List (List Tuple)) → AllByRecursion (AllByRecursion IsOffer) lists → AllByRecursion IsOffer (stretch firsts froms tos lists)
all_stretch [] froms tos lists h = tt
all_stretch (first ∷ firsts) [] tos lists h = tt
all_stretch (first ∷ firsts) (from ∷ froms) [] lists h = tt
all_stretch (first ∷ firsts) (from ∷ froms) (to ∷ tos) [] h = tt
all_stretch (first ∷ firsts) (from ∷ froms) (to ∷ tos) (list ∷ lists) h =
    all_both (drop (from - first) (take (to - first) list)) (stretch firsts froms tos lists) (all_drop (from - first) (take (to - first) list) (all_take (to - first) list h.0))
    (all_stretch firsts froms tos lists h.1)

all_stretches : (firsts from : List ℕ) (cuts : List (List ℕ)) (lists : List (List Tuple)) → AllByRecursion (AllByRecursion IsOffer) lists → AllByRecursion IsOffer (stretches firsts from cuts lists)
all_stretches firsts from [] lists h = tt
all_stretches firsts from (cut ∷ cuts) lists h = all_both (stretch firsts from cut lists) (stretches firsts cut cuts lists) (all_stretch firsts from cut lists h)
    (all_stretches firsts cut cuts lists h)

-- each list by its number
pub all_lists : (lists : List (List Tuple)) → ((b : ℕ) → b < length lists → AllByRecursion IsOffer (get_or lists b [])) → AllByRecursion (AllByRecursion IsOffer) lists
all_lists [] h = tt
all_lists (list ∷ lists) h = (h 0 (omega arith), all_lists lists (λ b lt. h (suc b) (omega arith)))

no_entries : (es : List (ℕ × ℕ)) → length es ≡ 0 → es ≡ []
no_entries [] e = refl
no_entries (x ∷ es) e = absurd (omega arith)

no_words : AreWords empty
no_words = let none = no_entries (entries empty) (sym (len-entries empty) ∙ len-empty nat_cmp ℕ) in subst (AllByRecursion IsWord) (sym none) tt

pub words_seen : (book : Book) → book.base ≡ empty → ((b : ℕ) → b < length book.lists → AllByRecursion IsOffer (get_or book.lists b [])) → AreWords (seen book)
words_seen book base each = words_after book.rule book.base (judged_offers book) (rw base no_words) (all_stretches book.firsts book.firsts book.cuts book.lists (all_lists book.lists each))
