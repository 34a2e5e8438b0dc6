-- Of a book that has nothing left to judge, the keys of the unique URLs are those of all offers.
use Rattle.std.proofs.Common.{◌≡◌, ◌∙◌, ℕ, zero, suc, ◌+◌, ◌-◌, ◌<◌, ◌≤◌, nat_eq, Bool, true, false, cond, not, List, [], ◌∷◌, map, length, take, drop, get_or, Option, Some, refl, sym, ap, subst, arith, inl, inr, length-drop, length-take}
use Rattle.std.specs.Prelude.{find, option_map, unwrap_or}
use Rattle.std.specs.List.{Contains, enumerate_from, filter}
use Rattle.std.proofs.lemmas.Bool.{cond-false, cond-true, eq-eqb, eqb-true, ne_eqb, not_from_false}
use Rattle.std.proofs.lemmas.List.{get_or_default}
use Rattle.std.proofs.lemmas.List.Elements.{Contains-append_cases}
use Rattle.irl_core.specs.States.{offers_of as offers_in, url_text}
use Rattle.irl_events.proofs.LinkLemmas.{uniques-firsts}
use Rattle.irl_events.specs.Links.{firsts_by_key}
use Rattle.irl_model.proofs.Stretches.{below_long, here, judged_here_are, last_above, stretch_here}
use Rattle.irl_model.specs.Judging.{judgements, verdict}
use Rattle.irl_model.specs.Book.{Book, IsBook, gone, is_unique, judged, judged_as, judged_cut, judged_offers, lengths_of, list_lengths, pending, stretches, uniques, uniques_from}
use Rattle.irl_offer.specs.declared.offer.Op.TheVariants.{Both}
use Rattle.irl_offer.specs.declared.offer.Verdict.{Verdict}
use Rattle.irl_offer.specs.declared.receipt.Judged.{Judged}
use Rattle.irl_offer.specs.Tuple.{Tuple}
use Rattle.irl_reach.specs.Along.{keys_in}
use Rattle.irl_reach.proofs.Growing.{all_of, stretch_member}
use Rattle.irl_reach.proofs.Members.{all_from, filter_member, filter_passes, first_member, flat_cases, later_member, map_cases, map_member, member_cases, no_member}

-- ---- the first of each key
pub record FirstOf (offers : List Tuple) (offer : Tuple) : Type 0 where
  pub first : Tuple
  pub there : Contains (firsts_by_key offers) first
  pub key : first.key ≡ offer.key

first_of_key : (offers : List Tuple) (offer : Tuple) → Contains offers offer → FirstOf offers offer
first_of_key [] offer h = absurd (no_member offer h)
first_of_key (x ∷ offers) offer h = elim (member_cases x offers offer h) [
  | inl same ↦ record { first = x; there = first_member x _; key = ap (λ (o : Tuple). o.key) same }
  | inr there ↦ by (first_of_key offers offer there)
]
  where
    others : Tuple → Bool
    others o = not (nat_eq o.key x.key)

    by : FirstOf offers offer → FirstOf (x ∷ offers) offer
    by found = at (nat_eq found.first.key x.key) refl
      where
        at : (b : Bool) → nat_eq found.first.key x.key ≡ b → FirstOf (x ∷ offers) offer
        at true e = record { first = x; there = first_member x _; key = sym (eqb-true found.first.key x.key e) ∙ found.key }
        at false e = record {
          first = found.first;
          there = later_member x _ found.first (filter_passes (λ (o : Tuple). not (nat_eq o.key x.key)) (firsts_by_key offers) found.first found.there
              (not_from_false (nat_eq found.first.key x.key) e));
          key = found.key;
        }

first_among : (offers : List Tuple) (offer : Tuple) → Contains (firsts_by_key offers) offer → Contains offers offer
first_among [] offer h = h
first_among (x ∷ offers) offer h = elim (member_cases x (filter (λ (o : Tuple). not (nat_eq o.key x.key)) (firsts_by_key offers)) offer h) [
  | inl same ↦ subst (λ o. Contains (x ∷ offers) o) same (first_member x offers)
  | inr there ↦ later_member x offers offer (first_among offers offer (filter_member (λ (o : Tuple). not (nat_eq o.key x.key)) (firsts_by_key offers) offer there))
]

-- ---- what is judged
stretches_member : (firsts from : List ℕ) (cuts : List (List ℕ)) (lists : List (List Tuple)) (x : Tuple) → Contains (stretches firsts from cuts lists) x → Contains (all_of lists) x
stretches_member firsts from [] lists x h = absurd (no_member x h)
stretches_member firsts from (cut ∷ cuts) lists x h = elim (Contains-append_cases _ (stretches firsts cut cuts lists) x h) [
  | inl first ↦ stretch_member firsts from cut lists x first
  | inr later ↦ stretches_member firsts cut cuts lists x later
]

length_at : (firsts : List ℕ) (lists : List (List Tuple)) (b : ℕ) → b < length firsts → b < length lists → get_or (list_lengths firsts lists) b 0 ≡ get_or firsts b 0 + length (get_or lists b [])
length_at [] lists b lt within = absurd (omega arith)
length_at (first ∷ firsts) [] b lt within = absurd (omega arith)
length_at (first ∷ firsts) (list ∷ lists) zero lt within = refl
length_at (first ∷ firsts) (list ∷ lists) (suc b) lt within = length_at firsts lists b (omega arith) (omega arith)

take_whole : {X : Type 0} (n : ℕ) (xs : List X) → length xs ≤ n → take n xs ≡ xs
take_whole zero [] le = refl
take_whole zero (x ∷ xs) le = absurd (omega arith)
take_whole (suc n) [] le = refl
take_whole (suc n) (x ∷ xs) le = ap (λ l. x ∷ l) (take_whole n xs (omega arith))

module _ (book : Book) (is : IsBook book) (dropped : book.dropped ≡ 0) (both : (offer : Tuple) → Contains (offers_in book) offer → offer.op ≡ Both) where
  pub judged_listed : (offer : Tuple) → Contains (judged_offers book) offer → Contains (offers_in book) offer
  judged_listed offer h = stretches_member book.firsts book.firsts book.cuts book.lists offer h

  firsts_are : map (λ p. p.1) (uniques book) ≡ firsts_by_key (judged_offers book)
  firsts_are = uniques-firsts book (is.none dropped).0 (all_from (λ (o : Tuple). o.op ≡ Both) (judged_offers book) (λ o h. both o (judged_listed o h)))

  -- a unique URL is an offer of the lists
  pub unique_listed : (p : ℕ × Tuple) → Contains (uniques book) p → Contains (offers_in book) p.1
  unique_listed p h = judged_listed p.1 (first_among (judged_offers book) p.1 (subst (λ os. Contains os p.1) firsts_are (map_member (λ (q : ℕ × Tuple). q.1) (uniques book) p h)))

  -- ---- nothing is left
  module _ (none : pending book ≡ []) where
    whole_list : (b : ℕ) → b < length book.lists → length (get_or book.lists b []) ≤ get_or (judged_cut book) b 0 - get_or book.firsts b 0
    whole_list b lt =
        let list = get_or book.lists b [] in
        let above = last_above book.firsts (lengths_of book) book.cuts is.cuts in
        let wide_cut : length book.firsts ≡ length (judged_cut book) = below_long book.firsts (judged_cut book) above.0 in
        let wide_end : length (judged_cut book) ≡ length (lengths_of book) = below_long (judged_cut book) (lengths_of book) above.1 in
        let wide : length book.firsts ≡ length book.lists = is.firsts ∙ sym is.lists in
        let left = stretch_here book.buckets b b 0 book.firsts (judged_cut book) (lengths_of book) book.lists (omega arith) (omega (arith, wide)) (omega (arith, wide, wide_cut))
        (omega (arith, wide, wide_cut, wide_end)) lt is.each in
        let n = get_or (judged_cut book) b 0 - get_or book.firsts b 0 in
        let m = get_or (lengths_of book) b 0 - get_or book.firsts b 0 in
        let end : get_or (lengths_of book) b 0 ≡ get_or book.firsts b 0 + length list = length_at book.firsts book.lists b (omega (arith, wide)) lt in
        let empty : drop n (take m list) ≡ [] = sym left ∙ ap (filter (here book.buckets b)) none in
        let size : length (drop n (take m list)) ≡ 0 = ap length empty in
        omega (arith, size, end, length-drop n (take m list), length-take m list)

    pub all_judged : (offer : Tuple) → Contains (offers_in book) offer → Contains (judged_offers book) offer
    all_judged offer h =
        let at = flat_cases (λ (list : List Tuple). list) book.lists offer h in
        let b = at.1.0 in
        let lt : b < length book.lists = at.1.1 in
        let list_is : get_or book.lists b [] ≡ at.0 = get_or_default book.lists b [] at.0 lt ∙ at.1.2 in
        let judged = judged_here_are book b is (omega (arith, lt, is.lists)) in
        let whole : filter (here book.buckets b) (judged_offers book) ≡ at.0 = judged ∙ take_whole _ (get_or book.lists b []) (whole_list b lt) ∙ list_is in
        filter_member (here book.buckets b) (judged_offers book) offer (subst (λ os. Contains os offer) (sym whole) at.2)

    -- each key of the lists is that of a unique URL
    pub key_unique : (key : ℕ) → Contains (keys_in book) key → Contains (map (λ p. p.1.key) (uniques book)) key
    key_unique key h =
        let from = map_cases (λ (o : Tuple). o.key) (offers_in book) key h in
        let found = first_of_key (judged_offers book) from.0 (all_judged from.0 from.1) in
        let there = map_cases (λ (p : ℕ × Tuple). p.1) (uniques book) found.first (subst (λ os. Contains os found.first) (sym firsts_are) found.there) in
        subst (λ k. Contains (map (λ p. p.1.key) (uniques book)) k) (ap (λ (o : Tuple). o.key) there.2 ∙ found.key ∙ from.2)
        (map_member (λ (p : ℕ × Tuple). p.1.key) (uniques book) there.0 there.1)

-- ---- the text under a unique number
uniques-cons : (n : ℕ) (j : Judged) (js : List Judged) → uniques_from n (j ∷ js) ≡ cond (is_unique j.verdict) ((n, j.offer) ∷ uniques_from (n + 1) js) (uniques_from (n + 1) js)
uniques-cons n j js = by (is_unique j.verdict) refl
  where
    by : (b : Bool) → is_unique j.verdict ≡ b → uniques_from n (j ∷ js) ≡ cond b ((n, j.offer) ∷ uniques_from (n + 1) js) (uniques_from (n + 1) js)
    by true e = rw e refl
    by false e = rw e refl

number_above : (n : ℕ) (js : List Judged) (p : ℕ × Tuple) → Contains (uniques_from n js) p → n ≤ p.0
number_above n [] p h = absurd (no_member p h)
number_above n (j ∷ js) p h = by (is_unique j.verdict) (number_above (n + 1) js p) (subst (λ us. Contains us p) (uniques-cons n j js) h)
  where
    by : (b : Bool) → (Contains (uniques_from (n + 1) js) p → n + 1 ≤ p.0) → Contains (cond b ((n, j.offer) ∷ uniques_from (n + 1) js) (uniques_from (n + 1) js)) p → n ≤ p.0
    by true later h = elim (member_cases (n, j.offer) (uniques_from (n + 1) js) p h) [
      | inl same ↦ let number : n ≡ p.0 = ap (λ q. q.0) same in omega (arith, number)
      | inr there ↦ let rest = later there in omega (arith, rest)
    ]
    by false later h = let rest = later h in omega (arith, rest)

found_from : (n : ℕ) (js : List Judged) (p : ℕ × Tuple) → Contains (uniques_from n js) p → find (λ q. nat_eq q.0 p.0) (uniques_from n js) ≡ Some p
found_from n [] p h = absurd (no_member p h)
found_from n (j ∷ js) p h =
    ap (find (λ (q : ℕ × Tuple). nat_eq q.0 p.0)) (uniques-cons n j js) ∙ by (is_unique j.verdict) (found_from (n + 1) js p) (subst (λ us. Contains us p) (uniques-cons n j js) h)
  where
    by : (b : Bool) → (Contains (uniques_from (n + 1) js) p → find (λ q. nat_eq q.0 p.0) (uniques_from (n + 1) js) ≡ Some p)
        → Contains (cond b ((n, j.offer) ∷ uniques_from (n + 1) js) (uniques_from (n + 1) js)) p
        → find (λ q. nat_eq q.0 p.0) (cond b ((n, j.offer) ∷ uniques_from (n + 1) js) (uniques_from (n + 1) js)) ≡ Some p
    by true later h = elim (member_cases (n, j.offer) (uniques_from (n + 1) js) p h) [
      | inl same ↦
          cond-true (nat_eq n p.0) (Some (n, j.offer)) (find (λ q. nat_eq q.0 p.0) (uniques_from (n + 1) js)) (eq-eqb n p.0 (ap (λ q. q.0) same)) ∙ ap (λ q. Some q) same
      | inr there ↦
          let rest = number_above (n + 1) js p there in
          cond-false (nat_eq n p.0) (Some (n, j.offer)) (find (λ q. nat_eq q.0 p.0) (uniques_from (n + 1) js)) (ne_eqb n p.0 (λ same. omega (arith, rest, same)))
          ∙ later there
    ]
    by false later h = later h

pub unique_text : (book : Book) (p : ℕ × Tuple) → Contains (uniques book) p → url_text book p.0 ≡ p.1.aux
unique_text book p h = ap (λ (o : Option (ℕ × Tuple)). unwrap_or (option_map (λ (q : ℕ × Tuple). q.1.aux) o) []) (found_from (gone book) (judged book) p h)

-- ---- a unique offer, whatever the offers ask for
numbered_member : {X : Type 0} (n : ℕ) (xs : List X) (p : ℕ × X) → Contains (enumerate_from n xs) p → Contains xs p.1
numbered_member n [] p h = absurd (no_member p h)
numbered_member n (x ∷ xs) p h = elim (member_cases (n, x) (enumerate_from (n + 1) xs) p h) [
  | inl same ↦ subst (λ y. Contains (x ∷ xs) y) (ap (λ (q : ℕ × _). q.1) same) (first_member x xs)
  | inr there ↦ later_member x xs p.1 (numbered_member (n + 1) xs p there)
]

pub unique_in : (book : Book) (p : ℕ × Tuple) → Contains (uniques book) p → Contains (offers_in book) p.1
unique_in book p h =
    let test : ℕ × Judged → Bool = λ q. is_unique q.1.verdict in
    let some = map_cases (λ (q : ℕ × Judged). (q.0, q.1.offer)) (filter test (enumerate_from (gone book) (judged book))) p h in
    let told = numbered_member (gone book) (judged book) some.0 (filter_member test (enumerate_from (gone book) (judged book)) some.0 some.1) in
    let by = map_cases (judged_as book.buckets) (judgements book.rule book.base (judged_offers book)) some.0.1 told in
    let at = map_cases (λ (q : ℕ × Tuple). (q.1, verdict book.rule book.base (judged_offers book) q.0)) (enumerate_from 0 (judged_offers book)) by.0 by.1 in
    let same : at.0.1 ≡ p.1 = ap (λ (q : Tuple × Option Verdict). q.0) at.2 ∙ ap (λ (j : Judged). j.offer) by.2 ∙ ap (λ (q : ℕ × Tuple). q.1) some.2 in
    stretches_member book.firsts book.firsts book.cuts book.lists p.1
    (subst (λ o. Contains (judged_offers book) o) same (numbered_member 0 (judged_offers book) at.0 at.1))
