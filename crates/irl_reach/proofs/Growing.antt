-- What a state of a store keeps in each state of which it is a front.
use Rattle.std.proofs.Common.{◌≡◌, ◌∙◌, ℕ, zero, suc, ◌-◌, nat_eq, Bool, true, false, cond, List, [], ◌∷◌, ◌++◌, map, length, take, drop, replicate, Option, Some, None, refl, sym, ap, subst, ◌⊎◌, inl, inr}
use Rattle.std.specs.Prelude.{find, flat_map, option_map, unwrap_or}
use Rattle.std.specs.List.{Contains}
use Rattle.std.proofs.lemmas.List.Elements.{Contains-append_left, Contains-append_right, Contains-append_cases}
use Rattle.std.proofs.lemmas.Bool.{eq-eqb}
use Rattle.irl_core.specs.States.{offers_of, url_text}
use Rattle.irl_events.specs.State.{State, AreFronts, IsFrontState, blank_state}
use Rattle.irl_model.proofs.FrontLaws.{front_both, front_same, prefix_both, prefix_map, prefix_same, uniques_front}
use Rattle.irl_model.specs.Book.{ArePrefixes, Book, IsBook, IsPrefixOf, stretch, uniques}
use Rattle.irl_offer.specs.declared.settings.Settings.{Settings}
use Rattle.irl_offer.specs.Tuple.{Tuple}
use Rattle.irl_reach.specs.Crawls.{IsCrawlStore, IsStore, added_to, numbers_in}
use Rattle.irl_reach.proofs.Members.{drop_member, member_cases, no_member, take_member}

-- all offers of lists
abbrev pub all_of : List (List Tuple) → List Tuple
all_of lists = flat_map (λ (list : List Tuple). list) lists

-- ---- lists
pub prefixes_member : (lists more : List (List Tuple)) (x : Tuple) → ArePrefixes lists more → Contains (all_of lists) x → Contains (all_of more) x
prefixes_member [] more x h c = absurd (no_member x c)
prefixes_member (list ∷ lists) [] x h c = absurd h
prefixes_member (list ∷ lists) (m ∷ more) x h c = elim (Contains-append_cases list (all_of lists) x c) [
  | inl here ↦ Contains-append_left m (all_of more) x (subst (λ l. Contains l x) (sym h.0.1) (Contains-append_left list h.0.0 x here))
  | inr there ↦ Contains-append_right m (all_of more) x (prefixes_member lists more x h.1 there)
]

pub drop_front : {X : Type 0} (xs ys : List X) → drop (length xs) (xs ++ ys) ≡ ys
drop_front [] ys = refl
drop_front (x ∷ xs) ys = drop_front xs ys

-- what longer lists have stood in the others, or was added
pub added_member : (lists more : List (List Tuple)) (x : Tuple) → ArePrefixes lists more → Contains (all_of more) x → Contains (all_of lists) x ⊎ Contains (added_to lists more) x
added_member [] [] x h c = inl c
added_member [] (m ∷ more) x h c = absurd h
added_member (list ∷ lists) [] x h c = absurd h
added_member (list ∷ lists) (m ∷ more) x h c = elim (Contains-append_cases m (all_of more) x c) [
  | inl here ↦
      elim (Contains-append_cases list h.0.0 x (subst (λ l. Contains l x) h.0.1 here)) [
        | inl old ↦ inl (Contains-append_left list (all_of lists) x old)
        | inr new ↦
            let rest : drop (length list) m ≡ h.0.0 = ap (drop (length list)) h.0.1 ∙ drop_front list h.0.0 in
            inr (Contains-append_left (drop (length list) m) (added_to lists more) x (subst (λ l. Contains l x) (sym rest) new))
      ]
  | inr there ↦
      elim (added_member lists more x h.1 there) [
        | inl old ↦ inl (Contains-append_right list (all_of lists) x old)
        | inr new ↦ inr (Contains-append_right (drop (length list) m) (added_to lists more) x new)
      ]
]

-- where nothing stood all is added
pub added_none : (more : List (List Tuple)) (x : Tuple) → Contains (all_of more) x → Contains (added_to [] more) x
added_none [] x c = c
added_none (m ∷ more) x c = elim (Contains-append_cases m (all_of more) x c) [
  | inl here ↦ Contains-append_left m (added_to [] more) x here
  | inr there ↦ Contains-append_right m (added_to [] more) x (added_none more x there)
]

pub added_new : (n : ℕ) (more : List (List Tuple)) → added_to (replicate n []) more ≡ added_to [] more
added_new zero more = refl
added_new (suc n) [] = refl
added_new (suc n) (m ∷ more) = ap (λ os. m ++ os) (added_new n more)

pub all_new : (n : ℕ) → all_of (replicate n []) ≡ []
all_new zero = refl
all_new (suc n) = all_new n

-- what is added stands in the lists
pub added_listed : (lists more : List (List Tuple)) (x : Tuple) → Contains (added_to lists more) x → Contains (all_of more) x
added_listed lists [] x c = absurd (no_member x c)
added_listed [] (m ∷ more) x c = elim (Contains-append_cases m (added_to [] more) x c) [
  | inl here ↦ Contains-append_left m (all_of more) x here
  | inr there ↦ Contains-append_right m (all_of more) x (added_listed [] more x there)
]
added_listed (list ∷ lists) (m ∷ more) x c = elim (Contains-append_cases (drop (length list) m) (added_to lists more) x c) [
  | inl here ↦ Contains-append_left m (all_of more) x (drop_member (length list) m x here)
  | inr there ↦ Contains-append_right m (all_of more) x (added_listed lists more x there)
]

added_blank : (more : List (List Tuple)) (x : Tuple) → Contains (all_of more) x → Contains (added_to ([] ∷ []) more) x
added_blank [] x c = c
added_blank (m ∷ more) x c = added_none (m ∷ more) x c

-- a stretch has offers of the lists
pub stretch_member : (firsts froms tos : List ℕ) (lists : List (List Tuple)) (x : Tuple) → Contains (stretch firsts froms tos lists) x → Contains (all_of lists) x
stretch_member [] froms tos lists x c = absurd (no_member x c)
stretch_member (first ∷ firsts) [] tos lists x c = absurd (no_member x c)
stretch_member (first ∷ firsts) (from ∷ froms) [] lists x c = absurd (no_member x c)
stretch_member (first ∷ firsts) (from ∷ froms) (to ∷ tos) [] x c = absurd (no_member x c)
stretch_member (first ∷ firsts) (from ∷ froms) (to ∷ tos) (list ∷ lists) x c =
    elim (Contains-append_cases (drop (from - first) (take (to - first) list)) (stretch firsts froms tos lists) x c) [
      | inl here ↦ Contains-append_left list (all_of lists) x (take_member (to - first) list x (drop_member (from - first) (take (to - first) list) x here))
      | inr there ↦ Contains-append_right list (all_of lists) x (stretch_member firsts froms tos lists x there)
    ]

-- ---- the text under a number

found_text : (us rest : List (ℕ × Tuple)) (n : ℕ) → Contains (map (λ p. p.0) us) n → find (λ p. nat_eq p.0 n) (us ++ rest) ≡ find (λ p. nat_eq p.0 n) us
found_text [] rest n c = absurd (no_member n c)
found_text (u ∷ us) rest n c = by (nat_eq u.0 n) refl (found_text us rest n) (member_cases u.0 (map (λ p. p.0) us) n c)
  where
    by : (b : Bool) → nat_eq u.0 n ≡ b → (Contains (map (λ p. p.0) us) n → find (λ p. nat_eq p.0 n) (us ++ rest) ≡ find (λ p. nat_eq p.0 n) us) → (u.0 ≡ n) ⊎ Contains (map (λ p. p.0) us) n
        → cond b (Some u) (find (λ p. nat_eq p.0 n) (us ++ rest)) ≡ cond b (Some u) (find (λ p. nat_eq p.0 n) us)
    by true e later h = refl
    by false e later h = elim h [
      | inl same ↦ let no : true ≡ false = sym (eq-eqb u.0 n same) ∙ e in absurd (cc)
      | inr there ↦ later there
    ]

pub text_stays : (book more : Book) (n : ℕ) → IsPrefixOf (uniques book) (uniques more) → Contains (numbers_in book) n → url_text more n ≡ url_text book n
text_stays book more n prefix c =
    let text : Option (ℕ × Tuple) → List ℕ = λ o. unwrap_or (option_map (λ (p : ℕ × Tuple). p.1.aux) o) [] in
    ap (λ (us : List (ℕ × Tuple)). text (find (λ p. nat_eq p.0 n) us)) prefix.1 ∙ ap text (found_text (uniques book) prefix.0 n c)

numbers_stay : (book more : Book) (n : ℕ) → IsPrefixOf (uniques book) (uniques more) → Contains (numbers_in book) n → Contains (numbers_in more) n
numbers_stay book more n prefix c =
    let numbers = prefix_map (λ (p : ℕ × Tuple). p.0) (uniques book) (uniques more) prefix in
    subst (λ ns. Contains ns n) (sym numbers.1) (Contains-append_left (numbers_in book) numbers.0 n c)

-- ---- states
pub record Grows (x y : State) : Type 0 where
  pub offers : (offer : Tuple) → Contains (offers_of x.urls) offer → Contains (offers_of y.urls) offer
  pub added : (offer : Tuple) → Contains (offers_of y.urls) offer → Contains (offers_of x.urls) offer ⊎ Contains (added_to x.urls.lists y.urls.lists) offer
  pub events : IsPrefixOf x.events y.events
  pub numbers : (n : ℕ) → Contains (numbers_in x.urls) n → Contains (numbers_in y.urls) n
  pub texts : (n : ℕ) → Contains (numbers_in x.urls) n → url_text y.urls n ≡ url_text x.urls n

grows_blank : (y : State) → Grows blank_state y
grows_blank y = record {
  offers = λ offer c. absurd (no_member offer c);
  added = λ offer c. inr (added_blank y.urls.lists offer c);
  events = (y.events, refl);
  numbers = λ n c. absurd (no_member n c);
  texts = λ n c. absurd (no_member n c);
}

pub grows_fronts : (x y : State) → IsBook x.urls → AreFronts x y → Grows x y
grows_fronts x y is fronts = record {
  offers = λ offer c. prefixes_member x.urls.lists y.urls.lists offer fronts.urls.lists c;
  added = λ offer c. added_member x.urls.lists y.urls.lists offer fronts.urls.lists c;
  events = fronts.events;
  numbers = λ n c. numbers_stay x.urls y.urls n (uniques_front x.urls y.urls is fronts.urls) c;
  texts = λ n c. text_stays x.urls y.urls n (uniques_front x.urls y.urls is fronts.urls) c;
}

-- a store that was made has fronts alone
pub made_fronts : (settings : Settings) (x y : State) → IsCrawlStore settings x → IsFrontState x y → AreFronts x y
made_fronts settings x y is front = elim front [
  | inl none ↦ let no : Some settings ≡ None = sym is.settings_are ∙ none in absurd (cc)
  | inr fronts ↦ fronts
]

pub grows : (x y : State) → IsStore x → IsFrontState x y → Grows x y
grows x y store front = elim store [
  | inl blank ↦ subst (λ s. Grows s y) (sym blank) (grows_blank y)
  | inr made ↦ grows_fronts x y made.1.book (made_fronts made.0 x y made.1 front)
]

-- a front of a front
pub fronts_join : (x y z : State) → IsStore x → IsFrontState x y → IsFrontState y z → IsFrontState x z
fronts_join x y z store one two = elim store [
  | inl blank ↦ inl (ap (λ (s : State). s.settings) blank)
  | inr made ↦
      let first = made_fronts made.0 x y made.1 one in
      elim two [
        | inl none ↦ let no : Some made.0 ≡ None = sym made.1.settings_are ∙ sym first.settings ∙ none in absurd (cc)
        | inr second ↦ inr (record {
          settings = second.settings ∙ first.settings;
          urls = front_both x.urls y.urls z.urls first.urls second.urls;
          pairs = front_both x.pairs y.pairs z.pairs first.pairs second.pairs;
          events = prefix_both x.events y.events z.events first.events second.events;
        })
      ]
]

pub front_itself : (x : State) → IsFrontState x x
front_itself x = inr (record { settings = refl; urls = front_same x.urls; pairs = front_same x.pairs; events = prefix_same x.events })
