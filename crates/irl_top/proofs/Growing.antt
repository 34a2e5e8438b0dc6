-- Books and states of a run: what a list of one has got, and what entering a store makes of one.
use Rattle.std.proofs.Common.{◌≡◌, ◌∙◌, inl, inr, ℕ, zero, suc, List, [], ◌∷◌, ◌++◌, replicate, sum, get_or, nat_eq, Option, None, Some, refl, sym, ap, subst, append_assoc, append-nil, arith}
use Rattle.std.proofs.lemmas.List.{append_cancel_left}
use Rattle.std.proofs.lemmas.List.Elements.{filter-append}
use Rattle.std.specs.Prelude.{unwrap_or}
use Rattle.irl_offer.specs.Buckets.{bucket_of}
use Rattle.irl_offer.specs.Settings.{settings_of}
use Rattle.irl_offer.specs.Tuple.{Tuple}
use Rattle.irl_offer.specs.declared.offer.Rule.{Rule}
use Rattle.irl_offer.specs.declared.offer.Rule.TheVariants.{Keep}
use Rattle.irl_offer.specs.declared.settings.Asked.{Asked}
use Rattle.irl_offer.specs.declared.settings.Settings.{Settings}
use Rattle.irl_model.specs.Book.{Book, ArePrefixes, IsFront, IsPrefixOf, blank_book, part}
use Rattle.irl_events.specs.Events.{Happened}
use Rattle.irl_events.specs.State.{State, blank_state}
use Rattle.irl_disk.specs.Disk.{Files}
use Rattle.irl_yard.specs.Standing.{HasState}
use Rattle.irl_yard.specs.Opening.{entered_state}
use Rattle.irl_yard.proofs.Grounds.{entered_made}
use Rattle.irl_schedule.specs.Feeding.{list_at}
use Rattle.irl_top.specs.Printed.{judged_count}
use Rattle.irl_top.specs.Run.{settings_in}

-- ---- prefixes
-- what lies behind a prefix, and is a prefix of what does
pub prefix_cancel : (xs ys zs : List Tuple) → IsPrefixOf xs ys → IsPrefixOf ys (xs ++ zs) → (news : List Tuple) × (ys ≡ xs ++ news) × IsPrefixOf news zs
prefix_cancel xs ys zs first second =
    (first.0, first.1, (second.0, append_cancel_left xs zs (first.0 ++ second.0) (second.1 ∙ ap (λ (l : List Tuple). l ++ second.0) first.1 ∙ append_assoc xs first.0 second.0)))

pub part_prefix : (buckets b : ℕ) (xs ys : List Tuple) → IsPrefixOf xs ys → IsPrefixOf (part buckets b xs) (part buckets b ys)
part_prefix buckets b xs ys prefix =
    (part buckets b prefix.0, ap (λ (l : List Tuple). part buckets b l) prefix.1 ∙ filter-append (λ (offer : Tuple). nat_eq (bucket_of buckets offer.key) b) xs prefix.0)

prefix_trans : (xs ys zs : List Tuple) → IsPrefixOf xs ys → IsPrefixOf ys zs → IsPrefixOf xs zs
prefix_trans xs ys zs first second = (first.0 ++ second.0, second.1 ∙ ap (λ (l : List Tuple). l ++ second.0) first.1 ∙ append_assoc xs first.0 second.0)

list_prefix : (xss yss : List (List Tuple)) (b : ℕ) → ArePrefixes xss yss → IsPrefixOf (get_or xss b []) (get_or yss b [])
list_prefix [] [] b front = ([], refl)
list_prefix [] (ys ∷ yss) b front = absurd front
list_prefix (xs ∷ xss) [] b front = absurd front
list_prefix (xs ∷ xss) (ys ∷ yss) zero front = front.0
list_prefix (xs ∷ xss) (ys ∷ yss) (suc b) front = list_prefix xss yss b front.1

pub front_list : (x y : Book) (b : ℕ) → IsFront x y → IsPrefixOf (list_at x b) (list_at y b)
front_list x y b front = list_prefix x.lists y.lists b front.lists

-- what a list has got is a prefix of what was handed in, and so of more
pub adds_some : (buckets b : ℕ) (x y : Book) (xs ys : List Tuple) → IsFront x y → IsPrefixOf (list_at y b) ((list_at x b ++ []) ++ part buckets b xs) → IsPrefixOf xs ys
    → (news : List Tuple) × (list_at y b ≡ list_at x b ++ news) × IsPrefixOf news (part buckets b ys)
adds_some buckets b x y xs ys front takes prefix =
    let old = list_at x b in
    let takes_plain : IsPrefixOf (list_at y b) (old ++ part buckets b xs) = subst (λ (l : List Tuple). IsPrefixOf (list_at y b) (l ++ part buckets b xs)) (append-nil old) takes in
    let some = prefix_cancel old (list_at y b) (part buckets b xs) (front_list x y b front) takes_plain in
    (some.0, some.1, prefix_trans some.0 (part buckets b xs) (part buckets b ys) some.2 (part_prefix buckets b xs ys prefix))

-- ---- what entering makes of a state
settings_made : (asked : Asked) (o : Option Settings) (urls pairs : Book) (events : List Happened) (s : Settings)
    → (entered_state asked (record { settings = o; urls = urls; pairs = pairs; events = events })).settings ≡ Some s → s ≡ unwrap_or o (settings_of asked)
settings_made asked None urls pairs events s is = cc
settings_made asked (Some kept) urls pairs events s is = cc

pub settings_entered : (asked : Asked) (x : State) (s : Settings) → (entered_state asked x).settings ≡ Some s → s ≡ settings_in asked x
settings_entered asked x s is = settings_made asked x.settings x.urls x.pairs x.events s is

abbrev list_in : List (List Tuple) → ℕ → List Tuple
list_in lists b = get_or lists b []

none_listed : (n b : ℕ) → list_in (replicate n []) b ≡ []
none_listed zero b = refl
none_listed (suc n) zero = refl
none_listed (suc n) (suc b) = none_listed n b

zeros : (n : ℕ) → sum (replicate n 0) ≡ 0
zeros zero = refl
zeros (suc n) = zeros n

-- it has no offer and no judged one that the state hadn't
pub record Starts (x y : State) : Type 0 where
  pub lists : (b : ℕ) → list_at y.urls b ≡ list_at x.urls b
  pub count : judged_count y.urls ≡ judged_count x.urls

blank_lists : (n m b : ℕ) (r q : Rule) → list_at (blank_book n r) b ≡ list_at (blank_book m q) b
blank_lists n m b r q = none_listed n b ∙ sym (none_listed m b)

blank_count : (n : ℕ) (r : Rule) → judged_count (blank_book n r) ≡ 0
blank_count n r = omega (arith, zeros n)

pub starts : (asked : Asked) (x : State) (files : Files) → HasState x files → Starts x (entered_state asked x)
starts asked x files (inl blank) =
    let settings = settings_of asked in
    let fresh : Starts blank_state (entered_state asked blank_state) = record {
      lists = λ b. blank_lists settings.buckets 1 b settings.rule Keep;
      count = blank_count settings.buckets settings.rule ∙ sym (blank_count 1 Keep);
    } in
    subst (λ (s : State). Starts s (entered_state asked s)) (sym blank.1) fresh
starts asked x files (inr (settings, made)) = subst (λ (s : State). Starts x s) (sym (entered_made asked settings x made.settings_are)) (record { lists = λ b. refl; count = refl })
