-- What one more offer adds to the pairs, and one more pair to the degrees.
use Rattle.std.proofs.Common.{◌≡◌, ◌∙◌, ℕ, ◌+◌, Bool, true, false, not, nat_eq, ◌&&◌, cond, List, [], ◌∷◌, ◌++◌, map, refl, ap, arith, Option, None, Some}
use Rattle.std.specs.Prelude.{bytes_eq, is_some}
use Rattle.std.specs.Ordering.{nat_cmp}
use Rattle.std.specs.Cmp.{nat_cmp_total, unsigned_tied}
use Rattle.std.specs.FinMap.{empty, get, insert, get-insert, get-empty}
use Rattle.std.specs.List.{AllByRecursion, filter, count_by, list_all}
use Rattle.std.proofs.lemmas.List.{map-append}
use Rattle.std.proofs.lemmas.List.Elements.{filter-append}
use Rattle.std.proofs.lemmas.List.Sums.{sum_by-append}
use Rattle.irl_offer.specs.declared.offer.Op.{Op}
use Rattle.irl_offer.specs.declared.offer.Op.TheVariants.{Both}
use Rattle.irl_offer.specs.declared.offer.Rule.{Rule}
use Rattle.irl_offer.specs.declared.offer.Verdict.{Verdict}
use Rattle.irl_offer.specs.Tuple.{Tuple}
use Rattle.irl_model.specs.Judging.{KeyMap, enters, entered, answer, combined, judgements}
use Rattle.irl_model.specs.Book.{Book, gone, judged_as, judged_offers, is_unique, uniques, uniques_from}
use Rattle.irl_events.specs.Links.{links_domains, pair_offer, pair_offers, firsts_by_key, linked, degree}
use Rattle.irl_model.proofs.JudgingLaws.{judged_on, judgements-judged_on}

-- no offer of the list has this key
abbrev pub is_new : List Tuple → ℕ → Bool
is_new earlier key = list_all (λ other. not (nat_eq key other.key)) earlier

-- a list of one, if a test passes
kept : (p : Tuple → Bool) (x : Tuple) (b t : Bool) → p x ≡ t → filter p (cond b (x ∷ []) []) ≡ cond (t && b) (x ∷ []) []
kept p x true true e = rw e refl
kept p x true false e = rw e refl
kept p x false true e = refl
kept p x false false e = refl

mapped : {X Y : Type 0} (f : X → Y) (x : X) (b : Bool) → map f (cond b (x ∷ []) []) ≡ cond b (f x ∷ []) []
mapped f x true = refl
mapped f x false = refl

-- the pairs of two lists of offers are those of the one and then of the other
pub pairs-append : (domain : List ℕ → List ℕ) (key : List ℕ → ℕ) (xs ys : List Tuple) → pair_offers domain key (xs ++ ys) ≡ pair_offers domain key xs ++ pair_offers domain key ys
pairs-append domain key xs ys =
    let links : Tuple → Bool = links_domains domain key in
    let pair : Tuple → Tuple = λ offer. pair_offer key offer.from (domain offer.aux) in
    ap (map pair) (filter-append links xs ys) ∙ map-append pair (filter links xs) (filter links ys)

-- the first of each key among one offer more
pub firsts-more : (xs : List Tuple) (x : Tuple) → firsts_by_key (xs ++ x ∷ []) ≡ firsts_by_key xs ++ cond (is_new xs x.key) (x ∷ []) []
firsts-more [] x = refl
firsts-more (y ∷ xs) x =
    let p : Tuple → Bool = λ other. not (nat_eq other.key y.key) in
    let new : List Tuple = cond (is_new xs x.key) (x ∷ []) [] in
    ap (λ (os : List Tuple). y ∷ filter p os) (firsts-more xs x)
    ∙ ap (λ (os : List Tuple). y ∷ os) (filter-append p (firsts_by_key xs) new)
    ∙ ap (λ (os : List Tuple). y ∷ (filter p (firsts_by_key xs) ++ os)) (kept p x (is_new xs x.key) (p x) refl)

-- the number of one more
counted : (p : List ℕ → Bool) (b : Bool) (target : List ℕ) → count_by p (cond b (target ∷ []) []) ≡ cond (b && p target) 1 0
counted p true target = omega arith
counted p false target = refl

-- the degree by one pair more
degree-more : (xs : List Tuple) (x : Tuple) (domain : List ℕ) → degree (xs ++ x ∷ []) domain ≡ degree xs domain + cond (is_new xs x.key && bytes_eq domain x.aux) 1 0
degree-more xs x domain =
    let p : List ℕ → Bool = bytes_eq domain in
    let aux : Tuple → List ℕ = λ pair. pair.aux in
    let new : Bool = is_new xs x.key in
    ap (λ (os : List Tuple). count_by p (map aux os)) (firsts-more xs x)
    ∙ ap (count_by p) (map-append aux (firsts_by_key xs) (cond new (x ∷ []) []))
    ∙ ap (λ (ts : List (List ℕ)). count_by p (linked xs ++ ts)) (mapped aux x new)
    ∙ sum_by-append (λ (t : List ℕ). cond (p t) 1 0) (linked xs) (cond new (x.aux ∷ []) [])
    ∙ ap (λ (n : ℕ). degree xs domain + n) (counted p new x.aux)

-- the same where the pair is new and leads to the domain, where its key was there, and where it leads elsewhere
pub degree-yes : (xs : List Tuple) (x : Tuple) (domain : List ℕ) → is_new xs x.key ≡ true → bytes_eq domain x.aux ≡ true → degree (xs ++ x ∷ []) domain ≡ degree xs domain + 1
degree-yes xs x domain new same =
    degree-more xs x domain ∙ ap (λ (b : Bool). degree xs domain + cond (b && bytes_eq domain x.aux) 1 0) new
    ∙ ap (λ (b : Bool). degree xs domain + cond b 1 0) same

pub degree-old : (xs : List Tuple) (x : Tuple) (domain : List ℕ) → is_new xs x.key ≡ false → degree (xs ++ x ∷ []) domain ≡ degree xs domain
degree-old xs x domain old =
    let more : degree (xs ++ x ∷ []) domain ≡ degree xs domain + 0 =
    degree-more xs x domain ∙ ap (λ (b : Bool). degree xs domain + cond (b && bytes_eq domain x.aux) 1 0) old in
    omega (arith, more)

pub degree-other : (xs : List Tuple) (x : Tuple) (domain : List ℕ) → is_new xs x.key ≡ true → bytes_eq domain x.aux ≡ false → degree (xs ++ x ∷ []) domain ≡ degree xs domain
degree-other xs x domain new other =
    let more : degree (xs ++ x ∷ []) domain ≡ degree xs domain + 0 =
    degree-more xs x domain ∙ ap (λ (b : Bool). degree xs domain + cond (b && bytes_eq domain x.aux) 1 0) new
    ∙ ap (λ (b : Bool). degree xs domain + cond b 1 0) other in
    omega (arith, more)

-- ---- the unique offers of a set that is asked offers which all check and enter
-- whether a set lacks an offer's key
abbrev lacks : KeyMap → Tuple → Bool
lacks seen offer = not (is_some (get seen offer.key))

abbrev unique_offers : List (Tuple × Option Verdict) → List Tuple
unique_offers [] = []
unique_offers (p ∷ js) = cond (is_unique p.1) (p.0 ∷ unique_offers js) (unique_offers js)

unique_where_new : (known : Option ℕ) → is_unique (answer Both known) ≡ not (is_some known)
unique_where_new None = refl
unique_where_new (Some value) = refl

-- a set that a key was entered into lacks what it lacked before, but for that key
entered_lacks : (rule : Rule) (seen : KeyMap) (x : Tuple) → x.op ≡ Both → (y : Tuple) → lacks (entered rule seen x) y ≡ (not (nat_eq y.key x.key) && lacks seen y)
entered_lacks rule seen x both y =
    let value : ℕ = combined rule (get seen x.key) x.value in
    let entered_is : entered rule seen x ≡ insert seen x.key value = ap (λ (op : Op). cond (enters op) (insert seen x.key value) seen) both in
    let found : get (entered rule seen x) y.key ≡ cond (nat_eq y.key x.key) (Some value) (get seen y.key) =
    ap (λ (s : KeyMap). get s y.key) entered_is ∙ get-insert nat_cmp_total seen x.key value y.key ∙ ap (λ (test : Bool). cond test (Some value) (get seen y.key)) (unsigned_tied y.key x.key) in
    ap (λ (o : Option ℕ). not (is_some o)) found ∙ by_test (nat_eq y.key x.key) value
  where
    by_test : (test : Bool) (value : ℕ) → not (is_some (cond test (Some value) (get seen y.key))) ≡ (not test && lacks seen y)
    by_test true value = refl
    by_test false value = refl

-- two filters after one another are one
filtered : (p q r : Tuple → Bool) → ((x : Tuple) → r x ≡ (q x && p x)) → (xs : List Tuple) → filter r xs ≡ filter p (filter q xs)
filtered p q r same [] = refl
filtered p q r same (x ∷ xs) = rw (same x) (by_test (q x) (p x) refl (filtered p q r same xs))
  where
    by_test : (a b : Bool) → p x ≡ b → filter r xs ≡ filter p (filter q xs) → cond (a && b) (x ∷ filter r xs) (filter r xs) ≡ filter p (cond a (x ∷ filter q xs) (filter q xs))
    by_test true true e rest = rw e (ap (λ (os : List Tuple). x ∷ os) rest)
    by_test true false e rest = rw e rest
    by_test false true e rest = rest
    by_test false false e rest = rest

-- the unique ones are the first of each key that the set lacks
uniques_on : (rule : Rule) (seen : KeyMap) (xs : List Tuple) → AllByRecursion (λ (x : Tuple). x.op ≡ Both) xs → unique_offers (judged_on rule seen xs) ≡ filter (lacks seen) (firsts_by_key xs)
uniques_on rule seen [] all = refl
uniques_on rule seen (x ∷ xs) all =
    let rest : unique_offers (judged_on rule (entered rule seen x) xs) ≡ filter (lacks seen) (filter (λ (o : Tuple). not (nat_eq o.key x.key)) (firsts_by_key xs)) =
    uniques_on rule (entered rule seen x) xs all.1
    ∙ filtered (lacks seen) (λ (o : Tuple). not (nat_eq o.key x.key)) (lacks (entered rule seen x)) (entered_lacks rule seen x all.0) (firsts_by_key xs) in
    let unique : is_unique (answer x.op (get seen x.key)) ≡ lacks seen x = ap (λ (op : Op). is_unique (answer op (get seen x.key))) all.0 ∙ unique_where_new (get seen x.key) in
    ap (λ (b : Bool). cond b (x ∷ unique_offers (judged_on rule (entered rule seen x) xs)) (unique_offers (judged_on rule (entered rule seen x) xs))) unique
    ∙ ap (λ (os : List Tuple). cond (lacks seen x) (x ∷ os) os) rest

offers_are : (buckets n : ℕ) (js : List (Tuple × Option Verdict)) → map (λ (p : ℕ × Tuple). p.1) (uniques_from n (map (judged_as buckets) js)) ≡ unique_offers js
offers_are buckets n [] = refl
offers_are buckets n (p ∷ js) = by_verdict (is_unique p.1) refl (offers_are buckets (n + 1) js)
  where
    by_verdict : (unique : Bool) → is_unique p.1 ≡ unique → map (λ (p : ℕ × Tuple). p.1) (uniques_from (n + 1) (map (judged_as buckets) js)) ≡ unique_offers js
        → map (λ (p : ℕ × Tuple). p.1) (uniques_from n (map (judged_as buckets) (p ∷ js))) ≡ unique_offers (p ∷ js)
    by_verdict true e rest = rw e (ap (λ (os : List Tuple). p.0 ∷ os) rest)
    by_verdict false e rest = rw e rest

all_lack : (xs : List Tuple) → filter (lacks empty) xs ≡ xs
all_lack [] = refl
all_lack (x ∷ xs) =
    ap (λ (o : Option ℕ). cond (not (is_some o)) (x ∷ filter (lacks empty) xs) (filter (lacks empty) xs)) (get-empty nat_cmp x.key)
    ∙ ap (λ (os : List Tuple). x ∷ os) (all_lack xs)

pub uniques-firsts : (book : Book) → book.base ≡ empty → AllByRecursion (λ offer. offer.op ≡ Both) (judged_offers book) → map (λ p. p.1) (uniques book) ≡ firsts_by_key (judged_offers book)
uniques-firsts book none all =
    let xs : List Tuple = judged_offers book in
    offers_are book.buckets (gone book) (judgements book.rule book.base xs) ∙ ap unique_offers (judgements-judged_on book.rule book.base xs)
    ∙ uniques_on book.rule book.base xs all ∙ ap (λ (s : KeyMap). filter (lacks s) (firsts_by_key xs)) none ∙ all_lack (firsts_by_key xs)
