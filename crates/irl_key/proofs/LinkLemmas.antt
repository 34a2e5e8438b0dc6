-- What links count as.
use Rattle.std.proofs.Common.{◌≡◌, ℕ, ◌≤◌, ◌↔◌, Bool, true, false, cond, not, List, [], ◌∷◌, length, Some, None, refl, sym, ap, ◌∙◌, subst, inl, inr, ⊎_elim, arith, nat_lt}
use Rattle.std.specs.Prelude.{Option, Result, Ok, Err, IfOk, codes, bytes_eq, is_some, option_copied, option_and_then}
use Rattle.std.specs.Borrow.{Bor}
use Rattle.url.proofs.InputLemmas.{is_empty_nonempty}
use Rattle.std.proofs.lemmas.Bool.{cond-true, cond-false, false≢true, cases_Bool}
use Rattle.std.proofs.lemmas.Bool.Decides.{nat_tests}
use Rattle.std.proofs.lemmas.Slice.Eq.{bytes_eq-Decides}
use Rattle.url.specs.Input.{is_empty}
use Rattle.url.specs.Parts.{Parts, has_credentials, serialize}
use Rattle.irl_key.specs.declared.canon.Canon.{Canon}
use Rattle.irl_key.specs.declared.canon.Canon.TheVariants.{Web, NotHttp, Bad, TooLong}
use Rattle.irl_base.specs.Limits.{max_text}
use Rattle.irl_key.specs.Web.{url_against, url_of, IsWeb, IsWebText}
use Rattle.irl_key.specs.Links.{link_of, canonical_text, canon_of_link, canon_of, own_canon, IsPlainHttp, IsCause, IsCanonicalText}
use Rattle.irl_key.proofs.WebLemmas.{url_against-serialize}

-- the cause, by what the three tests say of the URL
cause_by : (url : Parts) (http named long : Bool) → bytes_eq url.scheme (codes "http") ≡ http → has_credentials url ≡ named → nat_lt max_text (length (canonical_text url)) ≡ long
    → IsCause (Some url) (cond (not http) NotHttp (cond named Bad (cond long TooLong (Web (canonical_text url)))))
cause_by url false named long e n l = (url, refl, λ same. false≢true (sym e ∙ (bytes_eq-Decides _ _).1 same))
cause_by url true true long e n l = inr (url, refl, (bytes_eq-Decides _ _).0 e, n)
cause_by url true false true e n l = (url, refl, ((bytes_eq-Decides _ _).0 e, n), grind (arith, nat_tests))
cause_by url true false false e n l = (url, refl, ((bytes_eq-Decides _ _).0 e, n), refl, grind (arith, nat_tests))

-- a link has the cause of what it counts as
has_cause : (link : Option Parts) → IsCause link (canon_of_link link)
has_cause None = inl refl
has_cause (Some url) = cause_by url _ _ _ refl refl refl

-- and no other
one_cause : (link : Option Parts) (answer : Canon) → IsCause link answer → canon_of_link link ≡ answer
one_cause None (Web web) h = let e = h.1 in cc
one_cause None NotHttp h = let e = h.1 in cc
one_cause None Bad h = refl
one_cause None TooLong h = let e = h.1 in cc
one_cause (Some url) (Web web) h =
    let e : h.0 ≡ url = let r = h.1 in cc in
    let anonymous : IsPlainHttp url = subst IsPlainHttp e h.2 in
    let text : canonical_text url ≡ web = ap canonical_text (sym e) ∙ sym h.3 in
    let short : nat_lt max_text (length (canonical_text url)) ≡ false = rw text (let s = h.4 in grind (arith, nat_tests)) in
    cond-false _ _ _ (ap not ((bytes_eq-Decides _ _).1 anonymous.0)) ∙ cond-false _ _ _ anonymous.1 ∙ cond-false _ _ _ short ∙ ap Web text
one_cause (Some url) NotHttp h =
    let e : h.0 ≡ url = let r = h.1 in cc in
    let other : bytes_eq url.scheme (codes "http") ≡ false =
    ⊎_elim (λ same. absurd (h.2 (ap (λ (u : Parts). u.scheme) e ∙ (bytes_eq-Decides _ _).0 same))) (λ no. no) (cases_Bool _) in
    cond-true _ _ _ (ap not other)
one_cause (Some url) Bad (inl none) = cc
one_cause (Some url) Bad (inr h) =
    let e : h.0 ≡ url = let r = h.1 in cc in
    cond-false _ _ _ (ap not ((bytes_eq-Decides _ _).1 (ap (λ (u : Parts). u.scheme) (sym e) ∙ h.2))) ∙ cond-true _ _ _ (ap has_credentials (sym e) ∙ h.3)
one_cause (Some url) TooLong h =
    let e : h.0 ≡ url = let r = h.1 in cc in
    let anonymous : IsPlainHttp url = subst IsPlainHttp e h.2 in
    let long : nat_lt max_text (length (canonical_text url)) ≡ true = rw (sym e) (let s = h.3 in grind (arith, nat_tests)) in
    cond-false _ _ _ (ap not ((bytes_eq-Decides _ _).1 anonymous.0)) ∙ cond-false _ _ _ anonymous.1 ∙ cond-true _ _ _ long

-- each answer comes exactly where its cause holds
pub exact_cause : (link : Option Parts) (canon : Canon) → canon ≡ canon_of_link link → (answer : Canon) → (canon ≡ answer) ↔ IsCause link answer
exact_cause link canon is answer =
    (λ same. subst (IsCause link) (sym is ∙ same) (has_cause link), λ cause. is ∙ one_cause link answer cause)

-- against any base the text of a web page counts as itself, or is too long
counts_as_own : (base : Option (List ℕ)) (text : List ℕ) → IsWebText text → canon_of_link (link_of base text) ≡ own_canon text
counts_as_own base text own =
    let url = own.url in
    let web = own.web in
    let named : has_credentials url ≡ false = rw (web.username, web.password) refl in
    let cut : text ≡ canonical_text url = own.written ∙ (λ i. serialize (record url { fragment = web.fragment i })) in
    let reads : link_of base text ≡ Some url = ap (url_against (option_and_then url_of base)) own.written ∙ url_against-serialize url _ web in
    ap canon_of_link reads ∙ cond-false _ _ _ (ap not ((bytes_eq-Decides _ _).1 web.http)) ∙ cond-false _ _ _ named ∙ ap own_canon (sym cut)

pub canon_of-own : (base : Option (List ℕ)) (text : List ℕ) → IsWebText text → canon_of base text ≡ own_canon text
unfolding canon_of
canon_of-own base text own = counts_as_own base text own

-- a canonical text counts as itself
counts_as_itself : (base : Option (List ℕ)) (text : List ℕ) → IsCanonicalText text → canon_of_link (link_of base text) ≡ Web text
counts_as_itself base text own =
    let short : nat_lt max_text (length text) ≡ false = let fits = own.short in grind (arith, nat_tests) in
    counts_as_own base text own.web_text ∙ cond-false _ _ _ short

-- what is sorted as a web page of its text has a canonical text
pub canonical_from_same : (url : Parts) (text : List ℕ) → IsWeb url → length (serialize url) ≤ max_text → Web (serialize url) ≡ Web text → IsCanonicalText text
canonical_from_same url text web short same =
    let is : serialize url ≡ text = cc in
    record { web_text = record { url = url; web = web; written = sym is }; short = subst (λ t. length t ≤ max_text) is short }

-- ---- the same of a result

pub value_of_result : {E : Type 0} (result : Result Canon E) (base : Option (List ℕ)) (text : List ℕ) (link : Option Parts) → link ≡ link_of base text
    → IfOk result (λ canon. canon ≡ canon_of_link link) → IfOk result (λ canon. canon ≡ canon_of base text)
unfolding canon_of
value_of_result (Ok canon) base text link is counted = counted ∙ ap canon_of_link is
value_of_result (Err e) base text link is counted = tt

pub cause_of_result : {E : Type 0} (result : Result Canon E) (base : Option (List ℕ)) (text : List ℕ) (link : Option Parts) → link ≡ link_of base text
    → IfOk result (λ canon. canon ≡ canon_of_link link) → IfOk result (λ canon. (answer : Canon) → (canon ≡ answer) ↔ IsCause (link_of base text) answer)
cause_of_result (Ok canon) base text link is counted = exact_cause (link_of base text) canon (counted ∙ ap canon_of_link is)
cause_of_result (Err e) base text link is counted = tt

pub own_of_result : {E : Type 0} (result : Result Canon E) (base : Option (List ℕ)) (text : List ℕ) (link : Option Parts) → link ≡ link_of base text → IfOk result (λ canon. canon ≡ canon_of_link link)
    → IsWebText text → IfOk result (λ canon. canon ≡ own_canon text)
own_of_result (Ok canon) base text link is counted own = counted ∙ ap canon_of_link is ∙ counts_as_own base text own
own_of_result (Err e) base text link is counted own = tt

pub again_of_result : {E : Type 0} (result : Result Canon E) (base : Option (List ℕ)) (text : List ℕ) (link : Option Parts) → link ≡ link_of base text
    → IfOk result (λ canon. canon ≡ canon_of_link link) → IfOk result (λ canon. (web : List ℕ) → canon ≡ Web web → IsCanonicalText web)
    → IfOk result (λ canon. (canon ≡ Web text) ↔ IsCanonicalText text)
again_of_result (Ok canon) base text link is counted found = (found text, λ own. counted ∙ ap canon_of_link is ∙ counts_as_itself base text own)
again_of_result (Err e) base text link is counted found = tt

-- ---- what the tests say

pub same_from_ne : (a b : List ℕ) → false ≡ not (bytes_eq a b) → a ≡ b
same_from_ne a b test =
    ⊎_elim (λ same. (bytes_eq-Decides a b).0 same) (λ other. absurd (false≢true (test ∙ ap not other))) (cases_Bool (bytes_eq a b))

pub empty_from_is_empty : (xs : List ℕ) → true ≡ is_empty xs → xs ≡ []
empty_from_is_empty [] test = refl
empty_from_is_empty (x ∷ xs) test = absurd (false≢true (sym (is_empty_nonempty (x ∷ xs) (omega arith)) ∙ sym test))

pub empty_from_none : (o : Option (Bor (List ℕ))) (xs : List ℕ) → false ≡ is_some o → option_copied o ≡ cond (is_empty xs) None (Some xs) → xs ≡ []
empty_from_none None xs none is =
    ⊎_elim
    (λ empty. empty_from_is_empty xs (sym empty))
    (λ some. let none_is : None ≡ Some xs = is ∙ cond-false _ _ _ some in cc)
    (cases_Bool (is_empty xs))
empty_from_none (Some x) xs none is = absurd (false≢true none)
