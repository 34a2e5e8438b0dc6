-- A text in which a host is seen is canonical, and that is its host.
use Rattle.std.proofs.Common.{◌≡◌, ℕ, ◌+◌, ◌≤◌, Bool, true, false, cond, ◌&&◌, ◌==◌, List, [], ◌∷◌, ◌++◌, take, drop, length, Some, None, refl, sym, ap, ◌∙◌, subst, inl, arith, lit<, append_assoc, append-nil, length-append, take-append-drop}
use Rattle.std.specs.Prelude.{Option, IfSome, option_copied, codes, bytes_eq, nat_le}
use Rattle.std.specs.Borrow.{Bor}
use Rattle.std.proofs.lemmas.Bool.{and_parts}
use Rattle.std.proofs.lemmas.Bool.Decides.{nat_tests}
use Rattle.std.proofs.lemmas.Slice.Eq.{bytes_eq-Decides}
use Rattle.std.proofs.lemmas.List.Elements.{All-nil, All-cons}
use Rattle.url.specs.Percent.{IsKept}
use Rattle.url.specs.declared.host.Host.TheVariants.{Domain}
use Rattle.url.specs.declared.scheme.SchemeType.TheVariants.{SpecialNotFile}
use Rattle.url.specs.declared.sets.TheConstants.{USERINFO}
use Rattle.url.specs.Input.{split_once}
use Rattle.url.specs.Scheme.{scheme_len, scheme_type, default_port}
use Rattle.url.specs.Path.{IsSegment, IsSegmentList, join_segments}
use Rattle.url.specs.Parts.{Parts, serialize, IsValid}
use Rattle.irl_base.specs.Limits.{max_text}
use Rattle.irl_key.specs.Links.{IsCanonicalText}
use Rattle.irl_key.specs.Web.{host_of, target_part, marked, IsWeb, IsWebText}
use Rattle.irl_key.proofs.WebLemmas.{web_text, short_host, host_of-serialize}
use Rattle.irl_host.specs.Sight.{is_plain_host, is_plain_behind, host_before, host_in_front, sight_of}
use Rattle.irl_host.proofs.Hosts.{plain_domain}
use Rattle.irl_host.proofs.Targets.{Pieces, pieces, first_segment}

-- ---- what is seen

cond_some : {A : Type 0} (test : Bool) (x : Option A) (y : A) → cond test x None ≡ Some y → (test ≡ true) × (x ≡ Some y)
cond_some true x y e = (refl, e)
cond_some false x y e = cc

-- at the first separator
split_step : (test : Bool) (s x : ℕ) (xs back front : List ℕ) (rest : Option (List ℕ)) → (test ≡ true → x ≡ s)
    → (rest ≡ Some back → xs ≡ front ++ s ∷ back) → (cond {A = List ℕ × Option (List ℕ)} test ([], Some xs) (x ∷ front, rest)).1 ≡ Some back
    → x ∷ xs ≡ (cond {A = List ℕ × Option (List ℕ)} test ([], Some xs) (x ∷ front, rest)).0 ++ s ∷ back
split_step true s x xs back front rest same later e = let here = same refl in let whole : Some xs ≡ Some back = e in cc
split_step false s x xs back front rest same later e = ap (λ l. x ∷ l) (later e)

split_back : (s : ℕ) (xs back : List ℕ) → (split_once s xs).1 ≡ Some back → xs ≡ (split_once s xs).0 ++ s ∷ back
unfolding split_once
split_back s [] back e = cc
split_back s (x ∷ xs) back e =
    split_step (x == s) s x xs back (split_once s xs).0 (split_once s xs).1 (λ same. grind (arith, nat_tests)) (split_back s xs back) e

before_some : (front : List ℕ) (back : Option (List ℕ)) (host : List ℕ) → host_before front back ≡ Some host
    → (target : List ℕ) × (back ≡ Some target) × (front ≡ host) × (is_plain_host host ≡ true) × (is_plain_behind 47 target ≡ true)
before_some front None host e = cc
before_some front (Some target) host e =
    let (test, found) = cond_some (is_plain_host front && is_plain_behind 47 target) (Some front) host e in
    let same : front ≡ host = cc in
    (target, refl, same, subst (λ h. is_plain_host h ≡ true) same (and_parts _ _ test).0, (and_parts _ _ test).1)

-- a text in which this host is seen
record IsPlain (text host : List ℕ) : Type 0 where
  target : List ℕ
  short : length text ≤ max_text
  written : text ≡ codes "http://" ++ (host ++ 47 ∷ target)
  named : is_plain_host host ≡ true
  plain : is_plain_behind 47 target ≡ true

seen : (text host : List ℕ) → sight_of text ≡ Some host → IsPlain text host
unfolding sight_of
seen text host e =
    let rest = drop 7 text in
    let (test, found) = cond_some (nat_le (length text) max_text && bytes_eq (take 7 text) (codes "http://")) (host_in_front rest) host e in
    let parts = before_some (split_once 47 rest).0 (split_once 47 rest).1 host found in
    let (short, begins) = and_parts (nat_le (length text) max_text) (bytes_eq (take 7 text) (codes "http://")) test in
    let front : take 7 text ≡ codes "http://" = (bytes_eq-Decides (take 7 text) (codes "http://")).0 begins in
    let fits : length text ≤ max_text = grind (arith, nat_tests) in
    let behind : rest ≡ host ++ 47 ∷ parts.0 = split_back 47 rest parts.0 parts.1 ∙ ap (λ h. h ++ 47 ∷ parts.0) parts.2 in
    record {
      target = parts.0;
      short = fits;
      written = sym (take-append-drop 7 text) ∙ ap (λ t. t ++ rest) front ∙ ap (λ t. codes "http://" ++ t) behind;
      named = parts.3;
      plain = parts.4;
    }

-- ---- the URL of the text

module _ (host target : List ℕ) (named : is_plain_host host ≡ true) (p : Pieces 47 target) where
  abbrev url : Parts
  url = record {
    scheme = codes "http";
    username = [];
    password = [];
    host = Some (Domain host);
    port = None;
    path = join_segments (p.rest ∷ p.segments);
    query = p.query;
    fragment = None;
  }

  list : IsSegmentList SpecialNotFile (join_segments (p.rest ∷ p.segments))
  list = record {
    segments = p.rest ∷ p.segments;
    joined = refl;
    each = All-cons (IsSegment SpecialNotFile) p.rest p.segments (first_segment target p) p.each;
  }

  valid : IsValid url
  unfolding scheme_len scheme_type default_port
  valid = record {
    head = record {
      scheme = record { nonempty = lit< tt; whole = refl; lower = refl };
      username = All-nil (IsKept USERINFO);
      password = All-nil (IsKept USERINFO);
      host = plain_domain host named;
      port = tt;
      bare = λ _. (refl, refl, refl);
    };
    path = inl (list, λ _. omega arith);
    query = p.kept;
    fragment = tt;
  }

  target_is : target_part url ≡ 47 ∷ target
  target_is = ap (λ l. 47 ∷ l) (append_assoc p.rest (join_segments p.segments) (marked (codes "?") p.query) ∙ sym p.joined)

  text_is : serialize url ≡ codes "http://" ++ (host ++ 47 ∷ target)
  text_is =
      web_text url valid refl refl refl refl
      ∙ ap (λ h. codes "http://" ++ (h ++ target_part url)) (append-nil host)
      ∙ ap (λ t. codes "http://" ++ (host ++ t)) target_is

  is_web : length (codes "http://" ++ (host ++ 47 ∷ target)) ≤ max_text → IsWeb url
  is_web short = record {
    valid = valid;
    http = refl;
    username = refl;
    password = refl;
    fragment = refl;
    host = short_host url valid refl refl refl refl (subst (λ t. length t ≤ max_text) (sym text_is) short);
  }

  host_is : length (codes "http://" ++ (host ++ 47 ∷ target)) ≤ max_text → host_of (codes "http://" ++ (host ++ 47 ∷ target)) ≡ host
  host_is short = ap host_of (sym text_is) ∙ host_of-serialize url (is_web short) ∙ append-nil host

-- ---- the text

-- a text in which a host is seen is canonical, and the host is its own
plain_text : (text host : List ℕ) → IsPlain text host → IsCanonicalText text × (host ≡ host_of text)
plain_text text host plain =
    let target = plain.target in
    let named = plain.named in
    let p = pieces 47 target plain.plain in
    let short : length (codes "http://" ++ (host ++ 47 ∷ target)) ≤ max_text = subst (λ t. length t ≤ max_text) plain.written plain.short in
    let web : IsWebText text = record {
      url = url host target named p;
      web = is_web host target named p short;
      written = plain.written ∙ sym (text_is host target named p);
    } in
    (record { web_text = web; short = plain.short }, sym (ap host_of plain.written ∙ host_is host target named p short))

-- `http://` and `/` stand beside it
room : (text host : List ℕ) → IsPlain text host → length host + 8 ≤ max_text
room text host plain =
    let whole = ap length plain.written in
    let fits = plain.short in
    let behind = length-append (codes "http://") (host ++ 47 ∷ plain.target) in
    let parts = length-append host (47 ∷ plain.target) in
    omega arith

-- ---- the same of an answer

pub canonical_at_sight : (answer : Option (Bor (List ℕ))) (text : List ℕ) → option_copied answer ≡ sight_of text
    → IfSome answer (λ _. IsCanonicalText text)
canonical_at_sight None text is = tt
canonical_at_sight (Some h) text is = (plain_text text h.now (seen text h.now (sym is))).0

pub value_at_sight : (answer : Option (Bor (List ℕ))) (text : List ℕ) → option_copied answer ≡ sight_of text
    → IfSome answer (λ host. host.now ≡ host_of text)
value_at_sight None text is = tt
value_at_sight (Some h) text is = (plain_text text h.now (seen text h.now (sym is))).1

pub short_at_sight : (answer : Option (Bor (List ℕ))) (text : List ℕ) → option_copied answer ≡ sight_of text
    → IfSome answer (λ host. length host.now + 8 ≤ max_text)
short_at_sight None text is = tt
short_at_sight (Some h) text is = room text h.now (seen text h.now (sym is))
