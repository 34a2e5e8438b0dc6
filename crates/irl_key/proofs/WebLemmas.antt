-- The texts of web URLs.
use Rattle.std.proofs.Common.{◌≡◌, ℕ, ◌+◌, ◌<◌, ◌≤◌, Bool, true, false, ◌&&◌, leb, All, get_or, List, [], ◌∷◌, ◌++◌, length, Some, None, refl, sym, ap, ◌∙◌, subst, inl, ⊎_elim, arith, lit<, lit≤, append_assoc, append-nil, length-append}
use Rattle.std.specs.Prelude.{Option, Result, Ok, Err, IfOk, IfSome, OnOk, ◌⊎◌, is_some, unwrap_or, option_map, decimal, codes}
use Rattle.std.specs.Str.{is_utf8, IsUtf8}
use Rattle.std.specs.Result.{result_ok}
use Rattle.std.specs.Int.{IsInRange}
use Rattle.std.proofs.lemmas.Bool.{cond-true, cond-false, cases_Bool}
use Rattle.std.proofs.lemmas.Bool.Decides.{nat_tests}
use Rattle.std.proofs.lemmas.Str.{IsUtf8-from_ascii, is_utf8-from_IsUtf8, IsUtf8-from_is_utf8}
use Rattle.std.proofs.lemmas.List.Elements.{All-from_recursion, All-nil, All-cons, All-append, All-weaker}
use Rattle.url.specs.declared.host.Host.{Host}
use Rattle.url.specs.declared.scheme.SchemeType.{SchemeType}
use Rattle.url.specs.declared.scheme.SchemeType.TheVariants.{SpecialNotFile}
use Rattle.url.specs.declared.sets.TheConstants.{PATH, SPECIAL_QUERY}
use Rattle.url.specs.declared.slicing.Position.TheVariants.{BeforeHost, AfterPort, BeforePath, AfterQuery}
use Rattle.url.specs.Percent.{IsKept}
use Rattle.url.specs.Input.{when}
use Rattle.url.specs.Scheme.{default_port, scheme_type, is_special, is_slash}
use Rattle.url.specs.Host.{host_text, IsHostOf}
use Rattle.url.specs.Path.{IsSegment, IsSegmentList, join_segments}
use Rattle.url.specs.Parts.{Parts, kind_of, host_or_empty, query_set, serialize, text_between, IsPortOf, IsHierarchicalPath, IsValid}
use Rattle.url.specs.Parser.{parse_url, with_tail, IsOutOfRoom}
use Rattle.url.specs.declared.error.ParseError.{ParseError}
use Rattle.url.proofs.OnLiterals.{url_on_literals}
use Rattle.url.proofs.LayoutLemmas.{IsValidHead_same}
use Rattle.url.proofs.SetterLemmas.{host_is_some, own_host}
use Rattle.url.proofs.SetLemmas.{passes_from_kept}
use Rattle.url.proofs.HostRoundTrip.{All-decimal, IsHostByte, host_text_plain}
use Rattle.url.proofs.RoundTrip.{host_nonempty}
use Rattle.url.proofs.ValidLemmas.{IsAscii-serialize, segment_list_kept, special_has_authority, base_from_authority, hierarchical, option_unchanged}
use Rattle.url.proofs.Theorems.{parse_url-serialize_special}
use Rattle.irl_base.specs.Limits.{max_text}
use Rattle.irl_key.specs.Web.{IsVisible, url_against, marked, host_part, target_part, host_of, target_of, robots_text, IsWeb, IsHost}
use Rattle.irl_key.specs.Links.{without_fragment}

pub kind-http : (url : Parts) → url.scheme ≡ codes "http" → kind_of url ≡ SpecialNotFile
unfolding scheme_type default_port
kind-http url http = ap scheme_type http

-- ---- the text

-- a web URL of these parts
abbrev web_url : Host (List ℕ) → Option ℕ → List ℕ → Option (List ℕ) → Parts
web_url host port path query = record {
  scheme = codes "http";
  username = [];
  password = [];
  host = Some host;
  port = port;
  path = path;
  query = query;
  fragment = None;
}

-- each web URL has this form
web_form : (url : Parts) → IsValid url → url.scheme ≡ codes "http" → url.username ≡ [] → url.password ≡ [] → url.fragment ≡ None → url ≡ web_url (host_or_empty url) url.port url.path url.query
web_form url valid http username password fragment =
    let host = host_is_some url (special_has_authority url valid.head (ap is_special (kind-http url http))) in
    λ i. record {
      scheme = http i;
      username = username i;
      password = password i;
      host = host i;
      port = url.port;
      path = url.path;
      query = url.query;
      fragment = fragment i;
    }

web_url_text : (host : Host (List ℕ)) (port : Option ℕ) (path : List ℕ) (query : Option (List ℕ))
    → serialize (web_url host port path query) ≡ codes "http://" ++ (host_part (web_url host port path query) ++ target_part (web_url host port path query))
web_url_text host None path None = simp (append_assoc, append-nil)
web_url_text host None path (Some q) = simp (append_assoc, append-nil)
web_url_text host (Some n) path None = simp (append_assoc, append-nil)
web_url_text host (Some n) path (Some q) = simp (append_assoc, append-nil)

-- the text is the scheme, the host and the target
pub web_text : (url : Parts) → IsValid url → url.scheme ≡ codes "http" → url.username ≡ [] → url.password ≡ [] → url.fragment ≡ None
    → serialize url ≡ codes "http://" ++ (host_part url ++ target_part url)
web_text url valid http username password fragment =
    let form = web_form url valid http username password fragment in
    let Written : Parts → Type 0 = λ u. serialize u ≡ codes "http://" ++ (host_part u ++ target_part u) in
    subst Written (sym form) (web_url_text (host_or_empty url) url.port url.path url.query)

port_pieces : (port : Option ℕ) → when (is_some port) (codes ":") ++ (unwrap_or (option_map decimal port) [] ++ []) ≡ marked (codes ":") (option_map decimal port)
port_pieces None = refl
port_pieces (Some n) = ap (λ t. 58 ∷ t) (append-nil (decimal n))

query_pieces : (query : Option (List ℕ)) → when (is_some query) (codes "?") ++ (unwrap_or query [] ++ []) ≡ marked (codes "?") query
query_pieces None = refl
query_pieces (Some q) = ap (λ t. 63 ∷ t) (append-nil q)

pub text_between-host : (url : Parts) → text_between url BeforeHost AfterPort ≡ host_part url
text_between-host url = ap (λ t. host_text (host_or_empty url) ++ t) (port_pieces url.port)

pub text_between-target : (url : Parts) → text_between url BeforePath AfterQuery ≡ target_part url
text_between-target url = ap (λ t. url.path ++ t) (query_pieces url.query)

-- a text that is not too long has room for its host
pub short_host : (url : Parts) → IsValid url → url.scheme ≡ codes "http" → url.username ≡ [] → url.password ≡ [] → url.fragment ≡ None → length (serialize url) ≤ max_text
    → length (host_part url) + 8 ≤ max_text
short_host url valid http username password fragment short =
    let kind = ap is_special (kind-http url http) in
    let authority = special_has_authority url valid.head kind in
    let path : 0 < length url.path = (hierarchical url valid.path (base_from_authority url authority)).1 kind in
    let whole = ap length (web_text url valid http username password fragment) in
    let parts = length-append (host_part url) (target_part url) in
    let target = length-append url.path (marked (codes "?") url.query) in
    omega arith

-- ---- the bytes

abbrev is_visible : ℕ → Bool
is_visible b = leb 33 b && leb b 126

visible_by_test : (b : ℕ) → is_visible b ≡ true → IsVisible b
visible_by_test b test = grind (arith, nat_tests)

visible_path : (xs : List ℕ) → All (IsKept PATH) xs → All IsVisible xs
visible_path = All-weaker (IsKept PATH) IsVisible (λ b kept. visible_by_test b (passes_from_kept PATH is_visible refl b kept))

visible_marked : (mark : ℕ) (part : Option (List ℕ)) → IsVisible mark → IfSome part (All IsVisible) → All IsVisible (marked (mark ∷ []) part)
visible_marked mark None here all = All-nil IsVisible
visible_marked mark (Some part) here all = All-cons IsVisible mark part here all

visible_port : (scheme : List ℕ) (port : Option ℕ) → IsPortOf scheme port → IfSome (option_map decimal port) (All IsVisible)
visible_port scheme None valid = tt
visible_port scheme (Some n) valid =
    All-weaker (IsInRange 48 57) IsVisible (λ b digit. (omega arith, omega arith)) (decimal n) (All-decimal n (omega (arith, valid.0)))

visible_query : (query : Option (List ℕ)) → IfSome query (All (IsKept SPECIAL_QUERY)) → IfSome query (All IsVisible)
visible_query None kept = tt
visible_query (Some q) kept =
    All-weaker (IsKept SPECIAL_QUERY) IsVisible (λ b k. visible_by_test b (passes_from_kept SPECIAL_QUERY is_visible refl b k)) q kept

-- the host of a web URL, as one of its kind
web_host : (url : Parts) → IsWeb url → IsHostOf SpecialNotFile (host_or_empty url)
web_host url web =
    let kind = kind-http url web.http in
    let authority = special_has_authority url web.valid.head (ap is_special kind) in
    subst (λ k. IsHostOf k (host_or_empty url)) kind (own_host url web.valid.head authority)

pub visible_host : (url : Parts) → IsWeb url → All IsVisible (host_part url)
visible_host url web =
    let text = host_text (host_or_empty url) in
    let plain = host_text_plain SpecialNotFile (host_or_empty url) (web_host url web) in
    All-append IsVisible text (marked (codes ":") (option_map decimal url.port))
    (All-weaker IsHostByte IsVisible (λ b h. (omega (arith, h.above), omega (arith, h.below))) text plain)
    (visible_marked 58 (option_map decimal url.port) (lit≤ tt, lit≤ tt) (visible_port url.scheme url.port web.valid.head.port))

pub nonempty_host : (url : Parts) → IsWeb url → 0 < length (host_part url)
nonempty_host url web =
    let more = host_nonempty (host_or_empty url) (web_host url web) in
    let parts = length-append (host_text (host_or_empty url)) (marked (codes ":") (option_map decimal url.port)) in
    omega arith

web_path : (url : Parts) → IsWeb url → IsHierarchicalPath (kind_of url) url.path
web_path url web =
    let authority = special_has_authority url web.valid.head (ap is_special (kind-http url web.http)) in
    hierarchical url web.valid.path (base_from_authority url authority)

rooted : (segments : List (List ℕ)) (path : List ℕ) → path ≡ join_segments segments → 0 < length path → (rest : List ℕ) × (path ≡ 47 ∷ rest)
rooted [] path joined more = absurd (let none = ap length joined in omega arith)
rooted (s ∷ segments) path joined more = (s ++ join_segments segments, joined)

pub rooted_target : (url : Parts) → IsWeb url → get_or (target_part url) 0 0 ≡ 47
rooted_target url web =
    let path = web_path url web in
    let r = rooted path.0.segments url.path path.0.joined (path.1 (ap is_special (kind-http url web.http))) in
    ap (λ p. get_or (p ++ marked (codes "?") url.query) 0 0) r.1

pub visible_target : (url : Parts) → IsWeb url → All IsVisible (target_part url)
visible_target url web =
    let path = web_path url web in
    let query = subst (λ k. IfSome url.query (All (IsKept (query_set k)))) (kind-http url web.http) web.valid.query in
    All-append IsVisible url.path (marked (codes "?") url.query)
    (visible_path url.path (segment_list_kept _ url.path path.0))
    (visible_marked 63 url.query (lit≤ tt, lit≤ tt) (visible_query url.query query))

visible_front : All IsVisible (codes "http://")
visible_front =
    let seen = λ (b : ℕ) (test : is_visible b ≡ true). visible_by_test b test in
    All-from_recursion IsVisible (codes "http://") (seen 104 refl, (seen 116 refl, (seen 116 refl, (seen 112 refl, (seen 58 refl, (seen 47 refl, (seen 47 refl, tt)))))))

pub visible_text : (url : Parts) → IsWeb url → All IsVisible (serialize url)
visible_text url web =
    let written = web_text url web.valid web.http web.username web.password web.fragment in
    let rest = All-append IsVisible (host_part url) (target_part url) (visible_host url web) (visible_target url web) in
    subst (All IsVisible) (sym written) (All-append IsVisible (codes "http://") (host_part url ++ target_part url) visible_front rest)

-- ---- reading

-- the text of a web URL reads as that URL, against any base
pub url_against-serialize : (url : Parts) (base : Option Parts) → IsWeb url → url_against base (serialize url) ≡ Some url
unfolding url_against
url_against-serialize url base web =
    cond-true _ _ _ (is_utf8-from_IsUtf8 _ (IsUtf8-from_ascii _ (IsAscii-serialize url web.valid)))
    ∙ ap result_ok (parse_url-serialize_special url base web.valid (kind-http url web.http))

pub host_of-serialize : (url : Parts) → IsWeb url → host_of (serialize url) ≡ host_part url
host_of-serialize url web = ap (λ o. unwrap_or (option_map host_part o) []) (url_against-serialize url None web)

pub target_of-serialize : (url : Parts) → IsWeb url → target_of (serialize url) ≡ target_part url
target_of-serialize url web = ap (λ o. unwrap_or (option_map target_part o) []) (url_against-serialize url None web)

-- what is no UTF-8 reads as nothing
pub url_against-other : (base : Option Parts) (text : List ℕ) → ¬ (IsUtf8 text) → url_against base text ≡ None
unfolding url_against
url_against-other base text other =
    ⊎_elim (λ same. absurd (other (IsUtf8-from_is_utf8 text same))) (λ no. cond-false _ _ _ no) (cases_Bool (is_utf8 text))

-- UTF-8 reads as what the parser gives
pub url_against-utf8 : (base : Option Parts) (text : List ℕ) → IsUtf8 text → url_against base text ≡ result_ok (parse_url base text)
unfolding url_against
url_against-utf8 base text utf8 = cond-true _ _ _ (is_utf8-from_IsUtf8 text utf8)

-- what the parser refuses reads as nothing
pub url_against-refused : {E : Type 0} (result : Result (Option Parts) E) (base : Option Parts) (text : List ℕ) (error : ParseError) → IfOk result (λ url. url ≡ None)
    → OnOk result (¬ (IsOutOfRoom error)) → (parse_url base text ≡ Err error) ⊎ IsOutOfRoom error → IsUtf8 text → IfOk result (λ url. url ≡ url_against base text)
url_against-refused (Ok url) base text error none room refused utf8 =
    ⊎_elim (λ parsed. none ∙ sym (url_against-utf8 base text utf8 ∙ ap result_ok parsed)) (λ out. absurd (room out)) refused
url_against-refused (Err e) base text error none room refused utf8 = tt

-- to set no fragment leaves the other parts
pub with_tail-none : (url : Parts) → IsValid url → with_tail url url.query None ≡ without_fragment url
with_tail-none url valid = λ i. record url { query = option_unchanged _ url.query valid.query i; fragment = None }

-- what passes the tests is a web URL
pub tested_web : (url web : Parts) → web ≡ without_fragment url → url.scheme ≡ codes "http" → url.username ≡ [] → url.password ≡ [] → IsValid web → length (serialize web) ≤ max_text → IsWeb web
tested_web url web is http username password valid short =
    let same_http : web.scheme ≡ codes "http" = ap (λ (u : Parts). u.scheme) is ∙ http in
    let same_username : web.username ≡ [] = ap (λ (u : Parts). u.username) is ∙ username in
    let same_password : web.password ≡ [] = ap (λ (u : Parts). u.password) is ∙ password in
    let none : web.fragment ≡ None = ap (λ (u : Parts). u.fragment) is in
    record {
      valid = valid;
      http = same_http;
      username = same_username;
      password = same_password;
      fragment = none;
      host = short_host web valid same_http same_username same_password none short;
    }

-- ---- the robots file of a host

abbrev robots_url : Parts → Parts
robots_url url = record url { path = codes "/robots.txt"; query = None }

robots_path : (kind : SchemeType) → IsSegmentList kind (codes "/robots.txt")
unfolding url_on_literals
robots_path kind =
    let name = codes "robots.txt" in
    let segment : IsSegment kind name = record {
      escaped = All-from_recursion (IsKept PATH) name (refl, (refl, (refl, (refl, (refl, (refl, (refl, (refl, (refl, (refl, tt))))))))));
      whole = All-from_recursion (λ b. is_slash kind b ≡ false) name (refl, (refl, (refl, (refl, (refl, (refl, (refl, (refl, (refl, (refl, tt))))))))));
      resolved = refl;
    } in
    record { segments = name ∷ []; joined = refl; each = All-from_recursion (IsSegment kind) (name ∷ []) (segment, tt) }

robots_is_web : (url : Parts) → IsWeb url → IsWeb (robots_url url)
robots_is_web url web = record {
  valid = record {
    head = IsValidHead_same url (robots_url url) refl web.valid.head;
    path = inl (robots_path (kind_of url), λ _. lit< tt);
    query = tt;
    fragment = web.valid.fragment;
  };
  http = web.http;
  username = web.username;
  password = web.password;
  fragment = web.fragment;
  host = web.host;
}

robots_written : (url : Parts) → IsWeb url → serialize (robots_url url) ≡ robots_text (host_part url)
robots_written url web =
    let robots = robots_is_web url web in
    web_text (robots_url url) robots.valid web.http web.username web.password web.fragment
    ∙ ap (λ t. codes "http://" ++ (host_part url ++ t)) (append-nil (codes "/robots.txt"))

-- the robots file of a host reads as a web URL of that host
pub record RobotsReads (host : List ℕ) : Type 0 where
  pub url : Parts
  pub web : IsWeb url
  pub reads : url_against None (robots_text host) ≡ Some url
  pub written : serialize url ≡ robots_text host
  pub host_is : host_part url ≡ host
  pub target_is : target_part url ≡ codes "/robots.txt"

pub robots_reads : (host : List ℕ) → IsHost host → RobotsReads host
robots_reads host h =
    let url = h.web.url in
    let web = h.web.web in
    let is : host ≡ host_part url = h.given ∙ ap host_of h.web.written ∙ host_of-serialize url web in
    let robots = robots_url url in
    let written : serialize robots ≡ robots_text host = robots_written url web ∙ ap robots_text (sym is) in
    record {
      url = robots;
      web = robots_is_web url web;
      reads = ap (url_against None) (sym written) ∙ url_against-serialize robots None (robots_is_web url web);
      written = written;
      host_is = sym is;
      target_is = append-nil (codes "/robots.txt");
    }

pub length-robots : (host : List ℕ) → RobotsReads host → length (robots_text host) ≤ max_text + 10
length-robots host r =
    let short : length host + 8 ≤ max_text = subst (λ t. length t + 8 ≤ max_text) r.host_is r.web.host in
    let parts = length-append host (codes "/robots.txt") in
    omega arith
