-- The URLs of a site's pages: each is a canonical text, and no two are the same.
use Rattle.std.proofs.Common.{◌≡◌, ◌∙◌, ℕ, ◌%◌, ◌^◌, ◌<◌, ◌≤◌, Bool, true, false, ◌&&◌, ◌||◌, ◌==◌, leb, All, List, [], ◌∷◌, ◌++◌, length, drop, not, Option, Some, None, refl, sym, ap, subst, arith, inl, append_assoc, append-nil, length-append, lit<}
use Rattle.std.specs.Prelude.{codes, decimal, nat_lt, unwrap_or, option_map}
use Rattle.std.specs.Int.{IsInRange}
use Rattle.std.specs.List.{list_all}
use Rattle.std.specs.Char.{is_ascii_digit, to_ascii_lowercase}
use Rattle.std.proofs.lemmas.Bool.{cond-false}
use Rattle.std.proofs.lemmas.Bool.Decides.{nat_tests}
use Rattle.std.proofs.lemmas.Fmt.{decimal_injective, length-decimal-le}
use Rattle.std.proofs.lemmas.List.Elements.{All-nil, All-append, All-weaker, All-from_recursion}
use Rattle.url.specs.declared.host.Host.TheVariants.{Domain}
use Rattle.url.specs.declared.sets.TheConstants.{PATH, FORBIDDEN_DOMAIN, USERINFO}
use Rattle.url.specs.declared.scheme.SchemeType.{SchemeType}
use Rattle.url.specs.Percent.{IsKept}
use Rattle.url.specs.Input.{is_empty}
use Rattle.url.specs.Scheme.{is_slash}
use Rattle.url.specs.Ipv4.{ends_in_a_number, last_label_of, is_number, parse_number}
use Rattle.url.specs.Host.{IsDomain}
use Rattle.url.specs.Path.{IsSegment, IsSegmentList}
use Rattle.url.specs.Parts.{Parts, kind_of, serialize, IsValid}
use Rattle.url.proofs.OnLiterals.{url_on_literals}
use Rattle.url.proofs.InputLemmas.{IsNot, rsplit_once_at, map_fixed}
use Rattle.url.proofs.SetLemmas.{kept_from_passes}
use Rattle.url.proofs.HostRoundTrip.{All-decimal}
use Rattle.irl_base.specs.Limits.{max_text}
use Rattle.irl_key.specs.declared.canon.Canon.TheVariants.{Web}
use Rattle.irl_key.specs.Links.{canon_of}
use Rattle.irl_key.specs.Web.{IsVisible, IsWeb, IsWebText, url_against}
use Rattle.irl_key.proofs.WebLemmas.{url_against-serialize, visible_text}
use Rattle.irl_key.proofs.LinkLemmas.{canon_of-own}
use Rattle.irl_record.specs.Site.{page_url}

-- ---- the parts of a page's URL

abbrev host_name : ℕ → List ℕ
host_name k = codes "s" ++ decimal k ++ codes ".test"

abbrev page_name : ℕ → List ℕ
page_name i = codes "p" ++ decimal i

abbrev plain_parts : List ℕ → List ℕ → Parts
plain_parts host path = record {
  scheme = codes "http";
  username = [];
  password = [];
  host = Some (Domain host);
  port = None;
  path = path;
  query = None;
  fragment = None;
}

abbrev page_parts : ℕ → Parts
page_parts i = plain_parts (host_name (i % 16)) (codes "/" ++ page_name i)

-- ---- their bytes

-- a dot, a digit or a lower-case letter
abbrev is_plain : ℕ → Bool
is_plain b = b == 46 || (leb 48 b && leb b 57) || (leb 97 b && leb b 122)

abbrev IsPlain : ℕ → Type 0
IsPlain b = is_plain b ≡ true

plain_digits : (n : ℕ) → n < 2 ^ 32 → All IsPlain (decimal n)
plain_digits n small =
    All-weaker (IsInRange 48 57) IsPlain (λ b h. grind (arith, nat_tests)) (decimal n) (All-decimal n (omega arith))

plain_host : (k : ℕ) → k < 2 ^ 32 → All IsPlain (host_name k)
plain_host k small =
    All-append IsPlain (codes "s" ++ decimal k) (codes ".test")
    (All-append IsPlain (codes "s") (decimal k) (All-from_recursion IsPlain (codes "s") (refl, tt)) (plain_digits k small))
    (All-from_recursion IsPlain (codes ".test") (refl, (refl, (refl, (refl, (refl, tt))))))

plain_name : (i : ℕ) → i < 2 ^ 32 → All IsPlain (page_name i)
plain_name i small =
    All-append IsPlain (codes "p") (decimal i) (All-from_recursion IsPlain (codes "p") (refl, tt)) (plain_digits i small)

plain_low : (b : ℕ) → IsPlain b → b < 128
plain_low b h = grind (arith, nat_tests)

plain_lower : (b : ℕ) → IsPlain b → to_ascii_lowercase b ≡ b
plain_lower b h = grind (arith, nat_tests)

plain_slash : (kind : SchemeType) (b : ℕ) → IsPlain b → is_slash kind b ≡ false
plain_slash kind b h =
    let one : (b == 47) ≡ false = grind (arith, nat_tests) in
    let other : (b == 92) ≡ false = grind (arith, nat_tests) in
    rw (one, other) refl

-- ---- a URL of a web page

domain : (k : ℕ) → k < 2 ^ 32 → IsDomain (host_name k)
unfolding ends_in_a_number parse_number
domain k small =
    let plain = plain_host k small in
    let split = rsplit_once_at 46 (codes "s" ++ decimal k) (codes "test")
    (All-from_recursion (IsNot 46) (codes "test") (λ e. absurd (omega (arith, e)), (λ e. absurd (omega (arith, e)), (λ e. absurd (omega (arith, e)), (λ e. absurd (omega (arith, e)), tt))))) in
    record {
      allowed = All-weaker IsPlain (IsKept FORBIDDEN_DOMAIN) (λ b h. kept_from_passes is_plain FORBIDDEN_DOMAIN refl b (plain_low b h) h) (host_name k) plain;
      lower = map_fixed to_ascii_lowercase (host_name k) (All-weaker IsPlain (λ b. to_ascii_lowercase b ≡ b) plain_lower (host_name k) plain);
      named = ap (λ (parts : Option (List ℕ) × List ℕ). let last = last_label_of parts.0 parts.1 in (not (is_empty last) && list_all is_ascii_digit last) || is_number (parse_number last)) split;
    }

page_path : (kind : SchemeType) (i : ℕ) → i < 2 ^ 32 → IsSegmentList kind (codes "/" ++ page_name i)
unfolding url_on_literals
page_path kind i small =
    let plain = plain_name i small in
    let segment : IsSegment kind (page_name i) = record {
      escaped = All-weaker IsPlain (IsKept PATH) (λ b h. kept_from_passes is_plain PATH refl b (plain_low b h) h) (page_name i) plain;
      whole = All-weaker IsPlain (λ b. is_slash kind b ≡ false) (plain_slash kind) (page_name i) plain;
      resolved = refl;
    } in
    record {
      segments = page_name i ∷ [];
      joined = sym (append-nil (codes "/" ++ page_name i));
      each = All-from_recursion (IsSegment kind) (page_name i ∷ []) (segment, tt);
    }

host_below : (i : ℕ) → i % 16 < 2 ^ 32
host_below i = omega arith

valid : (i : ℕ) → i < 2 ^ 32 → IsValid (page_parts i)
unfolding url_on_literals
valid i small = record {
  head = record {
    scheme = record { nonempty = lit< tt; whole = refl; lower = refl };
    username = All-nil (IsKept USERINFO);
    password = All-nil (IsKept USERINFO);
    host = (domain (i % 16) (host_below i), omega arith);
    port = tt;
    bare = λ _. (refl, refl, refl);
  };
  path = inl (page_path (kind_of (page_parts i)) i small, λ _. omega arith);
  query = tt;
  fragment = tt;
}

short_digits : (n : ℕ) → n < 2 ^ 32 → length (decimal n) ≤ 10
short_digits n small = length-decimal-le 10 n (lit< tt) (omega arith) (omega arith)

web : (i : ℕ) → i < 2 ^ 32 → IsWeb (page_parts i)
web i small = record {
  valid = valid i small;
  http = refl;
  username = refl;
  password = refl;
  fragment = refl;
  host =
      let digits = short_digits (i % 16) (host_below i) in
      let name = length-append (codes "s") (decimal (i % 16)) in
      let host = length-append (codes "s" ++ decimal (i % 16)) (codes ".test") in
      let whole = ap length (append-nil (host_name (i % 16))) in
      omega arith;
}

plain_text : (host path : List ℕ) → serialize (plain_parts host path) ≡ codes "http://" ++ (host ++ path)
plain_text host path = simp append-nil

cut_text : (host name : List ℕ) → host ++ codes ".test/p" ++ name ≡ host ++ codes ".test" ++ (codes "/p" ++ name)
cut_text host name = append_assoc host (codes ".test/p") name ∙ sym (append_assoc host (codes ".test") (codes "/p" ++ name))

written : (i : ℕ) → page_url i ≡ serialize (page_parts i)
written i =
    ap (λ rest. codes "http://s" ++ rest) (cut_text (decimal (i % 16)) (decimal i))
    ∙ sym (plain_text (host_name (i % 16)) (codes "/" ++ page_name i))

is_web_text : (i : ℕ) → i < 2 ^ 32 → IsWebText (page_url i)
is_web_text i small = record { url = page_parts i; web = web i small; written = written i }

-- ---- its text

-- at most 41 bytes
pub short_url : (i : ℕ) → i < 2 ^ 32 → length (page_url i) ≤ 41
short_url i small =
    let host = short_digits (i % 16) (host_below i) in
    let name = short_digits i small in
    let one = length-append (codes "http://s") (decimal (i % 16)) in
    let two = length-append (codes "http://s" ++ decimal (i % 16)) (codes ".test/p") in
    let three = length-append (codes "http://s" ++ decimal (i % 16) ++ codes ".test/p") (decimal i) in
    omega arith

-- each byte is visible
pub visible_url : (i : ℕ) → i < 2 ^ 32 → All IsVisible (page_url i)
visible_url i small = subst (All IsVisible) (sym (written i)) (visible_text (page_parts i) (web i small))

-- it counts as itself
pub own_url : (i : ℕ) → i < 2 ^ 32 → canon_of None (page_url i) ≡ Web (page_url i)
own_url i small =
    let length_is = short_url i small in
    let short : nat_lt max_text (length (page_url i)) ≡ false = grind (arith, nat_tests) in
    canon_of-own None (page_url i) (is_web_text i small) ∙ cond-false _ _ _ short

reads : (i : ℕ) → i < 2 ^ 32 → url_against None (page_url i) ≡ Some (page_parts i)
reads i small = ap (url_against None) (written i) ∙ url_against-serialize (page_parts i) None (web i small)

-- no two pages have one
pub url_injective : (i j : ℕ) → i < 2 ^ 32 → j < 2 ^ 32 → page_url i ≡ page_url j → i ≡ j
url_injective i j small few same =
    let parts = sym (reads i small) ∙ ap (url_against None) same ∙ reads j few in
    let digits : decimal i ≡ decimal j = ap (λ (o : Option Parts). drop 2 (unwrap_or (option_map (λ (u : Parts). u.path) o) [])) parts in
    decimal_injective i j (omega arith) (omega arith) digits
