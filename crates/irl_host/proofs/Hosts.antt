-- A plain host is a domain that the URL Standard leaves as it is.
use Rattle.std.proofs.Common.{◌≡◌, ℕ, ◌<◌, true, false, not, ◌&&◌, ◌||◌, ◌==◌, List, [], ◌∷◌, length, get_or, Some, None, refl, arith}
use Rattle.std.specs.Prelude.{Option}
use Rattle.std.specs.List.{list_all}
use Rattle.std.specs.Char.{is_ascii_digit, is_ascii_lowercase, is_digit, to_ascii_lowercase}
use Rattle.std.proofs.lemmas.Bool.{and_parts, false≢true}
use Rattle.std.proofs.lemmas.Bool.Decides.{nat_tests}
use Rattle.std.proofs.lemmas.List.Elements.{All-weaker}
use Rattle.url.specs.Percent.{IsKept}
use Rattle.url.specs.declared.sets.TheConstants.{FORBIDDEN_DOMAIN}
use Rattle.url.specs.Input.{is_empty, rsplit_once}
use Rattle.url.specs.Ipv4.{is_number, parse_number, last_label_of, ends_in_a_number}
use Rattle.url.specs.Host.{IsDomain}
use Rattle.url.proofs.InputLemmas.{Passes, All_from_list_all, is_empty_nonempty, map_fixed}
use Rattle.url.proofs.SetLemmas.{kept_from_passes}
use Rattle.irl_host.specs.Sight.{is_host_byte, is_named, is_plain_host}

-- a letter begins the label
abbrev IsNamed : List ℕ → Type 0
IsNamed label = is_ascii_lowercase (get_or label 0 0) ≡ true

-- it is no number
no_number : (label : List ℕ) → IsNamed label → ((not (is_empty label) && list_all is_ascii_digit label) || is_number (parse_number label)) ≡ false
unfolding parse_number
no_number [] named = absurd (false≢true named)
no_number (b ∷ bytes) named =
    let some : is_empty (b ∷ bytes) ≡ false = is_empty_nonempty (b ∷ bytes) (omega arith) in
    let zero : (b == 48) ≡ false = grind (arith, nat_tests) in
    let digit : is_ascii_digit b ≡ false = grind (arith, nat_tests) in
    let decimal : is_digit b 10 ≡ false = grind (arith, nat_tests) in
    rw (some, zero, digit, decimal)

-- no dot follows it
named_last : (front : Option (List ℕ)) (last : List ℕ) → IsNamed last → last_label_of front last ≡ last
named_last None last named = refl
named_last (Some front) [] named = absurd (false≢true named)
named_last (Some front) (b ∷ bytes) named = rw (is_empty_nonempty (b ∷ bytes) (omega arith))

ends_in_a_name : (host : List ℕ) → is_named host ≡ true → ends_in_a_number host ≡ false
unfolding ends_in_a_number
ends_in_a_name host named =
    let last = rsplit_once 46 host in
    rw (named_last last.0 last.1 named) (no_number last.1 named)

some_byte : (host : List ℕ) → is_named host ≡ true → 0 < length host
unfolding rsplit_once
some_byte [] named = absurd (false≢true named)
some_byte (b ∷ bytes) named = omega arith

kept_in_domain : (b : ℕ) → Passes is_host_byte b → IsKept FORBIDDEN_DOMAIN b
kept_in_domain b plain = kept_from_passes is_host_byte FORBIDDEN_DOMAIN refl b (grind (arith, nat_tests)) plain

is_lower : (b : ℕ) → Passes is_host_byte b → to_ascii_lowercase b ≡ b
is_lower b plain = grind (arith, nat_tests)

-- a plain host is a domain, and not empty
pub plain_domain : (host : List ℕ) → is_plain_host host ≡ true → IsDomain host × (0 < length host)
plain_domain host plain =
    let named = (and_parts _ _ plain).0 in
    let bytes = All_from_list_all is_host_byte host (and_parts _ _ plain).1 in
    let domain : IsDomain host = record {
      allowed = All-weaker (Passes is_host_byte) (IsKept FORBIDDEN_DOMAIN) kept_in_domain host bytes;
      lower = map_fixed to_ascii_lowercase host (All-weaker (Passes is_host_byte) (λ b. to_ascii_lowercase b ≡ b) is_lower host bytes);
      named = ends_in_a_name host named;
    } in
    (domain, some_byte host named)
