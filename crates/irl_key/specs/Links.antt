-- What a link counts as.
use Rattle.std.specs.Prelude.{◌≡◌, ◌≢◌, ℕ, ◌<◌, ◌≤◌, ◌⊎◌, true, false, not, nat_lt, List, length, codes, bytes_eq, Option, Some, None, option_and_then, if◌then◌else◌}
use Rattle.url.specs.Parts.{Parts, has_credentials, serialize}
use Rattle.irl_key.specs.declared.canon.Canon.{Canon}
use Rattle.irl_key.specs.declared.canon.Canon.TheVariants.{Web, NotHttp, Bad, TooLong}
use Rattle.irl_base.specs.Limits.{max_text}
use Rattle.irl_key.specs.Web.{url_against, url_of, IsWebText}

-- the URL that the bytes of a link read as, against the text of its base where there is one
abbrev pub link_of : Option (List ℕ) → List ℕ → Option Parts
link_of base text = url_against (option_and_then url_of base) text

-- the URL with no fragment
abbrev pub without_fragment : Parts → Parts
without_fragment url = record url { fragment = None }

-- the URL's text without its fragment
abbrev pub canonical_text : Parts → List ℕ
canonical_text url = serialize (without_fragment url)

-- what a link of this URL counts as
abbrev pub canon_of_url : Parts → Canon
canon_of_url url =
    if not (bytes_eq url.scheme (codes "http")) then NotHttp
    else (if has_credentials url then Bad
    else (if nat_lt max_text (length (canonical_text url)) then TooLong
    else Web (canonical_text url)))

-- what a link counts as that reads so
abbrev pub canon_of_link : Option Parts → Canon
canon_of_link None = Bad
canon_of_link (Some url) = canon_of_url url

-- what a link counts as against the text of its base, where there is one
unfoldable pub canon_of : Option (List ℕ) → List ℕ → Canon
canon_of base text = canon_of_link (link_of base text)

-- a URL of scheme http with no user name and no password
abbrev pub IsPlainHttp : Parts → Type 0
IsPlainHttp url = (url.scheme ≡ codes "http") × (has_credentials url ≡ false)

-- Why a link that reads so counts as this. Exactly one cause holds of each link.
abbrev pub IsCause : Option Parts → Canon → Type 0
-- it reads as a plain http URL, and this is its text without fragment, which is not too long
IsCause link (Web web) =
    (url : Parts) × (link ≡ Some url) × IsPlainHttp url × (web ≡ canonical_text url) × (length web ≤ max_text)
-- it reads as a URL of another scheme
IsCause link NotHttp = (url : Parts) × (link ≡ Some url) × (url.scheme ≢ codes "http")
-- it reads as no URL, or as one of scheme http with a user name or a password
IsCause link Bad =
    (link ≡ None) ⊎ ((url : Parts) × (link ≡ Some url) × (url.scheme ≡ codes "http") × (has_credentials url ≡ true))
-- it reads as a plain http URL whose text without fragment is too long
IsCause link TooLong = (url : Parts) × (link ≡ Some url) × IsPlainHttp url × (max_text < length (canonical_text url))

-- a canonical text: the text of a web page, which is not too long
pub record IsCanonicalText (text : List ℕ) : Type 0 where
  pub web_text : IsWebText text
  pub short : length text ≤ max_text

-- what the text of a web page counts as: itself, where it is not too long
abbrev pub own_canon : List ℕ → Canon
own_canon text = if nat_lt max_text (length text) then TooLong else Web text
