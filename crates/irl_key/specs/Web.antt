-- The canonical texts of web pages, by the URL Standard: the URL record (section 4.1) and its text (section 4.5).
use Rattle.std.specs.Prelude.{◌≡◌, ℕ, ◌+◌, ◌≤◌, List, [], ◌++◌, length, codes, decimal, Option, Some, None, unwrap_or, option_map, if◌then◌else◌}
use Rattle.std.specs.Str.{is_utf8}
use Rattle.std.specs.Result.{result_ok}
use Rattle.url.specs.Host.{host_text}
use Rattle.url.specs.Parts.{Parts, host_or_empty, serialize, IsValid}
use Rattle.url.specs.Parser.{parse_url}
use Rattle.irl_base.specs.Limits.{max_text}

-- a visible byte of ASCII: no space and no control, so no line break
abbrev pub IsVisible : ℕ → Type 0
IsVisible b = (33 ≤ b) × (b ≤ 126)

-- the URL that the bytes read as against this base (sections 4.3 and 4.4), if they are UTF-8 that reads as one
unfoldable pub url_against : Option Parts → List ℕ → Option Parts
url_against base text = if is_utf8 text then result_ok (parse_url base text) else None

-- the URL that the bytes read as by themselves
abbrev pub url_of : List ℕ → Option Parts
url_of text = url_against None text

-- a part after its mark, where there is one
abbrev pub marked : List ℕ → Option (List ℕ) → List ℕ
marked mark None = []
marked mark (Some part) = mark ++ part

-- the host as the text has it, with `:` and the port where one stands there
abbrev pub host_part : Parts → List ℕ
host_part url = host_text (host_or_empty url) ++ marked (codes ":") (option_map decimal url.port)

-- what a request asks the host for: the path, with `?` and the query where there is one (RFC 9112, section 3.2.1)
abbrev pub target_part : Parts → List ℕ
target_part url = url.path ++ marked (codes "?") url.query

-- A link that a crawler follows: a valid URL of scheme http, with no user name, password or fragment.
-- A text of the greatest length has `http://` before its host and `/` behind it.
pub record IsWeb (url : Parts) : Type 0 where
  pub valid : IsValid url
  pub http : url.scheme ≡ codes "http"
  pub username : url.username ≡ []
  pub password : url.password ≡ []
  pub fragment : url.fragment ≡ None
  pub host : length (host_part url) + 8 ≤ max_text

-- The text of a web URL, which reads as that URL again. Its length is no part of this: it is asked where a link is
-- read.
pub record IsWebText (text : List ℕ) : Type 0 where
  pub url : Parts
  pub web : IsWeb url
  pub written : text ≡ serialize url

-- the host of a text, with `:` and the port where it has one
abbrev pub host_of : List ℕ → List ℕ
host_of text = unwrap_or (option_map host_part (url_of text)) []

-- the path of a text, with `?` and the query where it has one
abbrev pub target_of : List ℕ → List ℕ
target_of text = unwrap_or (option_map target_part (url_of text)) []

-- the host of some web text
pub record IsHost (host : List ℕ) : Type 0 where
  pub text : List ℕ
  pub web : IsWebText text
  pub given : host ≡ host_of text

-- where a host has its robots file (RFC 9309, section 2.3)
abbrev pub robots_text : List ℕ → List ℕ
robots_text host = codes "http://" ++ host ++ codes "/robots.txt"
