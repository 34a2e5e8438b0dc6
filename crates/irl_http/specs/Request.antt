-- The request for a page (RFC 9112, section 3).
use Rattle.std.specs.Prelude.{ℕ, List, ◌++◌, codes}
use Rattle.httparse.specs.Ascii.{crlf_bytes}
use Rattle.irl_key.specs.Web.{host_of, target_of}

-- a line with its end
abbrev pub line : List ℕ → List ℕ
line text = text ++ crlf_bytes

-- the request for the page of a web text, by the name of an agent
unfoldable pub request_of : List ℕ → List ℕ → List ℕ
request_of text agent =
    codes "GET "
    ++ line (target_of text ++ codes " HTTP/1.1")
    ++ line (codes "Host: " ++ host_of text)
    ++ line (codes "User-Agent: " ++ agent)
    ++ line (codes "Accept-Encoding: " ++ codes "identity")
    ++ line (codes "Connection: " ++ codes "close")
    ++ crlf_bytes
