-- Keys: what a crawler knows a URL, a line, a domain or a host by, in place of its text. Texts of one key count as one.
use Rattle.std.specs.Prelude.{ℕ, List, take}
use Rattle.std.specs.Int.{w64, from_be_bytes}
use Rattle.sha1.specs.Sha1.{sha1}

-- the key of a text: the first eight bytes of its SHA-1 digest (FIPS 180-4) as a number, the first byte highest
unfoldable pub key_of : List ℕ → ℕ
key_of bytes = from_be_bytes w64 (take 8 (sha1 bytes))
