-- The heads that a connection's bytes begin with (RFC 9112, sections 2 and 4; RFC 9110, section 15.2), and the limits
-- on them. What a head is, the grammar of `httparse` says.
use Rattle.std.specs.Prelude.{◌≡◌, ℕ, ◌+◌, ◌<◌, ◌≤◌, List, ◌++◌, length, take, count_by, Bool, true, false, ◌&&◌, ◌==◌, nat_le}
use Rattle.std.specs.List.{flat_map, AllByRecursion}
use Rattle.httparse.specs.Ascii.{line_feed}
use Rattle.httparse.specs.Grammar.{ResponseHead, IsResponseHead, print_response, status_code, ReadsResponse, NeverHasResponse}

-- the most bytes of all heads of a reply, and the most fields of one of them
abbrev pub max_heads : ℕ
max_heads = 16384

abbrev pub max_fields : ℕ
max_fields = 64

-- the status of an interim reply, which another follows
abbrev pub is_interim_status : ℕ → Bool
is_interim_status status = nat_le 100 status && nat_le status 199

abbrev pub is_interim : ResponseHead → Bool
is_interim head = is_interim_status (status_code head)

-- The bytes are a head of at most 64 fields, and then rest.
pub record ReadsHead (bytes : List ℕ) (head : ResponseHead) (rest : List ℕ) : Type 0 where
  pub reads : ReadsResponse bytes head rest
  pub short : length head.fields ≤ max_fields

-- a head that is read over
pub record IsInterim (head : ResponseHead) : Type 0 where
  pub valid : IsResponseHead head
  pub short : length head.fields ≤ max_fields
  pub interim : is_interim head ≡ true

abbrev pub print_heads : List ResponseHead → List ℕ
print_heads heads = flat_map print_response heads

-- behind the heads of interim replies, the bytes of the head that comes next
pub record Awaits (bytes front : List ℕ) : Type 0 where
  pub interim : List ResponseHead
  pub valid : AllByRecursion IsInterim interim
  pub whole : bytes ≡ print_heads interim ++ front

-- behind interim replies the bytes have this head, which is of none, and then rest; all heads fit their limit
pub record HasHead (bytes : List ℕ) (head : ResponseHead) (rest : List ℕ) : Type 0 where
  pub front : List ℕ
  pub awaits : Awaits bytes front
  pub reads : ReadsHead front head rest
  pub final : is_interim head ≡ false
  pub fits : length bytes ≤ max_heads + length rest

-- no first bytes of these are a head of at most 64 fields
abbrev pub HasNoHead : List ℕ → Type 0
HasNoHead bytes = (head : ResponseHead) (rest : List ℕ) → ¬ ReadsHead bytes head rest

-- the head that comes next is bad: no bytes can follow that make it one
pub record HasBadHead (bytes : List ℕ) : Type 0 where
  pub front : List ℕ
  pub awaits : Awaits bytes front
  pub bad : NeverHasResponse front

-- The first limit is passed: one byte more than heads may have came, and a head wasn't complete without it.
pub record PassesBytes (bytes : List ℕ) : Type 0 where
  pub front : List ℕ
  pub more : max_heads < length bytes
  pub awaits : Awaits (take max_heads bytes) front
  pub open_head : HasNoHead front

abbrev pub line_feeds : List ℕ → ℕ
line_feeds bytes = count_by (λ b. b == line_feed) bytes

-- The second limit is passed: as many lines ended as the longest head has, which are its status line, its fields and an
-- empty line, and they are no head. Empty lines before a status line are counted too.
pub record PassesLines (bytes : List ℕ) : Type 0 where
  pub front : List ℕ
  pub awaits : Awaits bytes front
  pub lines : max_fields + 2 ≤ line_feeds front
  pub open_head : HasNoHead front
