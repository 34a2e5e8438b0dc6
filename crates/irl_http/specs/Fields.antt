-- The fields of a head that decide on its body (RFC 9112, section 6; RFC 9110, sections 8.3, 8.4, 8.6 and 10.2.2).
use Rattle.std.specs.Prelude.{ℕ, List, [], ◌∷◌, map, length, Bool, true, false, ◌&&◌, ◌||◌, ◌==◌, not, nat_lt, nat_le, if◌then◌else◌, codes, Option, Some, None}
use Rattle.std.specs.Char.{is_ascii_digit}
use Rattle.std.specs.List.{filter, list_any, list_all, before_first}
use Rattle.std.specs.Str.{str_eq_ignore_ascii_case}
use Rattle.std.specs.Str.Parse.{digits_value}
use Rattle.httparse.specs.Grammar.{ResponseHead, status_code}
use Rattle.httparse.specs.Spans.{name_and_value}
use Rattle.irl_base.specs.Blanks.{trim}
use Rattle.irl_http.specs.declared.fields.Transfer.{Transfer}
use Rattle.irl_http.specs.declared.fields.Transfer.TheVariants.{Plain, Chunked, Other}
use Rattle.irl_http.specs.declared.fields.Claim.{Claim}
use Rattle.irl_http.specs.declared.fields.Claim.TheVariants.{Unclaimed, Length, Invalid}
use Rattle.irl_http.specs.declared.fields.Plan.{Plan}
use Rattle.irl_http.specs.declared.fields.Plan.TheVariants as plan

-- the names and values of a head's fields, in order; a value has no white space around it
abbrev pub fields_of : ResponseHead → List (List ℕ × List ℕ)
fields_of head = map name_and_value head.fields

-- names are compared without regard to case
abbrev pub is_named : List ℕ → (List ℕ × List ℕ) → Bool
is_named name field = str_eq_ignore_ascii_case field.0 name

-- the values of the fields of a name, in order
abbrev pub values : List ℕ → List (List ℕ × List ℕ) → List (List ℕ)
values name fields = map (λ (field : List ℕ × List ℕ). field.1) (filter (is_named name) fields)

-- the first of some values
abbrev pub first_of : List (List ℕ) → Option (List ℕ)
first_of [] = None
first_of (value ∷ others) = Some value

-- The transfer coding that the Transfer-Encoding fields name: none, `chunked` alone, or any other, as that of two
-- fields.
abbrev pub transfer_of : List (List ℕ) → Transfer
transfer_of [] = Plain
transfer_of (value ∷ []) = if str_eq_ignore_ascii_case value (codes "chunked") then Chunked else Other
transfer_of (value ∷ second ∷ others) = Other

-- the number that a Content-Length field gives: 1 to 18 digits
abbrev pub length_value : List ℕ → Option ℕ
length_value value =
    if nat_lt 0 (length value) && nat_le (length value) 18 && list_all is_ascii_digit value
    then Some (digits_value 10 value)
    else None

abbrev pub is_number : ℕ → Option ℕ → Bool
is_number n None = false
is_number n (Some m) = m == n

-- the length that several Content-Length fields claim: each gives the same number
abbrev pub agreed : Option ℕ → List (List ℕ) → Claim
agreed None others = Invalid
agreed (Some n) others = if list_all (λ value. is_number n (length_value value)) others then Length n else Invalid

abbrev pub claim_of : List (List ℕ) → Claim
claim_of [] = Unclaimed
claim_of (value ∷ others) = agreed (length_value value) others

-- a content coding that isn't read: any but `identity`
abbrev pub is_coding : List ℕ → Bool
is_coding value = nat_lt 0 (length value) && not (str_eq_ignore_ascii_case value (codes "identity"))

-- the media type of a Content-Type, without its parameters, is one of HTML
abbrev pub media_type : List ℕ → List ℕ
media_type value = trim (before_first (λ b. b == 59) value)

abbrev pub is_html_type : List ℕ → Bool
is_html_type value =
    str_eq_ignore_ascii_case (media_type value) (codes "text/html")
    || str_eq_ignore_ascii_case (media_type value) (codes "application/xhtml+xml")

-- a body without a Content-Type counts as HTML
abbrev pub is_html : Option (List ℕ) → Bool
is_html None = true
is_html (Some value) = is_html_type value

-- the plan unless the body has a content coding that isn't read
abbrev pub uncoded : Bool → Plan → Plan
uncoded coded wanted = if coded then plan.Coded else wanted

-- How a body is read. Beside `chunked` a Content-Length decides nothing (RFC 9112, section 6.3).
abbrev pub body_plan : Transfer → Claim → Bool → Plan
body_plan Other claim coded = plan.Coded
body_plan Chunked claim coded = uncoded coded plan.Chunked
body_plan Plain Invalid coded = plan.BadLength
body_plan Plain (Length n) coded = uncoded coded (plan.Sized n)
body_plan Plain Unclaimed coded = uncoded coded plan.UntilClose

-- the statuses whose body is read
abbrev pub has_body : ℕ → Bool
has_body status = nat_le 200 status && nat_le status 299 && not (status == 204)

-- how the body behind these fields is read
abbrev pub plan_by : ℕ → List (List ℕ × List ℕ) → Plan
plan_by status fields =
    if has_body status
    then body_plan
    (transfer_of (values (codes "transfer-encoding") fields))
    (claim_of (values (codes "content-length") fields))
    (list_any is_coding (values (codes "content-encoding") fields))
    else plan.Empty

-- how the body behind a head is read
abbrev pub plan_of : ResponseHead → Plan
plan_of head = plan_by (status_code head) (fields_of head)

-- where a reply points to: its first Location field
abbrev pub location_of : List (List ℕ × List ℕ) → Option (List ℕ)
location_of fields = first_of (values (codes "location") fields)

abbrev pub html_of : List (List ℕ × List ℕ) → Bool
html_of fields = is_html (first_of (values (codes "content-type") fields))
