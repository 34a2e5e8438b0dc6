-- What stands behind a plain host: segments and a query that the URL Standard leaves as they are.
use Rattle.std.proofs.Common.{◌≡◌, ℕ, ◌<◌, Bool, true, false, not, ◌&&◌, ◌==◌, List, [], ◌∷◌, ◌++◌, Some, None, All, refl, sym, ap, ◌∙◌, subst, ⊎_elim, arith, append_assoc}
use Rattle.std.specs.Prelude.{Option, IfSome, codes}
use Rattle.std.proofs.lemmas.Bool.{and_parts, cases_eq, ne_eqb}
use Rattle.std.proofs.lemmas.Bool.Decides.{nat_tests}
use Rattle.std.proofs.lemmas.List.Elements.{All-nil, All-cons}
use Rattle.url.specs.Percent.{IsKept}
use Rattle.url.specs.declared.sets.TheConstants.{PATH, SPECIAL_QUERY}
use Rattle.url.specs.declared.scheme.SchemeType.TheVariants.{SpecialNotFile}
use Rattle.url.specs.Scheme.{is_slash}
use Rattle.url.specs.Path.{dot_len, dot_count, IsSegment, join_segments}
use Rattle.url.proofs.InputLemmas.{Passes}
use Rattle.url.proofs.SetLemmas.{kept_from_passes}
use Rattle.irl_key.specs.Web.{marked}
use Rattle.irl_host.specs.Sight.{is_target_byte, may_follow, is_plain_behind}

-- ---- bytes

abbrev is_path_byte : ℕ → Bool
is_path_byte b = is_target_byte b && not (b == 63)

below_128 : (b : ℕ) → Passes is_target_byte b → b < 128
below_128 b plain = grind (arith, nat_tests)

kept_in_query : (b : ℕ) → Passes is_target_byte b → IsKept SPECIAL_QUERY b
kept_in_query b plain = kept_from_passes is_target_byte SPECIAL_QUERY refl b (below_128 b plain) plain

kept_in_path : (b : ℕ) → Passes is_path_byte b → IsKept PATH b
kept_in_path b plain = kept_from_passes is_path_byte PATH refl b (below_128 b (and_parts _ _ plain).0) plain

-- it isn't `\`
no_slash : (b : ℕ) → Passes is_target_byte b → (b == 47) ≡ false → is_slash SpecialNotFile b ≡ false
no_slash b plain other = grind (arith, nat_tests)

all_kept : (before : ℕ) (bytes : List ℕ) → is_plain_behind before bytes ≡ true → All (IsKept SPECIAL_QUERY) bytes
all_kept before [] plain = All-nil (IsKept SPECIAL_QUERY)
all_kept before (b ∷ bytes) plain =
    let (front, later) = and_parts (is_target_byte b && may_follow before b) (is_plain_behind b bytes) plain in
    All-cons (IsKept SPECIAL_QUERY) b bytes (kept_in_query b (and_parts _ _ front).0) (all_kept b bytes later)

-- ---- segments

no_dots : (segment : List ℕ) → dot_len segment ≡ 0 → dot_count segment ≡ 0
unfolding dot_count
no_dots segment none = rw none

-- where it can stand behind a slash, it begins no dot segment
begins_no_dot : (b : ℕ) (bytes : List ℕ) → may_follow 47 b ≡ true → dot_count (b ∷ bytes) ≡ 0
begins_no_dot b bytes follows =
    let dot : (b == 46) ≡ false = grind (arith, nat_tests) in
    let percent : (b == 37) ≡ false = grind (arith, nat_tests) in
    no_dots (b ∷ bytes) (rw (dot, percent))

-- Of bytes that stand behind that one: what belongs to the same segment, the segments behind it, and the query.
pub record Pieces (before : ℕ) (bytes : List ℕ) : Type 0 where
  pub rest : List ℕ
  pub segments : List (List ℕ)
  pub query : Option (List ℕ)
  pub joined : bytes ≡ rest ++ (join_segments segments ++ marked (codes "?") query)
  pub escaped : All (IsKept PATH) rest
  pub whole : All (λ b. is_slash SpecialNotFile b ≡ false) rest
  pub resolved : before ≡ 47 → dot_count rest ≡ 0
  pub each : All (IsSegment SpecialNotFile) segments
  pub kept : IfSome query (All (IsKept SPECIAL_QUERY))

-- behind a slash the rest is a segment
pub first_segment : (bytes : List ℕ) (p : Pieces 47 bytes) → IsSegment SpecialNotFile p.rest
first_segment bytes p = record { escaped = p.escaped; whole = p.whole; resolved = p.resolved refl }

nothing : (before : ℕ) → Pieces before []
nothing before = record {
  rest = [];
  segments = [];
  query = None;
  joined = refl;
  escaped = All-nil (IsKept PATH);
  whole = All-nil (λ b. is_slash SpecialNotFile b ≡ false);
  resolved = λ _. no_dots [] refl;
  each = All-nil (IsSegment SpecialNotFile);
  kept = tt;
}

-- at the `?`
query_next : (before : ℕ) (bytes : List ℕ) → All (IsKept SPECIAL_QUERY) bytes → Pieces before (63 ∷ bytes)
query_next before bytes kept = record {
  rest = [];
  segments = [];
  query = Some bytes;
  joined = refl;
  escaped = All-nil (IsKept PATH);
  whole = All-nil (λ b. is_slash SpecialNotFile b ≡ false);
  resolved = λ _. no_dots [] refl;
  each = All-nil (IsSegment SpecialNotFile);
  kept = kept;
}

-- at a slash
segment_next : (before : ℕ) (bytes : List ℕ) → Pieces 47 bytes → Pieces before (47 ∷ bytes)
segment_next before bytes p = record {
  rest = [];
  segments = p.rest ∷ p.segments;
  query = p.query;
  joined = ap (λ l. 47 ∷ l) (p.joined ∙ sym (append_assoc p.rest (join_segments p.segments) (marked (codes "?") p.query)));
  escaped = All-nil (IsKept PATH);
  whole = All-nil (λ b. is_slash SpecialNotFile b ≡ false);
  resolved = λ _. no_dots [] refl;
  each = All-cons (IsSegment SpecialNotFile) p.rest p.segments (first_segment bytes p) p.each;
  kept = p.kept;
}

-- at any other byte
byte_next : (before b : ℕ) (bytes : List ℕ) → Passes is_target_byte b → may_follow before b ≡ true → (b == 47) ≡ false → (b == 63) ≡ false
    → Pieces b bytes → Pieces before (b ∷ bytes)
byte_next before b bytes plain follows slash mark p = record {
  rest = b ∷ p.rest;
  segments = p.segments;
  query = p.query;
  joined = ap (λ l. b ∷ l) p.joined;
  escaped = All-cons (IsKept PATH) b p.rest (kept_in_path b (rw (plain, mark))) p.escaped;
  whole = All-cons (λ c. is_slash SpecialNotFile c ≡ false) b p.rest (no_slash b plain slash) p.whole;
  resolved = λ same. begins_no_dot b p.rest (subst (λ n. may_follow n b ≡ true) same follows);
  each = p.each;
  kept = p.kept;
}

pub pieces : (before : ℕ) (bytes : List ℕ) → is_plain_behind before bytes ≡ true → Pieces before bytes
pieces before [] plain = nothing before
pieces before (b ∷ bytes) plain =
    let (front, later) = and_parts (is_target_byte b && may_follow before b) (is_plain_behind b bytes) plain in
    let (here, follows) = and_parts (is_target_byte b) (may_follow before b) front in
    let rest = pieces b bytes later in
    let At : ℕ → Type 0 = λ n. Pieces before (n ∷ bytes) in
    let slash : b ≡ 47 → At b = λ is. subst At (sym is) (segment_next before bytes (subst (λ n. Pieces n bytes) is rest)) in
    let mark : b ≡ 63 → At b = λ is. subst At (sym is) (query_next before bytes (all_kept b bytes later)) in
    ⊎_elim
    slash
    (λ no_slash. ⊎_elim mark (λ no_mark. byte_next before b bytes here follows (ne_eqb b 47 no_slash) (ne_eqb b 63 no_mark) rest) (cases_eq b 63))
    (cases_eq b 47)
