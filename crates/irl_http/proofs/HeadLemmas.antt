-- Heads: how many lines they have, and that what awaits behind interim replies is determined.
use Rattle.std.proofs.Common.{◌≡◌, ℕ, suc, ◌+◌, ◌-◌, ◌<◌, ◌≤◌, ◌⊎◌, inl, inr, true, false, List, [], ◌∷◌, ◌++◌, length, take, drop, refl, sym, ap, ◌∙◌, subst, arith, append-nil, append_assoc, length-append, length-take}
use Rattle.std.proofs.lemmas.Bool.{false≢true}
use Rattle.std.specs.List.{flat_map, AllByRecursion}
use Rattle.std.proofs.Common.{None, IsTrue, eqb}
use Rattle.std.specs.Char.{is_ascii_digit}
use Rattle.std.proofs.lemmas.List.{take_at, take-take, take-append-drop}
use Rattle.std.proofs.lemmas.List.Elements.{All-cons, All-nil}
use Rattle.std.proofs.lemmas.List.Sums.{sum_by-append, count_by-le-length}
use Rattle.std.proofs.Math.Seq.{take-append-add}
use Rattle.httparse.specs.Grammar.{LineEnd, crlf, lf, print_end, Field, IsField, is_value_byte, print_field, print_section, ResponseHead, IsResponseHead, print_blank, print_version, print_reason, print_response, ReadsResponse, NeverHasResponse}
use Rattle.httparse.specs.Spans.{ResponseExceeds, ResponseOverflows}
use Rattle.httparse.proofs.GrammarLemmas.{response_unique, ReadsResponse-append}
use Rattle.irl_http.specs.Heads.{line_feeds, is_interim, ReadsHead, IsInterim, print_heads, Awaits, HasHead, HasNoHead, HasBadHead, PassesBytes, PassesLines, max_heads, max_fields}

pub feeds-append : (xs ys : List ℕ) → line_feeds (xs ++ ys) ≡ line_feeds xs + line_feeds ys
feeds-append xs ys = sum_by-append _ xs ys

one_feed : (e : LineEnd) → line_feeds (print_end e) ≡ 1
one_feed crlf = refl
one_feed lf = refl

field_feeds : (f : Field) → 1 ≤ line_feeds (print_field f)
field_feeds f = omega (arith, feeds-append (f.name ++ 58 ∷ f.raw) (print_end f.end), one_feed f.end)

fields_feeds : (fs : List Field) → length fs ≤ line_feeds (flat_map print_field fs)
fields_feeds [] = omega arith
fields_feeds (f ∷ fs) = omega (arith, feeds-append (print_field f) (flat_map print_field fs), field_feeds f, fields_feeds fs)

-- a head has a line feed for its status line, each of its fields and its empty line
pub head_feeds : (h : ResponseHead) → length h.fields + 2 ≤ line_feeds (print_response h)
unfolding print_response
head_feeds h =
    let start = print_blank h.blank ++ print_version h.minor ++ 32 ∷ h.digits ++ print_reason h.reason in
    omega (
      arith,
      feeds-append (start ++ print_end h.line_end) (print_section h.fields h.last),
      feeds-append start (print_end h.line_end),
      one_feed h.line_end,
      feeds-append (flat_map print_field h.fields) (print_end h.last),
      one_feed h.last,
      fields_feeds h.fields,
    )

-- bytes with fewer line feeds before their last byte aren't reported for too many fields, unless an empty line makes them a head
pub exceeds_open : (buf : List ℕ) → line_feeds (take (length buf - 1) buf) < max_fields + 2 → ResponseExceeds max_fields buf → ¬ NeverHasResponse buf
exceeds_open buf cut (front, [], whole, h, reads, long) never =
    never (10 ∷ []) h [] (subst (λ l. ReadsResponse (l ++ 10 ∷ []) h []) (sym (whole ∙ append-nil front)) reads)
exceeds_open buf cut (front, (x ∷ rest), whole, h, reads, long) never =
    let size : length buf ≡ length front + suc (length rest) = ap length whole ∙ length-append front (x ∷ rest) in
    let n : length buf - 1 ≡ length front + length rest = omega arith in
    let part : take (length buf - 1) buf ≡ front ++ take (length rest) (x ∷ rest) = ap (λ k. take k buf) n ∙ ap (take (length front + length rest)) whole
    ∙ take-append-add front (x ∷ rest) (length rest) in
    let text : front ++ 10 ∷ [] ≡ print_response h = reads.1 ∙ append-nil (print_response h) in
    absurd (omega (arith, ap line_feeds part, feeds-append front (take (length rest) (x ∷ rest)), ap line_feeds text, feeds-append front (10 ∷ []), head_feeds h))

-- no head of so many fields at most, where each has more
pub overflows_none : (buf : List ℕ) → ResponseOverflows max_fields buf → HasNoHead buf
overflows_none buf more h rest reads = omega (arith, more [] h (rest ++ []) (ReadsResponse-append buf h rest [] reads.reads), reads.short)

pub none_from_no_response : (buf : List ℕ) → ((h : ResponseHead) (rest : List ℕ) → ¬ ReadsResponse buf h rest) → HasNoHead buf
none_from_no_response buf none h rest reads = none h rest reads.reads

pub same_head : (front : List ℕ) (h k : ResponseHead) (r q : List ℕ) → ReadsHead front h r → ReadsHead front k q → (h ≡ k) × (r ≡ q)
same_head front h k r q x y = response_unique front h k r q x.reads y.reads

pub head_more : (front : List ℕ) (h : ResponseHead) (r more : List ℕ) → ReadsHead front h r → ReadsHead (front ++ more) h (r ++ more)
head_more front h r more x = record { reads = ReadsResponse-append front h r more x.reads; short = x.short }

-- a prefix of what has no head has none
pub none_before : (a b : List ℕ) → HasNoHead (a ++ b) → HasNoHead a
none_before a b none h rest reads = none h (rest ++ b) (head_more a h rest b reads)

pub open_before : (a b : List ℕ) → ¬ NeverHasResponse (a ++ b) → ¬ NeverHasResponse a
open_before a b may never = may (λ more h rest reads. never (b ++ more) h rest (subst (λ l. ReadsResponse l h rest) (append_assoc a b more) reads))

-- what begins with the head of an interim reply
pub record BeginsInterim (front : List ℕ) : Type 0 where
  pub head : ResponseHead
  pub rest : List ℕ
  pub reads : ReadsHead front head rest
  pub interim : is_interim head ≡ true

interim_first : (h : ResponseHead) (hs : List ResponseHead) (x : List ℕ) → IsInterim h → ReadsHead (print_heads (h ∷ hs) ++ x) h (print_heads hs ++ x)
interim_first h hs x valid = record { reads = (valid.valid, append_assoc (print_response h) (print_heads hs) x); short = valid.short }

awaited : (hs ks : List ResponseHead) (x front : List ℕ) → AllByRecursion IsInterim hs → AllByRecursion IsInterim ks → ¬ BeginsInterim x → print_heads hs ++ x ≡ print_heads ks ++ front → (front ≡ x)
    ⊎ BeginsInterim front
awaited [] [] x front vh vk none e = inl (sym e)
awaited [] (k ∷ ks) x front vh vk none e =
    absurd (none (record { head = k; rest = print_heads ks ++ front; reads = subst (λ l. ReadsHead l k (print_heads ks ++ front)) (sym e) (interim_first k ks front vk.0); interim = vk.0.interim }))
awaited (h ∷ hs) [] x front vh vk none e =
    inr (record { head = h; rest = print_heads hs ++ x; reads = subst (λ l. ReadsHead l h (print_heads hs ++ x)) e (interim_first h hs x vh.0); interim = vh.0.interim })
awaited (h ∷ hs) (k ∷ ks) x front vh vk none e =
    let same = same_head _ h k _ _ (interim_first h hs x vh.0) (subst (λ l. ReadsHead l k (print_heads ks ++ front)) (sym e) (interim_first k ks front vk.0)) in
    awaited hs ks x front vh.1 vk.1 none same.1

-- what awaits is this, or a head that was read over is not taken off it
pub front_of : (p x front : List ℕ) → Awaits p x → ¬ BeginsInterim x → Awaits p front → (front ≡ x) ⊎ BeginsInterim front
front_of p x front a none b = awaited a.interim b.interim x front a.valid b.valid none (sym a.whole ∙ b.whole)

pub none_no_interim : (x : List ℕ) → HasNoHead x → ¬ BeginsInterim x
none_no_interim x none b = none b.head b.rest b.reads

clash : {A : Type 0} (h k : ResponseHead) → h ≡ k → is_interim h ≡ true → is_interim k ≡ false → A
clash h k same read final = absurd (false≢true (sym final ∙ ap is_interim (sym same) ∙ read))

pub final_no_interim : (x : List ℕ) (h : ResponseHead) (rest : List ℕ) → ReadsHead x h rest → is_interim h ≡ false → ¬ BeginsInterim x
final_no_interim x h rest reads final b = clash b.head h (same_head x b.head h b.rest rest b.reads reads).0 b.interim final

-- while a head is open there is none
pub open_no_head : (p x : List ℕ) → Awaits p x → HasNoHead x → (h : ResponseHead) (rest : List ℕ) → ¬ HasHead p h rest
open_no_head p x a none h rest has = elim (front_of p x has.front a (none_no_interim x none) has.awaits) [
  | inl e ↦ none h rest (subst (λ l. ReadsHead l h rest) e has.reads)
  | inr b ↦ final_no_interim has.front h rest has.reads has.final b
]

pub never_no_head : (x : List ℕ) (h : ResponseHead) (rest : List ℕ) → ReadsHead x h rest → ¬ NeverHasResponse x
never_no_head x h rest reads never = never [] h (rest ++ []) (ReadsResponse-append x h rest [] reads.reads)

pub open_not_bad : (p x : List ℕ) → Awaits p x → HasNoHead x → ¬ NeverHasResponse x → ¬ HasBadHead p
open_not_bad p x a none may bad = elim (front_of p x bad.front a (none_no_interim x none) bad.awaits) [
  | inl e ↦ may (subst NeverHasResponse e bad.bad)
  | inr b ↦ never_no_head bad.front b.head b.rest b.reads bad.bad
]

pub open_not_long : (p x : List ℕ) → Awaits p x → HasNoHead x → line_feeds x < max_fields + 2 → ¬ PassesLines p
open_not_long p x a none few long = elim (front_of p x long.front a (none_no_interim x none) long.awaits) [
  | inl e ↦ omega (arith, few, long.lines, ap line_feeds e)
  | inr b ↦ long.open_head b.head b.rest b.reads
]

-- the head of a reply is determined
pub one_head : (p : List ℕ) (h k : ResponseHead) (r q : List ℕ) → HasHead p h r → HasHead p k q → (h ≡ k) × (r ≡ q)
one_head p h k r q x y = elim (front_of p x.front y.front x.awaits (final_no_interim x.front h r x.reads x.final) y.awaits) [
  | inl e ↦ same_head x.front h k r q x.reads (subst (λ l. ReadsHead l k q) e y.reads)
  | inr b ↦ absurd (final_no_interim y.front k q y.reads y.final b)
]

pub has_not_bad : (p : List ℕ) (h : ResponseHead) (r : List ℕ) → HasHead p h r → ¬ HasBadHead p
has_not_bad p h r x bad = elim (front_of p x.front bad.front x.awaits (final_no_interim x.front h r x.reads x.final) bad.awaits) [
  | inl e ↦ never_no_head x.front h r x.reads (subst NeverHasResponse e bad.bad)
  | inr b ↦ never_no_head bad.front b.head b.rest b.reads bad.bad
]

not_open : (p : List ℕ) (h : ResponseHead) (r front : List ℕ) → HasHead p h r → Awaits p front → ¬ HasNoHead front
not_open p h r front x a none = elim (front_of p x.front front x.awaits (final_no_interim x.front h r x.reads x.final) a) [
  | inl e ↦ none h r (subst (λ l. ReadsHead l h r) (sym e) x.reads)
  | inr b ↦ none b.head b.rest b.reads
]

pub has_not_long : (p : List ℕ) (h : ResponseHead) (r : List ℕ) → HasHead p h r → ¬ PassesLines p
has_not_long p h r x long = not_open p h r long.front x long.awaits long.open_head

pub awaits_more : (p x more : List ℕ) → Awaits p x → Awaits (p ++ more) (x ++ more)
awaits_more p x more a = record { interim = a.interim; valid = a.valid; whole = ap (λ l. l ++ more) a.whole ∙ append_assoc (print_heads a.interim) x more }

pub has_more : (p : List ℕ) (h : ResponseHead) (r more : List ℕ) → HasHead p h r → HasHead (p ++ more) h (r ++ more)
has_more p h r more x = record {
  front = x.front ++ more;
  awaits = awaits_more p x.front more x.awaits;
  reads = head_more x.front h r more x.reads;
  final = x.final;
  fits = omega (arith, x.fits, length-append p more, length-append r more);
}

-- a head that ends early enough passes no limit
pub has_not_far : (p rest : List ℕ) (h : ResponseHead) → HasHead p h [] → length p ≤ max_heads → ¬ PassesBytes (p ++ rest)
has_not_far p rest h x early far =
    let n : max_heads ≡ length p + (max_heads - length p) = omega arith in
    let part : take max_heads (p ++ rest) ≡ p ++ take (max_heads - length p) rest = ap (λ k. take k (p ++ rest)) n ∙ take-append-add p rest (max_heads - length p) in
    not_open _ h _ far.front (has_more p h [] (take (max_heads - length p) rest) x) (subst (λ l. Awaits l far.front) part far.awaits) far.open_head

-- fewer bytes have no more line feeds
pub feeds_take : (a b : ℕ) (l : List ℕ) → a ≤ b → line_feeds (take a l) ≤ line_feeds (take b l)
feeds_take a b l le = omega (arith, ap line_feeds (take-append-drop a (take b l)), feeds-append (take a (take b l)) (drop a (take b l)), ap line_feeds (take-take a b l le))

pub cut_take : (front : List ℕ) (m : ℕ) → line_feeds (take (length front - 1) front) < max_fields + 2 → m ≤ length front → line_feeds (take (length (take m front) - 1) (take m front)) < max_fields + 2
cut_take front m cut le =
    let n : length (take m front) - 1 ≡ m - 1 = omega (arith, length-take m front) in
    let same : take (length (take m front) - 1) (take m front) ≡ take (m - 1) front = ap (λ k. take k (take m front)) n ∙ take-take (m - 1) m front (omega arith) in
    omega (arith, ap line_feeds same, feeds_take (m - 1) (length front - 1) front (omega arith), cut)

-- the shortest head of all
least : ResponseHead
least = record { blank = []; minor = 1; digits = 50 ∷ 48 ∷ 48 ∷ []; reason = None; line_end = lf; fields = []; last = lf }

least_valid : IsResponseHead least
unfolding least
least_valid =
    let P : ℕ → Type 0 = λ b. IsTrue (is_ascii_digit b) in
    record {
      minor = omega arith;
      digits = (refl, All-cons P 50 (48 ∷ 48 ∷ []) refl (All-cons P 48 (48 ∷ []) refl (All-cons P 48 [] refl (All-nil P))));
      reason = All-nil (λ b. IsTrue (is_value_byte b));
      fields = All-nil IsField;
    }

pub empty_may : ¬ NeverHasResponse []
empty_may never = never (print_response least) least [] (least_valid, sym (append-nil (print_response least)))

pub some_bad : (front : List ℕ) → NeverHasResponse front → 0 < length front
some_bad [] never = absurd (empty_may never)
some_bad (x ∷ xs) never = omega arith

pub head_long : (h : ResponseHead) → 2 ≤ length (print_response h)
head_long h = omega (arith, head_feeds h, count_by-le-length (λ b. eqb b 10) (print_response h))

-- what awaits is this, begins with a head that was read over, or lies behind such heads
pub record LiesBehind (x front : List ℕ) : Type 0 where
  pub head : ResponseHead
  pub between : List ℕ
  pub reads : ReadsHead x head (between ++ front)

compared : (hs ks : List ResponseHead) (x front : List ℕ) → AllByRecursion IsInterim hs → AllByRecursion IsInterim ks → print_heads hs ++ x ≡ print_heads ks ++ front → (front ≡ x)
    ⊎ BeginsInterim front ⊎ LiesBehind x front
compared [] [] x front vh vk e = inl (sym e)
compared [] (k ∷ ks) x front vh vk e = inr (inr (record { head = k; between = print_heads ks; reads = subst (λ l. ReadsHead l k (print_heads ks ++ front)) (sym e) (interim_first k ks front vk.0) }))
compared (h ∷ hs) [] x front vh vk e =
    inr (inl (record { head = h; rest = print_heads hs ++ x; reads = subst (λ l. ReadsHead l h (print_heads hs ++ x)) e (interim_first h hs x vh.0); interim = vh.0.interim }))
compared (h ∷ hs) (k ∷ ks) x front vh vk e =
    let same = same_head _ h k _ _ (interim_first h hs x vh.0) (subst (λ l. ReadsHead l k (print_heads ks ++ front)) (sym e) (interim_first k ks front vk.0)) in
    compared hs ks x front vh.1 vk.1 same.1

shorter : (known r : List ℕ) (b : ℕ) (k : ResponseHead) → ReadsHead (known ++ b ∷ []) k r → 0 < length r → ReadsHead known k (take (length known - length (print_response k)) r)
shorter known r b k reads some =
    let within : length (print_response k) ≤ length known = omega (arith, ap length reads.reads.1, length-append known (b ∷ []), length-append (print_response k) r, some) in
    let n : length known ≡ length (print_response k) + (length known - length (print_response k)) = omega arith in
    record {
      reads = (
        reads.reads.0,
        sym (take_at known (b ∷ []) (length known) refl) ∙ ap (take (length known)) reads.reads.1 ∙ ap (λ j. take j (print_response k ++ r)) n
            ∙ take-append-add (print_response k) r (length known - length (print_response k)),
      );
      short = reads.short;
    }

-- the byte that completes a head, or none, makes no bad head where it rules nothing out
pub last_not_bad : (p known : List ℕ) (b : ℕ) → Awaits p (known ++ b ∷ []) → HasNoHead known → ¬ NeverHasResponse (known ++ b ∷ []) → ¬ HasBadHead p
last_not_bad p known b a none may bad = elim (compared a.interim bad.awaits.interim (known ++ b ∷ []) bad.front a.valid bad.awaits.valid (sym a.whole ∙ bad.awaits.whole)) [
  | inl e ↦ may (subst NeverHasResponse e bad.bad)
  | inr (inl i) ↦ never_no_head bad.front i.head i.rest i.reads bad.bad
  | inr (inr l) ↦ none l.head _ (shorter known (l.between ++ bad.front) b l.head l.reads (omega (arith, length-append l.between bad.front, some_bad bad.front bad.bad)))
]
