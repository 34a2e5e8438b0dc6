-- The steps of reading heads.
use Rattle.std.proofs.Common.{◌≡◌, ℕ, ◌+◌, ◌-◌, ◌<◌, ◌≤◌, ◌⊎◌, inl, inr, true, false, List, [], ◌∷◌, ◌++◌, length, get_or, take, drop, refl, sym, ap, ◌∙◌, subst, arith, append-nil, length-append, length-take, length-drop}
use Rattle.std.specs.List.{AllByRecursion}
use Rattle.std.proofs.lemmas.Grind.{flat_map-append}
use Rattle.std.proofs.lemmas.List.{take_at, take_all, take_more, take-take, take-append-drop, take-append-le}
use Rattle.std.proofs.lemmas.Bool.{cases_lt}
use Rattle.std.proofs.Math.Seq.{take-add}
use Rattle.httparse.specs.Grammar.{ResponseHead, print_response, NeverHasResponse}
use Rattle.httparse.proofs.GrammarLemmas.{response_prefix_free}
use Rattle.std.proofs.lemmas.List.{length-map}
use Rattle.httparse.specs.declared.spans.HeaderSpan.{HeaderSpan}
use Rattle.httparse.specs.declared.spans.ResponseSpans.{ResponseSpans}
use Rattle.httparse.specs.Spans.{IsResponseWithin, AreFieldsAt, header_bytes, name_and_value}
use Rattle.irl_offer.specs.declared.reply.Want.{Want}
use Rattle.irl_offer.specs.declared.reply.Answer.{Answer}
use Rattle.irl_offer.specs.declared.reply.Answer.TheVariants.{Reply, NoReply, Short, BadReply, TooLarge, Coded}
use Rattle.irl_http.specs.Heads.{line_feeds, is_interim, ReadsHead, IsInterim, print_heads, Awaits, HasHead, HasNoHead, HasBadHead, PassesBytes, PassesLines, max_heads, max_fields}
use Rattle.irl_http.specs.Reply.{Shows}
use Rattle.irl_http.specs.Parsing.{QuietBetween, TellsAlike, ParsesHead, EndsHeads, EndsInterim}
use Rattle.irl_http.proofs.HeadLemmas.{open_no_head, open_not_bad, open_not_long, none_before, open_before, never_no_head, head_more, awaits_more, feeds_take, last_not_bad, head_long, empty_may}

-- an open head within the limits shows nothing
pub quiet_open : (want : Want) (p x : List ℕ) (a : Answer) → Awaits p x → HasNoHead x → ¬ NeverHasResponse x → line_feeds x < max_fields + 2 → length p ≤ max_heads → ¬ Shows want p a
quiet_open want p x (Reply r) aw none may few small s = open_no_head p x aw none s.head s.rest s.has
quiet_open want p x NoReply aw none may few small s = s
quiet_open want p x (Short n) aw none may few small s = s
quiet_open want p x (BadReply n) aw none may few small s = elim s.1 [
  | inl bad ↦ open_not_bad p x aw none may bad
  | inr (inl l) ↦ open_no_head p x aw none l.head [] l.has
  | inr (inr c) ↦ open_no_head p x aw none c.head c.rest c.has
]
quiet_open want p x (TooLarge n) aw none may few small s = elim s.1 [
  | inl (inl far, good) ↦ omega (arith, far.more)
  | inl (inr long, good) ↦ open_not_long p x aw none few long
  | inr (page, long) ↦ open_no_head p x aw none long.head long.rest long.has
]
quiet_open want p x Coded aw none may few small s = open_no_head p x aw none s.head [] s.has

-- the bytes up to a place, by an earlier one
pub take_from : (bytes : List ℕ) (at k : ℕ) → at ≤ k → take k bytes ≡ take at bytes ++ take (k - at) (drop at bytes)
take_from bytes at k le = let n : k ≡ at + (k - at) = omega arith in ap (λ j. take j bytes) n ∙ take-add at (k - at) bytes

pub awaits_from : (bytes : List ℕ) (at k : ℕ) → Awaits (take at bytes) [] → at ≤ k → Awaits (take k bytes) (take (k - at) (drop at bytes))
awaits_from bytes at k a le = subst (λ l. Awaits l (take (k - at) (drop at bytes))) (sym (take_from bytes at k le)) (awaits_more (take at bytes) [] (take (k - at) (drop at bytes)) a)

-- no prefix of an open front shows anything
pub quiet_front : (bytes front : List ℕ) (at till : ℕ) → Awaits (take at bytes) [] → front ≡ take (length front) (drop at bytes) → at + length front ≤ max_heads → till ≤ at + length front + 1
    → ((n : ℕ) → n < till - at → HasNoHead (take n front)) → ((n : ℕ) → n < till - at → ¬ NeverHasResponse (take n front)) → ((n : ℕ) → n < till - at → line_feeds (take n front) < max_fields + 2)
    → QuietBetween bytes at till
quiet_front bytes front at till aw is small within none may few want n a from below =
    let m = n - at in
    let here : m < till - at = omega arith in
    let same : take m (drop at bytes) ≡ take m front = sym (ap (take m) is ∙ take-take m (length front) (drop at bytes) (omega arith)) in
    quiet_open want (take n bytes) (take m front) a (subst (Awaits (take n bytes)) same (awaits_from bytes at n aw from)) (none m here) (may m here) (few m here) (omega (arith, length-take n bytes))

pub none_take : (n : ℕ) (front : List ℕ) → HasNoHead front → HasNoHead (take n front)
none_take n front none = none_before (take n front) (drop n front) (subst HasNoHead (sym (take-append-drop n front)) none)

pub may_take : (n : ℕ) (front : List ℕ) → ¬ NeverHasResponse front → ¬ NeverHasResponse (take n front)
may_take n front may = open_before (take n front) (drop n front) (subst (λ l. ¬ NeverHasResponse l) (sym (take-append-drop n front)) may)

pub may_less : (n m : ℕ) (front : List ℕ) → n ≤ m → ¬ NeverHasResponse (take m front) → ¬ NeverHasResponse (take n front)
may_less n m front le may = subst (λ l. ¬ NeverHasResponse l) (take-take n m front le) (may_take n (take m front) may)

-- no proper prefix of a head has one
pub none_in_head : (front rest : List ℕ) (h : ResponseHead) (n : ℕ) → ReadsHead front h rest → n < length (print_response h) → HasNoHead (take n front)
none_in_head front rest h n reads below k q other =
    let same = response_prefix_free (take n front) (drop n front) k h q rest other.reads (subst (λ l. ReadsHead l h rest) (sym (take-append-drop n front)) reads).reads in
    let size : length (print_response k) ≡ length (print_response h) = ap (λ g. length (print_response g)) same.0 in
    omega (arith, size, ap length other.reads.1, length-append (print_response k) q, length-take n front)

-- nothing bad begins with a head
pub none_in_bad : (front : List ℕ) (n : ℕ) → NeverHasResponse front → HasNoHead (take n front)
none_in_bad front n never k q reads = never_no_head front k (q ++ drop n front)
    (subst (λ l. ReadsHead l k (q ++ drop n front)) (take-append-drop n front) (head_more (take n front) k q (drop n front) reads)) never

pub few_take : (n : ℕ) (front : List ℕ) → n < length front → line_feeds (take (length front - 1) front) < max_fields + 2 → line_feeds (take n front) < max_fields + 2
few_take n front below cut = omega (arith, feeds_take n (length front - 1) front (omega arith), cut)

-- what shows at a place, and not before, is told
pub tells_at : (bytes : List ℕ) (end : ℕ) (a : Answer) → QuietBetween bytes 0 end → end ≤ length bytes → ((want : Want) → Shows want (take end bytes) a) → TellsAlike bytes a
tells_at bytes end a quiet within shows want = record { count = end; within = within; shows = shows want; fewest = λ n other below. quiet want n other (omega arith) below }

-- quiet from the start on, up to a place and from there on
pub quiet_on : (bytes : List ℕ) (at till : ℕ) → QuietBetween bytes 0 at → QuietBetween bytes at till → QuietBetween bytes 0 till
quiet_on bytes at till before behind want n a from below = elim (cases_lt n at) [
  | inl less ↦ before want n a from less
  | inr more ↦ behind want n a more below
]

all_push : (hs : List ResponseHead) (h : ResponseHead) → AllByRecursion IsInterim hs → IsInterim h → AllByRecursion IsInterim (hs ++ h ∷ [])
all_push [] h vs v = (v, tt)
all_push (k ∷ ks) h vs v = (vs.0, all_push ks h vs.1 v)

-- one head of an interim reply more
pub awaits_push : (p : List ℕ) (h : ResponseHead) → Awaits p (print_response h) → IsInterim h → Awaits p []
awaits_push p h a v = record {
  interim = a.interim ++ h ∷ [];
  valid = all_push a.interim h a.valid v;
  whole = a.whole ∙ sym (append-nil (print_heads (a.interim ++ h ∷ [])) ∙ flat_map-append print_response a.interim (h ∷ []) ∙ ap (λ l. print_heads a.interim ++ l) (append-nil (print_response h)));
}

-- the bytes of a head that was parsed
pub head_text : (front : List ℕ) (h : ResponseHead) (len : ℕ) → ReadsHead front h (drop len front) → len ≡ length (print_response h) → take len front ≡ print_response h
head_text front h len reads is = ap (take len) reads.reads.1 ∙ take_at (print_response h) (drop len front) len (sym is)

-- a front of the bytes behind a place, within the limits of heads
pub record IsFront (bytes : List ℕ) (at : ℕ) (front : List ℕ) : Type 0 where
  pub is : front ≡ take (length front) (drop at bytes)
  pub early : at + length front ≤ max_heads
  pub inside : at + length front ≤ length bytes
  pub cut : line_feeds (take (length front - 1) front) < max_fields + 2

pub make_front : (bytes : List ℕ) (at m end : ℕ) → at ≤ m → m ≤ max_heads → m ≤ length bytes → end ≤ length (take (m - at) (drop at bytes))
    → line_feeds (take (end - 1) (take (m - at) (drop at bytes))) < max_fields + 2
    → IsFront bytes at (take end (take (m - at) (drop at bytes)))
make_front bytes at m end le small within inside cut =
    let known = take (m - at) (drop at bytes) in
    let size : length (take end known) ≡ end = omega (arith, length-take end known) in
    let fits : end ≤ m - at = omega (arith, length-take (m - at) (drop at bytes)) in
    record {
      is = take-take end (m - at) (drop at bytes) fits ∙ ap (λ n. take n (drop at bytes)) (sym size);
      early = omega (arith, size);
      inside = omega (arith, size);
      cut = omega (arith, ap (λ n. line_feeds (take (n - 1) (take end known))) size, ap line_feeds (take-take (end - 1) end known (omega arith)), cut);
    }

pub quiet_whole : (bytes : List ℕ) (at : ℕ) (front : List ℕ) (h : ResponseHead) (len : ℕ) → IsFront bytes at front → Awaits (take at bytes) [] → ReadsHead front h (drop len front)
    → len ≡ length (print_response h) → len ≤ length front
    → QuietBetween bytes at (at + len)
quiet_whole bytes at front h len f aw reads is within =
    quiet_front bytes front at (at + len) aw f.is f.early (omega arith)
    (λ n below. none_in_head front (drop len front) h n reads (omega arith))
    (λ n below. may_take n front (never_no_head front h (drop len front) reads))
    (λ n below. few_take n front (omega arith) f.cut)

-- the bytes with a whole front
pub awaits_front : (bytes : List ℕ) (at : ℕ) (front : List ℕ) (m : ℕ) → front ≡ take (length front) (drop at bytes) → Awaits (take at bytes) [] → m ≤ length front
    → Awaits (take (at + m) bytes) (take m front)
awaits_front bytes at front m is aw le =
    let n : at + m - at ≡ m = omega arith in
    let same : take (at + m - at) (drop at bytes) ≡ take m front = ap (λ k. take k (drop at bytes)) n ∙ sym (ap (take m) is ∙ take-take m (length front) (drop at bytes) le) in
    subst (Awaits (take (at + m) bytes)) same (awaits_from bytes at (at + m) aw (omega arith))

pub next_bad : (bytes : List ℕ) (at : ℕ) (front : List ℕ) (m : ℕ) → IsFront bytes at front → Awaits (take at bytes) [] → NeverHasResponse front → m ≤ length front → NeverHasResponse (take m front)
    → ¬ NeverHasResponse (take (m - 1) front)
    → QuietBetween bytes at (at + m) × (at + m ≤ length bytes) × HasBadHead (take (at + m) bytes)
next_bad bytes at front m f aw never within bad good = (
  quiet_front bytes front at (at + m) aw f.is f.early (omega arith)
      (λ n below. none_in_bad front n never)
      (λ n below. may_less n (m - 1) front (omega arith) good)
      (λ n below. few_take n front (omega arith) f.cut),
  omega (arith, f.inside),
  record { front = take m front; awaits = awaits_front bytes at front m f.is aw within; bad = bad },
)

pub next_long : (bytes : List ℕ) (at : ℕ) (front : List ℕ) (m : ℕ) → IsFront bytes at front → Awaits (take at bytes) [] → HasNoHead front → ¬ NeverHasResponse front → line_feeds front ≡ max_fields + 2
    → m ≡ length front
    → QuietBetween bytes at (at + m) × (at + m ≤ length bytes) × (PassesBytes (take (at + m) bytes) ⊎ PassesLines (take (at + m) bytes)) × ¬ HasBadHead (take (at + m) bytes)
next_long bytes at front m f aw none may feeds is =
    let a : Awaits (take (at + m) bytes) front = subst (Awaits (take (at + m) bytes)) (take_all m front (omega arith)) (awaits_front bytes at front m f.is aw (omega arith)) in (
      quiet_front bytes front at (at + m) aw f.is f.early (omega arith)
          (λ n below. none_take n front none)
          (λ n below. may_take n front may)
          (λ n below. few_take n front (omega arith) f.cut),
      omega (arith, f.inside),
      inr (record { front = front; awaits = a; lines = omega (arith, feeds); open_head = none }),
      open_not_bad (take (at + m) bytes) front a none may,
    )

pub next_open : (bytes : List ℕ) (at : ℕ) (front : List ℕ) → IsFront bytes at front → Awaits (take at bytes) [] → HasNoHead front → ¬ NeverHasResponse front → line_feeds front < max_fields + 2
    → QuietBetween bytes at (at + length front + 1)
next_open bytes at front f aw none may few =
    quiet_front bytes front at (at + length front + 1) aw f.is f.early (omega arith)
    (λ n below. none_take n front none)
    (λ n below. may_take n front may)
    (λ n below. omega (arith, feeds_take n (length front) front (omega arith), ap line_feeds (take_all (length front) front (omega arith)), few))

-- one byte more than heads may have
pub past_front : (bytes : List ℕ) (at : ℕ) → max_heads < length bytes → at ≤ max_heads → Awaits (take at bytes) [] → HasNoHead (take (max_heads - at) (drop at bytes))
    → ¬ NeverHasResponse (take (max_heads - at) (drop at bytes)) → line_feeds (take (max_heads - at) (drop at bytes)) < max_fields + 2
    → QuietBetween bytes at (max_heads + 1)
past_front bytes at more early aw none may few =
    let front = take (max_heads - at) (drop at bytes) in
    let size : length front ≡ max_heads - at = omega (arith, length-take (max_heads - at) (drop at bytes), length-drop at bytes) in
    let f : IsFront bytes at front = record {
      is = ap (λ n. take n (drop at bytes)) (sym size);
      early = omega (arith, size);
      inside = omega (arith, size);
      cut = omega (arith, feeds_take (length front - 1) (length front) front (omega arith), ap line_feeds (take_all (length front) front (omega arith)), few);
    } in
    let till : at + length front + 1 ≡ max_heads + 1 = omega (arith, size) in
    subst (QuietBetween bytes at) till (next_open bytes at front f aw none may few)

pub past_long : (bytes : List ℕ) (at : ℕ) → max_heads < length bytes → at ≤ max_heads → Awaits (take at bytes) [] → HasNoHead (take (max_heads - at) (drop at bytes))
    → PassesBytes (take (max_heads + 1) bytes)
past_long bytes at more early aw none =
    record {
      front = take (max_heads - at) (drop at bytes);
      more = omega (arith, length-take (max_heads + 1) bytes);
      awaits = subst (λ l. Awaits l (take (max_heads - at) (drop at bytes))) (sym (take-take max_heads (max_heads + 1) bytes (omega arith))) (awaits_from bytes at max_heads aw early);
      open_head = none;
    }

pub past_good : (bytes : List ℕ) (at : ℕ) → max_heads < length bytes → at ≤ max_heads → Awaits (take at bytes) [] → HasNoHead (take (max_heads - at) (drop at bytes))
    → ¬ NeverHasResponse (take (max_heads + 1 - at) (drop at bytes)) → ¬ HasBadHead (take (max_heads + 1) bytes)
past_good bytes at more early aw none may =
    let known = take (max_heads - at) (drop at bytes) in
    let b = get_or (drop at bytes) (max_heads - at) 0 in
    let n : max_heads + 1 - at ≡ max_heads - at + 1 = omega arith in
    let whole : take (max_heads + 1 - at) (drop at bytes) ≡ known ++ b ∷ [] = ap (λ k. take k (drop at bytes)) n ∙ take_more (drop at bytes) (max_heads - at) 0 (omega (arith, length-drop at bytes)) in
    last_not_bad (take (max_heads + 1) bytes) known b
    (subst (Awaits (take (max_heads + 1) bytes)) whole (awaits_from bytes at (max_heads + 1) aw (omega arith)))
    none
    (subst (λ l. ¬ NeverHasResponse l) whole may)

-- as many fields as spans were written
pub fits_room : (front : List ℕ) (headers : List HeaderSpan) (spans : ResponseSpans) (h : ResponseHead) → IsResponseWithin front headers spans → AreFieldsAt front headers spans.headers h.fields
    → length headers ≡ max_fields → length h.fields ≤ max_fields
fits_room front headers spans h within fields room =
    omega (
      arith,
      ap length fields,
      length-map (take spans.headers headers) (header_bytes front),
      length-map h.fields name_and_value,
      length-take spans.headers headers,
      within.section.count_fits,
      room,
    )

-- the bytes up to the end of a head that was parsed
pub record IsParsed (bytes : List ℕ) (at : ℕ) (front : List ℕ) (h : ResponseHead) (len : ℕ) : Type 0 where
  pub is : front ≡ take (length front) (drop at bytes)
  pub early : at + length front ≤ max_heads
  pub start : at ≤ length bytes
  pub reads : ReadsHead front h (drop len front)
  pub len_is : len ≡ length (print_response h)
  pub within : len ≤ length front

pub parsed : (bytes : List ℕ) (at : ℕ) (headers : List HeaderSpan) (front : List ℕ) (spans : ResponseSpans) (p : ParsesHead bytes at headers front spans) → at ≤ length bytes
    → length headers ≡ max_fields → IsParsed bytes at front p.head.0 spans.len
parsed bytes at headers front spans p start room = record {
  is = p.front_is;
  early = p.early;
  start = start;
  reads = record { reads = p.head.1.reads; short = fits_room front headers spans p.head.0 p.within p.head.1.fields room };
  len_is = p.head.1.len;
  within = p.within.section.len_fits;
}

inside : (bytes : List ℕ) (at : ℕ) (front : List ℕ) (h : ResponseHead) (len : ℕ) → IsParsed bytes at front h len → at + len ≤ length bytes
inside bytes at front h len p = omega (arith, ap length p.is, length-take (length front) (drop at bytes), length-drop at bytes, p.start, p.within)

awaits_text : (bytes : List ℕ) (at : ℕ) (front : List ℕ) (h : ResponseHead) (len : ℕ) → IsParsed bytes at front h len → Awaits (take at bytes) [] → Awaits (take (at + len) bytes) (print_response h)
awaits_text bytes at front h len p aw = subst (Awaits (take (at + len) bytes)) (head_text front h len p.reads p.len_is) (awaits_front bytes at front len p.is aw p.within)

pub ends_heads : (bytes : List ℕ) (at : ℕ) (front : List ℕ) (h : ResponseHead) (len : ℕ) → IsParsed bytes at front h len → Awaits (take at bytes) [] → QuietBetween bytes 0 at
    → QuietBetween bytes at (at + len) → is_interim h ≡ false → EndsHeads bytes (at + len) h
ends_heads bytes at front h len p aw before behind final = record {
  within = inside bytes at front h len p;
  early = omega (arith, p.early, p.within);
  has = record {
    front = print_response h;
    awaits = awaits_text bytes at front h len p aw;
    reads = record { reads = (p.reads.reads.0, sym (append-nil (print_response h))); short = p.reads.short };
    final = final;
    fits = omega (arith, length-take (at + len) bytes, p.early, p.within);
  };
  quiet = quiet_on bytes at (at + len) before behind;
}

pub awaits_next : (bytes : List ℕ) (at : ℕ) (front : List ℕ) (h : ResponseHead) (len : ℕ) → IsParsed bytes at front h len → Awaits (take at bytes) [] → is_interim h ≡ true
    → Awaits (take (at + len) bytes) []
awaits_next bytes at front h len p aw interim = awaits_push (take (at + len) bytes) h (awaits_text bytes at front h len p aw)
    (record { valid = p.reads.reads.0; short = p.reads.short; interim = interim })

pub moves_on : (bytes : List ℕ) (at : ℕ) (front : List ℕ) (h : ResponseHead) (len : ℕ) → IsParsed bytes at front h len → (0 < len) × (at + len ≤ length bytes) × (at + len ≤ max_heads)
moves_on bytes at front h len p = (omega (arith, p.len_is, head_long h), inside bytes at front h len p, omega (arith, p.early, p.within))

-- so many first bytes are that many
pub shown : (bytes : List ℕ) (end : ℕ) → end ≤ length bytes → end ≡ length (take end bytes)
shown bytes end within = omega (arith, length-take end bytes)

pub not_yet : (bytes : List ℕ) (at : ℕ) (front : List ℕ) → IsFront bytes at front → Awaits (take at bytes) [] → HasNoHead front → at + length front ≡ length bytes → (h : ResponseHead) (rest : List ℕ)
    → ¬ HasHead bytes h rest
not_yet bytes at front f aw none all h rest =
    let a : Awaits (take (at + length front) bytes) front = subst (Awaits (take (at + length front) bytes)) (take_all (length front) front (omega arith))
    (awaits_front bytes at front (length front) f.is aw (omega arith)) in
    open_no_head bytes front (subst (λ l. Awaits l front) (take_all (at + length front) bytes (omega (arith, all))) a) none h rest

-- nothing was read, and nothing shows
awaits_nothing : Awaits [] []
awaits_nothing = record { interim = []; valid = tt; whole = refl }

no_head_nothing : HasNoHead []
no_head_nothing h rest reads = omega (arith, ap length reads.reads.1, length-append (print_response h) rest, head_long h)

pub quiet_nothing : QuietBetween [] 0 1
quiet_nothing want n a from below s =
    let zero : n ≡ 0 = omega arith in
    quiet_open want [] [] a awaits_nothing no_head_nothing empty_may (omega arith) (omega arith) (subst (λ k. Shows want (take k []) a) zero s)

pub nothing_yet : (h : ResponseHead) (rest : List ℕ) → ¬ HasHead [] h rest
nothing_yet h rest = open_no_head [] [] awaits_nothing no_head_nothing h rest

pub interim_nothing : EndsInterim [] 0
interim_nothing = record { within = omega arith; early = omega arith; awaits = awaits_nothing; quiet = λ want n a from below. omega (arith, below) }

-- heads of interim replies stay heads of interim replies
pub interim_more : (bytes more : List ℕ) (at : ℕ) → EndsInterim bytes at → EndsInterim (bytes ++ more) at
interim_more bytes more at ends = record {
  within = omega (arith, ends.within, length-append bytes more);
  early = ends.early;
  awaits = subst (λ l. Awaits l []) (sym (take-append-le at bytes more ends.within)) ends.awaits;
  quiet = λ want n a from below s. ends.quiet want n a from below (subst (λ l. Shows want l a) (take-append-le n bytes more (omega (arith, below, ends.within))) s);
}
