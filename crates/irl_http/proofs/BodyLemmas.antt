-- Behind the head of a reply its bytes show what its body does.
use Rattle.std.proofs.Common.{◌≡◌, ◌≢◌, ℕ, ◌+◌, ◌-◌, ◌<◌, ◌≤◌, inl, inr, Bool, true, false, List, [], ◌++◌, length, take, refl, sym, ap, ◌∙◌, subst, arith, length-append, length-take}
use Rattle.std.proofs.lemmas.Bool.{cases_lt}
use Rattle.std.proofs.lemmas.List.{take_all, take-append-le, take-take}
use Rattle.std.proofs.Math.Seq.{take-append-add}
use Rattle.httparse.specs.Grammar.{ResponseHead}
use Rattle.irl_base.specs.Limits.{max_page, max_robots}
use Rattle.irl_offer.specs.Replies.{Received}
use Rattle.irl_offer.specs.declared.reply.Want.{Want}
use Rattle.irl_offer.specs.declared.reply.Want.TheVariants.{Page, Robots}
use Rattle.irl_offer.specs.declared.reply.Answer.{Answer}
use Rattle.irl_offer.specs.declared.reply.Answer.TheVariants.{Reply, NoReply, Short, BadReply, TooLarge, Coded}
use Rattle.irl_http.specs.declared.fields.Plan.{Plan}
use Rattle.irl_http.specs.declared.fields.Plan.TheVariants as plan
use Rattle.irl_http.specs.Bodies.{most_of, QuietBody, QuietBelow}
use Rattle.irl_http.specs.Chunks.{BreaksChunks}
use Rattle.irl_http.specs.Fields.{plan_of}
use Rattle.irl_http.specs.Heads.{max_heads, HasHead}
use Rattle.irl_http.specs.Parsing.{EndsHeads}
use Rattle.irl_http.specs.Reply.{received, EndsBody, EndsInBody, Takes, Shows, Tells, TellsNothing, IsUntilClose}
use Rattle.irl_http.specs.Steps.{IsHeads, IsTarget}
use Rattle.irl_http.proofs.HeadLemmas.{one_head, has_not_bad, has_not_long, has_not_far, has_more}

pub from_ends : (bytes : List ℕ) (end : ℕ) (h : ResponseHead) → EndsHeads bytes end h → IsHeads (take end bytes) h
from_ends bytes end h e = record {
  has = e.has;
  quiet = λ want n a below s. e.quiet want n a (omega arith) (omega (arith, below, length-take end bytes))
      (subst (λ l. Shows want l a) (take-take n end bytes (omega (arith, below, length-take end bytes))) s);
}

has_behind : (front rest : List ℕ) (h : ResponseHead) → IsHeads front h → HasHead (front ++ rest) h rest
has_behind front rest h i = has_more front h [] rest i.has

small : (front : List ℕ) (h : ResponseHead) → IsHeads front h → length front ≤ max_heads
small front h i = i.has.fits

-- a body that is read, and shows nothing
quiet_behind : (want : Want) (front rest : List ℕ) (h : ResponseHead) (a : Answer) → IsHeads front h → plan_of h ≢ plan.Coded → plan_of h ≢ plan.BadLength → QuietBody want (plan_of h) rest
    → ¬ Shows want (front ++ rest) a
quiet_behind want front rest h (Reply r) i coded bad quiet s =
    let same = one_head (front ++ rest) s.head h s.rest rest s.has (has_behind front rest h i) in
    quiet.no_reply s.body (subst (λ l. Takes want (plan_of h) l s.body) same.1 (subst (λ g. Takes want (plan_of g) s.rest s.body) same.0 s.takes))
quiet_behind want front rest h NoReply i coded bad quiet s = s
quiet_behind want front rest h (Short n) i coded bad quiet s = s
quiet_behind want front rest h (BadReply n) i coded bad quiet s = elim s.1 [
  | inl b ↦ has_not_bad (front ++ rest) h rest (has_behind front rest h i) b
  | inr (inl l) ↦ bad (ap plan_of (one_head (front ++ rest) h l.head rest [] (has_behind front rest h i) l.has).0 ∙ l.refused)
  | inr (inr c) ↦
      let same = one_head (front ++ rest) c.head h c.rest rest c.has (has_behind front rest h i) in
      quiet.unbroken (ap plan_of (sym same.0) ∙ c.chunked) (subst BreaksChunks same.1 c.bad)
]
quiet_behind want front rest h (TooLarge n) i coded bad quiet s = elim s.1 [
  | inl (inl far, good) ↦ has_not_far front rest h i.has (small front h i) far
  | inl (inr long, good) ↦ has_not_long (front ++ rest) h rest (has_behind front rest h i) long
  | inr (page, long) ↦
      let same = one_head (front ++ rest) long.head h long.rest rest long.has (has_behind front rest h i) in
      omega (arith, long.long, quiet.short long.part page (subst (λ l. EndsInBody (plan_of h) l long.part) same.1 (subst (λ g. EndsInBody (plan_of g) long.rest long.part) same.0 long.within)))
]
quiet_behind want front rest h Coded i coded bad quiet s = coded (ap plan_of (one_head (front ++ rest) h s.head rest [] (has_behind front rest h i) s.has).0 ∙ s.refused)

-- a body that is read at all
abbrev pub IsRead : Plan → Type 0
IsRead how = (how ≢ plan.Coded) × (how ≢ plan.BadLength)

quiet_prefix : (want : Want) (front rest : List ℕ) (h : ResponseHead) (m n : ℕ) (a : Answer) → IsHeads front h → IsRead (plan_of h) → QuietBelow want (plan_of h) rest m → n < length front + m
    → ¬ Shows want (take n (front ++ rest)) a
quiet_prefix want front rest h m n a i read quiet below s = elim (cases_lt n (length front)) [
  | inl less ↦ i.quiet want n a less (subst (λ l. Shows want l a) (take-append-le n front rest (omega arith)) s)
  | inr more ↦
      let split : n ≡ length front + (n - length front) = omega arith in
      let same : take n (front ++ rest) ≡ front ++ take (n - length front) rest = ap (λ k. take k (front ++ rest)) split ∙ take-append-add front rest (n - length front) in
      quiet_behind want front (take (n - length front) rest) h a i read.0 read.1 (quiet (n - length front) (omega arith)) (subst (λ l. Shows want l a) same s)
]

pub nothing_behind : (want : Want) (front rest : List ℕ) (h : ResponseHead) → IsHeads front h → IsRead (plan_of h) → QuietBelow want (plan_of h) rest (length rest + 1)
    → TellsNothing want (front ++ rest)
nothing_behind want front rest h i read quiet n a within = quiet_prefix want front rest h (length rest + 1) n a i read quiet (omega (arith, length-append front rest))

pub tells_behind : (want : Want) (front rest : List ℕ) (h : ResponseHead) (m : ℕ) (a : Answer) → IsHeads front h → IsRead (plan_of h) → QuietBelow want (plan_of h) rest m → m ≤ length rest
    → Shows want (front ++ take m rest) a → Tells want (front ++ rest) a
tells_behind want front rest h m a i read quiet within shows = record {
  count = length front + m;
  within = omega (arith, length-append front rest);
  shows = subst (λ l. Shows want l a) (sym (take-append-add front rest m)) shows;
  fewest = λ n other below. quiet_prefix want front rest h m n other i read quiet below;
}

-- what the head tells alone
pub tells_head : (want : Want) (front rest : List ℕ) (h : ResponseHead) (a : Answer) → IsHeads front h → Shows want front a → Tells want (front ++ rest) a
tells_head want front rest h a i shows =
    let whole : take (length front) (front ++ rest) ≡ front = take-append-le (length front) front rest (omega arith) ∙ take_all (length front) front (omega arith) in
    record {
      count = length front;
      within = omega (arith, length-append front rest);
      shows = subst (λ l. Shows want l a) (sym whole) shows;
      fewest = λ n other below s. i.quiet want n other below (subst (λ l. Shows want l other) (take-append-le n front rest (omega arith)) s);
    }

pub shows_refused : (want : Want) (front : List ℕ) (h : ResponseHead) → IsHeads front h → plan_of h ≡ plan.Coded → Shows want front Coded
shows_refused want front h i is = record { head = h; has = i.has; refused = is }

pub shows_bad_length : (want : Want) (front : List ℕ) (h : ResponseHead) (n : ℕ) → IsHeads front h → plan_of h ≡ plan.BadLength → n ≡ length front → Shows want front (BadReply n)
shows_bad_length want front h n i is size = (size, inr (inl (record { head = h; has = i.has; refused = is })))

pub shows_empty : (want : Want) (front : List ℕ) (h : ResponseHead) → IsHeads front h → plan_of h ≡ plan.Empty → Shows want front (Reply (received h []))
shows_empty want front h i is = record {
  head = h;
  rest = [];
  body = [];
  has = i.has;
  takes = subst (λ p. Takes want p [] []) (sym is) (inl (refl, refl));
  fits = omega arith;
  reply_is = refl;
}

-- a reply whose body is taken
pub shows_body : (want : Want) (front rest body : List ℕ) (h : ResponseHead) → IsHeads front h → Takes want (plan_of h) rest body → length body ≤ max_page
    → Shows want (front ++ rest) (Reply (received h body))
shows_body want front rest body h i takes fits = record { head = h; rest = rest; body = body; has = has_behind front rest h i; takes = takes; fits = fits; reply_is = refl }

pub shows_long : (want : Want) (front rest part : List ℕ) (h : ResponseHead) (n : ℕ) → IsHeads front h → want ≡ Page → EndsInBody (plan_of h) rest part → max_page < length part
    → n ≡ length front + length rest → Shows want (front ++ rest) (TooLarge n)
shows_long want front rest part h n i page within long size = (
  size ∙ sym (length-append front rest),
  inr (page, record { head = h; rest = rest; part = part; has = has_behind front rest h i; within = within; long = long }),
)

pub shows_broken : (want : Want) (front rest : List ℕ) (h : ResponseHead) (n : ℕ) → IsHeads front h → plan_of h ≡ plan.Chunked → BreaksChunks rest → n ≡ length front + length rest
    → Shows want (front ++ rest) (BadReply n)
shows_broken want front rest h n i chunked broken size = (
  size ∙ sym (length-append front rest),
  inr (inr (record { head = h; rest = rest; has = has_behind front rest h i; chunked = chunked; bad = broken })),
)

pub until_close : (front rest : List ℕ) (h : ResponseHead) → IsHeads front h → plan_of h ≡ plan.UntilClose → IsUntilClose (front ++ rest) (received h rest)
until_close front rest h i is = record { head = h; rest = rest; has = has_behind front rest h i; close = is; reply_is = refl }

pub not_until_close : (front rest : List ℕ) (h : ResponseHead) (r : Received) → IsHeads front h → plan_of h ≢ plan.UntilClose → ¬ IsUntilClose (front ++ rest) r
not_until_close front rest h r i other u = other (ap plan_of (one_head (front ++ rest) h u.head rest u.rest (has_behind front rest h i) u.has).0 ∙ u.close)

-- a body of a claimed length, or until the connection ends
pub most_small : (want : Want) → most_of want ≤ max_page + 1
most_small Page = omega arith
most_small Robots = omega arith

below_most : (want : Want) (n : ℕ) → want ≡ Robots → n < most_of want → n ≢ max_robots
below_most want n robots few same = omega (arith, ap most_of robots, few, same)

quiet_target : (want : Want) (closes : Bool) (target : ℕ) (how : Plan) (rest : List ℕ) → IsTarget want closes target how → length rest < target → QuietBody want how rest
quiet_target want true target how rest is few = subst (λ p. QuietBody want p rest) (sym is.0) (record {
  no_reply = λ body takes. elim takes [
    | inl ends ↦ ends
    | inr (robots, within, full) ↦ below_most want (length rest) robots (omega (arith, is.1)) (ap length (sym within) ∙ full)
  ];
  unbroken = λ other. absurd (cc);
  short = λ part page within. omega (arith, ap length within, most_small want, is.1);
})
quiet_target want false target how rest (n, is, least) few = subst (λ p. QuietBody want p rest) (sym is) (record {
  no_reply = λ body takes. elim takes [
    | inl ends ↦ omega (arith, ends.0, least)
    | inr (robots, within, full) ↦ below_most want (length rest) robots (omega (arith, least)) (ap length (sym within.1) ∙ full)
  ];
  unbroken = λ other. absurd (cc);
  short = λ part page within. omega (arith, ap length within.1, most_small want, least);
})

pub target_read : (want : Want) (closes : Bool) (target : ℕ) (how : Plan) → IsTarget want closes target how → IsRead how
target_read want true target how is = (λ e. let f : plan.UntilClose ≡ plan.Coded = sym is.0 ∙ e in absurd (cc), λ e. let f : plan.UntilClose ≡ plan.BadLength = sym is.0 ∙ e in absurd (cc))
target_read want false target how (n, is, least) = (λ e. let f : plan.Sized n ≡ plan.Coded = sym is ∙ e in absurd (cc), λ e. let f : plan.Sized n ≡ plan.BadLength = sym is ∙ e in absurd (cc))

pub plain_quiet : (want : Want) (closes : Bool) (target : ℕ) (how : Plan) (rest : List ℕ) (m : ℕ) → IsTarget want closes target how → m ≤ target → QuietBelow want how rest m
plain_quiet want closes target how rest m is fits k below = quiet_target want closes target how (take k rest) is (omega (arith, length-take k rest))

pub plain_nothing : (want : Want) (closes : Bool) (target : ℕ) (front rest : List ℕ) (h : ResponseHead) → IsHeads front h → IsTarget want closes target (plan_of h) → length rest < target
    → TellsNothing want (front ++ rest)
plain_nothing want closes target front rest h i is few = nothing_behind want front rest h i (target_read want closes target (plan_of h) is)
    (plain_quiet want closes target (plan_of h) rest (length rest + 1) is (omega arith))

page_only : (want : Want) (target : ℕ) → target ≤ most_of want → max_page < target → want ≡ Page
page_only Page target fits long = refl
page_only Robots target fits long = absurd (omega arith)

robots_only : (want : Want) → most_of want ≤ max_page → (want ≡ Robots) × (most_of want ≡ max_robots)
robots_only Page few = absurd (omega arith)
robots_only Robots few = (refl, refl)

pub target_most : (want : Want) (closes : Bool) (target : ℕ) (how : Plan) → IsTarget want closes target how → target ≤ most_of want
target_most want true target how is = omega (arith, is.1)
target_most want false target how (n, is, least) = omega (arith, least)

in_target : (want : Want) (closes : Bool) (target : ℕ) (how : Plan) (part : List ℕ) → IsTarget want closes target how → length part ≡ target → EndsInBody how part part
in_target want true target how part is size = subst (λ p. EndsInBody p part part) (sym is.0) refl
in_target want false target how part (n, is, least) size = subst (λ p. EndsInBody p part part) (sym is) (omega (arith, size, least), refl)

takes_target : (want : Want) (closes : Bool) (target : ℕ) (how : Plan) (part : List ℕ) → IsTarget want closes target how → length part ≡ target → target ≤ max_page → Takes want how part part
takes_target want true target how part is size fits =
    let robots = robots_only want (omega (arith, is.1, fits)) in
    inr (robots.0, in_target want true target how part is size, omega (arith, size, is.1, robots.1))
takes_target want false target how part (n, is, least) size fits = elim (cases_lt (most_of want) n) [
  | inl cut ↦
      let robots = robots_only want (omega (arith, least, fits)) in
      inr (robots.0, in_target want false target how part (n, is, least) size, omega (arith, size, least, robots.1))
  | inr whole ↦ inl (subst (λ p. EndsBody p part part) (sym is) (omega (arith, size, least), refl))
]

pub plain_long : (want : Want) (closes : Bool) (target : ℕ) (front rest : List ℕ) (h : ResponseHead) (n : ℕ) → IsHeads front h → IsTarget want closes target (plan_of h) → target ≤ length rest
    → max_page < target → n ≡ length front + target → Tells want (front ++ rest) (TooLarge n)
plain_long want closes target front rest h n i is within long size =
    let part = take target rest in
    let part_size : length part ≡ target = omega (arith, length-take target rest) in
    tells_behind want front rest h target (TooLarge n) i (target_read want closes target (plan_of h) is) (plain_quiet want closes target (plan_of h) rest target is (omega arith)) within
    (shows_long want front part part h n i (page_only want target (target_most want closes target (plan_of h) is) long) (in_target want closes target (plan_of h) part is part_size)
    (omega (arith, part_size)) (omega (arith, part_size, size)))

pub plain_whole : (want : Want) (closes : Bool) (target : ℕ) (front rest : List ℕ) (h : ResponseHead) → IsHeads front h → IsTarget want closes target (plan_of h) → target ≤ length rest
    → target ≤ max_page → Tells want (front ++ rest) (Reply (received h (take target rest)))
plain_whole want closes target front rest h i is within fits =
    let part_size : length (take target rest) ≡ target = omega (arith, length-take target rest) in
    tells_behind want front rest h target _ i (target_read want closes target (plan_of h) is) (plain_quiet want closes target (plan_of h) rest target is (omega arith)) within
    (shows_body want front (take target rest) (take target rest) h i (takes_target want closes target (plan_of h) (take target rest) is part_size fits) (omega (arith, part_size)))
