-- What a fetch made of its port's connections.
use Rattle.std.proofs.Common.{◌≡◌, ℕ, zero, suc, ◌≤◌, inl, inr, List, [], ◌∷◌, ◌++◌, Option, Some, None, Result, Ok, Err, IfOk, OnOk, OnErr, length, take, refl, sym, ap, ◌∙◌, subst, arith, length-append, append-nil}
use Rattle.std.specs.Prelude.{slice_get}
use Rattle.std.specs.Io.KnownBytes.{Consumes, IsAtEnd, Keeps}
use Rattle.irl_base.specs.Faults.{HasCause}
use Rattle.irl_http.specs.declared.link.Connection.{Connection}
use Rattle.irl_http.specs.Links.{Connects, HasExchange, WritesOnLast, WritesPart, StaySame, IsTold}
use Rattle.irl_http.specs.Reading.{ReadsAnswer}
use Rattle.irl_http.specs.Reply.{Answers as Given}
use Rattle.irl_http.specs.Request.{request_of}
use Rattle.irl_http.proofs.LinkLemmas.{exchange_written}
use Rattle.irl_http.proofs.WholeLemmas.{of_connection}
use Rattle.irl_offer.specs.declared.reply.Answer.{Answer}
use Rattle.irl_offer.specs.declared.reply.Answer.TheVariants.{Reply, NoReply, Short, BadReply, TooLarge, Coded}
use Rattle.irl_offer.specs.declared.reply.Want.{Want}
use Rattle.irl_record.specs.Widening.{WidensSince}
use Rattle.irl_record.specs.Wired.{by_wire, how_many, MakesAtMostOne, IsLeft, Sends}

-- ---- connections that grow
pub get_front : (old more : List Connection) (i : ℕ) (c : Connection) → slice_get old i ≡ Some c → slice_get (old ++ more) i ≡ Some c
get_front [] more i c is = absurd (cc)
get_front (x ∷ old) more zero c is = is
get_front (x ∷ old) more (suc i) c is = get_front old more i c is

pub get_behind : (old : List Connection) (c : Connection) → slice_get (old ++ c ∷ []) (length old) ≡ Some c
get_behind [] c = refl
get_behind (x ∷ old) c = get_behind old c

pub one_none : (a b : Option (List Connection)) → StaySame a b → MakesAtMostOne a b
one_none None None same = tt
one_none None (Some y) same = absurd same
one_none (Some x) None same = absurd same
one_none (Some x) (Some y) same = ([], same ∙ sym (append-nil x), omega arith)

pub one_stays : (a b c : Option (List Connection)) → MakesAtMostOne a b → StaySame b c → MakesAtMostOne a c
one_stays None None c one same = one_none None c same
one_stays None (Some y) c one same = absurd one
one_stays (Some x) None c one same = absurd one
one_stays (Some x) (Some y) None one same = absurd same
one_stays (Some x) (Some y) (Some z) (more, is, few) same = (more, same ∙ is, few)

pub one_exchange : (port : ℕ) (gives written : List ℕ) (a b : Option (List Connection)) → HasExchange port gives written a b → MakesAtMostOne a b
one_exchange port gives written None None has = tt
one_exchange port gives written None (Some y) has = absurd has
one_exchange port gives written (Some x) None has = absurd has
one_exchange port gives written (Some x) (Some y) has = (_, has, omega arith)

-- a part of the piece was written on the newest
pub one_partly : (port : ℕ) (gives written piece : List ℕ) (a b c : Option (List Connection)) → HasExchange port gives written a b → WritesPart piece b c → MakesAtMostOne a c
one_partly port gives written piece a b c has (n, part) = one_exchange port gives (written ++ take n piece) a c (exchange_written port gives written (take n piece) a b c has part)

pub counts_more : (a b : Option (List Connection)) → MakesAtMostOne a b → how_many a ≤ how_many b
counts_more None None one = omega arith
counts_more None (Some y) one = absurd one
counts_more (Some x) None one = absurd one
counts_more (Some x) (Some y) (more, is, few) = omega (arith, ap length is, length-append x more)

-- ---- a connection and a write
left_kept : (gives piece : List ℕ) (a b : Option (List Connection)) (l0 l1 : Option (List ℕ)) → IsTold gives a l0 → WritesOnLast piece a b → Keeps l0 l1 → IsLeft gives b l1
left_kept gives piece None None l0 l1 told writes kept = tt
left_kept gives piece None (Some y) l0 l1 told writes kept = absurd writes
left_kept gives piece (Some x) None l0 l1 told writes kept = absurd writes
left_kept gives piece (Some x) (Some y) None l1 told writes kept = absurd told
left_kept gives piece (Some x) (Some y) (Some left) None told writes kept = absurd kept
left_kept gives piece (Some x) (Some y) (Some left) (Some l) told writes kept = ap Some (kept ∙ told)

pub sends : {E : Type 0} (port : ℕ) (bytes : List ℕ) (a b c : Option (List Connection)) (l0 l1 w : Option (List ℕ)) (result : Result Unit E) → Connects port a b l0 w → OnOk result (WritesOnLast bytes b c) → Keeps l0 l1
    → OnOk result (Sends port bytes a c l1)
sends port bytes a b c l0 l1 w (Ok done) connects writes kept = record {
  gives = connects.gives;
  newest = exchange_written port connects.gives [] bytes a b c connects.newest writes;
  all_left = left_kept connects.gives bytes b c l0 l1 connects.all_left writes kept;
}
sends port bytes a b c l0 l1 w (Err e) connects writes kept = tt

pub sends_one : {E : Type 0} (port : ℕ) (bytes : List ℕ) (a b c : Option (List Connection)) (l0 w : Option (List ℕ)) (result : Result Unit E) → Connects port a b l0 w → OnOk result (WritesOnLast bytes b c)
    → OnErr result (WritesPart bytes b c) → MakesAtMostOne a c
sends_one port bytes a b c l0 w (Ok done) connects writes part = one_exchange port connects.gives bytes a c (exchange_written port connects.gives [] bytes a b c connects.newest writes)
sends_one port bytes a b c l0 w (Err e) connects writes part = one_partly port connects.gives [] bytes a b c connects.newest part

-- ---- answers
pub wire_wider : (number : ℕ) (agent : List ℕ) (f0 f1 : ℕ) (a b : Option (List Connection)) → f0 ≤ f1 → MakesAtMostOne a b → WidensSince (by_wire number agent f0 a) (by_wire number agent f1 b)
wire_wider number agent f0 f1 None None later one since url want answer given = tt
wire_wider number agent f0 f1 None (Some y) later one since url want answer given = absurd one
wire_wider number agent f0 f1 (Some x) None later one since url want answer given = absurd one
wire_wider number agent f0 f1 (Some x) (Some y) later one since url want answer (inl (none, fault)) = inl (none, omega (arith, later, fault))
wire_wider number agent f0 f1 (Some x) (Some y) later (more, is, few) since url want answer (inr had) = inr (record {
  place = had.place;
  connection = had.connection;
  later = had.later;
  at = subst (λ l. slice_get l had.place ≡ Some had.connection) (sym is) (get_front x more had.place had.connection had.at);
  exchange = had.exchange;
})

-- no reply came
pub wire_none : (number : ℕ) (agent : List ℕ) (f0 f1 : ℕ) (made : Option (List Connection)) (since : ℕ) (url : List ℕ) (want : Want) (answer : Answer) → answer ≡ NoReply → HasCause (answer ≡ NoReply) f0 f1
    → by_wire number agent f1 made since url want answer
wire_none number agent f0 f1 None since url want answer none cause = tt
wire_none number agent f0 f1 (Some x) since url want answer none cause = inl (none, omega (arith, cause.rose none))

-- an answer of what was taken of the connection that was made
pub wire_some : (number : ℕ) (agent url : List ℕ) (want : Want) (answer : Answer) (faults : ℕ) (a b c : Option (List Connection)) (l0 l1 last : Option (List ℕ)) → Sends number (request_of url agent) a b l0
    → StaySame b c → (reads : ReadsAnswer want l0 l1 last answer) → Given want reads.taken (IsAtEnd l1) answer → by_wire number agent faults c (how_many a) url want answer
wire_some number agent url want answer faults None None None l0 l1 last sends same reads answers = tt
wire_some number agent url want answer faults None None (Some z) l0 l1 last sends same reads answers = absurd same
wire_some number agent url want answer faults None (Some y) c l0 l1 last sends same reads answers = absurd sends.newest
wire_some number agent url want answer faults (Some x) None c l0 l1 last sends same reads answers = absurd sends.newest
wire_some number agent url want answer faults (Some x) (Some y) None l0 l1 last sends same reads answers = absurd same
wire_some number agent url want answer faults (Some x) (Some y) (Some z) l0 l1 last sends same reads answers =
    let made : Connection = record { port = number; gives = sends.gives; written = request_of url agent } in
    let is : z ≡ x ++ made ∷ [] = same ∙ sends.newest in
    inr (record {
      place = length x;
      connection = made;
      later = omega arith;
      at = subst (λ l. slice_get l (length x) ≡ Some made) (sym is) (get_behind x made);
      exchange = record {
        port = refl;
        written = refl;
        answered = of_connection want sends.gives reads.taken l1 answer (subst (λ l. Consumes l l1 reads.taken) sends.all_left reads.needed.reads.bytes) answers;
      };
    })

pub wire_told : (number : ℕ) (agent url : List ℕ) (want : Want) (answer : Answer) (f0 f1 : ℕ) (a b c : Option (List Connection)) (l0 l1 last : Option (List ℕ)) → Sends number (request_of url agent) a b l0
    → StaySame b c → ReadsAnswer want l0 l1 last answer → HasCause (answer ≡ NoReply) f0 f1 → by_wire number agent f1 c (how_many a) url want answer
wire_told number agent url want (Reply r) f0 f1 a b c l0 l1 last sends same reads cause = wire_some number agent url want (Reply r) f1 a b c l0 l1 last sends same reads reads.answers
wire_told number agent url want NoReply f0 f1 a b c l0 l1 last sends same reads cause = wire_none number agent f0 f1 c (how_many a) url want NoReply refl cause
wire_told number agent url want (Short n) f0 f1 a b c l0 l1 last sends same reads cause = wire_some number agent url want (Short n) f1 a b c l0 l1 last sends same reads reads.answers
wire_told number agent url want (BadReply n) f0 f1 a b c l0 l1 last sends same reads cause = wire_some number agent url want (BadReply n) f1 a b c l0 l1 last sends same reads reads.answers
wire_told number agent url want (TooLarge n) f0 f1 a b c l0 l1 last sends same reads cause = wire_some number agent url want (TooLarge n) f1 a b c l0 l1 last sends same reads reads.answers
wire_told number agent url want Coded f0 f1 a b c l0 l1 last sends same reads cause = wire_some number agent url want Coded f1 a b c l0 l1 last sends same reads reads.answers

pub wire_ok : {E : Type 0} (number : ℕ) (agent url bytes : List ℕ) (want : Want) (f0 f1 : ℕ) (a b c : Option (List Connection)) (l0 l1 last : Option (List ℕ)) (result : Result Answer E) → bytes ≡ request_of url agent
    → Sends number bytes a b l0 → StaySame b c → IfOk result (ReadsAnswer want l0 l1 last) → HasCause (result ≡ Ok NoReply) f0 f1 → IfOk result (by_wire number agent f1 c (how_many a) url want)
wire_ok number agent url bytes want f0 f1 a b c l0 l1 last (Ok answer) is sends same reads cause =
    wire_told number agent url want answer f0 f1 a b c l0 l1 last (subst (λ piece. Sends number piece a b l0) is sends) same reads (record { later = cause.later; rose = λ none. cause.rose (ap Ok none) })
wire_ok number agent url bytes want f0 f1 a b c l0 l1 last (Err e) is sends same reads cause = tt
