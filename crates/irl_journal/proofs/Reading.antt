-- Reading the records of a file piece by piece.
use Rattle.std.proofs.Common.{◌≡◌, ◌≢◌, ◌∙◌, ◌⊎◌, ⊎_elim, inl, inr, ℕ, ◌+◌, ◌-◌, ◌<◌, ◌≤◌, min, List, [], ◌∷◌, ◌++◌, length, take, drop, Bool, true, false, append_assoc, sym, ap, subst, refl, arith, suc, length-append, length-take, length-take-le, length-drop}
use Rattle.std.proofs.lemmas.List.{drop-drop, take-append-drop, take-append-le, drop-append-le}
use Rattle.std.proofs.lemmas.Grind.{flat_map-append}
use Rattle.std.proofs.Math.Seq.{take-add, take-append-add, take-append_seam, drop-append_seam}
use Rattle.std.specs.List.{AllByRecursion}
use Rattle.irl_disk.specs.Disk.{Reads}
use Rattle.irl_journal.specs.Format.{open_gate, body_text, records_text, placed_from, IsPayload, HasNoRecord, record_text}
use Rattle.irl_journal.specs.Visiting.{TookUpTo, TakesAll, HandsOver, StopsAt, RefusesAt}
use Rattle.irl_journal.proofs.Lists.{length-body, records-cons}

-- the text of records, and behind them more
pub records-append : (xs ys : List (List ℕ)) → records_text (xs ++ ys) ≡ records_text xs ++ records_text ys
records-append xs ys = flat_map-append (λ (payload : List ℕ). open_gate ∷ body_text payload) xs ys

-- each payload may stand in a record
pub each-append : (xs ys : List (List ℕ)) → AllByRecursion IsPayload xs → AllByRecursion IsPayload ys → AllByRecursion IsPayload (xs ++ ys)
each-append [] ys h k = k
each-append (x ∷ xs) ys h k = (h.0, each-append xs ys h.1 k)

-- a first record takes five bytes and its payload
pub length-cons : (x : List ℕ) (xs : List (List ℕ)) → length (records_text (x ∷ xs)) ≡ 5 + length x + length (records_text xs)
length-cons x xs = omega (arith, length-append (open_gate ∷ body_text x) (records_text xs), length-body x)

-- only no records take no bytes
pub no_records : (payloads : List (List ℕ)) → length (records_text payloads) ≡ 0 → payloads ≡ []
no_records [] none = refl
no_records (payload ∷ payloads) none = absurd (omega (arith, none, length-cons payload payloads))

-- a piece of the bytes from a gate on: as many from this one on as there are, at most as the buffer has
pub record IsPiece (bytes chunk : List ℕ) (n count : ℕ) : Type 0 where
  pub is : chunk ≡ take count (drop n bytes)
  pub most : count ≡ min (min (length bytes) 16777222) (length bytes - n)
  pub some : 1 ≤ length chunk

module _ {V : Type 0} (takes : V → ℕ → List ℕ → V → Type 0) where
  -- records, and behind them more
  pub takes-append : (at next : ℕ) (old mid new : V) (xs ys : List (List ℕ)) → TakesAll takes old (placed_from at xs) mid → next ≡ at + length (records_text xs)
      → TakesAll takes mid (placed_from next ys) new → TakesAll takes old (placed_from at (xs ++ ys)) new
  takes-append at next old mid new [] ys front is behind =
      let same : next ≡ at = omega arith in
      subst (λ (v : V). TakesAll takes v (placed_from at ys) new) front (subst (λ (n : ℕ). TakesAll takes mid (placed_from n ys) new) same behind)
  takes-append at next old mid new (x ∷ xs) ys front is behind =
      let further : next ≡ at + length (record_text x) + length (records_text xs) = omega (arith, length-append (record_text x) (records_text xs)) in
      (front.0, front.1, takes-append (at + length (record_text x)) next front.0 mid new xs ys front.2 further behind)

  -- the bytes are these records, which the visitor took, and then the rest
  pub record AreTaken (old now : V) (at : ℕ) (bytes rest : List ℕ) (payloads : List (List ℕ)) : Type 0 where
    pub each : AllByRecursion IsPayload payloads
    pub text : bytes ≡ records_text payloads ++ rest
    pub took : TakesAll takes old (placed_from at payloads) now
    pub more : 1 ≤ length bytes → 1 ≤ length rest

  -- how many bytes the records in front of the rest take
  pub length-taken : (old now : V) (at : ℕ) (bytes rest : List ℕ) (payloads : List (List ℕ)) → AreTaken old now at bytes rest payloads → length bytes ≡ length (records_text payloads) + length rest
  length-taken old now at bytes rest payloads so_far = ap length so_far.text ∙ length-append (records_text payloads) rest

  -- one record more
  pub takes-record : (old now next : V) (at place : ℕ) (bytes rest payload behind : List ℕ) (payloads : List (List ℕ)) → AreTaken old now at bytes rest payloads → IsPayload payload → rest
      ≡ open_gate ∷ body_text payload ++ behind → 1 ≤ length behind → place ≡ at + (length bytes - length rest) → takes now place payload next
      → AreTaken old next at bytes behind (payloads ++ payload ∷ [])
  takes-record old now next at place bytes rest payload behind payloads so_far fits begins more is took =
      let one : records_text (payload ∷ []) ++ behind ≡ rest = records-cons payload [] behind ∙ sym begins in
      record {
        each = each-append payloads (payload ∷ []) so_far.each (fits, tt);
        text = so_far.text ∙ ap (λ (bs : List ℕ). records_text payloads ++ bs) (sym one) ∙ sym (append_assoc (records_text payloads) (records_text (payload ∷ [])) behind)
            ∙ ap (λ (bs : List ℕ). bs ++ behind) (sym (records-append payloads (payload ∷ [])));
        took = takes-append at place old now next payloads (payload ∷ []) so_far.took (omega (arith, is, length-taken old now at bytes rest payloads so_far)) (next, took, refl);
        more = λ some. more;
      }

  -- no record more
  pub hands-over : (old now : V) (at n : ℕ) (is_closed : Bool) (bytes rest : List ℕ) (payloads : List (List ℕ)) → AreTaken old now at bytes rest payloads → HasNoRecord rest → n
      ≡ length bytes - length rest → (is_closed ≡ true → (gate : ℕ) × (tail : List ℕ) × (rest ≡ gate ∷ tail) × (gate ≢ open_gate))
      → (is_closed ≡ false → (rest ≡ []) ⊎ ((tail : List ℕ) × (rest ≡ open_gate ∷ tail))) → HandsOver takes old now at n is_closed bytes
  hands-over old now at n is_closed bytes rest payloads so_far none is closed open_ =
      let long = length-taken old now at bytes rest payloads so_far in
      let front : n ≡ length (records_text payloads) = omega arith in
      let behind : drop n bytes ≡ rest = rw (front, so_far.text) (drop-append_seam (records_text payloads) rest) in
      record {
        payloads = payloads;
        each = so_far.each;
        within = omega arith;
        more = λ some. omega (arith, so_far.more some);
        front = rw (front, so_far.text) (take-append_seam (records_text payloads) rest);
        took = so_far.took;
        ended = λ yes. let next = closed yes in (next.0, next.1, behind ∙ next.2, next.3);
        cut_short = λ no. (
          rw behind none,
          ⊎_elim (λ (e : rest ≡ []). inl (behind ∙ e)) (λ (next : (tail : List ℕ) × (rest ≡ open_gate ∷ tail)). inr (next.0, behind ∙ next.1)) (open_ no),
        );
      }

  -- the first bytes of those from a gate on are records that the visitor took, up to this place of the file; of bytes that there
  -- are they leave at least the next gate
  pub record HasRead (old now : V) (from at : ℕ) (bytes : List ℕ) : Type 0 where
    pub payloads : List (List ℕ)
    pub count : ℕ
    pub place : at ≡ from + count
    pub each : AllByRecursion IsPayload payloads
    pub within : count ≤ length bytes
    pub more : 1 ≤ length bytes → count < length bytes
    pub front : take count bytes ≡ records_text payloads
    pub took : TakesAll takes old (placed_from from payloads) now

  -- records that were taken, whatever the file has: none yet, and more of them
  pub took-none : (visitor : V) (from : ℕ) → TookUpTo takes visitor visitor from from
  took-none visitor from = record { payloads = []; place = omega arith; took = refl }

  pub took-on : (old now next : V) (from at k : ℕ) (is_closed : Bool) (chunk : List ℕ) → TookUpTo takes old now from at → HandsOver takes now next at k is_closed chunk
      → TookUpTo takes old next from (at + k)
  took-on old now next from at k is_closed chunk so_far handed =
      let long : k ≡ length (records_text handed.payloads) = sym (length-take-le k chunk handed.within) ∙ ap length handed.front in
      let both = length-append (records_text so_far.payloads) (records_text handed.payloads) in
      record {
        payloads = so_far.payloads ++ handed.payloads;
        place = omega (arith, so_far.place, both, ap length (records-append so_far.payloads handed.payloads));
        took = takes-append from at old now next so_far.payloads handed.payloads so_far.took so_far.place handed.took;
      }

  -- no records yet
  pub reads-none : (visitor : V) (from : ℕ) (bytes : List ℕ) → HasRead visitor visitor from from bytes
  reads-none visitor from bytes = record { payloads = []; count = 0; place = omega arith; each = tt; within = omega arith; more = λ some. omega arith; front = refl; took = refl }

  -- how many bytes the records take that were read
  length-read : (old now : V) (from at : ℕ) (bytes : List ℕ) (so_far : HasRead old now from at bytes) → so_far.count ≡ length (records_text so_far.payloads)
  length-read old now from at bytes so_far = sym (length-take-le so_far.count bytes so_far.within) ∙ ap length so_far.front

  -- what stands behind those that were read, as parts of a piece
  rest_of : (bytes chunk : List ℕ) (n count : ℕ) → chunk ≡ take count (drop n bytes) → drop n bytes ≡ chunk ++ drop count (drop n bytes)
  rest_of bytes chunk n count is = sym (take-append-drop count (drop n bytes)) ∙ ap (λ (bs : List ℕ). bs ++ drop count (drop n bytes)) (sym is)

  -- what stands behind the records of a piece too
  behind_of : (bytes chunk : List ℕ) (n count k : ℕ) → chunk ≡ take count (drop n bytes) → k ≤ length chunk → (take k (drop n bytes) ≡ take k chunk)
      × (drop k (drop n bytes) ≡ drop k chunk ++ drop count (drop n bytes))
  behind_of bytes chunk n count k is within =
      let whole = rest_of bytes chunk n count is in (
        ap (take k) whole ∙ take-append-le k chunk (drop count (drop n bytes)) within,
        ap (drop k) whole ∙ drop-append-le k chunk (drop count (drop n bytes)) within,
      )

  -- the records of one piece more
  pub reads-on : (old now next : V) (from at : ℕ) (bytes chunk : List ℕ) (count k : ℕ) (is_closed : Bool) (so_far : HasRead old now from at bytes) → HandsOver takes now next at k is_closed chunk
      → IsPiece bytes chunk so_far.count count → HasRead old next from (at + k) bytes
  reads-on old now next from at bytes chunk count k is_closed so_far handed piece =
      let n = so_far.count in
      let parts = behind_of bytes chunk n count k piece.is handed.within in
      let few : length chunk ≡ min count (length (drop n bytes)) = ap length piece.is ∙ length-take count (drop n bytes) in
      let below : n + k < length bytes = omega (arith, few, handed.more piece.some, length-drop n bytes) in
      record {
        payloads = so_far.payloads ++ handed.payloads;
        count = n + k;
        place = omega (arith, so_far.place);
        each = each-append so_far.payloads handed.payloads so_far.each handed.each;
        within = omega arith;
        more = λ some. below;
        front = take-add n k bytes ∙ ap (λ (bs : List ℕ). bs ++ take k (drop n bytes)) so_far.front ∙ ap (λ (bs : List ℕ). records_text so_far.payloads ++ bs) (parts.0 ∙ handed.front)
            ∙ sym (records-append so_far.payloads handed.payloads);
        took = takes-append from at old now next so_far.payloads handed.payloads so_far.took (omega (arith, so_far.place, length-read old now from at bytes so_far)) handed.took;
      }

  -- a piece with a closed gate behind its records
  pub ends-there : (old now next : V) (from at : ℕ) (bytes chunk : List ℕ) (count k : ℕ) (so_far : HasRead old now from at bytes) → HandsOver takes now next at k true chunk
      → IsPiece bytes chunk so_far.count count → StopsAt takes old next from true bytes (at + k)
  unfolding reads-on
  ends-there old now next from at bytes chunk count k so_far handed piece =
      let n = so_far.count in
      let read = reads-on old now next from at bytes chunk count k true so_far handed piece in
      let parts = behind_of bytes chunk n count k piece.is handed.within in
      let closed = handed.ended refl in
      let behind : drop (n + k) bytes ≡ closed.0 ∷ closed.1 ++ drop count (drop n bytes) = sym (drop-drop k n bytes) ∙ parts.1 ∙ ap (λ (bs : List ℕ). bs ++ drop count (drop n bytes)) closed.2 in
      record {
        count = n + k;
        place = read.place;
        handed = record {
          payloads = read.payloads;
          each = read.each;
          within = read.within;
          more = read.more;
          front = read.front;
          took = read.took;
          ended = λ is. (closed.0, closed.1 ++ drop count (drop n bytes), behind, closed.3);
          cut_short = λ is. cc;
        };
      }

  -- where no whole record stands, records that were read stop
  stops-cut : (old now : V) (from at : ℕ) (bytes : List ℕ) (so_far : HasRead old now from at bytes) → HasNoRecord (drop so_far.count bytes) → (drop so_far.count bytes ≡ [])
      ⊎ ((rest : List ℕ) × (drop so_far.count bytes ≡ open_gate ∷ rest)) → StopsAt takes old now from false bytes at
  stops-cut old now from at bytes so_far none open_ = record {
    count = so_far.count;
    place = so_far.place;
    handed = record {
      payloads = so_far.payloads;
      each = so_far.each;
      within = so_far.within;
      more = so_far.more;
      front = so_far.front;
      took = so_far.took;
      ended = λ is. cc;
      cut_short = λ is. (none, open_);
    };
  }

  -- a piece that begins with no closed gate and no whole record
  pub breaks-there : (old now next : V) (from at : ℕ) (bytes chunk : List ℕ) (count : ℕ) (so_far : HasRead old now from at bytes) → HandsOver takes now next at 0 false chunk
      → IsPiece bytes chunk so_far.count count → StopsAt takes old next from false bytes at
  breaks-there old now next from at bytes chunk count so_far handed piece =
      let n = so_far.count in
      let rest = drop n bytes in
      let whole = rest_of bytes chunk n count piece.is in
      let cut = handed.cut_short refl in
      let nothing : handed.payloads ≡ [] = no_records handed.payloads (ap length (sym handed.front)) in
      let same : now ≡ next = sym (subst (λ (ps : List (List ℕ)). TakesAll takes now (placed_from at ps) next) nothing handed.took) in
      let none : HasNoRecord rest = λ payload more gate fits is.
      let record_ = open_gate ∷ body_text payload in
      let size : length record_ ≡ 5 + length payload = omega (arith, length-body payload) in
      let many : length bytes - n ≡ length record_ + length (gate ∷ more) = sym (length-drop n bytes) ∙ ap length is ∙ length-append record_ (gate ∷ more) in
      let most = piece.most in
      let split : count ≡ length record_ + suc (count - length record_ - 1) = omega (arith, fits) in
      let front : chunk ≡ record_ ++ gate ∷ take (count - length record_ - 1) more =
      piece.is ∙ ap (take count) is ∙ ap (λ (k : ℕ). take k (record_ ++ gate ∷ more)) split ∙ take-append-add record_ (gate ∷ more) (suc (count - length record_ - 1)) in
      cut.0 payload (take (count - length record_ - 1) more) gate fits front in
      let read : HasRead old next from at bytes = subst (λ (v : V). HasRead old v from at bytes) same so_far in
      ⊎_elim
      (λ (e : chunk ≡ []). absurd (omega (arith, piece.some, ap length e)))
      (λ (begun : (tail : List ℕ) × (chunk ≡ open_gate ∷ tail)).
      let begins : rest ≡ open_gate ∷ begun.0 ++ drop count rest = whole ∙ ap (λ (bs : List ℕ). bs ++ drop count rest) begun.1 in
      subst (λ (v : V). StopsAt takes old v from false bytes at) same (stops-cut old now from at bytes so_far none (inr (begun.0 ++ drop count rest, begins))))
      cut.1

  -- a piece whose records the visitor refuses
  pub refuses-there : (refuses : V → ℕ → List ℕ → V → Type 0) (old now next : V) (from at : ℕ) (bytes chunk : List ℕ) (count place : ℕ) (so_far : HasRead old now from at bytes)
      → RefusesAt takes refuses now next at chunk place → IsPiece bytes chunk so_far.count count → RefusesAt takes refuses old next from bytes place
  refuses-there refuses old now next from at bytes chunk count place so_far refusal piece =
      let n = so_far.count in
      let here = length-read old now from at bytes so_far in
      let front = records_text so_far.payloads in
      let record_ = open_gate ∷ body_text refusal.payload in
      let more = drop count (drop n bytes) in
      let whole : bytes ≡ front ++ ((records_text refusal.payloads ++ record_ ++ refusal.behind) ++ more) =
      sym (take-append-drop n bytes) ∙ ap (λ (bs : List ℕ). bs ++ drop n bytes) so_far.front
      ∙ ap (λ (bs : List ℕ). front ++ bs) (rest_of bytes chunk n count piece.is ∙ ap (λ (bs : List ℕ). bs ++ more) refusal.bytes_are) in
      let apart : front ++ ((records_text refusal.payloads ++ record_ ++ refusal.behind) ++ more) ≡ (front ++ records_text refusal.payloads) ++ record_ ++ (refusal.behind ++ more) =
      simp append_assoc in
      record {
        payloads = so_far.payloads ++ refusal.payloads;
        payload = refusal.payload;
        behind = refusal.behind ++ more;
        bytes_are = whole ∙ apart ∙ ap (λ (bs : List ℕ). bs ++ record_ ++ (refusal.behind ++ more)) (sym (records-append so_far.payloads refusal.payloads));
        more = omega (arith, refusal.more, length-append refusal.behind more);
        each = each-append so_far.payloads refusal.payloads so_far.each refusal.each;
        fits = refusal.fits;
        place_is = omega (arith, refusal.place_is, so_far.place, here, length-append front (records_text refusal.payloads), ap length (records-append so_far.payloads refusal.payloads));
        reached = refusal.reached;
        took = takes-append from at old now refusal.reached so_far.payloads refusal.payloads so_far.took (omega (arith, so_far.place, here)) refusal.took;
        refused = refusal.refused;
      }

-- what was read into a buffer's front
chunk_of : (into more buffer : List ℕ) (len count : ℕ) → buffer ≡ take len (into ++ more) → length into ≡ len → take count buffer ≡ take count into
chunk_of into more buffer len count is fits = ap (take count) (is ∙ ap (λ (k : ℕ). take k (into ++ more)) (sym fits) ∙ take-append_seam into more)

-- a read into a buffer's front gave a piece
pub piece_read : (into more buffer file : List ℕ) (len from at n count : ℕ) → buffer ≡ take len (into ++ more) → length into ≡ len → Reads at (length into) count into file → len
    ≡ min (length file - from) 16777222 → at < length file → at ≡ from + n → IsPiece (drop from file) (take count buffer) n count
piece_read into more buffer file len from at n count is fits read room within place =
    let bytes = drop from file in
    let size : length bytes ≡ length file - from = length-drop from file in
    let there : drop at file ≡ drop n bytes = ap (λ (k : ℕ). drop k file) place ∙ sym (drop-drop n from file) in
    let chunk : take count buffer ≡ take count (drop n bytes) = chunk_of into more buffer len count is fits ∙ read.bytes ∙ ap (take count) there in
    let some_left : count ≡ min len (length file - at) = read.count ∙ ap (λ (k : ℕ). min k (length file - at)) fits in
    let most : count ≡ min (min (length bytes) 16777222) (length bytes - n) = omega (arith, some_left, room, size, place) in
    let few : length (take count buffer) ≡ min count (length (drop n bytes)) = ap length chunk ∙ length-take count (drop n bytes) in
    record { is = chunk; most = most; some = omega (arith, few, most, length-drop n bytes) }
