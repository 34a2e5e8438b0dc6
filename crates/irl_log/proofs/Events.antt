-- The records of lists of events.
use Rattle.std.proofs.Common.{◌≡◌, ◌∙◌, ℕ, List, [], ◌∷◌, ◌++◌, length, map, All, Some, zero, suc, refl, sym, ap, subst, append-nil}
use Rattle.std.proofs.lemmas.List.Concat.{flat_map-append}
use Rattle.std.proofs.lemmas.List.Elements.{All-from_recursion}
use Rattle.std.proofs.lemmas.List.{length-map}
use Rattle.std.proofs.lemmas.Option.{slice_get-map, slice_get_within, get_or_from_slice_get}
use Rattle.std.specs.Option.{option_map}
use Rattle.std.specs.List.{AllByRecursion, slice_get}
use Rattle.irl_events.specs.Events.{Event}
use Rattle.irl_events.specs.Seen.{seen}
use Rattle.irl_events.specs.declared.event.Event.{Event as Declared}
use Rattle.irl_journal.specs.Format.{IsPayload, record_text, records_text}
use Rattle.irl_log.specs.Log.{AreLogged}
use Rattle.irl_log.specs.Spelling.{payload_of, records_of, log_records}
use Rattle.irl_log.proofs.OneEvent.{one_event}

-- the records of two lists
pub records-append : (xs ys : List Event) → log_records (xs ++ ys) ≡ log_records xs ++ log_records ys
records-append xs ys = flat_map-append records_of xs ys

-- how many bytes one record takes
pub length-record : (payload : List ℕ) → length (records_text (payload ∷ [])) ≡ length (record_text payload)
length-record payload = ap length (append-nil (record_text payload))

-- ---- what a log may have
module _ (buckets : ℕ) where
  pub logged_both : (xs ys : List Event) → AreLogged buckets xs → AreLogged buckets ys → AreLogged buckets (xs ++ ys)
  logged_both [] ys each more = more
  logged_both (x ∷ xs) ys each more = (each.0, logged_both xs ys each.1 more)

  pub logged_first : (xs ys : List Event) → AreLogged buckets (xs ++ ys) → AreLogged buckets xs
  logged_first [] ys each = tt
  logged_first (x ∷ xs) ys each = (each.0, logged_first xs ys each.1)

  pub logged_rest : (xs ys : List Event) → AreLogged buckets (xs ++ ys) → AreLogged buckets ys
  logged_rest [] ys each = each
  logged_rest (x ∷ xs) ys each = logged_rest xs ys each.1

  each-fits : (xs : List Event) → AreLogged buckets xs → AllByRecursion IsPayload (log_records xs)
  each-fits [] each = tt
  each-fits (x ∷ xs) each = (each.0.fits, each-fits xs each.1)

  -- records have room for them
  pub all_fit : (xs : List Event) → AreLogged buckets xs → All IsPayload (log_records xs)
  all_fit xs each = All-from_recursion IsPayload (log_records xs) (each-fits xs each)

  -- events are known by their records
  pub one_log : (xs ys : List Event) → AreLogged buckets xs → AreLogged buckets ys → log_records xs ≡ log_records ys → xs ≡ ys
  one_log [] [] a b same = refl
  one_log [] (y ∷ ys) a b same = cc
  one_log (x ∷ xs) [] a b same = cc
  one_log (x ∷ xs) (y ∷ ys) a b same =
      let first : x ≡ y = one_event buckets x y a.0 b.0 (cc) in
      let rest : xs ≡ ys = one_log xs ys a.1 b.1 (cc) in
      cc

-- ---- one of them
-- there are as many as events
pub length-log : (xs : List Event) → length (log_records xs) ≡ length xs
length-log [] = refl
length-log (x ∷ xs) = ap (λ (n : ℕ). suc n) (length-log xs)

-- that of an event stands where the event does
record_at : (xs : List Event) (i : ℕ) (x : Event) → slice_get xs i ≡ Some x → slice_get (log_records xs) i ≡ Some (payload_of x)
record_at [] i x is = cc
record_at (y ∷ xs) zero x is = let same : y ≡ x = cc in ap (λ (e : Event). Some (payload_of e)) same
record_at (y ∷ xs) (suc i) x is = record_at xs i x is

pub record_seen : (events : List Declared) (i : ℕ) (event : Declared) → slice_get events i ≡ Some event → slice_get (log_records (map seen events)) i ≡ Some (payload_of (seen event))
record_seen events i event there =
    let is_seen : slice_get (map seen events) i ≡ Some (seen event) = slice_get-map seen events i ∙ ap (option_map seen) there in
    record_at (map seen events) i (seen event) is_seen

pub payload_at : (events : List Declared) (i : ℕ) (event : Declared) (payload : List ℕ) → slice_get events i ≡ Some event → slice_get (log_records (map seen events)) i ≡ Some payload
    → payload ≡ payload_of (seen event)
payload_at events i event payload there is =
    let same : Some payload ≡ Some (payload_of (seen event)) = sym is ∙ record_seen events i event there in
    cc

pub length-seen : (events : List Declared) → length (log_records (map seen events)) ≡ length events
length-seen events = length-log (map seen events) ∙ length-map events seen

-- a record has room for it
pub fits_at : (events : List Declared) (i : ℕ) (event : Declared) → All IsPayload (log_records (map seen events)) → slice_get events i ≡ Some event → IsPayload (payload_of (seen event))
fits_at events i event all there =
    let records = log_records (map seen events) in
    let is = record_seen events i event there in
    subst IsPayload (get_or_from_slice_get records i (payload_of (seen event)) [] is) (all i [] (slice_get_within records i (payload_of (seen event)) is))

-- a record among those of events is that of one
pub record Parts (events : List Event) (first : List (List ℕ)) (payload : List ℕ) (more : List (List ℕ)) : Type 0 where
  pub front : List Event
  pub event : Event
  pub rest : List Event
  pub among : events ≡ front ++ event ∷ rest
  pub first_are : first ≡ log_records front
  pub payload_is : payload ≡ payload_of event
  pub more_are : more ≡ log_records rest

pub parts_of : (events : List Event) (first : List (List ℕ)) (payload : List ℕ) (more : List (List ℕ)) → log_records events ≡ first ++ payload ∷ more → Parts events first payload more
parts_of [] [] payload more are = cc
parts_of [] (p ∷ first) payload more are = cc
parts_of (x ∷ xs) [] payload more are = record { front = []; event = x; rest = xs; among = refl; first_are = refl; payload_is = cc; more_are = cc }
parts_of (x ∷ xs) (p ∷ first) payload more are =
    let tail : log_records xs ≡ first ++ payload ∷ more = cc in
    let head : p ≡ payload_of x = cc in
    let parts = parts_of xs first payload more tail in
    record {
      front = x ∷ parts.front;
      event = parts.event;
      rest = parts.rest;
      among = ap (λ (es : List Event). x ∷ es) parts.among;
      first_are = ap (λ (ps : List (List ℕ)). p ∷ ps) parts.first_are ∙ ap (λ (q : List ℕ). q ∷ log_records parts.front) head;
      payload_is = parts.payload_is;
      more_are = parts.more_are;
    }
