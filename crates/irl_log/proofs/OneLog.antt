-- A log's file has one list of events.
use Rattle.std.proofs.Common.{◌≡◌, ℕ, List, [], ◌∷◌, refl}
use Rattle.irl_events.specs.Events.{Event}
use Rattle.irl_journal.proofs.Lists.{one_list}
use Rattle.irl_log.specs.Log.{AreLogged, HasEvents}
use Rattle.irl_log.specs.Spelling.{log_records, payload_of}
use Rattle.irl_log.proofs.OneEvent.{one_event}

logged_alike : (buckets : ℕ) (xs ys : List Event) → AreLogged buckets xs → AreLogged buckets ys → log_records xs ≡ log_records ys → xs ≡ ys
logged_alike buckets [] [] one two same = refl
logged_alike buckets [] (y ∷ ys) one two same = cc
logged_alike buckets (x ∷ xs) [] one two same = cc
logged_alike buckets (x ∷ xs) (y ∷ ys) one two same =
    let payload : payload_of x ≡ payload_of y = cc in
    let records : log_records xs ≡ log_records ys = cc in
    let event : x ≡ y = one_event buckets x y one.0 two.0 payload in
    let events : xs ≡ ys = logged_alike buckets xs ys one.1 two.1 records in
    rw (event, events) refl

pub one_log : (buckets : ℕ) (file : List ℕ) (xs ys : List Event) → HasEvents buckets file xs → HasEvents buckets file ys → xs ≡ ys
one_log buckets file xs ys one two = logged_alike buckets xs ys one.each two.each (one_list file (log_records xs) (log_records ys) one.records two.records)
