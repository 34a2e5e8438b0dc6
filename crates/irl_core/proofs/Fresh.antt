-- The fate of a URL: one that no pass has read is fresh, and one that was read is not.
use Rattle.std.proofs.Common.{◌≡◌, ◌≢◌, ℕ, ◌+◌, ◌<◌, ◌≤◌, arith, true}
use Rattle.irl_events.specs.Events.{has_number}
use Rattle.irl_fate.specs.declared.fate.Fate.TheVariants.{Fresh}
use Rattle.irl_fate.specs.Fates.{fate_of}
use Rattle.irl_fate.specs.Standing.{count, one_if, stands}
use Rattle.irl_fate.proofs.Counting.{one_true}
use Rattle.irl_core.specs.Steps.{CoreState, course, unread, url_numbers}
use Rattle.irl_core.specs.Laws.{IsCore}
use Rattle.irl_fate.proofs.Fresh.{nowhere_fresh, fresh_nowhere}
use Rattle.irl_fate.proofs.Waiting.{present_count}
use Rattle.irl_core.proofs.Keeping.{one_most}
use Rattle.irl_core.proofs.Numbers.{count_before}

pub unread_fresh : (x : CoreState) (n : ℕ) → IsCore x → has_number (unread x (url_numbers x)) n ≡ true → fate_of (course x) n ≡ Fresh
unread_fresh x n is there =
    let once : count n (unread x (url_numbers x)) + stands (course x) n ≡ one_if (has_number (url_numbers x) n) = is.once n in
    let least : 1 ≤ count n (unread x (url_numbers x)) = present_count (unread x (url_numbers x)) n there in
    let most : one_if (has_number (url_numbers x) n) ≤ 1 = one_most (has_number (url_numbers x) n) in
    nowhere_fresh (course x) n (omega arith)

pub read_stands : (x : CoreState) (n : ℕ) → IsCore x → has_number (url_numbers x) n ≡ true → n < (course x).read → fate_of (course x) n ≢ Fresh
read_stands x n is there lt h =
    let once : count n (unread x (url_numbers x)) + stands (course x) n ≡ one_if (has_number (url_numbers x) n) = is.once n in
    let none : count n (unread x (url_numbers x)) ≡ 0 = count_before n (course x).read (url_numbers x) lt in
    let one : one_if (has_number (url_numbers x) n) ≡ 1 = one_true (has_number (url_numbers x) n) there in
    let nowhere : stands (course x) n ≡ 0 = fresh_nowhere (course x) n h in
    omega arith
