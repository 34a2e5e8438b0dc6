-- What a wider relation of answers says of tapes.
use Rattle.std.proofs.Common.{◌≡◌, ℕ, List, refl}
use Rattle.irl_offer.specs.declared.reply.Want.TheVariants.{Page}
use Rattle.irl_record.specs.Fetched.{by_tape}
use Rattle.irl_record.specs.Taped.{Taped, record_at, answer_of}
use Rattle.irl_record.specs.Widening.{Widens}

-- by a tape there is one answer to each URL, so the answers of two tapes of which one is wider are the same
pub same_answers : (old new : Taped) → Widens (by_tape old) (by_tape new) → (url : List ℕ) → answer_of (record_at old.records url) ≡ answer_of (record_at new.records url)
same_answers old new wider url = wider url Page (answer_of (record_at old.records url)) refl
