-- What the calls give by their answers.
use Rattle.std.proofs.Common.{◌≡◌, ℕ, Bool, true, false, [], Result, Ok, OnOk, OnErr, refl, sym, subst, arith}
use Rattle.std.proofs.lemmas.List.Elements.{All-nil}
use Rattle.irl_array.specs.Waiting.{Waiting}
use Rattle.irl_base.specs.declared.fault.Fault.{Fault}
use Rattle.irl_offer.specs.Buckets.{bucket_of}
use Rattle.irl_offer.specs.Tuple.{Tuple}
use Rattle.irl_offer.specs.declared.settings.Settings.{Settings}
use Rattle.irl_bay.specs.Drum.{Drum, pending_at}
use Rattle.irl_schedule.specs.Calls.{MergesIfDue}
use Rattle.irl_schedule.specs.Feeding.{IsArrayOf}
use Rattle.irl_schedule.specs.Schedule.{IsDue}
use Rattle.irl_schedule.proofs.Outcomes.{by_answer, if_gives, ok_gives}

-- ---- an array
-- that was emptied, or kept its offers
pub emptied_array : (settings : Settings) (b : ℕ) (was now : Waiting) → IsArrayOf settings b was → now ≡ record { room = was.room; items = [] } → IsArrayOf settings b now
emptied_array settings b was now is emptied = subst (IsArrayOf settings b) (sym emptied) (record {
  room = is.room;
  few = omega arith;
  offers = All-nil (λ (offer : Tuple). bucket_of settings.buckets offer.key ≡ b);
})

pub array_after : (settings : Settings) (b : ℕ) (result : Result Unit Fault) (was now : Waiting) → IsArrayOf settings b was → OnOk result (now ≡ record { room = was.room; items = [] })
    → OnErr result (now ≡ was) → IsArrayOf settings b now
array_after settings b result was now is emptied kept =
    by_answer result emptied kept (λ none. emptied_array settings b was now is none) (λ same. subst (IsArrayOf settings b) (sym same) is)

-- ---- the merge that is due
module _ {S : Type 0} (result : Result Bool Fault) (old new : Drum) (before after : S) (merges : MergesIfDue result old new before after) where
  -- it ran
  pub ran_due : result ≡ Ok true → IsDue old
  ran_due is = (if_gives result true _ merges.ran is).0 refl

  pub ran_judged : result ≡ Ok true → (b : ℕ) → pending_at new b ≡ 0
  ran_judged is = if_gives result true _ merges.judged is refl

  -- or none was due, and nothing was done
  pub none_due : result ≡ Ok false → IsDue old → ⊥
  none_due is due = let differs : false ≡ true = (if_gives result false _ merges.ran is).1 due in let no : ⊥ = cc in no

  pub none_done : result ≡ Ok false → (new ≡ old) × (after ≡ before)
  none_done is = let same = merges.idle (none_due is) in (same.1, same.2)

  -- from then on none is
  pub then_ready : {value : Bool} → result ≡ Ok value → IsDue new → ⊥
  then_ready {value} is = ok_gives result value merges.ready is
