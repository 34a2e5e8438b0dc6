-- The fetch of a host's robots file.
use Rattle.std.specs.Prelude.{◌≡◌, ℕ, List, [], ◌∷◌, ◌++◌, length, Result, OnOk, OnErr, IfOk}
use Rattle.irl_offer.specs.declared.note.Note.{Note}
use Rattle.irl_offer.specs.declared.reply.Answer.{Answer}
use Rattle.irl_robots.specs.Leave.{host_state}
use Rattle.irl_polite.specs.Schedule.{Schedule, handed_in}
use Rattle.irl_fetch.specs.Handling.{IsNoted, missing}
use Rattle.irl_fetch.specs.Telling.{Fetcher, GoesOn, MakesAtMost, RoseBy, given_since}

-- what was found of the host at this moment
pub record FindsNote (host : List ℕ) (when : ℕ) (note : Note) (old new : Fetcher) : Type 0 where
  pub answers : List Answer
  pub noted : IsNoted (given_since old new) (record { note = note; answers = answers })
  pub host_is : note.host ≡ host
  pub when_is : note.when ≡ when
  pub lost : RoseBy (missing answers) old.faults new.faults
  pub asked : MakesAtMost (length answers) old new

-- A note of the host, of this moment, by the answers that were given.
pub record FetchesNote {E : Type 0} (result : Result Note E) (host : List ℕ) (when : ℕ) (old new : Fetcher)
    : Type 0 where
  pub ok : IfOk result (λ note. FindsNote host when note old new)
  pub goes_on : GoesOn old new
  pub asked : MakesAtMost 6 old new

-- It is noted, and handed to the front.
pub record HandsIn {E : Type 0} (result : Result Unit E) (host : List ℕ) (when : ℕ) (old new : Fetcher)
    (before after : Schedule) (was now : List Note) : Type 0 where
  pub ok : OnOk result ((note : Note) × FindsNote host when note old new × (now ≡ was ++ note ∷ [])
      × (after ≡ handed_in before host (host_state note.state before.agent) when))
  pub err : OnErr result (after ≡ before)
  pub goes_on : GoesOn old new
  pub asked : MakesAtMost 6 old new
