-- What a fetcher over a port keeps: its laws as a fetcher.
use Rattle.std.specs.Prelude.{ℕ, ◌≤◌, List, Option, None, Some}
use Rattle.std.proofs.Common.{inl, inr, arith}
use Rattle.std.proofs.lemmas.Option.{slice_get_within}
use Rattle.irl_http.specs.declared.link.Connection.{Connection}
use Rattle.irl_record.specs.Widening.{Widens}
use Rattle.irl_record.specs.Wired.{by_wire, how_many}

-- an answer since a count is one since each count before it
pub wire_earlier : (number : ℕ) (agent : List ℕ) (faults : ℕ) (made : Option (List Connection)) (since later : ℕ)
    → since ≤ later → Widens (by_wire number agent faults made later) (by_wire number agent faults made since)
wire_earlier number agent faults None since later before url want answer given = tt
wire_earlier number agent faults (Some made) since later before url want answer (inl none) = inl none
wire_earlier number agent faults (Some made) since later before url want answer (inr had) = inr (record {
  place = had.place;
  connection = had.connection;
  later = omega (arith, before, had.later);
  at = had.at;
  exchange = had.exchange;
})

-- no connection stands past the last one
pub wire_nothing_new : (number : ℕ) (agent : List ℕ) (faults : ℕ) (made : Option (List Connection)) (since : ℕ)
    → Widens (by_wire number agent faults made (how_many made)) (by_wire number agent faults made since)
wire_nothing_new number agent faults None since url want answer given = tt
wire_nothing_new number agent faults (Some made) since url want answer (inl none) = inl none
wire_nothing_new number agent faults (Some made) since url want answer (inr had) =
    let within = slice_get_within made had.place had.connection had.at in
    absurd (omega (arith, within, had.later))
