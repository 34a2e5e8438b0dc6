use Rattle.std.proofs.Common.{List, [], ◌∷◌, ◌++◌, inl, inr, refl, subst, append-nil, arith}
use Rattle.irl_offer.specs.Tuple.{Tuple}
use Rattle.irl_schedule.specs.Schedule.{none_more, one_more}
use Rattle.irl_top.specs.Session.{place_of, ReadsOnTold, EndsTold, EndsWith}
use Rattle.irl_top.specs.Message.{ending_of}
use Rattle.irl_top.specs.declared.ending.Ending.TheVariants.{Done, NoMemory}
use Rattle.irl_top.proofs.InputLines.{start, told_none, told_both, read_some, read_all}
use Rattle.irl_top.proofs.Going.{goes_on_both, goes_on_ends, reason_then}
use Rattle.irl_top.proofs.Calls.{few_wait, stop_here, ends_lifted, input_done, input_full, memory_plain, no_line_of, err_is}
use Rattle.irl_top.proofs.Stepping.{went_none}
use Rattle.irl_top.proofs.filter.take_in.Goals as goal

pub offers-init : goal.offers-init
offers-init g c =
    let law = g.met.S.Store.is_consistent c.args.intake.now.yard.store in
    let before = place_of g.O.Sink.written g.O.Sink.faults c.args.intake.now c.args.output.now c.args.printed.now in (
      [],
      record {
        reads = rw c.in_ok-lines.ensures (told_none c.args.kind start (g.I.Source.left c.args.input.now));
        went = went_none c.args.kind before law c.is_sound-is_sound.ensures.drum c.requires.whole;
        sound = c.requires.sound;
        later = omega arith;
      },
    )

pub returns-in_err-lines-clause-ends : goal.returns-in_err-lines-clause-ends
returns-in_err-lines-clause-ends g c =
    let left = g.I.Source.left in
    let law = g.met.S.Store.is_consistent c.args.intake.now.yard.store in
    let before = place_of g.O.Sink.written g.O.Sink.faults c.args.intake.now c.args.output.now c.args.printed.now in
    rw (err_is c.from_residual.result NoMemory c.from_residual.ensures.1) (
      [],
      read_some c.args.kind start (left c.args.input.now) (left c.args.input.now) (left c.args.input.now) [] NoMemory (told_none c.args.kind start (left c.args.input.now)) (λ is. let no : ⊥ = cc in
          absurd no) (λ n is. let no : ⊥ = cc in absurd no),
      stop_here c.args.kind before NoMemory law c.is_sound-is_sound.ensures.drum
          (few_wait before.moment.drum before.moment.drum c.args.intake.now.arrays.items refl c.args.intake.now.arrays_are) (λ is. let no : ⊥ = cc in absurd no) (λ b is. let no : ⊥ = cc in
          absurd no) (λ all. absurd (memory_plain.printed all)),
    )

pub returns-in_err-offer-clause-ends : goal.returns-in_err-offer-clause-ends
returns-in_err-offer-clause-ends g c =
    let left = g.I.Source.left in
    let i = c.offers.invariant.1 in
    let news = c.offers.invariant.0 in
    let h = c.in_err-offer.ensures in
    let ending = c.in_err-offer.field-0.0 in
    let before = place_of g.O.Sink.written g.O.Sink.faults c.args.intake.now c.args.output.now c.args.printed.now in
    let now = place_of g.O.Sink.written g.O.Sink.faults c.offers.intake c.offers.output c.offers.printed in
    rw (err_is c.from_residual-in_err-offer.result ending c.from_residual-in_err-offer.ensures.1) (
      news,
      read_some c.args.kind c.offers.lines (left c.args.input.now) (left c.offers.input) (left c.next_offer.new.input) news ending i.reads (input_done ending h.kinds) (λ n is.
          h.refused n (rw is refl)),
      subst (λ (l : List Tuple). EndsWith c.args.kind 1 one_more l before now ending) (append-nil news)
          (goes_on_ends c.args.kind 0 1 none_more one_more news [] before now now ending i.went.reason.stays i.went.goes
          (stop_here c.args.kind now ending (g.met.S.Store.is_consistent c.offers.intake.yard.store) c.is_sound-is_sound-in-offers.ensures.drum
          (few_wait now.moment.drum now.moment.drum c.offers.intake.arrays.items refl c.offers.intake.arrays_are) (input_done ending h.kinds)
          (input_full ending h.kinds) (λ all. i.went.whole))),
    )

pub offers-preserved : goal.offers-preserved
offers-preserved g c =
    let left = g.I.Source.left in
    let i = c.offers.invariant.1 in
    let news = c.offers.invariant.0 in
    let offer = c.in-Some.offer in
    let h = c.in_ok-take_offer-in-Some.ensures in
    let before = place_of g.O.Sink.written g.O.Sink.faults c.args.intake.now c.args.output.now c.args.printed.now in
    let now = place_of g.O.Sink.written g.O.Sink.faults c.offers.intake c.offers.output c.offers.printed in
    let new = place_of g.O.Sink.written g.O.Sink.faults c.take_offer.new.intake c.take_offer.new.output c.take_offer.new.printed in
    let more : ReadsOnTold c.args.kind c.offers.lines c.next_offer.new.lines (left c.offers.input) (left c.next_offer.new.input) (offer ∷ []) = rw c.in-Some.is at c.in_ok-offer.ensures.some in (
      news ++ offer ∷ [],
      record {
        reads = told_both c.args.kind start c.offers.lines c.next_offer.new.lines (left c.args.input.now) (left c.offers.input) (left c.next_offer.new.input) news (offer ∷ []) i.reads more;
        went = record {
          goes = goes_on_both c.args.kind 0 0 none_more none_more news (offer ∷ []) before now new i.went.reason.stays i.went.goes h.steps.goes;
          whole = h.steps.whole;
          reason = reason_then c.args.kind 0 none_more news before now new Done Done (g.met.S.Store.is_consistent c.offers.intake.yard.store) i.went.goes i.went.reason h.steps.reason;
        };
        sound = h.sound;
        later = omega (arith, i.later, c.in_ok-offer.ensures.cause.later);
      },
    )

pub returns-in_err-take_offer-in-Some-clause-ends : goal.returns-in_err-take_offer-in-Some-clause-ends
returns-in_err-take_offer-in-Some-clause-ends g c =
    let left = g.I.Source.left in
    let i = c.offers.invariant.1 in
    let news = c.offers.invariant.0 in
    let h = c.in_err-take_offer-in-Some.ensures in
    let ending = c.in_err-take_offer-in-Some.field-0.0 in
    let before = place_of g.O.Sink.written g.O.Sink.faults c.args.intake.now c.args.output.now c.args.printed.now in
    let now = place_of g.O.Sink.written g.O.Sink.faults c.offers.intake c.offers.output c.offers.printed in
    let new = place_of g.O.Sink.written g.O.Sink.faults c.take_offer.new.intake c.take_offer.new.output c.take_offer.new.printed in
    rw (err_is c.from_residual-in_err-take_offer-in-Some.result ending c.from_residual-in_err-take_offer-in-Some.ensures.1) (
      news,
      read_some c.args.kind c.offers.lines (left c.args.input.now) (left c.offers.input) (left c.next_offer.new.input) news ending i.reads (λ is. h.steps.kinds (inl is)) (λ n is.
          absurd (h.steps.kinds (inr (inl (n, is))))),
      subst (λ (l : List Tuple). EndsWith c.args.kind 1 one_more l before new ending) (append-nil news)
          (ends_lifted c.args.kind news before now new ending (g.met.S.Store.is_consistent c.offers.intake.yard.store) c.is_sound-is_sound-in-offers.ensures.drum i.went.reason.stays
          i.went.goes h.steps.ends),
    )

pub returns-in_err-take_offer-in-Some-clause-reason : goal.returns-in_err-take_offer-in-Some-clause-reason
returns-in_err-take_offer-in-Some-clause-reason g c =
    let i = c.offers.invariant.1 in
    let news = c.offers.invariant.0 in
    let ending = c.in_err-take_offer-in-Some.field-0.0 in
    let before = place_of g.O.Sink.written g.O.Sink.faults c.args.intake.now c.args.output.now c.args.printed.now in
    let now = place_of g.O.Sink.written g.O.Sink.faults c.offers.intake c.offers.output c.offers.printed in
    let new = place_of g.O.Sink.written g.O.Sink.faults c.take_offer.new.intake c.take_offer.new.output c.take_offer.new.printed in
    rw (err_is c.from_residual-in_err-take_offer-in-Some.result ending c.from_residual-in_err-take_offer-in-Some.ensures.1)
    (reason_then c.args.kind 0 none_more news before now new Done ending (g.met.S.Store.is_consistent c.offers.intake.yard.store) i.went.goes i.went.reason
    c.in_err-take_offer-in-Some.ensures.steps.reason)

pub returns-in-None-clause-ends : goal.returns-in-None-clause-ends
returns-in-None-clause-ends g c =
    let left = g.I.Source.left in
    let i = c.offers.invariant.1 in
    let news = c.offers.invariant.0 in
    let ending = ending_of c.end_input.result in
    let before = place_of g.O.Sink.written g.O.Sink.faults c.args.intake.now c.args.output.now c.args.printed.now in
    let now = place_of g.O.Sink.written g.O.Sink.faults c.offers.intake c.offers.output c.offers.printed in
    let new = place_of g.O.Sink.written g.O.Sink.faults c.end_input.new.intake c.end_input.new.output c.end_input.new.printed in
    let ended : EndsTold c.args.kind c.offers.lines (left c.offers.input) (left c.next_offer.new.input) = c.in_ok-offer.ensures.none c.in-None.is in (
      news,
      read_all c.args.kind c.offers.lines (left c.args.input.now) (left c.offers.input) (left c.next_offer.new.input) news ending i.reads ended
          (no_line_of c.end_input.result c.end_input.ensures.kinds),
      subst (λ (l : List Tuple). EndsWith c.args.kind 1 one_more l before new ending) (append-nil news)
          (goes_on_ends c.args.kind 0 1 none_more one_more news [] before now new ending i.went.reason.stays i.went.goes c.end_input.ensures.ends),
    )

pub returns-in-None-clause-reason : goal.returns-in-None-clause-reason
returns-in-None-clause-reason g c =
    let i = c.offers.invariant.1 in
    let news = c.offers.invariant.0 in
    let before = place_of g.O.Sink.written g.O.Sink.faults c.args.intake.now c.args.output.now c.args.printed.now in
    let now = place_of g.O.Sink.written g.O.Sink.faults c.offers.intake c.offers.output c.offers.printed in
    let new = place_of g.O.Sink.written g.O.Sink.faults c.end_input.new.intake c.end_input.new.output c.end_input.new.printed in
    reason_then c.args.kind 0 none_more news before now new Done (ending_of c.end_input.result) (g.met.S.Store.is_consistent c.offers.intake.yard.store) i.went.goes i.went.reason
    c.end_input.ensures.reason
