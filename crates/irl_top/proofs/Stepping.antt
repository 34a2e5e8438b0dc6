-- A step of a run: the intake goes on, and what was judged is printed.
use Rattle.std.proofs.Common.{◌≡◌, ◌∙◌, inl, inr, ℕ, ◌+◌, ◌≤◌, List, [], ◌∷◌, Option, None, Some, refl, sym, ap, subst, arith}
use Rattle.std.specs.Prelude.{Result, Ok, Err, OnOk}
use Rattle.std.specs.Option.{ForSome}
use Rattle.irl_base.specs.declared.fault.Fault.{Fault}
use Rattle.irl_base.specs.declared.fault.Fault.TheVariants.{Failed as StoreFailed}
use Rattle.irl_offer.specs.Tuple.{Tuple}
use Rattle.irl_model.specs.Book.{Book}
use Rattle.irl_disk.specs.Images.{IsConsistent}
use Rattle.irl_bay.specs.Drum.{Drum, IsDrum}
use Rattle.irl_bay.specs.Holding.{IsLong}
use Rattle.irl_bay.specs.Merges.{ReadsJudged}
use Rattle.irl_bay.specs.JudgedSpoilt.{IsJudgedSpoiltAt}
use Rattle.irl_schedule.specs.Schedule.{none_more, one_more}
use Rattle.irl_schedule.specs.Feeding.{Moment, Waits, Stays, AddsCut, Feeds}
use Rattle.irl_schedule.specs.Scheduling.{Schedules}
use Rattle.irl_schedule.proofs.Chains.{feeds_more}
use Rattle.irl_schedule.proofs.Schedules.{cut_few}
use Rattle.irl_intake.specs.Advancing.{IsReady, early_at, uneven_at}
use Rattle.irl_intake.specs.declared.next.Next.{Next}
use Rattle.irl_intake.specs.declared.next.Next.TheVariants.{Merged, Ready}
use Rattle.irl_top.specs.Message.{ending_of, ending_of_store, IsEndOfInput}
use Rattle.irl_top.specs.Session.{Place, IsPrinted, FewWait, GoesOn, EndsWith, HasReason, Steps}
use Rattle.irl_top.specs.declared.line.LineKind.{LineKind}
use Rattle.irl_top.specs.declared.ending.Ending.{Ending}
use Rattle.irl_top.specs.declared.ending.Ending.TheVariants.{Done}
use Rattle.irl_top.proofs.Going.{goes_on_both, goes_on_ends, reason_then}
use Rattle.irl_top.proofs.Calls.{goes_call, goes_same, ends_call, ends_on, last_finished, reason_call, reason_same, reason_went, store_input}

-- ---- so far
-- A run has gone from one place to another, at which all that was judged is printed, and these offers were handed in.
pub record Went (kind : LineKind) (news : List Tuple) (old new : Place) : Type 0 where
  pub goes : GoesOn kind 0 none_more news old new
  pub whole : IsPrinted new
  pub reason : HasReason old new Done

pub went_none : (kind : LineKind) (old : Place) → IsConsistent old.moment.store → IsDrum old.moment.drum → IsPrinted old → Went kind [] old old
went_none kind old law drum whole = record { goes = goes_same kind old law drum; whole = whole; reason = reason_same old law }

-- ---- a step's answer
pub steps_ok : (kind : LineKind) (e : ℕ) (u : ℕ → ℕ) (news : List Tuple) (old new : Place) (done : Unit {0}) → GoesOn kind e u news old new → IsPrinted new → HasReason old new Done
    → Steps (Ok done) kind e u news old new
steps_ok kind e u news old new done goes whole reason = record { goes = goes; whole = whole; ends = tt; kinds = tt; reason = reason }

pub steps_err : (kind : LineKind) (e : ℕ) (u : ℕ → ℕ) (news : List Tuple) (old new : Place) (ending : Ending) → EndsWith kind e u [] old new ending → (IsEndOfInput ending → ⊥)
    → HasReason old new ending → Steps (Err ending) kind e u news old new
steps_err kind e u news old new ending ends kinds reason = record { goes = tt; whole = tt; ends = ends; kinds = kinds; reason = reason }

-- ---- why a call is refused
-- one of the schedule
reason_advanced : {A : Type 0} (e : ℕ) (u : ℕ → ℕ) (old new : Place) (fault : Fault) → Schedules {A = A} (Err fault) e u [] old.moment new.moment → new.output ≡ old.output
    → ((fault ≡ StoreFailed → ⊥) → ForSome new.moment.store.files (IsLong new.moment.drum)) → HasReason old new (ending_of_store fault)
reason_advanced {A} e u old new fault does output long =
    reason_call old new fault does.stays (record { later = does.cause.later; rose = λ is. does.cause.rose (ap Err is) }) output
    (λ f at is files tells. inl (does.damaged f at (ap Err is) files tells))
    (λ f at is. long (λ failed. cc)) (λ f at is. does.whole f at (ap Err is))

-- one that reads judged offers
pub reason_read : {A : Type 0} (gives : A → Book → Type 0) (old new : Place) (fault : Fault) → Stays old.moment new.moment → new.moment.drum ≡ old.moment.drum → new.output ≡ old.output
    → ReadsJudged (Err fault) gives old.moment.drum old.moment.store new.moment.store → ((fault ≡ StoreFailed → ⊥) → ForSome new.moment.store.files (IsLong new.moment.drum))
    → HasReason old new (ending_of_store fault)
reason_read {A} gives old new fault still drum output reads long =
    reason_call old new fault still (record { later = reads.reads.cause.later; rose = λ is. reads.reads.cause.rose (ap Err is) }) output
    (λ f at is files tells. inr (subst (λ (d : Drum). IsJudgedSpoiltAt d files f at) (sym drum) (reads.spoilt f at (ap Err is) files (sym reads.reads.same ∙ tells))))
    (λ f at is. long (λ failed. cc)) (λ f at is. reads.whole f at (ap Err is))

-- ---- the intake goes on
-- what a merge alone adds is no more than what the last step may
feeds_ready : (bucket : Option ℕ) (next : Next) (old new : Moment) → Feeds (early_at bucket (Ok next)) (uneven_at bucket (Ok next)) [] old new
    → Feeds (early_at bucket (Ok Ready)) (uneven_at bucket (Ok Ready)) [] old new
feeds_ready (Some b) next old new feeds = feeds
feeds_ready None Ready old new feeds = feeds
feeds_ready None Merged old new feeds = feeds_more 0 1 none_more one_more [] old new (omega arith) (λ b. omega arith) feeds

feeds_merged : (bucket : Option ℕ) (old new : Moment) → Feeds (early_at bucket (Ok Merged)) (uneven_at bucket (Ok Merged)) [] old new → Feeds 0 none_more [] old new
feeds_merged (Some b) old new feeds = feeds
feeds_merged None old new feeds = feeds

-- it is refused
pub advance_refused : (kind : LineKind) (bucket : Option ℕ) (before old new : Place) (fault : Fault) → IsConsistent old.moment.store → IsConsistent new.moment.store → IsDrum new.moment.drum
    → FewWait old.moment.drum.settings new.moment.waits → ((fault ≡ StoreFailed → ⊥) → ForSome new.moment.store.files (IsLong new.moment.drum)) → new.output ≡ old.output
    → new.printed ≡ old.printed → Went kind [] before old
    → Schedules {A = Next} (Err fault) (early_at bucket (Err fault)) (uneven_at bucket (Err fault)) [] old.moment new.moment
    → Steps (Err (ending_of_store fault)) kind (early_at bucket (Ok Ready)) (uneven_at bucket (Ok Ready)) [] before new
advance_refused kind (Some b) before old new fault law_old law drum few long output printed went does =
    steps_err kind 0 none_more [] before new (ending_of_store fault)
    (goes_on_ends kind 0 0 none_more none_more [] [] before old new (ending_of_store fault) went.reason.stays went.goes
    (ends_call kind 0 none_more [] old new fault law drum few went.whole (ap (λ s. s.bytes) output) printed does)) (store_input fault)
    (reason_then kind 0 none_more [] before old new Done (ending_of_store fault) law_old went.goes went.reason (reason_advanced {A = Next} 0 none_more old new fault does output long))
advance_refused kind None before old new fault law_old law drum few long output printed went does =
    steps_err kind 1 one_more [] before new (ending_of_store fault)
    (goes_on_ends kind 0 1 none_more one_more [] [] before old new (ending_of_store fault) went.reason.stays went.goes
    (ends_call kind 1 one_more [] old new fault law drum few went.whole (ap (λ s. s.bytes) output) printed does)) (store_input fault)
    (reason_then kind 0 none_more [] before old new Done (ending_of_store fault) law_old went.goes went.reason (reason_advanced {A = Next} 1 one_more old new fault does output long))

-- so far, and then the intake went on and printed nothing
went_on : (kind : LineKind) (e : ℕ) (u : ℕ → ℕ) (before old new : Place) → IsConsistent old.moment.store → Went kind [] before old → Stays old.moment new.moment
    → AddsCut old.moment.drum new.moment.drum → old.moment.store.faults ≤ new.moment.store.faults → new.output ≡ old.output → new.printed ≡ old.printed
    → Feeds e u [] old.moment new.moment → GoesOn kind (0 + e) (λ b. none_more b + u b) [] before new × HasReason before new Done
went_on kind e u before old new law went still cut faults output printed feeds = (
  goes_on_both kind 0 e none_more u [] [] before old new went.reason.stays went.goes
      (goes_call kind e u [] old new (inr (went.whole, cut_few old.moment.drum new.moment.drum cut)) (ap (λ s. s.bytes) output) printed feeds),
  reason_then kind 0 none_more [] before old new Done Done law went.goes went.reason (reason_went old new still faults (omega (arith, ap (λ s. s.faults) output))),
)

-- and then what was judged isn't printed whole
pub print_refused : (kind : LineKind) (bucket : Option ℕ) (next : Next) (before old mid new : Place) (ending : Ending) → IsConsistent old.moment.store → IsConsistent mid.moment.store
    → mid.output ≡ old.output → mid.printed ≡ old.printed → Went kind [] before old
    → Schedules (Ok next) (early_at bucket (Ok next)) (uneven_at bucket (Ok next)) [] old.moment mid.moment → Steps (Err ending) kind 0 none_more [] mid new
    → Steps (Err ending) kind (early_at bucket (Ok Ready)) (uneven_at bucket (Ok Ready)) [] before new
print_refused kind (Some b) next before old mid new ending law_old law output printed went does print =
    let on = went_on kind 0 none_more before old mid law_old went does.stays does.cut does.cause.later output printed (does.fed (λ is. cc)) in
    steps_err kind 0 none_more [] before new ending (goes_on_ends kind 0 0 none_more none_more [] [] before mid new ending on.1.stays on.0 print.ends) print.kinds
    (reason_then kind 0 none_more [] before mid new Done ending law on.0 on.1 print.reason)
print_refused kind None next before old mid new ending law_old law output printed went does print =
    let on = went_on kind 1 one_more before old mid law_old went does.stays does.cut does.cause.later output printed (feeds_ready None next old.moment mid.moment (does.fed (λ is. cc))) in
    steps_err kind 1 one_more [] before new ending (goes_on_ends kind 1 0 one_more none_more [] [] before mid new ending on.1.stays on.0 print.ends) print.kinds
    (reason_then kind 1 one_more [] before mid new Done ending law on.0 on.1 print.reason)

pub next_merged : (next : Next) → (next ≡ Ready → ⊥) → next ≡ Merged
next_merged Merged not = refl
next_merged Ready not = absurd (not refl)

-- or it is: after a merge alone so far
pub print_merged : (kind : LineKind) (bucket : Option ℕ) (done : Unit {0}) (before old mid new : Place) → IsConsistent old.moment.store → IsConsistent mid.moment.store → mid.output ≡ old.output
    → mid.printed ≡ old.printed → Went kind [] before old → Schedules (Ok Merged) (early_at bucket (Ok Merged)) (uneven_at bucket (Ok Merged)) [] old.moment mid.moment
    → Steps (Ok done) kind 0 none_more [] mid new → Went kind [] before new
print_merged kind bucket done before old mid new law_old law output printed went does print =
    let on = went_on kind 0 none_more before old mid law_old went does.stays does.cut does.cause.later output printed (feeds_merged bucket old.moment mid.moment (does.fed (λ is. cc))) in
    record {
      goes = goes_on_both kind 0 0 none_more none_more [] [] before mid new on.1.stays on.0 print.goes;
      whole = print.whole;
      reason = reason_then kind 0 none_more [] before mid new Done Done law on.0 on.1 print.reason;
    }

-- and after the last step the whole
pub print_ready : (kind : LineKind) (bucket : Option ℕ) (done : Unit {0}) (before old mid new : Place) → IsConsistent old.moment.store → IsConsistent mid.moment.store → mid.output ≡ old.output
    → mid.printed ≡ old.printed → Went kind [] before old → Schedules (Ok Ready) (early_at bucket (Ok Ready)) (uneven_at bucket (Ok Ready)) [] old.moment mid.moment
    → Steps (Ok done) kind 0 none_more [] mid new → Steps (Ok done) kind (early_at bucket (Ok Ready)) (uneven_at bucket (Ok Ready)) [] before new
print_ready kind (Some b) done before old mid new law_old law output printed went does print =
    let on = went_on kind 0 none_more before old mid law_old went does.stays does.cut does.cause.later output printed (does.fed (λ is. cc)) in
    steps_ok kind 0 none_more [] before new done (goes_on_both kind 0 0 none_more none_more [] [] before mid new on.1.stays on.0 print.goes) print.whole
    (reason_then kind 0 none_more [] before mid new Done Done law on.0 on.1 print.reason)
print_ready kind None done before old mid new law_old law output printed went does print =
    let on = went_on kind 1 one_more before old mid law_old went does.stays does.cut does.cause.later output printed (does.fed (λ is. cc)) in
    steps_ok kind 1 one_more [] before new done (goes_on_both kind 1 0 one_more none_more [] [] before mid new on.1.stays on.0 print.goes) print.whole
    (reason_then kind 1 one_more [] before mid new Done Done law on.0 on.1 print.reason)

-- what the intake is ready for stays where only its store was read
pub ready_still : (bucket : Option ℕ) (old new : Moment) → new.drum ≡ old.drum → new.waits ≡ old.waits → IsReady bucket old → IsReady bucket new
ready_still bucket old new drum waits ready =
    subst (λ (d : Drum). IsReady bucket (record { store = new.store; drum = d; waits = new.waits })) (sym drum)
    (subst (λ (w : Waits). IsReady bucket (record { store = new.store; drum = old.drum; waits = w })) (sym waits) (same bucket ready))
  where
    same : (b : Option ℕ) → IsReady b old → IsReady b (record { store = new.store; drum = old.drum; waits = old.waits })
    same (Some b) is = is
    same None is = is

-- ---- an offer, and the end of an input
-- one that is pushed
pub push_steps : (kind : LineKind) (offer : Tuple) (done : Unit {0}) (before old new : Place) → IsConsistent old.moment.store → new.moment.drum ≡ old.moment.drum
    → new.moment.store.faults ≡ old.moment.store.faults → new.output ≡ old.output
    → new.printed ≡ old.printed → Steps (Ok done) kind 0 none_more [] before old → Stays old.moment new.moment → Feeds 0 none_more (offer ∷ []) old.moment new.moment
    → Steps (Ok done) kind 0 none_more (offer ∷ []) before new
push_steps kind offer done before old new law drum faults output printed so_far still feeds =
    steps_ok kind 0 none_more (offer ∷ []) before new done
    (goes_on_both kind 0 0 none_more none_more [] (offer ∷ []) before old new so_far.reason.stays so_far.goes
    (goes_call kind 0 none_more (offer ∷ []) old new (inl (ap (λ (d : Drum). d.cuts) drum)) (ap (λ s. s.bytes) output) printed feeds))
    (subst (λ (p : ℕ). new.moment.drum.last.judged ≤ p) (sym printed) (subst (λ (d : Drum). d.last.judged ≤ old.printed) (sym drum) so_far.whole))
    (reason_then kind 0 none_more [] before old new Done Done law so_far.goes so_far.reason (reason_went old new still (omega (arith, faults)) (omega (arith, ap (λ s. s.faults) output))))

-- at its end nothing waits and nothing is unjudged
pub ends_input : (kind : LineKind) (r : Result (Unit {0}) Ending) (old new : Place) → IsConsistent new.moment.store → IsDrum new.moment.drum → FewWait old.moment.drum.settings new.moment.waits
    → Steps r kind 1 one_more [] old new → OnOk r (IsReady None new.moment) → EndsWith kind 1 one_more [] old new (ending_of r)
ends_input kind (Ok done) old new law drum few steps ready =
    ends_on kind 1 one_more [] old new Done law drum few steps.reason.stays (last_finished old new steps.whole ready.0 (λ some. omega (arith, some.2, ready.1 some.0 some.1))) steps.goes
ends_input kind (Err ending) old new law drum few steps ready = steps.ends
