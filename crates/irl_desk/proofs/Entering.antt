-- What is entered between two moments, and in two stretches of time together.
use Rattle.std.proofs.Common.{◌≡◌, ◌≢◌, ◌∙◌, ⊎_elim, ℕ, ◌+◌, ◌<◌, ◌≤◌, List, [], ◌∷◌, ◌++◌, length, length-append, Option, None, Some, Result, Ok, IsErrOf, refl, sym, ap, subst, append_assoc, append-nil, arith}
use Rattle.std.proofs.lemmas.Bool.Decides.{leb_tells}
use Rattle.std.specs.List.{AllByRecursion}
use Rattle.irl_base.specs.declared.fault.Fault.{Fault}
use Rattle.irl_base.specs.declared.fault.Fault.TheVariants.{Damaged, Failed, Full}
use Rattle.irl_offer.specs.Buckets.{bucket_of}
use Rattle.irl_offer.specs.Offering.{Entered, IsTakenBy}
use Rattle.irl_offer.specs.Tuple.{Tuple}
use Rattle.irl_offer.specs.declared.offer.Rule.TheVariants.{Keep}
use Rattle.irl_offer.specs.declared.receipt.Receipt.{Receipt}
use Rattle.irl_offer.specs.declared.settings.Settings.{Settings}
use Rattle.irl_key.specs.Links.{IsCanonicalText}
use Rattle.irl_model.specs.Book.{Book, blank_book, part}
use Rattle.irl_disk.specs.Images.{Told, IsConsistent}
use Rattle.irl_bay.specs.Drum.{IsDrum, durable_at}
use Rattle.irl_schedule.specs.Arrays.{AreArrays, waiting_at}
use Rattle.irl_schedule.specs.Feeding.{Keeps, Stays, Feeds}
use Rattle.irl_schedule.specs.Schedule.{none_more}
use Rattle.irl_schedule.proofs.Waits.{none_past}
use Rattle.irl_schedule.proofs.Chains.{feeds_both, feeds_more, stays_both, stranded_more}
use Rattle.irl_yard.specs.Holding.{IsSound, StaysSound}
use Rattle.irl_yard.specs.declared.parts.Parts.{Parts}
use Rattle.irl_desk.specs.Serving.{AreNumbered, Enters, Serves, Serving, moment_at, offers_in, receipt_behind}
use Rattle.irl_desk.specs.Stepping.{Breaks, Steps, handed_at}
use Rattle.irl_desk.proofs.Chaining.{breaks_after, few_wait, ground_then, none_and, steps_none}
use Rattle.irl_desk.proofs.Numbers.{all_both, numbered_both, offers_both, part_elsewhere, parts_long}

-- ---- steps of the schedule enter nothing
-- what is answered is the last fault then, but want of memory
pub record IsLastBy {A : Type 0} (result : Result A Fault) (last : Option Fault) : Type 0 where
  pub named : (fault : Fault) → last ≡ Some fault → IsErrOf result fault
  pub failed : IsErrOf result Failed → last ≡ Some Failed

pub enters_steps : {S A : Type 0} (told : S → Told) (result : Result A Fault) (u : ℕ → ℕ) (old new : Serving S) → new.entries ≡ old.entries → new.parts.rest ≡ old.parts.rest
    → AreArrays new.parts.urls.settings new.arrays → IsLastBy result new.last → StaysSound (IsErrOf result Failed) new.parts → Steps result u (moment_at told old) (moment_at told new)
    → Enters told u [] old new
enters_steps {S} {A} told result u old new entries rest arrays last sound steps = record {
  entries = entries ∙ sym (append-nil old.entries);
  stays = steps.stays;
  rest = rest;
  arrays = arrays;
  sound = record {
    drum = sound.drum;
    sound = λ not. sound.sound (λ is. not (last.failed is));
    unsound = λ is. sound.unsound (last.named Failed is);
  };
  taken = tt;
  numbered = tt;
  counts = λ b. omega (arith, steps.counts b);
  fed = λ not. steps.fed (λ is. not (last.failed is));
  broken = λ is. steps.stranded (last.named Failed is);
  ground = record {
    full = λ n is. steps.ground.full n (last.named (Full n) is);
    damaged = λ f at is. steps.ground.damaged f at (last.named (Damaged f at) is);
    whole = λ f at is. steps.ground.whole f at (last.named (Damaged f at) is);
    cause = record { later = steps.ground.cause.later; rose = λ is. steps.ground.cause.rose (last.named Failed is) };
  };
}

-- ---- one stretch after another, where no fault was answered in the first
none_failed : (last : Option Fault) → last ≡ None → last ≡ Some Failed → ⊥
none_failed last none is = cc

pub enters_both : {S : Type 0} (told : S → Told) (u : ℕ → ℕ) (xs ys : List Entered) (old mid new : Serving S) → IsConsistent (told mid.store) → mid.last ≡ None
    → Enters told none_more xs old mid → Enters told u ys mid new → Enters told u (xs ++ ys) old new
enters_both {S} told u xs ys old mid new law none first second =
    let m0 = moment_at told old in
    let m1 = moment_at told mid in
    let m2 = moment_at told new in
    let fed = first.fed (none_failed mid.last none) in
    let both = sym (offers_both xs ys) in
    let settings = first.stays.settings in
    let later : (c : ℕ) → handed_at m1 c ≡ handed_at m0 c + length (part old.parts.urls.settings.buckets c (offers_in xs)) = first.counts in
    record {
      entries = second.entries ∙ ap (λ (l : List Entered). l ++ ys) first.entries ∙ append_assoc old.entries xs ys;
      stays = stays_both m0 m1 m2 law first.stays second.stays;
      rest = second.rest ∙ first.rest;
      arrays = second.arrays;
      sound = second.sound;
      taken = subst (AllByRecursion (IsTakenBy IsCanonicalText old.parts.urls.settings.kind)) both
          (all_both (IsTakenBy IsCanonicalText old.parts.urls.settings.kind) (offers_in xs) (offers_in ys) first.taken
          (subst (λ (s : Settings). AllByRecursion (IsTakenBy IsCanonicalText s.kind) (offers_in ys)) settings second.taken));
      numbered = numbered_both old.parts.urls.settings.buckets (handed_at m0) (handed_at m1) xs ys later first.numbered
          (subst (λ (s : Settings). AreNumbered s.buckets (handed_at m1) [] ys) settings second.numbered);
      counts = λ b.
          let after = subst (λ (s : Settings). handed_at m2 b ≡ handed_at m1 b + length (part s.buckets b (offers_in ys))) settings (second.counts b) in
          omega (
            arith,
            first.counts b,
            after,
            parts_long old.parts.urls.settings.buckets b (offers_in xs) (offers_in ys),
            ap (λ (l : List Tuple). length (part old.parts.urls.settings.buckets b l)) both,
          );
      fed = λ not. subst (λ (l : List Tuple). Feeds 0 u l m0 m2) both (subst (λ (v : ℕ → ℕ). Feeds 0 v (offers_in xs ++ offers_in ys) m0 m2) (none_and u)
          (feeds_both 0 0 none_more u (offers_in xs) (offers_in ys) m0 m1 m2 first.stays fed (second.fed not)));
      broken = λ is. subst (λ (l : List Tuple). Breaks u l m0 m2) both (subst (λ (v : ℕ → ℕ). Breaks v (offers_in xs ++ offers_in ys) m0 m2) (none_and u)
          (breaks_after none_more u (offers_in xs) (offers_in ys) m0 m1 m2 first.stays fed (second.broken is)));
      ground = ground_then (λ fault. new.last ≡ Some fault) none_more (offers_in xs) m0 m1 m2 first.stays fed first.ground.cause.later second.ground;
    }

-- it may be said with more uneven records
pub enters_more : {S : Type 0} (told : S → Told) (u v : ℕ → ℕ) (news : List Entered) (old new : Serving S) → ((b : ℕ) → u b ≤ v b) → Enters told u news old new → Enters told v news old new
enters_more {S} told u v news old new more one = record {
  entries = one.entries;
  stays = one.stays;
  rest = one.rest;
  arrays = one.arrays;
  sound = one.sound;
  taken = one.taken;
  numbered = one.numbered;
  counts = one.counts;
  fed = λ not. feeds_more 0 0 u v (offers_in news) (moment_at told old) (moment_at told new) (omega arith) more (one.fed not);
  broken = λ is files tells x holds.
      stranded_more 0 0 u v (offers_in news) (moment_at told old) (moment_at told new) x (omega arith) more (one.broken is files tells x holds);
  ground = one.ground;
}

-- ---- an offer that is pushed
pub record IsPushed {S : Type 0} (told : S → Told) (one : Entered) (old new : Serving S) : Type 0 where
  pub store : new.store ≡ old.store
  pub parts : new.parts ≡ old.parts
  pub entries : new.entries ≡ old.entries ++ one ∷ []
  pub last : new.last ≡ None
  pub arrays_before : AreArrays old.parts.urls.settings old.arrays
  pub arrays : AreArrays new.parts.urls.settings new.arrays
  pub sound : IsSound new.parts
  pub drum : IsDrum new.parts.urls
  pub keeps : (book : Book) → Keeps old.parts.urls.settings book (waiting_at old.arrays) book (waiting_at new.arrays) (one.offer ∷ [])
  pub fed : Feeds 0 none_more (one.offer ∷ []) (moment_at told old) (moment_at told new)
  pub stays : Stays (moment_at told old) (moment_at told new)
  pub taken : IsTakenBy IsCanonicalText old.parts.urls.settings.kind one.offer
  pub bucket : bucket_of old.parts.urls.settings.buckets one.offer.key < old.parts.urls.settings.buckets
  pub receipt : one.receipt ≡ receipt_behind old.parts.urls.settings.buckets (handed_at (moment_at told old)) [] one.offer

none_some : (last : Option Fault) (fault : Fault) → last ≡ None → last ≡ Some fault → ⊥
none_some last fault none is = cc

push_counts : {S : Type 0} (told : S → Told) (one : Entered) (old new : Serving S) → IsPushed told one old new → (b : ℕ)
    → handed_at (moment_at told new) b ≡ handed_at (moment_at told old) b + length (part old.parts.urls.settings.buckets b (one.offer ∷ []))
push_counts {S} told one old new push b = ⊎_elim (λ past. outside past.1) (λ within. inside within.1) (leb_tells old.parts.urls.settings.buckets b)
  where
    buckets : ℕ
    buckets = old.parts.urls.settings.buckets

    durable : durable_at new.parts.urls b ≡ durable_at old.parts.urls b
    durable = ap (λ (p : Parts). durable_at p.urls b) push.parts

    inside : b < old.parts.urls.settings.buckets
        → handed_at (moment_at told new) b ≡ handed_at (moment_at told old) b + length (part old.parts.urls.settings.buckets b (one.offer ∷ []))
    inside within =
        let waits : waiting_at new.arrays b ≡ waiting_at old.arrays b ++ part old.parts.urls.settings.buckets b (one.offer ∷ []) = push.keeps (blank_book 0 Keep) b within in
        omega (arith, durable, ap (λ (l : List Tuple). length l) waits, length-append (waiting_at old.arrays b) (part old.parts.urls.settings.buckets b (one.offer ∷ [])))

    outside : old.parts.urls.settings.buckets ≤ b
        → handed_at (moment_at told new) b ≡ handed_at (moment_at told old) b + length (part old.parts.urls.settings.buckets b (one.offer ∷ []))
    outside past =
        let count : length new.arrays ≡ old.parts.urls.settings.buckets = push.arrays.count ∙ ap (λ (p : Parts). p.urls.settings.buckets) push.parts in
        let now : waiting_at new.arrays b ≡ [] = none_past new.arrays b (omega (arith, past, count)) in
        let was : waiting_at old.arrays b ≡ [] = none_past old.arrays b (omega (arith, past, push.arrays_before.count)) in
        let other : bucket_of old.parts.urls.settings.buckets one.offer.key ≢ b = λ same. let less = push.bucket in absurd (omega (arith, same, less, past)) in
        omega (
          arith,
          durable,
          ap (λ (l : List Tuple). length l) now,
          ap (λ (l : List Tuple). length l) was,
          ap (λ (l : List Tuple). length l) (part_elsewhere old.parts.urls.settings.buckets b one.offer [] other),
        )

pub enters_push : {S : Type 0} (told : S → Told) (one : Entered) (old new : Serving S) → IsPushed told one old new → Enters told none_more (one ∷ []) old new
enters_push {S} told one old new push = record {
  entries = push.entries;
  stays = push.stays;
  rest = ap (λ (p : Parts). p.rest) push.parts;
  arrays = push.arrays;
  sound = record { drum = push.drum; sound = λ not. push.sound; unsound = λ is. absurd (none_some new.last Failed push.last is) };
  taken = (push.taken, tt);
  numbered = ((push.receipt, subst (λ (r : Receipt). r.bucket < old.parts.urls.settings.buckets) (sym push.receipt) push.bucket), tt);
  counts = push_counts told one old new push;
  fed = λ not. push.fed;
  broken = λ is. absurd (none_some new.last Failed push.last is);
  ground = record {
    full = λ n is. absurd (none_some new.last (Full n) push.last is);
    damaged = λ f at is. absurd (none_some new.last (Damaged f at) push.last is);
    whole = λ f at is. absurd (none_some new.last (Damaged f at) push.last is);
    cause = record {
      later = omega (arith, ap (λ (s : S). (told s).faults) push.store);
      rose = λ is. absurd (none_some new.last Failed push.last is);
    };
  };
}

-- ---- a desk
not_failed : IsErrOf {T = Unit {0}} {E = Fault} (Ok tt) Failed → ⊥
not_failed is = cc

-- nothing is done
pub same_serves : {S : Type 0} (told : S → Told) (x : Serving S) → IsConsistent (told x.store) → IsDrum x.parts.urls → AreArrays x.parts.urls.settings x.arrays → (x.last ≡ None → IsSound x.parts)
    → Serves told [] x x
same_serves {S} told x law drum arrays sound = record {
  enters = λ none. enters_steps {A = Unit {0}} told (Ok tt) none_more x x refl refl arrays
      (record { named = λ fault is. absurd (none_some x.last fault none is); failed = λ is. absurd (not_failed is) })
      (record { drum = drum; sound = λ not. sound none; unsound = λ is. absurd (not_failed is) })
      (steps_none tt (moment_at told x) law drum (few_wait (moment_at told x) x.arrays arrays (λ b. refl)));
  again = λ fault is. (refl, refl);
}

-- in two stretches
pub both_serve : {S : Type 0} (told : S → Told) → ((s : S) → IsConsistent (told s)) → (xs ys : List Entered) (old mid new : Serving S) → Serves told xs old mid → Serves told ys mid new
    → Serves told (xs ++ ys) old new
both_serve {S} told lawful xs ys old mid new first second = record {
  enters = λ none. by_last none mid.last refl;
  again = λ fault is.
      let one = first.again fault is in
      let two = second.again fault (ap (λ (x : Serving S). x.last) one.1 ∙ is) in
      (ap (λ (l : List Entered). l ++ ys) one.0 ∙ two.0, two.1 ∙ one.1);
}
  where
    stopped : (fault : Fault) → old.last ≡ None → mid.last ≡ Some fault → Enters told none_more (xs ++ ys) old new
    stopped fault none is =
        let two = second.again fault is in
        subst (λ (x : Serving S). Enters told none_more (xs ++ ys) old x) (sym two.1)
        (subst (λ (l : List Entered). Enters told none_more (xs ++ l) old mid) (sym two.0)
        (subst (λ (l : List Entered). Enters told none_more l old mid) (sym (append-nil xs)) (first.enters none)))

    by_last : old.last ≡ None → (last : Option Fault) → mid.last ≡ last → Enters told none_more (xs ++ ys) old new
    by_last none None is = enters_both told none_more xs ys old mid new (lawful mid.store) is (first.enters none) (second.enters is)
    by_last none (Some fault) is = stopped fault none is
