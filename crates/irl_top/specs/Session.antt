-- A part of a run over an open bay: what it keeps, judges and prints.
use Rattle.std.specs.Prelude.{◌≡◌, ◌≢◌, ◌⊎◌, ℕ, ◌+◌, ◌-◌, ◌<◌, ◌≤◌, List, [], ◌++◌, length, drop, Option, None, Some, Result, OnOk, IfErr}
use Rattle.std.specs.Option.{ForSome}
use Rattle.std.specs.Io.KnownBytes.{Appends, prepend_known}
use Rattle.irl_base.specs.Faults.{HasCause}
use Rattle.irl_offer.specs.Tuple.{Tuple}
use Rattle.irl_offer.specs.declared.settings.Settings.{Settings}
use Rattle.irl_model.specs.Book.{Book, gone, judged, judged_cut, lengths_of, IsFront, IsPrefixOf}
use Rattle.irl_disk.specs.Disk.{Files}
use Rattle.irl_disk.specs.declared.store.Store.{Ghosts}
use Rattle.irl_bay.specs.Holding.{Holds, IsLong}
use Rattle.irl_bay.specs.Spoilt.{IsSpoiltAt}
use Rattle.irl_bay.specs.JudgedSpoilt.{IsJudgedSpoiltAt}
use Rattle.irl_bay.specs.Standing.{IsBookOf}
use Rattle.irl_schedule.specs.Feeding.{Waits, Moment, Stays, Fed, Stranded, Grows, Keeps, HasBetween, length_at}
use Rattle.irl_intake.specs.Advancing.{moment_of}
use Rattle.irl_intake.specs.declared.intake.Intake.{Intake}
use Rattle.irl_io.specs.Lines.{lines}
use Rattle.irl_io.specs.Steps.{Progress}
use Rattle.irl_top.specs.Input.{offered, offered_from, refused, refused_from}
use Rattle.irl_top.specs.Message.{ending_of, IsAllPrinted, IsEndOfInput, IsUnopened}
use Rattle.irl_top.specs.Printed.{before_last, judged_lines, judged_count}
use Rattle.irl_top.specs.Stream.{Stream}
use Rattle.irl_top.specs.declared.line.LineKind.{LineKind}
use Rattle.irl_top.specs.declared.ending.Ending.{Ending}
use Rattle.irl_top.specs.declared.ending.Ending.TheVariants.{Done, LineRefused, Damaged, DiskFault, OutputFault, Full}

-- ---- where it stands
pub record Place : Type 1 where
  pub moment : Moment
  pub output : Stream
  -- how many judged offers were printed, from the beginning of time
  pub printed : ℕ

-- that of an intake, by what an output tells
abbrev pub place_of : {S O : Type 0} {tells : Ghosts S} → (O → Option (List ℕ)) → (O → ℕ) → Intake S tells → O → ℕ
    → Place
place_of {S} {O} {tells} written output_faults intake output printed =
    record {
      moment = moment_of intake;
      output = record { bytes = written output; faults = output_faults output };
      printed = printed;
    }

-- the bay holds a book
abbrev pub HoldsAt : Place → Book → Type 0
HoldsAt place x = Holds place.moment.store.images place.moment.drum x

-- all that was judged is printed
abbrev pub IsPrinted : Place → Type 0
IsPrinted place = place.moment.drum.last.judged ≤ place.printed

-- so many of a book's judged offers are printed: all that were judged before its last cut at least
abbrev pub ArePrinted : ℕ → Book → Type 0
ArePrinted printed x = (judged_count (before_last x) ≤ printed) × (printed ≤ judged_count x)

-- what is printed of a book's judged offers from this number on
abbrev pub unprinted : LineKind → ℕ → Book → List ℕ
unprinted kind printed book = judged_lines kind (drop (printed - gone book) (judged book))

-- ---- what it keeps, judges and prints
-- The bay held a book, and these offers were handed in: it holds a later one, and some more of its judged offers are
-- printed.
pub record Goes (kind : LineKind) (early : ℕ) (uneven : ℕ
    → ℕ) (news : List Tuple) (old new : Place) (x : Book) : Type 0 where
  pub fed : Fed early uneven news old.moment new.moment x
  pub later : old.printed ≤ new.printed
  pub are : ArePrinted new.printed fed.book
  pub text : List ℕ
  pub written : Appends old.output.bytes new.output.bytes text
  pub prints : text ++ unprinted kind new.printed fed.book ≡ unprinted kind old.printed fed.book

-- no more offers wait of a bucket than the setting says
abbrev pub FewWait : Settings → Waits → Type 0
FewWait settings waits = (b : ℕ) → b < settings.buckets → length (waits b) ≤ settings.array

-- The bay held a book, and these offers were handed in before the run ended.
pub record Ends (kind : LineKind) (early : ℕ) (uneven : ℕ
    → ℕ) (news : List Tuple) (old new : Place) (ending : Ending) (x : Book) : Type 0 where
  -- the book that is told, and the greatest that a stop left
  pub strands : Stranded early uneven news old.moment new.moment x
  -- the one that was acknowledged
  pub kept : Book
  pub grows : Grows old.moment.drum.settings early x kept
  pub front : IsFront kept strands.book
  pub legal : IsBookOf old.moment.drum.settings kept
  -- no offer was lost: what isn't in its lists waited
  pub waits : Waits
  pub few : FewWait old.moment.drum.settings waits
  pub keeps : Keeps old.moment.drum.settings x old.moment.waits kept waits news
  pub settled : ending ≢ DiskFault → (strands.book ≡ kept) × (strands.most ≡ kept)
  -- a stop from now on leaves no less
  pub now : (image : Files) → new.moment.store.images image
      → HasBetween old.moment.drum.base old.moment.drum.settings kept strands.most image
  -- what is printed was acknowledged, and all is that was judged before the last cut of the greatest
  pub text : List ℕ
  pub written : Appends old.output.bytes new.output.bytes text
  pub prints : IsPrefixOf text (unprinted kind old.printed kept)
  pub printed_before : IsPrefixOf (unprinted kind old.printed (before_last strands.most)) text
  pub prints_all : IsAllPrinted ending → text ≡ unprinted kind old.printed kept
  -- a bucket is full only where what waited of it doesn't fit
  pub full : (b : ℕ) → ending ≡ Full b → (b < old.moment.drum.settings.buckets) × (1 ≤ length (waits b))
      × (old.moment.drum.settings.cap < length_at kept b + length (waits b))
  -- and at `Done` nothing waited and all is judged
  pub done : ending ≡ Done → ((b : ℕ) → waits b ≡ []) × (judged_cut kept ≡ lengths_of kept)

-- the same of each book that was held, where the store tells, and of which so many were printed
abbrev pub GoesOn : LineKind → ℕ → (ℕ → ℕ) → List Tuple → Place → Place → Type 0
GoesOn kind early uneven news old new = ForSome old.moment.store.files (λ _. (x : Book)
    → HoldsAt old x → ArePrinted old.printed x → Goes kind early uneven news old new x)

abbrev pub EndsWith : LineKind → ℕ → (ℕ → ℕ) → List Tuple → Place → Place → Ending → Type 0
EndsWith kind early uneven news old new ending = ForSome old.moment.store.files (λ _. (x : Book)
    → HoldsAt old x → ArePrinted old.printed x → Ends kind early uneven news old new ending x)

abbrev pub HoldsNone : Place → Type 0
HoldsNone old = ForSome old.moment.store.files (λ _. (x : Book) → HoldsAt old x → ArePrinted old.printed x → ⊥)

-- whatever the bay held: the cause of each ending
pub record HasReason (old new : Place) (ending : Ending) : Type 0 where
  pub stays : Stays old.moment new.moment
  pub disk : HasCause (ending ≡ DiskFault) old.moment.store.faults new.moment.store.faults
  pub output : HasCause (ending ≡ OutputFault) old.output.faults new.output.faults
  pub opened : IsUnopened ending → ⊥
  pub damaged : (f at : ℕ) → ending ≡ Damaged f at
      → ForSome new.moment.store.files (λ files. IsSpoiltAt new.moment.drum files f at
      ⊎ IsJudgedSpoiltAt new.moment.drum files f at)
  pub long : (f at : ℕ) → ending ≡ Damaged f at → ForSome new.moment.store.files (IsLong new.moment.drum)
  pub whole : (f at : ℕ) → ending ≡ Damaged f at → HoldsNone old

-- What a call of a run does, whatever it answers: these offers are handed in where it isn't refused, and none where it
-- is.
pub record Steps (result : Result (Unit {0}) Ending) (kind : LineKind) (early : ℕ) (uneven : ℕ → ℕ) (news : List Tuple)
    (old new : Place) : Type 0 where
  pub goes : OnOk result (GoesOn kind early uneven news old new)
  -- all that was judged is printed
  pub whole : OnOk result (IsPrinted new)
  pub ends : IfErr result (λ ending. EndsWith kind early uneven [] old new ending)
  -- what it is refused with comes of no input
  pub kinds : IfErr result (λ ending. IsEndOfInput ending → ⊥)
  pub reason : HasReason old new (ending_of result)

-- ---- what is read
-- these offers were read from one place of the bytes left to another
pub record ReadsOn (kind : LineKind) (old new : Progress) (before after : List ℕ) (news : List Tuple) : Type 0 where
  pub offers : offered_from kind (old.number + 1) (lines before) ≡ news
      ++ offered_from kind (new.number + 1) (lines after)
  pub refuses : refused_from kind (old.number + 1) (lines before) ≡ refused_from kind (new.number + 1) (lines after)

-- the same where the source tells
abbrev pub ReadsOnTold : LineKind → Progress → Progress → Option (List ℕ) → Option (List ℕ) → List Tuple → Type 0
ReadsOnTold kind old new left_before left_after news = (before : List ℕ)
    → prepend_known old.ahead left_before ≡ Some before → (after : List ℕ)
    × (prepend_known new.ahead left_after ≡ Some after) × ReadsOn kind old new before after news

-- no line was left
abbrev pub EndsTold : LineKind → Progress → Option (List ℕ) → Option (List ℕ) → Type 0
EndsTold kind old left_before left_after = (before : List ℕ) → prepend_known old.ahead left_before ≡ Some before
    → (left_after ≡ Some []) × (offered_from kind (old.number + 1) (lines before) ≡ [])
    × (refused_from kind (old.number + 1) (lines before) ≡ None)

-- no line before the next one that is refused offers anything, and that one has this number
abbrev pub RefusesTold : LineKind → Progress → Option (List ℕ) → ℕ → Type 0
RefusesTold kind old left_before n = (before : List ℕ) → prepend_known old.ahead left_before ≡ Some before
    → (offered_from kind (old.number + 1) (lines before) ≡ [])
    × (refused_from kind (old.number + 1) (lines before) ≡ Some n)

-- These offers of an input were read before a run ended so: all of them at `Done`, and then nothing is left and none is
-- refused; and all before a line that is refused.
pub record HasRead (kind : LineKind) (news : List Tuple) (before after : Option (List ℕ)) (ending : Ending) : Type 0
  where
    pub offers : ForSome before (λ input. IsPrefixOf news (offered kind input))
    pub done : ending ≡ Done → ForSome before (λ input. (news ≡ offered kind input) × (after ≡ Some [])
        × (refused kind input ≡ None))
    pub line : (n : ℕ) → ending ≡ LineRefused n → ForSome before (λ input. (news ≡ offered kind input)
        × (refused kind input ≡ Some n))
