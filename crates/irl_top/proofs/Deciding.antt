-- What a run ends in, by what it says of its ending.
use Rattle.std.proofs.Common.{◌≡◌, ◌≢◌, ◌∙◌, ◌⊎◌, inl, inr, ⊎_elim, ℕ, ◌+◌, ◌-◌, ◌<◌, ◌≤◌, List, [], length, Option, Some, refl, sym, ap, subst, length-append, arith}
use Rattle.std.specs.Prelude.{Result, Ok, Err, OnOk, OnErr, IsErr, unwrap_or, slice_index}
use Rattle.std.specs.Io.KnownBytes.{Appends}
use Rattle.irl_base.specs.Faults.{HasCause}
use Rattle.irl_offer.specs.Settings.{AreValid, settings_of}
use Rattle.irl_offer.specs.declared.settings.Asked.{Asked}
use Rattle.irl_offer.specs.declared.settings.Settings.{Settings}
use Rattle.irl_offer.specs.Tuple.{Tuple}
use Rattle.irl_model.specs.Book.{IsFront, part}
use Rattle.irl_model.proofs.FrontLaws.{front_same}
use Rattle.irl_events.specs.State.{State}
use Rattle.irl_disk.specs.Disk.{Files}
use Rattle.irl_io.specs.Written.{AppendsPrefix}
use Rattle.irl_offer.specs.declared.settings.Kind.TheVariants.{Crawl as CrawlKind}
use Rattle.irl_words.specs.Words.{AreRunOptions, IsInRange}
use Rattle.irl_words.specs.declared.command.Command.{Command}
use Rattle.irl_words.specs.declared.command.RunOptions.{RunOptions}
use Rattle.irl_words.specs.declared.command.Command.TheVariants.{Seen, Drum as DrumOf, Replay, Crawl, Gen, Show, List as Listing}
use Rattle.irl_yard.specs.Standing.{HasState}
use Rattle.irl_head.specs.Asking.{Agrees, IsBadAsked}
use Rattle.irl_head.specs.Opening.{IsBadStore, IsKeptOtherwise}
use Rattle.irl_yard.specs.Opening.{entered_state}
use Rattle.irl_yard.proofs.Grounds.{blank_has, entered_made, made_has}
use Rattle.irl_head.proofs.HeadBytes.{valid_numbers}
use Rattle.irl_schedule.specs.Feeding.{list_at, length_at}
use Rattle.irl_top.specs.Message.{Says, status_of, refused_status}
use Rattle.irl_top.specs.Outside.{Lent}
use Rattle.irl_top.specs.Ports.{Port}
use Rattle.irl_top.specs.Run.{Task, line_task, settings_in, Reaches, TakesIn, Ran, Completes, Filtered, Does, WaitsForNobody}
use Rattle.irl_top.specs.Shown.{IsListingOf, IsReportOf, IsShowEnding, Shown}
use Rattle.irl_top.specs.Stream.{Stream}
use Rattle.irl_top.specs.declared.line.LineKind.TheVariants.{Text as TextLine, Tuple as TupleLine}
use Rattle.irl_top.specs.declared.ending.Ending.{Ending}
use Rattle.irl_top.proofs.Growing.{Starts, starts, front_list, part_prefix}
use Rattle.irl_top.specs.declared.ending.Ending.TheVariants.{Done, BadSettings, LineRefused, NotOurs, Damaged, OtherSettings, DiskFault, InputFault, OutputFault, NoMemory, Full}

pub says_of : {T E : Type 0} (r : Result T E) (text : List ℕ) (old new : Stream) → OnOk r (Appends old.bytes new.bytes text) → OnErr r (AppendsPrefix old.bytes new.bytes text)
    → HasCause (IsErr r) old.faults new.faults → Says text old new
says_of (Ok x) text old new ok err cause = record { later = cause.later; written = inl ok }
says_of (Err e) text old new ok err cause = record { later = cause.later; written = inr (err, cause.rose refl) }

-- settings that lie in their ranges aren't refused
not_bad_asked : (settings : Settings) (n : ℕ) → AreValid settings → IsBadAsked settings n → ⊥
not_bad_asked settings n valid bad = bad.bad (valid_numbers settings valid n bad.within.0 bad.within.1)

not_refused : (task : Task) (before after : Lent) (ending : Ending) → Ran task before after ending → AreValid (settings_of task.asked) → status_of ending ≢ refused_status
not_refused task before after Done ran valid = λ is. omega (arith, is)
not_refused task before after (BadSettings n) ran valid = λ is. not_bad_asked (settings_of task.asked) n valid (ran.bad_asked n refl)
not_refused task before after (LineRefused n) ran valid = λ is. omega (arith, is)
not_refused task before after (NotOurs at) ran valid = λ is. omega (arith, is)
not_refused task before after (Damaged f at) ran valid = λ is. omega (arith, is)
not_refused task before after (OtherSettings n kept wanted) ran valid = λ is. omega (arith, is)
not_refused task before after DiskFault ran valid = λ is. omega (arith, is)
not_refused task before after InputFault ran valid = λ is. omega (arith, is)
not_refused task before after OutputFault ran valid = λ is. omega (arith, is)
not_refused task before after NoMemory ran valid = λ is. omega (arith, is)
not_refused task before after (Full b) ran valid = λ is. omega (arith, is)

-- a store that can be made isn't refused for a setting
pub not_bad : (asked : Asked) (files : Files) (x : State) (n : ℕ) → HasState x files → AreValid (settings_in asked x) → IsBadStore asked files n → ⊥
not_bad asked files x n has valid bad =
    let blank = (blank_has x files bad.0.head has).1 in
    let fresh : AreValid (settings_of asked) = subst (λ (s : State). AreValid (settings_in asked s)) blank valid in
    not_bad_asked (settings_of asked) n fresh bad.1

-- one that was made as is asked isn't refused for another
pub not_other : (asked : Asked) (files : Files) (x : State) (n kept wanted : ℕ) → HasState x files → Agrees asked (settings_in asked x) → IsKeptOtherwise asked files n kept wanted → ⊥
not_other asked files x n kept wanted has agrees other =
    let made = made_has other.0 x files other.1 has in
    let same : settings_in asked x ≡ other.0 = ap (λ (o : Option Settings). unwrap_or o (settings_of asked)) made.settings_are in
    let agree = subst (Agrees asked) same agrees in
    other.2.differ (sym (agree (n - 1) wanted kept other.2.asked_is other.2.kept_is))

-- what is acknowledged over an opened store comes of the state that entering makes
entered_to : (task : Task) (x kept : State) → Reaches task.asked x kept → kept.settings ≡ Some (settings_in task.asked x) → IsFront (entered_state task.asked x).urls kept.urls
entered_to task x kept (inl same) made =
    let is : entered_state task.asked x ≡ kept = entered_made task.asked (settings_in task.asked x) x (sym (ap (λ (s : State). s.settings) same) ∙ made) ∙ sym same in
    subst (λ (s : State). IsFront s.urls kept.urls) (sym is) (front_same kept.urls)
entered_to task x kept (inr grows) made = grows.1.front

-- a bucket that is full didn't fit with its part of the offers
no_room : (task : Task) (x kept : State) (input : List ℕ) (b : ℕ) → b < (settings_in task.asked x).buckets → IsFront (entered_state task.asked x).urls kept.urls → Starts x (entered_state task.asked x)
    → TakesIn task x kept input (Full b)
    → (part (settings_in task.asked x).buckets b (task.offers input) ≡ []) ⊎ (length_at (entered_state task.asked x).urls b + length (part (settings_in task.asked x).buckets b (task.offers input))
    ≤ (settings_in task.asked x).cap) → ⊥
no_room task x kept input b within front start takes fits =
    let settings = settings_in task.asked x in
    let y = entered_state task.asked x in
    let list = front_list y.urls kept.urls b front in
    let grown = ap (λ (l : List Tuple). length l) list.1 in
    let both = ap (λ (l : List Tuple). length l) (takes.keeps b within) in
    let was = ap (λ (l : List Tuple). length l) (start.lists b) in
    let firsts = ap (λ (l : List ℕ). slice_index l b) front.firsts in
    let more = part_prefix settings.buckets b takes.news (task.offers input) takes.read in
    let all = ap (λ (l : List Tuple). length l) more.1 in
    let full = takes.full b refl in
    let one = length-append (list_at y.urls b) list.0 in
    let two = length-append (list_at kept.urls b) (takes.waiting b) in
    let three = length-append (list_at x.urls b) (part settings.buckets b takes.news) in
    let four = length-append (part settings.buckets b takes.news) more.0 in
    ⊎_elim
    (λ none. let no = ap (λ (l : List Tuple). length l) none in omega (arith, no, grown, both, was, all, full.0, one, two, three, four))
    (λ few. omega (arith, few, firsts, grown, both, was, all, full.1, one, two, three, four))
    fits

completes : (task : Task) (before after : Lent) (ending : Ending) → Ran task before after ending → Completes task before after ending
completes task before after Done ran = λ files x input told has known agrees valid fits disk source output. inr (inl (refl, (ran.read refl input known).1))
completes task before after (BadSettings n) ran = λ files x input told has known agrees valid fits disk source output. absurd (not_bad task.asked files x n has valid (ran.bad n refl files told))
completes task before after (LineRefused n) ran = λ files x input told has known agrees valid fits disk source output. inr (inr (n, refl, ran.line n refl input known))
completes task before after (NotOurs at) ran = λ files x input told has known agrees valid fits disk source output. absurd (ran.whole_ours at refl files told x has)
completes task before after (Damaged f at) ran = λ files x input told has known agrees valid fits disk source output. absurd (ran.whole f at refl files told x has)
completes task before after (OtherSettings n kept wanted) ran = λ files x input told has known agrees valid fits disk source output.
    absurd (not_other task.asked files x n kept wanted has agrees (ran.other n kept wanted refl files told))
completes task before after DiskFault ran = λ files x input told has known agrees valid fits disk source output. absurd (disk (ran.disk.rose refl))
completes task before after InputFault ran = λ files x input told has known agrees valid fits disk source output. absurd (source (ran.input.rose refl))
completes task before after OutputFault ran = λ files x input told has known agrees valid fits disk source output. absurd (output (ran.output.rose refl))
completes task before after NoMemory ran = λ files x input told has known agrees valid fits disk source output. inl refl
completes task before after (Full b) ran = λ files x input told has known agrees valid fits disk source output.
    let extends = ran.extends files told x has in
    let full = extends.full b refl in
    absurd (no_room task x extends.kept input b full.0 (entered_to task x extends.kept extends.reaches.0 (extends.entered (inr (inr (inr (inr (b, refl))))))) (starts task.asked x files has)
    (extends.takes input known) (fits b full.0))

-- ---- commands
-- what each does, by what is said of its run
filtered : (task : Task) (before after : Lent) (ending : Ending) → Ran task before after ending → Filtered task before after ending
filtered task before after ending ran = record { ran = ran; completes = completes task before after ending ran }

pub does_seen : (command : Command) (asked : Asked) (olds news : List Port) (before after : Lent) (ending : Ending) → command ≡ Seen asked → Ran (line_task TextLine asked) before after ending
    → Does command olds news before after ending
does_seen command asked olds news before after ending is ran =
    subst (λ (c : Command). Does c olds news before after ending) (sym is) (filtered (line_task TextLine asked) before after ending ran)

pub does_drum : (command : Command) (asked : Asked) (olds news : List Port) (before after : Lent) (ending : Ending) → command ≡ DrumOf asked → Ran (line_task TupleLine asked) before after ending
    → Does command olds news before after ending
does_drum command asked olds news before after ending is ran =
    subst (λ (c : Command). Does c olds news before after ending) (sym is) (filtered (line_task TupleLine asked) before after ending ran)

pub does_show : (command : Command) (olds news : List Port) (before after : Lent) (ending : Ending) → command ≡ Show → Shown IsReportOf before after ending → Does command olds news before after ending
does_show command olds news before after ending is shown = subst (λ (c : Command). Does c olds news before after ending) (sym is) shown

pub does_list : (command : Command) (olds news : List Port) (before after : Lent) (ending : Ending) → command ≡ Listing → Shown IsListingOf before after ending
    → Does command olds news before after ending
does_list command olds news before after ending is shown = subst (λ (c : Command). Does c olds news before after ending) (sym is) shown

-- one that only looks is refused no setting
look_accepted : (ending : Ending) → IsShowEnding ending → status_of ending ≢ refused_status
look_accepted Done kind = λ is. omega (arith, is)
look_accepted (BadSettings n) kind = absurd kind
look_accepted (LineRefused n) kind = absurd kind
look_accepted (NotOurs at) kind = λ is. omega (arith, is)
look_accepted (Damaged f at) kind = λ is. omega (arith, is)
look_accepted (OtherSettings n kept wanted) kind = absurd kind
look_accepted DiskFault kind = λ is. omega (arith, is)
look_accepted InputFault kind = absurd kind
look_accepted OutputFault kind = λ is. omega (arith, is)
look_accepted NoMemory kind = λ is. omega (arith, is)
look_accepted (Full b) kind = absurd kind

-- one that is in range is never refused as words are
pub accepted : (command : Command) (olds news : List Port) (before after : Lent) (ending : Ending) → Does command olds news before after ending → IsInRange command → WaitsForNobody command
    → status_of ending ≢ refused_status
accepted (Seen asked) olds news before after ending does range plain = not_refused (line_task TextLine asked) before after ending does.ran range.valid
accepted (DrumOf asked) olds news before after ending does range plain = not_refused (line_task TupleLine asked) before after ending does.ran range.valid
accepted (Replay asked options) olds news before after ending does range plain = absurd plain
accepted (Crawl asked options number) olds news before after ending does range plain = absurd plain
accepted (Gen asked options pages) olds news before after ending does range plain = absurd plain
accepted Show olds news before after ending does range plain = look_accepted ending does.kinds
accepted Listing olds news before after ending does range plain = look_accepted ending does.kinds

-- a command that waits for nobody does so whatever ports tell, and calls none
pub does_plain : (command : Command) (olds news others mores : List Port) (before after : Lent) (ending : Ending) → WaitsForNobody command → Does command olds news before after ending
    → Does command others mores before after ending
does_plain (Seen asked) olds news others mores before after ending plain does = does
does_plain (DrumOf asked) olds news others mores before after ending plain does = does
does_plain (Replay asked options) olds news others mores before after ending plain does = absurd plain
does_plain (Crawl asked options number) olds news others mores before after ending plain does = absurd plain
does_plain (Gen asked options pages) olds news others mores before after ending plain does = absurd plain
does_plain Show olds news others mores before after ending plain does = does
does_plain Listing olds news others mores before after ending plain does = does

-- a command that isn't a crawl waits for nobody
pub waits_not : (command : Command) → ((asked : Asked) (options : RunOptions) → command ≡ Replay asked options → ⊥)
    → ((asked : Asked) (options : RunOptions) (number : ℕ) → command ≡ Crawl asked options number → ⊥)
    → ((asked : Asked) (options : RunOptions) (pages : ℕ) → command ≡ Gen asked options pages → ⊥) → WaitsForNobody command
waits_not (Seen asked) not_replay not_crawl not_gen = tt
waits_not (DrumOf asked) not_replay not_crawl not_gen = tt
waits_not (Replay asked options) not_replay not_crawl not_gen = not_replay asked options refl
waits_not (Crawl asked options number) not_replay not_crawl not_gen = not_crawl asked options number refl
waits_not (Gen asked options pages) not_replay not_crawl not_gen = not_gen asked options pages refl
waits_not Show not_replay not_crawl not_gen = tt
waits_not Listing not_replay not_crawl not_gen = tt

pub replay_waits : (command : Command) (asked : Asked) (options : RunOptions) → command ≡ Replay asked options → WaitsForNobody command → ⊥
replay_waits command asked options is plain = subst WaitsForNobody is plain

pub crawl_waits : (command : Command) (asked : Asked) (options : RunOptions) (number : ℕ) → command ≡ Crawl asked options number → WaitsForNobody command → ⊥
crawl_waits command asked options number is plain = subst WaitsForNobody is plain

pub gen_waits : (command : Command) (asked : Asked) (options : RunOptions) (pages : ℕ) → command ≡ Gen asked options pages → WaitsForNobody command → ⊥
gen_waits command asked options pages is plain = subst WaitsForNobody is plain

-- what a command that crawls asks
kind_of : (asked : Asked) → Some asked.kind ≡ Some CrawlKind → asked.kind ≡ CrawlKind
kind_of asked is = cc

pub replay_asked : (asked : Asked) (options : RunOptions) → IsInRange (Replay asked options) → (asked.kind ≡ CrawlKind) × AreRunOptions options
replay_asked asked options range = (kind_of asked range.kind, range.run)

pub crawl_asked : (asked : Asked) (options : RunOptions) (number : ℕ) → IsInRange (Crawl asked options number) → (asked.kind ≡ CrawlKind) × AreRunOptions options
crawl_asked asked options number range = (kind_of asked range.kind, range.run)

pub gen_asked : (asked : Asked) (options : RunOptions) (pages : ℕ) → IsInRange (Gen asked options pages) → (asked.kind ≡ CrawlKind) × AreRunOptions options
gen_asked asked options pages range = (kind_of asked range.kind, range.run)
