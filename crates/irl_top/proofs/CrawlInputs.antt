-- What a command that crawls does over an open store, by how far it comes: its input is refused, or the crawl, or it prints.
use Rattle.std.proofs.Common.{◌≡◌, ◌≢◌, ◌∙◌, ◌⊎◌, inl, inr, ℕ, ◌≤◌, List, [], Option, None, Some, refl, sym, ap, subst, arith}
use Rattle.std.specs.Prelude.{Result, Ok, Err, OnOk, IfErr, IsErrOf, ⊤}
use Rattle.std.specs.Option.{ForSome}
use Rattle.std.proofs.KnownBytes.{Appends-nil}
use Rattle.irl_base.specs.Faults.{HasCause}
use Rattle.irl_bay.specs.Drum.{IsDrum}
use Rattle.irl_crawl.specs.Leading.{Leads}
use Rattle.irl_crawl.specs.Turning.{events_since}
use Rattle.irl_crawl.specs.Workers.{Given}
use Rattle.irl_crawl.proofs.Leading.{leads_more_failed, leads_none, leads_wide}
use Rattle.irl_disk.specs.Images.{IsConsistent, Told}
use Rattle.irl_disk.proofs.Effects.{cause_for}
use Rattle.irl_events.specs.State.{State, IsFrontState}
use Rattle.irl_fate.specs.declared.counts.Counts.{Counts}
use Rattle.irl_offer.specs.declared.settings.Kind.TheVariants.{Crawl as CrawlKind}
use Rattle.irl_offer.specs.declared.settings.Settings.{Settings}
use Rattle.irl_record.specs.Taped.{Taped}
use Rattle.irl_record.specs.declared.reading.TapeFault.{TapeFault}
use Rattle.irl_record.specs.declared.reading.TapeFault.TheVariants.{BadRecord, Failed as TapeFailed, Memory as TapeMemory}
use Rattle.irl_report.specs.Report.{report_of}
use Rattle.irl_yard.specs.declared.parts.Parts.{Parts}
use Rattle.irl_yard.specs.Holding.{HoldsState, IsOpenRest, IsSound}
use Rattle.irl_yard.specs.Passing.{AreCounts}
use Rattle.irl_words.specs.declared.command.RunOptions.{RunOptions}
use Rattle.irl_top.specs.Crawled.{CrawlTask, part_task, suffixes_for, CrawlsInput, CrawlsTape, Crawled, EndsAsFound, GoesOver, GoesTo, IsCrawled}
use Rattle.irl_top.specs.Crawled.{IsCrawledEnding, IsCrawlEnding, IsOpenEnding, IsPlayEnding, IsPrintEnding, IsReadEnding, IsUnreadEnding, MayCrawl, MayCrawlInput}
use Rattle.irl_top.specs.Crawled.{PrintsCrawl, PrintsReport, RefusesSuffixes, ending_of_tape}
use Rattle.irl_top.specs.Listing.{IsWriteEnding}
use Rattle.irl_top.specs.Message.{ending_of}
use Rattle.irl_top.specs.Outside.{Lent}
use Rattle.irl_top.specs.Shown.{HasCounts}
use Rattle.irl_top.specs.Stream.{Stream}
use Rattle.irl_top.specs.declared.ending.Ending.{Ending}
use Rattle.irl_top.specs.declared.ending.Ending.TheVariants.{Done, BadSettings, LineRefused, NotOurs, Damaged, OtherSettings, DiskFault, InputFault, OutputFault, NoMemory, Full}
use Rattle.irl_top.proofs.Batching.{CrawlBatches, named_batch, none_crawled}
use Rattle.irl_top.proofs.Beginning.{asks_wider, only_wider}
use Rattle.irl_top.proofs.Giving.{GivesMore}
use Rattle.irl_top.proofs.Shows.{Printed, at_done, has_report, narrow, none_of, refused_as}

abbrev at : Told → Stream → Stream → Lent
at store input output = record { store = store; input = input; output = output }

-- nothing is written of a report
no_text : (ending : Ending) (y : State) → ending ≢ Done → PrintsReport ending y []
no_text ending y fine = let whole = has_report y in (whole.0, whole.1, none_of whole.0, λ is. absurd (fine is))

-- ---- the input is refused
-- an ending of it
abbrev IsTapeEnding : Ending → Type 0
IsTapeEnding Done = ⊥
IsTapeEnding (BadSettings n) = ⊥
IsTapeEnding (LineRefused n) = ⊤
IsTapeEnding (NotOurs at) = ⊥
IsTapeEnding (Damaged f at) = ⊥
IsTapeEnding (OtherSettings n kept wanted) = ⊥
IsTapeEnding DiskFault = ⊥
IsTapeEnding InputFault = ⊤
IsTapeEnding OutputFault = ⊥
IsTapeEnding NoMemory = ⊤
IsTapeEnding (Full n) = ⊥

tape_kind : (fault : TapeFault) → IsTapeEnding (ending_of_tape fault)
tape_kind (BadRecord n) = tt
tape_kind TapeFailed = tt
tape_kind TapeMemory = tt

tape_open : (fault : TapeFault) → IsOpenEnding (ending_of_tape fault)
tape_open (BadRecord n) = tt
tape_open TapeFailed = tt
tape_open TapeMemory = tt

tape_line : (fault : TapeFault) (n : ℕ) → ending_of_tape fault ≡ LineRefused n → fault ≡ BadRecord n
tape_line (BadRecord m) n is = let one : m ≡ n = cc in cc
tape_line TapeFailed n is = let no : ⊥ = cc in absurd no
tape_line TapeMemory n is = let no : ⊥ = cc in absurd no

tape_input : (fault : TapeFault) → ending_of_tape fault ≡ InputFault → fault ≡ TapeFailed
tape_input (BadRecord m) is = let no : ⊥ = cc in absurd no
tape_input TapeFailed is = refl
tape_input TapeMemory is = let no : ⊥ = cc in absurd no

not_tape : (fault : TapeFault) (ending : Ending) → ending_of_tape fault ≡ ending → IsTapeEnding ending
not_tape fault ending is = subst IsTapeEnding is (tape_kind fault)

not_read : (fault : TapeFault) → IsReadEnding (ending_of_tape fault) → ⊥
not_read fault (inl (inl done)) = not_tape fault Done done
not_read fault (inl (inr output)) = not_tape fault OutputFault output
not_read fault (inr (inl full)) = not_tape fault (Full full.0) full.1
not_read fault (inr (inr other)) = not_tape fault (OtherSettings other.0 other.1 other.2) other.3

not_crawled : (fault : TapeFault) → IsCrawledEnding (ending_of_tape fault) → ⊥
not_crawled fault crawled = not_read fault (inl crawled)

pub goes_unread : (task : CrawlTask) (fault : TapeFault) (parts : Parts) (now : Told) (old new output : Stream) → IsConsistent now → IsDrum parts.urls → IsSound parts
    → IsOpenRest parts.urls parts.rest now.files → parts.urls.settings.kind ≡ CrawlKind
    → ((n : ℕ) → fault ≡ BadRecord n → task.reads old.bytes (Err n)) → HasCause (fault ≡ TapeFailed) old.faults new.faults
    → GoesOver task parts parts (at now old output) (at now new output) (ending_of_tape fault)
goes_unread task fault parts now old new output law drum sound opened kind line cause =
    let ending = ending_of_tape fault in
    record {
      text = [];
      written = Appends-nil output.bytes;
      leads = leads_none (ending ≡ DiskFault) (MayCrawl task parts.urls.settings old.bytes) (GoesTo task parts.urls.settings old.bytes ending []) parts now law drum sound (not_tape fault DiskFault)
          (λ x held. record {
            may = inl refl;
            unread = λ is. refl;
            done = λ is. absurd (not_crawled fault is);
            full = λ n is. absurd (not_tape fault (Full n) is);
            whole = λ f at is. not_tape fault (Damaged f at) is;
            other = λ n kept wanted is. absurd (not_tape fault (OtherSettings n kept wanted) is);
            prints = no_text ending x (λ is. absurd (not_tape fault Done is));
          });
      batches = none_crawled (ending ≡ DiskFault) parts now law drum opened kind;
      found = record { spoilt = λ f at is. absurd (not_tape fault (Damaged f at) is) };
      silent = λ is. refl;
      read = λ is. absurd (not_tape fault Done is);
      accepted = λ is. absurd (not_read fault is);
      line = λ n is. line n (tape_line fault n is);
      kinds = tape_open fault;
      suffixes = λ n kept wanted is. absurd (not_tape fault (OtherSettings n kept wanted) is);
      input = cause_for (fault ≡ TapeFailed) (ending ≡ InputFault) old.faults new.faults (tape_input fault) cause;
      output = record { later = omega arith; rose = λ is. absurd (not_tape fault OutputFault is) };
    }

-- memory ran out before the crawl
pub goes_nowhere : (task : CrawlTask) (parts : Parts) (now : Told) (old new output : Stream) → IsConsistent now → IsDrum parts.urls → IsSound parts
    → IsOpenRest parts.urls parts.rest now.files → parts.urls.settings.kind ≡ CrawlKind → old.faults ≤ new.faults
    → GoesOver task parts parts (at now old output) (at now new output) NoMemory
goes_nowhere task parts now old new output law drum sound opened kind later = goes_unread task TapeMemory parts now old new output law drum sound opened kind
    (λ n no. let never : ⊥ = cc in absurd never) (record { later = later; rose = λ no. let never : ⊥ = cc in absurd never })

-- ---- the crawl is refused
crawl_play : (ending : Ending) → IsCrawlEnding ending → IsPlayEnding ending
crawl_play Done kind = tt
crawl_play (BadSettings n) kind = kind
crawl_play (LineRefused n) kind = kind
crawl_play (NotOurs at) kind = kind
crawl_play (Damaged f at) kind = tt
crawl_play (OtherSettings n kept wanted) kind = tt
crawl_play DiskFault kind = tt
crawl_play InputFault kind = kind
crawl_play OutputFault kind = tt
crawl_play NoMemory kind = tt
crawl_play (Full n) kind = tt

err_one : (a b : Ending) → IsErrOf {T = Unit {0}} {E = Ending} (Err a) b → a ≡ b
err_one a b is = cc

pub tape_refused : (task : CrawlTask) (input : Taped) (ending : Ending) (was now : Parts) (before after : Told) (output : Stream) → IsCrawlEnding ending
    → RefusesSuffixes (Err ending) input.suffixes
    → Leads (IsErrOf {T = Unit {0}} {E = Ending} (Err ending) DiskFault) (MayCrawlInput task was.urls.settings input) (Crawled (Err ending) task was.urls.settings input) was now before after
    → CrawlBatches (IsErrOf {T = Unit {0}} {E = Ending} (Err ending) DiskFault) was now before after
    → EndsAsFound (IsErrOf {T = Unit {0}} {E = Ending} (Err ending)) now after
    → CrawlsTape task input was now before after output output ending
tape_refused task input ending was now before after output kind refuses leads batches found =
    let not : (e : Ending) → ending ≡ e → IsCrawlEnding e = λ e is. subst IsCrawlEnding is kind in
    let not_done : IsCrawledEnding ending → ⊥ = λ is. elim is [ inl done ↦ not Done done | inr output ↦ not OutputFault output ] in
    record {
      text = [];
      written = Appends-nil output.bytes;
      leads = leads_more_failed (IsErrOf {T = Unit {0}} {E = Ending} (Err ending) DiskFault) (ending ≡ DiskFault) _ _ was now before after (err_one ending DiskFault) (λ is. ap Err is)
          (leads_wide _ _ _ (MayCrawlInput task was.urls.settings input) (PrintsCrawl task was.urls.settings input ending []) was now before after leads (λ x y held front may. may)
          (λ x y held held_now front is. record {
            crawls = is.crawls;
            fits = is.fits;
            done = λ e. absurd (not_done e);
            full = λ n e. is.full n (ap Err e);
            whole = λ f at e. is.whole f at (ap Err e);
            other = λ n kept wanted e. is.other n kept wanted (ap Err e);
            prints = no_text ending y (λ e. absurd (not Done e));
          }));
      batches = named_batch (IsErrOf {T = Unit {0}} {E = Ending} (Err ending) DiskFault) (ending ≡ DiskFault) was now before after (err_one ending DiskFault) batches;
      found = record { spoilt = λ f at is. found.spoilt f at (ap Err is) };
      silent = λ is. refl;
      kinds = crawl_play ending kind;
      suffixes = λ n kept wanted is. refuses n kept wanted (ap Err is);
      output = record { later = omega arith; rose = λ is. absurd (not OutputFault is) };
    }

-- ---- the report is printed
abbrev IsPrintedEnding : Ending → Type 0
IsPrintedEnding Done = ⊤
IsPrintedEnding (BadSettings n) = ⊥
IsPrintedEnding (LineRefused n) = ⊥
IsPrintedEnding (NotOurs at) = ⊥
IsPrintedEnding (Damaged f at) = ⊥
IsPrintedEnding (OtherSettings n kept wanted) = ⊥
IsPrintedEnding DiskFault = ⊥
IsPrintedEnding InputFault = ⊥
IsPrintedEnding OutputFault = ⊤
IsPrintedEnding NoMemory = ⊤
IsPrintedEnding (Full n) = ⊥

write_kind : (r : Result (Unit {0}) Ending) → IfErr r IsWriteEnding → IsPrintedEnding (ending_of r)
write_kind (Ok done) kinds = tt
write_kind (Err ending) (inl is) = subst IsPrintedEnding (sym is) tt
write_kind (Err ending) (inr is) = subst IsPrintedEnding (sym is) tt

write_play : (r : Result (Unit {0}) Ending) → IfErr r IsWriteEnding → IsPlayEnding (ending_of r)
write_play (Ok done) kinds = tt
write_play (Err ending) (inl is) = subst IsPlayEnding (sym is) tt
write_play (Err ending) (inr is) = subst IsPlayEnding (sym is) tt

ok_never : (ending : Ending) → IsErrOf {T = Unit {0}} {E = Ending} (Ok tt) ending → ⊥
ok_never ending is = cc

print_of : (ending : Ending) → IsPrintedEnding ending → IsPrintEnding ending
print_of Done kind = inl refl
print_of (BadSettings n) kind = absurd kind
print_of (LineRefused n) kind = absurd kind
print_of (NotOurs at) kind = absurd kind
print_of (Damaged f at) kind = absurd kind
print_of (OtherSettings n kept wanted) kind = absurd kind
print_of DiskFault kind = absurd kind
print_of InputFault kind = absurd kind
print_of OutputFault kind = inr (inl refl)
print_of NoMemory kind = inr (inr refl)
print_of (Full n) kind = absurd kind

pub tape_printed : (task : CrawlTask) (input : Taped) (r : Result (Unit {0}) Ending) (counts : Counts) (was now : Parts) (before after : Told) (output sink : Stream)
    → Leads (IsErrOf {T = Unit {0}} {E = Ending} (Ok tt) DiskFault) (MayCrawlInput task was.urls.settings input) (Crawled (Ok tt) task was.urls.settings input) was now before after
    → CrawlBatches (IsErrOf {T = Unit {0}} {E = Ending} (Ok tt) DiskFault) was now before after
    → ((y : State) → HoldsState after.images now y → AreCounts now.urls.settings y counts) → Printed r (report_of counts) output sink
    → CrawlsTape task input was now before after output sink (ending_of r)
tape_printed task input r counts was now before after output sink leads batches count printed =
    let wide = narrow r printed.kinds in
    let not : (e : Ending) → ending_of r ≡ e → IsPrintedEnding e = λ e is. subst IsPrintedEnding is (write_kind r printed.kinds) in
    record {
      text = printed.text;
      written = printed.written;
      leads = leads_more_failed (IsErrOf {T = Unit {0}} {E = Ending} (Ok tt) DiskFault) (ending_of r ≡ DiskFault) _ _ was now before after (λ is. absurd (ok_never DiskFault is)) (λ is.
          absurd (not DiskFault is))
          (leads_wide _ _ _ (MayCrawlInput task was.urls.settings input) (PrintsCrawl task was.urls.settings input (ending_of r) printed.text) was now before after leads
          (λ x y held front may. may)
          (λ x y held held_now front is. record {
            crawls = is.crawls;
            fits = is.fits;
            done = λ e. is.done;
            full = λ n e. absurd (not (Full n) e);
            whole = λ f at e. not (Damaged f at) e;
            other = λ n kept wanted e. absurd (not (OtherSettings n kept wanted) e);
            prints = (
              report_of counts,
              (counts, subst (λ (o : Option Settings). HasCounts o y counts) (sym held_now.urls.settings) (count y held_now), refl),
              printed.is.0,
              λ e. at_done r (printed.text ≡ report_of counts) wide printed.is.1 e,
            );
          }));
      batches = named_batch (IsErrOf {T = Unit {0}} {E = Ending} (Ok tt) DiskFault) (ending_of r ≡ DiskFault) was now before after (λ is. absurd (ok_never DiskFault is)) batches;
      found = record { spoilt = λ f at e. absurd (not (Damaged f at) e) };
      silent = λ none. absurd (none (print_of (ending_of r) (write_kind r printed.kinds)));
      kinds = write_play r printed.kinds;
      suffixes = λ n kept wanted is. absurd (not (OtherSettings n kept wanted) is);
      output = cause_for (IsErrOf r OutputFault) (ending_of r ≡ OutputFault) output.faults sink.faults (refused_as r OutputFault (λ e. cc)) printed.output;
    }

-- ---- a task that has it as its part
play_open : (ending : Ending) → IsPlayEnding ending → IsOpenEnding ending
play_open Done kind = tt
play_open (BadSettings n) kind = kind
play_open (LineRefused n) kind = tt
play_open (NotOurs at) kind = kind
play_open (Damaged f at) kind = tt
play_open (OtherSettings n kept wanted) kind = tt
play_open DiskFault kind = tt
play_open InputFault kind = tt
play_open OutputFault kind = tt
play_open NoMemory kind = tt
play_open (Full n) kind = tt

-- one by these options that gives more
abbrev pub wider_task : RunOptions → (Option (List ℕ) → Result Taped ℕ → Type 0) → (Stream → Stream → Type 0) → (Taped → Given) → CrawlTask
wider_task options reads ends given = record { reads = reads; ends = ends; given = given; agent = options.agent; pages = options.pages; batch = options.batch }

module _ (options : RunOptions) (reads : Option (List ℕ) → Result Taped ℕ → Type 0) (ends : Stream → Stream → Type 0) (gives : Taped → Given) (given : Given) (input : Taped)
    (more : GivesMore given (gives input)) where
  abbrev task : CrawlTask
  task = wider_task options reads ends gives

  abbrev crawls_more : (settings : Settings) (x y : State) → CrawlsInput (part_task options given) settings input x y → CrawlsInput task settings input x y
  crawls_more settings x y = only_wider given (gives input) options.agent (suffixes_for x input) input.seeds settings 1 options.pages options.batch x y more

  crawled_more : (settings : Settings) (x y : State) → IsCrawled (part_task options given) settings input x y → IsCrawled task settings input x y
  crawled_more settings x y is = record {
    fits = is.fits;
    crawls = crawls_more settings x y is.crawls;
    whole = is.whole;
    asks = asks_wider given (gives input) is.crawls.visits (events_since x y) more is.asks;
    ends = is.ends;
  }

  may_more : (bytes : Option (List ℕ)) (settings : Settings) (x y : State) → reads bytes (Ok input) → IsFrontState x y → MayCrawlInput (part_task options given) settings input x y
      → MayCrawl task settings bytes x y
  may_more bytes settings x y is_input front may = elim may.1 [ inl same ↦ inl same | inr fits ↦ inr (input, is_input, fits, crawls_more settings x y may.0, front) ]

  -- an input was read, and then crawled
  pub goes_crawled : (ending : Ending) (was now : Parts) (before after : Told) (old new output sink : Stream) → reads old.bytes (Ok input) → ends old new → old.faults ≤ new.faults
      → CrawlsTape (part_task options given) input was now before after output sink ending → GoesOver task was now (at before old output) (at after new sink) ending
  goes_crawled ending was now before after old new output sink is_input read later tape =
      let not : (e : Ending) → ending ≡ e → IsPlayEnding e = λ e is. subst IsPlayEnding is tape.kinds in
      let not_unread : IsUnreadEnding ending → ⊥ = λ is. elim is [ inl fault ↦ not InputFault fault | inr line ↦ not (LineRefused line.0) line.1 ] in
      record {
        text = tape.text;
        written = tape.written;
        leads = leads_wide _ _ _ (MayCrawl task was.urls.settings old.bytes) (GoesTo task was.urls.settings old.bytes ending tape.text) was now before after tape.leads
            (λ x y held front may. may_more old.bytes was.urls.settings x y is_input front may)
            (λ x y held held_now front is. record {
              may = may_more old.bytes was.urls.settings x y is_input front (is.crawls, is.fits);
              unread = λ e. absurd (not_unread e);
              done = λ e. (input, is_input, crawled_more was.urls.settings x y (is.done e));
              full = λ n e. let full = is.full n e in (input, is_input, (full.0, (crawls_more was.urls.settings x y full.1.0, full.1.1)));
              whole = is.whole;
              other = λ n kept wanted e. let has = is.other n kept wanted e in (has.0, (input, is_input, has.1));
              prints = is.prints;
            });
        batches = tape.batches;
        found = tape.found;
        silent = tape.silent;
        read = λ is. read;
        accepted = λ is. (input, is_input);
        line = λ n is. absurd (not (LineRefused n) is);
        kinds = play_open ending tape.kinds;
        suffixes = λ n kept wanted is.
            let has = tape.suffixes n kept wanted is in
            (has.0, record { input = input; is_input = is_input; named = has.2; wanted_is = has.1 });
        input = record { later = later; rose = λ is. absurd (not InputFault is) };
        output = tape.output;
      }
