use Rattle.std.proofs.Common.{◌∙◌, Ok, Err, length, IsErrOf, ap, refl}
use Rattle.std.proofs.lemmas.Result.{err_from_is_err_and}
use Rattle.irl_crawl.proofs.Settling.{begun_kept, begun_settled, judged_whole, judges_by, judging_refused, ledger_after, notes_refused, noting_leads, settings_kept, settle_refused, settles_as, settles_still, settling_leads, suffixes_settled}
use Rattle.irl_base.specs.declared.fault.Fault.TheVariants.{Failed}
use Rattle.irl_yard.specs.Settling.{settle_of}
use Rattle.irl_crawl.proofs.Records.{crawl_of}
use Rattle.irl_crawl.proofs.RecordsJudged.{begun_on, event_judged, failed_on, none_judged, ok_or_failed, refused_batch, settle_batch, suffixes_there, turned_then}
use Rattle.irl_crawl.proofs.RecordsOfLog.{event_batch, event_on, event_there, notes_batch, notes_on}
use Rattle.irl_crawl.proofs.RecordsThen.{batches_more, leads_on, same_within}
use Rattle.irl_crawl.specs.Batches.{judged_in, just}
use Rattle.irl_crawl.proofs.Refusing.{refused_never, refused_ok, refused_on}
use Rattle.irl_crawl.proofs.turn.settle.Goals as goal

pub returns-in_err-note_all-clause-leads : goal.returns-in_err-note_all-clause-leads
returns-in_err-note_all-clause-leads g c = λ suffixes is.
    let tells = g.S.Store.told in
    let was = c.args.yard.now in
    let now = c.note_all.new.self in
    let adds = c.in_err-note_all.ensures.adds in
    let out = err_from_is_err_and c.from_residual.result c.from_residual.ensures.1 in
    settles_as suffixes c.args.notes.now c.args.done.now was.parts.urls.settings was.parts now.parts (tells was.store) (tells now.store) c.from_residual.result c.in_err-note_all.field-0.0 out.0 out.1
    out.2
    (notes_refused suffixes c.args.notes.now c.args.done.now was.parts.urls.settings was.parts (tells was.store) c.in_err-note_all.field-0.0 now.parts (tells now.store)
    (noting_leads tells g.met.S.Store.is_consistent (Err c.in_err-note_all.field-0.0) was.parts now.parts was.store now.store c.is_sound-is_sound.ensures.drum c.in_err-note_all.ensures.goes_on
    c.args.notes.now adds)
    adds.full adds.damaged)

pub settle-requires-clause-settles : goal.settle-requires-clause-settles
settle-requires-clause-settles g c =
    let was = c.args.yard.now in
    let now = c.note_all.new.self in
    let adds = c.in_ok-note_all.ensures.adds in
    settles_still was.parts.urls now.parts.urls was.parts.rest now.parts.rest c.args.done.now adds.urls adds.tables
    (ledger_after was.parts now.parts (g.S.Store.told was.store).files (g.S.Store.told now.store).files was.rest_is now.rest_is adds.urls c.requires.«open».begun) c.requires.settles

pub returns-in_err-settle-clause-leads : goal.returns-in_err-settle-clause-leads
returns-in_err-settle-clause-leads g c = λ suffixes is.
    let tells = g.S.Store.told in
    let law = g.met.S.Store.is_consistent in
    let was = c.args.yard.now in
    let mid = c.note_all.new.self in
    let now = c.settle.new.self in
    let adds = c.in_err-settle.ensures.adds in
    let out = err_from_is_err_and c.from_residual-in_err-settle.result c.from_residual-in_err-settle.ensures.1 in
    settles_as suffixes c.args.notes.now c.args.done.now was.parts.urls.settings was.parts now.parts (tells was.store) (tells now.store) c.from_residual-in_err-settle.result c.in_err-settle.field-0.0
    out.0
    out.1 out.2
    (settle_refused suffixes c.args.notes.now c.args.done.now was.parts.urls.settings was.parts (tells was.store) mid.parts (tells mid.store) c.in_ok-note_all.field-0
    (noting_leads tells law (Ok c.in_ok-note_all.field-0) was.parts mid.parts was.store mid.store c.is_sound-is_sound.ensures.drum c.in_ok-note_all.ensures.goes_on c.args.notes.now
    c.in_ok-note_all.ensures.adds)
    c.in_err-settle.field-0.0 now.parts (tells now.store)
    (settling_leads tells law (Err c.in_err-settle.field-0.0) mid.parts now.parts mid.store now.store c.in_ok-note_all.ensures.goes_on.drum c.in_err-settle.ensures.goes_on c.args.done.now adds)
    adds.full adds.damaged)

pub judge-requires : goal.judge-requires
judge-requires g c =
    let tells = g.S.Store.told in
    let was = c.args.yard.now in
    let mid = c.note_all.new.self in
    let now = c.settle.new.self in
    record {
      «open» = record {
        sound = c.in_ok-settle.ensures.goes_on.sound (λ is. cc);
        begun = begun_settled tells c.args.notes.now was.parts mid.parts was.store mid.store c.in_ok-note_all.field-0 c.in_ok-note_all.ensures.adds was.rest_is mid.rest_is c.requires.«open».begun
            c.args.done.now now.parts now.store c.in_ok-settle.field-0 c.in_ok-settle.ensures.adds now.rest_is;
      };
    }

pub returns-in_err-judge-clause-leads : goal.returns-in_err-judge-clause-leads
returns-in_err-judge-clause-leads g c = λ suffixes is.
    let tells = g.S.Store.told in
    let law = g.met.S.Store.is_consistent in
    let was = c.args.yard.now in
    let mid = c.note_all.new.self in
    let late = c.settle.new.self in
    let now = c.judge.new.yard in
    let out = err_from_is_err_and c.from_residual-in_err-judge.result c.from_residual-in_err-judge.ensures.1 in
    let same = settings_kept tells c.args.notes.now was.parts mid.parts was.store mid.store c.in_ok-note_all.field-0 c.in_ok-note_all.ensures.adds was.rest_is mid.rest_is c.requires.«open».begun
    c.args.done.now late.parts late.store c.in_ok-settle.field-0 c.in_ok-settle.ensures.adds late.rest_is in
    let kept = suffixes_settled tells c.args.notes.now was.parts mid.parts was.store mid.store c.in_ok-note_all.field-0 c.in_ok-note_all.ensures.adds was.rest_is mid.rest_is c.requires.«open».begun
    c.args.done.now late.parts late.store c.in_ok-settle.field-0 c.in_ok-settle.ensures.adds late.rest_is in
    settles_as suffixes c.args.notes.now c.args.done.now was.parts.urls.settings was.parts now.parts (tells was.store) (tells now.store) c.from_residual-in_err-judge.result c.in_err-judge.field-0.0
    out.0
    out.1 out.2
    (judging_refused suffixes c.args.notes.now c.args.done.now was.parts.urls.settings was.parts (tells was.store) mid.parts (tells mid.store) c.in_ok-note_all.field-0
    (noting_leads tells law (Ok c.in_ok-note_all.field-0) was.parts mid.parts was.store mid.store c.is_sound-is_sound.ensures.drum c.in_ok-note_all.ensures.goes_on c.args.notes.now
    c.in_ok-note_all.ensures.adds)
    late.parts (tells late.store) c.in_ok-settle.field-0
    (settling_leads tells law (Ok c.in_ok-settle.field-0) mid.parts late.parts mid.store late.store c.in_ok-note_all.ensures.goes_on.drum c.in_ok-settle.ensures.goes_on c.args.done.now
    c.in_ok-settle.ensures.adds)
    c.in_err-judge.field-0.0 now.parts (tells now.store)
    (judges_by suffixes (Err c.in_err-judge.field-0.0) late.parts now.parts (tells late.store) (tells now.store) late.parts.urls.settings was.parts.urls.settings same
    (c.in_err-judge.ensures.leads suffixes (kept ∙ is))))

pub returns-clause-leads : goal.returns-clause-leads
returns-clause-leads g c = λ suffixes is.
    let tells = g.S.Store.told in
    let law = g.met.S.Store.is_consistent in
    let was = c.args.yard.now in
    let mid = c.note_all.new.self in
    let late = c.settle.new.self in
    let now = c.judge.new.yard in
    let same = settings_kept tells c.args.notes.now was.parts mid.parts was.store mid.store c.in_ok-note_all.field-0 c.in_ok-note_all.ensures.adds was.rest_is mid.rest_is c.requires.«open».begun
    c.args.done.now late.parts late.store c.in_ok-settle.field-0 c.in_ok-settle.ensures.adds late.rest_is in
    let kept = suffixes_settled tells c.args.notes.now was.parts mid.parts was.store mid.store c.in_ok-note_all.field-0 c.in_ok-note_all.ensures.adds was.rest_is mid.rest_is c.requires.«open».begun
    c.args.done.now late.parts late.store c.in_ok-settle.field-0 c.in_ok-settle.ensures.adds late.rest_is in
    judged_whole suffixes c.args.notes.now c.args.done.now was.parts.urls.settings was.parts (tells was.store) mid.parts (tells mid.store) c.in_ok-note_all.field-0
    (noting_leads tells law (Ok c.in_ok-note_all.field-0) was.parts mid.parts was.store mid.store c.is_sound-is_sound.ensures.drum c.in_ok-note_all.ensures.goes_on c.args.notes.now
    c.in_ok-note_all.ensures.adds)
    late.parts (tells late.store) c.in_ok-settle.field-0
    (settling_leads tells law (Ok c.in_ok-settle.field-0) mid.parts late.parts mid.store late.store c.in_ok-note_all.ensures.goes_on.drum c.in_ok-settle.ensures.goes_on c.args.done.now
    c.in_ok-settle.ensures.adds)
    c.in_ok-judge.field-0 (length c.args.done.now) now.parts (tells now.store)
    (judges_by suffixes (Ok c.in_ok-judge.field-0) late.parts now.parts (tells late.store) (tells now.store) late.parts.urls.settings was.parts.urls.settings same
    (c.in_ok-judge.ensures.leads suffixes (kept ∙ is)))

pub returns-clause-keeps : goal.returns-clause-keeps
returns-clause-keeps g c =
    let tells = g.S.Store.told in
    let was = c.args.yard.now in
    let mid = c.note_all.new.self in
    let late = c.settle.new.self in
    let now = c.judge.new.yard in (
      begun_kept tells c.args.notes.now was.parts mid.parts was.store mid.store c.in_ok-note_all.field-0 c.in_ok-note_all.ensures.adds was.rest_is mid.rest_is c.requires.«open».begun
          c.args.done.now late.parts late.store c.in_ok-settle.field-0 c.in_ok-settle.ensures.adds late.rest_is now.parts c.in_ok-judge.ensures.keeps.0.keeps,
      c.in_ok-judge.ensures.keeps.1,
    )

pub returns-in_err-note_all-clause-batches : goal.returns-in_err-note_all-clause-batches
returns-in_err-note_all-clause-batches g c =
    let tells = g.S.Store.told in
    let law = g.met.S.Store.is_consistent in
    let was = c.args.yard.now in
    let now = c.note_all.new.self in
    let fault = c.in_err-note_all.field-0.0 in
    let adds = c.in_err-note_all.ensures.adds in
    let out = err_from_is_err_and c.from_residual.result c.from_residual.ensures.1 in
    let begun = c.requires.«open».begun in
    let crawl = crawl_of was.parts.rest begun in
    batches_more (IsErrOf {T = Unit} (Err fault) Failed) (IsErrOf c.from_residual.result Failed) (just 0 0) (just 0 0) judged_in judged_in was.parts now.parts (tells was.store) (tells now.store)
    (failed_on {A = Unit} (Err fault) c.from_residual.result fault refl (out.1 ∙ ap (λ e. Err e) out.2)) none_judged none_judged
    (notes_batch tells law was.parts now.parts was.store now.store was.rest_is now.rest_is c.is_sound-is_sound.ensures.drum crawl (Err fault) c.args.notes.now adds
    (crawl_of now.parts.rest (begun_on was.parts now.parts (tells was.store).files (tells now.store).files was.rest_is now.rest_is adds.urls (λ old new one two. (adds.tables old new one two).suffixes)
    begun)))

pub returns-in_err-settle-clause-batches : goal.returns-in_err-settle-clause-batches
returns-in_err-settle-clause-batches g c =
    let tells = g.S.Store.told in
    let law = g.met.S.Store.is_consistent in
    let was = c.args.yard.now in
    let mid = c.note_all.new.self in
    let now = c.settle.new.self in
    let fault = c.in_err-settle.field-0.0 in
    let done = c.in_ok-note_all.field-0 in
    let noted = c.in_ok-note_all.ensures.adds in
    let adds = c.in_err-settle.ensures.adds in
    let out = err_from_is_err_and c.from_residual-in_err-settle.result c.from_residual-in_err-settle.ensures.1 in
    let drum = c.is_sound-is_sound.ensures.drum in
    let begun = c.requires.«open».begun in
    let crawl = crawl_of was.parts.rest begun in
    let begun_mid =
    begun_on was.parts mid.parts (tells was.store).files (tells mid.store).files was.rest_is mid.rest_is noted.urls (λ old new one two. (noted.tables old new one two).suffixes) begun in
    let crawl_mid = crawl_of mid.parts.rest begun_mid in
    let begun_now =
    begun_on mid.parts now.parts (tells mid.store).files (tells now.store).files mid.rest_is now.rest_is adds.urls (λ old new one two. (adds.tables old new one two).kept.1) begun_mid in
    let crawl_now = crawl_of now.parts.rest begun_now in
    batches_more (IsErrOf {T = Unit} (Err fault) Failed) (IsErrOf c.from_residual-in_err-settle.result Failed) judged_in judged_in judged_in judged_in was.parts now.parts (tells was.store)
    (tells now.store)
    (failed_on {A = Unit} (Err fault) c.from_residual-in_err-settle.result fault refl (out.1 ∙ ap (λ e. Err e) out.2)) (same_within judged_in) (same_within judged_in)
    (refused_batch (IsErrOf (Ok done) Failed) (IsErrOf {T = Unit} (Err fault) Failed) was.parts mid.parts now.parts (tells was.store) (tells mid.store) (tells now.store)
    (ok_or_failed (Ok done) done refl)
    (notes_on tells law was.parts mid.parts was.store mid.store was.rest_is mid.rest_is drum crawl (Ok done) c.args.notes.now noted crawl_mid)
    (notes_batch tells law was.parts mid.parts was.store mid.store was.rest_is mid.rest_is drum crawl (Ok done) c.args.notes.now noted crawl_mid)
    (event_batch tells law mid.parts now.parts mid.store now.store mid.rest_is now.rest_is c.in_ok-note_all.ensures.goes_on.drum crawl_mid (Err fault) (settle_of mid.parts.urls c.args.done.now) adds
    crawl_now))

pub returns-in_err-judge-clause-batches : goal.returns-in_err-judge-clause-batches
returns-in_err-judge-clause-batches g c =
    let tells = g.S.Store.told in
    let law = g.met.S.Store.is_consistent in
    let was = c.args.yard.now in
    let mid = c.note_all.new.self in
    let late = c.settle.new.self in
    let now = c.judge.new.yard in
    let fault = c.in_err-judge.field-0.0 in
    let done = c.in_ok-note_all.field-0 in
    let settled = c.in_ok-settle.field-0 in
    let noted = c.in_ok-note_all.ensures.adds in
    let adds = c.in_ok-settle.ensures.adds in
    let event = settle_of mid.parts.urls c.args.done.now in
    let out = err_from_is_err_and c.from_residual-in_err-judge.result c.from_residual-in_err-judge.ensures.1 in
    let drum = c.is_sound-is_sound.ensures.drum in
    let drum_mid = c.in_ok-note_all.ensures.goes_on.drum in
    let begun = c.requires.«open».begun in
    let crawl = crawl_of was.parts.rest begun in
    let begun_mid =
    begun_on was.parts mid.parts (tells was.store).files (tells mid.store).files was.rest_is mid.rest_is noted.urls (λ old new one two. (noted.tables old new one two).suffixes) begun in
    let crawl_mid = crawl_of mid.parts.rest begun_mid in
    let begun_late =
    begun_on mid.parts late.parts (tells mid.store).files (tells late.store).files mid.rest_is late.rest_is adds.urls (λ old new one two. (adds.tables old new one two).done.1) begun_mid in
    let crawl_late = crawl_of late.parts.rest begun_late in
    batches_more (IsErrOf {T = Unit} (Err fault) Failed) (IsErrOf c.from_residual-in_err-judge.result Failed) judged_in judged_in judged_in judged_in was.parts now.parts (tells was.store)
    (tells now.store)
    (failed_on {A = Unit} (Err fault) c.from_residual-in_err-judge.result fault refl (out.1 ∙ ap (λ e. Err e) out.2)) (same_within judged_in) (same_within judged_in)
    (settle_batch (IsErrOf (Ok done) Failed) (IsErrOf {T = Unit} (Err fault) Failed) was.parts mid.parts now.parts (tells was.store) (tells mid.store) (tells now.store)
    (ok_or_failed (Ok done) done refl)
    (notes_on tells law was.parts mid.parts was.store mid.store was.rest_is mid.rest_is drum crawl (Ok done) c.args.notes.now noted crawl_mid)
    (notes_batch tells law was.parts mid.parts was.store mid.store was.rest_is mid.rest_is drum crawl (Ok done) c.args.notes.now noted crawl_mid)
    (event_judged (IsErrOf (Ok settled) Failed) (IsErrOf {T = Unit} (Err fault) Failed) event mid.parts late.parts now.parts (tells mid.store) (tells late.store) (tells now.store)
    (ok_or_failed (Ok settled) settled refl) refl
    (event_on tells law mid.parts late.parts mid.store late.store mid.rest_is late.rest_is drum_mid crawl_mid (Ok settled) event adds crawl_late)
    (event_there tells law mid.parts late.parts mid.store late.store mid.rest_is late.rest_is drum_mid crawl_mid (Ok settled) event adds crawl_late settled refl)
    (event_batch tells law mid.parts late.parts mid.store late.store mid.rest_is late.rest_is drum_mid crawl_mid (Ok settled) event adds crawl_late) c.in_err-judge.ensures.batches))

pub returns-clause-batches : goal.returns-clause-batches
returns-clause-batches g c =
    let tells = g.S.Store.told in
    let law = g.met.S.Store.is_consistent in
    let was = c.args.yard.now in
    let mid = c.note_all.new.self in
    let late = c.settle.new.self in
    let now = c.judge.new.yard in
    let judged = c.in_ok-judge.field-0 in
    let done = c.in_ok-note_all.field-0 in
    let settled = c.in_ok-settle.field-0 in
    let noted = c.in_ok-note_all.ensures.adds in
    let adds = c.in_ok-settle.ensures.adds in
    let event = settle_of mid.parts.urls c.args.done.now in
    let drum = c.is_sound-is_sound.ensures.drum in
    let drum_mid = c.in_ok-note_all.ensures.goes_on.drum in
    let begun = c.requires.«open».begun in
    let crawl = crawl_of was.parts.rest begun in
    let begun_mid =
    begun_on was.parts mid.parts (tells was.store).files (tells mid.store).files was.rest_is mid.rest_is noted.urls (λ old new one two. (noted.tables old new one two).suffixes) begun in
    let crawl_mid = crawl_of mid.parts.rest begun_mid in
    let begun_late =
    begun_on mid.parts late.parts (tells mid.store).files (tells late.store).files mid.rest_is late.rest_is adds.urls (λ old new one two. (adds.tables old new one two).done.1) begun_mid in
    let crawl_late = crawl_of late.parts.rest begun_late in
    batches_more (IsErrOf (Ok judged) Failed) _ judged_in judged_in judged_in judged_in was.parts now.parts (tells was.store) (tells now.store)
    (λ failed. absurd (ok_or_failed (Ok judged) judged refl failed)) (same_within judged_in) (same_within judged_in)
    (settle_batch (IsErrOf (Ok done) Failed) (IsErrOf (Ok judged) Failed) was.parts mid.parts now.parts (tells was.store) (tells mid.store) (tells now.store)
    (ok_or_failed (Ok done) done refl)
    (notes_on tells law was.parts mid.parts was.store mid.store was.rest_is mid.rest_is drum crawl (Ok done) c.args.notes.now noted crawl_mid)
    (notes_batch tells law was.parts mid.parts was.store mid.store was.rest_is mid.rest_is drum crawl (Ok done) c.args.notes.now noted crawl_mid)
    (event_judged (IsErrOf (Ok settled) Failed) (IsErrOf (Ok judged) Failed) event mid.parts late.parts now.parts (tells mid.store) (tells late.store) (tells now.store)
    (ok_or_failed (Ok settled) settled refl) refl
    (event_on tells law mid.parts late.parts mid.store late.store mid.rest_is late.rest_is drum_mid crawl_mid (Ok settled) event adds crawl_late)
    (event_there tells law mid.parts late.parts mid.store late.store mid.rest_is late.rest_is drum_mid crawl_mid (Ok settled) event adds crawl_late settled refl)
    (event_batch tells law mid.parts late.parts mid.store late.store mid.rest_is late.rest_is drum_mid crawl_mid (Ok settled) event adds crawl_late) c.in_ok-judge.ensures.batches))

pub returns-clause-turned : goal.returns-clause-turned
returns-clause-turned g c =
    let tells = g.S.Store.told in
    let law = g.met.S.Store.is_consistent in
    let was = c.args.yard.now in
    let mid = c.note_all.new.self in
    let late = c.settle.new.self in
    let now = c.judge.new.yard in
    let judged = c.in_ok-judge.field-0 in
    let done = c.in_ok-note_all.field-0 in
    let settled = c.in_ok-settle.field-0 in
    let noted = c.in_ok-note_all.ensures.adds in
    let adds = c.in_ok-settle.ensures.adds in
    let event = settle_of mid.parts.urls c.args.done.now in
    let drum = c.is_sound-is_sound.ensures.drum in
    let drum_mid = c.in_ok-note_all.ensures.goes_on.drum in
    let begun = c.requires.«open».begun in
    let crawl = crawl_of was.parts.rest begun in
    let begun_mid =
    begun_on was.parts mid.parts (tells was.store).files (tells mid.store).files was.rest_is mid.rest_is noted.urls (λ old new one two. (noted.tables old new one two).suffixes) begun in
    let crawl_mid = crawl_of mid.parts.rest begun_mid in
    let begun_late =
    begun_on mid.parts late.parts (tells mid.store).files (tells late.store).files mid.rest_is late.rest_is adds.urls (λ old new one two. (adds.tables old new one two).done.1) begun_mid in
    let crawl_late = crawl_of late.parts.rest begun_late in
    let suffixes = suffixes_there late.parts (tells late.store).files late.rest_is begun_late in
    let leads = c.in_ok-judge.ensures.leads suffixes.0 suffixes.1 in
    turned_then (IsErrOf (Ok done) Failed) (IsErrOf (Ok settled) Failed) (IsErrOf (Ok judged) Failed) event was.parts mid.parts late.parts now.parts (tells was.store) (tells mid.store)
    (tells late.store) (tells now.store) (ok_or_failed (Ok done) done refl) (ok_or_failed (Ok settled) settled refl) (ok_or_failed (Ok judged) judged refl) (law now.store) leads.goes_on.drum refl
    (notes_on tells law was.parts mid.parts was.store mid.store was.rest_is mid.rest_is drum crawl (Ok done) c.args.notes.now noted crawl_mid)
    (event_on tells law mid.parts late.parts mid.store late.store mid.rest_is late.rest_is drum_mid crawl_mid (Ok settled) event adds crawl_late)
    (event_there tells law mid.parts late.parts mid.store late.store mid.rest_is late.rest_is drum_mid crawl_mid (Ok settled) event adds crawl_late settled refl)
    (leads_on (IsErrOf (Ok judged) Failed) _ _ late.parts now.parts (tells late.store) (tells now.store) leads)

pub returns-in_err-note_all-clause-refused : goal.returns-in_err-note_all-clause-refused
returns-in_err-note_all-clause-refused g c =
    let now = c.note_all.new.self in
    let fault = c.in_err-note_all.field-0.0 in
    let adds = c.in_err-note_all.ensures.adds in
    let out = err_from_is_err_and c.from_residual.result c.from_residual.ensures.1 in
    refused_on {A = Unit} (Err fault) c.from_residual.result fault now.parts (g.S.Store.told now.store) refl (out.1 ∙ ap (λ e. Err e) out.2)
    (refused_never (Err fault) now.parts (g.S.Store.told now.store) adds.full adds.damaged)

pub returns-in_err-settle-clause-refused : goal.returns-in_err-settle-clause-refused
returns-in_err-settle-clause-refused g c =
    let now = c.settle.new.self in
    let fault = c.in_err-settle.field-0.0 in
    let adds = c.in_err-settle.ensures.adds in
    let out = err_from_is_err_and c.from_residual-in_err-settle.result c.from_residual-in_err-settle.ensures.1 in
    refused_on {A = Unit} (Err fault) c.from_residual-in_err-settle.result fault now.parts (g.S.Store.told now.store) refl (out.1 ∙ ap (λ e. Err e) out.2)
    (refused_never (Err fault) now.parts (g.S.Store.told now.store) adds.full adds.damaged)

pub returns-in_err-judge-clause-refused : goal.returns-in_err-judge-clause-refused
returns-in_err-judge-clause-refused g c =
    let now = c.judge.new.yard in
    let fault = c.in_err-judge.field-0.0 in
    let out = err_from_is_err_and c.from_residual-in_err-judge.result c.from_residual-in_err-judge.ensures.1 in
    refused_on {A = Unit} (Err fault) c.from_residual-in_err-judge.result fault now.parts (g.S.Store.told now.store) refl (out.1 ∙ ap (λ e. Err e) out.2) c.in_err-judge.ensures.refused

pub returns-clause-refused : goal.returns-clause-refused
returns-clause-refused g c = refused_ok (length c.args.done.now) c.judge.new.yard.parts (g.S.Store.told c.judge.new.yard.store)
