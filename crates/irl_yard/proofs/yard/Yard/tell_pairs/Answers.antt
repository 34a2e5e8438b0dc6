use Rattle.std.proofs.Common.{◌∙◌, refl, sym, ap}
use Rattle.irl_yard.specs.declared.parts.Parts.{Parts}
use Rattle.irl_yard.specs.declared.parts.Rest.TheVariants.{Crawl}
use Rattle.irl_schedule.proofs.Outcomes.{ok_weaker}
use Rattle.irl_ledger.specs.declared.ledger.Ledger.{Ledger}
use Rattle.irl_ledger.proofs.Sent.{told_open}
use Rattle.irl_yard.proofs.Adding.{is_open}
use Rattle.irl_yard.proofs.Beside.{crawl_open}
use Rattle.irl_yard.proofs.SentStates.{pairs_sound, tells_state}
use Rattle.irl_yard.proofs.yard.Yard.tell_pairs.Goals as goal

pub tell_pairs-told-requires-clause-sound : goal.tell_pairs-told-requires-clause-sound
tell_pairs-told-requires-clause-sound g c = pairs_sound c.args.self.now.parts.rest c.in-Crawl.ledger c.in-Crawl.is c.requires.sound.2

pub tell_pairs-told-requires-clause-long : goal.tell_pairs-told-requires-clause-long
tell_pairs-told-requires-clause-long g c =
    let self = c.args.self.now in
    let opened = is_open self.parts.urls self.parts.rest c.in-Crawl.ledger (g.S.Store.told self.store).files c.in-Crawl.is self.rest_is in
    opened.1.long (pairs_sound self.parts.rest c.in-Crawl.ledger c.in-Crawl.is c.requires.sound.2)

pub tell_pairs-told-requires-clause-told : goal.tell_pairs-told-requires-clause-told
tell_pairs-told-requires-clause-told g c =
    let self = c.args.self.now in
    (is_open self.parts.urls self.parts.rest c.in-Crawl.ledger (g.S.Store.told self.store).files c.in-Crawl.is self.rest_is).1.fits.told

pub invariant_of-self : goal.invariant_of-self
invariant_of-self g c =
    let self = c.args.self.now in
    let parts = self.parts in
    let s = g.S.Store.told self.store in
    let t = g.S.Store.told c.tell_pairs-told.new.store in
    let opened = is_open parts.urls parts.rest c.in-Crawl.ledger s.files c.in-Crawl.is self.rest_is in
    let tells = c.tell_pairs-told.ensures.tells in
    record {
      long = λ sound files told. self.long sound files (sym tells.reads.reads.same ∙ told);
      rest_is = crawl_open parts.urls c.tell_pairs-told.new.self t.files opened.0 (told_open parts.urls c.in-Crawl.ledger c.tell_pairs-told.new.self s t c.tell_pairs-told.result
          (g.met.S.Store.is_consistent c.tell_pairs-told.new.store) opened.1 tells);
    }

pub returns-clause-tells : goal.returns-clause-tells
returns-clause-tells g c =
    let self = c.args.self.now in
    let parts = self.parts in
    let new = c.tell_pairs-told.new.self in
    let s = g.S.Store.told self.store in
    let t = g.S.Store.told c.tell_pairs-told.new.store in
    let now : Parts = record { urls = parts.urls; rest = Crawl new; has_failed = c.is_failure-self.result } in
    let opened = is_open parts.urls parts.rest c.in-Crawl.ledger s.files c.in-Crawl.is self.rest_is in
    tells_state c.tell_pairs-told.result parts now c.in-Crawl.ledger new s t c.is_sound-is_sound.ensures.drum (g.met.S.Store.is_consistent c.tell_pairs-told.new.store) c.in-Crawl.is refl refl opened.0
    opened.1 c.tell_pairs-told.ensures.tells

pub returns-clause-all : goal.returns-clause-all
returns-clause-all g c =
    let tells = c.tell_pairs-told.ensures.tells in
    ok_weaker c.tell_pairs-told.result c.tell_pairs-told.ensures.all (λ all. all ∙ sym (ap (λ (l : Ledger). l.pairs.last.judged) tells.others))
