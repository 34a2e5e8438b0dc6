use Rattle.std.proofs.Common.{ℕ, List, refl, ap, subst}
use Rattle.irl_yard.specs.declared.parts.Rest.{Rest}
use Rattle.irl_yard.specs.declared.parts.Rest.TheVariants.{Crawl}
use Rattle.irl_yard.specs.Passing.{MayRead}
use Rattle.irl_yard.proofs.Adding.{is_open, log_place, log_sound}
use Rattle.irl_yard.proofs.Beside.{crawl_open}
use Rattle.irl_yard.proofs.PassStates.{adds_pass, pass_long, pass_open}
use Rattle.irl_yard.proofs.yard.Yard.add_pass.Goals as goal

pub pass-requires-clause-place : goal.pass-requires-clause-place
pass-requires-clause-place g c =
    let self = c.args.self.now in
    log_place self.parts.urls self.parts.rest c.in-Crawl.ledger (g.S.Store.told self.store).files c.in-Crawl.is self.rest_is c.requires.sound.2

pub pass-requires-clause-passes : goal.pass-requires-clause-passes
pass-requires-clause-passes g c =
    let self = c.args.self.now in
    let may : MayRead self.parts.urls (Crawl c.in-Crawl.ledger) c.args.fresh.now = subst (λ (r : Rest). MayRead self.parts.urls r c.args.fresh.now) c.in-Crawl.is c.requires.reads in
    may.1

pub invariant_of-self : goal.invariant_of-self
invariant_of-self g c =
    let self = c.args.self.now in
    let tells = g.S.Store.told in
    let law = g.met.S.Store.is_consistent in
    let parts = self.parts in
    let fresh = c.args.fresh.now in
    let old = c.in-Crawl.ledger in
    let new = c.pass.new.self in
    let opened = is_open parts.urls parts.rest old (tells self.store).files c.in-Crawl.is self.rest_is in
    let sound = log_sound parts.rest old c.in-Crawl.is c.requires.sound.2 in
    let may : MayRead parts.urls (Crawl old) fresh = subst (λ (r : Rest). MayRead parts.urls r fresh) c.in-Crawl.is c.requires.reads in
    let lawful = λ (adds : List (List ℕ)). c.a_pass_breaks_no_rule.ensures old.frontier adds fresh c.keeps.ensures may.1.begun may.1.front may.1.rising in
    record {
      long = λ urls_sound. pass_long tells law c.pass.result fresh self.store c.pass.new.store parts.urls old new c.is_sound-is_sound.ensures.drum opened.1 sound opened.0 c.keeps.ensures may.0
          lawful c.pass.ensures (λ files told. self.long urls_sound files told);
      rest_is = crawl_open parts.urls new (tells c.pass.new.store).files opened.0 (pass_open tells law c.pass.result fresh self.store c.pass.new.store parts.urls old new
          c.is_sound-is_sound.ensures.drum opened.1 sound opened.0 c.keeps.ensures may.0 lawful c.pass.ensures);
    }

pub returns-clause-adds : goal.returns-clause-adds
returns-clause-adds g c =
    let self = c.args.self.now in
    let tells = g.S.Store.told in
    let law = g.met.S.Store.is_consistent in
    let parts = self.parts in
    let fresh = c.args.fresh.now in
    let old = c.in-Crawl.ledger in
    let new = c.pass.new.self in
    let opened = is_open parts.urls parts.rest old (tells self.store).files c.in-Crawl.is self.rest_is in
    let sound = log_sound parts.rest old c.in-Crawl.is c.requires.sound.2 in
    let may : MayRead parts.urls (Crawl old) fresh = subst (λ (r : Rest). MayRead parts.urls r fresh) c.in-Crawl.is c.requires.reads in
    let lawful = λ (adds : List (List ℕ)). c.a_pass_breaks_no_rule.ensures old.frontier adds fresh c.keeps.ensures may.1.begun may.1.front may.1.rising in
    adds_pass tells law c.pass.result fresh self.store c.pass.new.store parts.urls old new c.is_sound-is_sound.ensures.drum opened.1 sound opened.0 c.keeps.ensures may.0 lawful c.pass.ensures
    parts _ refl c.in-Crawl.is refl refl (λ same. ap (λ (r : Rest). record parts { rest = r }) same)
