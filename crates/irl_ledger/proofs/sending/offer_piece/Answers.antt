use Rattle.std.proofs.Common.{◌≡◌, ◌∙◌, ℕ, ◌+◌, ◌≤◌, [], length, Option, Err, refl, sym, ap, subst, arith}
use Rattle.std.proofs.lemmas.Result.{err_from_is_err_and}
use Rattle.std.specs.Option.{ForSome}
use Rattle.irl_model.specs.Book.{Book}
use Rattle.irl_disk.specs.Disk.{Files}
use Rattle.irl_bay.specs.Holding.{Holds, IsLong}
use Rattle.irl_bay.specs.JudgedSpoilt.{IsJudgedFile}
use Rattle.irl_schedule.specs.Schedule.{none_more}
use Rattle.irl_schedule.proofs.Outcomes.{ok_gives}
use Rattle.irl_ledger.specs.Sending.{IsSpoiltUrl, IsStrangeIn, judged_after, judged_between, links_of}
use Rattle.irl_ledger.proofs.Handing.{feeding_both, feeding_err, feeding_ok, feeding_wider}
use Rattle.irl_ledger.proofs.Offering.{all_read, feeding_read, front_read, if_err, spoilt_part, spoilt_read}
use Rattle.irl_ledger.proofs.sending.offer_piece.Goals as goal

pub returns-in_err-part-clause-offers : goal.returns-in_err-part-clause-offers
returns-in_err-part-clause-offers g c =
    let told = g.S.Store.told in
    let s = told c.args.store.now in
    let t = told c.judged_from.new.store in
    let drum = c.args.pairs.now in
    let arrays = c.args.arrays.now in
    let urls = c.args.urls.now in
    let reads = c.judged_from.ensures.reads in
    let out = err_from_is_err_and c.from_residual.result c.from_residual.ensures.1 in
    record {
      news = [];
      front = λ files told book holds. (links_of c.args.suffixes.now (judged_after c.args.from book), refl);
      all = if_err c.from_residual.result _ (λ to. ForSome s.files (λ _. (book : Book) → Holds s.images urls book → [] ≡ links_of c.args.suffixes.now (judged_between c.args.from to book)))
          (out.1 ∙ ap (λ e. Err e) out.2);
      feeding = feeding_err c.judged_from.result c.from_residual.result _ (IsSpoiltUrl s urls) 0 none_more [] arrays arrays drum drum s t c.in_err-part.was (out.1 ∙ ap (λ e. Err e) out.2)
          (feeding_read c.judged_from.result (IsJudgedFile urls) (IsSpoiltUrl s urls) arrays drum s t (g.met.S.Store.is_consistent c.judged_from.new.store) c.is_sound-is_sound.ensures.drum
          c.requires.arrays c.requires.sound c.requires.long reads.reads reads.full (λ f at is. spoilt_read c.judged_from.result _ urls s t f at reads is));
    }

pub offer_part-requires-clause-long : goal.offer_part-requires-clause-long
offer_part-requires-clause-long g c = subst (λ (files : Option Files). ForSome files (λ f. IsLong c.args.pairs.now f)) (sym c.judged_from.ensures.reads.reads.same) c.requires.long

pub returns-in_err-offer_part-clause-offers : goal.returns-in_err-offer_part-clause-offers
returns-in_err-offer_part-clause-offers g c =
    let told = g.S.Store.told in
    let s = told c.args.store.now in
    let t = told c.judged_from.new.store in
    let w = told c.offer_part.new.store in
    let x = c.args.pairs.now in
    let z = c.offer_part.new.pairs in
    let p = c.args.arrays.now in
    let r = c.offer_part.new.arrays in
    let urls = c.args.urls.now in
    let part = c.in_ok-part.part in
    let reads = c.judged_from.ensures.reads in
    let within : c.args.from + length part ≤ urls.last.judged = omega (arith, c.in_ok-part.ensures.count, c.requires.some) in
    let first = feeding_ok c.judged_from.result _ (tt {0}) (IsSpoiltUrl s urls) 0 none_more [] p p x x s t c.in_ok-part.was
    (feeding_read c.judged_from.result (IsJudgedFile urls) (IsSpoiltUrl s urls) p x s t (g.met.S.Store.is_consistent c.judged_from.new.store) c.is_sound-is_sound.ensures.drum
    c.requires.arrays c.requires.sound c.requires.long reads.reads reads.full (λ f at is. spoilt_read c.judged_from.result _ urls s t f at reads is)) in
    let second = feeding_wider c.offer_part.result (IsStrangeIn c.args.from part) (IsSpoiltUrl s urls) 0 none_more c.offer_part.ensures.news p r x z t w
    (λ f at there. spoilt_part urls s c.args.from 4096 part f at c.requires.urls.base within c.in_ok-part.ensures.reads.value there) c.offer_part.ensures.feeding in
    let out = err_from_is_err_and c.from_residual-in_err-offer_part.result c.from_residual-in_err-offer_part.ensures.1 in
    let is = out.1 ∙ ap (λ e. Err e) out.2 in
    record {
      news = c.offer_part.ensures.news;
      front = λ files told book holds. front_read c.args.suffixes.now c.args.from 4096 part c.offer_part.ensures.news book (c.in_ok-part.ensures.reads.value files told book holds)
          c.offer_part.ensures.front;
      all = if_err c.from_residual-in_err-offer_part.result _ (λ to. ForSome s.files (λ _. (book : Book) → Holds s.images urls book
          → c.offer_part.ensures.news ≡ links_of c.args.suffixes.now (judged_between c.args.from to book))) is;
      feeding = feeding_err c.offer_part.result c.from_residual-in_err-offer_part.result _ (IsSpoiltUrl s urls) 0 none_more c.offer_part.ensures.news p r x z s w c.in_err-offer_part.was is
          (feeding_both (tt {0}) c.offer_part.result (IsSpoiltUrl s urls) 0 none_more [] c.offer_part.ensures.news p p r x x z s t w (g.met.S.Store.is_consistent c.judged_from.new.store) first
          second);
    }

pub returns-clause-offers : goal.returns-clause-offers
returns-clause-offers g c =
    let told = g.S.Store.told in
    let s = told c.args.store.now in
    let t = told c.judged_from.new.store in
    let w = told c.offer_part.new.store in
    let x = c.args.pairs.now in
    let z = c.offer_part.new.pairs in
    let p = c.args.arrays.now in
    let r = c.offer_part.new.arrays in
    let urls = c.args.urls.now in
    let part = c.in_ok-part.part in
    let reads = c.judged_from.ensures.reads in
    let within : c.args.from + length part ≤ urls.last.judged = omega (arith, c.in_ok-part.ensures.count, c.requires.some) in
    let first = feeding_ok c.judged_from.result _ (tt {0}) (IsSpoiltUrl s urls) 0 none_more [] p p x x s t c.in_ok-part.was
    (feeding_read c.judged_from.result (IsJudgedFile urls) (IsSpoiltUrl s urls) p x s t (g.met.S.Store.is_consistent c.judged_from.new.store) c.is_sound-is_sound.ensures.drum
    c.requires.arrays c.requires.sound c.requires.long reads.reads reads.full (λ f at is. spoilt_read c.judged_from.result _ urls s t f at reads is)) in
    let second = feeding_wider c.offer_part.result (IsStrangeIn c.args.from part) (IsSpoiltUrl s urls) 0 none_more c.offer_part.ensures.news p r x z t w
    (λ f at there. spoilt_part urls s c.args.from 4096 part f at c.requires.urls.base within c.in_ok-part.ensures.reads.value there) c.offer_part.ensures.feeding in
    record {
      news = c.offer_part.ensures.news;
      front = λ files told book holds. front_read c.args.suffixes.now c.args.from 4096 part c.offer_part.ensures.news book (c.in_ok-part.ensures.reads.value files told book holds)
          c.offer_part.ensures.front;
      all = λ files told book holds. ok_gives c.offer_part.result _ c.offer_part.ensures.all c.in_ok-offer_part.was
          ∙ all_read c.args.suffixes.now c.args.from 4096 part book (c.in_ok-part.ensures.reads.value files told book holds)
          ∙ ap (λ (n : ℕ). links_of c.args.suffixes.now (judged_between c.args.from (c.args.from + n) book)) (sym c.len.ensures);
      feeding = feeding_ok c.offer_part.result _ _ (IsSpoiltUrl s urls) 0 none_more c.offer_part.ensures.news p r x z s w c.in_ok-offer_part.was
          (feeding_both (tt {0}) c.offer_part.result (IsSpoiltUrl s urls) 0 none_more [] c.offer_part.ensures.news p p r x x z s t w (g.met.S.Store.is_consistent c.judged_from.new.store) first
          second);
    }
