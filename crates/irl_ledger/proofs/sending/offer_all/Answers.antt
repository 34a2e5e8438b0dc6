use Rattle.std.proofs.Common.{◌≡◌, ◌∙◌, ◌<◌, List, [], ◌++◌, Ok, Err, sym, ap, subst, append-nil, arith}
use Rattle.std.specs.Option.{ForSome}
use Rattle.std.proofs.lemmas.Result.{err_from_is_err_and}
use Rattle.irl_offer.specs.Tuple.{Tuple}
use Rattle.irl_model.specs.Book.{Book}
use Rattle.irl_bay.specs.Holding.{Holds}
use Rattle.irl_offer.specs.declared.settings.Settings.{Settings}
use Rattle.irl_schedule.specs.Schedule.{none_more, one_more}
use Rattle.irl_schedule.proofs.Outcomes.{ok_weaker}
use Rattle.irl_ledger.specs.Running.{Feeding, nowhere}
use Rattle.irl_ledger.specs.Sending.{IsSpoiltUrl, judged_after, links_of}
use Rattle.irl_ledger.proofs.Handing.{feeding_both, feeding_err, feeding_more, feeding_nothing, feeding_ok, feeding_wider}
use Rattle.irl_ledger.proofs.LinksOffered.{all_between, any_answer, offered_none, offers_ended, offers_refused, piece_feeding, piece_front, piece_joined}
use Rattle.irl_ledger.proofs.Reading.{none_gone}
use Rattle.irl_ledger.proofs.sending.offer_all.Goals as goal

pub loop-at-init : goal.loop-at-init
loop-at-init g c =
    let s = g.S.Store.told c.args.store.now in
    offered_none c.args.suffixes.now c.args.from c.args.urls.now c.args.pairs.now c.args.arrays.now s c.requires.from c.requires.urls
    (feeding_nothing {A = Unit {0}} (Ok (tt {0})) (IsSpoiltUrl s c.args.urls.now) c.args.arrays.now c.args.pairs.now s (g.met.S.Store.is_consistent c.args.store.now) c.is_sound-is_sound.ensures.drum
    c.requires.arrays c.requires.sound c.requires.long (λ is. let no : ⊥ = cc in absurd no) (λ n is. let no : ⊥ = cc in absurd no) (λ f at is. let no : ⊥ = cc in absurd no))

pub offer_piece-requires-clause-long : goal.offer_piece-requires-clause-long
offer_piece-requires-clause-long g c = let goes = c.loop-at.invariant.feeding.goes_on in goes.long (goes.sound (λ failed. let no : ⊥ = cc in absurd no))

pub returns-in_err-at : goal.returns-in_err-at
returns-in_err-at g c =
    let told = g.S.Store.told in
    let s = told c.args.store.now in
    let t = told c.loop-at.store in
    let w = told c.offer_piece.new.store in
    let urls = c.args.urls.now in
    let news = c.loop-at.invariant.news ++ c.offer_piece.ensures.offers.news in
    let feeding = piece_feeding c.offer_piece.result c.args.suffixes.now c.args.from c.loop-at.at urls c.args.pairs.now c.loop-at.pairs c.offer_piece.new.pairs c.args.arrays.now c.loop-at.arrays
    c.offer_piece.new.arrays s t w c.is_sound-is_drum.ensures.drum (g.met.S.Store.is_consistent c.loop-at.store) c.requires.urls c.loop-at.invariant c.offer_piece.ensures.offers in
    let out = err_from_is_err_and c.from_residual.result c.from_residual.ensures.1 in
    let is = out.1 ∙ ap (λ e. Err e) out.2 in
    offers_refused c.from_residual.result _ c.args.suffixes.now c.args.from urls c.args.pairs.now c.offer_piece.new.pairs c.args.arrays.now c.offer_piece.new.arrays news s w is c.requires.empty
    (piece_front c.offer_piece.result c.args.suffixes.now c.args.from c.loop-at.at urls c.args.pairs.now c.loop-at.pairs c.offer_piece.new.pairs c.args.arrays.now c.loop-at.arrays
    c.offer_piece.new.arrays s t w c.is_sound-is_drum.ensures.drum (g.met.S.Store.is_consistent c.loop-at.store) c.requires.urls c.loop-at.invariant c.offer_piece.ensures.offers)
    (feeding_more c.from_residual.result (IsSpoiltUrl s urls) 0 1 none_more one_more news c.args.arrays.now c.offer_piece.new.arrays c.args.pairs.now c.offer_piece.new.pairs s w (omega arith)
    (λ b. omega arith)
    (feeding_err c.offer_piece.result c.from_residual.result _ (IsSpoiltUrl s urls) 0 none_more news c.args.arrays.now c.offer_piece.new.arrays c.args.pairs.now c.offer_piece.new.pairs s w
    c.in_err-at.was is feeding))

pub loop-at-preserved : goal.loop-at-preserved
loop-at-preserved g c =
    let told = g.S.Store.told in
    let s = told c.args.store.now in
    let t = told c.loop-at.store in
    let w = told c.offer_piece.new.store in
    let urls = c.args.urls.now in
    let news = c.loop-at.invariant.news ++ c.offer_piece.ensures.offers.news in
    let feeding = piece_feeding c.offer_piece.result c.args.suffixes.now c.args.from c.loop-at.at urls c.args.pairs.now c.loop-at.pairs c.offer_piece.new.pairs c.args.arrays.now c.loop-at.arrays
    c.offer_piece.new.arrays s t w c.is_sound-is_drum.ensures.drum (g.met.S.Store.is_consistent c.loop-at.store) c.requires.urls c.loop-at.invariant c.offer_piece.ensures.offers in
    piece_joined c.offer_piece.result c.args.suffixes.now c.args.from c.loop-at.at urls c.args.pairs.now c.loop-at.pairs c.offer_piece.new.pairs c.args.arrays.now c.loop-at.arrays
    c.offer_piece.new.arrays s t w c.is_sound-is_drum.ensures.drum (g.met.S.Store.is_consistent c.loop-at.store) c.requires.urls c.loop-at.invariant c.offer_piece.ensures.offers
    c.in_ok-at.at c.in_ok-at.was (omega (arith, c.in_ok-at.ensures.end.0)) c.in_ok-at.ensures.end.1 (g.met.S.Store.is_consistent c.offer_piece.new.store)
    (feeding_ok c.offer_piece.result _ (tt {0}) (IsSpoiltUrl s urls) 0 none_more news c.args.arrays.now c.offer_piece.new.arrays c.args.pairs.now c.offer_piece.new.pairs s w c.in_ok-at.was
    feeding)

pub finish-requires-clause-long : goal.finish-requires-clause-long
finish-requires-clause-long g c = let goes = c.loop-at.invariant.feeding.goes_on in goes.long (goes.sound (λ failed. let no : ⊥ = cc in absurd no))

pub returns : goal.returns
returns g c =
    let told = g.S.Store.told in
    let s = told c.args.store.now in
    let t = told c.loop-at.store in
    let w = told c.finish.new.store in
    let urls = c.args.urls.now in
    let far = c.loop-at.invariant in
    let p = c.args.arrays.now in
    let r = c.finish.new.arrays in
    let x = c.args.pairs.now in
    let z = c.finish.new.bay in
    let elsewhere = IsSpoiltUrl s urls in
    let last = feeding_wider c.finish.result nowhere elsewhere 1 one_more [] c.loop-at.arrays r c.loop-at.pairs z t w (λ f at no. absurd no) c.finish.ensures.feeds in
    let both = feeding_both (tt {0}) c.finish.result elsewhere 1 one_more far.news [] p c.loop-at.arrays r x c.loop-at.pairs z s t w (g.met.S.Store.is_consistent c.loop-at.store) far.feeding last in
    let feeding = subst (λ (l : List Tuple). Feeding c.finish.result elsewhere 1 one_more l p r x z s w) (append-nil far.news) both in
    let all : ForSome s.files (λ _. (book : Book) → Holds s.images urls book → far.news ≡ links_of c.args.suffixes.now (judged_after c.args.from book)) = λ files tells book holds.
    let none = none_gone urls.settings book holds.book_is in
    let count = c.judged_len.ensures.book book holds.numbers in
    far.all files tells book holds ∙ ap (links_of c.args.suffixes.now) (all_between c.args.from c.loop-at.at book (omega (arith, count, c.loop-at-test.false)) none far.behind) in
    offers_ended c.finish.result c.args.suffixes.now c.args.from urls x z p r far.news s w c.requires.empty (λ files tells book holds.
    ([], sym (all files tells book holds) ∙ sym (append-nil far.news)))
    (any_answer c.finish.result all) feeding c.finish.ensures.emptied
    (ok_weaker c.finish.result c.finish.ensures.judged (λ judged b within. judged b (subst (λ (s : Settings). b < s.buckets) (sym far.feeding.runs.stays.settings) within)))
