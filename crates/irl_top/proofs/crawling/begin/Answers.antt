use Rattle.std.proofs.Common.{◌≡◌, ◌≢◌, ◌∙◌, ◌⊎◌, List, ℕ, [], None, Some, Ok, Err, inl, inr, refl, sym, ap, subst}
use Rattle.irl_bay.specs.Drum.{Drum}
use Rattle.irl_key.specs.Key.{key_of}
use Rattle.irl_yard.specs.Passing.{suffixes_in}
use Rattle.irl_top.specs.Message.{ending_of_store}
use Rattle.irl_top.specs.declared.ending.Ending.TheVariants.{OtherSettings}
use Rattle.irl_top.proofs.Batching.{begin_batch, none_begun}
use Rattle.irl_top.proofs.Calls.{err_is}
use Rattle.irl_top.proofs.CrawlParts.{begin_found, begin_leads, begun_open, begun_then, goes_on_begun, keeps_one, keeps_then, kept_leads, may_begin, ok_found, other_begun, other_found, other_refuses, store_refuses}
use Rattle.irl_top.proofs.crawling.begin.Goals as goal

-- what is compared are the texts
fits_of : (text kept bytes words : List ℕ) → bytes ≡ text → words ≡ kept → (bytes ≡ []) ⊎ (words ≡ bytes) → (text ≡ []) ⊎ (kept ≡ text)
fits_of text kept bytes words one two fits = elim fits [ inl none ↦ inl (sym one ∙ none) | inr same ↦ inr (sym two ∙ same ∙ one) ]

pub begin-requires-clause-begins : goal.begin-requires-clause-begins
begin-requires-clause-begins g c =
    let yard = c.args.yard.now in
    may_begin yard.parts.urls yard.parts.rest (g.S.Store.told yard.store).files c.args.suffixes.now c.requires.kind yard.rest_is (sym c.in_default.ensures.value) c.requires.good c.requires.short

pub returns-in_err-begin-clause-leads : goal.returns-in_err-begin-clause-leads
returns-in_err-begin-clause-leads g c =
    let tells = g.S.Store.told in
    let was = c.args.yard.now in
    let now = c.begin.new.self in
    let fault = c.in_err-begin.field-0.0 in
    rw (err_is c.from_residual.result (ending_of_store fault) c.from_residual.ensures.1)
    (begin_leads tells g.met.S.Store.is_consistent (Err fault) c.args.suffixes.now was.parts now.parts was.store now.store c.is_sound-is_sound.ensures.drum c.requires.kind was.rest_is now.rest_is
    (sym c.in_default.ensures.value) c.in_err-begin.ensures.adds c.in_err-begin.ensures.goes_on)

pub returns-in_default-clause-leads : goal.returns-in_default-clause-leads
returns-in_default-clause-leads g c =
    let tells = g.S.Store.told in
    let was = c.args.yard.now in
    let now = c.begin.new.self in
    begin_leads tells g.met.S.Store.is_consistent (Ok tt) c.args.suffixes.now was.parts now.parts was.store now.store c.is_sound-is_sound.ensures.drum c.requires.kind was.rest_is now.rest_is
    (sym c.in_default.ensures.value) c.in_ok-begin.ensures.adds c.in_ok-begin.ensures.goes_on

pub returns-in_default-clause-open : goal.returns-in_default-clause-open
returns-in_default-clause-open g c =
    let tells = g.S.Store.told in
    let was = c.args.yard.now in
    let now = c.begin.new.self in (
      record {
        sound = c.in_ok-begin.ensures.goes_on.sound (λ failed. let no : ⊥ = cc in no);
        begun = begun_then tells g.met.S.Store.is_consistent (Ok tt) c.args.suffixes.now was.parts now.parts was.store now.store c.is_sound-is_sound.ensures.drum c.requires.kind was.rest_is
            now.rest_is (sym c.in_default.ensures.value) c.in_ok-begin.ensures.adds refl;
      },
      keeps_then tells g.met.S.Store.is_consistent (Ok tt) c.args.suffixes.now was.parts now.parts was.store now.store c.is_sound-is_sound.ensures.drum c.requires.kind was.rest_is now.rest_is
          (sym c.in_default.ensures.value) c.in_ok-begin.ensures.adds refl,
    )

pub returns-then-fits-clause-leads : goal.returns-then-fits-clause-leads
returns-then-fits-clause-leads g c =
    let was = c.args.yard.now in
    kept_leads c.args.suffixes.now c.in-Some.kept.now was.parts (g.S.Store.told was.store) (g.met.S.Store.is_consistent was.store) c.is_sound-is_sound.ensures.drum c.requires.sound c.requires.kind
    (sym c.in-Some.ensures.value) (Ok tt) (λ is. let no : ⊥ = cc in no)
    (λ x is. goes_on_begun c.args.suffixes.now c.in-Some.kept.now x
    (fits_of c.args.suffixes.now c.in-Some.kept.now c.bytes.result.now c.text.result.now c.bytes.ensures c.text.ensures.value (c.fits.ensures.fits c.if-fits.true)) is)

pub returns-then-fits-clause-open : goal.returns-then-fits-clause-open
returns-then-fits-clause-open g c =
    let was = c.args.yard.now in
    let kept = c.in-Some.kept.now in (
      record {
        sound = c.requires.sound;
        begun = begun_open was.parts.urls was.parts.rest (g.S.Store.told was.store).files kept c.requires.kind was.rest_is (sym c.in-Some.ensures.value);
      },
      keeps_one c.args.suffixes.now kept was.parts (sym c.in-Some.ensures.value)
          (fits_of c.args.suffixes.now kept c.bytes.result.now c.text.result.now c.bytes.ensures c.text.ensures.value (c.fits.ensures.fits c.if-fits.true)),
    )

pub returns-clause-leads : goal.returns-clause-leads
returns-clause-leads g c =
    let was = c.args.yard.now in
    let kept = c.in-Some.kept.now in
    let text = c.args.suffixes.now in
    let first : c.key_of.result ≡ key_of kept = c.key_of.ensures ∙ ap key_of c.text-2.ensures.value in
    let second : c.key_of-2.result ≡ key_of text = c.key_of-2.ensures ∙ ap key_of c.bytes-2.ensures in
    let named : text ≢ [] = subst (λ (t : List ℕ). t ≢ []) c.bytes.ensures (c.fits.ensures.named c.if-fits.false) in
    let other : kept ≢ text =
    subst (λ (t : List ℕ). kept ≢ t) c.bytes.ensures (subst (λ (t : List ℕ). t ≢ c.bytes.result.now) c.text.ensures.value (c.fits.ensures.other c.if-fits.false)) in
    kept_leads text kept was.parts (g.S.Store.told was.store) (g.met.S.Store.is_consistent was.store) c.is_sound-is_sound.ensures.drum c.requires.sound c.requires.kind
    (sym c.in-Some.ensures.value) (Err (OtherSettings 12 c.key_of.result c.key_of-2.result)) (λ is. let no : ⊥ = cc in no)
    (λ x is. other_begun text kept c.key_of.result c.key_of-2.result x is first second other named)

pub returns-in_err-begin-clause-suffixes : goal.returns-in_err-begin-clause-suffixes
returns-in_err-begin-clause-suffixes g c =
    let fault = c.in_err-begin.field-0.0 in
    rw (err_is c.from_residual.result (ending_of_store fault) c.from_residual.ensures.1) (store_refuses fault c.args.suffixes.now)

pub returns-clause-suffixes : goal.returns-clause-suffixes
returns-clause-suffixes g c =
    let text = c.args.suffixes.now in
    let second : c.key_of-2.result ≡ key_of text = c.key_of-2.ensures ∙ ap key_of c.bytes-2.ensures in
    let named : text ≢ [] = subst (λ (t : List ℕ). t ≢ []) c.bytes.ensures (c.fits.ensures.named c.if-fits.false) in
    other_refuses text c.key_of.result c.key_of-2.result second named

pub returns-in_err-begin-clause-batches : goal.returns-in_err-begin-clause-batches
returns-in_err-begin-clause-batches g c =
    let tells = g.S.Store.told in
    let was = c.args.yard.now in
    let now = c.begin.new.self in
    let fault = c.in_err-begin.field-0.0 in
    let adds = c.in_err-begin.ensures.adds in
    rw (err_is c.from_residual.result (ending_of_store fault) c.from_residual.ensures.1)
    (begin_batch tells g.met.S.Store.is_consistent (Err fault) c.args.suffixes.now was.parts now.parts was.store now.store c.is_sound-is_sound.ensures.drum c.requires.kind
    (ap (λ (d : Drum). d.settings.kind) adds.urls ∙ c.requires.kind) was.rest_is now.rest_is adds)

pub returns-in_default-clause-batches : goal.returns-in_default-clause-batches
returns-in_default-clause-batches g c =
    let tells = g.S.Store.told in
    let was = c.args.yard.now in
    let now = c.begin.new.self in
    let adds = c.in_ok-begin.ensures.adds in
    begin_batch tells g.met.S.Store.is_consistent (Ok tt) c.args.suffixes.now was.parts now.parts was.store now.store c.is_sound-is_sound.ensures.drum c.requires.kind
    (ap (λ (d : Drum). d.settings.kind) adds.urls ∙ c.requires.kind) was.rest_is now.rest_is adds

pub returns-then-fits-clause-batches : goal.returns-then-fits-clause-batches
returns-then-fits-clause-batches g c =
    let was = c.args.yard.now in
    none_begun _ was.parts (g.S.Store.told was.store) (g.met.S.Store.is_consistent was.store) c.is_sound-is_sound.ensures.drum was.rest_is c.requires.kind

pub returns-clause-batches : goal.returns-clause-batches
returns-clause-batches g c =
    let was = c.args.yard.now in
    none_begun _ was.parts (g.S.Store.told was.store) (g.met.S.Store.is_consistent was.store) c.is_sound-is_sound.ensures.drum was.rest_is c.requires.kind

pub returns-in_err-begin-clause-found : goal.returns-in_err-begin-clause-found
returns-in_err-begin-clause-found g c =
    let now = c.begin.new.self in
    let fault = c.in_err-begin.field-0.0 in
    let adds = c.in_err-begin.ensures.adds in
    rw (err_is c.from_residual.result (ending_of_store fault) c.from_residual.ensures.1) (begin_found fault now.parts (g.S.Store.told now.store) adds.full adds.damaged)

pub returns-in_default-clause-found : goal.returns-in_default-clause-found
returns-in_default-clause-found g c = ok_found c.begin.new.self.parts (g.S.Store.told c.begin.new.self.store)

pub returns-then-fits-clause-found : goal.returns-then-fits-clause-found
returns-then-fits-clause-found g c = ok_found c.args.yard.now.parts (g.S.Store.told c.args.yard.now.store)

pub returns-clause-found : goal.returns-clause-found
returns-clause-found g c = other_found 12 c.key_of.result c.key_of-2.result c.args.yard.now.parts (g.S.Store.told c.args.yard.now.store)
