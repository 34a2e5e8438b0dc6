use Rattle.std.proofs.Common.{◌≡◌, ◌∙◌, ◌*◌, length, ap, subst, arith, ℕ}
use Rattle.irl_journal.specs.Growing.{Writer}
use Rattle.irl_layout.specs.BayFiles.{file_of}
use Rattle.irl_bay.specs.declared.bay.Bay.TheInside.{Inside}
use Rattle.irl_layout.specs.declared.files.BayFile.TheVariants.{Judged, Texts}
use Rattle.irl_bay.specs.Drum.{Drum, IsDrum, judged_front, texts_front}
use Rattle.irl_bay.proofs.Judges.{nothing_told}
use Rattle.irl_bay.proofs.bay.Bay.telling.Goals as goal

abbrev drum_of : Inside → Drum
drum_of b = record { base = b.base; settings = b.settings; is_sound = b.is_sound; manifest = b.manifest; last = b.last; cuts = b.cuts; buckets = b.buckets.items }

pub returns : goal.returns
returns c = λ told long.
    let drum = c.args.self.now in
    let law : IsDrum drum = subst IsDrum c.self.view_is c.self.invariant in
    let is = ap drum_of c.self-inside.view_is ∙ c.self.view_is in
    let judged_number : c.number-judged.result ≡ (judged_front drum).file = c.number-judged.ensures.value ∙ ap (λ (d : Drum). file_of d.base 0 Judged) is in
    let texts_number : c.number-texts.result ≡ (texts_front drum).file = c.number-texts.ensures.value ∙ ap (λ (d : Drum). file_of d.base 0 Texts) is in
    let judged_size = ap (λ (d : Drum). 48 * d.last.judged) is in
    let texts_size = ap (λ (d : Drum). d.last.texts) is in
    nothing_told drum told _ law
    (record {
      judged_file = ap (λ (w : Writer). w.file) c.in_ok-at.ensures.value ∙ judged_number;
      judged_kept = ap (λ (w : Writer). w.kept) c.in_ok-at.ensures.value ∙ judged_size;
      texts_file = ap (λ (w : Writer). w.file) c.in_ok-at-2.ensures.value ∙ texts_number;
      texts_kept = ap (λ (w : Writer). w.kept) c.in_ok-at-2.ensures.value ∙ texts_size;
    })
    (c.in_ok-at.ensures.put told (λ files at. omega (arith, (long files at).judged, ap (λ (n : ℕ). length (files n)) judged_number, judged_size)))
    (c.in_ok-at-2.ensures.put told (λ files at. omega (arith, (long files at).texts, ap (λ (n : ℕ). length (files n)) texts_number, texts_size)))
    texts_size (ap (λ (d : Drum). d.last.unique) is)
