use Rattle.std.proofs.Common.{◌≡◌, ◌∙◌, ◌*◌, ap, arith, rules}
use Rattle.irl_disk.proofs.Effects.{reads_then}
use Rattle.irl_disk.proofs.Stretches.{left_now}
use Rattle.irl_layout.specs.BayFiles.{file_of}
use Rattle.irl_layout.specs.declared.files.BayFile.TheVariants.{Cache, Judged, Texts}
use Rattle.irl_layout.specs.Commits.{Commit}
use Rattle.irl_bay.proofs.Adopting.{front_on}
use Rattle.irl_bay.proofs.adopt.open_fronts.Goals as goal

pub returns-clause-opened : goal.returns-clause-opened
returns-clause-opened g c = record {
  entries = search rules;
  judged = search rules;
  has = search rules;
  committed = λ files tells.
      let law = g.met.S.Store.is_consistent in
      let tell = g.S.Store.told in
      let last = c.args.last.now in
      let third = left_now _ _ _ (law c.open_blob-3.new.store) c.in_ok-open_blob-3.ensures.reads.stops in
      let second = left_now _ _ _ (law c.open_blob-2.new.store) c.in_ok-open_blob-2.ensures.reads.stops in
      let side : file_of c.args.base 0 (Cache c.last.inside.side) ≡ file_of c.args.base 0 (Cache last.side) = ap (λ (x : Commit). file_of c.args.base 0 (Cache x.side)) c.last.view_is in
      let entries : 16 * c.last.inside.entries ≡ 16 * last.entries = ap (λ (x : Commit). 16 * x.entries) c.last.view_is in
      let judged : 48 * c.last.inside.judged ≡ 48 * last.judged = ap (λ (x : Commit). 48 * x.judged) c.last.view_is in
      let texts : c.last.inside.texts ≡ last.texts = ap (λ (x : Commit). x.texts) c.last.view_is in
      let images = (tell c.open_blob-3.new.store).images in
      record {
        cache = front_on (tell c.open_blob.new.store).images images files c.in_ok-open_blob.field-0 _ (file_of c.args.base 0 (Cache last.side)) _ (16 * last.entries) c.in_ok-open_blob.ensures.blob
            (c.number-cache.ensures.value ∙ side) (omega (arith, entries, c.from.ensures)) (c.in_ok-open_blob.ensures.committed files tells) (λ image left. second image (third image left));
        judged = front_on (tell c.open_blob-2.new.store).images images files c.in_ok-open_blob-2.field-0 _ (file_of c.args.base 0 Judged) _ (48 * last.judged) c.in_ok-open_blob-2.ensures.blob
            c.number-judged.ensures.value (omega (arith, judged, c.from-2.ensures)) (c.in_ok-open_blob-2.ensures.committed files (c.in_ok-open_blob.ensures.reads.same ∙ tells)) third;
        texts = front_on images images files c.in_ok-open_blob-3.field-0 _ (file_of c.args.base 0 Texts) _ last.texts c.in_ok-open_blob-3.ensures.blob c.number-texts.ensures.value (c.from-3.ensures
            ∙ texts) (c.in_ok-open_blob-3.ensures.committed files (c.in_ok-open_blob-2.ensures.reads.same ∙ c.in_ok-open_blob.ensures.reads.same ∙ tells)) (λ image left. left);
      };
}

pub returns-in_err-open_blob-3-clause-reads : goal.returns-in_err-open_blob-3-clause-reads
returns-in_err-open_blob-3-clause-reads g c =
    let law = g.met.S.Store.is_consistent in
    let tell = g.S.Store.told in
    let two = reads_then (λ f. ⊥) _ _ (tell c.args.store.now) (tell c.open_blob.new.store) (tell c.open_blob-2.new.store) (law c.open_blob.new.store) c.in_ok-open_blob.ensures.reads
    c.in_ok-open_blob-2.ensures.reads in
    let all = reads_then (λ f. ⊥) _ _ (tell c.args.store.now) (tell c.open_blob-2.new.store) (tell c.open_blob-3.new.store) (law c.open_blob-2.new.store) two c.in_err-open_blob-3.ensures.reads in
    record { same = all.same; stops = all.stops; taken = all.taken; cause = search rules }

pub returns-clause-reads : goal.returns-clause-reads
returns-clause-reads g c =
    let law = g.met.S.Store.is_consistent in
    let tell = g.S.Store.told in
    let two = reads_then (λ f. ⊥) _ _ (tell c.args.store.now) (tell c.open_blob.new.store) (tell c.open_blob-2.new.store) (law c.open_blob.new.store) c.in_ok-open_blob.ensures.reads
    c.in_ok-open_blob-2.ensures.reads in
    let all = reads_then (λ f. ⊥) _ _ (tell c.args.store.now) (tell c.open_blob-2.new.store) (tell c.open_blob-3.new.store) (law c.open_blob-2.new.store) two c.in_ok-open_blob-3.ensures.reads in
    record { same = all.same; stops = all.stops; taken = all.taken; cause = search rules }
