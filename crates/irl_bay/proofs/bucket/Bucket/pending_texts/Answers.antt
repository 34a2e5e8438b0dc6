use Rattle.std.proofs.Common.{◌≡◌, ◌∙◌, ◌-◌, take, drop, rules}
use Rattle.std.proofs.lemmas.Result.{IfOk-weaker}
use Rattle.irl_bay.proofs.PendingTexts.{texts_held}
use Rattle.irl_bay.proofs.bucket.Bucket.pending_texts.Goals as goal

pub returns : goal.returns
returns g c = record {
  length = search rules;
  held =
      let bucket = c.args.self.now in
      IfOk-weaker c.read_part.result _ _ (λ texts bytes files tells array cut list holds.
      let now = (g.met.S.Store.is_consistent c.args.store.now).told files tells in
      let read : texts.items ≡ take (c.length.result - bucket.text) (drop bucket.text (files c.file.result)) = bytes files tells in
      let there : texts.items ≡ take (bucket.aux.length - bucket.text) (drop bucket.text (files bucket.aux.file)) = rw (c.length.ensures, c.file.ensures.value) at read in
      there ∙ (texts_held list cut bucket.text bucket.aux.length (files bucket.aux.file) holds.text holds.aux.size (holds.aux.each files now)).0)
      c.read_part.ensures.bytes;
  damaged = search rules;
  full = search rules;
  reads = rw (c.file.ensures.value) at c.read_part.ensures.reads;
}
