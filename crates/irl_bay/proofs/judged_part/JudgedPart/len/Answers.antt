use Rattle.std.proofs.Common.{◌≡◌, ◌∙◌, sym, ap, length, arith}
use Rattle.irl_bay.proofs.JudgedHeld.{length-with_texts}
use Rattle.irl_bay.proofs.judged_part.JudgedPart.len.Goals as goal

pub returns : goal.returns
returns c =
    let same : length c.self.inside.entries.items ≡ length c.args.self.now = sym (length-with_texts c.self.inside.entries.items c.self.inside.texts.items) ∙ ap length c.self.view_is in
    omega (arith, c.len.ensures, same)
