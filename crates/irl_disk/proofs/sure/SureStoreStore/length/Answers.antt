use Rattle.std.proofs.Common.{◌∙◌, sym, ap, arith, length}
use Rattle.std.proofs.lemmas.List.{get_or_read}
use Rattle.irl_disk.specs.Sure.{Held, sure_files}
use Rattle.irl_disk.proofs.Pieces.{piece_long}
use Rattle.irl_disk.proofs.sure.SureStoreStore.length.Goals as goal

pub returns-clause-value : goal.returns-clause-value
returns-clause-value c =
    let lengths = c.self.inside.lengths.items in
    get_or_read lengths c.args.f _ (omega (arith, c.self.invariant.0)) c.index.ensures 0
    ∙ sym (piece_long lengths c.self.inside.bytes.items c.args.f c.self.invariant.2) ∙ ap (λ (store : Held). length (sure_files store c.args.f)) c.self.view_is
