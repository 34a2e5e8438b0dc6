use Rattle.std.proofs.Common.{◌≡◌, [], ◌∷◌, subst, sym, ◌∙◌}
use Rattle.irl_disk.specs.Disk.{Holds}
use Rattle.irl_journal.specs.Appending.{Ends, Tail}
use Rattle.irl_journal.proofs.Gates.{made, made_empty}
use Rattle.irl_disk.proofs.Frames.{told_from}
use Rattle.irl_journal.proofs.Appended.{as_step}
use Rattle.irl_journal.proofs.journal.Journal.make.Goals as goal

-- what is told has the closed gate alone
pub returns-clause-ok : goal.returns-clause-ok
returns-clause-ok g c =
    as_step c.args.f (Holds 0 (0 ∷ [])) (λ old new. new ≡ 0 ∷ []) _ _ (λ before after told holds. made (before c.args.f) after (c.requires.short before told) holds) c.in_ok-write_synced.ensures.holds

pub returns-clause-open : goal.returns-clause-open
returns-clause-open g c = λ image left.
    let told = (g.met.S.Store.is_consistent c.write_synced.new.store).tells image left in
    let from = told_from c.args.f (Holds 0 (0 ∷ [])) (g.S.Store.told c.args.store.now).files (g.S.Store.told c.write_synced.new.store).files told.0 c.in_ok-write_synced.ensures.holds told.1 in
    subst (λ (tail : Tail). Ends tail.end (image tail.file) []) (sym c.behind.ensures) (made_empty (image c.args.f)
    (c.in_ok-write_synced.ensures.durable told.0 told.1 image left ∙ made (from.0 c.args.f) (told.0 c.args.f) (c.requires.short from.0 from.1) from.2.changed))
