use Rattle.std.proofs.Common.{◌≡◌, ◌∙◌, ◌++◌, ◌∷◌, [], ℕ, List, Option, sym, ap, subst}
use Rattle.irl_ledger.specs.Noting.{CanRestoreAll, restored_all}
use Rattle.irl_ledger.proofs.SeveralNotes.{can_last, restored_more}
use Rattle.irl_ledger.proofs.notes.Notes.put_all_back.Goals as goal

pub put_back-requires : goal.put_back-requires
put_back-requires c =
    let popped : c.loop-before.all.items ≡ c.pop.new.self.items ++ c.in-Some.before ∷ [] = c.in-Some.ensures.items in
    let can = subst (λ (l : List (Option (List ℕ × Option ℕ))). CanRestoreAll l c.loop-before.self) popped c.loop-before.invariant.can in
    (can_last c.pop.new.self.items c.in-Some.before c.loop-before.self can).1

pub loop-before-preserved : goal.loop-before-preserved
loop-before-preserved c =
    let rest = c.pop.new.self.items in
    let popped : c.loop-before.all.items ≡ rest ++ c.in-Some.before ∷ [] = c.in-Some.ensures.items in
    let can = subst (λ (l : List (Option (List ℕ × Option ℕ))). CanRestoreAll l c.loop-before.self) popped c.loop-before.invariant.can in
    let back = c.put_back.ensures in
    record {
      can = subst (CanRestoreAll rest) (sym back) (can_last rest c.in-Some.before c.loop-before.self can).0;
      same = ap (restored_all rest) back ∙ sym (restored_more rest c.in-Some.before c.loop-before.self)
          ∙ ap (λ (l : List (Option (List ℕ × Option ℕ))). restored_all l c.loop-before.self) (sym popped) ∙ c.loop-before.invariant.same;
    }
