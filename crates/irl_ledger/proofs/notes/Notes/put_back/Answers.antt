use Rattle.std.proofs.Common.{◌≡◌, ◌∙◌, ℕ, Some, cond, sym, ap, subst, rules}
use Rattle.std.specs.Prelude.{bytes_eq}
use Rattle.std.specs.FinMap.{get}
use Rattle.irl_base.proofs.TextMaps.{value_at, value_at-insert}
use Rattle.irl_ledger.specs.Noting.{CanRestore, restored, with_place}
use Rattle.irl_ledger.proofs.NoteMaps.{has_entry, on_ok, places_set}
use Rattle.irl_ledger.proofs.notes.Notes.put_back.Goals as goal

pub unreachable-requires : goal.unreachable-requires
unreachable-requires c =
    let self = c.args.self.now in
    let before : c.args.before ≡ Some (c.in-Some.name, c.in-Some.place) = search rules in
    let has : (at : ℕ) × (get self c.in-Some.name ≡ Some at) = subst (λ b. CanRestore b self) before c.requires in
    let key : c.into_vec.result.items ≡ c.in-Some.name = c.into_vec.ensures in
    has_entry c.self.inside.places.entries c.into_vec.result.items self c.insert.result c.self.view_is (has.0, ap (get self) key ∙ has.1)
    (sym c.is_err.ensures.value ∙ c.if-is_err.true) c.insert.ensures.absent

pub returns : goal.returns
returns c =
    let old = c.self.inside.places.entries in
    let new = c.insert.new.self.entries in
    let before : c.args.before ≡ Some (c.in-Some.name, c.in-Some.place) = search rules in
    let entries = on_ok c.insert.result (sym c.is_err.ensures.value ∙ c.if-is_err.false) c.insert.ensures.entries in
    places_set old new c.in-Some.name c.in-Some.place
    (λ q. value_at-insert q c.into_vec.result c.in-Some.place old new entries
    ∙ ap (λ t. cond (bytes_eq q t) (Some c.in-Some.place) (value_at old q)) c.into_vec.ensures)
    ∙ ap (with_place c.in-Some.name c.in-Some.place) c.self.view_is
    ∙ ap (λ b. restored b c.args.self.now) (sym before)
