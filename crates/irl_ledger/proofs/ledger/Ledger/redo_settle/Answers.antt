use Rattle.std.proofs.Common.{◌≡◌, ◌∙◌, ℕ, ◌<◌, ◌≤◌, List, length, [], Err, true, refl, sym, subst}
use Rattle.std.specs.Prelude.{slice_index}
use Rattle.std.proofs.lemmas.Bool.{false≢true}
use Rattle.irl_base.specs.declared.fault.Fault.TheVariants.{Damaged}
use Rattle.irl_events.specs.Events.{Event, Settle}
use Rattle.irl_bay.specs.Drum.{durable_at}
use Rattle.irl_ledger.specs.Redoing.{Redoes, RedoesOther}
use Rattle.irl_ledger.proofs.Opening.{named, next_books, redoes_other, redone_settle, settle_within}
use Rattle.irl_ledger.proofs.ledger.Ledger.redo_settle.Goals as goal

pub returns-then-not-are_within : goal.returns-then-not-are_within
returns-then-not-are_within g c =
    let store = g.S.Store.told c.args.store.now in
    let urls = c.args.urls.now in
    let old = c.args.self.now in
    let fronts = c.args.fronts.now in
    let done = c.args._done.now in
    let law = c.is_sound-is_drum.ensures.drum in
    let refused : (length fronts ≡ urls.settings.buckets) × ((b : ℕ) → b < urls.settings.buckets → slice_index fronts b ≤ durable_at urls b) → ⊥ =
    λ fits.
    let all : c.are_within.result ≡ true =
    c.are_within.ensures.all (subst (λ (l : List ℕ). length l ≡ urls.settings.buckets) (sym c.items.ensures) fits.0)
    (subst (λ (l : List ℕ). (b : ℕ) → b < urls.settings.buckets → slice_index l b ≤ durable_at urls b) (sym c.items.ensures) fits.1) in
    false≢true (sym c.if-not-are_within.true ∙ all) in
    subst (λ (e : Event). Redoes (Err (Damaged 1 c.args.at)) c.args.at e urls old old store store) (sym c.requires.is)
    (named c.args.at (Settle fronts done) urls old store (g.met.S.Store.is_consistent c.args.store.now) ([], refl, λ legal fits. refused fits)
    (λ settings u p first more places next. refused (settle_within store urls old settings u p first more fronts done places law next)))

pub returns : goal.returns
returns g c =
    let store = g.S.Store.told c.args.store.now in
    let urls = c.args.urls.now in
    let old = c.args.self.now in
    let fronts = c.args.fronts.now in
    let done = c.args._done.now in
    let within = subst (λ (l : List ℕ). (b : ℕ) → b < urls.settings.buckets → slice_index l b ≤ durable_at urls b) c.items.ensures (c.are_within.ensures.within c.if-not-are_within.false) in
    subst (λ (e : Event). Redoes c.redo_other.result c.args.at e urls old c.redo_other.new.self store store) (sym c.requires.is)
    (redoes_other c.args.at (Settle fronts done) urls old store (g.met.S.Store.is_consistent c.args.store.now) c.redo_other.result c.redo_other.new.self
    (subst (λ (e : Event). RedoesOther c.redo_other.result c.args.at e old c.redo_other.new.self) c.requires.is c.redo_other.ensures) refl refl
    (subst (λ (l : List ℕ). length l ≡ urls.settings.buckets) c.items.ensures (c.are_within.ensures.many c.if-not-are_within.false), within)
    (λ settings u p first more places next. (next_books store urls old settings u p first more (Settle fronts done) places next).1)
    (λ legal. redone_settle urls old fronts done legal within c.requires.may.redone))
