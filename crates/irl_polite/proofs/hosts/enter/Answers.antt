use Rattle.std.proofs.Common.{◌≡◌, ◌∙◌, ℕ, ◌++◌, ◌∷◌, [], List, Some, None, cond, length, false, sym, subst, rules}
use Rattle.std.specs.Prelude.{bytes_eq}
use Rattle.irl_polite.specs.Inside.{place_of, Grows}
use Rattle.irl_polite.proofs.Lists.{none_of}
use Rattle.irl_base.proofs.TextMaps.{value_at-insert}
use Rattle.irl_polite.proofs.GrowLemmas.{grows_entered}
use Rattle.irl_polite.proofs.hosts.enter.Goals as goal

pub returns-clause-grown : goal.returns-clause-grown
returns-clause-grown c =
    let old = c.args.names.now.entries in
    let hosts = c.args.hosts.now.items in
    let name = c.args.name.now in
    let absent : place_of c.args.names.now.entries c.args.name.now ≡ None = sym c.find.ensures ∙ none_of c.find.result c.in_default.not-Some in
    let len : c.len-place.result ≡ length hosts = search rules in
    let key : c.in_ok-key.key.items ≡ name = search rules in
    let entered : (q : List ℕ) → place_of c.insert.new.self.entries q ≡ cond (bytes_eq q c.args.name.now) (Some (length c.args.hosts.now.items)) (place_of c.args.names.now.entries q) =
    λ q.
    value_at-insert q c.in_ok-key.key c.len-place.result old c.insert.new.self.entries c.in_ok-insert.ensures.entries
    ∙ (λ i. cond (bytes_eq q (key i)) (Some (len i)) (place_of old q)) in
    let reserved : c.reserve.new.self.items ≡ hosts = c.reserve.ensures.items in
    let text : c.in_ok-from_bytes.field-0 ≡ name = c.in_ok-from_bytes.ensures in
    let pushed : c.push_reserved.new.self.items ≡ hosts ++ record { name = name; known = None; due = 0; awaited = false; first = None } ∷ [] =
    c.push_reserved.ensures.items ∙ (λ i. reserved i ++ record { name = text i; known = None; due = 0; awaited = false; first = None } ∷ []) in
    subst (Grows (place_of old) hosts (place_of c.insert.new.self.entries)) (sym pushed)
    (grows_entered (place_of old) (place_of c.insert.new.self.entries) hosts name c.requires.table c.requires.resting absent entered)
