use Rattle.std.proofs.Common.{◌≡◌, ◌∙◌, ℕ, List, [], length, get_or, set, ap, sym}
use Rattle.irl_base.specs.Lists.{items_of}
use Rattle.irl_core.specs.Steps.{durable_in}
use Rattle.irl_core.specs.Kept.{shown}
use Rattle.irl_core.proofs.Shown.{durable_is_shown}
use Rattle.irl_core.proofs.Effects.{keeps_word, shows_word}
use Rattle.irl_core.proofs.pure.Core.acknowledge.Goals as goal

pub invariant_of-self : goal.invariant_of-self
invariant_of-self c =
    let a = c.self.inside in
    let b = c.args.bucket in
    let durable : c.length_at-length.result ≡ durable_in (shown a) b = c.length_at-length.ensures ∙ ap (λ (ls : List _). length (get_or (items_of ls) b [])) c.deref.ensures.value
    ∙ sym (durable_is_shown a b c.self.invariant) in
    record {
      core = keeps_word a c.args.self.now b c.set_at.new.numbers.items c.self.invariant c.self.view_is (c.set_at.ensures ∙ ap (λ (n : ℕ). set a.acknowledged.items b n) durable);
      fates = c.self.invariant.fates;
      read = c.self.invariant.read;
      short = c.self.invariant.short;
      cut = c.self.invariant.cut;
    }

pub returns : goal.returns
returns c =
    let a = c.self.inside in
    let b = c.args.bucket in
    let durable : c.length_at-length.result ≡ durable_in (shown a) b = c.length_at-length.ensures ∙ ap (λ (ls : List _). length (get_or (items_of ls) b [])) c.deref.ensures.value
    ∙ sym (durable_is_shown a b c.self.invariant) in
    shows_word a c.args.self.now b c.set_at.new.numbers.items c.self.view_is (c.set_at.ensures ∙ ap (λ (n : ℕ). set a.acknowledged.items b n) durable)
