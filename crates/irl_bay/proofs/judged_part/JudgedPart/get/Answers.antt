use Rattle.std.proofs.Common.{◌≡◌, ◌∙◌, ◌-◌, ℕ, List, Some, take, drop, sym, ap, arith}
use Rattle.irl_layout.specs.JudgedEntries.{with_text}
use Rattle.irl_bay.proofs.JudgedParts.{within, begins, ends, told}
use Rattle.irl_bay.proofs.judged_part.JudgedPart.get.Goals as goal

pub index-entry-requires : goal.index-entry-requires
index-entry-requires c = omega (arith, within c.self.inside.entries.items c.self.inside.texts.items c.args.self.now c.args.i c.self.invariant c.self.view_is c.requires)

pub overflow_sub-entry : goal.overflow_sub-entry
overflow_sub-entry c =
    omega (
      arith,
      begins c.self.inside.entries.items c.self.inside.texts.items c.args.self.now c.args.i c.self.invariant c.self.view_is c.requires c.index-first.result.now c.index-entry.result.now
          c.index-first.ensures c.index-entry.ensures,
    )

pub split_at-requires : goal.split_at-requires
split_at-requires c =
    omega (
      arith,
      c.deref.ensures.len,
      ends c.self.inside.entries.items c.self.inside.texts.items c.args.self.now c.args.i c.self.invariant c.self.view_is c.requires c.index-first.result.now
          c.index-entry.result.now c.index-first.ensures c.index-entry.ensures,
    )

pub split_at-requires-2 : goal.split_at-requires-2
split_at-requires-2 c =
    omega (
      arith,
      c.deref.ensures.len,
      c.split_at.ensures.back_len,
      ends c.self.inside.entries.items c.self.inside.texts.items c.args.self.now c.args.i c.self.invariant c.self.view_is c.requires
          c.index-first.result.now c.index-entry.result.now c.index-first.ensures c.index-entry.ensures,
    )

pub returns : goal.returns
returns c =
    let entry = c.index-entry.result.now in
    let place = entry.place - c.index-first.result.now.place in
    let is = told c.self.inside.entries.items c.self.inside.texts.items c.args.self.now c.args.i c.self.invariant c.self.view_is c.requires c.index-first.result.now entry c.index-first.ensures
    c.index-entry.ensures in
    let text : take entry.aux_len (drop place c.self.inside.texts.items) ≡ c.split_at-2.result.0.now =
    sym (c.split_at-2.ensures.front ∙ ap (take entry.aux_len) c.split_at.ensures.back ∙ ap (λ (l : List ℕ). take entry.aux_len (drop place l)) c.deref.ensures.value) in
    rw c.from.ensures (is ∙ ap (λ (l : List ℕ). Some (with_text entry l)) text)
