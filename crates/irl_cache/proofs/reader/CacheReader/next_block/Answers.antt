-- A block is the first of what is ahead.
use Rattle.std.proofs.Common.{◌≡◌, ◌∙◌, ⊎_elim, inl, inr, ◌+◌, ◌-◌, ◌*◌, ◌≤◌, ◌++◌, List, ℕ, min, length, take, drop, vec_len, refl, ap, subst, arith, rules, length-drop}
use Rattle.std.proofs.lemmas.List.{drop-drop}
use Rattle.std.proofs.lemmas.Result.{err_from_is_err_and}
use Rattle.irl_base.specs.declared.fault.Fault.TheVariants.{Damaged}
use Rattle.irl_offer.specs.declared.receipt.Pair.{Pair}
use Rattle.irl_cache.specs.Reading.{HasRead, TakesExactly, read_of}
use Rattle.irl_cache.proofs.Blocks.{block_given, rest_of}
use Rattle.irl_cache.proofs.reader.CacheReader.next_block.Goals as goal

pub returns-in_err-fill-clause-reads_on : goal.returns-in_err-fill-clause-reads_on
returns-in_err-fill-clause-reads_on g c = record {
  err = search rules;
  long = search rules;
  damaged = λ f at e pairs had.
      let out = err_from_is_err_and c.from_residual.result c.from_residual.ensures.1 in
      let same : c.in_err-fill.field-0.0 ≡ Damaged f at = let is = rw (out.1, out.2) at e in cc in
      c.in_err-fill.ensures.reads_on.damaged f at (rw same refl) pairs had;
  memory = search rules;
  full = search rules;
  taken = search rules;
  reads = search rules;
}

pub invariant_of-self : goal.invariant_of-self
invariant_of-self g c =
    let inv = c.self.invariant in
    let k = c.min-count.result in
    let s = c.self.inside in
    let ahead : c.len.result - s.end ≡ vec_len s.pairs - s.end = omega (arith, c.len.ensures) in
    let is : k ≡ min (vec_len s.pairs - s.end) s.most = c.min-count.ensures ∙ ap (λ (n : ℕ). min n s.most) ahead in (
      inv.0,
      inv.1,
      omega arith,
      omega (arith, is, inv.3),
      omega (arith, is, inv.3, inv.4),
      omega (arith, is, inv.3, inv.5),
      inv.6,
      inv.7,
      ⊎_elim
          (λ all. inl (omega (arith, all, is, inv.3)))
          (λ whole. let rest = rest_of s.most (vec_len s.pairs - s.end) k is whole in inr (rest.0, omega (arith, rest.1, is, inv.3)))
          inv.8,
    )

pub returns-clause-read : goal.returns-clause-read
returns-clause-read g c = λ pairs had.
    let s = c.self.inside in
    let k = c.min-count.result in
    let told = (g.S.Store.told c.fill.new.store).files in
    let ahead = drop s.end s.pairs.items in
    let filled = rw (← c.self.view_is) at (c.in_ok-fill.ensures.read pairs had) in
    let within : k ≤ length ahead = omega (arith, c.min-count.ensures, c.len.ensures, s.pairs.ok.0, length-drop s.end s.pairs.items) in
    let same : k ≡ s.end + k - s.end = omega arith in
    subst (λ (n : ℕ). HasRead told (pairs ++ take n ahead) (record {
      file = s.file;
      entries = s.entries;
      most = s.most;
      given = s.given + k;
      block = take n ahead;
      ahead =
          drop (s.end + k) s.pairs.items;
      last = s.last;
    })) same
    (subst (λ (rest : List Pair). HasRead told (pairs ++ take k ahead) (record {
      file = s.file;
      entries = s.entries;
      most = s.most;
      given = s.given + k;
      block = take k ahead;
      ahead = rest;
      last =
          s.last;
    })) (drop-drop k s.end s.pairs.items)
    (block_given told pairs _ k within filled))

-- as many entries were read as after the filling
pub returns-clause-reads_on : goal.returns-clause-reads_on
returns-clause-reads_on g c =
    let s = c.self.inside in
    let k = c.min-count.result in
    let items = s.pairs.items in
    let tells = g.S.Store.told in
    let within : k ≤ length (drop s.end items) = omega (arith, c.min-count.ensures, c.len.ensures, s.pairs.ok.0, length-drop s.end items) in
    let size : s.given + length (drop s.end items) ≡ s.given + k + length (drop (s.end + k) items) = omega (arith, within, length-drop s.end items, length-drop (s.end + k) items) in
    let filled = rw (← c.self.view_is) at c.fill.ensures.reads_on.long in
    let taken = rw (← c.self.view_is) at c.in_ok-fill.ensures.reads_on.taken in
    record {
      err = search rules;
      long = λ files told. omega (arith, filled files told, size);
      damaged = search rules;
      memory = search rules;
      full = search rules;
      taken = subst (λ (n : ℕ). TakesExactly c.args.self.now.file (16 * (n - read_of c.args.self.now)) (tells c.args.store.now).taken (tells c.fill.new.store).taken) size taken;
      reads = search rules;
    }
