use Rattle.std.proofs.Common.{◌≡◌, ◌∙◌, ℕ, ◌<◌, length, get_or, sym, ap, subst, arith}
use Rattle.irl_events.specs.Events.{Progress}
use Rattle.irl_base.specs.Lists.{list_at}
use Rattle.irl_offer.specs.declared.outcome.Outcome.TheVariants.{Page, Moved, Status, Denied, Shut, Lost, Bad, Large, Coded}
use Rattle.irl_fate.specs.Fates.{fate_of}
use Rattle.irl_fate.specs.Standing.{is_placed, one_if, read_count, stands}
use Rattle.irl_frontier.specs.Frontier.{Frontier}
use Rattle.irl_frontier.specs.Tallies.{tallied}
use Rattle.irl_frontier.proofs.FateCounts.{done_counted, fresh_counted, front_counted, kind_counted, last_counted, queued_counted}
use Rattle.irl_frontier.proofs.frontier.Frontier.counts.Goals as goal

pub returns : goal.returns
returns c = λ numbers long all.
    let p : Progress = c.args.self.now.progress in
    let is : c.self.inside.fates ≡ p = ap (λ (y : Frontier). y.progress) c.self.view_is in
    let once : (n : ℕ) → stands p n ≡ one_if (is_placed (fate_of p n)) = subst (λ (q : Progress). (n : ℕ) → stands q n ≡ one_if (is_placed (fate_of q n))) is c.stands_once.ensures.once in
    let many : length p.waiting.lists ≡ 65 = subst (λ (q : Progress). length q.waiting.lists ≡ 65) is c.stands_once.ensures.lists in
    let read : c.read_len-read.result ≡ read_count p = c.read_len-read.ensures ∙ ap read_count is in
    let front : c.front_len-front.result ≡ length p.front = c.front_len-front.ensures ∙ ap (λ (q : Progress). length q.front) is in
    let last : c.last_len-last.result ≡ length (list_at p.waiting.lists 64) = c.last_len-last.ensures ∙ ap (λ (q : Progress). length (list_at q.waiting.lists 64)) is in
    let done : c.done_len-done.result ≡ length p.done = c.done_len-done.ensures ∙ ap (λ (q : Progress). length q.done) is in
    let at : (k : ℕ) → k < 9 → get_or c.self.inside.tally k 0 ≡ tallied k p.done = λ k lt. c.self.invariant.tally.each k lt ∙ ap (λ (q : Progress). tallied k q.done) is in
    let kind = kind_counted p once many numbers all.distinct all.read in
    record {
      unique = sym long;
      fresh = omega (arith, read, fresh_counted p once many numbers all.distinct all.read);
      queued = omega (arith, read, front, last, done, queued_counted p once many numbers all.distinct all.read);
      last = last ∙ sym (last_counted p once many numbers all.distinct all.read);
      front = front ∙ sym (front_counted p once many numbers all.distinct all.read);
      done = done ∙ sym (done_counted p once many numbers all.distinct all.read);
      page = at 0 (omega arith) ∙ sym (kind Page);
      moved = at 1 (omega arith) ∙ sym (kind Moved);
      status = at 2 (omega arith) ∙ sym (kind (Status 0));
      denied = at 3 (omega arith) ∙ sym (kind (Denied 0));
      shut = at 4 (omega arith) ∙ sym (kind Shut);
      lost = at 5 (omega arith) ∙ sym (kind Lost);
      bad = at 6 (omega arith) ∙ sym (kind Bad);
      large = at 7 (omega arith) ∙ sym (kind Large);
      coded = at 8 (omega arith) ∙ sym (kind Coded);
    }
