-- The flush and the write behind it, one after the other.
use Rattle.std.proofs.Common.{◌≡◌, ◌∙◌, Ok, refl, sym, subst, ap, arith}
use Rattle.irl_journal.specs.Growing.{Writer, Puts, end_of}
use Rattle.irl_journal.proofs.Growing.{puts_then, puts_waiting}
use Rattle.irl_journal.proofs.file_writer.FileWriter.put_past.Goals as goal

-- the bytes wait
pub returns-then-gather : goal.returns-then-gather
returns-then-gather g c =
    let now = g.S.Store.told c.flush.new.store in
    let law = g.met.S.Store.is_consistent c.flush.new.store in
    let flushed = c.in_ok-flush.ensures.value in
    let w = c.flush.new.self in
    let all = puts_waiting w c.args.more.now now law c.flush.ensures.long in
    puts_then (Ok tt) _ c.args.more.now c.args.self.now w c.gather.new.self (g.S.Store.told c.args.store.now) now now law
    (ap (λ (w : Writer). w.file) flushed) (ap (λ (w : Writer). w.kept) flushed) (ap (λ (w : Writer). end_of w) flushed ∙ omega arith)
    c.flush.ensures.put c.flush.ensures.changes c.in_ok-flush.ensures.rest
    (subst (λ (v : Writer). Puts (Ok tt) c.args.more.now w v now now) (sym (c.gather.ensures.gathered c.if-gather.true)) all)

-- they are written
pub returns : goal.returns
returns g c =
    let tells = g.S.Store.told in
    let second : c.gather.new.self ≡ c.flush.new.self = c.if-gather.ensures.same refl in
    let flushed = c.in_ok-flush.ensures.value in
    puts_then c.write_past.result _ c.args.more.now c.args.self.now c.flush.new.self c.write_past.new.self (tells c.args.store.now) (tells c.flush.new.store) (tells c.write_past.new.store)
    (g.met.S.Store.is_consistent c.flush.new.store)
    (ap (λ (w : Writer). w.file) flushed) (ap (λ (w : Writer). w.kept) flushed) (ap (λ (w : Writer). end_of w) flushed ∙ omega arith)
    c.flush.ensures.put c.flush.ensures.changes c.in_ok-flush.ensures.rest
    (subst (λ (w : Writer). Puts c.write_past.result c.args.more.now w c.write_past.new.self (tells c.flush.new.store) (tells c.write_past.new.store)) second c.write_past.ensures)
