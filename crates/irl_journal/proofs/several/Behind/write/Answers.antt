-- Each record is put behind the last, a closed gate behind them, and then the file is synced.
use Rattle.std.proofs.Common.{◌≡◌, ◌∙◌, ◌<◌, ◌≤◌, ◌+◌, ◌++◌, [], ◌∷◌, ℕ, List, Ok, IsErr, length, get_or, drop, take, sym, subst, ap, arith, rules}
use Rattle.std.proofs.lemmas.List.{take_all}
use Rattle.std.proofs.lemmas.Option.{slice_get-get_or}
use Rattle.irl_disk.specs.declared.store.Failed.{Failed}
use Rattle.irl_journal.specs.Blob.{KeepsFront}
use Rattle.irl_journal.specs.Format.{records_text, appended_text, body_text}
use Rattle.irl_journal.specs.Growing.{Puts}
use Rattle.irl_journal.proofs.Pieces.{finishes_synced, finishes_length, puts_both, puts_closed, puts_changes, text_more, text_first, refused_synced}
use Rattle.irl_journal.proofs.several.Behind.write.Goals as goal

pub returns-in_err-put_body-clause-synced : goal.returns-in_err-put_body-clause-synced
returns-in_err-put_body-clause-synced g c =
    let payloads = g.P.Payloads.payloads c.args.payloads.now in
    let some : 0 < length payloads = omega (arith, c.requires.some) in
    let puts = c.put_body.ensures.puts (get_or payloads 0 []) (slice_get-get_or payloads 0 [] some) in
    refused_synced c.from_residual.result (IsErr c.put_body.result) _ _ _ _ _ _ c.from_residual.ensures.0 (λ e. search rules) puts.changes

pub loop-i-init : goal.loop-i-init
loop-i-init g c =
    let payloads = g.P.Payloads.payloads c.args.payloads.now in
    let tells = g.S.Store.told in
    let some : 0 < length payloads = omega (arith, c.requires.some) in
    let puts = c.in_ok-put_body.ensures.puts (get_or payloads 0 []) (slice_get-get_or payloads 0 [] some) in
    record {
      some = omega arith;
      room = c.put_body.ensures.room;
      puts = subst (λ (bytes : List ℕ). Puts {E = Failed} (Ok tt) bytes c.args.self.writer c.put_body.new.self.writer (tells c.args.store.now) (tells c.put_body.new.store))
          (text_first payloads c.requires.some) puts;
    }

pub returns-in_err-put-clause-synced : goal.returns-in_err-put-clause-synced
returns-in_err-put-clause-synced g c =
    let tells = g.S.Store.told in
    refused_synced c.from_residual-in_err-put.result (IsErr c.put.result) _ _ _ _ _ _ c.from_residual-in_err-put.ensures.0 (λ e. search rules)
    (puts_changes _ _ _ _ (tells c.args.store.now) (tells c.loop-i.store) (tells c.put.new.store) (g.met.S.Store.is_consistent c.loop-i.store) c.loop-i.invariant.puts c.put.ensures.changes)

pub returns-in_err-put_body-2-clause-synced : goal.returns-in_err-put_body-2-clause-synced
returns-in_err-put_body-2-clause-synced g c =
    let payloads = g.P.Payloads.payloads c.args.payloads.now in
    let tells = g.S.Store.told in
    let law = g.met.S.Store.is_consistent in
    let i = c.loop-i.i in
    let less : i < length payloads = omega (arith, c.count-i-end.ensures) in
    let puts = c.put_body-in-loop-i.ensures.puts (get_or payloads i []) (slice_get-get_or payloads i [] less) in
    let gate = puts_both _ _ _ _ _ (tells c.args.store.now) (tells c.loop-i.store) (tells c.put.new.store) (law c.loop-i.store) c.loop-i.invariant.puts c.in_ok-put.ensures in
    refused_synced c.from_residual-in_err-put_body-2.result (IsErr c.put_body-in-loop-i.result) _ _ _ _ _ _ c.from_residual-in_err-put_body-2.ensures.0 (λ e. search rules)
    (puts_changes _ _ _ _ (tells c.args.store.now) (tells c.put.new.store) (tells c.put_body-in-loop-i.new.store) (law c.put.new.store) gate puts.changes)

pub loop-i-preserved : goal.loop-i-preserved
loop-i-preserved g c =
    let payloads = g.P.Payloads.payloads c.args.payloads.now in
    let tells = g.S.Store.told in
    let law = g.met.S.Store.is_consistent in
    let i = c.loop-i.i in
    let less : i < length payloads = omega (arith, c.count-i-end.ensures) in
    let puts = c.in_ok-put_body-2.ensures.puts (get_or payloads i []) (slice_get-get_or payloads i [] less) in
    let gate = puts_both _ _ _ _ _ (tells c.args.store.now) (tells c.loop-i.store) (tells c.put.new.store) (law c.loop-i.store) c.loop-i.invariant.puts c.in_ok-put.ensures in
    let both = puts_both _ _ _ _ _ (tells c.args.store.now) (tells c.put.new.store) (tells c.put_body-in-loop-i.new.store) (law c.put.new.store) gate puts in
    record {
      some = omega arith;
      room = c.put_body-in-loop-i.ensures.room ∙ c.loop-i.invariant.room;
      puts = subst
          (λ (bytes : List ℕ). Puts {E = Failed} (Ok tt) bytes c.args.self.writer c.put_body-in-loop-i.new.self.writer (tells c.args.store.now) (tells c.put_body-in-loop-i.new.store))
          (text_more payloads i c.loop-i.invariant.some less)
          both;
    }

pub returns-in_err-put-2-clause-synced : goal.returns-in_err-put-2-clause-synced
returns-in_err-put-2-clause-synced g c =
    let tells = g.S.Store.told in
    refused_synced c.from_residual-in_err-put-2.result (IsErr c.put-2.result) _ _ _ _ _ _ c.from_residual-in_err-put-2.ensures.0 (λ e. search rules)
    (puts_changes _ _ _ _ (tells c.args.store.now) (tells c.loop-i.store) (tells c.put-2.new.store) (g.met.S.Store.is_consistent c.loop-i.store) c.loop-i.invariant.puts c.put-2.ensures.changes)

pub returns-clause-synced : goal.returns-clause-synced
returns-clause-synced g c =
    let payloads = g.P.Payloads.payloads c.args.payloads.now in
    let tells = g.S.Store.told in
    let law = g.met.S.Store.is_consistent in
    let all : length payloads ≤ c.loop-i.i = omega (arith, c.count-i-end.ensures) in
    let puts = puts_closed payloads c.loop-i.i _ _ _ (tells c.args.store.now) (tells c.loop-i.store) (tells c.put-2.new.store) (law c.loop-i.store) all c.loop-i.invariant.puts c.in_ok-put-2.ensures in
    finishes_synced c.finish.result _ _ _ (tells c.args.store.now) (tells c.put-2.new.store) (tells c.finish.new.store) (law c.put-2.new.store) c.requires.begun c.requires.long puts c.finish.ensures

pub returns-clause-length : goal.returns-clause-length
returns-clause-length g c =
    let payloads = g.P.Payloads.payloads c.args.payloads.now in
    let tells = g.S.Store.told in
    let law = g.met.S.Store.is_consistent in
    let all : length payloads ≤ c.loop-i.i = omega (arith, c.count-i-end.ensures) in
    let puts = puts_closed payloads c.loop-i.i _ _ _ (tells c.args.store.now) (tells c.loop-i.store) (tells c.put-2.new.store) (law c.loop-i.store) all c.loop-i.invariant.puts c.in_ok-put-2.ensures in
    finishes_length c.finish.result payloads _ _ (tells c.args.store.now) (tells c.put-2.new.store) (tells c.finish.new.store) c.requires.some c.requires.begun puts c.finish.ensures
