use Rattle.std.proofs.Common.{◌≡◌, ◌∙◌, ◌≤◌, ℕ, List, refl, sym, ap, subst, arith}
use Rattle.std.proofs.lemmas.Result.{err_from_is_err_and}
use Rattle.irl_key.specs.Web.{robots_text}
use Rattle.irl_record.specs.Widening.{WidensSince}
use Rattle.irl_record.specs.Wired.{MakesAtMostOne}
use Rattle.irl_fetch.specs.Telling.{Fetcher, GoesOn, MakesAtMost, fetcher}
use Rattle.irl_fetch.proofs.Chaining.{Chained, chain_first, chain_more, chain_found, chain_ends, chain_refused}
use Rattle.irl_fetch.proofs.Telling.{counts_one, goes_then, keeps_one}
use Rattle.irl_fetch.proofs.robots.fetch_note.Given.{Over}
use Rattle.irl_fetch.proofs.robots.fetch_note.Goals as goal

abbrev seen : (g : Over) → g.row.F.Denot → Fetcher
seen g fetch = fetcher g.F.Fetch.asked g.F.Fetch.gives g.F.Fetch.faults g.F.Fetch.last g.F.Fetch.aim fetch

-- by one fetch
goes_on : (g : Over) (b d : g.row.F.Denot) → MakesAtMostOne (g.F.Fetch.asked b) (g.F.Fetch.asked d) → WidensSince (g.F.Fetch.gives b) (g.F.Fetch.gives d)
    → g.F.Fetch.faults b ≤ g.F.Fetch.faults d → g.F.Fetch.last b ≤ g.F.Fetch.last d → g.F.Fetch.aim d ≡ g.F.Fetch.aim b → GoesOn (seen g b) (seen g d)
goes_on g b d asked wider faults last aim = record { asked = keeps_one (g.F.Fetch.asked b) (g.F.Fetch.asked d) asked; wider = wider; faults = faults; last = last; aim = aim }

pub loop-followed-init : goal.loop-followed-init
loop-followed-init g c =
    let a = seen g c.args.fetch.now in
    subst (λ (web : List ℕ). Chained c.args.host.now web 0 a a) (sym (c.in_ok-asked.ensures.text ∙ ap robots_text c.bytes.ensures)) (chain_first c.args.host.now a)

pub returns-in_err-answer : goal.returns-in_err-answer
returns-in_err-answer g c =
    let fetch = c.fetch.ensures in
    let a = seen g c.args.fetch.now in
    let b = seen g c.loop-followed.fetch in
    let d = seen g c.fetch.new.self in
    let out = err_from_is_err_and c.from_residual-in_err-answer.result c.from_residual-in_err-answer.ensures.1 in
    chain_refused c.from_residual-in_err-answer.result out.0 c.args.host.now c.loop-followed.asked c.args.when c.loop-followed.followed a b d out.1 (omega (arith, c.loop-followed-test.true))
    c.loop-followed.invariant
    (goes_on g c.loop-followed.fetch c.fetch.new.self fetch.asked fetch.wider fetch.cause.later fetch.later fetch.aim) (counts_one b.asked d.asked fetch.asked)

pub returns-in_err-web : goal.returns-in_err-web
returns-in_err-web g c =
    let fetch = c.fetch.ensures in
    let a = seen g c.args.fetch.now in
    let b = seen g c.loop-followed.fetch in
    let d = seen g c.fetch.new.self in
    let out = err_from_is_err_and c.from_residual-in_err-web.result c.from_residual-in_err-web.ensures.1 in
    chain_refused c.from_residual-in_err-web.result out.0 c.args.host.now c.loop-followed.asked c.args.when c.loop-followed.followed a b d out.1 (omega (arith, c.loop-followed-test.true))
    c.loop-followed.invariant
    (goes_on g c.loop-followed.fetch c.fetch.new.self fetch.asked fetch.wider fetch.cause.later fetch.later fetch.aim) (counts_one b.asked d.asked fetch.asked)

pub returns-in_err-copy-in-Found : goal.returns-in_err-copy-in-Found
returns-in_err-copy-in-Found g c =
    let fetch = c.fetch.ensures in
    let a = seen g c.args.fetch.now in
    let b = seen g c.loop-followed.fetch in
    let d = seen g c.fetch.new.self in
    let out = err_from_is_err_and c.from_residual-in_err-copy-in-Found.result c.from_residual-in_err-copy-in-Found.ensures.1 in
    chain_refused c.from_residual-in_err-copy-in-Found.result out.0 c.args.host.now c.loop-followed.asked c.args.when c.loop-followed.followed a b d out.1 (omega (arith, c.loop-followed-test.true))
    c.loop-followed.invariant
    (goes_on g c.loop-followed.fetch c.fetch.new.self fetch.asked fetch.wider fetch.cause.later fetch.later fetch.aim) (counts_one b.asked d.asked fetch.asked)

pub returns-in-Found : goal.returns-in-Found
returns-in-Found g c =
    let a = seen g c.args.fetch.now in
    let b = seen g c.loop-followed.fetch in
    let d = seen g c.fetch.new.self in
    let fetch = c.fetch.ensures in
    let on : GoesOn b d = goes_on g c.loop-followed.fetch c.fetch.new.self fetch.asked fetch.wider fetch.cause.later fetch.later fetch.aim in
    let one : MakesAtMost 1 b d = counts_one b.asked d.asked c.fetch.ensures.asked in
    record {
      ok = chain_found c.args.host.now c.loop-followed.asked c.args.when c.loop-followed.followed c.in_ok-answer.answer c.in-Found.state _ a b d (g.met.F.Fetch.earlier c.fetch.new.self) c.requires
          c.loop-followed.invariant on one c.in_ok-answer.ensures.told c.in_ok-answer.ensures.cause (sym c.in-Found.is ∙ c.in_ok-web.ensures) c.in_ok-copy-in-Found.ensures refl refl;
      goes_on = goes_then a b d c.loop-followed.invariant.goes_on on;
      asked = omega (arith, c.loop-followed.invariant.asked_are, one, c.loop-followed-test.true);
    }

pub loop-followed-preserved : goal.loop-followed-preserved
loop-followed-preserved g c =
    let a = seen g c.args.fetch.now in
    let b = seen g c.loop-followed.fetch in
    let d = seen g c.fetch.new.self in
    let fetch = c.fetch.ensures in
    let on : GoesOn b d = goes_on g c.loop-followed.fetch c.fetch.new.self fetch.asked fetch.wider fetch.cause.later fetch.later fetch.aim in
    let one : MakesAtMost 1 b d = counts_one b.asked d.asked c.fetch.ensures.asked in
    chain_more c.args.host.now c.loop-followed.asked c.in-Follow.web c.loop-followed.followed c.in_ok-answer.answer a b d (g.met.F.Fetch.earlier c.fetch.new.self) c.loop-followed.invariant on one
    c.in_ok-answer.ensures.told c.in_ok-answer.ensures.cause (sym c.in-Follow.is ∙ c.in_ok-web.ensures)

pub unreachable-requires : goal.unreachable-requires
unreachable-requires g c =
    let a = seen g c.args.fetch.now in
    let b = seen g c.loop-followed.fetch in
    let six : c.loop-followed.followed ≡ 6 = omega arith in
    chain_ends c.args.host.now c.loop-followed.asked a b c.chains_are_short.ensures.short (subst (λ (n : ℕ). Chained c.args.host.now c.loop-followed.asked n a b) six c.loop-followed.invariant)
