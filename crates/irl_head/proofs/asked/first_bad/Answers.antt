use Rattle.std.proofs.Common.{sym, subst}
use Rattle.irl_head.specs.Numbers.{AreInRange}
use Rattle.irl_head.proofs.HeadBytes.{valid_numbers, valid_settings}
use Rattle.irl_head.proofs.SettingNumbers.{never_bad}
use Rattle.irl_head.proofs.asked.first_bad.Goals as goal

pub returns-clause-none : goal.returns-clause-none
returns-clause-none c =
    let settings = c.args.settings.now in
    let are = c.numbers_of.ensures in (
      λ none. valid_settings settings (subst AreInRange are (c.first_bad_number.ensures.none none)),
      λ valid. never_bad c.numbers_of.result c.first_bad_number.result c.first_bad_number.ensures.found (subst AreInRange (sym are) (valid_numbers settings valid)),
    )
