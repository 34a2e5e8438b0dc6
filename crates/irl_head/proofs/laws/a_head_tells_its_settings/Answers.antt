use Rattle.irl_head.proofs.HeadBytes.{one_settings, own_head}
use Rattle.irl_head.proofs.laws.a_head_tells_its_settings.Goals as goal

pub returns-clause-whole : goal.returns-clause-whole
returns-clause-whole c = own_head

pub returns-clause-one : goal.returns-clause-one
returns-clause-one c = one_settings
