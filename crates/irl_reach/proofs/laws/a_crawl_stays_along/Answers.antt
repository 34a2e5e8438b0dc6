use Rattle.irl_reach.proofs.Growing.{front_itself}
use Rattle.irl_reach.proofs.Staying.{stays_along}
use Rattle.irl_reach.proofs.Suffixes.{stays_by}
use Rattle.irl_reach.proofs.laws.a_crawl_stays_along.Goals as goal

pub returns-clause-between : goal.returns-clause-between
returns-clause-between c = λ tape agent visits start middle end along crawls store made one two. stays_along tape agent visits start middle end along crawls store made one two

pub returns-clause-end : goal.returns-clause-end
returns-clause-end c = λ tape agent visits start end along crawls store made front. stays_along tape agent visits start end end along crawls store made front (front_itself end)

pub returns-clause-between_by : goal.returns-clause-between_by
returns-clause-between_by c = λ tape input agent visits start middle end seeds along crawls store made one two. stays_by input tape agent visits start middle end seeds along crawls store made one two

pub returns-clause-end_by : goal.returns-clause-end_by
returns-clause-end_by c = λ tape input agent visits start end seeds along crawls store made front. stays_by input tape agent visits start end end seeds along crawls store made front (front_itself end)
