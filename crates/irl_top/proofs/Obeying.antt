-- What each command does, by what is said of its run.
use Rattle.std.proofs.Common.{◌≡◌, ℕ, List, [], refl, sym, subst}
use Rattle.irl_offer.specs.declared.settings.Asked.{Asked}
use Rattle.irl_words.specs.Words.{IsInRange}
use Rattle.irl_words.specs.declared.command.Command.{Command}
use Rattle.irl_words.specs.declared.command.Command.TheVariants.{Replay, Crawl, Gen}
use Rattle.irl_words.specs.declared.command.RunOptions.{RunOptions}
use Rattle.irl_top.specs.Crawled.{CrawlRun, crawl_task, replay_task, site_task}
use Rattle.irl_top.specs.Outside.{Lent}
use Rattle.irl_top.specs.Ports.{Port}
use Rattle.irl_top.specs.Run.{Does, WaitsForNobody}
use Rattle.irl_top.specs.declared.ending.Ending.{Ending}
use Rattle.irl_top.proofs.AlongTapes.{keeps_along}
use Rattle.irl_top.proofs.CompletesCrawl.{crawls_through}
use Rattle.irl_top.proofs.Deciding.{does_plain, gen_asked, replay_asked}

pub does_replay : (command : Command) (asked : Asked) (options : RunOptions) (olds news : List Port) (before after : Lent) (ending : Ending) → command ≡ Replay asked options → IsInRange command
    → CrawlRun (replay_task options) asked before after ending → Does command olds news before after ending
does_replay command asked options olds news before after ending is range run =
    let kind = (replay_asked asked options (subst IsInRange is range)).0 in
    subst (λ (c : Command). Does c olds news before after ending) (sym is) (record {
      through = crawls_through (replay_task options) asked before after ending run;
      along = keeps_along (replay_task options) asked before after ending (λ input url want answer given. given) kind run;
    })

pub does_gen : (command : Command) (asked : Asked) (options : RunOptions) (pages : ℕ) (olds news : List Port) (before after : Lent) (ending : Ending) → command ≡ Gen asked options pages
    → IsInRange command → CrawlRun (site_task options pages) asked before after ending → Does command olds news before after ending
does_gen command asked options pages olds news before after ending is range run =
    let kind = (gen_asked asked options pages (subst IsInRange is range)).0 in
    subst (λ (c : Command). Does c olds news before after ending) (sym is) (record {
      through = crawls_through (site_task options pages) asked before after ending run;
      along = keeps_along (site_task options pages) asked before after ending (λ input url want answer given. given) kind run;
    })

pub does_crawl : (command : Command) (asked : Asked) (options : RunOptions) (number : ℕ) (olds news : List Port) (before after : Lent) (ending : Ending) → command ≡ Crawl asked options number
    → IsInRange command → CrawlRun (crawl_task options number olds news) asked before after ending → Does command olds news before after ending
does_crawl command asked options number olds news before after ending is range run =
    subst (λ (c : Command). Does c olds news before after ending) (sym is)
    (crawls_through (crawl_task options number olds news) asked before after ending run)

pub does_other : (command : Command) (olds news : List Port) (before after : Lent) (ending : Ending) → WaitsForNobody command → Does command [] [] before after ending
    → Does command olds news before after ending
does_other command olds news before after ending plain does = does_plain command [] [] olds news before after ending plain does
