use Rattle.std.proofs.Common.{◌≡◌, ◌∙◌, ℕ, ◌≤◌, List, [], ◌∷◌, length, suc, refl, rules, sym, subst, arith}
use Rattle.std.specs.Prelude.{All}
use Rattle.std.specs.List.{AllByRecursion}
use Rattle.irl_base.specs.Limits.{max_text}
use Rattle.irl_key.specs.Links.{IsCanonicalText}
use Rattle.irl_top.proofs.crawling.plan_of.Goals as goal

all_short : (texts : List (List ℕ)) → All IsCanonicalText texts → AllByRecursion (λ text. length text ≤ max_text) texts
all_short [] all = tt
all_short (text ∷ texts) all = ((all 0 text (omega arith)).short, all_short texts (λ k d lt. all (suc k) d (omega (arith, lt))))

pub returns : goal.returns
returns c =
    let same = c.in_ok-copies.ensures ∙ c.seeds.ensures.value in
    record {
      is_plan = record {
        pages = c.requires.options.pages.0;
        batch = c.requires.options.batch;
        delay = omega (arith, c.requires.options.delay);
        seeds = subst (λ (texts : List (List ℕ)). AllByRecursion (λ text. length text ≤ max_text) texts) (sym c.in_ok-copies.ensures) (all_short c.seeds.result.now c.seeds.ensures.canonical);
      };
      seeds = same;
      agent = search rules;
      pages = refl;
      batch = refl;
      delay = refl;
    }
