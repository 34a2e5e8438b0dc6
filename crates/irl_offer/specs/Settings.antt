-- The settings of a store, the ranges that they lie in, and those of a new store.
use Rattle.std.specs.Prelude.{◌≤◌, unwrap_or}
use Rattle.irl_offer.specs.Buckets.{IsBucketCount}
use Rattle.irl_offer.specs.declared.offer.Rule.TheVariants.{Keep}
use Rattle.irl_offer.specs.declared.settings.Settings.{Settings}
use Rattle.irl_offer.specs.declared.settings.Asked.{Asked}

-- what holds offers and cache entries lies in its range
pub record AreValidSizes (settings : Settings) : Type 0 where
  pub array : (1 ≤ settings.array) × (settings.array ≤ 8192)
  pub trigger : (1 ≤ settings.trigger) × (settings.trigger ≤ 1048576)
  pub block : (1 ≤ settings.block) × (settings.block ≤ 65536)
  pub cap : (1 ≤ settings.cap) × (settings.cap ≤ 1099511627776)

-- and so do the queues and the budgets of a crawl
pub record AreValidBudgets (settings : Settings) : Type 0 where
  pub queues : (1 ≤ settings.queues) × (settings.queues ≤ 64)
  pub base : (1 ≤ settings.base) × (settings.base ≤ 1000000)
  pub most : (settings.base ≤ settings.most) × (settings.most ≤ 1000000)
  pub ranks : (1 ≤ settings.ranks) × (settings.ranks ≤ 1000000)

-- each setting lies in its range
pub record AreValid (settings : Settings) : Type 0 where
  pub buckets : IsBucketCount settings.buckets
  pub sizes : AreValidSizes settings
  pub budgets : AreValidBudgets settings

-- the settings of a new store: each that is asked for, and else its default
abbrev pub settings_of : Asked → Settings
settings_of asked =
    record {
      kind = asked.kind;
      rule = unwrap_or asked.rule Keep;
      buckets = unwrap_or asked.buckets 16;
      array = unwrap_or asked.array 1024;
      trigger = unwrap_or asked.trigger 16384;
      block = unwrap_or asked.block 4096;
      cap = unwrap_or asked.cap 1099511627776;
      queues = unwrap_or asked.queues 2;
      base = unwrap_or asked.base 10;
      most = unwrap_or asked.most 10000;
      ranks = unwrap_or asked.ranks 10000;
    }
