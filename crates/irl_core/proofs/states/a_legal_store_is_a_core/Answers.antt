use Rattle.irl_core.proofs.Opened.{opened_kept}
use Rattle.irl_core.proofs.StateLemmas.{legal_stored}
use Rattle.irl_core.proofs.states.a_legal_store_is_a_core.Goals as goal

pub returns : goal.returns
returns c = record {
  stored = λ domain key settings urls pairs events valid is buckets rule. legal_stored domain key settings urls pairs is events valid buckets rule;
  core = λ domain key settings urls pairs events valid is buckets rule legal. opened_kept settings urls events (legal_stored domain key settings urls pairs is events valid buckets rule legal);
}
