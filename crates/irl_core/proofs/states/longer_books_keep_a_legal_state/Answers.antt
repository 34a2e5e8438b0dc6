use Rattle.irl_core.proofs.StateLemmas.{more_urls, more_pairs}
use Rattle.irl_core.proofs.states.longer_books_keep_a_legal_state.Goals as goal

pub returns : goal.returns
returns c = record {
  urls = λ domain key settings urls more pairs events is front. more_urls domain key settings urls more pairs is front events;
  pairs = λ domain key settings urls pairs more events is front. more_pairs domain key settings urls pairs more is front events;
}
