-- `clap` reads the listed command in any words that are texts: the law of src/law.rt, proved in
-- TopWords.
use Rattle.clap_reading.proofs.TopWords.{all_texts, listed_is}
use Rattle.clap_reading.proofs.law.law_of_clap.Goals as goal

pub returns : goal.returns
returns c words texts = listed_is words (all_texts words texts)
