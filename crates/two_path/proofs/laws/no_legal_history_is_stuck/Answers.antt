-- No legal history of a pair whose lists of labels are equal leads to paths that can't go on
-- (src/laws.rt).
use Rattle.two_path.specs.Turns.{tapes_of}
use Rattle.two_path.proofs.Behind.{fold_free}
use Rattle.two_path.proofs.laws.no_legal_history_is_stuck.Goals as goal

pub returns : goal.returns
returns c = λ left right pair first second at entries.
    fold_free (tapes_of left right) first second (c.no_pair_is_stuck.ensures left right pair first second at) entries
