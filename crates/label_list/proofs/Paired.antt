-- A pair is accepted by its lists with their lines exactly if it is by those without. For the law
-- `a_pair_is_accepted_by_its_lists` (src/laws.rt). The file's name stands for the two tapes that
-- make a pair.
use Rattle.std.proofs.Common.{◌≡◌, ◌↔◌, ◌≤◌, List, length, ap, sym, subst, ◌∙◌}
use Rattle.std.proofs.lemmas.List.{length-map}
use Rattle.nc_number.specs.declared.limits.TheConstants.{MOST_LABELS}
use Rattle.block_order.specs.declared.program.ControlProgram.{ControlProgram}
use Rattle.block_order.specs.Labels.{IsUnforked, list}
use Rattle.label_list.specs.declared.labelled.Labelled.{Labelled}
use Rattle.label_list.specs.Accepted.{AgreeOnLabels, IsAcceptedPair}
use Rattle.label_list.specs.Lists.{path_labels}
use Rattle.label_list.proofs.Bare.{bare_path}

-- The list of a tape has as many labels as the one with their lines.
as_long : (tape : List ControlProgram) → length (list tape) ≡ length (path_labels tape)
as_long tape = ap length (sym (bare_path tape)) ∙ length-map (path_labels tape) (λ (x : Labelled). x.label)

-- Two tapes with one list of labels each are accepted by the one definition exactly if they are by
-- the other.
pub paired : (left right : List ControlProgram) → IsUnforked left → IsUnforked right
    → IsAcceptedPair left right ↔ AgreeOnLabels left right
paired left right one two = (
  λ pair. record {
    left_few = subst (λ n. n ≤ MOST_LABELS) (as_long left) pair.left_few;
    right_few = subst (λ n. n ≤ MOST_LABELS) (as_long right) pair.right_few;
    same = bare_path left ∙ (pair.same ∙ sym (bare_path right));
  },
  λ agree. record {
    left_unforked = one;
    right_unforked = two;
    left_few = subst (λ n. n ≤ MOST_LABELS) (sym (as_long left)) agree.left_few;
    right_few = subst (λ n. n ≤ MOST_LABELS) (sym (as_long right)) agree.right_few;
    same = sym (bare_path left) ∙ (agree.same ∙ bare_path right);
  },
)
