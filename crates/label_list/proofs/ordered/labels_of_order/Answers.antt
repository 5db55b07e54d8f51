-- The list of a path ends as a path ends, so it is a LabelList. For the contract of
-- `labels_of_order` (src/ordered.rt).
use Rattle.std.proofs.Common.{sym, subst}
use Rattle.label_list.specs.Lists.{IsEnded}
use Rattle.label_list.proofs.Ended.{path_ended}
use Rattle.label_list.proofs.ordered.labels_of_order.Goals as goal

pub of-requires : goal.of-requires
of-requires c = record {
  ended = subst IsEnded (sym c.in-Ok.ensures.list) (path_ended c.args.order.now);
  few = c.in-Ok.ensures.few;
}
