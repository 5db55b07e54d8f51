-- The list of a path ends as a path ends, so it is a LabelList. For the contract of `labels`
-- (src/listing.rt).
use Rattle.std.proofs.Common.{sym, subst}
use Rattle.label_list.specs.Lists.{IsEnded}
use Rattle.label_list.proofs.Ended.{path_ended}
use Rattle.label_list.proofs.listing.labels.Goals as goal

pub of-requires : goal.of-requires
of-requires c = record {
  ended = subst IsEnded (sym c.in-Ok.ensures.list) (path_ended c.args.flow.now.order);
  few = c.in-Ok.ensures.few;
}
