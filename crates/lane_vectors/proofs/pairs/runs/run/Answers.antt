-- For the proof of `run` (src/pairs/runs.rt): what the closure asks holds of the table that it has. Its
-- types are those of the function, but for what is kept of them when the closure ends, which is nothing:
-- so each bound is given field by field.
use base.Shift.{Keyless}
use denote.Exit.{Last, left, if_kept, unseen}
use Rattle.std.proofs.Common.{Bool, true, false}
use Rattle.lane_vectors.proofs.pairs.runs.run.Goals as goal

-- nothing is kept of what nobody sees
unkept : {D : Type 0} (kept : Bool) (x : D) (w : Last (if_kept kept (unseen {D = D}) (unseen {D = D})) x)
    → Keyless (left (if_kept kept (unseen {D = D}) (unseen {D = D})) x w)
unkept true x w = tt
unkept false x w = tt

pub scoped-requires : goal.scoped-requires
scoped-requires g c =
    let bounds = c.type_bounds in
    record {
      at = λ a. (c.requires, (record { owned = bounds.send-T.owned; leaving = λ k x w. unkept _ x w }, record { shared = bounds.sync-R.shared }));
    }
