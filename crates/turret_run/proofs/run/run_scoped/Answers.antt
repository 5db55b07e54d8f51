-- For the proof of `run_scoped` (src/run.rt): what the closure asks holds of the table that it has. Its
-- types are those of the function, but for what is kept of them when the closure ends, which is nothing:
-- so each bound is given field by field.
use base.Shift.{Keyless}
use denote.Exit.{Last, left, if_kept, unseen}
use Rattle.std.proofs.Common.{Bool, true, false}
use Rattle.turret_run.proofs.run.run_scoped.Goals as goal

-- nothing is kept of what nobody sees
unkept : {D : Type 0} (kept : Bool) (x : D) (w : Last (if_kept kept (unseen {D = D}) (unseen {D = D})) x)
    → Keyless (left (if_kept kept (unseen {D = D}) (unseen {D = D})) x w)
unkept true x w = tt
unkept false x w = tt

pub scoped-requires : goal.scoped-requires
scoped-requires g c =
    let bounds = c.type_bounds in
    record {
      at = λ a. (
        c.requires.opening,
        (
          c.requires.halt,
          (
            c.requires.all,
            (
              c.requires.rests,
              (
                record { owned = bounds.send-O.owned; leaving = λ k x w. unkept _ x w },
                record { owned = bounds.send-D.owned; leaving = λ k x w. unkept _ x w },
                record { owned = bounds.send-T.owned; leaving = λ k x w. unkept _ x w },
                record { shared = bounds.sync-O.shared },
                record { shared = bounds.sync-R.shared },
              ),
            ),
          ),
        ),
      );
    }
