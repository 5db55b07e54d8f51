-- `settle`, which ends the images at a sync, keeps what the type of the disk promises (`IsKept`,
-- src/disk.rt).
use Rattle.std.proofs.Common.{rules, ◌≡◌, ◌++◌, ◌∷◌, List, sym, subst}
use Rattle.disk_images.specs.Among.{AreEnded, Ended, all_ended}
use Rattle.disk_images.proofs.Parts.{ended_all}
use Rattle.disk_images.proofs.disk.ImagesDisk.settle.Goals as goal

pub invariant_of-self-2 : goal.invariant_of-self-2
invariant_of-self-2 c =
    let images = c.self.inside.bytes.items ∷ c.self.inside.others.items in
    let items : c.append.new.self.items ≡ c.self.inside.past.items ++ all_ended c.self.inside.calls images = search rules in
    record {
      small = c.self.invariant.small;
      ended = subst (λ (l : List Ended). AreEnded c.self.inside.calls l) (sym items) (ended_all c.self.inside.calls c.self.inside.past.items images c.self.invariant.ended);
      calls_fit = c.self.invariant.calls_fit;
      faults_fit = c.self.invariant.faults_fit;
    }
