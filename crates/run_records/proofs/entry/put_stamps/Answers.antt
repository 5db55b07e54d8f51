-- `put_stamps` puts the number of stamps and their bytes after path and kind (src/entry.rt).
use Rattle.std.proofs.Common.{◌≤◌, ◌+◌, ◌*◌, ◌∷◌, [], ◌++◌, length, take, drop, refl, ◌∙◌, arith, append_assoc}
use Rattle.run_records.specs.Spelling.{stamp_bytes}
use Rattle.run_records.proofs.PutBehind.{put_next, set_third, length_third}
use Rattle.run_records.proofs.entry.put_stamps.Goals as goal

pub returns-clause-bytes : goal.returns-clause-bytes
returns-clause-bytes c =
    let old = c.args.into.now in
    let stamps = c.args.stamps.now in
    let n = length stamps in
    let room : 3 ≤ length old = omega (arith, c.requires.room) in
    put_next (take 2 old ++ n ∷ []) (stamp_bytes stamps) old _ _ c.put_each.new.into 3 (4 * n) (length_third old n room) (omega (arith, c.requires.few, c.requires.room)) (set_third old n room) refl c.put_each.ensures
    ∙ append_assoc (take 2 old) (n ∷ []) (stamp_bytes stamps ++ drop (3 + 4 * n) old)
