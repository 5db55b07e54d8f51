-- For the proof of `add_turret_fault` (src/end_line.rt): the words `turret fault` and the path are
-- added, and no more.
use Rattle.std.proofs.Common.{List, ℕ, ◌++◌, append_assoc, ap, ◌∙◌}
use Rattle.std.specs.Prelude.{codes}
use Rattle.text_pieces.specs.Pieces.{path_name}
use Rattle.move_list.specs.EndText.{turret_text}
use Rattle.move_list.proofs.end_line.add_turret_fault.Goals as goal

pub returns-clause-text : goal.returns-clause-text
unfolding turret_text
returns-clause-text c =
    c.add_path.ensures.text ∙ ap (λ (t : List ℕ). t ++ path_name c.args.path) c.add.ensures.text ∙ append_assoc c.args.piece.now (codes "turret fault ") (path_name c.args.path)
