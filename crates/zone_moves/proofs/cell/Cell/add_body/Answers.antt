-- One more is in range, as all before it (`Cell::add_body`, src/cell.rt).
use Rattle.std.proofs.Common.{rules, ◌≡◌, ◌++◌, ◌∷◌, [], sym, subst}
use Rattle.std.specs.List.{All}
use Rattle.std.proofs.lemmas.List.Elements.{All-push}
use Rattle.zone_moves.specs.Bodies.{IsBody}
use Rattle.zone_moves.proofs.cell.Cell.add_body.Goals as goal

pub invariant_of-self-2 : goal.invariant_of-self-2
invariant_of-self-2 c =
    let items : c.push.new.self.items ≡ c.self.inside.bodies.items ++ c.args.body ∷ [] = search rules in
    record {
      shifted = c.self.invariant.shifted;
      apart = c.self.invariant.apart;
      bodies = subst (All IsBody) (sym items) (All-push IsBody c.self.inside.bodies.items c.args.body c.self.invariant.bodies c.requires);
      boxes = c.self.invariant.boxes;
    }
