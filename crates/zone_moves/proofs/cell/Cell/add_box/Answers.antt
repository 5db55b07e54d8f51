-- One more is in range, as all before it (`Cell::add_box`, src/cell.rt).
use Rattle.std.proofs.Common.{rules, ◌≡◌, ◌++◌, ◌∷◌, [], sym, subst}
use Rattle.std.specs.List.{All}
use Rattle.std.proofs.lemmas.List.Elements.{All-push}
use Rattle.zone_moves.specs.Fixed.{IsFixed}
use Rattle.zone_moves.proofs.cell.Cell.add_box.Goals as goal

pub invariant_of-self-2 : goal.invariant_of-self-2
invariant_of-self-2 c =
    let items : c.push.new.self.items ≡ c.self.inside.boxes.items ++ c.args.fixed ∷ [] = search rules in
    record {
      shifted = c.self.invariant.shifted;
      apart = c.self.invariant.apart;
      boxes = subst (All IsFixed) (sym items) (All-push IsFixed c.self.inside.boxes.items c.args.fixed c.self.invariant.boxes c.requires);
      bodies = c.self.invariant.bodies;
    }
