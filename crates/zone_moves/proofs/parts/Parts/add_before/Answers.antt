-- One more is in range, as all before it (`Parts::add_before`, src/parts.rt).
use Rattle.std.proofs.Common.{rules, ◌≡◌, ◌++◌, ◌∷◌, [], sym, subst}
use Rattle.std.specs.List.{All}
use Rattle.std.proofs.lemmas.List.Elements.{All-push}
use Rattle.zone_moves.specs.Stretches.{IsPlaced}
use Rattle.zone_moves.proofs.parts.Parts.add_before.Goals as goal

pub invariant_of-self-2 : goal.invariant_of-self-2
invariant_of-self-2 c =
    let items : c.push.new.self.items ≡ c.self.inside.before.items ++ c.args.stretch.now ∷ [] = search rules in
    record {
      before = subst (All IsPlaced) (sym items) (All-push IsPlaced c.self.inside.before.items c.args.stretch.now c.self.invariant.before c.requires);
      behind = c.self.invariant.behind;
    }
