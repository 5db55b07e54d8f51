-- One more is in range, as all before it (`Parts::add_behind`, src/parts.rt).
use Rattle.std.proofs.Common.{rules, ◌≡◌, ◌++◌, ◌∷◌, [], sym, subst}
use Rattle.std.specs.List.{All}
use Rattle.std.proofs.lemmas.List.Elements.{All-push}
use Rattle.zone_moves.specs.Stretches.{IsPlaced}
use Rattle.zone_moves.proofs.parts.Parts.add_behind.Goals as goal

pub invariant_of-self-2 : goal.invariant_of-self-2
invariant_of-self-2 c =
    let items : c.push.new.self.items ≡ c.self.inside.behind.items ++ c.args.stretch.now ∷ [] = search rules in
    record {
      behind = subst (All IsPlaced) (sym items) (All-push IsPlaced c.self.inside.behind.items c.args.stretch.now c.self.invariant.behind c.requires);
      before = c.self.invariant.before;
    }
