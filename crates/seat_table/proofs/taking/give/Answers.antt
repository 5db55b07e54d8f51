-- To give the turn back keeps the rule of the table (`give`, src/taking.rt).
use Rattle.std.proofs.Common.{rules, ◌∷◌, Some, ap, ◌∙◌}
use Rattle.atomic_table.specs.Table.{rest}
use Rattle.seat_table.proofs.Keeping.{gives_turn}
use Rattle.seat_table.proofs.taking.give.Goals as goal

pub swap-requires : goal.swap-requires
swap-requires g c = (
  search rules,
  search rules,
  gives_turn g.C.Turns.told g.C.Turns.reason _ _ _ c.args.place.now.me.0 c.args.table (c.exchange-before.ensures.3 ∙ ap (λ l. (c.args.place.now.me.0, (0, Some c.args.table) ∷ rest l)) c.requires.busy.1) c.requires.busy.0 c.requires.others c.requires.stop,
)
