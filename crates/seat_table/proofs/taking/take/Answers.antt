-- To take the turn keeps the rule, and then the slot has the table (`take`, src/taking.rt).
use Rattle.std.proofs.Common.{rules, ◌∷◌, Some, ap, ◌∙◌, sym}
use Rattle.atomic_table.specs.Table.{rest}
use Rattle.seat_table.proofs.Keeping.{takes_turn}
use Rattle.seat_table.proofs.taking.take.Goals as goal

pub compare_exchange-requires : goal.compare_exchange-requires
compare_exchange-requires g c = (search rules, search rules, takes_turn g.C.Turns.told g.C.Turns.reason _ _ _ c.requires.idle.0 c.requires.right.0 c.requires.right.1)

pub exchange-requires : goal.exchange-requires
exchange-requires g c = let got = c.compare_exchange.ensures.2.0 (search rules) in (search rules, (_, got.slot ∙ ap (λ l. (0, Some got.table) ∷ rest l) (sym got.slot)))
