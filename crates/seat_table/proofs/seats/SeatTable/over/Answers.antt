-- The new table has the rule, each of the three cuts keeps it, and a slot that comes back has the
-- table (`SeatTable::over`, src/seats.rt).
use Rattle.std.proofs.Common.{rules, [], ◌∷◌, sym, subst, ◌∙◌}
use Rattle.atomic_table.specs.Table.{opening}
use Rattle.seat_table.specs.Knowing.{first_knowledge, Kept}
use Rattle.seat_table.proofs.Keeping.{starts, cuts_two, cuts_three, cuts_four}
use Rattle.seat_table.proofs.seats.SeatTable.over.Goals as goal

pub new-requires : goal.new-requires
new-requires g c = subst (λ xs. Kept (λ b. g.C.Turns.told b.value) (λ b. g.C.Turns.reason b.value) (opening (0 ∷ 0 ∷ 0 ∷ []) xs first_knowledge)) (sym c.in_ok-slots.ensures.ok) (starts (λ b. g.C.Turns.told b.value) (λ b. g.C.Turns.reason b.value) c.args.table c.requires)

pub split_seat-second-requires : goal.split_seat-second-requires
split_seat-second-requires g c = (search rules, search rules, cuts_two (λ b. g.C.Turns.told b.value) (λ b. g.C.Turns.reason b.value) _ _ (search rules))

pub split_seat-first_halt-requires : goal.split_seat-first_halt-requires
split_seat-first_halt-requires g c = (search rules, search rules, cuts_three (λ b. g.C.Turns.told b.value) (λ b. g.C.Turns.reason b.value) _ _ (search rules))

pub split_seat-second_halt-requires : goal.split_seat-second_halt-requires
split_seat-second_halt-requires g c = (search rules, search rules, cuts_four (λ b. g.C.Turns.told b.value) (λ b. g.C.Turns.reason b.value) _ _ (search rules))

pub take_out-requires : goal.take_out-requires
take_out-requires g c = (c.args.table, c.in-Err.ensures.err ∙ c.in_ok-slots.ensures.ok)
