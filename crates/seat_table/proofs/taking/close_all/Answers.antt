-- Each of the three joins keeps the rule, and then the slot has the table with the tellings and
-- stops that the seats know (`close_all`, src/taking.rt).
use Rattle.std.proofs.Common.{rules, ◌≡◌, is_some, true≢false, ap, ◌∙◌, sym}
use mathlib.Core.Option.{some-injective}
use Rattle.nc_number.specs.declared.path.Path.TheVariants.{One, Two}
use Rattle.seat_table.specs.Knowing.{joined_knowledge}
use Rattle.seat_table.proofs.Keeping.{glues, ends_joined, same_held, stills}
use Rattle.seat_table.proofs.taking.close_all.Goals as goal

pub join_seat-requires : goal.join_seat-requires
join_seat-requires g c = (search rules, search rules, search rules, search rules, glues g.C.Turns.told g.C.Turns.reason _ _ _ _ (search rules) (search rules))

pub join_seat-requires-2 : goal.join_seat-requires-2
join_seat-requires-2 g c = (search rules, search rules, search rules, search rules, glues g.C.Turns.told g.C.Turns.reason _ _ _ _ (ap (λ m. m.0.busy) c.join_seat.ensures.2) (search rules))

pub join_seat-requires-3 : goal.join_seat-requires-3
join_seat-requires-3 g c = (search rules, search rules, search rules, search rules, glues g.C.Turns.told g.C.Turns.reason _ _ _ _ (ap (λ m. m.0.busy) c.join_seat-2.ensures.2) (search rules))

pub unreachable-requires : goal.unreachable-requires
unreachable-requires g c = let e1 = ap (λ m. m.0) c.join_seat.ensures.2 in let e2 = ap (λ m. m.0) c.join_seat-2.ensures.2 ∙ ap (λ x. joined_knowledge x c.args.first_halt.me.0) e1 in
    let e3 = ap (λ m. m.0) c.join_seat-3.ensures.2 ∙ ap (λ x. joined_knowledge x c.args.second_halt.me.0) e2 in
    let t = ends_joined g.C.Turns.told g.C.Turns.reason _ _ c.args.first.me.0 c.args.second.me.0 c.args.first_halt.me.0 c.args.second_halt.me.0 _ _ e3
    c.requires.paths.0.2 c.requires.paths.1.2 c.requires.halts.0.2 c.requires.halts.1.2 c.close_with-closed.ensures.values.2 in
    true≢false (ap is_some (some-injective _ _ (sym t.1 ∙ c.take-slot.ensures.value) ∙ c.in_default.is))

pub returns-clause-first : goal.returns-clause-first
returns-clause-first g c = let e1 = ap (λ m. m.0) c.join_seat.ensures.2 in let e2 = ap (λ m. m.0) c.join_seat-2.ensures.2 ∙ ap (λ x. joined_knowledge x c.args.first_halt.me.0) e1 in
    let e3 = ap (λ m. m.0) c.join_seat-3.ensures.2 ∙ ap (λ x. joined_knowledge x c.args.second_halt.me.0) e2 in
    let t = ends_joined g.C.Turns.told g.C.Turns.reason _ _ c.args.first.me.0 c.args.second.me.0 c.args.first_halt.me.0 c.args.second_halt.me.0 _ _ e3
    c.requires.paths.0.2 c.requires.paths.1.2 c.requires.halts.0.2 c.requires.halts.1.2 c.close_with-closed.ensures.values.2 in
    let same : t.0 ≡ c.in-Some.held = same_held t.0 c.in-Some.held (some-injective _ _ (sym t.1 ∙ c.take-slot.ensures.value) ∙ c.in-Some.is) in
    ap (λ x. g.C.Turns.told x One) (sym same) ∙ t.2

pub returns-clause-second : goal.returns-clause-second
returns-clause-second g c = let e1 = ap (λ m. m.0) c.join_seat.ensures.2 in let e2 = ap (λ m. m.0) c.join_seat-2.ensures.2 ∙ ap (λ x. joined_knowledge x c.args.first_halt.me.0) e1 in
    let e3 = ap (λ m. m.0) c.join_seat-3.ensures.2 ∙ ap (λ x. joined_knowledge x c.args.second_halt.me.0) e2 in
    let t = ends_joined g.C.Turns.told g.C.Turns.reason _ _ c.args.first.me.0 c.args.second.me.0 c.args.first_halt.me.0 c.args.second_halt.me.0 _ _ e3
    c.requires.paths.0.2 c.requires.paths.1.2 c.requires.halts.0.2 c.requires.halts.1.2 c.close_with-closed.ensures.values.2 in
    let same : t.0 ≡ c.in-Some.held = same_held t.0 c.in-Some.held (some-injective _ _ (sym t.1 ∙ c.take-slot.ensures.value) ∙ c.in-Some.is) in
    ap (λ x. g.C.Turns.told x Two) (sym same) ∙ t.3

pub returns-clause-stops : goal.returns-clause-stops
returns-clause-stops g c = let e1 = ap (λ m. m.0) c.join_seat.ensures.2 in let e2 = ap (λ m. m.0) c.join_seat-2.ensures.2 ∙ ap (λ x. joined_knowledge x c.args.first_halt.me.0) e1 in
    let e3 = ap (λ m. m.0) c.join_seat-3.ensures.2 ∙ ap (λ x. joined_knowledge x c.args.second_halt.me.0) e2 in
    let t = ends_joined g.C.Turns.told g.C.Turns.reason _ _ c.args.first.me.0 c.args.second.me.0 c.args.first_halt.me.0 c.args.second_halt.me.0 _ _ e3
    c.requires.paths.0.2 c.requires.paths.1.2 c.requires.halts.0.2 c.requires.halts.1.2 c.close_with-closed.ensures.values.2 in
    let same : t.0 ≡ c.in-Some.held = same_held t.0 c.in-Some.held (some-injective _ _ (sym t.1 ∙ c.take-slot.ensures.value) ∙ c.in-Some.is) in
    let all = stills g.C.Turns.told g.C.Turns.reason t.0 c.in-Some.held same c.args.first.me.0.stops c.args.second.me.0.stops c.args.first_halt.me.0.stops c.args.second_halt.me.0.stops t.4 in
    (all.0, all.1)

pub returns-clause-halts : goal.returns-clause-halts
returns-clause-halts g c = let e1 = ap (λ m. m.0) c.join_seat.ensures.2 in let e2 = ap (λ m. m.0) c.join_seat-2.ensures.2 ∙ ap (λ x. joined_knowledge x c.args.first_halt.me.0) e1 in
    let e3 = ap (λ m. m.0) c.join_seat-3.ensures.2 ∙ ap (λ x. joined_knowledge x c.args.second_halt.me.0) e2 in
    let t = ends_joined g.C.Turns.told g.C.Turns.reason _ _ c.args.first.me.0 c.args.second.me.0 c.args.first_halt.me.0 c.args.second_halt.me.0 _ _ e3
    c.requires.paths.0.2 c.requires.paths.1.2 c.requires.halts.0.2 c.requires.halts.1.2 c.close_with-closed.ensures.values.2 in
    let same : t.0 ≡ c.in-Some.held = same_held t.0 c.in-Some.held (some-injective _ _ (sym t.1 ∙ c.take-slot.ensures.value) ∙ c.in-Some.is) in
    let all = stills g.C.Turns.told g.C.Turns.reason t.0 c.in-Some.held same c.args.first.me.0.stops c.args.second.me.0.stops c.args.first_halt.me.0.stops c.args.second_halt.me.0.stops t.4 in
    (all.2, all.3)
