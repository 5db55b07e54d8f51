-- Where two moved lines meet; no number is too large (`wide_meeting`, src/meeting.rt).
use Rattle.std.proofs.Common.{◌≡◌, ℕ, ◌≤◌, ◌*◌, ◌+ℤ◌, pos, ◌∙◌, ap, subst, sym, refl, unsigned_abs, arith}
use Rattle.plane_ways.specs.declared.place.Place.{Place}
use Rattle.plane_ways.specs.declared.meeting.Meeting.{Meeting}
use Rattle.plane_ways.specs.Plane.{dot, IsWithin}
use Rattle.plane_ways.specs.Steps.{length_of}
use Rattle.plane_ways.proofs.Directions.{side_within, multiple_within, plus_within, wider, parts_are, parts_small, parts_fit, dot_small}
use Rattle.plane_ways.proofs.meeting.wide_meeting.Goals as goal

same_meeting : (a b : Place) (n k : ℕ) → a ≡ b → n ≡ k → ◌≡◌ {A = Meeting} (record { by = a; parts = n }) (record { by = b; parts = k })
same_meeting a b n k by parts = rw (by, parts) refl

pub plus-by-requires-clause-p : goal.plus-by-requires-clause-p
plus-by-requires-clause-p c = wider 2000000000000000000000000 10000000000000000000000000 c.times-d_side.result (omega arith)
    (multiple_within c.length-e_length.result c.turned.result c.times-d_side.result c.length-e_length.ensures.bound (side_within c.args.side c.args.d.now c.turned.result c.requires.d c.turned.ensures) c.times-d_side.ensures)

pub plus-by-requires-clause-q : goal.plus-by-requires-clause-q
plus-by-requires-clause-q c = wider 2000000000000000000000000 10000000000000000000000000 c.times-e_side.result (omega arith)
    (multiple_within c.length-d_length.result c.turned-2.result c.times-e_side.result c.length-d_length.ensures.bound (side_within c.args.side c.args.e.now c.turned-2.result c.requires.e c.turned-2.ensures) c.times-e_side.ensures)

pub overflow_add-parts : goal.overflow_add-parts
overflow_add-parts c = parts_fit c.area.result c.dot.result (rw c.area.ensures.area c.area.ensures.bound) (rw c.dot.ensures (dot_small c.args.d.now c.args.e.now c.requires.d c.requires.e))

pub returns-clause-within : goal.returns-clause-within
returns-clause-within c =
    let d = multiple_within c.length-e_length.result c.turned.result c.times-d_side.result c.length-e_length.ensures.bound (side_within c.args.side c.args.d.now c.turned.result c.requires.d c.turned.ensures) c.times-d_side.ensures in
    let e = multiple_within c.length-d_length.result c.turned-2.result c.times-e_side.result c.length-d_length.ensures.bound (side_within c.args.side c.args.e.now c.turned-2.result c.requires.e c.turned-2.ensures) c.times-e_side.ensures in
    let sum = plus_within 2000000000000000000000000 2000000000000000000000000 c.times-d_side.result c.times-e_side.result d e in
    wider 4000000000000000000000000 10000000000000000000000000 c.plus-by.result (omega arith) (subst (IsWithin 4000000000000000000000000) (sym c.plus-by.ensures) sum)

pub returns-clause-room : goal.returns-clause-room
returns-clause-room c =
    let a : unsigned_abs c.area.result ≤ 4000000000000000000000000 = rw c.area.ensures.area c.area.ensures.bound in
    let b : unsigned_abs c.dot.result ≤ 2000000000000000000000000 = rw c.dot.ensures (dot_small c.args.d.now c.args.e.now c.requires.d c.requires.e) in
    let sum = parts_are c.area.result c.dot.result a b in
    let near : unsigned_abs (c.area.result +ℤ c.dot.result) ≤ 10000000000000000000000000 = parts_small c.area.result c.dot.result a b in
    rw c.unsigned_abs.ensures.value (rw sum near)

pub returns-clause-meeting : goal.returns-clause-meeting
returns-clause-meeting c =
    let a : unsigned_abs c.area.result ≤ 4000000000000000000000000 = rw c.area.ensures.area c.area.ensures.bound in
    let b : unsigned_abs c.dot.result ≤ 2000000000000000000000000 = rw c.dot.ensures (dot_small c.args.d.now c.args.e.now c.requires.d c.requires.e) in
    let sum = parts_are c.area.result c.dot.result a b in
    let parts : c.unsigned_abs.result ≡ unsigned_abs (pos (length_of c.args.d.now * length_of c.args.e.now) +ℤ dot c.args.d.now c.args.e.now) =
    c.unsigned_abs.ensures.value ∙ ap unsigned_abs sum ∙ rw (c.area.ensures.area, c.dot.ensures, c.length-d_length.ensures.length, c.length-e_length.ensures.length) refl in
    same_meeting _ _ _ _ (c.plus-by.ensures ∙ rw (c.times-d_side.ensures, c.times-e_side.ensures, c.turned.ensures, c.turned-2.ensures, c.length-d_length.ensures.length, c.length-e_length.ensures.length) refl) parts
