-- An edit has one spelling: its numbers are read again from their bytes, and the edit from its
-- numbers. For OneSpelling, Read and the proof of `take_numbers` (src/reading.rt).
use Rattle.std.proofs.Common.{◌≡◌, ℕ, ℤ, pos, ◌^◌, ◌≤◌, ◌<◌, List, [], ◌∷◌, ◌++◌, length, take, drop, get_or, refl, sym, ◌∙◌, ap, subst, arith, true, false, Bool, Some, None, Option, suc, rules, append_assoc, length-drop, take-append-drop}
use Rattle.std.specs.Prelude.{◌==◌, FitsSigned, if◌then◌else◌}
use Rattle.std.specs.Option.{option_map}
use Rattle.std.specs.Ordering.{int_eq}
use Rattle.std.specs.Int.{w16, w64, cast_signed, cast_unsigned, from_be_bytes, to_be_bytes}
use Rattle.std.proofs.lemmas.Bool.{eqb-true}
use Rattle.std.proofs.lemmas.Bool.Decides.{nat_tests, Decides-int_eq}
use Rattle.std.proofs.lemmas.List.{get_or-take, length-take-le, drop-drop}
use Rattle.std.proofs.lemmas.Int.{to_z-of_z, of_z-to_z, fits_signed_from_abs}
use Rattle.std.proofs.lemmas.Nat.{from_be_bytes-to_be_bytes_2, from_be_bytes-to_be_bytes_8, be_bytes_2, be_bytes_8}
use Rattle.std.proofs.lemmas.Option.{cond_some, option_and_then_some, none-some, same_Some}
use Rattle.byteorder.specs.Endian.{big_bytes, big_number}
use Rattle.nc_number.specs.Position.{IsPosition, is_position}
use Rattle.nc_number.specs.Range.{InRange, is_in_range}
use Rattle.nc_number.specs.declared.point.Point.{Point}
use Rattle.nc_number.specs.declared.point.TheConstants.{TOOL_OFFSETS}
use Rattle.nc_number.specs.declared.value.Var.{Var}
use Rattle.nc_number.specs.declared.value.Var.TheVariants.{Vacant, Is}
use Rattle.offset_store.specs.Numbers.{is_between, work_number, tool_number}
use Rattle.offset_store.specs.Table.{offset_of}
use Rattle.offset_store.specs.declared.number.TheConstants.{LAST_WORK}
use Rattle.offset_store.specs.declared.slot.Slot.{Slot}
use Rattle.offset_store.specs.declared.slot.Slot.TheVariants.{Work, Geometry, Wear}
use Rattle.common_vars.specs.Common.{IsCommon, is_common, common_number}
use Rattle.run_records.specs.declared.edit.Edit.{Edit}
use Rattle.run_records.specs.declared.edit.Edit.TheVariants.{Offset, Common}
use Rattle.run_records.specs.declared.numbers.EditNumbers.{EditNumbers}
use Rattle.run_records.specs.Causes.{numbers_in}
use Rattle.run_records.specs.Edits.{IsSlot, IsVar, IsEdit, offset_numbers, variable_numbers, numbers_of, slot_of, var_of, offset_edit, variable_edit, edit_with}
use Rattle.run_records.specs.Spelling.{numbers_bytes}
use Rattle.run_records.proofs.Stamps.{fits_front, fits_back}

-- the numbers fit the bytes that a record has for them
pub record AreSpelled (numbers : EditNumbers) : Type 0 where
  -- the number of the offset or the variable fits two bytes
  pub number : numbers.number < 2 ^ 16
  -- the third number fits eight bytes
  pub a : FitsSigned w64 numbers.a
  -- the fourth number fits eight bytes
  pub b : FitsSigned w64 numbers.b

-- a number of two bytes is read again, whatever follows it
number_again : (n : ℕ) (rest : List ℕ) → n < 2 ^ 16 → big_number 2 (big_bytes 2 n ++ rest) ≡ n
number_again n rest fits =
    let same : big_number 2 (big_bytes 2 n ++ rest) ≡ from_be_bytes w16 (to_be_bytes w16 n) = omega arith in
    same ∙ from_be_bytes-to_be_bytes_2 n fits

-- a number of eight bytes is read again, whatever follows it
long_again : (n : ℕ) (rest : List ℕ) → n < 2 ^ 64 → big_number 8 (big_bytes 8 n ++ rest) ≡ n
long_again n rest fits =
    let same : big_number 8 (big_bytes 8 n ++ rest) ≡ from_be_bytes w64 (to_be_bytes w64 n) = omega arith in
    same ∙ from_be_bytes-to_be_bytes_8 n fits

-- a signed number of eight bytes is read again, whatever follows it
signed_again : (z : ℤ) (rest : List ℕ) → FitsSigned w64 z → cast_signed w64 (big_number 8 (big_bytes 8 (cast_unsigned w64 z) ++ rest)) ≡ z
signed_again z rest fits =
    let small : cast_unsigned w64 z < 2 ^ 64 = search rules in
    ap (cast_signed w64) (long_again (cast_unsigned w64 z) rest small) ∙ to_z-of_z w64 z fits

-- the numbers of an edit are read again from their bytes, whatever follows them
pub numbers_again : (numbers : EditNumbers) (rest : List ℕ) → AreSpelled numbers → numbers_in (numbers_bytes numbers ++ rest) ≡ numbers
numbers_again numbers rest are =
    let number = number_again numbers.number (big_bytes 8 (cast_unsigned w64 numbers.a) ++ big_bytes 8 (cast_unsigned w64 numbers.b) ++ rest) are.number in
    let a = signed_again numbers.a (big_bytes 8 (cast_unsigned w64 numbers.b) ++ rest) are.a in
    let b = signed_again numbers.b rest are.b in
    λ i. record { what = numbers.what; number = number i; a = a i; b = b i }

-- the numbers of an edit are few enough for their bytes
pub are_spelled : (edit : Edit) → IsEdit edit → AreSpelled (numbers_of edit)
are_spelled (Offset (Work n) to) is = record { number = omega (arith, is.0); a = fits_signed_from_abs w64 to.x (omega (arith, is.1.0)); b = fits_signed_from_abs w64 to.z (omega (arith, is.1.1)) }
are_spelled (Offset (Geometry n) to) is = record { number = omega (arith, is.0.1); a = fits_signed_from_abs w64 to.x (omega (arith, is.1.0)); b = fits_signed_from_abs w64 to.z (omega (arith, is.1.1)) }
are_spelled (Offset (Wear n) to) is = record { number = omega (arith, is.0.1); a = fits_signed_from_abs w64 to.x (omega (arith, is.1.0)); b = fits_signed_from_abs w64 to.z (omega (arith, is.1.1)) }
are_spelled (Common v Vacant) is = let common = is.0 in record { number = omega arith; a = fits_signed_from_abs w64 (pos 0) (omega arith); b = fits_signed_from_abs w64 (pos 0) (omega arith) }
are_spelled (Common v (Is value)) is = let common = is.0 in record { number = omega arith; a = fits_signed_from_abs w64 (pos 1) (omega arith); b = fits_signed_from_abs w64 value (omega (arith, is.1)) }

-- a number from low to high passes the test of that
is_between_true : (low high n : ℕ) → low ≤ n → n ≤ high → is_between low high (pos n) ≡ true
is_between_true low high n least most = grind (arith, nat_tests)

-- a position passes the test of a position
is_position_true : (to : Point) → IsPosition to → is_position to ≡ true
is_position_true to is = let x = is.0 in let z = is.1 in grind (arith, nat_tests)

-- the number of a common variable passes the test of one
is_common_true : (v : ℕ) → IsCommon v → is_common v ≡ true
is_common_true v is = grind (arith, nat_tests)

-- a value in range passes the test of the range
is_in_range_true : (value : ℤ) → InRange value → is_in_range value ≡ true
is_in_range_true value is = grind (arith, nat_tests)

-- an edit is read again from its numbers
pub edit_again : (edit : Edit) → IsEdit edit → edit_with (numbers_of edit) ≡ Some edit
edit_again (Offset (Work n) to) is =
    let there = is_between_true 0 LAST_WORK n (omega arith) is.0 in
    let point = is_position_true to is.1 in
    rw (there, point) refl
edit_again (Offset (Geometry n) to) is =
    let there = is_between_true 1 TOOL_OFFSETS n is.0.0 is.0.1 in
    let point = is_position_true to is.1 in
    rw (there, point) refl
edit_again (Offset (Wear n) to) is =
    let there = is_between_true 1 TOOL_OFFSETS n is.0.0 is.0.1 in
    let point = is_position_true to is.1 in
    rw (there, point) refl
edit_again (Common v Vacant) is = rw (is_common_true v is.0) refl
edit_again (Common v (Is value)) is = rw (is_common_true v is.0, is_in_range_true value is.1) refl

-- two edits whose bytes begin one list are the same, and what follows them is the same
pub one_edit : (edit other : Edit) (rest more : List ℕ) → IsEdit edit → IsEdit other → numbers_bytes (numbers_of edit) ++ rest ≡ numbers_bytes (numbers_of other) ++ more → (edit ≡ other) × (rest ≡ more)
one_edit edit other rest more is also same =
    let numbers : numbers_of edit ≡ numbers_of other =
    sym (numbers_again (numbers_of edit) rest (are_spelled edit is)) ∙ ap numbers_in same ∙ numbers_again (numbers_of other) more (are_spelled other also) in
    let some : Some edit ≡ Some other = sym (edit_again edit is) ∙ ap edit_with numbers ∙ edit_again other also in
    ((cond_some true edit other some).1, ap (drop 19) same)

-- ---- and back: what is read spells the same bytes

-- a number that passes the test of lying from low to high does
is_between_back : (low high n : ℕ) → is_between low high (pos n) ≡ true → (low ≤ n) × (n ≤ high)
is_between_back low high n test = grind (arith, nat_tests)

-- a number that passes the test of a common variable's number is one
is_common_back : (v : ℕ) → is_common v ≡ true → IsCommon v
is_common_back v test = grind (arith, nat_tests)

-- a count of millionths that passes the test of the range is in range
is_in_range_back : (value : ℤ) → is_in_range value ≡ true → InRange value
is_in_range_back value test = grind (arith, nat_tests)

-- if a map over an option gives something, the option had something
map_some : {A B : Type 0} (f : A → B) (o : Option A) (y : B) → option_map f o ≡ Some y → (x : A) × (o ≡ Some x) × (f x ≡ y)
map_some f None y is = absurd (none-some y is)
map_some f (Some x) y is = (x, refl, same_Some (f x) y is)

-- the slot is there, and its numbers are these two
abbrev SlotSpells : ℕ → ℕ → Slot → Type 0
SlotSpells what number slot = IsSlot slot × ((to : Point) → offset_numbers slot to ≡ record { what = what; number = number; a = to.x; b = to.z })

-- the two numbers that name a wear offset (3) are those of the slot
wear_back : (what number : ℕ) (slot : Slot) (t : Bool) → (what == 3) ≡ t → (if t then option_map Wear (tool_number (pos number)) else None) ≡ Some slot → SlotSpells what number slot
wear_back what number slot true e is =
    let given = map_some Wear (tool_number (pos number)) slot is in
    let tested = cond_some (is_between 1 TOOL_OFFSETS (pos number)) number given.0 given.1 in
    let what_is : 3 ≡ what = sym (eqb-true what 3 e) in
    subst (SlotSpells what number) (ap Wear tested.1 ∙ given.2) (is_between_back 1 TOOL_OFFSETS number tested.0, λ to i. record { what = what_is i; number = number; a = to.x; b = to.z })
wear_back what number slot false e is = absurd (none-some slot is)

-- the two numbers that name a geometry offset (2) or a wear offset are those of the slot
geometry_back : (what number : ℕ) (slot : Slot) (t : Bool) → (what == 2) ≡ t
    → (if t then option_map Geometry (tool_number (pos number)) else if what == 3 then option_map Wear (tool_number (pos number)) else None) ≡ Some slot → SlotSpells what number slot
geometry_back what number slot true e is =
    let given = map_some Geometry (tool_number (pos number)) slot is in
    let tested = cond_some (is_between 1 TOOL_OFFSETS (pos number)) number given.0 given.1 in
    let what_is : 2 ≡ what = sym (eqb-true what 2 e) in
    subst (SlotSpells what number) (ap Geometry tested.1 ∙ given.2) (is_between_back 1 TOOL_OFFSETS number tested.0, λ to i. record { what = what_is i; number = number; a = to.x; b = to.z })
geometry_back what number slot false e is = wear_back what number slot (what == 3) refl is

-- the two numbers that name any offset, 1 to 3, are those of the slot
work_back : (what number : ℕ) (slot : Slot) (t : Bool) → (what == 1) ≡ t
    → (if t then option_map Work (work_number (pos number)) else if what == 2 then option_map Geometry (tool_number (pos number)) else if what == 3 then option_map Wear (tool_number (pos number)) else None) ≡ Some slot
    → SlotSpells what number slot
work_back what number slot true e is =
    let given = map_some Work (work_number (pos number)) slot is in
    let tested = cond_some (is_between 0 LAST_WORK (pos number)) number given.0 given.1 in
    let what_is : 1 ≡ what = sym (eqb-true what 1 e) in
    subst (SlotSpells what number) (ap Work tested.1 ∙ given.2) ((is_between_back 0 LAST_WORK number tested.0).1, λ to i. record { what = what_is i; number = number; a = to.x; b = to.z })
work_back what number slot false e is = geometry_back what number slot (what == 2) refl is

-- a variable may be this, and a and b say it
abbrev VarSpells : ℤ → ℤ → Var → Type 0
VarSpells a b to = IsVar to × ((variable : ℕ) → variable_numbers variable to ≡ record { what = 4; number = variable; a = a; b = b })

-- the last two numbers of an edit, of which the first is 1, say the value that they give
value_back : (a b : ℤ) (to : Var) (t : Bool) → int_eq a (pos 1) ≡ t → (if t then (if is_in_range b then Some (Is b) else None) else None) ≡ Some to → VarSpells a b to
value_back a b to true e is =
    let tested = cond_some (is_in_range b) (Is b) to is in
    let a_is : pos 1 ≡ a = sym ((Decides-int_eq a (pos 1)).0 e) in
    subst (VarSpells a b) tested.1 (is_in_range_back b tested.0, λ variable i. record { what = 4; number = variable; a = a_is i; b = b })
value_back a b to false e is = absurd (none-some to is)

-- the last two numbers of an edit say what they give a variable
var_back : (a b : ℤ) (to : Var) (t : Bool) → int_eq a (pos 0) ≡ t
    → (if t then (if int_eq b (pos 0) then Some Vacant else None) else if int_eq a (pos 1) then (if is_in_range b then Some (Is b) else None) else None) ≡ Some to → VarSpells a b to
var_back a b to true e is =
    let tested = cond_some (int_eq b (pos 0)) Vacant to is in
    let a_is : pos 0 ≡ a = sym ((Decides-int_eq a (pos 0)).0 e) in
    let b_is : pos 0 ≡ b = sym ((Decides-int_eq b (pos 0)).0 tested.0) in
    subst (VarSpells a b) tested.1 (tt, λ variable i. record { what = 4; number = variable; a = a_is i; b = b_is i })
var_back a b to false e is = value_back a b to (int_eq a (pos 1)) refl is

-- the edit is one that may be, and these are its numbers
abbrev pub Gives : EditNumbers → Edit → Type 0
Gives numbers edit = (numbers_of edit ≡ numbers) × IsEdit edit

-- an edit of an offset has the numbers that gave it
offset_back : (numbers : EditNumbers) (edit : Edit) → offset_edit numbers ≡ Some edit → Gives numbers edit
offset_back numbers edit is =
    let to : Point = record { x = numbers.a; z = numbers.b } in
    option_and_then_some (λ slot. option_map (Offset slot) (offset_of to)) (slot_of numbers.what numbers.number) edit is (λ slot found made.
    let slot_is = work_back numbers.what numbers.number slot (numbers.what == 1) refl found in
    let given = map_some (Offset slot) (offset_of to) edit made in
    let tested = cond_some (is_position to) to given.0 given.1 in
    let edit_is : Offset slot to ≡ edit = ap (Offset slot) tested.1 ∙ given.2 in
    let within : is_position to ≡ true = tested.0 in
    subst (Gives numbers) edit_is (slot_is.1 to, (slot_is.0, grind (arith, nat_tests))))

-- an edit of a variable (4) has the numbers that gave it
variable_back : (numbers : EditNumbers) (edit : Edit) → numbers.what ≡ 4 → variable_edit numbers ≡ Some edit → Gives numbers edit
variable_back numbers edit what is =
    option_and_then_some (λ variable. option_map (Common variable) (var_of numbers.a numbers.b)) (common_number numbers.number) edit is (λ variable found made.
    let common = cond_some (is_common numbers.number) numbers.number variable found in
    let given = map_some (Common variable) (var_of numbers.a numbers.b) edit made in
    let to_is = var_back numbers.a numbers.b given.0 (int_eq numbers.a (pos 0)) refl given.1 in
    let edit_is : Common numbers.number given.0 ≡ edit = ap (λ v. Common v given.0) common.1 ∙ given.2 in
    let what_is = sym what in
    subst (Gives numbers) edit_is (to_is.1 numbers.number ∙ (λ i. record { what = what_is i; number = numbers.number; a = numbers.a; b = numbers.b }), (is_common_back numbers.number common.0, to_is.0)))

-- the numbers that an edit is read from are its numbers
pub edit_back : (numbers : EditNumbers) (edit : Edit) → edit_with numbers ≡ Some edit → Gives numbers edit
edit_back numbers edit is = go (numbers.what == 4) refl is
  where
    go : (t : Bool) → (numbers.what == 4) ≡ t → (if t then variable_edit numbers else offset_edit numbers) ≡ Some edit → Gives numbers edit
    go true e is = variable_back numbers edit (eqb-true numbers.what 4 e) is
    go false e is = offset_back numbers edit is

-- two bytes that are read as a number spell it
number_read : (bytes : List ℕ) → 2 ≤ length bytes → ((i : ℕ) → get_or bytes i 0 < 256) → big_bytes 2 (big_number 2 bytes) ≡ take 2 bytes
number_read bytes long fits =
    let same : big_number 2 bytes ≡ from_be_bytes w16 (take 2 bytes) = omega (arith, get_or-take 2 bytes 0 0 (omega arith), get_or-take 2 bytes 1 0 (omega arith)) in
    be_bytes_2 (take 2 bytes) (big_number 2 bytes) (omega (arith, length-take-le 2 bytes long)) (fits_front bytes 2 fits) same

-- eight bytes that are read as a number spell it
long_read : (bytes : List ℕ) → 8 ≤ length bytes → ((i : ℕ) → get_or bytes i 0 < 256) → big_bytes 8 (big_number 8 bytes) ≡ take 8 bytes
long_read bytes long fits =
    let front : (i : ℕ) → i < 8 → get_or (take 8 bytes) i 0 ≡ get_or bytes i 0 = λ i within. get_or-take 8 bytes i 0 within in
    let same : big_number 8 bytes ≡ from_be_bytes w64 (take 8 bytes) = omega (arith, front 0 (omega arith), front 1 (omega arith), front 2 (omega arith), front 3 (omega arith), front 4 (omega arith), front 5 (omega arith), front 6 (omega arith), front 7 (omega arith)) in
    be_bytes_8 (take 8 bytes) (big_number 8 bytes) (omega (arith, length-take-le 8 bytes long)) (fits_front bytes 8 fits) same

-- eight bytes that are read as a signed number spell it
signed_read : (bytes : List ℕ) → 8 ≤ length bytes → ((i : ℕ) → get_or bytes i 0 < 256) → big_bytes 8 (cast_unsigned w64 (cast_signed w64 (big_number 8 bytes))) ≡ take 8 bytes
signed_read bytes long fits =
    let small : big_number 8 bytes < 2 ^ 64 = omega (arith, fits 0, fits 1, fits 2, fits 3, fits 4, fits 5, fits 6, fits 7) in
    ap (big_bytes 8) (of_z-to_z w64 (big_number 8 bytes) small) ∙ long_read bytes long fits

-- the numbers that bytes are read as spell the bytes
pub numbers_read : (bytes : List ℕ) → 19 ≤ length bytes → ((i : ℕ) → get_or bytes i 0 < 256) → numbers_bytes (numbers_in bytes) ++ drop 19 bytes ≡ bytes
numbers_read [] long fits = absurd (omega arith)
numbers_read (what ∷ bytes) long fits =
    let behind : (i : ℕ) → get_or bytes i 0 < 256 = λ i. fits (suc i) in
    let number = number_read bytes (omega (arith, long)) behind in
    let a = signed_read (drop 2 bytes) (omega (arith, long, length-drop 2 bytes)) (fits_back bytes 2 behind) in
    let b = signed_read (drop 10 bytes) (omega (arith, long, length-drop 10 bytes)) (fits_back bytes 10 behind) in
    let last : take 8 (drop 10 bytes) ++ drop 18 bytes ≡ drop 10 bytes = ap (λ (l : List ℕ). take 8 (drop 10 bytes) ++ l) (sym (drop-drop 8 10 bytes)) ∙ take-append-drop 8 (drop 10 bytes) in
    let middle : take 8 (drop 2 bytes) ++ drop 10 bytes ≡ drop 2 bytes = ap (λ (l : List ℕ). take 8 (drop 2 bytes) ++ l) (sym (drop-drop 8 2 bytes)) ∙ take-append-drop 8 (drop 2 bytes) in
    ap (λ (l : List ℕ). what ∷ l) (
    (λ i. (number i ++ (a i ++ b i)) ++ drop 18 bytes)
    ∙ append_assoc (take 2 bytes) (take 8 (drop 2 bytes) ++ take 8 (drop 10 bytes)) (drop 18 bytes)
    ∙ ap (λ (l : List ℕ). take 2 bytes ++ l) (append_assoc (take 8 (drop 2 bytes)) (take 8 (drop 10 bytes)) (drop 18 bytes) ∙ ap (λ (l : List ℕ). take 8 (drop 2 bytes) ++ l) last ∙ middle)
    ∙ take-append-drop 2 bytes)
