-- The effect of a plain block, step by step.
use Rattle.std.proofs.Common.{◌≡◌, ℕ, Bool, true, false, List, [], ◌∷◌, ◌++◌, Option, Some, None, Result, ℤ, pos, ◌*ℤ◌, ◌-ℤ◌, unsigned_abs, ◌≤◌, refl, if◌then◌else◌, arith}
use Rattle.std.proofs.lemmas.Int.{ints}
use Rattle.std.specs.Int.{is_negative}
use Rattle.nc_number.specs.Arithmetic.{nearest_quotient}
use Rattle.nc_number.proofs.NearestQuotient.{quotient_is_near}
use Rattle.nc_number.specs.declared.value.Var.{Var}
use Rattle.nc_number.specs.declared.value.Var.TheVariants.{Vacant, Is}
use Rattle.macro_eval.specs.declared.scope.Look.{Look}
use Rattle.macro_eval.specs.declared.scope.VarFault.{VarFault}
use Rattle.code_tables.specs.declared.system.System.{System}
use Rattle.code_tables.specs.declared.system.System.TheVariants as system
use Rattle.code_tables.specs.declared.row.Row.{Row}
use Rattle.code_tables.specs.declared.kind.CodeKind.TheVariants as kind
use Rattle.block_words.specs.declared.purpose.Purpose.TheVariants.{Other}
use Rattle.block_words.specs.declared.dialect.Dialect.{Dialect}
use Rattle.block_words.specs.Codes.{rows, purpose_of}
use Rattle.block_values.specs.Outcomes.{Gives}
use Rattle.block_values.specs.Values.{Values, nothing_said, words_with}
use Rattle.rough_cycle.specs.declared.block.PlainBlock.{PlainBlock}
use Rattle.plain_runs.specs.Runs.{code_word, axis_words, feed_words, words_of_plain}

-- a length that was written with three decimals is that length
length-said : (at : ℤ) → nearest_quotient (at *ℤ pos 1000) (pos 1000) ≡ at
length-said at =
    let zero : unsigned_abs (at *ℤ pos 1000 -ℤ at *ℤ pos 1000) ≡ 0 = omega (arith, ints) in
    let near : unsigned_abs (at *ℤ pos 1000 -ℤ nearest_quotient (at *ℤ pos 1000) (pos 1000) *ℤ pos 1000) ≤ unsigned_abs (at *ℤ pos 1000 -ℤ at *ℤ pos 1000) =
    quotient_is_near (at *ℤ pos 1000) (pos 1000) at (λ e. cc) in
    omega (arith, ints, zero, near)

-- the row of G01 or G00
abbrev pub row_of : Bool → Row
row_of cuts = if cuts then record { code = 1; group = 1; kind = kind.Feed } else record { code = 0; group = 1; kind = kind.Rapid }

-- the codes of a plain block
pub codes-said : (s : System) (feed : ℤ) (b : PlainBlock) → rows s (words_of_plain feed b) ≡ row_of b.cuts ∷ []
codes-said s feed b = go s b.cuts b.x b.z
  where
    go : (s : System) (cuts : Bool) (x z : Option ℤ)
        → rows s (code_word cuts ∷ (axis_words 88 x ++ (axis_words 90 z ++ feed_words cuts feed))) ≡ row_of cuts ∷ []
    go system.A true None None = refl
    go system.A true (Some x) None = refl
    go system.A true None (Some z) = refl
    go system.A true (Some x) (Some z) = refl
    go system.A false None None = refl
    go system.A false (Some x) None = refl
    go system.A false None (Some z) = refl
    go system.A false (Some x) (Some z) = refl
    go system.B true None None = refl
    go system.B true (Some x) None = refl
    go system.B true None (Some z) = refl
    go system.B true (Some x) (Some z) = refl
    go system.B false None None = refl
    go system.B false (Some x) None = refl
    go system.B false None (Some z) = refl
    go system.B false (Some x) (Some z) = refl

-- what a plain block says
abbrev pub plain_values : ℤ → PlainBlock → Values
plain_values feed b = record nothing_said { x = b.x; z = b.z; feed = if b.cuts then Is feed else Vacant }

-- its words say so
pub values-said : (table : ℕ → Result Look VarFault) (arc setting : Bool) (feed : ℤ) (b : PlainBlock) (reads : List Var)
    → is_negative feed ≡ false
    → words_with table (record { purpose = Other; arc = arc; setting = setting }) (words_of_plain feed b) nothing_said reads
    ≡ Gives (plain_values feed b) reads
values-said table arc setting feed b reads positive = go b.cuts b.x b.z
  where
    go : (cuts : Bool) (x z : Option ℤ)
        → words_with table (record { purpose = Other; arc = arc; setting = setting })
        (code_word cuts ∷ (axis_words 88 x ++ (axis_words 90 z ++ feed_words cuts feed))) nothing_said reads
        ≡ Gives (record nothing_said { x = x; z = z; feed = if cuts then Is feed else Vacant }) reads
    go true None None = rw positive refl
    go true (Some x) None = rw (positive, length-said x) refl
    go true None (Some z) = rw (positive, length-said z) refl
    go true (Some x) (Some z) = rw (positive, length-said x, length-said z) refl
    go false None None = refl
    go false (Some x) None = rw (length-said x) refl
    go false None (Some z) = rw (length-said z) refl
    go false (Some x) (Some z) = rw (length-said x, length-said z) refl

-- the purpose of a plain block is none of the others
pub purpose-said : (d : Dialect) (feed : ℤ) (b : PlainBlock) → purpose_of d (words_of_plain feed b) ≡ Other
purpose-said d feed b = go d.system b.cuts b.x b.z
  where
    go : (s : System) (cuts : Bool) (x z : Option ℤ)
        → purpose_of (record d { system = s }) (code_word cuts ∷ (axis_words 88 x ++ (axis_words 90 z ++ feed_words cuts feed))) ≡ Other
    go system.A true None None = refl
    go system.A true (Some x) None = refl
    go system.A true None (Some z) = refl
    go system.A true (Some x) (Some z) = refl
    go system.A false None None = refl
    go system.A false (Some x) None = refl
    go system.A false None (Some z) = refl
    go system.A false (Some x) (Some z) = refl
    go system.B true None None = refl
    go system.B true (Some x) None = refl
    go system.B true None (Some z) = refl
    go system.B true (Some x) (Some z) = refl
    go system.B false None None = refl
    go system.B false (Some x) None = refl
    go system.B false None (Some z) = refl
    go system.B false (Some x) (Some z) = refl
