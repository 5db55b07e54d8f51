-- The code of an expression reads the variables that the expression names: for `names`
-- (src/naming.rt), which looks through codes.
use Rattle.std.proofs.Common.{◌≡◌, ℕ, ◌||◌, Bool, true, false, List, [], ◌∷◌, refl, ap, ◌∙◌}
use Rattle.nc_number.proofs.Bools.{or_true, or_false}
use Rattle.macro_expr.specs.Tree.{Tree, Number, Variable, VariableOf, Signed, Applied, Joined}
use Rattle.macro_eval.specs.declared.code.Instr.{Instr}
use Rattle.macro_eval.specs.declared.code.Instr.TheVariants as instr
use Rattle.macro_eval.specs.Postfix.{code_before, postfix}
use Rattle.named_vars.specs.Names.{names}
use Rattle.race_report.specs.Reads.{some_read}

-- of three answers, whether one is yes may be asked in either bracketing
or_assoc : (a b c : Bool) → (a || (b || c)) ≡ ((a || b) || c)
or_assoc true b c = refl
or_assoc false b c = refl

-- the code of an expression before another code reads what the expression names or the other code
-- reads
read_before : (t : Tree) (code : List Instr) (v : ℕ) → some_read (code_before t code) v ≡ (names t v || some_read code v)
read_before (Number z) code v = refl
read_before (Variable n) code v = refl
read_before (VariableOf e) code v = read_before e (instr.LookUp ∷ code) v ∙ or_true (names e v)
read_before (Signed minus e) code v = read_before e (instr.Sign minus ∷ code) v
read_before (Applied f e) code v = read_before e (instr.Call f ∷ code) v
read_before (Joined op a b) code v =
    read_before a (code_before b (instr.Join op ∷ code)) v
    ∙ (ap (λ x. names a v || x) (read_before b (instr.Join op ∷ code) v)
    ∙ or_assoc (names a v) (names b v) (some_read code v))

-- the code of an expression reads the variables that it names
pub tree_reads : (t : Tree) (v : ℕ) → some_read (postfix t) v ≡ names t v
tree_reads t v = read_before t [] v ∙ or_false (names t v)
