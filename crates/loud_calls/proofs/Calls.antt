-- Calls of loud programs, which have a wait or an end or call one that has, and what is known of
-- them. For the proof of src/calling.rt (`ready_by`).
use Rattle.std.proofs.Common.{◌≡◌, ℕ, zero, suc, ◌<◌, true, List, Option, Some, refl, sym, subst, ◌∙◌, arith}
use Rattle.block_order.specs.declared.control.Control.{Control}
use Rattle.block_order.specs.declared.control.Control.TheVariants.{Call}
use Rattle.block_order.specs.declared.program.ControlProgram.{ControlProgram}
use Rattle.block_order.specs.Loud.{loud}
use Rattle.loud_calls.specs.Calls.{IsShort, IsCallOf, IsReady}

-- A block calls one program only.
one_call : (tape : List ControlProgram) (control : Control) (p q : ℕ) → IsCallOf tape control p → IsCallOf tape control q → p ≡ q
one_call tape control p q a b = let e : Call p a.repeats ≡ Call q b.repeats = sym a.is ∙ b.is in cc

-- A block that calls a loud program at least once is a call of it.
pub call_of : (tape : List ControlProgram) (q r : ℕ) → loud tape q ≡ true → 0 < r → IsCallOf tape (Call q r) q
call_of tape q r noisy some = record { repeats = r; is = refl; some = some; is_loud = noisy }

-- If the piece of the program that a block calls is kept, the block is ready to be read.
pub ready_by : {P : Type 0} (tape : List ControlProgram) (known : ℕ → Option P) (control : Control) (p : ℕ) (piece : P)
    → IsCallOf tape control p → known p ≡ Some piece → IsReady tape known control
ready_by tape known control p piece call is = λ q other.
    (piece, subst (λ k. known k ≡ Some piece) (one_call tape control p q call other) is)

-- If no chain of n calls of loud programs begins in a program, n is not 0, as a chain of no calls
-- begins in each program.
pub short_some : (tape : List ControlProgram) (n p : ℕ) → IsShort tape n p → 0 < n
short_some tape zero p short = absurd (short tt)
short_some tape (suc n) p short = omega arith
