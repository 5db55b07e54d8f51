-- Chains of calls of loud programs, which have a wait or an end or call one that has, and the
-- frames of a place: the open programs of a path, the running one first. For KeepsLabels.
use Rattle.std.proofs.Common.{◌≡◌, ◌≢◌, ℕ, zero, suc, ◌+◌, true, List, [], ◌∷◌, length, Some, refl, sym, subst, arith}
use Rattle.block_order.specs.declared.control.Control.TheVariants.{Call}
use Rattle.block_order.specs.declared.frame.Frame.{Frame}
use Rattle.block_order.specs.declared.program.ControlProgram.{ControlProgram}
use Rattle.block_order.specs.Order.{blocks, main_number, control_at}
use Rattle.block_order.specs.Loud.{loud}
use Rattle.block_order.specs.Labels.{counts, IsUnforked, Chain}
use Rattle.block_order.specs.Faults.{IsReachedBy}
use Rattle.block_order.specs.Steps.{IsPlace}
use Rattle.block_order.proofs.LoudReaches.{AreLoud}

-- A program that stands at the call of a loud program counts: its labels come.
pub counts_below : (tape : List ControlProgram) → AreLoud tape → (g : Frame) (stack : List Frame) (q r : ℕ)
    → control_at (blocks tape g.program) g.block ≡ Some (Call q r) → loud tape q ≡ true
    → counts tape g.program stack ≡ true
counts_below tape are g [] q r is noisy = refl
counts_below tape are g (h ∷ stack) q r is noisy = are.calls g.program g.block q r is noisy

-- The running program of a place that counts is reached by as many calls of loud programs as are
-- open.
place_calling : (tape : List ControlProgram) → AreLoud tape → (f : Frame) (stack : List Frame)
    → IsPlace tape (f ∷ stack) → counts tape f.program stack ≡ true
    → IsReachedBy tape (length stack) (main_number tape) f.program
place_calling tape are f [] place e = sym place.0
place_calling tape are f (g ∷ stack) place e =
    let below = counts_below tape are g stack f.program place.0 place.1 e in
    (g.program, g.block, place.0, place_calling tape are g stack place.3 below, place.1, e)

-- n calls of loud programs that lead from p to q, and a chain of m that begins in q, are one chain
-- of n + m that begins in p.
pub chain_before : (tape : List ControlProgram) (n m p q : ℕ) → IsReachedBy tape n p q → Chain tape m q
    → Chain tape (n + m) p
chain_before tape zero m p q c chain =
    let e : m ≡ 0 + m = omega arith in subst (λ k. Chain tape k p) e (subst (Chain tape m) (sym c) chain)
chain_before tape (suc n) m p q (mid, block, r, c, is, noisy) chain =
    let e : n + suc m ≡ suc n + m = omega arith in
    subst (λ k. Chain tape k p) e (chain_before tape n (suc m) p mid c (block, q, r, is, noisy, chain))

-- A chain begins with a chain one shorter.
chain_front : (tape : List ControlProgram) (n p : ℕ) → Chain tape (suc n) p → Chain tape n p
chain_front tape zero p chain = tt
chain_front tape (suc n) p (block, q, r, is, noisy, chain) = (block, q, r, is, noisy, chain_front tape n q chain)

-- A chain begins with each shorter chain.
chain_less : (tape : List ControlProgram) (k n p : ℕ) → Chain tape (k + n) p → Chain tape n p
chain_less tape zero n p chain = let e : 0 + n ≡ n = omega arith in subst (λ k. Chain tape k p) e chain
chain_less tape (suc k) n p chain =
    let e : suc k + n ≡ suc (k + n) = omega arith in
    chain_less tape k n p (chain_front tape (k + n) p (subst (λ k. Chain tape k p) e chain))

-- A circle of calls of loud programs is a chain of any length.
chain_round : (tape : List ControlProgram) (d m p : ℕ) → IsReachedBy tape (suc d) p p → Chain tape m p
chain_round tape d zero p c = tt
chain_round tape d (suc m) p c =
    let e : suc d + m ≡ d + suc m = omega arith in
    chain_less tape d (suc m) p
    (subst (λ k. Chain tape k p) e (chain_before tape (suc d) m p p c (chain_round tape d m p c)))

-- In a place of an unforked tape a loud program that has a caller is not the main program.
pub main_below : (tape : List ControlProgram) → AreLoud tape → IsUnforked tape → (f g : Frame) (stack : List Frame)
    → IsPlace tape (f ∷ g ∷ stack) → loud tape f.program ≡ true → f.program ≢ main_number tape
main_below tape are un f g stack place noisy e =
    let main = main_number tape in
    let from_main = place_calling tape are f (g ∷ stack) place noisy in
    un.chains (chain_round tape (length stack) 9 main (subst (IsReachedBy tape (suc (length stack)) main) e from_main))
