-- The tests of src/ways.rt on numbers, and what they say of stretches. A stretch is the run of
-- blocks up to a mark: a wait, an end, an M99 without a number, or a loud call. A loud program
-- comes to a wait or an end, itself or by its calls; the others are quiet. For the proofs of
-- src/ways.rt and of `returns_elsewhere` (src/view.rt).
use Rattle.std.proofs.Common.{◌≡◌, ◌≢◌, ◌↔◌, ℕ, ◌-◌, ◌<◌, Bool, true, false, not, nat_eq, List, length, Option, Some, None, Result, Ok, Err, slice_index, sym, refl, ap, ◌∙◌, arith, zero-add}
use Rattle.std.specs.Prelude.{IsTrue}
use Rattle.std.proofs.lemmas.Bool.Decides.{nat_tests}
use Rattle.nc_number.specs.declared.cause.Cause.{Cause}
use Rattle.block_order.specs.declared.program.ControlBlock.{ControlBlock}
use Rattle.block_order.specs.Order.{target_of, IsLoop, Leads}
use Rattle.block_order.specs.Loud.{stretch}
use Rattle.wait_order.specs.Waiting.{LeadsElsewhere, ClosesElsewhere}
use Rattle.wait_order.specs.Stretches.{stretches_from}
use Rattle.wait_order.proofs.Stretched.{stretches_are, stretch_rises}
use Rattle.block_order.proofs.Opened.{close_within}
use Rattle.block_order.proofs.Searches.{led, loop_facts}
use Rattle.block_order.proofs.Targets.{seek_stands}

-- The test for unequal numbers says that they differ.
differ : (a b : ℕ) → IsTrue (not (nat_eq a b)) ↔ (a ≢ b)
differ a b = (λ t e. grind (arith, nat_tests), λ d. go d (nat_eq a b) refl)
  where
    go : (a ≢ b) → (x : Bool) → nat_eq a b ≡ x → IsTrue (not x)
    go d true e = absurd (let same : a ≡ b = grind (arith, nat_tests) in d same)
    go d false e = refl

-- The stretches in the list differ exactly if the stretches of the two blocks do.
pub apart_is : (ld : ℕ → Bool) (bs : List ControlBlock) (ss : List ℕ) (one other x y : ℕ) → ss ≡ stretches_from ld 0 bs
    → one < length bs → other < length bs → x ≡ slice_index ss one → y ≡ slice_index ss other
    → IsTrue (not (nat_eq x y)) ↔ (stretch ld bs one ≢ stretch ld bs other)
apart_is ld bs ss one other x y e a b ex ey =
    let ex' : x ≡ stretch ld bs one = ex ∙ (ap (λ s. slice_index s one) e ∙ (stretches_are ld bs 0 one 0 a ∙ zero-add (stretch ld bs one))) in
    let ey' : y ≡ stretch ld bs other = ey ∙ (ap (λ s. slice_index s other) e ∙ (stretches_are ld bs 0 other 0 b ∙ zero-add (stretch ld bs other))) in
    rw (ex', ey') (differ (stretch ld bs one) (stretch ld bs other))

-- If the last block lies in the first stretch, no jump leads to another one.
pub one_stretch : (ld : ℕ → Bool) (bs : List ControlBlock) (ss : List ℕ) (block n last : ℕ) → ss ≡ stretches_from ld 0 bs
    → last ≡ slice_index ss (length bs - 1) → last ≡ 0 → block < length bs → LeadsElsewhere ld bs block n → ⊥
one_stretch ld bs ss block n last e is first within (target, leads, differs) =
    let end = length bs - 1 in
    let there : last ≡ stretch ld bs end =
    is ∙ (ap (λ s. slice_index s end) e ∙ (stretches_are ld bs 0 end 0 (omega arith) ∙ zero-add (stretch ld bs end))) in
    let found = (seek_stands bs block n target (led bs block n target leads).0).0 in
    let one = stretch_rises ld bs block end (omega arith) in
    let other = stretch_rises ld bs target end (omega (arith, found)) in
    differs (omega arith)

-- If a jump to n leads to a target, it leads elsewhere exactly if the target lies in another
-- stretch.
pub leads_where : (ld : ℕ → Bool) (bs : List ControlBlock) (block n target : ℕ) (apart : Bool) → Leads bs block n target
    → IsTrue apart ↔ (stretch ld bs block ≢ stretch ld bs target)
    → IsTrue apart ↔ LeadsElsewhere ld bs block n
leads_where ld bs block n target apart leads is = (λ t. (target, leads, is.0 t), λ l. back l)
  where
    back : LeadsElsewhere ld bs block n → IsTrue apart
    back (other, leads', differs) =
        let same : ◌≡◌ {A = Result ℕ Cause} (Ok other) (Ok target) = sym leads' ∙ leads in
        let it : other ≡ target = cc in
        is.1 (λ e. differs (e ∙ ap (λ k. stretch ld bs k) (sym it)))

-- A jump to n that finds no target does not lead elsewhere.
pub leads_nowhere : (ld : ℕ → Bool) (bs : List ControlBlock) (block n : ℕ) (cause : Cause) → target_of bs block n ≡ Err cause
    → IsTrue false ↔ LeadsElsewhere ld bs block n
leads_nowhere ld bs block n cause nowhere = (λ t. absurd cc, λ l. absurd (back l))
  where
    back : LeadsElsewhere ld bs block n → ⊥
    back (other, leads, differs) = let clash : ◌≡◌ {A = Result ℕ Cause} (Ok other) (Err cause) = sym leads ∙ nowhere in cc

-- If the loop that ends here begins at `head`, it leads elsewhere exactly if that lies in another
-- stretch.
pub closes_where : (ld : ℕ → Bool) (bs : List ControlBlock) (head close : ℕ) (apart : Bool)
    → ((other : ℕ) → (Some head ≡ Some other) ↔ IsLoop bs other close)
    → (head < length bs → close < length bs → IsTrue apart ↔ (stretch ld bs head ≢ stretch ld bs close))
    → IsTrue apart ↔ ClosesElsewhere ld bs close
closes_where ld bs head close apart heads is = (λ t. (head, loop, decides.0 t), λ l. back l)
  where
    loop : IsLoop bs head close
    loop = (heads head).0 refl

    decides : IsTrue apart ↔ (stretch ld bs head ≢ stretch ld bs close)
    decides =
        let within = close_within bs head close loop in
        is (omega (arith, within, (loop_facts bs head close loop).order)) within

    back : ClosesElsewhere ld bs close → IsTrue apart
    back (other, other_loop, differs) =
        let same : Some head ≡ Some other = (heads other).1 other_loop in
        let it : head ≡ other = cc in
        decides.1 (λ e. differs (ap (λ k. stretch ld bs k) (sym it) ∙ e))

-- A block that ends no loop does not lead elsewhere by one.
pub closes_nowhere : (ld : ℕ → Bool) (bs : List ControlBlock) (close : ℕ)
    → ((other : ℕ) → (◌≡◌ {A = Option ℕ} None (Some other)) ↔ IsLoop bs other close) → IsTrue false ↔ ClosesElsewhere ld bs close
closes_nowhere ld bs close heads = (λ t. absurd cc, λ l. absurd (let e : ◌≡◌ {A = Option ℕ} None (Some l.0) = (heads l.0).1 l.1 in cc))

-- A test that says no does not say yes.
pub false_is_not_true : IsTrue false → ⊥
false_is_not_true t = absurd cc
