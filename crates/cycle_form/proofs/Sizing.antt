-- One part more of a tape that has so many blocks: it still fits, or has more than 20,000. For the
-- loop of `check_sizes` (src/sizes.rt). The lemmas in `at_` speak of the part at a place of a list.
use Rattle.std.proofs.Common.{◌≡◌, ℕ, ◌+◌, ◌<◌, ◌≤◌, true, false, List, [], ◌∷◌, drop, length, get_or, Result, Ok, Err, refl, ap, sym, ◌∙◌}
use Rattle.std.specs.Prelude.{nat_lt, ⊤}
use Rattle.std.proofs.lemmas.List.{drop_more}
use Rattle.nc_number.specs.declared.limits.TheConstants.{MOST_BLOCKS}
use Rattle.nc_number.proofs.Counts.{lt_true, lt_false}
use Rattle.cycle_form.specs.declared.fault.CycleFault.{CycleFault}
use Rattle.cycle_form.specs.declared.fault.CycleFault.TheVariants.{TooLarge}
use Rattle.cycle_form.specs.Parts.{PartView}
use Rattle.cycle_form.specs.Sizes.{blocks_with, first_line, size_verdict}

-- With no part left the tape fits.
fits : (blocks : ℕ) → size_verdict blocks [] ≡ Ok tt
unfolding size_verdict
fits blocks = refl

-- With a part that makes too many the tape is refused at that part's first line.
too_large : (blocks : ℕ) (part : PartView) (parts : List PartView) → nat_lt MOST_BLOCKS (blocks_with blocks part) ≡ true
    → size_verdict blocks (part ∷ parts) ≡ Err (TooLarge (first_line part.lines))
unfolding size_verdict
too_large blocks part parts large = rw large refl

-- With a part that does not make too many the count goes on.
goes_on : (blocks : ℕ) (part : PartView) (parts : List PartView) → nat_lt MOST_BLOCKS (blocks_with blocks part) ≡ false
    → size_verdict blocks (part ∷ parts) ≡ size_verdict (blocks_with blocks part) parts
unfolding size_verdict
goes_on blocks part parts small = rw small refl

-- The parts from a place on are the part there and those after it.
rest_is : (parts : List PartView) (i : ℕ) (part : PartView) → part ≡ get_or parts i part → i < length parts → drop i parts ≡ part ∷ drop (i + 1) parts
rest_is parts i part is before = drop_more parts i part before ∙ ap (λ p. p ∷ drop (i + 1) parts) (sym is)

-- With no part left the answer is that the tape fits.
pub at_end : (blocks : ℕ) (rest : List PartView) (all : Result ⊤ CycleFault) → rest ≡ [] → size_verdict blocks rest ≡ all → all ≡ Ok tt
at_end blocks rest all empty so_far = sym so_far ∙ ap (size_verdict blocks) empty ∙ fits blocks

-- The part at a place makes too many: the answer is 94 at its first line.
pub at_large : (blocks more line : ℕ) (lines : List ℕ) (parts : List PartView) (i : ℕ) (part : PartView) (all : Result ⊤ CycleFault)
    → part ≡ get_or parts i part → i < length parts → more ≡ blocks_with blocks part → MOST_BLOCKS < more → lines ≡ part.lines → line ≡ first_line lines
    → size_verdict blocks (drop i parts) ≡ all → all ≡ Err (TooLarge line)
at_large blocks more line lines parts i part all is before more_is large lines_are line_is so_far =
    sym so_far ∙ ap (size_verdict blocks) (rest_is parts i part is before)
    ∙ too_large blocks part (drop (i + 1) parts) (ap (nat_lt MOST_BLOCKS) (sym more_is) ∙ lt_true MOST_BLOCKS more large)
    ∙ ap (λ l. Err (TooLarge l)) (sym (line_is ∙ ap first_line lines_are))

-- The part at a place fits, and the answer is that of the parts after it.
pub at_next : (blocks more : ℕ) (parts : List PartView) (i : ℕ) (part : PartView) (all : Result ⊤ CycleFault)
    → part ≡ get_or parts i part → i < length parts → more ≡ blocks_with blocks part → more ≤ MOST_BLOCKS
    → size_verdict blocks (drop i parts) ≡ all → size_verdict more (drop (i + 1) parts) ≡ all
at_next blocks more parts i part all is before more_is few so_far =
    ap (λ n. size_verdict n (drop (i + 1) parts)) more_is
    ∙ sym (goes_on blocks part (drop (i + 1) parts) (ap (nat_lt MOST_BLOCKS) (sym more_is) ∙ lt_false MOST_BLOCKS more few))
    ∙ ap (size_verdict blocks) (sym (rest_is parts i part is before)) ∙ so_far
