-- Lines that may be written out stand in place of as many blocks.
use Rattle.std.proofs.Common.{◌≡◌, ℕ, suc, ◌+◌, ◌<◌, ◌≤◌, Bool, true, false, List, [], ◌∷◌, ◌++◌, length, drop, Option, None, Some, Result, Ok, Err, refl, ap, sym, subst, ◌∙◌, arith}
use Rattle.std.specs.Prelude.{zero, slice_get, min, ◌-◌, ◌^◌}
use Rattle.known_blocks.specs.declared.known.Known.{Known}
use Rattle.nc_number.specs.declared.limits.TheConstants.{MOST_BLOCKS}
use Rattle.plain_form.specs.declared.answer.WrittenLine.{WrittenLine}
use Rattle.plain_form.specs.declared.cause.PlainFault.{PlainFault}
use Rattle.plain_blocks.specs.Walk.{and_then, line_found, lines_at, next_place, pass_lines, replaced_by, replaced_from}
use Rattle.plain_blocks.specs.declared.step.Step.{Step}
use Rattle.plain_blocks.specs.declared.step.Step.TheVariants as step
use Rattle.plain_blocks.specs.declared.targets.Stand.{Stand}
use Rattle.plain_blocks.specs.declared.walk.Rules.{Rules}
use Rattle.walked_tapes.specs.Walks.{in_place}

-- what is found in a place is the first of those from there on
pub found_first : {A : Type 0} (xs : List A) (i : ℕ) (x : A) → slice_get xs i ≡ Some x → drop i xs ≡ x ∷ drop (suc i) xs
found_first [] i x e = absurd cc
found_first (y ∷ ys) zero x e = let same : y ≡ x = cc in ap (λ z. z ∷ ys) same
found_first (y ∷ ys) (suc i) x e = found_first ys i x e

-- and the first of those from a place on is found there
pub first_found : {A : Type 0} (xs : List A) (i : ℕ) (x : A) (rest : List A) → drop i xs ≡ x ∷ rest → slice_get xs i ≡ Some x
first_found [] zero x rest e = absurd cc
first_found [] (suc i) x rest e = absurd cc
first_found (y ∷ ys) zero x rest e = let same : y ≡ x = cc in ap Some same
first_found (y ∷ ys) (suc i) x rest e = first_found ys i x rest e

-- it lies within the list
pub found_within : {A : Type 0} (xs : List A) (i : ℕ) (x : A) → slice_get xs i ≡ Some x → i < length xs
found_within [] i x e = absurd cc
found_within (y ∷ ys) zero x e = omega arith
found_within (y ∷ ys) (suc i) x e = let l = found_within ys i x e in omega (arith, l)

-- behind all there is nothing
pub none_behind : {A : Type 0} (xs : List A) (i : ℕ) → length xs ≤ i → drop i xs ≡ []
none_behind [] zero e = refl
none_behind [] (suc i) e = refl
none_behind (y ∷ ys) zero e = absurd (omega (arith, e))
none_behind (y ∷ ys) (suc i) e = none_behind ys i (omega (arith, e))

-- nothing is behind all alone
pub all_before : {A : Type 0} (xs : List A) (i : ℕ) → drop i xs ≡ [] → length xs ≤ i
all_before [] i e = omega arith
all_before (y ∷ ys) zero e = absurd cc
all_before (y ∷ ys) (suc i) e = let l = all_before ys i e in omega (arith, l)

-- the next place of a tape's blocks is one more
next_is : (place most : ℕ) → place < most → most ≤ MOST_BLOCKS → next_place place ≡ suc place
next_is place most less few =
    let limit : MOST_BLOCKS ≡ 20000 = refl in
    let next : min (place + 1) (2 ^ 64 - 1) ≡ suc place = omega (arith, less, few, limit) in
    next

-- what the lines of a form are, if they may be written out: steps in place of as many blocks
pub record StandInPlace (stands : List Stand) (place : ℕ) (lines : List WrittenLine) : Type 0 where
  pub same : replaced_from stands place lines ≡ in_place (drop place stands) lines
  pub many : length (in_place (drop place stands) lines) ≡ length lines
  pub within : place + length lines ≤ length stands

pub lines_stand : (rules : Rules) (stands : List Stand) (is_first : Bool) (place : ℕ) (known behind : Known) (lines : List WrittenLine)
    → length stands ≤ MOST_BLOCKS → place ≤ length stands → pass_lines rules stands is_first place known lines ≡ Ok behind → StandInPlace stands place lines
lines_stand rules stands is_first place known behind [] few there e =
    record { same = sym (nothing (drop place stands)); many = ap length (nothing (drop place stands)); within = omega (arith, there) }
  where
    nothing : (own : List Stand) → in_place own [] ≡ []
    nothing [] = refl
    nothing (stand ∷ own) = refl
lines_stand rules stands is_first place known behind (line ∷ lines) few there e =
    go (λ middle less rest. lines_stand rules stands false (next_place place) middle behind lines few (after less) rest)
    (slice_get stands place) refl e
  where
    after : place < length stands → next_place place ≤ length stands
    after less = let n = next_is place (length stands) less few in omega (arith, less, n)

    by : ((middle : Known) → place < length stands → pass_lines rules stands false (next_place place) middle lines ≡ Ok behind → StandInPlace stands (next_place place) lines)
        → (stand : Stand) → slice_get stands place ≡ Some stand → (r : Result Known PlainFault) → line_found rules is_first (Some stand) known line.blocks ≡ r
        → and_then r (λ middle. pass_lines rules stands false (next_place place) middle lines) ≡ Ok behind → StandInPlace stands place (line ∷ lines)
    by more stand found (Err fault) first e = absurd cc
    by more stand found (Ok middle) first e =
        let less : place < length stands = found_within stands place stand found in
        let next : next_place place ≡ suc place = next_is place (length stands) less few in
        let rest = more middle less e in
        let own : Step = step.Written (record { line = stand.line; sequence = stand.sequence; blocks = line.blocks }) in
        let front : in_place (drop place stands) (line ∷ lines) ≡ own ∷ in_place (drop (suc place) stands) lines
        = ap (λ s. in_place s (line ∷ lines)) (found_first stands place stand found) in
        let same : replaced_from stands place (line ∷ lines) ≡ own ∷ in_place (drop (suc place) stands) lines
        = ap (λ f. replaced_by f line ++ replaced_from stands (next_place place) lines) found
        ∙ ap (λ s. own ∷ s) rest.same
        ∙ ap (λ n. own ∷ in_place (drop n stands) lines) next in
        let many : length (in_place (drop (suc place) stands) lines) ≡ length lines = subst (λ n. length (in_place (drop n stands) lines) ≡ length lines) next rest.many in
        let within : suc place + length lines ≤ length stands = subst (λ n. n + length lines ≤ length stands) next rest.within in
        record {
          same = same ∙ sym front;
          many = ap length front ∙ ap suc many;
          within = omega (arith, within);
        }

    go : ((middle : Known) → place < length stands → pass_lines rules stands false (next_place place) middle lines ≡ Ok behind → StandInPlace stands (next_place place) lines)
        → (found : Option Stand) → slice_get stands place ≡ found
        → and_then (line_found rules is_first found known line.blocks) (λ middle. pass_lines rules stands false (next_place place) middle lines) ≡ Ok behind
        → StandInPlace stands place (line ∷ lines)
    go more None found e = absurd cc
    go more (Some stand) found e = by more stand found (line_found rules is_first (Some stand) known line.blocks) refl e
