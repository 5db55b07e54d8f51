-- Both paths of an accepted pair have equally many parts, and few: for `race_of` (src/racing.rt).
use Rattle.std.proofs.Common.{◌≡◌, ℕ, suc, ◌≤◌, Bool, true, List, [], ◌∷◌, length, Option, refl, sym, subst, arith}
use Rattle.nc_number.specs.declared.both.Both.{Both}
use Rattle.nc_number.specs.declared.limits.TheConstants.{MOST_LABELS}
use Rattle.block_order.specs.declared.label.Label.{Label}
use Rattle.block_order.specs.declared.label.Label.TheVariants as label
use Rattle.block_order.specs.Labels.{list}
use Rattle.tape_flow.specs.declared.flow.Flow.{Flow}
use Rattle.label_list.specs.Accepted.{IsAcceptedPair}
use Rattle.part_order.specs.Parts.{path_waits}
use Rattle.part_order.proofs.Counted.{waits_of, list_waits, waits_agree}
use Rattle.race_report.specs.declared.race.Race.{Race}
use Rattle.race_report.specs.declared.racing.PathLines.{PathLines}
use Rattle.race_report.specs.Tables.{ArePairLines}
use Rattle.race_report.specs.Found.{first_from, IsAnswer}
use Rattle.race_report.proofs.FewerWaits.{HaveWaits}
use Rattle.race_report.proofs.FirstRaces.{answers}

-- no more of the labels are waits than there are labels
few_waits : (ls : List Label) → waits_of ls ≤ length ls
few_waits [] = omega arith
few_waits (label.Wait code ∷ ls) = let rest = few_waits ls in omega arith
few_waits (label.End ∷ ls) = let rest = few_waits ls in omega arith
few_waits (label.Again ∷ ls) = let rest = few_waits ls in omega arith
few_waits (label.Off ∷ ls) = let rest = few_waits ls in omega arith

-- an accepted path has no more waits than a list may have labels
few_parts : (left right : Flow) → IsAcceptedPair left.order right.order → path_waits left.order ≤ MOST_LABELS
few_parts left right pair =
    let same : path_waits left.order ≡ waits_of (list left.order) = list_waits left.order in
    let few = few_waits (list left.order) in
    let most = pair.left_few in omega arith

-- both paths of an accepted pair have the same number of waits
have_waits : (left right : Flow) → IsAcceptedPair left.order right.order → HaveWaits left right (path_waits left.order)
have_waits left right pair = record { one = refl; two = sym (waits_agree left.order right.order pair.same) }

-- the list of path 1's least lines of an accepted pair is no longer than the code allows
pub few_lines : (left right l r : Flow) (v : ℕ) (lines : Both PathLines) → l ≡ left → IsAcceptedPair left.order right.order → ArePairLines l r v lines
    → length lines.one.writes.items ≤ 65537
few_lines left right l r v lines at pair are =
    let few : path_waits l.order ≤ MOST_LABELS = subst (λ (f : Flow). path_waits f.order ≤ MOST_LABELS) (sym at) (few_parts left right pair) in
    let most : MOST_LABELS ≡ 65536 = refl in
    let many : length lines.one.writes.items ≡ suc (path_waits l.order) = are.one.writes.many in omega arith

-- the first race of a variable is what is found among the lines of the flows at hand
pub first_found : (shared : ℕ → Bool) (left right l r : Flow) (v : ℕ) (lines : Both PathLines) (found : Option Race) → l ≡ left → r ≡ right
    → shared v ≡ true → IsAcceptedPair left.order right.order → ArePairLines l r v lines
    → found ≡ first_from lines v (length lines.one.writes.items) 0 → IsAnswer shared left right v found
first_found shared left right l r v lines found at also is_shared pair are is =
    let one : ArePairLines left r v lines = subst (λ (f : Flow). ArePairLines f r v lines) at are in
    let both : ArePairLines left right v lines = subst (λ (f : Flow). ArePairLines left f v lines) also one in
    subst (λ o. IsAnswer shared left right v o) (sym is)
    (answers shared left right v is_shared (path_waits left.order) (have_waits left right pair) lines both)
