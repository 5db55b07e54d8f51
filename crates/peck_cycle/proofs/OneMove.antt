-- One block of a pecking cycle before others: it is safe, and they go on where it leads. SafeMoves
-- rests on it.
use Rattle.std.proofs.Common.{◌≡◌, inl, inr, ℕ, ◌+◌, List, ◌∷◌, ℤ, refl, ap, sym, subst}
use Rattle.nc_number.specs.declared.point.Point.{Point}
use Rattle.nc_number.specs.Distances.{distance, IsBetween}
use Rattle.plain_block.specs.declared.block.PlainBlock.{PlainBlock}
use Rattle.plain_block.specs.declared.course.Course.{Course}
use Rattle.plain_block.specs.declared.course.Course.TheVariants.{Rapid, Cut}
use Rattle.plain_block.specs.Places.{point_after}
use Rattle.peck_cycle.specs.declared.along.Along.{Along}
use Rattle.peck_cycle.specs.declared.along.Along.TheVariants.{Z, X}
use Rattle.peck_cycle.specs.declared.pecks.Pecks.{Pecks}
use Rattle.peck_cycle.specs.Axes.{place_along, place_beside, block_along, block_beside}
use Rattle.peck_cycle.specs.Pecks.{place, rapid_to, cut_to}
use Rattle.peck_cycle.specs.Safe.{IsSafe, IsSafeBlock, AreSafe}

-- where blocks lead

-- a block along the axis leads to its place, and stays beside it
pub along_after : (a : Along) (course : Course) (from : Point) (to : ℤ) → place_along a (point_after from (block_along a course to)) ≡ to
along_after Z course from to = refl
along_after X course from to = refl

pub along_stays : (a : Along) (course : Course) (from : Point) (to : ℤ) → place_beside a (point_after from (block_along a course to)) ≡ place_beside a from
along_stays Z course from to = refl
along_stays X course from to = refl

-- a block beside it leads there, and stays along it
pub beside_after : (a : Along) (course : Course) (from : Point) (to : ℤ) → place_beside a (point_after from (block_beside a course to)) ≡ to
beside_after Z course from to = refl
beside_after X course from to = refl

pub beside_stays : (a : Along) (course : Course) (from : Point) (to : ℤ) → place_along a (point_after from (block_beside a course to)) ≡ place_along a from
beside_stays Z course from to = refl
beside_stays X course from to = refl

-- a block along the axis is safe as its move is
along_block : (a : Along) (course : Course) (p : Pecks) (start from : Point) (to : ℤ) (cut after : ℕ)
    → IsSafe course p start from (point_after from (block_along a course to)) cut after → IsSafeBlock p start from (block_along a course to) cut after
along_block Z course p start from to cut after safe = safe
along_block X course p start from to cut after safe = safe

-- so is one beside it
beside_block : (a : Along) (course : Course) (p : Pecks) (start from : Point) (to : ℤ) (cut after : ℕ)
    → IsSafe course p start from (point_after from (block_beside a course to)) cut after → IsSafeBlock p start from (block_beside a course to) cut after
beside_block Z course p start from to cut after safe = safe
beside_block X course p start from to cut after safe = safe

-- blocks, one before others

-- a rapid along
pub rapid_along : (p : Pecks) (start from : Point) (cut : ℕ) (to : ℤ) (rest : List PlainBlock) → IsBetween (place_along p.along start) to (place p cut)
    → ((next : Point) → place_along p.along next ≡ to → place_beside p.along next ≡ place_beside p.along from → AreSafe p start next cut rest)
    → AreSafe p start from cut (rapid_to p to ∷ rest)
rapid_along p start from cut to rest between further = (
  cut,
  along_block p.along Rapid p start from to cut cut
      (inl (along_stays p.along Rapid from to, subst (λ z. IsBetween (place_along p.along start) z (place p cut)) (sym (along_after p.along Rapid from to)) between, refl)),
  further (point_after from (rapid_to p to)) (along_after p.along Rapid from to) (along_stays p.along Rapid from to),
)

-- a cut that goes deeper
pub cut_deeper : (p : Pecks) (start from : Point) (cut : ℕ) (to : ℤ) (rest : List PlainBlock) → IsBetween (place_along p.along start) (place_along p.along from) (place p cut)
    → IsBetween (place p cut) to (place p (cut + p.peck))
    → ((next : Point) → place_along p.along next ≡ to → place_beside p.along next ≡ place_beside p.along from → AreSafe p start next (distance p.level to) rest)
    → AreSafe p start from cut (cut_to p to ∷ rest)
cut_deeper p start from cut to rest at bite further = (
  distance p.level to,
  along_block p.along Cut p start from to cut (distance p.level to) (
    along_stays p.along Cut from to,
    inl (at, subst (λ z. IsBetween (place p cut) z (place p (cut + p.peck))) (sym (along_after p.along Cut from to)) bite, ap (λ z. distance p.level z) (sym (along_after p.along Cut from to))),
  ),
  further (point_after from (cut_to p to)) (along_after p.along Cut from to) (along_stays p.along Cut from to),
)

-- a cut on the way out
pub cut_out : (p : Pecks) (start from : Point) (cut : ℕ) (to : ℤ) (rest : List PlainBlock) → IsBetween (place_along p.along start) to (place p cut)
    → ((next : Point) → place_along p.along next ≡ to → place_beside p.along next ≡ place_beside p.along from → AreSafe p start next cut rest)
    → AreSafe p start from cut (cut_to p to ∷ rest)
cut_out p start from cut to rest between further = (
  cut,
  along_block p.along Cut p start from to cut cut (
    along_stays p.along Cut from to,
    inr (subst (λ z. IsBetween (place_along p.along start) z (place p cut)) (sym (along_after p.along Cut from to)) between, refl),
  ),
  further (point_after from (cut_to p to)) (along_after p.along Cut from to) (along_stays p.along Cut from to),
)

-- a rapid to another column, at the level
pub rapid_at_level : (p : Pecks) (start from : Point) (cut : ℕ) (to : ℤ) (rest : List PlainBlock) → place_along p.along from ≡ p.level
    → ((next : Point) → place_along p.along next ≡ place_along p.along from → place_beside p.along next ≡ to → AreSafe p start next 0 rest)
    → AreSafe p start from cut (block_beside p.along Rapid to ∷ rest)
rapid_at_level p start from cut to rest level further = (
  0,
  beside_block p.along Rapid p start from to cut 0 (inr (inl (beside_stays p.along Rapid from to, level, refl))),
  further (point_after from (block_beside p.along Rapid to)) (beside_stays p.along Rapid from to) (beside_after p.along Rapid from to),
)

-- a rapid off, towards the first column
pub rapid_off : (p : Pecks) (start from : Point) (cut : ℕ) (to : ℤ) (rest : List PlainBlock) → IsBetween (place_beside p.along start) to (place_beside p.along from)
    → ((next : Point) → place_along p.along next ≡ place_along p.along from → place_beside p.along next ≡ to → AreSafe p start next cut rest)
    → AreSafe p start from cut (block_beside p.along Rapid to ∷ rest)
rapid_off p start from cut to rest between further = (
  cut,
  beside_block p.along Rapid p start from to cut cut
      (inr (inr (beside_stays p.along Rapid from to, subst (λ z. IsBetween (place_beside p.along start) z (place_beside p.along from)) (sym (beside_after p.along Rapid from to)) between, refl))),
  further (point_after from (block_beside p.along Rapid to)) (beside_stays p.along Rapid from to) (beside_after p.along Rapid from to),
)
