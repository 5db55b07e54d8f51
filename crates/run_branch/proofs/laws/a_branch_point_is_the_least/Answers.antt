-- A branch is the shortest prefix with n meetings; none exists exactly with fewer (the law
-- `a_branch_point_is_the_least`, src/laws.rt).
use Rattle.run_branch.proofs.Points.{point_is, is_point, none_left, too_few}
use Rattle.run_branch.proofs.laws.a_branch_point_is_the_least.Goals as goal

pub returns-clause-least : goal.returns-clause-least
returns-clause-least c = λ n entries k. (point_is entries n k, is_point entries n k)

pub returns-clause-none : goal.returns-clause-none
returns-clause-none c = λ n entries. (none_left entries n, too_few entries n)
