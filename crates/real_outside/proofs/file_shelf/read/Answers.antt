-- For the proof of `read` (src/file_shelf.rt): bytes were appended, no more than were asked for,
-- and what was there stayed.
use Rattle.std.proofs.Common.{◌≡◌, ℕ, ◌+◌, ◌≤◌, List, ◌++◌, length, take, drop, arith, sym, length-drop}
use Rattle.std.proofs.lemmas.List.{take-append-drop}
use Rattle.real_outside.proofs.file_shelf.read.Goals as goal

-- what a list that begins with another has after it
behind : (old new : List ℕ) (count max : ℕ) → take (length old) new ≡ old → length new ≡ length old + count → count ≤ max
    → (more : List ℕ) × (length more ≤ max) × (new ≡ old ++ more)
behind old new count max starts long few = (
  drop (length old) new,
  omega (arith, length-drop (length old) new),
  sym (rw starts at (take-append-drop (length old) new)),
)

pub returns-then-count-max-clause-ok : goal.returns-then-count-max-clause-ok
returns-then-count-max-clause-ok g c =
    behind c.args.into.now.items c.append.new.into.items c.in-Ok.count c.args.max c.append.ensures.start
    c.in-Ok.ensures.count c.if-count-max.true
