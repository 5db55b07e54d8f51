-- For the proof of `fetch` (src/fetching.rt): each of the shelf's three faults is the cause that
-- the file can't be read, and without a fault the shelf's count stays.
use Rattle.std.proofs.Common.{subst, rules}
use Rattle.nc_outside.specs.Files.{HoldsMore}
use Rattle.lathe_looks.specs.Fetched.{failed, absent, too_long}
use Rattle.lathe_looks.proofs.NotHad.{caused}
use Rattle.lathe_looks.proofs.fetching.fetch.Goals as goal

pub returns-in-Err-Failed-clause-not_had : goal.returns-in-Err-Failed-clause-not_had
returns-in-Err-Failed-clause-not_had g c =
    caused _ _ _ _ _ (failed (c.in-Err-Failed.ensures.fault.rose (search rules))) c.not_had.ensures

pub returns-in-Err-Absent-clause-not_had : goal.returns-in-Err-Absent-clause-not_had
returns-in-Err-Absent-clause-not_had g c =
    caused _ _ _ _ _ (absent (c.in-Err-Absent.ensures.absent (search rules))) c.not_had-in-Err-Absent.ensures

pub returns-in-Err-TooLong-clause-not_had : goal.returns-in-Err-TooLong-clause-not_had
returns-in-Err-TooLong-clause-not_had g c =
    caused _ _ _ _ _
    (too_long (subst (λ most. HoldsMore (g.H.Shelf.state c.args.shelf.now).files c.args.name.now most) c.most_bytes.ensures
    (c.in-Err-TooLong.ensures.too_long (search rules))))
    c.not_had-in-Err-TooLong.ensures

pub returns-in-Ok-clause-calm : goal.returns-in-Ok-clause-calm
returns-in-Ok-clause-calm g c = c.in-Ok.ensures.fault.kept (λ bad. absurd cc)
