-- A made tape has 74,389 bytes at most, and both tapes of a pair fit the header of a run
-- (src/laws.rt).
use Rattle.std.proofs.Common.{arith}
use Rattle.nc_number.specs.declared.path.Path.TheVariants.{One, Two}
use Rattle.tape_maker.proofs.Sizes.{made_length}
use Rattle.tape_maker.proofs.laws.law_of_sizes.Goals as goal

pub returns-clause-longest : goal.returns-clause-longest
returns-clause-longest c = made_length

pub returns-clause-header : goal.returns-clause-header
returns-clause-header c number = omega (arith, made_length One number, made_length Two number)
