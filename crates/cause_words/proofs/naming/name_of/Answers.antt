-- For the proof of `name_of` (src/naming.rt): the name is that of the number, or there is none.
use Rattle.nc_number.specs.Causes.{cause_name}
use Rattle.cause_words.proofs.Found.{found_words, no_words}
use Rattle.cause_words.proofs.naming.name_of.Goals as goal

pub returns-in-Some : goal.returns-in-Some
returns-in-Some c = found_words cause_name c.args.number c.of_number.result c.of_number.ensures.found c.in-Some.cause c.in-Some.is c.in-Some.ensures.number _ c.name.ensures

pub returns-in-None : goal.returns-in-None
returns-in-None c = no_words cause_name c.args.number c.of_number.result c.of_number.ensures.found c.in-None.is
