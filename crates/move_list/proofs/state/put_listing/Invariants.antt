-- For the loop of `put_listing` (src/state.rt): the lines of the numbers so far were put whole.
use Rattle.std.proofs.Common.{Ok}
use Rattle.nc_number.specs.Both.{of_path}
use Rattle.nc_verify.specs.Printed.{IsPut}
use Rattle.move_list.specs.Pieces.{each_from}
use Rattle.move_list.specs.State.{first_of, line_of}
use Rattle.move_list.proofs.state.put_listing.Given as goal

abbrev pub invariant-loop-i : goal.invariant-loop-i
invariant-loop-i g l =
    IsPut (g.K.Sink.state l.initial.sink) (g.K.Sink.state l.sink)
    (each_from (line_of l.machine.machine (of_path l.machine.machine.paths l.path).path l.listing) (first_of l.listing) l.i) (Ok tt)
