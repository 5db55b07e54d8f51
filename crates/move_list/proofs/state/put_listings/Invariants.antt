-- For the loop of `put_listings` (src/state.rt): the listings so far were put whole.
use Rattle.std.proofs.Common.{take, Ok}
use Rattle.std.specs.List.{flat_map}
use Rattle.nc_number.specs.Both.{of_path}
use Rattle.nc_verify.specs.Printed.{IsPut}
use Rattle.move_list.specs.State.{listing_text}
use Rattle.move_list.proofs.state.put_listings.Given as goal

abbrev pub invariant-loop-listing : goal.invariant-loop-listing
invariant-loop-listing g l =
    IsPut (g.K.Sink.state l.initial.sink) (g.K.Sink.state l.sink)
    (flat_map (listing_text l.machine.machine (of_path l.machine.machine.paths l.path).path) (take l.listing-index l.listings)) (Ok tt)
