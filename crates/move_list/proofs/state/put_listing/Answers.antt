-- For the proof of `put_listing` (src/state.rt): a line for each number of a listing that is set is
-- put, or a prefix of them.
use Rattle.std.proofs.Common.{◌≡◌, ◌<◌, ap, arith}
use Rattle.std.proofs.lemmas.Result.{err_from_is_err_and}
use Rattle.nc_number.specs.Both.{of_path}
use Rattle.move_list.specs.Pieces.{each_from}
use Rattle.move_list.specs.State.{first_of, count_of, line_of}
use Rattle.move_list.proofs.EachFrom.{each_from_more, each_from_parted}
use Rattle.nc_verify.proofs.InPieces.{put_nothing, put_on, put_breaks, put_same}
use Rattle.move_list.proofs.state.put_listing.Goals as goal

pub loop-i-init : goal.loop-i-init
unfolding each_from
loop-i-init g c = put_nothing _

pub loop-i-preserved : goal.loop-i-preserved
loop-i-preserved g c =
    let m = c.args.machine.now.machine in
    let line = line_of m (of_path m.paths c.args.path).path c.args.listing in
    put_on _ _ _ _ _ _ (each_from_more line (first_of c.args.listing) c.loop-i.i) c.loop-i.invariant
    (rw c.first.ensures.number at c.in_ok-put_line.ensures)

pub returns-in_err-put_line : goal.returns-in_err-put_line
returns-in_err-put_line g c =
    let m = c.args.machine.now.machine in
    let line = line_of m (of_path m.paths c.args.path).path c.args.listing in
    let within : c.loop-i.i < count_of c.args.listing = omega (arith, c.loop-i-test.true, c.count-i-end.ensures.count) in
    let p = err_from_is_err_and c.from_residual.result c.from_residual.ensures.1 in
    rw (p.1, p.2)
    (put_breaks _ _ _ _ _ _ _ _ (each_from_parted line (first_of c.args.listing) c.loop-i.i (count_of c.args.listing) within)
    c.loop-i.invariant (rw c.first.ensures.number at c.in_err-put_line.ensures))

pub returns : goal.returns
returns g c =
    let m = c.args.machine.now.machine in
    let line = line_of m (of_path m.paths c.args.path).path c.args.listing in
    let all : c.loop-i.i ≡ count_of c.args.listing = omega (arith, c.loop-i-test.false, c.loop-i.auto.i-end, c.count-i-end.ensures.count) in
    put_same _ _ _ _ (ap (each_from line (first_of c.args.listing)) all) c.loop-i.invariant
