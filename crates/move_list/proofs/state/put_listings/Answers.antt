-- For the proof of `put_listings` (src/state.rt): the lines of each listing are put, in order, or a
-- prefix of them.
use Rattle.std.proofs.lemmas.Result.{err_from_is_err_and}
use Rattle.nc_number.specs.Both.{of_path}
use Rattle.move_list.specs.State.{listing_text, listings_text}
use Rattle.nc_verify.proofs.InPieces.{put_nothing, put_on, put_breaks, each_more_at, each_parted_at, each_whole, put_same}
use Rattle.move_list.proofs.state.put_listings.Goals as goal

pub loop-listing-init : goal.loop-listing-init
loop-listing-init g c = put_nothing _

pub loop-listing-preserved : goal.loop-listing-preserved
loop-listing-preserved g c =
    let m = c.args.machine.now.machine in
    put_on _ _ _ _ _ _ (each_more_at (listing_text m (of_path m.paths c.args.path).path) c.args.listings.now c.loop-listing.listing-index _ c.loop-listing-test.true)
    c.loop-listing.invariant c.in_ok-put_listing.ensures

pub returns-in_err-put_listing : goal.returns-in_err-put_listing
unfolding listings_text
returns-in_err-put_listing g c =
    let m = c.args.machine.now.machine in
    let p = err_from_is_err_and c.from_residual.result c.from_residual.ensures.1 in
    rw (p.1, p.2)
    (put_breaks _ _ _ _ _ _ _ _ (each_parted_at (listing_text m (of_path m.paths c.args.path).path) c.args.listings.now c.loop-listing.listing-index _ c.loop-listing-test.true)
    c.loop-listing.invariant c.in_err-put_listing.ensures)

pub returns : goal.returns
unfolding listings_text
returns g c =
    let m = c.args.machine.now.machine in
    put_same _ _ _ _ (each_whole (listing_text m (of_path m.paths c.args.path).path) c.args.listings.now c.loop-listing.listing-index c.loop-listing-test.false)
    c.loop-listing.invariant
