-- `listing_io::run` meets its contract. Assumes nothing.
use Rattle.std.proofs.Common.{◌≤◌, length, sym, length-take-le, arith}
use Rattle.listing_io.proofs.Fits.{text-fits}
use Rattle.listing_io.proofs.run.Goals as goal

pub slice_bounds-text-end : goal.slice_bounds-text-end
slice_bounds-text-end g c = omega (arith, c.unwrap_or-n.ensures, text-fits c.listing.result _ _ _ c.listing.ensures, c.listing.auto.buffer)

pub slice_bounds-write_all-end : goal.slice_bounds-write_all-end
slice_bounds-write_all-end g c =
    let within : c.unwrap_or-n.result ≤ length c.listing.new.buffer =
    omega (arith, c.unwrap_or-n.ensures, text-fits c.listing.result _ _ _ c.listing.ensures, c.listing.auto.buffer) in
    sym (length-take-le c.unwrap_or-n.result _ within)
