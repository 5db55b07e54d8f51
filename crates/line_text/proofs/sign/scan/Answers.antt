-- One byte more of a tape's line is listed if it counts (loop of `scan`, src/sign.rt).
use Rattle.std.proofs.Common.{◌+◌, ◌<◌, ◌^◌, not, ◌&&◌, length, get_or, ap, sym, subst, arith}
use Rattle.line_text.specs.Places.{ArePlaced}
use Rattle.line_text.specs.Signs.{is_blank}
use Rattle.line_text.proofs.Scanning.{listed_on, unclosed_on, placed_more, short_more}
use Rattle.line_text.proofs.sign.scan.Goals as goal

pub loop-byte-preserved : goal.loop-byte-preserved
loop-byte-preserved c =
    let line = c.args.line.now in
    let loop = c.loop-byte in
    let byte = get_or line loop.byte-index 0 in
    let test = not loop.inside && not (is_blank byte) in
    let within : loop.byte-index < length line = omega (arith, c.loop-byte-test.true) in
    let near : loop.place + 1 < 2 ^ 32 = omega (arith, loop.invariant.counted, within, c.requires) in
    let pushed = c.in_ok-push_sign.ensures in
    let next = c.inside_behind-inside.ensures in
    record {
      listed = listed_on line loop.byte-index loop.inside c.inside_behind-inside.result loop.place loop.list.items c.push_sign.new.list.items _ within pushed next loop.invariant.listed;
      unclosed = unclosed_on line loop.byte-index loop.inside c.inside_behind-inside.result loop.place _ within next loop.invariant.unclosed;
      counted = ap (λ n. n + 1) loop.invariant.counted;
      placed = subst ArePlaced (sym pushed) (placed_more test loop.place byte loop.list.items near loop.invariant.placed);
      short = omega (arith, ap length pushed, short_more test loop.place byte loop.list.items, loop.invariant.short);
    }
