-- The signs so far and those of the rest are all signs of the line (loop of `scan`, src/sign.rt).
use Rattle.std.proofs.Common.{◌≡◌, ◌≤◌, ◌++◌, length, drop, false}
use Rattle.line_text.specs.Signs.{scan_of}
use Rattle.line_text.specs.Places.{ArePlaced}
use Rattle.line_text.proofs.sign.scan.Given as goal

abbrev pub invariant-loop-byte : goal.invariant-loop-byte
invariant-loop-byte l = record {
  listed : l.list.items ++ (scan_of (drop l.byte-index l.line) l.inside l.place).list ≡ (scan_of l.line false 0).list;
  unclosed : (scan_of (drop l.byte-index l.line) l.inside l.place).unclosed ≡ (scan_of l.line false 0).unclosed;
  counted : l.place ≡ l.byte-index;
  placed : ArePlaced l.list.items;
  short : length l.list.items ≤ l.byte-index;
}
