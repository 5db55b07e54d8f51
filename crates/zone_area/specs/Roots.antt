-- Square roots, rounded up: how far an arc may reach is one (Area.antt, src/arc.rt).
-- No other crate cites it; what Area says of arcs rests on it.
use Rattle.std.specs.Prelude.{ℕ, zero, suc, ◌*◌, nat_le, if◌then◌else◌}

-- the least number up to `most` whose square is at least n, if the square of `most` is
unfoldable pub least_root_below : ℕ → ℕ → ℕ
least_root_below n zero = zero
least_root_below n (suc most) = if nat_le n (most * most) then least_root_below n most else suc most

-- the least number whose square is at least n
abbrev pub least_root : ℕ → ℕ
least_root n = least_root_below n n
