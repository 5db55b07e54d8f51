-- What is true of the stamps of every record. A stamp is the number of records at the moment of a
-- read of a shared variable. No other crate cites it; callers meet it in the contract of
-- `StampList` and in `IsEntry` (Spelling).
use Rattle.std.specs.Prelude.{ℕ, ◌^◌, ◌≤◌, ◌<◌, List, [], ◌∷◌, length}
use Rattle.nc_number.specs.declared.limits.TheConstants.{MOST_READS}

-- each stamp fits four bytes
abbrev pub AreStamps : List ℕ → Type 0
AreStamps [] = Unit {0}
AreStamps (stamp ∷ stamps) = (stamp < 2 ^ 32) × AreStamps stamps

-- the stamps are few enough for a record: 32 at most, and each fits four bytes
abbrev pub AreFew : List ℕ → Type 0
AreFew stamps = (length stamps ≤ MOST_READS) × AreStamps stamps
