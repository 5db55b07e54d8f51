-- A waiting code is at most the last one of the settings, so it fits 16 bits. For `first_waiting`
-- (src/codes.rt).
use Rattle.std.proofs.Common.{◌≡◌, ℕ, ◌≤◌, true, List, Some, arith}
use Rattle.std.proofs.lemmas.Bool.Decides.{nat_tests}
use Rattle.code_tables.proofs.FoundPasses.{found_passes}
use Rattle.block_words.specs.declared.dialect.Dialect.{Dialect}
use Rattle.block_words.specs.Codes.{is_waiting, first_waiting}

-- The first waiting code is at most the last code of the range.
pub first_waiting_is_below : (dialect : Dialect) (codes : List ℕ) (code : ℕ) → first_waiting dialect codes ≡ Some code → code ≤ dialect.high
first_waiting_is_below dialect codes code found =
    let passes : is_waiting dialect code ≡ true = found_passes (is_waiting dialect) codes code found in
    grind (arith, nat_tests)
