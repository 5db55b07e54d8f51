-- The first so many records of a history are a history. The law `an_image_of_a_run_is_never_bad`
-- (src/laws.rt) rests on it.
use Rattle.std.proofs.Common.{ℕ, List, take, arith}
use Rattle.std.proofs.lemmas.List.{length-take}
use Rattle.run_records.specs.Entries.{Entry}
use Rattle.run_records.specs.declared.header.Header.{Header}
use Rattle.two_path.specs.Histories.{HistoriesAreRuns}
use Rattle.nc_verify.specs.declared.verified.Verified.{Verified}
use Rattle.nc_restart.specs.Pair.{tapes_in, opening_of}
use Rattle.nc_restart.specs.History.{IsHistory}
use Rattle.nc_restart.specs.Meaning.{HasHistory}

-- the first so many records of a history are a history of the pair
history_front : (pair : Verified) (n : ℕ) (entries : List Entry) → HistoriesAreRuns (tapes_in pair) (opening_of pair) → IsHistory pair entries
    → IsHistory pair (take n entries)
history_front pair n entries runs is = record {
  legal = runs.prefix n entries is.legal;
  few = omega (arith, is.few, length-take n entries);
}

-- the first so many records of a header's history are a history of the header
pub front_has : (header : Header) (n : ℕ) (entries : List Entry) (has : HasHistory header entries)
    → HistoriesAreRuns (tapes_in has.pair) (opening_of has.pair) → HasHistory header (take n entries)
front_has header n entries has runs = record {
  pair = has.pair;
  accepted = has.accepted;
  history = history_front has.pair n entries runs has.history;
}
