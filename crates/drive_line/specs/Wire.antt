-- What goes through a wire, one half of a drive line: first in, first out, from one end to one
-- other. This is the rule of the channel of src/wire.rt. No other crate cites this file, but
-- callers meet `WireId` in the `LineId` of a line (Line.antt).
use Rattle.std.specs.Prelude.{◌≡◌, ℕ, Bool, true, List, ◌++◌}
use mathlib.Core.Option.{some}
use lib.ListN.{get_elem?}
use Rattle.atomic_table.specs.Seated.{TableId}
use Rattle.atomic_table.specs.declared.badge.Badge.{Badge}
use Rattle.crossbeam_channel.specs.declared.flavors.array.Key.{Key}
use Rattle.crossbeam_channel.specs.Claims.{Pass}
use Rattle.drive_line.specs.declared.wire.Log.{Log}

-- what a pass may do, and what it has sent and taken
abbrev pub log : {T : Type 0} → Bool → Bool → List T → List T → Log T
log sends takes sent taken = record { sends = sends; takes = takes; sent = sent; taken = taken }

-- What a wire keeps: what was sent is what was taken, and then what the channel holds. One pass
-- alone may send, and has the list of what was sent; one alone may take, and has the list of what
-- was taken.
pub record IsInOrder {T : Type 0} (held : List T) (logs : List (Log T)) : Type 0 where
  -- the pass that may send
  pub sender : ℕ
  -- the pass that may take
  pub taker : ℕ
  -- all that was sent
  pub sent : List T
  -- all that was taken
  pub taken : List T
  -- what was sent is what was taken, and then what the channel holds
  pub order : sent ≡ taken ++ held
  -- only the sender may send, and its list is all that was sent
  pub sends : (pass : ℕ) (v : Log T) → get_elem? logs pass ≡ some v → v.sends ≡ true → (pass ≡ sender) × (v.sent ≡ sent)
  -- only the taker may take, and its list is all that was taken
  pub takes : (pass : ℕ) (v : Log T) → get_elem? logs pass ≡ some v → v.takes ≡ true → (pass ≡ taker) × (v.taken ≡ taken)

-- Which wire an end belongs to, and how many items the wire holds at most.
pub record WireId (T : Type 0) : Type 0 where
  -- how many items it holds at most
  pub bound : ℕ
  -- the table of the channel's passes; with the key it names the channel
  pub table : TableId
  -- the key of the channel in that table
  pub key : Badge (Key T)

-- What an end of a wire means: which wire it is, and what went through this end.
pub record WireEnd (T : Type 0) : Type 0 where
  -- which wire it is
  pub wire : WireId T
  -- what went through this end
  pub items : List T

-- the wire of a pass, which holds so many items at most
abbrev pub wire_of : {T : Type 0} → ℕ → Pass T (Log T) → WireId T
wire_of bound pass = record { bound = bound; table = pass.table_id; key = pass.me.0.of }
