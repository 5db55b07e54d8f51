-- What may come of a recording, by no call, a record more or a flush, and by one after another.
-- JournalsOn, StepsTaken and Then use it.
use Rattle.std.proofs.Common.{◌≡◌, ℕ, ◌+◌, ◌-◌, ◌*◌, ◌≤◌, ◌<◌, max, Bool, true, false, List, [], ◌++◌, length, take, drop, refl, sym, ◌∙◌, ap, subst, arith, length-append, append_assoc, append-nil}
use Rattle.std.specs.Prelude.{IsTrue, nat_lt, if◌then◌else◌}
use Rattle.std.proofs.lemmas.List.{take-append-le, drop-append-le, length-drop, drop_all}
use Rattle.std.proofs.lemmas.Grind.{flat_map-append}
use Rattle.disk_model.specs.Device.{DiskState}
use Rattle.disk_model.specs.Moments.{LeavesOnly, Uses}
use Rattle.disk_model.proofs.Runs.{joined, uses_add, uses_none, uses_widened}
use Rattle.gate_file.specs.Gate.{Gate}
use Rattle.run_records.specs.Entries.{Entry}
use Rattle.run_records.specs.declared.header.Header.{Header}
use Rattle.run_records.specs.Spelling.{entry_bytes}
use Rattle.run_journal.specs.Batches.{records_bytes, batch_bytes}
use Rattle.run_journal.specs.Kept.{Log}
use Rattle.run_journal.specs.Stands.{Stands}
use Rattle.run_table.specs.Recording.{RecordingView, StandsForPrefix, sent_count, most_bytes, Sends, Follows}

-- the most bytes of two lists of records, one after the other, are those of each added
most_append : (xs ys : List Entry) → most_bytes (xs ++ ys) ≡ most_bytes xs + most_bytes ys
most_append xs ys =
    let bytes : length (records_bytes (xs ++ ys)) ≡ length (records_bytes xs ++ records_bytes ys) = ap length (flat_map-append entry_bytes xs ys) in
    omega (arith, bytes, length-append (records_bytes xs) (records_bytes ys), length-append xs ys)

-- the most bytes of the records after the first n grow by those of the records that were added
most_behind : (n : ℕ) (before made after : List Entry) → n ≤ length before → after ≡ before ++ made
    → most_bytes (drop n after) ≡ most_bytes (drop n before) + most_bytes made
most_behind n before made after within is =
    ap (λ (l : List Entry). most_bytes (drop n l)) is ∙ ap most_bytes (drop-append-le n before made within) ∙ most_append (drop n before) made

-- while the journal may be written, the records that were sent are those flushed
sent_live : {D : Type 0} (r : RecordingView D) → r.log.file.live ≡ true → sent_count r ≡ r.flushed
sent_live r is = ap (λ (b : Bool). if b then r.flushed else length r.history) is

-- once the journal may not be written any more, all records count as sent
sent_dead : {D : Type 0} (r : RecordingView D) → r.log.file.live ≡ false → sent_count r ≡ length r.history
sent_dead r is = ap (λ (b : Bool). if b then r.flushed else length r.history) is

-- a recording whose history grew without a call of the disk
module _ {D : Type 0} (state : D → DiskState) (made : List Entry) (old new : RecordingView D)
    (history : new.history ≡ old.history ++ made) (file : new.log.file ≡ old.log.file) (flushed : new.flushed ≡ old.flushed) where
  -- the history is longer by the records made
  grown : length new.history ≡ length old.history + length made
  grown = ap length history ∙ length-append old.history made

  -- no fewer records are sent than before
  more_sent : sent_count old ≤ sent_count new
  more_sent = go old.log.file.live refl
    where
      same : new.log.file.live ≡ old.log.file.live
      same = ap (λ (f : Gate D). f.live) file

      go : (b : Bool) → old.log.file.live ≡ b → sent_count old ≤ sent_count new
      go true is = omega (arith, sent_live old is, sent_live new (ap (λ (f : Gate D). f.live) file ∙ is), flushed)
      go false is = omega (arith, sent_dead old is, sent_dead new (ap (λ (f : Gate D). f.live) file ∙ is), grown)

  -- without a call of the disk nothing more is sent
  pub sends_nothing : old.flushed ≤ length old.history → Sends state old new
  sends_nothing within = record {
    within = omega (arith, within, flushed, grown);
    more = more_sent;
    uses = subst (λ (f : Gate D). Uses (4 * (sent_count new - sent_count old)) (old.log.file.end + 1 + most_bytes (drop old.flushed new.history)) (state old.log.file.disk) (state f.disk)) (sym file)
        (uses_none (4 * (sent_count new - sent_count old)) (old.log.file.end + 1 + most_bytes (drop old.flushed new.history)) (state old.log.file.disk));
    end = λ live.
        let ends : new.log.file.end ≡ old.log.file.end = ap (λ (f : Gate D). f.end) file in
        let behind : most_bytes (drop new.flushed new.history) ≡ most_bytes (drop old.flushed new.history) = ap (λ (n : ℕ). most_bytes (drop n new.history)) flushed in
        omega (arith, ends, behind);
  }

-- two steps of a recording, one after the other
module _ {D : Type 0} (state : D → DiskState) (first second : List Entry) (a b c : RecordingView D)
    (before : b.history ≡ a.history ++ first) (after : c.history ≡ b.history ++ second) where
  -- the first step makes the history longer
  longer : length b.history ≡ length a.history + length first
  longer = ap length before ∙ length-append a.history first

  -- if the disk did not fail in the first step, both steps together send within the bounds of one
  joined_sends : a.flushed ≤ length a.history → b.log.file.live ≡ true → Sends state a b → Sends state b c → Sends state a c
  joined_sends within live s t =
      let lives : IsTrue b.log.file.live = live in
      let ends = s.end lives in
      let of_b = most_behind b.flushed b.history second c.history s.within after in
      let of_a = most_behind a.flushed b.history second c.history (omega (arith, within, longer)) after in
      record {
        within = t.within;
        more = omega (arith, s.more, t.more);
        uses = uses_widened (4 * (sent_count b - sent_count a) + 4 * (sent_count c - sent_count b)) (4 * (sent_count c - sent_count a))
            (max (a.log.file.end + 1 + most_bytes (drop a.flushed b.history)) (b.log.file.end + 1 + most_bytes (drop b.flushed c.history)))
            (a.log.file.end + 1 + most_bytes (drop a.flushed c.history)) (state a.log.file.disk) (state c.log.file.disk)
            (uses_add (4 * (sent_count b - sent_count a)) (4 * (sent_count c - sent_count b)) (a.log.file.end + 1 + most_bytes (drop a.flushed b.history))
            (b.log.file.end + 1 + most_bytes (drop b.flushed c.history)) (state a.log.file.disk) (state b.log.file.disk) (state c.log.file.disk) s.uses t.uses)
            (omega (arith, s.more, t.more)) (omega (arith, ends, of_a, of_b));
        end = λ still. omega (arith, ends, of_a, of_b, t.end still);
      }

  -- if the disk failed in the first step, both steps together send what the first did
  last_sends : a.flushed ≤ length a.history → b.log.file.live ≡ false → c.log.file ≡ b.log.file → Sends state a b → Sends state b c → Sends state a c
  last_sends within dead same s t =
      let of_a = most_behind a.flushed b.history second c.history (omega (arith, within, longer)) after in
      record {
        within = t.within;
        more = omega (arith, s.more, t.more);
        uses = subst (λ (f : Gate D). Uses (4 * (sent_count c - sent_count a)) (a.log.file.end + 1 + most_bytes (drop a.flushed c.history)) (state a.log.file.disk) (state f.disk)) (sym same)
            (uses_widened (4 * (sent_count b - sent_count a)) (4 * (sent_count c - sent_count a)) (a.log.file.end + 1 + most_bytes (drop a.flushed b.history))
            (a.log.file.end + 1 + most_bytes (drop a.flushed c.history)) (state a.log.file.disk) (state b.log.file.disk) s.uses
            (omega (arith, s.more, t.more)) (omega (arith, of_a)));
        end = λ still.
            let clash : IsTrue false = subst IsTrue (ap (λ (f : Gate D). f.live) same ∙ dead) still in
            absurd cc;
      }

  -- both steps together send within the bounds of one
  pub sends_more : a.flushed ≤ length a.history → (b.log.file.live ≡ false → c.log.file ≡ b.log.file) → Sends state a b → Sends state b c → Sends state a c
  sends_more within rests s t = go b.log.file.live refl
    where
      go : (live : Bool) → b.log.file.live ≡ live → Sends state a c
      go true is = joined_sends within is s t
      go false is = last_sends within is (rests is) s t

  -- an image that stands for a prefix of the shorter history stands for one of the longer
  from_first : (header : Header) (x : List ℕ) → StandsForPrefix header a.flushed b.history x → StandsForPrefix header a.flushed c.history x
  from_first header x stands = (
    stands.0,
    stands.1,
    omega (arith, stands.2, ap length after, length-append b.history second),
    subst (λ (l : List Entry). Stands header l x) (sym (ap (take stands.0) after ∙ take-append-le stands.0 b.history second stands.2)) stands.3,
  )

  -- an image with more flushed records has those that were flushed before
  from_second : (header : Header) → a.flushed ≤ b.flushed → (x : List ℕ) → StandsForPrefix header b.flushed c.history x → StandsForPrefix header a.flushed c.history x
  from_second header less x stands = (stands.0, omega (arith, less, stands.1), stands.2, stands.3)

  -- at each moment of both steps the disk leaves an image that stands for such a prefix
  moments_more : (header : Header) → a.flushed ≤ b.flushed
      → LeavesOnly (StandsForPrefix header a.flushed b.history) (state a.log.file.disk) (state b.log.file.disk)
      → LeavesOnly (StandsForPrefix header b.flushed c.history) (state b.log.file.disk) (state c.log.file.disk)
      → LeavesOnly (StandsForPrefix header a.flushed c.history) (state a.log.file.disk) (state c.log.file.disk)
  moments_more header less f s =
      joined (StandsForPrefix header a.flushed b.history) (StandsForPrefix header b.flushed c.history) (StandsForPrefix header a.flushed c.history)
      (state a.log.file.disk) (state b.log.file.disk) (state c.log.file.disk) f s (from_first header) (from_second header less)

-- no call has failed, if the journal may be written at the end
calm_more : {D : Type 0} (state : D → DiskState) (a b c : RecordingView D)
    → (IsTrue b.log.file.live → (state b.log.file.disk).faults ≡ (state a.log.file.disk).faults)
    → (IsTrue c.log.file.live → (state c.log.file.disk).faults ≡ (state b.log.file.disk).faults)
    → (b.log.file.live ≡ false → c.log.file ≡ b.log.file) → IsTrue c.log.file.live
    → (state c.log.file.disk).faults ≡ (state a.log.file.disk).faults
calm_more state a b c first second rests still = go b.log.file.live refl
  where
    go : (live : Bool) → b.log.file.live ≡ live → (state c.log.file.disk).faults ≡ (state a.log.file.disk).faults
    go true is = second still ∙ first is
    go false is =
        let clash : IsTrue false = subst IsTrue (ap (λ (f : Gate _). f.live) (rests is) ∙ is) still in
        absurd cc

-- two steps, one after the other, are one step with both lists of records
pub follows_more : {D : Type 0} (state : D → DiskState) (first second : List Entry) (a b c : RecordingView D)
    → Follows state first a b → Follows state second b c → Follows state (first ++ second) a c
follows_more state first second a b c f s = record {
  history = s.history ∙ ap (λ (l : List Entry). l ++ second) f.history ∙ append_assoc a.history first second;
  flushed = omega (arith, f.flushed, s.flushed);
  version = s.version ∙ f.version;
  journal = λ header j.
      let k = f.journal header j in
      let l = s.journal header k.journaled in
      record {
        journaled = l.journaled;
        any_moment = λ bytes reads.
            let told = f.told bytes reads in
            moments_more state first second a b c f.history s.history header f.flushed (k.any_moment bytes reads) (l.any_moment told.0 told.1);
      };
  sends = λ within.
      let one = f.sends within in
      sends_more state first second a b c f.history s.history within s.rests one (s.sends one.within);
  told = λ bytes reads. let told = f.told bytes reads in s.told told.0 told.1;
  rests = λ dead. s.rests (ap (λ (g : Gate _). g.live) (f.rests dead) ∙ dead) ∙ f.rests dead;
  later = omega (arith, f.later, s.later);
  calm = calm_more state a b c f.calm s.calm s.rests;
}

-- the steps of a flush of the records that pend
module _ {D : Type 0} (state : D → DiskState) (history : List Entry) (room flushed now : ℕ) (log log' : Log D)
    (within : flushed ≤ length history) (batch : log.batch ≡ batch_bytes (drop flushed history)) (live : IsTrue log.file.live)
    (idle : flushed ≡ length history → log'.file ≡ log.file)
    (uses : Uses 4 (log.file.end + length log.batch + 6) (state log.file.disk) (state log'.file.disk)) where
  -- the recording before the flush
  abbrev old : RecordingView D
  old = record { history = history; room = room; flushed = flushed; log = log }

  -- the recording after the flush
  abbrev new : RecordingView D
  new = record { history = history; room = room; flushed = now; log = log' }

  -- the records that pend and those flushed are all
  pending : length (drop flushed history) + flushed ≡ length history
  pending = omega (arith, within, length-drop flushed history)

  -- the batch is a byte and then its records
  bytes : length log.batch ≡ 1 + length (records_bytes (drop flushed history))
  bytes = omega (arith, ap length batch)

  -- a flush sends each record that pends, within the bytes of all of them
  some_sent : flushed < length history → sent_count new ≡ length history → Uses (4 * (sent_count new - sent_count old)) (log.file.end + 1 + most_bytes (drop flushed history)) (state log.file.disk) (state log'.file.disk)
  some_sent some all =
      uses_widened 4 (4 * (sent_count new - sent_count old)) (log.file.end + length log.batch + 6) (log.file.end + 1 + most_bytes (drop flushed history))
      (state log.file.disk) (state log'.file.disk) uses (omega (arith, some, all, sent_live old live)) (omega (arith, some, bytes, pending))

  -- a flush that is done sends each record that pends, within the bytes of all of them
  pub sends_flushed : now ≡ length history → log'.file.live ≡ true → (flushed < length history → log'.file.end ≡ log.file.end + 5 + length log.batch)
      → Sends state (record { history = history; room = room; flushed = flushed; log = log }) (record { history = history; room = room; flushed = now; log = log' })
  sends_flushed all still moved = go (nat_lt flushed (length history)) refl
    where
      go : (some : Bool) → nat_lt flushed (length history) ≡ some → Sends state old new
      go true is =
          let some : flushed < length history = grind arith in
          let sends : sent_count new ≡ length history = sent_live new still ∙ all in
          let none : most_bytes (drop now history) ≡ 0 = ap (λ (n : ℕ). most_bytes (drop n history)) all ∙ ap most_bytes (drop_all (length history) history (omega arith)) in
          record {
            within = omega (arith, all);
            more = omega (arith, some, sends, sent_live old live);
            uses = some_sent some sends;
            end = λ lives. omega (arith, none, moved some, bytes, pending, some);
          }
      go false is =
          let none : flushed ≡ length history = grind arith in
          sends_nothing state [] old new (sym (append-nil history)) (idle none) (all ∙ sym none) within

  -- a flush that failed sends each record that pends, within the bytes of all of them
  pub sends_failed : now ≡ flushed → log'.file.live ≡ false
      → Sends state (record { history = history; room = room; flushed = flushed; log = log }) (record { history = history; room = room; flushed = now; log = log' })
  sends_failed stays dead = go (nat_lt flushed (length history)) refl
    where
      go : (some : Bool) → nat_lt flushed (length history) ≡ some → Sends state old new
      go true is =
          let some : flushed < length history = grind arith in
          let sends : sent_count new ≡ length history = sent_dead new dead in
          record {
            within = omega (arith, stays, within);
            more = omega (arith, some, sends, sent_live old live);
            uses = some_sent some sends;
            end = λ lives. let clash : IsTrue false = subst IsTrue dead lives in absurd cc;
          }
      go false is =
          let none : flushed ≡ length history = grind arith in
          sends_nothing state [] old new (sym (append-nil history)) (idle none) stays within
