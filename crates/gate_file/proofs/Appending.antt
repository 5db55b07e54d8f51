-- The four calls of the disk in an append to a file of gates (write, sync, open the gate, sync),
-- and what the disk may have after each. `add_staged` (src/gate.rt) rests on it.
use Rattle.std.proofs.Common.{inl, ℕ, ◌+◌, List, [], ◌∷◌, ◌++◌, length, Some, ◌∙◌, ap, subst}
use Rattle.disk_model.specs.Device.{DiskState, Torn, Tears, Looks, Reads, Only, written_over}
use Rattle.disk_model.specs.Moments.{LeavesOnly}
use Rattle.gate_file.specs.Chain.{IsBeforeOrAfter, IsStaged}
use Rattle.gate_file.specs.Gate.{Keeps}
use Rattle.disk_model.proofs.Runs.{begun, goes_on}
use Rattle.gate_file.proofs.Staged.{torn_behind, torn_gate, with_gate, written_behind, written_gate, opened, opened_place}

-- A file that keeps these bodies, and staged entries of more: bytes that are to be written after
-- its shut gate, and count once that is open.
module _ (bodies more : List (List ℕ)) (staged : List ℕ) (end : ℕ) (first : DiskState) (is : IsStaged more staged) (keeps : Keeps bodies first end) where
  -- the bytes with the staged entries, after a gate of this byte
  abbrev gated : ℕ → List ℕ
  gated = with_gate bodies end staged keeps.bytes keeps.behind keeps.opens keeps.place

  -- the first write leaves the bodies as they were
  pub moment_1 : (wrote : DiskState) → Tears (end + 1) (length staged) first wrote → LeavesOnly (IsBeforeOrAfter bodies more) first wrote
  moment_1 wrote tears =
      begun (IsBeforeOrAfter bodies more) (Torn (end + 1) (length staged)) first wrote tears.time
      (λ b c image torn. inl (torn_behind bodies end staged keeps.bytes keeps.behind keeps.opens keeps.place (length staged) c (subst (λ (f : List ℕ). Torn (end + 1) (length staged) f c) (keeps.only b image) torn)))

  -- after the first write and its sync the file has the staged entries after a shut gate
  pub reads_2 : (wrote synced : DiskState) → ((old : List ℕ) → Reads first old → Reads wrote (written_over old (end + 1) staged)) → Looks wrote synced → Reads synced (gated 0)
  reads_2 wrote synced written looks =
      looks.same ∙ written keeps.bytes keeps.reads ∙ ap (λ (l : List ℕ). Some l) (written_behind bodies end staged keeps.bytes keeps.behind keeps.opens keeps.place)

  -- the second write, that of the open gate, leaves the bodies with the staged ones or without
  pub moment_3 : (synced wrote : DiskState) → Reads synced (gated 0) → ((b : List ℕ) → Reads synced b → Only b synced.image) → LeavesOnly (IsBeforeOrAfter bodies more) first synced → Tears end 1 synced wrote → LeavesOnly (IsBeforeOrAfter bodies more) first wrote
  moment_3 synced wrote reads durable so_far tears =
      goes_on (IsBeforeOrAfter bodies more) (Torn end 1) first synced wrote so_far tears.time
      (λ b c image torn. torn_gate bodies end staged keeps.bytes keeps.behind keeps.opens keeps.place more is c (subst (λ (f : List ℕ). Torn end 1 f c) (durable (gated 0) reads b image) torn))

  -- after the last write and its sync the disk keeps the bodies and those more
  pub kept_4 : (synced wrote last : DiskState) → Reads synced (gated 0) → ((old : List ℕ) → Reads synced old → Reads wrote (written_over old end (1 ∷ []))) → Looks wrote last → ((b : List ℕ) → Reads last b → Only b last.image) → Keeps (bodies ++ more) last (end + length staged)
  kept_4 synced wrote last reads written looks durable =
      let now : Reads last (gated 1) = looks.same ∙ written (gated 0) reads ∙ ap (λ (l : List ℕ). Some l) (written_gate bodies end staged keeps.bytes keeps.behind keeps.opens keeps.place) in
      record {
        bytes = gated 1;
        behind = _;
        reads = now;
        opens = opened bodies end staged keeps.bytes keeps.behind keeps.opens keeps.place more is;
        place = opened_place bodies end staged keeps.bytes keeps.behind keeps.opens keeps.place;
        only = durable (gated 1) now;
      }
