-- The records of a batch, read one by one, and which bodies are pieces of a journal. The loop of
-- `read_records`, `read_batch` and `read_piece` (src/reading.rt) rest on it.
use Rattle.std.proofs.Common.{◌≡◌, ◌⊎◌, ℕ, ◌+◌, ◌-◌, ◌≤◌, ◌<◌, List, [], ◌∷◌, ◌++◌, length, take, drop, get_or, refl, sym, ◌∙◌, ap, subst, arith, append_assoc, length-append, length-drop, Some}
use Rattle.std.proofs.lemmas.List.{append-nil, take_all, drop_at, drop_all}
use Rattle.run_records.specs.declared.bad_record.BadRecord.{BadRecord}
use Rattle.run_records.specs.declared.bad_record.BadRecord.TheVariants.{WrongLength, WrongCount}
use Rattle.run_records.specs.Entries.{Entry}
use Rattle.run_records.specs.Spelling.{entry_bytes, IsEntry}
use Rattle.run_records.specs.declared.version.Version.{Version}
use Rattle.run_journal.specs.Batches.{records_bytes, a_batch, MayStand}
use Rattle.run_journal.specs.Bad.{cause_for, Begins, IsBadBatch, empty, uncounted, unread, late}
use Rattle.run_journal.specs.Places.{record_places}
use Rattle.run_journal.specs.Reading.{IsRecordsRead, IsUnread, IsBatchRead, IsPieceRead}
use Rattle.run_journal.proofs.Batches.{are_push, records_push}

-- the offset of one record more is where the bytes before it end
places_push : (at : ℕ) (entries : List Entry) (e : Entry) → record_places at (entries ++ e ∷ []) ≡ record_places at entries ++ (at + length (records_bytes entries)) ∷ []
places_push at [] e = ap (λ (n : ℕ). n ∷ []) (let none : at ≡ at + 0 = omega arith in none)
places_push at (x ∷ entries) e =
    let n = length (entry_bytes x) in
    let same : at + n + length (records_bytes entries) ≡ at + length (records_bytes (x ∷ entries)) = omega (arith, length-append (entry_bytes x) (records_bytes entries)) in
    ap (λ (l : List ℕ). at ∷ l) (places_push (at + n) entries e ∙ ap (λ (k : ℕ). record_places (at + n) entries ++ k ∷ []) same)

-- what stands after the records that are read
rest_is : (front rest bytes : List ℕ) → bytes ≡ front ++ rest → drop (length bytes - length rest) bytes ≡ rest
rest_is front rest bytes is =
    let size : length bytes - length rest ≡ length front = omega (arith, ap length is, length-append front rest) in
    ap (λ (n : ℕ). drop n bytes) size ∙ ap (drop (length front)) is ∙ drop_at front rest (length front) refl

-- these bytes are read as records, and the first stands at this offset
module _ (version : Version) (at : ℕ) (bytes : List ℕ) (old : List Entry) (places_old : List ℕ) where
  -- before the first record nothing is read
  pub none_read : IsRecordsRead version 0 at bytes bytes old old places_old places_old
  none_read = record { batch = []; count_is = refl; are = tt; bytes_are = refl; entries = sym (append-nil old); offsets = sym (append-nil places_old) }

  -- so many records are read, and these bytes are left
  module _ (round : ℕ) (rest : List ℕ) (now : List Entry) (places_now : List ℕ) (read : IsRecordsRead version round at bytes rest old now places_old places_now) where
    -- the bytes are those of the records that are read and those that are left
    front_size : length bytes ≡ length (records_bytes read.batch) + length rest
    front_size = ap length read.bytes_are ∙ length-append (records_bytes read.batch) rest

    -- no more bytes are left than there were
    pub rest_within : length rest ≤ length bytes
    rest_within = omega (arith, front_size)

    -- once one record more is read, one round more is done
    pub read_more : (after : List ℕ) (e : Entry) (more : List Entry) (place : ℕ) (places_more : List ℕ) → IsEntry e → MayStand version e → rest ≡ entry_bytes e ++ after → more ≡ now ++ e ∷ [] → place ≡ at + (length bytes - length rest) → places_more ≡ places_now ++ place ∷ []
        → IsRecordsRead version (round + 1) at bytes after old more places_old places_more
    read_more after e more place places_more is may split pushed stands marked =
        let here : place ≡ at + length (records_bytes read.batch) = omega (arith, stands, front_size) in
        record {
          batch = read.batch ++ e ∷ [];
          count_is = omega (arith, read.count_is, length-append read.batch (e ∷ []));
          are = are_push version read.batch e read.are is may;
          bytes_are =
              read.bytes_are ∙ ap (λ (l : List ℕ). records_bytes read.batch ++ l) split ∙ sym (append_assoc (records_bytes read.batch) (entry_bytes e) after)
              ∙ ap (λ (l : List ℕ). l ++ after) (sym (records_push read.batch e));
          entries = pushed ∙ ap (λ (l : List Entry). l ++ e ∷ []) read.entries ∙ append_assoc old read.batch (e ∷ []);
          offsets =
              marked ∙ ap (λ (l : List ℕ). l ++ place ∷ []) read.offsets ∙ append_assoc places_old (record_places at read.batch) (place ∷ [])
              ∙ ap (λ (n : ℕ). places_old ++ (record_places at read.batch ++ n ∷ [])) here ∙ ap (λ (l : List ℕ). places_old ++ l) (sym (places_push at read.batch e));
        }

    -- when all records that are counted are read, the reading is done
    pub read_all : (count : ℕ) → round ≡ count → IsRecordsRead version count at bytes (drop (length bytes - length rest) bytes) old now places_old places_now
    read_all count all = record {
      batch = read.batch;
      count_is = read.count_is ∙ all;
      are = read.are;
      bytes_are = read.bytes_are ∙ ap (λ (l : List ℕ). records_bytes read.batch ++ l) (sym (rest_is (records_bytes read.batch) rest bytes read.bytes_are));
      entries = read.entries;
      offsets = read.offsets;
    }

    -- if no record stands next, the reading ends there, for this cause
    pub read_none : (count place : ℕ) (cause : BadRecord) → round < count → place ≡ length bytes - length rest → cause_for version rest ≡ Some cause → IsUnread version count bytes place cause
    read_none count place cause less stands none = record {
      whole = read.batch;
      rest = rest;
      few = omega (arith, read.count_is, less);
      are = read.are;
      bytes_are = read.bytes_are;
      place_is = omega (arith, stands, front_size);
      none = none;
    }

-- a body that begins with a count from 1 to 64, and the bytes after it
module _ (version : Version) (count at : ℕ) (records body : List ℕ) (is : body ≡ count ∷ records) (some : 1 ≤ count) (few : count ≤ 64) where
  -- if fewer records are whole than the body counts, it is no batch, for that cause
  pub bad_unread : (place : ℕ) (cause : BadRecord) → IsUnread version count records place cause → IsBadBatch version body (1 + place) cause
  bad_unread place cause none =
      let begins : Begins version count none.whole none.rest body = record { some = some; few = few; are = none.are; bytes = is ∙ ap (λ (l : List ℕ). count ∷ l) none.bytes_are } in
      subst (λ (n : ℕ). IsBadBatch version body (1 + n) cause) (sym none.place_is) (unread count none.whole none.rest cause begins none.few none.none)

  -- all records that the body counts are read, and they take so many bytes
  module _ (size : ℕ) (old new : List Entry) (places_old places_new : List ℕ) (read : IsRecordsRead version count (at + 1) records (drop size records) old new places_old places_new) where
    -- the body is its count, these records and what stands after them
    begins : Begins version (length read.batch) read.batch (drop size records) body
    begins = record {
      some = omega (arith, some, read.count_is);
      few = omega (arith, few, read.count_is);
      are = read.are;
      bytes = is ∙ ap (λ (n : ℕ). n ∷ records) (sym read.count_is) ∙ ap (λ (l : List ℕ). length read.batch ∷ l) read.bytes_are;
    }

    -- if bytes are left after the last record, the body is no batch
    pub bad_late : size < length records → IsBadBatch version body 0 WrongLength
    bad_late less = late read.batch (drop size records) begins (λ none. let left = length-drop size records in omega (arith, ap length none, left, less))

    -- if none is left, the body is the batch of these records
    pub batch_read : length records ≤ size → IsBatchRead version at body old new places_old places_new
    batch_read all = record {
      batch = read.batch;
      is = record { some = begins.some; few = begins.few; are = read.are };
      body_is = begins.bytes ∙ ap (λ (l : List ℕ). length read.batch ∷ (records_bytes read.batch ++ l)) (drop_all size records all) ∙ ap (λ (l : List ℕ). length read.batch ∷ l) (append-nil (records_bytes read.batch));
      entries = read.entries;
      offsets = read.offsets;
    }

-- a body that is read as a batch is a piece
pub piece_read : (version : Version) (at : ℕ) (body : List ℕ) (old new : List Entry) (places_old places_new : List ℕ) → IsBatchRead version at body old new places_old places_new → IsPieceRead version version at body old new places_old places_new
piece_read version at body old new places_old places_new read = record {
  piece = a_batch read.batch;
  is = read.is;
  version_is = refl;
  body_is = read.body_is;
  entries = read.entries;
  offsets = read.offsets;
}

-- the first byte of a body, and the others
pub count_first : (body : List ℕ) → 1 ≤ length body → body ≡ get_or body 0 0 ∷ take (length body - 1) (drop 1 body)
count_first [] some = absurd (omega (arith, some))
count_first (count ∷ records) some = ap (λ (l : List ℕ). count ∷ l) (sym (take_all (length (count ∷ records) - 1) records (omega arith)))

-- an empty body is no batch
pub bad_empty : (version : Version) (body : List ℕ) → length body < 1 → IsBadBatch version body 0 WrongCount
bad_empty version [] none = empty refl
bad_empty version (count ∷ records) none = absurd (omega (arith, none))

-- a body that counts no record, or more than 64, is no batch
pub bad_count : (version : Version) (count : ℕ) (records body : List ℕ) → body ≡ count ∷ records → (count ≡ 0) ⊎ (64 < count) → IsBadBatch version body 0 WrongCount
bad_count version count records body is wrong = uncounted count records is wrong
