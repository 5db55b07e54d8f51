-- Records in batches of 64, one batch more after those that are there. The loops of
-- `journal_bodies` and `gather` (src/filling.rt) rest on it.
use Rattle.std.proofs.Common.{◌≡◌, ℕ, ◌+◌, ◌-◌, ◌≤◌, ◌<◌, List, [], ◌∷◌, ◌++◌, length, take, drop, get_or, refl, sym, ap, subst, arith, ◌∙◌, length-drop}
use Rattle.std.proofs.Math.Seq.{take-add}
use Rattle.std.proofs.lemmas.List.{get_or-drop, take_more, length-take-le}
use Rattle.run_records.specs.declared.header.Header.{Header}
use Rattle.run_records.specs.declared.version.Version.{Version}
use Rattle.run_records.specs.declared.version.Version.TheVariants.{One, Two}
use Rattle.run_records.specs.Entries.{Entry}
use Rattle.run_records.specs.Headers.{IsShort}
use Rattle.run_journal.specs.Batches.{Piece, a_batch, the_mark, bodies_of, records_in, version_behind, IsBatch, IsPiece, ArePieces}
use Rattle.run_journal.specs.Filled.{newest, AreFull, IsFilled}
use Rattle.run_journal.specs.Stands.{Pends}
use Rattle.run_journal.proofs.Batches.{pieces_push, joined_push, bodies_push}

-- the records from start up to index, and the one at index, are those up to the next index
pub one_more : (items : List Entry) (start index : ℕ) (e : Entry) → start ≤ index → index < length items
    → e ≡ get_or items index e
    → take (index + 1 - start) (drop start items) ≡ take (index - start) (drop start items) ++ e ∷ []
one_more items start index e order within is =
    let size : index + 1 - start ≡ (index - start) + 1 = omega arith in
    let there : index - start < length (drop start items) = omega (arith, length-drop start items) in
    let place : start + (index - start) ≡ index = omega arith in
    let same : get_or (drop start items) (index - start) e ≡ e =
    get_or-drop start items (index - start) e ∙ ap (λ (n : ℕ). get_or items n e) place ∙ sym is in
    ap (λ (n : ℕ). take n (drop start items)) size ∙ take_more (drop start items) (index - start) e there
    ∙ ap (λ (x : Entry). take (index - start) (drop start items) ++ x ∷ []) same

-- each piece has 64 records
abbrev pub AreWhole : List Piece → Type 0
AreWhole [] = Unit {0}
AreWhole (piece ∷ pieces) = (length (records_in piece) ≡ 64) × AreWhole pieces

-- The bodies are those of a header of version 2 and these records; where more records are to come
-- each batch has 64.
pub record IsFilling (header : Header) (at upto : ℕ) (items : List Entry) (bodies : List (List ℕ)) : Type 0 where
  -- at most all of them are filled in
  pub within : at ≤ upto
  -- the bodies are those of the records so far
  pub filled : IsFilled (newest header) (take at items) bodies
  -- if more are to come, each batch has 64
  pub whole : at < upto → AreWhole filled.pieces

-- a journal of version 2 stays one of version 2
stays_two : (pieces : List Piece) → ArePieces Two pieces → version_behind Two pieces ≡ Two
stays_two [] are = refl
stays_two (a_batch batch ∷ pieces) are = stays_two pieces are.1
stays_two (the_mark ∷ pieces) are = absurd (two_is_not_one are.0) where
  two_is_not_one : Two ≡ One → ⊥
  two_is_not_one same = absurd (cc)

-- after pieces of 64 records each, the last piece may have fewer
full_push : (pieces : List Piece) (piece : Piece) → AreWhole pieces → AreFull (pieces ++ piece ∷ [])
full_push [] piece whole = tt
full_push (x ∷ []) piece whole = (whole.0, tt)
full_push (x ∷ y ∷ pieces) piece whole = (whole.0, full_push (y ∷ pieces) piece whole.1)

-- pieces of 64 records each, with one more of 64, are such pieces
whole_push : (pieces : List Piece) (piece : Piece) → AreWhole pieces → length (records_in piece) ≡ 64 → AreWhole (pieces ++ piece ∷ [])
whole_push [] piece whole is = (is, tt)
whole_push (x ∷ pieces) piece whole is = (whole.0, whole_push pieces piece whole.1 is)

-- the first `upto` of these records are written under this header
module _ (header : Header) (upto : ℕ) (items : List Entry) where
  -- the header alone is the journal's bodies of no record
  pub none_filled : (bodies : List (List ℕ)) → IsShort header → bodies ≡ bodies_of (newest header) [] → IsFilling header 0 upto items bodies
  none_filled bodies short are = record {
    within = omega arith;
    filled = record { pieces = []; run = record { short = short; are = tt; joins = refl }; full = tt; are = are };
    whole = λ less. tt;
  }

  -- one batch more, of 64 or of all that are left, gives the bodies up to its end
  pub batch_filled : (at end : ℕ) (bodies new : List (List ℕ)) (batch : List ℕ) → IsFilling header at upto items bodies
      → at < end → end ≤ upto → end ≤ at + 64 → (end < upto → end ≡ at + 64) → upto ≤ length items
      → Pends Two (take (end - at) (drop at items)) batch → new ≡ bodies ++ batch ∷ [] → IsFilling header end upto items new
  batch_filled at end bodies new batch filling some within few all there pends pushed =
      let more = take (end - at) (drop at items) in
      let was = filling.filled in
      let size : length more ≡ end - at = length-take-le (end - at) (drop at items) (omega (arith, length-drop at items)) in
      let upto_end : end ≡ at + (end - at) = omega arith in
      let joined : take end items ≡ take at items ++ more =
      ap (λ (n : ℕ). take n items) upto_end ∙ take-add at (end - at) items in
      let is : IsBatch Two more =
      record { some = omega (arith, size); few = omega (arith, size); are = pends.are } in
      record {
        within = within;
        filled = record {
          pieces = was.pieces ++ a_batch more ∷ [];
          run = record {
            short = was.run.short;
            are = pieces_push Two was.pieces (a_batch more) was.run.are
                (subst (λ (v : Version). IsPiece v (a_batch more)) (sym (stays_two was.pieces was.run.are)) is);
            joins = joined ∙ ap (λ (l : List Entry). l ++ more) was.run.joins ∙ sym (joined_push was.pieces (a_batch more));
          };
          full = full_push was.pieces (a_batch more) (filling.whole (omega arith));
          are = pushed ∙ ap (λ (l : List (List ℕ)). l ++ batch ∷ []) was.are
              ∙ ap (λ (b : List ℕ). bodies_of (newest header) was.pieces ++ b ∷ []) pends.bytes
              ∙ sym (bodies_push (newest header) was.pieces (a_batch more));
        };
        whole = λ less. whole_push was.pieces (a_batch more) (filling.whole (omega arith)) (omega (arith, size, all less));
      }

  -- once all records are in batches, the bodies are those of the filled journal
  pub all_filled : (at : ℕ) (bodies : List (List ℕ)) → IsFilling header at upto items bodies → upto ≤ at
      → IsFilled (newest header) (take upto items) bodies
  all_filled at bodies filling past =
      let same : at ≡ upto = omega (arith, filling.within, past) in
      subst (λ (n : ℕ). IsFilled (newest header) (take n items) bodies) same filling.filled
