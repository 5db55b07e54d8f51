-- A text with edits, byte by byte, is the same line by line. For `edited_lines` (src/edits.rt), which
-- works byte by byte.
use Rattle.std.proofs.Common.{◌≡◌, ℕ, ◌+◌, Bool, true, false, ◌==◌, List, [], ◌∷◌, ◌++◌, drop, refl, ap, sym, ◌∙◌, arith}
use Rattle.std.proofs.lemmas.Bool.Decides.{nat_tests}
use Rattle.nc_text.specs.Lines.{Line, lines_of, onto_line}
use Rattle.line_edits.specs.declared.edits.Edit.{Edit}
use Rattle.line_edits.specs.Splice.{edited_lines, spliced_text, is_due, first_new}
use Rattle.line_edits.proofs.Splicing.{none, replaced, dropped}

-- a byte of a line that an edit names leaves no trace
left_out : (n : ℕ) (edits : List Edit) (b : ℕ) (lines : List Line) → is_due n edits ≡ true → edited_lines n edits (onto_line b lines) ≡ edited_lines n edits lines
left_out n edits b [] due = rw due refl
left_out n edits b (line ∷ lines) due = rw due refl

-- a byte of a line that no edit names stays before the rest of the line
kept : (n : ℕ) (edits : List Edit) (b : ℕ) (lines : List Line) → is_due n edits ≡ false → edited_lines n edits (onto_line b lines) ≡ b ∷ edited_lines n edits lines
kept n edits b [] due = rw due refl
kept n edits b (line ∷ lines) due = rw due refl

-- byte 10 is the line feed
line_feed : (b : ℕ) → (b == 10) ≡ true → b ≡ 10
line_feed b end = grind (arith, nat_tests)

-- a line feed at the head of a text ends an empty line
end_is : (b : ℕ) (bs : List ℕ) → (b == 10) ≡ true → lines_of (b ∷ bs) ≡ record { bytes = []; ended = true } ∷ lines_of bs
end_is b bs end = rw end refl

-- a byte that is no line feed goes onto the first line
byte_is : (b : ℕ) (bs : List ℕ) → (b == 10) ≡ false → lines_of (b ∷ bs) ≡ onto_line b (lines_of bs)
byte_is b bs other = rw other refl

-- an empty line that an edit names gives way to the edit's bytes
named_end : (n : ℕ) (edits : List Edit) (lines : List Line) → is_due n edits ≡ true
    → edited_lines n edits (record { bytes = []; ended = true } ∷ lines) ≡ first_new edits ++ edited_lines (n + 1) (drop 1 edits) lines
named_end n edits lines due = rw due refl

-- an empty line that no edit names keeps its line feed
other_end : (n : ℕ) (edits : List Edit) (lines : List Line) → is_due n edits ≡ false
    → edited_lines n edits (record { bytes = []; ended = true } ∷ lines) ≡ 10 ∷ edited_lines (n + 1) edits lines
other_end n edits lines due = rw due refl

-- byte by byte, a line feed of a line that no edit names stays, and the next line follows
other_feed : (n : ℕ) (edits : List Edit) (b : ℕ) (bs : List ℕ) → is_due n edits ≡ false → (b == 10) ≡ true
    → spliced_text n edits (b ∷ bs) ≡ b ∷ spliced_text (n + 1) edits bs
unfolding spliced_text
other_feed n edits b bs due end = rw (due, end) refl

-- byte by byte, a byte within a line that no edit names stays
other_byte : (n : ℕ) (edits : List Edit) (b : ℕ) (bs : List ℕ) → is_due n edits ≡ false → (b == 10) ≡ false
    → spliced_text n edits (b ∷ bs) ≡ b ∷ spliced_text n edits bs
unfolding spliced_text
other_byte n edits b bs due other = rw (due, other) refl

-- with one byte more in front, a text is the same both ways, if the rest is
one_byte : (n : ℕ) (edits : List Edit) (b : ℕ) (bs : List ℕ) (is_named is_end : Bool) → is_due n edits ≡ is_named → (b == 10) ≡ is_end
    → spliced_text n edits bs ≡ edited_lines n edits (lines_of bs)
    → spliced_text (n + 1) edits bs ≡ edited_lines (n + 1) edits (lines_of bs)
    → spliced_text (n + 1) (drop 1 edits) bs ≡ edited_lines (n + 1) (drop 1 edits) (lines_of bs)
    → spliced_text n edits (b ∷ bs) ≡ edited_lines n edits (lines_of (b ∷ bs))
one_byte n edits b bs true true due end here next behind =
    replaced n edits b bs due end ∙ ap (λ l. first_new edits ++ l) behind
    ∙ sym (named_end n edits (lines_of bs) due) ∙ ap (edited_lines n edits) (sym (end_is b bs end))
one_byte n edits b bs true false due end here next behind =
    dropped n edits b bs due end ∙ here ∙ sym (left_out n edits b (lines_of bs) due) ∙ ap (edited_lines n edits) (sym (byte_is b bs end))
one_byte n edits b bs false true due end here next behind =
    other_feed n edits b bs due end ∙ ap (λ x. x ∷ spliced_text (n + 1) edits bs) (line_feed b end) ∙ ap (λ l. 10 ∷ l) next
    ∙ sym (other_end n edits (lines_of bs) due) ∙ ap (edited_lines n edits) (sym (end_is b bs end))
one_byte n edits b bs false false due end here next behind =
    other_byte n edits b bs due end ∙ ap (λ l. b ∷ l) here ∙ sym (kept n edits b (lines_of bs) due) ∙ ap (edited_lines n edits) (sym (byte_is b bs end))

-- any text is the same both ways, from any line on
of_text : (text : List ℕ) (n : ℕ) (edits : List Edit) → spliced_text n edits text ≡ edited_lines n edits (lines_of text)
of_text [] n edits = none n edits
of_text (b ∷ bs) n edits = one_byte n edits b bs (is_due n edits) (b == 10) refl refl (of_text bs n edits) (of_text bs (n + 1) edits) (of_text bs (n + 1) (drop 1 edits))

-- a text with edits is the same byte by byte and line by line
pub by_lines : (n : ℕ) (edits : List Edit) (text : List ℕ) → spliced_text n edits text ≡ edited_lines n edits (lines_of text)
by_lines n edits text = of_text text n edits

-- a text without edits is itself
pub unedited : (n : ℕ) (text : List ℕ) → edited_lines n [] (lines_of text) ≡ text
unedited n [] = refl
unedited n (b ∷ bs) = go (unedited (n + 1) bs) (unedited n bs) (b == 10) refl
  where
    go : edited_lines (n + 1) [] (lines_of bs) ≡ bs → edited_lines n [] (lines_of bs) ≡ bs → (is_end : Bool) → (b == 10) ≡ is_end
        → edited_lines n [] (lines_of (b ∷ bs)) ≡ b ∷ bs
    go next here true e =
        ap (λ lines. edited_lines n [] lines) (end_is b bs e) ∙ other_end n [] (lines_of bs) refl
        ∙ ap (λ rest. 10 ∷ rest) next ∙ ap (λ c. c ∷ bs) (sym (line_feed b e))
    go next here false e =
        ap (λ lines. edited_lines n [] lines) (byte_is b bs e) ∙ kept n [] b (lines_of bs) refl ∙ ap (λ rest. b ∷ rest) here
