-- One byte more of a text with edits. For the loop of `splice` (src/edits.rt), and for ByLines. The
-- lemmas in `at_` speak of the byte at a place of the text.
use Rattle.std.proofs.Common.{◌≡◌, ℕ, ◌+◌, ◌<◌, ◌≤◌, Bool, true, false, cond, arith, ◌==◌, List, [], ◌∷◌, ◌++◌, drop, length, get_or, refl, ap, sym, ◌∙◌, append_assoc, append-nil}
use Rattle.std.proofs.lemmas.List.{drop_more}
use Rattle.line_edits.specs.declared.edits.Edit.{Edit}
use Rattle.line_edits.specs.Splice.{spliced_text, is_due, first_new, line_behind}

-- with no byte left nothing is written
pub none : (n : ℕ) (edits : List Edit) → spliced_text n edits [] ≡ []
unfolding spliced_text
none n edits = refl

-- the line feed of a line that an edit names gives way to the edit's bytes
pub replaced : (n : ℕ) (edits : List Edit) (b : ℕ) (bytes : List ℕ) → is_due n edits ≡ true → (b == 10) ≡ true → spliced_text n edits (b ∷ bytes) ≡ first_new edits ++ spliced_text (n + 1) (drop 1 edits) bytes
unfolding spliced_text
replaced n edits b bytes due end = rw (due, end) refl

-- any other byte of a line that an edit names goes
pub dropped : (n : ℕ) (edits : List Edit) (b : ℕ) (bytes : List ℕ) → is_due n edits ≡ true → (b == 10) ≡ false → spliced_text n edits (b ∷ bytes) ≡ spliced_text n edits bytes
unfolding spliced_text
dropped n edits b bytes due end = rw (due, end) refl

-- a byte of a line that no edit names stays
kept : (n : ℕ) (edits : List Edit) (b : ℕ) (bytes : List ℕ) → is_due n edits ≡ false → spliced_text n edits (b ∷ bytes) ≡ b ∷ spliced_text (line_behind n b) edits bytes
unfolding spliced_text
kept n edits b bytes due = rw due refl

-- the bytes from one on are that one and those behind it
rest_is : (text : List ℕ) (i b : ℕ) → b ≡ get_or text i 0 → i < length text → drop i text ≡ b ∷ drop (i + 1) text
rest_is text i b is before = drop_more text i 0 before ∙ ap (λ c. c ∷ drop (i + 1) text) (sym is)

-- at the end of the text, what is written is the text with its edits
pub at_end : (out all : List ℕ) (n : ℕ) (edits : List Edit) (rest : List ℕ) → rest ≡ [] → out ++ spliced_text n edits rest ≡ all → out ≡ all
at_end out all n edits rest empty so_far = sym (append-nil out) ∙ ap (λ l. out ++ l) (sym (none n edits)) ∙ ap (λ l. out ++ spliced_text n edits l) (sym empty) ∙ so_far

-- at a line feed that gives way, the edit's bytes are written, and it goes on with the next edit
pub at_line_end : (out new all : List ℕ) (n : ℕ) (edits : List Edit) (text : List ℕ) (i b : ℕ) → b ≡ get_or text i 0 → i < length text → out ++ spliced_text n edits (drop i text) ≡ all → is_due n edits ≡ true → (b == 10) ≡ true → new ≡ out ++ first_new edits → new ++ spliced_text (n + 1) (drop 1 edits) (drop (i + 1) text) ≡ all
at_line_end out new all n edits text i b is before so_far due end new_is =
    ap (λ l. l ++ spliced_text (n + 1) (drop 1 edits) (drop (i + 1) text)) new_is ∙ append_assoc out (first_new edits) (spliced_text (n + 1) (drop 1 edits) (drop (i + 1) text))
    ∙ ap (λ l. out ++ l) (sym (replaced n edits b (drop (i + 1) text) due end)) ∙ ap (λ l. out ++ spliced_text n edits l) (sym (rest_is text i b is before)) ∙ so_far

-- at a byte that goes, nothing is written
pub at_dropped : (out all : List ℕ) (n : ℕ) (edits : List Edit) (text : List ℕ) (i b : ℕ) → b ≡ get_or text i 0 → i < length text → out ++ spliced_text n edits (drop i text) ≡ all → is_due n edits ≡ true → (b == 10) ≡ false → out ++ spliced_text n edits (drop (i + 1) text) ≡ all
at_dropped out all n edits text i b is before so_far due end =
    ap (λ l. out ++ l) (sym (dropped n edits b (drop (i + 1) text) due end)) ∙ ap (λ l. out ++ spliced_text n edits l) (sym (rest_is text i b is before)) ∙ so_far

-- at a byte that stays, the byte is written
pub at_kept : (out new all : List ℕ) (n : ℕ) (edits : List Edit) (text : List ℕ) (i b : ℕ) → b ≡ get_or text i 0 → i < length text → out ++ spliced_text n edits (drop i text) ≡ all → is_due n edits ≡ false → new ≡ out ++ b ∷ [] → new ++ spliced_text (line_behind n b) edits (drop (i + 1) text) ≡ all
at_kept out new all n edits text i b is before so_far due new_is =
    ap (λ l. l ++ spliced_text (line_behind n b) edits (drop (i + 1) text)) new_is ∙ append_assoc out (b ∷ []) (spliced_text (line_behind n b) edits (drop (i + 1) text))
    ∙ ap (λ l. out ++ l) (sym (kept n edits b (drop (i + 1) text) due)) ∙ ap (λ l. out ++ spliced_text n edits l) (sym (rest_is text i b is before)) ∙ so_far

-- a byte ends at most one line
pub behind_is_near : (n b : ℕ) → line_behind n b ≤ n + 1
behind_is_near n b = go (b == 10)
  where
    go : (t : Bool) → cond t (n + 1) n ≤ n + 1
    go true = omega arith
    go false = omega arith
