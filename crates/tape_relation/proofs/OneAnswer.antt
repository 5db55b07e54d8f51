-- The relation gives one answer: one tape, or one fault, and never both. For Agrees, which shows
-- that the reader's answer is that one.
use Rattle.std.proofs.Common.{◌≡◌, ℕ, ◌+◌, ◌<◌, Bool, true, false, ◌||◌, List, [], ◌∷◌, ◌++◌, length, Some, ◌⊎◌, inl, inr, refl, ap, sym, subst, ◌∙◌, arith}
use Rattle.std.specs.List.{list_any}
use Rattle.nc_number.proofs.Bools.{neither}
use Rattle.nc_text.specs.declared.fault.TextFault.{TextFault}
use Rattle.nc_text.specs.declared.tape.Program.{Program}
use Rattle.line_text.specs.declared.said.Said.TheVariants as said
use Rattle.line_text.specs.Refusals.{refusal_number}
use Rattle.nc_text.specs.Lines.{Line}
use Rattle.tape_relation.specs.Parts.{before_percent, body_of}
use Rattle.tape_relation.proofs.LineRead.{says, says_program, says_something, is_program, is_something, blocks_on, SayPrograms}
use Rattle.tape_relation.proofs.LineSays.{silent_read}
use Rattle.tape_relation.proofs.ProgramsSay.{programs_read}
use Rattle.tape_relation.specs.Conditions.{IsLeast, NoneHolds}
use Rattle.tape_relation.specs.Relation.{fault_at, IsFirstFault, LacksProgram, LacksEnd, IsFaultOf, IsTapeOf}
use Rattle.std.proofs.lemmas.List.Folds.{list_any-append}

-- whether the first line passes the test; true if there is no line
abbrev starts_with : (Line → Bool) → List Line → Bool
starts_with test [] = true
starts_with test (line ∷ lines) = test line

-- if no line passes a test, the first one does not
first_passes : (test : Line → Bool) (x : Line) (xs ys : List Line) → test x ≡ true → list_any test (x ∷ xs) ≡ false → ⊥
first_passes test x xs ys on off = let bad : true ≡ false = rw on at off in absurd cc

-- lines can be cut before the first one that passes a test in one way only
one_cut : (test : Line → Bool) (a b c d : List Line) → a ++ b ≡ c ++ d → list_any test a ≡ false → list_any test c ≡ false → starts_with test b ≡ true → starts_with test d ≡ true → (a ≡ c) × (b ≡ d)
one_cut test [] b [] d e p q r s = (refl, e)
one_cut test [] [] (y ∷ c) d e p q r s = absurd cc
one_cut test [] (x ∷ b) (y ∷ c) d e p q r s = let same : x ≡ y = cc in absurd (first_passes test y c d (sym (ap test same) ∙ r) q)
one_cut test (x ∷ a) b [] [] e p q r s = absurd cc
one_cut test (x ∷ a) b [] (y ∷ d) e p q r s = let same : x ≡ y = cc in absurd (first_passes test x a b (ap test same ∙ s) p)
one_cut test (x ∷ a) b (y ∷ c) d e p q r s =
    let same : x ≡ y = cc in
    let rest : a ++ b ≡ c ++ d = cc in
    let later = one_cut test a b c d rest (neither (test x) (list_any test a) p).1 (neither (test y) (list_any test c) q).1 r s in
    let first = later.0 in (cc, later.1)

-- lines of programs begin with an O number, or are none
programs_start : (skips n : ℕ) (lines : List Line) (programs : List Program) → SayPrograms skips n lines programs → starts_with (says_program skips) lines ≡ true
programs_start skips n [] programs are = refl
programs_start skips n (line ∷ lines) [] are = absurd cc
programs_start skips n (line ∷ lines) (program ∷ programs) are = let is = are.3 in let head : line ≡ are.0 = cc in ap (says_program skips) head ∙ ap is_program are.4

-- lines of programs begin with a line that says something, or are none
something_starts : (skips n : ℕ) (lines : List Line) (programs : List Program) → SayPrograms skips n lines programs → starts_with (says_something skips) lines ≡ true
something_starts skips n [] programs are = refl
something_starts skips n (line ∷ lines) [] are = absurd cc
something_starts skips n (line ∷ lines) (program ∷ programs) are = let is = are.3 in let head : line ≡ are.0 = cc in ap (says_something skips) head ∙ ap is_something are.4

-- lines are only one list of programs
one_list : (skips n : ℕ) (lines : List Line) (a b : List Program) → SayPrograms skips n lines a → SayPrograms skips n lines b → a ≡ b
one_list skips n lines [] [] p q = refl
one_list skips n lines [] (y ∷ b) p q = let is = q.3 in absurd cc
one_list skips n lines (x ∷ a) [] p q = let is = p.3 in absurd cc
one_list skips n lines (x ∷ a) (y ∷ b) p q =
    let all : p.0 ∷ (p.1 ++ p.2) ≡ q.0 ∷ (q.1 ++ q.2) = sym p.3 ∙ q.3 in
    let head : p.0 ≡ q.0 = cc in
    let tail : p.1 ++ p.2 ≡ q.1 ++ q.2 = cc in
    let cut = one_cut (says_program skips) p.1 p.2 q.1 q.2 tail p.6 q.6 (programs_start skips (n + 1 + length p.1) p.2 a p.8) (programs_start skips (n + 1 + length q.1) q.2 b q.8) in
    let said_same : said.Program (Some x.number) ≡ said.Program (Some y.number) = sym p.4 ∙ ap (says skips) head ∙ q.4 in
    let number : x.number ≡ y.number = cc in
    let line : x.line ≡ y.line = p.5 ∙ sym q.5 in
    let blocks : x.blocks ≡ y.blocks = p.7 ∙ ap (blocks_on skips (n + 1)) cut.0 ∙ sym q.7 in
    let program : x ≡ y = λ i. record { number = number i; line = line i; blocks = blocks i } in
    let P : List Line → Type 0 = λ own. SayPrograms skips (n + 1 + length own) q.2 b in
    let Q : List Line → Type 0 = λ others. SayPrograms skips (n + 1 + length p.1) others b in
    let rest = one_list skips (n + 1 + length p.1) p.2 a b p.8 (subst Q (sym cut.1) (subst P (sym cut.0) q.8)) in cc

-- lines are only one tape
pub one_tape : (skips : ℕ) (lines : List Line) (a b : List Program) → IsTapeOf skips lines a → IsTapeOf skips lines b → a ≡ b
one_tape skips lines a b p q =
    let start : ℕ = length (before_percent lines) + 1 in
    let left = programs_read skips (start + length p.quiet) p.others a p.programs in
    let right = programs_read skips (start + length q.quiet) q.others b q.programs in
    let cut = one_cut (says_something skips) p.quiet p.others q.quiet q.others (sym p.body_is ∙ q.body_is) (silent_read skips p.quiet p.quiet_is) (silent_read skips q.quiet q.quiet_is) (something_starts skips (start + length p.quiet) p.others a left) (something_starts skips (start + length q.quiet) q.others b right) in
    let P : List Line → Type 0 = λ quiet. SayPrograms skips (start + length quiet) q.others b in
    let Q : List Line → Type 0 = λ others. SayPrograms skips (start + length p.quiet) others b in
    one_list skips (start + length p.quiet) p.others a b left (subst Q (sym cut.1) (subst P (sym cut.0) right))

-- two places in the same lines are the same, or one stands before the other
abbrev Places : List Line → Line → List Line → Line → Type 0
Places f l g m = ((f ≡ g) × (l ≡ m)) ⊎ (((k : List Line) × (g ≡ f ++ l ∷ k)) ⊎ ((k : List Line) × (f ≡ g ++ m ∷ k)))

-- The next two: any two places in the same lines are the same place, or one stands before the
-- other.
further : (x y : Line) (f g : List Line) (l m : Line) → x ≡ y → Places f l g m → Places (x ∷ f) l (y ∷ g) m
further x y f g l m e (inl (p, q)) = inl ((cc), q)
further x y f g l m e (inr (inl (k, p))) = inr (inl (k, cc))
further x y f g l m e (inr (inr (k, p))) = inr (inr (k, cc))

places : (f g b c : List Line) (l m : Line) → f ++ l ∷ b ≡ g ++ m ∷ c → Places f l g m
places [] [] b c l m e = let same : l ≡ m = cc in inl (refl, same)
places [] (y ∷ g) b c l m e = let same : l ≡ y = cc in inr (inl (g, ap (λ (x : Line). x ∷ g) (sym same)))
places (x ∷ f) [] b c l m e = let same : x ≡ m = cc in inr (inr (f, ap (λ (z : Line). z ∷ f) same))
places (x ∷ f) (y ∷ g) b c l m e = let same : x ≡ y = cc in let rest : f ++ l ∷ b ≡ g ++ m ∷ c = cc in further x y f g l m same (places f g b c l m rest)

-- lines have only one first fault
one_first : (skips : ℕ) (lines : List Line) (a b : TextFault) → IsFirstFault skips [] lines a → IsFirstFault skips [] lines b → a ≡ b
one_first skips lines a b p q = go (places p.before q.before p.behind q.behind p.line q.line (sym p.lines_are ∙ q.lines_are))
  where
    go : Places p.before p.line q.before q.line → a ≡ b
    go (inl (front, line)) =
        let P : List Line → Type 0 = λ f. IsLeast skips f q.line q.refusal in
        let Q : Line → Type 0 = λ l. IsLeast skips p.before l q.refusal in
        let other = subst Q (sym line) (subst P (sym front) q.least) in
        let down = p.least.1 q.refusal other.0 in
        let up = other.1 p.refusal p.least.0 in
        let number : refusal_number p.refusal ≡ refusal_number q.refusal = omega arith in
        p.fault_is ∙ ap (λ (n : ℕ). record { number = n; line = length p.before + 1 }) number ∙ ap (λ (f : List Line). fault_at q.refusal (length f + 1)) front ∙ sym q.fault_is
    go (inr (inl (k, e))) = absurd (q.none_before p.before k p.line p.refusal e p.least.0)
    go (inr (inr (k, e))) = absurd (p.none_before q.before k q.line q.refusal e q.least.0)

-- lines with a first fault have a line at which a condition holds
first_not_none : (skips : ℕ) (lines : List Line) (fault : TextFault) → IsFirstFault skips [] lines fault → NoneHolds skips [] lines → ⊥
first_not_none skips lines fault first none = none first.before first.behind first.line first.refusal first.lines_are first.least.0

-- lines lack a program or an end in one way only
one_end : (skips : ℕ) (lines : List Line) (a b : TextFault) → LacksProgram skips lines a ⊎ LacksEnd skips lines a → LacksProgram skips lines b ⊎ LacksEnd skips lines b → a ≡ b
one_end skips lines a b (inl p) (inl q) = p.1 ∙ sym q.1
one_end skips lines a b (inl p) (inr q) = absurd (q.0 p.0)
one_end skips lines a b (inr p) (inl q) = absurd (p.0 q.0)
one_end skips lines a b (inr p) (inr q) = p.2 ∙ sym q.2

-- lines have only one fault
pub one_fault : (skips : ℕ) (lines : List Line) (a b : TextFault) → IsFaultOf skips lines a → IsFaultOf skips lines b → a ≡ b
one_fault skips lines a b (inl p) (inl q) = one_first skips lines a b p q
one_fault skips lines a b (inl p) (inr q) = absurd (first_not_none skips lines a p q.0)
one_fault skips lines a b (inr p) (inl q) = absurd (first_not_none skips lines b q p.0)
one_fault skips lines a b (inr p) (inr q) = one_end skips lines a b p.1 q.1

-- lines of at least one program say something
some_said : (skips n : ℕ) (lines : List Line) (programs : List Program) → 0 < length programs → SayPrograms skips n lines programs → list_any (says_something skips) lines ≡ true
some_said skips n lines [] some are = absurd (omega arith)
some_said skips n [] (program ∷ programs) some are = let is = are.3 in absurd cc
some_said skips n (line ∷ lines) (program ∷ programs) some are =
    let is = are.3 in let head : line ≡ are.0 = cc in let said-is : says_something skips line ≡ true = ap (says_something skips) head ∙ ap is_something are.4 in rw said-is refl

-- lines that say nothing and then at least one program say something
pub body_said : (skips n : ℕ) (lines quiet others : List Line) (programs : List Program) → 0 < length programs → lines ≡ quiet ++ others → SayPrograms skips n others programs → list_any (says_something skips) lines ≡ true
body_said skips n lines quiet others programs some is are =
    ap (list_any (says_something skips)) is ∙ list_any-append (says_something skips) quiet others ∙ either (list_any (says_something skips) quiet) (list_any (says_something skips) others) (some_said skips n others programs some are)
  where
    either : (a b : Bool) → b ≡ true → (a || b) ≡ true
    either true b e = refl
    either false b e = e

-- lines are never both a tape and have a fault
pub not_both : (skips : ℕ) (lines : List Line) (tape : List Program) (fault : TextFault) → IsTapeOf skips lines tape → IsFaultOf skips lines fault → ⊥
not_both skips lines tape fault is (inl first) = first_not_none skips lines fault first is.none_holds
not_both skips lines tape fault is (inr (none, inl lacks)) =
    let said_there = body_said skips (length (before_percent lines) + 1 + length is.quiet) (body_of lines) is.quiet is.others tape is.some is.body_is (programs_read skips (length (before_percent lines) + 1 + length is.quiet) is.others tape is.programs) in
    let bad : true ≡ false = sym said_there ∙ silent_read skips (body_of lines) lacks.0 in absurd cc
not_both skips lines tape fault is (inr (none, inr lacks)) = let bad : true ≡ false = sym is.closed ∙ lacks.1 in absurd cc
