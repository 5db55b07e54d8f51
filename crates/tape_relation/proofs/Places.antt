-- Where a condition holds at the lines of a tape behind a front, seen one line further on. For
-- FirstFault, Ends and Agrees.
use Rattle.std.proofs.Common.{◌≡◌, ℕ, ◌+◌, List, [], ◌∷◌, ◌++◌, length, refl, ap, sym, subst, ◌∙◌, append_assoc}
use Rattle.std.proofs.lemmas.List.{append-nil}
use Rattle.nc_text.specs.declared.fault.TextFault.{TextFault}
use Rattle.line_text.specs.declared.refusal.Refusal.{Refusal}
use Rattle.nc_text.specs.Lines.{Line}
use Rattle.tape_relation.specs.Conditions.{Holds, IsLeast, NoneHolds}
use Rattle.tape_relation.specs.Relation.{fault_at, IsFirstFault}

-- behind a front, at no lines no condition holds
pub none_left : (skips : ℕ) (front : List Line) → NoneHolds skips front []
none_left skips front [] behind line refusal e holds = absurd cc
none_left skips front (first ∷ before) behind line refusal e holds = absurd cc

-- if no condition holds at a line nor at those behind it, none holds at all of them
pub none_more : (skips : ℕ) (front lines : List Line) (line : Line) → ((r : Refusal) → Holds skips front line r → ⊥) → NoneHolds skips (front ++ line ∷ []) lines → NoneHolds skips front (line ∷ lines)
none_more skips front lines line here later [] behind other refusal e holds =
    let same : line ≡ other = cc in
    let P : Line → Type 0 = λ x. Holds skips front x refusal in
    let Q : List Line → Type 0 = λ f. Holds skips f other refusal in
    here refusal (subst P (sym same) (subst Q (append-nil front) holds))
none_more skips front lines line here later (first ∷ before) behind other refusal e holds =
    let same : line ≡ first = cc in
    let rest : lines ≡ before ++ other ∷ behind = cc in
    let P : List Line → Type 0 = λ f. Holds skips f other refusal in
    later before behind other refusal rest (subst P (sym (append_assoc front (line ∷ []) before)) (subst (λ (x : Line). Holds skips (front ++ (x ∷ before)) other refusal) (sym same) holds))

-- if no condition holds at some lines, none holds at the first of them
pub none_here : (skips : ℕ) (front lines : List Line) (line : Line) → NoneHolds skips front (line ∷ lines) → (r : Refusal) → Holds skips front line r → ⊥
none_here skips front lines line none r holds =
    let P : List Line → Type 0 = λ f. Holds skips f line r in
    none [] lines line r refl (subst P (sym (append-nil front)) holds)

-- if no condition holds at some lines, none holds at those behind the first few
pub none_behind : (skips : ℕ) (front before lines : List Line) → NoneHolds skips front (before ++ lines) → NoneHolds skips (front ++ before) lines
none_behind skips front before lines none f behind line refusal e holds =
    let P : List Line → Type 0 = λ g. Holds skips g line refusal in
    none (before ++ f) behind line refusal (ap (λ (ls : List Line). before ++ ls) e ∙ sym (append_assoc before f (line ∷ behind))) (subst P (append_assoc front before f) holds)

-- the least refusal that holds at the first line is the first fault
pub fault_here : (skips : ℕ) (front lines : List Line) (line : Line) (r : Refusal) (fault : TextFault) → IsLeast skips front line r → fault ≡ fault_at r (length front + 1) → IsFirstFault skips front (line ∷ lines) fault
fault_here skips front lines line r fault least e = record {
  before = [];
  line = line;
  behind = lines;
  refusal = r;
  lines_are = refl;
  least = let P : List Line → Type 0 = λ f. IsLeast skips f line r in subst P (sym (append-nil front)) least;
  none_before = none_left skips front;
  fault_is = e ∙ ap (λ (f : List Line). fault_at r (length f + 1)) (sym (append-nil front));
}

-- if no condition holds at the first line, the first fault of the lines behind it is that of all
pub fault_later : (skips : ℕ) (front lines : List Line) (line : Line) (fault : TextFault) → ((r : Refusal) → Holds skips front line r → ⊥) → IsFirstFault skips (front ++ line ∷ []) lines fault → IsFirstFault skips front (line ∷ lines) fault
fault_later skips front lines line fault here is = record {
  before = line ∷ is.before;
  line = is.line;
  behind = is.behind;
  refusal = is.refusal;
  lines_are = ap (λ (ls : List Line). line ∷ ls) is.lines_are;
  least = let P : List Line → Type 0 = λ f. IsLeast skips f is.line is.refusal in subst P (append_assoc front (line ∷ []) is.before) is.least;
  none_before = none_more skips front is.before line here is.none_before;
  fault_is = is.fault_is ∙ ap (λ (f : List Line). fault_at is.refusal (length f + 1)) (append_assoc front (line ∷ []) is.before);
}
