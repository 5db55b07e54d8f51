-- What the drive's side of a line keeps holds still: a move that was taken is counted, a mark, by
-- which a drain asks, is owed an answer, the end is known (`LineOut::take`, src/line_out.rt).
use Rattle.std.proofs.Common.{◌≡◌, true, false, refl, ap, sym, ◌∙◌, subst}
use Rattle.drive_line.specs.Line.{Taking, IsTaking}
use Rattle.drive_line.proofs.Items.{took_move, took_mark, took_other}
use Rattle.drive_line.proofs.line_out.LineOut.take.Goals as goal

pub invariant_of-self : goal.invariant_of-self
invariant_of-self g c =
    let i = c.self.inside in
    let ended : i.ended ≡ false = c.if-self.false in
    let asked : i.asked ≡ false = ap (λ (s : Taking). s.asked) c.self.view_is ∙ c.requires in
    let was : IsTaking i.taken false false i.forth.items i.back.items =
    subst (λ b. IsTaking i.taken false b i.forth.items i.back.items) asked (subst (λ b. IsTaking i.taken b i.asked i.forth.items i.back.items) ended c.self.invariant) in
    let now = took_move _ _ _ _ _ _ c.next_count-self-inside.ensures c.in-Move.ensures.items was in
    subst (λ b. IsTaking c.next_count-self-inside.result i.ended b c.take-item.new.self.items i.back.items) (sym asked)
    (subst (λ b. IsTaking c.next_count-self-inside.result b false c.take-item.new.self.items i.back.items) (sym ended) now)

pub invariant_of-self-in-Mark : goal.invariant_of-self-in-Mark
invariant_of-self-in-Mark g c =
    let i = c.self.inside in
    let ended : i.ended ≡ false = c.if-self.false in
    let asked : i.asked ≡ false = ap (λ (s : Taking). s.asked) c.self.view_is ∙ c.requires in
    let was : IsTaking i.taken false false i.forth.items i.back.items =
    subst (λ b. IsTaking i.taken false b i.forth.items i.back.items) asked (subst (λ b. IsTaking i.taken b i.asked i.forth.items i.back.items) ended c.self.invariant) in
    subst (λ b. IsTaking i.taken b true c.take-item.new.self.items i.back.items) (sym ended) (took_mark _ _ _ _ _ c.in-Mark.ensures.items was)

pub invariant_of-self-in-End : goal.invariant_of-self-in-End
invariant_of-self-in-End g c =
    let i = c.self.inside in
    let ended : i.ended ≡ false = c.if-self.false in
    let asked : i.asked ≡ false = ap (λ (s : Taking). s.asked) c.self.view_is ∙ c.requires in
    let was : IsTaking i.taken false false i.forth.items i.back.items =
    subst (λ b. IsTaking i.taken false b i.forth.items i.back.items) asked (subst (λ b. IsTaking i.taken b i.asked i.forth.items i.back.items) ended c.self.invariant) in
    subst (λ b. IsTaking i.taken true b c.take-item.new.self.items i.back.items) (sym asked) (took_other _ _ _ _ _ _ refl (λ k. refl) refl c.in-End.ensures.items was)

pub invariant_of-self-in-Finish : goal.invariant_of-self-in-Finish
invariant_of-self-in-Finish g c =
    let i = c.self.inside in
    let ended : i.ended ≡ false = c.if-self.false in
    let asked : i.asked ≡ false = ap (λ (s : Taking). s.asked) c.self.view_is ∙ c.requires in
    let was : IsTaking i.taken false false i.forth.items i.back.items =
    subst (λ b. IsTaking i.taken false b i.forth.items i.back.items) asked (subst (λ b. IsTaking i.taken b i.asked i.forth.items i.back.items) ended c.self.invariant) in
    subst (λ b. IsTaking i.taken b i.asked c.take-item.new.self.items i.back.items) (sym ended)
    (subst (λ b. IsTaking i.taken false b c.take-item.new.self.items i.back.items) (sym asked) (took_other _ _ _ _ _ _ refl (λ k. refl) refl c.in-Finish.ensures.items was))
