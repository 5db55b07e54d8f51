-- If there is a sign, a word of a tape's line ends after the place of the last one (`end_of`,
-- src/cut.rt).
use Rattle.std.proofs.Common.{◌≡◌, ℕ, suc, ◌+◌, ◌-◌, ◌≤◌, List, [], ◌∷◌, length, get_or, refl, ap, ◌∙◌, arith}
use Rattle.line_text.specs.declared.sign.Sign.{Sign}
use Rattle.line_text.specs.Pieces.{end_of}
use Rattle.line_text.proofs.cut.end_of.Goals as goal

-- the place after the last sign is where signs end
end_last : (start : ℕ) (signs : List Sign) (none : Sign) → 1 ≤ length signs → (get_or signs (length signs - 1) none).place + 1 ≡ end_of start signs
end_last start [] none some = absurd (omega arith)
end_last start (sign ∷ []) none some = refl
end_last start (sign ∷ other ∷ signs) none some =
    let more : 1 ≤ length (other ∷ signs) = omega arith in
    let last : length (sign ∷ other ∷ signs) - 1 ≡ suc (length (other ∷ signs) - 1) = omega arith in
    ap (λ (k : ℕ). (get_or (sign ∷ other ∷ signs) k none).place + 1) last ∙ end_last (sign.place + 1) (other ∷ signs) none more

pub returns-in-len1-up : goal.returns-in-len1-up
returns-in-len1-up c = end_last c.args.start c.args.signs.now _ c.in-len1-up.len_at_least
