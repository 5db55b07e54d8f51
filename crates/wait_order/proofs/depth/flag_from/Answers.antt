-- A program that is flagged as reached adds the flags of what it calls. For the contract of
-- `flag_from` (src/depth.rt).
use Rattle.std.proofs.Common.{◌≡◌, ◌↔◌, ◌⊎◌, inl, inr, Bool, true, ap, sym, subst, ◌∙◌}
use Rattle.wait_order.specs.Depth.{HasLoudCall}
use Rattle.block_order.specs.ProgramPlaces.{flag_at, is_flagged}
use Rattle.wait_order.proofs.depth.flag_from.Goals as goal

-- If F holds, a test that is true exactly if A or B holds is true exactly if A holds, or F and B
-- do.
joined : (A B F : Type 0) (new : Bool) → F → (new ≡ true) ↔ (A ⊎ B) → (new ≡ true) ↔ (A ⊎ (F × B))
joined A B F new f h =
    (λ t. elim (h.0 t) [ inl a ↦ inl a | inr b ↦ inr (f, b) ], λ s. elim s [ inl a ↦ h.1 (inl a) | inr p ↦ h.1 (inr p.1) ])

pub returns-then-flag_of : goal.returns-then-flag_of
returns-then-flag_of c tape known count q =
    let flag : is_flagged tape c.args.reached.now c.args.program.now.number ≡ true =
    ap (λ o. flag_at c.args.reached.now o) (sym (known.places c.args.program.now.number)) ∙ (sym c.flag_of.ensures ∙ c.if-flag_of.true) in
    joined (is_flagged tape c.args.next.now q ≡ true) (HasLoudCall tape c.args.program.now.blocks q)
    (is_flagged tape c.args.reached.now c.args.program.now.number ≡ true) (is_flagged tape c.flag_calls.new.flags q) flag
    (subst (λ bs. (is_flagged tape c.flag_calls.new.flags q ≡ true) ↔ ((is_flagged tape c.args.next.now q ≡ true) ⊎ HasLoudCall tape bs q))
    c.as_slice.ensures (c.flag_calls.ensures tape known count q))
