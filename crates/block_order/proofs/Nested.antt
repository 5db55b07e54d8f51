-- Loops whose heads and ends fit together are nested: of two loops one lies behind the other or
-- inside it. For the law of src/fitting_law.rt.
use Rattle.std.proofs.Common.{◌≡◌, ◌≢◌, ℕ, zero, suc, ◌-◌, ◌<◌, ◌≤◌, ◌⊎◌, inl, inr, List, [], ◌∷◌, length, Some, sym, ◌∙◌, arith}
use Rattle.std.proofs.lemmas.Bool.{cases_lt}
use Rattle.nc_number.proofs.Counts.{some_is}
use Rattle.block_order.specs.declared.program.ControlBlock.{ControlBlock}
use Rattle.block_order.specs.Order.{control_at, head_name, IsLoop}
use Rattle.block_order.specs.Loops.{open_before, nested}
use Rattle.block_order.specs.Fitting.{Fits, IsNested}
use Rattle.block_order.proofs.Opened.{opens, open-ends, open-inside, end-closes, open_after_end-head, nests, has-names}
use Rattle.block_order.proofs.Searches.{loop_facts}

-- The head of a loop stands in the program.
named_within : (bs : List ControlBlock) (head name : ℕ) → head_name (control_at bs head) ≡ Some name → head < length bs
named_within [] head name named = absurd cc
named_within (b ∷ bs) zero name named = omega arith
named_within (b ∷ bs) (suc head) name named = let l = named_within bs head name named in omega arith

-- Of two loops the later one is behind the other or inside it.
apart-or-inside : (bs : List ControlBlock) (head end inner last : ℕ) → Fits bs → IsLoop bs head end → IsLoop bs inner last
    → head < inner → (end < inner) ⊎ (last < end)
apart-or-inside bs head end inner last fits outer within l = go (cases_lt end inner) where
  go : (end < inner) ⊎ (inner ≤ end) → (end < inner) ⊎ (last < end)
  go (inl k) = inl k
  go (inr k) = inr (nests bs head end inner last fits outer within l k)

-- A loop inside another has another name.
other-name : (bs : List ControlBlock) (head end inner last : ℕ) → Fits bs → IsLoop bs head end → IsLoop bs inner last
    → head < inner → inner ≤ end → head_name (control_at bs head) ≢ head_name (control_at bs inner)
other-name bs head end inner last fits outer within l m e =
    let facts = loop_facts bs head end outer in
    fits inner (nested facts.name (sym e ∙ facts.named)
    (has-names head facts.name (open_before bs inner) (open-inside bs head end facts inner l m)))

-- Loops that fit are nested.
pub loops-nested : (bs : List ControlBlock) → Fits bs → IsNested bs
loops-nested bs fits = record {
  heads = λ head name named.
      let has = opens bs head name named in
      let within = named_within bs head name named in
      let ends = open-ends bs head name (length bs - suc head) (suc head) fits (omega arith) has in (ends.0, ends.2);
  ends = λ end name at.
      let w = end-closes bs end name fits at in
      (w.0, (w.3, λ other loop. some_is (sym (open_after_end-head bs other end fits loop) ∙ w.1)));
  nest = λ head end inner last outer within l. apart-or-inside bs head end inner last fits outer within l;
  names_differ = λ head end inner last outer within l m. other-name bs head end inner last fits outer within l m;
}
