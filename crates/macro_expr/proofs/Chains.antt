-- One operator of a chain in a macro expression, and its end. For the loop of `chain_at`
-- (src/reading.rt), and for ChainLaws.
use Rattle.std.proofs.Common.{◌≡◌, ℕ, zero, suc, ◌+◌, ◌-◌, ◌<◌, ◌≤◌, List, Option, None, Some, Result, Ok, Err, refl, sym, ◌∙◌, ap, arith}
use Rattle.macro_expr.specs.declared.stop.Stop.{Stop}
use Rattle.macro_expr.specs.declared.tree.Op.{Op}
use Rattle.macro_expr.specs.Tree.{Tree, Joined}
use Rattle.nc_number.specs.declared.fault.Failing.{Failing}
use Rattle.nc_number.specs.declared.fault.Failing.TheVariants as failing
use Rattle.nc_number.specs.Results.{◌>>=◌}
use Rattle.nc_number.specs.Answers.{Fails}
use Rattle.macro_expr.specs.Reading.{Read, chain, joined_by}

-- a tree as the result of reading that did not stop
abbrev pub ok_tree : Tree → Result Tree Stop
ok_tree t = Ok t

-- `operator` finds an operator at the head of a text, `operand` reads what it joins.
module _ (operator : List ℕ → Option (Op × List ℕ)) (operand : List ℕ → Read Tree) where
  -- a chain ends if no operator stands at the head of the text
  pub chain_stops : (n : ℕ) (left : Tree) (text : List ℕ) → operator text ≡ None
      → chain operator operand n left text ≡ Ok (left, text)
  unfolding chain
  chain_stops zero left text none = refl
  chain_stops (suc n) left text none = ap (λ o. joined_by left text o operand (chain operator operand n)) none

  -- one operator and its operand more is one step of a chain
  pub chain_step : (n m : ℕ) (left : Tree) (text rest : List ℕ) (op : Op) (right : Read Tree) → n ≡ suc m
      → operator text ≡ Some (op, rest) → operand rest ≡ right
      → chain operator operand n left text ≡ (right >>= λ x. chain operator operand m (Joined op left x.0) x.1)
  unfolding chain
  chain_step n m left text rest op right more some is =
      ap (λ n. chain operator operand n left text) more
      ∙ ap (λ o. joined_by left text o operand (chain operator operand m)) some
      ∙ ap (λ r. r >>= λ x. chain operator operand m (Joined op left x.0) x.1) is

  -- if the operand of the next operator does not read, the whole chain stops so
  pub stops_at_fault : (end i : ℕ) (left : Tree) (text rest : List ℕ) (op : Op) (whole : Read Tree) (e : Failing Stop)
      → i < end → operator text ≡ Some (op, rest) → Fails e (operand rest)
      → chain operator operand (end - i) left text ≡ whole → Fails e whole
  stops_at_fault end i left text rest op whole failing.NoMemory inside some err kept = tt
  stops_at_fault end i left text rest op whole (failing.Fault f) inside some err kept =
      sym kept ∙ chain_step (end - i) (end - (i + 1)) left text rest op (Err f) (omega arith) some err

  -- if the next operator and its operand are read, the chain goes on from both
  pub keeps : (end i : ℕ) (left right new : Tree) (text rest after : List ℕ) (op : Op) (whole : Read Tree)
      → i < end → operator text ≡ Some (op, rest) → operand rest ≡ Ok (right, after)
      → ok_tree (Joined op left right) ≡ ok_tree new → chain operator operand (end - i) left text ≡ whole
      → chain operator operand (end - (i + 1)) new after ≡ whole
  keeps end i left right new text rest after op whole inside some ok made kept =
      let same : Joined op left right ≡ new = cc in
      ap (λ t. chain operator operand (end - (i + 1)) t after) (sym same)
      ∙ sym (chain_step (end - i) (end - (i + 1)) left text rest op (Ok (right, after)) (omega arith) some ok) ∙ kept

  -- after as many rounds as the text has bytes, the chain is at its end
  pub is_used_up : (end i : ℕ) (left : Tree) (text : List ℕ) (whole : Read Tree) → end ≤ i
      → chain operator operand (end - i) left text ≡ whole → whole ≡ Ok (left, text)
  unfolding chain
  is_used_up end i left text whole past kept =
      let none : end - i ≡ 0 = omega arith in
      sym kept ∙ ap (λ n. chain operator operand n left text) none
