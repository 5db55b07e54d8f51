-- A chain of operators of a macro expression reads exactly the chains of the grammar. For Sound and
-- Complete.
use Rattle.std.proofs.Common.{◌≡◌, ℕ, zero, suc, ◌+◌, ◌-◌, ◌≤◌, List, ◌++◌, length, None, Ok, ◌∙◌, ap, arith, append_assoc, length-append}
use Rattle.std.proofs.lemmas.Bool.{leb-true}
use Rattle.macro_expr.specs.declared.tree.Op.{Op}
use Rattle.macro_expr.specs.declared.words.Rank.{Rank}
use Rattle.macro_expr.specs.Tree.{Tree, Joined}
use Rattle.macro_expr.specs.Words.{operator_words, operator}
use Rattle.nc_number.specs.Results.{◌>>=◌}
use Rattle.macro_expr.specs.Reading.{Read, chain, joined_by}
use Rattle.macro_expr.specs.Grammar.{IsWord, IsChain, one, more}
use Rattle.macro_expr.proofs.Heads.{leading, leads}
use Rattle.macro_expr.proofs.Chains.{chain_stops, chain_step}
use Rattle.macro_expr.proofs.Steps.{Sound, found, Reads, step}

-- a text of this kind is read as what it stands for, if what follows does not go on with it
abbrev pub IsRead : {A : Type 0} → (List ℕ → Type 0) → (List ℕ → A → Type 0) → (List ℕ → Read A) → Type 0
IsRead {A} Quiet Is reader =
    (t : List ℕ) (x : A) → Is t x → (rest : List ℕ) → Quiet rest → reader (t ++ rest) ≡ Ok (x, rest)

-- a chain of a rank, read from its first operand on
abbrev pub chained : Rank → (List ℕ → Read Tree) → (List ℕ → Read Tree) → List ℕ → Read Tree
chained rank first operand text = first text >>= λ x. chain (operator rank) operand (length x.1) x.0 x.1

-- The operators are those of `rank`. `First` is the grammar of the first operand and `Operand` of
-- the others; `first` and `operand` read them.
module _ (rank : Rank) (First Operand : List ℕ → Tree → Type 0) (first operand : List ℕ → Read Tree) where
  -- a text is a chain of this rank, from its first operand on
  abbrev IsOne : List ℕ → Tree → Type 0
  IsOne = IsChain rank First Operand

  -- a chain that is read on from a first part is one of the grammar
  chain_sound : Reads Operand operand → (n : ℕ) (text t at : List ℕ) (left : Tree) → text ≡ t ++ at → IsOne t left
      → Sound IsOne text (chain (operator rank) operand n left at)
  unfolding chain operator
  chain_sound sound zero text t at left here is = found t at left is here
  chain_sound sound (suc n) text t at left here is =
      leading (λ o. Sound IsOne text (joined_by left at o operand (chain (operator rank) operand n)))
      (operator_words rank) at
      (λ word after op is_word leads_it.
      step _ (sound after) (λ u rest right is_operand stands.
      chain_sound sound n text (t ++ (word ++ u)) rest (Joined op left right)
      (simp (here, leads_it, stands, append_assoc)) (more t word u op left right is is_word is_operand)))
      (found t at left is here)

  -- a chain that is read is one of the grammar, if its operands are
  pub chained_sound : Reads First first → Reads Operand operand → Reads IsOne (chained rank first operand)
  chained_sound first_sound operand_sound text =
      step _ (first_sound text) (λ t rest e is stands.
      chain_sound operand_sound (length rest) text t rest e stands (one t e is))

  -- `Quiet` says of a text that no operand goes on into it. Both readers read each operand before
  -- such a text, and what begins with an operator is one.
  module _ (Quiet : List ℕ → Type 0)
      (first_reads : IsRead Quiet First first) (operand_reads : IsRead Quiet Operand operand)
      (quiets : (word : List ℕ) (op : Op) → IsWord (operator_words rank) word op
      → (rest : List ℕ) → Quiet (word ++ rest)) where
    -- reading comes to the end of a chain with a round left for each byte behind it
    comes : (t : List ℕ) (e : Tree) → IsOne t e → (rest : List ℕ) → Quiet rest
        → (n : ℕ) × (length rest ≤ n)
        × (chained rank first operand (t ++ rest) ≡ chain (operator rank) operand n e rest)
    comes _ _ (one t e is) rest quiet = (
      length rest,
      omega arith,
      ap (λ r. r >>= λ x. chain (operator rank) operand (length x.1) x.0 x.1) (first_reads t e is rest quiet),
    )
    comes _ _ (more t word u op left right is_left is_word is) rest quiet =
        let before = comes t left is_left (word ++ (u ++ rest)) (quiets word op is_word (u ++ rest)) in
        let leads_it = leads rank word op is_word (u ++ rest) in
        let long = leb-true 1 (length word) (ap (λ q. q.1) leads_it) in
        let room : length rest + 1 ≤ before.0 =
        omega (arith, before.1, long, length-append word (u ++ rest), length-append u rest) in
        let apart : (t ++ (word ++ u)) ++ rest ≡ t ++ (word ++ (u ++ rest)) = simp append_assoc in (
          before.0 - 1,
          omega (arith, room),
          ap (chained rank first operand) apart ∙ before.2
              ∙ chain_step (operator rank) operand before.0 (before.0 - 1) left (word ++ (u ++ rest)) (u ++ rest) op
              (Ok (right, rest)) (omega (arith, room)) (ap (λ q. q.0) leads_it) (operand_reads u right is rest quiet),
        )

    -- a chain of the grammar is read, whatever follows that is no part of it
    pub chain_read : (t : List ℕ) (e : Tree) → IsOne t e → (rest : List ℕ) → Quiet rest → operator rank rest ≡ None
        → chained rank first operand (t ++ rest) ≡ Ok (e, rest)
    chain_read t e is rest quiet none =
        let end = comes t e is rest quiet in
        end.2 ∙ chain_stops (operator rank) operand end.0 e rest none
