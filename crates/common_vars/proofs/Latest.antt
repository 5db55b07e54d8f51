-- What the search along the links of a shared variable's writes finds is the latest write that one
-- of the first so many records made. For the proof of `value_at` (src/links.rt).
use Rattle.std.proofs.Common.{◌≡◌, ℕ, zero, suc, ◌<◌, ◌≤◌, true, false, List, [], ◌∷◌, None, Some, length, map, arith, refl, unwrap_or, get_or, sym, ◌∙◌, ap, subst}
use Rattle.std.proofs.lemmas.List.{get_or_default}
use Rattle.std.proofs.lemmas.Bool.Decides.{nat_tests}
use Rattle.nc_number.specs.declared.value.Var.TheVariants.{Vacant}
use Rattle.common_vars.specs.declared.links.Node.{Node}
use Rattle.common_vars.specs.declared.links.Write.{Write}
use Rattle.common_vars.specs.Writes.{is_write_of, latest_write, value_after}
use Rattle.common_vars.specs.Links.{IsPast, no_node, node_at, variable_at, stamp_at}

-- the writes of the nodes
abbrev pub written : List Node → List Write
written nodes = map (λ node. node.write) nodes

-- a write of another variable, or of a later record, is none of those that are looked for
passes_over : (k v : ℕ) (w : Write) → (w.variable ≡ v → k < w.stamp) → is_write_of k v w ≡ false
passes_over k v w later = grind (arith, nat_tests)

-- a write of the variable by one of the first k records is one of those that are looked for
takes : (k v : ℕ) (w : Write) → w.variable ≡ v → w.stamp ≤ k → is_write_of k v w ≡ true
takes k v w same early = grind (arith, nat_tests)

-- if no write of v is early enough, none is found
none-found : (k v : ℕ) (nodes : List Node)
    → ((j : ℕ) → j < length nodes → variable_at nodes j ≡ v → k < stamp_at nodes j)
    → latest_write k v (written nodes) ≡ None
none-found k v [] past = refl
none-found k v (n ∷ ns) past =
    let rest : latest_write k v (written ns) ≡ None =
    none-found k v ns (λ j inside. past (suc j) (omega (arith, inside))) in
    let first : is_write_of k v n.write ≡ false = passes_over k v n.write (past 0 (omega arith)) in
    rw (rest, first) refl

-- the latest write that is early enough is found
found : (k v : ℕ) (nodes : List Node) (i : ℕ) → IsPast nodes k v (Some i) → stamp_at nodes i ≤ k
    → latest_write k v (written nodes) ≡ Some (node_at nodes i).write.value
found k v [] i past early = absurd (omega (arith, past.0))
found k v (n ∷ ns) zero past early =
    let rest : latest_write k v (written ns) ≡ None =
    none-found k v ns (λ j inside. past.2 (suc j) (omega arith) (omega (arith, inside))) in
    let first : is_write_of k v n.write ≡ true = takes k v n.write past.1 early in
    rw (rest, first) refl
found k v (n ∷ ns) (suc i) past early =
    let rest : latest_write k v (written ns) ≡ Some (node_at ns i).write.value =
    found k v ns i
    (omega (arith, past.0), past.1, λ j behind inside. past.2 (suc j) (omega (arith, behind)) (omega (arith, inside)))
    early in
    rw rest refl

-- the value of the write that is found is that of the variable
value-found : (nodes : List Node) (k v : ℕ) (i : ℕ) → IsPast nodes k v (Some i) → stamp_at nodes i ≤ k
    → (node_at nodes i).write.value ≡ value_after k v (written nodes)
value-found nodes k v i past early = sym (ap (λ o. unwrap_or o Vacant) (found k v nodes i past early))

-- without a write that is early enough the variable is vacant
pub value-none : (nodes : List Node) (k v : ℕ) → IsPast nodes k v None → Vacant ≡ value_after k v (written nodes)
value-none nodes k v past = sym (ap (λ o. unwrap_or o Vacant) (none-found k v nodes past))

-- the value of the node that was read at place i is that of the variable, if it is early enough
pub value-read : (nodes : List Node) (k v : ℕ) (i : ℕ) (n : Node) → IsPast nodes k v (Some i)
    → n ≡ get_or nodes i n → n.write.stamp ≤ k → n.write.value ≡ value_after k v (written nodes)
value-read nodes k v i n past read early =
    let same : n ≡ node_at nodes i = read ∙ get_or_default nodes i n no_node past.0 in
    ap (λ m. m.write.value) same
    ∙ value-found nodes k v i past (let P : Node → Type 0 = λ m. m.write.stamp ≤ k in subst P same early)
