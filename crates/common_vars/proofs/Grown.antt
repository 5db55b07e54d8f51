-- The links of the writes of shared variables after one node was added at the end. For the proof of
-- `write` (src/shared.rt).
use Rattle.std.proofs.Common.{◌≡◌, ◌≢◌, ℕ, ◌+◌, ◌<◌, ◌≤◌, List, [], ◌∷◌, ◌++◌, Option, None, Some, length, get_or, All, map, arith, sym, ◌∙◌, ap, subst, below_more, length-append, set, inl, inr}
use Rattle.std.proofs.lemmas.List.{get_or_append_left, get_or-set_other}
use Rattle.std.proofs.lemmas.Grind.{get_or-set_at}
use Rattle.std.proofs.lemmas.Bool.{cases_eq}
use Rattle.std.proofs.lemmas.List.{get_or_default, get_or-map}
use Rattle.std.proofs.lemmas.List.Elements.{All-get_or}
use Rattle.std.proofs.Math.ListN.{length-set, length-map}
use Rattle.std.proofs.Math.Seq.{get_or-append_seam}
use Rattle.common_vars.specs.declared.links.Node.{Node}
use Rattle.common_vars.specs.declared.links.Write.{Write}
use Rattle.common_vars.specs.Writes.{IsShared}
use Rattle.common_vars.specs.Links.{IsLatestBefore, IsSomeBefore, AreLinked, AreEnds, no_node, node_at, variable_at, stamp_at}

-- nodes with one more are one more in number
length_grown : (nodes : List Node) (n : Node) → length (nodes ++ n ∷ []) ≡ length nodes + 1
length_grown nodes n = length-append nodes (n ∷ [])

-- the nodes before stay at their places
old_node : (nodes : List Node) (n : Node) (i : ℕ) → i < length nodes → node_at nodes i ≡ node_at (nodes ++ n ∷ []) i
old_node nodes n i inside = sym (get_or_append_left nodes (n ∷ []) no_node i inside)

-- the new node is the last
new_node : (nodes : List Node) (n : Node) → n ≡ node_at (nodes ++ n ∷ []) (length nodes)
new_node nodes n = sym (get_or-append_seam nodes n [] no_node)

-- the latest write before a place stays so when a node is added
latest_kept : (nodes : List Node) (n : Node) (m v : ℕ) (o : Option ℕ) → m ≤ length nodes
    → IsLatestBefore nodes m v o → IsLatestBefore (nodes ++ n ∷ []) m v o
latest_kept nodes n m v None short none = λ j below same.
    none j below (ap (λ x. x.write.variable) (old_node nodes n j (omega arith)) ∙ same)
latest_kept nodes n m v (Some i) short latest = (
  latest.0,
  ap (λ x. x.write.variable) (sym (old_node nodes n i (omega (arith, latest.0)))) ∙ latest.1,
  λ j behind below same.
      latest.2 j behind below (ap (λ x. x.write.variable) (old_node nodes n j (omega arith)) ∙ same),
)

-- a place of some write before a place stays one when a node is added
some_kept : (nodes : List Node) (n : Node) (m v : ℕ) (o : Option ℕ) → m ≤ length nodes
    → IsSomeBefore nodes m v o → IsSomeBefore (nodes ++ n ∷ []) m v o
some_kept nodes n m v None short some = tt
some_kept nodes n m v (Some i) short some =
    (some.0, ap (λ x. x.write.variable) (sym (old_node nodes n i (omega (arith, some.0)))) ∙ some.1)

-- the node that is added is linked to earlier writes of its variable, and is no earlier than any
pub record Joins (nodes : List Node) (n : Node) : Type 0 where
  -- `previous` is the latest write of its variable
  pub previous : IsLatestBefore nodes (length nodes) n.write.variable n.previous
  -- `jump` is some write of its variable
  pub jump : IsSomeBefore nodes (length nodes) n.write.variable n.jump
  -- no node has a greater stamp
  pub stamp : (i : ℕ) → i < length nodes → stamp_at nodes i ≤ n.write.stamp

-- nodes with one more that is linked well are linked well
pub AreLinked-push : (nodes : List Node) (n : Node) → AreLinked nodes → Joins nodes n → AreLinked (nodes ++ n ∷ [])
AreLinked-push nodes n linked joins =
    let longer = nodes ++ n ∷ [] in
    let len : length longer ≡ length nodes + 1 = length_grown nodes n in
    record {
      previous = λ i inside.
          below_more (λ i. IsLatestBefore longer i (variable_at longer i) (node_at longer i).previous) (length nodes)
          (λ i inside.
          let P : Node → Type 0 = λ x. IsLatestBefore longer i x.write.variable x.previous in
          subst P (old_node nodes n i inside)
          (latest_kept nodes n i _ _ (omega arith) (linked.previous i inside)))
          (let P : Node → Type 0 = λ x. IsLatestBefore longer (length nodes) x.write.variable x.previous in
          subst P (new_node nodes n) (latest_kept nodes n _ _ _ (omega arith) joins.previous))
          i (omega arith);
      jumps = λ i inside.
          below_more (λ i. IsSomeBefore longer i (variable_at longer i) (node_at longer i).jump) (length nodes)
          (λ i inside.
          let P : Node → Type 0 = λ x. IsSomeBefore longer i x.write.variable x.jump in
          subst P (old_node nodes n i inside)
          (some_kept nodes n i _ _ (omega arith) (linked.jumps i inside)))
          (let P : Node → Type 0 = λ x. IsSomeBefore longer (length nodes) x.write.variable x.jump in
          subst P (new_node nodes n) (some_kept nodes n _ _ _ (omega arith) joins.jump))
          i (omega arith);
      ordered = λ i j early inside.
          below_more (λ j. (i : ℕ) → i ≤ j → stamp_at longer i ≤ stamp_at longer j) (length nodes)
          (λ j inside i early.
          let P : Node → Type 0 = λ x. x.write.stamp ≤ stamp_at longer j in
          let Q : Node → Type 0 = λ y. stamp_at nodes i ≤ y.write.stamp in
          subst P (old_node nodes n i (omega arith))
          (subst Q (old_node nodes n j inside) (linked.ordered i j early inside)))
          (λ i early.
          let Q : Node → Type 0 = λ y. stamp_at longer i ≤ y.write.stamp in
          subst Q (new_node nodes n)
          (below_more (λ i. stamp_at longer i ≤ n.write.stamp) (length nodes)
          (λ i inside.
          let P : Node → Type 0 = λ x. x.write.stamp ≤ n.write.stamp in
          subst P (old_node nodes n i inside) (joins.stamp i inside))
          (let P : Node → Type 0 = λ x. x.write.stamp ≤ n.write.stamp in
          subst P (new_node nodes n) (omega arith))
          i (omega arith)))
          j (omega arith) i early;
    }

-- the latest node of another variable is still its latest
latest_longer : (nodes : List Node) (n : Node) (v : ℕ) (o : Option ℕ) → n.write.variable ≢ v
    → IsLatestBefore nodes (length nodes) v o → IsLatestBefore (nodes ++ n ∷ []) (length nodes + 1) v o
latest_longer nodes n v None other latest =
    below_more (λ j. variable_at (nodes ++ n ∷ []) j ≢ v) (length nodes)
    (latest_kept nodes n (length nodes) v None (omega arith) latest)
    (λ same. other (ap (λ x. x.write.variable) (new_node nodes n) ∙ same))
latest_longer nodes n v (Some i) other latest =
    let kept = latest_kept nodes n (length nodes) v (Some i) (omega arith) latest in (
      omega (arith, latest.0),
      kept.1,
      λ j behind inside.
          below_more (λ j. i < j → variable_at (nodes ++ n ∷ []) j ≢ v) (length nodes)
          (λ j below behind. kept.2 j behind below)
          (λ behind same. other (ap (λ x. x.write.variable) (new_node nodes n) ∙ same))
          j inside behind,
    )

-- the list of latest places with that of the new node is right for the nodes with it
pub AreEnds-push : (nodes : List Node) (latest : List (Option ℕ)) (n : Node) → AreEnds nodes latest
    → n.write.variable < 1000 → AreEnds (nodes ++ n ∷ []) (set latest n.write.variable (Some (length nodes)))
AreEnds-push nodes latest n ends small =
    let longer = nodes ++ n ∷ [] in
    let len : length longer ≡ length nodes + 1 = length_grown nodes n in
    record {
      sized = length-set latest n.write.variable (Some (length nodes)) ∙ ends.sized;
      each = λ v inside.
          elim (cases_eq v n.write.variable) [
            | inl same ↦
                let found : get_or (set latest n.write.variable (Some (length nodes))) v None ≡ Some (length nodes)
                = grind (arith, get_or-set_at, ends.sized) in
                let P : Option ℕ → Type 0 = IsLatestBefore longer (length longer) v in
                subst P (sym found) (
                  omega arith,
                  ap (λ x. x.write.variable) (sym (new_node nodes n)) ∙ sym same,
                  λ j behind below. absurd (omega arith),
                )
            | inr other ↦
                let found : get_or latest v None ≡ get_or (set latest n.write.variable (Some (length nodes))) v None
                = sym (get_or-set_other latest n.write.variable v _ None other) in
                let P : ℕ → Option ℕ → Type 0 = λ m o. IsLatestBefore longer m v o in
                subst (λ o. P (length longer) o) found
                (subst (λ m. P m (get_or latest v None)) (sym len)
                (latest_longer nodes n v _ (λ same. other (sym same)) (ends.each v inside)))
          ];
    }

-- the stamps of the nodes, from a clause on their writes
pub stamps_from : (nodes : List Node) (stamp : ℕ) → All (λ (w : Write). w.stamp ≤ stamp) (map (λ node. node.write) nodes)
    → (i : ℕ) → i < length nodes → stamp_at nodes i ≤ stamp
stamps_from nodes stamp below i inside =
    let read : get_or (map (λ (node : Node). node.write) nodes) i no_node.write ≡ (node_at nodes i).write
    = get_or-map (λ node. node.write) nodes i no_node no_node.write inside in
    let within : i < length (map (λ (node : Node). node.write) nodes)
    = omega (arith, length-map {A = Node} {B = Write}) in
    let P : Write → Type 0 = λ w. w.stamp ≤ stamp in
    subst P read (All-get_or P (map (λ node. node.write) nodes) i no_node.write within below)

-- what the list of ends has for v is the latest write of v
end_read : (nodes : List Node) (latest : List (Option ℕ)) (v : ℕ) (o : Option ℕ) → AreEnds nodes latest → v < 1000
    → o ≡ get_or latest v o → IsLatestBefore nodes (length nodes) v o
end_read nodes latest v o ends small read =
    let same : o ≡ get_or latest v None = read ∙ get_or_default latest v o None (omega (arith, ends.sized)) in
    let P : Option ℕ → Type 0 = IsLatestBefore nodes (length nodes) v in
    subst P (sym same) (ends.each v small)

-- nodes with one more stay linked, and the list of ends with its place stays right
pub stay_linked : (nodes longer : List Node) (latest : List (Option ℕ)) (n : Node) (v : ℕ) (o : Option ℕ)
    → AreLinked nodes → AreEnds nodes latest → v < 1000 → n.write.variable ≡ v → n.previous ≡ o → o ≡ get_or latest v o
    → IsSomeBefore nodes (length nodes) v n.jump
    → ((i : ℕ) → i < length nodes → stamp_at nodes i ≤ n.write.stamp)
    → longer ≡ nodes ++ n ∷ []
    → AreLinked longer × AreEnds longer (set latest v (Some (length nodes)))
stay_linked nodes longer latest n v o linked ends small named before read jump stamps grown =
    let P : List Node → Type 0 = AreLinked in
    let Q : ℕ → List Node → Type 0 = λ v longer. AreEnds longer (set latest v (Some (length nodes))) in
    let previous : IsLatestBefore nodes (length nodes) n.write.variable n.previous =
    rw (named, before) (end_read nodes latest v o ends small read) in
    let jumps : IsSomeBefore nodes (length nodes) n.write.variable n.jump = rw named jump in (
      subst P (sym grown) (AreLinked-push nodes n linked (record { previous = previous; jump = jumps; stamp = stamps })),
      subst (λ v. Q v longer) named
          (subst (Q n.write.variable) (sym grown) (AreEnds-push nodes latest n ends (rw named small))),
    )

-- the number of a shared variable is below 1000
pub shared_small : (hundreds upper v : ℕ) → hundreds ≤ 100 → upper ≤ 500 → IsShared hundreds upper v → v < 1000
shared_small hundreds upper v few many (inl low) = omega (arith, low.1)
shared_small hundreds upper v few many (inr high) = omega (arith, high.1)
