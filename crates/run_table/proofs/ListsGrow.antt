-- The lists of what the records of a held table told grow by what each record tells.
-- HeldSteps uses it.
use Rattle.std.proofs.Common.{◌≡◌, ◌≢◌, ◌⊎◌, Option, Some, None, true, false, Bool, List, [], ◌∷◌, ◌++◌, refl, sym, ◌∙◌, ap, append-nil, append_assoc}
use Rattle.std.specs.Prelude.{if◌then◌else◌}
use Rattle.nc_number.specs.Path.{is_same}
use Rattle.nc_number.specs.declared.path.Path.{Path}
use Rattle.nc_number.specs.declared.path.Path.TheVariants.{One, Two}
use Rattle.nc_outside.specs.declared.got.Got.{Got}
use Rattle.run_records.specs.Entries.{Entry}
use Rattle.two_path.specs.Machine.{MachineView}
use Rattle.two_path.specs.declared.turn.Turn.{Turn}
use Rattle.run_records.specs.declared.entry.EntryKind.{EntryKind}
use Rattle.run_table.specs.declared.answer.TableStep.{TableStep}
use Rattle.run_table.specs.declared.answer.TableStep.TheVariants.{Turned, DiskFault}
use Rattle.two_path.specs.Turns.{Tapes, kind_of}
use Rattle.two_path.specs.Histories.{behind_entry, fold}
use Rattle.two_path.specs.Again.{turn_of_entry}
use Rattle.run_table.specs.Draining.{told_in_turn}
use Rattle.run_table.specs.Made.{if_of, told_from}
use Rattle.run_table.specs.Holding.{lost_from, answered_from}

-- with one record more, the list of its path has what its turn tells more
shown_more : (tapes : Tapes) (m : MachineView) (path : Path) (entries : List Entry) (e : Entry)
    → told_from tapes m path (entries ++ e ∷ []) ≡ told_from tapes m path entries ++ if_of path e (told_in_turn (turn_of_entry tapes e (fold tapes m entries)))
shown_more tapes m path [] e = append-nil (if_of path e (told_in_turn (turn_of_entry tapes e m)))
shown_more tapes m path (f ∷ entries) e =
    ap (λ (l : List (List Got)). if_of path f (told_in_turn (turn_of_entry tapes f m)) ++ l) (shown_more tapes (behind_entry tapes f m) path entries e)
    ∙ sym (append_assoc (if_of path f (told_in_turn (turn_of_entry tapes f m))) (told_from tapes (behind_entry tapes f m) path entries)
    (if_of path e (told_in_turn (turn_of_entry tapes e (fold tapes m (f ∷ entries))))))

-- with one record more that was not answered, the list of its path has an empty entry more
lost_more : (tapes : Tapes) (m : MachineView) (path : Path) (entries : List Entry) (e : Entry)
    → lost_from tapes m path (entries ++ e ∷ []) ≡ told_from tapes m path entries ++ if_of path e []
lost_more tapes m path [] e = refl
lost_more tapes m path (f ∷ []) e =
    ap (λ (l : List (List Got)). l ++ if_of path e []) (sym (append-nil (if_of path f (told_in_turn (turn_of_entry tapes f m)))))
lost_more tapes m path (f ∷ g ∷ entries) e =
    ap (λ (l : List (List Got)). if_of path f (told_in_turn (turn_of_entry tapes f m)) ++ l) (lost_more tapes (behind_entry tapes f m) path (g ∷ entries) e)
    ∙ sym (append_assoc (if_of path f (told_in_turn (turn_of_entry tapes f m))) (told_from tapes (behind_entry tapes f m) path (g ∷ entries)) (if_of path e []))

-- what a record tells, as one entry of the list of the record's path
mine : (path : Path) (e : Entry) (moves : List Got) → e.path ≡ path → if_of path e moves ≡ moves ∷ []
mine path e moves is = ap (λ (p : Path). if is_same path p then moves ∷ [] else []) is ∙ own path
  where
    own : (path : Path) → (if is_same path path then moves ∷ [] else []) ≡ moves ∷ []
    own One = refl
    own Two = refl

-- a record of the other path adds nothing to this path's list
other : (path p : Path) (e : Entry) (moves : List Got) → e.path ≡ path → p ≢ path → if_of p e moves ≡ []
other path p e moves is differ = ap (λ (q : Path). if is_same p q then moves ∷ [] else []) is ∙ go p path differ
  where
    go : (p path : Path) → p ≢ path → (if is_same p path then moves ∷ [] else []) ≡ []
    go One One differ = absurd (differ refl)
    go One Two differ = refl
    go Two One differ = refl
    go Two Two differ = absurd (differ refl)

-- one record more of a path adds an entry with what it tells to the path's list, and the other's list
-- stays
pub record GrowsBy (path : Path) (moves : List Got) (before after : Path → List (List Got)) : Type 0 where
  -- the path's own list has one entry more
  pub own : after path ≡ before path ++ moves ∷ []
  -- the other path's list is the same
  pub others : (p : Path) → p ≢ path → after p ≡ before p

-- records with one more, which is of this path
module _ (tapes : Tapes) (m : MachineView) (path : Path) (entries : List Entry) (e : Entry) (is : e.path ≡ path) where
  -- the lists grow by one record that tells this
  by_moves : (moves : List Got) (after : Path → List (List Got))
      → ((p : Path) → after p ≡ told_from tapes m p entries ++ if_of p e moves) → GrowsBy path moves (λ p. told_from tapes m p entries) after
  by_moves moves after more = record {
    own = more path ∙ ap (λ (l : List (List Got)). told_from tapes m path entries ++ l) (mine path e moves is);
    others = λ p differ. more p ∙ ap (λ (l : List (List Got)). told_from tapes m p entries ++ l) (other path p e moves is differ) ∙ append-nil (told_from tapes m p entries);
  }

  -- a record that was answered makes the lists grow by what it tells
  pub shown_grows : (moves : List Got) → told_in_turn (turn_of_entry tapes e (fold tapes m entries)) ≡ moves
      → GrowsBy path moves (λ p. answered_from tapes m p true entries) (λ p. answered_from tapes m p true (entries ++ e ∷ []))
  shown_grows moves same =
      by_moves moves (λ p. told_from tapes m p (entries ++ e ∷ []))
      (λ p. shown_more tapes m p entries e ∙ ap (λ (l : List Got). told_from tapes m p entries ++ if_of p e l) same)

  -- a last record whose answer was lost makes the lists grow by an empty entry
  pub lost_grows : GrowsBy path [] (λ p. answered_from tapes m p true entries) (λ p. answered_from tapes m p false (entries ++ e ∷ []))
  lost_grows = by_moves [] (λ p. lost_from tapes m p (entries ++ e ∷ [])) (λ p. lost_more tapes m p entries e)

-- what a turn adds to the lists of the paths, by whether it makes a record: with one an entry of what
-- it tells to its path's list, and else nothing
abbrev pub GrowsByTurn : Path → Turn → Option EntryKind → (Path → List (List Got)) → (Path → List (List Got)) → Type 0
GrowsByTurn path t None before after = (p : Path) → after p ≡ before p
GrowsByTurn path t (Some kind) before after = GrowsBy path (told_in_turn t) before after

-- what a step of the path adds to the lists of the paths, by what it answers: a turn as above, a fault
-- of the disk an empty entry or nothing, and another answer nothing
abbrev pub Grows : Path → TableStep → (Path → List (List Got)) → (Path → List (List Got)) → Type 0
Grows path (Turned t) before after = GrowsByTurn path t (kind_of t) before after
Grows path DiskFault before after = GrowsBy path [] before after ⊎ ((p : Path) → after p ≡ before p)
Grows path other before after = (p : Path) → after p ≡ before p
