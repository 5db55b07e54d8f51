-- What a turret was told after one more move of a block, and after a turn.
-- The proofs of `hand_all` and `give_turn` (src/turns.rt) and of src/rest.rt use it.
use Rattle.std.proofs.Common.{◌≡◌, ◌+◌, ◌<◌, ℕ, List, [], ◌∷◌, ◌++◌, length, map, take, get_or, refl, ap, sym, ◌∙◌, subst, append_assoc, append-nil}
use Rattle.std.proofs.lemmas.List.{map-append, take_more}
use Rattle.nc_moves.specs.declared.motion.Move.{Move}
use Rattle.nc_outside.specs.declared.got.Got.{Got}
use Rattle.nc_outside.specs.declared.got.Got.TheVariants.{Moved}
use Rattle.nc_outside.specs.Lined.{lined_move}
use Rattle.drive_line.specs.Driving.{DrivenState, Serves}
use Rattle.seat_table.specs.Turning.{Tellings}
use Rattle.turret_run.specs.Rests.{ServesOn}

-- what was told before a block, its first i moves and then its next one are told with its first i + 1
pub block_more : (line : ℕ) (told : List Got) (list items : List Move) (i : ℕ) (what : Move) → items ≡ list → i < length items → what ≡ get_or items i what
    → (told ++ map Moved (map (lined_move line) (take i list))) ++ Moved (lined_move line what) ∷ [] ≡ told ++ map Moved (map (lined_move line) (take (i + 1) list))
block_more line told list items i what same within is =
    let more : take i list ++ what ∷ [] ≡ take (i + 1) list =
    subst (λ (l : List Move). take i l ++ what ∷ [] ≡ take (i + 1) l) same (ap (λ x. take i items ++ x ∷ []) is ∙ sym (take_more items i what within)) in
    append_assoc told (map Moved (map (lined_move line) (take i list))) (Moved (lined_move line what) ∷ [])
    ∙ ap (λ l. told ++ l) (sym (map-append Moved (map (lined_move line) (take i list)) (lined_move line what ∷ []))
    ∙ ap (map Moved) (sym (map-append (lined_move line) (take i list) (what ∷ [])) ∙ ap (map (lined_move line)) more))

-- a turret that is told nothing more has served what was told
pub nothing_more : (old new : Tellings) (is : DrivenState) → new ≡ old ++ [] → ServesOn old is new is
nothing_more old new is same = λ start s. subst (λ l. Serves l start is) (sym (same ∙ append-nil old)) s

-- nothing behind what was told changes nothing
pub with_none : (old new : Tellings) (was is : DrivenState) → ServesOn old was new is → ServesOn (old ++ []) was (new ++ []) is
with_none old new was is s = λ start before. subst (λ l. Serves l start is) (sym (append-nil new)) (s start (subst (λ l. Serves l start was) (append-nil old) before))
