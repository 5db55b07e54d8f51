-- The list of a path has as many waits as its list of labels: the law
-- `equal_lists_have_equally_many_waits`. An item of the first list is a stretch of blocks, a wait
-- or the new beginning; each mark (a wait, an end, an M99 without a number, a call that leads to a
-- wait or an end) ends a stretch.
use Rattle.std.proofs.Common.{◌≡◌, ℕ, zero, suc, List, [], ◌∷◌, refl, ap}
use Rattle.block_order.specs.declared.label.Label.{Label}
use Rattle.block_order.specs.declared.label.Label.TheVariants as label
use Rattle.block_order.specs.declared.label.Mark.{Mark}
use Rattle.block_order.specs.declared.label.Mark.TheVariants as mark
use Rattle.block_order.specs.declared.program.ControlProgram.{ControlProgram}
use Rattle.block_order.specs.Order.{blocks, main_number}
use Rattle.block_order.specs.Loud.{loud, marks}
use Rattle.block_order.specs.Labels as labels
use Rattle.part_order.specs.Parts.{Item, Anew, times, items, items_of_call, waits_in, path_items, path_waits}

-- How many waits the labels have.
abbrev pub waits_of : List Label → ℕ
waits_of [] = 0
waits_of (label.Wait code ∷ ls) = suc (waits_of ls)
waits_of (label.End ∷ ls) = waits_of ls
waits_of (label.Again ∷ ls) = waits_of ls
waits_of (label.Off ∷ ls) = waits_of ls

-- The first function adds as many waits to items as the second one to labels.
abbrev AddAlike : (List Item → List Item) → (List Label → List Label) → Type 0
AddAlike f g = (xs : List Item) (ls : List Label) → waits_in xs ≡ waits_of ls → waits_in (f xs) ≡ waits_of (g ls)

-- Two functions that add equally many waits do so n times over.
times_alike : (f : List Item → List Item) (g : List Label → List Label) → AddAlike f g → (n : ℕ) → AddAlike (times n f) (labels.times n g)
times_alike f g alike zero xs ls e = e
times_alike f g alike (suc n) xs ls e = alike (times n f xs) (labels.times n g ls) (times_alike f g alike n xs ls e)

-- The items of marks add as many waits as their labels, if called programs do.
items_alike : (f : ℕ → List Item → List Item) (g : ℕ → List Label → List Label) → ((q : ℕ) → AddAlike (f q) (g q))
    → (p s : ℕ) (ms : List Mark) → AddAlike (items f p s ms) (labels.labels g ms)
items_alike f g alike p s [] xs ls e = refl
items_alike f g alike p s (mark.Wait code ∷ ms) xs ls e = ap suc (items_alike f g alike p (suc s) ms xs ls e)
items_alike f g alike p s (mark.End ∷ ms) xs ls e = refl
items_alike f g alike p s (mark.Call q r ∷ ms) xs ls e =
    times_alike (f q) (g q) (alike q) r (items f p (suc s) ms xs) (labels.labels g ms ls) (items_alike f g alike p (suc s) ms xs ls e)
items_alike f g alike p s (mark.Back ∷ ms) xs ls e = e
items_alike f g alike p s (mark.Past ∷ ms) xs ls e = refl

-- The items of a whole program add as many waits as its labels.
whole_alike : (tape : List ControlProgram) (n program : ℕ) → AddAlike (items_of_call tape n program) (labels.labels_of_call tape n program)
unfolding items_of_call labels.labels_of_call
whole_alike tape zero program xs ls e = e
whole_alike tape (suc n) program xs ls e =
    items_alike (λ q k. items_of_call tape n q k) (λ q k. labels.labels_of_call tape n q k) (λ q. whole_alike tape n q) program 0
    (marks (loud tape) (blocks tape program)) xs ls e

-- The list of a path has as many waits as its list of labels.
pub list_waits : (tape : List ControlProgram) → waits_in (path_items tape) ≡ waits_of (labels.list tape)
list_waits tape =
    items_alike (λ q k. items_of_call tape 8 q k) (λ q k. labels.labels_of_call tape 8 q k) (λ q. whole_alike tape 8 q) (main_number tape) 0
    (marks (loud tape) (blocks tape (main_number tape))) (Anew ∷ []) (label.Again ∷ []) refl

-- Two tapes with one list of labels have equally many waits.
pub waits_agree : (left right : List ControlProgram) → labels.list left ≡ labels.list right → path_waits left ≡ path_waits right
waits_agree left right e = rw (list_waits left, list_waits right) (ap waits_of e)
