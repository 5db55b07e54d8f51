-- The lines of races, put into a sink one after another: for the loop of `put_races`
-- (src/writing.rt).
use Rattle.std.proofs.Common.{◌≡◌, ℕ, suc, ◌+◌, ◌<◌, ◌≤◌, List, [], ◌∷◌, length, drop, get_or, Result, Ok, Err, refl, ap, subst, ◌∙◌, arith}
use Rattle.std.proofs.Math.Seq.{drop-cons}
use Rattle.std.proofs.Math.ListN.{drop_of_length-le}
use Rattle.nc_outside.specs.declared.sink.PutFault.{PutFault}
use Rattle.nc_outside.specs.Written.{SinkState}
use Rattle.nc_verify.specs.Printed.{IsPut}
use Rattle.nc_verify.proofs.InPieces.{put_nothing}
use Rattle.nc_verify.proofs.Put.{put_then, put_stops}
use Rattle.race_report.specs.declared.race.Race.{Race}
use Rattle.race_report.specs.Texts.{race_text, races_text}

-- putting the lines of the races that are left, from now on, puts those of all races from `old` on
abbrev pub PutsAll : SinkState → SinkState → List Race → List Race → Type 0
PutsAll old now races rest =
    (new : SinkState) (result : Result (Unit {0}) PutFault) → IsPut now new (races_text rest) result → IsPut old new (races_text races) result

-- the races from one on are that one and those behind it
left_at : (races : List Race) (i : ℕ) (d : Race) → i < length races → drop i races ≡ get_or races i d ∷ drop (i + 1) races
left_at races i d within =
    let next : suc i ≡ i + 1 = omega arith in drop-cons races i d within ∙ ap (λ k. get_or races i d ∷ drop k races) next

-- if one line more is put whole, putting the rest still puts all
pub puts_on : (old now mid : SinkState) (races : List Race) (i : ℕ) (d : Race) → i < length races
    → IsPut now mid (race_text (get_or races i d)) (Ok tt) → PutsAll old now races (drop i races) → PutsAll old mid races (drop (i + 1) races)
puts_on old now mid races i d within one so new result rest =
    let all = subst (PutsAll old now races) (left_at races i d within) so in
    all new result (put_then now mid new (race_text (get_or races i d)) (races_text (drop (i + 1) races)) result one rest)

-- if one line is put up to a fault, so is the text of all
pub puts_break : (old now new : SinkState) (races : List Race) (i : ℕ) (d : Race) (fault : PutFault) → i < length races
    → IsPut now new (race_text (get_or races i d)) (Err fault) → PutsAll old now races (drop i races) → IsPut old new (races_text races) (Err fault)
puts_break old now new races i d fault within one so =
    let all = subst (PutsAll old now races) (left_at races i d within) so in
    all new (Err fault) (put_stops now new (race_text (get_or races i d)) (races_text (drop (i + 1) races)) fault one)

-- if no line is left, the text of all is put whole
pub puts_end : (old now : SinkState) (races : List Race) (i : ℕ) → length races ≤ i → PutsAll old now races (drop i races)
    → IsPut old now (races_text races) (Ok tt)
puts_end old now races i past so =
    (subst (PutsAll old now races) (drop_of_length-le races past) so) now (Ok tt) (put_nothing now)
