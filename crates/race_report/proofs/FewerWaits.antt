-- A race behind more waits than the lists of labels have is one of a round before too, since at an
-- M99 of the main program both paths begin anew: a round is the waits of a list, come to once. So
-- the parts of one round are enough: for FirstRaces.
use Rattle.std.proofs.Common.{◌≡◌, ℕ, zero, suc, ◌+◌, ◌-◌, ◌<◌, ◌≤◌, ◌⊎◌, inl, inr, Bool, refl, subst, sym, arith}
use Rattle.nc_number.proofs.Counts.{le_or_lt}
use Rattle.nc_number.specs.declared.path.Path.{Path}
use Rattle.nc_number.specs.declared.path.Path.TheVariants.{One, Two}
use Rattle.tape_flow.specs.declared.flow.Flow.{Flow}
use Rattle.part_order.specs.Parts.{IsInPart, path_waits}
use Rattle.part_order.proofs.Folded.{parts_repeat}
use Rattle.race_report.specs.declared.race.Race.{Race}
use Rattle.race_report.specs.RaceLists.{writer_of, other_of, IsRaceAt}

-- the same race behind another number of waits
abbrev pub behind : ℕ → Race → Race
behind n race = record race { after = n }

-- the lists of both paths have so many waits
pub record HaveWaits (left right : Flow) (waits : ℕ) : Type 0 where
  pub one : path_waits left.order ≡ waits
  pub two : path_waits right.order ≡ waits

-- the list of labels of the path that writes has so many waits
waits_of_writer : (left right : Flow) (waits : ℕ) → HaveWaits left right waits → (p : Path) → path_waits (writer_of p left right).order ≡ waits
waits_of_writer left right waits have One = have.one
waits_of_writer left right waits have Two = have.two

-- the list of labels of the path that does not write has so many waits
waits_of_other : (left right : Flow) (waits : ℕ) → HaveWaits left right waits → (p : Path) → path_waits (other_of p left right).order ≡ waits
waits_of_other left right waits have One = have.two
waits_of_other left right waits have Two = have.one

-- a block of part n + waits is one of part n too: at an M99 of the main program a path begins anew
part_down : (flow : Flow) (waits n program place : ℕ) → path_waits flow.order ≡ waits → 0 < n → IsInPart flow.order (n + waits) program place
    → IsInPart flow.order n program place
part_down flow waits n program place is some inside =
    (parts_repeat flow.order).before n program place some
    (subst (λ w. IsInPart flow.order (n + w) program place) (sym is) inside)

-- a race behind one round of waits more is a race of the same lines behind one round less
one_round : (shared : ℕ → Bool) (left right : Flow) (waits n : ℕ) → HaveWaits left right waits → (race : Race) → 0 < n → race.after ≡ n + waits
    → IsRaceAt shared left right race → IsRaceAt shared left right (behind n race)
one_round shared left right waits n have race some e is =
    let w = is.writes in
    let m = is.names in
    let writer = writer_of race.writer left right in
    let other = other_of race.writer left right in
    record {
      is_shared = is.is_shared;
      writes = (
        w.0,
        w.1,
        w.2,
        part_down writer waits n w.0 w.1 (waits_of_writer left right waits have race.writer) some
            (subst (λ k. IsInPart writer.order k w.0 w.1) e w.3),
        w.4,
        w.5,
        w.6,
      );
      names = (
        m.0,
        m.1,
        m.2,
        part_down other waits n m.0 m.1 (waits_of_other left right waits have race.writer) some
            (subst (λ k. IsInPart other.order k m.0 m.1) e m.3),
        m.4,
        m.5,
        m.6,
      );
    }

-- the race is one of the same lines behind n waits, which are no more than the lists have, and no
-- more than it was behind
pub record IsDown (shared : ℕ → Bool) (left right : Flow) (waits : ℕ) (race : Race) : Type 0 where
  -- behind how many waits there is the same race
  pub n : ℕ
  pub few : n ≤ waits
  pub fewer : (n ≡ race.after) ⊎ (n < race.after)
  -- the race behind n waits, of the same lines, is one of the pair
  pub is : IsRaceAt shared left right (behind n race)

-- without a wait there is only the part behind none
without : (shared : ℕ → Bool) (left right : Flow) (race : Race) → HaveWaits left right 0 → IsRaceAt shared left right race → race.after ≡ 0
without shared left right race have is =
    let w = is.writes in
    (parts_repeat (writer_of race.writer left right).order).alone race.after w.0 w.1
    (waits_of_writer left right 0 have race.writer) w.3

-- a race behind any number of waits is one behind at most a round of them
down : (shared : ℕ → Bool) (left right : Flow) (waits fuel : ℕ) → HaveWaits left right waits → (race : Race) → race.after ≤ fuel
    → IsRaceAt shared left right race → IsDown shared left right waits race
down shared left right waits zero have race within is =
    record { n = race.after; few = omega arith; fewer = inl refl; is = is }
down shared left right waits (suc fuel) have race within is =
    go (le_or_lt race.after waits) (λ smaller less there. down shared left right waits fuel have smaller less there)
  where
    less : (n : ℕ) → waits < race.after → 0 < waits → (n ≡ race.after - waits) ⊎ (n < race.after - waits) → n < race.after
    less n more some (inl e) = omega arith
    less n more some (inr l) = omega arith

    further : (w : ℕ) → waits ≡ w → waits < race.after
        → ((smaller : Race) → smaller.after ≤ fuel → IsRaceAt shared left right smaller → IsDown shared left right waits smaller)
        → IsDown shared left right waits race
    further zero none more again =
        let alone = without shared left right race (subst (HaveWaits left right) none have) is in absurd (omega arith)
    further (suc w) some more again =
        let at : race.after ≡ (race.after - waits) + waits = omega arith in
        let before = one_round shared left right waits (race.after - waits) have race (omega arith) at is in
        let rest = again (behind (race.after - waits) race) (omega arith) before in
        record { n = rest.n; few = rest.few; fewer = inr (less rest.n more (omega arith) rest.fewer); is = rest.is }

    go : (race.after ≤ waits) ⊎ (waits < race.after)
        → ((smaller : Race) → smaller.after ≤ fuel → IsRaceAt shared left right smaller → IsDown shared left right waits smaller)
        → IsDown shared left right waits race
    go (inl few) again = record { n = race.after; few = few; fewer = inl refl; is = is }
    go (inr more) again = further waits refl more again

-- each race is one of the same lines behind at most as many waits as the lists have
pub down_to : (shared : ℕ → Bool) (left right : Flow) (waits : ℕ) → HaveWaits left right waits → (race : Race)
    → IsRaceAt shared left right race → IsDown shared left right waits race
down_to shared left right waits have race is = down shared left right waits race.after have race (omega arith) is
