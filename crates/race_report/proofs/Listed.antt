-- The list of races as it takes one variable after another: for `add_race` and `races`
-- (src/racing.rt).
use Rattle.std.proofs.Common.{◌≡◌, ℕ, zero, suc, ◌+◌, ◌<◌, ◌≤◌, ◌⊎◌, inl, inr, Bool, true, false, List, [], ◌∷◌, ◌++◌, Some, None, sym, subst, ◌∙◌, arith}
use Rattle.nc_number.proofs.Counts.{last_or_before}
use Rattle.cell_settings.specs.declared.settings.Settings.{Settings}
use Rattle.tape_flow.specs.declared.flow.Flow.{Flow}
use Rattle.race_order.specs.Races.{IsRace}
use Rattle.race_report.specs.declared.race.Race.{Race}
use Rattle.race_report.specs.RaceLists.{shared_by, IsFirstRace, AreFirst, AreRising, HasVariable, IsRaceList}
use Rattle.race_report.specs.Found.{AreBelow, IsListedBelow, IsAnswer}

-- if a race of a higher variable is added, the variables of the list still rise
rising_more : (low v : ℕ) (races : List Race) (race : Race) → low < v → race.variable ≡ v → AreRising low races → AreBelow v races
    → AreRising low (races ++ race ∷ [])
rising_more low v [] race above is rising below = (omega arith, tt)
rising_more low v (r ∷ races) race above is rising below =
    (rising.0, rising_more r.variable v races race below.0 is rising.1 below.1)

-- if a race of the variable v is added, all variables of the list are below v + 1
below_more : (v : ℕ) (races : List Race) (race : Race) → race.variable ≡ v → AreBelow v races → AreBelow (v + 1) (races ++ race ∷ [])
below_more v [] race is below = (omega arith, tt)
below_more v (r ∷ races) race is below = ((let less = below.0 in omega arith), below_more v races race is below.1)

-- variables that are below one are below each later one
below_later : (v w : ℕ) (races : List Race) → v ≤ w → AreBelow v races → AreBelow w races
below_later v w [] le below = tt
below_later v w (r ∷ races) le below = ((let less = below.0 in omega arith), below_later v w races le below.1)

-- if a first race is added, each race of the list is still the first of its variable
firsts_more : (shared : ℕ → Bool) (left right : Flow) (races : List Race) (race : Race) → AreFirst shared left right races
    → IsFirstRace shared left right race → AreFirst shared left right (races ++ race ∷ [])
firsts_more shared left right [] race all one = (one, tt)
firsts_more shared left right (r ∷ races) race all one = (all.0, firsts_more shared left right races race all.1 one)

-- if a race is added, the variables from before still have theirs
had_before : (v : ℕ) (races : List Race) (race : Race) → HasVariable v races → HasVariable v (races ++ race ∷ [])
had_before v [] race has = absurd has
had_before v (r ∷ races) race (inl e) = inl e
had_before v (r ∷ races) race (inr has) = inr (had_before v races race has)

-- if a race is added, its variable has one
has_now : (v : ℕ) (races : List Race) (race : Race) → race.variable ≡ v → HasVariable v (races ++ race ∷ [])
has_now v [] race e = inl e
has_now v (r ∷ races) race e = inr (has_now v races race e)

-- Both flows of a pair, and the variables that both paths share.
module _ (shared : ℕ → Bool) (left right : Flow) where
  -- with the first race of the variable v added, the list is that of the variables up to v
  pub listed_one : (v : ℕ) (races : List Race) (race : Race) → 0 < v → IsListedBelow shared left right v races
      → IsAnswer shared left right v (Some race) → IsListedBelow shared left right (v + 1) (races ++ race ∷ [])
  listed_one v races race some listed is = record {
    rising = rising_more 0 v races race some is.0 listed.rising listed.below;
    below = below_more v races race is.0 listed.below;
    firsts = firsts_more shared left right races race listed.firsts is.1;
    one = λ n u less there. one n u there (last_or_before u v less);
    two = λ n u less there. two n u there (last_or_before u v less);
  }
    where
      one : (n u : ℕ) → IsRace shared left right n u → (u ≡ v) ⊎ (u < v) → HasVariable u (races ++ race ∷ [])
      one n u there (inl e) = has_now u races race (is.0 ∙ sym e)
      one n u there (inr less) = had_before u races race (listed.one n u less there)

      two : (n u : ℕ) → IsRace shared right left n u → (u ≡ v) ⊎ (u < v) → HasVariable u (races ++ race ∷ [])
      two n u there (inl e) = has_now u races race (is.0 ∙ sym e)
      two n u there (inr less) = had_before u races race (listed.two n u less there)

  -- if the variable v has no race, the list is that of the variables up to v
  pub listed_none : (v : ℕ) (races : List Race) → IsListedBelow shared left right v races
      → IsAnswer shared left right v None → IsListedBelow shared left right (v + 1) races
  listed_none v races listed is = record {
    rising = listed.rising;
    below = below_later v (v + 1) races (omega arith) listed.below;
    firsts = listed.firsts;
    one = λ n u less there. one n u there (last_or_before u v less);
    two = λ n u less there. two n u there (last_or_before u v less);
  }
    where
      one : (n u : ℕ) → IsRace shared left right n u → (u ≡ v) ⊎ (u < v) → HasVariable u races
      one n u there (inl e) = absurd (is.0 n (subst (λ k. IsRace shared left right n k) e there))
      one n u there (inr less) = listed.one n u less there

      two : (n u : ℕ) → IsRace shared right left n u → (u ≡ v) ⊎ (u < v) → HasVariable u races
      two n u there (inl e) = absurd (is.1 n (subst (λ k. IsRace shared right left n k) e there))
      two n u there (inr less) = listed.two n u less there

  -- over variables that are not shared, which have no race, the list stays as it is
  pub listed_on : (v w : ℕ) (races : List Race) → v ≤ w → ((u : ℕ) → v ≤ u → u < w → shared u ≡ false)
      → IsListedBelow shared left right v races → IsListedBelow shared left right w races
  listed_on v w races le unshared listed = record {
    rising = listed.rising;
    below = below_later v w races le listed.below;
    firsts = listed.firsts;
    one = λ n u less there. one n u less there (order u v);
    two = λ n u less there. two n u less there (order u v);
  }
    where
      order : (u v : ℕ) → (u < v) ⊎ (v ≤ u)
      order u v = grind arith

      one : (n u : ℕ) → u < w → IsRace shared left right n u → (u < v) ⊎ (v ≤ u) → HasVariable u races
      one n u less there (inl before) = listed.one n u before there
      one n u less there (inr from) = let never = unshared u from less in let is = there.is_shared in absurd cc

      two : (n u : ℕ) → u < w → IsRace shared right left n u → (u < v) ⊎ (v ≤ u) → HasVariable u races
      two n u less there (inl before) = listed.two n u before there
      two n u less there (inr from) = let never = unshared u from less in let is = there.is_shared in absurd cc

  -- below the first shared variable the list is empty
  pub listed_start : (low : ℕ) → ((u : ℕ) → u < low → shared u ≡ false) → IsListedBelow shared left right low []
  listed_start low unshared = record {
    rising = tt;
    below = tt;
    firsts = tt;
    one = λ n u less there. let never = unshared u less in let is = there.is_shared in absurd cc;
    two = λ n u less there. let never = unshared u less in let is = there.is_shared in absurd cc;
  }

  -- behind the last shared variable the list is whole
  pub listed_all : (high : ℕ) (races : List Race) → ((u : ℕ) → high ≤ u → shared u ≡ false)
      → IsListedBelow shared left right high races → IsRaceList shared left right races
  listed_all high races unshared listed = record {
    rising = listed.rising;
    firsts = listed.firsts;
    one = λ n u there. one n u there (order u high);
    two = λ n u there. two n u there (order u high);
  }
    where
      order : (u v : ℕ) → (u < v) ⊎ (v ≤ u)
      order u v = grind arith

      one : (n u : ℕ) → IsRace shared left right n u → (u < high) ⊎ (high ≤ u) → HasVariable u races
      one n u there (inl less) = listed.one n u less there
      one n u there (inr more) = let never = unshared u more in let is = there.is_shared in absurd cc

      two : (n u : ℕ) → IsRace shared right left n u → (u < high) ⊎ (high ≤ u) → HasVariable u races
      two n u there (inl less) = listed.two n u less there
      two n u there (inr more) = let never = unshared u more in let is = there.is_shared in absurd cc

-- no variable below #100 is shared
before_the_first : (settings : Settings) (u : ℕ) → u < 100 → shared_by settings u ≡ false
before_the_first settings u less = grind arith

-- no variable between the shared ones from #100 and those from #500 is shared
pub between_both : (settings : Settings) (u : ℕ) → 100 + settings.shared100 ≤ u → u < 500 → shared_by settings u ≡ false
between_both settings u more less = grind arith

-- no variable behind the shared ones from #500 is shared
pub behind_the_last : (settings : Settings) (u : ℕ) → 500 + settings.shared500 ≤ u → settings.shared100 ≤ 100 → shared_by settings u ≡ false
behind_the_last settings u more few = grind arith

-- the number of a shared variable is above 0
pub above_zero : (settings : Settings) (v : ℕ) → shared_by settings v ≡ true → 0 < v
above_zero settings zero e = let none = before_the_first settings 0 (omega arith) in absurd cc
above_zero settings (suc v) e = omega arith
