-- A pair has one list of races at most: each entry is the first race of its variable, and the
-- variables rise. For the law `a_pair_has_one_list_of_races` (src/laws.rt) and SameForms.
use Rattle.std.proofs.Common.{◌≡◌, ℕ, ◌<◌, ◌⊎◌, inl, inr, Bool, List, [], ◌∷◌, refl, sym, subst, ◌∙◌, arith}
use Rattle.nc_number.specs.declared.path.Path.{Path}
use Rattle.nc_number.specs.declared.path.Path.TheVariants.{One, Two}
use Rattle.tape_flow.specs.declared.flow.Flow.{Flow}
use Rattle.race_order.specs.Races.{IsRace}
use Rattle.race_report.specs.declared.race.Race.{Race}
use Rattle.race_report.specs.RaceLists.{MayWriteAt, NamesAt, writer_of, other_of, IsRaceAt, HasLessLines, WritesFirst, ComesFirst, IsFirstRace, AreFirst, AreRising, HasVariable, IsRaceList}

-- two races that each have no greater lines than the other have the same lines
same_lines : (a b : Race) → HasLessLines a b → HasLessLines b a → (a.write_line ≡ b.write_line) × (a.other_line ≡ b.other_line)
same_lines a b (inl less) (inl more) = absurd (omega arith)
same_lines a b (inl less) (inr (e, le)) = absurd (omega arith)
same_lines a b (inr (e, le)) (inl more) = absurd (omega arith)
same_lines a b (inr (e, le)) (inr (e', ge)) = (e, (let both : a.other_line ≡ b.other_line = omega arith in both))

-- path 1 is not path 2
apart : One ≡ Two → ⊥
apart e = absurd cc

-- two races that each come first by writer and lines have the same writer and lines
same_writer : (a b : Race) → WritesFirst a b → WritesFirst b a
    → (a.writer ≡ b.writer) × (a.write_line ≡ b.write_line) × (a.other_line ≡ b.other_line)
same_writer a b (inl (one, two)) (inl (one', two')) = absurd (apart (sym one ∙ two'))
same_writer a b (inl (one, two)) (inr (e, less)) = absurd (apart (sym one ∙ (sym e ∙ two)))
same_writer a b (inr (e, less)) (inl (one, two)) = absurd (apart (sym one ∙ (sym e ∙ two)))
same_writer a b (inr (e, less)) (inr (e', more)) = let lines = same_lines a b less more in (e, lines.0, lines.1)

-- two first races of one variable are one race
same_race : (a b : Race) → a.variable ≡ b.variable → ComesFirst a b → ComesFirst b a → a ≡ b
same_race a b v (inl less) (inl more) = absurd (omega arith)
same_race a b v (inl less) (inr (e, w)) = absurd (omega arith)
same_race a b v (inr (e, w)) (inl more) = absurd (omega arith)
same_race a b v (inr (e, w)) (inr (e', w')) =
    let s = same_writer a b w w' in
    λ i. record { variable = v i; after = e i; writer = s.0 i; write_line = s.1 i; other_line = s.2 i }

-- all variables of a list that rises are above where it begins
above : (low v : ℕ) (races : List Race) → AreRising low races → HasVariable v races → low < v
above low v [] rising has = absurd has
above low v (race ∷ races) rising (inl e) = let first = rising.0 in omega arith
above low v (race ∷ races) rising (inr has) =
    let first = rising.0 in let rest = above race.variable v races rising.1 has in omega arith

-- the variables of the one list are among those of the other
abbrev AreAmong : List Race → List Race → Type 0
AreAmong xs ys = (v : ℕ) → HasVariable v xs → HasVariable v ys

-- two numbers are equal, or one is less
less_or_more : (a b : ℕ) → (a ≡ b) ⊎ ((a < b) ⊎ (b < a))
less_or_more a b = grind arith

-- a list of rising variables has none below its first
not_before : (v : ℕ) (y : Race) (ys : List Race) → AreRising y.variable ys → v < y.variable → HasVariable v (y ∷ ys) → ⊥
not_before v y ys rising less (inl e) = absurd (omega arith)
not_before v y ys rising less (inr has) = let more = above y.variable v ys rising has in absurd (omega arith)

-- if the variables of one list are among those of another with the same first variable, so are
-- those behind the first
among_rest : (x y : Race) (xs ys : List Race) → x.variable ≡ y.variable → AreRising x.variable xs
    → AreAmong (x ∷ xs) (y ∷ ys) → AreAmong xs ys
among_rest x y xs ys e rising among v has = go (among v (inr has))
  where
    go : HasVariable v (y ∷ ys) → HasVariable v ys
    go (inl is) = let more = above x.variable v xs rising has in absurd (omega arith)
    go (inr there) = there

-- Both flows of a pair, and the variables that both paths share.
module _ (shared : ℕ → Bool) (left right : Flow) where
  -- a variable has one first race at most
  first_once : (a b : Race) → a.variable ≡ b.variable → IsFirstRace shared left right a → IsFirstRace shared left right b → a ≡ b
  first_once a b v one two = same_race a b v (one.first b (sym v) two.is) (two.first a v one.is)

  -- two rising lists of first races with the same variables are one
  lists_once : (low high : ℕ) (xs ys : List Race) → AreRising low xs → AreRising high ys → AreFirst shared left right xs → AreFirst shared left right ys
      → AreAmong xs ys → AreAmong ys xs → xs ≡ ys
  lists_once low high [] [] up also firsts others there here = refl
  lists_once low high [] (y ∷ ys) up also firsts others there here = absurd (here y.variable (inl refl))
  lists_once low high (x ∷ xs) [] up also firsts others there here = absurd (there x.variable (inl refl))
  lists_once low high (x ∷ xs) (y ∷ ys) up also firsts others there here =
      go (less_or_more x.variable y.variable) (λ e. lists_once x.variable y.variable xs ys up.1 also.1 firsts.1 others.1
      (among_rest x y xs ys e up.1 there) (among_rest y x ys xs (sym e) also.1 here))
    where
      go : (x.variable ≡ y.variable) ⊎ ((x.variable < y.variable) ⊎ (y.variable < x.variable)) → (x.variable ≡ y.variable → xs ≡ ys)
          → x ∷ xs ≡ y ∷ ys
      go (inl e) rest = λ i. first_once x y e firsts.0 others.0 i ∷ rest e i
      go (inr (inl less)) rest = absurd (not_before x.variable y ys also.1 less (there x.variable (inl refl)))
      go (inr (inr more)) rest = absurd (not_before y.variable x xs up.1 more (here y.variable (inl refl)))

  -- the variable has a race, whichever path writes
  abbrev HasRace : ℕ → Type 0
  HasRace v = ((n : ℕ) × IsRace shared left right n v) ⊎ ((n : ℕ) × IsRace shared right left n v)

  -- the variable of a race with its lines has a race
  race_is : (race : Race) (p : Path) → race.writer ≡ p → IsRaceAt shared left right race → HasRace race.variable
  race_is race One e is =
      let w = subst (λ q. MayWriteAt (writer_of q left right) race.after race.variable race.write_line) e is.writes in
      let m = subst (λ q. NamesAt (other_of q left right) race.after race.variable race.other_line) e is.names in
      inl (race.after, record { is_shared = is.is_shared; writes = (w.0, w.1, w.3, w.5); names = (m.0, m.1, m.3, m.5) })
  race_is race Two e is =
      let w = subst (λ q. MayWriteAt (writer_of q left right) race.after race.variable race.write_line) e is.writes in
      let m = subst (λ q. NamesAt (other_of q left right) race.after race.variable race.other_line) e is.names in
      inr (race.after, record { is_shared = is.is_shared; writes = (w.0, w.1, w.3, w.5); names = (m.0, m.1, m.3, m.5) })

  -- each variable of a list of first races has a race
  has_race : (v : ℕ) (races : List Race) → AreFirst shared left right races → HasVariable v races → HasRace v
  has_race v [] firsts has = absurd has
  has_race v (race ∷ races) firsts (inl e) = subst HasRace e (race_is race race.writer refl firsts.0.is)
  has_race v (race ∷ races) firsts (inr has) = has_race v races firsts.1 has

  -- the variables of one list of the races of a pair are among those of any other
  among : (xs ys : List Race) → IsRaceList shared left right xs → IsRaceList shared left right ys → AreAmong xs ys
  among xs ys one two v has = go (has_race v xs one.firsts has)
    where
      go : HasRace v → HasVariable v ys
      go (inl race) = two.one race.0 v race.1
      go (inr race) = two.two race.0 v race.1

  -- two lists of the races of a pair are one
  pub one_list : (xs ys : List Race) → IsRaceList shared left right xs → IsRaceList shared left right ys → xs ≡ ys
  one_list xs ys one two = lists_once 0 0 xs ys one.rising two.rising one.firsts two.firsts (among xs ys one two) (among ys xs two one)
