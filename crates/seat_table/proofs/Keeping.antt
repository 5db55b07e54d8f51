-- Each step on the words of a table keeps its rule: to take the turn and to give it back, to count,
-- to ask for a wake, to note, to cut a seat off and to join seats. At the end the table has the
-- tellings that its seats list. The proofs of taking.rt and seats.rt (src) rest on it.
use Rattle.std.proofs.Common.{◌≡◌, ◌≢◌, ◌⊎◌, ℕ, zero, suc, ◌<◌, eqb, Bool, true, false, ◌||◌, ◌&&◌, not, if◌then◌else◌, List, [], ◌∷◌, ◌++◌, length, get_or, set, sym, refl, ap, ◌∙◌, subst, ⊎_elim, inl, inr, arith, Option, Some, None, length-set, get_or-set_same, get_or-set_other, true≢false}
use mathlib.Core.Option.{some, some-ne-none, some-injective}
use mathlib.Core.Option as maybe
use lib.ListN.{get_elem?}
use lib.Seq.{set-get_or}
use prog.Atomic.{either}
use Rattle.atomic_table.specs.Table.{State, Me, step, Act, keeps, takes, gives, stepped, Valid, Allows, Splits, Joins, opening, Final, Seen, carried_after}
use Rattle.atomic_table.proofs.Lists.{at_set, set_here, set_else, set_again, at_longer, exchanged}
use Rattle.nc_number.specs.declared.path.Path.{Path}
use Rattle.nc_number.specs.declared.path.Path.TheVariants.{One, Two}
use Rattle.nc_number.specs.Both.{of_path}
use Rattle.nc_number.proofs.Bools.{either as one_of, both as both_hold}
use Rattle.nc_outside.specs.declared.halt.Halt.{Halt}
use Rattle.nc_outside.specs.declared.stepper.Call.{Call}
use Rattle.seat_table.specs.Turning.{Tellings}
use Rattle.seat_table.specs.declared.knowing.Rights.{Rights}
use Rattle.seat_table.specs.declared.knowing.Knows.{Knows}
use Rattle.seat_table.specs.declared.knowing.Stop.{Stop}
use Rattle.seat_table.specs.Knowing.{Lists, Right, steps, halts, has, Fits, Kept, no_lists, idle, first_knowledge, lists_of, stop_by, stop_of, AreStops, stop_list, first_stop, knowledge_in_turn, took, gave, plus, minus, knowledge_left, knowledge_cut_off, joined_knowledge, picked_lists, no_knowledge, knowledge_with_calls, no_rights, right_of}
use Rattle.seat_table.specs.Passes.{HasStopped, IsAsAtStop}

-- An entry of a list lies below its length.
at_bound : {A : Type 0} (l : List A) (i : ℕ) (a : A) → get_elem? l i ≡ some a → i < length l
at_bound [] i a e = absurd (some-ne-none a (sym e))
at_bound (x ∷ xs) zero a e = omega arith
at_bound (x ∷ xs) (suc i) a e = let h = at_bound xs i a e in omega arith

-- An entry of a list with one more is one of the list, or the new one.
at_end : {A : Type 0} (l : List A) (a b : A) (j : ℕ) → get_elem? (l ++ a ∷ []) j ≡ some b → (get_elem? l j ≡ some b) ⊎ ((j ≡ length l) × (a ≡ b))
at_end [] a b zero e = inr (refl, some-injective a b e)
at_end [] a b (suc j) e = absurd (some-ne-none b (sym e))
at_end (x ∷ xs) a b zero e = inl e
at_end (x ∷ xs) a b (suc j) e = ⊎_elim (λ t. inl t) (λ (t : (j ≡ length xs) × (a ≡ b)). inr (ap suc t.0, t.1)) (at_end xs a b j e)

-- What holds of each seat still does after one was changed, if it holds of that one.
each_set : (K : ℕ → Knows → Type 0) (vs : List Knows) (id : ℕ) (w : Knows) → K id w → ((j : ℕ) (v : Knows) → j ≢ id → get_elem? vs j ≡ some v → K j v)
    → (j : ℕ) (v : Knows) → get_elem? (set vs id w) j ≡ some v → K j v
each_set K vs id w mine others j v e = ⊎_elim (λ (t : (j ≡ id) × (w ≡ v)). subst (λ (x : ℕ × Knows). K x.0 x.1) (λ i. (sym t.0 i, t.1 i)) mine)
    (λ (t : (j ≢ id) × (get_elem? vs j ≡ some v)). others j v t.0 t.1) (at_set vs id j w v e)

-- A test is true or false.
bool_cases : {X : Type 0} (b : Bool) → (b ≡ true → X) → (b ≡ false → X) → X
bool_cases true y n = y refl
bool_cases false y n = n refl

-- What a list has at one index is one thing.
same_view : (vs : List Knows) (i : ℕ) (v w : Knows) → get_elem? vs i ≡ some v → get_elem? vs i ≡ some w → v ≡ w
same_view vs i v w e f = some-injective v w (sym e ∙ f)

-- If a table that had halted keeps its stop, stops that were the table's still are.
stops_on : (stop stop' : Option Stop) → ((s : Stop) → stop ≡ Some s → stop' ≡ Some s) → (stops : List Stop) → AreStops stop stops → AreStops stop' stops
stops_on stop stop' on [] are = tt
stops_on stop stop' on (s ∷ stops) are = (on s are.0, stops_on stop stop' on stops are.1)

-- Two lists of stops that are all the table's are together such a list.
stops_both : (stop : Option Stop) (first second : List Stop) → AreStops stop first → AreStops stop second → AreStops stop (first ++ second)
stops_both stop [] second are others = others
stops_both stop (s ∷ first) second are others = (are.0, stops_both stop first second are.1 others)

-- If all stops of two lists together are the table's, those of each list are.
stops_first : (stop : Option Stop) (first second : List Stop) → AreStops stop (first ++ second) → AreStops stop first × AreStops stop second
stops_first stop [] second are = (tt, are)
stops_first stop (s ∷ first) second are = let t = stops_first stop first second are.1 in ((are.0, t.0), t.1)

-- The stop as a list is one whose stops are all that stop.
stops_listed : (stop : Option Stop) → AreStops stop (stop_list stop)
stops_listed None = tt
stops_listed (Some s) = (refl, tt)

-- The steps on the words of a table with these tellings and reasons, and its rule.
module _ {C : Type 0} (told : C → Path → Tellings) (reason : C → Option Halt) where
  -- A state of the words, the slot, and what all seats know.
  abbrev St : Type 0
  St = State (Option C) Knows

  -- What a seat knows, with what it took from the slot.
  abbrev Sat : Type 0
  Sat = Me (Option C) Knows

  -- The rule of the table.
  abbrev Rule : St → Type 0
  Rule = Kept told reason

  -- The table in its slot, with these tellings, halted or not.
  abbrev Home : List (maybe.Option (Option C)) → Lists → Option Stop → Type 0
  Home homes now stop = (c : C) × (get_elem? homes 0 ≡ some (some (Some c))) × ((p : Path) → told c p ≡ of_path now p) × (stop_of told reason c ≡ stop)

  -- One seat has the turn.
  abbrev Away : List Knows → ℕ → Type 0
  Away views holder = (v : Knows) × (get_elem? views holder ≡ some v) × (v.busy ≡ true)

  -- The rule, with the word of the turn by name.
  rule_of : (s : St) (n : ℕ) → get_or s.words 0 0 ≡ n → (now : Lists) (stop : Option Stop) (owner : Right → ℕ) (holder : ℕ) → 0 < length s.words → 0 < length s.homes
      → ((id : ℕ) (v : Knows) → get_elem? s.views id ≡ some v → Fits now stop owner holder n id v) → (n ≡ 0 → Home s.homes now stop) → (0 < n → Away s.views holder) → Rule s
  rule_of s n e now stop owner holder wide deep each home away = record {
    now = now;
    stop = stop;
    owner = owner;
    holder = holder;
    wide = wide;
    deep = deep;
    each = λ id v at. subst (λ (k : ℕ). Fits now stop owner holder k id v) (sym e) (each id v at);
    home = λ z. home (sym e ∙ z);
    away = λ z. away (subst (λ (k : ℕ). 0 < k) e z);
  }

  -- The list of a path is its tellings.
  list_is : (c : C) (p : Path) → of_path (lists_of told c) p ≡ told c p
  list_is c One = refl
  list_is c Two = refl

  -- Tables with the same tellings of each path have the same lists.
  same_lists : (c : C) (now : Lists) → ((p : Path) → told c p ≡ of_path now p) → lists_of told c ≡ now
  same_lists c now e = λ i. record { one = e One i; two = e Two i }

  -- To take the turn keeps the rule.
  pub takes_turn : (slots id : ℕ) (m : Sat) → m.0.busy ≡ false → (r : Right) → has r m.0.rights ≡ true
      → Allows Rule slots id m 0 (λ n. either (eqb n 0) 1 n) (took told reason (step slots 0 0 1 maybe.none) m)
  takes_turn slots id m rests r may s k long at small = exchanged (get_or s.words 0 0) 0 1 Goal hit miss
    where
      Goal : ℕ → Type 0
      Goal n = (w : Knows) × (a : Act (Option C)) × Valid s.homes m.1 a × Rule (stepped s 0 n id m.1 w a) × took told reason (step slots 0 0 1 maybe.none) m (get_or s.words 0 0) (w, carried_after m.1 a)

      hit : get_or s.words 0 0 ≡ 0 → Goal 1
      hit e = let h = k.home e in let c : C = h.0 in let l : Lists = lists_of told c in let same : l ≡ k.now = same_lists c k.now h.2 in let w : Knows = knowledge_in_turn m.0 l (stop_of told reason c) in
          let mine = k.each id m.0 at in (
            w,
            takes 0 (Some c),
            h.1,
            rule_of (stepped s 0 1 id m.1 w (takes 0 (Some c))) 1 (get_or-set_same s.words 0 1 0 k.wide) k.now k.stop k.owner id (subst (λ (n : ℕ). 0 < n) (sym (length-set s.words 0 1)) k.wide)
                (subst (λ (n : ℕ). 0 < n) (sym (length-set s.homes 0 maybe.none)) k.deep)
                (each_set (Fits k.now k.stop k.owner id 1) s.views id w (record { owns = mine.owns; lists = mine.lists; stops = mine.stops; busy = λ _. (refl, same, (omega arith), r, may); busy_stop = λ _. h.3 })
                (λ j v other there. let f = k.each j v there in record { owns = f.owns; lists = f.lists; stops = f.stops; busy = λ z. let b = (f.busy z).2 in absurd (omega arith); busy_stop = f.busy_stop }))
                (λ z. absurd (omega arith)) (λ _. (w, set_here s.views id w (at_bound s.views id m.0 at), refl)),
            (
              (λ _. record { table = c; view = refl; slot = refl; lists = λ p h'. mine.lists p h' ∙ sym (h.2 p); stops = subst (λ (o : Option Stop). AreStops o m.0.stops) (sym h.3) mine.stops }),
              λ ne. absurd (ne e),
            ),
          )

      miss : get_or s.words 0 0 ≢ 0 → Goal (get_or s.words 0 0)
      miss ne = (
        m.0,
        keeps,
        tt,
        subst (λ (t : List ℕ × List Knows). Rule record { words = t.0; homes = s.homes; views = t.1 }) (λ i. (sym (set-get_or s.words 0 0) i, sym (set_again s.views id m.0 at) i)) k,
        ((λ e. absurd (ne e)), λ _. refl),
      )

  -- To give the turn back keeps the rule, if only the paths of the seat have new tellings.
  pub gives_turn : (slots id : ℕ) (m : Sat) (v : Knows) (c : C) → m ≡ (v, (0, Some c) ∷ []) → v.busy ≡ true → ((p : Path) → has (steps p) v.rights ≡ false → told c p ≡ of_path v.found p)
      → ((s : Stop) → v.found_stop ≡ Some s → stop_of told reason c ≡ Some s) → Allows Rule slots id m 0 (λ _. 0) (gave told reason (step slots 0 0 0 maybe.none) m)
  gives_turn slots id m v c is busy others on = subst (λ (x : Sat). Allows Rule slots id x 0 (λ _. 0) (gave told reason (step slots 0 0 0 maybe.none) x)) (sym is) gives_here
    where
      gives_here : Allows Rule slots id (v, (0, Some c) ∷ []) 0 (λ _. 0) (gave told reason (step slots 0 0 0 maybe.none) (v, (0, Some c) ∷ []))
      gives_here s k long at small = let l : Lists = lists_of told c in let stop : Option Stop = stop_of told reason c in let w : Knows = idle v.rights l (stop_list stop) v.calls in let mine = k.each id v at in let had = mine.busy busy in
          let fits : (j : ℕ) (u : Knows) → j ≢ id → get_elem? s.views j ≡ some u → Fits l stop k.owner 0 0 j u =
          λ j u other there. let f = k.each j u there in record {
            owns = f.owns;
            lists = λ p h. f.lists p h ∙ (bool_cases (has (steps p) v.rights)
                (λ both. absurd (other (f.owns (steps p) h ∙ sym (mine.owns (steps p) both))))
                (λ not_mine. sym (ap (λ (l : Lists). of_path l p) had.1) ∙ (sym (others p not_mine) ∙ sym (list_is c p))));
            stops = stops_on k.stop stop (λ x e. on x (mine.busy_stop busy ∙ e)) u.stops f.stops;
            busy = λ z. absurd (other ((f.busy z).0 ∙ sym had.0));
            busy_stop = λ z. absurd (other ((f.busy z).0 ∙ sym had.0));
          } in (
            w,
            gives,
            tt,
            rule_of (stepped s 0 0 id ((0, Some c) ∷ []) w gives) 0 (get_or-set_same s.words 0 0 0 k.wide) l stop k.owner 0 (subst (λ (n : ℕ). 0 < n) (sym (length-set s.words 0 0)) k.wide)
                (subst (λ (n : ℕ). 0 < n) (sym (length-set s.homes 0 (some (Some c)))) k.deep)
                (each_set (Fits l stop k.owner 0 0) s.views id w (record { owns = mine.owns; lists = λ p _. refl; stops = stops_listed stop; busy = λ z. absurd (true≢false (sym z)); busy_stop = λ z. absurd (true≢false (sym z)) }) fits)
                (λ _. (c, set_here s.homes 0 (some (Some c)) k.deep, (λ p. sym (list_is c p)), refl)) (λ z. absurd (omega arith)),
            (refl, refl),
          )

  -- To cut a seat off keeps the rule.
  pub splits : (id : ℕ) (v left right : Knows) → v.busy ≡ false → left.busy ≡ false → right.busy ≡ false → left.lists ≡ v.lists → right.lists ≡ v.lists → left.stops ≡ v.stops → right.stops ≡ []
      → ((r : Right) → has r left.rights ≡ true → has r v.rights ≡ true) → ((r : Right) → has r right.rights ≡ true → (has r v.rights ≡ true) × (has r left.rights ≡ false))
      → Splits Rule id v left right
  splits id v left right rests lrests rrests llists rlists lstops rstops lhas rhas s k at = let mine = k.each id v at in let word : ℕ = get_or s.words 0 0 in
      let owner : Right → ℕ = λ r. either (has r right.rights) (length s.views) (k.owner r) in
      let kept_owner : (r : Right) → has r right.rights ≡ false → owner r ≡ k.owner r = λ r e. ap (λ (b : Bool). either b (length s.views) (k.owner r)) e in
      let new_owner : (r : Right) → has r right.rights ≡ true → owner r ≡ length s.views = λ r e. ap (λ (b : Bool). either b (length s.views) (k.owner r)) e in
      let fits_left : Fits k.now k.stop owner k.holder word id left = record {
        owns = λ r h. mine.owns r (lhas r h) ∙ sym (kept_owner r (bool_cases (has r right.rights) (λ z. absurd (true≢false (sym h ∙ (rhas r z).1))) (λ z. z)));
        lists = λ p h. ap (λ (l : Lists). of_path l p) llists ∙ mine.lists p (lhas (steps p) h);
        stops = subst (AreStops k.stop) (sym lstops) mine.stops;
        busy = λ z. absurd (true≢false (sym z ∙ lrests));
        busy_stop = λ z. absurd (true≢false (sym z ∙ lrests));
      } in
      let fits_others : (j : ℕ) (u : Knows) → j ≢ id → get_elem? s.views j ≡ some u → Fits k.now k.stop owner k.holder word j u = λ j u other there. let f = k.each j u there in record {
        owns = λ r h. f.owns r h ∙ sym (kept_owner r (bool_cases (has r right.rights) (λ z. absurd (other (f.owns r h ∙ sym (mine.owns r (rhas r z).0)))) (λ z. z)));
        lists = f.lists;
        stops = f.stops;
        busy = f.busy;
        busy_stop = f.busy_stop;
      } in
      let fits_right : Fits k.now k.stop owner k.holder word (length s.views) right = record {
        owns = λ r h. sym (new_owner r h);
        lists = λ p h. ap (λ (l : Lists). of_path l p) rlists ∙ mine.lists p (rhas (steps p) h).0;
        stops = subst (AreStops k.stop) (sym rstops) tt;
        busy = λ z. absurd (true≢false (sym z ∙ rrests));
        busy_stop = λ z. absurd (true≢false (sym z ∙ rrests));
      } in record {
        now = k.now;
        stop = k.stop;
        owner = owner;
        holder = k.holder;
        wide = k.wide;
        deep = k.deep;
        each = λ j u e. ⊎_elim (each_set (Fits k.now k.stop owner k.holder word) s.views id left fits_left fits_others j u)
            (λ (t : (j ≡ length (set s.views id left)) × (right ≡ u)). subst (λ (x : ℕ × Knows). Fits k.now k.stop owner k.holder word x.0 x.1) (λ i. (sym (t.0 ∙ length-set s.views id left) i, t.1 i)) fits_right)
            (at_end (set s.views id left) right u j e);
        home = k.home;
        away = λ z. let a = k.away z in (
          a.0,
          at_longer (set s.views id left) (right ∷ []) k.holder a.0
              (set_else s.views id k.holder left (λ e. true≢false (sym a.2 ∙ (ap (λ (x : Knows). x.busy) (same_view s.views id a.0 v (subst (λ (i : ℕ). get_elem? s.views i ≡ some a.0) e a.1) at) ∙ rests))) ∙ a.1),
          a.2,
        );
      }

  -- To join two seats keeps the rule.
  pub joins : (id : ℕ) (v : Knows) (other : ℕ) (w both spent : Knows) → v.busy ≡ false → w.busy ≡ false → both.busy ≡ false → spent.busy ≡ false
      → ((r : Right) → has r spent.rights ≡ false) → ((r : Right) → has r both.rights ≡ true → (has r v.rights ≡ true) ⊎ (has r w.rights ≡ true))
      → ((p : Path) → has (steps p) both.rights ≡ true → ((has (steps p) v.rights ≡ true) × (of_path both.lists p ≡ of_path v.lists p)) ⊎ ((has (steps p) w.rights ≡ true) × (of_path both.lists p ≡ of_path w.lists p)))
      → both.stops ≡ v.stops ++ w.stops → spent.stops ≡ [] → Joins Rule id v other w both spent
  joins id v other w both spent rests wrests brests srests nothing which lists bstops sstops s k at apart there = let word : ℕ = get_or s.words 0 0 in let mine = k.each id v at in
      let at_w : get_elem? s.views other ≡ some w = sym (set_else s.views id other both apart) ∙ there in let its = k.each other w at_w in
      let owner : Right → ℕ = λ r. either (has r w.rights) id (k.owner r) in
      let kept_owner : (r : Right) → has r w.rights ≡ false → owner r ≡ k.owner r = λ r e. ap (λ (b : Bool). either b id (k.owner r)) e in
      let new_owner : (r : Right) → has r w.rights ≡ true → owner r ≡ id = λ r e. ap (λ (b : Bool). either b id (k.owner r)) e in
      let fits_both : Fits k.now k.stop owner k.holder word id both = record {
        owns = λ r h. bool_cases (has r w.rights) (λ z. sym (new_owner r z))
            (λ z. ⊎_elim (λ (x : has r v.rights ≡ true). mine.owns r x ∙ sym (kept_owner r z)) (λ (x : has r w.rights ≡ true). absurd (true≢false (sym x ∙ z))) (which r h));
        lists = λ p h. ⊎_elim (λ (x : (has (steps p) v.rights ≡ true) × (of_path both.lists p ≡ of_path v.lists p)). x.1 ∙ mine.lists p x.0)
            (λ (x : (has (steps p) w.rights ≡ true) × (of_path both.lists p ≡ of_path w.lists p)). x.1 ∙ its.lists p x.0) (lists p h);
        stops = subst (AreStops k.stop) (sym bstops) (stops_both k.stop v.stops w.stops mine.stops its.stops);
        busy = λ z. absurd (true≢false (sym z ∙ brests));
        busy_stop = λ z. absurd (true≢false (sym z ∙ brests));
      } in
      let fits_spent : Fits k.now k.stop owner k.holder word other spent = record {
        owns = λ r h. absurd (true≢false (sym h ∙ nothing r));
        lists = λ p h. absurd (true≢false (sym h ∙ nothing (steps p)));
        stops = subst (AreStops k.stop) (sym sstops) tt;
        busy = λ z. absurd (true≢false (sym z ∙ srests));
        busy_stop = λ z. absurd (true≢false (sym z ∙ srests));
      } in
      let fits_others : (j : ℕ) (u : Knows) → j ≢ other → get_elem? s.views j ≡ some u → Fits k.now k.stop owner k.holder word j u = λ j u other' at'. let f = k.each j u at' in record {
        owns = λ r h. f.owns r h ∙ sym (kept_owner r (bool_cases (has r w.rights) (λ z. absurd (other' (f.owns r h ∙ sym (its.owns r z)))) (λ z. z)));
        lists = f.lists;
        stops = f.stops;
        busy = f.busy;
        busy_stop = f.busy_stop;
      } in
      let not_holder : (i : ℕ) (x y : Knows) → get_elem? s.views i ≡ some x → x.busy ≡ false → get_elem? s.views k.holder ≡ some y → y.busy ≡ true → k.holder ≢ i =
      λ i x y e quiet f loud same. true≢false (sym loud ∙ (ap (λ (q : Knows). q.busy) (same_view s.views i y x (subst (λ (n : ℕ). get_elem? s.views n ≡ some y) same f) e) ∙ quiet)) in record {
        now = k.now;
        stop = k.stop;
        owner = owner;
        holder = k.holder;
        wide = k.wide;
        deep = k.deep;
        each = each_set (Fits k.now k.stop owner k.holder word) (set s.views id both) other spent fits_spent
            (λ j u ne e. ⊎_elim (λ (t : (j ≡ id) × (both ≡ u)). subst (λ (x : ℕ × Knows). Fits k.now k.stop owner k.holder word x.0 x.1) (λ i. (sym t.0 i, t.1 i)) fits_both)
            (λ (t : (j ≢ id) × (get_elem? s.views j ≡ some u)). fits_others j u ne t.1) (at_set s.views id j both u e));
        home = k.home;
        away = λ z. let a = k.away z in (a.0, set_else (set s.views id both) other k.holder spent (not_holder other w a.0 at_w wrests a.1 a.2) ∙ (set_else s.views id k.holder both (not_holder id v a.0 at rests a.1 a.2) ∙ a.1), a.2);
      }

  -- A table without tellings starts with the rule.
  pub starts : (c : C) → ((p : Path) → told c p ≡ []) → Rule (opening (0 ∷ 0 ∷ 0 ∷ []) (Some c ∷ []) first_knowledge)
  starts c none = record {
    now = no_lists;
    stop = stop_of told reason c;
    owner = λ _. 0;
    holder = 0;
    wide = omega arith;
    deep = omega arith;
    each = first_alone;
    home = λ _. (c, refl, (λ p. none p ∙ no_list p), refl);
    away = λ z. absurd (omega arith);
  }
    where
      no_list : (p : Path) → [] ≡ of_path no_lists p
      no_list One = refl
      no_list Two = refl

      fits : Fits no_lists (stop_of told reason c) (λ _. 0) 0 0 0 first_knowledge
      fits = record { owns = λ r h. refl; lists = λ p h. refl; stops = tt; busy = λ z. absurd (true≢false (sym z)); busy_stop = λ z. absurd (true≢false (sym z)) }

      first_alone : (j : ℕ) (u : Knows) → get_elem? (first_knowledge ∷ []) j ≡ some u → Fits no_lists (stop_of told reason c) (λ _. 0) 0 0 j u
      first_alone zero u e = subst (Fits no_lists (stop_of told reason c) (λ _. 0) 0 0 0) (some-injective first_knowledge u e) fits
      first_alone (suc j) u e = absurd (some-ne-none u (sym e))

  -- A change of a word other than that of the turn keeps the rule.
  pub touches : (slots id word : ℕ) (m : Sat) (f : ℕ → ℕ) → 0 < word → Allows Rule slots id m word f (λ _ w. w ≡ m)
  touches slots id word m f positive s k long at small = (
    m.0,
    keeps,
    tt,
    subst (λ (vs : List Knows). Rule record { words = set s.words word (f (get_or s.words word 0)); homes = s.homes; views = vs }) (sym (set_again s.views id m.0 at))
        (rule_of record { words = set s.words word (f (get_or s.words word 0)); homes = s.homes; views = s.views } (get_or s.words 0 0) (get_or-set_other s.words word 0 (f (get_or s.words word 0)) 0 (λ e. omega (arith, e, positive)))
        k.now k.stop k.owner k.holder (subst (λ (n : ℕ). 0 < n) (sym (length-set s.words word (f (get_or s.words word 0)))) k.wide) k.deep k.each k.home k.away),
    refl,
  )

  -- To ask for a wake keeps the rule: the word of the turn becomes 2 only if a seat has it.
  pub asks : (slots id : ℕ) (m : Sat) → Allows Rule slots id m 0 (λ n. either (eqb n 1) 2 n) (λ _ w. w ≡ m)
  asks slots id m s k long at small = exchanged (get_or s.words 0 0) 1 2 Goal hit miss
    where
      Goal : ℕ → Type 0
      Goal n = (w : Knows) × (a : Act (Option C)) × Valid s.homes m.1 a × Rule (stepped s 0 n id m.1 w a) × ((w, carried_after m.1 a) ≡ m)

      hit : get_or s.words 0 0 ≡ 1 → Goal 2
      hit e = (
        m.0,
        keeps,
        tt,
        subst (λ (vs : List Knows). Rule record { words = set s.words 0 2; homes = s.homes; views = vs }) (sym (set_again s.views id m.0 at))
            (rule_of record { words = set s.words 0 2; homes = s.homes; views = s.views } 2 (get_or-set_same s.words 0 2 0 k.wide) k.now k.stop k.owner k.holder
            (subst (λ (n : ℕ). 0 < n) (sym (length-set s.words 0 2)) k.wide) k.deep
            (λ j v there. let f = k.each j v there in record { owns = f.owns; lists = f.lists; stops = f.stops; busy = λ z. let b = f.busy z in (b.0, b.1, (omega arith), b.3, b.4); busy_stop = f.busy_stop })
            (λ z. absurd (omega arith)) (λ _. k.away (subst (λ (n : ℕ). 0 < n) (sym e) (omega arith)))),
        refl,
      )

      miss : get_or s.words 0 0 ≢ 1 → Goal (get_or s.words 0 0)
      miss ne = (
        m.0,
        keeps,
        tt,
        subst (λ (t : List ℕ × List Knows). Rule record { words = t.0; homes = s.homes; views = t.1 }) (λ i. (sym (set-get_or s.words 0 0) i, sym (set_again s.views id m.0 at) i)) k,
        refl,
      )

  -- To note calls at the second word keeps the rule, for a seat without the turn.
  pub notes : (slots id : ℕ) (m : Sat) (calls : List Call) → m.0.busy ≡ false → Allows Rule slots id m 1 (λ n. n) (λ _ w. w ≡ (knowledge_with_calls calls m.0, m.1))
  notes slots id m calls rests s k long at small = let w : Knows = knowledge_with_calls calls m.0 in let mine = k.each id m.0 at in (
    w,
    keeps,
    tt,
    subst (λ (ws : List ℕ). Rule record { words = ws; homes = s.homes; views = set s.views id w }) (sym (set-get_or s.words 1 0))
        (rule_of record { words = s.words; homes = s.homes; views = set s.views id w } (get_or s.words 0 0) refl k.now k.stop k.owner k.holder k.wide k.deep
        (each_set (Fits k.now k.stop k.owner k.holder (get_or s.words 0 0)) s.views id w (record { owns = mine.owns; lists = mine.lists; stops = mine.stops; busy = mine.busy; busy_stop = mine.busy_stop }) (λ j v other there. k.each j v there))
        k.home (λ z. let a = k.away z in (
          a.0,
          set_else s.views id k.holder w (λ e. true≢false (sym a.2 ∙ (ap (λ (x : Knows). x.busy) (same_view s.views id a.0 m.0 (subst (λ (i : ℕ). get_elem? s.views i ≡ some a.0) e a.1) at) ∙ rests))) ∙ a.1,
          a.2,
        ))),
    refl,
  )

  -- At the end, with a seat that has every right, the table is in its slot with the tellings of that
  -- seat.
  pub ends : (id : ℕ) (v : Knows) (ws : List ℕ) (xs : List (Option C)) → v.busy ≡ false → ((r : Right) → has r v.rights ≡ true) → Final (Seen Rule id v) ws xs
      → (c : C) × (get_elem? xs 0 ≡ some (Some c)) × ((p : Path) → told c p ≡ of_path v.lists p) × AreStops (stop_of told reason c) v.stops
  ends id v ws xs rests all end = let s : St = end.0 in let k = end.1.0 in let at = end.1.1 in let mine = k.each id v at in
      let quiet : get_or s.words 0 0 ≡ 0 = nobody s k at (get_or s.words 0 0) refl in let h = k.home quiet in
      (h.0, end.4 0 (Some h.0) h.1, (λ p. h.2 p ∙ sym (mine.lists p (all (steps p)))), subst (λ (o : Option Stop). AreStops o v.stops) (sym h.3) mine.stops)
    where
      nobody : (s : St) (k : Rule s) → get_elem? s.views id ≡ some v → (n : ℕ) → get_or s.words 0 0 ≡ n → n ≡ 0
      nobody s k at zero e = refl
      nobody s k at (suc n) e = let a = k.away (omega (arith, e)) in let f = k.each k.holder a.0 a.1 in let b = f.busy a.2 in let mine = k.each id v at in
          let same : k.holder ≡ id = f.owns b.3 b.4 ∙ sym (mine.owns b.3 (all b.3)) in
          absurd (true≢false (sym a.2 ∙ (ap (λ (x : Knows). x.busy) (same_view s.views id a.0 v (subst (λ (i : ℕ). get_elem? s.views i ≡ some a.0) same a.1) at) ∙ rests)))

-- What was taken away is not left.
not_both : (a b : Bool) → b ≡ true → (a && not b) ≡ false
not_both true true e = refl
not_both false true e = refl
not_both a false e = absurd (true≢false (sym e))

-- A right of two seats together is one of either.
has_plus : (r : Right) (a b : Rights) → has r (plus a b) ≡ true → (has r a ≡ true) ⊎ (has r b ≡ true)
has_plus (steps One) a b e = one_of a.steps.one b.steps.one e
has_plus (steps Two) a b e = one_of a.steps.two b.steps.two e
has_plus (halts One) a b e = one_of a.halts.one b.halts.one e
has_plus (halts Two) a b e = one_of a.halts.two b.halts.two e

-- A right that is left is one from before.
has_minus : (r : Right) (a m : Rights) → has r (minus a m) ≡ true → has r a ≡ true
has_minus (steps One) a m e = (both_hold a.steps.one (not m.steps.one) e).0
has_minus (steps Two) a m e = (both_hold a.steps.two (not m.steps.two) e).0
has_minus (halts One) a m e = (both_hold a.halts.one (not m.halts.one) e).0
has_minus (halts Two) a m e = (both_hold a.halts.two (not m.halts.two) e).0

-- A right that was cut off is not left.
minus_lacks : (r : Right) (a m : Rights) → has r m ≡ true → has r (minus a m) ≡ false
minus_lacks (steps One) a m e = not_both a.steps.one m.steps.one e
minus_lacks (steps Two) a m e = not_both a.steps.two m.steps.two e
minus_lacks (halts One) a m e = not_both a.halts.one m.halts.one e
minus_lacks (halts Two) a m e = not_both a.halts.two m.halts.two e

-- The one right is that right.
own_right : (r : Right) → has r (right_of r) ≡ true
own_right (steps One) = refl
own_right (steps Two) = refl
own_right (halts One) = refl
own_right (halts Two) = refl

-- A seat of one right has a right.
pub has_one : (r : Right) (m : Rights) → m ≡ right_of r → (q : Right) × (has q m ≡ true)
has_one r m e = (r, ap (has r) e ∙ own_right r)

-- A seat without rights has none.
lacks_all : (r : Right) → has r no_rights ≡ false
lacks_all (steps One) = refl
lacks_all (steps Two) = refl
lacks_all (halts One) = refl
lacks_all (halts Two) = refl

-- The tellings that are picked are those of the seat that may step the path.
of_either : (a b : Bool) (x y : Tellings) → (a || b) ≡ true → ((a ≡ true) × ((if a then x else y) ≡ x)) ⊎ ((b ≡ true) × ((if a then x else y) ≡ y))
of_either true b x y e = inl (refl, refl)
of_either false b x y e = inr (e, refl)

-- The cuts and joins of seats as the code makes them, and the end.
module _ {C : Type 0} (told : C → Path → Tellings) (reason : C → Option Halt) where
  -- To join two seats keeps the rule, as the code joins them.
  pub glues : (id : ℕ) (v : Knows) (other : ℕ) (w : Knows) → v.busy ≡ false → w.busy ≡ false → Joins (Kept told reason) id v other w (joined_knowledge v w) no_knowledge
  glues id v other w rests wrests = joins told reason id v other w (joined_knowledge v w) no_knowledge rests wrests refl refl lacks_all (λ r. has_plus r v.rights w.rights) lists refl refl
    where
      lists : (p : Path) → has (steps p) (plus v.rights w.rights) ≡ true
          → ((has (steps p) v.rights ≡ true) × (of_path (picked_lists v w) p ≡ of_path v.lists p)) ⊎ ((has (steps p) w.rights ≡ true) × (of_path (picked_lists v w) p ≡ of_path w.lists p))
      lists One e = of_either v.rights.steps.one w.rights.steps.one v.lists.one w.lists.one e
      lists Two e = of_either v.rights.steps.two w.rights.steps.two v.lists.two w.lists.two e

  -- To cut off some of a seat's rights keeps the rule.
  pub cuts : (id : ℕ) (u v : Knows) (m : Rights) → u ≡ v → v.busy ≡ false → ((r : Right) → has r m ≡ true → has r v.rights ≡ true) → Splits (Kept told reason) id u (knowledge_left m u) (knowledge_cut_off m u)
  cuts id u v m e rests had = subst (λ (x : Knows). Splits (Kept told reason) id x (knowledge_left m x) (knowledge_cut_off m x)) (sym e)
      (splits told reason id v (knowledge_left m v) (knowledge_cut_off m v) rests refl refl refl refl refl refl (λ r. has_minus r v.rights m) (λ r h. (had r h, minus_lacks r v.rights m h)))

  -- The seat that took in all others has all rights, so the table is in its slot with the tellings
  -- of both paths.
  pub ends_joined : (id : ℕ) (u a b c d : Knows) (ws : List ℕ) (xs : List (Option C)) → u ≡ joined_knowledge (joined_knowledge (joined_knowledge a b) c) d → a.rights ≡ right_of (steps One) → b.rights ≡ right_of (steps Two)
      → c.rights ≡ right_of (halts One) → d.rights ≡ right_of (halts Two) → Final (Seen (Kept told reason) id u) ws xs
      → (t : C) × (get_elem? xs 0 ≡ some (Some t)) × (told t One ≡ a.lists.one) × (told t Two ≡ b.lists.two)
      × AreStops (stop_of told reason t) (((a.stops ++ b.stops) ++ c.stops) ++ d.stops)
  ends_joined id u a b c d ws xs is ea eb ec ed end = let v : Knows = joined_knowledge (joined_knowledge (joined_knowledge a b) c) d in
      let t = ends told reason id v ws xs refl all (subst (λ (x : Knows). Final (Seen (Kept told reason) id x) ws xs) is end) in
      (t.0, t.1, t.2 One ∙ first_is, t.2 Two ∙ second_is, t.3)
    where
      all : (r : Right) → has r (joined_knowledge (joined_knowledge (joined_knowledge a b) c) d).rights ≡ true
      all (steps One) = λ i. has (steps One) (plus (plus (plus (ea i) (eb i)) (ec i)) (ed i))
      all (steps Two) = λ i. has (steps Two) (plus (plus (plus (ea i) (eb i)) (ec i)) (ed i))
      all (halts One) = λ i. has (halts One) (plus (plus (plus (ea i) (eb i)) (ec i)) (ed i))
      all (halts Two) = λ i. has (halts Two) (plus (plus (plus (ea i) (eb i)) (ec i)) (ed i))

      first_is : (joined_knowledge (joined_knowledge (joined_knowledge a b) c) d).lists.one ≡ a.lists.one
      first_is = subst (λ (x : Rights). (joined_knowledge (joined_knowledge (joined_knowledge (record a { rights = x }) b) c) d).lists.one ≡ a.lists.one) (sym ea) refl

      second_is : (joined_knowledge (joined_knowledge (joined_knowledge a b) c) d).lists.two ≡ b.lists.two
      second_is = subst (λ (x : Rights × Rights). (joined_knowledge (joined_knowledge (joined_knowledge (record a { rights = x.0 }) (record b { rights = x.1 })) c) d).lists.two ≡ b.lists.two) (λ i. (sym ea i, sym eb i)) refl

  -- The first cut: the seat that steps path 2.
  pub cuts_two : (id : ℕ) (u : Knows) → u ≡ first_knowledge → Splits (Kept told reason) id u (knowledge_left (right_of (steps Two)) u) (knowledge_cut_off (right_of (steps Two)) u)
  cuts_two id u e = cuts id u first_knowledge (right_of (steps Two)) e refl all_had
    where
      all_had : (r : Right) → has r (right_of (steps Two)) ≡ true → has r first_knowledge.rights ≡ true
      all_had (steps One) h = refl
      all_had (steps Two) h = refl
      all_had (halts One) h = refl
      all_had (halts Two) h = refl

  -- The second cut: the seat that halts for path 1's turret.
  pub cuts_three : (id : ℕ) (u : Knows) → u ≡ knowledge_left (right_of (steps Two)) first_knowledge → Splits (Kept told reason) id u (knowledge_left (right_of (halts One)) u) (knowledge_cut_off (right_of (halts One)) u)
  cuts_three id u e = cuts id u (knowledge_left (right_of (steps Two)) first_knowledge) (right_of (halts One)) e refl all_had
    where
      all_had : (r : Right) → has r (right_of (halts One)) ≡ true → has r (knowledge_left (right_of (steps Two)) first_knowledge).rights ≡ true
      all_had (steps One) h = refl
      all_had (steps Two) h = h
      all_had (halts One) h = refl
      all_had (halts Two) h = refl

  -- The third cut: the seat that halts for path 2's turret.
  pub cuts_four : (id : ℕ) (u : Knows) → u ≡ knowledge_left (right_of (halts One)) (knowledge_left (right_of (steps Two)) first_knowledge) → Splits (Kept told reason) id u (knowledge_left (right_of (halts Two)) u) (knowledge_cut_off (right_of (halts Two)) u)
  cuts_four id u e = cuts id u (knowledge_left (right_of (halts One)) (knowledge_left (right_of (steps Two)) first_knowledge)) (right_of (halts Two)) e refl all_had
    where
      all_had : (r : Right) → has r (right_of (halts Two)) ≡ true → has r (knowledge_left (right_of (halts One)) (knowledge_left (right_of (steps Two)) first_knowledge)).rights ≡ true
      all_had (steps One) h = refl
      all_had (steps Two) h = h
      all_had (halts One) h = h
      all_had (halts Two) h = refl

-- What is held, or this if nothing is.
or_else : {C : Type 0} → C → Option C → C
or_else c None = c
or_else c (Some d) = d

-- What is held in the same slot is the same.
pub same_held : {C : Type 0} (x y : C) → ◌≡◌ {A = Option C} (Some x) (Some y) → x ≡ y
unfolding or_else
same_held x y e = ap (or_else x) e

-- what a seat knows of a stop, of a table that has come to this
module _ {C : Type 0} (told : C → Path → Tellings) (reason : C → Option Halt) where
  -- No stop is a stop.
  none_some : {X : Type 0} (s : Stop) → None ≡ Some s → X
  none_some s is = absurd (let clash : ◌≡◌ {A = Option Stop} None (Some s) = is in cc)

  -- A stop has the table's reason and tellings.
  reason_of_stop : (why : Option Halt) (l : Lists) (s : Stop) → stop_by why l ≡ Some s → (why ≡ Some s.why) × (l ≡ s.told)
  reason_of_stop None l s is = none_some s is
  reason_of_stop (Some why) l s is = let e : record { why = why; told = l } ≡ s = cc in (ap (λ (x : Stop). Some x.why) e, ap (λ (x : Stop). x.told) e)

  -- If a table that has halted keeps its reason and its tellings, it keeps its stop.
  pub stop_stays : (c c' : C) → ((why : Halt) → reason c ≡ Some why → (reason c' ≡ Some why) × ((p : Path) → told c' p ≡ told c p))
      → (s : Stop) → stop_of told reason c ≡ Some s → stop_of told reason c' ≡ Some s
  stop_stays c c' stays s is =
      let r = reason_of_stop (reason c) (lists_of told c) s is in
      let t = stays s.why r.0 in
      let same : lists_of told c' ≡ lists_of told c = λ i. record { one = t.1 One i; two = t.1 Two i } in
      (λ i. stop_by (t.0 i) (lists_of told c')) ∙ ap (λ (l : Lists). stop_by (Some s.why) l) (same ∙ r.1)

  -- What a stop says of the table is so.
  has_stopped : (c : C) (s : Stop) → stop_of told reason c ≡ Some s → HasStopped told reason c s
  has_stopped c s is =
      let r = reason_of_stop (reason c) (lists_of told c) s is in
      record { why = r.0; told_is = λ p. sym (list_is c p) ∙ ap (λ (l : Lists). of_path l p) r.1 }
    where
      list_is : (c : C) (p : Path) → of_path (lists_of told c) p ≡ told c p
      list_is c One = refl
      list_is c Two = refl

  -- If the seat knew of a halt, the table is what it was then.
  still : (c : C) (stops : List Stop) → AreStops (stop_of told reason c) stops → IsAsAtStop told reason c (first_stop stops)
  still c [] are = tt
  still c (s ∷ stops) are = has_stopped c s are.0

  -- What each of four seats knew is so of the table that was taken out.
  pub stills : (c held : C) → c ≡ held → (first second third fourth : List Stop) → AreStops (stop_of told reason c) (((first ++ second) ++ third) ++ fourth)
      → IsAsAtStop told reason held (first_stop first) × IsAsAtStop told reason held (first_stop second) × IsAsAtStop told reason held (first_stop third)
      × IsAsAtStop told reason held (first_stop fourth)
  stills c held same first second third fourth are =
      let a = stops_first (stop_of told reason c) ((first ++ second) ++ third) fourth are in
      let b = stops_first (stop_of told reason c) (first ++ second) third a.0 in
      let d = stops_first (stop_of told reason c) first second b.0 in
      subst (λ (x : C). IsAsAtStop told reason x (first_stop first) × IsAsAtStop told reason x (first_stop second) × IsAsAtStop told reason x (first_stop third)
      × IsAsAtStop told reason x (first_stop fourth)) same (still c first d.0, still c second d.1, still c third b.1, still c fourth a.1)

  -- If each stop of a list is the table's, and the first of them is `s`, the table's stop is `s`.
  pub first_known : (stop : Option Stop) (stops : List Stop) (s : Stop) → AreStops stop stops → first_stop stops ≡ Some s → stop ≡ Some s
  first_known stop [] s are is = none_some s is
  first_known stop (x ∷ stops) s are is = are.0 ∙ is

  -- The first of a stop as a list is that stop.
  pub first_listed : (stop : Option Stop) → first_stop (stop_list stop) ≡ stop
  first_listed None = refl
  first_listed (Some s) = refl
