-- Each step on the channel of a wire keeps its rule (`IsInOrder`): what was sent is what was taken,
-- and then what the channel holds. For the proofs of src/wire.rt.
use Rattle.std.proofs.Common.{◌≡◌, ◌≢◌, ℕ, zero, suc, true, false, true≢false, List, [], ◌∷◌, ◌++◌, length, set, sym, refl, ap, ◌∙◌, subst, ⊎_elim, append_assoc}
use mathlib.Core.Option.{some, some-ne-none}
use lib.ListN.{get_elem?}
use Rattle.crossbeam_channel.specs.Fifo.{Pushes, Pops, Forks, Merges, Learns}
use Rattle.atomic_table.proofs.Lists.{at_set, at_snoc}
use Rattle.drive_line.specs.declared.wire.Log.{Log}
use Rattle.drive_line.specs.Wire.{log, IsInOrder}

-- A channel of items of any type, and the logs of its passes: what each may do, sent and took.
module _ {T : Type 0} where
  -- each pass has its log
  abbrev Each : (ℕ → Log T → Type 0) → List (Log T) → Type 0
  Each F logs = (pass : ℕ) (v : Log T) → get_elem? logs pass ≡ some v → F pass v

  -- what this pass sends is all that is sent, and no other pass sends
  abbrev IsSender : ℕ → List T → ℕ → Log T → Type 0
  IsSender sender sent pass v = v.sends ≡ true → (pass ≡ sender) × (v.sent ≡ sent)

  -- what this pass takes is all that is taken, and no other pass takes
  abbrev IsTaker : ℕ → List T → ℕ → Log T → Type 0
  IsTaker taker taken pass v = v.takes ≡ true → (pass ≡ taker) × (v.taken ≡ taken)

  -- the log that is put at the end is the one that is found there
  at_end : (l : List (Log T)) (a b : Log T) (j : ℕ) → get_elem? l j ≢ some b → get_elem? (l ++ a ∷ []) j ≡ some b → j ≡ length l
  at_end [] a b zero n e = refl
  at_end [] a b (suc j) n e = absurd (some-ne-none b (sym e))
  at_end (x ∷ xs) a b zero n e = absurd (n e)
  at_end (x ∷ xs) a b (suc j) n e = ap suc (at_end xs a b j n e)

  -- what holds of each pass holds still after one log was changed to one of which it holds
  each_set : (F : ℕ → Log T → Type 0) (logs : List (Log T)) (pass : ℕ) (w : Log T) → F pass w
      → ((j : ℕ) (u : Log T) → j ≢ pass → get_elem? logs j ≡ some u → F j u) → Each F (set logs pass w)
  each_set F logs pass w mine others j u e =
      ⊎_elim (λ (x : (j ≡ pass) × (w ≡ u)). subst (λ (y : ℕ × Log T). F y.0 y.1) (λ i. (sym x.0 i, x.1 i)) mine)
      (λ (x : (j ≢ pass) × (get_elem? logs j ≡ some u)). others j u x.0 x.1) (at_set logs pass j w u e)

  -- at the start one pass does both, and nothing was sent
  pub begins : IsInOrder {T = T} [] (log true true [] [] ∷ [])
  begins =
      let first : List (Log T) = log true true [] [] ∷ [] in
      let none : (j : ℕ) (u : Log T) → j ≢ 0 → get_elem? first j ≡ some u → ⊥ = λ j u other e. other (at_end [] _ u j (λ x. some-ne-none u (sym x)) e) in
      record {
        sender = 0;
        taker = 0;
        sent = [];
        taken = [];
        order = refl;
        sends = each_set (IsSender 0 []) first 0 (log true true [] []) (λ _. (refl, refl)) (λ j u other e. absurd (none j u other e));
        takes = each_set (IsTaker 0 []) first 0 (log true true [] []) (λ _. (refl, refl)) (λ j u other e. absurd (none j u other e));
      }

  -- sending an item keeps the rule
  pub sends : (n pass : ℕ) (v : Log T) (x : T) → v.sends ≡ true → Pushes IsInOrder n pass v x (λ w. w ≡ log v.sends v.takes (v.sent ++ x ∷ []) v.taken)
  sends n pass v x may held logs _ h at =
      let w : Log T = log v.sends v.takes (v.sent ++ x ∷ []) v.taken in
      let mine = h.sends pass v at may in (
        w,
        record {
          sender = h.sender;
          taker = h.taker;
          sent = h.sent ++ x ∷ [];
          taken = h.taken;
          order = ap (λ l. l ++ x ∷ []) h.order ∙ append_assoc h.taken held (x ∷ []);
          sends = each_set (IsSender h.sender (h.sent ++ x ∷ [])) logs pass w (λ _. (mine.0, ap (λ l. l ++ x ∷ []) mine.1))
              (λ j u other e p. absurd (other ((h.sends j u e p).0 ∙ sym mine.0)));
          takes = each_set (IsTaker h.taker h.taken) logs pass w (h.takes pass v at) (λ j u _ e. h.takes j u e);
        },
        refl,
      )

  -- taking an item keeps the rule
  pub takes : (pass : ℕ) (v : Log T) → v.takes ≡ true → Pops IsInOrder pass v (λ x w. w ≡ log v.sends v.takes v.sent (v.taken ++ x ∷ []))
  takes pass v may x held logs h at =
      let w : Log T = log v.sends v.takes v.sent (v.taken ++ x ∷ []) in
      let mine = h.takes pass v at may in (
        w,
        record {
          sender = h.sender;
          taker = h.taker;
          sent = h.sent;
          taken = h.taken ++ x ∷ [];
          order = h.order ∙ sym (append_assoc h.taken (x ∷ []) held);
          sends = each_set (IsSender h.sender h.sent) logs pass w (h.sends pass v at) (λ j u _ e. h.sends j u e);
          takes = each_set (IsTaker h.taker (h.taken ++ x ∷ [])) logs pass w (λ _. (mine.0, ap (λ l. l ++ x ∷ []) mine.1))
              (λ j u other e p. absurd (other ((h.takes j u e p).0 ∙ sym mine.0)));
        },
        refl,
      )

  -- cutting a pass that sends and takes into one that sends and one that takes keeps the rule
  pub cuts : (pass : ℕ) (v : Log T) → v.sends ≡ true → v.takes ≡ true → Forks IsInOrder pass v (log true false v.sent []) (log false true [] v.taken)
  cuts pass v a b held logs h at =
      let left : Log T = log true false v.sent [] in
      let right : Log T = log false true [] v.taken in
      let now : List (Log T) = set logs pass left in
      let sending : Each (IsSender h.sender h.sent) now = each_set (IsSender h.sender h.sent) logs pass left (λ _. h.sends pass v at a) (λ j u _ e. h.sends j u e) in
      let idle : Each (λ j u. u.takes ≢ true) now =
      each_set (λ j u. u.takes ≢ true) logs pass left (λ p. true≢false (sym p)) (λ j u other e p. other ((h.takes j u e p).0 ∙ sym (h.takes pass v at b).0)) in
      record {
        sender = h.sender;
        taker = length now;
        sent = h.sent;
        taken = h.taken;
        order = h.order;
        sends = λ j u e. ⊎_elim (λ x. sending j u x) (λ (is : right ≡ u) p. absurd (true≢false (sym (ap (λ (y : Log T). y.sends) is ∙ p)))) (at_snoc now right u j e);
        takes = λ j u e. ⊎_elim (λ x p. absurd (idle j u x p))
            (λ (is : right ≡ u) p. (at_end now right u j (λ x. idle j u x p) e, ap (λ (y : Log T). y.taken) (sym is) ∙ (h.takes pass v at b).1)) (at_snoc now right u j e);
      }

  -- putting a pass that sends and one that takes together again keeps the rule
  pub joins : (pass : ℕ) (v : Log T) (other : ℕ) (u : Log T) → v.sends ≡ true → u.takes ≡ true
      → Merges IsInOrder pass v other u (log true true v.sent u.taken) (log false false [] [])
  joins pass v other u a b held logs h at apart at' =
      let both : Log T = log true true v.sent u.taken in
      let spent : Log T = log false false [] [] in
      let now : List (Log T) = set logs pass both in
      let was : get_elem? logs other ≡ some u = ⊎_elim (λ x. absurd (apart x.0)) (λ x. x.1) (at_set logs pass other both u at') in
      let theirs = h.takes other u was b in
      let sending : Each (IsSender h.sender h.sent) now = each_set (IsSender h.sender h.sent) logs pass both (λ _. h.sends pass v at a) (λ j y _ e. h.sends j y e) in
      let taking : Each (λ j y. j ≢ other → IsTaker pass h.taken j y) now =
      each_set (λ j y. j ≢ other → IsTaker pass h.taken j y) logs pass both (λ _ _. (refl, theirs.1))
      (λ j y _ e apart p. absurd (apart ((h.takes j y e p).0 ∙ sym theirs.0))) in
      record {
        sender = h.sender;
        taker = pass;
        sent = h.sent;
        taken = h.taken;
        order = h.order;
        sends = each_set (IsSender h.sender h.sent) now other spent (λ p. absurd (true≢false (sym p))) (λ j y _ e. sending j y e);
        takes = each_set (IsTaker pass h.taken) now other spent (λ p. absurd (true≢false (sym p))) (λ j y two e. taking j y e two);
      }

  -- of a pass that sends and takes, what it sent is what it took, and then what the channel holds
  pub totals : (pass : ℕ) (v : Log T) → v.sends ≡ true → v.takes ≡ true → Learns IsInOrder pass v (λ held. v.sent ≡ v.taken ++ held)
  totals pass v a b held logs h at = (h.sends pass v at a).1 ∙ h.order ∙ ap (λ l. l ++ held) (sym (h.takes pass v at b).1)
