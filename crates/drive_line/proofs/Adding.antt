-- What a turret got in several calls, one after another: the calls and what came in them add up.
use Rattle.std.proofs.Common.{arith, ◌≡◌, ◌+◌, ℕ, zero, suc, List, [], ◌++◌, refl, ap, sym, ◌∙◌, append_assoc, Option, Some, None}
use Rattle.std.proofs.lemmas.List.{append-nil}
use Rattle.nc_outside.specs.declared.got.Got.{Got}
use Rattle.nc_outside.specs.Faults.{next}
use Rattle.nc_outside.specs.Received.{Received, Adds, counted_on}

-- n calls, and then m more, are n + m calls
counted_both : (calls n m : ℕ) → counted_on (counted_on calls n) m ≡ counted_on calls (n + m)
unfolding counted_on
counted_both calls n zero = let e : n ≡ n + 0 = omega arith in ap (counted_on calls) e
counted_both calls n (suc m) = let e : suc (n + m) ≡ n + suc m = omega arith in ap next (counted_both calls n m) ∙ ap (counted_on calls) e

-- in no call a turret got nothing
pub adds_none : (a : Option Received) → Adds a a [] 0
unfolding counted_on
adds_none None = refl
adds_none (Some was) = ap (λ l. Some (record { got = l; calls = was.calls })) (sym (append-nil was.got))

-- what a turret got in some calls and then in others it got in all of them
pub adds_both : (a b c : Option Received) (xs ys : List Got) (n m : ℕ) → Adds a b xs n → Adds b c ys m → Adds a c (xs ++ ys) (n + m)
adds_both None None c xs ys n m p q = q
adds_both None (Some was) c xs ys n m p q = absurd (cc p)
adds_both (Some was) None c xs ys n m p q = absurd (cc p)
adds_both (Some was) (Some is) c xs ys n m p q =
    let e : is ≡ record { got = was.got ++ xs; calls = counted_on was.calls n } = cc p in
    q ∙ ap (λ (r : Received). Some (record { got = r.got ++ ys; calls = counted_on r.calls m })) e
    ∙ ap (λ l. Some (record { got = l; calls = counted_on (counted_on was.calls n) m })) (append_assoc was.got xs ys)
    ∙ ap (λ k. Some (record { got = was.got ++ (xs ++ ys); calls = k })) (counted_both was.calls n m)
