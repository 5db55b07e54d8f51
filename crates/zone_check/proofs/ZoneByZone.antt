-- The lines of zones that are put one by one, whole or up to a fault of the sink. `put_zones`
-- (src/writing.rt) rests on it.
use Rattle.std.proofs.Common.{◌≡◌, ℕ, ◌+◌, ◌≤◌, ◌<◌, List, [], ◌∷◌, ◌++◌, length, take, drop, get_or, Result, Ok, Err, refl, sym, subst, ap, ◌∙◌, append-nil, append_assoc, take-append-drop, take_all, length-take-le, arith}
use Rattle.std.proofs.KnownBytes.{Appends-nil}
use Rattle.std.proofs.lemmas.List.{drop_more, take_more}
use Rattle.nc_outside.specs.declared.sink.PutFault.{PutFault}
use Rattle.nc_outside.specs.declared.sink.PutFault.TheVariants.{Failed}
use Rattle.nc_outside.specs.Written.{SinkState}
use Rattle.nc_verify.specs.Printed.{IsPut}
use Rattle.nc_verify.proofs.Put.{put_then, put_stops}
use Rattle.zone_cell.specs.declared.cell.Zone.{Zone}
use Rattle.zone_cell.specs.Lines.{zone_text, zone_texts}

-- nothing is put where there is nothing to put
pub put_nothing : (a : SinkState) → IsPut a a (zone_texts 0 []) (Ok tt)
unfolding zone_texts
put_nothing a = record {
  ok = Appends-nil a.written;
  err = tt;
  tells = refl;
  fault = record { later = omega arith; rose = λ failed. absurd (let e : ◌≡◌ {A = Result (Unit {0}) PutFault} (Ok tt) (Err Failed) = failed in cc); kept = λ none. refl };
}

-- the lines of some zones and of those behind them are the lines of all, numbered through
texts_append : (n : ℕ) (front back : List Zone) → zone_texts n (front ++ back) ≡ zone_texts n front ++ zone_texts (n + length front) back
unfolding zone_texts
texts_append n [] back = ap (λ k. zone_texts k back) (let e : n ≡ n + 0 = omega arith in e)
texts_append n (zone ∷ front) back =
    let count : n + 1 + length front ≡ n + length (zone ∷ front) = omega arith in
    ap (λ t. zone_text n zone ++ t) (texts_append (n + 1) front back)
    ∙ sym (append_assoc (zone_text n zone) (zone_texts (n + 1) front) (zone_texts (n + 1 + length front) back))
    ∙ ap (λ k. (zone_text n zone ++ zone_texts (n + 1) front) ++ zone_texts k back) count

-- the lines of one zone more are those before and its own
texts_more : (zones : List Zone) (i : ℕ) (d : Zone) → i < length zones
    → zone_texts 0 (take (i + 1) zones) ≡ zone_texts 0 (take i zones) ++ zone_text i (get_or zones i d)
unfolding zone_texts
texts_more zones i d within =
    let taken = length-take-le i zones (omega arith) in
    let count : 0 + length (take i zones) ≡ i = omega (arith, taken) in
    ap (zone_texts 0) (take_more zones i d within)
    ∙ texts_append 0 (take i zones) (get_or zones i d ∷ [])
    ∙ ap (λ k. zone_texts 0 (take i zones) ++ zone_texts k (get_or zones i d ∷ [])) count
    ∙ ap (λ t. zone_texts 0 (take i zones) ++ t) (append-nil (zone_text i (get_or zones i d)))

-- all lines are those before a zone, its own, and those behind it
texts_parted : (zones : List Zone) (i : ℕ) (d : Zone) → i < length zones
    → zone_texts 0 zones ≡ zone_texts 0 (take i zones) ++ (zone_text i (get_or zones i d) ++ zone_texts (i + 1) (drop (i + 1) zones))
unfolding zone_texts
texts_parted zones i d within =
    let taken = length-take-le i zones (omega arith) in
    let count : 0 + length (take i zones) ≡ i = omega (arith, taken) in
    ap (zone_texts 0) (sym (take-append-drop i zones))
    ∙ texts_append 0 (take i zones) (drop i zones)
    ∙ ap (λ k. zone_texts 0 (take i zones) ++ zone_texts k (drop i zones)) count
    ∙ ap (λ zs. zone_texts 0 (take i zones) ++ zone_texts i zs) (drop_more zones i d within)

-- if the lines so far and the next one were put whole, those with the next one were
pub line_put : (a b c : SinkState) (zones : List Zone) (i n : ℕ) (d : Zone) → n ≡ i → i < length zones
    → IsPut a b (zone_texts 0 (take i zones)) (Ok tt) → IsPut b c (zone_text n (get_or zones i d)) (Ok tt)
    → IsPut a c (zone_texts 0 (take (i + 1) zones)) (Ok tt)
line_put a b c zones i n d counted within one two =
    subst (λ t. IsPut a c t (Ok tt)) (sym (texts_more zones i d within))
    (put_then a b c (zone_texts 0 (take i zones)) (zone_text i (get_or zones i d)) (Ok tt) one
    (subst (λ k. IsPut b c (zone_text k (get_or zones i d)) (Ok tt)) counted two))

-- if the next line was not put whole, a prefix of all lines was put, and the fault is told
pub line_breaks : (a b c : SinkState) (zones : List Zone) (i n : ℕ) (d : Zone) (fault : PutFault) → n ≡ i → i < length zones
    → IsPut a b (zone_texts 0 (take i zones)) (Ok tt) → IsPut b c (zone_text n (get_or zones i d)) (Err fault)
    → IsPut a c (zone_texts 0 zones) (Err fault)
line_breaks a b c zones i n d fault counted within one two =
    let rest = zone_texts (i + 1) (drop (i + 1) zones) in
    subst (λ t. IsPut a c t (Err fault)) (sym (texts_parted zones i d within))
    (put_then a b c (zone_texts 0 (take i zones)) (zone_text i (get_or zones i d) ++ rest) (Err fault) one
    (put_stops b c (zone_text i (get_or zones i d)) rest fault (subst (λ k. IsPut b c (zone_text k (get_or zones i d)) (Err fault)) counted two)))

-- once no zone is left, all lines were put
pub all_put : (a b : SinkState) (zones : List Zone) (i : ℕ) → length zones ≤ i → IsPut a b (zone_texts 0 (take i zones)) (Ok tt)
    → IsPut a b (zone_texts 0 zones) (Ok tt)
all_put a b zones i le put = subst (λ zs. IsPut a b (zone_texts 0 zs) (Ok tt)) (take_all i zones le) put
