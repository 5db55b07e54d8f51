-- The lines of segments that are put one by one, whole or up to a fault of the sink. `put_findings`
-- (src/telling.rt) rests on it.
use Rattle.std.proofs.Common.{◌≡◌, ℕ, ◌+◌, ◌≤◌, ◌<◌, List, [], ◌∷◌, ◌++◌, length, take, drop, get_or, Result, Ok, Err, refl, sym, subst, ap, ◌∙◌, append-nil, append_assoc, take-append-drop, take_all, length-take-le, arith}
use Rattle.std.proofs.KnownBytes.{Appends-nil}
use Rattle.std.proofs.lemmas.List.{drop_more, take_more}
use Rattle.nc_outside.specs.declared.sink.PutFault.{PutFault}
use Rattle.nc_outside.specs.declared.sink.PutFault.TheVariants.{Failed}
use Rattle.nc_outside.specs.Written.{SinkState}
use Rattle.nc_verify.specs.Printed.{IsPut}
use Rattle.nc_verify.proofs.Put.{put_then, put_stops}
use Rattle.zone_cell.specs.declared.finding.Finding.{Finding}
use Rattle.zone_cell.specs.HitLines.{finding_text, finding_texts}

-- nothing is put where there is nothing to put
pub put_nothing : (a : SinkState) → IsPut a a (finding_texts 0 []) (Ok tt)
unfolding finding_texts
put_nothing a = record {
  ok = Appends-nil a.written;
  err = tt;
  tells = refl;
  fault = record { later = omega arith; rose = λ failed. absurd (let e : ◌≡◌ {A = Result (Unit {0}) PutFault} (Ok tt) (Err Failed) = failed in cc); kept = λ none. refl };
}

-- the lines of some findings and of those behind them are the lines of all, numbered through
texts_append : (n : ℕ) (front back : List Finding) → finding_texts n (front ++ back) ≡ finding_texts n front ++ finding_texts (n + length front) back
unfolding finding_texts
texts_append n [] back = ap (λ k. finding_texts k back) (let e : n ≡ n + 0 = omega arith in e)
texts_append n (finding ∷ front) back =
    let count : n + 1 + length front ≡ n + length (finding ∷ front) = omega arith in
    ap (λ t. finding_text n finding ++ t) (texts_append (n + 1) front back)
    ∙ sym (append_assoc (finding_text n finding) (finding_texts (n + 1) front) (finding_texts (n + 1 + length front) back))
    ∙ ap (λ k. (finding_text n finding ++ finding_texts (n + 1) front) ++ finding_texts k back) count

-- the lines of one finding more are those before and its own
texts_more : (findings : List Finding) (i : ℕ) (d : Finding) → i < length findings
    → finding_texts 0 (take (i + 1) findings) ≡ finding_texts 0 (take i findings) ++ finding_text i (get_or findings i d)
unfolding finding_texts
texts_more findings i d within =
    let taken = length-take-le i findings (omega arith) in
    let count : 0 + length (take i findings) ≡ i = omega (arith, taken) in
    ap (finding_texts 0) (take_more findings i d within)
    ∙ texts_append 0 (take i findings) (get_or findings i d ∷ [])
    ∙ ap (λ k. finding_texts 0 (take i findings) ++ finding_texts k (get_or findings i d ∷ [])) count
    ∙ ap (λ t. finding_texts 0 (take i findings) ++ t) (append-nil (finding_text i (get_or findings i d)))

-- all lines are those before a finding, its own, and those behind it
texts_parted : (findings : List Finding) (i : ℕ) (d : Finding) → i < length findings
    → finding_texts 0 findings ≡ finding_texts 0 (take i findings) ++ (finding_text i (get_or findings i d) ++ finding_texts (i + 1) (drop (i + 1) findings))
unfolding finding_texts
texts_parted findings i d within =
    let taken = length-take-le i findings (omega arith) in
    let count : 0 + length (take i findings) ≡ i = omega (arith, taken) in
    ap (finding_texts 0) (sym (take-append-drop i findings))
    ∙ texts_append 0 (take i findings) (drop i findings)
    ∙ ap (λ k. finding_texts 0 (take i findings) ++ finding_texts k (drop i findings)) count
    ∙ ap (λ zs. finding_texts 0 (take i findings) ++ finding_texts i zs) (drop_more findings i d within)

-- if the lines so far and the next one were put whole, those with the next one were
pub line_put : (a b c : SinkState) (findings : List Finding) (i n : ℕ) (d : Finding) → n ≡ i → i < length findings
    → IsPut a b (finding_texts 0 (take i findings)) (Ok tt) → IsPut b c (finding_text n (get_or findings i d)) (Ok tt)
    → IsPut a c (finding_texts 0 (take (i + 1) findings)) (Ok tt)
line_put a b c findings i n d counted within one two =
    subst (λ t. IsPut a c t (Ok tt)) (sym (texts_more findings i d within))
    (put_then a b c (finding_texts 0 (take i findings)) (finding_text i (get_or findings i d)) (Ok tt) one
    (subst (λ k. IsPut b c (finding_text k (get_or findings i d)) (Ok tt)) counted two))

-- if the next line was not put whole, a prefix of all lines was put, and the fault is told
pub line_breaks : (a b c : SinkState) (findings : List Finding) (i n : ℕ) (d : Finding) (fault : PutFault) → n ≡ i → i < length findings
    → IsPut a b (finding_texts 0 (take i findings)) (Ok tt) → IsPut b c (finding_text n (get_or findings i d)) (Err fault)
    → IsPut a c (finding_texts 0 findings) (Err fault)
line_breaks a b c findings i n d fault counted within one two =
    let rest = finding_texts (i + 1) (drop (i + 1) findings) in
    subst (λ t. IsPut a c t (Err fault)) (sym (texts_parted findings i d within))
    (put_then a b c (finding_texts 0 (take i findings)) (finding_text i (get_or findings i d) ++ rest) (Err fault) one
    (put_stops b c (finding_text i (get_or findings i d)) rest fault (subst (λ k. IsPut b c (finding_text k (get_or findings i d)) (Err fault)) counted two)))

-- once no finding is left, all lines were put
pub all_put : (a b : SinkState) (findings : List Finding) (i : ℕ) → length findings ≤ i → IsPut a b (finding_texts 0 (take i findings)) (Ok tt)
    → IsPut a b (finding_texts 0 findings) (Ok tt)
all_put a b findings i le put = subst (λ zs. IsPut a b (finding_texts 0 zs) (Ok tt)) (take_all i findings le) put
