-- Texts that are put into a sink in pieces: none at all, and one piece for each element of a list.
-- Two pieces are in Put.
use Rattle.std.proofs.Common.{◌≡◌, ℕ, ◌+◌, ◌≤◌, ◌<◌, List, [], ◌∷◌, ◌++◌, length, take, drop, get_or, Result, Ok, Err, refl, sym, subst, ap, ◌∙◌, append-nil, take-append-drop, take_all, arith}
use Rattle.std.specs.List.{flat_map}
use Rattle.std.proofs.KnownBytes.{Appends-nil}
use Rattle.std.proofs.lemmas.List.{at_drop_more, take_more}
use Rattle.std.proofs.lemmas.Grind.{flat_map-append}
use Rattle.nc_outside.specs.declared.sink.PutFault.{PutFault}
use Rattle.nc_outside.specs.declared.sink.PutFault.TheVariants.{Failed, NoMemory}
use Rattle.nc_outside.specs.Written.{SinkState}
use Rattle.nc_verify.specs.Printed.{IsPut}
use Rattle.nc_verify.proofs.Put.{put_then, put_stops}

-- an empty text is put by no call
pub put_nothing : (a : SinkState) → IsPut a a [] (Ok tt)
put_nothing a = record {
  ok = Appends-nil a.written;
  err = tt;
  tells = refl;
  fault = record { later = omega arith; rose = λ failed. absurd (let e : ◌≡◌ {A = Result (Unit {0}) PutFault} (Ok tt) (Err Failed) = failed in cc); kept = λ none. refl };
}

-- if memory ran out before the first piece, a text of which nothing was put is put up to that error
pub none_put : (a : SinkState) (text : List ℕ) → IsPut a a text (Err NoMemory)
none_put a text = record {
  ok = tt;
  err = (0, Appends-nil a.written);
  tells = refl;
  fault = record { later = omega arith; rose = λ failed. absurd (let e : ◌≡◌ {A = Result (Unit {0}) PutFault} (Err NoMemory) (Err Failed) = failed in cc); kept = λ none. refl };
}

-- a text whose front and then whose last piece were put whole was put whole
pub put_on : (a b c : SinkState) (front piece text : List ℕ) → text ≡ front ++ piece → IsPut a b front (Ok tt)
    → IsPut b c piece (Ok tt) → IsPut a c text (Ok tt)
put_on a b c front piece text is one two =
    subst (λ t. IsPut a c t (Ok tt)) (sym is) (put_then a b c front piece (Ok tt) one two)

-- a text whose front was put whole, and then a piece of it not, was put up to the fault of that
-- piece
pub put_breaks : (a b c : SinkState) (front piece rest text : List ℕ) (fault : PutFault) → text ≡ front ++ (piece ++ rest)
    → IsPut a b front (Ok tt) → IsPut b c piece (Err fault) → IsPut a c text (Err fault)
put_breaks a b c front piece rest text fault is one two =
    subst (λ t. IsPut a c t (Err fault)) (sym is)
    (put_then a b c front (piece ++ rest) (Err fault) one (put_stops b c piece rest fault two))

-- a text that was put whole is put as every text that equals it
pub put_same : (a b : SinkState) (text same : List ℕ) → text ≡ same → IsPut a b text (Ok tt) → IsPut a b same (Ok tt)
put_same a b text same is put = subst (λ t. IsPut a b t (Ok tt)) is put

-- the texts of the elements up to and with the one at a place, which `d` stands for if it is
-- missing
pub each_more_at : {X : Type 0} (f : X → List ℕ) (xs : List X) (i : ℕ) (d : X) → i < length xs
    → flat_map f (take (i + 1) xs) ≡ flat_map f (take i xs) ++ f (get_or xs i d)
each_more_at f xs i d within =
    ap (flat_map f) (take_more xs i d within) ∙ flat_map-append f (take i xs) (get_or xs i d ∷ [])
    ∙ ap (λ t. flat_map f (take i xs) ++ t) (append-nil (f (get_or xs i d)))

-- the texts of all elements are those before the one at a place, its own, and those behind it
pub each_parted_at : {X : Type 0} (f : X → List ℕ) (xs : List X) (i : ℕ) (d : X) → i < length xs
    → flat_map f xs ≡ flat_map f (take i xs) ++ (f (get_or xs i d) ++ flat_map f (drop (i + 1) xs))
each_parted_at f xs i d within =
    ap (flat_map f) (sym (take-append-drop i xs)) ∙ flat_map-append f (take i xs) (drop i xs)
    ∙ ap (λ t. flat_map f (take i xs) ++ t) (at_drop_more (flat_map f) xs i d within)

-- the texts of the elements up to and with this one, which is the one at a place
pub each_more : {X : Type 0} (f : X → List ℕ) (xs : List X) (i : ℕ) (x : X) → i < length xs → x ≡ get_or xs i x
    → flat_map f (take (i + 1) xs) ≡ flat_map f (take i xs) ++ f x
each_more f xs i x within is =
    each_more_at f xs i x within ∙ ap (λ t. flat_map f (take i xs) ++ t) (ap f (sym is))

-- the texts of all elements are those before this one, which is the one at a place, its own, and
-- those behind it
pub each_parted : {X : Type 0} (f : X → List ℕ) (xs : List X) (i : ℕ) (x : X) → i < length xs → x ≡ get_or xs i x
    → flat_map f xs ≡ flat_map f (take i xs) ++ (f x ++ flat_map f (drop (i + 1) xs))
each_parted f xs i x within is =
    each_parted_at f xs i x within
    ∙ ap (λ t. flat_map f (take i xs) ++ (t ++ flat_map f (drop (i + 1) xs))) (ap f (sym is))

-- behind the last element the texts of the elements so far are those of all
pub each_whole : {X : Type 0} (f : X → List ℕ) (xs : List X) (i : ℕ) → length xs ≤ i
    → flat_map f (take i xs) ≡ flat_map f xs
each_whole f xs i le = ap (flat_map f) (take_all i xs le)
