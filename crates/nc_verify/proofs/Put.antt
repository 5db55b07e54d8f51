-- Texts that are put into a sink in two pieces, one after another; texts of many pieces are in
-- InPieces.
use Rattle.std.proofs.Common.{◌≡◌, ℕ, ◌+◌, ◌≤◌, min, List, ◌++◌, length, take, Result, Ok, Err, sym, subst, ◌∙◌, arith}
use Rattle.std.proofs.KnownBytes.{Appends-trans}
use Rattle.std.proofs.Math.Seq.{take-append-add}
use Rattle.std.proofs.lemmas.List.{take-append-le, take_min}
use Rattle.nc_outside.specs.declared.sink.PutFault.{PutFault}
use Rattle.nc_outside.specs.declared.sink.PutFault.TheVariants.{Failed}
use Rattle.nc_outside.specs.Faults.{Rose, CountsFault}
use Rattle.nc_outside.specs.Written.{SinkState, Writes}
use Rattle.nc_verify.specs.Printed.{IsPut}

-- if the count of faults rose in the later part of a time, it rose in the whole time
rose_before : (a b c : ℕ) → a ≤ b → Rose b c → Rose a c
rose_before a b c le rose = omega arith

-- a call that did not fail and then another count the faults of the other
counts_on : (a b c : ℕ) {First Fails : Type 0} → (First → ⊥) → CountsFault a b First → CountsFault b c Fails → CountsFault a c Fails
counts_on a b c calm one two = record {
  later = omega (arith, one.later, two.later);
  rose = λ failed. rose_before a b c one.later (two.rose failed);
  kept = λ none. two.kept none ∙ one.kept calm;
}

-- an answer that is Ok is no failure
put_well : ◌≡◌ {A = Result (Unit {0}) PutFault} (Ok tt) (Err Failed) → ⊥
put_well clash = absurd cc

-- if a piece was put whole and then another was put, whole or up to a fault, so was the text of
-- both
pub put_then : (a b c : SinkState) (front back : List ℕ) (result : Result (Unit {0}) PutFault)
    → IsPut a b front (Ok tt) → IsPut b c back result → IsPut a c (front ++ back) result
put_then a b c front back (Ok x) one two = record {
  ok = Appends-trans a.written b.written c.written front back one.ok two.ok;
  err = tt;
  tells = two.tells ∙ one.tells;
  fault = counts_on a.faults b.faults c.faults put_well one.fault two.fault;
}
put_then a b c front back (Err fault) one two = record {
  ok = tt;
  err = (
    length front + two.err.0,
    subst (λ xs. Writes a c xs) (sym (take-append-add front back two.err.0))
        (Appends-trans a.written b.written c.written front (take two.err.0 back) one.ok two.err.1),
  );
  tells = two.tells ∙ one.tells;
  fault = counts_on a.faults b.faults c.faults put_well one.fault two.fault;
}

-- if the first piece was put up to a fault, so was a text that begins with it
pub put_stops : (a b : SinkState) (front back : List ℕ) (fault : PutFault) → IsPut a b front (Err fault)
    → IsPut a b (front ++ back) (Err fault)
put_stops a b front back fault one = record {
  ok = tt;
  err = (
    min one.err.0 (length front),
    subst (λ xs. Writes a b xs)
        (sym (take-append-le (min one.err.0 (length front)) front back (omega arith) ∙ take_min one.err.0 front)) one.err.1,
  );
  tells = one.tells;
  fault = one.fault;
}
