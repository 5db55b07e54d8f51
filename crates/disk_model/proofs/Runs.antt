-- How runs of calls of a disk (Moments) are joined, widened and gone on with, call by call.
use Rattle.std.proofs.Common.{◌≡◌, inl, inr, ⊎_elim, ℕ, ◌+◌, ◌≤◌, max, List, arith, refl, sym, subst, ◌∙◌, Option, Some, None}
use Rattle.disk_model.specs.Device.{DiskState, Elapses, Looks, IsCoherent, IsSettled, Reads, Stays}
use Rattle.nc_number.specs.Faults.{Rose}
use Rattle.disk_model.specs.Moments.{LeavesOnly, Unwritten, Uses, Peeks}

-- two runs, one after the other, leave only images with R, if what each of them leaves implies R
pub joined : (P Q R : List ℕ → Type 0) (a b c : DiskState) → LeavesOnly P a b → LeavesOnly Q b c → ((x : List ℕ) → P x → R x) → ((x : List ℕ) → Q x → R x) → LeavesOnly R a c
joined P Q R a b c first second from_p from_q = record {
  later = omega (arith, first.later, second.later);
  each = λ x since. ⊎_elim (λ earlier. from_p x (first.each x earlier)) (λ q. from_q x q) (second.before a.clock x first.later since);
  before = λ t x le since. ⊎_elim (λ earlier. ⊎_elim (λ old. inl old) (λ p. inr (from_p x p)) (first.before t x le earlier)) (λ q. inr (from_q x q)) (second.before t x (omega (arith, le, first.later)) since);
}

-- a run that leaves only images with P leaves only images with what P implies
pub widened : (P Q : List ℕ → Type 0) (a b : DiskState) → LeavesOnly P a b → ((x : List ℕ) → P x → Q x) → LeavesOnly Q a b
widened P Q a b run more = record {
  later = run.later;
  each = λ x since. more x (run.each x since);
  before = λ t x le since. ⊎_elim (λ old. inl old) (λ p. inr (more x p)) (run.before t x le since);
}

-- a run of no call leaves only images with P, if all that a crash may leave now have P
pub no_call : (P : List ℕ → Type 0) (a : DiskState) → IsCoherent a → ((x : List ℕ) → a.image x → P x) → LeavesOnly P a a
no_call P a coherent here = record {
  later = omega arith;
  each = λ x since. here x (coherent.only_now x since);
  before = λ t x le since. inl since;
}

-- an image that a crash may leave at the end of a run has P too
pub image_now : (P : List ℕ → Type 0) (old new : DiskState) → IsCoherent new → LeavesOnly P old new → (c : List ℕ) → new.image c → P c
image_now P old new coherent run c now = run.each c (coherent.counts_now old.clock c run.later now)

-- two runs, one after the other, use the calls of both, and the further of their ends
pub uses_add : (m n e f : ℕ) (a b c : DiskState) → Uses m e a b → Uses n f b c → Uses (m + n) (max e f) a c
uses_add m n e f a b c first second = record {
  calls = λ bytes reads. let told = first.told bytes reads in omega (arith, first.calls bytes reads, second.calls told.0 told.1);
  reach = λ bytes reads. let told = first.told bytes reads in omega (arith, first.reach bytes reads, second.reach told.0 told.1);
  told = λ bytes reads. let told = first.told bytes reads in second.told told.0 told.1;
  untold = λ none. second.untold (first.untold none);
  allows = λ calls end allows. second.allows calls end (first.allows calls end allows);
}

-- a run of no call uses nothing
pub uses_none : (n e : ℕ) (a : DiskState) → Uses n e a a
uses_none n e a = record {
  calls = λ bytes reads. omega arith;
  reach = λ bytes reads. omega arith;
  told = λ bytes reads. (bytes, reads);
  untold = λ none. none;
  allows = λ calls end allows. allows;
}

-- a run that uses so many calls and this end uses no more than any greater ones
pub uses_widened : (m n e f : ℕ) (a b : DiskState) → Uses m e a b → m ≤ n → e ≤ f → Uses n f a b
uses_widened m n e f a b uses more further = record {
  calls = λ bytes reads. omega (arith, uses.calls bytes reads, more);
  reach = λ bytes reads. omega (arith, uses.reach bytes reads, further);
  told = uses.told;
  untold = uses.untold;
  allows = uses.allows;
}

-- a run of one call leaves only images with P, if each step of the call from an image ends in P
pub begun : (P : List ℕ → Type 0) (step : List ℕ → List ℕ → Type 0) (old new : DiskState) → Elapses step old new → ((b c : List ℕ) → old.image b → step b c → P c) → LeavesOnly P old new
begun P step old new time here = record {
  later = time.later;
  each = λ c since. let from = time.inside c since in here from.0 c from.1 from.2;
  before = λ t c le since. ⊎_elim (λ earlier. inl earlier) (λ now. let from = time.inside c now in inr (here from.0 c from.1 from.2)) (time.before t c le since);
}

-- a run with one call more leaves only images with P, if the run does and each step of that call
-- from an image ends in P
pub goes_on : (P : List ℕ → Type 0) (step : List ℕ → List ℕ → Type 0) (old mid new : DiskState) → LeavesOnly P old mid → Elapses step mid new → ((b c : List ℕ) → mid.image b → step b c → P c) → LeavesOnly P old new
goes_on P step old mid new so_far time here = record {
  later = omega (arith, so_far.later, time.later);
  each = λ c since. ⊎_elim (λ earlier. so_far.each c earlier) (λ now. let from = time.inside c now in here from.0 c from.1 from.2) (time.before old.clock c so_far.later since);
  before = λ t c le since. ⊎_elim (λ earlier. so_far.before t c le earlier) (λ now. let from = time.inside c now in inr (here from.0 c from.1 from.2)) (time.before t c (omega (arith, le, so_far.later)) since);
}

-- a run with one call more that writes nothing leaves only images with P, if the run does
pub looks_on : (P : List ℕ → Type 0) (old mid new : DiskState) → IsCoherent mid → LeavesOnly P old mid → Looks mid new → LeavesOnly P old new
looks_on P old mid new coherent so_far looks = goes_on P Stays old mid new so_far looks.time (λ b c image same. subst P (sym same) (image_now P old mid coherent so_far b image))

-- a disk that tells its content now told it before
pub told_before : (m e : ℕ) (old new : DiskState) → Uses m e old new → (b : List ℕ) → Reads new b → (a : List ℕ) × Reads old a
told_before m e old new uses b reads = go old.reads refl
  where
    go : (r : Option (List ℕ)) → old.reads ≡ r → (a : List ℕ) × Reads old a
    go None none = let lost = uses.untold none in absurd (cc)
    go (Some a) is = (a, is)

-- a disk that allows what it was used for has no fault in a run
no_fault : (calls end : ℕ) (old new : DiskState) → IsCoherent new → (bytes : List ℕ) → Reads new bytes → new.allows calls end → new.calls ≤ calls → new.reach ≤ end → Rose old.faults new.faults → ⊥
no_fault calls end old new coherent bytes reads allows room within rose =
    let none = coherent.enough bytes calls end reads allows room within in
    omega (arith, none, rose)

-- a run of no call writes nothing
pub unwritten_none : (disk : DiskState) → IsCoherent disk → Unwritten disk disk
unwritten_none disk coherent = record {
  moments = record { later = omega arith; each = coherent.only_now; before = λ t c le since. inl since };
  now = λ c here. here;
  same = refl;
}

-- two runs that write nothing, one after the other, are one
pub unwritten_more : (a b c : DiskState) → Unwritten a b → Unwritten b c → Unwritten a c
unwritten_more a b c first second = record {
  moments = joined a.image b.image a.image a b c first.moments second.moments (λ x here. here) first.now;
  now = λ x here. first.now x (second.now x here);
  same = second.same ∙ first.same;
}

-- one call that writes nothing is a run that writes nothing
pub unwritten_look : (old new : DiskState) → IsCoherent new → Looks old new → Unwritten old new
unwritten_look old new coherent looks =
    let moments = begun old.image Stays old new looks.time (λ b c image same. subst old.image (sym same) image) in
    record { moments = moments; now = image_now old.image old new coherent moments; same = looks.same }

-- if all that was written is on the disk, it still is after a run that writes nothing
pub settled_kept : (a b : DiskState) → Unwritten a b → IsSettled a → IsSettled b
settled_kept a b unwritten settled = λ bytes reads c here. settled bytes (sym unwritten.same ∙ reads) c (unwritten.now c here)

-- two runs that write nothing, one after the other, are one, with the calls of both
pub peeks_more : (m n k : ℕ) (a b c : DiskState) → Peeks m a b → Peeks n b c → m + n ≤ k → Peeks k a c
peeks_more m n k a b c first second enough = record {
  later = omega (arith, first.later, second.later);
  unwritten = unwritten_more a b c first.unwritten second.unwritten;
  uses = uses_widened (m + n) k 0 0 a c (uses_add m n 0 0 a b c first.uses second.uses) enough (omega arith);
}
