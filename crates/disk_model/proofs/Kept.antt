-- What a call keeps true of a disk in memory, and what it adds to what a crash may leave. For the
-- proofs of src/memory.rt.
use Rattle.std.proofs.Common.{◌≡◌, ◌⊎◌, inl, inr, ℕ, ◌+◌, ◌≤◌, ◌<◌, max, List, [], ◌∷◌, ◌++◌, length, false, refl, sym, ◌∙◌, ap, arith, subst, length-append}
use Rattle.disk_model.specs.declared.stretch.Stretch.{Stretch}
use Rattle.disk_model.specs.Device.{Torn, Tears, Looks, Reads, Only, written_over}
use Rattle.nc_number.specs.Faults.{next}
use Rattle.disk_model.specs.Image.{IsImage, greatest_end}
use Rattle.disk_model.specs.Memory.{Memory, IsKept, CrashLeaves, CrashLeft, memory_state, next_fails, after_look, after_settling}
use Rattle.disk_model.proofs.Plans.{IsSound, short_of, look_allows}
use Rattle.disk_model.proofs.Written.{torn_not, torn_by_write}
use Rattle.disk_model.proofs.Images.{greatest_end-push, image_only, image_torn, image_back}

-- a stretch noted keeps the facts of the disk
pub kept_marked : (m : Memory) (s : Stretch) (marked : List Stretch) → IsKept m → s.at + s.len ≤ m.room → length m.written < m.calls → marked ≡ m.written ++ s ∷ [] → IsKept (record m { written = marked })
kept_marked m s marked kept within counted is = record {
  image = subst (λ (w : List Stretch). IsImage m.synced w m.bytes) (sym is) (image_torn m.synced m.written s m.bytes m.bytes kept.image (torn_not s.at s.len m.bytes));
  earlier = kept.earlier;
  settled = kept.settled;
  bytes_fit = kept.bytes_fit;
  ends_fit = let end : greatest_end (length m.synced) marked ≡ max (s.at + s.len) (greatest_end (length m.synced) m.written) = ap (greatest_end (length m.synced)) is ∙ greatest_end-push (length m.synced) m.written s in omega (arith, end, kept.ends_fit);
  recorded = omega (arith, ap length is, length-append m.written (s ∷ []));
  small = kept.small;
  record_fits = kept.record_fits;
  calls_fit = kept.calls_fit;
  faults_fit = kept.faults_fit;
}

-- A write whose stretch `s` is noted, whatever it did of what it was asked for: `m` is the disk
-- before it, `bytes` what a read gives after it, `faults` the count of faults then.
module _ (m : Memory) (s : Stretch) (bytes : List ℕ) (faults : ℕ) (kept : IsKept m) (torn : Torn s.at s.len m.bytes bytes) (sound : IsSound m (s.at + s.len) faults) where
  -- the disk after the write: its stretch is noted, its call and its end are counted
  abbrev marked : Memory
  marked = record m { bytes = bytes; written = m.written ++ s ∷ []; calls = next m.calls; reach = max m.reach (s.at + s.len); faults = faults }

  -- what a crash may leave after the write is torn from what it might have left before
  now_inside : (c : List ℕ) → CrashLeaves marked c → (b : List ℕ) × CrashLeaves m b × Torn s.at s.len b c
  now_inside c (inl image) = let from = image_back m.synced m.written s c image in (from.0, inl from.1, from.2)
  now_inside c (inr is) = (m.bytes, inr refl, subst (Torn s.at s.len m.bytes) (sym is) torn)

  -- what a crash since the write began may leave is torn from what it might have left before
  inside : (c : List ℕ) → CrashLeaves marked c ⊎ CrashLeft marked m.calls c → (b : List ℕ) × CrashLeaves m b × Torn s.at s.len b c
  inside c (inl now) = now_inside c now
  inside c (inr past) = absurd (omega (arith, past.0, kept.settled))

  -- what a crash might have left before the write it may leave after it
  covered : (c : List ℕ) → CrashLeaves m c → CrashLeaves marked c
  covered c (inl image) = inl (image_torn m.synced m.written s c c image (torn_not s.at s.len c))
  covered c (inr is) = inl (subst (IsImage m.synced (m.written ++ s ∷ [])) (sym is) (image_torn m.synced m.written s m.bytes m.bytes kept.image (torn_not s.at s.len m.bytes)))

  -- what a crash since an earlier time may have left was left before the write, or since it began
  before : (t : ℕ) (c : List ℕ) → t ≤ m.calls → CrashLeaves marked c ⊎ CrashLeft marked t c → (CrashLeaves m c ⊎ CrashLeft m t c) ⊎ (CrashLeaves marked c ⊎ CrashLeft marked m.calls c)
  before t c le (inl now) = inr (inl now)
  before t c le (inr past) = inl (inr (past.0, omega (arith, past.0, kept.settled), past.2))

  -- a write that is noted tears its stretch and nothing else
  pub tears_marked : Tears s.at s.len (memory_state m) (memory_state marked)
  tears_marked = record {
    time = record { later = omega (arith, kept.calls_fit); moves = omega arith; covered = λ c now. inl (covered c now); inside = inside; before = before };
    told = λ old is. let same : m.bytes ≡ old = cc in (bytes, refl, subst (λ (b : List ℕ). Torn s.at s.len b bytes) same torn);
    untold = λ none. absurd (cc);
    counted = λ old is. refl;
    reach = λ old is. refl;
    allows = λ calls end allows. record {
      plan = record { recorded = allows.plan.recorded; counted = allows.plan.counted; unlisted = allows.plan.unlisted; within = allows.plan.within };
      none_yet = λ used asked. let counted = allows.plan.counted in sound calls end allows (omega arith) asked;
    };
  }

-- after a sync a crash leaves what a read gives
pub only_read : (m : Memory) → m.written ≡ [] → m.synced ≡ m.bytes → (bytes : List ℕ) → Reads (memory_state m) bytes → Only bytes (CrashLeaves m)
only_read m none same bytes reads c (inr is) = let read : m.bytes ≡ bytes = cc in is ∙ read
only_read m none same bytes reads c (inl image) =
    let read : m.bytes ≡ bytes = cc in
    let alone : IsImage m.synced [] c = subst (λ (w : List Stretch). IsImage m.synced w c) none image in
    image_only m.synced c alone ∙ same ∙ read

-- a call that writes nothing adds no image
pub looks_counted : (m : Memory) → IsKept m → Looks (memory_state m) (memory_state (after_look m))
looks_counted m kept = record {
  time = record {
    later = omega (arith, kept.calls_fit);
    moves = omega arith;
    covered = λ c now. inl now;
    inside = λ c since. elim since [ inl now ↦ (c, now, refl) | inr past ↦ absurd (omega (arith, past.0, kept.settled)) ];
    before = λ t c le since. elim since [ inl now ↦ inl (inl now) | inr past ↦ inl (inr (past.0, omega (arith, past.0, kept.settled), past.2)) ];
  };
  same = refl;
  counted = λ bytes reads. refl;
  reach = λ bytes reads. refl;
  allows = look_allows m;
}

-- a sync that succeeds adds no image
pub settled_looks : (m : Memory) → IsKept m → next_fails m ≡ false → Looks (memory_state m) (memory_state (after_settling (after_look m)))
settled_looks m kept passes =
    let short = short_of m kept passes in
    record {
      time = record {
        later = omega (arith, kept.calls_fit);
        moves = omega arith;
        covered = λ c now. elim now [ inl image ↦ inr (omega (arith, short), omega (arith, short), image) | inr same ↦ inl (inr same) ];
        inside = λ c since. elim since [
          | inl now ↦ let same : c ≡ m.bytes = elim now [ inl image ↦ image_only m.bytes c image | inr same ↦ same ] in (m.bytes, inr refl, same)
          | inr past ↦ (c, inl past.2, refl)
        ];
        before = λ t c le since. elim since [ inl now ↦ inr (inl now) | inr past ↦ inl (inl (inl past.2)) ];
      };
      same = refl;
      counted = λ bytes reads. refl;
      reach = λ bytes reads. refl;
      allows = λ calls end allows.
          let more = look_allows m calls end allows in
          record {
            plan = record { recorded = more.plan.recorded; counted = more.plan.counted; unlisted = more.plan.unlisted; within = more.plan.within };
            none_yet = more.none_yet;
          };
    }

-- the bytes of a noted write are an image
pub image_put : (m n : Memory) (at : ℕ) (bytes : List ℕ) → IsKept m → n.synced ≡ m.synced → n.bytes ≡ m.bytes → n.written ≡ m.written ++ (record { at = at; len = length bytes }) ∷ [] → IsImage n.synced n.written (written_over n.bytes at bytes)
image_put m n at bytes kept synced same marked =
    let s : Stretch = record { at = at; len = length bytes } in
    let held = image_torn m.synced m.written s m.bytes (written_over m.bytes at bytes) kept.image (torn_by_write m.bytes at bytes) in
    rw (synced, same, marked) held
