-- What the lines of a tape that have ended decide: the contract of `feed` (src/reader.rt) says that
-- it refuses such a text at once. No other crate cites it.
use Rattle.std.specs.Prelude.{◌≡◌, ℕ, List, [], ◌∷◌, ◌++◌, Result, Ok, Err}
use Rattle.nc_number.specs.declared.fault.Failing.{Failing}
use Rattle.nc_text.specs.declared.fault.TextFault.{TextFault}
use Rattle.nc_text.specs.Reading.{IsRefused, FaultIs}

-- some first lines of the bytes have ended, and whatever follows their last line feed, the text is
-- refused so
pub record IsDecided (skips : ℕ) (bytes : List ℕ) (fault : TextFault) : Type 0 where
  -- these lines, without the last line feed, 10
  pub lines : List ℕ
  -- the bytes after the last line feed of these lines
  pub rest : List ℕ
  -- the lines, their last line feed and the rest are all bytes
  pub bytes_are : bytes ≡ (lines ++ 10 ∷ []) ++ rest
  -- a text that begins with these lines is refused so, whatever follows
  pub refused : IsRefused skips (lines ++ 10 ∷ []) fault

-- a call answers this refusal or that memory ran out, and nothing else
abbrev pub AnswersFault : {A : Type 0} → Result A (Failing TextFault) → TextFault → Type 0
AnswersFault (Ok x) fault = ⊥
AnswersFault (Err error) fault = FaultIs error (λ answered. answered ≡ fault)
